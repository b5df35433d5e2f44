-- What `put_line` leaves: its parts one behind the other are the line.
use Rattle.std.proofs.Common.{rules, arith}
use Rattle.decimal.proofs.Texts.{appends_both}
use Rattle.listing.specs.Listing.{line_of}
use Rattle.listing.proofs.Lines.{number_field, word_field}
use Rattle.listing.proofs.put_line.Goals as goal

pub returns : goal.returns
unfolding line_of
returns c =
    let first = number_field c.args.number (omega arith) in
    let second = word_field c.from-answer_number.result (omega arith) in
    let fields = appends_both _ _ _ _ _ (omega arith) c.put_field.ensures c.put_field-2.ensures in
    let texts = appends_both _ _ _ _ _ (omega arith) fields c.put_delivery.ensures.appended in
    let line = appends_both _ _ _ _ _ (omega arith) texts c.put_byte.ensures in
    (search (rules, line.bytes_stored), search (rules, line.end_moved), omega arith)
