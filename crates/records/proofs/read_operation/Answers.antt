-- What `read_operation` answers: the bytes of the address and of the word are their numbers.
use Rattle.std.proofs.Common.{rules, ◌∙◌}
use Rattle.octets.proofs.Numbers.{four_read}
use Rattle.records.specs.Records.{operation_of}
use Rattle.records.proofs.read_operation.Goals as goal

pub returns : goal.returns
unfolding operation_of
returns c =
    let address = c.from_le_bytes.ensures ∙ four_read c.args.bytes.now 4 in
    let word = c.from_le_bytes-2.ensures ∙ four_read c.args.bytes.now 8 in
    search rules
