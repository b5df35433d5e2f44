-- What `operation_layout` answers: the library's bytes of the address and of the word.
use Rattle.std.proofs.Common.{◌∙◌, refl}
use Rattle.std.specs.Int.{w32}
use Rattle.octets.specs.Bytes.{bytes_of}
use Rattle.octets.proofs.Numbers.{bytes_written}
use Rattle.records.proofs.operation_layout.Goals as goal

pub returns : goal.returns
unfolding bytes_of
returns c =
    let address = c.to_le_bytes.ensures ∙ bytes_written w32 _ in
    let word = c.to_le_bytes-2.ensures ∙ bytes_written w32 _ in
    rw (address, word) refl
