-- What `setup_bytes` answers: the library's bytes of the numbers of two and four bytes.
use Rattle.std.proofs.Common.{◌∙◌, refl}
use Rattle.std.specs.Int.{w16, w32}
use Rattle.octets.specs.Bytes.{bytes_of}
use Rattle.octets.proofs.Numbers.{bytes_written}
use Rattle.setuprecord.specs.SetupRecord.{setup_bytes}
use Rattle.setuprecord.proofs.setup_bytes.Goals as goal

pub returns : goal.returns
unfolding bytes_of setup_bytes
returns c =
    let k = c.to_le_bytes.ensures ∙ bytes_written w16 _ in
    let delta = c.to_le_bytes-2.ensures ∙ bytes_written w16 _ in
    let delay = c.to_le_bytes-3.ensures ∙ bytes_written w16 _ in
    let u = c.to_le_bytes-4.ensures ∙ bytes_written w32 _ in
    let v = c.to_le_bytes-5.ensures ∙ bytes_written w32 _ in
    rw (k, delta, delay, u, v) refl
