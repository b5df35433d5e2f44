-- The lines of recorded operations are the replies of their run. Assumes nothing.
use Rattle.std.specs.Prelude.{Result}
use Prim.Native.Nat.{ℕ, suc, ◌+◌, ◌≤◌}
use mathlib.Core.Path.{◌≡◌, refl, sym, ap, ◌∙◌}
use mathlib.Core.List.{List, [], ◌∷◌, ◌++◌}
use native.Mathlib.Nat.{add-zero}
use native.Mathlib.Omega.{arith}
use lib.ListN.{length}
use lib.Seq.{take_all}
use Rattle.answers.specs.declared.Refusal.{Refusal}
use Rattle.setup.specs.declared.Setup.{Setup}
use Rattle.port.specs.declared.Operation.{Operation}
use Rattle.port.specs.declared.Operation.TheVariants.{Idle, Read, Write}
use Rattle.model.specs.Runs.{Machine, after, reply_of, replies, after_all}
use Rattle.octets.specs.Bytes.{bytes_of}
use Rattle.records.specs.Records.{operation_size, operation_of, operation_bytes}
use Rattle.records.specs.RoundTrip.{Fits}
use Rattle.records.proofs.RoundTrip.{operation_good}
use Rattle.listing.specs.Listing.{line_of}
use Rattle.replay.specs.Replay.{Listed, with_record, records_in, listed_below, listed}
use Rattle.replay.specs.Parts.{apart, behind}
use Rattle.replay.specs.Replies.{bytes_for, lines_for, running_at, AsReplies}
use Rattle.replay.proofs.Parts.{in_parts}

bytes_long : (op : Operation) → length (operation_bytes op) ≡ operation_size
unfolding operation_bytes bytes_of
bytes_long Idle = refl
bytes_long (Read a) = refl
bytes_long (Write a w) = refl

-- one good record is one line, its reply's
one-reply : (s : Setup) (op : Operation) (n : ℕ) (w : Machine) → Fits op
    → listed s (operation_bytes op) (running_at [] n w) ≡ running_at (line_of n (reply_of s op w).answer (reply_of s op w).delivery) (n + 1) (after s op w)
unfolding listed_below with_record
one-reply s op n w f =
    let x : Listed = running_at [] n w in
    let b : List ℕ = operation_bytes op in
    let long : length b ≤ operation_size = omega (arith, bytes_long op) in
    ap (λ (k : ℕ). listed_below s b (records_in k) x) (bytes_long op)
    ∙ ap (λ (r : List ℕ). with_record s (operation_of r) x) (take_all operation_size b long)
    ∙ ap (λ (r : Result Operation Refusal). with_record s r x) (operation_good op f)

pub as_replies : AsReplies
unfolding bytes_for lines_for replies after_all listed_below
as_replies s [] n w f = ap (λ (k : ℕ). running_at [] k w) (sym (add-zero n))
as_replies s (op ∷ ops) n w f =
    let line : List ℕ = line_of n (reply_of s op w).answer (reply_of s op w).delivery in
    let rest : List ℕ = bytes_for ops in
    let count : (n + 1) + length ops ≡ n + suc (length ops) = omega arith in
    in_parts s (operation_bytes op) rest 1 (running_at [] n w) (bytes_long op)
    ∙ ap (λ (y : Listed). behind y.text (listed s rest (apart y))) (one-reply s op n w f.0)
    ∙ ap (λ (y : Listed). behind line y) (as_replies s ops (n + 1) (after s op w) f.1)
    ∙ ap (λ (k : ℕ). running_at (line ++ lines_for (n + 1) (replies s ops (after s op w))) k (after_all s ops (after s op w))) count
