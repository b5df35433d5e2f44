-- The lines of recorded operations are the replies of their run: the statement. proofs/Replies.antt proves it.
use Rattle.std.specs.Prelude.{ℕ, ◌+◌, ◌≡◌, true, List, [], ◌∷◌, ◌++◌, length}
use Rattle.setup.specs.declared.Setup.{Setup}
use Rattle.port.specs.declared.Operation.{Operation}
use Rattle.port.specs.declared.Reply.{Reply}
use Rattle.model.specs.Runs.{Machine, replies, after_all}
use Rattle.records.specs.Records.{operation_bytes}
use Rattle.records.specs.RoundTrip.{Fits}
use Rattle.listing.specs.Listing.{line_of}
use Rattle.replay.specs.Replay.{Listed, listed}

-- the bytes of recorded operations
unfoldable pub bytes_for : List Operation → List ℕ
bytes_for [] = []
bytes_for (op ∷ ops) = operation_bytes op ++ bytes_for ops

-- a line per reply, from a record number on
unfoldable pub lines_for : ℕ → List Reply → List ℕ
lines_for n [] = []
lines_for n (r ∷ rs) = line_of n r.answer r.delivery ++ lines_for (n + 1) rs

-- words and addresses are 32 bits
abbrev pub AllFit : List Operation → Type 0
AllFit [] = Unit
AllFit (op ∷ ops) = Fits op × AllFit ops

abbrev pub running_at : List ℕ → ℕ → Machine → Listed
running_at text n w = record { text = text; number = n; on = true; machine = w }

abbrev pub AsReplies : Type 0
AsReplies = (s : Setup) (ops : List Operation) (n : ℕ) (w : Machine) → AllFit ops
    → listed s (bytes_for ops) (running_at [] n w) ≡ running_at (lines_for n (replies s ops w)) (n + length ops) (after_all s ops w)
