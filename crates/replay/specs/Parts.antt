-- The input may be cut into parts behind any record: the statement. proofs/Parts.antt proves it.
use Rattle.std.specs.Prelude.{ℕ, ◌*◌, ◌≡◌, List, [], ◌++◌, length}
use Rattle.setup.specs.declared.Setup.{Setup}
use Rattle.records.specs.Records.{operation_size}
use Rattle.replay.specs.Replay.{Listed, listed}

-- a run with nothing printed yet
abbrev pub apart : Listed → Listed
apart x = record { text = []; number = x.number; on = x.on; machine = x.machine }

-- what is printed before, in front
abbrev pub behind : List ℕ → Listed → Listed
behind text x = record { text = text ++ x.text; number = x.number; on = x.on; machine = x.machine }

-- the first part's text, and behind it what the rest prints from where the first part leaves the run
abbrev pub InParts : Type 0
InParts = (s : Setup) (first rest : List ℕ) (n : ℕ) (x : Listed) → length first ≡ operation_size * n
    → listed s (first ++ rest) x ≡ behind (listed s first x).text (listed s rest (apart (listed s first x)))
