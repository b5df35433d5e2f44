-- A machine and its ledger between two calls, for products that choose their operations as they go.
use Rattle.std.specs.Prelude.{◌≡◌, List}
use Rattle.setup.specs.declared.Setup.{Setup}
use Rattle.setup.specs.Setup.{with_defaults}
use Rattle.port.specs.declared.Operation.{Operation}
use Rattle.model.specs.Runs.{Machine, reply_of, after, fresh}
use Rattle.model.specs.Ledger.{Ledger, fresh_ledger, entered}
use Rattle.model.specs.Promises.{Starts, reached, start_word, ledger_at}

-- the fresh start answered 0, and the same offered operations led to both
pub record Tracks (g : Setup) (w₀ w : Machine) (l : Ledger) : Type 0 where
  pub starts : Starts g w₀
  pub ops : List Operation
  pub machine : w ≡ reached g w₀ ops
  pub ledger : l ≡ ledger_at g w₀ ops

-- so it is after every fresh start
abbrev pub TracksFresh : Type 0
TracksFresh = (g : Setup) (w₀ : Machine) → Starts g w₀ → Tracks g w₀ (fresh g w₀) fresh_ledger

-- each call replies as the ledger does
abbrev pub TracksReply : Type 0
TracksReply =
    (g : Setup) (w₀ w : Machine) (l : Ledger) (op : Operation) → Tracks g w₀ w l
    → reply_of g op w ≡ (entered (with_defaults g) (start_word g w₀) op l).0

-- and what it leaves is so again
abbrev pub TracksAfter : Type 0
TracksAfter =
    (g : Setup) (w₀ w : Machine) (l : Ledger) (op : Operation) → Tracks g w₀ w l
    → Tracks g w₀ (after g op w) (entered (with_defaults g) (start_word g w₀) op l).1
