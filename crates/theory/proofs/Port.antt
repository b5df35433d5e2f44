-- Demand 2, over every list of operations from a fresh start: the machine by position is the machine by cycle number, which delivers what the ideal SRAM owes. Assumes nothing.
--
-- For every legal setup, in both modes, over any words and any bank rule. The machine by position is that of Concrete.antt, the one by cycle number that of Machine.antt:
--   same-reply      answer (0 taken, 5 dropped, 6 stops, 7 was stopped) and delivery of the next call are the same
--   same-state      one is on exactly where the other is; going or stopped, each buffer holds as many entries
--   owes            what it delivers is owed to the operation taken delay cycles ago
use mathlib.Core.Path.{◌≡◌, refl, ◌∙◌}
use mathlib.Core.Bool.{Bool, cond}
use mathlib.Core.List.{List, [], ◌∷◌, ◌++◌}
use Prim.Native.Nat.{ℕ, zero, suc, ◌-◌, ◌<◌}
use native.Mathlib.Numerals.{add-one}
use native.Mathlib.Omega.{arith}
use lib.ListN.{length, length-append}
use Rattle.theory.proofs.Test.{lt}
use Rattle.theory.proofs.Operations.{Op, nil, owed, ideal}
use Rattle.theory.proofs.Machine.{St, Run, shape, cycle, reply, gives, run, did}
use Rattle.theory.proofs.Machine as M
use Rattle.theory.proofs.Calls.{run-after, offered, offered_before, offered_last}
use Rattle.theory.proofs.Concrete.{Config, Legal, setup, CRun, on, off, cycle_c, reply_c, run_c, reached_c}
use Rattle.theory.proofs.Runs.{any, run_good, delivery}
use Rattle.theory.proofs.Sim.{same_length}
use Rattle.theory.proofs.Final.{SimRun, ticks, sim_run, sim_reply}

------------------------------------------------------------------------
-- What a list reaches is reached by a run over all cycles, the list perhaps going on

-- one is on where the other is, with as many entries in every buffer
abbrev pub Matches : {W : Type 0} → CRun W → Run W → Type 0
Matches (on c) (M.on s) = (b : ℕ) → length (c.buf b) ≡ length (s.buf b)
Matches (off c) (M.off s) = (b : ℕ) → length (c.buf b) ≡ length (s.buf b)
Matches (on c) (M.off s) = ⊥
Matches (off c) (M.on s) = ⊥

module _ {W : Type 0} (mode : Bool) (k : Config) (K : ℕ) (mem : ℕ → W) where
  reached-run : (ops more : List (Op W)) → run_c mode k K mem (offered (ops ++ more)) (length ops) ≡ reached_c mode k K mem ops
  unfolding run_c
  reached-run ops more = run-after (cycle_c mode k K) (run_c mode k K mem (offered (ops ++ more))) (offered (ops ++ more)) (λ t. refl) ops (offered_before ops more)

  -- the machine by cycle number after these operations
  unfoldable pub by_cycle : List (Op W) → Run W
  by_cycle ops = run mode (setup k) K mem (offered ops) (length ops)

  run-same : (ops ops' : ℕ → Op W) (t : ℕ) → ((r : ℕ) → r < t → ops r ≡ ops' r)
      → run mode (setup k) K mem ops t ≡ run mode (setup k) K mem ops' t
  unfolding run
  run-same ops ops' zero e = refl
  run-same ops ops' (suc t) e = rw (e t (omega arith), run-same ops ops' t (λ r h. e r (omega arith)))

  by_run : (ops more : List (Op W)) → run mode (setup k) K mem (offered (ops ++ more)) (length ops) ≡ by_cycle ops
  unfolding by_cycle
  by_run ops more = run-same (offered (ops ++ more)) (offered ops) (length ops) (offered_before ops more)

  pub by_fresh : by_cycle [] ≡ M.on (M.fresh mem)
  unfolding by_cycle run
  by_fresh = refl

  run-next : (ops : List (Op W)) (o : Op W) (n : ℕ) → n ≡ suc (length ops)
      → run mode (setup k) K mem (offered (ops ++ o ∷ [])) n ≡ cycle mode (setup k) K (length ops) o (by_cycle ops)
  unfolding run
  run-next ops o n e = rw (e, offered_last ops o, by_run ops (o ∷ []))

  pub by_next : (ops : List (Op W)) (o : Op W) → by_cycle (ops ++ o ∷ []) ≡ cycle mode (setup k) K (length ops) o (by_cycle ops)
  unfolding by_cycle
  by_next ops o = run-next ops o (length (ops ++ o ∷ [])) (length-append ops (o ∷ []) ∙ add-one (length ops))

  -- of a state s before cycle t: its rows record the operations did, and the ideal SRAM over these owes what s delivers
  abbrev pub Owes : ℕ → St W → Type 0
  Owes t s =
      (did : ℕ → Op W)
      × ((r : ℕ) → r < t → shape (s.row r) ≡ did r)
      × (gives mode (setup k) K t (M.on s) ≡ cond (lt t k.delay) nil (owed (did (t - k.delay)) (ideal mem did (t - k.delay))))

  ----------------------------------------------------------------------
  -- Replies and states

  module _ (l : Legal k K) where
    pub same-reply : (ops : List (Op W)) (o : Op W)
        → reply_c mode k K o (reached_c mode k K mem ops) ≡ reply mode (setup k) K (length ops) o (by_cycle ops)
    same-reply ops o =
        rw (offered_last ops o, reached-run ops (o ∷ []), by_run ops (o ∷ [])) at
        (sim_reply W mode k K l mem (offered (ops ++ o ∷ [])) (λ a. Unit {0}) (λ t. any (offered (ops ++ o ∷ []) t)) (length ops))

    reached_sim : (ops : List (Op W)) → SimRun W k (length ops) (reached_c mode k K mem ops) (by_cycle ops)
    reached_sim ops =
        rw (reached-run ops [], by_run ops []) at (sim_run W mode k K l mem (offered (ops ++ [])) (λ a. Unit {0}) (λ t. any (offered (ops ++ []) t)) (length ops))

    pub same_state : (ops : List (Op W)) → Matches (reached_c mode k K mem ops) (by_cycle ops)
    same_state ops = go (reached_c mode k K mem ops) (by_cycle ops) (reached_sim ops)
      where
        go : (c : CRun W) (r : Run W) → SimRun W k (length ops) c r → Matches c r
        go (on c) (M.on s) i = λ b. same_length W k b (length ops) c s i
        go (off c) (M.off s) i = i
        go (on c) (M.off s) i = i
        go (off c) (M.on s) i = i

    --------------------------------------------------------------------
    -- Deliveries

    pub owes : (ops : List (Op W)) (s : St W) → by_cycle ops ≡ M.on s → Owes (length ops) s
    unfolding by_cycle
    owes ops s e =
        let e' : run mode (setup k) K mem (offered ops) (length ops) ≡ M.on s = e in
        let i = run_good W mode (setup k) K mem (offered ops) (λ a. Unit {0}) (λ t. any (offered ops t)) k.m (ticks k K l) l.fits (length ops) in
        let d = delivery W mode (setup k) K mem (offered ops) (λ a. Unit {0}) (λ t. any (offered ops t)) k.m (ticks k K l) l.fits l.delays (length ops) in
        (did mode (setup k) K mem (offered ops), (rw e' at i).0.shapes, (rw e' at d) tt)
