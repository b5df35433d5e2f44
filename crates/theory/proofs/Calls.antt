-- Operations offered one by one: what a list of them leaves, and how it is reached. Assumes nothing.
use mathlib.Core.Path.{◌≡◌, refl}
use mathlib.Core.List.{List, [], ◌∷◌, ◌++◌}
use Prim.Native.Nat.{ℕ, suc, ◌+◌, ◌<◌}
use native.Mathlib.Nat.{add-zero, zero-add}
use native.Mathlib.Omega.{arith}
use lib.ListN.{length, get_or, get_or-append}
use lib.Seq.{get_or-append_seam}
use Rattle.theory.proofs.Operations.{Op, idle}

-- the operation of cycle r, idle past the last
abbrev pub offered : {W : Type 0} → List (Op W) → ℕ → Op W
offered ops r = get_or ops r idle

module _ {W : Type 0} where
  pub offered_before : (ops more : List (Op W)) (r : ℕ) → r < length ops → offered (ops ++ more) r ≡ offered ops r
  offered_before ops more r h = get_or-append ops more idle r h

  pub offered_last : (ops : List (Op W)) (o : Op W) → offered (ops ++ o ∷ []) (length ops) ≡ o
  offered_last ops o = get_or-append_seam ops o [] idle

module _ {W A : Type 0} (step : Op W → A → A) where
  -- the operations in the order offered
  abbrev pub after : List (Op W) → A → A
  after [] x = x
  after (o ∷ ops) x = after ops (step o x)

  pub after-append : (ops more : List (Op W)) (x : A) → after (ops ++ more) x ≡ after more (after ops x)
  after-append [] more x = refl
  after-append (o ∷ ops) more x = after-append ops more (step o x)

  pub after_last : (ops : List (Op W)) (o : Op W) (x : A) → after (ops ++ o ∷ []) x ≡ step o (after ops x)
  after_last ops o x = after-append ops (o ∷ []) x

  -- a run over all cycles, the operation of cycle r being ops r, comes to what the list leaves
  module _ (run : ℕ → A) (ops : ℕ → Op W) (goes_on : (t : ℕ) → run (suc t) ≡ step (ops t) (run t)) where
    after_run : (list : List (Op W)) (s : ℕ) → ((r : ℕ) → r < length list → ops (s + r) ≡ offered list r) → run (s + length list) ≡ after list (run s)
    after_run [] s e = rw add-zero
    after_run (o ∷ list) s e =
        let n : s + suc (length list) ≡ suc s + length list = omega arith in
        rw (n, after_run list (suc s) (λ r h. let n' : suc s + r ≡ s + suc r = omega arith in rw n' (e (suc r) (omega arith))), goes_on s)
        (let o' : ops s ≡ o = rw add-zero at (e 0 (omega arith)) in rw o')

    pub run-after : (list : List (Op W)) → ((r : ℕ) → r < length list → ops r ≡ offered list r) → run (length list) ≡ after list (run 0)
    run-after list e = rw zero-add at (after_run list 0 (λ r h. rw zero-add (e r h)))
