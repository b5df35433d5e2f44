-- A test of every index below a number: how it goes on, what it says of each index, and what one index out decides. Assumes nothing.
use Prim.Native.Nat.{ℕ, zero, suc, ◌+◌, ◌≤◌, ◌<◌}
use native.Mathlib.Nat.{not-suc-le-zero, le_of_suc-le-suc, eq-or-lt_of_le}
use native.Mathlib.Numerals.{add-one}
use native.Mathlib.Omega.{arith}
use mathlib.Core.Path.{◌≡◌, refl, sym, subst, ◌∙◌}
use mathlib.Core.Bool.{Bool, true, false, ◌&&◌}
use mathlib.Core.Logic.{⊎_elim}
use borrow.Author.Count as count

-- a test that said no
pub said_no : {A : Type 0} → false ≡ true → A
said_no e = let z : ◌≡◌ {A = ℕ} 0 1 = cc in absurd (omega arith)

and_false : (x : Bool) → false ≡ x && false
and_false true = refl
and_false false = refl

pub and_end : (b x : Bool) → x && b ≡ b && x
and_end true true = refl
and_end true false = refl
and_end false true = refl
and_end false false = refl

pub and_yes : (x y : Bool) → x && y ≡ true → (x ≡ true) × (y ≡ true)
and_yes true y h = (refl, h)
and_yes false y h = said_no h

-- g tests each index below a number by f
module _ (f g : ℕ → Bool) (more : (i : ℕ) → g (suc i) ≡ g i && f i) where
  pub below_more : (i : ℕ) → g i ≡ true → f i ≡ true → g (i + 1) ≡ true
  below_more i h x = rw (add-one, more i, h, x)

  pub below_out : (i k : ℕ) → i < k → f i ≡ false → false ≡ g k
  below_out i zero h x = absurd (not-suc-le-zero h)
  below_out i (suc k) h x =
      ⊎_elim
      (λ (q : i ≡ k). let y : f k ≡ false = subst (λ (z : ℕ). f z ≡ false) q x in rw (more k, y) (and_false (g k)))
      (λ (q : i < k). let y : g k ≡ false = sym (below_out i k q x) in rw (more k, y))
      (eq-or-lt_of_le (le_of_suc-le-suc h))

  pub below_all : (i k : ℕ) → k ≤ i → i ≤ k → g i ≡ true → true ≡ g k
  below_all i k l h e = let z : i ≡ k = omega arith in sym (subst (λ (n : ℕ). g n ≡ true) z e)

  pub each_below : (n : ℕ) → g n ≡ true → (i : ℕ) → i < n → f i ≡ true
  each_below zero h i l = absurd (not-suc-le-zero l)
  each_below (suc n) h i l =
      let p = and_yes (g n) (f n) (sym (more n) ∙ h) in
      count.below_more (λ (j : ℕ). f j ≡ true) n (each_below n p.0) p.1 i (omega arith)

  pub all_below_lem : g 0 ≡ true → (n : ℕ) → ((i : ℕ) → i < n → f i ≡ true) → g n ≡ true
  all_below_lem none zero h = none
  all_below_lem none (suc n) h =
      let x : g n ≡ true = all_below_lem none n (λ i l. h i (omega arith)) in
      let y : f n ≡ true = h n (omega arith) in
      rw (more n, x, y)
