-- Numbers looked at together: how a look goes on, and what it tells of each number. Assumes nothing.
use Prim.Native.Nat.{ℕ, zero, suc, ◌+◌, ◌-◌, ◌≤◌, ◌<◌}
use native.Mathlib.Nat.{le_trans, not-suc-le-zero, le_of_suc-le-suc, eq-zero-or-pos}
use native.Mathlib.Numerals.{add-one}
use native.Mathlib.Omega.{arith}
use mathlib.Core.Path.{◌≡◌, refl, sym, ap, subst, ◌∙◌}
use mathlib.Core.Bool.{Bool, true, false, ◌&&◌}
use mathlib.Core.Logic.{⊎_elim}
use mathlib.Core.List.{List, [], ◌∷◌, ◌++◌}
use lib.Bits.{bit_or}
use lib.Dec.{ltb, eqb}
use lib.ListN.{get_or, length, take}
use lib.Seq.{take-suc, take_all}
use mir.Val.{bool_byte}
use borrow.Author.Count.{below_more}
use Rattle.std.specs.List.{fold}
use Rattle.std.proofs.lemmas.Nat.{le_or_l, le_or_r}
use borrow.Author.Tests.{lt-ltb, ltb-true, eq-eqb}
use Rattle.flat.specs.Flat.{one_if, times, all_below, UpTo}
use Rattle.flat.proofs.Below.{and_yes, and_end}

------------------------------------------------------------------------
-- Numbers put together by or

-- n numbers of f, with one more and with m more
module _ (f : ℕ → ℕ) (r n : ℕ) (u : (k : ℕ) → k < n → f k ≤ r) where
  pub or-one : (k : ℕ) → k < n + 1 → f k ≤ bit_or r (f n)
  or-one = below_more (λ (k : ℕ). f k ≤ bit_or r (f n)) n (λ k q. le_trans (u k q) (le_or_l r (f n))) (le_or_r r (f n))

  pub or_more : (s m : ℕ) → ((k : ℕ) → k < m → f (n + k) ≤ s) → (k : ℕ) → k < n + m → f k ≤ bit_or r s
  or_more s m v k h =
      ⊎_elim
      (λ (q : suc k - n ≡ 0). le_trans (u k (omega arith)) (le_or_l r s))
      (λ (q : 0 < suc k - n).
      let e : n + (k - n) ≡ k = omega arith in
      le_trans (subst (λ (z : ℕ). f z ≤ s) e (v (k - n) (omega arith))) (le_or_r r s))
      (eq-zero-or-pos (suc k - n))

-- one after the other
module _ (r : ℕ) (l : List ℕ) where
  pub upto_one : (at n : ℕ) → UpTo r l at n → UpTo (bit_or r (get_or l (at + n) 0)) l at (n + 1)
  upto_one at n u = or-one (λ (k : ℕ). get_or l (at + k) 0) r n u

  pub upto_next : (n : ℕ) → UpTo r l 0 n → UpTo (bit_or r (get_or l n 0)) l 0 (n + 1)
  upto_next n u =
      let e : 0 + n ≡ n = omega arith in
      subst (λ (z : ℕ). UpTo (bit_or r (get_or l z 0)) l 0 (n + 1)) e (upto_one 0 n u)

  pub upto_more : (n s m : ℕ) → UpTo r l 0 n → UpTo s l n m → UpTo (bit_or r s) l 0 (n + m)
  upto_more n s m u v =
      or_more (λ (k : ℕ). get_or l (0 + k) 0) r n u s m
      (λ k h. let e : n + k ≡ 0 + (n + k) = omega arith in subst (λ (z : ℕ). get_or l z 0 ≤ s) e (v k h))

------------------------------------------------------------------------
-- How many numbers are x: the first i of n are looked at, and m is what they gave

times_end : (x y : ℕ) (l : List ℕ) → times x (l ++ (y ∷ [])) ≡ times x l + one_if (eqb y x)
unfolding times
times_end x y [] = omega arith
times_end x y (z ∷ l) = rw (times_end x y l) (omega arith)

pub byte_most : (b : Bool) → bool_byte b ≤ 1
byte_most true = omega arith
byte_most false = omega arith

module _ (x : ℕ) (l : List ℕ) where
  pub times_none : 0 ≡ times x (take 0 l)
  unfolding times
  times_none = refl

  pub times-next : (i n m r : ℕ) → length l ≡ n → i < n → m ≡ times x (take i l) → r ≡ one_if (eqb (get_or l i 0) x) → m + r ≡ times x (take (i + 1) l)
  times-next i n m r f h e g = rw (add-one, take-suc l i 0 (omega arith), times_end x (get_or l i 0) (take i l), e, g)

  pub times_all : (i n m : ℕ) → length l ≡ n → n ≤ i → m ≡ times x (take i l) → m ≡ times x l
  times_all i n m f h e = rw (take_all i l (omega arith)) at e

-- one for the number at k, and one more for that at j
pub times-some : (x : ℕ) (l : List ℕ) (k : ℕ) → k < length l → get_or l k 0 ≡ x → 1 ≤ times x l
unfolding times
times-some x [] k b e = absurd (not-suc-le-zero b)
times-some x (y ∷ l) zero b e = let h : eqb y x ≡ true = eq-eqb y x e in rw h (omega arith)
times-some x (y ∷ l) (suc k) b e = let h = times-some x l k (le_of_suc-le-suc b) e in omega arith

pub times-two : (x : ℕ) (l : List ℕ) (k j : ℕ) → k < length l → j < length l → (k ≡ j → ⊥) → get_or l k 0 ≡ x → get_or l j 0 ≡ x → 2 ≤ times x l
unfolding times
times-two x [] k j b d n e f = absurd (not-suc-le-zero b)
times-two x (y ∷ l) zero zero b d n e f = absurd (n refl)
times-two x (y ∷ l) zero (suc j) b d n e f =
    let h : eqb y x ≡ true = eq-eqb y x e in
    let g = times-some x l j (le_of_suc-le-suc d) f in
    rw h (omega arith)
times-two x (y ∷ l) (suc k) zero b d n e f =
    let h : eqb y x ≡ true = eq-eqb y x f in
    let g = times-some x l k (le_of_suc-le-suc b) e in
    rw h (omega arith)
times-two x (y ∷ l) (suc k) (suc j) b d n e f =
    let h = times-two x l k j (le_of_suc-le-suc b) (le_of_suc-le-suc d) (λ q. n (ap suc q)) e f in
    omega arith

------------------------------------------------------------------------
-- Every number below a bound

-- below the bound all together, so each
pub upto_below : (r bound : ℕ) (l : List ℕ) → UpTo r l 0 (length l) → r < bound → true ≡ all_below bound l
unfolding all_below
upto_below r bound [] u h = refl
upto_below r bound (x ∷ l) u h =
    let x-in : x ≤ r = u 0 (omega arith) in
    let b : ltb x bound ≡ true = lt-ltb x bound (omega arith) in
    rw b (upto_below r bound l (λ (k : ℕ) (q : k < length l).
    let e : 0 + suc k ≡ suc k = omega arith in
    let f : 0 + k ≡ k = omega arith in
    subst (λ (z : ℕ). get_or l z 0 ≤ r) (sym f) (subst (λ (z : ℕ). get_or (x ∷ l) z 0 ≤ r) e (u (suc k) (omega arith)))) h)

pub and_in : (a b c : Bool) → a && (b && c) ≡ (a && b) && c
and_in true b c = refl
and_in false b c = refl

-- one after the other
pub below_fold : (bound : ℕ) (ok : Bool) (l : List ℕ) → fold (λ b x. b && ltb x bound) ok l ≡ ok && all_below bound l
unfolding all_below
below_fold bound ok [] = sym (and_end true ok)
below_fold bound ok (x ∷ l) = below_fold bound (ok && ltb x bound) l ∙ sym (and_in ok (ltb x bound) (all_below bound l))

-- where all are below, the number at k is
pub below_at : (bound : ℕ) (l : List ℕ) → all_below bound l ≡ true → (k : ℕ) → k < length l → get_or l k 0 < bound
unfolding all_below
below_at bound [] h k b = absurd (not-suc-le-zero b)
below_at bound (y ∷ l) h zero b = ltb-true y bound (and_yes (ltb y bound) (all_below bound l) h).0
below_at bound (y ∷ l) h (suc k) b = below_at bound l (and_yes (ltb y bound) (all_below bound l) h).1 k (le_of_suc-le-suc b)
