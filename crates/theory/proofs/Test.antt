-- Tests on numbers as shut Booleans, each with a value that says what it means. Assumes nothing.
--
-- Matching that value puts true or false for the test wherever it stands, so a law is stated over any Boolean and used at the test.
use mathlib.Core.Path.{◌≡◌, refl, sym, subst}
use mathlib.Core.Logic.{◌≢◌}
use mathlib.Core.Bool.{Bool, true, false, false≢true}
use Prim.Native.Nat.{ℕ, ◌≤◌, ◌<◌}
use native.Mathlib.Omega.{arith}
use lib.Dec.{T, eqb, ltb, eqb→eq, eqb_refl, ltb→lt, lt→ltb}

pub data Says (P : Type 0) : Bool → Type 0 where
  is : P → Says P true
  isnt : ¬ P → Says P false

-- they are the tests of lib.Dec, shut
unfoldable pub same : ℕ → ℕ → Bool
same a b = eqb a b

unfoldable pub lt : ℕ → ℕ → Bool
lt a b = ltb a b

pub same-eqb : (a b : ℕ) → same a b ≡ eqb a b
unfolding same
same-eqb a b = refl

pub same? : (a b : ℕ) → Says (a ≡ b) (same a b)
unfolding same
same? a b = go (eqb a b) refl
  where
    go : (x : Bool) → eqb a b ≡ x → Says (a ≡ b) x
    go true e = is (eqb→eq a b (subst T (sym e) tt))
    go false e = isnt (λ p. subst T e (subst (λ (z : ℕ). T (eqb a z)) p (eqb_refl a)))

pub lt? : (a b : ℕ) → Says (a < b) (lt a b)
unfolding lt
lt? a b = go (ltb a b) refl
  where
    go : (x : Bool) → ltb a b ≡ x → Says (a < b) x
    go true e = is (ltb→lt a b (subst T (sym e) tt))
    go false e = isnt (λ h. subst T e (lt→ltb a b h))

pub same_refl : (a : ℕ) → same a a ≡ true
same_refl a = go (same a a) (same? a a)
  where
    go : (b : Bool) → Says (a ≡ a) b → b ≡ true
    go b (is p) = refl
    go b (isnt f) = absurd (f refl)

pub lt_true : {a b : ℕ} → a < b → lt a b ≡ true
lt_true {a} {b} h = go (lt a b) (lt? a b)
  where
    go : (x : Bool) → Says (a < b) x → x ≡ true
    go x (is p) = refl
    go x (isnt f) = absurd (f h)

pub same_true : {a b : ℕ} → same a b ≡ true → a ≡ b
same_true {a} {b} e = go (same a b) (same? a b) e
  where
    go : (x : Bool) → Says (a ≡ b) x → x ≡ true → a ≡ b
    go x (is p) e' = p
    go x (isnt f) e' = absurd (false≢true e')

pub lt_false : {a b : ℕ} → b ≤ a → lt a b ≡ false
lt_false {a} {b} h = go (lt a b) (lt? a b)
  where
    go : (x : Bool) → Says (a < b) x → x ≡ false
    go x (is p) = absurd (omega arith)
    go x (isnt f) = refl

pub same_false : {a b : ℕ} → a ≢ b → same a b ≡ false
same_false {a} {b} h = go (same a b) (same? a b)
  where
    go : (x : Bool) → Says (a ≡ b) x → x ≡ false
    go x (is p) = absurd (h p)
    go x (isnt f) = refl
