-- Lists of what a function gives at each number below a bound. Assumes nothing.
use Prim.Native.Nat.{ℕ, zero, suc, ◌<◌}
use native.Mathlib.Nat.{not-suc-le-zero}
use native.Mathlib.Omega.{arith}
use mathlib.Core.Path.{◌≡◌, refl, sym, ap, ap₂}
use mathlib.Core.List.{List, [], ◌∷◌, ◌++◌}
use lib.ListN.{length, get_or, set, replicate}

module _ {A : Type 0} where
  abbrev pub below : ℕ → (ℕ → A) → List A
  below zero f = []
  below (suc n) f = f zero ∷ below n (λ i. f (suc i))

  pub length-below : (n : ℕ) (f : ℕ → A) → length (below n f) ≡ n
  length-below zero f = refl
  length-below (suc n) f = ap suc (length-below n (λ i. f (suc i)))

  pub get_or-below : (n : ℕ) (f : ℕ → A) (d : A) (i : ℕ) → i < n → get_or (below n f) i d ≡ f i
  get_or-below zero f d i h = absurd (not-suc-le-zero h)
  get_or-below (suc n) f d zero h = refl
  get_or-below (suc n) f d (suc i) h = get_or-below n (λ j. f (suc j)) d i (omega arith)

  pub below-same : (n : ℕ) (f g : ℕ → A) → ((i : ℕ) → i < n → f i ≡ g i) → below n f ≡ below n g
  below-same zero f g h = refl
  below-same (suc n) f g h =
      ap₂ {A = A} {B = List A} (λ x l. x ∷ l) (h zero (omega arith))
      (below-same n (λ i. f (suc i)) (λ i. g (suc i)) (λ i l. h (suc i) (omega arith)))

  pub below_constant : (n : ℕ) (f : ℕ → A) (x : A) → ((i : ℕ) → i < n → f i ≡ x) → below n f ≡ replicate n x
  below_constant zero f x h = refl
  below_constant (suc n) f x h =
      ap₂ {A = A} {B = List A} (λ y l. y ∷ l) (h zero (omega arith))
      (below_constant n (λ i. f (suc i)) x (λ i l. h (suc i) (omega arith)))

  -- the element at i alone changed
  pub set_below : (n : ℕ) (f g : ℕ → A) (i : ℕ) (x : A) → i < n → g i ≡ x → ((j : ℕ) → j < n → (j ≡ i → ⊥) → g j ≡ f j)
      → set (below n f) i x ≡ below n g
  set_below zero f g i x h e o = refl
  set_below (suc n) f g zero x h e o =
      ap₂ {A = A} {B = List A} (λ y l. y ∷ l) (sym e)
      (below-same n (λ j. f (suc j)) (λ j. g (suc j)) (λ j l. sym (o (suc j) (omega arith) (λ z. omega arith))))
  set_below (suc n) f g (suc i) x h e o =
      ap₂ {A = A} {B = List A} (λ y l. y ∷ l) (sym (o zero (omega arith) (λ z. omega arith)))
      (set_below n (λ j. f (suc j)) (λ j. g (suc j)) i x (omega arith) e (λ j l m. o (suc j) (omega arith) (λ z. m (omega arith))))

  -- one element more, at the end
  pub below_last : (n : ℕ) (f : ℕ → A) → below (suc n) f ≡ below n f ++ f n ∷ []
  below_last zero f = refl
  below_last (suc n) f = ap (λ (l : List A). f zero ∷ l) (below_last n (λ i. f (suc i)))
