-- Laws on four numbers at a place of a lent room. Assumes nothing.
use Prim.Native.Nat.{ℕ, ◌+◌, ◌*◌, ◌≤◌, ◌<◌}
use native.Mathlib.Omega.{arith}
use mathlib.Core.Path.{◌≡◌, ◌∙◌}
use mathlib.Core.List.{List}
use lib.ListN.{length, get_or, set, length-set}
use lib.Seq.{get_or-set_same, get_or-set_other}
use Rattle.rings.specs.Places.{four_at, put_four}

pub length-put_four : (l : List ℕ) (i a b c d : ℕ) → length (put_four l i a b c d) ≡ length l
length-put_four l i a b c d = simp length-set

module _ (l : List ℕ) (i a b c d : ℕ) where
  -- the room after one, two and three of the four stores
  abbrev one : List ℕ
  one = set l (4 * i) a

  abbrev two : List ℕ
  two = set one (4 * i + 1) b

  abbrev three : List ℕ
  three = set two (4 * i + 2) c

  pub put_first : 4 * i < length l → get_or (put_four l i a b c d) (4 * i) 0 ≡ a
  put_first h =
      get_or-set_other three (4 * i + 3) (4 * i) d 0 (λ e. omega arith)
      ∙ get_or-set_other two (4 * i + 2) (4 * i) c 0 (λ e. omega arith)
      ∙ get_or-set_other one (4 * i + 1) (4 * i) b 0 (λ e. omega arith)
      ∙ get_or-set_same l (4 * i) a 0 h

  pub put_second : 4 * i + 1 < length l → get_or (put_four l i a b c d) (4 * i + 1) 0 ≡ b
  put_second h =
      get_or-set_other three (4 * i + 3) (4 * i + 1) d 0 (λ e. omega arith)
      ∙ get_or-set_other two (4 * i + 2) (4 * i + 1) c 0 (λ e. omega arith)
      ∙ get_or-set_same one (4 * i + 1) b 0 (simp length-set h)

  pub put_third : 4 * i + 2 < length l → get_or (put_four l i a b c d) (4 * i + 2) 0 ≡ c
  put_third h =
      get_or-set_other three (4 * i + 3) (4 * i + 2) d 0 (λ e. omega arith)
      ∙ get_or-set_same two (4 * i + 2) c 0 (simp length-set h)

  pub put_fourth : 4 * i + 3 < length l → get_or (put_four l i a b c d) (4 * i + 3) 0 ≡ d
  put_fourth h = get_or-set_same three (4 * i + 3) d 0 (simp length-set h)

  -- a number outside the four is as it was
  pub put_outside : (q : ℕ) → ((k : ℕ) → k < 4 → q ≡ 4 * i + k → ⊥) → get_or (put_four l i a b c d) q 0 ≡ get_or l q 0
  put_outside q h =
      get_or-set_other three (4 * i + 3) q d 0 (h 3 (omega arith))
      ∙ get_or-set_other two (4 * i + 2) q c 0 (h 2 (omega arith))
      ∙ get_or-set_other one (4 * i + 1) q b 0 (h 1 (omega arith))
      ∙ get_or-set_other l (4 * i) q a 0 (λ e. h 0 (omega arith) (omega arith))

  pub put_other : (j k : ℕ) → (j ≡ i → ⊥) → k < 4 → get_or (put_four l i a b c d) (4 * j + k) 0 ≡ get_or l (4 * j + k) 0
  put_other j k n h = put_outside (4 * j + k) (λ k' h' e. n (omega arith))

module _ {A : Type 0} (f : ℕ → ℕ → ℕ → ℕ → A) (l : List ℕ) (i : ℕ) (a b c d : ℕ) where
  pub four_put_same : 4 * i + 4 ≤ length l → four_at f (put_four l i a b c d) i ≡ f a b c d
  four_put_same h =
      rw (
        put_first l i a b c d (omega arith),
        put_second l i a b c d (omega arith),
        put_third l i a b c d (omega arith),
        put_fourth l i a b c d (omega arith),
      )

  pub four_put_other : (j : ℕ) → (j ≡ i → ⊥) → four_at f (put_four l i a b c d) j ≡ four_at f l j
  four_put_other j n =
      let z : get_or (put_four l i a b c d) (4 * j) 0 ≡ get_or l (4 * j) 0 = put_outside l i a b c d (4 * j) (λ k h e. n (omega arith)) in
      rw (
        z,
        put_other l i a b c d j 1 n (omega arith),
        put_other l i a b c d j 2 n (omega arith),
        put_other l i a b c d j 3 n (omega arith),
      )
