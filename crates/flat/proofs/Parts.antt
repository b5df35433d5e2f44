-- A part of a list: what a look at it tells of the numbers of the whole. Assumes nothing.
use Prim.Native.Nat.{ℕ, ◌+◌, ◌-◌, ◌≤◌, ◌<◌}
use native.Mathlib.Omega.{arith}
use mathlib.Core.Path.{◌≡◌, ◌∙◌}
use mathlib.Core.Bool.{true}
use mathlib.Core.List.{List}
use lib.ListN.{get_or, length}
use lib.Seq.{get_or-take, get_or-drop}
use borrow.Rule.Slice.PartMut.{mid_of, mid_len}
use Rattle.flat.specs.Flat.{times, all_below}
use Rattle.flat.proofs.Flat.{times-some, times-two, below_at}

-- the part has the numbers from place a up to place e
module _ (a e : ℕ) (l : List ℕ) (h : e ≤ length l) where
  -- the number at a place is the part's
  part_at : (i : ℕ) → a ≤ i → i < e → get_or (mid_of a (e - a) l) (i - a) 0 ≡ get_or l i 0
  part_at i b g =
      let k : i - a < e - a = omega arith in
      let z : a + (i - a) ≡ i = omega arith in
      simp (get_or-take, get_or-drop, z)

  -- x stands in the part at one place, or at two, so so often at least
  module _ (x i : ℕ) (b : a ≤ i) (g : i < e) (q : get_or l i 0 ≡ x) where
    part_some : 1 ≤ times x (mid_of a (e - a) l)
    part_some =
        let n : length (mid_of a (e - a) l) ≡ e - a = mid_len a e l h in
        times-some x (mid_of a (e - a) l) (i - a) (omega arith) (part_at i b g ∙ q)

    part_two : (j : ℕ) → a ≤ j → j < e → (i ≡ j → ⊥) → get_or l j 0 ≡ x → 2 ≤ times x (mid_of a (e - a) l)
    part_two j c f d p =
        let n : length (mid_of a (e - a) l) ≡ e - a = mid_len a e l h in
        times-two x (mid_of a (e - a) l) (i - a) (j - a) (omega arith) (omega arith) (λ z. d (omega arith)) (part_at i b g ∙ q) (part_at j c f ∙ p)

  -- x is none of the part's numbers
  pub part_free : (x i m : ℕ) → m ≡ times x (mid_of a (e - a) l) → m ≡ 0 → a ≤ i → i < e → get_or l i 0 ≡ x → ⊥
  part_free x i m f z b g q = let s = part_some x i b g q in absurd (omega arith)

  -- or none but the one at j
  pub part_alone : (x i j m : ℕ) → m ≡ times x (mid_of a (e - a) l) → m ≤ 1 → a ≤ i → i < e → a ≤ j → j < e → (i ≡ j → ⊥) → get_or l j 0 ≡ x → get_or l i 0 ≡ x → ⊥
  part_alone x i j m f z b g c d n p q = let s = part_two x i b g q j c d n p in absurd (omega arith)

  -- all of them are below a bound
  pub part_below : (bound i : ℕ) → all_below bound (mid_of a (e - a) l) ≡ true → a ≤ i → i < e → get_or l i 0 < bound
  part_below bound i f b g =
      let n : length (mid_of a (e - a) l) ≡ e - a = mid_len a e l h in
      let y = below_at bound (mid_of a (e - a) l) f (i - a) (omega arith) in
      let z = part_at i b g in
      omega arith
