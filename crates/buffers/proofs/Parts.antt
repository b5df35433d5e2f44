-- Four numbers at a place of a part of a room: read and put there as in the whole room. Assumes nothing.
use Prim.Native.Nat.{ℕ, ◌+◌, ◌-◌, ◌*◌, ◌≤◌, ◌<◌}
use mathlib.Core.List.{List, ◌++◌}
use mathlib.Core.Path.{◌≡◌}
use native.Mathlib.Omega.{arith}
use lib.ListN.{length, take, set, length-take, length-drop, length-set}
use lib.Seq.{get_or-take, get_or-drop, length-take-le, set-append_left}
use borrow.Rule.Slice.PartMut.{mid_of, post_of, put_mid, put_same}
use Rattle.std.proofs.lemmas.List.{set-append_right}
use Rattle.rings.specs.Places.{four_at, put_four}

-- a store in the part is a store in the whole, further on
pub set_part : (a n : ℕ) (xs ys : List ℕ) (i v : ℕ) → a ≤ length xs → i < length ys → put_mid a n xs (set ys i v) ≡ set (put_mid a n xs ys) (a + i) v
set_part a n xs ys i v ha hi =
    let e : a + i - a ≡ i = omega arith in
    rw (
      set-append_right (take a xs) (ys ++ post_of a n xs) a (a + i) v (length-take-le a xs ha) (omega arith),
      e,
      set-append_left ys (post_of a n xs) i v hi,
    )

-- the part is the n numbers from place p on, and j a place of it
module _ (p n : ℕ) (xs : List ℕ) (j : ℕ) (within : 4 * j + 4 ≤ n) where
  i₀ : 4 * p + 4 * j ≡ 4 * (p + j)
  i₀ = omega arith

  i₁ : 4 * p + (4 * j + 1) ≡ 4 * (p + j) + 1
  i₁ = omega arith

  i₂ : 4 * p + (4 * j + 2) ≡ 4 * (p + j) + 2
  i₂ = omega arith

  i₃ : 4 * p + (4 * j + 3) ≡ 4 * (p + j) + 3
  i₃ = omega arith

  -- what is read in the part is that of the whole room
  pub four_part : {A : Type 0} (f : ℕ → ℕ → ℕ → ℕ → A) → four_at f (mid_of (4 * p) n xs) j ≡ four_at f xs (p + j)
  four_part f =
      let h₀ : 4 * j < n = omega arith in
      let h₁ : 4 * j + 1 < n = omega arith in
      let h₂ : 4 * j + 2 < n = omega arith in
      let h₃ : 4 * j + 3 < n = omega arith in
      simp (get_or-take, get_or-drop, i₀, i₁, i₂, i₃)

  -- what is put in the part is put in the whole room
  pub put_part : (a b c d : ℕ) → 4 * p + n ≤ length xs → put_mid (4 * p) n xs (put_four (mid_of (4 * p) n xs) j a b c d) ≡ put_four xs (p + j) a b c d
  put_part a b c d fits =
      let m : List ℕ = mid_of (4 * p) n xs in
      let long : length m ≡ n = simp (length-take, length-drop) (omega arith) in
      let hp : 4 * p ≤ length xs = omega arith in
      let m₁ : List ℕ = set m (4 * j) a in
      let m₂ : List ℕ = set m₁ (4 * j + 1) b in
      let m₃ : List ℕ = set m₂ (4 * j + 2) c in
      let h₀ : 4 * j < length m = omega arith in
      let h₁ : 4 * j + 1 < length m₁ = simp length-set (omega arith) in
      let h₂ : 4 * j + 2 < length m₂ = simp length-set (omega arith) in
      let h₃ : 4 * j + 3 < length m₃ = simp length-set (omega arith) in
      rw (
        set_part (4 * p) n xs m₃ (4 * j + 3) d hp h₃,
        set_part (4 * p) n xs m₂ (4 * j + 2) c hp h₂,
        set_part (4 * p) n xs m₁ (4 * j + 1) b hp h₁,
        set_part (4 * p) n xs m (4 * j) a hp h₀,
        put_same (4 * p) n xs,
        i₀,
        i₁,
        i₂,
        i₃,
      )
