-- The address map is one to one on the addresses below N, since u is odd. Assumes nothing.
use Prim.Native.Nat.{ℕ, zero, suc, ◌+◌, ◌-◌, ◌*◌, ◌^◌, ◌%◌, ◌/◌, ◌≤◌, ◌<◌, ◌∣◌}
use mathlib.Core.Path.{◌≡◌, sym, ap, ◌∙◌}
use mathlib.Core.Logic.{⊎_elim}
use native.Mathlib.Nat.{one-dvd, dvd_trans, dvd-mul_left, dvd-mul_right_of_dvd, dvd-add_iff_right, div-mul_cancel, dvd_of_mul-dvd-mul_right, mul-dvd-mul_right, div-add-mod', add-mul, mul_assoc, mul-sub, mul_comm, one-mul, pow-suc, mod-eq-zero_of_dvd, mod-eq_of_lt, eq-zero-or-pos}
use native.Mathlib.Omega.{arith}
use lib.Dec.{lit<}
use Rattle.map.specs.declared.Cell.{Cell}
use Rattle.map.specs.Map.{cell_of, OneToOne}

-- an odd number times d is even only where d is
half : (u d : ℕ) → u % 2 ≡ 1 → 2 ∣ u * d → d / 2 * 2 ≡ d
half u d odd h =
    let e : u ≡ u / 2 * 2 + 1 = omega arith in
    let m : u * d ≡ u / 2 * 2 * d + d = ap (λ (x : ℕ). x * d) e ∙ add-mul _ _ _ ∙ rw one-mul in
    div-mul_cancel 2 ((dvd-add_iff_right 2 (dvd-mul_right_of_dvd 2 (dvd-mul_left 2 (u / 2)) d)).1 (rw m at h))

-- a power of two that divides u·d divides d, where u is odd
pub odd_cancel : (a u d : ℕ) → u % 2 ≡ 1 → 2 ^ a ∣ u * d → 2 ^ a ∣ d
odd_cancel zero u d odd h = one-dvd d
odd_cancel (suc a) u d odd h =
    let h' : 2 ^ a * 2 ∣ u * d = rw (pow-suc 2 a) at h in
    let e : d / 2 * 2 ≡ d = half u d odd (dvd_trans 2 (dvd-mul_left 2 (2 ^ a)) h') in
    let m : u * d ≡ u * (d / 2) * 2 = ap (λ (x : ℕ). u * x) (sym e) ∙ sym (mul_assoc _ _ _) in
    rw (pow-suc 2 a, ← e) (mul-dvd-mul_right (2 ^ a) (odd_cancel a u (d / 2) odd (dvd_of_mul-dvd-mul_right (2 ^ a) (lit< tt) (rw m at h'))) 2)

-- two numbers with the same rest modulo n differ by a multiple of n
same_rest : (n x y : ℕ) → x % n ≡ y % n → n ∣ y - x
same_rest n x y h =
    let p : x / n * n + x % n ≡ x = div-add-mod' x n in
    let q : y / n * n + y % n ≡ y = div-add-mod' y n in
    let d : y - x ≡ (y / n - x / n) * n = sym (mul_comm _ _ ∙ mul-sub n (y / n) (x / n) ∙ rw (mul_comm n (y / n), mul_comm n (x / n)) (omega arith)) in
    rw d (dvd-mul_left n (y / n - x / n))

-- what is below n and a multiple of n is 0
none_below : (n d : ℕ) → n ∣ d → d < n → d ≡ 0
none_below n d h l = sym (mod-eq_of_lt l) ∙ mod-eq-zero_of_dvd n h

up : (a u v x y : ℕ) → u % 2 ≡ 1 → y < 2 ^ a → x ≤ y → (u * x + v) % 2 ^ a ≡ (u * y + v) % 2 ^ a → x ≡ y
up a u v x y odd ly le h =
    let e : u * (y - x) ≡ (u * y + v) - (u * x + v) = mul-sub u y x ∙ omega arith in
    let d : 2 ^ a ∣ u * (y - x) = rw e (same_rest (2 ^ a) (u * x + v) (u * y + v) h) in
    let z : y - x ≡ 0 = none_below (2 ^ a) (y - x) (odd_cancel a u (y - x) odd d) (omega arith) in
    omega arith

pub same_number : (a u v x y : ℕ) → u % 2 ≡ 1 → x < 2 ^ a → y < 2 ^ a → (u * x + v) % 2 ^ a ≡ (u * y + v) % 2 ^ a → x ≡ y
same_number a u v x y odd lx ly h =
    ⊎_elim (λ w. up a u v x y odd ly (omega arith) h) (λ w. sym (up a u v y x odd lx (omega arith) (sym h))) (eq-zero-or-pos (x - y))

pub one_to_one : OneToOne
unfolding cell_of
one_to_one map x y g lx ly h =
    ap (λ (n : ℕ). record { 0 = n })
    (same_number map.a map.u map.v x.0 y.0 g.u_odd lx ly (ap (λ (k : Cell). k.0) h))
