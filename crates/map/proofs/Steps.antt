-- B addresses in steps of N/B have B different banks: each step is one of u banks, and u is odd. Assumes nothing.
use Prim.Native.Nat.{ℕ, ◌+◌, ◌-◌, ◌*◌, ◌^◌, ◌%◌, ◌/◌, ◌≤◌}
use mathlib.Core.Path.{◌≡◌, sym, ap, ◌∙◌}
use native.Mathlib.Nat.{mod-mod, mod-add-mod, add-mul-div_right, mul-add, mul_assoc}
use native.Mathlib.Omega.{arith}
use lib.Pow.{field, pow_pos}
use Rattle.map.specs.Map.{cell_of, bank_of, StepsMeetEach}
use Rattle.map.proofs.OneToOne.{same_number}

-- the s bits above r, of n and of its s + r low bits
top : (n s r : ℕ) → n % 2 ^ (s + r) / 2 ^ r % 2 ^ s ≡ n / 2 ^ r % 2 ^ s
top n s r = ap (λ (y : ℕ). y % 2 ^ s) (field n s r) ∙ mod-mod _ _

stepped : (n k s r : ℕ) → (n + k * 2 ^ r) % 2 ^ (s + r) / 2 ^ r % 2 ^ s ≡ (k + n / 2 ^ r % 2 ^ s) % 2 ^ s
stepped n k s r =
    top (n + k * 2 ^ r) s r
    ∙ ap (λ (y : ℕ). y % 2 ^ s) (add-mul-div_right n k (pow_pos r))
    ∙ sym (mod-add-mod (n / 2 ^ r) (2 ^ s) k)
    ∙ ap (λ (y : ℕ). y % 2 ^ s) (omega arith)

-- the bank i steps on
numbers : (a s u v x i : ℕ) → s ≤ a
    → (u * (x + i * 2 ^ (a - s)) + v) % 2 ^ a / 2 ^ (a - s) % 2 ^ s ≡ (u * i + (u * x + v) / 2 ^ (a - s) % 2 ^ s) % 2 ^ s
numbers a s u v x i h =
    let e : s + (a - s) ≡ a = omega arith in
    let m : u * (x + i * 2 ^ (a - s)) + v ≡ u * x + v + u * i * 2 ^ (a - s) = rw (mul-add u x (i * 2 ^ (a - s)), mul_assoc u i (2 ^ (a - s))) (omega arith) in
    ap (λ (n : ℕ). (u * (x + i * 2 ^ (a - s)) + v) % 2 ^ n / 2 ^ (a - s) % 2 ^ s) (sym e)
    ∙ rw m (stepped (u * x + v) (u * i) s (a - s))

pub steps_meet_each : StepsMeetEach
unfolding cell_of bank_of
steps_meet_each map x i j g hi hj e =
    let on = numbers map.a map.s map.u map.v x in
    let within = g.sizes.s-within in
    same_number map.s map.u _ i j g.u_odd hi hj (sym (on i within) ∙ e ∙ on j within)
