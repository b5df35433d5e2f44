-- Laws on steps that go round, and on the parts of the banks. Assumes nothing.
use Prim.Native.Nat.{ℕ, ◌+◌, ◌-◌, ◌*◌, ◌≤◌, ◌<◌}
use native.Mathlib.Nat.{suc-mul, mul-le-mul_right}
use native.Mathlib.Omega.{arith}
use mathlib.Core.Path.{◌≡◌, sym, ap, ◌∙◌}
use mathlib.Core.Logic.{◌⊎◌, inl, inr, ⊎_elim}
use lib.Dec.{ltb}
use borrow.Author.Tests.{lt-ltb, le-ltb}
use Rattle.choice.specs.Choice.{pick}
use Rattle.choice.proofs.Tests.{below_or_not}
use Rattle.rings.specs.Places.{onward, back}

------------------------------------------------------------------------
-- Steps that go round

pub onward_straight : (c i n : ℕ) → i + n < c → onward c i n ≡ i + n
onward_straight c i n h = rw (lt-ltb (i + n) c h)

pub onward-round : (c i n : ℕ) → c ≤ i + n → onward c i n ≡ i + n - c
onward-round c i n h = rw (le-ltb (i + n) c h)

pub onward_either : (c i n : ℕ) → ((i + n < c) × (onward c i n ≡ i + n)) ⊎ ((c ≤ i + n) × (onward c i n ≡ i + n - c))
onward_either c i n =
    ⊎_elim (λ h. inl (h, onward_straight c i n h)) (λ h. inr (h, onward-round c i n h)) (below_or_not (i + n) c)

pub onward_none : (c i : ℕ) → i < c → onward c i 0 ≡ i
onward_none c i h = onward_straight c i 0 (omega arith) ∙ omega arith

pub onward-below : (c i n : ℕ) → i < c → n ≤ c → onward c i n < c
onward-below c i n h l = ⊎_elim (λ w. omega arith) (λ w. omega arith) (onward_either c i n)

-- n places on from the next place are n + 1 places on
pub onward-next : (c i n : ℕ) → i < c → n < c → onward c (onward c i 1) n ≡ onward c i (n + 1)
onward-next c i n h l =
    ⊎_elim
    (λ w. ap (λ (o : ℕ). onward c o n) (onward_straight c i 1 w) ∙ ap (λ (o : ℕ). pick (ltb o c) o (o - c)) (omega arith))
    (λ w. let z : onward c i 1 ≡ 0 = onward-round c i 1 w ∙ omega arith in
    ap (λ (o : ℕ). onward c o n) z
    ∙ onward_straight c 0 n (omega arith)
    ∙ omega arith
    ∙ sym (onward-round c i (n + 1) (omega arith)))
    (below_or_not (i + 1) c)

-- fewer than c steps lead to as many places: two of the waiting places, or a waiting one and the next free one, differ
pub onward-same : (c i m n : ℕ) → i < c → m < c → n < c → onward c i m ≡ onward c i n → m ≡ n
onward-same c i m n h l l' e =
    ⊎_elim
    (λ w. ⊎_elim (λ v. omega arith) (λ v. omega arith) (onward_either c i n))
    (λ w. ⊎_elim (λ v. omega arith) (λ v. omega arith) (onward_either c i n))
    (onward_either c i m)

pub onward_differ : (c i m n : ℕ) → i < c → m < n → n < c → onward c i m ≡ onward c i n → ⊥
onward_differ c i m n h l l' e =
    let z : m ≡ n = onward-same c i m n h (omega arith) l' e in
    omega arith

pub back_straight : (c i n : ℕ) → n ≤ i → back c i n ≡ i - n
back_straight c i n h = rw (le-ltb i n h)

pub back-round : (c i n : ℕ) → i < n → back c i n ≡ i + c - n
back-round c i n h = rw (lt-ltb i n h)

pub back_below : (c i n : ℕ) → i < c → n ≤ c → back c i n < c
back_below c i n h l =
    ⊎_elim
    (λ w. let e : back c i n ≡ i + c - n = back-round c i n w in omega arith)
    (λ w. let e : back c i n ≡ i - n = back_straight c i n w in omega arith)
    (below_or_not i n)

------------------------------------------------------------------------
-- The parts of the banks, k places each

-- bank b's part is within the room of all
pub part_within : (b banks k : ℕ) → b < banks → b * k + k ≤ banks * k
part_within b banks k h = omega (arith, mul-le-mul_right k h, suc-mul b k)

-- places of two banks differ
pub parts_differ : (b b' k i j : ℕ) → i < k → j < k → (b ≡ b' → ⊥) → b * k + i ≡ b' * k + j → ⊥
parts_differ b b' k i j h l n e =
    ⊎_elim
    (λ w. omega (arith, part_within b b' k w))
    (λ w. ⊎_elim (λ v. omega (arith, part_within b' b k v)) (λ v. n (omega arith)) (below_or_not b' b))
    (below_or_not b b')
