-- Turns and places that count round: the turns "bank b in the cycles t with b mod m = t mod m" make a clock. Assumes nothing.
use mathlib.Core.Path.{◌≡◌, refl, sym, ◌∙◌, ap}
use mathlib.Core.Logic.{◌⊎◌, inl, inr, ◌≢◌}
use mathlib.Core.Bool.{Bool, cond}
use Prim.Native.Nat.{ℕ, zero, suc, ◌+◌, ◌-◌, ◌*◌, ◌/◌, ◌%◌, ◌≤◌, ◌<◌}
use native.Mathlib.Nat.{suc-mod, mod-lt, mod_self, mod-eq_of_lt, mod-mod, mod-add-mod, mod-eq-sub-mod, add-mod_right, div-add-mod', mul-le-mul_right, suc-mul}
use native.Mathlib.Omega.{arith}
use Rattle.theory.proofs.Test.{same, lt, Says, is, isnt, lt?, same?, lt_true}
use Rattle.theory.proofs.Concrete.{onward, ago, due}
use Rattle.theory.proofs.Keeps.{Clock}

apart : (m p q r : ℕ) → p < q → p * m + r + m ≤ q * m + r
apart m p q r h = let k : suc p * m ≤ q * m = mul-le-mul_right m h in omega (arith, suc-mul p m)

-- two numbers less than m apart that agree modulo m are one; so a live row's place determines its cycle
pub remainder_inj : (m a b : ℕ) → a ≤ b → b < a + m → a % m ≡ b % m → a ≡ b
remainder_inj m a b le l e = go (lt (a / m) (b / m)) (lt (b / m) (a / m)) (lt? _ _) (lt? _ _)
  where
    da : a / m * m + a % m ≡ a
    da = div-add-mod' a m

    db : b / m * m + b % m ≡ b
    db = div-add-mod' b m

    go : (x y : Bool) → Says (a / m < b / m) x → Says (b / m < a / m) y → a ≡ b
    go x y (is p) q = absurd (omega (arith, da, db, apart m (a / m) (b / m) (a % m) p))
    go x y (isnt p) (is q) = absurd (omega (arith, da, db, apart m (b / m) (a / m) (a % m) q))
    go x y (isnt p) (isnt q) = let s : a / m ≡ b / m = omega arith in sym da ∙ rw (s, e) db

-- one place on
pub mod-onward : (m t : ℕ) → 0 < m → onward m (t % m) ≡ suc t % m
mod-onward m t pos = go (same (suc (t % m)) m) (same? _ _) ∙ sym (suc-mod t m)
  where
    go : (x : Bool) → Says (suc (t % m) ≡ m) x → cond x 0 (suc (t % m)) ≡ suc (t % m) % m
    go x (is p) = rw (p, mod_self)
    go x (isnt f) = let l : t % m < m = mod-lt t pos in sym (mod-eq_of_lt (omega arith))

-- d places back
pub mod-ago : (rest d r : ℕ) → d ≤ suc rest → ago rest d ((r + d) % suc rest) ≡ r % suc rest
mod-ago rest d r h = rw (← (mod-add-mod r (suc rest) d)) (go (lt (r % suc rest + d) (suc rest)) (lt? _ _))
  where
    l : r % suc rest < suc rest
    l = mod-lt r (omega arith)

    put : (x p : ℕ) → x < suc rest → (y : Bool) → Says (p < d) y → (p ≡ x + d) ⊎ (p + suc rest ≡ x + d) → p < suc rest → cond y (p + suc rest - d) (p - d) ≡ x
    put x p hx y (is q) (inl e) hp = omega arith
    put x p hx y (is q) (inr e) hp = omega arith
    put x p hx y (isnt q) (inl e) hp = omega arith
    put x p hx y (isnt q) (inr e) hp = omega arith

    go : (y : Bool) → Says (r % suc rest + d < suc rest) y → ago rest d ((r % suc rest + d) % suc rest) ≡ r % suc rest
    go y (is q) = rw (mod-eq_of_lt q) (put (r % suc rest) (r % suc rest + d) l _ (lt? _ _) (inl refl) q)
    go y (isnt q) =
        let ge : suc rest ≤ r % suc rest + d = omega arith in
        let lo : r % suc rest + d - suc rest < suc rest = omega (arith, l) in
        rw (mod-eq-sub-mod ge, mod-eq_of_lt lo) (put (r % suc rest) (r % suc rest + d - suc rest) l _ (lt? _ _) (inr (omega arith)) lo)

-- the turns of B banks
module _ (m B : ℕ) where
  abbrev pub next : ℕ → ℕ → ℕ
  next b zero = b % m
  next b (suc t) = cond (due m B b t) (next b t + m) (next b t)

  -- it stays at the bank's turns, and within m cycles from now on
  abbrev pub OnTurn : ℕ → ℕ → ℕ → Type 0
  OnTurn b t n = (n % m ≡ b % m) × (t ≤ n) × (n < t + m)

  pub next_on_turn : 0 < m → (b : ℕ) → b < B → (t : ℕ) → OnTurn b t (next b t)
  next_on_turn pos b h zero = let l : b % m < m = mod-lt b pos in (mod-mod b m, omega arith, omega arith)
  next_on_turn pos b h (suc t) = rw (lt_true h) (go (next b t) (next_on_turn pos b h t) (same (b % m) (t % m)) (same? _ _))
    where
      go : (n : ℕ) → OnTurn b t n → (x : Bool) → Says (b % m ≡ t % m) x → OnTurn b (suc t) (cond x (n + m) n)
      go n k x (is p) = let s : t ≡ n = remainder_inj m t n k.1 k.2 (sym p ∙ sym k.0) in (add-mod_right n m ∙ k.0, omega arith, omega arith)
      go n k x (isnt f) = let s : t ≢ n = λ e. f (sym k.0 ∙ ap (λ (z : ℕ). z % m) (sym e)) in (k.0, omega arith, omega arith)

  -- any bank rule into B banks
  pub clock : 0 < m → (bank : ℕ → ℕ) (delay rest : ℕ) → ((a : ℕ) → bank a < B) → Clock m (record { bank = bank; due = due m B; delay = delay; rest = rest })
  clock pos bank delay rest h = record { next = next; turn = λ b t. refl; ahead = λ a t. (next_on_turn pos (bank a) (h a) t).1; near = λ a t. (next_on_turn pos (bank a) (h a) t).2 }
