-- `heads::four_quiet` meets its contract: bits put together are none only where there are none. Assumes nothing.
use Prim.Native.Nat.{ℕ, zero, suc, ◌+◌, ◌-◌, ◌<◌}
use native.Mathlib.Omega.{arith}
use mathlib.Core.Bool.{true}
use mathlib.Core.List.{List}
use mathlib.Core.Path.{◌≡◌, sym, ◌∙◌}
use lib.Bits.{bit_or}
use lib.Dec.{eqb}
use borrow.Author.Tests.{eqb-true}
use Rattle.std.proofs.lemmas.Nat.{le_or_l, le_or_r}
use Rattle.model.specs.Lent.{count_of}
use Rattle.heads.specs.Heads.{Quiet}
use Rattle.heads.proofs.four_quiet.Goals as goal

-- four counts whose bits put together are none
or-none : (a b : ℕ) → bit_or a b ≡ 0 → (a ≡ 0) × (b ≡ 0)
or-none a b h = let p = le_or_l a b in let q = le_or_r a b in (omega arith, omega arith)

quiet-four : (heads : List ℕ) (b w x y z : ℕ) → w ≡ count_of heads b → x ≡ count_of heads (b + 1) → y ≡ count_of heads (b + 2) → z ≡ count_of heads (b + 3)
    → eqb (bit_or (bit_or (bit_or w x) y) z) 0 ≡ true → Quiet heads b (b + 4)
quiet-four heads b w x y z ew ex ey ez h i l m =
    let p = or-none (bit_or (bit_or w x) y) z (eqb-true (bit_or (bit_or (bit_or w x) y) z) 0 h) in
    let q = or-none (bit_or w x) y p.0 in
    let r = or-none w x q.0 in
    by (i - b) (omega arith) (omega arith) (sym ew ∙ r.0) (sym ex ∙ r.1) (sym ey ∙ q.1) (sym ez ∙ p.1)
  where
    at : (k : ℕ) → i ≡ k → count_of heads k ≡ 0 → count_of heads i ≡ 0
    at k e g = rw e g

    by : (k : ℕ) → k < 4 → i ≡ b + k → count_of heads b ≡ 0 → count_of heads (b + 1) ≡ 0 → count_of heads (b + 2) ≡ 0 → count_of heads (b + 3) ≡ 0 → count_of heads i ≡ 0
    by zero n e f₀ f₁ f₂ f₃ = at b (omega arith) f₀
    by (suc zero) n e f₀ f₁ f₂ f₃ = at (b + 1) (omega arith) f₁
    by (suc (suc zero)) n e f₀ f₁ f₂ f₃ = at (b + 2) (omega arith) f₂
    by (suc (suc (suc zero))) n e f₀ f₁ f₂ f₃ = at (b + 3) (omega arith) f₃
    by (suc (suc (suc (suc k)))) n e f₀ f₁ f₂ f₃ = absurd (omega arith)

pub returns : goal.returns
returns c = λ t. search (quiet-four, t)
