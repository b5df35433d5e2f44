-- The contract of each exported function allows one result for each input. Assumes nothing.
use Rattle.std.specs.Prelude.{Result, ⊤}
use Prim.Native.Nat.{ℕ}
use mathlib.Core.List.{List}
use mathlib.Core.Path.{◌≡◌, refl, ap, ◌∙⁻¹◌}
use Rattle.answers.specs.declared.Refusal.{Refusal}
use Rattle.results.specs.Results.{OneResult}
use Rattle.records.specs.contracts as contracts
use Rattle.records.proofs as records

pub operation_from-one : OneResult contracts.operation_from.ended records.operation_from.Reads.Learnt
operation_from-one κs input r₁ r₂ left₁ left₂ p q = (search (◌∙⁻¹◌), refl)

pub read_operation_one : OneResult contracts.read_operation.ended records.read_operation.Reads.Learnt
read_operation_one κs input r₁ r₂ left₁ left₂ p q = (search (◌∙⁻¹◌), refl)

pub write_operation_one : OneResult contracts.write_operation.ended records.write_operation.Reads.Learnt
write_operation_one κs input r₁ r₂ left₁ left₂ p q =
    let e : ◌≡◌ {A = Result ⊤ Refusal × List ℕ} (r₁, left₁.1.0) (r₂, left₂.1.0) = search (◌∙⁻¹◌) in
    (ap (λ w. w.0) e, ap (λ w. (tt, (w.1, tt))) e)
