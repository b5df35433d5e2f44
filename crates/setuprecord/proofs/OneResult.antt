-- The contract of each exported function allows one result for each input. Assumes nothing.
use Rattle.std.specs.Prelude.{ℕ, Result, ⊤}
use mathlib.Core.List.{List}
use mathlib.Core.Path.{◌≡◌, refl, ap, ◌∙⁻¹◌}
use Rattle.answers.specs.declared.Refusal.{Refusal}
use Rattle.results.specs.Results.{OneResult}
use Rattle.setuprecord.specs.contracts as contracts
use Rattle.setuprecord.proofs as setuprecord

pub read-setup_one : OneResult contracts.read_setup.ended setuprecord.read_setup.Reads.Learnt
read-setup_one κs input r₁ r₂ left₁ left₂ p q = (search (◌∙⁻¹◌), refl)

pub write-setup_one : OneResult contracts.write_setup.ended setuprecord.write_setup.Reads.Learnt
write-setup_one κs input r₁ r₂ left₁ left₂ p q =
    let e : ◌≡◌ {A = Result ⊤ Refusal × List ℕ} (r₁, left₁.1.0) (r₂, left₂.1.0) = search (◌∙⁻¹◌) in
    (ap (λ w. w.0) e, ap (λ w. (tt, (w.1, tt))) e)
