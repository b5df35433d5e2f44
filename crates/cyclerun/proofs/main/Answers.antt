-- What the file opens is known. Assumes nothing.
use Rattle.std.proofs.Common.{arith, ℕ, ◌<◌, ◌≡◌, List, sym, ap, ◌∙◌, Result, Err}
use Rattle.answers.specs.declared.Refusal.{Refusal}
use Rattle.answers.specs.Answers.{number}
use Rattle.answers.proofs.Numbers.{number_range}
use Rattle.decimal.specs.Decimal.{ten}
use Rattle.setup.specs.declared.Setup.{Setup}
use Rattle.replay.specs.Replay.{opening_of, setup_line, printed_in}
use Rattle.cyclerun.specs.Parts.{PrintsOnly}
use Rattle.cyclerun.proofs.main.Goals as goal

-- o is what the file opens
prints_only : (file line : List ℕ) (o : Result Setup Refusal) (r : Refusal) (n : ℕ) → o ≡ opening_of file → o ≡ Err r → n ≡ number r → line ≡ setup_line n → PrintsOnly file line
unfolding printed_in
prints_only file line o r n e h k l input = ap (λ (w : Result Setup Refusal). printed_in w input) (sym e ∙ h) ∙ sym (l ∙ ap setup_line k)

digit : (r : Refusal) (n : ℕ) → n ≡ number r → n < ten
digit r n e = omega (arith, number_range r)

pub setup_line-requires : goal.setup_line-requires
setup_line-requires c = search (digit)

pub refuse-requires : goal.refuse-requires
refuse-requires c = search (prints_only)
