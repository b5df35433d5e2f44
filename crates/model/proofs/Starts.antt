-- What a fresh start that answers 0 shows: the setup is in range, every length exact, and the machine fresh. Assumes nothing.
use Rattle.std.specs.Prelude.{Ok, Err}
use mathlib.Core.Path.{◌≡◌, refl}
use mathlib.Core.Bool.{Bool, true, false}
use native.Mathlib.Omega.{arith}
use Rattle.answers.specs.declared.Refusal.TheVariants.{BadSetup, BadLength}
use Rattle.answers.specs.Answers.{done}
use Rattle.choice.specs.Choice.{pick}
use Rattle.setup.specs.declared.Setup.{Setup}
use Rattle.setup.specs.Setup.{in_range, with_defaults, checked_of}
use Rattle.model.specs.declared.State.{State}
use Rattle.model.specs.Lent.{Lent}
use Rattle.model.specs.Range.{lengths_ok}
use Rattle.model.specs.Calls.{exact_in, fresh_state, fresh_lent, fresh_in}
use Rattle.model.specs.Runs.{Machine, fresh}
use Rattle.model.specs.Promises.{Starts}

-- b is what the test of the ranges answers, l what that of the lengths
module _ (s : Setup) (t : State) (x : Lent) where
  by_range : (b : Bool) → (fresh_in (exact_in (pick b (Ok s) (Err BadSetup)) x) t x).0.answer ≡ done → b ≡ true
  unfolding exact_in fresh_in
  by_range true h = refl
  by_range false h = absurd (omega arith)

  by_lengths : (l : Bool) → (fresh_in (pick l (Ok s) (Err BadLength)) t x).0.answer ≡ done → l ≡ true
  unfolding fresh_in
  by_lengths true h = refl
  by_lengths false h = absurd (omega arith)

module _ (g : Setup) (w : Machine) (h : Starts g w) where
  in_range_lem : in_range (with_defaults g) ≡ true
  in_range_lem = by_range (with_defaults g) w.0 w.1 (in_range (with_defaults g)) h

  pub starts_checked : checked_of g ≡ Ok (with_defaults g)
  starts_checked = rw in_range_lem

  start-answer : (fresh_in (exact_in (Ok (with_defaults g)) w.1) w.0 w.1).0.answer ≡ done
  start-answer = rw starts_checked at h

  pub starts_lengths : lengths_ok (with_defaults g) w.1 ≡ true
  unfolding exact_in
  starts_lengths = by_lengths (with_defaults g) w.0 w.1 (lengths_ok (with_defaults g) w.1) start-answer

  pub fresh_machine : fresh g w ≡ (fresh_state, fresh_lent (with_defaults g) w.1)
  unfolding exact_in fresh_in
  fresh_machine = rw (starts_checked, starts_lengths)
