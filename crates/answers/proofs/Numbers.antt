-- The number of an answer tells which answer it is. Assumes nothing.
use Rattle.std.specs.Prelude.{ℕ, ◌≤◌, eqb, Result, Ok, Err, ⊤}
use mathlib.Core.Path.{◌≡◌, refl, sym, ap, ◌∙◌}
use mathlib.Core.Bool.{cond}
use native.Mathlib.Omega.{arith}
use Rattle.answers.specs.declared.Refusal.{Refusal}
use Rattle.answers.specs.declared.Refusal.TheVariants.{BadSetup, BadLength, BadState, BadAddress, Stopped, RoomTooSmall, BadRecord}
use Rattle.answers.specs.Answers.{done, bad_setup, bad_length, bad_state, bad_address, stopped, room_too_small, number, answer_of}

refusal_of : ℕ → Refusal
refusal_of n =
    cond (eqb n bad_setup) BadSetup
    (cond (eqb n bad_length) BadLength
    (cond (eqb n bad_state) BadState
    (cond (eqb n bad_address) BadAddress
    (cond (eqb n stopped) Stopped
    (cond (eqb n room_too_small) RoomTooSmall BadRecord)))))

result_of : ℕ → Result ⊤ Refusal
result_of n = cond (eqb n done) (Ok tt) (Err (refusal_of n))

told : (r : Result ⊤ Refusal) → result_of (answer_of r) ≡ r
unfolding result_of refusal_of
told (Ok u) = refl
told (Err BadSetup) = refl
told (Err BadLength) = refl
told (Err BadState) = refl
told (Err BadAddress) = refl
told (Err Stopped) = refl
told (Err RoomTooSmall) = refl
told (Err BadRecord) = refl

pub answer_tells : (q r : Result ⊤ Refusal) → answer_of q ≡ answer_of r → q ≡ r
answer_tells q r h = sym (told q) ∙ ap result_of h ∙ told r

-- a refusal's number is one digit, and not that of what is done
pub number_range : (r : Refusal) → (1 ≤ number r) × (number r ≤ 9)
number_range BadSetup = (omega arith, omega arith)
number_range BadLength = (omega arith, omega arith)
number_range BadState = (omega arith, omega arith)
number_range BadAddress = (omega arith, omega arith)
number_range Stopped = (omega arith, omega arith)
number_range RoomTooSmall = (omega arith, omega arith)
number_range BadRecord = (omega arith, omega arith)
