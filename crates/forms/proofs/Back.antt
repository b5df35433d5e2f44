-- A state and an operation come back from their numbers as they were, and a refusal in numbers is the controller's. Assumes nothing.
use Rattle.std.specs.Prelude.{Result, Ok, Err}
use Prim.Native.Nat.{ℕ, zero, suc}
use native.Mathlib.Omega.{arith}
use mathlib.Core.Bool.{Bool, true, false}
use mathlib.Core.Path.{◌≡◌, refl, ap, ◌∙◌}
use lib.Dec.{eqb}
use borrow.Author.Tests.{leb-true}
use Rattle.choice.specs.Choice.{pick}
use Rattle.port.specs.declared.Operation as port
use Rattle.port.specs.declared.Operation.TheVariants.{Idle, Read, Write}
use Rattle.model.specs.declared.State as kept
use Rattle.model.specs.Calls as controller
use Rattle.answers.specs.declared.Refusal.{Refusal}
use Rattle.records.specs.Records.{operation_from}
use Rattle.forms.specs.declared.State.{State}
use Rattle.forms.specs.declared.Unasked.TheVariants.{BadMark}
use Rattle.forms.specs.Forms.{mark_ok, mark_out, state_in, state_out, cycled_out, refused_by, operation_in, Asked, asked_in, asked_of, operation_out}

------------------------------------------------------------------------
-- A state that the controller returned

-- a state of stamp a, turn b and position c
pub mark_good : (a b c : ℕ) (m : Bool) → mark_ok (record { stamp = a; turn = b; position = c; stopped = mark_out m }) ≡ true
mark_good a b c true = refl
mark_good a b c false = refl

mark_back : (b : Bool) → eqb (mark_out b) 1 ≡ b
mark_back true = refl
mark_back false = refl

pub state_back : (t : kept.State) → state_in (state_out t) ≡ t
state_back t =
    ap (λ (b : Bool). record { stamp = t.stamp; turn = t.turn; position = t.position; stopped = b }) (mark_back t.stopped)

------------------------------------------------------------------------
-- A state that C passes, its mark in range

mark_there : (a b c n : ℕ) → mark_ok (record { stamp = a; turn = b; position = c; stopped = n }) ≡ true → mark_out (eqb n 1) ≡ n
mark_there a b c zero h = refl
mark_there a b c (suc zero) h = refl
mark_there a b c (suc (suc n)) h = let l = leb-true (suc (suc n)) _ h in absurd (omega arith)

pub state_there : (t : State) → mark_ok t ≡ true → state_out (state_in t) ≡ t
state_there t h =
    ap (λ (n : ℕ). record { stamp = t.stamp; turn = t.turn; position = t.position; stopped = n })
    (mark_there t.stamp t.turn t.position t.stopped h)

------------------------------------------------------------------------
-- An operation and a refusal

operation_back : (op : port.Operation) → operation_in (operation_out op) ≡ Ok op
unfolding operation_from
operation_back Idle = refl
operation_back (Read a) = refl
operation_back (Write a w) = refl

pub asked-back : (t : kept.State) (op : port.Operation) → asked_of (state_out t) (operation_out op) ≡ Ok (t, op)
unfolding asked_in
asked-back t op =
    ap (λ (r : Result port.Operation Refusal). asked_in r (state_out t)) (operation_back op)
    ∙ ap (λ (m : Bool). pick {A = Asked} m (Ok (state_in (state_out t), op)) (Err BadMark)) (mark_good t.stamp t.turn t.position t.stopped)
    ∙ ap {B = Asked} (λ (k : kept.State). Ok (k, op)) (state_back t)

pub refused-out : (n : ℕ) (t : kept.State) → cycled_out (controller.refused_by n t) ≡ refused_by n (state_out t)
refused-out n t = refl
