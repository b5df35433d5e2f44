-- The calls past 1, 2 and 3: what stands is ready, and what is ready stands. Assumes nothing.
use Rattle.std.specs.Prelude.{Result, Ok, Err, ⊤}
use Prim.Native.Nat.{ℕ}
use native.Mathlib.Omega.{arith}
use mathlib.Core.Path.{◌≡◌, refl, sym, ap, subst, ◌∙◌}
use mathlib.Core.Bool.{Bool, true, false}
use Rattle.answers.specs.declared.Refusal.{Refusal}
use Rattle.answers.specs.declared.Refusal.TheVariants.{BadLength, BadState, BadAddress, Stopped}
use Rattle.choice.specs.Choice.{pick}
use Rattle.setup.specs.Setup.{Ranges, checked_of}
use Rattle.setup.specs.declared.Setup.{Setup}
use Rattle.setup.proofs.Ranges.{good_ranges}
use Rattle.port.specs.declared.Operation.{Operation}
use Rattle.model.specs.declared.State.{State}
use Rattle.model.specs.Lent.{Lent}
use Rattle.model.specs.Range.{lengths_ok, numbers_ok, Ready}
use Rattle.model.specs.Calls.{exact_in, exact_of, standing_in, standing_of, address_ok, offered_of, step_in, step_of, cycle_in, cycle_of}
use Rattle.model.proofs.Range.{ready, ready_lengths, ready_numbers}
use Rattle.model.proofs.Ready.{passed_ready}

pub checked_ranges : (g s : Setup) → checked_of g ≡ Ok s → Ranges s
checked_ranges g s c = good_ranges g s (checked_of g) refl c

------------------------------------------------------------------------
-- What stands is ready

picked_sound : (b : Bool) (f s : Setup) (n : Refusal) → ◌≡◌ {A = Result Setup Refusal} (pick b (Ok f) (Err n)) (Ok s) → (b ≡ true) × (f ≡ s)
picked_sound true f s n h = (refl, cc)
picked_sound false f s n h = let z : ◌≡◌ {A = ℕ} 0 1 = cc in absurd (omega arith)

exact_in_sound : (c : Result Setup Refusal) (s : Setup) (x : Lent) → exact_in c x ≡ Ok s → (c ≡ Ok s) × (lengths_ok s x ≡ true)
unfolding exact_in
exact_in_sound (Err n) s x h = let z : ◌≡◌ {A = ℕ} 0 1 = cc in absurd (omega arith)
exact_in_sound (Ok f) s x h =
    let p = picked_sound (lengths_ok f x) f s BadLength h in
    (ap Ok p.1, subst (λ (f : Setup). lengths_ok f x ≡ true) p.1 p.0)

standing_in_sound : (r : Result Setup Refusal) (s : Setup) (t : State) (x : Lent) → standing_in r t x ≡ Ok s
    → (r ≡ Ok s) × (numbers_ok s t x.rows x.buffers ≡ true)
unfolding standing_in
standing_in_sound (Err n) s t x h = let z : ◌≡◌ {A = ℕ} 0 1 = cc in absurd (omega arith)
standing_in_sound (Ok f) s t x h =
    let p = picked_sound (numbers_ok f t x.rows x.buffers) f s BadState h in
    (ap Ok p.1, subst (λ (f : Setup). numbers_ok f t x.rows x.buffers ≡ true) p.1 p.0)

-- r is what the test answered
module _ (g s : Setup) (x : Lent) {r : Result Setup Refusal} where
  pub exact_ranges : r ≡ exact_of g x → r ≡ Ok s → Ranges s
  exact_ranges e h = checked_ranges g s (exact_in_sound (checked_of g) s x (sym e ∙ h)).0

  pub exact_lengths : r ≡ exact_of g x → r ≡ Ok s → lengths_ok s x ≡ true
  exact_lengths e h = (exact_in_sound (checked_of g) s x (sym e ∙ h)).1

  pub standing_ready : (t : State) → r ≡ standing_of g t x → r ≡ Ok s → Ready s t x
  standing_ready t e h =
      let p = standing_in_sound (exact_of g x) s t x (sym e ∙ h) in
      let q = exact_in_sound (checked_of g) s x p.0 in
      ready s t x (checked_ranges g s q.0) q.1 p.1

------------------------------------------------------------------------
-- What is ready stands

module _ (g s : Setup) (c : checked_of g ≡ Ok s) (t : State) (x : Lent) (r : Ready s t x) where
  pub ready_standing : standing_of g t x ≡ Ok s
  unfolding exact_in standing_in
  ready_standing = rw (c, ready_lengths s t x r, ready_numbers s t x r)

  pub ready_cycle : (op : Operation) → cycle_of g t op x ≡ step_of s t op x
  unfolding cycle_in
  ready_cycle op = ap (λ (k : Result Setup Refusal). cycle_in k t op x) ready_standing

------------------------------------------------------------------------
-- Stock: for a burst (Q-6) and a drain (Q-8), where 1, 2 and 3 are looked at once

none_by : (m a : Bool) {u : ⊤} → pick m (Err Stopped) (pick a (Ok tt) (Err BadAddress)) ≡ Ok u → a ≡ true
none_by true a h = let z : ◌≡◌ {A = ℕ} 0 1 = cc in absurd (omega arith)
none_by false true h = refl
none_by false false h = let z : ◌≡◌ {A = ℕ} 0 1 = cc in absurd (omega arith)

offered_address : (s : Setup) (t : State) (op : Operation) {u : ⊤} → offered_of s t op ≡ Ok u → address_ok s op ≡ true
unfolding offered_of
offered_address s t op h = none_by t.stopped (address_ok s op) h

step_in_ready : (r : Result ⊤ Refusal) (s : Setup) (t : State) (op : Operation) (x : Lent) → Ready s t x → offered_of s t op ≡ r
    → Ready s (step_in r s t op x).0.state (step_in r s t op x).1
unfolding step_in
step_in_ready (Err n) s t op x g h = g
step_in_ready (Ok u) s t op x g h = passed_ready s t op x g (offered_address s t op h)

-- every cycle leaves a ready state ready, whatever it answers
pub step_ready : (s : Setup) (t : State) (op : Operation) (x : Lent) → Ready s t x
    → Ready s (step_of s t op x).0.state (step_of s t op x).1
step_ready s t op x g = step_in_ready (offered_of s t op) s t op x g refl
