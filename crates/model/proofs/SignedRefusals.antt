-- The answer table is what the calls are defined by. Assumes nothing.
use Rattle.std.specs.Prelude.{Result, Ok, Err, ⊤}
use Prim.Native.Nat.{ℕ}
use mathlib.Core.Path.{◌≡◌, refl, sym, ap, subst, ◌∙◌}
use mathlib.Core.Bool.{Bool, true, false}
use lib.Dec.{eqb, ltb}
use Rattle.answers.specs.declared.Refusal.{Refusal}
use Rattle.answers.specs.declared.Refusal.TheVariants.{BadSetup, BadLength, BadState, BadAddress, Stopped}
use Rattle.answers.specs.Answers.{done, bad_setup, bad_length, bad_state, bad_address, stopped}
use Rattle.choice.specs.Choice.{pick}
use Rattle.setup.specs.Setup.{with_defaults, in_range, banks_of}
use Rattle.setup.specs.declared.Setup.{Setup}
use Rattle.port.specs.declared.Operation.{Operation}
use Rattle.port.specs.declared.Operation.TheVariants.{Idle, Read, Write}
use Rattle.model.specs.declared.State.{State}
use Rattle.model.specs.declared.Cycled.{Cycled}
use Rattle.model.specs.declared.Waiting.{Waiting}
use Rattle.model.specs.Lent.{Lent, count_of}
use Rattle.model.specs.Range.{lengths_ok, numbers_ok}
use Rattle.model.specs.Cycle.{passed}
use Rattle.model.specs.Calls.{exact_in, standing_in, standing_of, address_ok, offered_of, fresh_state, fresh_lent, started, fresh_in, refused, step_in, step_of, cycle_in, told, tell_of, waiting_in}
use Rattle.model.specs.Refusals.{within, StartsInOrder, RefusesInOrder, TellsInOrder}

------------------------------------------------------------------------
-- 1 and 2, and a fresh start

-- b is what the test of the ranges answers, l that of the lengths, n that of the numbers
exact_by : (s : Setup) (x : Lent) (b : Bool) → exact_in (pick b (Ok s) (Err BadSetup)) x ≡ pick b (pick (lengths_ok s x) (Ok s) (Err BadLength)) (Err BadSetup)
unfolding exact_in
exact_by s x true = refl
exact_by s x false = refl

fresh_by : (s : Setup) (t : State) (x : Lent) (b l : Bool)
    → fresh_in (pick b (pick l (Ok s) (Err BadLength)) (Err BadSetup)) t x
    ≡ pick b (pick l (started done fresh_state, fresh_lent s x) (started bad_length t, x)) (started bad_setup t, x)
unfolding fresh_in
fresh_by s t x true true = refl
fresh_by s t x true false = refl
fresh_by s t x false l = refl

pub starts_in_order : StartsInOrder
starts_in_order g t x =
    let s : Setup = with_defaults g in
    ap (λ (r : Result Setup Refusal). fresh_in r t x) (exact_by s x (in_range s)) ∙ fresh_by s t x (in_range s) (lengths_ok s x)

------------------------------------------------------------------------
-- 1, 2 and 3

abbrev standing : Setup → Bool → Bool → Bool → Result Setup Refusal
standing s b l n = pick b (pick l (pick n (Ok s) (Err BadState)) (Err BadLength)) (Err BadSetup)

standing_by : (s : Setup) (t : State) (x : Lent) (b l : Bool)
    → standing_in (pick b (pick l (Ok s) (Err BadLength)) (Err BadSetup)) t x ≡ standing s b l (numbers_ok s t x.rows x.buffers)
unfolding standing_in
standing_by s t x true true = refl
standing_by s t x true false = refl
standing_by s t x false l = refl

standing-table : (g : Setup) (t : State) (x : Lent)
    → standing_of g t x
    ≡ standing (with_defaults g) (in_range (with_defaults g)) (lengths_ok (with_defaults g) x) (numbers_ok (with_defaults g) t x.rows x.buffers)
standing-table g t x =
    let s : Setup = with_defaults g in
    ap (λ (r : Result Setup Refusal). standing_in r t x) (exact_by s x (in_range s)) ∙ standing_by s t x (in_range s) (lengths_ok s x)

------------------------------------------------------------------------
-- A cycle

within_address : (s : Setup) (op : Operation) → address_ok s op ≡ within s op
within_address s Idle = refl
within_address s (Read a) = refl
within_address s (Write a w) = refl

module _ (s : Setup) (t : State) (op : Operation) (x : Lent) where
  abbrev refusal : Bool → Bool → Result ⊤ Refusal
  refusal m a = pick m (Err Stopped) (pick a (Ok tt) (Err BadAddress))

  abbrev table : Bool → Bool → Cycled × Lent
  table m a = pick m (refused stopped t x) (pick a (passed s t op x) (refused bad_address t x))

  step_by : (m a : Bool) → step_in (refusal m a) s t op x ≡ table m a
  unfolding step_in
  step_by false true = refl
  step_by false false = refl
  step_by true a = refl

  step_table : step_of s t op x ≡ table t.stopped (within s op)
  unfolding offered_of
  step_table = step_by t.stopped (address_ok s op) ∙ ap (table t.stopped) (within_address s op)

  cycle_by : (b l n : Bool)
      → cycle_in (standing s b l n) t op x
      ≡ pick b (pick l (pick n (table t.stopped (within s op)) (refused bad_state t x)) (refused bad_length t x)) (refused bad_setup t x)
  unfolding cycle_in
  cycle_by true true true = step_table
  cycle_by true true false = refl
  cycle_by true false n = refl
  cycle_by false l n = refl

pub refuses_in_order : RefusesInOrder
refuses_in_order g t op x =
    let s : Setup = with_defaults g in
    ap (λ (r : Result Setup Refusal). cycle_in r t op x) (standing-table g t x)
    ∙ cycle_by s t op x (in_range s) (lengths_ok s x) (numbers_ok s t x.rows x.buffers)

------------------------------------------------------------------------
-- A question

-- it answers n, and tells this count where n is 0
abbrev Tells : ℕ → ℕ → Waiting → Type 0
Tells n count w = (w.answer ≡ n) × (w.count ≡ pick (eqb w.answer done) count 0)

module _ (s : Setup) (bank : ℕ) (x : Lent) where
  abbrev count : ℕ
  count = count_of x.buffers.heads bank

  -- k is whether the bank is one of the B
  tell_by : (k : Bool) → Tells (pick k done bad_address) count (pick k (told done count) (told bad_address 0))
  tell_by true = (refl, refl)
  tell_by false = (refl, refl)

  waiting_by : (b l n : Bool)
      → Tells (pick b (pick l (pick n (pick (ltb bank (banks_of s)) done bad_address) bad_state) bad_length) bad_setup) count
      (waiting_in (standing s b l n) bank x)
  unfolding waiting_in tell_of
  waiting_by true true true = tell_by (ltb bank (banks_of s))
  waiting_by true true false = (refl, refl)
  waiting_by true false n = (refl, refl)
  waiting_by false l n = (refl, refl)

pub tells_in_order : TellsInOrder
tells_in_order g t b x =
    let s : Setup = with_defaults g in
    subst
    (λ (r : Result Setup Refusal). Tells (pick (in_range s) (pick (lengths_ok s x) (pick (numbers_ok s t x.rows x.buffers) (pick (ltb b (banks_of s)) done bad_address) bad_state) bad_length) bad_setup) (count_of x.buffers.heads b) (waiting_in r b x))
    (sym (standing-table g t x))
    (waiting_by s b x (in_range s) (lengths_ok s x) (numbers_ok s t x.rows x.buffers))
