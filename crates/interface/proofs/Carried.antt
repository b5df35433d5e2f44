-- The numbers lose nothing, and a refusal changes nothing. Assumes nothing.
use Rattle.std.specs.Prelude.{Result, Ok, Err}
use Prim.Native.Nat.{ℕ}
use mathlib.Core.Bool.{Bool, true, false, ◌&&◌}
use mathlib.Core.Logic.{◌⊎◌, inl, inr}
use mathlib.Core.Path.{◌≡◌, refl, sym, ap, subst, ◌∙◌}
use mathlib.Core.List.{List}
use lib.Dec.{ltb, eqb}
use Rattle.answers.specs.declared.Refusal.{Refusal}
use Rattle.answers.specs.declared.Refusal.TheVariants.{BadSetup, BadLength, BadState}
use Rattle.answers.specs.Answers.{number, done, bad_setup, bad_length, bad_state, bad_address, stopped}
use Rattle.choice.specs.Choice.{pick}
use Rattle.setup.specs.declared.Setup.{Setup}
use Rattle.setup.specs.Setup.{with_defaults, in_range, checked_of, banks_of}
use Rattle.port.specs.declared.Operation as port
use Rattle.model.specs.declared.State as kept
use Rattle.model.specs.declared.Started as starting
use Rattle.model.specs.declared.Cycled as cycling
use Rattle.model.specs.Lent as room
use Rattle.model.specs.Lent.{count_of}
use Rattle.model.specs.Range.{lengths_ok, numbers_ok}
use Rattle.model.specs.Cycle.{passed}
use Rattle.model.specs.Calls.{started, fresh_state, fresh_lent, fresh_of, cycle_of, waiting_of, refused}
use Rattle.model.specs.Refusals.{within}
use Rattle.model.specs.Promises.{NotRefused}
use Rattle.model.proofs.Signed.{refuses_whole}
use Rattle.model.proofs.SignedRefusals.{starts_in_order, refuses_in_order, tells_in_order}
use Rattle.forms.specs.declared.Unasked.TheVariants.{BadMark}
use Rattle.forms.specs.declared.State.{State}
use Rattle.forms.specs.declared.Cycled.{Cycled}
use Rattle.forms.specs.declared.Told.{Told}
use Rattle.forms.specs.Forms.{no_lengths, mark_ok, state_in, state_out, started_out, operation_in, Asked, asked_in, refused_by, told_out}
use Rattle.forms.proofs.Back.{mark_good, state_back, state_there, asked-back, refused-out}
use Rattle.interface.specs.Interface.{lengths_in, start_with, cycled_with, bad_mark, cycle_in, waiting_out, written_in}
use Rattle.interface.specs.Carried.{started_by, SameStart, SameCycle, SameQuestion, StartsC, in_order, CyclesC, AsksC, RefusesC, LengthsC, lengths_due, WritesC, written_for}

------------------------------------------------------------------------
-- The calls

pub same-cycle : SameCycle
unfolding cycle_in
same-cycle s t op x = ap (λ (a : Asked). cycle_in a s (state_out t) x) (asked-back t op)

pub same-question : SameQuestion
unfolding waiting_out
same-question s t b x =
    ap (λ (m : Bool). pick m (told_out (waiting_of s (state_in (state_out t)) b x).answer (waiting_of s (state_in (state_out t)) b x).count) (told_out (number (bad_mark (checked_of s) x)) 0)) (mark_good t.stamp t.turn t.position t.stopped)
    ∙ ap (λ (k : kept.State). told_out (waiting_of s k b x).answer (waiting_of s k b x).count) (state_back t)

------------------------------------------------------------------------
-- Refusals

lengths_by : (s : Setup) (g : Bool) → lengths_in (pick g (Ok s) (Err BadSetup)) ≡ pick g (lengths_due s) no_lengths
lengths_by s true = refl
lengths_by s false = refl

pub lengths_c : LengthsC
lengths_c s = lengths_by (with_defaults s) (in_range (with_defaults s))

written_by : (r : Result port.Operation Refusal) (room : List ℕ) → written_in r room ≡ written_for r room
written_by (Ok op) room = refl
written_by (Err r) room = refl

pub writes-c : WritesC
writes-c op room = written_by (operation_in op) room

-- g and l say whether the setup is in range and the lengths are exact
start-same : (s : Setup) (t : kept.State) (x : room.Lent) (g l : Bool) (w : starting.Started × room.Lent)
    → w ≡ pick g (pick l (started done fresh_state, fresh_lent (with_defaults s) x) (started bad_length t, x)) (started bad_setup t, x)
    → start_with (state_out t) w ≡ (started_by w.0.answer (state_out w.0.state), w.1)
unfolding started_out
start-same s t x true true w e = rw e
start-same s t x true false w e = rw e
start-same s t x false l w e = rw e

pub same_start : SameStart
same_start s t x =
    ap (λ (k : kept.State). start_with (state_out t) (fresh_of s k x)) (state_back t)
    ∙ start-same s t x (in_range (with_defaults s)) (lengths_ok (with_defaults s) x) (fresh_of s t x) (starts_in_order s t x)

start_by : (s : Setup) (t : State) (x : room.Lent) (g l : Bool)
    → start_with t (pick g (pick l (started done fresh_state, fresh_lent (with_defaults s) x) (started bad_length (state_in t), x)) (started bad_setup (state_in t), x))
    ≡ pick g (pick l (started_by done (state_out fresh_state), fresh_lent (with_defaults s) x) (started_by bad_length t, x)) (started_by bad_setup t, x)
unfolding started_out
start_by s t x true true = refl
start_by s t x true false = refl
start_by s t x false l = refl

pub starts_c : StartsC
starts_c s t x = ap (start_with t) (starts_in_order s (state_in t) x) ∙ start_by s t x (in_range (with_defaults s)) (lengths_ok (with_defaults s) x)

-- a refusal of the controller's, in numbers: the state as it was
refused-back : (t : State) (x : room.Lent) → mark_ok t ≡ true → (n : ℕ) → cycled_with (refused n (state_in t) x) ≡ (refused_by n t, x)
refused-back t x h n =
    ap (λ (r : Cycled). (r, x)) (refused-out n (state_in t))
    ∙ ap (λ (k : State). (refused_by n k, x)) (state_there t h)

-- g, l, n, m and a are what the tests answer, p what the cycle that passes returns and leaves
cycle_by : (t : State) (x : room.Lent) (p : cycling.Cycled × room.Lent) → mark_ok t ≡ true → (g l n m a : Bool)
    → cycled_with
    (pick g
    (pick l
    (pick n
    (pick m (refused stopped (state_in t) x) (pick a p (refused bad_address (state_in t) x)))
    (refused bad_state (state_in t) x))
    (refused bad_length (state_in t) x))
    (refused bad_setup (state_in t) x))
    ≡ pick g
    (pick l
    (pick n
    (pick m (refused_by stopped t, x) (pick a (cycled_with p) (refused_by bad_address t, x)))
    (refused_by bad_state t, x))
    (refused_by bad_length t, x))
    (refused_by bad_setup t, x)
cycle_by t x p h true true true true a = refused-back t x h stopped
cycle_by t x p h true true true false true = refl
cycle_by t x p h true true true false false = refused-back t x h bad_address
cycle_by t x p h true true false m a = refused-back t x h bad_state
cycle_by t x p h true false n m a = refused-back t x h bad_length
cycle_by t x p h false l n m a = refused-back t x h bad_setup

-- a bad mark: 1, 2 and then 3
mark_by : (z : Setup) (x : room.Lent) (g : Bool)
    → bad_mark (pick g (Ok z) (Err BadSetup)) x ≡ pick g (pick (lengths_ok z x) BadState BadLength) BadSetup
unfolding bad_mark
mark_by z x true = refl
mark_by z x false = refl

refused_by_lem : (t : State) (x : room.Lent) (g l : Bool)
    → ◌≡◌ {A = Cycled × room.Lent} (refused_by (number (pick g (pick l BadState BadLength) BadSetup)) t, x)
    (pick g (pick l (refused_by bad_state t, x) (refused_by bad_length t, x)) (refused_by bad_setup t, x))
refused_by_lem t x true true = refl
refused_by_lem t x true false = refl
refused_by_lem t x false l = refl

pub cycles_c : CyclesC
unfolding cycle_in asked_in
cycles_c s t op x = go (operation_in op)
  where
    marked : (o : port.Operation) (k : Bool) → mark_ok t ≡ k
        → cycle_in (pick {A = Asked} k (Ok (state_in t, o)) (Err BadMark)) s t x
        ≡ pick (in_range (with_defaults s))
        (pick (lengths_ok (with_defaults s) x)
        (pick (k && numbers_ok (with_defaults s) (state_in t) x.rows x.buffers)
        (pick (eqb t.stopped 1) (refused_by stopped t, x)
        (pick (within (with_defaults s) o) (cycled_with (passed (with_defaults s) (state_in t) o x)) (refused_by bad_address t, x)))
        (refused_by bad_state t, x))
        (refused_by bad_length t, x))
        (refused_by bad_setup t, x)
    marked o true h =
        ap cycled_with (refuses_in_order s (state_in t) o x)
        ∙ cycle_by t x (passed (with_defaults s) (state_in t) o x) h (in_range (with_defaults s)) (lengths_ok (with_defaults s) x)
        (numbers_ok (with_defaults s) (state_in t) x.rows x.buffers) (eqb t.stopped 1) (within (with_defaults s) o)
    marked o false h =
        ap (λ (r : Refusal). (refused_by (number r) t, x)) (mark_by (with_defaults s) x (in_range (with_defaults s)))
        ∙ refused_by_lem t x (in_range (with_defaults s)) (lengths_ok (with_defaults s) x)

    go : (r : Result port.Operation Refusal) → cycle_in (asked_in r t) s t x ≡ in_order r s t x
    go (Err r) = refl
    go (Ok o) = marked o (mark_ok t) refl

-- it answers n, and tells this count where n is 0
abbrev Tells : ℕ → ℕ → Told → Type 0
Tells n count w = (w.answer ≡ n) × (w.count ≡ pick (eqb w.answer done) count 0)

mark_told : (count : ℕ) (g l : Bool)
    → Tells (pick g (pick l bad_state bad_length) bad_setup) count (told_out (number (pick g (pick l BadState BadLength) BadSetup)) 0)
mark_told count true true = (refl, refl)
mark_told count true false = (refl, refl)
mark_told count false l = (refl, refl)

pub asks_c : AsksC
unfolding waiting_out
asks_c s t b x = go (mark_ok t)
  where
    go : (k : Bool)
        → Tells
        (pick (in_range (with_defaults s)) (pick (lengths_ok (with_defaults s) x) (pick (k && numbers_ok (with_defaults s) (state_in t) x.rows x.buffers) (pick (ltb b (banks_of (with_defaults s))) done bad_address) bad_state) bad_length) bad_setup)
        (count_of x.buffers.heads b)
        (pick k (told_out (waiting_of s (state_in t) b x).answer (waiting_of s (state_in t) b x).count) (told_out (number (bad_mark (checked_of s) x)) 0))
    go true = tells_in_order s (state_in t) b x
    go false =
        subst (λ (r : Refusal). Tells (pick (in_range (with_defaults s)) (pick (lengths_ok (with_defaults s) x) bad_state bad_length) bad_setup) (count_of x.buffers.heads b) (told_out (number r) 0))
        (sym (mark_by (with_defaults s) x (in_range (with_defaults s))))
        (mark_told (count_of x.buffers.heads b) (in_range (with_defaults s)) (lengths_ok (with_defaults s) x))

Whole : State → room.Lent → Cycled × room.Lent → Type 0
Whole t x w = NotRefused w.0.reply.answer ⊎ (w ≡ (refused_by w.0.reply.answer t, x))

-- w is what the controller returned and left
with_whole : (t : State) (x : room.Lent) (w : cycling.Cycled × room.Lent) → mark_ok t ≡ true
    → NotRefused w.0.reply.answer ⊎ (w ≡ refused w.0.reply.answer (state_in t) x) → Whole t x (cycled_with w)
unfolding Whole
with_whole t x w h (inl p) = inl p
with_whole t x w h (inr e) =
    inr
    (ap cycled_with e
    ∙ ap (λ (r : Cycled). (r, x)) (refused-out w.0.reply.answer (state_in t))
    ∙ ap (λ (k : State). (refused_by w.0.reply.answer k, x)) (state_there t h))

-- r is what the numbers of the operation mean, b whether the mark is in range
pub refuses_c : RefusesC
unfolding Whole cycle_in asked_in
refuses_c s t op x = go (operation_in op)
  where
    marked : (o : port.Operation) (b : Bool) → mark_ok t ≡ b → Whole t x (cycle_in (pick {A = Asked} b (Ok (state_in t, o)) (Err BadMark)) s t x)
    marked o true h = with_whole t x (cycle_of s (state_in t) o x) h (refuses_whole s (state_in t) o x)
    marked o false h = inr refl

    go : (r : Result port.Operation Refusal) → Whole t x (cycle_in (asked_in r t) s t x)
    go (Err r) = inr refl
    go (Ok o) = marked o (mark_ok t) refl
