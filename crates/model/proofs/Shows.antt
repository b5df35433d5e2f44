-- The machine over lent slices is the machine by position: a fresh start, a cycle and what waits are shown alike. Assumes nothing.
use Prim.Native.Nat.{ℕ, suc, ◌-◌, ◌<◌}
use native.Mathlib.Omega.{arith}
use mathlib.Core.Path.{◌≡◌, refl, sym, ap, ◌∙◌}
use mathlib.Core.Logic.{⊎_elim}
use mathlib.Core.Bool.{Bool, true, false, cond}
use mathlib.Core.List.{List}
use lib.ListN.{length, get_or, replicate, length-replicate, get_or-eq_default}
use Rattle.answers.specs.Answers.{done, dropped}
use Rattle.choice.specs.Choice.{pick}
use Rattle.setup.specs.Setup.{Ranges, merging, banks_of}
use Rattle.setup.specs.declared.Setup.{Setup}
use Rattle.port.specs.declared.Operation.{Operation}
use Rattle.port.specs.declared.Delivery.{Delivery}
use Rattle.model.specs.declared.State.{State}
use Rattle.model.specs.declared.Plan.{Plan}
use Rattle.model.specs.Lent.{Lent, Buffers, row_at, count_of}
use Rattle.model.specs.Range.{lengths_of, Good, Ready}
use Rattle.model.specs.Cycle.{served, delivered, retired, planned, arrived, next_state, going, with_memory, after_service, passed}
use Rattle.model.specs.Calls.{address_ok, fresh_state, fresh_lent}
use Rattle.choice.proofs.Tests.{below_or_not}
use Rattle.model.proofs.Good.{with_buffers}
use Rattle.model.proofs.Service.{served_good}
use Rattle.model.proofs.Arrival.{retired_good, with_arrived}
use Rattle.model.proofs.Ready.{c_least_one, fresh-row, fresh-count}
use Rattle.model.proofs.Lists.{below_constant}
use Rattle.model.proofs.Config.{config_of, shown_op, shown_delivery}
use Rattle.model.proofs.Shown.{shown_row, shown, shown_run, same_machine}
use Rattle.model.proofs.ShownBuffers.{length-shown, none_shown}
use Rattle.model.proofs.ShownService.{service_shown}
use Rattle.model.proofs.ShownCycle.{delivery_shown, shown_kept, retirement_shown, retired_unmoved, arrival_shown}
use Rattle.theory.proofs.Machine.{none}
use Rattle.theory.proofs.Concrete.{CSt, on, off, CLanded, fresh_c, deliver_c, finish_c, cycle_c, answer_c?, reply_c, retire_c}

------------------------------------------------------------------------
-- How many entries wait at bank b

pub waiting_shown : (s : Setup) (t : State) (x : Lent) (b : ℕ) → length ((shown s t x).buf b) ≡ count_of x.buffers.heads b
waiting_shown s t x b = length-shown s x.buffers b

------------------------------------------------------------------------
-- On where the state is not marked stopped

module _ (s : Setup) (t : State) (x : Lent) where
  pub on_shown : t.stopped ≡ false → shown_run s t x ≡ on (shown s t x)
  on_shown e = ap (λ (b : Bool). pick b (off (shown s t x)) (on (shown s t x))) e

------------------------------------------------------------------------
-- A fresh start

-- nothing waits, at none of the B banks nor past them
fresh_none : (s : Setup) (b : ℕ) → count_of (replicate (lengths_of s).heads 0) b ≡ 0
fresh_none s b =
    ⊎_elim
    (fresh-count s b)
    (λ l. get_or-eq_default (replicate (lengths_of s).heads 0) 0 (omega (arith, length-replicate {A = ℕ} (lengths_of s).heads 0)))
    (below_or_not b (banks_of s))

pub fresh-shown : (s : Setup) (x : Lent) → Ranges s
    → shown_run s fresh_state (fresh_lent s x) ≡ on (fresh_c (config_of s) (λ c. get_or x.memory c 0))
fresh-shown s x r =
    let n : s.c ≡ suc (s.c - 1) = omega (arith, c_least_one s r) in
    ap on
    (same_machine
    (λ b. none_shown s (fresh_lent s x).buffers b (fresh_none s b))
    (λ a. refl)
    (below_constant s.c (λ i. shown_row s (row_at s.c (replicate (lengths_of s).rows 0) i)) none (λ i l. ap (shown_row s) (fresh-row s i l))
    ∙ ap (λ (c : ℕ). replicate c none) n)
    refl
    refl)

------------------------------------------------------------------------
-- A cycle that passes

taken-answer : (b : Bool) → cond b done dropped ≡ pick b done dropped
taken-answer true = refl
taken-answer false = refl

going_delivery : (s : Setup) (t : State) (p : Plan) (d : Delivery) (rows : List ℕ) (w : Bool × Buffers) → (going s t p d rows w).0.reply.delivery ≡ d
going_delivery s t p d rows (true, q) = refl
going_delivery s t p d rows (false, q) = refl

-- what is left of a cycle once retirement has left w
module _ (s : Setup) (t : State) (op : Operation) (x : Lent) (ok : address_ok s op ≡ true) (turn : t.turn < s.m) (position : t.position < s.c) where
  abbrev plan : Plan
  plan = planned s t.position op x.rows

  going-answer : (d : Delivery) (w : Bool × Buffers) → Good s (with_buffers w.1 x)
      → answer_c? (merging s) (config_of s) s.k (shown_op s op) (shown_kept s t x w) ≡ (going s t plan d x.rows w).0.reply.answer
  going-answer d (true, q) g =
      ap (λ (l : CLanded ℕ). cond l.taken done dropped) (arrival_shown s t turn position (with_buffers q x) g op ok)
      ∙ taken-answer (arrived s t.position plan x.rows q).0
  going-answer d (false, q) g = refl

  going_state : (d : Delivery) (w : Bool × Buffers) → Good s (with_buffers w.1 x) → (w.0 ≡ false → w.1 ≡ x.buffers) → t.stopped ≡ false
      → finish_c (merging s) (config_of s) s.k (shown_op s op) (shown s t x) (shown_kept s t x w)
      ≡ shown_run s (going s t plan d x.rows w).0.state (with_memory x.memory (going s t plan d x.rows w)).1
  going_state d (true, q) g u e =
      ap (λ (l : CLanded ℕ). on l.st) (arrival_shown s t turn position (with_buffers q x) g op ok)
      ∙ sym (on_shown s (next_state s t) (with_arrived (arrived s t.position plan x.rows q) x) e)
  going_state d (false, q) g u e = ap (λ (p : Buffers). off (shown s t (with_buffers p x))) (sym (u refl))

module _ (s : Setup) (t : State) (op : Operation) (x : Lent) (r : Ready s t x) where
  pub passed_delivery : (reply_c (merging s) (config_of s) s.k (shown_op s op) (on (shown s t x))).delivery
      ≡ shown_delivery (passed s t op x).0.reply.delivery
  unfolding passed after_service
  passed_delivery =
      let y : Lent = served s t.turn x in
      ap (deliver_c (config_of s)) (service_shown s t x r.good)
      ∙ delivery_shown s t y (served_good s t.turn x r.good) r.position
      ∙ ap shown_delivery
      (sym (going_delivery s t (planned s t.position op y.rows) (delivered s t.position y.rows) y.rows (retired s t.position y.rows y.buffers)))

  module _ (ok : address_ok s op ≡ true) where
    pub passed-answer : (reply_c (merging s) (config_of s) s.k (shown_op s op) (on (shown s t x))).answer ≡ (passed s t op x).0.reply.answer
    unfolding passed after_service
    passed-answer =
        let y : Lent = served s t.turn x in
        let g : Good s y = served_good s t.turn x r.good in
        ap (λ (c : CSt ℕ). answer_c? (merging s) (config_of s) s.k (shown_op s op) (retire_c (merging s) (config_of s) s.k c))
        (service_shown s t x r.good)
        ∙ ap (answer_c? (merging s) (config_of s) s.k (shown_op s op)) (retirement_shown s t y g r.position)
        ∙ going-answer s t op y ok r.turn r.position (delivered s t.position y.rows)
        (retired s t.position y.rows y.buffers)
        (retired_good s t.position y g)

    pub passed_state : t.stopped ≡ false
        → cycle_c (merging s) (config_of s) s.k (shown_op s op) (on (shown s t x)) ≡ shown_run s (passed s t op x).0.state (passed s t op x).1
    unfolding passed after_service
    passed_state e =
        let y : Lent = served s t.turn x in
        let g : Good s y = served_good s t.turn x r.good in
        ap (λ (c : CSt ℕ). finish_c (merging s) (config_of s) s.k (shown_op s op) c (retire_c (merging s) (config_of s) s.k c))
        (service_shown s t x r.good)
        ∙ ap (finish_c (merging s) (config_of s) s.k (shown_op s op) (shown s t y)) (retirement_shown s t y g r.position)
        ∙ going_state s t op y ok r.turn r.position (delivered s t.position y.rows)
        (retired s t.position y.rows y.buffers)
        (retired_good s t.position y g)
        (retired_unmoved s t.position y.rows y.buffers)
        e
