-- One call of the machine that nothing refuses: its answer, and the state and stamp by the answer. Assumes nothing.
use Prim.Native.Nat.{ℕ}
use mathlib.Core.Path.{◌≡◌, refl}
use mathlib.Core.Logic.{inl, inr}
use mathlib.Core.Bool.{Bool, true, false}
use mathlib.Core.List.{List}
use lib.Dec.{eqb}
use Rattle.answers.specs.Answers.{stopping}
use Rattle.choice.specs.Choice.{pick}
use Rattle.setup.specs.declared.Setup.{Setup}
use Rattle.port.specs.declared.Operation.{Operation}
use Rattle.port.specs.declared.Delivery.{Delivery}
use Rattle.model.specs.declared.State.{State}
use Rattle.model.specs.declared.Plan.{Plan}
use Rattle.model.specs.Lent.{Lent, Buffers}
use Rattle.model.specs.Cycle.{served, delivered, retired, planned, Arrived, arrived, next_state, stopped_state, finished, going, after_service, with_memory, passed}
use Rattle.model.specs.Promises as P

-- the state that a cycle leaves: the stop's where it answers 6, else the next
abbrev pub state_by : Setup → State → ℕ → State
state_by s t answer = pick (eqb answer stopping) (stopped_state t) (next_state s t)

module _ (s : Setup) (t : State) where
  finished_state : (d : Delivery) (memory : List ℕ) (w : Arrived)
      → (with_memory memory (finished s t d w)).0.state ≡ state_by s t (with_memory memory (finished s t d w)).0.reply.answer
  finished_state d memory (true, w) = refl
  finished_state d memory (false, w) = refl

  going_state : (p : Plan) (d : Delivery) (memory rows : List ℕ) (w : Bool × Buffers)
      → (with_memory memory (going s t p d rows w)).0.state ≡ state_by s t (with_memory memory (going s t p d rows w)).0.reply.answer
  going_state p d memory rows (true, q) = finished_state d memory (arrived s t.position p rows q)
  going_state p d memory rows (false, q) = refl

  going_stamp : (p : Plan) (d : Delivery) (memory rows : List ℕ) (w : Bool × Buffers) → (with_memory memory (going s t p d rows w)).0.reply.stamp ≡ t.stamp
  going_stamp p d memory rows (true, q) = refl
  going_stamp p d memory rows (false, q) = refl

  -- a cycle that nothing refuses answers 0, 5 or 6
  finished-answer : (d : Delivery) (memory : List ℕ) (w : Arrived) → P.NotRefused (with_memory memory (finished s t d w)).0.reply.answer
  finished-answer d memory (true, w) = inl refl
  finished-answer d memory (false, w) = inr (inl refl)

  going-answer : (p : Plan) (d : Delivery) (memory rows : List ℕ) (w : Bool × Buffers) → P.NotRefused (with_memory memory (going s t p d rows w)).0.reply.answer
  going-answer p d memory rows (true, q) = finished-answer d memory (arrived s t.position p rows q)
  going-answer p d memory rows (false, q) = inr (inr refl)

  pub passed-answer : (op : Operation) (x : Lent) → P.NotRefused (passed s t op x).0.reply.answer
  unfolding passed after_service
  passed-answer op x =
      let y : Lent = served s t.turn x in
      going-answer (planned s t.position op y.rows) (delivered s t.position y.rows) y.memory y.rows (retired s t.position y.rows y.buffers)

  pub passed_state : (op : Operation) (x : Lent) → (passed s t op x).0.state ≡ state_by s t (passed s t op x).0.reply.answer
  unfolding passed after_service
  passed_state op x =
      let y : Lent = served s t.turn x in
      going_state (planned s t.position op y.rows) (delivered s t.position y.rows) y.memory y.rows (retired s t.position y.rows y.buffers)

  pub passed_stamp : (op : Operation) (x : Lent) → (passed s t op x).0.reply.stamp ≡ t.stamp
  unfolding passed after_service
  passed_stamp op x =
      let y : Lent = served s t.turn x in
      going_stamp (planned s t.position op y.rows) (delivered s t.position y.rows) y.memory y.rows (retired s t.position y.rows y.buffers)
