-- A record's line behind the text of the records before it. Assumes nothing.
use Rattle.std.specs.Prelude.{Result, Ok, Err}
use Prim.Native.Nat.{ℕ, zero, suc, ◌+◌, ◌-◌, ◌*◌, ◌≤◌, min}
use mathlib.Core.Path.{◌≡◌, refl, sym, ap, ◌∙◌}
use mathlib.Core.Bool.{Bool, true, false}
use mathlib.Core.List.{List, ◌++◌}
use native.Mathlib.Omega.{arith}
use native.Mathlib.Numerals.{add-one}
use native.Mathlib.Nat.{eq-zero-or-pos, min-eq_left, min-eq_right}
use mathlib.Core.Logic.{⊎_elim}
use lib.ListN.{length, take, drop, length-append, length-drop}
use lib.Seq.{take_all}
use Rattle.choice.specs.Choice.{pick}
use Rattle.answers.specs.declared.Refusal.{Refusal}
use Rattle.setup.specs.declared.Setup.{Setup}
use Rattle.port.specs.declared.Operation.{Operation}
use Rattle.port.specs.declared.Delivery.{Delivery}
use Rattle.model.specs.declared.State.{State}
use Rattle.model.specs.Lent.{Lent}
use Rattle.model.specs.Runs.{Machine}
use Rattle.records.specs.Records.{operation_size, operation_of}
use Rattle.decimal.specs.Decimal.{stored}
use Rattle.listing.specs.Listing.{line_of}
use Rattle.decimal.proofs.Stores.{stored_none, stored-after}
use Rattle.replay.specs.declared.Run.{Run}
use Rattle.replay.specs.Replay.{Listed, with_line, with_record, record_at, records_in, listed_below, listed, listed_from, put_at, put_line}
use Rattle.replay.specs.Parts.{apart}

------------------------------------------------------------------------
-- One record. p is what the record reads as

pub line_put : (r : Run) (t : State) (answer : ℕ) (d : Delivery) (on : Bool) (room room' : List ℕ) (end : ℕ)
    → room' ≡ stored room r.end (line_of r.number answer d) → end ≡ r.end + length (line_of r.number answer d)
    → (record { state = t; number = r.number + 1; on = on; end = end }, room') ≡ put_line room r t answer d on
line_put r t answer d on room room' end e a = cc

------------------------------------------------------------------------
-- One record more. y is the run so far, as the code holds it

-- the run after one more record, from what the code holds
abbrev stepped : Setup → Result Operation Refusal → Run × (Lent × List ℕ) → Run × (Lent × List ℕ)
stepped s p w = put_at w.1.1 w.0.end (with_record s p (listed_from w.0 w.1.0))

-- a line put behind a text is the text with the line
line_behind : (room : List ℕ) (y : Listed) (answer : ℕ) (d : Delivery) (on : Bool) (w : Machine)
    → put_at (stored room 0 y.text) (0 + length y.text) (with_line (apart y) answer d on w) ≡ put_at room 0 (with_line y answer d on w)
line_behind room y answer d on w =
    let line : List ℕ = line_of y.number answer d in
    let l : (0 + length y.text) + length line ≡ 0 + length (y.text ++ line) = rw (length-append y.text line) (omega arith) in
    rw (l, stored-after room 0 y.text line (omega arith))

stepped-behind : (s : Setup) (p : Result Operation Refusal) (room : List ℕ) (y : Listed) → stepped s p (put_at room 0 y) ≡ put_at room 0 (with_record s p y)
unfolding with_record
stepped-behind s (Err e) room y = line_behind room y _ _ _ _
stepped-behind s (Ok op) room y = line_behind room y _ _ _ _

-- counted on, whatever the record is
counted : (s : Setup) (p : Result Operation Refusal) (x : Listed) → (with_record s p x).number ≡ x.number + 1
unfolding with_record
counted s (Err e) x = refl
counted s (Ok op) x = refl

pub number_next : (s : Setup) (bytes : List ℕ) (r r' : Run) (m m' : Lent) (room room' : List ℕ) (i n : ℕ)
    → (r', (m', room')) ≡ put_at room r.end (with_record s (operation_of bytes) (listed_from r m))
    → r.number ≡ n + i → r'.number ≡ n + (i + 1)
number_next s bytes r r' m m' room room' i n e h =
    omega (arith, ap (λ (w : Run × (Lent × List ℕ)). w.0.number) e, counted s (operation_of bytes) (listed_from r m))

picked : {A : Type 0} (b : Bool) (u v : A) → b ≡ true → pick b u v ≡ u
picked b u v h = rw h

passed_by : {A : Type 0} (b : Bool) (u v : A) → b ≡ false → pick b u v ≡ v
passed_by b u v h = rw h

picked_most : (b : Bool) (u v : Listed) (n : ℕ) → u.number ≤ n → v.number ≤ n → (pick b u v).number ≤ n
picked_most true u v n h k = h
picked_most false u v n h k = k

module _ (s : Setup) (input : List ℕ) (i : ℕ) (x : Listed) where
  -- a run that goes on takes the next record
  below_on : (listed_below s input i x).on ≡ true → listed_below s input (suc i) x ≡ with_record s (operation_of (record_at input i)) (listed_below s input i x)
  unfolding listed_below
  below_on h = picked (listed_below s input i x).on _ _ h

  -- one that has ended stays as it is
  below_off : (listed_below s input i x).on ≡ false → listed_below s input (suc i) x ≡ listed_below s input i x
  unfolding listed_below
  below_off h = passed_by (listed_below s input i x).on _ _ h

-- nothing printed yet
pub listed_none : (s : Setup) (input room : List ℕ) (r : Run) (m : Lent) → r.end ≡ 0 → (r, (m, room)) ≡ put_at room 0 (listed_below s input 0 (listed_from r m))
unfolding listed_below
listed_none s input room r m h = rw (stored_none room 0, ← h)

module _ (s : Setup) (input : List ℕ) (x : Listed) (room₀ : List ℕ) (i : ℕ) (r : Run) (m : Lent) (room : List ℕ)
    (e : (r, (m, room)) ≡ put_at room₀ 0 (listed_below s input i x)) where
  pub listed_next : {r' : Run} {m' : Lent} {room' : List ℕ} (bytes : List ℕ) → r.on ≡ true → bytes ≡ record_at input i
      → (r', (m', room')) ≡ put_at room r.end (with_record s (operation_of bytes) (listed_from r m))
      → (r', (m', room')) ≡ put_at room₀ 0 (listed_below s input (i + 1) x)
  unfolding listed_below
  listed_next {r'} {m'} {room'} bytes h b z =
      let y : Listed = listed_below s input i x in
      let p : Result Operation Refusal = operation_of (record_at input i) in
      let on : y.on ≡ true = sym (ap (λ (w : Run × (Lent × List ℕ)). w.0.on) e) ∙ h in
      let q : (r', (m', room')) ≡ stepped s p (r, (m, room)) = z ∙ ap (λ (l : List ℕ). stepped s (operation_of l) (r, (m, room))) b in
      rw (add-one, below_on s input i x on) (q ∙ ap (λ (w : Run × (Lent × List ℕ)). stepped s p w) e ∙ stepped-behind s p room₀ y)

------------------------------------------------------------------------
-- The end of a part

module _ (s : Setup) (input : List ℕ) (x : Listed) where
  ended : (n i : ℕ) → i ≤ n → (listed_below s input i x).on ≡ false → listed_below s input n x ≡ listed_below s input i x
  ended zero i l h = let z : i ≡ 0 = omega arith in rw z
  ended (suc n) i l h =
      ⊎_elim (λ z. let e : i ≡ suc n = omega arith in rw e)
      (λ z. let e : listed_below s input n x ≡ listed_below s input i x = ended n i (omega arith) h in below_off s input n x (ap (λ (y : Listed). y.on) e ∙ h) ∙ e)
      (eq-zero-or-pos (suc n - i))

  pub listed_end : (room : List ℕ) (i : ℕ) (w : Run × (Lent × List ℕ)) → records_in (length input) ≤ i → i ≤ records_in (length input)
      → w ≡ put_at room 0 (listed_below s input i x) → w ≡ put_at room 0 (listed s input x)
  listed_end room i w g l e = let z : records_in (length input) ≡ i = omega arith in rw z e

  pub listed-ended : (room : List ℕ) (i : ℕ) (r : Run) (m : Lent) (room' : List ℕ) → i ≤ records_in (length input) → r.on ≡ false
      → (r, (m, room')) ≡ put_at room 0 (listed_below s input i x) → (r, (m, room')) ≡ put_at room 0 (listed s input x)
  listed-ended room i r m room' l h e =
      let off : (listed_below s input i x).on ≡ false = sym (ap (λ (w : Run × (Lent × List ℕ)). w.0.on) e) ∙ h in
      e ∙ ap (λ (y : Listed). put_at room 0 y) (sym (ended (records_in (length input)) i l off))

  -- the records of a part are counted on at most
  number_below : (i : ℕ) → (listed_below s input i x).number ≤ x.number + i
  unfolding listed_below
  number_below zero = omega arith
  number_below (suc i) =
      picked_most (listed_below s input i x).on _ _ (x.number + suc i)
      (omega (arith, counted s (operation_of (record_at input i)) (listed_below s input i x), number_below i)) (omega (arith, number_below i))

pub number_most_lem : (s : Setup) (input : List ℕ) (r r' : Run) (m m' : Lent) (room room' : List ℕ)
    → (r', (m', room')) ≡ put_at room 0 (listed s input (listed_from r m)) → r'.number ≤ r.number + records_in (length input)
number_most_lem s input r r' m m' room room' e =
    omega (arith, ap (λ (w : Run × (Lent × List ℕ)). w.0.number) e, number_below s input (listed_from r m) (records_in (length input)))

------------------------------------------------------------------------
-- The bytes of a record

pub record_cut : (input : List ℕ) (i from to : ℕ) → from ≡ operation_size * i → to ≡ min (from + operation_size) (length input) → from ≤ length input
    → take (to - from) (drop from input) ≡ record_at input i
record_cut input i from to f t l =
    ⊎_elim
    (λ z. let a : from + operation_size ≤ length input = omega arith in
    let n : to - from ≡ operation_size = omega (arith, t ∙ min-eq_left a) in
    rw (n, f))
    (λ z. let b : length input ≤ from + operation_size = omega arith in
    let n : to ≡ length input = t ∙ min-eq_right b in
    let all : take (to - from) (drop from input) ≡ drop from input = take_all (to - from) (drop from input) (omega (arith, length-drop from input)) in
    rw (all, ← f) (sym (take_all operation_size (drop from input) (omega (arith, length-drop from input)))))
    (eq-zero-or-pos ((from + operation_size) - length input))
