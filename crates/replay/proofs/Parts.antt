-- The input may be cut into parts behind any record. Assumes nothing.
use Rattle.std.specs.Prelude.{Result, Ok, Err}
use Prim.Native.Nat.{ℕ, zero, suc, ◌+◌, ◌*◌, ◌≤◌, ◌<◌}
use mathlib.Core.Path.{◌≡◌, refl, ap, ◌∙◌}
use mathlib.Core.Bool.{Bool, true, false}
use mathlib.Core.List.{List, ◌++◌, append_assoc, append-nil}
use native.Mathlib.Nat.{add-zero, add-suc}
use native.Mathlib.Omega.{arith}
use lib.ListN.{length, drop, length-append, length-drop}
use lib.Seq.{take-append-le, drop-append-le, drop-append-add}
use Rattle.choice.specs.Choice.{pick}
use Rattle.answers.specs.declared.Refusal.{Refusal}
use Rattle.setup.specs.declared.Setup.{Setup}
use Rattle.port.specs.declared.Operation.{Operation}
use Rattle.records.specs.Records.{operation_size, operation_of}
use Rattle.replay.specs.Replay.{Listed, with_record, record_at, records_in, listed_below, listed}
use Rattle.replay.specs.Parts.{apart, behind, InParts}

------------------------------------------------------------------------
-- The records of two parts

module _ (p q : List ℕ) (n : ℕ) (l : length p ≡ operation_size * n) where
  first_record : (i : ℕ) → i < n → record_at (p ++ q) i ≡ record_at p i
  first_record i h =
      let a : drop (operation_size * i) (p ++ q) ≡ drop (operation_size * i) p ++ q = drop-append-le (operation_size * i) p q (omega arith) in
      rw a (take-append-le operation_size (drop (operation_size * i) p) q (omega (arith, length-drop (operation_size * i) p)))

  later_record : (i : ℕ) → record_at (p ++ q) (n + i) ≡ record_at q i
  later_record i =
      let e : operation_size * (n + i) ≡ length p + operation_size * i = omega arith in
      rw (e, drop-append-add p q (operation_size * i))

  records_add : records_in (length (p ++ q)) ≡ n + records_in (length q)
  records_add = rw (length-append p q, l) (omega arith)

  records_first : records_in (length p) ≡ n
  records_first = rw l (omega arith)

------------------------------------------------------------------------
-- One part and then the other

-- one record more, where it reads as p
abbrev next : Setup → Result Operation Refusal → Listed → Listed
next s p y = pick y.on (with_record s p y) y

module _ (s : Setup) (p q : List ℕ) (n : ℕ) (l : length p ≡ operation_size * n) (x : Listed) where
  first_below : (i : ℕ) → i ≤ n → listed_below s (p ++ q) i x ≡ listed_below s p i x
  unfolding listed_below
  first_below zero h = refl
  first_below (suc i) h =
      ap (λ (r : List ℕ). next s (operation_of r) (listed_below s (p ++ q) i x)) (first_record p q n l i (omega arith))
      ∙ ap (λ (y : Listed). next s (operation_of (record_at p i)) y) (first_below i (omega arith))

  later_below : (i : ℕ) → listed_below s (p ++ q) (n + i) x ≡ listed_below s q i (listed_below s p n x)
  unfolding listed_below
  later_below zero = rw (add-zero n) (first_below n (omega arith))
  later_below (suc i) =
      rw (add-suc n i)
      (ap (λ (r : List ℕ). next s (operation_of r) (listed_below s (p ++ q) (n + i) x)) (later_record p q n l i)
      ∙ ap (λ (y : Listed). next s (operation_of (record_at q i)) y) (later_below i))

  one-after_other : listed s (p ++ q) x ≡ listed s q (listed s p x)
  one-after_other = rw (records_add p q n l, records_first p q n l) (later_below (records_in (length q)))

------------------------------------------------------------------------
-- The text before stands in front

record_behind : (s : Setup) (p : Result Operation Refusal) (text : List ℕ) (y : Listed) → with_record s p (behind text y) ≡ behind text (with_record s p y)
unfolding with_record
record_behind s (Err e) text y = rw append_assoc
record_behind s (Ok op) text y = rw append_assoc

picked_behind : (b : Bool) (text : List ℕ) (y u v : Listed) → v ≡ behind text u → pick b v (behind text y) ≡ behind text (pick b u y)
picked_behind true text y u v e = e
picked_behind false text y u v e = refl

next-behind : (s : Setup) (p : Result Operation Refusal) (text : List ℕ) (y : Listed) → next s p (behind text y) ≡ behind text (next s p y)
next-behind s p text y = picked_behind y.on text y _ _ (record_behind s p text y)

below-behind : (s : Setup) (q : List ℕ) (i : ℕ) (text : List ℕ) (x : Listed) → listed_below s q i (behind text x) ≡ behind text (listed_below s q i x)
unfolding listed_below
below-behind s q zero text x = refl
below-behind s q (suc i) text x =
    ap (λ (y : Listed). next s (operation_of (record_at q i)) y) (below-behind s q i text x)
    ∙ next-behind s (operation_of (record_at q i)) text (listed_below s q i x)

own_text : (y : Listed) → y ≡ behind y.text (apart y)
own_text y = rw (append-nil y.text)

pub in_parts : InParts
in_parts s p q n x l =
    let y : Listed = listed s p x in
    let e : y ≡ behind y.text (apart y) = own_text y in
    one-after_other s p q n l x ∙ ap (λ (z : Listed). listed s q z) e ∙ below-behind s q (records_in (length q)) y.text (apart y)
