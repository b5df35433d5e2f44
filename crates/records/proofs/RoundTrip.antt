-- Reading and writing an operation turn each other round: the statements of specs/RoundTrip.antt. Assumes nothing.
use Rattle.std.specs.Prelude.{Result, Ok, Err}
use Prim.Native.Nat.{ℕ}
use mathlib.Core.Path.{◌≡◌, refl, sym, ap, ◌∙◌}
use mathlib.Core.Logic.{◌⊎◌, inl, inr}
use mathlib.Core.Bool.{Bool, true, false, ◌&&◌}
use mathlib.Core.List.{List, [], ◌∷◌, ◌++◌}
use native.Mathlib.Omega.{arith}
use lib.Dec.{eqb, lit<}
use lib.ListN.{length, drop_of_length-le}
use borrow.Author.Tests.{eqb-true}
use Rattle.answers.specs.declared.Refusal.{Refusal}
use Rattle.answers.specs.declared.Refusal.TheVariants.{BadRecord}
use Rattle.answers.specs.Answers.{done, bad_record}
use Rattle.choice.specs.Choice.{pick}
use Rattle.choice.proofs.Tests.{pick_good}
use Rattle.answers.proofs.Numbers.{number_range}
use Rattle.setup.proofs.Ranges.{and_l, and_r}
use Rattle.port.specs.declared.Operation.{Operation}
use Rattle.port.specs.declared.Operation.TheVariants.{Idle, Read, Write}
use Rattle.octets.specs.Bytes.{byte_at, Bytes, number_at, bytes_of}
use Rattle.octets.proofs.Numbers.{number_bytes, bytes_number, bytes_byte}
use Rattle.records.specs.Records.{operation_size, idle_record_kind, read_record_kind, write_record_kind, operation_zeros, good_if, operation_from, operation_of, operation_answer, operation_or, operation_layout, operation_bytes, operation_written}
use Rattle.records.specs.RoundTrip.{FitsWord, Fits, OperationReadAsWritten, OperationWrittenAsRead, OperationAnswered}

------------------------------------------------------------------------
-- Reading what was written gives it back

layout_read : (kind address word : ℕ) → FitsWord address → FitsWord word
    → operation_of (operation_layout kind address word) ≡ operation_from kind address word
unfolding operation_of bytes_of
layout_read kind address word ha hw =
    let s : List ℕ = operation_layout kind address word in
    rw (number_bytes 4 address s _ 4 ha refl, number_bytes 4 word s _ 8 hw refl)

pub operation_good : (op : Operation) → Fits op → operation_of (operation_bytes op) ≡ Ok op
unfolding operation_bytes operation_from
operation_good Idle h = layout_read idle_record_kind 0 0 (lit< tt) (lit< tt)
operation_good (Read x) h = layout_read read_record_kind x.0 0 h (lit< tt)
operation_good (Write x word) h = layout_read write_record_kind x.0 word h.0 h.1

-- a room of the record's length is written
written_there : (op : Operation) (room : List ℕ) → length room ≡ operation_size → operation_written op room ≡ (Ok tt, operation_bytes op)
unfolding operation_written
written_there op room h = rw h

pub operation_read_as_written : OperationReadAsWritten
operation_read_as_written op none room h l =
    rw (written_there op room l) (refl, ap operation_answer (operation_good op h), ap (operation_or none) (operation_good op h))

------------------------------------------------------------------------
-- Writing what was read gives the same bytes

bad_not_good : (op : Operation) → Err BadRecord ≡ Ok op → ⊥
bad_not_good op h = let z : ◌≡◌ {A = ℕ} 0 1 = cc in omega arith

-- a record that is good was chosen by its test
good_chosen : (test : Bool) (r : Result Operation Refusal) (op : Operation) → pick test r (Err BadRecord) ≡ Ok op
    → (test ≡ true) × (r ≡ Ok op)
good_chosen true r op h = (refl, h)
good_chosen false r op h = absurd (bad_not_good op h)

good_if_lem : (test : Bool) (o op : Operation) → good_if test o ≡ Ok op → (test ≡ true) × (o ≡ op)
good_if_lem test o op h = let p = good_chosen test (Ok o) op h in (p.0, cc p.1)

-- the numbers that give an operation are the ones that it is written with
layout_back : (kind address word : ℕ) (op : Operation) → operation_from kind address word ≡ Ok op
    → operation_layout kind address word ≡ operation_bytes op
unfolding operation_from operation_bytes
layout_back kind address word op h = go (eqb kind idle_record_kind) (eqb kind read_record_kind) refl refl h
  where
    go : (i r : Bool) → eqb kind idle_record_kind ≡ i → eqb kind read_record_kind ≡ r
        → pick i (good_if (eqb address 0 && eqb word 0) Idle) (pick r (good_if (eqb word 0) (Read (record { 0 = address }))) (good_if (eqb kind write_record_kind) (Write (record { 0 = address }) word))) ≡ Ok op
        → operation_layout kind address word ≡ operation_bytes op
    go true r i d g =
        let p = good_if_lem (eqb address 0 && eqb word 0) Idle op g in
        let a : address ≡ 0 = eqb-true address 0 (and_l (eqb address 0) (eqb word 0) p.0) in
        let w : word ≡ 0 = eqb-true word 0 (and_r (eqb address 0) (eqb word 0) p.0) in
        rw (eqb-true kind idle_record_kind i, a, w) (ap operation_bytes p.1)
    go false true i d g =
        let p = good_if_lem (eqb word 0) (Read (record { 0 = address })) op g in
        rw (eqb-true kind read_record_kind d, eqb-true word 0 p.0) (ap operation_bytes p.1)
    go false false i d g =
        let p = good_if_lem (eqb kind write_record_kind) (Write (record { 0 = address }) word) op g in
        rw (eqb-true kind write_record_kind p.0) (ap operation_bytes p.1)

layout_bytes : (s : List ℕ) → Bytes s → length s ≡ operation_size → byte_at s 1 ≡ 0 → byte_at s 2 ≡ 0 → byte_at s 3 ≡ 0
    → operation_layout (byte_at s 0) (number_at 4 s 4) (number_at 4 s 8) ≡ s
unfolding bytes_of
layout_bytes s b h z₁ z₂ z₃ = one_by_one
  where
    one_by_one : byte_at s 0 ∷ 0 ∷ 0 ∷ 0 ∷ (bytes_of 4 (number_at 4 s 4) ++ (bytes_of 4 (number_at 4 s 8) ++ [])) ≡ s
    one_by_one =
        cc (
          z₁,
          z₂,
          z₃,
          bytes_byte s 0 (omega arith),
          bytes_byte s 1 (omega arith),
          bytes_byte s 2 (omega arith),
          bytes_byte s 3 (omega arith),
          bytes_number 4 s 4 b (omega arith),
          bytes_number 4 s 8 b (omega arith),
          drop_of_length-le s {i = operation_size} (omega arith),
        )

good_written : (s : List ℕ) (op : Operation) → Bytes s → operation_of s ≡ Ok op → operation_bytes op ≡ s
unfolding operation_of
good_written s op b h =
    let o : Result Operation Refusal = operation_from (byte_at s 0) (number_at 4 s 4) (number_at 4 s 8) in
    let p = good_chosen (eqb (length s) operation_size && operation_zeros s) o op h in
    let z₁ : byte_at s 1 ≡ 0 = search (and_l, and_r, eqb-true) in
    let z₂ : byte_at s 2 ≡ 0 = search (and_l, and_r, eqb-true) in
    let z₃ : byte_at s 3 ≡ 0 = search (and_l, and_r, eqb-true) in
    sym (layout_back _ _ _ op p.1) ∙ layout_bytes s b (search (and_l, and_r, eqb-true)) z₁ z₂ z₃

pub operation_written_as_read : OperationWrittenAsRead
operation_written_as_read s room none b = go (operation_of s) refl
  where
    go : (r : Result Operation Refusal) → operation_of s ≡ r → operation_answer r ≡ done → length room ≡ operation_size
        → operation_written (operation_or none r) room ≡ (Ok tt, s)
    go (Ok op) e h l = written_there op room l ∙ ap (λ (x : List ℕ). (Ok tt, x)) (good_written s op b e)
    go (Err q) e h l = absurd (omega (arith, h, (number_range q).0))

Answered : Result Operation Refusal → Type 0
Answered r = (operation_answer r ≡ done) ⊎ (operation_answer r ≡ bad_record)

module _ (kind address word : ℕ) where
  good_answered : (b : Bool) (op : Operation) → Answered (good_if b op)
  unfolding Answered
  good_answered b op = pick_good Answered b (inl refl) (inr refl)

  from_answered : Answered (operation_from kind address word)
  unfolding operation_from
  from_answered =
      pick_good Answered (eqb kind idle_record_kind) (good_answered _ _)
      (pick_good Answered (eqb kind read_record_kind) (good_answered _ _) (good_answered _ _))

pub operation_answered : OperationAnswered
unfolding operation_of Answered
operation_answered s =
    pick_good Answered (eqb (length s) operation_size && operation_zeros s) (from_answered _ _ _) (inr refl)
