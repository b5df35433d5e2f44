-- A contract that equates the result, with every lent slice at exit, with a definition allows one result. Assumes nothing.
use mathlib.Core.Path.{◌≡◌, refl, ap, ◌∙⁻¹◌}
use Rattle.model.specs.Lent.{Lent}
use Rattle.records.proofs.OneResult.{operation_from-one, read_operation_one, write_operation_one}
use Rattle.setuprecord.proofs.OneResult.{read-setup_one, write-setup_one}
use Rattle.sheet.specs.Unique.{Exported, ExportedToC, BelowTheCalls}

-- the result, and what is left in the lent slices, of two that are one
module _ {A B : Type 0} {x y : A} {u v : B} {z : A × B} (p : (x, u) ≡ z) (q : (y, v) ≡ z) where
  result_same : x ≡ y
  result_same = ap (λ w. w.0) (p ∙⁻¹ q)

  left_same : u ≡ v
  left_same = ap (λ w. w.1) (p ∙⁻¹ q)

pub exported : Exported
exported =
    record {
      checked = λ _ _ _ _ _ _ p q. (p.0 ∙⁻¹ q.0, refl);
      operation_from = operation_from-one;
      read_operation = read_operation_one;
      write_operation = write_operation_one;
      read-setup = read-setup_one;
      write-setup = write-setup_one;
      fresh_start = λ _ _ _ _ _ _ p q.
          (result_same p q, ap (λ (x : Lent). (tt, (tt, (tt, (x.rows, (tt, (x.buffers.heads, tt))))))) (left_same p q));
      cycle = λ _ _ _ _ _ _ p q.
          (result_same p q, ap (λ (x : Lent). (tt, (tt, (tt, (x.memory, (x.rows, (x.buffers.entries, (x.buffers.heads, tt)))))))) (left_same p q));
      waiting = λ _ _ _ _ _ _ p q. (p ∙⁻¹ q, refl);
    }

pub exported_to_c : ExportedToC
exported_to_c =
    record {
      check = λ _ _ _ _ _ _ p q. (p ∙⁻¹ q, refl);
      lengths = λ _ _ _ _ _ _ p q. (p ∙⁻¹ q, refl);
      fresh_start = λ _ _ _ _ _ _ p q.
          (result_same p q, ap (λ (x : Lent). (tt, (tt, (tt, (x.rows, (tt, (x.buffers.heads, tt))))))) (left_same p q));
      cycle = λ _ _ _ _ _ _ p q.
          (result_same p q, ap (λ (x : Lent). (tt, (tt, (tt, (x.memory, (x.rows, (x.buffers.entries, (x.buffers.heads, tt)))))))) (left_same p q));
      waiting = λ _ _ _ _ _ _ p q. (p ∙⁻¹ q, refl);
      read-setup = λ _ _ _ _ _ _ p q. (p ∙⁻¹ q, refl);
      write-setup = λ _ _ _ _ _ _ p q. (result_same p q, ap (λ room. (tt, (room, tt))) (left_same p q));
      read_operation = λ _ _ _ _ _ _ p q. (p ∙⁻¹ q, refl);
      write_operation = λ _ _ _ _ _ _ p q. (result_same p q, ap (λ room. (tt, (room, tt))) (left_same p q));
    }

pub below_the_calls : BelowTheCalls
below_the_calls =
    record {
      setup-map = λ _ _ _ _ _ _ p q. (p ∙⁻¹ q, refl);
      setup-words = λ _ _ _ _ _ _ p q. (p ∙⁻¹ q, refl);
      setup_banks = λ _ _ _ _ _ _ p q. (p ∙⁻¹ q, refl);
      map-words = λ _ _ _ _ _ _ p q. (p ∙⁻¹ q, refl);
      map_banks = λ _ _ _ _ _ _ p q. (p ∙⁻¹ q, refl);
      cell = λ _ _ _ _ _ _ p q. (p ∙⁻¹ q, refl);
      bank = λ _ _ _ _ _ _ p q. (p ∙⁻¹ q, refl);
      row = λ _ _ _ _ _ _ p q. (p ∙⁻¹ q, refl);
      in_bank = λ _ _ _ _ _ _ p q. (p ∙⁻¹ q, refl);
    }
