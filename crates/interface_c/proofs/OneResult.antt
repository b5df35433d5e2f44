-- The contract of each call that C links allows one result for each input, as that of interface's call of the same name. Assumes nothing.
use mathlib.Core.Path.{◌≡◌, refl, ap, ◌∙⁻¹◌}
use Rattle.results.specs.Results.{OneResult}
use Rattle.model.specs.Lent.{Lent}
use Rattle.interface_c.specs.contracts as contracts
use Rattle.interface_c.proofs as exports

-- the result, and what is left in the lent slices, of two that are one
module _ {A B : Type 0} {x y : A} {u v : B} {z : A × B} (p : (x, u) ≡ z) (q : (y, v) ≡ z) where
  result_same : x ≡ y
  result_same = ap (λ w. w.0) (p ∙⁻¹ q)

  left_same : u ≡ v
  left_same = ap (λ w. w.1) (p ∙⁻¹ q)

pub record LinkedByC : Type 0 where
  pub check : OneResult contracts.ridkostan_check.ended exports.ridkostan_check.Reads.Learnt
  pub lengths : OneResult contracts.ridkostan_lengths.ended exports.ridkostan_lengths.Reads.Learnt
  pub fresh_start : OneResult contracts.ridkostan_fresh_start.ended exports.ridkostan_fresh_start.Reads.Learnt
  pub cycle : OneResult contracts.ridkostan_cycle.ended exports.ridkostan_cycle.Reads.Learnt
  pub waiting : OneResult contracts.ridkostan_waiting.ended exports.ridkostan_waiting.Reads.Learnt
  pub read_setup : OneResult contracts.ridkostan_read_setup.ended exports.ridkostan_read_setup.Reads.Learnt
  pub write_setup : OneResult contracts.ridkostan_write_setup.ended exports.ridkostan_write_setup.Reads.Learnt
  pub read_operation : OneResult contracts.ridkostan_read_operation.ended exports.ridkostan_read_operation.Reads.Learnt
  pub write_operation : OneResult contracts.ridkostan_write_operation.ended exports.ridkostan_write_operation.Reads.Learnt

pub linked_by_c : LinkedByC
linked_by_c =
    record {
      check = λ _ _ _ _ _ _ p q. (p ∙⁻¹ q, refl);
      lengths = λ _ _ _ _ _ _ p q. (p ∙⁻¹ q, refl);
      fresh_start = λ _ _ _ _ _ _ p q.
          (result_same p q, ap (λ (x : Lent). (tt, (tt, (tt, (x.rows, (tt, (x.buffers.heads, tt))))))) (left_same p q));
      cycle = λ _ _ _ _ _ _ p q.
          (result_same p q, ap (λ (x : Lent). (tt, (tt, (tt, (x.memory, (x.rows, (x.buffers.entries, (x.buffers.heads, tt)))))))) (left_same p q));
      waiting = λ _ _ _ _ _ _ p q. (p ∙⁻¹ q, refl);
      read_setup = λ _ _ _ _ _ _ p q. (p ∙⁻¹ q, refl);
      write_setup = λ _ _ _ _ _ _ p q. (result_same p q, ap (λ room. (tt, (room, tt))) (left_same p q));
      read_operation = λ _ _ _ _ _ _ p q. (p ∙⁻¹ q, refl);
      write_operation = λ _ _ _ _ _ _ p q. (result_same p q, ap (λ room. (tt, (room, tt))) (left_same p q));
    }
