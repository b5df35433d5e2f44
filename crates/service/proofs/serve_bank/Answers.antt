-- `service::serve_bank` meets its contract: with nothing waiting nothing changes, else the oldest entry is carried out. Assumes nothing.
use Prim.Native.Nat.{ℕ, ◌<◌}
use mathlib.Core.Path.{◌≡◌, sym, ap, ◌∙◌}
use mathlib.Core.List.{List}
use lib.ListN.{length}
use Rattle.setup.specs.Setup.{banks_of}
use Rattle.setup.specs.declared.Setup.{Setup}
use Rattle.model.specs.declared.Entry.{Entry}
use Rattle.model.specs.Lent.{lent, buffers_in, write_entry, count_of}
use Rattle.model.specs.Cycle.{carried, oldest_entry, popped, served_bank}
use Rattle.model.specs.Range.{Good}
use Rattle.model.proofs.Service.{served_none, served-some}
use Rattle.model.proofs.Good.{oldest_at_cell, oldest_at_row}
use borrow.Author.Rules.{rules}
use Rattle.service.proofs.serve_bank.Goals as goal

-- n is the count of bank b's buffer, and e the oldest entry, as it was read
module _ (s : Setup) (b : ℕ) (memory rows entries heads : List ℕ) (n : ℕ) (en : n ≡ count_of heads b) where
  serve_none : n ≡ 0 → lent memory rows entries heads ≡ served_bank s b (lent memory rows entries heads)
  serve_none h = sym (served_none s b (lent memory rows entries heads) (sym en ∙ h))

  carry-cell : {e : Entry} → Good s (lent memory rows entries heads) → b < banks_of s → (n ≡ 0 → ⊥) → e ≡ oldest_entry s b (buffers_in entries heads)
      → e.cell.0 < length memory
  carry-cell g l h p = oldest_at_cell s memory rows entries heads g b l (λ z. h (en ∙ z)) p

  carry-row : {e : Entry} → Good s (lent memory rows entries heads) → b < banks_of s → (n ≡ 0 → ⊥) → e ≡ oldest_entry s b (buffers_in entries heads)
      → (e.kind ≡ write_entry → ⊥) → e.row < s.c
  carry-row g l h p = oldest_at_row s memory rows entries heads g b l (λ z. h (en ∙ z)) p

  serve-some : {e : Entry} {memory' rows' heads' : List ℕ} → (n ≡ 0 → ⊥) → e ≡ oldest_entry s b (buffers_in entries heads) → heads' ≡ popped s b heads
      → (memory', rows') ≡ carried s e (memory, rows)
      → lent memory' rows' entries heads' ≡ served_bank s b (lent memory rows entries heads)
  serve-some {e} {memory'} {rows'} {heads'} h p q r =
      let w : (memory', rows') ≡ carried s (oldest_entry s b (buffers_in entries heads)) (memory, rows) = r ∙ ap (λ (x : Entry). carried s x (memory, rows)) p in
      rw (served-some s b (lent memory rows entries heads) (λ z. h (en ∙ z)), ← w, q)

pub returns-then-count_at-eq0 : goal.returns-then-count_at-eq0
returns-then-count_at-eq0 c = search (serve_none)

pub carry-requires : goal.carry-requires
carry-requires c = (search rules, search rules, search (carry-cell), search (carry-row))

pub returns : goal.returns
returns c = search (serve-some)
