-- `service::carry` meets its contract: a write is stored, and a read's word fills its rows. Assumes nothing.
use Prim.Native.Nat.{ℕ}
use mathlib.Core.Path.{◌≡◌, sym}
use mathlib.Core.List.{List}
use lib.ListN.{get_or, set}
use Rattle.setup.specs.declared.Setup.{Setup}
use Rattle.model.specs.declared.Entry.{Entry}
use Rattle.model.specs.Lent.{write_entry}
use Rattle.model.specs.Cycle.{filled_below, carried}
use Rattle.model.proofs.Service.{carried-write, carried-read}
use Rattle.service.proofs.carry.Goals as goal

module _ (s : Setup) (e : Entry) (memory rows : List ℕ) where
  carry-write : e.kind ≡ write_entry → (set memory e.cell.0 e.word, rows) ≡ carried s e (memory, rows)
  carry-write h = sym (carried-write s e memory rows h)

  carry-read : {rows' : List ℕ} → (e.kind ≡ write_entry → ⊥)
      → rows' ≡ filled_below s.c e.row (get_or memory e.cell.0 0) s.c rows → (memory, rows') ≡ carried s e (memory, rows)
  carry-read h p = cc (carried-read s e memory rows h)

pub returns-then-e-eq-WRITE : goal.returns-then-e-eq-WRITE
returns-then-e-eq-WRITE c = search (carry-write)

pub returns : goal.returns
returns c = search (carry-read)
