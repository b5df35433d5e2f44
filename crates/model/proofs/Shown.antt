-- What the machine over lent slices shows of itself: the machine by position, whose addresses are cells and whose words are numbers. Assumes nothing.
use Prim.Native.Nat.{ℕ, zero, suc}
use mathlib.Core.Path.{◌≡◌}
use mathlib.Core.List.{List}
use lib.Dec.{eqb}
use lib.ListN.{get_or}
use Rattle.choice.specs.Choice.{pick}
use Rattle.setup.specs.declared.Setup.{Setup}
use Rattle.setup.specs.Setup.{map_of}
use Rattle.map.specs.Map.{cell_of}
use Rattle.model.specs.declared.State.{State}
use Rattle.model.specs.declared.Row.{Row}
use Rattle.model.specs.declared.Entry.{Entry}
use Rattle.model.specs.Lent.{Lent, Buffers, write_entry, row_at, count_of}
use Rattle.model.specs.Range.{waiting_entry}
use Rattle.model.proofs.Lists.{below}
use Rattle.theory.proofs.Machine.{rd, wr, none, put, got, wait}
use Rattle.theory.proofs.Machine as machine
use Rattle.theory.proofs.Concrete.{CSt, CRun, on, off}

------------------------------------------------------------------------
-- Rows and entries

-- by kind, cell, word and link
abbrev pub row_shown : ℕ → ℕ → ℕ → ℕ → machine.Row ℕ
row_shown zero c w l = none
row_shown (suc zero) c w l = put c w
row_shown (suc (suc zero)) c w l = got c w
row_shown (suc (suc (suc k))) c w l = wait c l

abbrev pub shown_row : Setup → Row → machine.Row ℕ
shown_row s r = row_shown r.kind (cell_of (map_of s) r.address).0 r.word r.link

abbrev pub shown_entry : Entry → machine.Entry ℕ
shown_entry e = pick (eqb e.kind write_entry) (wr e.cell.0 e.word) (rd e.cell.0 e.row)

------------------------------------------------------------------------
-- The machine

-- row by row
abbrev pub shown_tab : Setup → List ℕ → List (machine.Row ℕ)
shown_tab s rows = below s.c (λ i. shown_row s (row_at s.c rows i))

-- what waits at bank b, the oldest first
abbrev pub shown_buf : Setup → Buffers → ℕ → List (machine.Entry ℕ)
shown_buf s q b = below (count_of q.heads b) (λ i. shown_entry (waiting_entry s q b i))

abbrev pub shown : Setup → State → Lent → CSt ℕ
shown s t x =
    record {
      buf = shown_buf s x.buffers;
      mem = λ c. get_or x.memory c 0;
      tab = shown_tab s x.rows;
      turn = t.turn;
      pos = t.position;
    }

abbrev pub shown_run : Setup → State → Lent → CRun ℕ
shown_run s t x = pick t.stopped (off (shown s t x)) (on (shown s t x))

------------------------------------------------------------------------
-- Two machines are the same where each part is

pub same_machine : {c d : CSt ℕ} → ((b : ℕ) → c.buf b ≡ d.buf b) → ((a : ℕ) → c.mem a ≡ d.mem a) → c.tab ≡ d.tab → c.turn ≡ d.turn → c.pos ≡ d.pos
    → c ≡ d
same_machine buffers memory table turn position =
    λ i. record { buf = λ b. buffers b i; mem = λ a. memory a i; tab = table i; turn = turn i; pos = position i }
