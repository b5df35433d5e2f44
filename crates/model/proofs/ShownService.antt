-- Service as it is shown: each bank in turn does what the machine by position does. Assumes nothing.
use Prim.Native.Nat.{ℕ, zero, suc, ◌%◌, ◌≤◌, ◌<◌}
use native.Mathlib.Nat.{le_refl}
use native.Mathlib.Omega.{arith}
use mathlib.Core.Path.{◌≡◌, refl, sym, ap, subst, ◌∙◌}
use mathlib.Core.Logic.{⊎_elim}
use mathlib.Core.Bool.{Bool, true, false, cond}
use mathlib.Core.List.{List, [], ◌∷◌}
use lib.Dec.{eqb}
use lib.ListN.{length, get_or, set}
use lib.Seq.{get_or-set_same, get_or-set_other}
use Rattle.choice.specs.Choice.{pick}
use Rattle.setup.specs.Setup.{words_of, banks_of}
use Rattle.setup.specs.declared.Setup.{Setup}
use Rattle.model.specs.declared.State.{State}
use Rattle.model.specs.declared.Entry.{Entry}
use Rattle.model.specs.Lent.{Lent, write_entry, count_of}
use Rattle.model.specs.Range.{GoodRows, Good}
use Rattle.model.specs.Cycle.{filled_below, carried, oldest_entry, with_carried, served_bank, served_if, served_below, served}
use Rattle.choice.proofs.Tests.{same_or_not}
use Rattle.model.proofs.Range.{entry_cell}
use Rattle.model.proofs.Buffers.{oldest_ok, with_popped}
use Rattle.model.proofs.Service.{served_none, served-some, served-below_good}
use Rattle.model.proofs.Shown.{shown_entry, shown_tab, shown_buf, shown, same_machine}
use Rattle.model.proofs.ShownRows.{tab_fill}
use Rattle.model.proofs.ShownBuffers.{none_shown, shown_first, popped-shown}
use Rattle.theory.proofs.Test.{same, Says, is, isnt, same?, same-eqb}
use Rattle.theory.proofs.Operations.{upd}
use Rattle.theory.proofs.Machine.{rd, wr, as_op, pop}
use Rattle.theory.proofs.Machine as machine
use Rattle.theory.proofs.Table.{fill_tab}
use Rattle.theory.proofs.Concrete.{CSt, store, serve_one, serve_to}

------------------------------------------------------------------------
-- An entry is carried out

-- a word stored at a cell
store-shown : (memory : List ℕ) (c w a : ℕ) → c < length memory → cond (same c a) w (get_or memory a 0) ≡ get_or (set memory c w) a 0
store-shown memory c w a h = go (same c a) (same? c a)
  where
    go : (t : Bool) → Says (c ≡ a) t → cond t w (get_or memory a 0) ≡ get_or (set memory c w) a 0
    go t (is e) = rw (← e) (sym (get_or-set_same memory c w 0 h))
    go t (isnt n) = sym (get_or-set_other memory c a w 0 (λ e. n (sym e)))

module _ (s : Setup) (e : Entry) (memory rows : List ℕ) where
  -- what is shown and what is carried out, where the entry is a write and where it is none
  abbrev entry_if : Bool → machine.Entry ℕ
  entry_if writes = pick writes (wr e.cell.0 e.word) (rd e.cell.0 e.row)

  abbrev carried_if : Bool → List ℕ × List ℕ
  carried_if writes = pick writes (set memory e.cell.0 e.word, rows) (memory, filled_below s.c e.row (get_or memory e.cell.0 0) s.c rows)

  pub carried_memory : e.cell.0 < length memory
      → (a : ℕ) → upd a (as_op (shown_entry e)) (get_or memory a 0) ≡ get_or (carried s e (memory, rows)).0 a 0
  unfolding carried
  carried_memory h a = go (eqb e.kind write_entry)
    where
      go : (d : Bool) → upd a (as_op (entry_if d)) (get_or memory a 0) ≡ get_or (carried_if d).0 a 0
      go true = store-shown memory e.cell.0 e.word a h
      go false = refl

  pub carried_rows : GoodRows s rows → (q : List (machine.Entry ℕ))
      → fill_tab (shown_entry e ∷ q) (λ c. get_or memory c 0) (shown_tab s rows) ≡ shown_tab s (carried s e (memory, rows)).1
  unfolding carried
  carried_rows g q = go (eqb e.kind write_entry)
    where
      go : (d : Bool) → fill_tab (entry_if d ∷ q) (λ c. get_or memory c 0) (shown_tab s rows) ≡ shown_tab s (carried_if d).1
      go true = refl
      go false = tab_fill s rows g e.row (get_or memory e.cell.0 0)

------------------------------------------------------------------------
-- A bank is served

module _ (s : Setup) (t : State) (b : ℕ) (x : Lent) (g : Good s x) (h : b < banks_of s) where
  -- with nothing in its buffer
  bank_none : count_of x.buffers.heads b ≡ 0 → serve_one b (shown s t x) ≡ shown s t x
  bank_none n =
      let e : shown_buf s x.buffers b ≡ [] = none_shown s x.buffers b n in
      same_machine
      (λ j. go e j (same b j) (same? b j))
      (λ a. ap (λ (q : List (machine.Entry ℕ)). store q a (get_or x.memory a 0)) e)
      (ap (λ (q : List (machine.Entry ℕ)). fill_tab q (λ c. get_or x.memory c 0) (shown_tab s x.rows)) e)
      refl
      refl
    where
      go : shown_buf s x.buffers b ≡ [] → (j : ℕ) (d : Bool) → Says (b ≡ j) d → pop d (shown_buf s x.buffers j) ≡ shown_buf s x.buffers j
      go e j d (is p) = subst (λ (k : ℕ). pop true (shown_buf s x.buffers k) ≡ shown_buf s x.buffers k) p (rw e)
      go e j d (isnt f) = refl

  -- with an entry there
  bank_some : (count_of x.buffers.heads b ≡ 0 → ⊥)
      → serve_one b (shown s t x)
      ≡ shown s t (with_carried (with_popped s b x.buffers) (carried s (oldest_entry s b x.buffers) (x.memory, x.rows)))
  bank_some n =
      let e : Entry = oldest_entry s b x.buffers in
      let f = shown_first s x.buffers g.buffers b h n in
      same_machine
      (popped-shown s x.buffers g.buffers b h)
      (λ a. ap (λ (q : List (machine.Entry ℕ)). store q a (get_or x.memory a 0)) f.1
      ∙ carried_memory s e x.memory x.rows (omega (arith, entry_cell (words_of s) s.c e (oldest_ok s x.buffers g.buffers b h n), g.memory_long)) a)
      (ap (λ (q : List (machine.Entry ℕ)). fill_tab q (λ c. get_or x.memory c 0) (shown_tab s x.rows)) f.1
      ∙ carried_rows s e x.memory x.rows g.rows f.0)
      refl
      refl

  pub bank_shown : serve_one b (shown s t x) ≡ shown s t (served_bank s b x)
  bank_shown =
      ⊎_elim
      (λ n. bank_none n ∙ ap (shown s t) (sym (served_none s b x n)))
      (λ n. bank_some n ∙ ap (shown s t) (sym (served-some s b x n)))
      (same_or_not (count_of x.buffers.heads b) 0)

  pub turn_shown : cond (same (b % s.m) t.turn) (serve_one b (shown s t x)) (shown s t x) ≡ shown s t (served_if s t.turn b x)
  turn_shown = ap (λ (d : Bool). cond d (serve_one b (shown s t x)) (shown s t x)) (same-eqb (b % s.m) t.turn) ∙ go (eqb (b % s.m) t.turn)
    where
      go : (d : Bool) → cond d (serve_one b (shown s t x)) (shown s t x) ≡ shown s t (pick d (served_bank s b x) x)
      go true = bank_shown
      go false = refl

-- the banks below n, in rising order
below-shown : (s : Setup) (t : State) (n : ℕ) (x : Lent) → Good s x → n ≤ banks_of s
    → serve_to s.m n (shown s t x) ≡ shown s t (served_below s t.turn n x)
unfolding served_below
below-shown s t zero x g h = refl
below-shown s t (suc n) x g h =
    ap (λ (c : CSt ℕ). cond (same (n % s.m) t.turn) (serve_one n c) c) (below-shown s t n x g (omega arith))
    ∙ turn_shown s t n (served_below s t.turn n x) (served-below_good s t.turn n x g (omega arith)) h

pub service_shown : (s : Setup) (t : State) (x : Lent) → Good s x
    → serve_to s.m (banks_of s) (shown s t x) ≡ shown s t (served s t.turn x)
service_shown s t x g = below-shown s t (banks_of s) x g (le_refl _)
