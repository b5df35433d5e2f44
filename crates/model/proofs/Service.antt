-- Service keeps the lent slices good, bank by bank, and the cases of its definitions. Assumes nothing.
use Prim.Native.Nat.{ℕ, zero, suc, ◌+◌, ◌%◌, ◌≤◌, ◌<◌}
use native.Mathlib.Nat.{le_refl}
use native.Mathlib.Numerals.{add-one}
use native.Mathlib.Omega.{arith}
use mathlib.Core.Path.{◌≡◌, refl, sym, ap, subst, ◌∙◌}
use mathlib.Core.List.{List}
use lib.Dec.{eqb}
use lib.ListN.{length, get_or, set, length-set}
use borrow.Author.Tests.{eq-eqb, ne_eqb}
use Rattle.setup.specs.Setup.{banks_of}
use Rattle.setup.specs.declared.Setup.{Setup}
use Rattle.model.specs.declared.Entry.{Entry}
use Rattle.model.specs.Lent.{Lent, write_entry, count_of}
use Rattle.model.specs.Range.{GoodRows, Good}
use Rattle.model.specs.Cycle.{filled_below, carried, oldest_entry, with_carried, served_bank, served_if, served_below, served}
use Rattle.choice.proofs.Tests.{pick_good}
use Rattle.model.proofs.Rows.{filled_good}
use Rattle.model.proofs.Buffers.{with_popped, popped_good}

------------------------------------------------------------------------
-- An entry is carried out

module _ (s : Setup) (e : Entry) (memory rows : List ℕ) where
  pub carried-write : e.kind ≡ write_entry → carried s e (memory, rows) ≡ (set memory e.cell.0 e.word, rows)
  unfolding carried
  carried-write h = rw (eq-eqb e.kind write_entry h)

  pub carried-read : (e.kind ≡ write_entry → ⊥)
      → carried s e (memory, rows) ≡ (memory, filled_below s.c e.row (get_or memory e.cell.0 0) s.c rows)
  unfolding carried
  carried-read h = rw (ne_eqb e.kind write_entry h)

  -- it leaves the memory's length
  pub length-carried : length (carried s e (memory, rows)).0 ≡ length memory
  unfolding carried
  length-carried =
      pick_good (λ (w : List ℕ × List ℕ). length w.0 ≡ length memory) (eqb e.kind write_entry)
      (length-set memory e.cell.0 e.word)
      refl

  pub carried_good : GoodRows s rows → GoodRows s (carried s e (memory, rows)).1
  unfolding carried
  carried_good g =
      pick_good (λ (w : List ℕ × List ℕ). GoodRows s w.1) (eqb e.kind write_entry) g
      (filled_good s rows g e.row (get_or memory e.cell.0 0) s.c (le_refl _))

------------------------------------------------------------------------
-- A bank is served

module _ (s : Setup) (b : ℕ) (x : Lent) where
  -- with nothing in its buffer, and with an entry there
  pub served_none : count_of x.buffers.heads b ≡ 0 → served_bank s b x ≡ x
  unfolding served_bank
  served_none h = rw (eq-eqb (count_of x.buffers.heads b) 0 h)

  pub served-some : (count_of x.buffers.heads b ≡ 0 → ⊥)
      → served_bank s b x ≡ with_carried (with_popped s b x.buffers) (carried s (oldest_entry s b x.buffers) (x.memory, x.rows))
  unfolding served_bank
  served-some h = rw (ne_eqb (count_of x.buffers.heads b) 0 h)

  pub served_if_turn : (turn : ℕ) → b % s.m ≡ turn → served_if s turn b x ≡ served_bank s b x
  served_if_turn turn h = rw (eq-eqb (b % s.m) turn h)

  pub served_if-not : (turn : ℕ) → (b % s.m ≡ turn → ⊥) → served_if s turn b x ≡ x
  served_if-not turn h = rw (ne_eqb (b % s.m) turn h)

  -- one bank more
  pub served-below_next : (turn : ℕ) → served_below s turn (b + 1) x ≡ served_if s turn b (served_below s turn b x)
  unfolding served_below
  served-below_next turn = rw add-one

  pub served_bank_good : Good s x → b < banks_of s → Good s (served_bank s b x)
  unfolding served_bank
  served_bank_good g h =
      let e : Entry = oldest_entry s b x.buffers in
      pick_good (Good s) (eqb (count_of x.buffers.heads b) 0) g
      (record {
        ranges = g.ranges;
        memory_long = length-carried s e x.memory x.rows ∙ g.memory_long;
        rows = carried_good s e x.memory x.rows g.rows;
        buffers = popped_good s x.buffers b g.buffers h;
      })

  pub served_if_good : (turn : ℕ) → Good s x → b < banks_of s → Good s (served_if s turn b x)
  served_if_good turn g h = pick_good (Good s) (eqb (b % s.m) turn) (served_bank_good g h) g

pub served-below_good : (s : Setup) (turn n : ℕ) (x : Lent) → Good s x → n ≤ banks_of s → Good s (served_below s turn n x)
unfolding served_below
served-below_good s turn zero x g h = g
served-below_good s turn (suc n) x g h =
    served_if_good s n (served_below s turn n x) turn (served-below_good s turn n x g (omega arith)) h

pub served_good : (s : Setup) (turn : ℕ) (x : Lent) → Good s x → Good s (served s turn x)
served_good s turn x g = served-below_good s turn (banks_of s) x g (le_refl _)

------------------------------------------------------------------------
-- The same in the order of the code: each premise is what a callee ensures

module _ (s : Setup) (turn b : ℕ) (x : Lent) {y : Lent} where
  pub below-at_good : Good s x → b ≤ banks_of s → y ≡ served_below s turn b x → Good s y
  below-at_good g h e = subst (Good s) (sym e) (served-below_good s turn b x g h)

  -- z is y with one bank more
  pub below-at_next : {z : Lent} → y ≡ served_below s turn b x → z ≡ served_if s turn b y → z ≡ served_below s turn (b + 1) x
  below-at_next e f = f ∙ ap (served_if s turn b) e ∙ sym (served-below_next s b x turn)

pub served-at_good : (s : Setup) (turn : ℕ) (x : Lent) {y : Lent} → Good s x → y ≡ served s turn x → Good s y
served-at_good s turn x g e = subst (Good s) (sym e) (served_good s turn x g)
