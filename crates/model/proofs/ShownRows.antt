-- Rows and the table as they are shown: a row put, the words that service brings, and what a lookup finds. Assumes nothing.
use Rattle.std.specs.Prelude.{Option, Some, None}
use Prim.Native.Nat.{ℕ, zero, suc, ◌-◌, ◌≤◌, ◌<◌}
use native.Mathlib.Omega.{arith}
use mathlib.Core.Path.{◌≡◌, refl, sym, ap, subst, ◌∙◌}
use mathlib.Core.Bool.{Bool, true, false, ◌||◌, cond}
use mathlib.Core.List.{List}
use lib.Dec.{eqb}
use lib.ListN.{get_or, set}
use lib.Seq.{ext_get_or}
use Rattle.choice.specs.Choice.{pick}
use Rattle.setup.specs.Setup.{Ranges, map_of, words_of}
use Rattle.setup.specs.declared.Setup.{Setup}
use Rattle.map.specs.Map.{cell_of}
use Rattle.map.specs.declared.Address.{Address}
use Rattle.model.specs.declared.Row.{Row}
use Rattle.rings.specs.Places.{back}
use Rattle.model.specs.Lent.{empty_kind, write_kind, read_kind, waiting_kind, row_with, row_at, put_row}
use Rattle.model.specs.Range.{row_ok, GoodRows}
use Rattle.model.specs.Cycle.{filled_below, leaves, scan, is_of, writes}
use Rattle.choice.proofs.Tests.{pick_either}
use Rattle.model.proofs.Lent.{row_put_same, row_put_other}
use Rattle.rings.proofs.Rings.{back_below}
use Rattle.model.proofs.Range.{row_kind, row_address}
use Rattle.model.proofs.Rows.{filled, row-filled_below}
use Rattle.model.proofs.Lists.{length-below, get_or-below, set_below}
use Rattle.model.proofs.Config.{shown_delivery}
use Rattle.model.proofs.Shown.{shown_row, shown_tab}
use Rattle.model.proofs.ShownPlaces.{back-shown, cells_same}
use Rattle.theory.proofs.Test.{same, same-eqb}
use Rattle.theory.proofs.Machine.{none, out, nothing, there}
use Rattle.theory.proofs.Machine as machine
use Rattle.theory.proofs.Table.{fill_at, fill_from, look_back, newer_back}
use Rattle.theory.proofs.Table as table
use Rattle.theory.proofs.LiveRows.{length-fill, get_or-fill}

------------------------------------------------------------------------
-- A row, by its kind

pub by_kind : (P : ℕ → Type 0) → P empty_kind → P write_kind → P read_kind → P waiting_kind → (k : ℕ) → k ≤ waiting_kind → P k
by_kind P empty write read waiting zero h = empty
by_kind P empty write read waiting (suc zero) h = write
by_kind P empty write read waiting (suc (suc zero)) h = read
by_kind P empty write read waiting (suc (suc (suc zero))) h = waiting
by_kind P empty write read waiting (suc (suc (suc (suc k)))) h = absurd (omega arith)

-- r as a row of the kind k
abbrev pub of_kind : Row → ℕ → Row
of_kind r k = row_with k r.address.0 r.word r.link

-- what it delivers
pub row_out : (s : Setup) (r : Row) → r.kind ≤ waiting_kind → out (shown_row s r) ≡ shown_delivery (leaves r)
row_out s r =
    by_kind (λ (k : ℕ). out (shown_row s (of_kind r k)) ≡ shown_delivery (leaves (of_kind r k))) refl refl refl refl r.kind

-- the word v that row p's entry brings
pub row-fill : (s : Setup) (p v i : ℕ) (r : Row) → r.kind ≤ waiting_kind → shown_row s (filled p v i r) ≡ fill_at p v i (shown_row s r)
row-fill s p v i r =
    by_kind (λ (k : ℕ). shown_row s (filled p v i (of_kind r k)) ≡ fill_at p v i (shown_row s (of_kind r k))) refl refl refl
    (rw (same-eqb i p, same-eqb r.link p) (chosen (eqb i p || eqb r.link p) _ _))
    r.kind
  where
    chosen : (b : Bool) (x y : Row) → shown_row s (pick b x y) ≡ cond b (shown_row s x) (shown_row s y)
    chosen true x y = refl
    chosen false x y = refl

-- whole addresses are compared here, cells there
module _ (s : Setup) (g : Ranges s) (a : Address) (h : a.0 < words_of s) (r : Row) (ok : row_ok (words_of s) s.c r ≡ true) where
  abbrev SameCell : Type 0
  SameCell = same (cell_of (map_of s) r.address).0 (cell_of (map_of s) a).0 ≡ eqb r.address.0 a.0

  same-cell : (r.kind ≡ empty_kind → ⊥) → SameCell
  same-cell n = cells_same s g r.address a (row_address (words_of s) s.c r ok n) h

  pub row-writes : machine.writes (cell_of (map_of s) a).0 (shown_row s r) ≡ writes a r
  row-writes =
      by_kind (λ (k : ℕ). ((k ≡ empty_kind → ⊥) → SameCell) → machine.writes (cell_of (map_of s) a).0 (shown_row s (of_kind r k)) ≡ writes a (of_kind r k))
      (λ e. refl)
      (λ e. e (λ z. omega arith))
      (λ e. refl)
      (λ e. refl)
      r.kind
      (row_kind (words_of s) s.c r ok)
      same-cell

  pub row-names : machine.names (cell_of (map_of s) a).0 (shown_row s r) ≡ is_of a r
  row-names =
      by_kind (λ (k : ℕ). ((k ≡ empty_kind → ⊥) → SameCell) → machine.names (cell_of (map_of s) a).0 (shown_row s (of_kind r k)) ≡ is_of a (of_kind r k))
      (λ e. refl)
      (λ e. e (λ z. omega arith))
      (λ e. e (λ z. omega arith))
      (λ e. e (λ z. omega arith))
      r.kind
      (row_kind (words_of s) s.c r ok)
      same-cell

------------------------------------------------------------------------
-- The table

module _ (s : Setup) (rows : List ℕ) where
  pub tab_at : (i : ℕ) → i < s.c → get_or (shown_tab s rows) i none ≡ shown_row s (row_at s.c rows i)
  tab_at i h = get_or-below s.c (λ j. shown_row s (row_at s.c rows j)) none i h

  module _ (g : GoodRows s rows) where
    pub tab_put : (i : ℕ) (r : Row) → i < s.c → set (shown_tab s rows) i (shown_row s r) ≡ shown_tab s (put_row s.c rows i r)
    tab_put i r h =
        set_below s.c (λ j. shown_row s (row_at s.c rows j)) (λ j. shown_row s (row_at s.c (put_row s.c rows i r) j)) i (shown_row s r) h
        (ap (shown_row s) (row_put_same s.c rows i r h (omega (arith, g.long))))
        (λ j l n. ap (shown_row s) (row_put_other s.c rows i r j h l n))

    pub tab_fill : (p v : ℕ) → fill_from p v 0 (shown_tab s rows) ≡ shown_tab s (filled_below s.c p v s.c rows)
    tab_fill p v =
        ext_get_or none (fill_from p v 0 (shown_tab s rows)) (shown_tab s (filled_below s.c p v s.c rows))
        (length-fill p v 0 (shown_tab s rows) ∙ length-below s.c _ ∙ sym (length-below s.c _))
        (λ i l. row_by_row i (omega (arith, length-fill p v 0 (shown_tab s rows), length-below s.c (λ j. shown_row s (row_at s.c rows j)))))
      where
        row_by_row : (i : ℕ) → i < s.c
            → get_or (fill_from p v 0 (shown_tab s rows)) i none ≡ get_or (shown_tab s (filled_below s.c p v s.c rows)) i none
        row_by_row i h =
            get_or-fill p v (shown_tab s rows) i
            ∙ ap (fill_at p v i) (tab_at i h)
            ∙ sym (row-fill s p v i (row_at s.c rows i) (row_kind (words_of s) s.c (row_at s.c rows i) (g.ok i h)))
            ∙ ap (shown_row s) (sym (row-filled_below s.c p v s.c rows i (omega arith) (omega (arith, g.long)) h))
            ∙ sym (get_or-below s.c (λ j. shown_row s (row_at s.c (filled_below s.c p v s.c rows) j)) none i h)

------------------------------------------------------------------------
-- Looking back

abbrev pub shown_found : Option ℕ → machine.Found
shown_found (Some i) = there i
shown_found None = nothing

abbrev pub is_found : Option ℕ → Bool
is_found (Some i) = true
is_found None = false

-- a lookup there: the places before i, newest first, each by a test of its row
module _ (s : Setup) (rows : List ℕ) (test : machine.Row ℕ → Bool) {R : Type 0} (seen : Option ℕ → R) (look : ℕ → ℕ → R) where
  -- place p is looked at, and then the n before it
  abbrev looked_at : ℕ → ℕ → R
  looked_at n p = cond (test (get_or (shown_tab s rows) p none)) (seen (Some p)) (look n p)

  look_step : (b : Bool) (p : ℕ) (x : Option ℕ) {y : R} → y ≡ seen x → cond b (seen (Some p)) y ≡ seen (pick b (Some p) x)
  look_step true p x e = refl
  look_step false p x e = e

  -- where the test agrees with f, it sees what the scan with f finds
  module _ (f : Row → Bool) (agree : (i : ℕ) → i < s.c → test (shown_row s (row_at s.c rows i)) ≡ f (row_at s.c rows i)) (end : (i : ℕ) → look 0 i ≡ seen None) (more : (n i : ℕ) → look (suc n) i ≡ looked_at n (table.back (s.c - 1) i)) where
    look-back : (n i : ℕ) → i < s.c → look n i ≡ seen (scan f s.c rows n i)
    unfolding scan
    look-back zero i l = end i
    look-back (suc n) i l =
        let p : ℕ = back s.c i 1 in
        let b : p < s.c = back_below s.c i 1 l (omega arith) in
        more n i
        ∙ ap (looked_at n) (back-shown s.c i (omega arith))
        ∙ ap (λ (t : Bool). cond t (seen (Some p)) (look n p)) (ap test (tab_at s rows p b) ∙ agree p b)
        ∙ look_step (f (row_at s.c rows p)) p (scan f s.c rows n p) (look-back n p b)

module _ (s : Setup) (g : Ranges s) (a : Address) (h : a.0 < words_of s) (rows : List ℕ) (ok : GoodRows s rows) where
  pub newer-shown : (n i : ℕ) → i < s.c
      → newer_back (s.c - 1) (cell_of (map_of s) a).0 (shown_tab s rows) n i ≡ is_found (scan (writes a) s.c rows n i)
  newer-shown =
      look-back s rows (machine.writes (cell_of (map_of s) a).0) is_found (newer_back (s.c - 1) (cell_of (map_of s) a).0 (shown_tab s rows))
      (writes a)
      (λ i l. row-writes s g a h (row_at s.c rows i) (ok.ok i l))
      (λ i. refl)
      (λ n i. refl)

  pub look-shown : (n i : ℕ) → i < s.c
      → look_back (s.c - 1) (cell_of (map_of s) a).0 (shown_tab s rows) n i ≡ shown_found (scan (is_of a) s.c rows n i)
  look-shown =
      look-back s rows (machine.names (cell_of (map_of s) a).0) shown_found (look_back (s.c - 1) (cell_of (map_of s) a).0 (shown_tab s rows))
      (is_of a)
      (λ i l. row-names s g a h (row_at s.c rows i) (ok.ok i l))
      (λ i. refl)
      (λ n i. refl)

-- what a lookup finds is such a row
abbrev Holds : (Row → Bool) → ℕ → List ℕ → Option ℕ → Type 0
Holds f c rows (Some i) = f (row_at c rows i) ≡ true
Holds f c rows None = Unit

scan_finds : (f : Row → Bool) (c : ℕ) (rows : List ℕ) (n i : ℕ) → Holds f c rows (scan f c rows n i)
unfolding scan
scan_finds f c rows zero i = tt
scan_finds f c rows (suc n) i =
    pick_either (Holds f c rows) (f (row_at c rows (back c i 1))) (λ e. e) (λ e. scan_finds f c rows n (back c i 1))

pub scan_holds : (f : Row → Bool) (c : ℕ) (rows : List ℕ) (n i : ℕ) {j : ℕ} → scan f c rows n i ≡ Some j → f (row_at c rows j) ≡ true
scan_holds f c rows n i e = subst (Holds f c rows) e (scan_finds f c rows n i)
