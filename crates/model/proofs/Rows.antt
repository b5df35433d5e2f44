-- The rows stay good: a row put in range, the words that service brings, and what a lookup finds. Assumes nothing.
use Rattle.std.specs.Prelude.{Option, Some}
use Prim.Native.Nat.{ℕ, zero, suc, ◌*◌, ◌≤◌, ◌<◌}
use native.Mathlib.Nat.{not-suc-le-zero}
use native.Mathlib.Omega.{arith}
use mathlib.Core.Path.{◌≡◌, refl, ap, subst, ◌∙◌}
use mathlib.Core.Logic.{⊎_elim}
use mathlib.Core.Bool.{Bool, true, ◌||◌}
use mathlib.Core.List.{List}
use lib.Dec.{eqb}
use lib.ListN.{length}
use borrow.Author.Tests.{eqb-true}
use Rattle.choice.specs.Choice.{pick}
use Rattle.setup.specs.Setup.{words_of}
use Rattle.setup.specs.declared.Setup.{Setup}
use Rattle.setup.proofs.Ranges.{and_l}
use Rattle.model.specs.declared.Row.{Row}
use Rattle.rings.specs.Places.{back}
use Rattle.model.specs.Lent.{row_numbers, waiting_kind, row_at, put_row}
use Rattle.model.specs.Range.{row_ok, GoodRows, Within}
use Rattle.model.specs.Cycle.{lacks, with_word, filled_row, filled_below, scan}
use Rattle.choice.proofs.Tests.{pick_good, pick_either, pick-map, below_or_not, same_or_not}
use Rattle.model.proofs.Lent.{length-put_row, row_put_same, row_put_other}
use Rattle.rings.proofs.Rings.{back_below}
use Rattle.model.proofs.Range.{row_ok_lem, row_address}

pub put_row_good : (s : Setup) (rows : List ℕ) → GoodRows s rows → (i : ℕ) (r : Row) → i < s.c → row_ok (words_of s) s.c r ≡ true
    → GoodRows s (put_row s.c rows i r)
put_row_good s rows g i r b h =
    record {
      long = length-put_row s.c rows i r ∙ g.long;
      ok =
          λ j l. ⊎_elim
          (λ e. ap (λ (k : ℕ). row_ok (words_of s) s.c (row_at s.c (put_row s.c rows i r) k)) e
          ∙ ap (row_ok (words_of s) s.c) (row_put_same s.c rows i r b (omega (arith, g.long)))
          ∙ h)
          (λ n. ap (row_ok (words_of s) s.c) (row_put_other s.c rows i r j b l n) ∙ g.ok j l)
          (same_or_not j i);
    }

------------------------------------------------------------------------
-- The words that service brings

-- a row once row p's entry has brought the word w
abbrev pub filled : ℕ → ℕ → ℕ → Row → Row
filled p w i r = pick (lacks p i r) (with_word r w) r

module _ (c p w i : ℕ) (rows : List ℕ) where
  pub length-filled_row : length (filled_row c p w i rows) ≡ length rows
  length-filled_row =
      pick_good (λ (l : List ℕ). length l ≡ length rows) (lacks p i (row_at c rows i))
      (length-put_row c rows i (with_word (row_at c rows i) w))
      refl

  pub row-filled_same : i < c → row_numbers * c ≤ length rows → row_at c (filled_row c p w i rows) i ≡ filled p w i (row_at c rows i)
  row-filled_same b h =
      pick-map (λ (l : List ℕ). row_at c l i) (lacks p i (row_at c rows i)) (put_row c rows i (with_word (row_at c rows i) w)) rows
      ∙ ap (λ (r : Row). pick (lacks p i (row_at c rows i)) r (row_at c rows i)) (row_put_same c rows i (with_word (row_at c rows i) w) b h)

  pub row-filled_other : (j : ℕ) → i < c → j < c → (j ≡ i → ⊥) → row_at c (filled_row c p w i rows) j ≡ row_at c rows j
  row-filled_other j b l n =
      pick_good (λ (l : List ℕ). row_at c l j ≡ row_at c rows j) (lacks p i (row_at c rows i))
      (row_put_other c rows i (with_word (row_at c rows i) w) j b l n)
      refl

pub length-filled : (c p w n : ℕ) (rows : List ℕ) → length (filled_below c p w n rows) ≡ length rows
unfolding filled_below
length-filled c p w zero rows = refl
length-filled c p w (suc n) rows = length-filled_row c p w n (filled_below c p w n rows) ∙ length-filled c p w n rows

pub row-filled_above : (c p w n : ℕ) (rows : List ℕ) (i : ℕ) → i < c → n ≤ i → row_at c (filled_below c p w n rows) i ≡ row_at c rows i
unfolding filled_below
row-filled_above c p w zero rows i b h = refl
row-filled_above c p w (suc n) rows i b h =
    row-filled_other c p w n (filled_below c p w n rows) i (omega arith) b (λ e. omega arith) ∙ row-filled_above c p w n rows i b (omega arith)

pub row-filled_below : (c p w n : ℕ) (rows : List ℕ) (i : ℕ) → n ≤ c → row_numbers * c ≤ length rows → i < n
    → row_at c (filled_below c p w n rows) i ≡ filled p w i (row_at c rows i)
unfolding filled_below
row-filled_below c p w zero rows i m h l = absurd (not-suc-le-zero l)
row-filled_below c p w (suc n) rows i m h l =
    ⊎_elim
    (λ e. rw e
    (row-filled_same c p w n (filled_below c p w n rows) m (omega (arith, length-filled c p w n rows))
    ∙ ap (λ (r : Row). filled p w n r) (row-filled_above c p w n rows n m (omega arith))))
    (λ d. row-filled_other c p w n (filled_below c p w n rows) i m (omega arith) d ∙ row-filled_below c p w n rows i (omega arith) h (omega arith))
    (same_or_not i n)

-- a row that lacks a word is no empty row, so its address is in range
lacking_address : (n c p i : ℕ) (r : Row) → row_ok n c r ≡ true → lacks p i r ≡ true → r.address.0 < n
lacking_address n c p i r h l =
    let k : r.kind ≡ waiting_kind = eqb-true _ _ (and_l (eqb r.kind waiting_kind) (eqb i p || eqb r.link p) l) in
    row_address n c r h (λ e. omega arith)

pub filled_ok : (n c p w i : ℕ) (r : Row) → row_ok n c r ≡ true → row_ok n c (filled p w i r) ≡ true
filled_ok n c p w i r h =
    pick_either (λ (x : Row). row_ok n c x ≡ true) (lacks p i r)
    (λ l. row_ok_lem n c (with_word r w) (omega arith) (λ e. lacking_address n c p i r h l) (λ e. absurd (omega arith)))
    (λ l. h)

pub filled_good : (s : Setup) (rows : List ℕ) → GoodRows s rows → (p w n : ℕ) → n ≤ s.c → GoodRows s (filled_below s.c p w n rows)
filled_good s rows g p w n h =
    record {
      long = length-filled s.c p w n rows ∙ g.long;
      ok =
          λ i l. ⊎_elim
          (λ b. ap (row_ok (words_of s) s.c) (row-filled_below s.c p w n rows i h (omega (arith, g.long)) b)
          ∙ filled_ok (words_of s) s.c p w i (row_at s.c rows i) (g.ok i l))
          (λ b. ap (row_ok (words_of s) s.c) (row-filled_above s.c p w n rows i l b) ∙ g.ok i l)
          (below_or_not i n);
    }

------------------------------------------------------------------------
-- What a lookup finds is one of the rows

scan-within : (f : Row → Bool) (c : ℕ) (rows : List ℕ) (n i : ℕ) → 0 < c → i < c → Within c (scan f c rows n i)
unfolding scan
scan-within f c rows zero i h l = tt
scan-within f c rows (suc n) i h l =
    let b : back c i 1 < c = back_below c i 1 l (omega arith) in
    pick_good (Within c) (f (row_at c rows (back c i 1))) b (scan-within f c rows n (back c i 1) h b)

pub scan-below : (f : Row → Bool) (c : ℕ) (rows : List ℕ) (n i : ℕ) {j : ℕ} → i < c → scan f c rows n i ≡ Some j → j < c
scan-below f c rows n i l e = subst (λ (x : Option ℕ). Within c x) e (scan-within f c rows n i (omega arith) l)
