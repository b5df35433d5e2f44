-- Rows that get their word: one by one, by parts, and row p first. Assumes nothing.
use Prim.Native.Nat.{ℕ, zero, suc, ◌+◌, ◌-◌, ◌*◌, ◌≤◌, ◌<◌}
use native.Mathlib.Numerals.{add-one}
use native.Mathlib.Omega.{arith}
use mathlib.Core.Path.{◌≡◌, refl, sym, ap, subst, ◌∙◌}
use mathlib.Core.Bool.{false, and-false}
use mathlib.Core.Logic.{⊎_elim}
use mathlib.Core.List.{List}
use lib.Dec.{eqb}
use lib.ListN.{get_or, length}
use borrow.Author.Tests.{ne_eqb}
use borrow.Rule.Slice.PartMut.{mid_of}
use Rattle.flat.specs.Flat.{block, times}
use Rattle.flat.proofs.Parts.{part_free}
use Rattle.model.specs.Lent.{row_numbers, links, row_at}
use Rattle.model.specs.Cycle.{lacks, filled_row, filled_below}
use Rattle.model.specs.declared.Row.{Row}
use Rattle.choice.proofs.Tests.{pick_either, same_or_not, below_or_not}
use Rattle.model.proofs.Rows.{filled, length-filled_row, row-filled_same, row-filled_other, length-filled, row-filled_above, row-filled_below}
use Rattle.model.proofs.Lent.{rows_same}
use Rattle.table.specs.Table.{column}
use Rattle.table.proofs.Columns.{column_at, column_long}
use Rattle.filling.specs.Filling.{Has, Calm, filled_from}

-- rows of which none lacks a word stay as they are; and one by one
module _ (c p w i : ℕ) (l : List ℕ) where
  pub filled_calm : (n : ℕ) → Calm c p l i n → l ≡ filled_from c p w i n l
  unfolding filled_from
  filled_calm zero h = refl
  filled_calm (suc n) h =
      let m : l ≡ filled_from c p w i n l = filled_calm n (λ (k : ℕ) (b : k < n). h k (omega arith)) in
      let t : lacks p (i + n) (row_at c l (i + n)) ≡ false = h n (omega arith) in
      let y : l ≡ filled_row c p w (i + n) l = cc in
      y ∙ ap (filled_row c p w (i + n)) m

  pub filled_none : l ≡ filled_from c p w i 0 l
  unfolding filled_from
  filled_none = refl

  pub filled_next : (n : ℕ) (k m : List ℕ) → k ≡ filled_from c p w i n l → m ≡ filled_row c p w (i + n) k → m ≡ filled_from c p w i (n + 1) l
  unfolding filled_from
  filled_next n k m hk hm = rw (add-one, ← hk) hm

-- the rows from a place up to i, then row i; and all of them
module _ (c p w from : ℕ) (l : List ℕ) where
  pub filled-start : l ≡ filled_from c p w from (from - from) l
  filled-start = let e : from - from ≡ 0 = omega arith in rw e (filled_none c p w from l)

  pub filled_step : (i : ℕ) (k m : List ℕ) → from ≤ i → k ≡ filled_from c p w from (i - from) l → m ≡ filled_row c p w i k → m ≡ filled_from c p w from (i + 1 - from) l
  filled_step i k m h hk hm =
      let e : i + 1 - from ≡ i - from + 1 = omega arith in
      let d : from + (i - from) ≡ i = omega arith in
      rw e (filled_next c p w from l (i - from) k m hk (rw d hm))

  pub filled_end : (to i : ℕ) (m : List ℕ) → i ≤ to → to ≤ i → m ≡ filled_from c p w from (i - from) l → m ≡ filled_from c p w from (to - from) l
  filled_end to i m a b h = let e : i ≡ to = omega arith in rw e at h

-- the rows below i, then those up to another place; and all c
filled_on : (c p w i n : ℕ) (l : List ℕ) → filled_from c p w i n (filled_below c p w i l) ≡ filled_below c p w (i + n) l
unfolding filled_from filled_below
filled_on c p w i zero l = let e : i + 0 ≡ i = omega arith in rw e
filled_on c p w i (suc n) l = let e : i + suc n ≡ suc (i + n) = omega arith in rw (e, filled_on c p w i n l)

pub filled_more : (c p w i to : ℕ) (l k m : List ℕ) → i < to → k ≡ filled_below c p w i l → m ≡ filled_from c p w i (to - i) k → m ≡ filled_below c p w to l
filled_more c p w i to l k m h hk hm =
    let e : i + (to - i) ≡ to = omega arith in
    subst (λ (z : ℕ). m ≡ filled_below c p w z l) e (hm ∙ ap (filled_from c p w i (to - i)) hk ∙ filled_on c p w i (to - i) l)

pub filled_all : (c p w i : ℕ) (l m : List ℕ) → i ≤ c → c ≤ i → m ≡ filled_below c p w i l → m ≡ filled_below c p w c l
filled_all c p w i l m a b h = let e : i ≡ c = omega arith in rw e at h

-- from the first row on
pub filled_few : (c p w : ℕ) (l m : List ℕ) → m ≡ filled_from c p w 0 (c - 0) l → m ≡ filled_below c p w c l
unfolding filled_below
filled_few c p w l m h =
    let e : 0 + (c - 0) ≡ c = omega arith in
    subst (λ (z : ℕ). m ≡ filled_below c p w z l) e (h ∙ filled_on c p w 0 (c - 0) l)

-- where row p has its word and no row of a block of the links, x, names it, as n says, the rows there lack nothing
pub block_calm : (c p w from to low n : ℕ) (l x : List ℕ) → length l ≡ row_numbers * c → x ≡ column (links c) c l → from ≤ to → block ≤ to → to ≤ c → to ≤ from + block → low ≡ to - block
    → Has c p l → n ≡ times p (mid_of low (low + block - low) x) → n ≡ 0 → l ≡ filled_from c p w from (to - from) l
block_calm c p w from to low n l x long ex o g b t e h f z = filled_calm c p w from l (to - from) calm
  where
    calm : Calm c p l from (to - from)
    calm k q =
        let m = column_long (links c) c l x (omega arith) ex in
        let s = column_at (links c) c l x (omega arith) ex (from + k) (omega arith) in
        ⊎_elim
        (λ (e : from + k ≡ p). subst (λ (z : ℕ). lacks p z (row_at c l z) ≡ false) (sym e) h)
        (λ (d : from + k ≡ p → ⊥).
        let v : eqb (from + k) p ≡ false = ne_eqb (from + k) p d in
        let y : eqb (get_or l (links c + (from + k)) 0) p ≡ false =
        ne_eqb (get_or l (links c + (from + k)) 0) p
        (λ j. part_free low (low + block) x (omega arith) p (from + k) n f z (omega arith) (omega arith) (s ∙ j)) in
        simp (v, y, and-false))
        (same_or_not (from + k) p)

-- a row that has got its word lacks nothing
filled_has : (p w i : ℕ) (r : Row) → lacks p i (filled p w i r) ≡ false
filled_has p w i r = pick_either (λ (x : Row). lacks p i x ≡ false) (lacks p i r) (λ h. refl) (λ h. h)

pub has_filled : (c p w : ℕ) (l m : List ℕ) → length l ≡ row_numbers * c → p < c → m ≡ filled_row c p w p l → Has c p m
has_filled c p w l m long b h =
    ap (lacks p p) (ap (λ (x : List ℕ). row_at c x p) h ∙ row-filled_same c p w p l b (omega arith)) ∙ filled_has p w p (row_at c l p)

-- and keeps it as the others get theirs
pub has_kept : (c p w i : ℕ) (l m : List ℕ) → length l ≡ row_numbers * c → p < c → i ≤ c → Has c p l → m ≡ filled_below c p w i l → Has c p m
has_kept c p w i l m long b n h e =
    ⊎_elim
    (λ (q : p < i). ap (lacks p p) (ap (λ (x : List ℕ). row_at c x p) e ∙ row-filled_below c p w i l p n (omega arith) q) ∙ filled_has p w p (row_at c l p))
    (λ (q : i ≤ p). ap (lacks p p) (ap (λ (x : List ℕ). row_at c x p) e ∙ row-filled_above c p w i l p b q) ∙ h)
    (below_or_not p i)

-- row p first, or in its turn
twice : (p w i : ℕ) (r : Row) → filled p w i (filled p w i r) ≡ filled p w i r
twice p w i r = rw (filled_has p w i r)

pub filled_first : (c p w : ℕ) (l k m : List ℕ) → length l ≡ row_numbers * c → p < c → k ≡ filled_row c p w p l → m ≡ filled_below c p w c k → m ≡ filled_below c p w c l
filled_first c p w l k m long b hk hm =
    hm
    ∙ ap (filled_below c p w c) hk
    ∙ rows_same c (filled_below c p w c (filled_row c p w p l)) (filled_below c p w c l)
    (length-filled c p w c (filled_row c p w p l) ∙ length-filled_row c p w p l ∙ long)
    (length-filled c p w c l ∙ long)
    (λ (i : ℕ) (h : i < c).
    row-filled_below c p w c (filled_row c p w p l) i (omega arith) (omega (arith, length-filled_row c p w p l)) h
    ∙ ⊎_elim
    (λ (e : i ≡ p). rw e (ap (filled p w p) (row-filled_same c p w p l b (omega arith)) ∙ twice p w p (row_at c l p)))
    (λ (n : i ≡ p → ⊥). ap (filled p w i) (row-filled_other c p w p l i b h n))
    (same_or_not i p)
    ∙ sym (row-filled_below c p w c l i (omega arith) (omega arith) h))
