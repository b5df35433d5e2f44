-- Laws on rows, entries and heads in a lent room. Assumes nothing.
use Prim.Native.Nat.{ℕ, ◌+◌, ◌-◌, ◌*◌, ◌≤◌, ◌<◌}
use native.Mathlib.Omega.{arith}
use mathlib.Core.Path.{◌≡◌, ap, sym, ◌∙◌}
use mathlib.Core.Logic.{⊎_elim}
use mathlib.Core.List.{List}
use lib.ListN.{length, get_or, set, length-set}
use lib.Seq.{get_or-set_same, get_or-set_other, ext_get_or}
use Rattle.choice.proofs.Tests.{below_or_not}
use Rattle.rings.proofs.Four.{length-put_four, four_put_same, four_put_other}
use Rattle.model.specs.declared.Row.{Row}
use Rattle.model.specs.declared.Entry.{Entry}
use Rattle.model.specs.Lent.{row_numbers, entry_numbers, head_numbers, kinds, addresses, links, words, row_at, put_row, entry_with, entry_at, put_entry, oldest_of, count_of, put_head}

------------------------------------------------------------------------
-- Rows

pub length-put_row : (c : ℕ) (l : List ℕ) (i : ℕ) (r : Row) → length (put_row c l i r) ≡ length l
length-put_row c l i r = simp length-set

module _ (c : ℕ) (l : List ℕ) (i : ℕ) (r : Row) where
  -- the room after one, two and three of the four stores
  abbrev one_in : List ℕ
  one_in = set l (kinds c + i) r.kind

  abbrev two_in : List ℕ
  two_in = set one_in (addresses c + i) r.address.0

  abbrev three_in : List ℕ
  three_in = set two_in (links c + i) r.link

  -- a number at none of the four places is as it was
  put_aside : (q : ℕ) → (q ≡ kinds c + i → ⊥) → (q ≡ addresses c + i → ⊥) → (q ≡ links c + i → ⊥) → (q ≡ words c + i → ⊥) → get_or (put_row c l i r) q 0 ≡ get_or l q 0
  put_aside q h₀ h₁ h₂ h₃ =
      get_or-set_other three_in (words c + i) q r.word 0 h₃
      ∙ get_or-set_other two_in (links c + i) q r.link 0 h₂
      ∙ get_or-set_other one_in (addresses c + i) q r.address.0 0 h₁
      ∙ get_or-set_other l (kinds c + i) q r.kind 0 h₀

  module _ (h : i < c) (long : row_numbers * c ≤ length l) where
    put_kind : get_or (put_row c l i r) (kinds c + i) 0 ≡ r.kind
    put_kind =
        get_or-set_other three_in (words c + i) (kinds c + i) r.word 0 (λ e. omega arith)
        ∙ get_or-set_other two_in (links c + i) (kinds c + i) r.link 0 (λ e. omega arith)
        ∙ get_or-set_other one_in (addresses c + i) (kinds c + i) r.address.0 0 (λ e. omega arith)
        ∙ get_or-set_same l (kinds c + i) r.kind 0 (omega arith)

    put_address : get_or (put_row c l i r) (addresses c + i) 0 ≡ r.address.0
    put_address =
        get_or-set_other three_in (words c + i) (addresses c + i) r.word 0 (λ e. omega arith)
        ∙ get_or-set_other two_in (links c + i) (addresses c + i) r.link 0 (λ e. omega arith)
        ∙ get_or-set_same one_in (addresses c + i) r.address.0 0 (simp length-set (omega arith))

    put_link : get_or (put_row c l i r) (links c + i) 0 ≡ r.link
    put_link =
        get_or-set_other three_in (words c + i) (links c + i) r.word 0 (λ e. omega arith)
        ∙ get_or-set_same two_in (links c + i) r.link 0 (simp length-set (omega arith))

    put_word : get_or (put_row c l i r) (words c + i) 0 ≡ r.word
    put_word = get_or-set_same three_in (words c + i) r.word 0 (simp length-set (omega arith))

    pub row_put_same : row_at c (put_row c l i r) i ≡ r
    row_put_same = rw (put_kind, put_address, put_link, put_word)

  pub row_put_other : (j : ℕ) → i < c → j < c → (j ≡ i → ⊥) → row_at c (put_row c l i r) j ≡ row_at c l j
  row_put_other j h hj n =
      rw (
        put_aside (kinds c + j) (λ e. n (omega arith)) (λ e. omega arith) (λ e. omega arith) (λ e. omega arith),
        put_aside (addresses c + j) (λ e. omega arith) (λ e. n (omega arith)) (λ e. omega arith) (λ e. omega arith),
        put_aside (links c + j) (λ e. omega arith) (λ e. omega arith) (λ e. n (omega arith)) (λ e. omega arith),
        put_aside (words c + j) (λ e. omega arith) (λ e. omega arith) (λ e. omega arith) (λ e. n (omega arith)),
      )

-- two rooms of c rows are the same where their rows are: a number of a room is in one of the four columns
pub rows_same : (c : ℕ) (k l : List ℕ) → length k ≡ row_numbers * c → length l ≡ row_numbers * c → ((i : ℕ) → i < c → row_at c k i ≡ row_at c l i) → k ≡ l
rows_same c k l hk hl same = ext_get_or 0 k l (hk ∙ sym hl) at_place
  where
    -- place i of the column that begins at a
    column : (a i q : ℕ) → q ≡ a + i → get_or k (a + i) 0 ≡ get_or l (a + i) 0 → get_or k q 0 ≡ get_or l q 0
    column a i q e h = rw e h

    at_place : (q : ℕ) → q < length k → get_or k q 0 ≡ get_or l q 0
    at_place q b =
        ⊎_elim
        (λ h. column (kinds c) q q (omega arith) (ap (λ (r : Row). r.kind) (same q (omega arith))))
        (λ h. ⊎_elim
        (λ g. column (addresses c) (q - addresses c) q (omega arith) (ap (λ (r : Row). r.address.0) (same (q - addresses c) (omega arith))))
        (λ g. ⊎_elim
        (λ f. column (links c) (q - links c) q (omega arith) (ap (λ (r : Row). r.link) (same (q - links c) (omega arith))))
        (λ f. column (words c) (q - words c) q (omega arith) (ap (λ (r : Row). r.word) (same (q - words c) (omega arith))))
        (below_or_not q (words c)))
        (below_or_not q (links c)))
        (below_or_not q (addresses c))

------------------------------------------------------------------------
-- Entries

pub length-put_entry : (l : List ℕ) (i : ℕ) (e : Entry) → length (put_entry l i e) ≡ length l
length-put_entry l i e = length-put_four l i e.kind e.row e.cell.0 e.word

pub entry_put_same : (l : List ℕ) (i : ℕ) (e : Entry) → entry_numbers * i + entry_numbers ≤ length l → entry_at (put_entry l i e) i ≡ e
entry_put_same l i e h = four_put_same entry_with l i e.kind e.row e.cell.0 e.word h

pub entry_put_other : (l : List ℕ) (i : ℕ) (e : Entry) (j : ℕ) → (j ≡ i → ⊥) → entry_at (put_entry l i e) j ≡ entry_at l j
entry_put_other l i e j n = four_put_other entry_with l i e.kind e.row e.cell.0 e.word j n

------------------------------------------------------------------------
-- Heads

pub length-put_head : (l : List ℕ) (b oldest count : ℕ) → length (put_head l b oldest count) ≡ length l
length-put_head l b oldest count = simp length-set

module _ (l : List ℕ) (b oldest count : ℕ) where
  pub oldest_put_same : head_numbers * b + 1 < length l → oldest_of (put_head l b oldest count) b ≡ oldest
  oldest_put_same h =
      get_or-set_other (set l (head_numbers * b) oldest) (head_numbers * b + 1) (head_numbers * b) count 0 (λ e. omega arith)
      ∙ get_or-set_same l (head_numbers * b) oldest 0 (omega arith)

  pub count_put_same : head_numbers * b + 1 < length l → count_of (put_head l b oldest count) b ≡ count
  count_put_same h = get_or-set_same (set l (head_numbers * b) oldest) (head_numbers * b + 1) count 0 (simp length-set h)

  put_head_outside : (q : ℕ) → (q ≡ head_numbers * b → ⊥) → (q ≡ head_numbers * b + 1 → ⊥) → get_or (put_head l b oldest count) q 0 ≡ get_or l q 0
  put_head_outside q m n =
      get_or-set_other (set l (head_numbers * b) oldest) (head_numbers * b + 1) q count 0 n ∙ get_or-set_other l (head_numbers * b) q oldest 0 m

  pub oldest_put_other : (j : ℕ) → (j ≡ b → ⊥) → oldest_of (put_head l b oldest count) j ≡ oldest_of l j
  oldest_put_other j n = put_head_outside (head_numbers * j) (λ e. n (omega arith)) (λ e. omega arith)

  pub count_put_other : (j : ℕ) → (j ≡ b → ⊥) → count_of (put_head l b oldest count) j ≡ count_of l j
  count_put_other j n = put_head_outside (head_numbers * j + 1) (λ e. omega arith) (λ e. n (omega arith))
