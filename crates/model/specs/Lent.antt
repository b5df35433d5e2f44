-- What is lent, and how rows, entries and the heads of the buffers are laid out in it.
use Rattle.std.specs.Prelude.{ℕ, ◌+◌, ◌*◌, List, get_or, set}
use Rattle.rings.specs.Places.{four_at, put_four}
use Rattle.model.specs.declared.Row.{Row}
use Rattle.model.specs.declared.Entry.{Entry}

------------------------------------------------------------------------
-- Sizes: the numbers of a row, of an entry and of a head

abbrev pub row_numbers : ℕ
row_numbers = 4

abbrev pub entry_numbers : ℕ
entry_numbers = 4

abbrev pub head_numbers : ℕ
head_numbers = 2

------------------------------------------------------------------------
-- The lent slices

-- the request buffers: K entries a bank, and a head a bank
pub record Buffers : Type 0 where
  pub entries : List ℕ
  pub heads : List ℕ

-- memory: a word a cell. rows: by columns
pub record Lent : Type 0 where
  pub memory : List ℕ
  pub rows : List ℕ
  pub buffers : Buffers

abbrev pub buffers_in : List ℕ → List ℕ → Buffers
buffers_in entries heads = record { entries = entries; heads = heads }

abbrev pub lent : List ℕ → List ℕ → List ℕ → List ℕ → Lent
lent memory rows entries heads = record { memory = memory; rows = rows; buffers = buffers_in entries heads }

------------------------------------------------------------------------
-- Rows: c kinds, then c addresses, then c links, then c words

-- where each column begins
abbrev pub kinds : ℕ → ℕ
kinds c = 0 * c

abbrev pub addresses : ℕ → ℕ
addresses c = 1 * c

abbrev pub links : ℕ → ℕ
links c = 2 * c

abbrev pub words : ℕ → ℕ
words c = 3 * c

-- kind 0 is an empty row, 1 a write, 2 a read with its word, 3 a read that waits on the row its link names
abbrev pub empty_kind : ℕ
empty_kind = 0

abbrev pub write_kind : ℕ
write_kind = 1

abbrev pub read_kind : ℕ
read_kind = 2

abbrev pub waiting_kind : ℕ
waiting_kind = 3

abbrev pub row_with : ℕ → ℕ → ℕ → ℕ → Row
row_with kind address word link = record { kind = kind; address = record { 0 = address }; word = word; link = link }

abbrev pub row_at : ℕ → List ℕ → ℕ → Row
row_at c l i =
    row_with (get_or l (kinds c + i) 0) (get_or l (addresses c + i) 0) (get_or l (words c + i) 0) (get_or l (links c + i) 0)

abbrev pub put_row : ℕ → List ℕ → ℕ → Row → List ℕ
put_row c l i r =
    set (set (set (set l (kinds c + i) r.kind) (addresses c + i) r.address.0) (links c + i) r.link) (words c + i)
    r.word

abbrev pub empty_row : Row
empty_row = row_with empty_kind 0 0 0

------------------------------------------------------------------------
-- Entries: kind, row, cell, word

-- kind 0 is a read for a row, 1 a write of a word
abbrev pub read_entry : ℕ
read_entry = 0

abbrev pub write_entry : ℕ
write_entry = 1

abbrev pub entry_with : ℕ → ℕ → ℕ → ℕ → Entry
entry_with kind row cell word = record { kind = kind; row = row; cell = record { 0 = cell }; word = word }

abbrev pub entry_at : List ℕ → ℕ → Entry
entry_at l i = four_at entry_with l i

abbrev pub put_entry : List ℕ → ℕ → Entry → List ℕ
put_entry l i e = put_four l i e.kind e.row e.cell.0 e.word

------------------------------------------------------------------------
-- Heads: the place of a buffer's oldest entry, and its count

abbrev pub oldest_of : List ℕ → ℕ → ℕ
oldest_of heads b = get_or heads (head_numbers * b) 0

abbrev pub count_of : List ℕ → ℕ → ℕ
count_of heads b = get_or heads (head_numbers * b + 1) 0

abbrev pub put_head : List ℕ → ℕ → ℕ → ℕ → List ℕ
put_head heads b oldest count = set (set heads (head_numbers * b) oldest) (head_numbers * b + 1) count
