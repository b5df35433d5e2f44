-- What the answers 2 and 3 look at.
use Rattle.std.specs.Prelude.{ℕ, zero, suc, ◌+◌, ◌*◌, ◌<◌, Bool, true, not, ◌&&◌, ◌||◌, List, leb, ltb, eqb, length, replicate, ◌≡◌, Option, Some, None}
use Rattle.setup.specs.Setup.{Ranges, words_of, banks_of}
use Rattle.setup.specs.declared.Setup.{Setup}
use Rattle.model.specs.declared.State.{State}
use Rattle.model.specs.declared.Lengths.{Lengths}
use Rattle.model.specs.declared.Row.{Row}
use Rattle.model.specs.declared.Entry.{Entry}
use Rattle.rings.specs.Places.{onward}
use Rattle.model.specs.Lent.{Lent, lent, Buffers, row_numbers, entry_numbers, head_numbers, empty_kind, waiting_kind, row_at, read_entry, write_entry, entry_at, oldest_of, count_of}

-- n words, c rows, p entries and b heads
abbrev pub lengths_for : (n c p b : ℕ) → Lengths
lengths_for n c p b = record { memory = n; rows = row_numbers * c; entries = entry_numbers * p; heads = head_numbers * b }

-- memory of N words, room for C rows and room for B·K entries, and a head a bank
abbrev pub lengths_of : Setup → Lengths
lengths_of s = lengths_for (words_of s) s.c (banks_of s * s.k) (banks_of s)

-- slices of these lengths, every number zero
abbrev pub zeroed : Lengths → Lent
zeroed due = lent (replicate due.memory 0) (replicate due.rows 0) (replicate due.entries 0) (replicate due.heads 0)

-- every length must be exact
abbrev pub lengths_ok : Setup → Lent → Bool
lengths_ok s x =
    eqb (length x.memory) (lengths_of s).memory
    && eqb (length x.rows) (lengths_of s).rows
    && eqb (length x.buffers.entries) (lengths_of s).entries
    && eqb (length x.buffers.heads) (lengths_of s).heads

-- of n words and c rows: a row's kind is one of the four; an address in it below n; a row named by it below c
abbrev pub row_ok : ℕ → ℕ → Row → Bool
row_ok n c r =
    leb r.kind waiting_kind
    && (eqb r.kind empty_kind || ltb r.address.0 n)
    && (not (eqb r.kind waiting_kind) || ltb r.link c)

-- the rows below i
unfoldable pub rows_ok : ℕ → ℕ → List ℕ → ℕ → Bool
rows_ok n c rows zero = true
rows_ok n c rows (suc i) = rows_ok n c rows i && row_ok n c (row_at c rows i)

-- a waiting entry's kind is one of the two; its cell below n; a row named by it below c
abbrev pub entry_ok : ℕ → ℕ → Entry → Bool
entry_ok n c e =
    leb e.kind write_entry
    && ltb e.cell.0 n
    && (not (eqb e.kind read_entry) || ltb e.row c)

-- entry i of those that wait at bank b, the oldest first
abbrev pub waiting_entry : Setup → Buffers → ℕ → ℕ → Entry
waiting_entry s q b i = entry_at q.entries (b * s.k + onward s.k (oldest_of q.heads b) i)

-- the oldest i of them
unfoldable pub entries_ok : Setup → Buffers → ℕ → ℕ → Bool
entries_ok s q b zero = true
entries_ok s q b (suc i) = entries_ok s q b i && entry_ok (words_of s) s.c (waiting_entry s q b i)

-- oldest place below K, count at most K
abbrev pub head_ok : Setup → List ℕ → ℕ → Bool
head_ok s heads b = ltb (oldest_of heads b) s.k && leb (count_of heads b) s.k

abbrev pub buffer_ok : Setup → Buffers → ℕ → Bool
buffer_ok s q b = head_ok s q.heads b && entries_ok s q b (count_of q.heads b)

-- the buffers of the banks below b
unfoldable pub buffers_ok : Setup → Buffers → ℕ → Bool
buffers_ok s q zero = true
buffers_ok s q (suc b) = buffers_ok s q b && buffer_ok s q b

-- turn below m; row position below C; every row; each of the B buffers
abbrev pub numbers_ok : Setup → State → List ℕ → Buffers → Bool
numbers_ok s t rows q =
    (ltb t.turn s.m && ltb t.position s.c)
    && rows_ok (words_of s) s.c rows s.c
    && buffers_ok s q (banks_of s)

------------------------------------------------------------------------
-- What a call knows of the lent slices: of the buffers' room once 2 is past, of the rest once 3 is

pub record Room (s : Setup) (q : Buffers) : Type 0 where
  pub entries_long : length q.entries ≡ (lengths_of s).entries
  pub heads_long : length q.heads ≡ (lengths_of s).heads

-- what 1 and 2 show
pub record Exact (s : Setup) (x : Lent) : Type 0 where
  pub ranges : Ranges s
  pub memory_long : length x.memory ≡ (lengths_of s).memory
  pub rows_long : length x.rows ≡ (lengths_of s).rows
  pub room : Room s x.buffers

pub record GoodRows (s : Setup) (rows : List ℕ) : Type 0 where
  pub long : length rows ≡ (lengths_of s).rows
  pub ok : (i : ℕ) → i < s.c → row_ok (words_of s) s.c (row_at s.c rows i) ≡ true

abbrev pub HeadsOk : Setup → List ℕ → Type 0
HeadsOk s heads = (b : ℕ) → b < banks_of s → head_ok s heads b ≡ true

pub record GoodBuffers (s : Setup) (q : Buffers) : Type 0 where
  pub room : Room s q
  pub heads_ok : HeadsOk s q.heads
  pub waiting : (b i : ℕ) → b < banks_of s → i < count_of q.heads b → entry_ok (words_of s) s.c (waiting_entry s q b i) ≡ true

pub record Good (s : Setup) (x : Lent) : Type 0 where
  pub ranges : Ranges s
  pub memory_long : length x.memory ≡ (lengths_of s).memory
  pub rows : GoodRows s x.rows
  pub buffers : GoodBuffers s x.buffers

-- and of the state
pub record Ready (s : Setup) (t : State) (x : Lent) : Type 0 where
  pub good : Good s x
  pub turn : t.turn < s.m
  pub position : t.position < s.c

-- a row's place that a lookup answers is one of the c
abbrev pub Within : ℕ → Option ℕ → Type 0
Within c (Some i) = i < c
Within c None = Unit
