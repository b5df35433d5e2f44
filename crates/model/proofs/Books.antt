-- Cycle for cycle, the theory's machine by cycle number, over cells, replies as the ledger, and each buffer holds placed less served entries. Assumes nothing.
use Prim.Native.Nat.{ℕ, zero, suc, ◌+◌, ◌-◌, ◌%◌, ◌<◌}
use native.Mathlib.Omega.{arith}
use mathlib.Core.Path.{◌≡◌, refl, sym, ap, ◌∙◌}
use mathlib.Core.Bool.{Bool, true, false, not, cond, false≢true, true≢false, ◌&&◌, ◌||◌}
use mathlib.Core.List.{List, [], ◌∷◌}
use lib.Dec.{eqb, ltb}
use lib.ListN.{length, take, drop, length-append}
use borrow.Author.Tests.{ltb-true, ltb-false, eq-eqb, ne_eqb}
use Rattle.answers.specs.Answers.{done, dropped}
use Rattle.choice.specs.Choice.{pick}
use Rattle.setup.specs.Setup.{map_of, Ranges, banks_of, words_of, merging}
use Rattle.setup.specs.declared.Setup.{Setup}
use Rattle.map.specs.Map.{cell_of, bank_at}
use Rattle.map.proofs.Split.{bank_below}
use Rattle.map.specs.declared.Address.{Address}
use Rattle.port.specs.declared.Operation.{Operation}
use Rattle.port.specs.declared.Operation.TheVariants.{Idle, Read, Write}
use Rattle.port.specs.declared.Delivery.{Delivery}
use Rattle.port.specs.declared.Reply.{Reply}
use Rattle.model.specs.Calls.{address_ok}
use Rattle.model.specs.Sram.{wrote, touched, some, sram, due}
use Rattle.model.specs.Ledger.{Ledger, fresh_ledger, waits, serviced, Need, nowhere, at, retiring, retires, arrives, full, given, noted, entered}
use Rattle.model.proofs.Config.{config_of, shown_op, shown_delivery}
use Rattle.model.proofs.Entered.{entered_halted, entered_passes, given_halted, retired_to, Way, takes, drops, halts, way, Held, held_serviced, held_given}
use Rattle.model.proofs.Cells.{Below, or-cond, wrote-rewrites, touched-touches, written-upd}
use Rattle.theory.proofs.Test.{same, lt, Says, is, isnt, same?, lt?, lt_true, same-eqb}
use Rattle.theory.proofs.Operations.{Op, idle, read, write, rewrites, touches, nil, owed, ideal, word}
use Rattle.theory.proofs.Operations as operations
use Rattle.theory.proofs.Machine.{Entry, rd, wr, Row, none, put, got, wait, St, Found, nothing, there, Plan, only, needs, Kept, kept, Run, on, off, shape, writes, names, newer, look, room, shed, retire_row, retire_at, retire, echo, merge, plan, land, seat, served, finish, cycle, answer?, answer, gives, pop, ext, push, note, fresh}
use Rattle.theory.proofs.Machine as machine
use Rattle.theory.proofs.Concrete.{setup}
use Rattle.theory.proofs.Keeps.{shape-fill}
use Rattle.theory.proofs.Port.{Owes}

-- what the theory knows of a setup but for its depth
abbrev pub shared : Setup → operations.Setup
shared s = setup (config_of s)

writes_is : (c : ℕ) (x : Row ℕ) → writes c x ≡ rewrites c (shape x)
writes_is c none = refl
writes_is c (put b w) = refl
writes_is c (got b w) = refl
writes_is c (wait b n) = refl

names_is : (c : ℕ) (x : Row ℕ) → names c x ≡ touches c (shape x)
names_is c none = refl
names_is c (put b w) = refl
names_is c (got b w) = refl
names_is c (wait b n) = refl

------------------------------------------------------------------------
-- The past is what the rows of the t cycles record, by cell

module _ (s : Setup) where
  abbrev Hist : ℕ → List Operation → (ℕ → Row ℕ) → Type 0
  Hist zero [] row = Unit {0}
  Hist zero (o ∷ p) row = ⊥
  Hist (suc t) [] row = ⊥
  Hist (suc t) (o ∷ p) row = (shown_op s o ≡ shape (row t)) × Below s o × Hist t p row

  hist_same : (t : ℕ) (p : List Operation) (row row' : ℕ → Row ℕ) → ((r : ℕ) → r < t → shape (row r) ≡ shape (row' r)) → Hist t p row
      → Hist t p row'
  hist_same zero [] row row' e h = tt
  hist_same zero (o ∷ p) row row' e h = h
  hist_same (suc t) [] row row' e h = h
  hist_same (suc t) (o ∷ p) row row' e h = (h.0 ∙ e t (omega arith), h.1, hist_same t p row row' (λ r l. e r (omega arith)) h.2)

  hist_length : (t : ℕ) (p : List Operation) (row : ℕ → Row ℕ) → Hist t p row → length p ≡ t
  hist_length zero [] row h = refl
  hist_length zero (o ∷ p) row h = absurd h
  hist_length (suc t) [] row h = absurd h
  hist_length (suc t) (o ∷ p) row h = ap suc (hist_length t p row h.2)

  -- the row of suc n cycles ago, if there was one, is of the operation with n newer ones
  abbrev Oldest : Bool → List Operation → Row ℕ → Type 0
  Oldest true [] x = Unit {0}
  Oldest true (o ∷ p) x = ⊥
  Oldest false [] x = ⊥
  Oldest false (o ∷ p) x = (shown_op s o ≡ shape x) × Below s o

  hist_oldest : (n t : ℕ) (p : List Operation) (row : ℕ → Row ℕ) → Hist t p row → (y : Bool) → Says (t < suc n) y
      → Oldest y (drop n p) (row (t - suc n))
  hist_oldest zero zero [] row h y (is l) = tt
  hist_oldest (suc n) zero [] row h y (is l) = tt
  hist_oldest n zero [] row h y (isnt l) = absurd (omega arith)
  hist_oldest n zero (o ∷ p) row h y l = absurd h
  hist_oldest n (suc t) [] row h y l = absurd h
  hist_oldest zero (suc t) (o ∷ p) row h y (is l) = absurd (omega arith)
  hist_oldest zero (suc t) (o ∷ p) row h y (isnt l) = let z : suc t - 1 ≡ t = omega arith in rw z (h.0, h.1)
  hist_oldest (suc n) (suc t) (o ∷ p) row h y (is l) = let z : suc t - suc (suc n) ≡ t - suc n = omega arith in rw z (hist_oldest n t p row h.2 true (is (omega arith)))
  hist_oldest (suc n) (suc t) (o ∷ p) row h y (isnt l) = let z : suc t - suc (suc n) ≡ t - suc n = omega arith in rw z (hist_oldest n t p row h.2 false (isnt (omega arith)))

  module _ (r : Ranges s) (a : Address) (below : a.0 < words_of s) where
    abbrev c : ℕ
    c = (cell_of (map_of s) a).0

    row_wrote : (o : Operation) → Below s o → (x : Row ℕ) → shown_op s o ≡ shape x → writes c x ≡ wrote a o
    row_wrote o h x e = writes_is c x ∙ ap (rewrites c) (sym e) ∙ sym (wrote-rewrites s r a below o h)

    row-touched : (o : Operation) → Below s o → (x : Row ℕ) → shown_op s o ≡ shape x → touched a o ≡ names c x
    row-touched o h x e = touched-touches s r a below o h ∙ ap (touches c) e ∙ sym (names_is c x)

    hist_newer : (n t : ℕ) (p : List Operation) (row : ℕ → Row ℕ) → Hist t p row → newer c row n t ≡ some (wrote a) (take n p)
    hist_newer zero t p row h = refl
    hist_newer (suc n) zero [] row h = refl
    hist_newer (suc n) zero (o ∷ p) row h = absurd h
    hist_newer (suc n) (suc t) [] row h = absurd h
    hist_newer (suc n) (suc t) (o ∷ p) row h =
        rw (row_wrote o h.1 (row t) h.0, hist_newer n t p row h.2) (sym (or-cond (wrote a o) (some (wrote a) (take n p))))

    -- what a lookup finds, and that it names the cell
    abbrev Looks : (ℕ → Row ℕ) → Bool → Found → Type 0
    Looks row x nothing = x ≡ false
    Looks row x (there q) = (x ≡ true) × (names c (row q) ≡ true)

    hist_look : (n t : ℕ) (p : List Operation) (row : ℕ → Row ℕ) → Hist t p row
        → Looks row (some (touched a) (take n p)) (look c row n t)
    hist_look zero t p row h = refl
    hist_look (suc n) zero [] row h = refl
    hist_look (suc n) zero (o ∷ p) row h = absurd h
    hist_look (suc n) (suc t) [] row h = absurd h
    hist_look (suc n) (suc t) (o ∷ p) row h =
        rw (row-touched o h.1 (row t) h.0) (go (names c (row t)) refl (look c row n t) (hist_look n t p row h.2))
      where
        go : (x : Bool) → names c (row t) ≡ x → (f : Found) → Looks row (some (touched a) (take n p)) f
            → Looks row (x || some (touched a) (take n p)) (cond x (there t) f)
        go true e f k = (refl, e)
        go false e f k = k

    -- the ideal SRAM is the ledger's
    hist_ideal : (mem : ℕ → ℕ) (did : ℕ → Op ℕ) (row : ℕ → Row ℕ) (t : ℕ) (p : List Operation) → Hist t p row
        → ((q : ℕ) → q < t → shape (row q) ≡ did q)
        → sram (λ x. mem (cell_of (map_of s) x).0) p a ≡ ideal mem did t c
    unfolding ideal
    hist_ideal mem did row zero [] h e = refl
    hist_ideal mem did row zero (o ∷ p) h e = absurd h
    hist_ideal mem did row (suc t) [] h e = absurd h
    hist_ideal mem did row (suc t) (o ∷ p) h e =
        rw (hist_ideal mem did row t p h.2 (λ q l. e q (omega arith)), ← (e t (omega arith)), ← h.0) (written-upd s r a below o h.1 (ideal mem did t c))

  -- and so is what is due: n more operations came after it
  module _ (r : Ranges s) (mem : ℕ → ℕ) (did : ℕ → Op ℕ) (row : ℕ → Row ℕ) where
    abbrev start : Address → ℕ
    start x = mem (cell_of (map_of s) x).0

    newest_due : (t : ℕ) (o : Operation) (p : List Operation) → Below s o → Hist t p row → ((q : ℕ) → q < t → shape (row q) ≡ did q)
        → owed (shown_op s o) (ideal mem did t) ≡ shown_delivery (due start (o ∷ p))
    newest_due t Idle p h k e = refl
    newest_due t (Write a w) p h k e = refl
    newest_due t (Read a) p h k e = ap word (sym (hist_ideal r a h mem did row t p k e))

    hist_due : (n t : ℕ) (p : List Operation) → Hist t p row → ((q : ℕ) → q < t → shape (row q) ≡ did q) → (y : Bool)
        → Says (t < suc n) y
        → cond y nil (owed (did (t - suc n)) (ideal mem did (t - suc n))) ≡ shown_delivery (due start (drop n p))
    hist_due zero zero [] h e y (is l) = refl
    hist_due (suc n) zero [] h e y (is l) = refl
    hist_due n zero [] h e y (isnt l) = absurd (omega arith)
    hist_due n zero (o ∷ p) h e y l = absurd h
    hist_due n (suc t) [] h e y l = absurd h
    hist_due zero (suc t) (o ∷ p) h e y (is l) = absurd (omega arith)
    hist_due zero (suc t) (o ∷ p) h e y (isnt l) =
        let z : suc t - 1 ≡ t = omega arith in
        rw (z, ← (e t (omega arith)), ← h.0) (newest_due t o p h.1 h.2 (λ q k. e q (omega arith)))
    hist_due (suc n) (suc t) (o ∷ p) h e y (is l) = hist_due n t p h.2 (λ q k. e q (omega arith)) true (is (omega arith))
    hist_due (suc n) (suc t) (o ∷ p) h e y (isnt l) =
        let z : suc t - suc (suc n) ≡ t - suc n = omega arith in
        rw z (hist_due n t p h.2 (λ q k. e q (omega arith)) false (isnt (omega arith)))

------------------------------------------------------------------------
-- The ledger and the state before cycle t

pub record Books (s : Setup) (t : ℕ) (l : Ledger) (m : St ℕ) : Type 0 where
  pub hist : Hist s t l.past m.row
  pub counts : (b : ℕ) → b < banks_of s → l.placed b ≡ l.served b + length (m.buf b)

pub books_waits : (s : Setup) (t : ℕ) (l : Ledger) (m : St ℕ) → Books s t l m → (b : ℕ) → b < banks_of s → waits l b ≡ length (m.buf b)
books_waits s t l m i b h = let k = i.counts b h in omega arith

serve-count : (x y : Bool) (q : List (Entry ℕ)) (placed served : ℕ) → placed ≡ served + length q → ltb 0 (placed - served) ≡ y
    → placed ≡ served + pick (x && y) 1 0 + length (pop x q)
serve-count false y q placed served e k = omega arith
serve-count true true [] placed served e k = let z = ltb-true 0 (placed - served) k in omega arith
serve-count true false [] placed served e k = omega arith
serve-count true true (x ∷ q) placed served e k = omega arith
serve-count true false (x ∷ q) placed served e k = let z = ltb-false 0 (placed - served) k in absurd (omega arith)

module _ (s : Setup) (t : ℕ) where
  ----------------------------------------------------------------------
  -- Service, placing and noting

  module _ (l : Ledger) (m : St ℕ) (i : Books s t l m) where
    same_turn : (b : ℕ) → b < banks_of s → eqb (b % s.m) (length l.past % s.m) ≡ (shared s).due b t
    same_turn b h = rw (lt_true h, hist_length s t l.past m.row i.hist, same-eqb (b % s.m) (t % s.m))

    serve_books : Books s t (serviced s l) (served (shared s) t m)
    serve_books = record {
      hist = hist_same s t l.past m.row (served (shared s) t m).row (λ r h. sym (shape-fill (shared s).bank (λ b. (shared s).due b t) m (m.row r))) i.hist;
      counts = λ b h. rw (same_turn b h) (serve-count ((shared s).due b t) (ltb 0 (waits l b)) (m.buf b) (l.placed b) (l.served b) (i.counts b h) refl);
    }

    push_books : (c : ℕ) (e : Entry ℕ) → Books s t (given (at c) l) (push c e m)
    push_books c e = record { hist = i.hist; counts = λ b h. rw (length-append (m.buf b) (ext c e b), ← (same-eqb c b)) (go b h (same c b)) }
      where
        go : (b : ℕ) → b < banks_of s → (y : Bool)
            → l.placed b + pick y 1 0 ≡ l.served b + (length (m.buf b) + length (cond y (e ∷ []) []))
        go b h true = let k = i.counts b h in omega arith
        go b h false = let k = i.counts b h in omega arith

    note_books : (o : Operation) (x : Row ℕ) → Below s o → shown_op s o ≡ shape x → Books s (suc t) (noted o l) (note t x m)
    note_books o x h e = record {
      hist = (go (same t t) (same? t t), h, hist_same s t l.past m.row (note t x m).row (λ r k. old r k (same t r) (same? t r)) i.hist);
      counts = i.counts;
    }
      where
        go : (y : Bool) → Says (t ≡ t) y → shown_op s o ≡ shape (cond y x (m.row t))
        go y (is p) = e
        go y (isnt p) = absurd (p refl)

        old : (r : ℕ) → r < t → (y : Bool) → Says (t ≡ r) y → shape (m.row r) ≡ shape (cond y x (m.row r))
        old r k y (is p) = absurd (omega arith)
        old r k y (isnt p) = refl

    -- the buffer holds K exactly where there is no room
    full-room : Held s l → (c : ℕ) → c < banks_of s → full s (at c) l ≡ not (room s.k c m)
    full-room k c h = rw (books_waits s t l m i c h) (go (lt (length (m.buf c)) s.k) (lt? _ _))
      where
        go : (y : Bool) → Says (length (m.buf c) < s.k) y → eqb (length (m.buf c)) s.k ≡ not y
        go y (is p) = ne_eqb (length (m.buf c)) s.k (λ e. omega arith)
        go y (isnt p) =
            let z = k c in
            let w = books_waits s t l m i c h in
            eq-eqb (length (m.buf c)) s.k (omega arith)

  ----------------------------------------------------------------------
  -- Retirement

  abbrev BooksKept : Need → Ledger → Kept ℕ → Type 0
  BooksKept n l (kept m) = (full s n l ≡ false) × Books s t (given n l) m
  BooksKept n l machine.full = full s n l ≡ true

  -- what a row does when it retires, by the operation that it records
  abbrev retire_op : Op ℕ → St ℕ → Kept ℕ
  retire_op idle m = kept m
  retire_op (read c) m = kept m
  retire_op (write c w) m = shed (newer c m.row (shared s).rest t) (room s.k ((shared s).bank c) m) ((shared s).bank c) (wr c w) m

  retire-row : (x : Row ℕ) (m : St ℕ) → retire_row (shared s) s.k t x m ≡ retire_op (shape x) m
  retire-row none m = refl
  retire-row (put c w) m = refl
  retire-row (got c w) m = refl
  retire-row (wait c n) m = refl

  module _ (r : Ranges s) (l : Ledger) (m : St ℕ) (i : Books s t l m) (k : Held s l) where
    shed_books : (c : ℕ) → c < banks_of s → (e : Entry ℕ) (x y : Bool) → room s.k c m ≡ y
        → BooksKept (pick x nowhere (at c)) l (shed x y c e m)
    shed_books c h e true y q = (refl, i)
    shed_books c h e false true q = (full-room l m i k c h ∙ ap not q, push_books l m i c e)
    shed_books c h e false false q = full-room l m i k c h ∙ ap not q

    retired_books : (o : Operation) (p : List Operation) → Below s o
        → BooksKept (retiring s (take (s.c - 1) l.past) (o ∷ p)) l (retire_op (shown_op s o) m)
    retired_books Idle p h = (refl, i)
    retired_books (Read a) p h = (refl, i)
    retired_books (Write a w) p h =
        rw (← (hist_newer s r a h (s.c - 1) t l.past m.row i.hist))
        (shed_books (bank_at (map_of s) a) (bank_below (map_of s) (cell_of (map_of s) a)) (wr (cell_of (map_of s) a).0 w) (newer (cell_of (map_of s) a).0 m.row (s.c - 1) t) (room s.k (bank_at (map_of s) a) m) refl)

    oldest_books : (y : Bool) (p : List Operation) → Oldest s y p (m.row (t - suc (s.c - 1)))
        → BooksKept (retiring s (take (s.c - 1) l.past) p) l (retire_at y (shared s) s.k t m)
    oldest_books true [] h = (refl, i)
    oldest_books true (o ∷ p) h = absurd h
    oldest_books false [] h = absurd h
    oldest_books false (o ∷ p) h = rw (retire-row (m.row (t - suc (s.c - 1))) m, ← h.0) (retired_books o p h.1)

    retire_books : BooksKept (retires s l) l (retire (merging s) (shared s) s.k t m)
    retire_books = go (merging s)
      where
        go : (mode : Bool)
            → BooksKept (pick mode (retiring s (take (s.c - 1) l.past) (drop (s.c - 1) l.past)) nowhere) l (retire mode (shared s) s.k t m)
        go false = (refl, i)
        go true = oldest_books (lt t (suc (s.c - 1))) (drop (s.c - 1) l.past) (hist_oldest s (s.c - 1) t l.past m.row i.hist _ (lt? _ _))

    --------------------------------------------------------------------
    -- Arrival

    abbrev Arrives : Operation → Need → Plan ℕ → Type 0
    Arrives o n p =
        ((land s.k t p m).taken ≡ not (full s n l))
        × Books s (suc t) (pick (full s n l) (noted Idle l) (noted o (given n l))) (land s.k t p m).st

    only_arrives : (o : Operation) (x : Row ℕ) → Below s o → shown_op s o ≡ shape x → Arrives o nowhere (only x)
    only_arrives o x h e = (refl, note_books l m i o x h e)

    needs_arrives : (c : ℕ) → c < banks_of s → (o : Operation) (en : Entry ℕ) (x : Row ℕ) → Below s o → shown_op s o ≡ shape x
        → Arrives o (at c) (needs c en x)
    needs_arrives c b o en x h e = rw (full-room l m i k c b) (go (room s.k c m))
      where
        go : (y : Bool)
            → (y ≡ not (not y)) × Books s (suc t) (pick (not y) (noted Idle l) (noted o (given (at c) l))) (seat y t c en x m)
        go true = (refl, note_books (given (at c) l) (push c en m) (push_books l m i c en) o x h e)
        go false = (refl, note_books l m i Idle none tt refl)

    module _ (a : Address) (h : a.0 < words_of s) where
      abbrev cell : ℕ
      cell = (cell_of (map_of s) a).0

      echo-arrives : (x : Row ℕ) → names cell x ≡ true → Arrives (Read a) nowhere (echo (bank_at (map_of s) a) t cell x)
      echo-arrives none e = absurd (false≢true e)
      echo-arrives (put b w) e = only_arrives (Read a) (got cell w) h refl
      echo-arrives (got b w) e = only_arrives (Read a) (got cell w) h refl
      echo-arrives (wait b n) e = only_arrives (Read a) (wait cell n) h refl

      read-arrives : Arrives (Read a) (at (bank_at (map_of s) a)) (needs (bank_at (map_of s) a) (rd cell t) (wait cell t))
      read-arrives = needs_arrives (bank_at (map_of s) a) (bank_below (map_of s) (cell_of (map_of s) a)) (Read a) (rd cell t) (wait cell t) h refl

      merge-arrives : (x : Bool) (f : Found) → Looks s r a h m.row x f
          → Arrives (Read a) (pick x nowhere (at (bank_at (map_of s) a))) (merge (bank_at (map_of s) a) t cell m.row f)
      merge-arrives x nothing q = rw q read-arrives
      merge-arrives x (there p) q = rw q.0 (echo-arrives (m.row p) q.1)

    plan-arrives : (o : Operation) → Below s o → Arrives o (arrives s o l) (plan (merging s) (shared s) t (shown_op s o) m)
    plan-arrives Idle h = only_arrives Idle none h refl
    plan-arrives (Read a) h = go (merging s)
      where
        go : (mode : Bool)
            → Arrives (Read a) (pick (mode && some (touched a) (take (s.c - 1) l.past)) nowhere (at (bank_at (map_of s) a))) (plan mode (shared s) t (read (cell_of (map_of s) a).0) m)
        go false = read-arrives a h
        go true = merge-arrives a h (some (touched a) (take (s.c - 1) l.past)) (look (cell_of (map_of s) a).0 m.row (s.c - 1) t) (hist_look s r a h (s.c - 1) t l.past m.row i.hist)
    plan-arrives (Write a w) h = go (merging s)
      where
        go : (mode : Bool)
            → Arrives (Write a w) (pick mode nowhere (at (bank_at (map_of s) a))) (plan mode (shared s) t (write (cell_of (map_of s) a).0 w) m)
        go false = needs_arrives (bank_at (map_of s) a) (bank_below (map_of s) (cell_of (map_of s) a)) (Write a w) (wr (cell_of (map_of s) a).0 w) (put (cell_of (map_of s) a).0 w) h refl
        go true = only_arrives (Write a w) (put (cell_of (map_of s) a).0 w) h refl

------------------------------------------------------------------------
-- A cycle

-- a stopped machine is asked for its counts alone
abbrev pub BooksRun : Setup → ℕ → Ledger → Run ℕ → Type 0
BooksRun s t l (on m) = (l.halted ≡ false) × Books s t l m
BooksRun s t l (off m) = (l.halted ≡ true) × ((b : ℕ) → b < banks_of s → waits l b ≡ length (m.buf b))

pub books_fresh : (s : Setup) (mem : ℕ → ℕ) → BooksRun s 0 fresh_ledger (on (fresh mem))
books_fresh s mem = (refl, record { hist = tt; counts = λ b h. omega arith })

module _ (s : Setup) (r : Ranges s) (t : ℕ) (o : Operation) (h : Below s o) where
  -- l is the ledger after service
  module _ (l : Ledger) (m : St ℕ) (i : Books s t l m) (k : Held s l) (going : l.halted ≡ false) (d : Delivery) (stamp : ℕ) where
    ended_books : (e : Reply × Ledger) → Way s o d stamp l e → (q : Kept ℕ) → BooksKept s t (retires s l) l q
        → (answer? (merging s) (shared s) s.k t (shown_op s o) q ≡ e.0.answer)
        × BooksRun s (suc t) e.1 (finish (merging s) (shared s) s.k t (shown_op s o) m q)
    ended_books e (halts p) machine.full j = (refl, (refl, books_waits s t l m i))
    ended_books e (halts p) (kept n) j = absurd (true≢false (sym p ∙ j.0))
    ended_books e (takes p q) machine.full j = absurd (true≢false (sym j ∙ p))
    ended_books e (drops p q) machine.full j = absurd (true≢false (sym j ∙ p))
    ended_books e (takes p q) (kept n) j =
        let a = plan-arrives s t r (retired_to s l) n j.1 (held_given s (retires s l) l k p) o h in
        let taken = rw q at a.0 in (
          ap (λ (b : Bool). cond b done dropped) taken,
          (given_halted (arrives s o (retired_to s l)) (retired_to s l) ∙ given_halted (retires s l) l ∙ going, rw q at a.1),
        )
    ended_books e (drops p q) (kept n) j =
        let a = plan-arrives s t r (retired_to s l) n j.1 (held_given s (retires s l) l k p) o h in
        let taken = rw q at a.0 in
        (ap (λ (b : Bool). cond b done dropped) taken, (given_halted (retires s l) l ∙ going, rw q at a.1))

  pub cycle_books : (start : Address → ℕ) (l : Ledger) (n : Run ℕ) → BooksRun s t l n → Held s l → address_ok s o ≡ true
      → (answer (merging s) (shared s) s.k t (shown_op s o) n ≡ (entered s start o l).0.answer)
      × BooksRun s (suc t) (entered s start o l).1 (cycle (merging s) (shared s) s.k t (shown_op s o) n)
  cycle_books start l (off m) i k a = rw (entered_halted s start o l i.0) (refl, i)
  cycle_books start l (on m) i k a =
      let j = serve_books s t l m i.1 in
      let k₁ = held_serviced s l k in
      rw (entered_passes s start o l i.0 a)
      (ended_books (serviced s l) (served (shared s) t m) j k₁ i.0 _ _ _ (way s o _ _ (serviced s l))
      (retire (merging s) (shared s) s.k t (served (shared s) t m)) (retire_books s t r (serviced s l) (served (shared s) t m) j k₁))

-- what the machine delivers is what is due
pub gives-due : (s : Setup) → Ranges s → (mem : ℕ → ℕ) (t : ℕ) (l : Ledger) (m : St ℕ) → Books s t l m → 0 < s.delta
    → Owes (merging s) (config_of s) s.k mem t m
    → gives (merging s) (shared s) s.k t (on m) ≡ shown_delivery (due (λ x. mem (cell_of (map_of s) x).0) (drop (s.delta - 1) l.past))
gives-due s r mem t l m i pos (did, rows, e) =
    let n : suc (s.delta - 1) ≡ s.delta = omega arith in
    e ∙ (rw n at (hist_due s r mem did m.row (s.delta - 1) t l.past i.hist rows (lt t (suc (s.delta - 1))) (lt? _ _)))
