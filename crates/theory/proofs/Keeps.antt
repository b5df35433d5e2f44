-- Demand 2: the invariant of a run, and that each part of a cycle keeps it, in both modes. Assumes nothing.
--
-- did r is the operation taken at cycle r (idle where it was dropped), I r a the ideal SRAM's word at a before cycle r. Before cycle t:
--   shapes   the row of each r < t records did r
--   reads    in a's buffer, with mem a at its head and each write entry played in turn, a read entry for (a, r) meets the word I r a,
--            and did r is that read
--   oks      a row r with its word has I r a; a row r that waits on n: did n reads the same address, I n a = I r a, n ≤ r, and the
--            entry of n stands in a's buffer; and if r's own entry stands, r waits on itself
--   times    the entry at index i of bank b's buffer is served in cycle next b t + i * m; a read's is at most its cycle + delay, so it
--            has its word in time, and its row is live (delay ≤ C): this is all that the table by position needs
--   Cur n    mem a, then a's buffer played, then the n operations before t played, oldest first, is I t a; n = 0 in plain mode; in
--            merging mode n = C before a cycle and C - 1 between retirement and arrival (the live rows are one more buffer behind the
--            buffer: retirement moves their oldest write across, or drops it where a newer live write hides it)
use mathlib.Core.Path.{◌≡◌, refl, sym, ap, ◌∙◌}
use mathlib.Core.Bool.{Bool, true, false, cond, false≢true}
use mathlib.Core.Logic.{◌⊎◌, inl, inr}
use mathlib.Core.List.{List, [], ◌∷◌, ◌++◌, append-nil}
use Prim.Native.Nat.{ℕ, zero, suc, ◌+◌, ◌-◌, ◌*◌, ◌≤◌, ◌<◌}
use native.Mathlib.Nat.{suc-mul, mul-le-mul_right}
use native.Mathlib.Omega.{arith}
use lib.ListN.{length}
use Rattle.theory.proofs.Test.{same, lt, Says, is, isnt, lt?, same?, same_refl, same_true}
use Rattle.theory.proofs.Operations.{Op, idle, read, write, Setup, Fine, upd, word, owed}
use Rattle.theory.proofs.Machine.{Entry, rd, wr, Row, none, put, got, wait, St, as_op, shape, pop, filled, fill, serve, served, ext, push, note, seat, arrive, room, newer, look, writes, names, Kept, kept, full, shed, retire_row, retire_at, retire, Found, nothing, there, land, echo, merge, Plan, Run, on, off, fresh, finish, cycle, takes, takes?, out}
use Rattle.theory.proofs.Queue.{play, play-append, play-serve, Sees, Reads, reads_append, reads_serve, Stands, stands_append, stands_last, stands_other, stands_time, InTime, Timely, timely_last, timely_later, timely_serve}

-- the turns: next b t is the first cycle from t on that serves the bank b, where b is some address's bank
pub record Clock (m : ℕ) (g : Setup) : Type 0 where
  pub next : ℕ → ℕ → ℕ
  pub turn : (b t : ℕ) → next b (suc t) ≡ cond (g.due b t) (next b t + m) (next b t)
  pub ahead : (a t : ℕ) → t ≤ next (g.bank a) t
  pub near : (a t : ℕ) → next (g.bank a) t < t + m

-- service leaves what a row records
module _ {W : Type 0} (bank : ℕ → ℕ) (p : ℕ → Bool) (s : St W) where
  shape-filled : (x : Bool) (q : List (Entry W)) (a n : ℕ) (v : W) → shape (filled x q a n v) ≡ read a
  shape-filled false q a n v = refl
  shape-filled true [] a n v = refl
  shape-filled true (wr b w ∷ q) a n v = refl
  shape-filled true (rd b r ∷ q) a n v = go (same r n)
    where
      go : (x : Bool) → shape (cond x (got a v) (wait a n)) ≡ read a
      go true = refl
      go false = refl

  pub shape-fill : (x : Row W) → shape (fill bank p s x) ≡ shape x
  shape-fill none = refl
  shape-fill (put a w) = refl
  shape-fill (got a w) = refl
  shape-fill (wait a n) = shape-filled (p (bank a)) (s.buf (bank a)) a n (s.mem a)

-- the operations taken, all on addresses that Addr allows, and the ideal SRAM's words before each cycle
pub record Taken (W : Type 0) (Addr : ℕ → Type 0) : Type 0 where
  pub did : ℕ → Op W
  pub I : ℕ → ℕ → W
  pub I-suc : (t a : ℕ) → I (suc t) a ≡ upd a (did t) (I t a)
  pub legal : (t : ℕ) → Fine Addr (did t)

module _ (W : Type 0) (g : Setup) (m : ℕ) (Addr : ℕ → Type 0) (ta : Taken W Addr) where
  open ta use {did, I, I-suc, legal}

  -- a row of cycle r, over these buffers
  abbrev pub RowOk : (ℕ → List (Entry W)) → ℕ → Row W → Type 0
  RowOk buf r none = Unit {0}
  RowOk buf r (put a w) = Unit {0}
  RowOk buf r (got a w) = w ≡ I r a
  RowOk buf r (wait a n) = (did n ≡ read a) × (I n a ≡ I r a) × (n ≤ r) × Stands a n (buf (g.bank a)) × (Stands a r (buf (g.bank a)) → n ≡ r)

  -- the state holds the rows of the cycles before t and entries of the cycles before c, and serves the bank b next in cycle nx b
  pub record Base (nx : ℕ → ℕ) (c t : ℕ) (s : St W) : Type 0 where
    pub shapes : (r : ℕ) → r < t → shape (s.row r) ≡ did r
    pub reads : (a : ℕ) → Reads did I a (s.mem a) (s.buf (g.bank a))
    pub oks : (r : ℕ) → r < t → RowOk s.buf r (s.row r)
    pub times : (b : ℕ) → Timely {W = W} g.bank m g.delay Addr b c (nx b) (s.buf b)

  ----------------------------------------------------------------------
  -- Service of the banks of p: of those due, or of one

  -- a row that waits, after its bank's service by the test x
  module _ (r a n : ℕ) (v : W) (buf : ℕ → List (Entry W)) (root : did n ≡ read a) (eq : I n a ≡ I r a) (le : n ≤ r) where
    filled_ok : (x : Bool) (q : List (Entry W)) → buf (g.bank a) ≡ pop x q → Reads did I a v q → Stands a n q → (Stands a r q → n ≡ r) → RowOk buf r (filled x q a n v)
    filled_ok false q eb f p o = (root, eq, le, rw eb p, rw eb o)
    filled_ok true [] eb f p o = absurd p
    filled_ok true (wr b w ∷ q) eb f (inl p) o = let z : ◌≡◌ {A = ℕ} 0 1 = cc p in absurd (omega arith)
    filled_ok true (wr b w ∷ q) eb f (inr p) o = (root, eq, le, rw eb p, λ z. o (inr (rw eb at z)))
    filled_ok true (rd b k ∷ q) eb f p o = go (same k n) (same? k n) p
      where
        go : (y : Bool) → Says (k ≡ n) y → (◌≡◌ {A = Entry W} (rd b k) (rd a n)) ⊎ Stands a n q → RowOk buf r (cond y (got a v) (wait a n))
        go y (is e) p' = let ba : b ≡ a = cc (f.0.0, root, ap did e) in f.0.1 ba ∙ ap (λ (j : ℕ). I j a) e ∙ eq
        go y (isnt e) (inl p') = let kn : k ≡ n = cc p' in absurd (e kn)
        go y (isnt e) (inr p') = (root, eq, le, rw eb p', λ z. o (inr (rw eb at z)))

  pub serve-base : (p : ℕ → Bool) (nx nx' : ℕ → ℕ) (c t : ℕ) (s : St W) → ((b : ℕ) → nx' b ≡ cond (p b) (nx b + m) (nx b))
      → Base nx c t s → Base nx' c t (serve g.bank p s)
  serve-base p nx nx' c t s e i = record {
    shapes = λ r h. shape-fill g.bank p s (s.row r) ∙ i.shapes r h;
    reads = λ a. reads_serve did I a (s.mem a) (p (g.bank a)) (s.buf (g.bank a)) (i.reads a);
    oks = λ r h. go r (s.row r) (i.oks r h);
    times = λ b. rw (e b) (timely_serve g.bank m g.delay Addr b c (nx b) (p b) (s.buf b) (i.times b));
  }
    where
      go : (r : ℕ) (x : Row W) → RowOk s.buf r x → RowOk (serve g.bank p s).buf r (fill g.bank p s x)
      go r none k = tt
      go r (put a w) k = tt
      go r (got a w) k = k
      go r (wait a n) k = filled_ok r a n (s.mem a) (serve g.bank p s).buf k.0 k.1 k.2 (p (g.bank a)) (s.buf (g.bank a)) refl (i.reads a) k.3 k.4

  pub later_base : (nx : ℕ → ℕ) (c t : ℕ) (s : St W) → Base nx c t s → Base nx (suc c) t s
  later_base nx c t s i = record { shapes = i.shapes; reads = i.reads; oks = i.oks; times = λ b. timely_later g.bank m g.delay Addr b c (nx b) (s.buf b) (i.times b) }

  ----------------------------------------------------------------------
  -- Placing an entry, and noting a row

  reads_ext : (x : Bool) (a : ℕ) (v : W) (e : Entry W) → Sees did I a v e → Reads did I a v (cond x (e ∷ []) [])
  reads_ext true a v e k = (k, tt)
  reads_ext false a v e k = tt

  abbrev home : Entry W → ℕ
  home (rd a r) = a
  home (wr a w) = a

  times-ext : (x : Bool) (b b' c h : ℕ) (q : List (Entry W)) (e : Entry W) → Says (b ≡ b') x → Timely g.bank m g.delay Addr b' c h q
      → (b ≡ b' → InTime g.bank m g.delay Addr b' c (h + length q * m) e) → Timely g.bank m g.delay Addr b' c h (q ++ cond x (e ∷ []) [])
  times-ext x b b' c h q e (is p) k l = timely_last g.bank m g.delay Addr b' c h q e k (l p)
  times-ext x b b' c h q e (isnt p) k l = rw append-nil k

  -- an entry placed in cycle t is not that of a row before t
  abbrev New : ℕ → Entry W → Type 0
  New t (rd a n) = n ≡ t
  New t (wr a w) = Unit {0}

  new_other : (t a r : ℕ) (e : Entry W) → New t e → r < t → ¬ (e ≡ rd a r)
  new_other t a r (rd b n) k h p = let z : n ≡ r = cc p in omega arith
  new_other t a r (wr b w) k h p = let z : ◌≡◌ {A = ℕ} 0 1 = cc p in omega arith

  pub push-base : (nx : ℕ → ℕ) (c t b : ℕ) (e : Entry W) (s : St W) → Base nx c t s → New t e
      → ((a : ℕ) → Sees did I a (play a (s.mem a) (s.buf (g.bank a))) e) → InTime g.bank m g.delay Addr b c (nx b + length (s.buf b) * m) e → Base nx c t (push b e s)
  push-base nx c t b e s i new k l = record {
    shapes = i.shapes;
    reads = λ a. reads_append did I a (s.mem a) (s.buf (g.bank a)) (ext b e (g.bank a)) (i.reads a) (reads_ext (same b (g.bank a)) a _ e (k a));
    oks = λ r h. go r h (s.row r) (i.oks r h);
    times = λ b'. times-ext (same b b') b b' c (nx b') (s.buf b') e (same? b b') (i.times b') (λ p. rw p at l);
  }
    where
      go : (r : ℕ) → r < t → (x : Row W) → RowOk s.buf r x → RowOk (push b e s).buf r x
      go r h none l = tt
      go r h (put a w) l = tt
      go r h (got a w) l = l
      go r h (wait a n) l = (
        l.0,
        l.1,
        l.2,
        stands_append a n (s.buf (g.bank a)) (ext b e (g.bank a)) l.3,
        λ p. l.4 (stands_other a r (same b (g.bank a)) e (s.buf (g.bank a)) (new_other t a r e new h) p),
      )

  pub note-base : (nx : ℕ → ℕ) (c t : ℕ) (x : Row W) (s : St W) → Base nx c t s → shape x ≡ did t → RowOk s.buf t x → Base nx c (suc t) (note t x s)
  note-base nx c t x s i e k = record {
    shapes = λ r h. go₁ r h (same t r) (same? t r);
    reads = i.reads;
    oks = λ r h. go₂ r h (same t r) (same? t r);
    times = i.times;
  }
    where
      go₁ : (r : ℕ) → r < suc t → (y : Bool) → Says (t ≡ r) y → shape (cond y x (s.row r)) ≡ did r
      go₁ r h y (is p) = e ∙ ap did p
      go₁ r h y (isnt f) = i.shapes r (omega arith)

      go₂ : (r : ℕ) → r < suc t → (y : Bool) → Says (t ≡ r) y → RowOk s.buf r (cond y x (s.row r))
      go₂ r h y (is p) = rw (← p) k
      go₂ r h y (isnt f) = i.oks r (omega arith)

  play-ext : (x : Bool) (a : ℕ) (u : W) (e : Entry W) → play a u (cond x (e ∷ []) []) ≡ cond x (upd a (as_op e) u) u
  play-ext true a u e = refl
  play-ext false a u e = refl

  -- an address at another bank is another address
  apart : (x y : Bool) (a b : ℕ) (w u : W) → Says (g.bank b ≡ g.bank a) x → Says (b ≡ a) y → cond x (cond y w u) u ≡ cond y w u
  apart x y a b w u (is p) f = refl
  apart x y a b w u (isnt p) (is f) = absurd (p (ap g.bank f))
  apart x y a b w u (isnt p) (isnt f) = refl

  cond_same : (x : Bool) (u : W) → cond x u u ≡ u
  cond_same true u = refl
  cond_same false u = refl

  play-push : (e : Entry W) (a : ℕ) (v : W) (q : List (Entry W)) → play a v (q ++ ext (g.bank (home e)) e (g.bank a)) ≡ upd a (as_op e) (play a v q)
  play-push (rd b r) a v q = simp (play-append, play-ext, cond_same)
  play-push (wr b w) a v q = simp (play-append, play-ext) (apart _ _ a b w (play a v q) (same? (g.bank b) (g.bank a)) (same? b a))

  -- the rest is over a depth that fits the delay, and the clock
  module _ (clock : Clock m g) (K : ℕ) (fits : K * m ≤ g.delay) where
    -- when each bank is served next, from cycle c on
    abbrev pub nexts : ℕ → ℕ → ℕ
    nexts c b = clock.next b c

    -- after the service of cycle t; before the cycle t
    abbrev pub Mid : ℕ → St W → Type 0
    Mid t s = Base (nexts (suc t)) t t s

    abbrev pub Edge : ℕ → St W → Type 0
    Edge t s = Base (nexts t) t t s

    pub in_time : (a t n : ℕ) → n < K → clock.next (g.bank a) (suc t) + n * m ≤ t + g.delay
    in_time a t n h =
        let k : suc n * m ≤ K * m = mul-le-mul_right m h in
        let l : clock.next (g.bank a) (suc t) < suc t + m = clock.near a (suc t) in
        omega (arith, suc-mul n m)

    own_last : (b : ℕ) (e : Entry W) (q : List (Entry W)) → q ++ ext b e b ≡ q ++ e ∷ []
    own_last b e q = rw (same_refl b)

    -- the read of this cycle placed, where its buffer leaves the ideal's word
    place_read : (t a : ℕ) (s : St W) → Mid t s → did t ≡ read a → play a (s.mem a) (s.buf (g.bank a)) ≡ I t a
        → length (s.buf (g.bank a)) < K → Edge (suc t) (note t (wait a t) (push (g.bank a) (rd a t) s))
    place_read t a s i d v h =
        note-base (nexts (suc t)) (suc t) t (wait a t) (push (g.bank a) (rd a t) s)
        (push-base (nexts (suc t)) (suc t) t (g.bank a) (rd a t) s (later_base (nexts (suc t)) t t s i) refl (λ a'. (d, λ e. rw (← e) v)) (refl, omega arith, in_time a t (length (s.buf (g.bank a))) h, rw d at (legal t)))
        (sym d)
        (d, refl, omega arith, rw own_last (stands_last a t (s.buf (g.bank a))), λ p. refl)

    --------------------------------------------------------------------
    -- The ideal's word now: the buffer played, then the n operations before t, oldest first

    abbrev pub recent : ℕ → ℕ → ℕ → W → W
    recent a zero t v = v
    recent a (suc n) zero v = v
    recent a (suc n) (suc t) v = upd a (did t) (recent a n t v)

    abbrev pub Cur : ℕ → ℕ → St W → Type 0
    Cur n t s = (a : ℕ) → recent a n t (play a (s.mem a) (s.buf (g.bank a))) ≡ I t a

    pub serve_good : (n t : ℕ) (s : St W) → Edge t s × Cur n t s → Mid t (served g t s) × Cur n t (served g t s)
    serve_good n t s i = (
      serve-base (λ b. g.due b t) (nexts t) (nexts (suc t)) t t s (λ b. clock.turn b t) i.0,
      λ a. ap (recent a n t) (play-serve a (s.mem a) (g.due (g.bank a) t) (s.buf (g.bank a))) ∙ i.1 a,
    )

    -- a row is noted, and no entry placed
    only_base : (t : ℕ) (x : Row W) (s : St W) → Mid t s → shape x ≡ did t → RowOk s.buf t x → Edge (suc t) (note t x s)
    only_base t x s i = note-base (nexts (suc t)) (suc t) t x s (later_base (nexts (suc t)) t t s i)

    -- nothing is done
    none_base : (t : ℕ) (s : St W) → Mid t s → did t ≡ idle → Edge (suc t) (note t none s)
    none_base t s i d = only_base t none s i (sym d) tt

    --------------------------------------------------------------------
    -- Arrival in plain mode

    plain_cur : (x : Bool) (t : ℕ) (e : Entry W) (r : Row W) (s : St W) → Cur 0 t s → did t ≡ cond x (as_op e) idle → Cur 0 (suc t) (seat x t (g.bank (home e)) e r s)
    plain_cur true t e r s c d a = play-push e a (s.mem a) (s.buf (g.bank a)) ∙ ap (upd a (as_op e)) (c a) ∙ rw (I-suc, d)
    plain_cur false t e r s c d a = c a ∙ rw (I-suc, d)

    plain-read : (x : Bool) (t a : ℕ) (s : St W) → Says (length (s.buf (g.bank a)) < K) x → Mid t s × Cur 0 t s → did t ≡ cond x (read a) idle
        → Edge (suc t) (seat x t (g.bank a) (rd a t) (wait a t) s)
    plain-read x t a s (is h) i d = place_read t a s i.0 d (i.1 a) h
    plain-read x t a s (isnt h) i d = none_base t s i.0 d

    plain-write : (x : Bool) (t a : ℕ) (w : W) (s : St W) → Mid t s → did t ≡ cond x (write a w) idle
        → Edge (suc t) (seat x t (g.bank a) (wr a w) (put a w) s)
    plain-write true t a w s i d = note-base (nexts (suc t)) (suc t) t (put a w) (push (g.bank a) (wr a w) s) (push-base (nexts (suc t)) (suc t) t (g.bank a) (wr a w) s (later_base (nexts (suc t)) t t s i) tt (λ a'. tt) (refl, rw d at (legal t))) (sym d) tt
    plain-write false t a w s i d = none_base t s i d

    pub plain-arrive : (t : ℕ) (o : Op W) (s : St W) → Mid t s × Cur 0 t s → did t ≡ cond (arrive false g K t o s).taken o idle
        → Edge (suc t) (arrive false g K t o s).st × Cur 0 (suc t) (arrive false g K t o s).st
    plain-arrive t idle s i d = (none_base t s i.0 d, λ a. i.1 a ∙ rw (I-suc, d))
    plain-arrive t (read a) s i d = (plain-read _ t a s (lt? _ _) i d, plain_cur (room K (g.bank a) s) t (rd a t) (wait a t) s i.1 d)
    plain-arrive t (write a w) s i d = (plain-write (room K (g.bank a) s) t a w s i.0 d, plain_cur (room K (g.bank a) s) t (wr a w) (put a w) s i.1 d)

    --------------------------------------------------------------------
    -- Retirement

    recent_young : (a n t : ℕ) (v : W) → t ≤ n → recent a (suc n) t v ≡ recent a n t v
    recent_young a zero zero v h = refl
    recent_young a zero (suc t) v h = absurd (omega arith)
    recent_young a (suc n) zero v h = refl
    recent_young a (suc n) (suc t) v h = ap (upd a (did t)) (recent_young a n t v (omega arith))

    recent_old : (a n t r : ℕ) (v : W) → t ≡ suc (n + r) → recent a (suc n) t v ≡ recent a n t (upd a (did r) v)
    recent_old a n zero r v e = absurd (omega arith)
    recent_old a zero (suc t) r v e = let tr : t ≡ r = omega arith in rw tr
    recent_old a (suc n) (suc t) r v e = ap (upd a (did t)) (recent_old a n t r v (omega arith))

    -- past a write to a, what stood before is forgotten
    newer_step : (a : ℕ) (x : Row W) (nw : Bool) (u v : W) → cond (writes a x) true nw ≡ true → (nw ≡ true → u ≡ v) → upd a (shape x) u ≡ upd a (shape x) v
    newer_step a none nw u v p k = k p
    newer_step a (got b w) nw u v p k = k p
    newer_step a (wait b n) nw u v p k = k p
    newer_step a (put b w) nw u v p k = go (same b a) p
      where
        go : (y : Bool) → cond y true nw ≡ true → cond y w u ≡ cond y w v
        go true p' = refl
        go false p' = k p'

    newer_any : (row : ℕ → Row W) (a n t : ℕ) (u v : W) → ((r : ℕ) → r < t → shape (row r) ≡ did r) → newer a row n t ≡ true → recent a n t u ≡ recent a n t v
    newer_any row a zero t u v sh p = absurd (false≢true p)
    newer_any row a (suc n) zero u v sh p = absurd (false≢true p)
    newer_any row a (suc n) (suc t) u v sh p =
        rw (← (sh t (omega arith))) (newer_step a (row t) (newer a row n t) (recent a n t u) (recent a n t v) p (newer_any row a n t u v (λ r h. sh r (omega arith))))

    abbrev pub KeptGood : ℕ → Kept W → Type 0
    KeptGood t (kept s) = Mid t s × Cur g.rest t s
    KeptGood t full = Unit {0}

    module _ (t r : ℕ) (s : St W) (age : t ≡ suc (g.rest + r)) (i : Mid t s × Cur (suc g.rest) t s) where
      old : (a : ℕ) → recent a g.rest t (upd a (did r) (play a (s.mem a) (s.buf (g.bank a)))) ≡ I t a
      old a = sym (recent_old a g.rest t r (play a (s.mem a) (s.buf (g.bank a))) age) ∙ i.1 a

      shed_good : (y z : Bool) (b : ℕ) (w : W) → write b w ≡ did r → newer b s.row g.rest t ≡ y → KeptGood t (shed y z (g.bank b) (wr b w) s)
      shed_good false false b w e k = tt
      shed_good false true b w e k = (push-base (nexts (suc t)) t t (g.bank b) (wr b w) s i.0 tt (λ a. tt) (refl, rw (← e) at (legal r)), λ a. ap (recent a g.rest t) (play-push (wr b w) a (s.mem a) (s.buf (g.bank a))) ∙ rw (← e) at (old a))
      shed_good true z b w e k = (i.0, λ a. go a (same b a) (same? b a) (rw (← e) at (old a)))
        where
          go : (a : ℕ) (x : Bool) → Says (b ≡ a) x → recent a g.rest t (cond x w (play a (s.mem a) (s.buf (g.bank a)))) ≡ I t a → recent a g.rest t (play a (s.mem a) (s.buf (g.bank a))) ≡ I t a
          go a x (is p) l = newer_any s.row a g.rest t _ w i.0.shapes (rw p at k) ∙ l
          go a x (isnt p) l = l

      row_good : (x : Row W) → shape x ≡ did r → KeptGood t (retire_row g K t x s)
      row_good none e = (i.0, λ a. rw (← e) at (old a))
      row_good (got b w) e = (i.0, λ a. rw (← e) at (old a))
      row_good (wait b n) e = (i.0, λ a. rw (← e) at (old a))
      row_good (put b w) e = shed_good (newer b s.row g.rest t) (room K (g.bank b) s) b w e refl

    pub retire_good : (t : ℕ) (s : St W) → Mid t s × Cur (suc g.rest) t s → KeptGood t (retire true g K t s)
    retire_good t s i = go (lt t (suc g.rest)) (lt? t (suc g.rest))
      where
        go : (y : Bool) → Says (t < suc g.rest) y → KeptGood t (retire_at y g K t s)
        go y (is h) = (i.0, λ a. sym (recent_young a g.rest t _ (omega arith)) ∙ i.1 a)
        go y (isnt f) = row_good t (t - suc g.rest) s (omega arith) i (s.row (t - suc g.rest)) (i.0.shapes (t - suc g.rest) (omega arith))

    --------------------------------------------------------------------
    -- The lookup: the newest live row of a, after which a is not written

    abbrev LookOk : ℕ → (ℕ → Row W) → ℕ → ℕ → Found → Type 0
    LookOk a row n t nothing = (v : W) → recent a n t v ≡ v
    LookOk a row n t (there r) = (r < t) × (names a (row r) ≡ true) × (I t a ≡ I (suc r) a)

    -- a row that does not name a does nothing to it
    unnamed : (a : ℕ) (x : Row W) (v : W) → names a x ≡ false → upd a (shape x) v ≡ v
    unnamed a none v p = refl
    unnamed a (got b w) v p = refl
    unnamed a (wait b n) v p = refl
    unnamed a (put b w) v p = rw p

    look_step : (row : ℕ → Row W) (a n t : ℕ) (y : Bool) (f : Found) → shape (row t) ≡ did t → names a (row t) ≡ y → LookOk a row n t f → LookOk a row (suc n) (suc t) (cond y (there t) f)
    look_step row a n t true f e p l = (omega arith, p, refl)
    look_step row a n t false nothing e p l = λ v. rw (← e) (unnamed a (row t) (recent a n t v) p ∙ l v)
    look_step row a n t false (there r) e p l = (omega arith, l.1, I-suc t a ∙ rw (← e) (unnamed a (row t) (I t a) p) ∙ l.2)

    look_ok : (row : ℕ → Row W) (a n t : ℕ) → ((r : ℕ) → r < t → shape (row r) ≡ did r) → LookOk a row n t (look a row n t)
    look_ok row a zero t sh = λ v. refl
    look_ok row a (suc n) zero sh = λ v. refl
    look_ok row a (suc n) (suc t) sh = look_step row a n t (names a (row t)) (look a row n t) (sh t (omega arith)) refl (look_ok row a n t (λ r h. sh r (omega arith)))

    --------------------------------------------------------------------
    -- Arrival in merging mode

    -- the window takes the operation in; the buffers play as before
    merge_cur : (t : ℕ) (s s' : St W) → ((a : ℕ) → play a (s'.mem a) (s'.buf (g.bank a)) ≡ play a (s.mem a) (s.buf (g.bank a))) → Cur g.rest t s → Cur (suc g.rest) (suc t) s'
    merge_cur t s s' k c a = rw (k a, c a, I-suc)

    -- before arrival no entry of this cycle stands
    none_yet : (t a : ℕ) (s : St W) → Mid t s → ¬ (Stands a t (s.buf (g.bank a)))
    none_yet t a s i z =
        let l = stands_time g.bank m g.delay Addr a t (g.bank a) t (clock.next (g.bank a) (suc t)) (s.buf (g.bank a)) z (i.times (g.bank a)) in omega arith

    -- the row that the lookup found gives a read of a its word, or the row it waits on
    echo_good : (t a r : ℕ) (x : Row W) (s : St W) → Mid t s → I t a ≡ I (suc r) a → r < t → names a x ≡ true → shape x ≡ did r → RowOk s.buf r x
        → did t ≡ cond (land K t (echo (g.bank a) t a x) s).taken (read a) idle → Edge (suc t) (land K t (echo (g.bank a) t a x) s).st
    echo_good t a r none s i e h p sh k d = absurd (false≢true p)
    echo_good t a r (put b w) s i e h p sh k d = only_base t (got a w) s i (sym d) (sym (e ∙ I-suc r a ∙ rw (← sh, p)))
    echo_good t a r (got b w) s i e h p sh k d = only_base t (got a w) s i (sym d)
        (let ba : b ≡ a = same_true p in rw ba at k ∙ sym (e ∙ I-suc r a ∙ rw (← sh)))
    echo_good t a r (wait b n) s i e h p sh k d = only_base t (wait a n) s i (sym d)
        (let ba : b ≡ a = same_true p in let k' : RowOk s.buf r (wait a n) = rw (← ba) k in (k'.0, k'.1 ∙ sym (e ∙ I-suc r a ∙ rw (← sh)), omega arith, k'.3, λ z. absurd (none_yet t a s i z)))

    merge-read : (t a : ℕ) (s : St W) (f : Found) → LookOk a s.row g.rest t f → Mid t s × Cur g.rest t s
        → did t ≡ cond (land K t (merge (g.bank a) t a s.row f) s).taken (read a) idle → Edge (suc t) (land K t (merge (g.bank a) t a s.row f) s).st
    merge-read t a s nothing l i d = go (room K (g.bank a) s) (lt? _ _) d
      where
        go : (x : Bool) → Says (length (s.buf (g.bank a)) < K) x → did t ≡ cond x (read a) idle → Edge (suc t) (seat x t (g.bank a) (rd a t) (wait a t) s)
        go x (is h) d' = place_read t a s i.0 d' (sym (l _) ∙ i.1 a) h
        go x (isnt h) d' = none_base t s i.0 d'
    merge-read t a s (there r) l i d = echo_good t a r (s.row r) s i.0 l.2 l.0 l.1 (i.0.shapes r l.0) (i.0.oks r l.0) d

    seat-play : (x : Bool) (t a : ℕ) (s : St W) (c : ℕ) → play c ((seat x t (g.bank a) (rd a t) (wait a t) s).mem c) ((seat x t (g.bank a) (rd a t) (wait a t) s).buf (g.bank c)) ≡ play c (s.mem c) (s.buf (g.bank c))
    seat-play true t a s c = play-push (rd a t) c (s.mem c) (s.buf (g.bank c))
    seat-play false t a s c = refl

    -- a plan's landing, for a read in merging mode, leaves what the buffers play
    Plays : ℕ → St W → Plan W → Type 0
    Plays t s p = (c : ℕ) → play c ((land K t p s).st.mem c) ((land K t p s).st.buf (g.bank c)) ≡ play c (s.mem c) (s.buf (g.bank c))

    echo-play : (t a : ℕ) (s : St W) (x : Row W) → Plays t s (echo (g.bank a) t a x)
    unfolding Plays
    echo-play t a s none = seat-play (room K (g.bank a) s) t a s
    echo-play t a s (put b w) = λ c. refl
    echo-play t a s (got b w) = λ c. refl
    echo-play t a s (wait b n) = λ c. refl

    merge-play : (t a : ℕ) (s : St W) (f : Found) → Plays t s (merge (g.bank a) t a s.row f)
    unfolding Plays
    merge-play t a s nothing = seat-play (room K (g.bank a) s) t a s
    merge-play t a s (there r) = echo-play t a s (s.row r)

    pub merge-arrive : (t : ℕ) (o : Op W) (s : St W) → Mid t s × Cur g.rest t s → did t ≡ cond (arrive true g K t o s).taken o idle
        → Edge (suc t) (arrive true g K t o s).st × Cur (suc g.rest) (suc t) (arrive true g K t o s).st
    unfolding Plays
    merge-arrive t idle s i d = (none_base t s i.0 d, merge_cur t s (note t none s) (λ a. refl) i.1)
    merge-arrive t (write a w) s i d = (only_base t (put a w) s i.0 (sym d) tt, merge_cur t s (note t (put a w) s) (λ c. refl) i.1)
    merge-arrive t (read a) s i d = (
      merge-read t a s (look a s.row g.rest t) (look_ok s.row a g.rest t i.0.shapes) i d,
      merge_cur t s (arrive true g K t (read a) s).st (merge-play t a s (look a s.row g.rest t)) i.1,
    )

    --------------------------------------------------------------------
    -- A cycle of either mode

    abbrev pub window : Bool → ℕ
    window false = 0
    window true = suc g.rest

    abbrev pub GoodRun : Bool → ℕ → Run W → Type 0
    GoodRun mode t (on s) = Edge t s × Cur (window mode) t s
    GoodRun mode t (off s) = Unit {0}

    pub fresh_good : (mode : Bool) (mem : ℕ → W) → ((a : ℕ) → mem a ≡ I 0 a) → Edge 0 (fresh mem) × Cur (window mode) 0 (fresh mem)
    fresh_good mode mem e = (record { shapes = λ r h. absurd (omega arith); reads = λ a. tt; oks = λ r h. absurd (omega arith); times = λ b. tt }, go mode)
      where
        go : (x : Bool) → Cur (window x) 0 (fresh mem)
        go false = e
        go true = e

    finish_good : (t : ℕ) (o : Op W) (s : St W) (k : Kept W) → KeptGood t k → did t ≡ cond (takes? true g K t o k) o idle → GoodRun true (suc t) (finish true g K t o s k)
    finish_good t o s (kept r) i d = merge-arrive t o r i d
    finish_good t o s full i d = tt

    pub cycle_good : (mode : Bool) (t : ℕ) (o : Op W) (r : Run W) → GoodRun mode t r → did t ≡ cond (takes mode g K t o r) o idle → GoodRun mode (suc t) (cycle mode g K t o r)
    cycle_good mode t o (off s) i d = tt
    cycle_good false t o (on s) i d = plain-arrive t o (served g t s) (serve_good 0 t s i) d
    cycle_good true t o (on s) i d =
        finish_good t o (served g t s) (retire true g K t (served g t s)) (retire_good t (served g t s) (serve_good (suc g.rest) t s i)) d

    --------------------------------------------------------------------
    -- Delivery

    pub delivers : (n t r : ℕ) (s : St W) → Mid t s × Cur n t s → r + g.delay ≡ t → 0 < g.delay → out (s.row r) ≡ owed (did r) (I r)
    delivers n t r s i e pos = go (s.row r) (i.0.shapes r (omega arith)) (i.0.oks r (omega arith))
      where
        go : (x : Row W) → shape x ≡ did r → RowOk s.buf r x → out x ≡ owed (did r) (I r)
        go none sh k = rw (← sh)
        go (put a w) sh k = rw (← sh)
        go (got a w) sh k = rw (← sh) (ap word k)
        go (wait a j) sh k =
            let l = stands_time g.bank m g.delay Addr a j (g.bank a) t (clock.next (g.bank a) (suc t)) (s.buf (g.bank a)) k.3 (i.0.times (g.bank a)) in
            absurd (omega (arith, clock.ahead a (suc t)))
