-- Each part of a cycle keeps the machine by position in step with the machine by cycle number. Assumes nothing.
use mathlib.Core.Path.{◌≡◌, refl, sym, ap, ◌∙◌}
use mathlib.Core.Bool.{Bool, true, false, cond}
use mathlib.Core.List.{List, [], ◌∷◌, map, map-append}
use Prim.Native.Nat.{ℕ, zero, suc, ◌+◌, ◌-◌, ◌%◌, ◌≤◌, ◌<◌}
use native.Mathlib.Nat.{mod-eq_of_lt}
use native.Mathlib.Omega.{arith}
use lib.ListN.{length, get_or, length-map}
use Rattle.theory.proofs.Test.{same, lt, Says, is, isnt, lt?, same?, same_false, lt_true}
use Rattle.theory.proofs.Operations.{Op, idle, read, write, nil}
use Rattle.theory.proofs.Machine.{Entry, rd, wr, Row, none, put, got, wait, St, Found, nothing, there, Plan, only, needs, out, deliver, pop, stored, filled, fill, serve, look, names, newer, ext, push, note, room, shed, retire_row, retire_at, retire, Kept, plan, merge, echo, seat, land}
use Rattle.theory.proofs.Machine as M
use Rattle.theory.proofs.Table.{at_place, entry_at, newer_back, fill_tab, found_at}
use Rattle.theory.proofs.Concrete.{Config, setup, CSt, CKept, onward, ago, store, serve_one, serve_to, deliver_c, push_c, shed_c, room_c, retire_row_c, retire_c, note_c, plan_c, seat_c, land_c}
use Rattle.theory.proofs.Concrete as N
use Rattle.theory.proofs.Queue.{Timely}
use Rattle.theory.proofs.Keeps.{Taken, Base, serve-base}
use Rattle.theory.proofs.Turns.{mod-onward, mod-ago}
use Rattle.theory.proofs.Serves.{firsts, serve-next, serve_pass, serve_zero}
use Rattle.theory.proofs.LiveRows.{Tab, tab_note, tab_oldest, tab_young, tab_look, tab_newer, tab_keep, tab_fill, fill_one}

module _ (W : Type 0) (k : Config) where
  pub record Sim (t : ℕ) (c : CSt W) (s : St W) : Type 0 where
    pub bufs : (b : ℕ) → c.buf b ≡ map (entry_at (suc k.rest)) (s.buf b)
    pub mems : (a : ℕ) → c.mem a ≡ s.mem a
    pub tabs : Tab W k.rest t s.row c.tab
    pub turns : c.turn ≡ t % k.m
    pub places : c.pos ≡ t % suc k.rest

  ----------------------------------------------------------------------
  -- Service of one bank

  pop-map : (x : Bool) (f : Entry W → Entry W) (q : List (Entry W)) → pop x (map f q) ≡ map f (pop x q)
  pop-map false f q = refl
  pop-map true f [] = refl
  pop-map true f (e ∷ q) = refl

  store-map : (n : ℕ) (q : List (Entry W)) (a : ℕ) (v : W) → store (map (entry_at n) q) a v ≡ store q a v
  store-map n [] a v = refl
  store-map n (rd c r ∷ q) a v = refl
  store-map n (wr c w ∷ q) a v = refl

  -- another bank's entry leaves a alone
  store_other : (Addr : ℕ → Type 0) (b c h a : ℕ) (q : List (Entry W)) (v : W) → Timely k.bank k.m k.delay Addr b c h q → ¬ (b ≡ k.bank a) → store q a v ≡ v
  store_other Addr b c h a [] v i f = refl
  store_other Addr b c h a (rd d r ∷ q) v i f = refl
  store_other Addr b c h a (wr d w ∷ q) v i f = rw (same_false (λ e. f (sym i.0.0 ∙ ap k.bank e)))

  store_own : (q : List (Entry W)) (a : ℕ) (v : W) → store q a v ≡ stored true q a v
  store_own [] a v = refl
  store_own (e ∷ q) a v = refl

  -- a bank whose oldest entry is no read fills no row
  unfilled : (b : ℕ) (s : St W) (q : List (Entry W)) → s.buf b ≡ q → ((a n : ℕ) (v : W) → filled true q a n v ≡ wait a n) → (x : Row W) → x ≡ fill k.bank (same b) s x
  unfilled b s q e f none = refl
  unfilled b s q e f (put a w) = refl
  unfilled b s q e f (got a w) = refl
  unfilled b s q e f (wait a n) = go (same b (k.bank a)) (same? _ _)
    where
      go : (y : Bool) → Says (b ≡ k.bank a) y → wait a n ≡ filled y (s.buf (k.bank a)) a n (s.mem a)
      go y (is p) = rw (← p, e) (sym (f a n (s.mem a)))
      go y (isnt p) = refl

  module _ (Addr : ℕ → Type 0) (ta : Taken W Addr) (long : k.delay ≤ suc k.rest) where
    abbrev pub Ok : (ℕ → ℕ) → ℕ → St W → Type 0
    Ok nx t s = Base W (setup k) k.m Addr ta nx t t s × ((a : ℕ) → t ≤ nx (k.bank a))

    sim_tab : (b t : ℕ) (nx : ℕ → ℕ) (c : CSt W) (s : St W) → Sim t c s → Ok nx t s → (q : List (Entry W)) → s.buf b ≡ q
        → Tab W k.rest t (serve k.bank (same b) s).row (fill_tab (map (entry_at (suc k.rest)) q) c.mem c.tab)
    sim_tab b t nx c s m i [] e = tab_keep W k.rest t s.row _ c.tab m.tabs (λ r. unfilled b s [] e (λ a n v. refl) (s.row r))
    sim_tab b t nx c s m i (wr a w ∷ q) e = tab_keep W k.rest t s.row _ c.tab m.tabs (λ r. unfilled b s (wr a w ∷ q) e (λ a n v. refl) (s.row r))
    sim_tab b t nx c s m i (rd a j ∷ q) e =
        rw (m.mems a) (tab_fill W k.rest t (j % suc k.rest) (s.mem a) s.row (serve k.bank (same b) s).row c.tab m.tabs
        (λ r h l. fill_one W (setup k) k.m Addr ta b t nx s i.0 i.1 long a j q e r (s.row r) h l (i.0.shapes r h) (i.0.oks r h)))

    sim_mem : (b t : ℕ) (nx : ℕ → ℕ) (c : CSt W) (s : St W) → Sim t c s → Ok nx t s → (a : ℕ) → (serve_one b c).mem a ≡ (serve k.bank (same b) s).mem a
    sim_mem b t nx c s m i a = rw (m.bufs b, m.mems a, store-map) (go (same b (k.bank a)) (same? _ _))
      where
        go : (y : Bool) → Says (b ≡ k.bank a) y → store (s.buf b) a (s.mem a) ≡ stored y (s.buf (k.bank a)) a (s.mem a)
        go y (is p) = rw (← p) (store_own (s.buf b) a (s.mem a))
        go y (isnt f) = store_other Addr b t (nx b) a (s.buf b) (s.mem a) (i.0.times b) f

    sim_one : (b t : ℕ) (nx : ℕ → ℕ) (c : CSt W) (s : St W) → Sim t c s → Ok nx t s → Sim t (serve_one b c) (serve k.bank (same b) s)
    sim_one b t nx c s m i = record {
      bufs = λ b'. rw (m.bufs b') (pop-map (same b b') _ (s.buf b'));
      mems = sim_mem b t nx c s m i;
      tabs = rw (m.bufs b) (sim_tab b t nx c s m i (s.buf b) refl);
      turns = m.turns;
      places = m.places;
    }

    --------------------------------------------------------------------
    -- Of the first n banks

    later : (nx : ℕ → ℕ) (t n : ℕ) → ℕ → ℕ
    later nx t n b = cond (firsts k.m t n b) (nx b + k.m) (nx b)

    ok_firsts : (n t : ℕ) (nx : ℕ → ℕ) (s : St W) → Ok nx t s → Ok (later nx t n) t (serve k.bank (firsts k.m t n) s)
    unfolding later
    ok_firsts n t nx s i = (serve-base W (setup k) k.m Addr ta (firsts k.m t n) nx _ t t s (λ b. refl) i.0, λ a. go a (firsts k.m t n (k.bank a)))
      where
        go : (a : ℕ) (y : Bool) → t ≤ cond y (nx (k.bank a) + k.m) (nx (k.bank a))
        go a true = omega (arith, i.1 a)
        go a false = i.1 a

    pub sim_serve : (n t : ℕ) (nx : ℕ → ℕ) (c : CSt W) (s : St W) → Sim t c s → Ok nx t s → Sim t (serve_to k.m n c) (serve k.bank (firsts k.m t n) s)
    sim_serve zero t nx c s m i = rw (serve_zero k.m t k.bank s) m
    sim_serve (suc n) t nx c s m i = go (sim_serve n t nx c s m i) (same (n % k.m) c.turn) (ap (same (n % k.m)) (sym m.turns))
      where
        go : Sim t (serve_to k.m n c) (serve k.bank (firsts k.m t n) s)
            → (x : Bool) → same (n % k.m) (t % k.m) ≡ x → Sim t (cond x (serve_one n (serve_to k.m n c)) (serve_to k.m n c)) (serve k.bank (firsts k.m t (suc n)) s)
        go ih true e = rw (← (serve-next k.m t k.bank n s e)) (sim_one n t (later nx t n) (serve_to k.m n c) (serve k.bank (firsts k.m t n) s) ih (ok_firsts n t nx s i))
        go ih false e = rw (← (serve_pass k.m t k.bank n s e)) ih

  ----------------------------------------------------------------------
  -- Placing and noting

  ext-map : (f : Entry W → Entry W) (x : Bool) (e : Entry W) → cond x (f e ∷ []) [] ≡ map f (cond x (e ∷ []) [])
  ext-map f true e = refl
  ext-map f false e = refl

  sim_push : (t b : ℕ) (e : Entry W) (c : CSt W) (s : St W) → Sim t c s → Sim t (push_c b (entry_at (suc k.rest) e) c) (push b e s)
  sim_push t b e c s m = record {
    bufs = λ b'. rw (m.bufs b', ext-map (entry_at (suc k.rest)) (same b b') e) (sym (map-append (entry_at (suc k.rest)) (s.buf b') (ext b e b')));
    mems = m.mems;
    tabs = m.tabs;
    turns = m.turns;
    places = m.places;
  }

  module _ (pos : 0 < k.m) where
    sim_note : (t : ℕ) (x : Row W) (c : CSt W) (s : St W) → Sim t c s → Sim (suc t) (note_c k (at_place (suc k.rest) x) c) (note t x s)
    sim_note t x c s m = record {
      bufs = m.bufs;
      mems = m.mems;
      tabs = rw m.places (tab_note W k.rest t x s.row c.tab m.tabs);
      turns = ap (onward k.m) m.turns ∙ mod-onward k.m t pos;
      places = ap (onward (suc k.rest)) m.places ∙ mod-onward (suc k.rest) t (omega arith);
    }

  pub same_length : (b t : ℕ) (c : CSt W) (s : St W) → Sim t c s → length (c.buf b) ≡ length (s.buf b)
  same_length b t c s m = ap length (m.bufs b) ∙ length-map (s.buf b) (entry_at (suc k.rest))

  same-room : (K b t : ℕ) (c : CSt W) (s : St W) → Sim t c s → room_c K b c ≡ room K b s
  same-room K b t c s m = ap (λ (n : ℕ). lt n K) (same_length b t c s m)

  ----------------------------------------------------------------------
  -- Delivery

  out_at : (x : Row W) → out (at_place (suc k.rest) x) ≡ out x
  out_at none = refl
  out_at (put a w) = refl
  out_at (got a w) = refl
  out_at (wait a n) = refl

  pub sim_deliver : (t : ℕ) (c : CSt W) (s : St W) → k.delay ≤ suc k.rest → 0 < k.delay → Sim t c s → deliver_c k c ≡ deliver (setup k) t s
  unfolding deliver
  sim_deliver t c s long d m = rw m.places (go (lt t k.delay) (lt? _ _))
    where
      go : (x : Bool) → Says (t < k.delay) x → out (get_or c.tab (ago k.rest k.delay (t % suc k.rest)) none) ≡ cond x nil (out (s.row (t - k.delay)))
      go x (is h) =
          let e : t % suc k.rest ≡ t = mod-eq_of_lt (omega arith) in
          rw (e, lt_true h, m.tabs.unused (t + suc k.rest - k.delay) (omega arith) (omega arith))
      go x (isnt h) =
          let u : t - k.delay + k.delay ≡ t = omega arith in
          let e : ago k.rest k.delay (t % suc k.rest) ≡ (t - k.delay) % suc k.rest = rw u at (mod-ago k.rest k.delay (t - k.delay) long) in
          rw (e, m.tabs.live (t - k.delay) (omega arith) (omega arith)) (out_at (s.row (t - k.delay)))

  ----------------------------------------------------------------------
  -- Retirement

  abbrev pub SimKept : ℕ → CKept W → Kept W → Type 0
  SimKept t (N.kept c) (M.kept s) = Sim t c s
  SimKept t (N.kept c) M.full = ⊥
  SimKept t N.full (M.kept s) = ⊥
  SimKept t N.full M.full = Unit {0}

  sim_shed : (t : ℕ) (y z : Bool) (b : ℕ) (e : Entry W) (c : CSt W) (s : St W) → Sim t c s → SimKept t (shed_c y z b (entry_at (suc k.rest) e) c) (shed y z b e s)
  sim_shed t true z b e c s m = m
  sim_shed t false true b e c s m = sim_push t b e c s m
  sim_shed t false false b e c s m = tt

  sim_row : (K t : ℕ) (x : Row W) (c : CSt W) (s : St W) → Sim t c s → SimKept t (retire_row_c k K (at_place (suc k.rest) x) c) (retire_row (setup k) K t x s)
  sim_row K t none c s m = m
  sim_row K t (got a w) c s m = m
  sim_row K t (wait a n) c s m = m
  sim_row K t (put a w) c s m =
      let e : newer_back k.rest a c.tab k.rest c.pos ≡ newer a s.row k.rest t
      = ap (newer_back k.rest a c.tab k.rest) m.places ∙ tab_newer W k.rest a t k.rest t s.row c.tab m.tabs (omega arith) (omega arith) in
      rw (e, same-room K (k.bank a) t c s m) (sim_shed t (newer a s.row k.rest t) (room K (k.bank a) s) (k.bank a) (wr a w) c s m)

  pub sim_retire : (mode : Bool) (K t : ℕ) (c : CSt W) (s : St W) → Sim t c s → SimKept t (retire_c mode k K c) (retire mode (setup k) K t s)
  sim_retire false K t c s m = m
  sim_retire true K t c s m = go (get_or c.tab c.pos none) (ap (λ (p : ℕ). get_or c.tab p none) m.places) (lt t (suc k.rest)) (lt? _ _)
    where
      go : (x : Row W) → x ≡ get_or c.tab (t % suc k.rest) none → (y : Bool) → Says (t < suc k.rest) y → SimKept t (retire_row_c k K x c) (retire_at y (setup k) K t s)
      go x e y (is h) = rw (e, tab_young W k.rest t s.row c.tab m.tabs h) m
      go x e y (isnt h) = rw (e, tab_oldest W k.rest t s.row c.tab m.tabs (omega arith)) (sim_row K t (s.row (t - suc k.rest)) c s m)

  ----------------------------------------------------------------------
  -- Arrival

  abbrev pub plan_at : Plan W → Plan W
  plan_at (only x) = only (at_place (suc k.rest) x)
  plan_at (needs b e x) = needs b (entry_at (suc k.rest) e) (at_place (suc k.rest) x)

  -- what a lookup finds is live
  Live : ℕ → ℕ → Found → Type 0
  Live n t nothing = Unit {0}
  Live n t (there r) = (r < t) × (t ≤ r + n)

  look_live : (a : ℕ) (row : ℕ → Row W) (n t : ℕ) → Live n t (look a row n t)
  unfolding Live
  look_live a row zero t = tt
  look_live a row (suc n) zero = tt
  look_live a row (suc n) (suc t) = go (names a (row t)) (look a row n t) (look_live a row n t)
    where
      go : (y : Bool) (f : Found) → Live n t f → Live (suc n) (suc t) (cond y (there t) f)
      go true f l = (omega arith, omega arith)
      go false nothing l = tt
      go false (there r) l = (omega arith, omega arith)

  echo-at : (b t a : ℕ) (x : Row W) → echo b (t % suc k.rest) a (at_place (suc k.rest) x) ≡ plan_at (echo b t a x)
  echo-at b t a none = refl
  echo-at b t a (put c w) = refl
  echo-at b t a (got c w) = refl
  echo-at b t a (wait c n) = refl

  merge-at : (b t a : ℕ) (c : CSt W) (s : St W) → Sim t c s → (f : Found) → Live k.rest t f
      → merge b (t % suc k.rest) a (λ p. get_or c.tab p none) (found_at (suc k.rest) f) ≡ plan_at (merge b t a s.row f)
  unfolding Live
  merge-at b t a c s m nothing l = refl
  merge-at b t a c s m (there r) l = rw (m.tabs.live r l.0 (omega arith)) (echo-at b t a (s.row r))

  pub sim_plan : (mode : Bool) (t : ℕ) (o : Op W) (c : CSt W) (s : St W) → Sim t c s → plan_c mode k o c ≡ plan_at (plan mode (setup k) t o s)
  sim_plan mode t idle c s m = refl
  sim_plan false t (write a w) c s m = refl
  sim_plan true t (write a w) c s m = refl
  sim_plan false t (read a) c s m = rw m.places
  sim_plan true t (read a) c s m =
      rw (m.places, tab_look W k.rest a t k.rest t s.row c.tab m.tabs (omega arith) (omega arith))
      (merge-at (k.bank a) t a c s m (look a s.row k.rest t) (look_live a s.row k.rest t))

  module _ (pos : 0 < k.m) where
    sim_seat : (y : Bool) (t b : ℕ) (e : Entry W) (x : Row W) (c : CSt W) (s : St W) → Sim t c s
        → Sim (suc t) (seat_c y k b (entry_at (suc k.rest) e) (at_place (suc k.rest) x) c) (seat y t b e x s)
    sim_seat true t b e x c s m = sim_note pos t x (push_c b (entry_at (suc k.rest) e) c) (push b e s) (sim_push t b e c s m)
    sim_seat false t b e x c s m = sim_note pos t none c s m

    pub sim_land : (K t : ℕ) (p : Plan W) (c : CSt W) (s : St W) → Sim t c s
        → ((land_c k K (plan_at p) c).taken ≡ (land K t p s).taken) × Sim (suc t) (land_c k K (plan_at p) c).st (land K t p s).st
    sim_land K t (only x) c s m = (refl, sim_note pos t x c s m)
    sim_land K t (needs b e x) c s m = (same-room K b t c s m, rw (same-room K b t c s m) (sim_seat (room K b s) t b e x c s m))
