-- The table by position holds the live rows of the table by cycle number. Assumes nothing.
use mathlib.Core.Path.{◌≡◌, refl, sym, ap, ◌∙◌}
use mathlib.Core.Logic.{◌≢◌, inl}
use mathlib.Core.Bool.{Bool, true, false, cond, ◌||◌}
use mathlib.Core.List.{List, [], ◌∷◌}
use Prim.Native.Nat.{ℕ, zero, suc, ◌+◌, ◌-◌, ◌%◌, ◌≤◌, ◌<◌}
use native.Mathlib.Nat.{add-zero, zero-add, mod-lt, mod-eq_of_lt, mod-eq-sub-mod, mod_self, suc-mod, zero-mod}
use native.Mathlib.Omega.{arith}
use lib.ListN.{length, get_or, set, length-set}
use lib.Seq.{get_or-set_same, get_or-set_other}
use Rattle.theory.proofs.Test.{same, lt, Says, is, isnt, lt?, same?, same_refl, same_false}
use Rattle.theory.proofs.Operations.{read, Setup}
use Rattle.theory.proofs.Machine.{Entry, rd, Row, none, put, got, wait, St, nothing, there, names, writes, look, newer, fill, filled, shape}
use Rattle.theory.proofs.Table.{back, at_place, look_back, newer_back, fill_at, fill_from, found_at}
use Rattle.theory.proofs.Turns.{remainder_inj}
use Rattle.theory.proofs.Keeps.{Taken, Base, RowOk}
use Rattle.theory.proofs.Queue.{stands_time, InTime}

-- the position before that of cycle suc t is that of cycle t
pub back-mod : (rest t : ℕ) → back rest (suc t % suc rest) ≡ t % suc rest
back-mod rest t = rw (suc-mod t (suc rest)) (go (same (suc (t % suc rest)) (suc rest)) (same? _ _))
  where
    l : t % suc rest < suc rest
    l = mod-lt t (omega arith)

    go : (x : Bool) → Says (suc (t % suc rest) ≡ suc rest) x → back rest (suc (t % suc rest) % suc rest) ≡ t % suc rest
    go x (is p) = let q : rest ≡ t % suc rest = omega arith in rw (p, mod_self) q
    go x (isnt f) = let q : suc (t % suc rest) < suc rest = omega (arith, l) in rw (mod-eq_of_lt q)

-- what filling leaves at each place
module _ {W : Type 0} (p : ℕ) (v : W) where
  pub length-fill : (i : ℕ) (tab : List (Row W)) → length (fill_from p v i tab) ≡ length tab
  length-fill i [] = refl
  length-fill i (x ∷ tab) = ap suc (length-fill (suc i) tab)

  get_or-fill_from : (i : ℕ) (tab : List (Row W)) (j : ℕ) → get_or (fill_from p v i tab) j none ≡ fill_at p v (i + j) (get_or tab j none)
  get_or-fill_from i [] j = refl
  get_or-fill_from i (x ∷ tab) zero = rw add-zero
  get_or-fill_from i (x ∷ tab) (suc j) = let e : suc i + j ≡ i + suc j = omega arith in get_or-fill_from (suc i) tab j ∙ rw e

  pub get_or-fill : (tab : List (Row W)) (j : ℕ) → get_or (fill_from p v 0 tab) j none ≡ fill_at p v j (get_or tab j none)
  get_or-fill tab j = get_or-fill_from 0 tab j ∙ rw zero-add

module _ (W : Type 0) (rest : ℕ) where
  pub record Tab (t : ℕ) (row : ℕ → Row W) (tab : List (Row W)) : Type 0 where
    pub size : length tab ≡ suc rest
    pub live : (r : ℕ) → r < t → t ≤ r + suc rest → get_or tab (r % suc rest) none ≡ at_place (suc rest) (row r)
    pub unused : (p : ℕ) → t ≤ p → p < suc rest → get_or tab p none ≡ none

  ----------------------------------------------------------------------
  -- Arrival fills the row of this cycle

  pub tab_note : (t : ℕ) (x : Row W) (row : ℕ → Row W) (tab : List (Row W)) → Tab t row tab → Tab (suc t) (λ r. cond (same t r) x (row r)) (set tab (t % suc rest) (at_place (suc rest) x))
  tab_note t x row tab k = record {
    size = length-set tab (t % suc rest) _ ∙ k.size;
    live = λ r h l. go r h l (same t r) (same? t r);
    unused = λ p h l.
        let e : t % suc rest ≡ t = mod-eq_of_lt (omega arith) in
        let f : p ≢ t % suc rest = omega arith in
        get_or-set_other tab (t % suc rest) p _ none f ∙ k.unused p (omega arith) l;
  }
    where
      go : (r : ℕ) → r < suc t → suc t ≤ r + suc rest → (y : Bool) → Says (t ≡ r) y → get_or (set tab (t % suc rest) (at_place (suc rest) x)) (r % suc rest) none ≡ at_place (suc rest) (cond y x (row r))
      go r h l y (is p) =
          let m : t % suc rest < length tab = omega (arith, k.size, mod-lt t {m = suc rest} (omega arith)) in
          rw (← p) (get_or-set_same tab (t % suc rest) _ none m)
      go r h l y (isnt f) =
          let n : r % suc rest ≢ t % suc rest = λ e. f (sym (remainder_inj (suc rest) r t (omega arith) (omega arith) e)) in
          get_or-set_other tab (t % suc rest) (r % suc rest) _ none n ∙ k.live r (omega arith) (omega arith)

  ----------------------------------------------------------------------
  -- Retirement looks at the place that this cycle will fill

  pub tab_oldest : (t : ℕ) (row : ℕ → Row W) (tab : List (Row W)) → Tab t row tab → suc rest ≤ t → get_or tab (t % suc rest) none ≡ at_place (suc rest) (row (t - suc rest))
  tab_oldest t row tab k h = rw (mod-eq-sub-mod h) (k.live (t - suc rest) (omega arith) (omega arith))

  pub tab_young : (t : ℕ) (row : ℕ → Row W) (tab : List (Row W)) → Tab t row tab → t < suc rest → get_or tab (t % suc rest) none ≡ none
  tab_young t row tab k h = rw (mod-eq_of_lt h) (k.unused t (omega arith) h)

  ----------------------------------------------------------------------
  -- The lookup

  names_at : (a : ℕ) (x : Row W) → names a (at_place (suc rest) x) ≡ names a x
  names_at a none = refl
  names_at a (put b w) = refl
  names_at a (got b w) = refl
  names_at a (wait b n) = refl

  look_unused : (a t n p : ℕ) (row : ℕ → Row W) (tab : List (Row W)) → Tab t row tab → t + n ≤ p → p ≤ suc rest → look_back rest a tab n p ≡ nothing
  look_unused a t zero p row tab k h l = refl
  look_unused a t (suc n) zero row tab k h l = absurd (omega arith)
  look_unused a t (suc n) (suc p) row tab k h l = rw (k.unused p (omega arith) l) (look_unused a t n p row tab k (omega arith) (omega arith))

  pub tab_look : (a t n u : ℕ) (row : ℕ → Row W) (tab : List (Row W)) → Tab t row tab → u ≤ t → t + n ≤ u + suc rest
      → look_back rest a tab n (u % suc rest) ≡ found_at (suc rest) (look a row n u)
  tab_look a t zero u row tab k h l = refl
  tab_look a t (suc n) zero row tab k h l = rw (zero-mod (suc rest), k.unused rest (omega arith) (omega arith)) (look_unused a t n rest row tab k (omega arith) (omega arith))
  tab_look a t (suc n) (suc u) row tab k h l = rw (back-mod, k.live u (omega arith) (omega arith), names_at, tab_look a t n u row tab k (omega arith) (omega arith)) (go (names a (row u)))
    where
      go : (y : Bool) → cond y (there (u % suc rest)) (found_at (suc rest) (look a row n u)) ≡ found_at (suc rest) (cond y (there u) (look a row n u))
      go true = refl
      go false = refl

  ----------------------------------------------------------------------
  -- Rows that change

  pub tab_keep : (t : ℕ) (row row' : ℕ → Row W) (tab : List (Row W)) → Tab t row tab → ((r : ℕ) → row r ≡ row' r) → Tab t row' tab
  tab_keep t row row' tab k e = record { size = k.size; live = λ r h l. k.live r h l ∙ ap (at_place (suc rest)) (e r); unused = k.unused }

  pub tab_fill : (t p : ℕ) (v : W) (row row' : ℕ → Row W) (tab : List (Row W)) → Tab t row tab
      → ((r : ℕ) → r < t → t ≤ r + suc rest → fill_at p v (r % suc rest) (at_place (suc rest) (row r)) ≡ at_place (suc rest) (row' r)) → Tab t row' (fill_from p v 0 tab)
  tab_fill t p v row row' tab k e = record {
    size = length-fill p v 0 tab ∙ k.size;
    live = λ r h l. get_or-fill p v tab (r % suc rest) ∙ ap (fill_at p v (r % suc rest)) (k.live r h l) ∙ e r h l;
    unused = λ q h l. get_or-fill p v tab q ∙ ap (fill_at p v q) (k.unused q h l);
  }

  ----------------------------------------------------------------------
  -- The same for newer writes

  writes_at : (a : ℕ) (x : Row W) → writes a (at_place (suc rest) x) ≡ writes a x
  writes_at a none = refl
  writes_at a (put b w) = refl
  writes_at a (got b w) = refl
  writes_at a (wait b n) = refl

  newer_unused : (a t n p : ℕ) (row : ℕ → Row W) (tab : List (Row W)) → Tab t row tab → t + n ≤ p → p ≤ suc rest → newer_back rest a tab n p ≡ false
  newer_unused a t zero p row tab k h l = refl
  newer_unused a t (suc n) zero row tab k h l = absurd (omega arith)
  newer_unused a t (suc n) (suc p) row tab k h l = rw (k.unused p (omega arith) l) (newer_unused a t n p row tab k (omega arith) (omega arith))

  pub tab_newer : (a t n u : ℕ) (row : ℕ → Row W) (tab : List (Row W)) → Tab t row tab → u ≤ t → t + n ≤ u + suc rest → newer_back rest a tab n (u % suc rest) ≡ newer a row n u
  tab_newer a t zero u row tab k h l = refl
  tab_newer a t (suc n) zero row tab k h l = rw (zero-mod (suc rest), k.unused rest (omega arith) (omega arith)) (newer_unused a t n rest row tab k (omega arith) (omega arith))
  tab_newer a t (suc n) (suc u) row tab k h l = rw (back-mod, k.live u (omega arith) (omega arith), writes_at, tab_newer a t n u row tab k (omega arith) (omega arith))

------------------------------------------------------------------------
-- Service of one bank

-- two live cycles at one place are one
live_inj : (rest t a b : ℕ) → a < t → t ≤ a + suc rest → b < t → t ≤ b + suc rest → a % suc rest ≡ b % suc rest → a ≡ b
live_inj rest t a b h₁ l₁ h₂ l₂ e = go (lt a b) (lt? a b)
  where
    go : (x : Bool) → Says (a < b) x → a ≡ b
    go x (is p) = remainder_inj (suc rest) a b (omega arith) (omega arith) e
    go x (isnt p) = sym (remainder_inj (suc rest) b a (omega arith) (omega arith) (sym e))

module _ (W : Type 0) (g : Setup) (m : ℕ) (Addr : ℕ → Type 0) (ta : Taken W Addr)
    (b t : ℕ) (nx : ℕ → ℕ) (s : St W) (i : Base W g m Addr ta nx t t s) (ahead : (a : ℕ) → t ≤ nx (g.bank a)) (long : g.delay ≤ suc g.rest) where
  open ta use {did}

  abbrev Cg : ℕ
  Cg = suc g.rest

  -- one row: a is the address of the entry served, k its cycle
  module _ (a k : ℕ) (q : List (Entry W)) (e : s.buf b ≡ rd a k ∷ q) where
    head_time : InTime {W = W} g.bank m g.delay Addr b t (nx b) (rd a k)
    head_time = (rw e at (i.times b)).0

    head_did : did k ≡ read a
    head_did = (rw (head_time.0, e) at (i.reads a)).0.0

    -- row r waits on n at the address c: it is filled where it is the entry's row, or waits on that; the first comes to the second
    module _ (r c n : ℕ) (h : r < t) (l : t ≤ r + Cg) (sh : read c ≡ did r) (ok : RowOk W g m Addr ta s.buf r (wait c n)) where
      time : (n < t) × (nx (g.bank c) ≤ n + g.delay)
      time = stands_time g.bank m g.delay Addr c n (g.bank c) t (nx (g.bank c)) (s.buf (g.bank c)) ok.3 (i.times (g.bank c))

      live_head : t ≤ k + Cg
      live_head = omega (arith, head_time.2, rw head_time.0 at (ahead a))

      waits_on : k % Cg ≡ n % Cg → k ≡ n
      waits_on = live_inj g.rest t k n head_time.1 live_head time.0 (omega (arith, time.1, ahead c))

      -- the entry's own row waits on itself
      own_row : k % Cg ≡ r % Cg → k ≡ n
      own_row e' = kr ∙ sym (ok.4 (rw (← kr, ← ac, head_time.0, e) (inl refl)))
        where
          kr : k ≡ r
          kr = live_inj g.rest t k r head_time.1 live_head h l e'

          ac : a ≡ c
          ac = cc (head_did, sh, ap did kr)

      its : k ≡ n → a ≡ c
      its kn = cc (head_did, ok.0, ap did kn)

      it_fills : (y : Bool) → Says (b ≡ g.bank c) y → k ≡ n → got c (s.mem a) ≡ at_place Cg (filled y (s.buf (g.bank c)) c n (s.mem c))
      it_fills y (is f) kn = rw (← f, e, ← kn, same_refl, its kn)
      it_fills y (isnt f) kn = absurd (f (sym head_time.0 ∙ ap g.bank (its kn)))

      it_leaves : (y : Bool) → Says (b ≡ g.bank c) y → k ≢ n → wait c (n % Cg) ≡ at_place Cg (filled y (s.buf (g.bank c)) c n (s.mem c))
      it_leaves y (is f) kn = rw (← f, e, same_false kn)
      it_leaves y (isnt f) kn = refl

      fill_wait : fill_at (k % Cg) (s.mem a) (r % Cg) (wait c (n % Cg)) ≡ at_place Cg (filled (same b (g.bank c)) (s.buf (g.bank c)) c n (s.mem c))
      fill_wait = go (same (r % Cg) (k % Cg)) (same (n % Cg) (k % Cg)) (same? _ _) (same? _ _)
        where
          go : (y₁ y₂ : Bool) → Says (r % Cg ≡ k % Cg) y₁ → Says (n % Cg ≡ k % Cg) y₂
              → cond (y₁ || y₂) (got c (s.mem a)) (wait c (n % Cg)) ≡ at_place Cg (filled (same b (g.bank c)) (s.buf (g.bank c)) c n (s.mem c))
          go y₁ y₂ (is p) q = it_fills (same b (g.bank c)) (same? _ _) (own_row (sym p))
          go y₁ y₂ (isnt p) (is q) = it_fills (same b (g.bank c)) (same? _ _) (waits_on (sym q))
          go y₁ y₂ (isnt p) (isnt q) = it_leaves (same b (g.bank c)) (same? _ _) (λ z. q (ap (λ (j : ℕ). j % Cg) (sym z)))

    pub fill_one : (r : ℕ) (x : Row W) → r < t → t ≤ r + Cg → shape x ≡ did r → RowOk W g m Addr ta s.buf r x
        → fill_at (k % Cg) (s.mem a) (r % Cg) (at_place Cg x) ≡ at_place Cg (fill g.bank (same b) s x)
    fill_one r none h l sh ok = refl
    fill_one r (put c w) h l sh ok = refl
    fill_one r (got c w) h l sh ok = refl
    fill_one r (wait c n) h l sh ok = fill_wait r c n h l sh ok
