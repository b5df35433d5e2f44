-- Numbers that stand in rows: what rows put together tell, and what a look at them tells of each number. Assumes nothing.
use Prim.Native.Nat.{ℕ, zero, suc, ◌+◌, ◌*◌, ◌/◌, ◌<◌}
use native.Mathlib.Nat.{not-suc-le-zero, le_of_suc-le-suc}
use native.Mathlib.Omega.{arith}
use mathlib.Core.Path.{◌≡◌, refl, sym, ap, ◌∙◌}
use mathlib.Core.Bool.{Bool, true, false, ◌&&◌}
use mathlib.Core.List.{List, [], ◌∷◌, ◌++◌}
use lib.Bits.{bit_or, or_zero_l, or_zero_r}
use lib.Dec.{ltb, eqb}
use lib.ListN.{get_or, length, take, drop}
use lib.Seq.{take_all}
use borrow.Author.Tests.{lt-ltb, le-ltb, ltb-true, ne_eqb}
use Rattle.std.specs.List.{fold, list_all}
use Rattle.std.specs.Simd.{first_chunks}
use Rattle.std.proofs.Math.Nat.{mul-div_cancel_left}
use Rattle.std.proofs.Math.Seq.{take-add}
use Rattle.std.proofs.lemmas.List.{get_or-take, get_or-drop, map-append, take-append-drop, drop-drop}
use Rattle.std.proofs.lemmas.List.Sums.{fold-append}
use Rattle.std.proofs.lemmas.Nat.{le_or_l, le_or_r}
use Rattle.std.proofs.lemmas.Nat.Bits.{bit_at_or, same_from_bits}
use Rattle.flat.specs.Flat.{all_below}
use Rattle.flat.proofs.Below.{said_no, and_end, and_yes, each_below, all_below_lem}
use Rattle.flat.proofs.Flat.{and_in}
use Rattle.lanes.specs.Lanes.{together, column, pairs_below, pairs_look, fours_below}
use Rattle.lanes.specs.declared.Look.{Look}

------------------------------------------------------------------------
-- Numbers put together by or

or_assoc : (a b c : ℕ) → bit_or (bit_or a b) c ≡ bit_or a (bit_or b c)
or_assoc a b c =
    same_from_bits (bit_or (bit_or a b) c) (bit_or a (bit_or b c))
    (λ i. simp bit_at_or (omega arith))

fold_or : (o : ℕ) (l : List ℕ) → fold bit_or o l ≡ bit_or o (together l)
fold_or o [] = sym (or_zero_r o)
fold_or o (x ∷ l) = rw (fold_or (bit_or o x) l, fold_or (bit_or 0 x) l, or_zero_l x) (or_assoc o x (together l))

pub together-cons : (x : ℕ) (l : List ℕ) → together (x ∷ l) ≡ bit_or x (together l)
together-cons x l = fold_or (bit_or 0 x) l ∙ ap (λ (o : ℕ). bit_or o (together l)) (or_zero_l x)

-- below the bound put together, so each
pub together_below : (bound : ℕ) (l : List ℕ) → together l < bound → true ≡ all_below bound l
unfolding all_below
together_below bound [] h = refl
together_below bound (x ∷ l) h =
    let e = together-cons x l in
    let a = le_or_l x (together l) in
    let b = le_or_r x (together l) in
    let c : ltb x bound ≡ true = lt-ltb x bound (omega arith) in
    rw c (together_below bound l (omega arith))

------------------------------------------------------------------------
-- Columns put together

column_append : (k r : ℕ) (rows more : List (List ℕ)) → r ≡ together (column k rows) → fold bit_or r (column k more) ≡ together (column k (rows ++ more))
column_append k r rows more e =
    rw (e, map-append (λ (row : List ℕ). get_or row k 0) rows more) (sym (fold-append bit_or 0 (column k rows) (column k more)))

------------------------------------------------------------------------
-- Rows of w numbers

drop_more : {A : Type 0} (w n : ℕ) (l : List A) → drop (n * w) (drop w l) ≡ drop (suc n * w) l
drop_more w n l = let e : suc n * w ≡ w + n * w = omega arith in rw e (drop-drop (n * w) w l)

chunk_at : {A : Type 0} (n m i : ℕ) (l : List A) (d : List A) → i < m → get_or (first_chunks n m l) i d ≡ take n (drop (i * n) l)
chunk_at n zero i l d h = absurd (not-suc-le-zero h)
chunk_at n (suc m) zero l d h = let e : 0 * n ≡ 0 = omega arith in rw e refl
chunk_at n (suc m) (suc i) l d h = chunk_at n m i (drop n l) d (le_of_suc-le-suc h) ∙ ap (take n) (drop_more n i l)

-- with one round more, and with the rest
module _ (k n : ℕ) (rows : List (List ℕ)) where
  pub round_next : (m i r : ℕ) (rounds : List (List (List ℕ))) (round : List (List ℕ)) → r ≡ together (column k (take (i * n) rows))
      → rounds ≡ first_chunks n m rows → round ≡ get_or rounds i round → i < m
      → fold bit_or r (column k round) ≡ together (column k (take ((i + 1) * n) rows))
  round_next m i r rounds round a e f h =
      let g : round ≡ take n (drop (i * n) rows) = f ∙ (ap (λ (z : List (List (List ℕ))). get_or z i round) e ∙ chunk_at n m i rows round h) in
      let d : (i + 1) * n ≡ i * n + n = omega arith in
      rw (g, d, take-add (i * n) n rows) (column_append k r (take (i * n) rows) (take n (drop (i * n) rows)) a)

  pub rounds_all : (m i r : ℕ) (rest : List (List ℕ)) → r ≡ together (column k (take (i * n) rows)) → i ≡ m → rest ≡ drop (m * n) rows
      → fold bit_or r (column k rest) ≡ together (column k rows)
  rounds_all m i r rest a e f =
      rw f (column_append k r (take (m * n) rows) (drop (m * n) rows) (rw e at a)
      ∙ ap (λ (z : List (List ℕ)). together (column k z)) (take-append-drop (m * n) rows))

-- one row more, at the end
chunks_end : (w n : ℕ) (l : List ℕ) → first_chunks w (suc n) l ≡ first_chunks w n l ++ (take w (drop (n * w) l) ∷ [])
chunks_end w zero l = let e : 0 * w ≡ 0 = omega arith in rw e refl
chunks_end w (suc n) l =
    ap (λ (z : List (List ℕ)). take w l ∷ z) (rw (sym (drop_more w n l)) (chunks_end w n (drop w l)))

all_end : (f : List ℕ → Bool) (ls : List (List ℕ)) (l : List ℕ) → list_all f (ls ++ (l ∷ [])) ≡ list_all f ls && f l
all_end f [] l = and_end true (f l)
all_end f (x ∷ ls) l = rw (all_end f ls l) (and_in (f x) (list_all f ls) (f l))

rows_end : (f : List ℕ → Bool) (w n : ℕ) (l : List ℕ) → list_all f (first_chunks w (suc n) l) ≡ list_all f (first_chunks w n l) && f (take w (drop (n * w) l))
rows_end f w n l = ap (list_all f) (chunks_end w n l) ∙ all_end f (first_chunks w n l) (take w (drop (n * w) l))

-- a number of the n-th row
row_at : (w n k i : ℕ) (l : List ℕ) → k < w → i ≡ w * n + k → get_or (take w (drop (n * w) l)) k 0 ≡ get_or l i 0
row_at w n k i l h e =
    let f : n * w + k ≡ i = omega arith in
    get_or-take w (drop (n * w) l) k 0 h ∙ (get_or-drop (n * w) l k 0 ∙ ap (λ (j : ℕ). get_or l j 0) f)

-- a row is below its bounds
abbrev pub pair_in : ℕ → ℕ → List ℕ → Bool
pair_in a b row = ltb (get_or row 0 0) a && ltb (get_or row 1 0) b

abbrev pub four_in : ℕ → ℕ → ℕ → List ℕ → Bool
four_in a b c row = ltb (get_or row 0 0) a && (ltb (get_or row 1 0) b && ltb (get_or row 2 0) c)

pub pairs_rows : (a b n : ℕ) (l : List ℕ) → list_all (pair_in a b) (first_chunks 2 n l) ≡ pairs_below a b l n
unfolding pairs_below
pairs_rows a b zero l = refl
pairs_rows a b (suc n) l =
    let x = row_at 2 n 0 (2 * n) l (omega arith) (omega arith) in
    let y = row_at 2 n 1 (2 * n + 1) l (omega arith) (omega arith) in
    rows_end (pair_in a b) 2 n l ∙ rw (x, y, pairs_rows a b n l) refl

pub fours_rows : (a b c n : ℕ) (l : List ℕ) → list_all (four_in a b c) (first_chunks 4 n l) ≡ fours_below a b c l n
unfolding fours_below
fours_rows a b c zero l = refl
fours_rows a b c (suc n) l =
    let x = row_at 4 n 0 (4 * n) l (omega arith) (omega arith) in
    let y = row_at 4 n 1 (4 * n + 1) l (omega arith) (omega arith) in
    let z = row_at 4 n 2 (4 * n + 2) l (omega arith) (omega arith) in
    rows_end (four_in a b c) 4 n l ∙ rw (x, y, z, fours_rows a b c n l) refl

-- below the bounds column by column, so row by row
pairs_columns : (a b : ℕ) (rows : List (List ℕ)) → all_below a (column 0 rows) ≡ true → all_below b (column 1 rows) ≡ true → list_all (pair_in a b) rows ≡ true
unfolding all_below
pairs_columns a b [] h g = refl
pairs_columns a b (row ∷ rows) h g =
    let p = and_yes (ltb (get_or row 0 0) a) (all_below a (column 0 rows)) h in
    let q = and_yes (ltb (get_or row 1 0) b) (all_below b (column 1 rows)) g in
    rw (p.0, q.0) (pairs_columns a b rows p.1 q.1)

fours_columns : (a b c : ℕ) (rows : List (List ℕ)) → all_below a (column 0 rows) ≡ true → all_below b (column 1 rows) ≡ true
    → all_below c (column 2 rows) ≡ true → list_all (four_in a b c) rows ≡ true
unfolding all_below
fours_columns a b c [] h g k = refl
fours_columns a b c (row ∷ rows) h g k =
    let p = and_yes (ltb (get_or row 0 0) a) (all_below a (column 0 rows)) h in
    let q = and_yes (ltb (get_or row 1 0) b) (all_below b (column 1 rows)) g in
    let r = and_yes (ltb (get_or row 2 0) c) (all_below c (column 2 rows)) k in
    rw (p.0, q.0, r.0) (fours_columns a b c rows p.1 q.1 r.1)

------------------------------------------------------------------------
-- Pairs: below their bounds, or with every second number 0

or_test : (x r : ℕ) → ltb x 1 && eqb r 0 ≡ eqb (bit_or x r) 0
or_test zero r = rw (or_zero_l r) refl
or_test (suc x) r =
    let h = le_or_l (suc x) r in
    let e : eqb (bit_or (suc x) r) 0 ≡ false = ne_eqb (bit_or (suc x) r) 0 (λ z. absurd (omega arith)) in
    let f : ltb (suc x) 1 ≡ false = le-ltb (suc x) 1 (omega arith) in
    rw (e, f) refl

zeros : (l : List ℕ) → all_below 1 l ≡ eqb (together l) 0
unfolding all_below
zeros [] = refl
zeros (x ∷ l) = rw (zeros l, together-cons x l) (or_test x (together l))

none_step : (p q s r z : Bool) → (s ≡ true → q ≡ true) → ((p && q) && r) && (s && z) ≡ (p && s) && (r && z)
none_step false q s r z h = refl
none_step true false true r z h = said_no (h refl)
none_step true false false r z h = refl
none_step true true true r z h = refl
none_step true true false true z h = refl
none_step true true false false z h = refl

none_rows : (a b : ℕ) → 0 < b → (rows : List (List ℕ)) → list_all (pair_in a b) rows && all_below 1 (column 1 rows) ≡ list_all (pair_in a 1) rows
unfolding all_below
none_rows a b o [] = refl
none_rows a b o (row ∷ rows) =
    none_step (ltb (get_or row 0 0) a) (ltb (get_or row 1 0) b) (ltb (get_or row 1 0) 1) (list_all (pair_in a b) rows) (all_below 1 (column 1 rows))
    (λ h. let l = ltb-true (get_or row 1 0) 1 h in lt-ltb (get_or row 1 0) b (omega arith))
    ∙ ap (λ (z : Bool). pair_in a 1 row && z) (none_rows a b o rows)

-- the rows of the first n are those of a part that has no more
pub rows_in : (w n : ℕ) (l : List ℕ) (rows : List (List ℕ)) → 0 < w → length l ≡ w * n
    → rows ≡ first_chunks w (length (take (w * n) l) / w) (take (w * n) l) → rows ≡ first_chunks w n l
rows_in w n l rows o h e =
    let a : take (w * n) l ≡ l = take_all (w * n) l (omega arith) in
    let b : w * n / w ≡ n = mul-div_cancel_left n o in
    rw (a, h, b) at e

-- a look at pairs, where y is their second numbers put together
abbrev look : Bool → Bool → Look
look below none = record { below = below; none = none }

module _ (a b n : ℕ) (l : List ℕ) (rows : List (List ℕ)) (y : ℕ) (o : 0 < b) (e : rows ≡ first_chunks 2 n l) (f : y ≡ together (column 1 rows)) where
  pub look_each : (below : Bool) → below ≡ list_all (pair_in a b) rows → look below (below && eqb y 0) ≡ pairs_look a b l n
  look_each below h =
      let p : below ≡ pairs_below a b l n = h ∙ (ap (list_all (pair_in a b)) e ∙ pairs_rows a b n l) in
      let q : below && eqb y 0 ≡ pairs_below a 1 l n =
      rw (h, f, sym (zeros (column 1 rows)), none_rows a b o rows) (ap (list_all (pair_in a 1)) e ∙ pairs_rows a 1 n l) in
      rw (q, p)

  pub look_below : (x : ℕ) → x ≡ together (column 0 rows) → ltb x a && ltb y b ≡ true → look true (eqb y 0) ≡ pairs_look a b l n
  look_below x g h =
      let p = and_yes (ltb x a) (ltb y b) h in
      let i = together_below a (column 0 rows) (rw (sym g) (ltb-true x a p.0)) in
      let j = together_below b (column 1 rows) (rw (sym f) (ltb-true y b p.1)) in
      look_each true (sym (pairs_columns a b rows (sym i) (sym j)))

-- fours
module _ (a b c n : ℕ) (l : List ℕ) (rows : List (List ℕ)) (e : rows ≡ first_chunks 4 n l) where
  pub fours_all : (below : Bool) → below ≡ list_all (four_in a b c) rows → below ≡ fours_below a b c l n
  fours_all below h = h ∙ (ap (list_all (four_in a b c)) e ∙ fours_rows a b c n l)

  pub fours_tested : (x y z : ℕ) → x ≡ together (column 0 rows) → y ≡ together (column 1 rows) → z ≡ together (column 2 rows)
      → ltb x a && (ltb y b && ltb z c) ≡ true → true ≡ fours_below a b c l n
  fours_tested x y z u v w h =
      let p = and_yes (ltb x a) (ltb y b && ltb z c) h in
      let q = and_yes (ltb y b) (ltb z c) p.1 in
      let i = together_below a (column 0 rows) (rw (sym u) (ltb-true x a p.0)) in
      let j = together_below b (column 1 rows) (rw (sym v) (ltb-true y b q.0)) in
      let k = together_below c (column 2 rows) (rw (sym w) (ltb-true z c q.1)) in
      fours_all true (sym (fours_columns a b c rows (sym i) (sym j) (sym k)))

------------------------------------------------------------------------
-- What callers read: of each pair and of each four

abbrev pair_at : ℕ → ℕ → List ℕ → ℕ → Bool
pair_at a b l i = ltb (get_or l (2 * i) 0) a && ltb (get_or l (2 * i + 1) 0) b

module _ (a b : ℕ) (l : List ℕ) where
  pub pairs_each : (n : ℕ) → pairs_below a b l n ≡ true → (i : ℕ) → i < n → (get_or l (2 * i) 0 < a) × (get_or l (2 * i + 1) 0 < b)
  unfolding pairs_below
  pairs_each n h i g =
      let p = and_yes _ _ (each_below (pair_at a b l) (pairs_below a b l) (λ j. refl) n h i g) in
      (ltb-true (get_or l (2 * i) 0) a p.0, ltb-true (get_or l (2 * i + 1) 0) b p.1)

  pub pairs_every : (n : ℕ) → ((i : ℕ) → i < n → (get_or l (2 * i) 0 < a) × (get_or l (2 * i + 1) 0 < b)) → pairs_below a b l n ≡ true
  unfolding pairs_below
  pairs_every n h =
      all_below_lem (pair_at a b l) (pairs_below a b l) (λ j. refl) refl n (λ i g.
      rw (lt-ltb (get_or l (2 * i) 0) a (h i g).0, lt-ltb (get_or l (2 * i + 1) 0) b (h i g).1))

abbrev four_at : ℕ → ℕ → ℕ → List ℕ → ℕ → Bool
four_at a b c l i = ltb (get_or l (4 * i) 0) a && (ltb (get_or l (4 * i + 1) 0) b && ltb (get_or l (4 * i + 2) 0) c)

pub fours_each : (a b c : ℕ) (l : List ℕ) (n : ℕ) → fours_below a b c l n ≡ true → (i : ℕ) → i < n
    → (get_or l (4 * i) 0 < a) × (get_or l (4 * i + 1) 0 < b) × (get_or l (4 * i + 2) 0 < c)
unfolding fours_below
fours_each a b c l n h i g =
    let p = and_yes _ _ (each_below (four_at a b c l) (fours_below a b c l) (λ j. refl) n h i g) in
    let q = and_yes _ _ p.1 in
    (ltb-true (get_or l (4 * i) 0) a p.0, ltb-true (get_or l (4 * i + 1) 0) b q.0, ltb-true (get_or l (4 * i + 2) 0) c q.1)
