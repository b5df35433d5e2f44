-- What the setup file opens: what each return knows, the line of a refused setup, and what an opened setup is known to be. Assumes nothing.
use Rattle.std.specs.Prelude.{Result, Ok, Err}
use Prim.Native.Nat.{ℕ, zero, suc, ◌+◌, ◌*◌, ◌^◌, ◌≤◌, ◌<◌}
use mathlib.Core.Path.{◌≡◌, refl, ap, subst, ◌∙◌}
use mathlib.Core.Bool.{Bool, true, false}
use mathlib.Core.List.{List, [], ◌∷◌}
use native.Mathlib.Nat.{mod-eq_of_lt, mul-le-mul}
use native.Mathlib.Omega.{arith}
use lib.Dec.{eqb}
use lib.ListN.{length, take, replicate, length-replicate}
use lib.Pow.{pow_mono}
use borrow.Author.Tests.{eq-eqb, ne_eqb, leb-true}
use Rattle.answers.specs.declared.Refusal.{Refusal}
use Rattle.answers.specs.declared.Refusal.TheVariants.{BadSetup, RoomTooSmall}
use Rattle.answers.specs.Answers.{done}
use Rattle.setup.specs.Setup.{Ranges, least_delta, with_defaults, in_range, checked_of, words_of, banks_of}
use Rattle.choice.specs.Choice.{pick}
use Rattle.setup.specs.declared.Setup.{Setup}
use Rattle.setup.proofs.Ranges.{and_l, and_r, good_ranges, banks_most}
use Rattle.model.specs.declared.State.{State}
use Rattle.model.specs.declared.Started.{Started}
use Rattle.model.specs.Lent.{row_numbers, entry_numbers, head_numbers, Lent, lent}
use Rattle.model.specs.Range.{lengths_ok}
use Rattle.model.specs.Calls.{exact_in, started, fresh_state, fresh_in, fresh_of}
use Rattle.setuprecord.specs.SetupRecord.{setup_of}
use Rattle.setuprecord.proofs.Choice.{first}
use Rattle.decimal.specs.Decimal.{ten, nought}
use Rattle.decimal.proofs.Digits.{decimal-one}
use Rattle.replay.specs.Replay.{most_a, most_c, most_places, room_for, opening_in, opening_for, opening_of, setup_line, zeros_for, most_banks, whole_room, Opened, begun}

------------------------------------------------------------------------
-- The line of a refused setup

pub line_digit : (n : ℕ) → n < ten → 115 ∷ 101 ∷ 116 ∷ 117 ∷ 112 ∷ 32 ∷ (nought + n) ∷ 10 ∷ [] ≡ setup_line n
unfolding setup_line
line_digit n h = rw (decimal-one n h, mod-eq_of_lt h)

------------------------------------------------------------------------
-- What an opened setup is known to be

-- a setup in range is its own default
own_defaults : (s : Setup) → Ranges s → with_defaults s ≡ s
own_defaults s g =
    let l : 1 ≤ least_delta s = mul-le-mul g.sizes.k_least g.sizes.m_least in
    let d : eqb s.delta 0 ≡ false = ne_eqb s.delta 0 (λ z. omega (arith, g.delta_least)) in
    let c : eqb s.c 0 ≡ false = ne_eqb s.c 0 (λ z. omega (arith, g.delta_least, g.c_least)) in
    rw (d, c)

not_open : (r : Refusal) (s : Setup) → Err r ≡ Ok s → ⊥
not_open r s h = let z : ◌≡◌ {A = ℕ} 0 1 = cc h in omega arith

checked_again : (s f : Setup) → checked_of s ≡ Ok f → checked_of f ≡ Ok f
checked_again s f h =
    let p = first (in_range (with_defaults s)) (Ok (with_defaults s)) (Err BadSetup) (Ok f) (not_open BadSetup f) h in
    let e : with_defaults s ≡ f = cc p.1 in
    let i : in_range f ≡ true = subst (λ (g : Setup). in_range g ≡ true) e p.0 in
    ap (λ (g : Setup). pick (in_range g) (Ok g) (Err BadSetup)) (own_defaults f (good_ranges s f (checked_of s) refl h))
    ∙ ap (λ (b : Bool). pick b (Ok f) (Err BadSetup)) i

opened_checked : (g s : Setup) (k : Result Setup Refusal) → checked_of g ≡ k → opening_in k ≡ Ok s → Opened s
opened_checked g s (Err r) e h = absurd (not_open r s h)
opened_checked g s (Ok f) e h =
    let p = first (room_for f) (Ok f) (Err RoomTooSmall) (Ok s) (not_open RoomTooSmall s) h in
    let x : Opened f = record { ranges = good_ranges g f (checked_of g) refl e; checked = checked_again g f e; room = p.0 } in
    let same : f ≡ s = cc p.1 in
    subst (λ (f : Setup). Opened f) same x

opened_record : (r : Result Setup Refusal) (s : Setup) → opening_for r ≡ Ok s → Opened s
unfolding opening_for
opened_record (Err r) s h = absurd (not_open r s h)
opened_record (Ok g) s h = opened_checked g s (checked_of g) refl h

pub opened : (file : List ℕ) (s : Setup) → opening_of file ≡ Ok s → Opened s
opened file s h = opened_record (setup_of file) s h

------------------------------------------------------------------------
-- The part of the program's room that an opened setup asks for. w and b are its words and banks

-- a part within a room of m zeros
within : (m : ℕ) (l : List ℕ) → l ≡ replicate m 0 → (n k : ℕ) → n ≡ k → k ≤ m → n ≤ length l
within m l z n k e h = let long : length l ≡ m = ap length z ∙ length-replicate m 0 in omega arith

-- the first of many
take-replicate : (z n m : ℕ) → n ≤ m → take n (replicate m z) ≡ replicate n z
take-replicate z zero m l = refl
take-replicate z (suc n) zero l = absurd (omega arith)
take-replicate z (suc n) (suc m) l = ap (λ (xs : List ℕ). z ∷ xs) (take-replicate z n m (omega arith))

module _ (s : Setup) (memory rows entries heads : List ℕ) (o : Opened s) (x : lent memory rows entries heads ≡ whole_room) where
  words_most : words_of s ≤ 2 ^ most_a
  words_most = let l : s.a ≤ most_a = search (and_l, and_r, leb-true) depth 12 in pow_mono l

  rows_most : row_numbers * s.c ≤ row_numbers * most_c
  rows_most = let l : s.c ≤ most_c = search (and_l, and_r, leb-true) depth 12 in omega arith

  entries_most : entry_numbers * (banks_of s * s.k) ≤ entry_numbers * most_places
  entries_most = let l : banks_of s * s.k ≤ most_places = search (and_l, and_r, leb-true) depth 12 in omega arith

  heads_most : head_numbers * banks_of s ≤ head_numbers * most_banks
  heads_most = omega (arith, banks_most s o.ranges.sizes)

  pub words-within : (w : ℕ) → w ≡ words_of s → w ≤ length memory
  words-within w e = within (2 ^ most_a) memory (ap (λ (y : Lent). y.memory) x) w (words_of s) e words_most

  pub rows_within : row_numbers * s.c ≤ length rows
  rows_within = within (row_numbers * most_c) rows (ap (λ (y : Lent). y.rows) x) (row_numbers * s.c) (row_numbers * s.c) refl rows_most

  pub entries_within : (b : ℕ) → b ≡ banks_of s → entry_numbers * (b * s.k) ≤ length entries
  entries_within b e =
      within (entry_numbers * most_places) entries (ap (λ (y : Lent). y.buffers.entries) x) (entry_numbers * (b * s.k)) (entry_numbers * (banks_of s * s.k)) (ap (λ (n : ℕ). entry_numbers * (n * s.k)) e) entries_most

  pub heads_within : (b : ℕ) → b ≡ banks_of s → head_numbers * b ≤ length heads
  heads_within b e =
      within (head_numbers * most_banks) heads (ap (λ (y : Lent). y.buffers.heads) x) (head_numbers * b) (head_numbers * banks_of s) (ap (λ (n : ℕ). head_numbers * n) e) heads_most

  pub room_cut : (w b : ℕ) → w ≡ words_of s → b ≡ banks_of s
      → lent (take w memory) (take (row_numbers * s.c) rows) (take (entry_numbers * (b * s.k)) entries) (take (head_numbers * b) heads) ≡ zeros_for s
  room_cut w b ew eb =
      let cut : Lent → Lent = λ y. lent (take w y.memory) (take (row_numbers * s.c) y.rows) (take (entry_numbers * (b * s.k)) y.buffers.entries) (take (head_numbers * b) y.buffers.heads) in
      ap cut x
      ∙ rw (
        ew,
        eb,
        take-replicate 0 (words_of s) (2 ^ most_a) words_most,
        take-replicate 0 (row_numbers * s.c) (row_numbers * most_c) rows_most,
        take-replicate 0 (entry_numbers * (banks_of s * s.k)) (entry_numbers * most_places) entries_most,
        take-replicate 0 (head_numbers * banks_of s) (head_numbers * most_banks) heads_most,
      )

------------------------------------------------------------------------
-- A run that begins

-- zeros are as long as a setup asks
zeros_exact : (s : Setup) → lengths_ok s (zeros_for s) ≡ true
zeros_exact s =
    rw (
      length-replicate (words_of s) zero,
      length-replicate (row_numbers * s.c) zero,
      length-replicate (entry_numbers * (banks_of s * s.k)) zero,
      length-replicate (head_numbers * banks_of s) zero,
      eq-eqb (words_of s) (words_of s) refl,
      eq-eqb (row_numbers * s.c) (row_numbers * s.c) refl,
      eq-eqb (entry_numbers * (banks_of s * s.k)) (entry_numbers * (banks_of s * s.k)) refl,
      eq-eqb (head_numbers * banks_of s) (head_numbers * banks_of s) refl,
    )

pub begins : (s : Setup) (t : State) (x y : Lent) (r : Started) → Opened s → x ≡ zeros_for s → (r, y) ≡ fresh_of s t x
    → (record { state = r.state; number = 0; on = true; end = 0 }, y) ≡ begun s
unfolding exact_in fresh_in
begins s t x y r o z e =
    let f : fresh_of s t (zeros_for s) ≡ (started done fresh_state, zeros_for s) = rw (o.checked, zeros_exact s) in
    ap (λ (w : Started × Lent). (record { state = w.0.state; number = 0; on = true; end = 0 }, w.1)) (e ∙ ap (λ (v : Lent). fresh_of s t v) z ∙ f)
