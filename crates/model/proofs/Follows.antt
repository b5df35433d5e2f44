-- The invariant `Follows` of a machine and a ledger: it holds after every fresh start, and every call keeps it with equal replies. Assumes nothing.
use Prim.Native.Nat.{ℕ, suc, ◌+◌, ◌-◌, ◌%◌, ◌^◌, ◌<◌}
use mathlib.Core.Path.{◌≡◌, refl, sym, ap, subst, ◌∙◌}
use mathlib.Core.Logic.{inl, inr}
use mathlib.Core.Bool.{Bool, true, false, true≢false}
use mathlib.Core.List.{List, [], ◌∷◌, ◌++◌}
use native.Mathlib.Nat.{mod-lt, mod-eq_of_lt, mod-add-mod}
use native.Mathlib.Numerals.{add-one}
use native.Mathlib.Omega.{arith}
use lib.ListN.{length, length-append, get_or, drop}
use Rattle.answers.specs.Answers.{number, bad_address, stopped}
use Rattle.choice.specs.Choice.{pick}
use Rattle.setup.specs.declared.Setup.{Setup}
use Rattle.std.specs.Prelude.{Ok, Err}
use Rattle.answers.specs.declared.Refusal.{Refusal}
use Rattle.answers.specs.declared.Refusal.TheVariants.{BadAddress, Stopped}
use Rattle.setup.specs.Setup.{Ranges, merging, with_defaults, checked_of}
use Rattle.port.specs.declared.Operation.{Operation}
use Rattle.port.specs.declared.Delivery.{Delivery}
use Rattle.port.specs.declared.Delivery.TheVariants.{None, Unready, Word}
use Rattle.port.specs.declared.Reply.{Reply}
use Rattle.model.specs.declared.State.{State}
use Rattle.model.specs.declared.Cycled.{Cycled}
use Rattle.model.specs.Lent.{Lent}
use Rattle.model.specs.Range.{Ready, lengths_ok}
use Rattle.model.specs.Cycle.{passed}
use Rattle.model.specs.Calls.{address_ok, offered_of, refused, step_in, step_of}
use Rattle.model.specs.Runs.{Machine, call, left_by, reply_of, after, fresh}
use Rattle.model.specs.Sram.{due}
use Rattle.model.specs.Ledger.{Ledger, fresh_ledger, serviced, replied, entered}
use Rattle.model.specs.Promises as P
use Rattle.model.specs.Promises.{Starts, start_word}
use Rattle.rings.specs.Places.{onward}
use Rattle.theory.proofs.Operations as T
use Rattle.theory.proofs.Calls.{after_last}
use Rattle.theory.proofs.Concrete.{CRun, on, off, cycle_c, reply_c, fresh_c, reached_c}
use Rattle.theory.proofs.Machine.{Run, reply, gives}
use Rattle.theory.proofs.Machine as M
use Rattle.theory.proofs.Port.{Matches, by_cycle, by_fresh, by_next, same-reply, same_state, owes}
use Rattle.theory.proofs.Turns.{mod-onward}
use Rattle.model.proofs.Ready.{c_least_one, passed_ready, fresh_ready}
use Rattle.model.proofs.Calls.{checked_ranges, ready_cycle}
use Rattle.model.proofs.Starts.{starts_checked, starts_lengths, fresh_machine}
use Rattle.model.proofs.Steps.{state_by, passed-answer, passed_state, passed_stamp}
use Rattle.model.proofs.Config.{config_of, legal, shown_op, shown_delivery}
use Rattle.model.proofs.Shown.{shown, shown_run}
use Rattle.model.proofs.ShownPlaces.{onward-shown}
use Rattle.model.proofs.Shows.{fresh-shown, passed_delivery}
use Rattle.model.proofs.Shows as shows
use Rattle.model.proofs.Entered.{entered_past, entered_halted, entered-refused, entered_passes, way, way_delivers, way_stamps, Held, held_entered}
use Rattle.model.proofs.Cells.{ok_below}
use Rattle.model.proofs.Books.{shared, BooksRun, books_fresh, cycle_books, gives-due}

------------------------------------------------------------------------
-- Small laws

same_delivery : (d e : Delivery) → shown_delivery d ≡ shown_delivery e → d ≡ e
same_delivery None None h = refl
same_delivery None Unready h = let z : ◌≡◌ {A = ℕ} 0 1 = cc in absurd (omega arith)
same_delivery None (Word w) h = let z : ◌≡◌ {A = ℕ} 0 1 = cc in absurd (omega arith)
same_delivery Unready None h = let z : ◌≡◌ {A = ℕ} 0 1 = cc in absurd (omega arith)
same_delivery Unready Unready h = refl
same_delivery Unready (Word w) h = let z : ◌≡◌ {A = ℕ} 0 1 = cc in absurd (omega arith)
same_delivery (Word v) None h = let z : ◌≡◌ {A = ℕ} 0 1 = cc in absurd (omega arith)
same_delivery (Word v) Unready h = let z : ◌≡◌ {A = ℕ} 0 1 = cc in absurd (omega arith)
same_delivery (Word v) (Word w) h = cc

same-replies : (r e : Reply) → r.answer ≡ e.answer → r.delivery ≡ e.delivery → r.stamp ≡ e.stamp → r ≡ e
same-replies r e a d t = rw (← a, ← d, ← t)

one_more : (n : ℕ) → (n % 2 ^ 32 + 1) % 2 ^ 32 ≡ suc n % 2 ^ 32
one_more n = mod-add-mod n (2 ^ 32) 1 ∙ ap (λ (k : ℕ). k % 2 ^ 32) (add-one n)

one-round : (m p n : ℕ) → 0 < m → p ≡ n % m → onward m p 1 ≡ suc n % m
one-round m p n h e =
    ap (λ (q : ℕ). onward m q 1) e
    ∙ sym (onward-shown m (n % m) (mod-lt n h))
    ∙ mod-onward m n h

------------------------------------------------------------------------
-- The invariant

module _ (g : Setup) (w₀ : Machine) where
  abbrev s : Setup
  s = with_defaults g

  abbrev words : ℕ → ℕ
  words c = get_or w₀.1.memory c 0

  abbrev at_c : List (T.Op ℕ) → CRun ℕ
  at_c ops = reached_c (merging s) (config_of s) s.k words ops

  -- the same by cycle number
  abbrev by_c : List (T.Op ℕ) → Run ℕ
  by_c ops = by_cycle (merging s) (config_of s) s.k words ops

  -- ops are the operations of the passed cycles, and of the one that stopped it, in their order and by cell
  pub record Follows (w : Machine) (l : Ledger) : Type 0 where
    pub ready : Ready s w.0 w.1
    pub ops : List (T.Op ℕ)
    pub shows : shown_run s w.0 w.1 ≡ at_c ops
    pub books : BooksRun s (length ops) l (by_c ops)
    pub held : Held s l
    pub stamps : w.0.stamp ≡ length l.past % 2 ^ 32
    pub turns : w.0.turn ≡ length l.past % s.m
    pub places : w.0.position ≡ length l.past % s.c

  pub follows_fresh : Starts g w₀ → Follows (fresh g w₀) fresh_ledger
  follows_fresh h =
      let c : checked_of g ≡ Ok s = starts_checked g w₀ h in
      let r : Ranges s = checked_ranges g s c in
      let l : lengths_ok s w₀.1 ≡ true = starts_lengths g w₀ h in
      rw (fresh_machine g w₀ h)
      (record {
        ready = fresh_ready s w₀.1 r l;
        ops = [];
        shows = fresh-shown s w₀.1 r;
        books = subst (BooksRun s 0 fresh_ledger) (sym (by_fresh (merging s) (config_of s) s.k words)) (books_fresh s words);
        held = λ b. omega arith;
        stamps = refl;
        turns = sym (mod-eq_of_lt r.sizes.m_least);
        places = sym (mod-eq_of_lt (c_least_one s r));
      })

  module _ (start : Starts g w₀) (w : Machine) (l : Ledger) (k : Follows w l) (op : Operation) where
    abbrev ranges : Ranges s
    ranges = checked_ranges g s (starts_checked g w₀ start)

    abbrev e : Reply × Ledger
    e = entered s (start_word g w₀) op l

    -- the machine's stop mark is the ledger's
    marks : w.0.stopped ≡ l.halted
    marks = go w.0.stopped (at_c k.ops) (by_c k.ops) k.shows k.books (same_state (merging s) (config_of s) s.k words (legal s ranges) k.ops)
      where
        go : (b : Bool) (c : CRun ℕ) (r : Run ℕ) → pick b (off (shown s w.0 w.1)) (on (shown s w.0 w.1)) ≡ c → BooksRun s (length k.ops) l r → Matches c r → b ≡ l.halted
        go true (on c) r p i m = let z : ◌≡◌ {A = ℕ} 0 1 = cc in absurd (omega arith)
        go true (off c) (M.on y) p i m = absurd m
        go true (off c) (M.off y) p i m = sym i.0
        go false (off c) r p i m = let z : ◌≡◌ {A = ℕ} 0 1 = cc in absurd (omega arith)
        go false (on c) (M.off y) p i m = absurd m
        go false (on c) (M.on y) p i m = sym i.0

    -- the three ways of a call
    by_step : (q : Cycled × Lent) → step_of s w.0 op w.1 ≡ q → call g op w ≡ q
    by_step q p = ready_cycle g s (starts_checked g w₀ start) w.0 w.1 k.ready op ∙ p

    refuses : (r : Refusal) → offered_of s w.0 op ≡ Err r → call g op w ≡ refused (number r) w.0 w.1
    unfolding step_in
    refuses r p = by_step (refused (number r) w.0 w.1) (rw p)

    passes : offered_of s w.0 op ≡ Ok tt → call g op w ≡ passed s w.0 op w.1
    unfolding step_in
    passes p = by_step (passed s w.0 op w.1) (rw p)

    Kept : Cycled × Lent → Type 0
    Kept q = (q.0.reply ≡ e.0) × Follows (left_by q) e.1

    kept_stopped : w.0.stopped ≡ true → Kept (call g op w)
    unfolding Kept offered_of
    kept_stopped h =
        let p : offered_of s w.0 op ≡ Err Stopped = rw h in
        let q : e ≡ (replied stopped None 0, l) = entered_halted s (start_word g w₀) op l (sym marks ∙ h) in
        rw (refuses Stopped p, q) (refl, k)

    kept_address : w.0.stopped ≡ false → address_ok s op ≡ false → Kept (call g op w)
    unfolding Kept offered_of
    kept_address h a =
        let p : offered_of s w.0 op ≡ Err BadAddress = rw (h, a) in
        let q : e ≡ (replied bad_address None 0, l) = entered-refused s (start_word g w₀) op l (sym marks ∙ h) a in
        rw (refuses BadAddress p, q) (refl, k)

    module _ (h : w.0.stopped ≡ false) (a : address_ok s op ≡ true) where
      abbrev o : T.Op ℕ
      o = shown_op s op

      abbrev r : Cycled × Lent
      r = passed s w.0 op w.1

      shows_on : on (shown s w.0 w.1) ≡ at_c k.ops
      shows_on = ap (λ (m : Bool). pick m (off (shown s w.0 w.1)) (on (shown s w.0 w.1))) (sym h) ∙ k.shows

      theirs : reply_c (merging s) (config_of s) s.k o (on (shown s w.0 w.1)) ≡ reply (merging s) (shared s) s.k (length k.ops) o (by_c k.ops)
      theirs =
          ap (λ (c : CRun ℕ). reply_c (merging s) (config_of s) s.k o c) shows_on
          ∙ same-reply (merging s) (config_of s) s.k words (legal s ranges) k.ops o

      halts : l.halted ≡ false
      halts = sym marks ∙ h

      agrees : (M.answer (merging s) (shared s) s.k (length k.ops) o (by_c k.ops) ≡ e.0.answer)
          × BooksRun s (suc (length k.ops)) e.1 (M.cycle (merging s) (shared s) s.k (length k.ops) o (by_c k.ops))
      agrees = cycle_books s ranges (length k.ops) op (ok_below s op a) (start_word g w₀) l (by_c k.ops) k.books k.held a

      -- the call reaches its cycle, so it delivers what is due, with the cycle's stamp
      tells : (e.0.delivery ≡ due (start_word g w₀) (drop (s.delta - 1) l.past)) × (e.0.stamp ≡ length l.past % 2 ^ 32)
      tells =
          rw (entered_passes s (start_word g w₀) op l halts a)
          (let y = way s op (due (start_word g w₀) (drop (s.delta - 1) l.past)) (length l.past % 2 ^ 32) (serviced s l) in
          (way_delivers s op _ _ (serviced s l) _ y, way_stamps s op _ _ (serviced s l) _ y))

      gave : gives (merging s) (shared s) s.k (length k.ops) (by_c k.ops) ≡ shown_delivery (due (start_word g w₀) (drop (s.delta - 1) l.past))
      gave = go (by_c k.ops) refl k.books
        where
          go : (n : Run ℕ) → by_c k.ops ≡ n → BooksRun s (length k.ops) l n
              → gives (merging s) (shared s) s.k (length k.ops) n ≡ shown_delivery (due (start_word g w₀) (drop (s.delta - 1) l.past))
          go (M.on m) p i =
              gives-due s ranges words (length k.ops) l m i.1 (legal s ranges).delays
              (owes (merging s) (config_of s) s.k words (legal s ranges) k.ops m p)
          go (M.off m) p i = absurd (true≢false (sym i.0 ∙ halts))

      answers : r.0.reply.answer ≡ e.0.answer
      answers =
          sym (shows.passed-answer s w.0 op w.1 k.ready a)
          ∙ ap (λ (z : T.Reply ℕ). z.answer) theirs
          ∙ agrees.0

      deliveries : r.0.reply.delivery ≡ e.0.delivery
      deliveries =
          same_delivery _ _
          (sym (passed_delivery s w.0 op w.1 k.ready)
          ∙ ap (λ (z : T.Reply ℕ). z.delivery) theirs
          ∙ gave
          ∙ ap shown_delivery (sym tells.0))

      stamped : r.0.reply.stamp ≡ e.0.stamp
      stamped =
          passed_stamp s w.0 op w.1 ∙ k.stamps ∙ sym tells.1

      -- the stamp counts on with past, but for a stop
      stamp_by : (n : ℕ) → P.NotRefused n → (state_by s w.0 n).stamp ≡ length (P.passing n op l.past) % 2 ^ 32
      stamp_by n (inl p) = rw p (rw k.stamps (one_more (length l.past)))
      stamp_by n (inr (inl p)) = rw p (rw k.stamps (one_more (length l.past)))
      stamp_by n (inr (inr p)) = rw p k.stamps

      -- turn and position count on with past, but for a stop
      turn_by : (n : ℕ) → P.NotRefused n → (state_by s w.0 n).turn ≡ length (P.passing n op l.past) % s.m
      turn_by n (inl p) = rw p (one-round s.m w.0.turn (length l.past) ranges.sizes.m_least k.turns)
      turn_by n (inr (inl p)) = rw p (one-round s.m w.0.turn (length l.past) ranges.sizes.m_least k.turns)
      turn_by n (inr (inr p)) = rw p k.turns

      place_by : (n : ℕ) → P.NotRefused n → (state_by s w.0 n).position ≡ length (P.passing n op l.past) % s.c
      place_by n (inl p) = rw p (one-round s.c w.0.position (length l.past) (c_least_one s ranges) k.places)
      place_by n (inr (inl p)) = rw p (one-round s.c w.0.position (length l.past) (c_least_one s ranges) k.places)
      place_by n (inr (inr p)) = rw p k.places

      -- what the state counts, once it counts on with past
      counted : (f : State → ℕ) (m : ℕ) → ((n : ℕ) → P.NotRefused n → f (state_by s w.0 n) ≡ length (P.passing n op l.past) % m)
          → f r.0.state ≡ length e.1.past % m
      counted f m counts =
          ap f (passed_state s w.0 op w.1)
          ∙ counts r.0.reply.answer (passed-answer s w.0 op w.1)
          ∙ ap (λ (n : ℕ). length (P.passing n op l.past) % m) answers
          ∙ sym (ap (λ (p : List Operation). length p % m) (entered_past s (start_word g w₀) op l))

      books_on : BooksRun s (length (k.ops ++ o ∷ [])) e.1 (by_c (k.ops ++ o ∷ []))
      books_on =
          let n : length (k.ops ++ o ∷ []) ≡ suc (length k.ops) = length-append k.ops (o ∷ []) ∙ add-one (length k.ops) in
          rw (n, by_next (merging s) (config_of s) s.k words k.ops o) agrees.1

      kept_passed : Kept (call g op w)
      unfolding Kept offered_of
      kept_passed =
          let p : offered_of s w.0 op ≡ Ok tt = rw (h, a) in
          rw (passes p) (
            same-replies _ _ answers deliveries stamped,
            record {
              ready = passed_ready s w.0 op w.1 k.ready a;
              ops = k.ops ++ o ∷ [];
              shows =
                  sym (shows.passed_state s w.0 op w.1 k.ready a h)
                  ∙ ap (λ (c : CRun ℕ). cycle_c (merging s) (config_of s) s.k o c) shows_on
                  ∙ sym (after_last (cycle_c (merging s) (config_of s) s.k) k.ops o (on (fresh_c (config_of s) words)));
              books = books_on;
              held = held_entered s (start_word g w₀) op l k.held;
              stamps = counted (λ (t : State). t.stamp) (2 ^ 32) stamp_by;
              turns = counted (λ (t : State). t.turn) s.m turn_by;
              places = counted (λ (t : State). t.position) s.c place_by;
            },
          )

    -- every call keeps it, with equal replies
    kept_call : (m : Bool) → w.0.stopped ≡ m → (b : Bool) → address_ok s op ≡ b → Kept (call g op w)
    kept_call true p b q = kept_stopped p
    kept_call false p false q = kept_address p q
    kept_call false p true q = kept_passed p q

    pub follows_reply : reply_of g op w ≡ e.0
    unfolding Kept
    follows_reply = (kept_call w.0.stopped refl (address_ok s op) refl).0

    pub follows_after : Follows (after g op w) e.1
    unfolding Kept
    follows_after = (kept_call w.0.stopped refl (address_ok s op) refl).1
