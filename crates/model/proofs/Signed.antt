-- Demand 2's promises, each under its own name: from `Follows`, over every list of offered operations. Assumes nothing.
use Prim.Native.Nat.{ℕ, suc, ◌+◌, ◌-◌, ◌%◌, ◌^◌, ◌<◌}
use mathlib.Core.Path.{◌≡◌, refl, sym, ap, subst, ◌∙◌}
use mathlib.Core.Logic.{◌⊎◌, inl, inr, ◌↔◌, ◌≢◌}
use mathlib.Core.Bool.{Bool, true, false, true≢false}
use mathlib.Core.List.{List, [], ◌∷◌, ◌++◌, append_assoc}
use native.Mathlib.Omega.{arith}
use lib.Dec.{ltb, eqb}
use lib.ListN.{length, get_or, drop, length-append}
use lib.Seq.{drop_at}
use borrow.Author.Tests.{ltb-true}
use Rattle.answers.specs.Answers.{done, bad_address, dropped, stopping, stopped}
use Rattle.choice.specs.Choice.{pick}
use Rattle.setup.specs.declared.Setup.{Setup}
use Rattle.std.specs.Prelude.{Result, Ok, Err, ⊤}
use Rattle.answers.specs.declared.Refusal.{Refusal}
use Rattle.setup.specs.Setup.{banks_of, merging, with_defaults, checked_of}
use Rattle.map.specs.declared.Address.{Address}
use Rattle.port.specs.declared.Operation.{Operation}
use Rattle.port.specs.declared.Operation.TheVariants.{Idle, Read, Write}
use Rattle.port.specs.declared.Delivery.{Delivery}
use Rattle.port.specs.declared.Delivery.TheVariants.{None, Unready, Word}
use Rattle.port.specs.declared.Reply.{Reply}
use Rattle.model.specs.declared.State.{State}
use Rattle.model.specs.declared.Waiting.{Waiting}
use Rattle.model.specs.Lent.{Lent, count_of}
use Rattle.model.specs.Range.{Ready}
use Rattle.model.specs.Calls.{address_ok, standing_of, offered_of, refused, step_in, cycle_in, told, tell_of, waiting_in, waiting_of}
use Rattle.model.specs.Runs.{Machine, reply_of, replies, after, after_all, fresh}
use Rattle.model.specs.Sram.{sram, due}
use Rattle.model.specs.Ledger.{Ledger, fresh_ledger, waits, serviced, retires, arrives, full, ended, entered}
use Rattle.model.specs.Promises.{Starts, reached, start_word, reply_at, promised, booked, ledger_at, passing, history_from, history, NotRefused, Emulates, ReadLeaves, NothingElse, NeverUnready, StopsExactly, DropsExactly, NeverBadState, TellsWaiting, RefusesWhole, StampsCycles, TurnsApart, StaysStopped}
use Rattle.choice.proofs.Tests.{pick-map}
use Rattle.theory.proofs.Concrete.{Legal, CSt, CRun, on, off}
use Rattle.theory.proofs.Machine.{Run}
use Rattle.theory.proofs.Machine as M
use Rattle.theory.proofs.Port.{Matches, by_cycle, same_state}
use Rattle.model.proofs.Calls.{checked_ranges, ready_standing}
use Rattle.model.proofs.Starts.{starts_checked}
use Rattle.model.proofs.Steps.{passed-answer}
use Rattle.model.proofs.Config.{config_of, legal}
use Rattle.model.proofs.Shown.{shown}
use Rattle.model.proofs.Shows.{waiting_shown}
use Rattle.model.proofs.Books.{BooksRun, books_waits}
use Rattle.model.proofs.Entered.{entered_by, entered_halted, entered_past, retired_to, Way, takes, drops, halts, way, way_delivers, way_stamps, way_passes, booked-append}
use Rattle.model.proofs.Follows.{Follows, follows_fresh, follows_reply, follows_after}

------------------------------------------------------------------------
-- Lists of calls

module _ (g : Setup) (w₀ : Machine) (start : Starts g w₀) where
  abbrev s : Setup
  s = with_defaults g

  abbrev words : Address → ℕ
  words = start_word g w₀

  follows_all : (ops : List Operation) (w : Machine) (l : Ledger) → Follows g w₀ w l → Follows g w₀ (after_all g ops w) (booked s words ops l)
  unfolding after_all booked
  follows_all [] w l k = k
  follows_all (op ∷ ops) w l k = follows_all ops (after g op w) (entered s words op l).1 (follows_after g w₀ start w l k op)

  pub follows_run : (ops : List Operation) → Follows g w₀ (reached g w₀ ops) (ledger_at g w₀ ops)
  follows_run ops = follows_all ops (fresh g w₀) fresh_ledger (follows_fresh g w₀ start)

  -- each reply is the ledger's
  pub reply-run : (ops : List Operation) (op : Operation) → reply_at g w₀ ops op ≡ (entered s words op (ledger_at g w₀ ops)).0
  reply-run ops op = follows_reply g w₀ start (reached g w₀ ops) (ledger_at g w₀ ops) (follows_run ops) op

  replies_all : (ops : List Operation) (w : Machine) (l : Ledger) → Follows g w₀ w l → replies g ops w ≡ promised s words ops l
  unfolding replies promised
  replies_all [] w l k = refl
  replies_all (op ∷ ops) w l k =
      rw (follows_reply g w₀ start w l k op)
      (ap (λ (r : List Reply). (entered s words op l).0 ∷ r) (replies_all ops (after g op w) (entered s words op l).1 (follows_after g w₀ start w l k op)))

  -- the history read off the answers is the ledger's past
  history_all : (ops : List Operation) (w : Machine) (l : Ledger) → Follows g w₀ w l → history_from g ops w l.past ≡ (booked s words ops l).past
  unfolding history_from booked
  history_all [] w l k = refl
  history_all (op ∷ ops) w l k =
      let p : passing (reply_of g op w).answer op l.past ≡ (entered s words op l).1.past
      = ap (λ (r : Reply). passing r.answer op l.past) (follows_reply g w₀ start w l k op) ∙ sym (entered_past s words op l) in
      ap (history_from g ops (after g op w)) p ∙ history_all ops (after g op w) (entered s words op l).1 (follows_after g w₀ start w l k op)

  pub history-run : (ops : List Operation) → history g w₀ ops ≡ (ledger_at g w₀ ops).past
  history-run ops = history_all ops (fresh g w₀) fresh_ledger (follows_fresh g w₀ start)

  replies-run : (ops : List Operation) → replies g ops (fresh g w₀) ≡ promised s words ops fresh_ledger
  replies-run ops = replies_all ops (fresh g w₀) fresh_ledger (follows_fresh g w₀ start)

pub emulates : Emulates
emulates g w ops h = replies-run g w h ops

------------------------------------------------------------------------
-- One call of the ledger, by its answer

module _ (s : Setup) (start : Address → ℕ) (op : Operation) (l : Ledger) where
  abbrev l₁ : Ledger
  l₁ = serviced s l

  abbrev d : Delivery
  d = due start (drop (s.delta - 1) l.past)

  abbrev y : Way s op d (length l.past % 2 ^ 32) l₁ (ended s op d (length l.past % 2 ^ 32) l₁)
  y = way s op d (length l.past % 2 ^ 32) l₁

  -- a call that reaches its cycle delivers what is due, with the cycle's stamp; any other none
  Tells : Reply → Type 0
  Tells r = (NotRefused r.answer × ((r.delivery ≡ d) × (r.stamp ≡ length l.past % 2 ^ 32))) ⊎ (((r.answer ≡ stopped) ⊎ (r.answer ≡ bad_address)) × (r.delivery ≡ None))

  entered_tells : Tells (entered s start op l).0
  unfolding Tells
  entered_tells =
      entered_by s start op l (λ e. Tells e.0) (λ h. inr (inl refl, refl)) (λ h k. inr (inr refl, refl))
      (λ h k. inl (way_passes s op _ _ l₁ _ y, (way_delivers s op _ _ l₁ _ y, way_stamps s op _ _ l₁ _ y)))

  -- an answer that only a reached cycle gives: exactly when the cycle is reached and P holds
  exactly : (n : ℕ) → stopped ≢ n → bad_address ≢ n → (P : Type 0)
      → ((e : Reply × Ledger) → Way s op d (length l.past % 2 ^ 32) l₁ e → (e.0.answer ≡ n) ↔ P)
      → ((entered s start op l).0.answer ≡ n) ↔ ((l.halted ≡ false) × (address_ok s op ≡ true) × P)
  exactly n f g P w =
      entered_by s start op l (λ e. (e.0.answer ≡ n) ↔ ((l.halted ≡ false) × (address_ok s op ≡ true) × P))
      (λ h. (λ z. absurd (f z), λ p. absurd (true≢false (sym h ∙ p.0))))
      (λ h k. (λ z. absurd (g z), λ p. absurd (true≢false (sym p.1 ∙ k))))
      (λ h k. (λ z. (h, k, (w _ y).0 z), λ p. (w _ y).1 p.2))

  stops_by : (e : Reply × Ledger) → Way s op d (length l.past % 2 ^ 32) l₁ e → (e.0.answer ≡ stopping) ↔ (full s (retires s l₁) l₁ ≡ true)
  stops_by e (takes p q) = (λ z. absurd (omega arith), λ r. absurd (true≢false (sym r ∙ p)))
  stops_by e (drops p q) = (λ z. absurd (omega arith), λ r. absurd (true≢false (sym r ∙ p)))
  stops_by e (halts p) = (λ z. p, λ r. refl)

  -- a stop marks the ledger
  stops_halted : (entered s start op l).0.answer ≡ stopping → (entered s start op l).1.halted ≡ true
  stops_halted =
      entered_by s start op l (λ e. e.0.answer ≡ stopping → e.1.halted ≡ true)
      (λ h z. h) (λ h k z. absurd (omega arith)) (λ h k. by_way _ y)
    where
      by_way : (e : Reply × Ledger) → Way s op d (length l.past % 2 ^ 32) l₁ e → e.0.answer ≡ stopping → e.1.halted ≡ true
      by_way e (takes p q) z = absurd (omega arith)
      by_way e (drops p q) z = absurd (omega arith)
      by_way e (halts p) z = refl

  drops_by : (e : Reply × Ledger) → Way s op d (length l.past % 2 ^ 32) l₁ e
      → (e.0.answer ≡ dropped) ↔ ((full s (retires s l₁) l₁ ≡ false) × (full s (arrives s op (retired_to s l₁)) (retired_to s l₁) ≡ true))
  drops_by e (takes p q) = (λ z. absurd (omega arith), λ r. absurd (true≢false (sym r.1 ∙ q)))
  drops_by e (drops p q) = (λ z. (p, q), λ r. refl)
  drops_by e (halts p) = (λ z. absurd (omega arith), λ r. absurd (true≢false (sym p ∙ r.0)))

------------------------------------------------------------------------
-- Drops and stops

module _ (g : Setup) (w : Machine) (ops : List Operation) (op : Operation) (h : Starts g w) where
  tells_run : Tells (with_defaults g) (start_word g w) op (ledger_at g w ops) (reply_at g w ops op)
  tells_run = subst (Tells (with_defaults g) (start_word g w) op (ledger_at g w ops)) (sym (reply-run g w h ops op)) (entered_tells (with_defaults g) (start_word g w) op (ledger_at g w ops))

pub stops_exactly : StopsExactly
stops_exactly g w ops op h =
    rw (reply-run g w h ops op)
    (exactly (with_defaults g) (start_word g w) op (ledger_at g w ops) stopping (λ z. omega arith) (λ z. omega arith) _
    (stops_by (with_defaults g) (start_word g w) op (ledger_at g w ops)))

-- nothing is noted on a ledger that is marked
halted_stays : (s : Setup) (start : Address → ℕ) (ops : List Operation) (l : Ledger) → l.halted ≡ true → booked s start ops l ≡ l
unfolding booked
halted_stays s start [] l h = refl
halted_stays s start (op ∷ ops) l h =
    ap (λ (e : Reply × Ledger). booked s start ops e.1) (entered_halted s start op l h) ∙ halted_stays s start ops l h

pub stays_stopped : StaysStopped
unfolding booked
stays_stopped g w ops more op later h e =
    let s : Setup = with_defaults g in
    let words : Address → ℕ = start_word g w in
    let l : Ledger = (entered s words op (ledger_at g w ops)).1 in
    let marked : l.halted ≡ true = stops_halted s words op (ledger_at g w ops) (ap (λ (r : Reply). r.answer) (sym (reply-run g w h ops op)) ∙ e) in
    let there : ledger_at g w (ops ++ op ∷ more) ≡ l = booked-append s words ops (op ∷ more) fresh_ledger ∙ halted_stays s words more l marked in
    ap (λ (r : Reply). r.answer) (reply-run g w h (ops ++ op ∷ more) later)
    ∙ ap (λ (x : Ledger). (entered s words later x).0.answer) there
    ∙ ap (λ (x : Reply × Ledger). x.0.answer) (entered_halted s words later l marked)

pub drops_exactly : DropsExactly
drops_exactly g w ops op h =
    let x =
    exactly (with_defaults g) (start_word g w) op (ledger_at g w ops) dropped (λ z. omega arith) (λ z. omega arith) _
    (drops_by (with_defaults g) (start_word g w) op (ledger_at g w ops)) in
    rw (reply-run g w h ops op) (λ z. let p = x.0 z in (p.0, p.1, p.2.0, p.2.1), λ p. x.1 (p.0, p.1, (p.2, p.3)))

------------------------------------------------------------------------
-- What leaves

pub nothing_else : NothingElse
unfolding Tells
nothing_else g w ops op h = go (tells_run g w ops op h)
  where
    go : Tells (with_defaults g) (start_word g w) op (ledger_at g w ops) (reply_at g w ops op)
        → (NotRefused (reply_at g w ops op).answer × ((reply_at g w ops op).delivery ≡ due (start_word g w) (drop ((with_defaults g).delta - 1) (history g w ops))))
        ⊎ ((((reply_at g w ops op).answer ≡ stopped) ⊎ ((reply_at g w ops op).answer ≡ bad_address)) × ((reply_at g w ops op).delivery ≡ None))
    go (inl p) = inl (p.0, rw (history-run g w h ops) p.1.0)
    go (inr p) = inr p

due_ready : (start : Address → ℕ) (past : List Operation) → due start past ≡ Unready → ⊥
due_ready start [] e = let z : ◌≡◌ {A = ℕ} 0 1 = cc in absurd (omega arith)
due_ready start (Idle ∷ past) e = let z : ◌≡◌ {A = ℕ} 0 1 = cc in absurd (omega arith)
due_ready start (Read a ∷ past) e = let z : ◌≡◌ {A = ℕ} 0 1 = cc in absurd (omega arith)
due_ready start (Write a v ∷ past) e = let z : ◌≡◌ {A = ℕ} 0 1 = cc in absurd (omega arith)

pub never_unready : NeverUnready
unfolding Tells
never_unready g w ops op h e = go (tells_run g w ops op h)
  where
    go : Tells (with_defaults g) (start_word g w) op (ledger_at g w ops) (reply_at g w ops op) → ⊥
    go (inl p) = due_ready (start_word g w) (drop ((with_defaults g).delta - 1) (ledger_at g w ops).past) (sym p.1.0 ∙ e)
    go (inr p) = let z : ◌≡◌ {A = ℕ} 0 1 = cc p.1 in absurd (omega arith)

pub stamps_cycles : StampsCycles
unfolding Tells
stamps_cycles g w ops op h k = go (tells_run g w ops op h) k
  where
    go : Tells (with_defaults g) (start_word g w) op (ledger_at g w ops) (reply_at g w ops op) → NotRefused (reply_at g w ops op).answer
        → (reply_at g w ops op).stamp ≡ length (history g w ops) % 2 ^ 32
    go (inl p) q = rw (history-run g w h ops) p.1.1
    go (inr (inl p, _)) (inl q) = absurd (omega arith)
    go (inr (inl p, _)) (inr (inl q)) = absurd (omega arith)
    go (inr (inl p, _)) (inr (inr q)) = absurd (omega arith)
    go (inr (inr p, _)) (inl q) = absurd (omega arith)
    go (inr (inr p, _)) (inr (inl q)) = absurd (omega arith)
    go (inr (inr p, _)) (inr (inr q)) = absurd (omega arith)

pub never_bad_state : NeverBadState
unfolding Tells
never_bad_state g w ops op h = go (tells_run g w ops op h)
  where
    go : Tells (with_defaults g) (start_word g w) op (ledger_at g w ops) (reply_at g w ops op)
        → NotRefused (reply_at g w ops op).answer ⊎ (((reply_at g w ops op).answer ≡ bad_address) ⊎ ((reply_at g w ops op).answer ≡ stopped))
    go (inl p) = inl p.0
    go (inr (inl p, _)) = inr (inr p)
    go (inr (inr p, _)) = inr (inl p)

-- past only grows, at its front
module _ (s : Setup) (start : Address → ℕ) where
  Grown : List Operation → List Operation → Type 0
  Grown past now = (extra : List Operation) × (now ≡ extra ++ past)

  passing_grows : (n : ℕ) (op : Operation) (past : List Operation) → Grown past (passing n op past)
  unfolding Grown
  passing_grows n op past = go (eqb n done) (eqb n dropped)
    where
      go : (x y : Bool) → (extra : List Operation) × (pick x (op ∷ past) (pick y (Idle ∷ past) past) ≡ extra ++ past)
      go true y = (op ∷ [], refl)
      go false true = (Idle ∷ [], refl)
      go false false = ([], refl)

  booked_grows : (ops : List Operation) (l : Ledger) → Grown l.past (booked s start ops l).past
  unfolding booked Grown
  booked_grows [] l = ([], refl)
  booked_grows (op ∷ ops) l =
      let p = passing_grows (entered s start op l).0.answer op l.past in
      let q = booked_grows ops (entered s start op l).1 in
      (q.0 ++ p.0, q.1 ∙ ap (λ (x : List Operation). q.0 ++ x) (entered_past s start op l ∙ p.1) ∙ sym (append_assoc q.0 p.0 l.past))

due-behind : (start : Address → ℕ) (extra past : List Operation) (a : Address) (n : ℕ) → length extra ≡ n → due start (drop n (extra ++ Read a ∷ past)) ≡ Word (sram start past a)
due-behind start extra past a n e = rw (drop_at extra (Read a ∷ past) n e)

pub read-leaves : ReadLeaves
unfolding Tells Grown booked
read-leaves g w ops more a op h taken far k = go (tells_run g w (ops ++ Read a ∷ more) op h) k
  where
    s : Setup
    s = with_defaults g

    start : Address → ℕ
    start = start_word g w

    all : List Operation
    all = ops ++ Read a ∷ more

    l : Ledger
    l = ledger_at g w ops

    -- the read is noted in front of its past
    read-noted : (entered (with_defaults g) (start_word g w) (Read a) (ledger_at g w ops)).1.past ≡ Read a ∷ (ledger_at g w ops).past
    read-noted =
        entered_past (with_defaults g) (start_word g w) (Read a) (ledger_at g w ops)
        ∙ ap (λ (r : Reply). passing r.answer (Read a) (ledger_at g w ops).past) (sym (reply-run g w h ops (Read a)))
        ∙ ap (λ (n : ℕ). passing n (Read a) (ledger_at g w ops).past) taken

    grown : (extra : List Operation) × ((ledger_at g w (ops ++ Read a ∷ more)).past ≡ extra ++ Read a ∷ (ledger_at g w ops).past)
    grown =
        let q = booked_grows (with_defaults g) (start_word g w) more (entered (with_defaults g) (start_word g w) (Read a) (ledger_at g w ops)).1 in
        (q.0, ap (λ (x : Ledger). x.past) (booked-append (with_defaults g) (start_word g w) ops (Read a ∷ more) fresh_ledger) ∙ q.1 ∙ ap (λ (x : List Operation). q.0 ++ x) read-noted)

    -- as many cycles have passed since as make a delay, with its own
    extra_long : length grown.0 ≡ (with_defaults g).delta - 1
    extra_long =
        let p : length (ledger_at g w (ops ++ Read a ∷ more)).past ≡ length (ledger_at g w ops).past + (with_defaults g).delta
        = ap length (sym (history-run g w h (ops ++ Read a ∷ more))) ∙ far ∙ ap (λ (x : List Operation). length x + (with_defaults g).delta) (history-run g w h ops) in
        let q : length (ledger_at g w (ops ++ Read a ∷ more)).past ≡ length grown.0 + suc (length (ledger_at g w ops).past)
        = ap length grown.1 ∙ length-append grown.0 (Read a ∷ (ledger_at g w ops).past) in
        omega arith

    go : Tells (with_defaults g) (start_word g w) op (ledger_at g w (ops ++ Read a ∷ more)) (reply_at g w (ops ++ Read a ∷ more) op)
        → NotRefused (reply_at g w (ops ++ Read a ∷ more) op).answer
        → (reply_at g w (ops ++ Read a ∷ more) op).delivery ≡ Word (sram (start_word g w) (history g w ops) a)
    go (inl p) q =
        p.1.0
        ∙ ap (λ (x : List Operation). due (start_word g w) (drop ((with_defaults g).delta - 1) x)) grown.1
        ∙ due-behind (start_word g w) grown.0 (ledger_at g w ops).past a ((with_defaults g).delta - 1) extra_long
        ∙ ap (λ (x : List Operation). Word (sram (start_word g w) x a)) (sym (history-run g w h ops))
    go (inr (inl p, _)) (inl q) = absurd (omega arith)
    go (inr (inl p, _)) (inr (inl q)) = absurd (omega arith)
    go (inr (inl p, _)) (inr (inr q)) = absurd (omega arith)
    go (inr (inr p, _)) (inl q) = absurd (omega arith)
    go (inr (inr p, _)) (inr (inl q)) = absurd (omega arith)
    go (inr (inr p, _)) (inr (inr q)) = absurd (omega arith)

------------------------------------------------------------------------
-- The question, refusals, turn and position

ready_waiting : (g s : Setup) → checked_of g ≡ Ok s → (t : State) (b : ℕ) (x : Lent) → Ready s t x
    → waiting_of g t b x ≡ pick (ltb b (banks_of s)) (told done (count_of x.buffers.heads b)) (told bad_address 0)
unfolding waiting_in tell_of
ready_waiting g s c t b x r = rw (ready_standing g s c t x r)

-- a buffer holds what the ledger counts, going or stopped
buffer_holds : (s : Setup) (t : ℕ) (l : Ledger) (m : Bool) (c : CSt ℕ) (n : Run ℕ) → Matches (pick m (off c) (on c)) n → BooksRun s t l n
    → (b : ℕ) → b < banks_of s → length (c.buf b) ≡ waits l b
buffer_holds s t l true c (M.on y) k i b h = absurd k
buffer_holds s t l true c (M.off y) k i b h = k b ∙ sym (i.1 b h)
buffer_holds s t l false c (M.on y) k i b h = k b ∙ sym (books_waits s t l y i.1 b h)
buffer_holds s t l false c (M.off y) k i b h = absurd k

pub tells_waiting : TellsWaiting
tells_waiting g w ops b h = (answered, tallied)
  where
    s : Setup
    s = with_defaults g

    m : Machine
    m = reached g w ops

    k : Follows g w m (ledger_at g w ops)
    k = follows_run g w h ops

    asked : waiting_of g m.0 b m.1 ≡ pick (ltb b (banks_of s)) (told done (count_of m.1.buffers.heads b)) (told bad_address 0)
    asked = ready_waiting g s (starts_checked g w h) m.0 b m.1 k.ready

    fits : Legal (config_of s) s.k
    fits = legal s (checked_ranges g s (starts_checked g w h))

    y : Run ℕ
    y = by_cycle (merging s) (config_of s) s.k (λ c. get_or w.1.memory c 0) k.ops

    count : b < banks_of s → count_of m.1.buffers.heads b ≡ waits (ledger_at g w ops) b
    count l =
        sym (waiting_shown s m.0 m.1 b)
        ∙ buffer_holds s (length k.ops) (ledger_at g w ops) m.0.stopped (shown s m.0 m.1) y
        (subst (λ (c : CRun ℕ). Matches c y) (sym k.shows) (same_state (merging s) (config_of s) s.k (λ c. get_or w.1.memory c 0) fits k.ops)) k.books b l

    -- i is whether the bank is one of the B
    counts : (i : Bool) → ltb b (banks_of s) ≡ i → pick i (count_of m.1.buffers.heads b) 0 ≡ pick i (waits (ledger_at g w ops) b) 0
    counts true e = count (ltb-true b (banks_of s) e)
    counts false e = refl

    answered : (waiting_of g m.0 b m.1).answer ≡ pick (ltb b (banks_of s)) done bad_address
    answered =
        ap (λ (q : Waiting). q.answer) asked
        ∙ pick-map (λ (q : Waiting). q.answer) (ltb b (banks_of s)) (told done (count_of m.1.buffers.heads b)) (told bad_address 0)

    tallied : (waiting_of g m.0 b m.1).count ≡ pick (ltb b (banks_of s)) (waits (ledger_at g w ops) b) 0
    tallied =
        ap (λ (q : Waiting). q.count) asked
        ∙ pick-map (λ (q : Waiting). q.count) (ltb b (banks_of s)) (told done (count_of m.1.buffers.heads b)) (told bad_address 0)
        ∙ counts (ltb b (banks_of s)) refl

refuses_in : (c : Result Setup Refusal) (t : State) (op : Operation) (x : Lent)
    → NotRefused (cycle_in c t op x).0.reply.answer ⊎ (cycle_in c t op x ≡ refused (cycle_in c t op x).0.reply.answer t x)
unfolding cycle_in step_in
refuses_in (Err r) t op x = inr refl
refuses_in (Ok s) t op x = go (offered_of s t op)
  where
    go : (r : Result ⊤ Refusal) → NotRefused (step_in r s t op x).0.reply.answer
        ⊎ (step_in r s t op x ≡ refused (step_in r s t op x).0.reply.answer t x)
    go (Ok u) = inl (passed-answer s t op x)
    go (Err r) = inr refl

pub refuses_whole : RefusesWhole
refuses_whole g t op x = refuses_in (standing_of g t x) t op x

pub turns_apart : TurnsApart
turns_apart g w ops h =
    let k : Follows g w (reached g w ops) (ledger_at g w ops) = follows_run g w h ops in
    rw (history-run g w h ops) (k.stamps, k.turns, k.places)
