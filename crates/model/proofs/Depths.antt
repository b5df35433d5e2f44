-- Demand 3 on the ledger: two setups that differ in depth alone, over every list of offered operations, of good and bad addresses. Assumes nothing.
--
-- In both modes, from a fresh start over equal starting words. s is the shallower, and the deeper has d places more:
--   deeper-takes            what the shallower takes the deeper takes, after drops too
--   deeper-goes             as long as the shallower has not stopped, neither has the deeper, and as many cycles have passed in both (same-cycles)
--   same_word               where the shallower has dropped no write to a and still goes, the ideal SRAMs of both have one word at a
--   same-until              as long as the shallower neither drops nor stops the two reply alike; the next call delivers alike in any case (same_next)
--   merging-keeps-writes    merging, no write is ever dropped
use Prim.Native.Nat.{ℕ, ◌+◌}
use native.Mathlib.Omega.{arith}
use mathlib.Core.Path.{◌≡◌, refl, sym, ap, subst, ◌∙◌}
use mathlib.Core.Logic.{◌≢◌}
use mathlib.Core.Bool.{Bool, true, false, false≢true}
use mathlib.Core.List.{List, [], ◌∷◌}
use lib.ListN.{length}
use borrow.Author.Tests.{eqb-false, ne_eqb}
use Rattle.answers.specs.Answers.{done, dropped, stopping}
use Rattle.setup.specs.Setup.{merging}
use Rattle.setup.specs.declared.Setup.{Setup}
use Rattle.map.specs.declared.Address.{Address}
use Rattle.port.specs.declared.Operation.{Operation}
use Rattle.port.specs.declared.Delivery.{Delivery}
use Rattle.port.specs.declared.Reply.{Reply}
use Rattle.model.specs.Sram.{wrote, sram}
use Rattle.model.specs.Ledger.{Ledger, fresh_ledger, waits, serviced, Need, nowhere, at, retires, arrives, full, ended, entered}
use Rattle.model.specs.Promises.{promised, booked}
use Rattle.model.specs.Depths.{WritesKept, NoneLost}
use Rattle.model.proofs.Entered.{entered_by, entered_halted, entered-refused, entered_passes, given_halted, retired_to, Way, takes, drops, halts, way, way_delivers, Held, held_serviced, held_given, held_entered}
use Rattle.model.proofs.Deeper.{deepened, same-retires, same_arrives, same_ok, Droppable, undroppable, full_droppable, over_length, Beside, beside_fresh, stepped, beside_entered}

-- a ledger that goes has gone all along
going_before : (s : Setup) (start : Address → ℕ) (ops : List Operation) (l : Ledger) → (booked s start ops l).halted ≡ false
    → l.halted ≡ false
unfolding booked
going_before s start [] l h = h
going_before s start (op ∷ ops) l h = go l.halted refl (going_before s start ops (entered s start op l).1 h)
  where
    go : (u : Bool) → l.halted ≡ u → (entered s start op l).1.halted ≡ false → u ≡ false
    go true e k = sym (ap (λ (z : Reply × Ledger). z.1.halted) (entered_halted s start op l e) ∙ e) ∙ k
    go false e k = refl

module _ (s : Setup) (d : ℕ) (start : Address → ℕ) where
  ----------------------------------------------------------------------
  -- The two side by side

  beside_after : (ops : List Operation) (l₁ l₂ : Ledger) → Beside s d l₁ l₂
      → Beside s d (booked s start ops l₁) (booked (deepened s d) start ops l₂)
  unfolding booked
  beside_after [] l₁ l₂ h = h
  beside_after (op ∷ ops) l₁ l₂ h = beside_after ops _ _ (beside_entered s d start op l₁ l₂ h)

  -- the ledgers that these operations reach
  abbrev shallow : List Operation → Ledger
  shallow ops = booked s start ops fresh_ledger

  abbrev deep : List Operation → Ledger
  deep ops = booked (deepened s d) start ops fresh_ledger

  beside : (ops : List Operation) → Beside s d (shallow ops) (deep ops)
  beside ops = beside_after ops fresh_ledger fresh_ledger (beside_fresh s d)

  pub deeper_takes : (ops : List Operation) (op : Operation) → (entered s start op (shallow ops)).0.answer ≡ done
      → (entered (deepened s d) start op (deep ops)).0.answer ≡ done
  deeper_takes ops op = (stepped s d start op (shallow ops) (deep ops) (beside ops)).taken

  pub deeper_goes : (ops : List Operation) → (shallow ops).halted ≡ false → (deep ops).halted ≡ false
  deeper_goes ops = (beside ops).going

  pub same_cycles : (ops : List Operation) → (shallow ops).halted ≡ false → length (deep ops).past ≡ length (shallow ops).past
  same_cycles ops u = sym (over_length (merging s) (shallow ops).past (deep ops).past ((beside ops).near u).pasts)

  ----------------------------------------------------------------------
  -- The same word

  word_after : (a : Address) (ops : List Operation) (l₁ l₂ : Ledger) → Beside s d l₁ l₂ → WritesKept a ops (promised s start ops l₁)
      → (booked s start ops l₁).halted ≡ false
      → sram start l₁.past a ≡ sram start l₂.past a
      → sram start (booked s start ops l₁).past a ≡ sram start (booked (deepened s d) start ops l₂).past a
  unfolding booked promised
  word_after a [] l₁ l₂ h k u e = e
  word_after a (op ∷ ops) l₁ l₂ h k u e =
      word_after a ops _ _ (beside_entered s d start op l₁ l₂ h) k.1 u
      ((stepped s d start op l₁ l₂ h).words (going_before s start ops (entered s start op l₁).1 u) a k.0 e)

  pub same_word : (a : Address) (ops : List Operation) → WritesKept a ops (promised s start ops fresh_ledger)
      → (shallow ops).halted ≡ false
      → sram start (shallow ops).past a ≡ sram start (deep ops).past a
  same_word a ops k u = word_after a ops fresh_ledger fresh_ledger (beside_fresh s d) k u refl

  ----------------------------------------------------------------------
  -- Until the shallower first drops or stops, the two are one

  -- what is not full stays so with more places
  roomier : (n : Need) (l : Ledger) → Held s l → full s n l ≡ false → full (deepened s d) n l ≡ false
  roomier nowhere l k e = refl
  roomier (at b) l k e =
      let z = k b in
      let f : waits l b ≢ s.k = eqb-false (waits l b) s.k e in
      ne_eqb (waits l b) (s.k + d) (λ q. omega arith)

  alike_ended : (op : Operation) (o : Delivery) (stamp : ℕ) (l : Ledger) (e : Reply × Ledger) → Way s op o stamp l e → Held s l
      → e.0.answer ≢ dropped → e.0.answer ≢ stopping → ended (deepened s d) op o stamp l ≡ e
  alike_ended op o stamp l e (takes p q) k f g =
      rw (
        same-retires s d l,
        roomier (retires s l) l k p,
        same_arrives s d op (retired_to s l),
        roomier (arrives s op (retired_to s l)) (retired_to s l) (held_given s (retires s l) l k p) q,
      )
  alike_ended op o stamp l e (drops p q) k f g = absurd (f refl)
  alike_ended op o stamp l e (halts p) k f g = absurd (g refl)

  module _ (op : Operation) (l : Ledger) where
    -- a call that the shallower neither drops nor stops at: the deeper, in the same state, replies alike and is left in the same state
    alike_entered : Held s l → (entered s start op l).0.answer ≢ dropped → (entered s start op l).0.answer ≢ stopping
        → entered (deepened s d) start op l ≡ entered s start op l
    alike_entered k =
        entered_by s start op l (λ e. e.0.answer ≢ dropped → e.0.answer ≢ stopping → entered (deepened s d) start op l ≡ e)
        (λ u f g. entered_halted (deepened s d) start op l u)
        (λ u a f g. entered-refused (deepened s d) start op l u (same_ok s d op ∙ a))
        (λ u a. rw (entered_passes (deepened s d) start op l u (same_ok s d op ∙ a))
        (alike_ended op _ _ (serviced s l) _ (way s op _ _ (serviced s l)) (held_serviced s l k)))

    -- any call: the deeper, in the same state, delivers alike
    delivers_alike : (entered (deepened s d) start op l).0.delivery ≡ (entered s start op l).0.delivery
    delivers_alike =
        entered_by s start op l (λ e. (entered (deepened s d) start op l).0.delivery ≡ e.0.delivery)
        (λ u. rw (entered_halted (deepened s d) start op l u))
        (λ u a. rw (entered-refused (deepened s d) start op l u (same_ok s d op ∙ a)))
        (λ u a. rw (entered_passes (deepened s d) start op l u (same_ok s d op ∙ a))
        (way_delivers (deepened s d) op _ _ (serviced s l) _ (way (deepened s d) op _ _ (serviced s l))
        ∙ sym (way_delivers s op _ _ (serviced s l) _ (way s op _ _ (serviced s l)))))

  -- the same replies, and the same ledger
  one-after : (ops : List Operation) (l : Ledger) → Held s l → NoneLost (promised s start ops l)
      → (promised (deepened s d) start ops l ≡ promised s start ops l) × (booked (deepened s d) start ops l ≡ booked s start ops l)
  unfolding promised booked
  one-after [] l k h = (refl, refl)
  one-after (op ∷ ops) l k h =
      let i = one-after ops (entered s start op l).1 (held_entered s start op l k) h.2 in
      rw (alike_entered op l k h.0 h.1) (ap (λ (rs : List Reply). (entered s start op l).0 ∷ rs) i.0, i.1)

  module _ (ops : List Operation) (kept : NoneLost (promised s start ops fresh_ledger)) where
    pub same_until : promised (deepened s d) start ops fresh_ledger ≡ promised s start ops fresh_ledger
    same_until = (one-after ops fresh_ledger (λ b. omega arith) kept).0

    -- the next call delivers alike also where the shallower drops it or stops
    pub same_next : (op : Operation)
        → (entered (deepened s d) start op (deep ops)).0.delivery ≡ (entered s start op (shallow ops)).0.delivery
    same_next op = rw (one-after ops fresh_ledger (λ b. omega arith) kept).1 (delivers_alike op (shallow ops))

------------------------------------------------------------------------
-- Merging, no write is ever dropped

module _ (s : Setup) (start : Address → ℕ) (e : merging s ≡ true) where
  way_kept : (op : Operation) (a : Address) (o : Delivery) (stamp : ℕ) (l : Ledger) (r : Reply × Ledger) → Way s op o stamp l r
      → wrote a op ≡ true → r.0.answer ≢ dropped
  way_kept op a o stamp l r (takes p q) w z = omega arith
  way_kept op a o stamp l r (drops p q) w z = undroppable op a (subst (λ (mode : Bool). Droppable mode op) e (full_droppable s op (retired_to s l) (retired_to s l) q)) w
  way_kept op a o stamp l r (halts p) w z = omega arith

  write_kept : (op : Operation) (a : Address) (l : Ledger) → wrote a op ≡ true → (entered s start op l).0.answer ≢ dropped
  write_kept op a l w =
      entered_by s start op l (λ r. r.0.answer ≢ dropped) (λ u z. omega arith) (λ u k z. omega arith)
      (λ u k. way_kept op a _ _ (serviced s l) _ (way s op _ _ (serviced s l)) w)

  pub merging_keeps_writes : (a : Address) (ops : List Operation) (l : Ledger) → WritesKept a ops (promised s start ops l)
  unfolding promised
  merging_keeps_writes a [] l = tt
  merging_keeps_writes a (op ∷ ops) l = (write_kept op a l, merging_keeps_writes a ops (entered s start op l).1)

------------------------------------------------------------------------
-- Stock: for the search of the smallest depth (Q-2) and the cell queues (Q-14), which run plain

-- plain, nothing ever stops
module _ (s : Setup) (start : Address → ℕ) (e : merging s ≡ false) where
  plain_way : (op : Operation) (o : Delivery) (stamp : ℕ) (l : Ledger) (r : Reply × Ledger) → Way s op o stamp l r → l.halted ≡ false
      → r.1.halted ≡ false
  plain_way op o stamp l r (takes p q) h = given_halted (arrives s op (retired_to s l)) (retired_to s l) ∙ given_halted (retires s l) l ∙ h
  plain_way op o stamp l r (drops p q) h = given_halted (retires s l) l ∙ h
  plain_way op o stamp l r (halts p) h = absurd (false≢true (rw e at p))

  pub plain_goes : (ops : List Operation) (l : Ledger) → l.halted ≡ false → (booked s start ops l).halted ≡ false
  unfolding booked
  plain_goes [] l h = h
  plain_goes (op ∷ ops) l h =
      plain_goes ops (entered s start op l).1
      (entered_by s start op l (λ r. r.1.halted ≡ false) (λ u. h) (λ u k. h) (λ u k. plain_way op _ _ (serviced s l) _ (way s op _ _ (serviced s l)) h))
