-- One call of the ledger: the ways it can go, what it tells, how many wait after it; and lists of calls. Assumes nothing.
use Prim.Native.Nat.{ℕ, ◌+◌, ◌-◌, ◌%◌, ◌^◌, ◌≤◌}
use native.Mathlib.Omega.{arith}
use mathlib.Core.Path.{◌≡◌, refl, ap, ◌∙◌}
use mathlib.Core.Logic.{◌≢◌, inl, inr}
use mathlib.Core.Bool.{Bool, true, false}
use mathlib.Core.List.{List, [], ◌∷◌, ◌++◌}
use lib.Dec.{eqb}
use lib.ListN.{length, drop}
use borrow.Author.Tests.{eqb-true, eqb-false}
use Rattle.answers.specs.Answers.{done, bad_address, dropped, stopping, stopped}
use Rattle.choice.specs.Choice.{pick}
use Rattle.setup.specs.declared.Setup.{Setup}
use Rattle.map.specs.declared.Address.{Address}
use Rattle.port.specs.declared.Operation.{Operation}
use Rattle.port.specs.declared.Operation.TheVariants.{Idle}
use Rattle.port.specs.declared.Delivery.{Delivery}
use Rattle.port.specs.declared.Delivery.TheVariants.{None}
use Rattle.port.specs.declared.Reply.{Reply}
use Rattle.model.specs.Calls.{address_ok}
use Rattle.model.specs.Sram.{due}
use Rattle.model.specs.Ledger.{Ledger, ledger, waits, serviced, Need, nowhere, at, retires, arrives, full, given, noted, replied, ended, entered}
use Rattle.model.specs.Promises.{booked, passing, NotRefused}

------------------------------------------------------------------------
-- The calls that pass no cycle, and the one that does

module _ (s : Setup) (start : Address → ℕ) (op : Operation) (l : Ledger) where
  pub entered_halted : l.halted ≡ true → entered s start op l ≡ (replied stopped None 0, l)
  unfolding entered
  entered_halted h = rw h

  pub entered-refused : l.halted ≡ false → address_ok s op ≡ false → entered s start op l ≡ (replied bad_address None 0, l)
  unfolding entered
  entered-refused h k = rw (h, k)

  pub entered_passes : l.halted ≡ false → address_ok s op ≡ true
      → entered s start op l ≡ ended s op (due start (drop (s.delta - 1) l.past)) (length l.past % 2 ^ 32) (serviced s l)
  unfolding entered
  entered_passes h k = rw (h, k)

  -- what holds of each of the three
  pub entered_by : (P : Reply × Ledger → Type 0)
      → (l.halted ≡ true → P (replied stopped None 0, l))
      → (l.halted ≡ false → address_ok s op ≡ false → P (replied bad_address None 0, l))
      → (l.halted ≡ false → address_ok s op ≡ true → P (ended s op (due start (drop (s.delta - 1) l.past)) (length l.past % 2 ^ 32) (serviced s l)))
      → P (entered s start op l)
  entered_by P f g k = go l.halted (address_ok s op) refl refl
    where
      go : (u t : Bool) → l.halted ≡ u → address_ok s op ≡ t → P (entered s start op l)
      go true t h e = rw (entered_halted h) (f h)
      go false false h e = rw (entered-refused h e) (g h e)
      go false true h e = rw (entered_passes h e) (k h e)

  -- a call that is not refused reaches its cycle
  pub entered_reaches : (entered s start op l).0.answer ≢ stopped → (entered s start op l).0.answer ≢ bad_address
      → (l.halted ≡ false) × (address_ok s op ≡ true)
  entered_reaches =
      entered_by (λ e. e.0.answer ≢ stopped → e.0.answer ≢ bad_address → (l.halted ≡ false) × (address_ok s op ≡ true))
      (λ h f g. absurd (f refl)) (λ h k f g. absurd (g refl)) (λ h k f g. (h, k))

------------------------------------------------------------------------
-- The ways of a cycle

pub given_past : (n : Need) (l : Ledger) → (given n l).past ≡ l.past
given_past nowhere l = refl
given_past (at b) l = refl

pub given_halted : (n : Need) (l : Ledger) → (given n l).halted ≡ l.halted
given_halted nowhere l = refl
given_halted (at b) l = refl

-- what a retirement that finds its place leaves
abbrev pub retired_to : Setup → Ledger → Ledger
retired_to s l = given (retires s l) l

-- l is the ledger after service
module _ (s : Setup) (op : Operation) (d : Delivery) (stamp : ℕ) (l : Ledger) where
  pub data Way : Reply × Ledger → Type 0 where
    takes : full s (retires s l) l ≡ false → full s (arrives s op (retired_to s l)) (retired_to s l) ≡ false
        → Way (replied done d stamp, noted op (given (arrives s op (retired_to s l)) (retired_to s l)))
    drops : full s (retires s l) l ≡ false → full s (arrives s op (retired_to s l)) (retired_to s l) ≡ true
        → Way (replied dropped d stamp, noted Idle (retired_to s l))
    halts : full s (retires s l) l ≡ true → Way (replied stopping d stamp, ledger l.past l.placed l.served true)

  pub way : Way (ended s op d stamp l)
  way = go (full s (retires s l) l) (full s (arrives s op (retired_to s l)) (retired_to s l)) refl refl
    where
      go : (x y : Bool) → full s (retires s l) l ≡ x → full s (arrives s op (retired_to s l)) (retired_to s l) ≡ y
          → Way (pick x (replied stopping d stamp, ledger l.past l.placed l.served true)
          (pick y (replied dropped d stamp, noted Idle (retired_to s l))
          (replied done d stamp, noted op (given (arrives s op (retired_to s l)) (retired_to s l)))))
      go true y p q = halts p
      go false true p q = drops p q
      go false false p q = takes p q

  pub way_delivers : (e : Reply × Ledger) → Way e → e.0.delivery ≡ d
  way_delivers e (takes p q) = refl
  way_delivers e (drops p q) = refl
  way_delivers e (halts p) = refl

  pub way_stamps : (e : Reply × Ledger) → Way e → e.0.stamp ≡ stamp
  way_stamps e (takes p q) = refl
  way_stamps e (drops p q) = refl
  way_stamps e (halts p) = refl

  pub way_passes : (e : Reply × Ledger) → Way e → NotRefused e.0.answer
  way_passes e (takes p q) = inl refl
  way_passes e (drops p q) = inr (inl refl)
  way_passes e (halts p) = inr (inr refl)

  -- past after it: the operation where it is taken, idle where it is dropped, else as before
  way_past : (e : Reply × Ledger) → Way e → e.1.past ≡ passing e.0.answer op l.past
  way_past e (takes p q) = ap (λ (past : List Operation). op ∷ past) (given_past (arrives s op (retired_to s l)) (retired_to s l) ∙ given_past (retires s l) l)
  way_past e (drops p q) = ap (λ (past : List Operation). Idle ∷ past) (given_past (retires s l) l)
  way_past e (halts p) = refl

pub entered_past : (s : Setup) (start : Address → ℕ) (op : Operation) (l : Ledger)
    → (entered s start op l).1.past ≡ passing (entered s start op l).0.answer op l.past
entered_past s start op l =
    entered_by s start op l (λ e. e.1.past ≡ passing e.0.answer op l.past) (λ h. refl) (λ h k. refl)
    (λ h k. way_past s op _ _ (serviced s l) _ (way s op _ _ (serviced s l)))

------------------------------------------------------------------------
-- No more than K wait at a bank

module _ (s : Setup) where
  abbrev pub Held : Ledger → Type 0
  Held l = (b : ℕ) → waits l b ≤ s.k

  pub held_serviced : (l : Ledger) → Held l → Held (serviced s l)
  held_serviced l k b = let z = k b in omega arith

  pub held_given : (n : Need) (l : Ledger) → Held l → full s n l ≡ false → Held (given n l)
  held_given nowhere l k e b = k b
  held_given (at c) l k e b = go (eqb c b) refl
    where
      go : (t : Bool) → eqb c b ≡ t → l.placed b + pick t 1 0 - l.served b ≤ s.k
      go true q =
          let z = k b in
          let f : waits l b ≢ s.k = eqb-false (waits l b) s.k (rw (eqb-true c b q) at e) in
          omega arith
      go false q = let z = k b in omega arith

  way_held : (op : Operation) (d : Delivery) (stamp : ℕ) (l : Ledger) (e : Reply × Ledger) → Way s op d stamp l e → Held l
      → Held e.1
  way_held op d stamp l e (takes p q) k = held_given (arrives s op (retired_to s l)) (retired_to s l) (held_given (retires s l) l k p) q
  way_held op d stamp l e (drops p q) k = held_given (retires s l) l k p
  way_held op d stamp l e (halts p) k = k

  module _ (start : Address → ℕ) where
    pub held_entered : (op : Operation) (l : Ledger) → Held l → Held (entered s start op l).1
    held_entered op l k =
        entered_by s start op l (λ e. Held e.1) (λ h. k) (λ h a. k)
        (λ h a. way_held op _ _ (serviced s l) _ (way s op _ _ (serviced s l)) (held_serviced l k))

------------------------------------------------------------------------
-- Lists of calls

pub booked-append : (s : Setup) (start : Address → ℕ) (ops more : List Operation) (l : Ledger)
    → booked s start (ops ++ more) l ≡ booked s start more (booked s start ops l)
unfolding booked
booked-append s start [] more l = refl
booked-append s start (op ∷ ops) more l = booked-append s start ops more (entered s start op l).1
