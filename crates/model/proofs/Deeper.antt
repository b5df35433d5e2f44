-- Two setups that differ in depth alone, one call on each one's ledger: the deeper has every operation of the shallower, and at most d more waiting. Assumes nothing.
use Prim.Native.Nat.{ℕ, zero, suc, ◌+◌, ◌-◌, ◌%◌, ◌≤◌}
use native.Mathlib.Omega.{arith}
use mathlib.Core.Path.{◌≡◌, refl, sym, ap, ◌∙◌}
use mathlib.Core.Logic.{◌⊎◌, inl, inr, ◌≢◌}
use mathlib.Core.Bool.{Bool, true, false, true≢false, false≢true, ◌&&◌, ◌||◌}
use mathlib.Core.List.{List, [], ◌∷◌}
use lib.Dec.{eqb, ltb}
use lib.ListN.{length, take, drop}
use borrow.Author.Tests.{ltb-true, ltb-false, eqb-true, eqb-false, ne_eqb}
use Rattle.answers.specs.Answers.{done, dropped}
use Rattle.choice.specs.Choice.{pick}
use Rattle.setup.specs.Setup.{map_of, merging}
use Rattle.setup.specs.declared.Setup.{Setup}
use Rattle.map.specs.Map.{bank_at}
use Rattle.map.specs.declared.Address.{Address}
use Rattle.port.specs.declared.Operation.{Operation}
use Rattle.port.specs.declared.Operation.TheVariants.{Idle, Read, Write}
use Rattle.port.specs.declared.Delivery.{Delivery}
use Rattle.port.specs.declared.Reply.{Reply}
use Rattle.model.specs.Calls.{address_ok}
use Rattle.model.specs.Sram.{wrote, touched, some, written, sram}
use Rattle.model.specs.Ledger.{Ledger, fresh_ledger, waits, serviced, Need, nowhere, at, retiring, retires, arrives, full, given, noted, entered}
use Rattle.model.specs.Depths.{Deeper}
use Rattle.model.proofs.Entered.{given_past, given_halted, retired_to, Way, takes, drops, halts, way, Held, held_serviced, held_given, held_entered, entered_by, entered-refused, entered_passes}

------------------------------------------------------------------------
-- Two setups that differ in depth alone

-- d places more in each buffer
abbrev pub deepened : Setup → ℕ → Setup
deepened s d =
    record {
      mode = s.mode;
      a = s.a;
      s = s.s;
      m = s.m;
      k = s.k + d;
      delta = s.delta;
      c = s.c;
      u = s.u;
      v = s.v;
    }

pub deeper_deepened : (s₁ s₂ : Setup) → Deeper s₁ s₂ → s₂ ≡ deepened s₁ (s₂.k - s₁.k)
deeper_deepened s₁ s₂ h =
    let e : s₂.k ≡ s₁.k + (s₂.k - s₁.k) = omega (arith, h.k) in
    rw (h.mode, h.a, h.s, h.m, h.delta, h.c, h.u, h.v, ← e)

-- the depth is no part of the address map, whatever its rule
module _ (s : Setup) (d : ℕ) where
  same-retiring : (since older : List Operation) → retiring (deepened s d) since older ≡ retiring s since older
  same-retiring since [] = refl
  same-retiring since (Idle ∷ before) = refl
  same-retiring since (Read x ∷ before) = refl
  same-retiring since (Write x w ∷ before) = refl

  pub same-retires : (l : Ledger) → retires (deepened s d) l ≡ retires s l
  same-retires l = ap (λ (n : Need). pick (merging s) n nowhere) (same-retiring (take (s.c - 1) l.past) (drop (s.c - 1) l.past))

  pub same_arrives : (op : Operation) (l : Ledger) → arrives (deepened s d) op l ≡ arrives s op l
  same_arrives Idle l = refl
  same_arrives (Read x) l = refl
  same_arrives (Write x w) l = refl

  pub same_ok : (op : Operation) → address_ok (deepened s d) op ≡ address_ok s op
  same_ok Idle = refl
  same_ok (Read x) = refl
  same_ok (Write x w) = refl

------------------------------------------------------------------------
-- One bank's counts in both

-- p placed and s served: what waits in the deeper is at most d more
pub record Close (d p₁ s₁ p₂ s₂ : ℕ) : Type 0 where
  pub first : s₁ ≤ p₁
  pub second : s₂ ≤ p₂
  pub close : p₂ - s₂ ≤ p₁ - s₁ + d

close_served : (d p₁ s₁ p₂ s₂ : ℕ) → Close d p₁ s₁ p₂ s₂ → (x y₁ y₂ : Bool) → ltb 0 (p₁ - s₁) ≡ y₁ → ltb 0 (p₂ - s₂) ≡ y₂
    → Close d p₁ (s₁ + pick (x && y₁) 1 0) p₂ (s₂ + pick (x && y₂) 1 0)
close_served d p₁ s₁ p₂ s₂ h false y₁ y₂ q₁ q₂ = omega arith
close_served d p₁ s₁ p₂ s₂ h true true true q₁ q₂ = let z₁ = ltb-true 0 (p₁ - s₁) q₁ in let z₂ = ltb-true 0 (p₂ - s₂) q₂ in omega arith
close_served d p₁ s₁ p₂ s₂ h true true false q₁ q₂ = let z₁ = ltb-true 0 (p₁ - s₁) q₁ in let z₂ = ltb-false 0 (p₂ - s₂) q₂ in omega arith
close_served d p₁ s₁ p₂ s₂ h true false true q₁ q₂ = let z₁ = ltb-false 0 (p₁ - s₁) q₁ in let z₂ = ltb-true 0 (p₂ - s₂) q₂ in omega arith
close_served d p₁ s₁ p₂ s₂ h true false false q₁ q₂ = omega arith

------------------------------------------------------------------------
-- The two pasts

-- what may be dropped: with merging no write
pub Droppable : Bool → Operation → Type 0
Droppable false o = Unit {0}
Droppable true Idle = Unit {0}
Droppable true (Read x) = Unit {0}
Droppable true (Write x w) = ⊥

pub undroppable : (op : Operation) (a : Address) → Droppable true op → wrote a op ≢ true
unfolding Droppable
undroppable Idle a h w = false≢true w
undroppable (Read x) a h w = false≢true w
undroppable (Write x v) a h w = h

-- an operation of the shallower beside that of the deeper: the same, or dropped in the shallower alone
abbrev Covers : Bool → Operation → Operation → Type 0
Covers mode o o' = (o ≡ o') ⊎ ((o ≡ Idle) × Droppable mode o')

pub Over : Bool → List Operation → List Operation → Type 0
Over mode [] [] = Unit {0}
Over mode [] (o' ∷ p') = ⊥
Over mode (o ∷ p) [] = ⊥
Over mode (o ∷ p) (o' ∷ p') = Covers mode o o' × Over mode p p'

pub over_length : (mode : Bool) (p p' : List Operation) → Over mode p p' → length p ≡ length p'
unfolding Over
over_length mode [] [] h = refl
over_length mode [] (o' ∷ p') h = absurd h
over_length mode (o ∷ p) [] h = absurd h
over_length mode (o ∷ p) (o' ∷ p') h = ap suc (over_length mode p p' h.1)

over_drop : (mode : Bool) (n : ℕ) (p p' : List Operation) → Over mode p p' → Over mode (drop n p) (drop n p')
unfolding Over
over_drop mode zero p p' h = h
over_drop mode (suc n) [] [] h = tt
over_drop mode (suc n) [] (o' ∷ p') h = absurd h
over_drop mode (suc n) (o ∷ p) [] h = absurd h
over_drop mode (suc n) (o ∷ p) (o' ∷ p') h = over_drop mode n p p' h.1

module _ (x : Address) where
  -- with merging both have the same writes
  same-wrote : (o o' : Operation) → Covers true o o' → wrote x o ≡ wrote x o'
  unfolding Droppable
  same-wrote o o' (inl e) = rw e
  same-wrote o Idle (inr e) = rw e.0
  same-wrote o (Read y) (inr e) = rw e.0
  same-wrote o (Write y w) (inr e) = absurd e.1

  over_wrote : (n : ℕ) (p p' : List Operation) → Over true p p' → some (wrote x) (take n p) ≡ some (wrote x) (take n p')
  unfolding Over
  over_wrote zero p p' h = refl
  over_wrote (suc n) [] [] h = refl
  over_wrote (suc n) [] (o' ∷ p') h = absurd h
  over_wrote (suc n) (o ∷ p) [] h = absurd h
  over_wrote (suc n) (o ∷ p) (o' ∷ p') h = rw (same-wrote o o' h.0, over_wrote n p p' h.1)

  -- and the deeper has every operation that the shallower has
  more_touched : (mode : Bool) (o o' : Operation) (t t' : Bool) → Covers mode o o' → (t ≡ true → t' ≡ true) → touched x o || t ≡ true
      → touched x o' || t' ≡ true
  more_touched mode o o' t t' (inl q) k e = go (touched x o') (rw q at e)
    where
      go : (y : Bool) → y || t ≡ true → y || t' ≡ true
      go true z = refl
      go false z = k z
  more_touched mode o o' t t' (inr q) k e = go (touched x o') (k (rw q.0 at e))
    where
      go : (y : Bool) → t' ≡ true → y || t' ≡ true
      go true z = refl
      go false z = z

  over_touched : (mode : Bool) (n : ℕ) (p p' : List Operation) → Over mode p p' → some (touched x) (take n p) ≡ true
      → some (touched x) (take n p') ≡ true
  unfolding Over
  over_touched mode zero p p' h e = e
  over_touched mode (suc n) [] p' h e = absurd (false≢true e)
  over_touched mode (suc n) (o ∷ p) [] h e = absurd h
  over_touched mode (suc n) (o ∷ p) (o' ∷ p') h e =
      more_touched mode o o' (some (touched x) (take n p)) (some (touched x) (take n p')) h.0 (over_touched mode n p p' h.1) e

  -- an operation that is no write to x leaves its word
  unwritten : (op : Operation) (v : ℕ) → wrote x op ≢ true → written op x v ≡ v
  unwritten Idle v f = refl
  unwritten (Read y) v f = refl
  unwritten (Write y w) v f = go (eqb y.0 x.0) f
    where
      go : (t : Bool) → t ≢ true → pick t w v ≡ v
      go true g = absurd (g refl)
      go false g = refl

------------------------------------------------------------------------
-- What the two need

-- the same, or nothing in the deeper
abbrev Eases : Need → Need → Type 0
Eases n n' = (n' ≡ n) ⊎ (n' ≡ nowhere)

module _ (s : Setup) where
  over_retiring : (since since' : List Operation) → ((x : Address) → some (wrote x) since ≡ some (wrote x) since')
      → (p p' : List Operation) → Over true p p' → retiring s since p ≡ retiring s since' p'
  unfolding Over Droppable
  over_retiring since since' f [] [] h = refl
  over_retiring since since' f [] (o' ∷ p') h = absurd h
  over_retiring since since' f (o ∷ p) [] h = absurd h
  over_retiring since since' f (o ∷ p) (o' ∷ p') h = go o o' h.0
    where
      go : (o o' : Operation) → Covers true o o' → retiring s since (o ∷ p) ≡ retiring s since' (o' ∷ p')
      go o Idle (inl e) = rw e
      go o (Read x) (inl e) = rw e
      go o (Write x w) (inl e) = rw (e, f x)
      go o Idle (inr e) = rw e.0
      go o (Read x) (inr e) = rw e.0
      go o (Write x w) (inr e) = absurd e.1

  -- at retirement the same
  over_retires : (l₁ l₂ : Ledger) → Over (merging s) l₁.past l₂.past → retires s l₁ ≡ retires s l₂
  over_retires l₁ l₂ = go (merging s)
    where
      n : ℕ
      n = s.c - 1

      go : (mode : Bool) → Over mode l₁.past l₂.past
          → pick mode (retiring s (take n l₁.past) (drop n l₁.past)) nowhere ≡ pick mode (retiring s (take n l₂.past) (drop n l₂.past)) nowhere
      go false h = refl
      go true h =
          over_retiring (take n l₁.past) (take n l₂.past) (λ x. over_wrote x n l₁.past l₂.past h)
          (drop n l₁.past) (drop n l₂.past) (over_drop true n l₁.past l₂.past h)

  -- at arrival the same, or nothing in the deeper
  eases_arrives : (op : Operation) (l₁ l₂ : Ledger) → Over (merging s) l₁.past l₂.past
      → Eases (arrives s op l₁) (arrives s op l₂)
  eases_arrives Idle l₁ l₂ h = inl refl
  eases_arrives (Write x w) l₁ l₂ h = inl refl
  eases_arrives (Read x) l₁ l₂ h =
      go (merging s) (some (touched x) (take (s.c - 1) l₁.past)) (some (touched x) (take (s.c - 1) l₂.past))
      (over_touched x (merging s) (s.c - 1) l₁.past l₂.past h)
    where
      go : (mode t t' : Bool) → (t ≡ true → t' ≡ true)
          → Eases (pick (mode && t) nowhere (at (bank_at (map_of s) x))) (pick (mode && t') nowhere (at (bank_at (map_of s) x)))
      go false t t' k = inl refl
      go true t true k = inr refl
      go true true false k = absurd (false≢true (k refl))
      go true false false k = inl refl

  -- what lacks a place may be dropped
  pub full_droppable : (op : Operation) (l l' : Ledger) → full s (arrives s op l) l' ≡ true → Droppable (merging s) op
  unfolding Droppable
  full_droppable Idle l l' e = absurd (false≢true e)
  full_droppable (Read x) l l' e = go (merging s)
    where
      go : (mode : Bool) → Droppable mode (Read x)
      go true = tt
      go false = tt
  full_droppable (Write x w) l l' e = go (merging s) e
    where
      go : (mode : Bool) → full s (pick mode nowhere (at (bank_at (map_of s) x))) l' ≡ true → Droppable mode (Write x w)
      go true q = false≢true q
      go false q = tt

------------------------------------------------------------------------
-- The two ledgers

module _ (s : Setup) (d : ℕ) where
  pub record Near (l₁ l₂ : Ledger) : Type 0 where
    pub pasts : Over (merging s) l₁.past l₂.past
    pub counts : (b : ℕ) → Close d (l₁.placed b) (l₁.served b) (l₂.placed b) (l₂.served b)

  module _ (l₁ l₂ : Ledger) (h : Near l₁ l₂) where
    near_serviced : Near (serviced s l₁) (serviced s l₂)
    near_serviced = record {
      pasts = h.pasts;
      counts = λ b.
          rw (over_length (merging s) l₁.past l₂.past h.pasts)
          (close_served d (l₁.placed b) (l₁.served b) (l₂.placed b) (l₂.served b) (h.counts b) (eqb (b % s.m) (length l₂.past % s.m)) _ _ refl refl);
    }

    near_both : (n : Need) → Near (given n l₁) (given n l₂)
    near_both nowhere = h
    near_both (at c) = record { pasts = h.pasts; counts = λ b. let z = h.counts b in omega arith }

    near_shallow : (n : Need) → Near (given n l₁) l₂
    near_shallow nowhere = h
    near_shallow (at c) = record { pasts = h.pasts; counts = λ b. let z = h.counts b in omega arith }

    near_deep : (n : Need) → Held (deepened s d) l₂ → full s n l₁ ≡ true → full (deepened s d) n l₂ ≡ false → Near l₁ (given n l₂)
    near_deep nowhere k e₁ e₂ = absurd (false≢true e₁)
    near_deep (at c) k e₁ e₂ = record { pasts = h.pasts; counts = λ b. go b (eqb c b) refl }
      where
        go : (b : ℕ) (t : Bool) → eqb c b ≡ t → Close d (l₁.placed b) (l₁.served b) (l₂.placed b + pick t 1 0) (l₂.served b)
        go b false q = let z = h.counts b in omega arith
        go b true q =
            let z = h.counts b in
            let u = k b in
            let f₁ : waits l₁ b ≡ s.k = rw (eqb-true c b q) at (eqb-true (waits l₁ c) s.k e₁) in
            let f₂ : waits l₂ b ≢ s.k + d = rw (eqb-true c b q) at (eqb-false (waits l₂ c) (s.k + d) e₂) in
            omega arith

    near_noted : (o o' : Operation) → Covers (merging s) o o' → Near (noted o l₁) (noted o' l₂)
    unfolding Over
    near_noted o o' c = record { pasts = (c, h.pasts); counts = h.counts }

    -- where the shallower has room, so has the deeper
    deeper_free : (n : Need) → Held s l₁ → full s n l₁ ≡ false → full (deepened s d) n l₂ ≡ false
    deeper_free nowhere k e = refl
    deeper_free (at c) k e =
        let z = h.counts c in
        let u = k c in
        let f : waits l₁ c ≢ s.k = eqb-false (waits l₁ c) s.k e in
        ne_eqb (waits l₂ c) (s.k + d) (λ q. omega arith)

    -- a need that the deeper has too, or has not
    module _ (n₁ n₂ : Need) where
      eased_free : Eases n₁ n₂ → Held s l₁ → full s n₁ l₁ ≡ false → full (deepened s d) n₂ l₂ ≡ false
      eased_free (inl e) k p = rw e (deeper_free n₁ k p)
      eased_free (inr e) k p = rw e

      eased_both : Eases n₁ n₂ → Near (given n₁ l₁) (given n₂ l₂)
      eased_both (inl e) = rw e (near_both n₁)
      eased_both (inr e) = rw e (near_shallow n₁)

      eased_deep : Eases n₁ n₂ → Held (deepened s d) l₂ → full s n₁ l₁ ≡ true → full (deepened s d) n₂ l₂ ≡ false
          → Near l₁ (given n₂ l₂)
      eased_deep (inl e) k p q = rw e (near_deep n₁ k p (rw e at q))
      eased_deep (inr e) k p q = rw e h

------------------------------------------------------------------------
-- One call

-- of a call on each: what it answers, and what it leaves while the shallower goes
pub record Stepped (s : Setup) (d : ℕ) (start : Address → ℕ) (op : Operation) (past₁ past₂ : List Operation) (e₁ e₂ : Reply × Ledger) : Type 0 where
  pub taken : e₁.0.answer ≡ done → e₂.0.answer ≡ done
  pub going : e₁.1.halted ≡ false → e₂.1.halted ≡ false
  pub left : e₁.1.halted ≡ false → Near s d e₁.1 e₂.1
  pub words : e₁.1.halted ≡ false → (a : Address) → (wrote a op ≡ true → e₁.0.answer ≢ dropped)
      → sram start past₁ a ≡ sram start past₂ a → sram start e₁.1.past a ≡ sram start e₂.1.past a

module _ (s : Setup) (d : ℕ) (start : Address → ℕ) (op : Operation) where
  -- l₁ and l₂ are the ledgers after service
  module _ (l₁ l₂ : Ledger) (h : Near s d l₁ l₂) (k₁ : Held s l₁) (k₂ : Held (deepened s d) l₂) (g₂ : l₂.halted ≡ false) where
    abbrev m₁ : Ledger
    m₁ = retired_to s l₁

    abbrev m₂ : Ledger
    m₂ = retired_to (deepened s d) l₂

    abbrev n₁ : Need
    n₁ = arrives s op m₁

    abbrev n₂ : Need
    n₂ = arrives (deepened s d) op m₂

    leaves : retires (deepened s d) l₂ ≡ retires s l₁
    leaves = same-retires s d l₂ ∙ sym (over_retires s l₁ l₂ h.pasts)

    deeper_leaves : full s (retires s l₁) l₁ ≡ false → full (deepened s d) (retires (deepened s d) l₂) l₂ ≡ false
    deeper_leaves = eased_free s d l₁ l₂ h (retires s l₁) (retires (deepened s d) l₂) (inl leaves) k₁

    retired : Near s d m₁ m₂
    retired = eased_both s d l₁ l₂ h (retires s l₁) (retires (deepened s d) l₂) (inl leaves)

    eases : Eases n₁ n₂
    eases = rw (same_arrives s d op m₂) (eases_arrives s op m₁ m₂ retired.pasts)

    going₂ : (n : Need) → (given n m₂).halted ≡ false
    going₂ n = given_halted n m₂ ∙ given_halted (retires (deepened s d) l₂) l₂ ∙ g₂

    -- the past before the call
    past₁ : (n : Need) → (given n m₁).past ≡ l₁.past
    past₁ n = given_past n m₁ ∙ given_past (retires s l₁) l₁

    past₂ : (n : Need) → (given n m₂).past ≡ l₂.past
    past₂ n = given_past n m₂ ∙ given_past (retires (deepened s d) l₂) l₂

    ended-stepped : (o₁ o₂ : Delivery) (t₁ t₂ : ℕ) (e₁ e₂ : Reply × Ledger) → Way s op o₁ t₁ l₁ e₁ → Way (deepened s d) op o₂ t₂ l₂ e₂
        → Stepped s d start op l₁.past l₂.past e₁ e₂
    ended-stepped o₁ o₂ t₁ t₂ e₁ e₂ (takes p₁ q₁) (takes p₂ q₂) = record {
      taken = λ e. refl;
      going = λ u. going₂ n₂;
      left = λ u. near_noted s d _ _ (eased_both s d m₁ m₂ retired n₁ n₂ eases) op op (inl refl);
      words = λ u a f e. rw (past₁ n₁, past₂ n₂, e);
    }
    ended-stepped o₁ o₂ t₁ t₂ e₁ e₂ (drops p₁ q₁) (takes p₂ q₂) = record {
      taken = λ e. refl;
      going = λ u. going₂ n₂;
      left = λ u.
          near_noted s d _ _ (eased_deep s d m₁ m₂ retired n₁ n₂ eases (held_given (deepened s d) (retires (deepened s d) l₂) l₂ k₂ p₂) q₁ q₂) Idle op
          (inr (refl, full_droppable s op m₁ m₁ q₁));
      words = λ u a f e. rw (past₁ nowhere, past₂ n₂) (e ∙ sym (unwritten a op (sram start l₂.past a) (λ w. f w refl)));
    }
    ended-stepped o₁ o₂ t₁ t₂ e₁ e₂ (drops p₁ q₁) (drops p₂ q₂) = record {
      taken = λ e. absurd (omega arith);
      going = λ u. going₂ nowhere;
      left = λ u. near_noted s d m₁ m₂ retired Idle Idle (inl refl);
      words = λ u a f e. rw (past₁ nowhere, past₂ nowhere, e);
    }
    ended-stepped o₁ o₂ t₁ t₂ e₁ e₂ (takes p₁ q₁) (drops p₂ q₂) =
        absurd (false≢true (sym (eased_free s d m₁ m₂ retired n₁ n₂ eases (held_given s (retires s l₁) l₁ k₁ p₁) q₁) ∙ q₂))
    ended-stepped o₁ o₂ t₁ t₂ e₁ e₂ (takes p₁ q₁) (halts p₂) = absurd (false≢true (sym (deeper_leaves p₁) ∙ p₂))
    ended-stepped o₁ o₂ t₁ t₂ e₁ e₂ (drops p₁ q₁) (halts p₂) = absurd (false≢true (sym (deeper_leaves p₁) ∙ p₂))
    ended-stepped o₁ o₂ t₁ t₂ e₁ e₂ (halts p₁) w₂ = record {
      taken = λ e. absurd (omega arith);
      going = λ u. absurd (true≢false u);
      left = λ u. absurd (true≢false u);
      words = λ u a f e. absurd (true≢false u);
    }

-- two ledgers of one list of calls; nothing is said of the deeper once the shallower has stopped
pub record Beside (s : Setup) (d : ℕ) (l₁ l₂ : Ledger) : Type 0 where
  pub held₁ : Held s l₁
  pub held₂ : Held (deepened s d) l₂
  pub going : l₁.halted ≡ false → l₂.halted ≡ false
  pub near : l₁.halted ≡ false → Near s d l₁ l₂

pub beside_fresh : (s : Setup) (d : ℕ) → Beside s d fresh_ledger fresh_ledger
unfolding Over
beside_fresh s d = record {
  held₁ = λ b. omega arith;
  held₂ = λ b. omega arith;
  going = λ u. refl;
  near = λ u. record { pasts = tt; counts = λ b. omega arith };
}

module _ (s : Setup) (d : ℕ) (start : Address → ℕ) (op : Operation) (l₁ l₂ : Ledger) (h : Beside s d l₁ l₂) where
  pub stepped : Stepped s d start op l₁.past l₂.past (entered s start op l₁) (entered (deepened s d) start op l₂)
  stepped =
      entered_by s start op l₁ (λ e₁. Stepped s d start op l₁.past l₂.past e₁ (entered (deepened s d) start op l₂))
      (λ u. record {
        taken = λ e. absurd (omega arith);
        going = λ z. absurd (true≢false (sym u ∙ z));
        left = λ z. absurd (true≢false (sym u ∙ z));
        words = λ z a f e. absurd (true≢false (sym u ∙ z));
      })
      (λ u k. rw (entered-refused (deepened s d) start op l₂ (h.going u) (same_ok s d op ∙ k)) (record {
        taken = λ e. absurd (omega arith);
        going = h.going;
        left = h.near;
        words = λ z a f e. e;
      }))
      (λ u k.
      rw (entered_passes (deepened s d) start op l₂ (h.going u) (same_ok s d op ∙ k))
      (ended-stepped s d start op (serviced s l₁) (serviced (deepened s d) l₂) (near_serviced s d l₁ l₂ (h.near u))
      (held_serviced s l₁ h.held₁) (held_serviced (deepened s d) l₂ h.held₂) (h.going u) _ _ _ _ _ _
      (way s op _ _ (serviced s l₁)) (way (deepened s d) op _ _ (serviced (deepened s d) l₂))))

  pub beside_entered : Beside s d (entered s start op l₁).1 (entered (deepened s d) start op l₂).1
  beside_entered = record {
    held₁ = held_entered s start op l₁ h.held₁;
    held₂ = held_entered (deepened s d) start op l₂ h.held₂;
    going = stepped.going;
    near = stepped.left;
  }
