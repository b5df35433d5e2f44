-- One buffer, seen from one address: what its entries do to the word, what its reads will see, by when they are served. Assumes nothing.
use mathlib.Core.Path.{◌≡◌, refl}
use mathlib.Core.Bool.{Bool, true, false, cond}
use mathlib.Core.Logic.{◌⊎◌, inl, inr}
use mathlib.Core.List.{List, [], ◌∷◌, ◌++◌}
use Prim.Native.Nat.{ℕ, suc, ◌+◌, ◌*◌, ◌≤◌, ◌<◌}
use native.Mathlib.Nat.{suc-mul, zero-mul, add-zero}
use native.Mathlib.Omega.{arith}
use lib.ListN.{length}
use Rattle.theory.proofs.Operations.{Op, read, upd}
use Rattle.theory.proofs.Machine.{Entry, rd, wr, as_op, pop, stored}

module _ {W : Type 0} where
  -- the word at a once the entries are served, from the word v
  abbrev pub play : ℕ → W → List (Entry W) → W
  play a v [] = v
  play a v (e ∷ q) = play a (upd a (as_op e) v) q

  pub play-append : (a : ℕ) (v : W) (q q' : List (Entry W)) → play a v (q ++ q') ≡ play a (play a v q) q'
  play-append a v [] q' = refl
  play-append a v (e ∷ q) q' = play-append a (upd a (as_op e) v) q q'

  pub play-serve : (a : ℕ) (v : W) (x : Bool) (q : List (Entry W)) → play a (stored x q a v) (pop x q) ≡ play a v q
  play-serve a v false q = refl
  play-serve a v true [] = refl
  play-serve a v true (e ∷ q) = refl

  module _ (did : ℕ → Op W) (I : ℕ → ℕ → W) where
    -- an entry that finds the word v at a: a read is its cycle's operation, and finds the ideal's word of that cycle
    abbrev pub Sees : ℕ → W → Entry W → Type 0
    Sees a v (rd b r) = (did r ≡ read b) × (b ≡ a → v ≡ I r a)
    Sees a v (wr b w) = Unit {0}

    abbrev pub Reads : ℕ → W → List (Entry W) → Type 0
    Reads a v [] = Unit {0}
    Reads a v (e ∷ q) = Sees a v e × Reads a (upd a (as_op e) v) q

    pub reads_append : (a : ℕ) (v : W) (q q' : List (Entry W)) → Reads a v q → Reads a (play a v q) q' → Reads a v (q ++ q')
    reads_append a v [] q' h k = k
    reads_append a v (e ∷ q) q' h k = (h.0, reads_append a (upd a (as_op e) v) q q' h.1 k)

    pub reads_serve : (a : ℕ) (v : W) (x : Bool) (q : List (Entry W)) → Reads a v q → Reads a (stored x q a v) (pop x q)
    reads_serve a v false q h = h
    reads_serve a v true [] h = h
    reads_serve a v true (e ∷ q) h = h.1

  -- the read of a for the row of n stands in the buffer
  abbrev pub Stands : ℕ → ℕ → List (Entry W) → Type 0
  Stands a n [] = ⊥
  Stands a n (e ∷ q) = (e ≡ rd a n) ⊎ Stands a n q

  pub stands_append : (a n : ℕ) (q q' : List (Entry W)) → Stands a n q → Stands a n (q ++ q')
  stands_append a n [] q' p = absurd p
  stands_append a n (e ∷ q) q' (inl p) = inl p
  stands_append a n (e ∷ q) q' (inr p) = inr (stands_append a n q q' p)

  pub stands_last : (a n : ℕ) (q : List (Entry W)) → Stands a n (q ++ rd a n ∷ [])
  stands_last a n [] = inl refl
  stands_last a n (e ∷ q) = inr (stands_last a n q)

  -- one more entry that is not the read of a for the row of n
  pub stands_other : (a n : ℕ) (x : Bool) (e : Entry W) (q : List (Entry W)) → ¬ (e ≡ rd a n) → Stands a n (q ++ cond x (e ∷ []) []) → Stands a n q
  stands_other a n true e [] f (inl p) = absurd (f p)
  stands_other a n true e [] f (inr p) = p
  stands_other a n false e [] f p = p
  stands_other a n x e (k ∷ q) f (inl p) = inl p
  stands_other a n x e (k ∷ q) f (inr p) = inr (stands_other a n x e q f p)

  -- the buffer of the bank b, whose oldest entry is served in cycle h and the next each m later: its entries are b's own, and a read is
  -- of a cycle before c and is served within the delay. Addr: what addresses are allowed
  module _ (bank : ℕ → ℕ) (m delay : ℕ) (Addr : ℕ → Type 0) where
    abbrev pub InTime : ℕ → ℕ → ℕ → Entry W → Type 0
    InTime b c h (rd a n) = (bank a ≡ b) × (n < c) × (h ≤ n + delay) × Addr a
    InTime b c h (wr a w) = (bank a ≡ b) × Addr a

    abbrev pub Timely : ℕ → ℕ → ℕ → List (Entry W) → Type 0
    Timely b c h [] = Unit {0}
    Timely b c h (e ∷ q) = InTime b c h e × Timely b c (h + m) q

    -- index i is served i turns after the oldest
    pub timely_last : (b c h : ℕ) (q : List (Entry W)) (e : Entry W) → Timely b c h q → InTime b c (h + length q * m) e → Timely b c h (q ++ e ∷ [])
    timely_last b c h [] e k l = (rw (zero-mul m, add-zero) at l, tt)
    timely_last b c h (f ∷ q) e k l =
        let x : h + m + length q * m ≡ h + suc (length q) * m = omega (arith, suc-mul (length q) m) in
        (k.0, timely_last b c (h + m) q e k.1 (rw x l))

    pub timely_later : (b c h : ℕ) (q : List (Entry W)) → Timely b c h q → Timely b (suc c) h q
    timely_later b c h [] k = tt
    timely_later b c h (rd a n ∷ q) k = ((k.0.0, omega arith, k.0.2, k.0.3), timely_later b c (h + m) q k.1)
    timely_later b c h (wr a w ∷ q) k = (k.0, timely_later b c (h + m) q k.1)

    pub timely_serve : (b c h : ℕ) (x : Bool) (q : List (Entry W)) → Timely b c h q → Timely b c (cond x (h + m) h) (pop x q)
    timely_serve b c h false q k = k
    timely_serve b c h true [] k = tt
    timely_serve b c h true (e ∷ q) k = k.1

    -- one that stands is served by its time
    pub stands_time : (a n b c h : ℕ) (q : List (Entry W)) → Stands a n q → Timely b c h q → (n < c) × (h ≤ n + delay)
    stands_time a n b c h [] p k = absurd p
    stands_time a n b c h (e ∷ q) (inl p) k = let l : InTime b c h (rd a n) = rw p at k.0 in (l.1, l.2)
    stands_time a n b c h (e ∷ q) (inr p) k = let l = stands_time a n b c (h + m) q p k.1 in (l.0, omega arith)
