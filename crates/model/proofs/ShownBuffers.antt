-- Buffers as they are shown: how many wait, the oldest entry taken, and an entry placed behind the last. Assumes nothing.
use Prim.Native.Nat.{ℕ, zero, suc, ◌+◌, ◌-◌, ◌<◌}
use native.Mathlib.Numerals.{add-one}
use native.Mathlib.Omega.{arith}
use mathlib.Core.Path.{◌≡◌, refl, sym, ap, subst, ◌∙◌}
use mathlib.Core.Logic.{⊎_elim}
use mathlib.Core.Bool.{Bool, true, false, cond}
use mathlib.Core.List.{List, [], ◌∷◌, ◌++◌, append-nil}
use lib.ListN.{length, get_or-eq_default}
use Rattle.setup.specs.Setup.{banks_of}
use Rattle.setup.specs.declared.Setup.{Setup}
use Rattle.model.specs.declared.Entry.{Entry}
use Rattle.model.specs.Lent.{Buffers, count_of}
use Rattle.model.specs.Range.{waiting_entry, GoodBuffers}
use Rattle.model.specs.Cycle.{oldest_entry, placed_at}
use Rattle.choice.proofs.Tests.{below_or_not}
use Rattle.model.proofs.Buffers.{oldest_below, count_most, waiting_first, with_popped, count-popped, count-popped_other, waiting_popped, waiting_popped_other, count-placed, count-placed_other, waiting_placed_below, waiting_placed_last, waiting_placed_other}
use Rattle.model.proofs.Lists.{below, length-below, below-same, below_last}
use Rattle.model.proofs.Shown.{shown_entry, shown_buf}
use Rattle.theory.proofs.Test.{same, lt, Says, is, isnt, same?, lt_true, lt_false}
use Rattle.theory.proofs.Machine.{pop, ext}
use Rattle.theory.proofs.Machine as machine

------------------------------------------------------------------------
-- How many wait

pub length-shown : (s : Setup) (q : Buffers) (b : ℕ) → length (shown_buf s q b) ≡ count_of q.heads b
length-shown s q b = length-below (count_of q.heads b) (λ i. shown_entry (waiting_entry s q b i))

module _ (s : Setup) (q : Buffers) (b : ℕ) where
  pub none_shown : count_of q.heads b ≡ 0 → shown_buf s q b ≡ []
  none_shown h = ap (λ (n : ℕ). below n (λ i. shown_entry (waiting_entry s q b i))) h

  -- there is room unless K wait
  pub room-shown : count_of q.heads b < s.k → lt (length (shown_buf s q b)) s.k ≡ true
  room-shown h = ap (λ (n : ℕ). lt n s.k) (length-shown s q b) ∙ lt_true h

  pub full-shown : count_of q.heads b ≡ s.k → lt (length (shown_buf s q b)) s.k ≡ false
  full-shown h = ap (λ (n : ℕ). lt n s.k) (length-shown s q b) ∙ lt_false (omega arith)

  -- nothing waits at a bank that is none of the B
  pub waits-within : GoodBuffers s q → {i : ℕ} → i < count_of q.heads b → b < banks_of s
  waits-within g {i} l =
      ⊎_elim
      (λ h. h)
      (λ h. let z : count_of q.heads b ≡ 0 = get_or-eq_default q.heads 0 (omega (arith, g.room.heads_long)) in absurd (omega arith))
      (below_or_not b (banks_of s))

-- as many wait in q' as in q, and the same
waiting_same : (s : Setup) (q q' : Buffers) (b : ℕ) → count_of q'.heads b ≡ count_of q.heads b
    → ((i : ℕ) → i < count_of q.heads b → waiting_entry s q' b i ≡ waiting_entry s q b i)
    → shown_buf s q b ≡ shown_buf s q' b
waiting_same s q q' b e w =
    below-same (count_of q.heads b) (λ i. shown_entry (waiting_entry s q b i)) (λ i. shown_entry (waiting_entry s q' b i))
    (λ i l. ap shown_entry (sym (w i l)))
    ∙ ap (λ (n : ℕ). below n (λ i. shown_entry (waiting_entry s q' b i))) (sym e)

------------------------------------------------------------------------
-- The oldest entry of bank b is taken

pop-below : (n : ℕ) (f : ℕ → machine.Entry ℕ) → pop true (below n f) ≡ below (n - 1) (λ i. f (i + 1))
pop-below zero f = refl
pop-below (suc n) f =
    let e : n ≡ suc n - 1 = omega arith in
    below-same n (λ i. f (suc i)) (λ i. f (i + 1)) (λ i l. ap f (sym (add-one i)))
    ∙ ap (λ (m : ℕ). below m (λ i. f (i + 1))) e

module _ (s : Setup) (q : Buffers) (g : GoodBuffers s q) (b : ℕ) (h : b < banks_of s) where
  -- the oldest is the first shown
  pub shown_first : (count_of q.heads b ≡ 0 → ⊥) → (l : List (machine.Entry ℕ)) × (shown_buf s q b ≡ shown_entry (oldest_entry s b q) ∷ l)
  shown_first n = go (count_of q.heads b) (λ i. shown_entry (waiting_entry s q b i)) n (ap shown_entry (waiting_first s q b (oldest_below s q g b h)))
    where
      go : (k : ℕ) (f : ℕ → machine.Entry ℕ) {e : machine.Entry ℕ} → (k ≡ 0 → ⊥) → f 0 ≡ e → (l : List (machine.Entry ℕ)) × (below k f ≡ e ∷ l)
      go zero f m p = absurd (m refl)
      go (suc k) f m p = (below k (λ i. f (suc i)), ap (λ (x : machine.Entry ℕ). x ∷ below k (λ i. f (suc i))) p)

  popped-same : pop true (shown_buf s q b) ≡ shown_buf s (with_popped s b q) b
  popped-same =
      pop-below (count_of q.heads b) (λ i. shown_entry (waiting_entry s q b i))
      ∙ below-same (count_of q.heads b - 1) (λ i. shown_entry (waiting_entry s q b (i + 1))) (λ i. shown_entry (waiting_entry s (with_popped s b q) b i))
      (λ i l. ap shown_entry (sym (waiting_popped s q b g h i (omega (arith, count_most s q g b h)))))
      ∙ ap (λ (n : ℕ). below n (λ i. shown_entry (waiting_entry s (with_popped s b q) b i))) (sym (count-popped s q b g h))

  pub popped-shown : (j : ℕ) → pop (same b j) (shown_buf s q j) ≡ shown_buf s (with_popped s b q) j
  popped-shown j = go (same b j) (same? b j)
    where
      go : (t : Bool) → Says (b ≡ j) t → pop t (shown_buf s q j) ≡ shown_buf s (with_popped s b q) j
      go t (is e) = subst (λ (k : ℕ). pop true (shown_buf s q k) ≡ shown_buf s (with_popped s b q) k) e popped-same
      go t (isnt n) =
          waiting_same s q (with_popped s b q) j (count-popped_other s q b j (λ e. n (sym e)))
          (λ i l. waiting_popped_other s q b j i (λ e. n (sym e)))

------------------------------------------------------------------------
-- An entry is placed behind the last of bank b's buffer

module _ (s : Setup) (q : Buffers) (g : GoodBuffers s q) (b : ℕ) (h : b < banks_of s) (room : count_of q.heads b < s.k) (e : Entry) where
  placed_same : shown_buf s q b ++ shown_entry e ∷ [] ≡ shown_buf s (placed_at s b e q) b
  placed_same =
      let f : ℕ → machine.Entry ℕ = λ i. shown_entry (waiting_entry s (placed_at s b e q) b i) in
      ap (λ (l : List (machine.Entry ℕ)). l ++ shown_entry e ∷ [])
      (below-same (count_of q.heads b) (λ i. shown_entry (waiting_entry s q b i)) f
      (λ i l. ap shown_entry (sym (waiting_placed_below s q b e g h room i l))))
      ∙ ap (λ (x : machine.Entry ℕ). below (count_of q.heads b) f ++ x ∷ []) (ap shown_entry (sym (waiting_placed_last s q b e g h)))
      ∙ sym (below_last (count_of q.heads b) f)
      ∙ ap (λ (n : ℕ). below n f) (sym (add-one _) ∙ sym (count-placed s q b e g h))

  pub placed-shown : (j : ℕ) → shown_buf s q j ++ ext b (shown_entry e) j ≡ shown_buf s (placed_at s b e q) j
  placed-shown j = go (same b j) (same? b j)
    where
      go : (t : Bool) → Says (b ≡ j) t → shown_buf s q j ++ cond t (shown_entry e ∷ []) [] ≡ shown_buf s (placed_at s b e q) j
      go t (is p) = subst (λ (k : ℕ). shown_buf s q k ++ shown_entry e ∷ [] ≡ shown_buf s (placed_at s b e q) k) p placed_same
      go t (isnt n) =
          append-nil _
          ∙ waiting_same s q (placed_at s b e q) j (count-placed_other s q b e j (λ p. n (sym p)))
          (λ i l. waiting_placed_other s q b e g h j i (λ p. n (sym p)) (waits-within s q j g l) l)
