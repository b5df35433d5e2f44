-- `arrival::land` meets its contract: whether the retiring write found its place is the case of the definition. Assumes nothing.
use Rattle.std.specs.Prelude.{Option, Some, None}
use Prim.Native.Nat.{ℕ, ◌+◌, ◌*◌, ◌<◌}
use native.Mathlib.Omega.{arith}
use mathlib.Core.Path.{◌≡◌, sym, subst}
use mathlib.Core.Logic.{⊎_elim}
use mathlib.Core.Bool.{Bool, true, false}
use mathlib.Core.List.{List}
use lib.ListN.{length}
use Rattle.answers.specs.Answers.{done, dropped, stopping}
use Rattle.choice.specs.Choice.{pick}
use Rattle.setup.specs.declared.Setup.{Setup}
use Rattle.setup.specs.Setup.{map_of, banks_of}
use Rattle.map.specs.Map.{bank_of}
use Rattle.map.proofs.Split.{bank_below}
use Rattle.port.specs.declared.Operation.{Operation}
use Rattle.port.specs.declared.Delivery.{Delivery}
use Rattle.model.specs.declared.State.{State}
use Rattle.model.specs.declared.Entry.{Entry}
use Rattle.model.specs.declared.Cycled.{Cycled}
use Rattle.model.specs.Lent.{Buffers, head_numbers, oldest_of, count_of}
use Rattle.model.specs.Cycle.{placed_at, placed_if, planned, arrived, next_state, stopped_state, cycled, going}
use Rattle.choice.proofs.Tests.{same_or_not}
use Rattle.model.proofs.Lent.{length-put_entry, length-put_head, oldest_put_same, oldest_put_other, count_put_same, count_put_other}
use Rattle.model.proofs.Buffers.{next_place, placed-full, placed-room}
use Rattle.heads.specs.Heads.{GoodHead}
use Rattle.buffers.specs.Bank.{Buffer}
use Rattle.arrival.specs.Banks.{EachBuffer}
use borrow.Author.Rules.{rules}
use Rattle.arrival.proofs.land.Goals as goal

------------------------------------------------------------------------

-- Placing leaves each bank's buffer as it is asked for
module _ (s : Setup) (q : Buffers) (each : EachBuffer s q) where
  module _ (e : Entry) (n : count_of q.heads (bank_of (map_of s) e.cell) ≡ s.k → ⊥) (j : ℕ) (h : j < banks_of s) where
    abbrev b : ℕ
    b = bank_of (map_of s) e.cell

    abbrev heads : List ℕ
    heads = (placed_at s b e q).heads

    long : length heads ≡ length q.heads
    long = length-put_head q.heads b (oldest_of q.heads b) (count_of q.heads b + 1)

    same-bank : j ≡ b → GoodHead s j heads
    same-bank p =
        let x : GoodHead s b q.heads = (each.of b (bank_below (map_of s) e.cell)).head in
        let w : head_numbers * b + 1 < length q.heads = omega (arith, x.head_there) in
        subst (λ (i : ℕ). GoodHead s i heads) (sym p)
        (record {
          sizes = x.sizes;
          head_there = omega (arith, x.head_there, long);
          oldest_below = omega (arith, x.oldest_below, oldest_put_same q.heads b (oldest_of q.heads b) (count_of q.heads b + 1) w);
          count_most = omega (arith, x.count_most, n, count_put_same q.heads b (oldest_of q.heads b) (count_of q.heads b + 1) w);
        })

    other-bank : (j ≡ b → ⊥) → GoodHead s j heads
    other-bank p =
        let x : GoodHead s j q.heads = (each.of j h).head in
        record {
          sizes = x.sizes;
          head_there = omega (arith, x.head_there, long);
          oldest_below = omega (arith, x.oldest_below, oldest_put_other q.heads b (oldest_of q.heads b) (count_of q.heads b + 1) j p);
          count_most = omega (arith, x.count_most, count_put_other q.heads b (oldest_of q.heads b) (count_of q.heads b + 1) j p);
        }

    buffer_placed : Buffer s j (placed_at s b e q)
    buffer_placed =
        record {
          head = ⊎_elim same-bank other-bank (same_or_not j b);
          part_within = omega (arith, (each.of j h).part_within, length-put_entry q.entries (next_place s b q) e);
        }

  each_placed : (p : Option Entry) → EachBuffer s (placed_if s p q).1
  each_placed None = each
  each_placed (Some e) =
      ⊎_elim
      (λ f. subst (λ (w : Bool × Buffers). EachBuffer s w.1) (sym (placed-full s e q f)) each)
      (λ n. subst (λ (w : Bool × Buffers). EachBuffer s w.1) (sym (placed-room s e q n)) (record { of = buffer_placed e n }))
      (same_or_not (count_of q.heads (bank_of (map_of s) e.cell)) s.k)

------------------------------------------------------------------------

-- What each return knows
module _ (s : Setup) (q q' : Buffers) (g : Option Entry) (ok : Bool) (eg : (ok, q') ≡ placed_if s g q) where
  each_after : EachBuffer s q → EachBuffer s q'
  each_after each = subst (λ (w : Bool × Buffers). EachBuffer s w.1) (sym eg) (each_placed s q each g)

  module _ (t : State) (op : Operation) (d : Delivery) (rows : List ℕ) (r : Cycled) where
    cycle-passes : (taken : Bool) (w : List ℕ × Buffers) → ok ≡ true → (taken, w) ≡ arrived s t.position (planned s t.position op rows) rows q'
        → r ≡ cycled t (pick taken done dropped) d (next_state s t) → (r, w) ≡ going s t (planned s t.position op rows) d rows (placed_if s g q)
    cycle-passes taken w h z e = rw (← eg, h, ← z, e)

    cycle-stops : ok ≡ false → r ≡ cycled t stopping d (stopped_state t) → (r, (rows, q')) ≡ going s t (planned s t.position op rows) d rows (placed_if s g q)
    cycle-stops h e = rw (← eg, h, e)

pub take-taken-requires : goal.take-taken-requires
take-taken-requires c = (search rules, search rules, search (each_after), search rules)
