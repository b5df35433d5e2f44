-- `entries::part_ok` meets its contract. The loop's invariant: as many of the oldest entries as were counted are in range, and the next is at `at`. Assumes nothing.
use Prim.Native.Nat.{◌<◌}
use mathlib.Core.Path.{◌≡◌}
use mathlib.Core.Bool.{true}
use Rattle.rings.specs.Places.{onward}
use Rattle.entries.specs.Entries.{part_ok}
use Rattle.entries.proofs.part_ok.Given as goal

abbrev pub invariant-loop : goal.invariant-loop
invariant-loop l =
    (l.at < l.k) × (l.at ≡ onward l.k l.fn.head.oldest l.counter) × (part_ok l.n l.c l.k l.fn.head.oldest l.part l.counter ≡ true)
