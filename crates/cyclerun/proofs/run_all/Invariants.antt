-- A run that goes on: where it stands, and that one part more can be counted.
use Rattle.std.proofs.Common.{◌-◌, ◌*◌, ◌≡◌, ◌≤◌, ◌<◌, length}
use Rattle.model.specs.Lent.{lent}
use Rattle.cyclerun.specs.Parts.{part_most, parts_most, Reached}
use Rattle.cyclerun.proofs.run_all.Given as goal

abbrev pub invariant-loop-s : goal.invariant-loop-s
invariant-loop-s g l = record {
  reached : Reached l.s l.parts l.r (lent l.memory l.rows l.entries l.heads);
  more : l.parts < parts_most;
  number : l.r.number ≤ part_most * l.parts;
  memory : length l.memory ≡ length l.initial.memory;
  rows : length l.rows ≡ length l.initial.rows;
  entries : length l.entries ≡ length l.initial.entries;
  heads : length l.heads ≡ length l.initial.heads;
  input : length l.input ≡ length l.initial.input;
  out : length l.out ≡ length l.initial.out;
}

abbrev pub decreases-loop-s : goal.decreases-loop-s
decreases-loop-s g l = parts_most - l.parts
