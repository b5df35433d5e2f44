-- The loop's invariant: the rows from `from` up to i are done.
use Rattle.std.proofs.Common.{◌≡◌, ◌-◌}
use Rattle.filling.specs.Filling.{filled_from}
use Rattle.filling.proofs.fill_few.Given as goal

abbrev pub invariant-loop-i : goal.invariant-loop-i
invariant-loop-i l = l.rows ≡ filled_from l.c l.p l.w l.from (l.i - l.from) l.initial.rows
