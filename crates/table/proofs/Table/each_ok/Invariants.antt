-- The loop's invariant: the rows below i are in range.
use Rattle.std.proofs.Common.{◌≡◌, true}
use Rattle.model.specs.Range.{rows_ok}
use Rattle.table.proofs.Table.each_ok.Given as goal

abbrev pub invariant-loop-i : goal.invariant-loop-i
invariant-loop-i l = rows_ok l.n l.self.c l.self.rows.now l.i ≡ true
