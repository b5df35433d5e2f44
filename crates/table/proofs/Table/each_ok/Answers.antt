-- The rows below i are in range: one more, one that is not, and all of them.
use Rattle.std.proofs.Common.{refl}
use Rattle.model.specs.Range.{rows_ok}
use Rattle.table.proofs.Columns.{rows_more, rows_out, rows_every}
use Rattle.table.proofs.Table.each_ok.Goals as goal

pub loop-i-init : goal.loop-i-init
unfolding rows_ok
loop-i-init c = refl

pub loop-i-preserved : goal.loop-i-preserved
loop-i-preserved c = search rows_more

pub returns-then-not-row_ok : goal.returns-then-not-row_ok
returns-then-not-row_ok c = search rows_out

pub returns : goal.returns
returns c = search rows_every
