-- A quick yes is one, and else each row decides.
use Rattle.std.proofs.Common.{◌∙◌}
use Rattle.table.proofs.Columns.{range_ok}
use Rattle.table.proofs.Table.rows_ok.Goals as goal

pub returns-then-plainly_ok : goal.returns-then-plainly_ok
returns-then-plainly_ok c = let y = c.if-plainly_ok.true in y ∙ range_ok _ _ _ (c.plainly_ok.ensures y)
