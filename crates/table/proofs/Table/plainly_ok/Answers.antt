-- A yes comes after a yes of each column.
use Rattle.std.proofs.Common.{sym, ◌∙◌}
use Rattle.table.proofs.Columns.{in_range_lem}
use Rattle.table.proofs.Table.plainly_ok.Goals as goal
use Rattle.table.proofs.Table.plainly_ok.Goals.{then-all_below, else-all_below}

pub returns-then-all_below-2 : goal.returns-then-all_below-2
returns-then-all_below-2 c = λ t.
    let y = c.if-all_below-2.true in
    elim c.if-all_below.branch [
      | then-all_below w ↦
          in_range_lem _ _ _ _ _ _ _ _ _ c.args.self.long c.kinds.ensures c.all_below.ensures w.if-all_below.true
          w.addresses.ensures w.all_below-then-all_below.ensures (sym w.value-is ∙ y) c.links.ensures c.all_below-then-all_below-2.ensures t
      | else-all_below w ↦ cc
    ]
