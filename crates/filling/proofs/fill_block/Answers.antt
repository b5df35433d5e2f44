-- Where the block does not name row p, and that has its word, nothing lacks it.
use Rattle.std.proofs.Common.{◌≡◌}
use Rattle.model.specs.Lent.{links}
use Rattle.table.specs.Table.{column}
use Rattle.filling.proofs.Filled.{block_calm}
use Rattle.filling.proofs.fill_block.Goals as goal

pub returns-then-times-eq0 : goal.returns-then-times-eq0
returns-then-times-eq0 c =
    let e : c.links.result.now ≡ column (links c.args.c) c.args.c c.args.rows.now = cc in
    search block_calm
