-- `filling::fill_others` meets its contract. The loop's invariant: the rows below i are done. Assumes nothing.
use borrow.Author.Rules.{rules}
use native.Mathlib.Omega.{arith}
use Rattle.model.specs.Cycle.{filled_below}
use Rattle.filling.proofs.Filled.{filled_more, filled_all, has_kept}
use Rattle.filling.proofs.fill_others.Goals as goal

pub loop-i-init : goal.loop-i-init
unfolding filled_below
loop-i-init c = search rules

pub fill_block-requires : goal.fill_block-requires
fill_block-requires c = (search rules, search rules, search rules, search rules, search rules, search rules, search has_kept)

pub loop-i-preserved : goal.loop-i-preserved
loop-i-preserved c = (omega arith, omega arith, search filled_more)

pub returns : goal.returns
returns c = search filled_all
