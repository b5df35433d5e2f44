-- What is to find is what the rows below i have: a row of the block below i, what the rows below the block have, and nothing.
use Rattle.std.proofs.Common.{◌-◌, ◌∙◌, refl, arith}
use Rattle.lookup.proofs.Lookup.{upper_found, lower_rest, rest_none}
use Rattle.lookup.proofs.scan_part.Goals as goal

pub returns-in-Some : goal.returns-in-Some
returns-in-Some g c =
    upper_found _ _ _ c.args.from (c.loop-i.i - 64) c.loop-i.i c.scan_block.result (omega arith) (omega arith) c.scan_block.ensures c.in-Some.j c.in-Some.is
    ∙ c.loop-i.invariant.2

pub loop-i-preserved : goal.loop-i-preserved
loop-i-preserved g c = (
  omega arith,
  omega arith,
  lower_rest _ _ _ c.args.from (c.loop-i.i - 64) c.loop-i.i c.scan_block.result (omega arith) (omega arith) c.scan_block.ensures _ c.in_default.is refl
      ∙ c.loop-i.invariant.2,
)

pub returns-then-i-from : goal.returns-then-i-from
returns-then-i-from g c = rest_none _ _ c.args.t c.args.from c.loop-i.i c.if-i-from.true ∙ c.loop-i.invariant.2
