-- `refusals::standing` meets its contract: a setup that it hands out has passed the three tests. Assumes nothing.
use Rattle.model.proofs.Range.{ready_shown}
use Rattle.refusals.proofs.standing.Goals as goal

pub returns-then-numbers_ok-clause-shown : goal.returns-then-numbers_ok-clause-shown
returns-then-numbers_ok-clause-shown c = ready_shown _ _ _ c.args.t c.in_ok-s.ensures.shown c.numbers_ok.ensures (search)
