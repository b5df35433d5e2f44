-- The loop's invariant: what is to find is what the rows below i have.
use Rattle.std.proofs.Common.{◌≡◌}
use Rattle.lookup.specs.Lookup.{last_wanted}
use Rattle.lookup.proofs.scan_few.Given as goal

abbrev pub invariant-loop-i : goal.invariant-loop-i
invariant-loop-i g l = last_wanted g.K.Kinds.includes l.a l.t l.from l.i ≡ last_wanted g.K.Kinds.includes l.a l.t l.from l.to
