-- What is below the position comes first, then what is above it.
use Rattle.std.proofs.Common.{rules}
use Rattle.std.proofs.lemmas.Option.{MatchOption-at_some, MatchOption-at_none}
use Rattle.lookup.proofs.Lookup.{scan_round}
use Rattle.lookup.proofs.scan.Goals as goal

pub returns-then-t-lt-BLOCK : goal.returns-then-t-lt-BLOCK
returns-then-t-lt-BLOCK g c =
    scan_round _ _ _ _ c.scan_few.result c.or_else.result c.requires c.scan_few.ensures (λ e. let k = MatchOption-at_none _ _ e c.or_else.ensures in search rules) (λ j e. MatchOption-at_some _ _ j e c.or_else.ensures)

pub returns : goal.returns
returns g c =
    scan_round _ _ _ _ c.scan_below.result c.or_else-2.result c.requires c.scan_below.ensures (λ e. let k = MatchOption-at_none _ _ e c.or_else-2.ensures in search rules) (λ j e. MatchOption-at_some _ _ j e c.or_else-2.ensures)
