-- The room holds the text of the records below i.
use Rattle.std.proofs.Common.{◌≡◌, ◌+◌, ◌*◌, ◌≤◌}
use Rattle.model.specs.Lent.{lent}
use Rattle.listing.specs.Listing.{line_most}
use Rattle.replay.specs.Replay.{listed_below, listed_from, put_at}
use Rattle.replay.proofs.part.Given as goal

abbrev pub invariant-loop-i : goal.invariant-loop-i
invariant-loop-i l = record {
  end : l.r.end ≤ line_most * l.i;
  number : l.r.number ≡ l.initial.r.number + l.i;
  text : (l.r, (lent l.memory l.rows l.entries l.heads, l.out))
      ≡ put_at l.initial.out 0 (listed_below l.s l.input l.i
      (listed_from l.initial.r (lent l.initial.memory l.initial.rows l.initial.entries l.initial.heads)));
}
