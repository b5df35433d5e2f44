-- What an opened setup asks for is within the program's room. Assumes nothing.
use Rattle.std.proofs.Common.{rules}
use Rattle.std.proofs.lemmas.List.{length-take-le}
use Rattle.replay.proofs.Opens.{words-within, heads_within, room_cut}
use Rattle.cyclerun.proofs.cut.Goals as goal

pub slice_bounds-run_all-end : goal.slice_bounds-run_all-end
slice_bounds-run_all-end g c = search (words-within)

pub slice_bounds-run_all-end-2 : goal.slice_bounds-run_all-end-2
slice_bounds-run_all-end-2 g c = search (length-take-le, words-within)

pub slice_bounds-run_all-end-7 : goal.slice_bounds-run_all-end-7
slice_bounds-run_all-end-7 g c = search (heads_within)

pub slice_bounds-run_all-end-8 : goal.slice_bounds-run_all-end-8
slice_bounds-run_all-end-8 g c = search (length-take-le, heads_within)

pub run_all-requires : goal.run_all-requires
run_all-requires g c = (search rules, search (room_cut), search rules, search rules)
