-- `buffers::place_at` meets its contract: what is put in the bank's part is put in the whole room. Assumes nothing.
use Rattle.buffers.proofs.Banks.{placed_left}
use Rattle.buffers.proofs.place_at.Goals as goal

pub returns : goal.returns
returns c = search (placed_left)
