-- The bench sheet, computed. Assumes nothing.
use mathlib.Core.Path.{refl}
use Rattle.map.specs.Map.{bank_of, cell_of}
use Rattle.model.specs.Cycle.{filled_below, carried, served_bank, served_below, scan, placed, retired, arrived, after_service, passed}
use Rattle.model.specs.Range.{rows_ok, entries_ok, buffers_ok}
use Rattle.model.specs.Calls.{exact_in, standing_in, offered_of, fresh_in, step_in, cycle_in, tell_of, waiting_in}
use Rattle.model.specs.Runs.{replies, after_all}
use Rattle.sheet.specs.Sheet.{Sheet}

pub bench_sheet : Sheet
unfolding cell_of bank_of filled_below carried served_bank served_below scan placed retired arrived after_service passed rows_ok entries_ok buffers_ok exact_in standing_in offered_of fresh_in step_in cycle_in tell_of waiting_in replies after_all
bench_sheet = refl
