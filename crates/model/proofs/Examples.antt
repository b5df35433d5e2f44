-- The small runs, computed. Assumes nothing.
use mathlib.Core.Path.{refl}
use Rattle.map.specs.Map.{bank_of, cell_of}
use Rattle.model.specs.Cycle.{filled_below, carried, served_bank, served_below, scan, placed, retired, arrived, after_service, passed}
use Rattle.model.specs.Range.{rows_ok, entries_ok, buffers_ok}
use Rattle.model.specs.Calls.{exact_in, standing_in, offered_of, fresh_in, step_in, cycle_in, tell_of, waiting_in}
use Rattle.model.specs.Runs.{replies, after_all}
use Rattle.model.specs.Promises.{history_from}
use Rattle.model.specs.Examples.{MemoryLags, WordBeforeMemory, DroppedWriteTells, DroppedReadTells, RoomsHold, RefusedByNumber, ServedInTurn, PlacesNeeded}

pub memory_lags : MemoryLags
unfolding cell_of bank_of filled_below carried served_bank served_below scan placed retired arrived after_service passed rows_ok entries_ok buffers_ok exact_in standing_in offered_of fresh_in step_in cycle_in after_all history_from
memory_lags = (refl, refl)

pub word_before_memory : WordBeforeMemory
unfolding cell_of bank_of filled_below carried served_bank served_below scan placed retired arrived after_service passed rows_ok entries_ok buffers_ok exact_in standing_in offered_of fresh_in step_in cycle_in replies after_all history_from
word_before_memory = (refl, refl, refl)

pub dropped-write_tells : DroppedWriteTells
unfolding cell_of bank_of filled_below carried served_bank served_below scan placed retired arrived after_service passed rows_ok entries_ok buffers_ok exact_in standing_in offered_of fresh_in step_in cycle_in replies
dropped-write_tells = (refl, refl)

pub dropped-read_tells : DroppedReadTells
unfolding cell_of bank_of filled_below carried served_bank served_below scan placed retired arrived after_service passed rows_ok entries_ok buffers_ok exact_in standing_in offered_of fresh_in step_in cycle_in replies
dropped-read_tells = (refl, refl)

pub rooms_hold : RoomsHold
unfolding cell_of bank_of filled_below carried served_bank served_below scan placed retired arrived after_service passed rows_ok entries_ok buffers_ok exact_in standing_in offered_of fresh_in step_in cycle_in after_all
rooms_hold = (refl, refl, refl, refl, refl, refl)

pub refused_by_number : RefusedByNumber
unfolding cell_of bank_of filled_below carried served_bank served_below scan placed retired arrived after_service passed rows_ok entries_ok buffers_ok exact_in standing_in offered_of fresh_in step_in cycle_in tell_of waiting_in
refused_by_number = (refl, refl, refl, refl)

pub served_in_turn : ServedInTurn
unfolding cell_of bank_of filled_below carried served_bank served_below scan placed retired arrived after_service passed rows_ok entries_ok buffers_ok exact_in standing_in offered_of fresh_in step_in cycle_in tell_of waiting_in after_all
served_in_turn = (refl, refl, refl, refl)

pub places_needed : PlacesNeeded
unfolding cell_of bank_of filled_below carried served_bank served_below scan placed retired arrived after_service passed rows_ok entries_ok buffers_ok exact_in standing_in offered_of fresh_in step_in cycle_in replies
places_needed = (refl, refl, refl, refl, refl, refl)
