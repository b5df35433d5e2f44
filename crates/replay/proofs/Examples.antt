-- The runs of specs/Examples.antt, computed. Assumes nothing.
use mathlib.Core.Path.{refl}
use Rattle.map.specs.Map.{bank_of, cell_of}
use Rattle.model.specs.Cycle.{filled_below, carried, served_bank, served_below, scan, placed, retired, arrived, after_service, passed}
use Rattle.model.specs.Range.{rows_ok, entries_ok, buffers_ok}
use Rattle.model.specs.Calls.{exact_in, standing_in, offered_of, step_in, cycle_in}
use Rattle.octets.specs.Bytes.{number_at, bytes_of}
use Rattle.records.specs.Records.{operation_from, operation_of, operation_bytes}
use Rattle.setuprecord.specs.SetupRecord.{setup_fields, allowed, setup_of, setup_bytes}
use Rattle.decimal.specs.Decimal.{digits_in, decimal}
use Rattle.listing.specs.Listing.{delivery_text, field, line_of}
use Rattle.replay.specs.Replies.{bytes_for}
use Rattle.replay.specs.Replay.{opening_for, setup_line, with_record, listed_below, printed_in}
use Rattle.replay.specs.Examples.{RunsAsShown}

pub runs_as_shown : RunsAsShown
unfolding cell_of bank_of filled_below carried served_bank served_below scan placed retired arrived after_service passed rows_ok entries_ok buffers_ok exact_in standing_in offered_of step_in cycle_in number_at bytes_of operation_from operation_of operation_bytes setup_fields allowed setup_of setup_bytes digits_in decimal delivery_text field line_of opening_for setup_line with_record listed_below printed_in bytes_for
runs_as_shown = refl
