-- The lines of specs/Examples.antt, computed. Assumes nothing.
use mathlib.Core.Path.{refl}
use Rattle.decimal.specs.Decimal.{digits_in, decimal}
use Rattle.listing.specs.Listing.{delivery_text, field, line_of}
use Rattle.listing.specs.Examples.{LinesAsShown}

pub lines_as_shown : LinesAsShown
unfolding digits_in decimal delivery_text field line_of
lines_as_shown = refl
