-- The records of specs/Examples.antt, computed. Assumes nothing.
use mathlib.Core.Path.{refl}
use Rattle.octets.specs.Bytes.{number_at, bytes_of}
use Rattle.setuprecord.specs.SetupRecord.{setup_fields, allowed, setup_of, setup_bytes, setup_written}
use Rattle.setuprecord.specs.Examples.{SetupLaidOut}

pub setup_laid_out : SetupLaidOut
unfolding setup_written setup_of setup_fields allowed setup_bytes bytes_of number_at
setup_laid_out = (refl, refl, refl, refl, refl, refl)
