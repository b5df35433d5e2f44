-- The records of specs/Examples.antt, computed. Assumes nothing.
use mathlib.Core.Path.{refl}
use Rattle.octets.specs.Bytes.{bytes_of}
use Rattle.records.specs.Records.{operation_bytes, operation_written}
use Rattle.records.specs.Examples.{OperationLaidOut}

pub operation_laid_out : OperationLaidOut
unfolding operation_written operation_bytes bytes_of
operation_laid_out = (refl, refl, refl, refl, refl)
