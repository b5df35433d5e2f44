-- Exported are the functions of the first two records, and no others: what is called from outside, in Rattle and from C. None
-- asks anything of its caller. For each of them, and for what stands below them: any two results that its contract allows for
-- the same input are equal. `f.ended` is the signature of f with what is seen of its parameters at exit, `f.Reads.Learnt` what
-- a caller learns by its contract: the toolchain makes both from the source.
use Rattle.results.specs.Results.{OneResult}
use Rattle.setup.specs.contracts as setup_contracts
use Rattle.setup.proofs as setup
use Rattle.map.specs.contracts as map_contracts
use Rattle.map.proofs as map
use Rattle.records.specs.contracts as records_contracts
use Rattle.records.proofs as records
use Rattle.setuprecord.specs.contracts as setuprecord_contracts
use Rattle.setuprecord.proofs as setuprecord
use Rattle.controller.specs.contracts as controller_contracts
use Rattle.controller.proofs as controller
use Rattle.interface.specs.contracts as interface_contracts
use Rattle.interface.proofs as interface

pub record Exported : Type 0 where
  pub checked : OneResult setup_contracts.Setup.checked.ended setup.Setup.checked.Reads.Learnt
  pub operation_from : OneResult records_contracts.operation_from.ended records.operation_from.Reads.Learnt
  pub read_operation : OneResult records_contracts.read_operation.ended records.read_operation.Reads.Learnt
  pub write_operation : OneResult records_contracts.write_operation.ended records.write_operation.Reads.Learnt
  pub read-setup : OneResult setuprecord_contracts.read_setup.ended setuprecord.read_setup.Reads.Learnt
  pub write-setup : OneResult setuprecord_contracts.write_setup.ended setuprecord.write_setup.Reads.Learnt
  pub fresh_start : OneResult controller_contracts.fresh_start.ended controller.fresh_start.Reads.Learnt
  pub cycle : OneResult controller_contracts.cycle.ended controller.cycle.Reads.Learnt
  pub waiting : OneResult controller_contracts.waiting.ended controller.waiting.Reads.Learnt

-- the calls that C makes
pub record ExportedToC : Type 0 where
  pub check : OneResult interface_contracts.ridkostan_check.ended interface.ridkostan_check.Reads.Learnt
  pub lengths : OneResult interface_contracts.ridkostan_lengths.ended interface.ridkostan_lengths.Reads.Learnt
  pub fresh_start : OneResult interface_contracts.ridkostan_fresh_start.ended interface.ridkostan_fresh_start.Reads.Learnt
  pub cycle : OneResult interface_contracts.ridkostan_cycle.ended interface.ridkostan_cycle.Reads.Learnt
  pub waiting : OneResult interface_contracts.ridkostan_waiting.ended interface.ridkostan_waiting.Reads.Learnt
  pub read-setup : OneResult interface_contracts.ridkostan_read_setup.ended interface.ridkostan_read_setup.Reads.Learnt
  pub write-setup : OneResult interface_contracts.ridkostan_write_setup.ended interface.ridkostan_write_setup.Reads.Learnt
  pub read_operation : OneResult interface_contracts.ridkostan_read_operation.ended interface.ridkostan_read_operation.Reads.Learnt
  pub write_operation : OneResult interface_contracts.ridkostan_write_operation.ended interface.ridkostan_write_operation.Reads.Learnt

-- what the calls themselves ask for: these may have a `requires`
pub record BelowTheCalls : Type 0 where
  pub setup-map : OneResult setup_contracts.Setup.map.ended setup.Setup.map.Reads.Learnt
  pub setup-words : OneResult setup_contracts.Setup.words.ended setup.Setup.words.Reads.Learnt
  pub setup_banks : OneResult setup_contracts.Setup.banks.ended setup.Setup.banks.Reads.Learnt
  pub map-words : OneResult map_contracts.Map.words.ended map.Map.words.Reads.Learnt
  pub map_banks : OneResult map_contracts.Map.banks.ended map.Map.banks.Reads.Learnt
  pub cell : OneResult map_contracts.Address.cell.ended map.Address.cell.Reads.Learnt
  pub bank : OneResult map_contracts.Cell.bank.ended map.Cell.bank.Reads.Learnt
  pub row : OneResult map_contracts.Cell.row.ended map.Cell.row.Reads.Learnt
  pub in_bank : OneResult map_contracts.Cell.in_bank.ended map.Cell.in_bank.Reads.Learnt
