-- What `read_setup` answers: the numbers in the record are its fields.
use Rattle.std.proofs.Common.{rules}
use Rattle.std.proofs.lemmas.List.{places}
use Rattle.setuprecord.specs.SetupRecord.{setup_of}
use Rattle.setuprecord.proofs.Setup.{fields_read}
use Rattle.setuprecord.proofs.read_setup.Goals as goal

pub returns-then-allowed : goal.returns-then-allowed
unfolding setup_of
returns-then-allowed c = search (rules, places, fields_read)

pub returns-else-allowed : goal.returns-else-allowed
unfolding setup_of
returns-else-allowed c = search (rules, places, fields_read)
