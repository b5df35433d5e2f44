-- What `put_byte` leaves: a store is one byte stored.
use Rattle.std.proofs.Common.{rules}
use Rattle.decimal.proofs.Stores.{stored_byte}
use Rattle.decimal.proofs.Text.put_byte.Goals as goal

pub returns : goal.returns
returns c = search (rules, stored_byte)
