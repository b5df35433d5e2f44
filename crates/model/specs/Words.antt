-- What the naming of banks leaves alone: the words.
use Rattle.std.specs.Prelude.{◌+◌, ◌*◌, ◌^◌, ◌%◌, ◌≡◌, get_or}
use Rattle.setup.specs.declared.Setup.{Setup}
use Rattle.map.specs.declared.Address.{Address}
use Rattle.model.specs.Runs.{Machine}
use Rattle.model.specs.Promises.{start_word}

-- the word that a run starts with at an address is the lent word at (u·address + v) mod 2^a, whatever s is and however a bank is
-- named: a memory that another run has left is read with the same words
abbrev pub WordsByCell : Type 0
WordsByCell = (g : Setup) (w : Machine) (x : Address) → start_word g w x ≡ get_or w.1.memory ((g.u * x.0 + g.v) % 2 ^ g.a) 0
