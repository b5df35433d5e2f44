-- A checked setup and the port as the theory has them: its addresses are cells and its words numbers. Assumes nothing.
use Prim.Native.Nat.{ℕ, ◌-◌, ◌*◌, ◌≤◌}
use native.Mathlib.Nat.{mul-le-mul}
use native.Mathlib.Omega.{arith}
use Rattle.setup.specs.Setup.{Ranges, map_of, banks_of}
use Rattle.setup.specs.declared.Setup.{Setup}
use Rattle.map.specs.Map.{cell_of, bank_of}
use Rattle.map.proofs.Split.{bank_below}
use Rattle.port.specs.declared.Operation.{Operation}
use Rattle.port.specs.declared.Operation.TheVariants.{Idle, Read, Write}
use Rattle.port.specs.declared.Delivery.{Delivery}
use Rattle.port.specs.declared.Delivery.TheVariants.{None, Unready, Word}
use Rattle.theory.proofs.Operations.{Op, idle, read, write, nil, unready, word}
use Rattle.theory.proofs.Operations as operations
use Rattle.theory.proofs.Concrete.{Config, Legal}

-- the bank of the cell with this number
abbrev pub bank_numbered : Setup → ℕ → ℕ
bank_numbered s c = bank_of (map_of s) (record { 0 = c })

-- a table of C rows is one of suc rest
abbrev pub config_of : Setup → Config
config_of s = record { banks = banks_of s; m = s.m; delay = s.delta; rest = s.c - 1; bank = bank_numbered s }

pub legal : (s : Setup) → Ranges s → Legal (config_of s) s.k
legal s r =
    let l : 1 * 1 ≤ s.k * s.m = mul-le-mul r.sizes.k_least r.sizes.m_least in
    record {
      turns = r.sizes.m_least;
      fits = r.delta_least;
      delays = omega (arith, r.delta_least);
      long = omega (arith, r.c_least);
      within = λ c. bank_below (map_of s) (record { 0 = c });
    }

abbrev pub shown_op : Setup → Operation → Op ℕ
shown_op s Idle = idle
shown_op s (Read a) = read (cell_of (map_of s) a).0
shown_op s (Write a w) = write (cell_of (map_of s) a).0 w

abbrev pub shown_delivery : Delivery → operations.Delivery ℕ
shown_delivery None = nil
shown_delivery Unready = unready
shown_delivery (Word w) = word w
