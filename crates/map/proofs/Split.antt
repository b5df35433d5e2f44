-- Cells lie within the memory, banks are among the B, and the split and the joining turn each other round. Assumes nothing.
use Prim.Native.Nat.{ℕ, ◌+◌, ◌-◌, ◌^◌, ◌%◌, ◌/◌, ◌<◌}
use mathlib.Core.Path.{ap, ◌∙◌}
use native.Mathlib.Nat.{mod-lt, mod-eq_of_lt, lt_of_lt_of_le}
use native.Mathlib.Omega.{arith}
use lib.Pow.{recompose, high, low, pow_pos, pow_mono}
use Rattle.map.specs.Map.{banks_of, rows_of, cell_of, bank_of, WithinMemory, SplitJoins, JoinSplits}
use Rattle.map.specs.declared.Map.{Map}
use Rattle.map.specs.declared.Cell.{Cell}

-- the bank of any cell is one of the B: all that is known of it elsewhere
pub bank_below : (map : Map) (x : Cell) → bank_of map x < banks_of map
unfolding bank_of
bank_below map x = mod-lt (x.0 / rows_of map) (pow_pos map.s)

pub within_memory : WithinMemory
unfolding cell_of
within_memory map x g = (mod-lt _ (pow_pos map.a), bank_below map (cell_of map x))

-- a bits are at most s and the other a − s
bits_within : (a s x : ℕ) → x < 2 ^ a → x < 2 ^ (s + (a - s))
bits_within a s x h = lt_of_lt_of_le h (pow_mono (omega arith))

pub split_joins : SplitJoins
unfolding bank_of
split_joins map x h =
    ap (λ (n : ℕ). record { 0 = n }) (recompose map.s (map.a - map.s) (bits_within map.a map.s x.0 h))

pub join_splits : JoinSplits
unfolding bank_of
join_splits map b r hb hr =
    (ap (λ (n : ℕ). n % banks_of map) (high b (map.a - map.s) hr) ∙ mod-eq_of_lt hb, low b (map.a - map.s) hr)
