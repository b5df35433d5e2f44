-- What a lookup in the table asks of a row, and what is known of the block with the position.
use Rattle.std.specs.Prelude.{ℕ, ◌+◌, ◌-◌, ◌≤◌, ◌<◌, Bool, false, ◌&&◌, eqb, Option, ◌≡◌, get_or}
use Rattle.flat.specs.Flat.{block}
use Rattle.map.specs.declared.Address.{Address}
use Rattle.model.specs.Lent.{addresses}
use Rattle.model.specs.Cycle.{scan}
use Rattle.model.specs.declared.Row.{Row}
use Rattle.table.specs.declared.Table.{Table}

-- a row of this address, of the kinds that are asked for
abbrev pub wanted : (ℕ → Bool) → Address → Row → Bool
wanted includes a r = includes r.kind && eqb r.address.0 a.0

-- the last such row from one place up to another
abbrev pub last_wanted : (ℕ → Bool) → Address → Table → ℕ → ℕ → Option ℕ
last_wanted includes a t from to = scan (wanted includes a) t.c t.rows.now (to - from) to

-- of the rows of the block from place `low` on, none but the row at the position has this address
abbrev pub Alone : Table → ℕ → ℕ → Address → Type 0
Alone t position low a =
    (j : ℕ) → low ≤ j → j < low + block → (j ≡ position → ⊥) → get_or t.rows.now (addresses t.c + j) 0 ≡ a.0 → ⊥

-- the block from place `low` on has the position in it, and where the answer is no the address there alone
pub record Nearby (t : Table) (position low : ℕ) (a : Address) (near : Bool) : Type 0 where
  pub from : low ≤ position
  pub to : position < low + block
  pub within : low + block ≤ t.c
  pub alone : near ≡ false → Alone t position low a
