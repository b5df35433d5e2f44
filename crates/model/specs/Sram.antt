-- The ideal SRAM, and what a read of it is owed.
use Rattle.std.specs.Prelude.{ℕ, Bool, false, ◌||◌, List, [], ◌∷◌, eqb}
use Rattle.choice.specs.Choice.{pick}
use Rattle.map.specs.declared.Address.{Address}
use Rattle.port.specs.declared.Operation.{Operation}
use Rattle.port.specs.declared.Operation.TheVariants.{Idle, Read, Write}
use Rattle.port.specs.declared.Delivery.{Delivery}
use Rattle.port.specs.declared.Delivery.TheVariants.{None, Word}

------------------------------------------------------------------------
-- Operations, newest first, and an address

abbrev pub wrote : Address → Operation → Bool
wrote x Idle = false
wrote x (Read y) = false
wrote x (Write y w) = eqb y.0 x.0

abbrev pub touched : Address → Operation → Bool
touched x Idle = false
touched x (Read y) = eqb y.0 x.0
touched x (Write y w) = eqb y.0 x.0

abbrev pub some : (Operation → Bool) → List Operation → Bool
some f [] = false
some f (o ∷ past) = f o || some f past

------------------------------------------------------------------------
-- The word of the newest write to x, or the word that x started with

abbrev pub written : Operation → Address → ℕ → ℕ
written Idle x v = v
written (Read y) x v = v
written (Write y w) x v = pick (eqb y.0 x.0) w v

abbrev pub sram : (Address → ℕ) → List Operation → Address → ℕ
sram start [] x = start x
sram start (o ∷ past) x = written o x (sram start past x)

------------------------------------------------------------------------
-- What is owed

-- of an operation, with those before it behind it
abbrev pub due : (Address → ℕ) → List Operation → Delivery
due start [] = None
due start (Idle ∷ before) = None
due start (Read x ∷ before) = Word (sram start before x)
due start (Write x w ∷ before) = None
