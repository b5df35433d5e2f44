-- One result for each input: what "any two results allowed for the same input are equal" says of a function's own contract.
use Rattle.std.specs.Prelude.{◌≡◌}
use contract.Lifetimes.{Lfts}
use denote.Triple.Entry.{Args, Res}
use denote.Triple.Clauses.{Ended, Lasts, AtExit, at_exit}

-- a contract as a caller reads it: what is learnt of the arguments, the result and the arguments at exit
abbrev pub Contract : Ended → Type 1
Contract f = (κs : Lfts f.signature.lifetimes) → Args f.signature κs → Res f.signature κs → AtExit f κs → Type 0

-- for the same arguments and lent slices at entry, any two results that the contract allows are equal, and so is what each
-- leaves in every slice that is lent to be changed
abbrev pub OneResult : (f : Ended) → Contract f → Type 0
OneResult f Allows =
    (κs : Lfts f.signature.lifetimes) (input : Args f.signature κs)
    (r₁ r₂ : Res f.signature κs) (left₁ left₂ : Lasts f κs input)
    → Allows κs input r₁ (at_exit f κs input left₁)
    → Allows κs input r₂ (at_exit f κs input left₂)
    → (r₁ ≡ r₂) × (left₁ ≡ left₂)
