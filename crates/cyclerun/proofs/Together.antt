-- The texts of the parts are what the whole input prints. Assumes nothing.
use Prim.Native.Nat.{ℕ}
use mathlib.Core.Path.{◌≡◌, refl, sym, ap, ◌∙◌}
use mathlib.Core.List.{List, [], ◌∷◌, ◌++◌}
use Rattle.setup.specs.declared.Setup.{Setup}
use Rattle.replay.specs.Replay.{Listed, listed, first_of, printed_in}
use Rattle.replay.specs.Parts.{apart}
use Rattle.replay.proofs.Parts.{in_parts}
use Rattle.cyclerun.specs.Parts.{part_most, AllWhole, joined, texts_of, Together}

texts_joined : (s : Setup) (ps : List (List ℕ)) (last : List ℕ) (x : Listed) → AllWhole ps
    → texts_of s ps last x ≡ (listed s (joined ps last) x).text
unfolding texts_of joined
texts_joined s [] last x w = refl
texts_joined s (p ∷ ps) last x w =
    ap (λ (t : List ℕ). (listed s p x).text ++ t) (texts_joined s ps last (apart (listed s p x)) w.1)
    ∙ sym (ap (λ (y : Listed). y.text) (in_parts s p (joined ps last) part_most x w.0))

pub together : Together
unfolding printed_in
together s ps last w = texts_joined s ps last (first_of s) w
