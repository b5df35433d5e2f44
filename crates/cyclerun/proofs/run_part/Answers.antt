-- The text that is handed over is what the part adds to the print. Assumes nothing.
use Rattle.std.proofs.Common.{arith, ℕ, ◌≡◌, ◌*◌, List, ◌++◌, take, sym, ap, ◌∙◌}
use Rattle.setup.specs.declared.Setup.{Setup}
use Rattle.model.specs.Lent.{Lent}
use Rattle.decimal.proofs.Stores.{take-stored}
use Rattle.replay.specs.declared.Run.{Run}
use Rattle.replay.specs.Replay.{Listed, listed, listed_from, first_of, printed_in, put_at}
use Rattle.replay.proofs.Parts.{in_parts}
use Rattle.cyclerun.specs.Parts.{part_most, Reached, Adds}
use Rattle.cyclerun.proofs.run_part.Goals as goal

-- what stands at the start of the room is what the part adds
adds : (s : Setup) (parts : ℕ) (run r : Run) (x y : Lent) (part room room' : List ℕ) → Reached s parts run x
    → (r, (y, room')) ≡ put_at room 0 (listed s part (listed_from run x)) → Adds s parts part (take r.end room')
unfolding printed_in
adds s parts run r x y part room room' h e =
    let before : List ℕ = h.0 in
    let text : List ℕ = (listed s part (listed_from run x)).text in
    let t : take r.end room' ≡ text =
    ap (λ (w : Run × (Lent × List ℕ)). take w.0.end w.1.1) e ∙ take-stored room 0 text (omega arith) in
    let both = ap (λ (z : Listed). z.text) (in_parts s before part (part_most * parts) (first_of s) (omega (arith, h.1.0))) in
    let later = ap (λ (z : Listed). (listed s before (first_of s)).text ++ (listed s part z).text) (sym h.1.1) in
    (before, (h.1.0, both ∙ later ∙ ap (λ (z : List ℕ). (listed s before (first_of s)).text ++ z) (sym t)))

pub hand_over-written-requires : goal.hand_over-written-requires
hand_over-written-requires g c =
    adds c.args.s c.args.parts c.args.run c.part-r.result _ _ _ _ _ c.requires.2 c.part-r.ensures.0
