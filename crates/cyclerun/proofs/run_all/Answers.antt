-- Each part begins where the part before it left the run. Assumes nothing.
use Rattle.std.proofs.Common.{arith, rules, ℕ, ◌≡◌, ◌+◌, ◌*◌, ◌≤◌, ◌<◌, Bool, true, false, ◌&&◌, List, [], ◌++◌, length, take, refl, sym, ap, ◌∙◌, length-append, eqb, ltb}
use Rattle.std.proofs.lemmas.List.{length-take-le}
use Rattle.std.proofs.lemmas.Bool.{eqb-true, ltb-true}
use Rattle.setup.specs.declared.Setup.{Setup}
use Rattle.setup.proofs.Ranges.{and_l, and_r}
use Rattle.model.specs.Lent.{Lent, lent}
use Rattle.replay.specs.declared.Run.{Run}
use Rattle.replay.specs.Replay.{Listed, listed_below, listed, listed_from, first_of, put_at, begun}
use Rattle.replay.specs.Parts.{apart}
use Rattle.replay.proofs.Lines.{number_most_lem}
use Rattle.replay.proofs.Parts.{in_parts}
use Rattle.cyclerun.specs.Parts.{part_most, part_bytes, parts_most, Reached, Ended}
use Rattle.cyclerun.proofs.run_all.Goals as goal

-- a run that goes on: where it stands, and that one part more can be counted
abbrev Goes : Setup → ℕ → Run → Lent → Type 0
Goes s parts r x = Reached s parts r x × (parts < parts_most) × (r.number ≤ part_most * parts)

first_part : (s : Setup) (r : Run) (x : Lent) → (r, x) ≡ begun s → Goes s 0 r x
unfolding listed_below
first_part s r x e = (
  ([], (refl, ap (λ (w : Run × Lent). listed_from w.0 w.1) e)),
  omega arith,
  omega (arith, ap (λ (w : Run × Lent). w.0.number) e),
)

-- a part leads from where the parts before it lead
led_on : (s : Setup) (n read : ℕ) (before input room room' : List ℕ) (r r' : Run) (x y : Lent) → length before ≡ part_bytes * n
    → listed_from r x ≡ apart (listed s before (first_of s)) → (r', (y, room')) ≡ put_at room 0 (listed s (take read input) (listed_from r x))
    → listed_from r' y ≡ apart (listed s (before ++ take read input) (first_of s))
led_on s n read before input room room' r r' x y whole here e =
    let part : List ℕ = take read input in
    let both = in_parts s before part (part_most * n) (first_of s) (omega (arith, whole)) in
    let left = ap (λ (w : Run × (Lent × List ℕ)). listed_from w.0 w.1.0) e in
    left ∙ ap (λ (z : Listed). apart (listed s part z)) here ∙ sym (ap (λ (z : Listed). apart z) both)

-- a whole part leads to the next
next-part : (s : Setup) (parts read : ℕ) (r r' : Run) (x y : Lent) (input room room' : List ℕ) → Goes s parts r x
    → (r', (y, room')) ≡ put_at room 0 (listed s (take read input) (listed_from r x)) → read ≤ length input → length input ≡ part_bytes
    → (a : Bool) → (a && eqb read (length input)) && ltb (parts + 1) parts_most ≡ true → Goes s (parts + 1) r' y
next-part s parts read r r' x y input room room' g e l b a h =
    let before : List ℕ = g.0.0 in
    let part : List ℕ = take read input in
    let n : read ≡ length input = eqb-true read (length input) (and_r a _ (and_l (a && eqb read (length input)) _ h)) in
    let long : length part ≡ read = length-take-le read input l in
    let whole : length before ≡ part_bytes * parts = g.0.1.0 in
    let led = led_on s parts read before input room room' r r' x y whole g.0.1.1 e in (
      (before ++ part, (length-append before part ∙ omega (arith, whole, long, n, b), led)),
      ltb-true (parts + 1) parts_most (and_r (a && eqb read (length input)) _ h),
      omega (arith, number_most_lem s part r r' x y room room' e, g.2, long, n, b),
    )

-- a part behind which the run does not go on is the last
last-part : (s : Setup) (parts read : ℕ) (r r' : Run) (x y : Lent) (input room room' : List ℕ) (written : Bool) → Reached s parts r x
    → (r', (y, room')) ≡ put_at room 0 (listed s (take read input) (listed_from r x)) → length input ≡ part_bytes
    → r'.on && written && eqb read (length input) && ltb (parts + 1) parts_most ≡ false → Ended s r' read written y input
last-part s parts read r r' x y input room room' written g e b h =
    let led = led_on s parts read g.0 input room room' r r' x y g.1.0 g.1.1 e in
    let off = ap (λ (n : ℕ). r'.on && written && eqb read n && ltb (parts + 1) parts_most) (sym b) ∙ h in
    (parts, g.0, (g.1.0, led, off))

pub loop-s-init : goal.loop-s-init
loop-s-init g c =
    let first = first_part c.args.s _ _ c.begin-r.ensures in
    record {
      reached = first.0;
      more = omega arith;
      number = first.2;
      memory = refl;
      rows = refl;
      entries = refl;
      heads = refl;
      input = refl;
      out = refl;
    }

pub returns-then-not-on : goal.returns-then-not-on
returns-then-not-on g c =
    let part = c.run_part-part.result in
    let input : List ℕ = c.run_part-part.new.input in
    let long : length input ≡ part_bytes = search rules in
    last-part c.args.s c.loop-s.parts part.read c.loop-s.r part.run _ _ input _ _ part.written c.loop-s.invariant.reached
    c.run_part-part.ensures.0 long c.if-not-on.true

pub loop-s-preserved : goal.loop-s-preserved
loop-s-preserved g c =
    let part = c.run_part-part.result in
    let input : List ℕ = c.run_part-part.new.input in
    let long : length input ≡ part_bytes = search rules in
    let goes : Goes c.args.s c.loop-s.parts c.loop-s.r (lent c.loop-s.memory c.loop-s.rows c.loop-s.entries c.loop-s.heads) =
    (c.loop-s.invariant.reached, c.loop-s.invariant.more, c.loop-s.invariant.number) in
    let next = next-part c.args.s c.loop-s.parts part.read c.loop-s.r part.run _ _ input _ _ goes
    c.run_part-part.ensures.0 c.run_part-part.ensures.1 long (part.run.on && part.written) c.if-not-on.false in
    record {
      reached = next.0;
      more = next.1;
      number = next.2;
      memory = search rules;
      rows = search rules;
      entries = search rules;
      heads = search rules;
      input = search rules;
      out = search rules;
    }
