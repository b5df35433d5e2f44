-- `service::serve` meets its contract: the banks below b are served. Assumes nothing.
use Prim.Native.Nat.{ℕ, zero, suc, ◌+◌, ◌-◌, ◌%◌, ◌≤◌, ◌<◌}
use native.Mathlib.Omega.{arith}
use mathlib.Core.Path.{◌≡◌, refl, sym, subst}
use mathlib.Core.List.{List}
use lib.Dec.{eqb}
use Rattle.setup.specs.Setup.{banks_of}
use Rattle.setup.specs.declared.Setup.{Setup}
use Rattle.model.specs.Lent.{Lent, lent, count_of}
use Rattle.model.specs.Range.{Good}
use Rattle.model.specs.Cycle.{served_if, served_below, served}
use Rattle.choice.proofs.Tests.{pick_good}
use Rattle.model.proofs.Service.{served_none, below-at_good, below-at_next}
use Rattle.heads.specs.Heads.{Quiet}
use borrow.Author.Rules.{rules}
use Rattle.service.proofs.serve.Goals as goal

-- with nothing waiting at bank b, it is as it was, whether it is its turn or not
quiet_if : (s : Setup) (turn b : ℕ) (y : Lent) → count_of y.buffers.heads b ≡ 0 → served_if s turn b y ≡ y
quiet_if s turn b y h = pick_good (λ (x : Lent). x ≡ y) (eqb (b % s.m) turn) (served_none s b y h) refl

-- the banks from b on, n of them, at which nothing waits
quiet-below : (s : Setup) (turn b n : ℕ) (x y : Lent) → y ≡ served_below s turn b x → ((i : ℕ) → b ≤ i → i < b + n → count_of y.buffers.heads i ≡ 0)
    → y ≡ served_below s turn (b + n) x
quiet-below s turn b zero x y h z = let e : b + 0 ≡ b = omega arith in rw e h
quiet-below s turn b (suc n) x y h z =
    let e : b + suc n ≡ b + n + 1 = omega arith in
    let m : y ≡ served_below s turn (b + n) x = quiet-below s turn b n x y h (λ i l k. z i l (omega arith)) in
    rw e (below-at_next s turn (b + n) x m (sym (quiet_if s turn (b + n) y (z (b + n) (omega arith) (omega arith)))))

-- up to bank r
to_found : (s : Setup) (turn b r : ℕ) (x y : Lent) → y ≡ served_below s turn b x → b ≤ r → Quiet y.buffers.heads b r → y ≡ served_below s turn r x
to_found s turn b r x y h l q =
    let d : b + (r - b) ≡ r = omega arith in
    subst (λ (k : ℕ). y ≡ served_below s turn k x) d
    (quiet-below s turn b (r - b) x y h (λ i j k. q i j (omega arith)))

module _ (s : Setup) (turn : ℕ) (x : Lent) (memory rows entries heads : List ℕ) where
  below_first : (r : ℕ) → lent memory rows entries heads ≡ x → Quiet heads 0 r → lent memory rows entries heads ≡ served_below s turn r x
  unfolding served_below
  below_first r h q = to_found s turn 0 r x (lent memory rows entries heads) h (omega arith) q

  before_good : (b n : ℕ) → Good s x → lent memory rows entries heads ≡ served_below s turn b x → n ≡ banks_of s → b < n → Good s (lent memory rows entries heads)
  before_good b n g h e l = below-at_good s turn b x g (omega arith) h

  -- y is what was there before bank b
  below_next : (b r : ℕ) (y : Lent) → y ≡ served_below s turn b x → lent memory rows entries heads ≡ served_if s turn b y → b + 1 ≤ r → Quiet heads (b + 1) r
      → lent memory rows entries heads ≡ served_below s turn r x
  below_next b r y h e l q = to_found s turn (b + 1) r x (lent memory rows entries heads) (below-at_next s turn b x h e) l q

below_all : (s : Setup) (turn b n : ℕ) (x y : Lent) → n ≡ banks_of s → b ≤ n → n ≤ b → y ≡ served_below s turn b x → y ≡ served s turn x
below_all s turn b n x y e l h z = let p : b ≡ banks_of s = omega arith in rw p at z

pub loop-b-init : goal.loop-b-init
loop-b-init c = (omega arith, search below_first)

pub serve_if-requires : goal.serve_if-requires
serve_if-requires c = (search before_good, omega arith)

pub loop-b-preserved : goal.loop-b-preserved
loop-b-preserved c = (omega arith, search below_next)

pub returns : goal.returns
returns c = search (below_all, rules)
