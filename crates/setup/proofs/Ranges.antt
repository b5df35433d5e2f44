-- What a setup whose numbers pass the tests is known to be, and the three ways through `checked`. Assumes nothing.
use Prim.Native.Nat.{ℕ, ◌*◌, ◌≤◌}
use native.Mathlib.Nat.{mul-le-mul}
use lib.Pow.{pow_pos, pow_mono}
use native.Mathlib.Omega.{arith}
use mathlib.Core.Path.{◌≡◌, refl, sym, subst, ◌∙◌}
use mathlib.Core.Bool.{Bool, true, false, ◌&&◌}
use borrow.Author.Tests.{leb-true, eqb-true}
use Rattle.setup.specs.declared.Setup.{Setup}
use Rattle.std.specs.Prelude.{Result, Ok, Err}
use Rattle.answers.specs.declared.Refusal.{Refusal}
use Rattle.answers.specs.declared.Refusal.TheVariants.{BadSetup}
use Rattle.answers.specs.Answers.{done, bad_setup}
use Rattle.choice.specs.Choice.{pick}
use Rattle.map.specs.declared.Map.{Map}
use Rattle.map.specs.Map as map
use Rattle.setup.specs.Setup.{sizes_ok, rest_ok, in_range, answer_of, setup_or, ChecksExactly, Sizes, Ranges, with_defaults, checked_of, map_of, banks_of}

pub and_l : (x y : Bool) → x && y ≡ true → x ≡ true
and_l true y h = refl
and_l false y h = h

pub and_r : (x y : Bool) → x && y ≡ true → y ≡ true
and_r true y h = h
and_r false true h = refl
and_r false false h = h

pub sizes : (s : Setup) → sizes_ok s ≡ true → Sizes s
sizes s h = search (and_l, and_r, leb-true) depth 12

-- d is the setup with its defaults in, b what the test of the ranges answers
checks_by : (d none : Setup) (b : Bool)
    → (answer_of (pick b (Ok d) (Err BadSetup)) ≡ pick b done bad_setup) × (setup_or none (pick b (Ok d) (Err BadSetup)) ≡ pick b d none)
checks_by d none true = (refl, refl)
checks_by d none false = (refl, refl)

pub checks_exactly : ChecksExactly
checks_exactly s none = checks_by (with_defaults s) none (in_range (with_defaults s))

-- What a caller knows of the setup that `checked` answered.
ranges : (s : Setup) → in_range s ≡ true → Ranges s
ranges s h = let z : Sizes s = sizes s (and_l _ _ h) in search (and_l, and_r, leb-true, eqb-true) depth 12

both : (x y : Bool) → x ≡ true → y ≡ true → x && y ≡ true
both x y h k = rw h k

-- t and u are what the two tests answered, and f what the defaults gave
pub full_ranges : (s f : Setup) (t u : Bool) → t ≡ sizes_ok s → t ≡ true → f ≡ with_defaults s → u ≡ rest_ok f → u ≡ true → Ranges f
full_ranges s f t u e₁ h₁ e₂ e₃ h₂ =
    subst Ranges (sym e₂)
    (ranges (with_defaults s) (both _ _ (sym e₁ ∙ h₁) (subst (λ (g : Setup). rest_ok g ≡ true) e₂ (sym e₃ ∙ h₂))))

picked : (b : Bool) (g f : Setup) → pick b (Ok g) (Err BadSetup) ≡ Ok f → (b ≡ true) × (g ≡ f)
picked true g f h = (refl, cc)
picked false g f h = let z : ◌≡◌ {A = ℕ} 0 1 = cc in absurd (omega arith)

pub good_ranges : (s f : Setup) (r : Result Setup Refusal) → r ≡ checked_of s → r ≡ Ok f → Ranges f
good_ranges s f r e h = let p = picked (in_range (with_defaults s)) (with_defaults s) f (sym e ∙ h) in ranges f (subst (λ (g : Setup). in_range g ≡ true) p.1 p.0)

pub good_sizes : (s f : Setup) (r : Result Setup Refusal) → r ≡ checked_of s → r ≡ Ok f → Sizes f
good_sizes s f r e h = (good_ranges s f r e h).sizes

-- What a call of the address map asks for, where m is what `Setup::map` answered.
pub map_sizes : (s : Setup) (m : Map) → m ≡ map_of s → Sizes s → map.Sizes m
map_sizes s m e z = rw e z.map

------------------------------------------------------------------------
-- How large the lent slices can be

pub banks_most : (s : Setup) → Sizes s → banks_of s ≤ 64
banks_most s z = pow_mono {j = 6} z.map.s_most

pub banks_least : (s : Setup) → 1 ≤ banks_of s
banks_least s = pow_pos s.s

pub places_most : (s : Setup) → Sizes s → banks_of s * s.k ≤ 8192
places_most s z = mul-le-mul (banks_most s z) z.k_most
