-- The document's "Numbers of a configuration". A setup's numbers are ℕ here, so nothing wraps and no default needs a bound.
use Rattle.std.specs.Prelude.{ℕ, ◌*◌, ◌%◌, ◌≤◌, Bool, ◌&&◌, ◌≡◌, leb, ltb, eqb, Result, Ok, Err}
use Rattle.answers.specs.declared.Refusal.{Refusal}
use Rattle.answers.specs.declared.Refusal.TheVariants.{BadSetup}
use Rattle.answers.specs.Answers.{done, bad_setup, number}
use Rattle.choice.specs.Choice.{pick}
use Rattle.map.specs.declared.Map.{Map}
use Rattle.map.specs.Map as map
use Rattle.setup.specs.declared.Setup.{Setup}

-- mode: 0 plain, 1 merging
abbrev pub merging : Setup → Bool
merging s = eqb s.mode 1

-- the address map
abbrev pub map_of : Setup → Map
map_of s = record { a = s.a; s = s.s; u = s.u; v = s.v }

-- N = 2^a words
abbrev pub words_of : Setup → ℕ
words_of s = map.words_of (map_of s)

-- B = 2^s banks
abbrev pub banks_of : Setup → ℕ
banks_of s = map.banks_of (map_of s)

------------------------------------------------------------------------
-- Zero means a default for Δ and C only

abbrev pub or_default : ℕ → ℕ → ℕ
or_default x default = pick (eqb x 0) default x

-- Δ: 0 stands for K·m
abbrev pub least_delta : Setup → ℕ
least_delta s = s.k * s.m

-- C: 0 stands for Δ, once Δ's own default is in
abbrev pub default_c : ℕ → ℕ
default_c delta = delta

abbrev pub with_defaults : Setup → Setup
with_defaults s =
    let delta = or_default s.delta (least_delta s) in
    record {
      mode = s.mode;
      a = s.a;
      s = s.s;
      m = s.m;
      k = s.k;
      delta = delta;
      c = or_default s.c (default_c delta);
      u = s.u;
      v = s.v;
    }

------------------------------------------------------------------------
-- The column "Allowed"

-- least ≤ x ≤ most
abbrev pub between : ℕ → ℕ → ℕ → Bool
between least x most = leb least x && leb x most

-- mode 0 or 1; a from 1 to 20; s from 0 to 6, at most a; m from 1 to 64; K from 1 to 128
abbrev pub sizes_ok : Setup → Bool
sizes_ok s =
    leb s.mode 1
    && between 1 s.a 20
    && (leb s.s 6 && leb s.s s.a)
    && between 1 s.m 64
    && between 1 s.k 128

-- Δ from K·m to 4,096; C from Δ to 4,096; u and v below N, u odd
abbrev pub rest_ok : Setup → Bool
rest_ok s =
    between (least_delta s) s.delta 4096
    && between s.delta s.c 4096
    && (ltb s.u (words_of s) && eqb (s.u % 2) 1)
    && ltb s.v (words_of s)

abbrev pub in_range : Setup → Bool
in_range s = sizes_ok s && rest_ok s

------------------------------------------------------------------------
-- The ranges apply after the defaults

abbrev pub checked_of : Setup → Result Setup Refusal
checked_of s = pick (in_range (with_defaults s)) (Ok (with_defaults s)) (Err BadSetup)

-- the document's number for each case, and its value: the setup with its defaults in, or none
abbrev pub answer_of : Result Setup Refusal → ℕ
answer_of (Ok s) = done
answer_of (Err r) = number r

abbrev pub setup_or : Setup → Result Setup Refusal → Setup
setup_or none (Ok s) = s
setup_or none (Err r) = none

-- 1 exactly when a number is out of range, and else the setup with its defaults in
abbrev pub ChecksExactly : Type 0
ChecksExactly =
    (s none : Setup)
    → (answer_of (checked_of s) ≡ pick (in_range (with_defaults s)) done bad_setup)
    × (setup_or none (checked_of s) ≡ pick (in_range (with_defaults s)) (with_defaults s) none)

------------------------------------------------------------------------
-- What the layers above know of a checked setup

pub record Sizes (s : Setup) : Type 0 where
  pub mode_most : s.mode ≤ 1
  pub map : map.Sizes (map_of s)
  pub m_least : 1 ≤ s.m
  pub m_most : s.m ≤ 64
  pub k_least : 1 ≤ s.k
  pub k_most : s.k ≤ 128

pub record Ranges (s : Setup) : Type 0 where
  pub sizes : Sizes s
  pub delta_least : least_delta s ≤ s.delta
  pub delta_most : s.delta ≤ 4096
  pub c_least : s.delta ≤ s.c
  pub c_most : s.c ≤ 4096
  pub map : map.Ranges (map_of s)
