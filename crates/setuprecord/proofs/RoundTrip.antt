-- Reading and writing a setup turn each other round: the statements of specs/RoundTrip.antt. Assumes nothing.
use Rattle.std.specs.Prelude.{Result, Ok, Err}
use Prim.Native.Nat.{ℕ, ◌^◌, ◌≤◌, ◌<◌}
use mathlib.Core.Path.{◌≡◌, refl, ap, ◌∙◌}
use mathlib.Core.Logic.{◌⊎◌, inl, inr}
use mathlib.Core.Bool.{Bool, true, false, ◌&&◌}
use mathlib.Core.List.{List, [], ◌∷◌, ◌++◌}
use native.Mathlib.Nat.{lt_of_lt_of_le}
use native.Mathlib.Omega.{arith}
use lib.Dec.{eqb}
use lib.ListN.{length, drop_of_length-le}
use lib.Pow.{pow_mono}
use borrow.Author.Tests.{eqb-true}
use Rattle.answers.specs.declared.Refusal.{Refusal}
use Rattle.answers.specs.declared.Refusal.TheVariants.{BadSetup}
use Rattle.answers.specs.Answers.{done, bad_setup}
use Rattle.answers.proofs.Numbers.{number_range}
use Rattle.choice.specs.Choice.{pick}
use Rattle.choice.proofs.Tests.{pick_good}
use Rattle.setup.specs.Setup.{with_defaults, in_range, checked_of, Ranges}
use Rattle.setup.specs.declared.Setup.{Setup}
use Rattle.setup.proofs.Ranges.{and_l, and_r, good_ranges}
use Rattle.octets.specs.Bytes.{base, byte_at, Bytes, number_at, bytes_of}
use Rattle.octets.proofs.Numbers.{number_bytes, bytes_number, bytes_byte}
use Rattle.setuprecord.specs.SetupRecord.{setup_size, setup_fields, setup_zeros, allowed, setup_of, record_answer, recorded_or, setup_bytes, setup_written}
use Rattle.setuprecord.specs.RoundTrip.{SetupReadAsWritten, SetupWrittenAsRead, SetupAnswered}
use Rattle.setuprecord.proofs.Choice.{first}

------------------------------------------------------------------------
-- Reading what was written gives it back

-- a given 0 is below any bound, and any other number is its own default
given_most : (x default most : ℕ) (b : Bool) → eqb x 0 ≡ b → pick b default x ≤ most → x ≤ most
given_most x default most true e h = let z : x ≡ 0 = eqb-true x 0 e in omega arith
given_most x default most false e h = h

allowed-ranges : (s : Setup) → allowed s ≡ true → Ranges (with_defaults s)
unfolding allowed
allowed-ranges s h = good_ranges s (with_defaults s) (checked_of s) refl (rw h)

below-words : (x a : ℕ) → x < 2 ^ a → a ≤ 32 → x < base ^ 4
below-words x a l h = lt_of_lt_of_le l (pow_mono h)

-- so every number fits its bytes
fields_read : (s : Setup) → Ranges (with_defaults s) → setup_fields (setup_bytes s) ≡ s
unfolding setup_fields setup_bytes bytes_of
fields_read s r =
    let bytes : List ℕ = setup_bytes s in
    let hk : s.k < base ^ 2 = omega (arith, r.sizes.k_most) in
    let hd : s.delta < base ^ 2 = omega (arith, given_most s.delta _ _ _ refl r.delta_most) in
    let hc : s.c < base ^ 2 = omega (arith, given_most s.c _ _ _ refl r.c_most) in
    let ha : s.a ≤ 32 = omega (arith, r.sizes.map.a_most) in
    rw (
      number_bytes 2 s.k bytes _ 4 hk refl,
      number_bytes 2 s.delta bytes _ 6 hd refl,
      number_bytes 2 s.c bytes _ 8 hc refl,
      number_bytes 4 s.u bytes _ 12 (below-words s.u s.a r.map.u_below ha) refl,
      number_bytes 4 s.v bytes _ 16 (below-words s.v s.a r.map.v_below ha) refl,
    )

setup_good : (s : Setup) → allowed s ≡ true → setup_of (setup_bytes s) ≡ Ok s
unfolding setup_of setup_bytes bytes_of
setup_good s h = rw (fields_read s (allowed-ranges s h), h)

-- a setup in range is written into a room of the record's length
written_there : (s : Setup) (room : List ℕ) → in_range (with_defaults s) ≡ true → length room ≡ setup_size → setup_written s room ≡ (Ok tt, setup_bytes s)
unfolding setup_written allowed
written_there s room h l = rw (h, l)

pub setup-read_as_written : SetupReadAsWritten
unfolding allowed
setup-read_as_written s none room h l =
    rw (written_there s room h l) (refl, ap record_answer (setup_good s h), ap (recorded_or none) (setup_good s h))

------------------------------------------------------------------------
-- Writing what was read gives the same bytes

refused-not_good : (s : Setup) → Err BadSetup ≡ Ok s → ⊥
refused-not_good s h = let z : ◌≡◌ {A = ℕ} 0 1 = cc in omega arith

fields_bytes : (s : List ℕ) → Bytes s → length s ≡ setup_size → byte_at s 10 ≡ 0 → byte_at s 11 ≡ 0
    → setup_bytes (setup_fields s) ≡ s
unfolding setup_bytes setup_fields bytes_of
fields_bytes s b h z₀ z₁ = one_by_one
  where
    one_by_one :
        byte_at s 0 ∷ byte_at s 1 ∷ byte_at s 2 ∷ byte_at s 3 ∷ (bytes_of 2 (number_at 2 s 4) ++ (bytes_of 2 (number_at 2 s 6) ++ (bytes_of 2 (number_at 2 s 8) ++ 0 ∷ 0 ∷ (bytes_of 4 (number_at 4 s 12) ++ (bytes_of 4 (number_at 4 s 16) ++ []))))) ≡ s
    one_by_one =
        cc (
          z₀,
          z₁,
          bytes_byte s 0 (omega arith),
          bytes_byte s 1 (omega arith),
          bytes_byte s 2 (omega arith),
          bytes_byte s 3 (omega arith),
          bytes_number 2 s 4 b (omega arith),
          bytes_number 2 s 6 b (omega arith),
          bytes_number 2 s 8 b (omega arith),
          bytes_byte s 10 (omega arith),
          bytes_byte s 11 (omega arith),
          bytes_number 4 s 12 b (omega arith),
          bytes_number 4 s 16 b (omega arith),
          drop_of_length-le s {i = setup_size} (omega arith),
        )

good_written : (bytes : List ℕ) (s : Setup) → Bytes bytes → setup_of bytes ≡ Ok s
    → (in_range (with_defaults s) ≡ true) × (setup_bytes s ≡ bytes)
unfolding setup_of allowed
good_written bytes s b h =
    let f : Setup = setup_fields bytes in
    let p = first (eqb (length bytes) setup_size && setup_zeros bytes && allowed f) (Ok f) (Err BadSetup) (Ok s) (refused-not_good s) h in
    let same : s ≡ f = cc p.1 in
    let within : allowed f ≡ true = search (and_l, and_r) in
    let z₀ : byte_at bytes 10 ≡ 0 = search (and_l, and_r, eqb-true) in
    let z₁ : byte_at bytes 11 ≡ 0 = search (and_l, and_r, eqb-true) in
    (rw same within, ap setup_bytes same ∙ fields_bytes bytes b (search (and_l, and_r, eqb-true)) z₀ z₁)

pub setup-written_as_read : SetupWrittenAsRead
setup-written_as_read bytes room none b = go (setup_of bytes) refl
  where
    go : (r : Result Setup Refusal) → setup_of bytes ≡ r → record_answer r ≡ done → length room ≡ setup_size
        → (in_range (with_defaults (recorded_or none r)) ≡ true) × (setup_written (recorded_or none r) room ≡ (Ok tt, bytes))
    go (Ok s) e h l =
        let w = good_written bytes s b e in
        (w.0, written_there s room w.0 l ∙ ap (λ (x : List ℕ). (Ok tt, x)) w.1)
    go (Err q) e h l = absurd (omega (arith, h, (number_range q).0))

Answered : Result Setup Refusal → Type 0
Answered r = (record_answer r ≡ done) ⊎ (record_answer r ≡ bad_setup)

pub setup_answered : SetupAnswered
unfolding setup_of Answered
setup_answered bytes =
    pick_good Answered (eqb (length bytes) setup_size && setup_zeros bytes && allowed (setup_fields bytes)) (inl refl) (inr refl)
