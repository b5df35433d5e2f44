-- Numbers in decimal: one digit more, how many there are, and that std writes the same.
-- Assumes nothing.
use Prim.Native.Nat.{ℕ, zero, suc, ◌+◌, ◌*◌, ◌/◌, ◌%◌, ◌^◌, ◌≤◌, ◌<◌, max}
use mathlib.Core.Path.{◌≡◌, refl, ap}
use mathlib.Core.List.{List, [], ◌∷◌, ◌++◌}
use native.Mathlib.Nat.{pow-succ', one-le-pow}
use native.Mathlib.Omega.{arith}
use lib.ListN.{length, take, drop, length-append}
use Rattle.std.specs.Fmt.{decimal as std_decimal}
use Rattle.std.proofs.lemmas.Fmt.{decimal_by_steps, length-decimal-le}
use Rattle.decimal.specs.Decimal.{ten, digit, digits_in, decimal, number_most, word_most, stored}
use Rattle.decimal.proofs.Stores.{stored_from}

------------------------------------------------------------------------
-- One digit, and one digit more

-- further steps change nothing
steps_same : (s t q : ℕ) → q ≤ s → q ≤ t → digits_in s q ≡ digits_in t q
unfolding digits_in
steps_same zero zero q hs ht = refl
steps_same zero (suc t) zero hs ht = refl
steps_same zero (suc t) (suc q) hs ht = absurd (omega arith)
steps_same (suc s) zero zero hs ht = refl
steps_same (suc s) zero (suc q) hs ht = absurd (omega arith)
steps_same (suc s) (suc t) zero hs ht = refl
steps_same (suc s) (suc t) (suc q) hs ht = rw (steps_same s t (suc q / ten) (omega arith) (omega arith))

pub decimal-one : (n : ℕ) → n < ten → decimal n ≡ digit n ∷ []
unfolding decimal digits_in
decimal-one n h =
    let none : n / ten ≡ zero = omega arith in
    rw (none, steps_same n zero zero (omega arith) (omega arith))

-- the digits of q with its last written out
digits_last : (steps q : ℕ) → 0 < q → digits_in (suc steps) q ≡ digits_in steps (q / ten) ++ (digit q ∷ [])
unfolding digits_in
digits_last steps zero h = absurd (omega arith)
digits_last steps (suc q) h = refl

pub decimal_more : (n : ℕ) → ten ≤ n → decimal n ≡ decimal (n / ten) ++ (digit n ∷ [])
unfolding decimal
decimal_more zero h = absurd (omega arith)
decimal_more (suc n) h =
    let q : ℕ = suc n / ten in
    rw (digits_last n q (omega arith), steps_same n q (q / ten) (omega arith) (omega arith))

------------------------------------------------------------------------
-- How many digits

pub length-one : (n : ℕ) → n < ten → length (decimal n) ≡ 1
length-one n h = rw (decimal-one n h)

pub length_more : (n : ℕ) → ten ≤ n → length (decimal n) ≡ suc (length (decimal (n / ten)))
length_more n h = rw (decimal_more n h, length-append (decimal (n / ten)) (digit n ∷ [])) (omega arith)

-- 10^k is the last power of ten that is not above n, where 0 is taken for 1
pub length_at : (k n : ℕ) → ten ^ k ≤ max n 1 → max n 1 < ten * ten ^ k → k + 1 ≡ length (decimal n)
length_at zero n h l = omega (arith, length-one n (omega arith))
length_at (suc k) n h l =
    let p : ten ^ suc k ≡ ten * ten ^ k = omega (arith, pow-succ' ten k) in
    let one : 1 ≤ ten ^ k = one-le-pow k ten (omega arith) in
    let more : length (decimal n) ≡ suc (length (decimal (n / ten))) = length_more n (omega arith) in
    omega (arith, length_at k (n / ten) (omega arith) (omega arith))

------------------------------------------------------------------------
-- By std's word

-- std writes the same
pub as_std : (n : ℕ) → n < 2 ^ 64 → std_decimal n ≡ decimal n
as_std n h =
    decimal_by_steps (λ (m : ℕ) (ds : List ℕ). ds ≡ decimal m)
    (λ m l. let e : m % ten ≡ m = omega arith in rw (decimal-one m l, e))
    (λ m ds l e. rw (decimal_more m l, e))
    n h

pub length_std : (n : ℕ) → n < 2 ^ 64 → length (std_decimal n) ≡ length (decimal n)
length_std n h = ap (λ (ds : List ℕ). length ds) (as_std n h)

pub number_most_lem : (n : ℕ) → n < 2 ^ 64 → length (decimal n) ≤ number_most
number_most_lem n h = omega (arith, length_std n h, length-decimal-le number_most n (omega arith) (omega arith) h)

pub word_most_lem : (n : ℕ) → n < 2 ^ 32 → length (decimal n) ≤ word_most
word_most_lem n h = omega (arith, length_std n (omega arith), length-decimal-le word_most n (omega arith) (omega arith) (omega arith))

-- what was written so that it ends behind the number begins where the number does
pub number_stored : (room room' : List ℕ) (at start after n : ℕ) → n < 2 ^ 64 → after ≡ at + length (decimal n)
    → start + length (std_decimal n) ≡ after → drop start room' ≡ std_decimal n ++ drop after room → take start room' ≡ take start room
    → room' ≡ stored room at (decimal n)
number_stored room room' at start after n h a s written before =
    let here : start ≡ at = omega (arith, length_std n h) in
    stored_from room at room' (decimal n) (rw here at before) (rw (here, a, as_std n h) at written)
