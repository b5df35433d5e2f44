-- Little-endian numbers: what the library reads and writes, and the round trip over any width.
-- Assumes nothing.
use Prim.Native.Nat.{ℕ, zero, suc, ◌+◌, ◌*◌, ◌/◌, ◌%◌, ◌^◌, ◌≤◌, ◌<◌}
use mathlib.Core.Path.{◌≡◌, refl, sym, ◌∙◌}
use mathlib.Core.List.{List, [], ◌∷◌, ◌++◌}
use native.Mathlib.Nat.{add-zero, pow-suc, div-one, div-div-eq-div-mul}
use native.Mathlib.Numerals.{add-one, add-two, add-three}
use native.Mathlib.Omega.{arith}
use lib.ListN.{length, drop}
use lib.Seq.{drop-cons, drop-drop, get_or-drop}
use Rattle.std.specs.Int.{Width, w16, w32, byte_len, bytes_low_first, to_le_bytes, from_le_bytes}
use Rattle.std.specs.Int as int
use Rattle.octets.specs.Bytes.{base, byte_at, Bytes, number_at, bytes_of}

------------------------------------------------------------------------
-- The library's numbers in bytes are those of specs/Bytes.antt

module _ (s : List ℕ) (i : ℕ) where
  pub two_read : from_le_bytes w16 (byte_at s i ∷ byte_at s (i + 1) ∷ []) ≡ number_at 2 s i
  unfolding number_at
  two_read = rw (add-one i) (omega arith)

  pub four_read : from_le_bytes w32 (byte_at s i ∷ byte_at s (i + 1) ∷ byte_at s (i + 2) ∷ byte_at s (i + 3) ∷ []) ≡ number_at 4 s i
  unfolding number_at
  four_read = rw (add-one i, add-two i, add-three i) (omega arith)

-- byte i of x is the lowest of what is left of x from there on
byte_is : (i x : ℕ) → int.byte_at i x ≡ x / base ^ i % base
byte_is zero x = rw (div-one x)
byte_is (suc i) x = refl

bytes_from : (n i x : ℕ) → bytes_low_first i n x ≡ bytes_of n (x / base ^ i)
unfolding bytes_of
bytes_from zero i x = refl
bytes_from (suc n) i x = rw (bytes_from n (suc i) x, div-div-eq-div-mul x (base ^ i) base, pow-suc base i, byte_is i x)

pub bytes_written : (w : Width) (x : ℕ) → to_le_bytes w x ≡ bytes_of (byte_len w) x
bytes_written w x = bytes_from (byte_len w) 0 x ∙ rw (div-one x)

------------------------------------------------------------------------
-- The round trip of a number of n bytes

-- the number from i is the one in front of what is left from i
from_front : (n : ℕ) (s : List ℕ) (i : ℕ) → number_at n s i ≡ number_at n (drop i s) 0
unfolding number_at
from_front zero s i = refl
from_front (suc n) s i =
    rw (get_or-drop i s 0 0, add-zero i, from_front n s (suc i), from_front n (drop i s) 1, drop-drop 1 i s, add-one i)

front : (n x : ℕ) (rest : List ℕ) → x < base ^ n → number_at n (bytes_of n x ++ rest) 0 ≡ x
unfolding number_at bytes_of
front zero x rest h = omega arith
front (suc n) x rest h =
    let l : x / base < base ^ n = omega (arith, pow-suc base n) in
    rw (from_front n (x % base ∷ (bytes_of n (x / base) ++ rest)) 1, front n (x / base) rest l) (omega arith)

-- where the n bytes of x stand, x is read
pub number_bytes : (n x : ℕ) (s rest : List ℕ) (i : ℕ) → x < base ^ n → drop i s ≡ bytes_of n x ++ rest
    → number_at n s i ≡ x
number_bytes n x s rest i h e = from_front n s i ∙ rw e (front n x rest h)

-- what is read from i has the bytes that stand there
pub bytes_number : (n : ℕ) (s : List ℕ) (i : ℕ) → Bytes s → i + n ≤ length s
    → bytes_of n (number_at n s i) ++ drop (i + n) s ≡ drop i s
unfolding number_at bytes_of
bytes_number zero s i b h = rw (add-zero i)
bytes_number (suc n) s i b h =
    let m : ℕ = number_at n s (suc i) in
    let low : (byte_at s i + base * m) % base ≡ byte_at s i = omega (arith, b i) in
    let high : (byte_at s i + base * m) / base ≡ m = omega (arith, b i) in
    let next : i + suc n ≡ suc i + n = omega arith in
    rw (low, high, next, bytes_number n s (suc i) b (omega arith)) (sym (drop-cons s i 0 (omega arith)))

pub bytes_byte : (s : List ℕ) (i : ℕ) → i < length s → byte_at s i ∷ drop (suc i) s ≡ drop i s
bytes_byte s i h = sym (drop-cons s i 0 h)
