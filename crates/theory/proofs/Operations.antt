-- What the machines share: operations, deliveries, replies, the setup, the ideal SRAM. Assumes nothing.
use mathlib.Core.Bool.{Bool, false, cond}
use Prim.Native.Nat.{ℕ, zero, suc}
use Rattle.theory.proofs.Test.{same}

pub data Op (W : Type 0) : Type 0 where
  idle : Op W
  read : ℕ → Op W
  write : ℕ → W → Op W

-- what two controllers that differ in depth alone share. The table has suc rest rows
pub record Setup : Type 0 where
  pub bank : ℕ → ℕ
  pub due : ℕ → ℕ → Bool
  pub delay : ℕ
  pub rest : ℕ

pub data Delivery (W : Type 0) : Type 0 where
  nil : Delivery W
  unready : Delivery W
  word : W → Delivery W

-- what a call returns
pub record Reply (W : Type 0) : Type 0 where
  pub answer : ℕ
  pub delivery : Delivery W

module _ {W : Type 0} where
  -- an operation on an address that Addr allows
  abbrev pub Fine : (ℕ → Type 0) → Op W → Type 0
  Fine Addr idle = Unit {0}
  Fine Addr (read a) = Addr a
  Fine Addr (write a w) = Addr a

  -- whether an operation is on the address a, and whether it writes it
  abbrev pub touches : ℕ → Op W → Bool
  touches a idle = false
  touches a (read b) = same b a
  touches a (write b w) = same b a

  abbrev pub rewrites : ℕ → Op W → Bool
  rewrites a idle = false
  rewrites a (read b) = false
  rewrites a (write b w) = same b a

  -- the word at address a after an operation
  abbrev pub upd : ℕ → Op W → W → W
  upd a idle v = v
  upd a (read b) v = v
  upd a (write b w) v = cond (same b a) w v

  -- the ideal SRAM: the words before cycle t, given the operations done
  unfoldable pub ideal : (ℕ → W) → (ℕ → Op W) → ℕ → ℕ → W
  ideal mem did zero a = mem a
  ideal mem did (suc t) a = upd a (did t) (ideal mem did t a)

  -- what is owed to an operation, where the ideal SRAM holds the words v
  abbrev pub owed : Op W → (ℕ → W) → Delivery W
  owed idle v = nil
  owed (write a w) v = nil
  owed (read a) v = word (v a)
