-- Demand 3's promises about the real controller's replies, each under its own name: the ledger's, carried over by demand 2. Assumes nothing.
use Prim.Native.Nat.{ℕ, ◌-◌}
use mathlib.Core.Path.{◌≡◌, refl, sym, ap, subst, ◌∙◌}
use mathlib.Core.Logic.{inl, inr}
use mathlib.Core.Bool.{false, true}
use mathlib.Core.List.{List, ◌∷◌, ◌++◌}
use native.Mathlib.Omega.{arith}
use lib.ListN.{length, get_or}
use Rattle.answers.specs.Answers.{done, bad_address, stopped}
use Rattle.setup.specs.Setup.{map_of, with_defaults}
use Rattle.setup.specs.declared.Setup.{Setup}
use Rattle.map.specs.Map.{cell_of}
use Rattle.map.specs.declared.Address.{Address}
use Rattle.port.specs.declared.Operation.{Operation}
use Rattle.port.specs.declared.Operation.TheVariants.{Read}
use Rattle.port.specs.declared.Delivery.TheVariants.{Word}
use Rattle.port.specs.declared.Reply.{Reply}
use Rattle.model.specs.Calls.{address_ok}
use Rattle.model.specs.Runs.{Machine}
use Rattle.model.specs.Sram.{sram}
use Rattle.model.specs.Ledger.{Ledger, fresh_ledger, serviced, entered}
use Rattle.model.specs.Promises.{start_word, reply_at, promised, booked, ledger_at, history, NotRefused}
use Rattle.model.specs.Depths.{Alike, replies_to, DeeperTakes, WritesKept, SameWord, MergingKeepsWrites, NoneLost, AgreeUntil}
use Rattle.model.proofs.Entered.{entered_passes, entered_reaches, way, way_passes}
use Rattle.model.proofs.Signed.{emulates, reply-run, history-run, read-leaves}
use Rattle.model.proofs.Deeper.{deepened, deeper_deepened, same_ok}
use Rattle.model.proofs.Depths as depths

-- an answer of a cycle that is reached is neither 7 nor 4
passes_on : (n : ℕ) → NotRefused n → (n ≡ stopped → ⊥) × (n ≡ bad_address → ⊥)
passes_on n (inl p) = (λ e. absurd (omega arith), λ e. absurd (omega arith))
passes_on n (inr (inl p)) = (λ e. absurd (omega arith), λ e. absurd (omega arith))
passes_on n (inr (inr p)) = (λ e. absurd (omega arith), λ e. absurd (omega arith))

module _ (g₁ g₂ : Setup) (w₁ w₂ : Machine) (k : Alike g₁ g₂ w₁ w₂) where
  abbrev s : Setup
  s = with_defaults g₁

  -- so many places more has the deeper
  abbrev d : ℕ
  d = (with_defaults g₂).k - s.k

  abbrev start : Address → ℕ
  start = start_word g₁ w₁

  same-setup : with_defaults g₂ ≡ deepened s d
  same-setup = deeper_deepened s (with_defaults g₂) k.setups

  -- the map of a setup with d places more is its own, so are the starting words
  same-words : start_word g₂ w₂ ≡ start
  same-words =
      ap (λ (z : Setup). λ (a : Address). get_or w₂.1.memory (cell_of (map_of z) a).0 0) same-setup
      ∙ ap (λ (memory : List ℕ). λ (a : Address). get_or memory (cell_of (map_of s) a).0 0) (sym k.words)

  -- what holds of the setup with d places more over the same words holds of the deeper
  deeper : (P : Setup → (Address → ℕ) → Type 0) → P (deepened s d) start → P (with_defaults g₂) (start_word g₂ w₂)
  deeper P p = subst (λ (z : Setup). P z (start_word g₂ w₂)) (sym same-setup) (subst (P (deepened s d)) (sym same-words) p)

  -- the ledgers' replies
  shallow : (ops : List Operation) (op : Operation) → reply_at g₁ w₁ ops op ≡ (entered s start op (booked s start ops fresh_ledger)).0
  shallow ops op = reply-run g₁ w₁ k.first ops op

  deep : (ops : List Operation) (op : Operation)
      → reply_at g₂ w₂ ops op ≡ (entered (deepened s d) start op (booked (deepened s d) start ops fresh_ledger)).0
  deep ops op =
      reply-run g₂ w₂ k.second ops op
      ∙ deeper (λ z f. (entered z f op (booked z f ops fresh_ledger)).0 ≡ (entered (deepened s d) start op (booked (deepened s d) start ops fresh_ledger)).0) refl

  takes : (ops : List Operation) (op : Operation) → (reply_at g₁ w₁ ops op).answer ≡ done → (reply_at g₂ w₂ ops op).answer ≡ done
  takes ops op q =
      ap (λ (r : Reply). r.answer) (deep ops op)
      ∙ depths.deeper_takes s d start ops op (sym (ap (λ (r : Reply). r.answer) (shallow ops op)) ∙ q)

  module _ (ops : List Operation) (n : NoneLost (replies_to g₁ w₁ ops)) where
    kept : NoneLost (promised s start ops fresh_ledger)
    kept = subst NoneLost (emulates g₁ w₁ ops k.first) n

    until : replies_to g₂ w₂ ops ≡ replies_to g₁ w₁ ops
    until =
        emulates g₂ w₂ ops k.second
        ∙ deeper (λ z f. promised z f ops fresh_ledger ≡ promised s start ops fresh_ledger) (depths.same_until s d start ops kept)
        ∙ sym (emulates g₁ w₁ ops k.first)

    next : (op : Operation) → (reply_at g₂ w₂ ops op).delivery ≡ (reply_at g₁ w₁ ops op).delivery
    next op =
        ap (λ (r : Reply). r.delivery) (deep ops op)
        ∙ depths.same_next s d start ops kept op
        ∙ sym (ap (λ (r : Reply). r.delivery) (shallow ops op))

  ----------------------------------------------------------------------
  -- The same word

  -- a call that reaches its cycle
  reaches : (ops : List Operation) (op : Operation) → NotRefused (reply_at g₁ w₁ ops op).answer
      → ((ledger_at g₁ w₁ ops).halted ≡ false) × (address_ok s op ≡ true)
  reaches ops op p =
      let e : (reply_at g₁ w₁ ops op).answer ≡ (entered s start op (ledger_at g₁ w₁ ops)).0.answer = ap (λ (r : Reply). r.answer) (shallow ops op) in
      let f = passes_on (reply_at g₁ w₁ ops op).answer p in
      entered_reaches s start op (ledger_at g₁ w₁ ops) (λ z. f.0 (e ∙ z)) (λ z. f.1 (e ∙ z))

  -- reaches it in the deeper too
  reaches_deep : (ops : List Operation) (op : Operation) → NotRefused (reply_at g₁ w₁ ops op).answer
      → NotRefused (reply_at g₂ w₂ ops op).answer
  reaches_deep ops op p =
      let r = reaches ops op p in
      let l : Ledger = booked (deepened s d) start ops fresh_ledger in
      subst (λ (r : Reply). NotRefused r.answer) (sym (deep ops op))
      (subst (λ (e : Reply × Ledger). NotRefused e.0.answer)
      (sym (entered_passes (deepened s d) start op l (depths.deeper_goes s d start ops r.0) (same_ok s d op ∙ r.1)))
      (way_passes (deepened s d) op _ _ (serviced (deepened s d) l) _ (way (deepened s d) op _ _ (serviced (deepened s d) l))))

  -- after as many cycles
  same_cycles : (ops : List Operation) → (ledger_at g₁ w₁ ops).halted ≡ false → length (history g₂ w₂ ops) ≡ length (history g₁ w₁ ops)
  same_cycles ops u =
      ap length (history-run g₂ w₂ k.second ops)
      ∙ deeper (λ z f. length (booked z f ops fresh_ledger).past ≡ length (booked s start ops fresh_ledger).past) (depths.same_cycles s d start ops u)
      ∙ sym (ap length (history-run g₁ w₁ k.first ops))

  same-sram : (ops : List Operation) (a : Address) → WritesKept a ops (replies_to g₁ w₁ ops) → (ledger_at g₁ w₁ ops).halted ≡ false
      → sram (start_word g₂ w₂) (history g₂ w₂ ops) a ≡ sram start (history g₁ w₁ ops) a
  same-sram ops a f u =
      ap (λ (p : List Operation). sram (start_word g₂ w₂) p a) (history-run g₂ w₂ k.second ops)
      ∙ deeper (λ z h. sram h (booked z h ops fresh_ledger).past a ≡ sram start (booked s start ops fresh_ledger).past a)
      (sym (depths.same_word s d start a ops (subst (WritesKept a ops) (emulates g₁ w₁ ops k.first) f) u))
      ∙ sym (ap (λ (p : List Operation). sram start p a) (history-run g₁ w₁ k.first ops))

pub deeper_takes : DeeperTakes
deeper_takes g₁ g₂ w₁ w₂ k ops op q = takes g₁ g₂ w₁ w₂ k ops op q

pub agree_until : AgreeUntil
agree_until g₁ g₂ w₁ w₂ k ops n = (until g₁ g₂ w₁ w₂ k ops n, next g₁ g₂ w₁ w₂ k ops n)

pub same_word : SameWord
same_word g₁ g₂ w₁ w₂ k ops more a op taken kept far reach =
    let going = (reaches g₁ g₂ w₁ w₂ k ops (Read a) (inl taken)).0 in
    let all = ops ++ Read a ∷ more in
    let cycles = same_cycles g₁ g₂ w₁ w₂ k all (reaches g₁ g₂ w₁ w₂ k all op reach).0 in
    let cycles₀ = same_cycles g₁ g₂ w₁ w₂ k ops going in (
      read-leaves g₁ w₁ ops more a op k.first taken far reach,
      read-leaves g₂ w₂ ops more a op k.second (takes g₁ g₂ w₁ w₂ k ops (Read a) taken)
          (omega (arith, cycles, cycles₀, far, k.setups.delta)) (reaches_deep g₁ g₂ w₁ w₂ k all op reach)
          ∙ ap Word (same-sram g₁ g₂ w₁ w₂ k ops a kept going),
      cycles₀,
      cycles,
    )

pub merging_keeps_writes : MergingKeepsWrites
merging_keeps_writes g w h e ops a =
    subst (WritesKept a ops) (sym (emulates g w ops h)) (depths.merging_keeps_writes (with_defaults g) (start_word g w) e a ops fresh_ledger)
