-- Cycle for cycle, the machine by position replies as the machine by cycle number, and its buffers hold as many entries. Assumes nothing.
use mathlib.Core.Path.{◌≡◌, refl, sym, ap}
use mathlib.Core.Bool.{Bool, cond}
use Prim.Native.Nat.{ℕ, zero, suc}
use native.Mathlib.Nat.{zero-mod}
use native.Mathlib.Omega.{arith}
use lib.ListN.{length, length-replicate, get_or-replicate}
use Rattle.answers.specs.Answers.{done, dropped}
use Rattle.theory.proofs.Operations.{Op, Setup, Fine}
use Rattle.theory.proofs.Machine.{St, Kept, Run, none, Plan, fresh, served, retire, plan, land, finish, cycle, answer?, answer, gives, reply, run}
use Rattle.theory.proofs.Machine as M
use Rattle.theory.proofs.Concrete.{Config, Legal, setup, CSt, CKept, CRun, fresh_c, serve_to, retire_c, land_c, plan_c, finish_c, cycle_c, answer_c?, answer_c, gives_c, reply_c, run_c}
use Rattle.theory.proofs.Concrete as N
use Rattle.theory.proofs.Keeps.{Taken, Clock, GoodRun}
use Rattle.theory.proofs.Turns.{clock}
use Rattle.theory.proofs.Sim.{Sim, SimKept, same_length, sim_serve, sim_retire, sim_plan, sim_land, sim_deliver, plan_at}
use Rattle.theory.proofs.Runs.{taken, run_good}

module _ (W : Type 0) (k : Config) where
  -- a stopped machine is asked for its counts alone
  abbrev pub SimRun : ℕ → CRun W → Run W → Type 0
  SimRun t (N.on c) (M.on s) = Sim W k t c s
  SimRun t (N.off c) (M.off s) = (b : ℕ) → length (c.buf b) ≡ length (s.buf b)
  SimRun t (N.on c) (M.off s) = ⊥
  SimRun t (N.off c) (M.on s) = ⊥

module _ (k : Config) (K : ℕ) (l : Legal k K) where
  abbrev pub ticks : Clock k.m (setup k)
  ticks = clock k.m k.banks l.turns k.bank k.delay k.rest l.within

module _ (W : Type 0) (mode : Bool) (k : Config) (K : ℕ) (l : Legal k K) (mem : ℕ → W) (ops : ℕ → Op W) (Addr : ℕ → Type 0) (fine : (t : ℕ) → Fine Addr (ops t)) where
  abbrev g : Setup
  g = setup k

  abbrev ta : Taken W Addr
  ta = taken W mode g K mem ops Addr fine

  abbrev Good : ℕ → Run W → Type 0
  Good t r = GoodRun W g k.m Addr ta (ticks k K l) K l.fits mode t r

  sim_fresh : Sim W k 0 (fresh_c k mem) (fresh mem)
  sim_fresh = record {
    bufs = λ b. refl;
    mems = λ a. refl;
    tabs = record { size = length-replicate (suc k.rest) none; live = λ r h j. absurd (omega arith); unused = λ p h j. get_or-replicate (suc k.rest) p none none j };
    turns = sym (zero-mod k.m);
    places = sym (zero-mod (suc k.rest));
  }

  after_service_lem : (t : ℕ) (c : CSt W) (s : St W) → Sim W k t c s → Good t (M.on s) → Sim W k t (serve_to k.m k.banks c) (served g t s)
  after_service_lem t c s m i = sim_serve W k Addr ta l.long k.banks t (λ b. (ticks k K l).next b t) c s m (i.0, λ a. (ticks k K l).ahead a t)

  sim_finish : (t : ℕ) (o : Op W) (c : CSt W) (s : St W) → Sim W k t c s → (ck : CKept W) (sk : Kept W) → SimKept W k t ck sk
      → (answer_c? mode k K o ck ≡ answer? mode g K t o sk) × SimRun W k (suc t) (finish_c mode k K o c ck) (finish mode g K t o s sk)
  sim_finish t o c s i (N.kept d) (M.kept r) m = go (plan_c mode k o d) (sim_plan W k mode t o d r m)
    where
      go : (p : Plan W) → p ≡ plan_at W k (plan mode g t o r)
          → (cond (land_c k K p d).taken done dropped ≡ cond (land K t (plan mode g t o r) r).taken done dropped)
          × Sim W k (suc t) (land_c k K p d).st (land K t (plan mode g t o r) r).st
      go p e = rw e (let z = sim_land W k l.turns K t (plan mode g t o r) d r m in (ap (λ (x : Bool). cond x done dropped) z.0, z.1))
  sim_finish t o c s i (N.kept d) M.full m = absurd m
  sim_finish t o c s i N.full (M.kept r) m = absurd m
  sim_finish t o c s i N.full M.full m = (refl, λ b. same_length W k b t c s i)

  sim_cycle : (t : ℕ) (o : Op W) (c : CRun W) (s : Run W) → SimRun W k t c s → Good t s
      → (answer_c mode k K o c ≡ answer mode g K t o s) × SimRun W k (suc t) (cycle_c mode k K o c) (cycle mode g K t o s)
  sim_cycle t o (N.off c) (M.off s) m i = (refl, m)
  sim_cycle t o (N.on c) (M.off s) m i = absurd m
  sim_cycle t o (N.off c) (M.on s) m i = absurd m
  sim_cycle t o (N.on c) (M.on s) m i =
      let j = after_service_lem t c s m i in
      sim_finish t o (serve_to k.m k.banks c) (served g t s) j (retire_c mode k K (serve_to k.m k.banks c)) (retire mode g K t (served g t s))
      (sim_retire W k mode K t (serve_to k.m k.banks c) (served g t s) j)

  sim_gives : (t : ℕ) (c : CRun W) (s : Run W) → SimRun W k t c s → Good t s → gives_c mode k K c ≡ gives mode g K t s
  sim_gives t (N.off c) (M.off s) m i = refl
  sim_gives t (N.on c) (M.off s) m i = absurd m
  sim_gives t (N.off c) (M.on s) m i = absurd m
  sim_gives t (N.on c) (M.on s) m i = sim_deliver W k t (serve_to k.m k.banks c) (served g t s) l.long l.delays (after_service_lem t c s m i)

  still_good : (t : ℕ) → Good t (run mode g K mem ops t)
  still_good t = run_good W mode g K mem ops Addr fine k.m (ticks k K l) l.fits t

  pub sim_run : (t : ℕ) → SimRun W k t (run_c mode k K mem ops t) (run mode g K mem ops t)
  unfolding run run_c
  sim_run zero = sim_fresh
  sim_run (suc t) = (sim_cycle t (ops t) (run_c mode k K mem ops t) (run mode g K mem ops t) (sim_run t) (still_good t)).1

  pub sim_reply : (t : ℕ) → reply_c mode k K (ops t) (run_c mode k K mem ops t) ≡ reply mode g K t (ops t) (run mode g K mem ops t)
  sim_reply t =
      let c = run_c mode k K mem ops t in
      let s = run mode g K mem ops t in
      let a : answer_c mode k K (ops t) c ≡ answer mode g K t (ops t) s = (sim_cycle t (ops t) c s (sim_run t) (still_good t)).0 in
      let d : gives_c mode k K c ≡ gives mode g K t s = sim_gives t c s (sim_run t) (still_good t) in
      rw (a, d)
