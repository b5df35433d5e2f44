-- A run keeps the invariant, and delivers what the ideal SRAM owes to the operation taken delay cycles ago. Assumes nothing.
use mathlib.Core.Path.{◌≡◌, refl}
use mathlib.Core.Bool.{Bool, true, false, cond}
use Prim.Native.Nat.{ℕ, zero, suc, ◌-◌, ◌*◌, ◌≤◌, ◌<◌}
use native.Mathlib.Omega.{arith}
use Rattle.theory.proofs.Test.{lt, Says, is, isnt, lt?}
use Rattle.theory.proofs.Operations.{Op, idle, read, write, Setup, Fine, upd, nil, owed, ideal}
use Rattle.theory.proofs.Machine.{St, Run, on, off, out, Going, deliver, served, takes, gives, run, did}
use Rattle.theory.proofs.Keeps.{Taken, Clock, GoodRun, cycle_good, serve_good, delivers, window, fresh_good}

-- where every address is allowed
pub any : {W : Type 0} (o : Op W) → Fine (λ a. Unit {0}) o
any idle = tt
any (read a) = tt
any (write a w) = tt

module _ (W : Type 0) (mode : Bool) (g : Setup) (K : ℕ) (mem : ℕ → W) (ops : ℕ → Op W) (Addr : ℕ → Type 0) (fine : (t : ℕ) → Fine Addr (ops t)) where
  pub ideal-suc : (t a : ℕ) → ideal mem (did mode g K mem ops) (suc t) a ≡ upd a (did mode g K mem ops t) (ideal mem (did mode g K mem ops) t a)
  unfolding ideal
  ideal-suc t a = refl

  pub did_legal : (t : ℕ) → Fine Addr (did mode g K mem ops t)
  unfolding did
  did_legal t = go (takes mode g K t (ops t) (run mode g K mem ops t)) (ops t) (fine t)
    where
      go : (x : Bool) (o : Op W) → Fine Addr o → Fine Addr (cond x o idle)
      go true o h = h
      go false o h = tt

  -- the operations that the run takes, and the ideal SRAM given only these
  abbrev pub taken : Taken W Addr
  taken = record { did = did mode g K mem ops; I = ideal mem (did mode g K mem ops); I-suc = ideal-suc; legal = did_legal }

  module _ (m : ℕ) (clock : Clock m g) (fits : K * m ≤ g.delay) where
    pub run_good : (t : ℕ) → GoodRun W g m Addr taken clock K fits mode t (run mode g K mem ops t)
    unfolding run ideal did
    run_good zero = fresh_good W g m Addr taken clock K fits mode mem (λ a. refl)
    run_good (suc t) = cycle_good W g m Addr taken clock K fits mode t (ops t) (run mode g K mem ops t) (run_good t) refl

    pub delivery : 0 < g.delay → (t : ℕ) → Going (run mode g K mem ops t)
        → gives mode g K t (run mode g K mem ops t) ≡ cond (lt t g.delay) nil (owed (taken.did (t - g.delay)) (taken.I (t - g.delay)))
    unfolding deliver
    delivery pos t = go (run mode g K mem ops t) (run_good t)
      where
        at : (s : St W) → GoodRun W g m Addr taken clock K fits mode t (on s) → (x : Bool) → Says (t < g.delay) x
            → cond x nil (out ((served g t s).row (t - g.delay))) ≡ cond x nil (owed (taken.did (t - g.delay)) (taken.I (t - g.delay)))
        at s i x (is h) = refl
        at s i x (isnt f) =
            let n = window W g m Addr taken clock K fits mode in
            delivers W g m Addr taken clock K fits n t (t - g.delay) (served g t s) (serve_good W g m Addr taken clock K fits n t s i) (omega arith) pos

        go : (r : Run W) → GoodRun W g m Addr taken clock K fits mode t r → Going r
            → gives mode g K t r ≡ cond (lt t g.delay) nil (owed (taken.did (t - g.delay)) (taken.I (t - g.delay)))
        go (on s) i u = at s i (lt t g.delay) (lt? t g.delay)
        go (off s) i u = absurd u
