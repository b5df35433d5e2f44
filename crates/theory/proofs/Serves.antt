-- To serve banks one after the other is to serve them at once. Assumes nothing.
use mathlib.Core.Path.{◌≡◌, refl, sym, ap, ◌∙◌, fun_ext}
use mathlib.Core.Logic.{◌⊎◌, inl, inr}
use mathlib.Core.Bool.{Bool, true, false, cond}
use mathlib.Core.List.{List, [], ◌∷◌}
use Prim.Native.Nat.{ℕ, suc, ◌%◌, ◌≤◌, ◌<◌}
use native.Mathlib.Omega.{arith}
use Rattle.theory.proofs.Test.{same, lt, Says, is, isnt, lt?, same?, lt_false, lt_true}
use Rattle.theory.proofs.Machine.{Entry, rd, wr, Row, none, put, got, wait, St, pop, filled, fill, serve}
use Rattle.theory.proofs.Concrete.{due}

-- the banks of p' are not among those of p, and together they are those of p''
abbrev pub Join : Bool → Bool → Bool → Type 0
Join x x' x'' = ((x ≡ false) × (x'' ≡ x')) ⊎ ((x' ≡ false) × (x'' ≡ x))

module _ {W : Type 0} (bank : ℕ → ℕ) where
  st_path : (s s' : St W) → ((b : ℕ) → s.buf b ≡ s'.buf b) → ((a : ℕ) → s.mem a ≡ s'.mem a) → ((r : ℕ) → s.row r ≡ s'.row r) → s ≡ s'
  st_path s s' p q r = λ i. record { buf = λ b. p b i; mem = λ a. q a i; row = λ n. r n i }

  fill_none : (s : St W) (x : Row W) → fill bank (λ b. false) s x ≡ x
  fill_none s none = refl
  fill_none s (put a w) = refl
  fill_none s (got a w) = refl
  fill_none s (wait a n) = refl

  serve_none : (s : St W) → serve bank (λ b. false) s ≡ s
  serve_none s = st_path _ _ (λ b. refl) (λ a. refl) (λ r. fill_none s (s.row r))

  fill_rest : (p : ℕ → Bool) (s : St W) (x : Bool) (q : List (Entry W)) (a n : ℕ) (v : W) → p (bank a) ≡ false → fill bank p s (filled x q a n v) ≡ filled x q a n v
  fill_rest p s false q a n v e = rw e
  fill_rest p s true [] a n v e = rw e
  fill_rest p s true (wr b w ∷ q) a n v e = rw e
  fill_rest p s true (rd b k ∷ q) a n v e = go (same k n)
    where
      go : (y : Bool) → fill bank p s (cond y (got a v) (wait a n)) ≡ cond y (got a v) (wait a n)
      go true = refl
      go false = rw e

  module _ (p p' p'' : ℕ → Bool) (s : St W) (h : (b : ℕ) → Join (p b) (p' b) (p'' b)) where
    join_fill : (x : Row W) → fill bank p' (serve bank p s) (fill bank p s x) ≡ fill bank p'' s x
    join_fill none = refl
    join_fill (put a w) = refl
    join_fill (got a w) = refl
    join_fill (wait a n) = go (h (bank a))
      where
        go : Join (p (bank a)) (p' (bank a)) (p'' (bank a))
            → fill bank p' (serve bank p s) (fill bank p s (wait a n)) ≡ fill bank p'' s (wait a n)
        go (inl e) = rw (e.0, e.1, e.0)
        go (inr e) = fill_rest p' (serve bank p s) (p (bank a)) (s.buf (bank a)) a n (s.mem a) e.0 ∙ rw e.1

    join_buf : (b : ℕ) → pop (p' b) (pop (p b) (s.buf b)) ≡ pop (p'' b) (s.buf b)
    join_buf b = go (h b)
      where
        go : Join (p b) (p' b) (p'' b) → pop (p' b) (pop (p b) (s.buf b)) ≡ pop (p'' b) (s.buf b)
        go (inl e) = rw (e.0, e.1)
        go (inr e) = rw (e.0, e.1)

    join_mem : (a : ℕ) → (serve bank p' (serve bank p s)).mem a ≡ (serve bank p'' s).mem a
    join_mem a = go (h (bank a))
      where
        go : Join (p (bank a)) (p' (bank a)) (p'' (bank a)) → (serve bank p' (serve bank p s)).mem a ≡ (serve bank p'' s).mem a
        go (inl e) = rw (e.0, e.1)
        go (inr e) = rw (e.0, e.1)

    pub serve_join : serve bank p' (serve bank p s) ≡ serve bank p'' s
    serve_join = st_path _ _ join_buf join_mem (λ r. join_fill (s.row r))

------------------------------------------------------------------------
-- The first n banks, of those whose turn it is; then the next bank

module _ (m t : ℕ) where
  abbrev pub firsts : ℕ → ℕ → Bool
  firsts n b = due m n b t

  firsts_zero : (b : ℕ) → firsts 0 b ≡ false
  firsts_zero b = rw (lt_false {a = b} {b = 0} (omega arith))

  off_last : (x : Bool) → cond x false false ≡ false
  off_last true = refl
  off_last false = refl

  on_last : (x : Bool) → x ≡ cond x true false
  on_last true = refl
  on_last false = refl

  lt-next : (n b : ℕ) → ¬ (n ≡ b) → lt b (suc n) ≡ lt b n
  lt-next n b f = go (lt b n) (lt? b n)
    where
      go : (y : Bool) → Says (b < n) y → lt b (suc n) ≡ y
      go y (is h) = lt_true (omega arith)
      go y (isnt h) = lt_false (omega arith)

  -- the bank n's own turn, x
  firsts-suc : (n : ℕ) (x : Bool) → same (n % m) (t % m) ≡ x → (b : ℕ) → Join (firsts n b) (cond x (same n b) false) (firsts (suc n) b)
  firsts-suc n x e b = go (same n b) (same? n b)
    where
      go : (y : Bool) → Says (n ≡ b) y → Join (firsts n b) (cond x y false) (firsts (suc n) b)
      go y (is p) =
          let h : n ≤ b = omega arith in
          let h' : b < suc n = omega arith in
          inl (rw (lt_false h), rw (lt_true h', ← p, e) (on_last x))
      go y (isnt f) = inr (off_last x, rw (lt-next n b f))

  pub serve-next : {W : Type 0} (bank : ℕ → ℕ) (n : ℕ) (s : St W) → same (n % m) (t % m) ≡ true → serve bank (same n) (serve bank (firsts n) s) ≡ serve bank (firsts (suc n)) s
  serve-next bank n s e = serve_join bank (firsts n) (same n) (firsts (suc n)) s (firsts-suc n true e)

  pub serve_pass : {W : Type 0} (bank : ℕ → ℕ) (n : ℕ) (s : St W) → same (n % m) (t % m) ≡ false → serve bank (firsts n) s ≡ serve bank (firsts (suc n)) s
  serve_pass bank n s e = sym (serve_none bank (serve bank (firsts n) s)) ∙ serve_join bank (firsts n) (λ b. false) (firsts (suc n)) s (firsts-suc n false e)

  pub serve_zero : {W : Type 0} (bank : ℕ → ℕ) (s : St W) → serve bank (firsts 0) s ≡ s
  serve_zero bank s = ap (λ (p : ℕ → Bool). serve bank p s) (fun_ext firsts_zero) ∙ serve_none bank s
