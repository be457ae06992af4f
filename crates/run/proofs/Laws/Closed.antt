-- A thread that waits for itself through others, however many, makes a circle: the definition misses none.
use Rattle.std.specs.Prelude.{refl, ◌⊎◌, List, [], ◌∷◌, ℕ}
use Rattle.std.proofs.Common.{sym, inl, inr}
use Rattle.std.proofs.Math.Path.{subst}
use Rattle.table.specs.WellFormed.{In, NoDup}
use Rattle.run.specs.Decide.{in?}
use Rattle.run.specs.Run.{State, Waits, Line, Circle}

-- the thread waits for z, itself or through others
pub data WaitsFor (s : State) (z : ℕ) : ℕ → Type 0 where
  next : {t : ℕ} → Waits s t z → WaitsFor s z t
  through : {t : ℕ} (u : ℕ) → Waits s t u → WaitsFor s z u → WaitsFor s z t

-- the entries before x
before : (x : ℕ) (l : List ℕ) → In x l → List ℕ
before x [] x'' = elim x'' [ ]
before x (y ∷ l) (inl e) = []
before x (y ∷ l) (inr i) = y ∷ before x l i

before_in : (x y : ℕ) (l : List ℕ) (i : In x l) → In y (before x l i) → In y l
unfolding before
before_in x y (z ∷ l) (inl _) x5 = elim x5 [ ]
before_in x y [] i _ = elim i [ ]
before_in x y (z ∷ l) (inr i) (inl e) = inl e
before_in x y (z ∷ l) (inr i) (inr j) = inr (before_in x y l i j)

-- x is not one of them, and no two of them are equal
before_different : (x : ℕ) (l : List ℕ) (i : In x l) → NoDup l → NoDup (x ∷ before x l i)
unfolding before
before_different x [] i d = elim i [ ]
before_different x (y ∷ l) (inl e) d = ((λ j. j), tt)
before_different x (y ∷ l) (inr i) d =
    let r = before_different x l i d.1 in (
      (λ j. elim j [ inl e ↦ d.0 (subst (λ (z : ℕ). In z l) e i) | inr k ↦ r.0 k ]),
      ((λ j. d.0 (before_in x y l i j)), r.1),
    )

module _ (s : State) where
  -- a line stops before x at x
  line_before : (t : ℕ) (us : List ℕ) (z x : ℕ) → Line s t us z → (i : In x us) → Line s t (before x us i) x
  unfolding before
  line_before t [] z x w i = elim i [ ]
  line_before t (u ∷ us) z x w (inl e) = subst (Waits s t) (sym e) w.0
  line_before t (u ∷ us) z x w (inr i) = (w.0, line_before u us z x w.1 i)

  -- a line of different threads that comes back to its start
  closed : (t : ℕ) (us : List ℕ) → NoDup (t ∷ us) → Line s t us t → Circle s
  closed t [] d w = absurd (w.2 refl)
  closed t (u ∷ us) d w = record { one = t; two = u; more = us; different = d; waits = w }

  -- the threads of a line are different, or some of them make a circle
  different : (t : ℕ) (us : List ℕ) (z : ℕ) → Line s t us z → NoDup (t ∷ us) ⊎ Circle s
  different t [] z w = inl ((λ j. j), tt)
  different t (u ∷ us) z w = go (in? t (u ∷ us)) (different u us z w.1)
    where
      go : Dec (In t (u ∷ us)) → NoDup (u ∷ us) ⊎ Circle s → NoDup (t ∷ u ∷ us) ⊎ Circle s
      go d (inr c) = inr c
      go (no n) (inl d) = inl (n, d)
      go (yes i) (inl d) =
          inr (closed t (before t (u ∷ us) i) (before_different t (u ∷ us) i d) (line_before t (u ∷ us) z t w i))

  line_of : (z t : ℕ) → WaitsFor s z t → (us : List ℕ) × Line s t us z
  line_of z t (next w) = ([], w)
  line_of z t (through u w k) = let r = line_of z u k in (u ∷ r.0, (w, r.1))

  pub closed_has_circle : (t : ℕ) → WaitsFor s t t → Circle s
  closed_has_circle t k =
      let r = line_of t t k in
      elim (different t r.0 t r.1) [ inl d ↦ closed t r.0 d r.1 | inr c ↦ c ]
