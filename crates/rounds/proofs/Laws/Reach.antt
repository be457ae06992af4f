-- Whether a routine reaches another by calls can be decided.
use Rattle.std.specs.Prelude.{◌≡◌, refl, ◌⊎◌, List, [], ◌∷◌, ℕ, zero, suc, length}
use Rattle.std.proofs.Common.{inl, inr}
use Rattle.std.proofs.Math.Decide.{ℕ_discrete}
use Rattle.table.proofs.Laws.Lists.{body_listed}
use Rattle.table.specs.Program.{Program, body}
use Rattle.table.specs.WellFormed.{In}
use Rattle.rules.specs.Verdict.{Calls}
use Rattle.rules.proofs.Laws.Lists.{up_to, in_up_to}
use Rattle.rules.proofs.Laws.Judge.{calls_of, is_call}
use Rattle.rounds.specs.Reaches.{ReachesBy, calls, passes, Touched}
use Rattle.rounds.proofs.Laws.Search.{FirstStill, first_still}

-- whether an entry of the list has the property
pub some? : (F : ℕ → Type 0) → ((x : ℕ) → Dec (F x)) → (xs : List ℕ) → Dec ((x : ℕ) × In x xs × F x)
some? F d [] = no (λ w. w.1)
some? F d (y ∷ xs) = go (d y) (some? F d xs)
  where
    go : Dec (F y) → Dec ((x : ℕ) × In x xs × F x) → Dec ((x : ℕ) × In x (y ∷ xs) × F x)
    go (yes p) r = yes (y, inl refl, p)
    go (no n) (yes w) = yes (w.0, inr w.1, w.2)
    go (no n) (no m) = no (λ w. neither w.0 w.1 w.2)
      where
        neither : (x : ℕ) → (x ≡ y) ⊎ In x xs → F x → ⊥
        neither x (inl q) p = n (rw q at p)
        neither x (inr i) p = m (x, i, p)

module _ (P : Program) (r : ℕ) where
  -- q reaches r by at most j calls
  abbrev Near : ℕ → ℕ → Type 0
  Near zero q = ⊥
  Near (suc j) q = (p : ℕ) × In p (calls_of (body P q)) × ((p ≡ r) ⊎ Near j p)

  within? : (j q : ℕ) → Dec (Near j q)
  within? zero q = no (λ z. z)
  within? (suc j) q =
      some? (λ p. (p ≡ r) ⊎ Near j p) (λ p. go p (ℕ_discrete p r) (within? j p)) (calls_of (body P q))
    where
      go : (p : ℕ) → Dec (p ≡ r) → Dec (Near j p) → Dec ((p ≡ r) ⊎ Near j p)
      go p (yes e) d = yes (inl e)
      go p (no n) (yes w) = yes (inr w)
      go p (no n) (no m) = no (λ v. elim v [ inl e ↦ n e | inr w ↦ m w ])

  further : (j q : ℕ) → Near j q → Near (suc j) q
  further zero q w = absurd w
  further (suc j) q w = (w.0, w.1, go (further j w.0) w.2)
    where
      go : (Near j w.0 → Near (suc j) w.0) → (w.0 ≡ r) ⊎ Near j w.0 → (w.0 ≡ r) ⊎ Near (suc j) w.0
      go f (inl e) = inl e
      go f (inr v) = inr (f v)

  reaches : (j q : ℕ) → Near j q → ReachesBy P q r
  reaches zero q w = absurd w
  reaches (suc j) q w = go w.0 ((is_call (body P q) w.0).fact w.1) (reaches j w.0) w.2
    where
      go : (p : ℕ) → Calls (body P q) p → (Near j p → ReachesBy P p r) → (p ≡ r) ⊎ Near j p → ReachesBy P q r
      go p c f (inl e) = calls (rw e at c)
      go p c f (inr v) = passes c (f v)

  last : FirstStill Near (up_to (length P))
  last = first_still Near (up_to (length P)) within? further

  back : (q : ℕ) → Near (suc last.at) q → Near last.at q
  back q w =
      let h = body_listed P q (λ c. In w.0 (calls_of c)) (λ z. z) w.1 in
      last.still q (in_up_to q (length P) h) w

  within : {q p : ℕ} → ReachesBy P q p → p ≡ r → Near last.at q
  within (calls {q = q} {r = p} c) e = back q (p, (is_call (body P q) p).entry c, inl e)
  within (passes {q = q} {s = s} c w) e = back q (s, (is_call (body P q) s).entry c, inr (within w e))

  pub reaches? : (q : ℕ) → Dec (ReachesBy P q r)
  reaches? q = go (within? last.at q)
    where
      go : Dec (Near last.at q) → Dec (ReachesBy P q r)
      go (yes w) = yes (reaches last.at q w)
      go (no n) = no (λ w. n (within w refl))

-- whether a routine is r or reaches it
pub touched? : (P : Program) (r q : ℕ) → Dec (Touched P r q)
touched? P r q = go (ℕ_discrete q r) (reaches? P r q)
  where
    go : Dec (q ≡ r) → Dec (ReachesBy P q r) → Dec (Touched P r q)
    go (yes e) d = yes (inl e)
    go (no n) (yes w) = yes (inr w)
    go (no n) (no m) = no (λ t. elim t [ inl e ↦ n e | inr w ↦ m w ])
