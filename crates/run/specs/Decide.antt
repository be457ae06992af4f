-- Deciders: a decider's type says all that has to be believed of it.
use Rattle.std.specs.Prelude.{◌≡◌, ◌≢◌, ◌⊎◌, List, [], ◌∷◌, ℕ, zero, suc, get_or}
use Rattle.std.proofs.Common.{inl, inr}
use Rattle.std.proofs.Math.Decide.{ℕ_discrete}
use Rattle.table.specs.WellFormed.{In}

abbrev pub either? : {A B : Type 0} → Dec A → Dec B → Dec (A ⊎ B)
either? (yes a) d = yes (inl a)
either? (no n) (yes b) = yes (inr b)
either? (no n) (no m) = no (λ h. elim h [ inl a ↦ n a | inr b ↦ m b ])

abbrev pub both? : {A B : Type 0} → Dec A → Dec B → Dec (A × B)
both? (yes a) (yes b) = yes (a, b)
both? (yes a) (no m) = no (λ h. m h.1)
both? (no n) d = no (λ h. n h.0)

abbrev pub not? : {A : Type 0} → Dec A → Dec (¬ A)
not? (yes a) = no (λ n. n a)
not? (no n) = yes n

-- the list has the entry l
unfoldable pub in? : (l : ℕ) (ls : List ℕ) → Dec (In l ls)
in? l [] = no (λ h. h)
in? l (x ∷ xs) = either? (ℕ_discrete l x) (in? l xs)

-- an entry of the list with the property Q, of its place and itself; past the end there is d, which has it nowhere
unfoldable pub some? :
    {A : Type 0} (d : A) (xs : List A) (Q : ℕ → A → Type 0)
    → ((u : ℕ) (x : A) → Dec (Q u x)) → ((u : ℕ) → ¬ Q u d) → Dec ((u : ℕ) × Q u (get_or xs u d))
some? d [] Q q? out = no (λ h. out h.0 h.1)
some? d (x ∷ xs) Q q? out = join (q? 0 x) (some? d xs (λ u. Q (suc u)) (λ u. q? (suc u)) (λ u. out (suc u)))
  where
    join : Dec (Q 0 x) → Dec ((u : ℕ) × Q (suc u) (get_or xs u d)) → Dec ((u : ℕ) × Q u (get_or (x ∷ xs) u d))
    join (yes q) r = yes (0, q)
    join (no n) (yes r) = yes (suc r.0, r.1)
    join (no n) (no m) = no (λ h. nowhere h.0 h.1)
      where
        nowhere : (u : ℕ) → Q u (get_or (x ∷ xs) u d) → ⊥
        nowhere zero q = n q
        nowhere (suc u) q = m (u, q)

-- another entry of the list than the one at t has l in its list f; past the end there is d, whose list is empty
unfoldable pub elsewhere? :
    {A : Type 0} (f : A → List ℕ) (d : A) → f d ≡ []
    → (xs : List A) (t l : ℕ) → Dec ((u : ℕ) × ((u ≢ t) × In l (f (get_or xs u d))))
elsewhere? f d none xs t l =
    some? d xs (λ u x. (u ≢ t) × In l (f x))
    (λ u x. both? (not? (ℕ_discrete u t)) (in? l (f x))) (λ u h. rw none at h.1)
