-- Facts about the entries of a list that only come to hold and can be decided: there is a first round that changes
-- none.
use Rattle.std.specs.Prelude.{◌≡◌, refl, ◌⊎◌, List, [], ◌∷◌, ℕ, zero, suc, ◌+◌, ◌≤◌, ◌<◌, length}
use Rattle.std.proofs.Common.{inl, inr, arith}
use Rattle.std.proofs.Math.Decide.{ℕ_discrete, dec_lt}
use Rattle.table.specs.WellFormed.{In}
use Rattle.rounds.proofs.Laws.Counts.{changes_le}

module _ {A : Type 0} (Q : ℕ → A → Type 0) (xs : List A) where
  -- round i + 1 changes none of the facts
  abbrev pub Still : ℕ → Type 0
  Still i = (x : A) → In x xs → Q (suc i) x → Q i x

  -- the first such round
  pub record FirstStill : Type 0 where
    pub at : ℕ
    pub still : Still at
    pub first : (i : ℕ) → Still i → at ≤ i

module _ {A : Type 0} (Q : ℕ → A → Type 0) (xs : List A) (decide : (i : ℕ) (x : A) → Dec (Q i x)) where
  -- whether the facts of some of the entries stay
  some_still? : (i : ℕ) (ys : List A) → Dec ((x : A) → In x ys → Q (suc i) x → Q i x)
  some_still? i [] = yes (λ x z. absurd z)
  some_still? i (y ∷ ys) = go (some_still? i ys) (decide (suc i) y) (decide i y)
    where
      go : Dec ((x : A) → In x ys → Q (suc i) x → Q i x) → Dec (Q (suc i) y) → Dec (Q i y)
          → Dec ((x : A) → In x (y ∷ ys) → Q (suc i) x → Q i x)
      go (no n) d e = no (λ f. n (λ x j. f x (inr j)))
      go (yes f) d (yes q) = yes all
        where
          all : (x : A) → (x ≡ y) ⊎ In x ys → Q (suc i) x → Q i x
          all x (inl e) w = rw e q
          all x (inr j) w = f x j w
      go (yes f) (no n) (no m) = yes all
        where
          all : (x : A) → (x ≡ y) ⊎ In x ys → Q (suc i) x → Q i x
          all x (inl e) w = absurd (n (rw e at w))
          all x (inr j) w = f x j w
      go (yes f) (yes q) (no m) = no (λ g. m (g y (inl refl) q))

  module _ (rises : (i : ℕ) (x : A) → Q i x → Q (suc i) x) where
    search_from : (fuel i : ℕ) → fuel + i ≡ suc (length xs) → ((j : ℕ) → j < i → Still Q xs j → ⊥) → FirstStill Q xs
    search_from zero i e f = absurd (let h = changes_le Q xs rises i f in omega arith)
    search_from (suc fuel) i e f = go (some_still? i xs) (search_from fuel (suc i) (omega arith))
      where
        go : Dec (Still Q xs i) → (((j : ℕ) → j < suc i → Still Q xs j → ⊥) → FirstStill Q xs) → FirstStill Q xs
        go (yes s) rest = record { at = i; still = s; first = least }
          where
            least : (j : ℕ) → Still Q xs j → i ≤ j
            least j t = by (dec_lt j i)
              where
                by : Dec (j < i) → i ≤ j
                by (yes l) = absurd (f j l t)
                by (no m) = omega arith
        go (no n) rest = rest later
          where
            later : (j : ℕ) → j < suc i → Still Q xs j → ⊥
            later j l t = by (ℕ_discrete j i)
              where
                by : Dec (j ≡ i) → ⊥
                by (yes e) = n (rw e at t)
                by (no m) = f j (omega arith) t

    pub first_still : FirstStill Q xs
    first_still = search_from (suc (length xs)) 0 (omega arith) (λ j l. absurd (omega arith))
