-- Facts about the entries of a list that only come to hold: as many rounds change something as there are entries.
use Rattle.std.specs.Prelude.{◌≡◌, refl, ◌⊎◌, List, [], ◌∷◌, ℕ, zero, suc, ◌≤◌, ◌<◌, length}
use Rattle.std.proofs.Common.{inl, inr, arith}
use Rattle.std.proofs.Math.Decide.{dec_lt}
use Rattle.table.specs.WellFormed.{In}

-- the fact Q holds of k entries of the list
abbrev Counts : {A : Type 0} → (A → Type 0) → List A → ℕ → Type 0
Counts Q [] k = k ≡ 0
Counts Q (x ∷ xs) k = ((j : ℕ) × (k ≡ suc j) × Q x × Counts Q xs j) ⊎ ((Q x → ⊥) × Counts Q xs k)

module _ {A : Type 0} where
  -- there is such a number, as far as a contradiction goes
  some_count : (Q : A → Type 0) (xs : List A) → (((k : ℕ) × Counts Q xs k) → ⊥) → ⊥
  some_count Q [] f = f (0, refl)
  some_count Q (x ∷ xs) f = some_count Q xs rest
    where
      rest : ((k : ℕ) × Counts Q xs k) → ⊥
      rest w = f (w.0, inr ((λ q. f (suc w.0, inl (w.0, refl, q, w.1))), w.1))

  count_le : (Q : A → Type 0) (xs : List A) (k : ℕ) → Counts Q xs k → k ≤ length xs
  count_le Q [] k e = omega arith
  count_le Q (x ∷ xs) k (inl w) = let h = count_le Q xs w.0 w.3 in let e = w.1 in omega arith
  count_le Q (x ∷ xs) k (inr w) = let h = count_le Q xs k w.1 in omega arith

  -- more facts have no lower number, and where theirs is no higher, they are no more
  count_mono : (Q R : A → Type 0) (xs : List A) → ((x : A) → Q x → R x) → (k j : ℕ)
      → Counts Q xs k → Counts R xs j → (k < j) ⊎ ((k ≡ j) × ((x : A) → In x xs → R x → Q x))
  count_mono Q R [] f k j p q = inr (omega arith, λ x i. absurd i)
  count_mono Q R (y ∷ xs) f k j (inl p) (inl q) = go (count_mono Q R xs f p.0 q.0 p.3 q.3)
    where
      go : (p.0 < q.0) ⊎ ((p.0 ≡ q.0) × ((x : A) → In x xs → R x → Q x))
          → (k < j) ⊎ ((k ≡ j) × ((x : A) → In x (y ∷ xs) → R x → Q x))
      go (inl l) = let e = p.1 in let g = q.1 in inl (omega arith)
      go (inr w) = let e = p.1 in let g = q.1 in let s = w.0 in inr (omega arith, all)
        where
          all : (x : A) → (x ≡ y) ⊎ In x xs → R x → Q x
          all x (inl e) r = rw e p.2
          all x (inr i) r = w.1 x i r
  count_mono Q R (y ∷ xs) f k j (inl p) (inr q) = absurd (q.0 (f y p.2))
  count_mono Q R (y ∷ xs) f k j (inr p) (inl q) = go (count_mono Q R xs f k q.0 p.1 q.3)
    where
      go : (k < q.0) ⊎ ((k ≡ q.0) × ((x : A) → In x xs → R x → Q x))
          → (k < j) ⊎ ((k ≡ j) × ((x : A) → In x (y ∷ xs) → R x → Q x))
      go (inl l) = let g = q.1 in inl (omega arith)
      go (inr w) = let g = q.1 in let s = w.0 in inl (omega arith)
  count_mono Q R (y ∷ xs) f k j (inr p) (inr q) = go (count_mono Q R xs f k j p.1 q.1)
    where
      go : (k < j) ⊎ ((k ≡ j) × ((x : A) → In x xs → R x → Q x))
          → (k < j) ⊎ ((k ≡ j) × ((x : A) → In x (y ∷ xs) → R x → Q x))
      go (inl l) = inl l
      go (inr w) = inr (w.0, all)
        where
          all : (x : A) → (x ≡ y) ⊎ In x xs → R x → Q x
          all x (inl e) r = absurd (q.0 (rw e at r))
          all x (inr i) r = w.1 x i r

  module _ (Q : ℕ → A → Type 0) (xs : List A) (rises : (i : ℕ) (x : A) → Q i x → Q (suc i) x) where
    -- after i rounds that each change something, i facts hold at least
    risen : (i : ℕ) → ((j : ℕ) → j < i → ((x : A) → In x xs → Q (suc j) x → Q j x) → ⊥)
        → (k : ℕ) → Counts (Q i) xs k → i ≤ k
    risen zero f k c = omega arith
    risen (suc i) f k c = go (dec_lt i k) (risen i (λ j l. f j (omega arith)))
      where
        go : Dec (i < k) → ((j : ℕ) → Counts (Q i) xs j → i ≤ j) → suc i ≤ k
        go (yes l) rest = l
        go (no n) rest = absurd (some_count (Q i) xs none)
          where
            none : ((j : ℕ) × Counts (Q i) xs j) → ⊥
            none w = at (count_mono (Q i) (Q (suc i)) xs (rises i) w.0 k w.1 c)
              where
                at : (w.0 < k) ⊎ ((w.0 ≡ k) × ((x : A) → In x xs → Q (suc i) x → Q i x)) → ⊥
                at (inl l) = let h = rest w.0 w.1 in omega arith
                at (inr v) = f i (omega arith) v.1

    -- as many rounds change something as there are entries, at most
    pub changes_le : (m : ℕ) → ((i : ℕ) → i < m → ((x : A) → In x xs → Q (suc i) x → Q i x) → ⊥) → m ≤ length xs
    changes_le m f = go (dec_lt (length xs) m)
      where
        go : Dec (length xs < m) → m ≤ length xs
        go (no n) = omega arith
        go (yes l) = absurd (some_count (Q m) xs none)
          where
            none : ((k : ℕ) × Counts (Q m) xs k) → ⊥
            none w = let h = risen m f w.0 w.1 in let b = count_le (Q m) xs w.0 w.1 in omega arith
