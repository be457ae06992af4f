-- Relations that hold of the same names, loops whose turns add to a relation, and walks before and after one.
use mathlib.Core.Path.{◌≡◌, refl}
use mathlib.Core.Logic.{◌⊎◌, inl, inr, ⊎_elim}
use Prim.Native.Nat.{ℕ, ◌+◌, ◌<◌}
use native.Mathlib.Omega.{arith}
use native.Mathlib.Decide.{dec_lt}
use Rattle.grid.specs.Rows.{Rel, Or, Then, Walk, Star, Same}
use Rattle.grid.specs.Laws.Walks.{walk_map}

-- a relation is the same as itself, and through another
pub same_refl : (R : Rel) → Same R R
same_refl R = record { to = λ i j p. p; from = λ i j p. p }

pub same_then : (R S T : Rel) → Same R S → Same S T → Same R T
same_then R S T p q = record { to = λ i j x. q.to i j (p.to i j x); from = λ i j x. p.from i j (q.from i j x) }

-- the second part of a union, in other words
pub same_or :
    (R S F : Rel) {T : Rel} → Same T (Or R S) → ((i j : ℕ) → S i j → F i j) → ((i j : ℕ) → F i j → S i j)
    → Same T (Or R F)
same_or R S F s f g = record {
  to = λ i j p. ⊎_elim (λ q. inl q) (λ q. inr (f i j q)) (s.to i j p);
  from = λ i j p. s.from i j (⊎_elim (λ q. inl q) (λ q. inr (g i j q)) p);
}

-- walks over relations that are the same
pub same_walk : (R S : Rel) → Same R S → Same (Walk R) (Walk S)
same_walk R S s = record { to = λ i j w. walk_map s.to w; from = λ i j w. walk_map s.from w }

-- some F k with k below n
abbrev pub Some : ℕ → (ℕ → Rel) → Rel
Some n F i j = (k : ℕ) × (k < n) × F k i j

-- a number below n + 1 is below n, or n
pub below_split : (n j : ℕ) → j < n + 1 → (j < n) ⊎ (j ≡ n)
below_split n j h =
    elim (dec_lt j n) [
      | yes p ↦ inl p
      | no p ↦ inr (omega arith)
    ]

-- some number below n + 1 is some number below n, or n
pub some_split : {F : ℕ → Type 0} (n : ℕ) → (k : ℕ) × (k < n + 1) × F k → ((k : ℕ) × (k < n) × F k) ⊎ F n
some_split n p = ⊎_elim (λ h. inl (p.0, h, p.2)) (λ e. inr (rw e at p.2)) (below_split n p.0 p.1)

pub some_join : {F : ℕ → Type 0} (n : ℕ) → ((k : ℕ) × (k < n) × F k) ⊎ F n → (k : ℕ) × (k < n + 1) × F k
some_join n (inl p) = let z = p.1 in (p.0, omega arith, p.2)
some_join n (inr p) = (n, omega arith, p)

-- a loop whose turn k adds F k to R
module _ (R : Rel) (F : ℕ → Rel) where
  pub some_none : Same R (Or R (Some 0 F))
  some_none = record {
    to = λ i j p. inl p;
    from = λ i j p. ⊎_elim (λ q. q) (λ q. absurd (let z = q.1 in omega arith)) p;
  }

  pub some_more : (S T : Rel) (n : ℕ) → Same S (Or R (Some n F)) → Same T (Or S (F n)) → Same T (Or R (Some (n + 1) F))
  some_more S T n s t = record {
    to = λ i j p.
        ⊎_elim
        (λ q. ⊎_elim (λ u. inl u) (λ u. inr (some_join {F = λ k. F k i j} n (inl u))) (s.to i j q))
        (λ q. inr (some_join {F = λ k. F k i j} n (inr q)))
        (t.to i j p);
    from = λ i j p.
        t.from i j
        (⊎_elim
        (λ q. inl (s.from i j (inl q)))
        (λ q. ⊎_elim (λ u. inl (s.from i j (inr u))) (λ u. inr u) (some_split {F = λ k. F k i j} n q))
        p);
  }

  pub some_skip :
      (S : Rel) (n : ℕ) → Same S (Or R (Some n F)) → ((i j : ℕ) → F n i j → ⊥) → Same S (Or R (Some (n + 1) F))
  some_skip S n s h = some_more S S n s (record {
    to = λ i j p. inl p;
    from = λ i j p. ⊎_elim (λ q. q) (λ q. absurd (h i j q)) p;
  })

-- a union with what walks come before, and with what walks come after
module _ (R W : Rel) (s : Same R (Walk W)) where
  pub star_left : (M X : Rel) → Same X (Or M (Then R M)) → Same X (Then (Star W) M)
  star_left M X x = record {
    to = λ i j p. ⊎_elim (λ q. (i, inl refl, q)) (λ q. (q.0, inr (s.to i q.0 q.1), q.2)) (x.to i j p);
    from = λ i j p. x.from i j (back i j p p.1);
  }
    where
      back : (i j : ℕ) (p : Then (Star W) M i j) → Star W i p.0 → Or M (Then R M) i j
      back i j p (inl e) = inl (rw e p.2)
      back i j p (inr w) = inr (p.0, s.from i p.0 w, p.2)

  pub star_right : (M X : Rel) → Same X (Or M (Then M R)) → Same X (Then M (Star W))
  star_right M X x = record {
    to = λ i j p. ⊎_elim (λ q. (j, q, inl refl)) (λ q. (q.0, q.1, inr (s.to q.0 j q.2))) (x.to i j p);
    from = λ i j p. x.from i j (back i j p p.2);
  }
    where
      back : (i j : ℕ) (p : Then M (Star W) i j) → Star W p.0 j → Or M (Then M R) i j
      back i j p (inl e) = inl (rw e at p.1)
      back i j p (inr w) = inr (p.0, p.1, s.from p.0 j w)
