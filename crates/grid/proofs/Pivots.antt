-- Walks by one pass of pivots: before pivot k the rows relate what walks through names below k join.
use mathlib.Core.Logic.{◌⊎◌, inl, inr, ⊎_elim}
use Prim.Native.Nat.{ℕ, zero, suc, ◌+◌, ◌<◌}
use native.Mathlib.Omega.{arith}
use native.Mathlib.Decide.{ℕ_discrete}
use native.Mathlib.Numerals.{add-one}
use Rattle.grid.specs.Rows.{Rel, Or, Walk, one, more, Same}
use Rattle.grid.specs.Laws.Walks.{walk_then}

-- what walks from i to j through names below k join
abbrev pub Via : Rel → ℕ → Rel
Via R zero i j = R i j
Via R (suc k) i j = Via R k i j ⊎ (Via R k i k × Via R k k j)

-- each of these is a walk, and each step is one of these
via_walk : (R : Rel) (k i j : ℕ) → Via R k i j → Walk R i j
via_walk R zero i j e = one e
via_walk R (suc k) i j (inl e) = via_walk R k i j e
via_walk R (suc k) i j (inr e) = walk_then (via_walk R k i k e.0) (via_walk R k k j e.1)

via_edge : (R : Rel) (k i j : ℕ) → R i j → Via R k i j
via_edge R zero i j e = e
via_edge R (suc k) i j e = inl (via_edge R k i j e)

-- the pivot itself is no help to and from it
to_pivot : (R : Rel) (k i : ℕ) → Via R (suc k) i k → Via R k i k
to_pivot R k i (inl p) = p
to_pivot R k i (inr p) = p.0

from_pivot : (R : Rel) (k j : ℕ) → Via R (suc k) k j → Via R k k j
from_pivot R k j (inl p) = p
from_pivot R k j (inr p) = p.1

-- two of these by a name below n are one
via_then : (R : Rel) (n i y j : ℕ) → y < n → Via R n i y → Via R n y j → Via R n i j
via_then R zero i y j h p q = absurd (omega arith)
via_then R (suc k) i y j h p q =
    elim (ℕ_discrete y k) [
      | yes e ↦ inr (to_pivot R k i (rw e at p), from_pivot R k j (rw e at q))
      | no e ↦ go (λ a b. via_then R k a y b (omega arith)) p q
    ]
  where
    go :
        ((a b : ℕ) → Via R k a y → Via R k y b → Via R k a b) → Via R (suc k) i y → Via R (suc k) y j
        → Via R (suc k) i j
    go rec (inl p) (inl q) = inl (rec i j p q)
    go rec (inl p) (inr q) = inr (rec i k p q.0, q.1)
    go rec (inr p) (inl q) = inr (p.0, rec k j p.1 q)
    go rec (inr p) (inr q) = inr (p.0, q.1)

-- each walk over names below n is one of these
walk_via : (R : Rel) (n : ℕ) → ((i j : ℕ) → R i j → j < n) → {i j : ℕ} → Walk R i j → Via R n i j
walk_via R n b (one {i = i} {j = j} e) = via_edge R n i j e
walk_via R n b (more {i = i} {j = y} {k = j} e w) =
    via_then R n i y j (b i y e) (via_edge R n i y e) (walk_via R n b w)

-- all pivots give the walks
pub via_all : (R S : Rel) (n : ℕ) → ((i j : ℕ) → R i j → j < n) → Same S (Via R n) → Same S (Walk R)
via_all R S n b s = record {
  to = λ i j p. via_walk R n i j (s.to i j p);
  from = λ i j w. s.from i j (walk_via R n b w);
}

-- one more pivot
pub via_more : (R S T : Rel) (k : ℕ) → Same S (Via R k) → Same T (Or S (λ i j. S i k × S k j)) → Same T (Via R (k + 1))
via_more R S T k s t = rw add-one (record {
  to = λ i j p. ⊎_elim (λ q. inl (s.to i j q)) (λ q. inr (s.to i k q.0, s.to k j q.1)) (t.to i j p);
  from = λ i j p. t.from i j (⊎_elim (λ q. inl (s.from i j q)) (λ q. inr (s.from i k q.0, s.from k j q.1)) p);
})

-- a pivot with no step from it
pub via_none : (R S : Rel) (k : ℕ) → Same S (Via R k) → ((j : ℕ) → S k j → ⊥) → Same S (Via R (k + 1))
via_none R S k s n = via_more R S S k s (record {
  to = λ i j p. inl p;
  from = λ i j p. ⊎_elim (λ q. q) (λ q. absurd (n j q.1)) p;
})
