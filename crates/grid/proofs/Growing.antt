-- Grids that get labels: nothing, one thing after another, and the same in other words.
use mathlib.Core.Path.{◌≡◌}
use mathlib.Core.Logic.{◌⊎◌, inl, inr, ⊎_elim}
use mathlib.Core.List.{List, []}
use Prim.Native.Nat.{ℕ, ◌+◌, ◌/◌, ◌%◌, ◌^◌, ◌<◌}
use native.Mathlib.Omega.{arith}
use native.Mathlib.Decide.{ℕ_discrete}
use lib.ListN.{get_or, set, length}
use lib.Seq.{get_or-set_same, get_or-set_other}
use Rattle.rules.specs.Number.{labels}
use Rattle.grid.specs.Rows.{Has, Rel, Edge, Or, Less, Apart, Walk, Same}
use Rattle.grid.specs.Grid.{cell, Small}
use Rattle.grid.specs.Planes.{PlaneIn, Grown, InPlane, InWalks, InPlanes}
use Rattle.grid.proofs.Laws.Masks.{has_below, bits_below}
use Rattle.grid.specs.Laws.Walks.{first}
use Rattle.grid.proofs.Relations.{same_walk, below_split}

-- nothing is added
pub grown_none : {g : List (List ℕ)} {F : ℕ → Rel} → ((a b k : ℕ) → F a b k → ⊥) → Grown g F g
grown_none n = record {
  row = λ a. record {
    to = λ b k p. inl p;
    from = λ b k p. ⊎_elim (λ q. q) (λ q. absurd (n a b k q)) p;
  };
}

-- F is added, and then H
pub grown_then : {g n r : List (List ℕ)} {F H : ℕ → Rel} → Grown g F n → Grown n H r → Grown g (λ a. Or (F a) (H a)) r
grown_then f h = record {
  row = λ a. record {
    to = λ b k p.
        ⊎_elim
        (λ q. ⊎_elim (λ u. inl u) (λ u. inr (inl u)) ((f.row a).to b k q))
        (λ q. inr (inr q))
        ((h.row a).to b k p);
    from = λ b k p.
        (h.row a).from b k
        (⊎_elim
        (λ q. inl ((f.row a).from b k (inl q)))
        (⊎_elim (λ q. inl ((f.row a).from b k (inr q))) (λ q. inr q))
        p);
  };
}

-- F and H are the same but for what the grid has
pub grown_map :
    {g r : List (List ℕ)} {F H : ℕ → Rel} → ((a b k : ℕ) → F a b k → Has (cell g a b) k ⊎ H a b k)
    → ((a b k : ℕ) → H a b k → Has (cell g a b) k ⊎ F a b k) → Grown g F r → Grown g H r
grown_map f h s = record {
  row = λ a. record {
    to = λ b k p. ⊎_elim (λ q. inl q) (λ q. f a b k q) ((s.row a).to b k p);
    from = λ b k p. (s.row a).from b k (⊎_elim (λ q. inl q) (λ q. h a b k q) p);
  };
}

-- the walks of r that r has not are all walks of r, where r is of the grid
pub walks_grown :
    (g t : List (List ℕ)) (r w v d : List ℕ) (l : ℕ) → PlaneIn g r l → Same (Edge w) (Walk (Edge r))
    → Same (Edge v) (Apart (Edge w)) → Same (Edge d) (Less (Edge v) (Edge r)) → Grown g (InPlane d l) t
    → Grown g (InWalks (Edge r) l) t
walks_grown g t r w v d l inside walks apart less grown =
    grown_map
    (λ a b k p.
    let x = apart.to b a (less.to b a p.1).0 in inr (p.0, (x.0, walks.to b a x.1)))
    (λ a b k p. back a b k p (ℕ_discrete (get_or r b 0 / 2 ^ a % 2) 1))
    grown
  where
    back : (a b k : ℕ) → InWalks (Edge r) l a b k → Dec (Edge r b a) → Has (cell g a b) k ⊎ InPlane d l a b k
    back a b k p (yes e) = inl (rw p.0 (inside b a e))
    back a b k p (no e) =
        inr (p.0, less.from b a (apart.from b a (p.1.0, walks.from b a p.1.1), e))

-- a row with a label number added has small masks, and so has the grid with that row
pub small_put :
    (g : List (List ℕ)) (i l : ℕ) (t : List ℕ) (q : ℕ → Type 0) → i < length g → l < labels → Small g
    → Same (Edge t) (Or (Edge (get_or g i [])) (λ b k. (k ≡ l) × q b))
    → Small (set g i t)
small_put g i l t q h m small s x y =
    elim (ℕ_discrete x i) [
      | yes e ↦
          rw (e, get_or-set_same g i t [] h)
          (bits_below labels (get_or t y 0)
          (λ k p.
          ⊎_elim (λ u. has_below (cell g i y) labels k (small i y) u) (λ u. let z = u.0 in omega arith) (s.to y k p)))
      | no e ↦ rw (get_or-set_other g i x t [] e) (small x y)
    ]

-- walks of relations that are the same
pub walks_same :
    {g t : List (List ℕ)} (R S : Rel) (l : ℕ) → Same R S → Grown g (InWalks R l) t → Grown g (InWalks S l) t
walks_same R S l s =
    let w = same_walk R S s in
    grown_map
    (λ a b k p. inr (p.0, (p.1.0, w.to b a p.1.1)))
    (λ a b k p. inr (p.0, (p.1.0, w.from b a p.1.1)))

-- the planes below n and then plane n; or plane n has no walk
module _ (g : List (List ℕ)) (p : List (List ℕ)) (n : ℕ) where
  pub planes_more :
      (t r : List (List ℕ)) → Grown g (InPlanes n p) t → Grown t (InWalks (Edge (get_or p n [])) n) r
      → Grown g (InPlanes (n + 1) p) r
  planes_more t r s u =
      grown_map
      (λ a b k. ⊎_elim
      (λ q. let z = q.0 in inr (omega arith, q.1))
      (λ q. inr (let z = q.0 in omega arith, rw q.0 q.1)))
      (λ a b k q. inr (⊎_elim (λ h. inl (h, q.1)) (λ e. inr (e, rw e at q.1)) (below_split n k q.0)))
      (grown_then s u)

  pub planes_skip :
      (t : List (List ℕ)) → Grown g (InPlanes n p) t → ((b a : ℕ) → Edge (get_or p n []) b a → ⊥)
      → Grown g (InPlanes (n + 1) p) t
  planes_skip t s none =
      planes_more t t s (grown_none (λ a b k q. let f = first q.1.1 in none b f.0 f.1))
