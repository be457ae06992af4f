-- Why a grid with the walks of each named label and with the mixes is closed, and has nothing that does not follow.
use mathlib.Core.Path.{◌≡◌, refl, sym, ap, ◌∙◌}
use mathlib.Core.Logic.{◌≢◌, inl, inr, ⊎_elim}
use mathlib.Core.List.{List, []}
use Prim.Native.Nat.{ℕ, ◌<◌}
use native.Mathlib.Omega.{arith}
use lib.ListN.{get_or}
use Rattle.rules.specs.Label.{Label, own, forked, unknown, several, combine}
use Rattle.rules.specs.Number.{number, label_of, labels}
use Rattle.rules.specs.Model.{Kept}
use Rattle.rules.specs.Derived.{Closed, given, follows}
use Rattle.rules.proofs.Laws.Number.{label_of_number, number_lt}
use Rattle.grid.specs.Rows.{Has, Edge, Walk, Same}
use Rattle.grid.specs.Grid.{cell, Pair, Small, AllKept, Closure}
use Rattle.grid.specs.Planes.{Labelled, Listed, PlanesOf, Plane, MixOf, SeveralOf}
use Rattle.grid.specs.Planes.{Grown, InPlane, InWalks, InPlanes, Follows}
use Rattle.grid.specs.Laws.Walks.{Of, Any, Mix, Mixed, Says, walk_back, star_back, first, says, said, walked}
use Rattle.grid.proofs.Laws.Masks.{has_zero}
use Rattle.grid.proofs.Laws.Labels.{in_has, in_range, keeps, not_several}
use Rattle.grid.proofs.Relations.{same_walk}
use Rattle.grid.proofs.Growing.{grown_none, grown_then, grown_map}

-- each pair that follows from kept pairs is kept
closed_kept :
    (G : ℕ → ℕ → Label → Type 0) → ((a b : ℕ) (l : Label) → G a b l → Kept a b l)
    → {a b : ℕ} {l : Label} → Closed G a b l → Kept a b l
closed_kept G k (given {a = a} {b = b} {l = l} w) = k a b l w
closed_kept G k (follows p q e w) = w

-- a pair of the grid is a pair of its label's plane, backwards
pair_edge : (g : List (List ℕ)) (l : Label) (a b : ℕ) → Pair g a b l → Labelled g (number l) b a
pair_edge g l a b w = in_has (cell g a b) l w

-- r is g with what follows from its pairs, which are kept
module _ (g r : List (List ℕ)) (grown : Grown g (Follows g) r) (kept : AllKept g) where
  -- each pair that was added follows
  follows_closed : (a b n : ℕ) → Follows g a b n → Closed (Pair g) a b (label_of n)
  follows_closed a b n (inl w) =
      let h = w.0 in
      let v = walk_back {S = Of (Pair g) (label_of n)} (λ i j x. (n, omega arith, refl, x)) w.1.1 in
      walked (Pair g) (label_of n) (keeps n h) v (λ x. w.1.0 (sym x))
  follows_closed a b n (inr w) = rw w.0 (said (Pair g) several w.1)

  -- each pair of r follows
  only : (a b : ℕ) (l : Label) → Pair r a b l → Closed (Pair g) a b l
  only a b l w =
      ⊎_elim
      (λ u. given (w.0, w.1, w.2, u))
      (λ u. rw w.2 (follows_closed a b w.0 u))
      ((grown.row a).to b w.0 w.3)

  -- a walk of a named label is in r
  walk_told : (n a b : ℕ) → n < number unknown → a ≢ b → Walk (Labelled g n) b a → Has (cell r a b) n
  walk_told n a b h d w = (grown.row a).from b n (inr (inl (h, (λ x. d (sym x), w))))

  -- what a label says is in r
  told : (l : Label) (a b : ℕ) → Says (Pair g) l a b → Pair r a b l
  told own a b w = (0, omega arith, refl, walk_told 0 a b (omega arith) w.0 (walk_back (pair_edge g own) w.1))
  told (forked i) a b w =
      let f = first w.1 in
      let h = in_range (cell g a f.0) (forked i) f.1 in (
        i,
        omega arith,
        sym (label_of_number (forked i) h),
        walk_told i a b (omega arith) w.0 (walk_back (pair_edge g (forked i)) w.1),
      )
  told unknown a b w = (w.0, w.1, w.2, (grown.row a).from b w.0 (inl w.3))
  told several a b w = (number several, omega arith, refl, (grown.row a).from b (number several) (inr (inr (refl, w))))

  pub closure : Small r → Closure g r
  closure small = record {
    small = small;
    kept = λ a b l w. closed_kept (Pair g) kept (only a b l w);
    only = only;
    all = λ a b l w. told l a b (says (Pair g) kept w);
  }

-- p is the planes of g
module _ (g p : List (List ℕ)) (planes : PlanesOf g p) where
  -- the label of a pair has a number
  pair_number : (l : Label) (a b : ℕ) → Pair g a b l → number l < labels
  pair_number l a b w = number_lt l (in_range (cell g a b) l w)

  -- the pairs of the grid are those of the planes, backwards
  edge_pair : (l b a : ℕ) → l < labels → Edge (get_or p l []) b a → Pair g a b (label_of l)
  edge_pair l b a h e = (l, h, refl, (planes l h).to b a e)

  plane_edge : (l : Label) (a b : ℕ) → Pair g a b l → Edge (get_or p (number l) []) b a
  plane_edge l a b w = (planes (number l) (pair_number l a b w)).from b a (pair_edge g l a b w)

  -- and so are the pairs of any label, the mixes, and the mixes with walks
  any_to : (b a : ℕ) → Plane p b a → Any (Pair g) a b
  any_to b a w = (label_of w.0, edge_pair w.0 b a w.1 w.2)

  any_from : (a b : ℕ) → Any (Pair g) a b → Plane p b a
  any_from a b w = (number w.0, pair_number w.0 a b w.1, plane_edge w.0 a b w.1)

  mix_to : (b a : ℕ) → MixOf p b a → Mix (Pair g) a b
  mix_to b a (inl e) = inl (edge_pair (number several) b a (omega arith) e)
  mix_to b a (inr w) =
      let v = w.2 in
      let u = v.2 in
      let later = edge_pair w.0 b v.0 w.1 v.1 in
      let first = edge_pair u.0 v.0 a u.1 u.3 in
      inr (v.0, label_of u.0, label_of w.0, first, later, u.2)

  mix_from : (a b : ℕ) → Mix (Pair g) a b → MixOf p b a
  mix_from a b (inl w) = inl (plane_edge several a b w)
  mix_from a b (inr w) =
      let y = w.0 in
      let l = w.1 in
      let m = w.2 in
      let e : combine (label_of (number l)) (label_of (number m)) ≡ several =
      rw
      (label_of_number l (in_range (cell g a y) l w.3), label_of_number m (in_range (cell g y b) m w.4))
      w.5 in
      let later = plane_edge m y b w.4 in
      let first = plane_edge l a y w.3 in
      inr (number m, pair_number m y b w.4, (y, later, (number l, pair_number l a y w.3, e, first)))

  mixed_to : (b a : ℕ) → SeveralOf p b a → Mixed (Pair g) a b
  mixed_to b a w = (w.1, w.0, star_back any_to w.4, mix_to w.0 w.1 w.3, star_back any_to w.2)

  mixed_from : (a b : ℕ) → Mixed (Pair g) a b → SeveralOf p b a
  mixed_from a b w = (w.1, w.0, star_back any_from w.4, mix_from w.0 w.1 w.3, star_back any_from w.2)

  -- what the named planes and then several add is what follows
  pub all_grown :
      (n r : List (List ℕ)) (s : List ℕ) → Same (Edge s) (SeveralOf p) → Grown g (InPlanes (number unknown) p) n
      → Grown n (InPlane s (number several)) r → Grown g (Follows g) r
  all_grown n r s mixes named last =
      grown_map
      (λ a b k. ⊎_elim
      (λ w. let h = w.0 in inr (inl (h, (w.1.0, (same_walk _ _ (planes k (omega arith))).to b a w.1.1))))
      (λ w. inr (inr (w.0, mixed_to b a (mixes.to b a w.1)))))
      (λ a b k. ⊎_elim
      (λ w. let h = w.0 in inr (inl (h, (w.1.0, (same_walk _ _ (planes k (omega arith))).from b a w.1.1))))
      (λ w. inr (inr (w.0, mixes.from b a (mixed_from a b w.1)))))
      (grown_then named last)

-- c has the labels of all pairs, and l is the one label, own or a fork
module _ (g : List (List ℕ)) (u : List ℕ) (c l : ℕ) (listed : Listed g u c)
    (named : l < number unknown) (sole : (j : ℕ) → Has c j → j ≡ l) where
  -- each pair is labelled l, so that no two of them mix
  labelled : (m : Label) (a b : ℕ) → Pair g a b m → m ≡ label_of l
  labelled m a b w = w.2 ∙ ap label_of (sole w.0 (listed a b w.0 w.3).1)

  no_mix : (a b : ℕ) → Mix (Pair g) a b → ⊥
  no_mix a b (inl w) = not_several l named (sym (labelled several a b w))
  no_mix a b (inr w) =
      let e = rw (labelled w.1 a w.0 w.3, labelled w.2 w.0 b w.4) at w.5 in
      not_several l named (sym (keeps l named) ∙ e)

  only_walks : (a b k : ℕ) → Follows g a b k → InWalks (Labelled g l) l a b k
  only_walks a b k (inl w) =
      let f = first w.1.1 in
      let e : k ≡ l = sole k (listed f.0 b k f.1).1 in
      (e, rw e at w.1)
  only_walks a b k (inr w) = absurd (no_mix _ _ w.1.3)

  pub one_grown : (r : List (List ℕ)) → Grown g (InWalks (Labelled g l) l) r → Grown g (Follows g) r
  one_grown r last =
      grown_map
      (λ a b k w. inr (inl (rw w.0 (named, w.1))))
      (λ a b k w. inr (only_walks a b k w))
      last

-- nothing follows where there is no pair
pub none_grown :
    (g : List (List ℕ)) (u : List ℕ) → Listed g u 0 → Grown g (Follows g) g
none_grown g u listed =
    one_grown g u 0 0 listed (omega arith) (λ j e. absurd (has_zero j e)) g
    (grown_none
    (λ a b k w. let f = first w.1.1 in has_zero 0 (listed f.0 b 0 f.1).1))
