-- The share of the canonical program is that of the program: the reached routines are the same under new numbers, and
-- the same of them have a ring.
use Rattle.std.specs.Prelude.{◌≡◌, refl, List, [], ◌∷◌, map, ℕ}
use Rattle.std.proofs.Common.{sym, ◌∙◌, inl, inr}
use Rattle.std.proofs.lemmas.List.{length-map}
use Rattle.table.specs.Program.{Program}
use Rattle.table.specs.WellFormed.{In, NoDup}
use Rattle.table.specs.Encoding.{WithinLimits}
use Rattle.table.proofs.Laws.Lists.{In-map}
use Rattle.table.proofs.Laws.Formed.{well_formed}
use Rattle.rules.specs.Model.{Ring}
use Rattle.rules.specs.Verdict.{Reached}
use Rattle.rules.specs.Share.{Count, ReachedRingless, ShareOf}
use Rattle.rules.proofs.Laws.Verdict.{reached_within}
use Rattle.canon.specs.Canonical.{place, canonical}
use Rattle.canon.proofs.Laws.Lists.{Apart, map_in, in_back}
use Rattle.canon.proofs.Laws.Canonical.{place_apart}
use Rattle.canon.proofs.Laws.Limits.{original, canonical_within}
use Rattle.canon.proofs.Laws.Rows.{reached_to, ring_kept}

-- as many numbers have R as have Q, where f takes each number with Q to one with R, no two to one, and to all of them
module _ (Q R : ℕ → Type 0) (f : ℕ → ℕ) (apart : Apart Q f) (to : (r : ℕ) → Q r → R (f r))
    (back : (x : ℕ) → R x → (r : ℕ) × Q r × (f r ≡ x)) where
  map_once : (s : List ℕ) → ((x : ℕ) → In x s → Q x) → NoDup s → NoDup (map f s)
  map_once [] all d = tt
  map_once (x ∷ s) all d = (
    (λ i. d.0 (in_back Q f apart s x (λ y j. all y (inr j)) (all x (inl refl)) i)),
    map_once s (λ y j. all y (inr j)) d.1,
  )

  pub count_moved : {n : ℕ} → Count Q n → Count R n
  count_moved c = record {
    list = map f c.list;
    once = map_once c.list c.only c.once;
    only = λ x i. let m = In-map f x c.list i in rw m.2 (to m.0 (c.only m.0 m.1));
    all = λ x h. let b = back x h in rw (sym b.2) (map_in f c.list b.0 (c.all b.0 b.1));
    size = length-map c.list f ∙ c.size;
  }

module _ (P : Program) (within : WithinLimits P) where
  -- each reached routine of the canonical program is one of the program
  reached_back : (x : ℕ) → Reached (canonical P) x → (r : ℕ) × Reached P r × (place P r ≡ x)
  reached_back x w =
      original P within x (reached_within (canonical P) (well_formed (canonical P) (canonical_within P within)) x w)

  apart : Apart (Reached P) (place P)
  apart = place_apart P (well_formed P within)

  ringless_to : (r : ℕ) → ReachedRingless P r → ReachedRingless (canonical P) (place P r)
  ringless_to r h = (
    reached_to P within r h.0,
    λ x k. let o = (ring_kept P within r h.0).1 (x, k) in h.1 o.0 o.1,
  )

  ringless_back : (x : ℕ) → ReachedRingless (canonical P) x → (r : ℕ) × ReachedRingless P r × (place P r ≡ x)
  ringless_back x h =
      let b = reached_back x h.0 in
      let none : (y : ℕ) → ¬ Ring P b.0 y =
      λ y k. let o = (ring_kept P within b.0 b.1).0 (y, k) in h.1 o.0 (rw b.2 at o.1) in
      (b.0, (b.1, none), b.2)

  -- the share stays
  pub share_kept : (q remainder m : ℕ) → ShareOf P q remainder m → ShareOf (canonical P) q remainder m
  share_kept q remainder m s = record {
    c = s.c;
    reached = count_moved (Reached P) (Reached (canonical P)) (place P) apart (reached_to P within) reached_back
        s.reached;
    ringless = count_moved (ReachedRingless P) (ReachedRingless (canonical P)) (place P)
        (λ r q v w. apart r q v.0 w.0) ringless_to ringless_back s.ringless;
    sum = s.sum;
    below = s.below;
  }
