-- The place inside a LOCK block: the one outside where the root is in the nest already. And what names give after a NEW
-- or MIRROR.
use Rattle.std.specs.Prelude.{◌≡◌, refl, ◌≢◌, Bool, true, false, cond, List, ℕ, T, eqb}
use Rattle.table.specs.WellFormed.{In}
use Rattle.table.specs.Check.{in?}
use Rattle.table.proofs.Laws.Complete.{In-in?}
use Rattle.table.proofs.Laws.Sound.{in?_In}
use Rattle.rules.specs.Model.{Place, bind, nested, under_lock}
use Rattle.rules.proofs.Laws.Tests.{Decides, equal}

pub is_in : (x : ℕ) (ns : List ℕ) → Decides (in? x ns) (In x ns)
is_in x ns = record { fact = λ t. in?_In x ns (yes_true (in? x ns) t); test = λ i. rw (In-in? x ns i) tt }
  where
    yes_true : (b : Bool) → T b → b ≡ true
    yes_true false t = elim t [ ]
    yes_true true t = refl

-- the two cases of a LOCK: its root is in the nest already and the place inside is the one outside, or it is put there
pub by_nest :
    (Q : Place → Type 0) (z : ℕ) (w : Place)
    → (In z w.nest → Q w) → (¬ In z w.nest → Q (nested z w)) → Q (under_lock z w)
by_nest Q z w again first = go (in? z w.nest) (is_in z w.nest)
  where
    go : (b : Bool) → Decides b (In z w.nest) → Q (cond b w (nested z w))
    go true d = again (d.fact tt)
    go false d = first (λ i. d.test i)

-- the two cases of a name y after a NEW or MIRROR that gives x, seen in two functions
pub by_bind :
    (Q : ℕ → ℕ → Type 0) (x z l : ℕ) (f e : ℕ → ℕ) (y : ℕ)
    → (y ≡ x → Q z l) → (y ≢ x → Q (f y) (e y)) → Q (bind x z f y) (bind x l e y)
by_bind Q x z l f e y same other = go (eqb y x) (equal y x)
  where
    go : (b : Bool) → Decides b (y ≡ x) → Q (cond b z (f y)) (cond b l (e y))
    go true d = same (d.fact tt)
    go false d = other (λ p. d.test p)
