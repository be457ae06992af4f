-- The activations of a run form such a tree as the argument on closed chains asks for. The verdict is used here, and
-- nowhere else: an activation's routine is reached, so it has no ring.
use Rattle.std.specs.Prelude.{◌≡◌, refl, ◌⊎◌, List, ℕ, suc, ◌≤◌, ◌<◌}
use Rattle.std.proofs.Common.{sym, ap, ◌∙◌, inl, inr, arith}
use Rattle.std.proofs.Math.Option.{Option, some}
use Rattle.table.specs.Program.{Program, params}
use Rattle.table.specs.WellFormed.{starts}
use Rattle.rules.specs.Label.{Label, own, forked, unknown, several, cut, placed}
use Rattle.rules.specs.Model.{Kept, renamed, Model, follows}
use Rattle.rules.specs.Verdict.{Reached, first as reached-first, Clear}
use Rattle.run.specs.Run.{Thread}
use Rattle.run.proofs.Laws.History.{Activation, root, child, routine, runner, parent, depth, Item, item, History}
use Rattle.run.proofs.Laws.History.{Stands, stands_one, local, passed, By}
use Rattle.run.proofs.Laws.Invariant.{Lawful, Invariant, Holds}
use Rattle.run.proofs.Laws.Chain.{Forest}

-- the label of the place where the activation was called
abbrev site : Activation → Label
site root = own
site (child p r θ h xs t n) = θ

abbrev act_of : Item → Activation
act_of (item A o) = A

-- the label may mean the thread in the activation: unknown and several may mean any
abbrev May : History → Activation → Label → ℕ → Type 0
May H A own t = runner A ≡ t
May H A (forked i) t = By H A (forked i) t
May H A unknown t = Unit {0}
May H A several t = Unit {0}

pub may : (H : History) (A : Activation) (l : Label) (t : ℕ) → By H A l t → May H A l t
may H A several t b = elim b [ ]
may H A unknown t b = elim b [ ]
may H A own t b = b
may H A (forked i) t b = b

placed_cut : (θ l : Label) → placed θ (cut l) ≡ placed θ l
placed_cut θ own = refl
placed_cut θ (forked i) = refl
placed_cut θ unknown = refl
placed_cut θ several = refl

module _
    (P : Program) (clear : Clear P) (H : History) (n : ℕ) (acts : ℕ → Activation) (forms : ℕ → Thread)
    (g : Invariant P H n acts forms) where
  -- the activation that made the lock
  abbrev birth : ℕ → Activation
  birth u = act_of (H.maker u)

  -- a caller is nearer to the root
  pub above : (A : Activation) → 1 ≤ depth A → depth (parent A) < depth A
  above root h = h
  above (child p r θ h xs t m) k = omega arith

  -- a fork's label means one thread
  pub forked_one : (A : Activation) (i t s : ℕ) → By H A (forked i) t → By H A (forked i) s → t ≡ s
  forked_one A i t s p q =
      p.1 ∙ ap suc (g.started_once (item A (starts i)) (p.0, p.2, p.3) (q.0, q.2, q.3)) ∙ sym q.1

  -- calls reach the routine of every activation
  pub reached : (A : Activation) → Lawful P H A → Reached P (routine A)
  reached root w = reached-first
  reached (child p r θ h xs t m) w = w.3

  -- a lock was made in the activation or above it
  born_depth : (A : Activation) (x u : ℕ) → Stands P H A x u → depth (birth u) ≤ depth A
  born_depth A x u (local b l e) =
      let q : depth (birth u) ≡ depth A = ap (λ (k : Item). depth (act_of k)) e in omega arith
  born_depth A x u (passed {p = p} {y = y} le q s) =
      let d : depth (birth u) ≤ depth p = born_depth p y u s in omega arith

  -- a name is a local, for a lock made in the activation, or not, for one made above it
  pub cases :
      (A : Activation) (x u : ℕ) → Stands P H A x u
      → ((birth u ≡ A) × (params P (routine A) < x))
      ⊎ ((x ≤ params P (routine A)) × (depth (birth u) < depth A))
  cases A x u (local b l e) = inl (ap act_of e, b)
  cases A x u (passed {p = p} {y = y} le q s) =
      inr (le, let d : depth (birth u) ≤ depth p = born_depth p y u s in omega arith)

  -- a lock that was made in the activation was not passed to it
  not_passed : (p : Activation) (y u : ℕ) → Stands P H p y u → depth (birth u) ≡ suc (depth p) → ⊥
  not_passed p y u s q = let d : depth (birth u) ≤ depth p = born_depth p y u s in omega arith

  -- a lock made in the activation has one name there
  pub unique : (A : Activation) (x y u : ℕ) → birth u ≡ A → Stands P H A x u → Stands P H A y u → x ≡ y
  unique A x y u q (local b l e) (local c m f) = cc
  unique A x y u q (local b l e) (passed {p = p} {y = z} le k s) = absurd (not_passed p z u s (ap depth q))
  unique A x y u q (passed {p = p} {y = z} le k s) r = absurd (not_passed p z u s (ap depth q))

  -- the label of a thread, in the caller
  pub by_up :
      (A : Activation) (t : ℕ) (l : Label) → 1 ≤ depth A → Lawful P H A × May H A l t
      → (l ≡ several) ⊎ (Lawful P H (parent A) × May H (parent A) (placed (site A) l) t)
  by_up root t l h w = absurd (omega arith)
  by_up (child p r θ h xs s m) t own k w = inr (w.0.0, may H p θ t (rw w.1 at w.0.1))
  by_up (child p r θ h xs s m) t (forked i) k w = inr (w.0.0, tt)
  by_up (child p r θ h xs s m) t unknown k w = inr (w.0.0, tt)
  by_up (child p r θ h xs s m) t several k w = inl refl

  -- a parameter, or name 0, stands for a lock of the caller
  came :
      (p : Activation) (r : ℕ) (θ : Label) (h : Option ℕ) (xs : List ℕ) (s m a u : ℕ) → a ≤ params P r
      → Stands P H (child p r θ h xs s m) a u → (y : ℕ) × (renamed h xs a ≡ some y) × Stands P H p y u
  came p r θ h xs s m a u le (local b l e) = absurd (omega arith)
  came p r θ h xs s m a u le (passed {y = y} lf q k) = (y, q, k)

  -- a pair of the activation's row, in the caller
  pub lift :
      (A : Activation) (a b u v : ℕ) (l : Label) → 1 ≤ depth A → Lawful P H A × Model P (routine A) a b l
      → a ≤ params P (routine A) → b ≤ params P (routine A) → (a ≡ b → ⊥) → Stands P H A a u → Stands P H A b v
      → (x y : ℕ) × Stands P H (parent A) x u × Stands P H (parent A) y v × (x ≡ y → u ≡ v)
      × (Kept x y (placed (site A) l) → Lawful P H (parent A) × Model P (routine (parent A)) x y (placed (site A) l))
  lift root a b u v l h w la lb ne su sv = absurd (omega arith)
  lift (child p r θ h xs s m) a b u v l k w la lb ne su sv =
      let x = came p r θ h xs s m a u la su in
      let y = came p r θ h xs s m b v lb sv in (
        x.0,
        y.0,
        x.2,
        y.2,
        (λ q. stands_one P H g.made_once p y.0 u v (rw q at x.2) y.2),
        λ kept. (
          w.0.0,
          rw placed_cut at
              (w.0.2 a b (cut l) x.0 y.0 (l, w.1, la, lb, ne, refl) x.1 y.1 (rw placed_cut kept)),
        ),
      )

  abbrev pub forest : Forest
  forest = record {
    Act = Activation;
    depth = depth;
    params = λ A. params P (routine A);
    parent = parent;
    site = site;
    birth = birth;
    Stands = Stands P H;
    Pair = λ A x y l. Lawful P H A × Model P (routine A) x y l;
    By = λ A l t. Lawful P H A × May H A l t;
    Owner = λ u t. Holds (forms t) u;
    above = λ {A} h. above A h;
    own_one = λ p q. sym p.1 ∙ q.1;
    forked_one = λ p q. forked_one _ _ _ _ p.1 q.1;
    owner_one = λ p q. g.alone _ _ _ p q;
    trans = λ p q k. (p.0, follows p.1 q.1 refl k);
    noring = λ {A} p. clear _ _ (reached A p.0) p.1;
    cases = cases _ _ _;
    unique = unique _ _ _ _;
    same = λ p s r. stands_one P H g.made_once _ _ _ _ s r;
    by_up = by_up _ _ _;
    lift = lift _ _ _ _ _ _;
  }
