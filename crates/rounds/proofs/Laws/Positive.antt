-- No pair of the model has name 0 as its second end.
use Rattle.std.specs.Prelude.{◌≡◌, refl, Bool, true, false, cond, List, [], ◌∷◌, map, ℕ, zero, suc, ◌≤◌, ◌<◌, eqb, length}
use Rattle.std.proofs.Common.{inl, inr, arith}
use Rattle.std.proofs.Math.Option.{some}
use Rattle.std.proofs.Math.ListN.{get_elem?}
use Rattle.table.specs.Program.{Code, new, lock, fork, choice, call, mirror, Program}
use Rattle.table.specs.Program.{params, body, names}
use Rattle.table.specs.WellFormed.{In, Scoped, WellFormed}
use Rattle.table.proofs.Laws.Lists.{names_in, body_listed}
use Rattle.rules.specs.Label.{Label}
use Rattle.table.specs.Check.{in?}
use Rattle.rules.specs.Model.{Kept, renamed, Place, at_head, bind, naming, nested, under_lock, under_fork, Model}
use Rattle.rules.specs.Derived.{Pairs, RecordedFrom, RowOf}
use Rattle.rules.proofs.Laws.Least.{model_least}

-- the pairs whose second end is not name 0
abbrev Positive : Pairs
Positive r a b l = 1 ≤ b

-- all names from 1 on have a root from 1 on
abbrev Rooted : (ℕ → ℕ) → Type 0
Rooted f = (x : ℕ) → 1 ≤ x → 1 ≤ f x

bound : (x z : ℕ) (f : ℕ → ℕ) → 1 ≤ z → Rooted f → Rooted (bind x z f)
bound x z f p q y h = go (eqb y x)
  where
    go : (b : Bool) → 1 ≤ cond b z (f y)
    go true = p
    go false = q y h

-- the roots in the block of a LOCK are those outside
locked : (z : ℕ) (w : Place) → Rooted w.roots → Rooted (under_lock z w).roots
locked z w q = go (in? z w.nest)
  where
    go : (b : Bool) → Rooted (cond b w (nested z w)).roots
    go true = q
    go false = q

more : (s : List ℕ) (x : ℕ) → ((y : ℕ) → In y s → 1 ≤ y) → 1 ≤ x → (y : ℕ) → In y (x ∷ s) → 1 ≤ y
more s x f h y (inl e) = rw e h
more s x f h y (inr i) = f y i

got : (f : ℕ → ℕ) (xs : List ℕ) (i y : ℕ) → get_elem? (map f xs) i ≡ some y → (x : ℕ) × In x xs × (y ≡ f x)
got f [] i y e = absurd (let z : ◌≡◌ {A = ℕ} 0 1 = cc in omega arith)
got f (x ∷ xs) zero y e = (x, inl refl, cc)
got f (x ∷ xs) (suc i) y e = let w = got f xs i y e in (w.0, inr w.1, w.2)

-- a code whose names and their roots are from 1 on records no pair with the second end 0
recorded_positive :
    (P : Program) (k : ℕ) (s : List ℕ) (c : Code) → ((x : ℕ) → In x s → 1 ≤ x) → Scoped P k s c
    → (w : Place) → Rooted w.roots → (a b : ℕ) (l : Label) → RecordedFrom (RowOf P Positive) c w a b l → 1 ≤ b
recorded_positive P k s Rattle.table.specs.Program.end f sc w q a b l p = elim p [ ]
recorded_positive P k s (new x c) f sc w q a b l p =
    let g = sc.0 in
    recorded_positive P k (x ∷ s) c (more s x f (omega arith)) sc.1 (naming x x w) (bound x x w.roots (omega arith) q)
    a b l p
recorded_positive P k s (lock x c d) f sc w q a b l (inl p) = rw p.2 (q x (f x sc.0))
recorded_positive P k s (lock x c d) f sc w q a b l (inr (inl p)) =
    recorded_positive P k s c f sc.1 (under_lock (w.roots x) w) (locked (w.roots x) w q) a b l p
recorded_positive P k s (lock x c d) f sc w q a b l (inr (inr p)) = recorded_positive P k s d f sc.2 w q a b l p
recorded_positive P k s (fork i c d) f sc w q a b l (inl p) =
    recorded_positive P k s c f sc.0 (under_fork i w) q a b l p
recorded_positive P k s (fork i c d) f sc w q a b l (inr p) = recorded_positive P k s d f sc.1 w q a b l p
recorded_positive P k s (choice u v c) f sc w q a b l (inl p) = recorded_positive P k s u f sc.0 w q a b l p
recorded_positive P k s (choice u v c) f sc w q a b l (inr (inl p)) = recorded_positive P k s v f sc.1 w q a b l p
recorded_positive P k s (choice u v c) f sc w q a b l (inr (inr p)) = recorded_positive P k s c f sc.2 w q a b l p
recorded_positive P k s (call r xs c) f sc w q a b l (inl p) = at p.1 p.3.1 p.5
  where
    at : (b₀ : ℕ) → 1 ≤ b₀ → renamed w.holder (map w.roots xs) b₀ ≡ some b → 1 ≤ b
    at zero h e = absurd (omega arith)
    at (suc j) h e =
        let g = got w.roots xs j b e in
        rw g.2 (q g.0 (f g.0 (sc.2 g.0 g.1)))
recorded_positive P k s (call r xs c) f sc w q a b l (inr p) = recorded_positive P k s c f sc.3 w q a b l p
recorded_positive P k s (mirror x y c) f sc w q a b l p =
    let g = sc.0 in
    recorded_positive P k (x ∷ s) c (more s x f (omega arith)) sc.2 (naming x (w.roots y) w)
    (bound x (w.roots y) w.roots (q y (f y sc.1)) q) a b l p

-- the second end of a pair of the model is never name 0
pub model_positive : (P : Program) → WellFormed P → {r a b : ℕ} {l : Label} → Model P r a b l → 1 ≤ b
model_positive P wf = model_least P Positive (record { records = recorded; follows = λ r a b c l m p q k. q })
  where
    recorded : (r a b : ℕ) (l : Label) → RecordedFrom (RowOf P Positive) (body P r) at_head a b l → Kept a b l → 1 ≤ b
    recorded r a b l p k =
        recorded_positive P (params P r) (names (params P r)) (body P r) low (wf.scoped r listed) at_head (λ x h. h) a b l p
      where
        low : (x : ℕ) → In x (names (params P r)) → 1 ≤ x
        low x i = let e = (names_in (params P r) x i).1 in omega arith

        listed : r < length P
        listed = body_listed P r (λ c. RecordedFrom (RowOf P Positive) c at_head a b l) (λ z. z) p
