-- An item moves the place on, and what is known of a walk at each turn of the loop over a body.
use mathlib.Core.Path.{◌≡◌, refl, sym, ◌∙◌, ap}
use mathlib.Core.Bool.{Bool, true, false, cond}
use mathlib.Core.List.{List}
use Prim.Native.Nat.{ℕ, ◌+◌, ◌-◌, ◌<◌}
use native.Mathlib.Omega.{arith}
use lib.Dec.{eqb}
use lib.ListN.{length, get_or, set}
use Rattle.table.specs.Constants.{END, LOCK, OTHER, CALL, MIRROR, code}
use Rattle.links.specs.declared.walk.Walk.{Walk}
use Rattle.links.specs.Walks.{walk, binds?, past_by, moved_by}
use Rattle.links.specs.Walks.{walk_after, links_after}
use Rattle.links.specs.Walks.{Path, done, step, Ends, going, CanLink, Linked, Walks}

module _ (ks s : List ℕ) (at b : ℕ) where
  pub past_more : at < past_by ks s at b
  past_more = by (eqb b (code LOCK)) (eqb b (code MIRROR)) (eqb b (code CALL))
    where
      by : (p r q : Bool)
          → at < cond p (at + 2) (cond r (at + 2) (cond q (at + 2 + get_or ks (get_or s (at + 1) 0) 0) (at + 1)))
      by true r q = omega arith
      by false true q = omega arith
      by false false true = omega arith
      by false false false = omega arith

module _ (w : Walk) (b : ℕ) where
  pub moved_at : (next : ℕ) → (moved_by w next b).at ≡ next
  moved_at next = by (eqb b (code END)) (binds? b) (eqb b (code OTHER)) (eqb b (code CALL))
    where
      by : (p q r t : Bool)
          → (cond p (walk next (w.top - 1) w.name w.opened)
          (cond q (walk next w.top (w.name + 1) w.opened)
          (cond r (walk next w.top w.name (set w.opened w.top w.at))
          (cond t (walk next w.top w.name w.opened)
          (walk next (w.top + 1) w.name (set w.opened (w.top + 1) w.at)))))).at ≡ next
      by true q r t = refl
      by false true r t = refl
      by false false true t = refl
      by false false false true = refl
      by false false false false = refl

-- the offset grows
pub walk_more : (ks s : List ℕ) (w : Walk) → w.at < (walk_after ks s w).at
walk_more ks s w =
    let b = get_or s w.at 0 in
    let h = past_more ks s w.at b in
    let e = moved_at w b (past_by ks s w.at b) in
    omega (arith, h, e)

-- the rest of a path past its first item
pub first_of : (ks s : List ℕ) (w v : Walk) (l m : List ℕ) → Path ks s w l v m → Ends s w → going s v ≡ true
    → CanLink ks s v × Path ks s w l (walk_after ks s v) (links_after ks s v m)
first_of ks s w v l m (done v' m' e f) ends g =
    absurd (let h : true ≡ false = sym g ∙ ap (going s) e ∙ ends.1 in let y : ◌≡◌ {A = ℕ} 0 1 = cc in omega arith)
first_of ks s w v l m (step v' u m' n g' can e f p) ends g = (can, rw (sym e, sym f) p)

-- a path's first place is inside
pub inside_of : (ks s : List ℕ) (w v : Walk) (l m : List ℕ) → Path ks s w l v m → Ends s w → v.at < length s
inside_of ks s w v l m (done v' m' e f) ends = rw e ends.0
inside_of ks s w v l m (step v' u m' n g can e f p) ends = can.passable.here

-- a path whose first place is the END is over
pub over_of : (ks s : List ℕ) (w v : Walk) (l m : List ℕ) → Path ks s w l v m → Ends s w → going s v ≡ false
    → (v.at + 1 ≡ w.at + 1) × (m ≡ l)
over_of ks s w v l m (done v' m' e f) ends g = (ap (λ (u : Walk). u.at + 1) e, f)
over_of ks s w v l m (step v' u m' n g' can e f p) ends g =
    absurd (let h : true ≡ false = sym g' ∙ g in let y : ◌≡◌ {A = ℕ} 0 1 = cc in omega arith)

-- what is known at each turn: every path from the start goes on from here, and there is one
abbrev pub Walking : List ℕ → List ℕ → Walk → List ℕ → Walk → List ℕ → Type 0
Walking ks s v m u n =
    ((w : Walk) (l : List ℕ) → Path ks s w l v m → Ends s w → Path ks s w l u n) × Walks ks s u n

module _ (ks s : List ℕ) (v u : Walk) (m n : List ℕ) (k : Walking ks s v m u n) where
  pub walking_inside : u.at < length s
  walking_inside = inside_of ks s k.1.0 u k.1.1 n k.1.2 k.1.3

  pub walking_can : (b : Bool) → b ≡ going s u → b ≡ true → CanLink ks s u
  walking_can b e f = (first_of ks s k.1.0 u k.1.1 n k.1.2 k.1.3 (sym e ∙ f)).0

  pub walking_on : (b : Bool) → b ≡ going s u → b ≡ true → (t : Walk) (o : List ℕ) → t ≡ walk_after ks s u
      → o ≡ links_after ks s u n → Walking ks s v m t o
  walking_on b e f t o g h =
      rw (g, h) (
        (λ w l p ends. (first_of ks s w u l n (k.0 w l p ends) ends (sym e ∙ f)).1),
        (k.1.0, k.1.1, (first_of ks s k.1.0 u k.1.1 n k.1.2 k.1.3 (sym e ∙ f)).1, k.1.3),
      )

  pub walking_less : (t : Walk) → t ≡ walk_after ks s u → length s - t.at < length s - u.at
  walking_less t g =
      let i = walking_inside in
      let h = walk_more ks s u in
      let j = ap (λ (q : Walk). q.at) g in
      omega (arith, i, h, j)

  pub walking_over : (b : Bool) → b ≡ going s u → b ≡ false → Linked ks s v m n (u.at + 1)
  walking_over b e f w l p ends = over_of ks s w u l n (k.0 w l p ends) ends (sym e ∙ f)
