-- The walk that links a body: place by place, and the paths that it takes.
use Rattle.std.specs.Prelude.{◌≡◌, Bool, true, false, cond, not, List, ℕ, ◌+◌, ◌-◌, ◌<◌, ◌≤◌, ◌^◌, eqb}
use Rattle.std.specs.Prelude.{length, get_or, set, replicate}
use Rattle.table.specs.Constants.{END, NEW, OTHER, CALL, MIRROR, code, most_open, most_bytes, most_params}
pub use Rattle.table.specs.Laws.Passing.{past_by, Passable}
use Rattle.links.specs.declared.walk.Walk.{Walk}

-- a place, field by field
abbrev pub walk : ℕ → ℕ → ℕ → List ℕ → Walk
walk at top name opened = record { at = at; top = top; name = name; opened = opened }

-- whether an item with code b makes a name
abbrev pub binds? : ℕ → Bool
binds? b = cond (eqb b (code NEW)) true (eqb b (code MIRROR))

-- the offset whose link the item writes
abbrev pub slot_by : Walk → ℕ → ℕ
slot_by w b =
    cond (eqb b (code END)) (get_or w.opened w.top 0)
    (cond (eqb b (code OTHER)) (get_or w.opened w.top 0) w.at)

-- what it writes
abbrev pub link_by : Walk → ℕ → ℕ → ℕ
link_by w next b = cond (binds? b) w.name next

-- the place after it
abbrev pub moved_by : Walk → ℕ → ℕ → Walk
moved_by w next b =
    cond (eqb b (code END)) (walk next (w.top - 1) w.name w.opened)
    (cond (binds? b) (walk next w.top (w.name + 1) w.opened)
    (cond (eqb b (code OTHER)) (walk next w.top w.name (set w.opened w.top w.at))
    (cond (eqb b (code CALL)) (walk next w.top w.name w.opened)
    (walk next (w.top + 1) w.name (set w.opened (w.top + 1) w.at)))))

abbrev pub walk_by : List ℕ → List ℕ → Walk → ℕ → Walk
walk_by ks s w b = moved_by w (past_by ks s w.at b) b

abbrev pub links_by : List ℕ → List ℕ → Walk → List ℕ → ℕ → List ℕ
links_by ks s w l b = set l (slot_by w b) (link_by w (past_by ks s w.at b) b)

-- the place and the links after the item at a place
abbrev pub walk_after : List ℕ → List ℕ → Walk → Walk
walk_after ks s w = walk_by ks s w (get_or s w.at 0)

abbrev pub links_after : List ℕ → List ℕ → Walk → List ℕ → List ℕ
links_after ks s w l = links_by ks s w l (get_or s w.at 0)

-- whether the body goes on
abbrev pub going_by : Walk → ℕ → Bool
going_by w b = cond (eqb b (code END)) (not (eqb w.top 0)) true

abbrev pub going : List ℕ → Walk → Bool
going s w = going_by w (get_or s w.at 0)

-- the start of a body
abbrev pub begun : ℕ → ℕ → Walk
begun from own = walk from 0 (own + 1) (replicate (most_open + 1) 0)

abbrev pub Levelled : Walk → Type 0
Levelled w = w.top ≤ most_open

-- the place can be left
pub record Moves (w : Walk) (b : ℕ) : Type 0 where
  pub levelled : Levelled w
  pub closes : b ≡ code END → 1 ≤ w.top
  pub opens : (b ≡ code END → ⊥) → binds? b ≡ false → (b ≡ code OTHER → ⊥) → (b ≡ code CALL → ⊥) → w.top < most_open
  pub named : w.name + 1 < 2 ^ 64

-- the item can be linked
pub record CanLink (ks s : List ℕ) (w : Walk) : Type 0 where
  pub passable : Passable ks s w.at
  pub moves : Moves w (get_or s w.at 0)
  pub slot : slot_by w (get_or s w.at 0) < most_bytes

-- by items, from a place and its links to the place w and the links l
pub data Path (ks s : List ℕ) (w : Walk) (l : List ℕ) : Walk → List ℕ → Type 0 where
  done : (v : Walk) (m : List ℕ) → v ≡ w → m ≡ l → Path ks s w l v m
  step : (v u : Walk) (m n : List ℕ) → going s v ≡ true → CanLink ks s v → u ≡ walk_after ks s v
      → n ≡ links_after ks s v m → Path ks s w l u n → Path ks s w l v m

-- the place is the END of the body
abbrev pub Ends : List ℕ → Walk → Type 0
Ends s w = (w.at < length s) × (going s w ≡ false)

-- the body at a place can be linked
abbrev pub Walks : List ℕ → List ℕ → Walk → List ℕ → Type 0
Walks ks s v m = (w : Walk) × (l : List ℕ) × Path ks s w l v m × Ends s w

-- the body at a place was linked, and r is the offset after it
abbrev pub Linked : List ℕ → List ℕ → Walk → List ℕ → List ℕ → ℕ → Type 0
Linked ks s v m l r =
    (w : Walk) (n : List ℕ) → Path ks s w n v m → Ends s w → (r ≡ w.at + 1) × (l ≡ n)

abbrev pub Bounded : ℕ → Type 0
Bounded own = own ≤ most_params
