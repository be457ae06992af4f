-- What holds of what is left of a body holds of the item at the place or of what is left past it.
use mathlib.Core.Logic.{◌⊎◌, inl, inr}
use mathlib.Core.List.{List, ◌∷◌}
use mathlib.Core.Option.{Option, none, some}
use Prim.Native.Nat.{ℕ}
use Rattle.table.specs.Program.{Code, end, new, lock, fork, choice, call, mirror}
use Rattle.rules.specs.Label.{Label}
use Rattle.rules.specs.Model.{Place}
use Rattle.rules.specs.Derived.{Pairs}
use Rattle.pairs.proofs.Pending.{Alternative, other, Level, level, past}
use Rattle.pairs.proofs.Pending.{InLeft, AtItem, InParts}
use Rattle.pairs.proofs.Pending.{CallIn, CallAt, PairIn, PairAt}

-- what holds of what is left holds of the item or of what is left past it, and the other way round
module _ (H F : Code → Place → Type 0) where
  pub left_past : ((c : Code) (π : Place) → F c π → InParts H F c π)
      → (ls : List Level) → InLeft F ls → AtItem H ls ⊎ InLeft F (past ls)
  left_past f (level end none π ∷ ls) (inr (inl p)) = elim p [ ]
  left_past f mathlib.Core.List.[] x' = elim x' [ ]
  left_past f (level c u π ∷ ls) (inl p) = first c u π ls (f c π p)
    where
      first : (c : Code) (u : Option Alternative) (π : Place) (ls : List Level) → InParts H F c π
          → H c π ⊎ InLeft F (past (level c u π ∷ ls))
      first end u π ls q = elim q [ ]
      first (new x c) u π ls q = inr (inl q)
      first (lock x c d) u π ls (inl q) = inl q
      first (lock x c d) u π ls (inr (inl q)) = inr (inl q)
      first (lock x c d) u π ls (inr (inr q)) = inr (inr (inr (inl q)))
      first (fork i c d) u π ls (inl q) = inr (inl q)
      first (fork i c d) u π ls (inr q) = inr (inr (inr (inl q)))
      first (choice a b c) u π ls (inl q) = inr (inl q)
      first (choice a b c) u π ls (inr (inl q)) = inr (inr (inl q))
      first (choice a b c) u π ls (inr (inr q)) = inr (inr (inr (inl q)))
      first (call r xs c) u π ls (inl q) = inl q
      first (call r xs c) u π ls (inr q) = inr (inl q)
      first (mirror x y c) u π ls q = inr (inl q)
  left_past f (level end none π ∷ ls) (inr (inr p)) = inr p
  left_past f (level end (some (other b κ)) π ∷ ls) (inr (inl p)) = inr (inl p)
  left_past f (level end (some (other b κ)) π ∷ ls) (inr (inr p)) = inr (inr (inr p))
  left_past f (level (new x c) u π ∷ ls) (inr p) = inr (inr p)
  left_past f (level (lock x c d) u π ∷ ls) (inr p) = inr (inr (inr (inr p)))
  left_past f (level (fork i c d) u π ∷ ls) (inr p) = inr (inr (inr (inr p)))
  left_past f (level (choice a b c) u π ∷ ls) (inr p) = inr (inr (inr (inr p)))
  left_past f (level (call r xs c) u π ∷ ls) (inr p) = inr (inr p)
  left_past f (level (mirror x y c) u π ∷ ls) (inr p) = inr (inr p)

  module _ (g : (c : Code) (π : Place) → InParts H F c π → F c π) where
    pub past_left : (ls : List Level) → InLeft F (past ls) → InLeft F ls
    past_left (level (fork i c d) u π ∷ ls) (inr (inl p)) = elim p [ ]
    past_left (level (lock x c d) u π ∷ ls) (inr (inl p)) = elim p [ ]
    past_left (level end (some (other b κ)) π ∷ ls) (inr (inl p)) = elim p [ ]
    past_left mathlib.Core.List.[] p = elim p [ ]
    past_left (level end none π ∷ ls) p = inr (inr p)
    past_left (level end (some (other b κ)) π ∷ ls) (inl p) = inr (inl p)
    past_left (level end (some (other b κ)) π ∷ ls) (inr (inr p)) = inr (inr p)
    past_left (level (new x c) u π ∷ ls) (inl p) = inl (g _ π p)
    past_left (level (new x c) u π ∷ ls) (inr p) = inr p
    past_left (level (lock x c d) u π ∷ ls) (inl p) = inl (g _ π (inr (inl p)))
    past_left (level (lock x c d) u π ∷ ls) (inr (inr (inl p))) = inl (g _ π (inr (inr p)))
    past_left (level (lock x c d) u π ∷ ls) (inr (inr (inr p))) = inr p
    past_left (level (fork i c d) u π ∷ ls) (inl p) = inl (g _ π (inl p))
    past_left (level (fork i c d) u π ∷ ls) (inr (inr (inl p))) = inl (g _ π (inr p))
    past_left (level (fork i c d) u π ∷ ls) (inr (inr (inr p))) = inr p
    past_left (level (choice a b c) u π ∷ ls) (inl p) = inl (g _ π (inl p))
    past_left (level (choice a b c) u π ∷ ls) (inr (inl p)) = inl (g _ π (inr (inl p)))
    past_left (level (choice a b c) u π ∷ ls) (inr (inr (inl p))) = inl (g _ π (inr (inr p)))
    past_left (level (choice a b c) u π ∷ ls) (inr (inr (inr p))) = inr p
    past_left (level (call r xs c) u π ∷ ls) (inl p) = inl (g _ π (inr p))
    past_left (level (call r xs c) u π ∷ ls) (inr p) = inr p
    past_left (level (mirror x y c) u π ∷ ls) (inl p) = inl (g _ π p)
    past_left (level (mirror x y c) u π ∷ ls) (inr p) = inr p

-- the calls and the pairs of a code are those of its first item and of its parts
pub call_parts : (q : ℕ) (c : Code) (π : Place) → CallIn q c π → InParts (CallAt q) (CallIn q) c π
call_parts q end π p = elim p [ ]
call_parts q (new x c) π p = p
call_parts q (lock x c d) π p = inr p
call_parts q (fork i c d) π p = p
call_parts q (choice a b c) π p = p
call_parts q (call r xs c) π p = p
call_parts q (mirror x y c) π p = p

pub parts_call : (q : ℕ) (c : Code) (π : Place) → InParts (CallAt q) (CallIn q) c π → CallIn q c π
parts_call q (lock x c d) π (inl x4) = elim x4 [ ]
parts_call q end π p = elim p [ ]
parts_call q (new x c) π p = p
parts_call q (lock x c d) π (inr p) = p
parts_call q (fork i c d) π p = p
parts_call q (choice a b c) π p = p
parts_call q (call r xs c) π p = p
parts_call q (mirror x y c) π p = p

pub call_at : (q : ℕ) (ls : List Level) → AtItem (CallAt q) ls → InLeft (CallIn q) ls
call_at q (level (mirror _ _ _) u π ∷ ls) p = elim p [ ]
call_at q (level (choice _ _ _) u π ∷ ls) p = elim p [ ]
call_at q (level (fork _ _ _) u π ∷ ls) p = elim p [ ]
call_at q (level (lock _ _ _) u π ∷ ls) p = elim p [ ]
call_at q (level (new _ _) u π ∷ ls) p = elim p [ ]
call_at q (level end u π ∷ ls) p = elim p [ ]
call_at q mathlib.Core.List.[] p = elim p [ ]
call_at q (level (call r xs c) u π ∷ ls) p = inl (inl p)

module _ (R : Pairs) (a b : ℕ) (l : Label) where
  pub pair_parts : (c : Code) (π : Place) → PairIn R a b l c π → InParts (PairAt R a b l)
      (PairIn R a b l) c π
  pair_parts end π p = elim p [ ]
  pair_parts (new x c) π p = p
  pair_parts (lock x c d) π p = p
  pair_parts (fork i c d) π p = p
  pair_parts (choice u v c) π p = p
  pair_parts (call r xs c) π p = p
  pair_parts (mirror x y c) π p = p

  pub parts_pair : (c : Code) (π : Place) → InParts (PairAt R a b l) (PairIn R a b l) c π → PairIn R
      a b l c π
  parts_pair end π p = elim p [ ]
  parts_pair (new x c) π p = p
  parts_pair (lock x c d) π p = p
  parts_pair (fork i c d) π p = p
  parts_pair (choice u v c) π p = p
  parts_pair (call r xs c) π p = p
  parts_pair (mirror x y c) π p = p

  pub pair_at : (ls : List Level) → AtItem (PairAt R a b l) ls → InLeft (PairIn R a b l) ls
  pair_at (level (mirror _ _ _) u π ∷ ls) p = elim p [ ]
  pair_at (level (choice _ _ _) u π ∷ ls) p = elim p [ ]
  pair_at (level (fork _ _ _) u π ∷ ls) p = elim p [ ]
  pair_at (level (new _ _) u π ∷ ls) p = elim p [ ]
  pair_at (level end u π ∷ ls) p = elim p [ ]
  pair_at mathlib.Core.List.[] p = elim p [ ]
  pair_at (level (lock x c d) u π ∷ ls) p = inl (inl p)
  pair_at (level (call r xs c) u π ∷ ls) p = inl (inl p)
