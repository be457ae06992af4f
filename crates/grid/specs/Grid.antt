-- Grids: sixteen rows of sixteen label masks, and what the functions on them leave.
use Rattle.std.specs.Prelude.{◌≡◌, ◌≢◌, ◌⊎◌, List, [], ℕ, ◌^◌, ◌<◌, ◌≤◌, get_or, length, Option, Some, None}
use Rattle.table.specs.Constants.{most_names}
use Rattle.rules.specs.Label.{Label, several}
use Rattle.rules.specs.Number.{number, label_of, labels}
use Rattle.rules.specs.Model.{Kept}
use Rattle.rules.specs.Derived.{Closed}
use Rattle.grid.specs.Rows.{Has}

-- the mask of row a, column b
abbrev pub cell : List (List ℕ) → ℕ → ℕ → ℕ
cell g a b = get_or (get_or g a []) b 0

-- the label is in a mask, by its number
abbrev pub In : ℕ → Label → Type 0
In m l = (n : ℕ) × (n < labels) × (l ≡ label_of n) × Has m n

-- the grid has the pair (a, b) labelled l
abbrev pub Pair : List (List ℕ) → ℕ → ℕ → Label → Type 0
Pair g a b l = In (cell g a b) l

-- each mask has numbers of labels alone
abbrev pub Small : List (List ℕ) → Type 0
Small g = (a b : ℕ) → cell g a b < 2 ^ labels

-- the grid has sixteen rows of sixteen masks
pub record Square (g : List (List ℕ)) : Type 0 where
  pub rows : length g ≡ most_names
  pub columns : (a : ℕ) → a < most_names → length (get_or g a []) ≡ most_names

-- the grid is square, and has small masks alone
abbrev pub Proper : List (List ℕ) → Type 0
Proper g = Square g × Small g

-- each pair of the grid is kept
abbrev pub AllKept : List (List ℕ) → Type 0
AllKept g = (a b : ℕ) (l : Label) → Pair g a b l → Kept a b l

-- label number k is in the mask m, and a pair (a, b) with it is kept
abbrev pub KeptIn : ℕ → ℕ → ℕ → ℕ → Type 0
KeptIn a b m k = Has m k × ((a ≢ b) ⊎ (k ≡ number several))

-- r has no pair
pub record Empty (r : List (List ℕ)) : Type 0 where
  pub small : Small r
  pub kept : AllKept r
  pub none : (a b : ℕ) (l : Label) → Pair r a b l → ⊥

-- r is g with the kept ones of the pairs (a, b) labelled by L
pub record Added (g : List (List ℕ)) (a b : ℕ) (L : Label → Type 0) (r : List (List ℕ)) : Type 0 where
  pub small : Small r
  pub kept : AllKept g → AllKept r
  pub only : (x y : ℕ) (l : Label) → Pair r x y l → Pair g x y l ⊎ ((x ≡ a) × (y ≡ b) × L l × Kept a b l)
  pub old : (x y : ℕ) (l : Label) → Pair g x y l → Pair r x y l
  pub new : (l : Label) → L l → Kept a b l → Pair r a b l

-- r has exactly the pairs that follow from those of g
pub record Closure (g r : List (List ℕ)) : Type 0 where
  pub small : Small r
  pub kept : AllKept r
  pub only : (a b : ℕ) (l : Label) → Pair r a b l → Closed (Pair g) a b l
  pub all : (a b : ℕ) (l : Label) → Closed (Pair g) a b l → Pair r a b l

-- the lowest name with a ring, if there is one
abbrev pub RingName : List (List ℕ) → Option ℕ → Type 0
RingName g None = (y : ℕ) → Pair g y y several → ⊥
RingName g (Some x) = (x < most_names) × Pair g x x several × ((y : ℕ) → Pair g y y several → x ≤ y)
