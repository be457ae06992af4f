-- What a grid gains: the pairs that items record, and the rows of the called routines as they stand in the buffer.
use Rattle.std.specs.Prelude.{◌≡◌, ◌⊎◌, List, map, ℕ, ◌+◌, ◌*◌, ◌^◌, ◌≤◌, ◌<◌, length, get_or, take, drop}
use Rattle.std.proofs.Math.Option.{Option, some}
use Rattle.table.specs.Constants.{most_params, most_forks, most_open, most_names, row_names, row_bytes}
use Rattle.rules.specs.Label.{Label, placed}
use Rattle.rules.specs.Number.{label_of, labels}
use Rattle.rules.specs.Model.{Kept, renamed}
use Rattle.rules.specs.Derived.{Pairs}
use Rattle.rows.specs.Bytes.{Labelled, RowBits}
use Rattle.grid.specs.Grid.{In, Pair, Small, AllKept}
use Rattle.pairs.specs.Walks.{Walk, root_of, held_by, LowHolder, arg_of, level_of}
use Rattle.pairs.specs.declared.calls.Call.{Call}

-- the pair from the holder h to the holder k in thread θ
abbrev pub HoldersGive : Option ℕ → Option ℕ → Label → ℕ → ℕ → Label → Type 0
HoldersGive h k θ a b l = (h ≡ some a) × (k ≡ some b) × (l ≡ θ)

-- what CALL r with the names xs records in thread θ with the holder h
abbrev pub CallGives : Pairs → ℕ → List ℕ → Label → Option ℕ → ℕ → ℕ → Label → Type 0
CallGives R r xs θ h a b l =
    (a₀ : ℕ) × (b₀ : ℕ) × (m : Label) × R r a₀ b₀ m
    × (renamed h xs a₀ ≡ some a) × (renamed h xs b₀ ≡ some b) × (l ≡ placed θ m)

-- r is g with the kept ones of the pairs N
pub record Gains (g : List (List ℕ)) (N : ℕ → ℕ → Label → Type 0) (r : List (List ℕ)) : Type 0 where
  pub small : Small r
  pub kept : AllKept g → AllKept r
  pub only : (a b : ℕ) (l : Label) → Pair r a b l → Pair g a b l ⊎ (N a b l × Kept a b l)
  pub old : (a b : ℕ) (l : Label) → Pair g a b l → Pair r a b l
  pub new : (a b : ℕ) (l : Label) → N a b l → Kept a b l → Pair r a b l

-- the n names from an offset on
abbrev pub names_at : List ℕ → ℕ → ℕ → List ℕ
names_at s at n = take n (drop at s)

-- the roots of the n names from an offset on
abbrev pub roots_at : List ℕ → List ℕ → ℕ → ℕ → List ℕ
roots_at rs s at n = map (root_of rs) (names_at s at n)

-- each name is below 16
abbrev pub Low : List ℕ → Type 0
Low xs = (i : ℕ) → get_or xs i 0 < most_names

-- the names at the offset, n of them, are below 16, and so are their roots
abbrev pub LowAt : List ℕ → List ℕ → ℕ → ℕ → Type 0
LowAt rs s at n = Low (names_at s at n) × Low (roots_at rs s at n)

-- the pair of two ends, where there are both, with each label of the mask m
abbrev pub MaskGives : Option ℕ → Option ℕ → ℕ → ℕ → ℕ → Label → Type 0
MaskGives p q m a b l = (p ≡ some a) × (q ≡ some b) × In m l

-- the mask m has the labels of a cell, placed in the thread with the number t
pub record Placed (cell t m : ℕ) : Type 0 where
  pub small : m < 2 ^ labels
  pub only : (l : Label) → In m l → (k : Label) × Labelled cell k × (l ≡ placed (label_of t) k)
  pub all : (k : Label) → Labelled cell k → In m (placed (label_of t) k)

-- what the CALL at the place of the walk records
abbrev pub CallPairs : List ℕ → List ℕ → List ℕ → Walk → ℕ → ℕ → Label → Type 0
CallPairs ks s rows w =
    CallGives (RowBits rows) (arg_of s w) (roots_at w.roots s (w.at + 2) (get_or ks (arg_of s w) 0))
    (label_of (level_of w).thread) (held_by (level_of w).holder)

-- it can be recorded
pub record CallReady (ks s rows : List ℕ) (w : Walk) : Type 0 where
  pub there : w.at + 2 + get_or ks (arg_of s w) 0 ≤ length s
  pub routine : arg_of s w < length ks
  pub params : get_or ks (arg_of s w) 0 ≤ most_params
  pub names : LowAt w.roots s (w.at + 2) (get_or ks (arg_of s w) 0)
  pub few : w.top ≤ most_open
  pub holder : LowHolder (level_of w).holder
  pub thread : (level_of w).thread ≤ most_forks
  pub long : row_bytes * length ks ≤ length rows

-- the roots of the names of a call
abbrev pub roots_of : Call → List ℕ
roots_of c = map (root_of c.levels.now.roots) c.names.now

-- what one of the first n gives
abbrev pub Below : (ℕ → ℕ → ℕ → Label → Type 0) → ℕ → ℕ → ℕ → Label → Type 0
Below N n a b l = (j : ℕ) × (j < n) × N j a b l

-- what cell j of a line of a called row gives: the line starts at `first`, and p is the caller's name for it
abbrev pub CellGives : List ℕ → ℕ → List ℕ → Label → Option ℕ → Option ℕ → ℕ → ℕ → ℕ → Label → Type 0
CellGives rows first xs θ h p j a b l =
    (p ≡ some a) × (renamed h xs j ≡ some b) × ((m : Label) × Labelled (get_or rows (first + j) 0) m × (l ≡ placed θ m))

-- what the first n cells of the line give
abbrev pub LineGives : List ℕ → ℕ → List ℕ → Label → Option ℕ → Option ℕ → ℕ → ℕ → ℕ → Label → Type 0
LineGives rows first xs θ h p n = Below (CellGives rows first xs θ h p) n

-- what the first m cells of each of the first n lines give, where the row starts at `first`
abbrev pub RowGives : List ℕ → ℕ → List ℕ → Label → Option ℕ → ℕ → ℕ → ℕ → ℕ → Label → Type 0
RowGives rows first xs θ h m n = Below (λ i. LineGives rows (first + row_names * i) xs θ h (renamed h xs i) m) n

-- n cells of the rows, from an offset on, can be recorded at a call
pub record RowReady (c : Call) (first n : ℕ) : Type 0 where
  pub params : length c.names.now ≤ most_params
  pub names : Low c.names.now × Low (roots_of c)
  pub holder : LowHolder c.here.holder
  pub thread : c.here.thread ≤ most_forks
  pub long : first + n ≤ length c.rows.now
