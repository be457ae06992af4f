-- What the functions of `due.rt` give: the highest routine of a mask, one taken off it, all routines, the callers of a
-- routine.
use Rattle.std.specs.Prelude.{◌≡◌, ◌≢◌, ◌⊎◌, List, ℕ, ◌+◌, ◌^◌, ◌≤◌, ◌<◌, length, get_or, Option, MatchOption}
use Rattle.table.specs.Constants.{most_routines}
use Rattle.grid.specs.Rows.{Has, Bits}
use Rattle.settle.specs.Reach.{CallBit}

-- r is the highest bit of the mask
pub record Highest (mask r : ℕ) : Type 0 where
  pub low : 2 ^ r ≤ mask
  pub high : mask < 2 ^ (r + 1)

-- routine r is taken off the mask, as its highest, and `left` has the others
pub record Taken (mask r left : ℕ) : Type 0 where
  pub bit : Has mask r
  pub routine : r < most_routines
  pub others : Bits left (λ q. (q ≢ r) × Has mask q)
  pub lower : (q : ℕ) → Has left q → q < r
  pub less : left < mask

-- a step over the routines of a mask: the highest is taken off it, and there is none where it has none
abbrev pub Takes : ℕ → Option ℕ → ℕ → Type 0
Takes mask r left = MatchOption r ((mask ≡ 0) × (left ≡ 0)) (λ q. Taken mask q left)

-- m has all routines below n
pub record All (n m : ℕ) : Type 0 where
  pub bits : Bits m (λ r. r < n)
  pub below : m < 2 ^ n

-- no mask of the list has a routine from n on
abbrev pub Below : List ℕ → ℕ → Type 0
Below callers n = (length callers ≡ 64) × ((q : ℕ) → get_or callers q 0 < 2 ^ n)

-- routine r, above all callers so far, was added to those of each routine of the mask
pub record CallerAdded (before : List ℕ) (mask r : ℕ) (after : List ℕ) : Type 0 where
  pub old : (q p : ℕ) → Has (get_or before q 0) p → Has (get_or after q 0) p
  pub new : (q : ℕ) → Has mask q → Has (get_or after q 0) r
  pub only : (q p : ℕ) → Has (get_or after q 0) p → Has (get_or before q 0) p ⊎ ((p ≡ r) × Has mask q)
  pub below : Below after (r + 1)

-- the list has for each routine the routines that call it
pub record Callers (calls callers : List ℕ) : Type 0 where
  pub told : (r q : ℕ) → CallBit calls r q → Has (get_or callers q 0) r
  pub only : (r q : ℕ) → Has (get_or callers q 0) r → CallBit calls r q
  pub below : Below callers (length calls)
