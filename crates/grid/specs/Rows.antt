-- Bit rows: a relation on names 0 to 15, one 16-bit row a name, and the relations that the functions on rows work out.
use Rattle.std.specs.Prelude.{◌≡◌, ◌≢◌, ◌⊎◌, List, ℕ, ◌/◌, ◌%◌, ◌^◌, get_or}

-- bit k of a number is set
abbrev pub Has : ℕ → ℕ → Type 0
Has m k = m / 2 ^ k % 2 ≡ 1

-- a relation between names
abbrev pub Rel : Type 1
Rel = ℕ → ℕ → Type 0

-- row i has bit j
abbrev pub Edge : List ℕ → Rel
Edge r i j = Has (get_or r i 0) j

-- some row has bit j
abbrev pub SomeRow : List ℕ → ℕ → Type 0
SomeRow r j = (i : ℕ) × Edge r i j

-- R or S
abbrev pub Or : Rel → Rel → Rel
Or R S i j = R i j ⊎ S i j

-- R, then S
abbrev pub Then : Rel → Rel → Rel
Then R S i j = (k : ℕ) × R i k × S k j

-- from each name whose row of s has bit k, to each name of the mask m
abbrev pub Spread : List ℕ → ℕ → ℕ → Rel
Spread s k m i j = Edge s i k × Has m j

-- R, of two different names
abbrev pub Apart : Rel → Rel
Apart R i j = (i ≢ j) × R i j

-- R, and not S
abbrev pub Less : Rel → Rel → Rel
Less R S i j = R i j × (S i j → ⊥)

-- one or more steps of R
pub data Walk (R : Rel) : ℕ → ℕ → Type 0 where
  one : {i j : ℕ} → R i j → Walk R i j
  more : {i j k : ℕ} → R i j → Walk R j k → Walk R i k

-- no step of R, or more
abbrev pub Star : Rel → Rel
Star R i j = (i ≡ j) ⊎ Walk R i j

-- R and S hold of the same names
pub record Same (R S : Rel) : Type 0 where
  pub to : (i j : ℕ) → R i j → S i j
  pub from : (i j : ℕ) → S i j → R i j

-- the mask m has the bits of P, and no others
pub record Bits (m : ℕ) (P : ℕ → Type 0) : Type 0 where
  pub to : (j : ℕ) → Has m j → P j
  pub from : (j : ℕ) → P j → Has m j
