-- What is left of a body at a place of the walk: its open levels, each with the code that is left of it.
use mathlib.Core.Path.{◌≡◌}
use mathlib.Core.Logic.{◌⊎◌}
use mathlib.Core.List.{List, [], ◌∷◌, ◌++◌, map}
use mathlib.Core.Option.{Option, none, some}
use Prim.Native.Nat.{ℕ, ◌+◌, ◌≤◌, ◌<◌}
use lib.ListN.{length, get_or, drop}
use Rattle.table.specs.Constants.{Op, END, NEW, LOCK, FORK, CHOICE, OTHER, CALL, MIRROR, code, most_open}
use Rattle.table.specs.Constants.{most_forks, most_names}
use Rattle.table.specs.Program.{Code, end, new, lock, fork, choice, call, mirror, locals, forks}
use Rattle.table.specs.WellFormed.{In}
use Rattle.table.specs.Encoding.{encode, Numbered, depth}
use Rattle.rules.specs.Label.{Label}
use Rattle.rules.specs.Model.{Place, naming, under_lock, under_fork}
use Rattle.rules.specs.Number.{label_of}
use Rattle.rules.specs.Verdict.{Calls}
use Rattle.rules.specs.Derived.{Pairs, RecordedFrom}
use Rattle.grid.specs.Rows.{Bits}
use Rattle.table.specs.Laws.Fine.{Calling, Uses}
use Rattle.pairs.specs.Walks.{held_by, LowHolder, outermost, root_of}
use Rattle.pairs.specs.declared.walk.Level.{Level as Holding}
use Rattle.pairs.specs.Gains.{CallGives}

-- a second alternative, and its place in the rules' terms
pub data Alternative : Type 0 where
  other : Code → Place → Alternative

-- an open level: the code that is left, in a first alternative the second one, and the place in the rules' terms
pub data Level : Type 0 where
  level : Code → Option Alternative → Place → Level

-- the kind of item that closes what is left of a level
abbrev pub closer : Option Alternative → Op
closer none = END
closer (some b) = OTHER

-- the bytes of a second alternative
abbrev pub second_bytes : Option Alternative → List ℕ
second_bytes none = []
second_bytes (some (other b κ)) = encode END b

-- the bytes that are left, the innermost level first
abbrev pub bytes : List Level → List ℕ
bytes [] = []
bytes (level c u π ∷ ls) = encode (closer u) c ++ (second_bytes u ++ bytes ls)

-- the bytes of the item at the place
abbrev pub item_bytes : List Level → List ℕ
item_bytes [] = []
item_bytes (level end u π ∷ ls) = code (closer u) ∷ []
item_bytes (level (new x c) u π ∷ ls) = code NEW ∷ []
item_bytes (level (lock x c d) u π ∷ ls) = code LOCK ∷ x ∷ []
item_bytes (level (fork i c d) u π ∷ ls) = code FORK ∷ []
item_bytes (level (choice a b c) u π ∷ ls) = code CHOICE ∷ []
item_bytes (level (call r xs c) u π ∷ ls) = code CALL ∷ r ∷ xs
item_bytes (level (mirror x y c) u π ∷ ls) = code MIRROR ∷ y ∷ []

-- the levels past the item
abbrev pub past : List Level → List Level
past [] = []
past (level end none π ∷ ls) = ls
past (level end (some (other b κ)) π ∷ ls) = level b none κ ∷ ls
past (level (new x c) u π ∷ ls) = level c u (naming x x π) ∷ ls
past (level (lock x c d) u π ∷ ls) = level c none (under_lock (π.roots x) π) ∷ level d u π ∷ ls
past (level (fork i c d) u π ∷ ls) = level c none (under_fork i π) ∷ level d u π ∷ ls
past (level (choice a b c) u π ∷ ls) = level a (some (other b π)) π ∷ level c u π ∷ ls
past (level (call r xs c) u π ∷ ls) = level c u π ∷ ls
past (level (mirror x y c) u π ∷ ls) = level c u (naming x (π.roots y) π) ∷ ls

-- a code that is left within n open blocks is as in a fine body
pub record Part (ks : List ℕ) (n : ℕ) (c : Code) : Type 0 where
  pub calling : Calling ks c
  pub few_open : depth c + n ≤ most_open

-- the same of a second alternative
abbrev pub SecondPart : List ℕ → ℕ → Option Alternative → Type 0
SecondPart ks n none = Unit {0}
SecondPart ks n (some (other b κ)) = Part ks n b

-- each code that is left is as in a fine body
abbrev pub Levels : List ℕ → List Level → Type 0
Levels ks [] = Unit {0}
Levels ks (level c u π ∷ ls) = Part ks (length ls) c × SecondPart ks (length ls) u × Levels ks ls

-- the levels ls are left at the offset, where top is the innermost open one, and after them the bytes t
pub record Left (ks s t : List ℕ) (at top : ℕ) (ls : List Level) : Type 0 where
  pub content : drop at s ≡ bytes ls ++ t
  pub count : length ls ≡ top + 1
  pub levels : Levels ks ls

-- how many NEW and MIRROR, and how many FORK, stand in a second alternative
abbrev pub second_locals : Option Alternative → ℕ
second_locals none = 0
second_locals (some (other b κ)) = locals b

abbrev pub second_forks : Option Alternative → ℕ
second_forks none = 0
second_forks (some (other b κ)) = forks b

-- The code c, which m locals and j FORK of a routine with k parameters stand before, has its names in a scope. They
-- are at most n, and so are their roots, which rs has and the place tells.
pub record InScope (k n : ℕ) (rs : List ℕ) (m j : ℕ) (π : Place) (c : Code) : Type 0 where
  pub numbered : Numbered k m j c
  pub scope : List ℕ
  pub uses : Uses scope c
  pub low : (x : ℕ) → In x scope → x ≤ n
  pub roots : (x : ℕ) → In x scope → root_of rs x ≡ π.roots x
  pub low_roots : (x : ℕ) → In x scope → π.roots x ≤ n

-- the same of a second alternative
abbrev pub SecondInScope : ℕ → ℕ → List ℕ → ℕ → ℕ → Option Alternative → Type 0
SecondInScope k n rs m j none = Unit {0}
SecondInScope k n rs m j (some (other b κ)) = InScope k n rs m j κ b

-- the same of each code that is left
abbrev pub Scopes : ℕ → ℕ → List ℕ → ℕ → ℕ → List Level → Type 0
Scopes k n rs m j [] = (k + m < most_names) × (j ≤ most_forks)
Scopes k n rs m j (level c u π ∷ ls) =
    InScope k n rs m j π c × SecondInScope k n rs (m + locals c) (j + forks c) u
    × Scopes k n rs (m + locals c + second_locals u) (j + forks c + second_forks u) ls

-- what holds at a level shows the place: its holder, its thread, and its nest as a mask
pub record Shows (v : Holding) (π : Place) : Type 0 where
  pub holder : π.holder ≡ held_by v.holder
  pub name : LowHolder v.holder
  pub thread : π.thread ≡ label_of v.thread
  pub low : v.thread ≤ most_forks
  pub nest : Bits v.nest (λ x. In x π.nest)

-- entry n shows the place
abbrev pub Entry : List Holding → ℕ → Place → Type 0
Entry vs n π = Shows (get_or vs n outermost) π

-- the same of a second alternative
abbrev pub SecondEntry : List Holding → ℕ → Option Alternative → Type 0
SecondEntry vs n none = Unit {0}
SecondEntry vs n (some (other b κ)) = Entry vs n κ

-- the same of each level
abbrev pub Entries : List Holding → List Level → Type 0
Entries vs [] = Unit {0}
Entries vs (level c u π ∷ ls) =
    Entry vs (length ls) π × SecondEntry vs (length ls) u × Entries vs ls

-- F holds of a second alternative
abbrev pub InSecond : (Code → Place → Type 0) → Option Alternative → Type 0
InSecond F none = ⊥
InSecond F (some (other b κ)) = F b κ

-- F holds of a code that is left, with its place
abbrev pub InLeft : (Code → Place → Type 0) → List Level → Type 0
InLeft F [] = ⊥
InLeft F (level c u π ∷ ls) = F c π ⊎ (InSecond F u ⊎ InLeft F ls)

-- H holds of the code at the place: of its first item
abbrev pub AtItem : (Code → Place → Type 0) → List Level → Type 0
AtItem H [] = ⊥
AtItem H (level c u π ∷ ls) = H c π

-- H holds of the first item, or F of the codes in it and after it
abbrev pub InParts : (H F : Code → Place → Type 0) → Code → Place → Type 0
InParts H F end π = ⊥
InParts H F (new x c) π = F c (naming x x π)
InParts H F (lock x c d) π = H (lock x c d) π ⊎ (F c (under_lock (π.roots x) π) ⊎ F d π)
InParts H F (fork i c d) π = F c (under_fork i π) ⊎ F d π
InParts H F (choice a b c) π = F a π ⊎ (F b π ⊎ F c π)
InParts H F (call r xs c) π = H (call r xs c) π ⊎ F c π
InParts H F (mirror x y c) π = F c (naming x (π.roots y) π)

-- a CALL in the code names routine q
abbrev pub CallIn : ℕ → Code → Place → Type 0
CallIn q c π = Calls c q

-- the first item is a CALL of routine q
abbrev pub CallAt : ℕ → Code → Place → Type 0
CallAt q end π = ⊥
CallAt q (new x c) π = ⊥
CallAt q (lock x c d) π = ⊥
CallAt q (fork i c d) π = ⊥
CallAt q (choice a b c) π = ⊥
CallAt q (call r xs c) π = q ≡ r
CallAt q (mirror x y c) π = ⊥

-- the code records the pair
abbrev pub PairIn : Pairs → ℕ → ℕ → Label → Code → Place → Type 0
PairIn R a b l c π = RecordedFrom R c π a b l

-- what a LOCK on a name with the root z records in thread θ with the holder h and the roots N in the nest
abbrev pub LockGives : (ℕ → Type 0) → ℕ → Label → Option ℕ → ℕ → ℕ → Label → Type 0
LockGives N z θ h a b l = (¬ N z) × (h ≡ some a) × (b ≡ z) × (l ≡ θ)

-- the first item records the pair
abbrev pub PairAt : Pairs → ℕ → ℕ → Label → Code → Place → Type 0
PairAt R a b l end π = ⊥
PairAt R a b l (new x c) π = ⊥
PairAt R a b l (lock x c d) π = LockGives (λ y. In y π.nest) (π.roots x) π.thread π.holder a b l
PairAt R a b l (fork i c d) π = ⊥
PairAt R a b l (choice u v c) π = ⊥
PairAt R a b l (call r xs c) π = CallGives R r (map π.roots xs) π.thread π.holder a b l
PairAt R a b l (mirror x y c) π = ⊥
