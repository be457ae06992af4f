-- Well-formed programs: those that can be run.
use Rattle.std.specs.Prelude.{◌≡◌, ◌⊎◌, List, [], ◌∷◌, ◌++◌, ℕ, ◌<◌, length}
use Rattle.table.specs.Program.{Code, end, new, lock, fork, choice, call, mirror, Program, params}
use Rattle.table.specs.Program.{body, names}

-- a is an entry of the list
abbrev pub In : {A : Type 0} → A → List A → Type 0
In a [] = ⊥
In a (x ∷ xs) = (a ≡ x) ⊎ In a xs

-- no two entries of the list are equal
abbrev pub NoDup : {A : Type 0} → List A → Type 0
NoDup [] = Unit {0}
NoDup (x ∷ xs) = (¬ In x xs) × NoDup xs

-- Every name that the code uses is in the scope s, every local is above the k parameters, and every call is of a
-- routine of the program, with a name for each of its parameters. A local is in scope in what follows its NEW or
-- MIRROR.
abbrev pub Scoped : Program → ℕ → List ℕ → Code → Type 0
Scoped P k s end = Unit {0}
Scoped P k s (new x c) = (k < x) × Scoped P k (x ∷ s) c
Scoped P k s (lock x c d) = In x s × Scoped P k s c × Scoped P k s d
Scoped P k s (fork i c d) = Scoped P k s c × Scoped P k s d
Scoped P k s (choice a b c) = Scoped P k s a × Scoped P k s b × Scoped P k s c
Scoped P k s (call r xs c) =
    (r < length P) × (length xs ≡ params P r) × ((x : ℕ) → In x xs → In x s) × Scoped P k s c
Scoped P k s (mirror x y c) = (k < x) × In y s × Scoped P k (x ∷ s) c

-- every local is a name of its own: the scope s does not have it where its NEW or MIRROR stands
abbrev pub Fresh : List ℕ → Code → Type 0
Fresh s end = Unit {0}
Fresh s (new x c) = (¬ In x s) × Fresh (x ∷ s) c
Fresh s (lock x c d) = Fresh s c × Fresh s d
Fresh s (fork i c d) = Fresh s c × Fresh s d
Fresh s (choice a b c) = Fresh s a × Fresh s b × Fresh s c
Fresh s (call r xs c) = Fresh s c
Fresh s (mirror x y c) = (¬ In x s) × Fresh (x ∷ s) c

-- what each NEW and each FORK of a routine does under a number of its own: make the lock of a name, start a thread
pub data Once : Type 0 where
  makes : ℕ → Once
  starts : ℕ → Once

-- the NEW and FORK items of a code, in written order
abbrev pub onces : Code → List Once
onces end = []
onces (new x c) = makes x ∷ onces c
onces (lock x c d) = onces c ++ onces d
onces (fork i c d) = starts i ∷ (onces c ++ onces d)
onces (choice a b c) = onces a ++ (onces b ++ onces c)
onces (call r xs c) = onces c
onces (mirror x y c) = onces c

-- the programs that can be run: each name in scope, each local, NEW and FORK of a routine with a number of its own
pub record WellFormed (P : Program) : Type 0 where
  pub main : params P 0 ≡ 0
  pub scoped : (r : ℕ) → r < length P → Scoped P (params P r) (names (params P r)) (body P r)
  pub fresh : (r : ℕ) → r < length P → Fresh (names (params P r)) (body P r)
  pub once : (r : ℕ) → r < length P → NoDup (onces (body P r))
  pub some_routine : 0 < length P
