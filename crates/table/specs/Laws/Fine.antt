-- The bodies that a table can hold, and where one starts in the body section.
use Rattle.std.specs.Prelude.{◌≡◌, List, ◌∷◌, ◌++◌, ℕ, ◌+◌, ◌≤◌, ◌<◌, length, get_or, drop}
use Rattle.table.specs.Constants.{END, most_params, most_open, most_forks, most_names}
use Rattle.table.specs.Program.{Code, end, new, lock, fork, choice, call, mirror, names, locals, forks}
use Rattle.table.specs.WellFormed.{In}
use Rattle.table.specs.Encoding.{encode, Numbered, depth}

-- each call is of a routine of ks, with a name for each parameter
abbrev pub Calling : List ℕ → Code → Type 0
Calling ks end = Unit {0}
Calling ks (new x c) = Calling ks c
Calling ks (lock x c d) = Calling ks c × Calling ks d
Calling ks (fork i c d) = Calling ks c × Calling ks d
Calling ks (choice a b c) = Calling ks a × Calling ks b × Calling ks c
Calling ks (call r xs c) = (r < length ks) × (length xs ≡ get_or ks r 0) × (length xs ≤ most_params) × Calling ks c
Calling ks (mirror x y c) = Calling ks c

-- every name that the code uses is in the scope s
abbrev pub Uses : List ℕ → Code → Type 0
Uses s end = Unit {0}
Uses s (new x c) = Uses (x ∷ s) c
Uses s (lock x c d) = In x s × Uses s c × Uses s d
Uses s (fork i c d) = Uses s c × Uses s d
Uses s (choice a b c) = Uses s a × Uses s b × Uses s c
Uses s (call r xs c) = ((x : ℕ) → In x xs → In x s) × Uses s c
Uses s (mirror x y c) = In y s × Uses (x ∷ s) c

-- a body of a routine with k parameters, in a table whose routines have the parameter counts ks
pub record Fine (ks : List ℕ) (k : ℕ) (c : Code) : Type 0 where
  pub calling : Calling ks c
  pub uses : Uses (names k) c
  pub few_open : depth c ≤ most_open
  pub numbered : Numbered k 0 0 c
  pub few_names : k + locals c < most_names
  pub few_forks : forks c ≤ most_forks

-- the body of a routine with k parameters starts at the offset
abbrev pub IsBody : List ℕ → ℕ → List ℕ → ℕ → Type 0
IsBody ks k s at = (c : Code) × (t : List ℕ) × Fine ks k c × (drop at s ≡ encode END c ++ t)
