-- Programs: what a table holds. A body is a code: it ends, or it is one item and then the code that follows.
use Rattle.std.specs.Prelude.{List, [], ◌∷◌, ℕ, zero, suc, ◌+◌, get_or}

-- A body, block or alternative. The last code of an item is what follows it, the ones before are its blocks. NEW and
-- MIRROR have their local name written in, MIRROR before the name that it mirrors, and FORK its number in the routine.
pub data Code : Type 0 where
  end : Code
  new : ℕ → Code → Code
  lock : ℕ → Code → Code → Code
  fork : ℕ → Code → Code → Code
  choice : Code → Code → Code → Code
  call : ℕ → List ℕ → Code → Code
  mirror : ℕ → ℕ → Code → Code

-- a routine: its parameter count and its body
pub record Routine : Type 0 where
  pub count : ℕ
  pub code : Code

-- the routines in order
abbrev pub Program : Type 0
Program = List Routine

-- what stands for a routine that the program does not have
abbrev pub empty : Routine
empty = record { count = 0; code = end }

-- the parameter count of routine r
abbrev pub params : Program → ℕ → ℕ
params P r = (get_or P r empty).count

-- the body of routine r
abbrev pub body : Program → ℕ → Code
body P r = (get_or P r empty).code

-- the names 1 to k, the highest first
abbrev pub names : ℕ → List ℕ
names zero = []
names (suc k) = suc k ∷ names k

-- how many NEW and MIRROR stand in the code
abbrev pub locals : Code → ℕ
locals end = 0
locals (new x c) = 1 + locals c
locals (lock x c d) = locals c + locals d
locals (fork i c d) = locals c + locals d
locals (choice a b c) = locals a + (locals b + locals c)
locals (call r xs c) = locals c
locals (mirror x y c) = 1 + locals c

-- how many FORK stand in the code
abbrev pub forks : Code → ℕ
forks end = 0
forks (new x c) = forks c
forks (lock x c d) = forks c + forks d
forks (fork i c d) = 1 + (forks c + forks d)
forks (choice a b c) = forks a + (forks b + forks c)
forks (call r xs c) = forks c
forks (mirror x y c) = forks c

-- how many items stand in the code: every END and OTHER counts as one
abbrev pub items : Code → ℕ
items end = 1
items (new x c) = 1 + items c
items (lock x c d) = 1 + (items c + items d)
items (fork i c d) = 1 + (items c + items d)
items (choice a b c) = 1 + (items a + (items b + items c))
items (call r xs c) = 1 + items c
items (mirror x y c) = 1 + items c

-- how many items stand in the bodies of the program
abbrev pub program_items : Program → ℕ
program_items [] = 0
program_items (q ∷ P) = items q.code + program_items P
