-- The bytes of a program, and the programs within the limits: what a table that is accepted holds.
use Rattle.std.specs.Prelude.{◌≡◌, List, [], ◌∷◌, ◌++◌, ℕ, ◌+◌, ◌/◌, ◌%◌, max, ◌≤◌, ◌<◌, length, get_or}
use Rattle.table.specs.Constants.{most_routines, most_params, most_bytes, most_open, most_locals, most_forks}
use Rattle.table.specs.Constants.{Op, END, NEW, LOCK, FORK, CHOICE, OTHER, CALL, MIRROR, code}
use Rattle.table.specs.Program.{Code, end, new, lock, fork, choice, call, mirror, Routine, Program, empty}
use Rattle.table.specs.Program.{params, names, locals, forks}
use Rattle.table.specs.WellFormed.{Scoped}

-- the bytes of a body, block or alternative that an item of the kind z closes: END, or OTHER for a first alternative
abbrev pub encode : Op → Code → List ℕ
encode z end = code z ∷ []
encode z (new x c) = code NEW ∷ encode z c
encode z (lock x c d) = code LOCK ∷ x ∷ (encode END c ++ encode z d)
encode z (fork i c d) = code FORK ∷ (encode END c ++ encode z d)
encode z (choice a b c) = code CHOICE ∷ (encode OTHER a ++ (encode END b ++ encode z c))
encode z (call r xs c) = code CALL ∷ r ∷ (xs ++ encode z c)
encode z (mirror x y c) = code MIRROR ∷ y ∷ encode z c

-- the bodies in order
abbrev pub encode_bodies : Program → List ℕ
encode_bodies [] = []
encode_bodies (q ∷ P) = encode END q.code ++ encode_bodies P

-- the parameter counts in order
abbrev pub counts : Program → List ℕ
counts [] = []
counts (q ∷ P) = q.count ∷ counts P

-- a count in two bytes, low byte first
abbrev pub two_bytes : ℕ → List ℕ
two_bytes n = n % 256 ∷ n / 256 ∷ []

-- the whole table
abbrev pub encode_table : Program → List ℕ
encode_table P = length P ∷ (counts P ++ (two_bytes (length (encode_bodies P)) ++ encode_bodies P))

-- Locals and forks are numbered in written order over the routine, the locals of its NEW and MIRROR above its k
-- parameters and its forks from 1 on, where m NEW and MIRROR and j FORK of the routine stand before the code.
abbrev pub Numbered : ℕ → ℕ → ℕ → Code → Type 0
Numbered k m j end = Unit {0}
Numbered k m j (new x c) = (x ≡ k + m + 1) × Numbered k (m + 1) j c
Numbered k m j (lock x c d) = Numbered k m j c × Numbered k (m + locals c) (j + forks c) d
Numbered k m j (fork i c d) = (i ≡ j + 1) × Numbered k m (j + 1) c × Numbered k (m + locals c) (j + 1 + forks c) d
Numbered k m j (choice a b c) =
    Numbered k m j a × Numbered k (m + locals a) (j + forks a) b
    × Numbered k (m + locals a + locals b) (j + forks a + forks b) c
Numbered k m j (call r xs c) = Numbered k m j c
Numbered k m j (mirror x y c) = (x ≡ k + m + 1) × Numbered k (m + 1) j c

-- how many blocks are open at one time in the code, at most
abbrev pub depth : Code → ℕ
depth end = 0
depth (new x c) = depth c
depth (lock x c d) = max (1 + depth c) (depth d)
depth (fork i c d) = max (1 + depth c) (depth d)
depth (choice a b c) = max (1 + max (depth a) (depth b)) (depth c)
depth (call r xs c) = depth c
depth (mirror x y c) = depth c

-- a routine of the program P within the limits
pub record Fits (P : Program) (q : Routine) : Type 0 where
  pub few_params : q.count ≤ most_params
  pub scoped : Scoped P q.count (names q.count) q.code
  pub numbered : Numbered q.count 0 0 q.code
  pub few_open : depth q.code ≤ most_open
  pub few_locals : locals q.code ≤ most_locals
  pub few_forks : forks q.code ≤ most_forks

-- a program within the limits
pub record WithinLimits (P : Program) : Type 0 where
  pub some_routine : 1 ≤ length P
  pub few_routines : length P ≤ most_routines
  pub main : params P 0 ≡ 0
  pub fits : (r : ℕ) → r < length P → Fits P (get_or P r empty)
  pub few_bytes : length (encode_bodies P) ≤ most_bytes
