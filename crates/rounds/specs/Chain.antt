-- The dearest chain: n routines, each of which but the last calls the next one, and the last of which has a ring.
use Rattle.std.specs.Prelude.{List, [], ◌∷◌, ℕ, zero, suc}
use Rattle.table.specs.Program.{Code, end, new, lock, fork, call, Program}
use Rattle.table.specs.Encoding.{encode_table}

-- how many parameters routine r of the chain has: none if it is routine 0, else two
abbrev pub params_of : ℕ → ℕ
params_of zero = 0
params_of (suc r) = 2

-- in a routine with k parameters: NEW, NEW, and a CALL of routine q with the names 1 and 2
abbrev pub passing : ℕ → ℕ → Code
passing k q = new (suc k) (new (suc (suc k)) (call q (1 ∷ 2 ∷ []) end))

-- in a routine with k parameters: NEW, NEW, a FORK locks 1 and in it 2, and the running thread locks 2 and in it 1
abbrev pub opposing : ℕ → Code
opposing k =
    new (suc k) (new (suc (suc k)) (fork 1 (lock 1 (lock 2 end end) end) (lock 2 (lock 1 end end) end)))

-- m routines from routine r on that each call the next one, and then one that calls none
abbrev pub chain_from : ℕ → ℕ → Program
chain_from r zero = record { count = params_of r; code = opposing (params_of r) } ∷ []
chain_from r (suc m) = record { count = params_of r; code = passing (params_of r) (suc r) } ∷ chain_from (suc r) m

-- the chain of n routines
abbrev pub chain : ℕ → Program
chain zero = []
chain (suc m) = chain_from 0 m

-- the table of the chain of n routines
abbrev pub chain_table : ℕ → List ℕ
chain_table n = encode_table (chain n)
