-- The limits of a table, the sizes that follow from them, and the codes of its items.
use Rattle.std.specs.Prelude.{[], ◌∷◌, ℕ, ◌+◌, ◌*◌}
use Rattle.std.proofs.Math.Option.{Option}
use Rattle.std.proofs.Math.ListN.{get_elem?}

-- how many routines a table has at most
abbrev pub most_routines : ℕ
most_routines = 64

-- how many parameters a routine has at most
abbrev pub most_params : ℕ
most_params = 7

-- how many bytes the body section has at most
abbrev pub most_bytes : ℕ
most_bytes = 4096

-- how many blocks are open at one time at most, the body not counted
abbrev pub most_open : ℕ
most_open = 16

-- how many NEW and MIRROR stand in a routine at most
abbrev pub most_locals : ℕ
most_locals = 8

-- how many FORK stand in a routine at most
abbrev pub most_forks : ℕ
most_forks = 8

-- how many names a routine has at most: name 0, its parameters and its locals
abbrev pub most_names : ℕ
most_names = 1 + most_params + most_locals

-- how many names a row of the model has cells for: name 0 and the parameters
abbrev pub row_names : ℕ
row_names = 1 + most_params

-- how many cells a row has
abbrev pub row_cells : ℕ
row_cells = row_names * row_names

-- how many bytes a row has: its cells and the ring's byte
abbrev pub row_bytes : ℕ
row_bytes = row_cells + 1

-- the kinds of item
pub data Op : Type 0 where
  END NEW LOCK FORK CHOICE OTHER CALL MIRROR : Op

-- the code of a kind of item
abbrev pub code : Op → ℕ
code END = 0x00
code NEW = 0x01
code LOCK = 0x02
code FORK = 0x03
code CHOICE = 0x04
code OTHER = 0x05
code CALL = 0x06
code MIRROR = 0x07

-- the kind of item that has the byte as its code, if there is one
abbrev pub op_of : ℕ → Option Op
op_of b = get_elem? (END ∷ NEW ∷ LOCK ∷ FORK ∷ CHOICE ∷ OTHER ∷ CALL ∷ MIRROR ∷ []) b
