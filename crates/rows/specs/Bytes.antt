-- The pairs that the bytes of a model buffer tell.
use Rattle.std.specs.Prelude.{◌≡◌, List, ℕ, ◌+◌, ◌*◌, ◌<◌, get_or}
use Rattle.table.specs.Constants.{row_names, row_cells, row_bytes}
use Rattle.rules.specs.Label.{Label, own, forked, unknown, several}
use Rattle.rules.specs.Derived.{Pairs}
use Rattle.grid.specs.Rows.{Has}

-- the byte of cell (a, b) in the row of routine r
abbrev pub cell_byte : List ℕ → ℕ → ℕ → ℕ → ℕ
cell_byte model r a b = get_or model (row_bytes * r + (row_names * a + b)) 0

-- the last byte of the row of routine r
abbrev pub last_byte : List ℕ → ℕ → ℕ
last_byte model r = get_or model (row_bytes * r + row_cells) 0

-- a cell's byte has the label: 1 own, 2 unknown, 4 several
abbrev pub Labelled : ℕ → Label → Type 0
Labelled m own = Has m 0
Labelled m (forked i) = ⊥
Labelled m unknown = Has m 1
Labelled m several = Has m 2

-- the rows in a buffer: cell 8 * a + b of the row of routine r has the labels of (a, b)
abbrev pub RowBits : List ℕ → Pairs
RowBits rows r a b l = (a < row_names) × (b < row_names) × Labelled (get_or rows (row_bytes * r + row_names * a + b) 0) l

-- the last byte of the row of routine r says that there is a ring
abbrev pub RingByte : List ℕ → ℕ → Type 0
RingByte rows r = last_byte rows r ≡ 1

-- the rows of the n routines in a buffer
abbrev pub RowsOf : ℕ → List ℕ → Pairs
RowsOf n model r a b l = (r < n) × RowBits model r a b l
