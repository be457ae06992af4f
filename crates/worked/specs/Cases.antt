-- The worked tables of docs/FORMAT.md, from their bytes: each with its verdict, its share and the rows of its model.
use Rattle.std.specs.Prelude.{◌≡◌, List, [], ◌∷◌, ℕ, ◌+◌, ◌*◌, length, replicate, set}
use Rattle.table.specs.Program.{Program}
use Rattle.table.specs.Check.{accepted, check_table}
use Rattle.table.specs.WellFormed.{In}
use Rattle.table.specs.Constants.{row_bytes, row_names}
use Rattle.analysis.specs.Answer.{Says, Shares, Cell, Models}
use Rattle.analysis.specs.declared.Share.{Share}
use Rattle.analysis.specs.declared.Verdict.{Verdict}
use Rattle.analysis.specs.declared.Verdict.TheVariants.{Clear, Ring}

-- the byte of cell (a, b) in the row of a routine
pub record CellByte : Type 0 where
  pub routine : ℕ
  pub a : ℕ
  pub b : ℕ
  pub byte : ℕ

-- a worked table
pub record Case : Type 0 where
  -- its bytes
  pub table : List ℕ
  -- what is said of it
  pub verdict : Verdict
  pub share : Share
  -- the cells that are not 0
  pub cells : List CellByte
  -- the routines whose last byte is 1
  pub rings : List ℕ

-- the buffer with the cells put in
abbrev pub with_cells : List CellByte → List ℕ → List ℕ
with_cells [] model = model
with_cells (c ∷ cs) model =
    set (with_cells cs model) (row_bytes * c.routine + (row_names * c.a + c.b)) c.byte

-- the buffer with 1 put in as the last byte of the routines
abbrev pub with_rings : List ℕ → List ℕ → List ℕ
with_rings [] model = model
with_rings (r ∷ rs) model = set (with_rings rs model) (row_bytes * r + row_names * row_names) 1

-- the rows of n routines: all bytes are 0 but for the cells, and the last bytes of the routines with a ring
abbrev pub rows_of : ℕ → Case → List ℕ
rows_of n c = with_cells c.cells (with_rings c.rings (replicate (row_bytes * n) 0))

-- what is proved of a worked table
pub record Holds (c : Case) : Type 0 where
  -- its bytes are accepted
  pub program : Program
  pub accepts : check_table c.table ≡ accepted program
  -- the verdict and the share are those that the rules give
  pub says : Says program c.verdict
  pub shares : Shares program c.share
  -- each cell named is the one that the rules give
  pub cell : (s : CellByte) → In s c.cells → Cell program s.routine s.a s.b s.byte
  -- the rows, whole, are those of the least model
  pub models : Models program (rows_of (length program) c)

-- a: one routine that does nothing
abbrev pub table_a : List ℕ
table_a = 0x01 ∷ 0x00 ∷ 0x01 ∷ 0x00 ∷ 0x00 ∷ []

-- b: a fork locks 1 then 2, the main thread 2 then 1
abbrev pub table_b : List ℕ
table_b = 0x01 ∷ 0x00 ∷ 0x11 ∷ 0x00 ∷ 0x01 ∷ 0x01
    ∷ 0x03 ∷ 0x02 ∷ 0x01 ∷ 0x02 ∷ 0x02 ∷ 0x00 ∷ 0x00 ∷ 0x00
    ∷ 0x02 ∷ 0x02 ∷ 0x02 ∷ 0x01 ∷ 0x00 ∷ 0x00 ∷ 0x00 ∷ []

-- c: a fork and the main thread both lock 1 then 2
abbrev pub table_c : List ℕ
table_c = 0x01 ∷ 0x00 ∷ 0x11 ∷ 0x00 ∷ 0x01 ∷ 0x01
    ∷ 0x03 ∷ 0x02 ∷ 0x01 ∷ 0x02 ∷ 0x02 ∷ 0x00 ∷ 0x00 ∷ 0x00
    ∷ 0x02 ∷ 0x01 ∷ 0x02 ∷ 0x02 ∷ 0x00 ∷ 0x00 ∷ 0x00 ∷ []

-- d: one thread locks 1 inside 1
abbrev pub table_d : List ℕ
table_d = 0x01 ∷ 0x00 ∷ 0x08 ∷ 0x00 ∷ 0x01 ∷ 0x02 ∷ 0x01 ∷ 0x02 ∷ 0x01 ∷ 0x00 ∷ 0x00 ∷ 0x00 ∷ []

-- e: a fork and the main thread each lock 1 inside 1
abbrev pub table_e : List ℕ
table_e = 0x01 ∷ 0x00 ∷ 0x10 ∷ 0x00 ∷ 0x01
    ∷ 0x03 ∷ 0x02 ∷ 0x01 ∷ 0x02 ∷ 0x01 ∷ 0x00 ∷ 0x00 ∷ 0x00
    ∷ 0x02 ∷ 0x01 ∷ 0x02 ∷ 0x01 ∷ 0x00 ∷ 0x00 ∷ 0x00 ∷ []

-- f: a fork nests 1, 3, 2, the main thread 1, 2, 3
abbrev pub table_f : List ℕ
table_f = 0x01 ∷ 0x00 ∷ 0x18 ∷ 0x00 ∷ 0x01 ∷ 0x01 ∷ 0x01
    ∷ 0x03 ∷ 0x02 ∷ 0x01 ∷ 0x02 ∷ 0x03 ∷ 0x02 ∷ 0x02 ∷ 0x00 ∷ 0x00 ∷ 0x00 ∷ 0x00
    ∷ 0x02 ∷ 0x01 ∷ 0x02 ∷ 0x02 ∷ 0x02 ∷ 0x03 ∷ 0x00 ∷ 0x00 ∷ 0x00 ∷ 0x00 ∷ []

-- g: philosophers round a table, one of whom takes the locks the other way round
abbrev pub table_g : List ℕ
table_g = 0x02 ∷ 0x00 ∷ 0x02 ∷ 0x1D ∷ 0x00 ∷ 0x01 ∷ 0x06 ∷ 0x01 ∷ 0x01 ∷ 0x01 ∷ 0x00
    ∷ 0x04 ∷ 0x02 ∷ 0x02 ∷ 0x02 ∷ 0x01 ∷ 0x00 ∷ 0x00 ∷ 0x05
    ∷ 0x01 ∷ 0x03 ∷ 0x02 ∷ 0x01 ∷ 0x02 ∷ 0x03 ∷ 0x00 ∷ 0x00 ∷ 0x00 ∷ 0x06 ∷ 0x01 ∷ 0x03 ∷ 0x02 ∷ 0x00 ∷ 0x00 ∷ []

-- h: the philosophers, all of whom take the locks the same way round
abbrev pub table_h : List ℕ
table_h = 0x02 ∷ 0x00 ∷ 0x02 ∷ 0x1D ∷ 0x00 ∷ 0x01 ∷ 0x06 ∷ 0x01 ∷ 0x01 ∷ 0x01 ∷ 0x00
    ∷ 0x04 ∷ 0x02 ∷ 0x01 ∷ 0x02 ∷ 0x02 ∷ 0x00 ∷ 0x00 ∷ 0x05
    ∷ 0x01 ∷ 0x03 ∷ 0x02 ∷ 0x01 ∷ 0x02 ∷ 0x03 ∷ 0x00 ∷ 0x00 ∷ 0x00 ∷ 0x06 ∷ 0x01 ∷ 0x03 ∷ 0x02 ∷ 0x00 ∷ 0x00 ∷ []

-- i, called: routine 1 forks a thread that nests its parameters 1, 2, 3, and routine 0 calls it with 1, 2, 1
abbrev pub table_i_called : List ℕ
table_i_called = 0x02 ∷ 0x00 ∷ 0x03 ∷ 0x14 ∷ 0x00 ∷ 0x01 ∷ 0x01 ∷ 0x06 ∷ 0x01 ∷ 0x01 ∷ 0x02 ∷ 0x01 ∷ 0x00
    ∷ 0x03 ∷ 0x02 ∷ 0x01 ∷ 0x02 ∷ 0x02 ∷ 0x02 ∷ 0x03 ∷ 0x00 ∷ 0x00 ∷ 0x00 ∷ 0x00 ∷ 0x00 ∷ []

-- i, written: the fork stands in routine 0 itself, and nests 1, 2, 1
abbrev pub table_i_written : List ℕ
table_i_written = 0x01 ∷ 0x00 ∷ 0x0E ∷ 0x00 ∷ 0x01 ∷ 0x01
    ∷ 0x03 ∷ 0x02 ∷ 0x01 ∷ 0x02 ∷ 0x02 ∷ 0x02 ∷ 0x01 ∷ 0x00 ∷ 0x00 ∷ 0x00 ∷ 0x00 ∷ 0x00 ∷ []

-- j: a fork nests 1, 2, the main thread 1, 2, 1
abbrev pub table_j : List ℕ
table_j = 0x01 ∷ 0x00 ∷ 0x14 ∷ 0x00 ∷ 0x01 ∷ 0x01
    ∷ 0x03 ∷ 0x02 ∷ 0x01 ∷ 0x02 ∷ 0x02 ∷ 0x00 ∷ 0x00 ∷ 0x00
    ∷ 0x02 ∷ 0x01 ∷ 0x02 ∷ 0x02 ∷ 0x02 ∷ 0x01 ∷ 0x00 ∷ 0x00 ∷ 0x00 ∷ 0x00 ∷ []

-- three reached routines, of which routine 2 has a ring
abbrev pub table_three : List ℕ
table_three = 0x03 ∷ 0x00 ∷ 0x00 ∷ 0x00 ∷ 0x1F ∷ 0x00 ∷ 0x06 ∷ 0x01 ∷ 0x06 ∷ 0x02 ∷ 0x00
    ∷ 0x01 ∷ 0x01 ∷ 0x02 ∷ 0x01 ∷ 0x02 ∷ 0x02 ∷ 0x00 ∷ 0x00 ∷ 0x00
    ∷ 0x01 ∷ 0x01 ∷ 0x03 ∷ 0x02 ∷ 0x01 ∷ 0x02 ∷ 0x02 ∷ 0x00 ∷ 0x00 ∷ 0x00
    ∷ 0x02 ∷ 0x02 ∷ 0x02 ∷ 0x01 ∷ 0x00 ∷ 0x00 ∷ 0x00 ∷ []

-- two reached routines, and routine 2, which no call reaches, with a ring
abbrev pub table_unreached : List ℕ
table_unreached = 0x03 ∷ 0x00 ∷ 0x01 ∷ 0x00 ∷ 0x1F ∷ 0x00
    ∷ 0x01 ∷ 0x03 ∷ 0x06 ∷ 0x01 ∷ 0x01 ∷ 0x00 ∷ 0x06 ∷ 0x01 ∷ 0x01 ∷ 0x00
    ∷ 0x02 ∷ 0x01 ∷ 0x00 ∷ 0x00
    ∷ 0x01 ∷ 0x01 ∷ 0x03 ∷ 0x02 ∷ 0x01 ∷ 0x02 ∷ 0x02 ∷ 0x00 ∷ 0x00 ∷ 0x00
    ∷ 0x02 ∷ 0x02 ∷ 0x02 ∷ 0x01 ∷ 0x00 ∷ 0x00 ∷ 0x00 ∷ []

-- the share q percent with the remainder, of m routines
abbrev of : ℕ → ℕ → ℕ → Share
of q remainder m = record { percent = q; remainder = remainder; reached = m }

-- the verdict ring with routine r and name x
abbrev ring : ℕ → ℕ → Verdict
ring r x = Ring (record { routine = r; name = x })

-- the byte v of cell (a, b) in the row of routine r
abbrev pair : ℕ → ℕ → ℕ → ℕ → CellByte
pair r a b v = record { routine = r; a = a; b = b; byte = v }

-- a table, its verdict, its share, its cells that are not 0 and its routines whose last byte is 1
abbrev gets : List ℕ → Verdict → Share → List CellByte → List ℕ → Case
gets t v s cs rs = record { table = t; verdict = v; share = s; cells = cs; rings = rs }

-- The worked tables, in order. The rows of a and g and row 1 of h are in docs/FORMAT.md; the rest the rules give.
-- Routine 0 has no parameters, so that its cells are all 0.
abbrev pub cases : List Case
cases = gets table_a Clear (of 100 0 1) [] []
    ∷ gets table_b (ring 0 1) (of 0 0 1) [] (0 ∷ [])
    ∷ gets table_c Clear (of 100 0 1) [] []
    ∷ gets table_d Clear (of 100 0 1) [] []
    ∷ gets table_e Clear (of 100 0 1) [] []
    ∷ gets table_f (ring 0 2) (of 0 0 1) [] (0 ∷ [])
    ∷ gets table_g Clear (of 100 0 2) (pair 1 0 1 1 ∷ pair 1 0 2 1 ∷ pair 1 2 1 1 ∷ []) []
    ∷ gets table_h (ring 0 1) (of 50 0 2) (pair 1 0 1 1 ∷ pair 1 0 2 5 ∷ pair 1 1 2 5 ∷ []) (0 ∷ [])
    ∷ gets table_i_called (ring 0 1) (of 50 0 2) (pair 1 1 2 2 ∷ pair 1 1 3 2 ∷ pair 1 2 3 2 ∷ []) (0 ∷ [])
    ∷ gets table_i_written Clear (of 100 0 1) [] []
    ∷ gets table_j Clear (of 100 0 1) [] []
    ∷ gets table_three (ring 2 1) (of 66 2 3) [] (2 ∷ [])
    ∷ gets table_unreached Clear (of 100 0 2) (pair 1 0 1 1 ∷ []) (2 ∷ []) ∷ []
