-- Every worked table of docs/FORMAT.md is what its entry says: one test with what it proves, over the whole list.
use Rattle.std.specs.Prelude.{◌≡◌, refl, Bool, true, false, cond, ◌&&◌, List, ℕ, ◌+◌, ◌*◌, ◌<◌, T, eqb, length, get_or}
use Rattle.std.proofs.Common.{inl, inr, eqb→eq}
use Rattle.std.proofs.Math.Decide.{ℕ_discrete}
use Rattle.table.specs.Program.{Program}
use Rattle.table.specs.Check.{Outcome, refused, accepted, check_table, block_by, block}
use Rattle.table.specs.WellFormed.{In}
use Rattle.rules.specs.Label.{Label, own, unknown, several}
use Rattle.rules.specs.Model.{Row, Ring}
use Rattle.rules.proofs.Laws.Tests.{Decides, both, itself, halves}
use Rattle.rules.proofs.Laws.Lists.{member?, member, every?, every_at}
use Rattle.rules.proofs.Laws.Table.{every_below, at_below, at_both}
use Rattle.rules.proofs.Laws.Certificate.{same_label?, same_label, settled?, row_labels, is_row}
use Rattle.rules.proofs.Laws.Judge.{clear?, is_clear, ring_at?, is_ring_at, rings_of, is_ring, some?, is_some}
use Rattle.rules.proofs.Laws.Judge.{share?, is_share}
use Rattle.table.specs.Constants.{row_bytes, row_names}
use Rattle.analysis.specs.Answer.{Flag, Cell, Models, Says}
use Rattle.analysis.specs.declared.Share.{Share}
use Rattle.analysis.specs.declared.Verdict.{Verdict}
use Rattle.analysis.specs.declared.Verdict.TheVariants.{Clear, Ring as RingOf}
use Rattle.worked.specs.Cases.{CellByte, Case, rows_of, Holds, cases}

-- 1 where the test passes, else 0
abbrev flag_of : Bool → ℕ
flag_of b = cond b 1 0

-- the flag of a test is the flag of what it decides
is_flag : (b : Bool) {Q : Type 0} → Decides b Q → Flag (flag_of b) Q
is_flag true d = inl (refl, d.fact tt)
is_flag false d = inr (refl, d.test)

-- whether a row's cell has the label
abbrev labelled? : Program → ℕ → ℕ → ℕ → Label → Bool
labelled? P r a b l = member? same_label? l (row_labels P r a b)

-- the test is passed by the labels of the row
is_labelled :
    (P : Program) → T (settled? P) → (r a b : ℕ) (l : Label) → Decides (labelled? P r a b l) (Row P r a b l)
is_labelled P t r a b l =
    let m = member same_label? same_label l (row_labels P r a b) in
    let f = is_row P t r a b l in
    record { fact = λ x. f.fact (m.fact x); test = λ w. m.test (f.entry w) }

-- the byte of a cell
abbrev cell_byte : Program → ℕ → ℕ → ℕ → ℕ
cell_byte P r a b =
    flag_of (labelled? P r a b own) + 2 * flag_of (labelled? P r a b unknown) + 4 * flag_of (labelled? P r a b several)

-- a byte that equals it is the cell of the rules
is_cell : (P : Program) → T (settled? P) → (r a b v : ℕ) → T (eqb v (cell_byte P r a b)) → Cell P r a b v
is_cell P t r a b v e =
    record {
      one = flag_of (labelled? P r a b own);
      two = flag_of (labelled? P r a b unknown);
      four = flag_of (labelled? P r a b several);
      sum = eqb→eq v (cell_byte P r a b) e;
      by_own = is_flag (labelled? P r a b own) (is_labelled P t r a b own);
      by_unknown = is_flag (labelled? P r a b unknown) (is_labelled P t r a b unknown);
      by_several = is_flag (labelled? P r a b several) (is_labelled P t r a b several);
    }

-- cell (a, b) of row r in the buffer has the byte of the rules
abbrev cell_agrees? : Program → List ℕ → ℕ → ℕ → ℕ → Bool
cell_agrees? P model r a b = eqb (get_or model (row_bytes * r + (row_names * a + b)) 0) (cell_byte P r a b)

-- so have all cells of row r
abbrev cells_agree? : Program → List ℕ → ℕ → Bool
cells_agree? P model r = every_below row_names (λ a. every_below row_names (cell_agrees? P model r a))

-- the last byte of row r is 1 where the rules give a ring
abbrev last_agrees? : Program → List ℕ → ℕ → Bool
last_agrees? P model r = eqb (get_or model (row_bytes * r + row_names * row_names) 0) (flag_of (some? (rings_of P r)))

-- all rows agree
abbrev models? : Program → List ℕ → Bool
models? P model = every_below (length P) (cells_agree? P model) && every_below (length P) (last_agrees? P model)

-- rows that agree are those of the least model
is_models : (P : Program) → T (settled? P) → (model : List ℕ) → T (models? P model) → Models P model
is_models P t model m = record { cells = cell; last = ring }
  where
    w : T (every_below (length P) (cells_agree? P model)) × T (every_below (length P) (last_agrees? P model))
    w = halves (every_below (length P) (cells_agree? P model)) (every_below (length P) (last_agrees? P model)) m

    cell :
        (r a b : ℕ) → r < length P → a < row_names → b < row_names
        → Cell P r a b (get_or model (row_bytes * r + (row_names * a + b)) 0)
    cell r a b h i j =
        is_cell P t r a b (get_or model (row_bytes * r + (row_names * a + b)) 0)
        (at_both row_names row_names (cell_agrees? P model r)
        (at_below (length P) (cells_agree? P model) w.0 r h) a b i j)

    ring :
        (r : ℕ) → r < length P
        → Flag (get_or model (row_bytes * r + row_names * row_names) 0) ((x : ℕ) × Ring P r x)
    ring r h =
        rw (eqb→eq (get_or model (row_bytes * r + row_names * row_names) 0) (flag_of (some? (rings_of P r)))
        (at_below (length P) (last_agrees? P model) w.1 r h))
        (is_flag (some? (rings_of P r)) (is_some (rings_of P r) (is_ring P t r)))

-- the verdict is the one that the rules give
abbrev says? : Program → Verdict → Bool
says? P Clear = clear? P
says? P (RingOf ring) = ring_at? P ring.routine ring.name

-- a verdict that passes is true
is_said : (P : Program) (v : Verdict) → T (says? P v) → Says P v
is_said P Clear t = is_clear P t
is_said P (RingOf ring) t = is_ring_at P ring.routine ring.name t

-- the share is the one that the rules give
abbrev shares? : Program → Share → Bool
shares? P s = share? P s.percent s.remainder s.reached

-- a cell of a case is the one that the rules give
abbrev cell? : Program → CellByte → Bool
cell? P s = eqb s.byte (cell_byte P s.routine s.a s.b)

-- the test of a case, given what the check of its table comes to
abbrev passes? : Case → Outcome → Bool
passes? c (refused e) = false
passes? c (accepted P) =
    settled? P
    && (says? P c.verdict
    && (shares? P c.share && (every? (cell? P) c.cells && models? P (rows_of (length P) c))))

-- what the test proves
passed : (c : Case) (o : Outcome) → check_table c.table ≡ o → T (passes? c o) → Holds c
passed c (refused _) e t = elim t [ ]
passed c (accepted P) e t =
    record {
      program = P;
      accepts = e;
      says = is_said P c.verdict w.1.0;
      shares = is_share P c.share.percent c.share.remainder c.share.reached w.1.1.0;
      cell = λ s i.
          is_cell P w.0 s.routine s.a s.b s.byte (every_at (cell? P) c.cells s w.1.1.1.0 i);
      models = is_models P w.0 (rows_of (length P) c) w.1.1.1.1;
    }
  where
    w :
        T (settled? P) × (T (says? P c.verdict) × (T (shares? P c.share)
        × (T (every? (cell? P) c.cells) × T (models? P (rows_of (length P) c)))))
    w =
        (both (itself (settled? P)) (both (itself (says? P c.verdict)) (both (itself (shares? P c.share))
        (both (itself (every? (cell? P) c.cells)) (itself (models? P (rows_of (length P) c))))))).fact t

-- the test of a case, from its bytes
abbrev holds? : Case → Bool
holds? c = passes? c (check_table c.table)

-- the one theorem: every worked table is what its entry says
pub every_case : (c : Case) → In c cases → Holds c
unfolding ℕ_discrete block block_by
every_case c i = passed c (check_table c.table) refl (every_at holds? cases c tt i)
