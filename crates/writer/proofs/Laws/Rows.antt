-- What the analysis says of a table and of its canonical table: a reached routine has the same row of bytes in both
-- models, both are judged clear or neither is, and both have one share.
use Rattle.std.specs.Prelude.{◌≡◌, refl, ◌↔◌, List, ℕ, ◌+◌, ◌*◌, ◌/◌, ◌%◌, ◌<◌, length, get_or, Ok}
use Rattle.std.proofs.Common.{div-add-mod', mod-lt, arith}
use Rattle.std.proofs.Math.Decide.{dec_lt}
use Rattle.table.specs.Constants.{row_names, row_cells, row_bytes}
use Rattle.table.specs.Program.{Program}
use Rattle.table.specs.Encoding.{WithinLimits}
use Rattle.table.specs.Check.{accepted, check_table}
use Rattle.table.proofs.Laws.Accepts.{Bytes}
use Rattle.table.proofs.Laws.Sound.{sound}
use Rattle.table.proofs.Laws.Formed.{well_formed}
use Rattle.rules.specs.Model.{Row, Ring}
use Rattle.rules.specs.Verdict.{Reached, Clear}
use Rattle.rules.proofs.Laws.Verdict.{reached_within, clear_no_ring}
use Rattle.rows.specs.Bytes.{cell_byte, last_byte}
use Rattle.analysis.specs.Answer.{Models, Says, JudgedAs, Analysed}
use Rattle.analysis.proofs.Laws.Bytes.{cell_map, flag_map}
use Rattle.analysis.proofs.Laws.Judged.{judged_as}
use Rattle.analysis.proofs.Laws.Unique.{cell_unique, flag_unique, shares_unique}
use Rattle.analysis.specs.declared.Verdict.{Verdict}
use Rattle.analysis.specs.declared.Verdict.TheVariants.{Clear as SaysClear, Ring as SaysRing}
use Rattle.analysis.specs.declared.Judgement.{Judgement}
use Rattle.canon.specs.Canonical.{place, canonical, canonical_table}
use Rattle.canon.proofs.Laws.Limits.{keeps}
use Rattle.canon.proofs.Laws.Accepted.{canonical_accepted}
use Rattle.canon.proofs.Laws.Rows.{row_kept, ring_kept, clear_kept}
use Rattle.canon.proofs.Laws.Share.{share_kept}

-- the model of a program and that of its canonical program have one row for a reached routine
module _ (P : Program) (within : WithinLimits P) (model model' : List ℕ) (m : Models P model)
    (m' : Models (canonical P) model') (r : ℕ) (w : Reached P r) where
  here : r < length P
  here = reached_within P (well_formed P within) r w

  there : place P r < length (canonical P)
  there = (keeps P within r w).0

  cell_same : (a b : ℕ) → a < row_names → b < row_names → cell_byte model r a b ≡ cell_byte model' (place P r) a b
  cell_same a b la lb =
      cell_unique (Row (canonical P) (place P r) a b) (cell_byte model r a b) (cell_byte model' (place P r) a b)
      (cell_map (Row P r a b) (Row (canonical P) (place P r) a b) (cell_byte model r a b)
      (λ l. (row_kept P within r w a b l).0) (λ l. (row_kept P within r w a b l).1) (m.cells r a b here la lb))
      (m'.cells (place P r) a b there la lb)

  last_same : last_byte model r ≡ last_byte model' (place P r)
  last_same =
      flag_unique (last_byte model r) (last_byte model' (place P r)) ((x : ℕ) × Ring (canonical P) (place P r) x)
      (flag_map (last_byte model r) (ring_kept P within r w).0 (ring_kept P within r w).1 (m.last r here))
      (m'.last (place P r) there)

  pub models_kept : (i : ℕ) → i < row_bytes
      → get_or model (row_bytes * r + i) 0 ≡ get_or model' (row_bytes * place P r + i) 0
  models_kept i l = by (dec_lt i row_cells)
    where
      by : Dec (i < row_cells) → get_or model (row_bytes * r + i) 0 ≡ get_or model' (row_bytes * place P r + i) 0
      by (yes lt) =
          let e : i ≡ 8 * (i / 8) + i % 8 = omega (arith, div-add-mod' i 8) in
          let s : i % 8 < 8 = mod-lt i (omega arith) in
          let a = i / 8 in
          let b = i % 8 in
          rw e (cell_same a b (omega arith) s)
      by (no ge) =
          let e : i ≡ 64 = omega arith in
          rw e last_same

-- a program that the verdict says clear of is clear, and the other way round
clear_says : (P : Program) (v : Verdict) → Says P v → (v ≡ SaysClear) ↔ Clear P
clear_says P SaysClear says = (λ e. says, λ c. refl)
clear_says P (SaysRing ring) says = (
  λ e. absurd (let z : ◌≡◌ {A = ℕ} 0 1 = cc in omega arith),
  λ c. absurd (clear_no_ring P ring.routine ring.name c says),
)

-- the table holds P, and it and the canonical table of P are judged, each from a buffer of its own
module _ (table : List ℕ) (P : Program) (bytes : Bytes table) (e : check_table table ≡ accepted P)
    (before after before' after' : List ℕ) (j j' : Judgement) (a : Analysed table before after (Ok j))
    (a' : Analysed (canonical_table P) before' after' (Ok j')) where
  within : WithinLimits P
  within = (sound table P bytes e).1

  first : JudgedAs P before after j
  first = judged_as table before after j a P e

  second : JudgedAs (canonical P) before' after' j'
  second = judged_as (canonical_table P) before' after' j' a' (canonical P) (canonical_accepted P within)

  -- every byte of the row of a reached routine is that of the row of its new number
  pub row_bytes_kept : (r : ℕ) → Reached P r → (i : ℕ) → i < row_bytes
      → get_or after (row_bytes * r + i) 0 ≡ get_or after' (row_bytes * place P r + i) 0
  row_bytes_kept = models_kept P within after after' first.model second.model

  -- the one is judged clear exactly when the other is
  pub verdict_kept : (j.verdict ≡ SaysClear) ↔ (j'.verdict ≡ SaysClear)
  verdict_kept =
      let x = clear_says P j.verdict first.says in
      let y = clear_says (canonical P) j'.verdict second.says in
      let c = clear_kept P within in
      (λ h. y.1 (c.0 (x.0 h)), λ h. x.1 (c.1 (y.0 h)))

  -- and both have one share
  pub shares_kept : j.share ≡ j'.share
  shares_kept =
      let s = j.share in
      shares_unique (canonical P) s j'.share
      (share_kept P within s.percent s.remainder s.reached first.shares) second.shares
