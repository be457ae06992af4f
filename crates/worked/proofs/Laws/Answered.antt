-- What the contract of the analysis comes to at a worked table: the verdict, the share and the rows of its entry.
use Rattle.std.specs.Prelude.{◌≡◌, refl, List, [], ◌∷◌, ℕ, ◌+◌, ◌*◌, ◌≤◌, ◌<◌, length, get_or, take, replicate, Ok}
use Rattle.std.proofs.Common.{sym, ◌∙◌, arith, length-set, ext_get_or, get_or-take, length-take-le}
use Rattle.std.proofs.lemmas.List.{length-replicate}
use Rattle.table.specs.Program.{Program}
use Rattle.table.specs.Check.{accepted, check_table}
use Rattle.table.specs.WellFormed.{In}
use Rattle.table.specs.Constants.{row_bytes, row_names}
use Rattle.analysis.specs.Answer.{Answer, Says, Shares, Models, JudgedAs, Analysed}
use Rattle.analysis.specs.declared.Judgement.{Judgement}
use Rattle.analysis.proofs.Laws.Unique.{models_unique, verdict_unique, shares_unique}
use Rattle.worked.specs.Cases.{CellByte, Case, with_cells, with_rings, rows_of, Holds, cases}
use Rattle.worked.proofs.Laws.Proved.{every_case}

-- cells put in leave the length
with_cells_long : (cs : List CellByte) (model : List ℕ) → length (with_cells cs model) ≡ length model
with_cells_long [] model = refl
with_cells_long (c ∷ cs) model =
    length-set (with_cells cs model) (row_bytes * c.routine + (row_names * c.a + c.b)) c.byte
    ∙ with_cells_long cs model

-- and so do last bytes
with_rings_long : (rs : List ℕ) (model : List ℕ) → length (with_rings rs model) ≡ length model
with_rings_long [] model = refl
with_rings_long (r ∷ rs) model =
    length-set (with_rings rs model) (row_bytes * r + row_names * row_names) 1 ∙ with_rings_long rs model

-- the rows of n routines have 65 bytes a routine
rows_long : (n : ℕ) (c : Case) → length (rows_of n c) ≡ row_bytes * n
rows_long n c =
    with_cells_long c.cells (with_rings c.rings (replicate (row_bytes * n) 0))
    ∙ with_rings_long c.rings (replicate (row_bytes * n) 0) ∙ length-replicate (row_bytes * n) 0

-- the answer and the buffer of a worked table that has n routines
pub record Answers (c : Case) (n : ℕ) (after : List ℕ) (answer : Answer) : Type 0 where
  pub rounds : ℕ
  pub judged : answer ≡ Ok (record { verdict = c.verdict; share = c.share; rounds = rounds })
  pub rows : take (row_bytes * n) after ≡ rows_of n c

-- where an entry holds, the contract gives its verdict, its share and its rows
answers :
    (c : Case) → Holds c → (P : Program) → check_table c.table ≡ accepted P
    → (before after : List ℕ) (answer : Answer) → row_bytes * length P ≤ length before
    → Analysed c.table before after answer → Answers c (length P) after answer
answers c h P e before after answer l p =
    record {
      rounds = w.0.rounds;
      judged = judged;
      rows =
          ext_get_or 0 (take (row_bytes * length P) after) (rows_of (length P) c) (long ∙ sym (rows_long (length P) c)) at;
    }
  where
    same : h.program ≡ P
    same = cc h.accepts

    says : Says P c.verdict
    says = rw same at h.says

    shares : Shares P c.share
    shares = rw same at h.shares

    models : Models P (rows_of (length P) c)
    models = rw same at h.models

    w : (j : Judgement) × (answer ≡ Ok j) × JudgedAs P before after j
    w = p.judged P e l

    judged : answer ≡ Ok (record { verdict = c.verdict; share = c.share; rounds = w.0.rounds })
    judged =
        let v : w.0.verdict ≡ c.verdict = verdict_unique P w.0.verdict c.verdict w.2.says says in
        let s : w.0.share ≡ c.share = shares_unique P w.0.share c.share w.2.shares shares in
        w.1 ∙ rw (← v, ← s) refl

    long : length (take (row_bytes * length P) after) ≡ row_bytes * length P
    long = length-take-le (row_bytes * length P) after (let k = w.2.same_length in omega arith)

    at :
        (i : ℕ) → i < length (take (row_bytes * length P) after)
        → get_or (take (row_bytes * length P) after) i 0 ≡ get_or (rows_of (length P) c) i 0
    at i k =
        let k' : i < row_bytes * length P = rw long at k in
        get_or-take (row_bytes * length P) after i 0 k'
        ∙ models_unique P after (rows_of (length P) c) w.2.model models i k'

-- every worked table, where the buffer is long enough, gets its verdict and its share, and leaves its rows in the buffer
pub every_answer :
    (c : Case) → In c cases → (P : Program) → check_table c.table ≡ accepted P
    → (before after : List ℕ) (answer : Answer) → row_bytes * length P ≤ length before
    → Analysed c.table before after answer → Answers c (length P) after answer
every_answer c i = answers c (every_case c i)
