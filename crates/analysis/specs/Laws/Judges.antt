-- What the functions that judge a program are given, and what they give.
use Rattle.std.specs.Prelude.{ℕ, ◌*◌, ◌≤◌, List, length, Option, Ok}
use Rattle.table.specs.Constants.{row_bytes}
use Rattle.table.specs.Program.{Program}
use Rattle.table.specs.Laws.Sections.{Holds}
use Rattle.settle.specs.Settle.{AllFresh}
use Rattle.settle.specs.Bodies.{Known}
use Rattle.analysis.specs.Answer.{Fits, Says, Shares, Short, JudgedAs}
use Rattle.analysis.specs.declared.Judgement.{Judgement}

-- the rows in the buffer are those of the least model, and the list has the ring names
pub record Finished (calls model : List ℕ) (names : List (Option ℕ)) : Type 0 where
  pub program : Program
  pub ks : List ℕ
  pub s : List ℕ
  pub starts : List ℕ
  pub known : Known program ks s starts calls
  pub long : row_bytes * length program ≤ length model
  pub before : List ℕ
  pub fresh : AllFresh program before model names

-- the verdict and the share are true of the program whose rows are in the buffer
abbrev pub Pronounces : List ℕ → List ℕ → List (Option ℕ) → Judgement → Type 0
Pronounces calls model names j =
    (P : Program) (ks s starts before : List ℕ) → Known P ks s starts calls → AllFresh P before model names
    → Says P j.verdict × Shares P j.share × Short j.verdict

-- a program was surveyed, and its rows fit the buffer
pub record CanJudgeKnown (ks s starts calls model : List ℕ) : Type 0 where
  pub program : Program
  pub known : Known program ks s starts calls
  pub long : row_bytes * length program ≤ length model

-- the program that was surveyed is judged
abbrev pub JudgesKnown : List ℕ → List ℕ → List ℕ → List ℕ → List ℕ → List ℕ → Judgement → Type 0
JudgesKnown ks s starts calls before after j =
    (P : Program) → Known P ks s starts calls → row_bytes * length P ≤ length before
    → JudgedAs P before after j × Fits (Ok j)

-- the sections hold a program whose rows fit the buffer
pub record CanJudge (ks s model : List ℕ) : Type 0 where
  pub program : Program
  pub holds : Holds program ks s
  pub long : row_bytes * length program ≤ length model

-- the program is judged
abbrev pub Judges : List ℕ → List ℕ → List ℕ → List ℕ → Judgement → Type 0
Judges ks s before after j =
    (P : Program) → Holds P ks s → row_bytes * length P ≤ length before
    → JudgedAs P before after j × Fits (Ok j)
