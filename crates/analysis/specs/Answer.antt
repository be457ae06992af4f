-- What the analysis leaves: its answer, the model in the lent buffer, and what the verdict clear promises.
use Rattle.std.specs.Prelude.{◌≡◌, ◌⊎◌, List, ℕ, ◌+◌, ◌*◌, ◌≤◌, ◌<◌, length, get_or, Result, Ok, Err}
use Rattle.table.specs.Constants.{most_routines, most_names, row_names, row_bytes}
use Rattle.table.specs.Program.{Program}
use Rattle.table.specs.Check.{refused, accepted, check_table}
use Rattle.table.specs.Refusal.{refusal_number, refusal_of}
use Rattle.table.specs.declared.refusal.Refusal.{Refusal}
use Rattle.rules.specs.Label.{Label, own, unknown, several}
use Rattle.rules.specs.Model.{Row, Ring}
use Rattle.rules.specs.Verdict.{Clear, RingAt}
use Rattle.rules.specs.Share.{ShareOf}
use Rattle.rows.specs.Bytes.{cell_byte, last_byte}
use Rattle.rounds.specs.Rounds.{most_changes, Rounds}
use Rattle.run.specs.Run.{start, run, Turn, Safe}
use Rattle.analysis.specs.declared.Verdict.{Verdict}
use Rattle.analysis.specs.declared.Verdict.TheVariants.{Clear as SaysClear, Ring as SaysRing}
use Rattle.analysis.specs.declared.Share.{Share}
use Rattle.analysis.specs.declared.Judgement.{Judgement}

-- what the analysis answers: the verdict, the share and the number of rounds, or the refusal
abbrev pub Answer : Type 0
Answer = Result Judgement Refusal

-- the refusal of a model buffer that is too short
abbrev pub short_buffer : ℕ
short_buffer = 15

-- v is 1 where Q holds, and 0 where it does not
abbrev pub Flag : ℕ → Type 0 → Type 0
Flag v Q = ((v ≡ 1) × Q) ⊎ ((v ≡ 0) × ¬ Q)

-- v is the byte of a cell that has the labels L: 1 for own, 2 for unknown and 4 for several, added up
pub record CellOf (L : Label → Type 0) (v : ℕ) : Type 0 where
  pub one : ℕ
  pub two : ℕ
  pub four : ℕ
  pub sum : v ≡ one + 2 * two + 4 * four
  pub by_own : Flag one (L own)
  pub by_unknown : Flag two (L unknown)
  pub by_several : Flag four (L several)

-- v is the byte of cell (a, b) in the row of routine r
abbrev pub Cell : Program → ℕ → ℕ → ℕ → ℕ → Type 0
Cell P r a b = CellOf (Row P r a b)

-- the buffer begins with the rows of the least model of P
pub record Models (P : Program) (model : List ℕ) : Type 0 where
  pub cells : (r a b : ℕ) → r < length P → a < row_names → b < row_names
      → Cell P r a b (cell_byte model r a b)
  pub last : (r : ℕ) → r < length P
      → Flag (last_byte model r) ((x : ℕ) × Ring P r x)

-- what the verdict says of P
abbrev pub Says : Program → Verdict → Type 0
Says P SaysClear = Clear P
Says P (SaysRing ring) = RingAt P ring.routine ring.name

-- the share is that of P
abbrev pub Shares : Program → Share → Type 0
Shares P share = ShareOf P share.percent share.remainder share.reached

-- every run of P is safe
abbrev pub SafeRuns : Program → Type 0
SafeRuns P = (turns : List Turn) → Safe (run P (start P) turns)

-- what is left where the table holds P and its model fits the buffer, and what is said of it
pub record JudgedAs (P : Program) (before after : List ℕ) (j : Judgement) : Type 0 where
  pub model : Models P after
  pub same_length : length after ≡ length before
  pub rest : (i : ℕ) → row_bytes * length P ≤ i → get_or after i 0 ≡ get_or before i 0
  pub says : Says P j.verdict
  pub shares : Shares P j.share
  pub rounds : Rounds P j.rounds
  pub safe : j.verdict ≡ SaysClear → SafeRuns P

-- the launcher's number of a verdict
abbrev pub verdict_number : Verdict → ℕ
verdict_number SaysClear = 0
verdict_number (SaysRing ring) = 65536 + 1024 * ring.routine + 32 * ring.name

-- the launcher's number of an answer; the share and the rounds are not in it
abbrev pub number_of : Answer → ℕ
number_of (Ok j) = verdict_number j.verdict
number_of (Err r) = refusal_number r

-- the refusal with that number alone, and the buffer as it was
abbrev pub RefusedBy : ℕ → List ℕ → List ℕ → Answer → Type 0
RefusedBy e before after answer = (answer ≡ Err (refusal_of e)) × (number_of answer ≡ e) × (after ≡ before)

-- the answer to a table, with the buffer before and after
pub record Analysed (table before after : List ℕ) (answer : Answer) : Type 0 where
  pub refused_table : (e : ℕ) → check_table table ≡ refused e → RefusedBy e before after answer
  pub refused_buffer : (P : Program) → check_table table ≡ accepted P → length before < row_bytes * length P
      → RefusedBy short_buffer before after answer
  pub judged : (P : Program) → check_table table ≡ accepted P → row_bytes * length P ≤ length before
      → (j : Judgement) × (answer ≡ Ok j) × JudgedAs P before after j

-- a ring's numbers are those of a routine and a name of a table
abbrev pub Short : Verdict → Type 0
Short SaysClear = Unit {0}
Short (SaysRing ring) = (ring.routine < most_routines) × (ring.name < most_names)

-- the most rounds that a table needs: each row changes so often at most, and the last round changes nothing
abbrev pub most_rounds : ℕ
most_rounds = most_changes * most_routines + 1

-- the numbers of an answer are those of a table; a refusal is one of those from 1 to the last
abbrev pub Fits : Answer → Type 0
Fits (Ok j) = Short j.verdict × (j.rounds ≤ most_rounds)
Fits (Err r) = (1 ≤ refusal_number r) × (refusal_number r ≤ short_buffer)

-- the launcher's number for a table is that of its answer
abbrev pub AnalysedAs : List ℕ → List ℕ → List ℕ → ℕ → Type 0
AnalysedAs table before after n = (answer : Answer) × (n ≡ number_of answer) × Analysed table before after answer

-- the launcher's number of rounds: 65,536 + their number, or the refusal's number
abbrev pub rounds_number : Answer → ℕ
rounds_number (Ok j) = 65536 + j.rounds
rounds_number (Err r) = refusal_number r

-- the launcher's number of rounds for a table is that of its answer
abbrev pub RoundsAs : List ℕ → List ℕ → List ℕ → ℕ → Type 0
RoundsAs table before after n = (answer : Answer) × (n ≡ rounds_number answer) × Analysed table before after answer
