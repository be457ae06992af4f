-- What writing a table anew answers, and what it leaves in the lent buffer.
use Rattle.std.specs.Prelude.{◌≡◌, List, ◌++◌, ℕ, ◌+◌, ◌≤◌, ◌<◌, length, drop, Result, Ok, Err}
use Rattle.table.specs.Constants.{most_routines, most_bytes}
use Rattle.table.specs.Program.{Program}
use Rattle.table.specs.Check.{refused, accepted, check_table}
use Rattle.table.specs.Refusal.{refusal_number, refusal_of}
use Rattle.table.specs.declared.refusal.Refusal.{Refusal}
use Rattle.canon.specs.Canonical.{canonical_table}

-- the number of the refusal of an output buffer that is shorter than the canonical table
abbrev pub short_output : ℕ
short_output = 20

-- what is added to a length in the launcher's number, since lengths begin among the refusals' numbers
abbrev pub length_base : ℕ
length_base = 65536

-- the launcher's number of an answer: the refusal's, or the length with what is added to it
abbrev pub written_number : Result ℕ Refusal → ℕ
written_number (Ok n) = length_base + n
written_number (Err r) = refusal_number r

-- the refusal with that number alone, and the buffer as it was
abbrev pub RefusedBy : ℕ → List ℕ → List ℕ → Result ℕ Refusal → Type 0
RefusedBy e before after answer = (answer ≡ Err (refusal_of e)) × (written_number answer ≡ e) × (after ≡ before)

-- the bytes w are written: the answer is their length, and behind them the buffer is as it was
abbrev pub WrittenAs : List ℕ → List ℕ → List ℕ → Result ℕ Refusal → Type 0
WrittenAs w before after answer = (answer ≡ Ok (length w)) × (after ≡ w ++ drop (length w) before)

-- the answer where the table holds P, with the buffer before and after
pub record WritesOf (P : Program) (before after : List ℕ) (answer : Result ℕ Refusal) : Type 0 where
  pub short : length before < length (canonical_table P) → RefusedBy short_output before after answer
  pub written : length (canonical_table P) ≤ length before → WrittenAs (canonical_table P) before after answer

-- the answer to a table, with the buffer before and after
pub record Writes (table before after : List ℕ) (answer : Result ℕ Refusal) : Type 0 where
  pub refused_table : (e : ℕ) → check_table table ≡ refused e → RefusedBy e before after answer
  pub accepted_table : (P : Program) → check_table table ≡ accepted P → WritesOf P before after answer

-- how many bytes a table has at most: three for its two counts, the parameter counts and the bodies
abbrev pub longest_table : ℕ
longest_table = 3 + most_routines + most_bytes

-- a length is that of a table, and the number of a refusal is one of those from 1 to the last
abbrev pub Fits : Result ℕ Refusal → Type 0
Fits (Ok n) = n ≤ longest_table
Fits (Err r) = (1 ≤ refusal_number r) × (refusal_number r ≤ short_output)

-- the launcher's number for a table and a buffer is that of the answer
abbrev pub WritesAs : List ℕ → List ℕ → List ℕ → ℕ → Type 0
WritesAs table before after n =
    (answer : Result ℕ Refusal) × (n ≡ written_number answer) × Fits answer × Writes table before after answer
