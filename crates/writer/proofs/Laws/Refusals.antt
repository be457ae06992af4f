-- The refusals in their order, the longest table, and the launcher's numbers, with the numbers of docs/FORMAT.md.
use Rattle.std.specs.Prelude.{◌≡◌, refl, List, ℕ, ◌+◌, ◌≤◌, ◌<◌, length, Result, Ok, Err}
use Rattle.table.specs.Refusal.{refusal_of, refusal_number as number_of}
use Rattle.table.specs.Program.{Program}
use Rattle.table.specs.Check.{refused, accepted, check_table}
use Rattle.canon.specs.Canonical.{canonical_table}
use Rattle.table.specs.declared.refusal.Refusal.{Refusal}
use Rattle.writer.specs.Answer.{Writes, Fits, written_number}

module _ (table before after : List ℕ) (answer : Result ℕ Refusal) (w : Writes table before after answer) where
  -- first the table's refusal, however short the buffer is
  pub table_first : (e : ℕ) → check_table table ≡ refused e → answer ≡ Err (refusal_of e)
  table_first e h = (w.refused_table e h).0

  -- then 20
  pub short_second : (P : Program) → check_table table ≡ accepted P → length before < length (canonical_table P)
      → answer ≡ Err (refusal_of 20)
  short_second P h l = ((w.accepted_table P h).short l).0

  -- and where there is none of these, the length
  pub length_last : (P : Program) → check_table table ≡ accepted P → length (canonical_table P) ≤ length before
      → answer ≡ Ok (length (canonical_table P))
  length_last P h l = ((w.accepted_table P h).written l).0

  -- the launcher's number of the one is its number, and of the other 20
  pub first_number : (e : ℕ) → check_table table ≡ refused e → written_number answer ≡ e
  first_number e h = (w.refused_table e h).1

  pub second_number : (P : Program) → check_table table ≡ accepted P → length before < length (canonical_table P)
      → written_number answer ≡ 20
  second_number P h l = ((w.accepted_table P h).short l).1

-- no table is longer than 4,163 bytes
pub at_most_4163 : (n : ℕ) → Fits (Ok n) → n ≤ 4163
at_most_4163 n f = f

-- the launcher's number of a length
pub length_number : (n : ℕ) → written_number (Ok n) ≡ 65536 + n
length_number n = refl

-- and of a refusal
pub refusal_number : (r : Refusal) → written_number (Err r) ≡ number_of r
refusal_number r = refl
