-- What the public calls answer.
use Rattle.std.specs.Prelude.{ℕ, ◌+◌, ◌*◌, length, Result, Ok, Err}
use Rattle.table.specs.Program.{program_items}
use Rattle.table.specs.Check.{Outcome, refused, accepted}
use Rattle.table.specs.Refusal.{refusal_number, refusal_of}
use Rattle.table.specs.declared.Accepted.{Accepted}
use Rattle.table.specs.declared.refusal.Refusal.{Refusal}

-- what `check` answers: how many routines and items the table has, or the refusal
abbrev pub checked_of : Outcome → Result Accepted Refusal
checked_of (accepted P) = Ok (record { routines = length P; items = program_items P })
checked_of (refused e) = Err (refusal_of e)

-- the launcher's number of it
abbrev pub check_number : Result Accepted Refusal → ℕ
check_number (Ok a) = 65536 * a.routines + a.items
check_number (Err r) = refusal_number r
