-- The numbers of a check's answer fit the launcher's number.
use Rattle.std.specs.Prelude.{◌≡◌, List, ℕ, ◌≤◌, length, Ok}
use Rattle.std.proofs.Common.{arith}
use Rattle.table.specs.Constants.{most_routines, most_bytes}
use Rattle.table.specs.Program.{program_items}
use Rattle.table.specs.Check.{check_table}
use Rattle.table.specs.Answer.{checked_of}
use Rattle.table.specs.declared.Accepted.{Accepted}
use Rattle.table.proofs.Laws.Accepts.{Bytes, accepted_few, accepted_of}

-- what an accepted table's numbers are at most
pub accepted_small : (s : List ℕ) (a : Accepted) → Bytes s → Ok a ≡ checked_of (check_table s)
    → (a.routines ≤ most_routines) × (a.items ≤ most_bytes)
accepted_small s a byte e =
    let o = accepted_of (check_table s) a e in
    let h = accepted_few s o.0 byte o.1 in
    let r : a.routines ≡ length o.0 = o.2 in
    let i : a.items ≡ program_items o.0 = o.3 in
    (omega arith, omega arith)
