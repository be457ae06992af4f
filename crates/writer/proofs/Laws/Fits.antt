-- A length that is answered is that of a table, and a refusal has a small number.
use Rattle.std.specs.Prelude.{◌≡◌, ℕ, ◌≤◌, Result, Ok, Err}
use Rattle.table.specs.Refusal.{refusal_number}
use Rattle.table.specs.declared.refusal.Refusal.{Refusal}
use Rattle.writer.specs.Answer.{short_output, longest_table, Fits}

pub small_length : (a : Result ℕ Refusal) (n : ℕ) → Fits a → a ≡ Ok n → n ≤ longest_table
small_length a n f e = rw e at f

pub small_refusal : (a : Result ℕ Refusal) (r : Refusal) → Fits a → a ≡ Err r → refusal_number r ≤ short_output
small_refusal a r f e = let g : Fits (Err r) = rw e at f in g.1
