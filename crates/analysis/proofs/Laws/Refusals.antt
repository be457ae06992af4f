-- The numbers of refusals, with those of docs/FORMAT.md: the launcher's, for the verdict and for the rounds.
use Rattle.std.specs.Prelude.{◌≡◌, List, ℕ, ◌*◌, ◌<◌, length}
use Rattle.std.proofs.Common.{ap, ◌∙◌, arith}
use Rattle.table.specs.Program.{Program}
use Rattle.table.specs.Check.{refused, accepted, check_table}
use Rattle.table.specs.Refusal.{refusal_number, refusal_of}
use Rattle.table.proofs.Laws.Numbers.{number_of_refusal}
use Rattle.table.proofs.Laws.Refusals.{refusals}
use Rattle.analysis.specs.Answer.{Answer, Analysed, number_of, rounds_number}

-- the refusal of a table has the number that the check gives
pub number_refused : (table : List ℕ) (e : ℕ) → check_table table ≡ refused e → refusal_number (refusal_of e) ≡ e
number_refused table e h = let l = refusals table e h in number_of_refusal e l.0 (omega arith)

module _ (table before after : List ℕ) (answer : Answer) (a : Analysed table before after answer) where
  -- where the table is refused, both are the refusal's
  pub refused_number : (e : ℕ) → check_table table ≡ refused e → (number_of answer ≡ e) × (rounds_number answer ≡ e)
  refused_number e h =
      let x = a.refused_table e h in
      (x.1, ap rounds_number x.0 ∙ number_refused table e h)

  -- where the buffer is too short, both are 15
  pub short_number : (P : Program) → check_table table ≡ accepted P → length before < 65 * length P
      → (number_of answer ≡ 15) × (rounds_number answer ≡ 15)
  short_number P h l =
      let x = a.refused_buffer P h l in
      (x.1, ap rounds_number x.0)
