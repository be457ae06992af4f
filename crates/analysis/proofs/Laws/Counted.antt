-- What the number of rounds in an answer tells: it is within both bounds, the chain's is one more than its routines,
-- and it can be read off the number for C.
use Rattle.std.specs.Prelude.{◌≡◌, List, ℕ, ◌+◌, ◌*◌, ◌≤◌, length, Ok}
use Rattle.std.proofs.Common.{ap, ◌∙◌}
use Rattle.table.specs.Constants.{most_routines, row_bytes}
use Rattle.table.specs.Program.{Program}
use Rattle.table.specs.Check.{accepted, check_table}
use Rattle.table.proofs.Laws.Accepts.{Bytes}
use Rattle.table.proofs.Laws.Sound.{sound}
use Rattle.rounds.specs.Rounds.{Rounds, Acyclic, most_changes}
use Rattle.rounds.specs.Chain.{chain, chain_table}
use Rattle.rounds.proofs.Laws.Steps.{rounds_unique}
use Rattle.rounds.proofs.Laws.Bound.{rounds_le}
use Rattle.rounds.proofs.Laws.Acyclic.{rounds_acyclic}
use Rattle.rounds.proofs.Laws.ChainRounds.{chain_rounds}
use Rattle.rounds.proofs.Laws.ChainTable.{chain_accepted}
use Rattle.analysis.specs.Answer.{Analysed, rounds_number, RoundsAs}
use Rattle.analysis.specs.declared.Judgement.{Judgement}
use Rattle.analysis.proofs.Laws.Judged.{judged_as}

module _ (table before after : List ℕ) (j : Judgement) (a : Analysed table before after (Ok j)) where
  -- it is that of the table's program
  pub rounds_counted : (P : Program) → check_table table ≡ accepted P → Rounds P j.rounds
  rounds_counted P e = (judged_as table before after j a P e).rounds

  pub rounds_within : Bytes table → (P : Program) → check_table table ≡ accepted P → j.rounds ≤ most_changes * length P + 1
  rounds_within bytes P e = rounds_le P (sound table P bytes e).1 j.rounds (rounds_counted P e)

  pub rounds_within_acyclic : (P : Program) → check_table table ≡ accepted P → Acyclic P → j.rounds ≤ length P + 1
  rounds_within_acyclic P e acyclic = rounds_acyclic P acyclic j.rounds (rounds_counted P e)

-- the table of the chain of n routines needs n + 1
pub chain_counted : (n : ℕ) → 1 ≤ n → n ≤ most_routines → (before after : List ℕ) (j : Judgement)
    → Analysed (chain_table n) before after (Ok j) → j.rounds ≡ n + 1
chain_counted n l h before after j a =
    rounds_unique (chain n) j.rounds (n + 1)
    (rounds_counted (chain_table n) before after j a (chain n) (chain_accepted n l h)) (chain_rounds n l)

-- it can be read off the number for C, where the model fits the buffer
pub number_has_rounds : (table before after : List ℕ) (n : ℕ) → RoundsAs table before after n → (P : Program)
    → check_table table ≡ accepted P → row_bytes * length P ≤ length before → (m : ℕ) × (n ≡ 65536 + m) × Rounds P m
number_has_rounds table before after n p P e fits =
    let w = p.2.judged P e fits in
    (w.0.rounds, p.1 ∙ ap rounds_number w.1, w.2.rounds)
