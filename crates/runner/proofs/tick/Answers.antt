-- `tick` meets its contract: the arrays of the record that is stored have their lengths.
use Rattle.std.proofs.Common.{subst, rules}
use Rattle.steps.specs.Steps.{Ticked}
use Rattle.runner.specs.Ticks.{Sized}
use Rattle.runner.proofs.tick.Goals as goal

pub returns-clause-sized : goal.returns-clause-sized
returns-clause-sized c =
    let sized : Sized c.stepped-u.result = record { kinds = search rules; goes = search rules; names = search rules } in
    subst (λ (r : Ticked). Sized r.thread) c.stepped-u.ensures sized
