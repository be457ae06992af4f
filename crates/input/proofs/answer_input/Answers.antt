-- `answer_input` meets its contract: the call is given what was read.
use Rattle.std.proofs.Common.{rules, refl}
use Rattle.std.proofs.lemmas.Fn.{gave_at}
use Rattle.input.proofs.answer_input.Goals as goal

pub returns : goal.returns
returns g c = search (rules, gave_at g.F.FnOnce c.answer.ensures refl)
