-- `in_rounds` meets its contract: the rows are cleared, and the rounds begin with them and with an array of zeros that has
-- room for as many.
use Rattle.std.proofs.Common.{arith, rules}
use Rattle.byrounds.proofs.GoingLaws.{few_rows, room, all_zero, done_from}
use Rattle.byrounds.proofs.in_rounds.Goals as goal

pub overflow_mul-n : goal.overflow_mul-n
overflow_mul-n c = let l = few_rows c.requires in search rules

pub clear-requires : goal.clear-requires
clear-requires c = (omega arith, room c.requires)

pub rounds-requires : goal.rounds-requires
rounds-requires c = all_zero c.requires c.clear.ensures (omega arith) tt

pub returns-then-n-le-FEW_ROUTINES : goal.returns-then-n-le-FEW_ROUTINES
returns-then-n-le-FEW_ROUTINES c = done_from c.requires c.clear.ensures c.rounds.ensures

pub rounds-requires-2 : goal.rounds-requires-2
rounds-requires-2 c = all_zero c.requires c.clear.ensures (few_rows c.requires) tt

pub returns : goal.returns
returns c = done_from c.requires c.clear.ensures c.rounds-2.ensures
