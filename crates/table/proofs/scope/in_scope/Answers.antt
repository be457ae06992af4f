-- `in_scope` meets its contract: the bit of a name below 16 says whether it is in the scope, and no higher name is.
use Rattle.std.proofs.Common.{sym, ◌∙◌, arith}
use borrow.Author.Tests.{le-ltb}
use Rattle.table.specs.Laws.ScopeMask.{bits_test, bits_above}
use Rattle.table.proofs.scope.in_scope.Goals as goal

pub returns-then-x-lt16 : goal.returns-then-x-lt16
returns-then-x-lt16 c = sym (bits_test _ _ (omega arith) c.requires)

pub returns-else-x-lt16 : goal.returns-else-x-lt16
returns-else-x-lt16 c = le-ltb c.args.x 16 (omega arith) ∙ sym (bits_above _ _ (omega arith))
