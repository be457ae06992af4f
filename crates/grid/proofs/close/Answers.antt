-- `close` meets its contract: what `close_in` adds is what follows.
use native.Mathlib.Omega.{arith}
use Rattle.grid.proofs.Laws.Square.{square_of}
use Rattle.grid.proofs.Closed.{closure}
use Rattle.grid.proofs.close.Goals as goal

pub close_in-requires : goal.close_in-requires
close_in-requires c = (square_of c.args.g _ (omega arith) c.well_formed.0.1.1, c.requires.0)

pub returns : goal.returns
returns c = closure c.args.g _ c.close_in.ensures.grown c.requires.1 c.close_in.ensures.proper.1
