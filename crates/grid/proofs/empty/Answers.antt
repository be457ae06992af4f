-- `empty` meets its contract: a grid of zeros has no bit.
use Rattle.grid.proofs.Recorded.{empty_grid}
use Rattle.grid.proofs.empty.Goals as goal

pub returns : goal.returns
returns c = empty_grid 16 16
