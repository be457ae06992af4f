-- `one` meets its contract: a power of two has one bit.
use Rattle.grid.proofs.Laws.Masks.{bits_one}
use Rattle.grid.proofs.masks.one.Goals as goal

pub returns : goal.returns
returns c = bits_one c.args.k c.requires
