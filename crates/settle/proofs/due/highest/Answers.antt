-- `highest` meets its contract: the zeros above the highest bit make 63 with its place.
use Rattle.settle.specs.Laws.Masks.{highest_at}
use Rattle.settle.proofs.due.highest.Goals as goal

pub returns : goal.returns
returns c = highest_at c.args.mask c.requires c.ranges.mask.fits
