-- `placed` meets its contract: each label of the cell sets one bit.
use Rattle.pairs.proofs.Gaining.{placed_mask}
use Rattle.pairs.proofs.calls.placed.Goals as goal

pub returns : goal.returns
returns c = rw (c.from-m.ensures, c.from.ensures) (placed_mask c.args.cell c.args.thread c.requires)
