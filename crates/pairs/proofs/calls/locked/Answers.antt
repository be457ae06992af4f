-- `locked` meets its contract: the mask has the label of the thread alone.
use Rattle.pairs.specs.Walks.{held_by}
use Rattle.pairs.proofs.Gaining.{mask_gains}
use Rattle.pairs.proofs.calls.locked.Goals as goal

pub returns-clause-gains : goal.returns-clause-gains
returns-clause-gains c = let a = c.args in
    mask_gains (held_by a.h) (held_by a.inside) a.t c.requires.2 (rw c.from.ensures at c.put_cell.ensures.gains)
