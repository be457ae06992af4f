-- `put_cell` meets its contract: where both ends are names, one cell gets the labels.
use Rattle.pairs.proofs.Gaining.{cell_gains}
use Rattle.pairs.proofs.calls.put_cell.Goals as goal

pub returns-in-Some-b-clause-gains : goal.returns-in-Some-b-clause-gains
returns-in-Some-b-clause-gains c =
    let q = rw (c.from.ensures, c.from-in-Some-b.ensures) at c.put_labels.ensures.added in
    rw (c.in-Some.is, c.in-Some-b.is) (cell_gains c.in-Some.a c.in-Some-b.b c.args.m q)
