-- `add_caller` meets its contract: each turn adds the routine to the callers of one that is left of the mask.
use Rattle.settle.proofs.DueLaws.{adding_turn}
use Rattle.settle.proofs.due.add_caller.Goals as goal

pub loop-q-preserved : goal.loop-q-preserved
loop-q-preserved c =
    let a = c.args in
    let l = c.loop-q in
    adding_turn a.callers.now a.mask a.r c.requires.0 l.callers l.q-iterator.0 c.in-Some.q c.next.new.self.0 l.invariant
    c.in-Some.ensures.steps
