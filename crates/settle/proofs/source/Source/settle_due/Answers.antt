-- `settle_due` meets its contract: at each turn a routine that is due becomes fresh, and where a cell of it changed
-- its callers become due. The room for bits falls with each change, and the mask with each other turn.
use Rattle.std.proofs.Common.{refl, arith, rules}
use Rattle.settle.proofs.LoopLaws.{going_start, chosen, turn_changed, turn_same, less_then, less_else, all_done}
use Rattle.settle.proofs.source.Source.settle_due.Goals as goal

pub loop-left-init : goal.loop-left-init
loop-left-init c = going_start c.requires _ refl

pub overflow_shl-left : goal.overflow_shl-left
overflow_shl-left c = (chosen c.requires c.next_due-r.result c.loop-left.invariant c.next_due-r.ensures).small

pub worked_out-g-requires : goal.worked_out-g-requires
worked_out-g-requires c =
    let h = chosen c.requires c.next_due-r.result c.loop-left.invariant c.next_due-r.ensures in
    (h.start_there, h.body_ready)

pub improve-w-requires : goal.improve-w-requires
improve-w-requires c = (chosen c.requires c.next_due-r.result c.loop-left.invariant c.next_due-r.ensures).ready

pub bounds-names-r : goal.bounds-names-r
bounds-names-r c = (chosen c.requires c.next_due-r.result c.loop-left.invariant c.next_due-r.ensures).small

pub offset_bounds-names-r : goal.offset_bounds-names-r
offset_bounds-names-r c =
    let h = (chosen c.requires c.next_due-r.result c.loop-left.invariant c.next_due-r.ensures).small in
    search rules

pub offset_bounds-self-r : goal.offset_bounds-self-r
offset_bounds-self-r c =
    let h = (chosen c.requires c.next_due-r.result c.loop-left.invariant c.next_due-r.ensures).small in
    search rules

pub bounds-self-r : goal.bounds-self-r
bounds-self-r c = (chosen c.requires c.next_due-r.result c.loop-left.invariant c.next_due-r.ensures).small

pub loop-left-smaller-then-w : goal.loop-left-smaller-then-w
loop-left-smaller-then-w c =
    let w = c.improve-w in
    less_then c.requires c.next_due-r.result c.loop-left.invariant c.next_due-r.ensures (w.ensures _ c.worked_out-g.ensures) w.auto.model
    c.if-w.true (λ i. omega (arith, c.type_inv.model i))

pub loop-left-preserved-then-w : goal.loop-left-preserved-then-w
loop-left-preserved-then-w c =
    let w = c.improve-w in
    turn_changed c.requires c.next_due-r.result c.loop-left.invariant c.next_due-r.ensures (w.ensures _ c.worked_out-g.ensures)
    w.auto.model

pub loop-left-smaller : goal.loop-left-smaller
loop-left-smaller c =
    let w = c.improve-w in
    less_else c.requires c.next_due-r.result c.loop-left.invariant c.next_due-r.ensures (w.ensures _ c.worked_out-g.ensures) w.auto.model
    c.if-w.false (λ i. omega (arith, c.type_inv.model i))

pub loop-left-preserved : goal.loop-left-preserved
loop-left-preserved c =
    let w = c.improve-w in
    turn_same c.requires c.next_due-r.result c.loop-left.invariant c.next_due-r.ensures (w.ensures _ c.worked_out-g.ensures) w.auto.model
    c.if-w.false

pub returns : goal.returns
returns c = all_done (omega arith) c.loop-left.invariant
