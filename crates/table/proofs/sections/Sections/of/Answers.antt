-- `Sections::of` meets its contract: the parts of an accepted table are there, and hold its program.
use Rattle.std.proofs.Common.{rules}
use Rattle.table.proofs.Laws.Sections.{there_of, sections_of}
use Rattle.table.proofs.sections.Sections.of.Goals as goal

pub overflow_add-result : goal.overflow_add-result
overflow_add-result c =
    let t = there_of _ _ c.type_inv.table c.in_ok-accepted.ensures in search rules

pub slice_bounds-result-end : goal.slice_bounds-result-end
slice_bounds-result-end c =
    let t = there_of _ _ c.type_inv.table c.in_ok-accepted.ensures in search rules

pub slice_bounds-result-count-2 : goal.slice_bounds-result-count-2
slice_bounds-result-count-2 c =
    let t = there_of _ _ c.type_inv.table c.in_ok-accepted.ensures in search rules

pub slice_bounds-result-start-2 : goal.slice_bounds-result-start-2
slice_bounds-result-start-2 c =
    let t = there_of _ _ c.type_inv.table c.in_ok-accepted.ensures in search rules

pub returns : goal.returns
returns c =
    let t = there_of _ _ c.type_inv.table c.in_ok-accepted.ensures in
    (t.program, sections_of c.args.table.now c.in_ok-accepted.accepted.routines t)
