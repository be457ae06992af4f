-- `improve` meets its contract: what was worked out in the body is added to the row.
use Rattle.std.proofs.Common.{arith}
use Rattle.table.proofs.Laws.Sections.{routines, few_params}
use Rattle.settle.specs.Source.{at_in}
use Rattle.settle.specs.Laws.Improving.{improves}
use Rattle.settle.proofs.source.Source.improve.Goals as goal

pub bounds-self-r : goal.bounds-self-r
bounds-self-r c =
    let t = c.args.self.now.sections in
    let e = routines c.requires.program t.counts.now t.bodies.now c.requires.body_of.holds in
    omega arith

pub with_row-requires : goal.with_row-requires
with_row-requires c =
    let t = c.args.self.now.sections in
    let f = few_params c.requires.program t.counts.now t.bodies.now c.requires.body_of.holds c.args.r in
    (omega arith, omega arith, c.requires.shaped)

pub returns : goal.returns
returns c = λ rows w.
    let a = c.args in
    let t = a.self.now.sections in
    improves t.counts.now t.bodies.now (at_in a.self.now a.r) a.r rows _ (omega arith) a.model.now _ a.g _ _ _ w
    c.with_row.ensures
