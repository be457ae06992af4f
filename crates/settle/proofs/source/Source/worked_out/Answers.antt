-- `worked_out` meets its contract: the walk records the body's pairs in an empty grid, and the closing composes them.
use Rattle.std.proofs.Common.{arith}
use Rattle.table.proofs.Laws.Sections.{routines}
use Rattle.settle.specs.Source.{at_in}
use Rattle.settle.proofs.WorkLaws.{can_record, can_close, works}
use Rattle.settle.proofs.source.Source.worked_out.Goals as goal

pub bounds-ks-r : goal.bounds-ks-r
bounds-ks-r c =
    let t = c.args.self.now.sections in
    let b = c.requires.1 in
    let e = routines b.program t.counts.now t.bodies.now b.body_of.holds in
    let l = b.body_of.listed in
    omega arith

pub recorded-g-requires : goal.recorded-g-requires
recorded-g-requires c =
    let a = c.args in
    let t = a.self.now.sections in
    let r = can_record t.counts.now t.bodies.now (at_in a.self.now a.r) a.r a.rows.now c.requires.1 in
    (r.0, r.1, c.empty.ensures.small)

pub close-requires : goal.close-requires
close-requires c =
    let a = c.args in
    let t = a.self.now.sections in
    can_close t.counts.now t.bodies.now (at_in a.self.now a.r) a.r a.rows.now c.empty.result c.recorded-g.result
    c.requires.1 c.empty.ensures c.recorded-g.ensures

pub returns : goal.returns
returns c =
    let a = c.args in
    let t = a.self.now.sections in
    works t.counts.now t.bodies.now (at_in a.self.now a.r) a.r a.rows.now c.empty.result c.recorded-g.result
    c.close.result c.empty.ensures c.recorded-g.ensures c.close.ensures
