-- `link_body` meets its contract: every path from the start goes on from each place.
use Rattle.links.proofs.Leaves.{walking_can, walking_on, walking_less, walking_over}
use Rattle.links.specs.Walks.{begun}
use Rattle.links.proofs.link_body.Goals as goal

pub link_item-requires : goal.link_item-requires
link_item-requires c =
    let a = c.args in
    let l = c.loop-w in
    walking_can a.t.now.counts.now a.t.now.bodies.now (begun a.from a.own) l.w a.links.now l.links l.invariant
    c.inside.result c.inside.ensures c.loop-w-test.true

pub loop-w-smaller : goal.loop-w-smaller
loop-w-smaller c =
    let a = c.args in
    let l = c.loop-w in
    walking_less a.t.now.counts.now a.t.now.bodies.now (begun a.from a.own) l.w a.links.now l.links l.invariant
    c.link_item.new.self c.link_item.ensures.passed

pub loop-w-preserved : goal.loop-w-preserved
loop-w-preserved c =
    let a = c.args in
    let l = c.loop-w in
    walking_on a.t.now.counts.now a.t.now.bodies.now (begun a.from a.own) l.w a.links.now l.links l.invariant
    c.inside.result c.inside.ensures c.loop-w-test.true c.link_item.new.self
    c.link_item.new.links c.link_item.ensures.passed c.link_item.ensures.linked

pub returns : goal.returns
returns c =
    let a = c.args in
    let l = c.loop-w in
    walking_over a.t.now.counts.now a.t.now.bodies.now (begun a.from a.own) l.w a.links.now l.links l.invariant
    c.inside.result c.inside.ensures c.loop-w-test.false
