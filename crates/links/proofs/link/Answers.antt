-- `link` meets its contract: the bodies passed so far are linked, and the next is at the offset.
use native.Mathlib.Omega.{arith}
use Rattle.table.proofs.Laws.Sections.{few}
use Rattle.links.specs.Laws.Linking.{own_low, can_walk, linking_turn, all_linked}
use borrow.Author.Rules.{rules}
use Rattle.links.proofs.link.Goals as goal

pub link_body-next-requires : goal.link_body-next-requires
link_body-next-requires c =
    let a = c.args in
    let p = c.requires in
    let l = c.loop-r in
    let e = c.from.ensures in
    let h = own_low a.t.now.counts.now a.t.now.bodies.now l.heads l.links l.at l.r l.invariant c.loop-r-test.true p.0 in
    let w = can_walk a.t.now.counts.now a.t.now.bodies.now l.heads l.links l.at l.r l.invariant c.loop-r-test.true p.0 in
    (omega (arith, e, h), rw e w)

pub offset_bounds-heads-r : goal.offset_bounds-heads-r
offset_bounds-heads-r c =
    let f = few c.args.t.now.counts.now c.args.t.now.bodies.now c.requires.0 in
    search rules

pub bounds-heads-r : goal.bounds-heads-r
bounds-heads-r c =
    let f = few c.args.t.now.counts.now c.args.t.now.bodies.now c.requires.0 in
    let e = c.loop-r.invariant.heads_long in
    omega arith

pub loop-r-preserved : goal.loop-r-preserved
loop-r-preserved c =
    let a = c.args in
    let l = c.loop-r in
    let e = c.from.ensures in
    linking_turn a.t.now.counts.now a.t.now.bodies.now l.heads l.links l.at l.r l.invariant (omega arith)
    c.requires.0 c.link_body-next.result c.link_body-next.new.links (rw e at c.link_body-next.ensures)

pub returns : goal.returns
returns c =
    let a = c.args in
    let l = c.loop-r in
    all_linked a.t.now.counts.now a.t.now.bodies.now l.heads l.links l.at l.r l.invariant (omega arith)
