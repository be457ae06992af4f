-- `fill` meets its contract: the routines passed so far are told of, and the next body is at the offset.
use Rattle.std.proofs.Common.{arith, rules}
use Rattle.table.proofs.Laws.Sections.{few}
use Rattle.settle.specs.Laws.Surveys.{survey_start, scan_ready, survey_turn, all_surveyed}
use Rattle.settle.proofs.survey.Survey.fill.Goals as goal

pub loop-r-init : goal.loop-r-init
loop-r-init c =
    let t = c.args.t.now in
    survey_start t.counts.now t.bodies.now _ _ c.requires.1 c.requires.2

pub scan-b-requires : goal.scan-b-requires
scan-b-requires c =
    let t = c.args.t.now in
    let l = c.loop-r in
    scan_ready t.counts.now t.bodies.now l.self.starts l.self.calls l.at l.r l.invariant (omega arith) c.requires.0

pub offset_bounds-self-r : goal.offset_bounds-self-r
offset_bounds-self-r c =
    let t = c.args.t.now in
    let f = few t.counts.now t.bodies.now c.requires.0 in
    search rules

pub bounds-self-r : goal.bounds-self-r
bounds-self-r c =
    let t = c.args.t.now in
    let f = few t.counts.now t.bodies.now c.requires.0 in
    omega arith

pub offset_bounds-self-r-in-loop-r : goal.offset_bounds-self-r-in-loop-r
offset_bounds-self-r-in-loop-r c =
    let t = c.args.t.now in
    let f = few t.counts.now t.bodies.now c.requires.0 in
    search rules

pub bounds-self-r-in-loop-r : goal.bounds-self-r-in-loop-r
bounds-self-r-in-loop-r c =
    let t = c.args.t.now in
    let f = few t.counts.now t.bodies.now c.requires.0 in
    omega arith

pub loop-r-preserved : goal.loop-r-preserved
loop-r-preserved c =
    let t = c.args.t.now in
    let l = c.loop-r in
    survey_turn t.counts.now t.bodies.now l.self.starts l.self.calls l.at l.r l.invariant (omega arith) c.scan-b.result.next
    c.scan-b.result.calls c.requires.0 c.scan-b.ensures

pub returns : goal.returns
returns c =
    let t = c.args.t.now in
    let l = c.loop-r in
    all_surveyed t.counts.now t.bodies.now l.self.starts l.self.calls l.at l.r c.requires.0 (omega arith) l.invariant
