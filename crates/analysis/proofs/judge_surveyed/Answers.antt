-- `judge_surveyed` meets its contract: the rows are settled in rounds, and the judgement is read off them.
use Rattle.settle.specs.Laws.Links.{no_callers}
use Rattle.analysis.proofs.VerdictLaws.{few_calls, can_begin, judged_known}
use Rattle.analysis.proofs.judge_surveyed.Goals as goal

pub add_callers-requires : goal.add_callers-requires
add_callers-requires c =
    let a = c.args in
    (few_calls a.t.now.counts.now a.t.now.bodies.now a.starts.now a.calls.now a.model.now c.requires, no_callers)

pub in_rounds-rounds-requires : goal.in_rounds-rounds-requires
in_rounds-rounds-requires c =
    let a = c.args in
    let m = c.add_callers in
    can_begin a.t.now.counts.now a.t.now.bodies.now a.starts.now a.calls.now m.new.callers m.ensures a.model.now
    c.requires

pub returns : goal.returns
returns c =
    let a = c.args in
    let m = c.add_callers in
    let t = c.in_rounds-rounds in
    let j = c.of in
    judged_known a.t.now.counts.now a.t.now.bodies.now a.starts.now a.calls.now m.new.callers m.ensures a.model.now
    t.new.model t.new.names t.result t.ensures j.result j.ensures.pronounces j.ensures.counts
