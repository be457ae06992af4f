-- `outlook` meets its contract: the answer so far is how the threads before the next one stand.
use Rattle.std.proofs.Common.{◌≡◌, ◌∙◌, sym, ap, subst, arith, rules, length}
use Rattle.std.proofs.lemmas.List.{length-take}
use Rattle.schedule.specs.Limits.{most_threads}
use Rattle.steps.specs.declared.machine.Want.{Want}
use Rattle.steps.specs.Machines.{LowWant, join_by, view}
use Rattle.steps.proofs.Machines.{view_none, view_next, want_in}
use Rattle.steps.proofs.machine.Machine.outlook.Goals as goal

pub loop-t-init : goal.loop-t-init
loop-t-init c = view_none c.args.self.now

pub beside-answer-requires : goal.beside-answer-requires
beside-answer-requires c =
    let w = want_in c.args.self.now c.loop-t.t c.loop-t-test.true in
    subst LowWant (sym w.1) (c.requires.1 c.loop-t.t w.0)

pub loop-t-preserved : goal.loop-t-preserved
loop-t-preserved c =
    let m = c.args.self.now in
    let w = want_in m c.loop-t.t c.loop-t-test.true in
    c.beside-answer.ensures ∙ ap (λ (v : Want). join_by c.args.self.now c.loop-t.t c.loop-t.answer v) w.1
    ∙ view_next m c.loop-t.t c.loop-t.answer c.loop-t.invariant

pub returns : goal.returns
returns c =
    let m = c.args.self.now in
    let long : length c.args.self.now.wants ≡ most_threads = search rules in
    let e = length-take m.threads m.wants in
    let few = c.requires.0 in
    let all : c.loop-t.t ≡ c.args.self.now.threads = omega (arith, e, long, few) in
    c.loop-t.invariant ∙ ap (view c.args.self.now) all
