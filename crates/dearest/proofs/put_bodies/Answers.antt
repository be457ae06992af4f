-- `put_bodies` meets its contract: after r turns the bodies of the first r routines are written.
use Rattle.std.proofs.Common.{arith, ◌∙◌}
use Rattle.dearest.specs.Laws.Parts.{bodies_more, bodies_all}
use Rattle.dearest.proofs.put_bodies.Goals as goal

pub loop-r-preserved : goal.loop-r-preserved
loop-r-preserved c =
    let so_far = c.loop-r.invariant.1 in
    let f = c.put_body.ensures in (
      omega (arith, f.few),
      record {
        same = f.appends.same ∙ so_far.same;
        appends = bodies_more c.args.n c.loop-r.r c.loop-r-test.true so_far.appends f.appends.appends;
      },
    )

pub returns : goal.returns
returns c =
    let so_far = c.loop-r.invariant.1 in
    record { same = so_far.same; appends = bodies_all c.args.n c.loop-r.r c.loop-r-test.false so_far.appends }
