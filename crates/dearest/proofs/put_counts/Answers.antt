-- `put_counts` meets its contract: after r turns the first r counts are written.
use Rattle.std.proofs.Common.{arith, ◌∙◌}
use Rattle.dearest.specs.Laws.Parts.{counts_more, counts_all}
use Rattle.dearest.proofs.put_counts.Goals as goal

pub loop-r-preserved : goal.loop-r-preserved
loop-r-preserved c =
    let so_far = c.loop-r.invariant.1 in
    let f = c.put_byte.ensures in (
      omega (arith, f.appends.place),
      record {
        same = f.same ∙ so_far.same;
        appends = counts_more c.args.n c.loop-r.r _ c.loop-r-test.true c.params_of.ensures so_far.appends f.appends;
      },
    )

pub returns : goal.returns
returns c =
    let so_far = c.loop-r.invariant.1 in
    record { same = so_far.same; appends = counts_all c.args.n c.loop-r.r c.loop-r-test.false so_far.appends }
