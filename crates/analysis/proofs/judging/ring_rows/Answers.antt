-- `ring_rows` meets its contract: the mask has the routines passed so far that are in the other and tell of a ring.
use Rattle.std.proofs.Common.{arith}
use Rattle.analysis.specs.Laws.Judging.{RingRow}
use Rattle.settle.specs.Laws.Masks.{gathered_more, gathered_same}
use Rattle.analysis.proofs.judging.ring_rows.Goals as goal
use Rattle.analysis.proofs.judging.ring_rows.Goals.{then-mask-r-eq1+then-model-r-eq1, else-mask-r-eq1}
use Rattle.analysis.proofs.judging.ring_rows.Goals.{else-mask-r-eq1-via-then-mask-r-eq1+else-model-r-eq1}
use Rattle.analysis.proofs.judging.ring_rows.Goals.{else-mask-r-eq1-via-else-mask-r-eq1}

pub loop-r-preserved : goal.loop-r-preserved
loop-r-preserved c =
    let told = RingRow c.args.model.now c.args.mask in
    let l = c.loop-r in
    let j = c.if-mask-r-eq1 in
    elim j.branch [
      | then-mask-r-eq1+then-model-r-eq1 w ↦ gathered_more told l.r l.rings j.rings (omega arith)
          (w.if-mask-r-eq1.true, w.if-model-r-eq1.true) w.rings-is l.invariant
      | else-mask-r-eq1 w ↦ gathered_same told l.r l.rings j.rings
          (elim w.else-mask-r-eq1.branch [
            | else-mask-r-eq1-via-then-mask-r-eq1+else-model-r-eq1 v ↦ λ h. v.if-model-r-eq1.false h.1
            | else-mask-r-eq1-via-else-mask-r-eq1 v ↦ λ h. v.if-mask-r-eq1.false h.0
          ])
          w.rings-is l.invariant
    ]
