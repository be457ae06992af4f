-- `put_row` meets its contract: the loop has added what the lines below i give.
use mathlib.Core.Path.{sym, ◌∙◌}
use Rattle.pairs.proofs.Gaining.{below_more, line_skip, held_none}
use Rattle.pairs.proofs.calls.Call.put_row.Goals as goal
use Rattle.pairs.proofs.calls.Call.put_row.Goals.{then-is_some, else-is_some}

pub loop-i-preserved : goal.loop-i-preserved
loop-i-preserved c = let a = c.args in
    let l = c.loop-i in
    let r = c.renamed-a in
    elim c.if-is_some.branch [
      | then-is_some q ↦
          rw q.g-is (record {
            gains = below_more _ l.i l.invariant.gains (rw r.ensures.name at q.put_line.ensures.gains);
            square = q.put_line.ensures.square;
          })
      | else-is_some q ↦
          rw q.g-is (record {
            gains = below_more _ l.i l.invariant.gains
                (line_skip a.self.now.rows.now a.self.now.first _ a.self.now.here.thread _ l.i _ l.g l.invariant.gains.small
                (sym (held_none r.result (sym c.is_some.ensures ∙ q.if-is_some.false)) ∙ r.ensures.name));
            square = l.invariant.square;
          })
    ]
