-- `Labels::planes` meets its contract: the loop's turn l makes plane l, which stays empty where no pair has label l.
use mathlib.Core.List.{[]}
use native.Mathlib.Omega.{arith}
use Rattle.std.proofs.lemmas.Bool.{iff_false}
use Rattle.rules.specs.Number.{labels}
use Rattle.grid.proofs.Shapes.{zero_pair}
use Rattle.grid.proofs.Loops.{passed_more}
use Rattle.grid.proofs.planes.Labels.planes.Goals as goal
use Rattle.grid.proofs.planes.Labels.planes.Goals.{then-has, else-has}

pub loop-l-preserved : goal.loop-l-preserved
loop-l-preserved c = let l = c.loop-l in
    elim c.if-has.branch [
      | then-has w ↦ rw w.pairs-items-is (passed_more [] labels _ _ l.pairs-items l.l _ l.invariant (omega arith) w.plane.ensures)
      | else-has w ↦
          rw w.pairs-items-is
          (passed_more [] labels _ _ l.pairs-items l.l _ l.invariant (omega arith)
          (rw (l.invariant.rest l.l (omega arith))
          (record {
            to = λ i j e. absurd (zero_pair labels 16 l.l i j e);
            from = λ i j e.
                absurd (iff_false c.has.ensures w.if-has.false (c.args.self.now.listed j i l.l e).1);
          })))
    ]

pub invariant_of-next : goal.invariant_of-next
invariant_of-next c = record {
  within = λ l h b a e. (c.args.self.now.listed a b l ((c.loop-l.invariant.done l (omega arith)).to b a e)).1;
}
