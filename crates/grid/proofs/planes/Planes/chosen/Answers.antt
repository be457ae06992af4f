-- `Planes::chosen` meets its contract: the loop's turn l adds plane l where the mask has it.
use mathlib.Core.List.{[]}
use Prim.Native.Nat.{ℕ}
use native.Mathlib.Omega.{arith}
use lib.ListN.{get_or}
use lib.ListN.{replicate}
use Rattle.std.proofs.lemmas.Bool.{iff_false}
use Rattle.grid.specs.Rows.{Has, Rel, Edge}
use Rattle.grid.proofs.Relations.{some_more, some_skip, same_or}
use Rattle.grid.proofs.planes.Planes.chosen.Goals as goal
use Rattle.grid.proofs.planes.Planes.chosen.Goals.{then-has, else-has}

pub loop-l-preserved : goal.loop-l-preserved
loop-l-preserved c = let l = c.loop-l in
    let a = c.args in
    let F : ℕ → Rel = λ l i j. Has a.c l × Edge (get_or a.self.now.planes l []) i j in
    elim c.if-has.branch [
      | then-has w ↦ (
        omega arith,
        rw w.next-is
            (some_more (Edge (replicate 16 0)) F (Edge l.next) _ l.l l.invariant.1
            (same_or (Edge l.next) _ (F l.l) w.join.ensures (λ i j p. (c.has.ensures.0 w.if-has.true, p)) (λ i j p. p.1))),
      )
      | else-has w ↦ (
        omega arith,
        rw w.next-is
            (some_skip (Edge (replicate 16 0)) F (Edge l.next) l.l l.invariant.1 (λ i j p. iff_false c.has.ensures w.if-has.false p.0)),
      )
    ]
