-- `Labels::plane` meets its contract: the loop's turn i adds the pairs from name i, where one has label l.
use mathlib.Core.Path.{◌≡◌}
use Prim.Native.Nat.{ℕ}
use native.Mathlib.Omega.{arith}
use lib.ListN.{replicate}
use Rattle.std.proofs.lemmas.Bool.{iff_false}
use Rattle.grid.specs.Rows.{Has, Rel, Edge}
use Rattle.grid.specs.Grid.{cell}
use Rattle.grid.proofs.Relations.{some_more, some_skip, same_or}
use Rattle.grid.proofs.planes.Labels.plane.Goals as goal
use Rattle.grid.proofs.planes.Labels.plane.Goals.{then-has, else-has}

pub loop-i-preserved : goal.loop-i-preserved
loop-i-preserved c = let l = c.loop-i in
    let F : ℕ → Rel = λ n b a. Has (cell c.args.self.now.grid.now n b) c.args.l × (a ≡ n) in
    elim c.if-has.branch [
      | then-has w ↦ (
        omega arith,
        rw w.next-is
            (some_more (Edge (replicate 16 0)) F (Edge l.next) _ l.i l.invariant.1
            (same_or (Edge l.next) _ (F l.i) w.spread-t.ensures
            (λ b a p. (p.0, w.one.ensures.to a p.1))
            (λ b a p. (p.0, w.one.ensures.from a p.1)))),
      )
      | else-has w ↦ (
        omega arith,
        rw w.next-is
            (some_skip (Edge (replicate 16 0)) F (Edge l.next) l.i l.invariant.1
            (λ b a p. iff_false c.has.ensures w.if-has.false (c.args.self.now.listed l.i b c.args.l p.0).0)),
      )
    ]
