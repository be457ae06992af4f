-- `Labels::plane` meets its contract: the loop's turn i adds the pairs from name i, where one has label l.
use mathlib.Core.Path.{◌≡◌}
use Prim.Native.Nat.{◌≤◌}
use Rattle.grid.specs.Rows.{Has, Edge, Or, Same}
use Rattle.grid.specs.Grid.{cell}
use Rattle.grid.proofs.Relations.{Some}
use Rattle.grid.proofs.planes.Labels.plane.Given as goal

abbrev pub invariant-loop-i : goal.invariant-loop-i
invariant-loop-i l =
    (l.i ≤ 16)
    × Same (Edge l.next)
    (Or (Edge l.initial.next) (Some l.i (λ n b a. Has (cell l.self.grid.now n b) l.l × (a ≡ n))))
