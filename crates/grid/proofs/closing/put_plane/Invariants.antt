-- `put_plane` meets its contract: the loop's turn i adds label l in row i, and the rows left out have nothing to add.
use mathlib.Core.List.{[]}
use lib.ListN.{get_or}
use Rattle.grid.specs.Rows.{Edge, Or, Same}
use Rattle.grid.specs.Grid.{Proper}
use Rattle.grid.specs.Planes.{InPlane}
use Rattle.grid.proofs.Loops.{Passed}
use Rattle.grid.proofs.closing.put_plane.Given as goal

abbrev pub invariant-loop-i : goal.invariant-loop-i
invariant-loop-i l =
    Proper l.g
    × Passed [] 16 (λ a row. Same (Edge row) (Or (Edge (get_or l.initial.g a [])) (InPlane l.q l.l a))) l.initial.g l.g l.i
