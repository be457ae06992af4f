-- `Planes::chosen` meets its contract: the loop's turn l adds plane l where the mask has it.
use mathlib.Core.List.{[]}
use Prim.Native.Nat.{◌≤◌}
use lib.ListN.{get_or}
use Rattle.rules.specs.Number.{labels}
use Rattle.grid.specs.Rows.{Has, Edge, Or, Same}
use Rattle.grid.proofs.Relations.{Some}
use Rattle.grid.proofs.planes.Planes.chosen.Given as goal

abbrev pub invariant-loop-l : goal.invariant-loop-l
invariant-loop-l l =
    (l.l ≤ labels)
    × Same (Edge l.next)
    (Or (Edge l.initial.next) (Some l.l (λ k a b. Has l.c k × Edge (get_or l.self.planes k []) a b)))
