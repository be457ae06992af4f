-- `Planes::mixed` meets its contract: the loop's turn l adds plane l and then those that clash with it.
use mathlib.Core.List.{[]}
use Prim.Native.Nat.{◌≤◌}
use lib.ListN.{get_or}
use Rattle.rules.specs.Number.{labels}
use Rattle.grid.specs.Rows.{Edge, Or, Then, Same}
use Rattle.grid.specs.Planes.{Other}
use Rattle.grid.proofs.Relations.{Some}
use Rattle.grid.proofs.planes.Planes.mixed.Given as goal

abbrev pub invariant-loop-l : goal.invariant-loop-l
invariant-loop-l l =
    (l.l ≤ labels)
    × Same (Edge l.next)
    (Or (Edge l.initial.next) (Some l.l (λ k. Then (Edge (get_or l.self.planes k [])) (Other l.self.planes k))))
