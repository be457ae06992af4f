-- `Labels::planes` meets its contract: the loop's turn l makes plane l, which stays empty where no pair has label l.
use mathlib.Core.List.{[]}
use Rattle.rules.specs.Number.{labels}
use Rattle.grid.specs.Rows.{Edge, Same}
use Rattle.grid.specs.Planes.{Labelled}
use Rattle.grid.proofs.Loops.{Passed}
use Rattle.grid.proofs.planes.Labels.planes.Given as goal

abbrev pub invariant-loop-l : goal.invariant-loop-l
invariant-loop-l l = Passed [] labels (λ k r. Same (Edge r) (Labelled l.self.grid.now k)) l.initial.pairs-items l.pairs-items l.l
