-- `close_rows` meets its contract: before pivot k the rows relate what walks through names below k join.
use mathlib.Core.Path.{◌≡◌}
use native.Mathlib.Omega.{arith}
use mir.Syntax.{w16}
use borrow.Author.Rules.{elem_Fits}
use Rattle.grid.specs.Rows.{Edge}
use Rattle.grid.proofs.Pivots.{via_all}
use Rattle.grid.proofs.Shapes.{edge_column}
use Rattle.grid.proofs.rows.close_rows.Goals as goal

pub returns : goal.returns
returns c = let e : c.loop-k.k ≡ 16 = omega arith in
    let r = c.args.r in
    via_all (Edge r) _ 16 (edge_column r (λ i. (elem_Fits w16 w16 r _ i c.well_formed.0.1.1 tt).fits))
    (rw e at c.loop-k.invariant.1)
