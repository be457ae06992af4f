-- `ring_name` meets its contract: no name passed has a ring.
use mathlib.Core.Path.{refl}
use native.Mathlib.Omega.{arith}
use Rattle.std.proofs.Common.{below_more}
use Rattle.std.proofs.lemmas.Bool.{iff_false}
use Rattle.rules.specs.Label.{several}
use Rattle.rules.specs.Number.{number}
use Rattle.grid.proofs.Recorded.{no_lower}
use Rattle.grid.proofs.Shapes.{cell_row}
use Rattle.grid.proofs.ring_name.Goals as goal

pub returns-then-has : goal.returns-then-has
returns-then-has c = (
  omega arith,
  (number several, omega arith, refl, c.has.ensures.0 c.if-has.true),
  no_lower c.args.g.now c.loop-x.x c.loop-x.invariant,
)

pub loop-x-preserved : goal.loop-x-preserved
loop-x-preserved c = below_more _ _ c.loop-x.invariant (iff_false c.has.ensures c.if-has.false)

pub returns : goal.returns
returns c = λ y w. let g = c.args.g.now in
    let low = no_lower g c.loop-x.x c.loop-x.invariant y w in
    let z = cell_row g 16 y y w.0 c.told-g w.3 in
    omega arith
