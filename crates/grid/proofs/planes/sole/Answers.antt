-- `sole` meets its contract: a mask that is one power of two has one bit.
use native.Mathlib.Omega.{arith}
use Rattle.grid.proofs.planes.sole.Goals as goal

pub returns-then-c-one : goal.returns-then-c-one
returns-then-c-one c = (omega arith, λ j p. c.one.ensures.to j (rw c.if-c-one.true at p))
