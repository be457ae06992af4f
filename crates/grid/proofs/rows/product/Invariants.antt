-- `product` meets its contract: the loop's turn j adds the walks of two steps by name j.
use Prim.Native.Nat.{◌≤◌}
use Rattle.grid.specs.Rows.{Edge, Or, Same}
use Rattle.grid.proofs.Relations.{Some}
use Rattle.grid.proofs.rows.product.Given as goal

abbrev pub invariant-loop-j : goal.invariant-loop-j
invariant-loop-j l = (l.j ≤ 16) × Same (Edge l.next) (Or (Edge l.initial.next) (Some l.j (λ k x y. Edge l.a x k × Edge l.fn.b k y)))
