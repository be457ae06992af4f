-- `with_pairs` meets its contract: the cells passed have the pairs from the names passed.
use Prim.Native.Nat.{◌+◌}
use Rattle.rows.specs.Added.{InGrid, Added}
use Rattle.rows.proofs.with_pairs.Given as goal

abbrev pub invariant-loop-a : goal.invariant-loop-a
invariant-loop-a l = Added (InGrid l.start l.g (l.k + 1) l.a) l.initial.model l.model l.changed
