-- `put_row` meets its contract: the loop has added what the lines below i give.
use Prim.Native.Nat.{◌+◌}
use lib.ListN.{length}
use Rattle.rules.specs.Number.{label_of}
use Rattle.grid.specs.Grid.{Square}
use Rattle.pairs.specs.Walks.{held_by}
use Rattle.pairs.specs.Gains.{Gains, RowGives, roots_of}
use Rattle.pairs.proofs.calls.Call.put_row.Given as goal

abbrev pub invariant-loop-i : goal.invariant-loop-i
invariant-loop-i l = record {
  gains : Gains l.initial.g (RowGives l.self.rows.now l.self.first (roots_of l.self) (label_of l.self.here.thread)
      (held_by l.self.here.holder) (length l.self.names.now + 1) l.i) l.g;
  square : Square l.g;
}
