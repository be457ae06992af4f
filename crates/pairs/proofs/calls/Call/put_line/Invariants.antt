-- `put_line` meets its contract: the loop has added what the cells below j give.
use Rattle.rules.specs.Number.{label_of}
use Rattle.grid.specs.Grid.{Square}
use Rattle.pairs.specs.Walks.{held_by}
use Rattle.pairs.specs.Gains.{Gains, LineGives, roots_of}
use Rattle.pairs.proofs.calls.Call.put_line.Given as goal

abbrev pub invariant-loop-j : goal.invariant-loop-j
invariant-loop-j l = record {
  gains : Gains l.initial.g (LineGives l.self.rows.now l.first (roots_of l.self) (label_of l.self.here.thread)
      (held_by l.self.here.holder) (held_by l.a) l.j) l.g;
  square : Square l.g;
}
