-- `put_counts` meets its contract: after r turns the first r counts are written.
use Rattle.std.proofs.Common.{◌≡◌, ◌+◌, take}
use Rattle.table.specs.Encoding.{counts}
use Rattle.append.specs.Puts.{Puts}
use Rattle.rounds.specs.Chain.{chain}
use Rattle.dearest.proofs.put_counts.Given as goal

abbrev pub invariant-loop-r : goal.invariant-loop-r
invariant-loop-r l =
    (l.text.at ≡ l.initial.text.at + l.r) × Puts (take l.r (counts (chain l.n))) l.initial.text l.text
