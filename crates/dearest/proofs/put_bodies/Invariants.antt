-- `put_bodies` meets its contract: after r turns the bodies of the first r routines are written.
use Rattle.std.proofs.Common.{◌+◌, ◌*◌, ◌≤◌, take}
use Rattle.table.specs.Encoding.{encode_bodies}
use Rattle.append.specs.Puts.{Puts}
use Rattle.rounds.specs.Chain.{chain}
use Rattle.dearest.proofs.put_bodies.Given as goal

abbrev pub invariant-loop-r : goal.invariant-loop-r
invariant-loop-r l =
    (l.text.at ≤ l.initial.text.at + 17 * l.r) × Puts (encode_bodies (take l.r (chain l.n))) l.initial.text l.text
