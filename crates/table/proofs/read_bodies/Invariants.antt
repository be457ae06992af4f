-- `read_bodies` meets its contract: the answer from the first body equals the answer from the body that is read next.
use Rattle.std.proofs.Common.{◌≡◌, ◌≤◌, drop}
use Rattle.table.specs.Check.{bodies}
use Rattle.table.specs.Answer.{checked_of}
use Rattle.table.specs.Laws.Readers.{checked_from}
use Rattle.table.proofs.read_bodies.Given as goal

abbrev pub invariant-loop-own : goal.invariant-loop-own
invariant-loop-own l = record {
  few : l.items ≤ l.at;
  same :
      checked_of (bodies l.ks l.ks l.s)
      ≡ checked_from l.own-index l.items (bodies l.ks (drop l.own-index l.ks) (drop l.at l.s));
}
