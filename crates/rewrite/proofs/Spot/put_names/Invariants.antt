-- `put_names` meets its contract: after i turns the first i names are written.
use Rattle.std.proofs.Common.{take}
use Rattle.append.specs.Puts.{Puts}
use Rattle.rewrite.specs.Writing.{new_names}
use Rattle.rewrite.proofs.Spot.put_names.Given as goal

abbrev pub invariant-loop-x : goal.invariant-loop-x
invariant-loop-x l = Puts (new_names l.self.names (take l.x-index l.xs)) l.initial.out l.out
