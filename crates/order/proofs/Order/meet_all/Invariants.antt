-- `meet_all` meets its contract: meeting what is left to meet meets all, and the bytes counted and those left make the
-- whole.
use Rattle.std.proofs.Common.{◌-◌}
use Rattle.order.proofs.MeetLaws.{Meeting}
use Rattle.order.proofs.Order.meet_all.Given as goal

abbrev pub invariant-loop-i : goal.invariant-loop-i
invariant-loop-i l = Meeting l.t.counts.now l.s l.at l.end l.initial.self l.i l.self

abbrev pub decreases-loop-i : goal.decreases-loop-i
decreases-loop-i l = l.end - l.i
