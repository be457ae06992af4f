-- `discover` meets its contract: after i bodies the routines met are those of the definition.
use Rattle.std.proofs.Common.{refl, rules, arith}
use Rattle.order.proofs.DiscoverLaws.{none_listed, finding_start, start_there, can_meet, finding_on, finding_end}
use Rattle.order.proofs.Order.discover.Goals as goal

pub meet-requires : goal.meet-requires
meet-requires c = (none_listed _ refl refl refl, omega arith)

pub loop-i-init : goal.loop-i-init
loop-i-init c = finding_start _ _ refl refl c.meet.ensures

pub bounds-starts-r : goal.bounds-starts-r
bounds-starts-r c =
    let h = start_there c.loop-i.invariant (omega arith) c.requires in search rules

pub end_of-requires : goal.end_of-requires
end_of-requires c =
    let h = start_there c.loop-i.invariant (omega arith) c.requires in
    omega arith

pub meet_all-requires : goal.meet_all-requires
meet_all-requires c =
    can_meet c.loop-i.invariant (omega arith) _ _ _ c.from-r.ensures refl c.end_of.ensures c.requires

pub loop-i-preserved : goal.loop-i-preserved
loop-i-preserved c =
    finding_on c.loop-i.invariant (omega arith) _ _ _ _ c.from-r.ensures refl c.end_of.ensures c.meet_all.ensures
    c.requires

pub returns : goal.returns
returns c = finding_end c.loop-i.invariant (omega arith)
