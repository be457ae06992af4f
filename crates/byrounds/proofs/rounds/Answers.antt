-- `rounds` meets its contract: each round begins with what the one before passed on, and the first that changes nothing
-- is the last. No more than 148 × n rounds change something.
use Rattle.std.proofs.Common.{◌+◌, refl, arith}
use Rattle.byrounds.proofs.GoingLaws.{few_routines, going_start, few_done, round_ready, last_round}
use Rattle.byrounds.proofs.GoingLaws.{can_pass, next_round}
use Rattle.byrounds.proofs.rounds.Goals as goal

pub all-due-requires : goal.all-due-requires
all-due-requires c = few_routines c.requires

pub loop-moved-init : goal.loop-moved-init
loop-moved-init c =
    record { done = 0; next = omega arith; going = going_start c.requires c.all-due.result c.all-due.ensures }

pub round-requires : goal.round-requires
round-requires c = round_ready c.requires c.loop-moved.invariant.going

pub pass_on-due-requires : goal.pass_on-due-requires
pass_on-due-requires c = can_pass c.requires c.loop-moved.invariant.going c.in-Some.ensures

pub overflow_add-number : goal.overflow_add-number
overflow_add-number c =
    let h = few_done c.requires c.loop-moved.invariant.going in
    let f = few_routines c.requires in
    omega arith

pub loop-moved-smaller : goal.loop-moved-smaller
loop-moved-smaller c = let h = few_done c.requires c.loop-moved.invariant.going in omega arith

pub loop-moved-preserved : goal.loop-moved-preserved
loop-moved-preserved c =
    let v = c.loop-moved.invariant in
    record {
      done = v.done + 1;
      next = omega arith;
      going = next_round c.requires v.going c.in-Some.ensures refl c.pass_on-due.ensures;
    }

pub returns : goal.returns
returns c =
    let v = c.loop-moved.invariant in
    rw v.next (last_round c.requires v.going c.in_default.ensures.1 refl)
