-- `scan` meets its contract: for each body that the bytes can be, the calls met and those left are all its calls.
use native.Mathlib.Omega.{arith}
use borrow.Author.Rules.{rules}
use Rattle.pairs.proofs.Scanning.{scan_start, scan_there, scan_pass, scan_level, scan_less, scan_call}
use Rattle.pairs.proofs.Scanning.{scan_other, scan_end}
use Rattle.pairs.proofs.scan.Goals as goal
use Rattle.pairs.proofs.scan.Goals.{then-b-eq-CALL, else-b-eq-CALL}

pub loop-s-init : goal.loop-s-init
loop-s-init c = let a = c.args in scan_start a.t.now.counts.now a.t.now.bodies.now a.at

pub bounds-s-i : goal.bounds-s-i
bounds-s-i c = scan_there c.loop-s.invariant c.requires.0

pub overflow_add-result : goal.overflow_add-result
overflow_add-result c = let z = scan_there c.loop-s.invariant c.requires.0 in search rules

pub returns-then-over : goal.returns-then-over
returns-then-over c = let o = rw c.if-over.true at c.over.ensures in
    scan_end c.loop-s.invariant o.0 o.1

pub bounds-s-i-then-b-eq-CALL : goal.bounds-s-i-then-b-eq-CALL
bounds-s-i-then-b-eq-CALL c = let g = rw c.if-over.false at c.over.ensures in
    ((scan_pass c.loop-s.invariant c.requires.0 g).routine (search rules)).0

pub with_call-calls-requires : goal.with_call-calls-requires
with_call-calls-requires c = let g = rw c.if-over.false at c.over.ensures in
    let z = ((scan_pass c.loop-s.invariant c.requires.0 g).routine (search rules)).1 in
    let y = c.requires.1 in
    omega arith

pub past-i-requires : goal.past-i-requires
past-i-requires c = scan_pass c.loop-s.invariant c.requires.0 (rw c.if-over.false at c.over.ensures)

pub top_past-top-requires : goal.top_past-top-requires
top_past-top-requires c = scan_level c.loop-s.invariant c.requires.0 (rw c.if-over.false at c.over.ensures)

pub loop-s-smaller : goal.loop-s-smaller
loop-s-smaller c = let g = rw c.if-over.false at c.over.ensures in
    rw c.past-i.ensures (scan_less c.loop-s.invariant c.requires.0 g)

pub loop-s-preserved : goal.loop-s-preserved
loop-s-preserved c = let l = c.loop-s in
    let g = rw c.if-over.false at c.over.ensures in
    elim c.if-b-eq-CALL.branch [
      | then-b-eq-CALL q ↦
          rw (c.past-i.ensures, c.top_past-top.ensures, q.calls-is)
          (scan_call l.invariant _ g (search rules)
          ((scan_pass l.invariant c.requires.0 g).routine (search rules)).1 q.with_call-calls.ensures)
      | else-b-eq-CALL q ↦
          rw (c.past-i.ensures, c.top_past-top.ensures, q.calls-is) (scan_other l.invariant g (search rules))
    ]
