-- The block reader and the item reader meet their contracts: what the loop does with the item that it read, and what the
-- second block of a choice needs.
use Rattle.std.proofs.Common.{sym, ap, ◌∙◌, ◌-◌, true, arith, Ok}
use Rattle.std.proofs.lemmas.Result.{err_from_is_err_and}
use Rattle.table.proofs.ReaderLaws.{back, back_back, more_goes_on, closed_ends, wrong_ends, read_ready}
use Rattle.table.proofs.bodies.Reading.+read_block_read_item.Goals as goal

pub read_block-returns-in_err-next : goal.read_block-returns-in_err-next
read_block-returns-in_err-next t c =
    let b = c.args.self.now in
    let g = wrong_ends b.counts.now b.section.now b.own c.loop-next.p c.args.depth c.args.first
    c.loop-next.invariant.ready _ (sym c.read_item.ensures ∙ c.in_err-next.was) in
    let e = err_from_is_err_and c.from_residual.result c.from_residual.ensures.1 in
    rw (e.1, e.2) (sym (c.loop-next.invariant.same ∙ ap (back c.args.start.scope) g))

pub read_block-loop-next-smaller : goal.read_block-loop-next-smaller
read_block-loop-next-smaller t c =
    let b = c.args.self.now in
    let g = more_goes_on b.counts.now b.section.now b.own c.loop-next.p c.args.depth c.args.first
    c.loop-next.invariant.ready c.in-More.next (sym c.read_item.ensures ∙ c.in_ok-next.was ∙ ap Ok c.in-More.is) in
    let g₀ = g.0 in
    let g₁ = g.1 in
    omega arith

pub read_block-loop-next-preserved : goal.read_block-loop-next-preserved
read_block-loop-next-preserved t c =
    let b = c.args.self.now in
    let g = more_goes_on b.counts.now b.section.now b.own c.loop-next.p c.args.depth c.args.first
    c.loop-next.invariant.ready c.in-More.next (sym c.read_item.ensures ∙ c.in_ok-next.was ∙ ap Ok c.in-More.is) in
    record {
      ready = g.2;
      same = c.loop-next.invariant.same ∙ ap (back c.args.start.scope) g.3 ∙ back_back _ _ _;
    }

pub read_block-returns-in-Closed : goal.read_block-returns-in-Closed
read_block-returns-in-Closed t c =
    let b = c.args.self.now in
    let g = closed_ends b.counts.now b.section.now b.own c.loop-next.p c.args.depth c.args.first
    c.loop-next.invariant.ready c.in-Closed.next (sym c.read_item.ensures ∙ c.in_ok-next.was ∙ ap Ok c.in-Closed.is) in
    sym (c.loop-next.invariant.same ∙ ap (back c.args.start.scope) g.1)

pub read_item-read_block-requires-in-Two-2 : goal.read_item-read_block-requires-in-Two-2
read_item-read_block-requires-in-Two-2 t c =
    let b = c.args.self.now in
    let o = (rw c.in-Two.is at c.in_ok-next.ensures).ready in
    let h = o.0 in (
      omega arith,
      (read_ready b.counts.now b.section.now b.own c.in-Two.block (c.args.depth - 1) true o.1
          c.in_ok-other-in-Two.other (sym c.read_block-in-Two.ensures ∙ c.in_ok-other-in-Two.was)).0,
    )
