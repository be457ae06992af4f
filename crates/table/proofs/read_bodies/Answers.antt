-- `read_bodies` meets its contract: the answer from the first body equals the answer from the body that is read next.
use Rattle.std.proofs.Common.{sym, ◌∙◌, ◌≤◌, get_or, arith}
use Rattle.std.proofs.lemmas.Result.{err_from_is_err_and}
use Rattle.table.specs.Constants.{most_params}
use Rattle.table.proofs.Laws.Sound.{small_each}
use Rattle.table.proofs.BodyLaws.{same_answer, body_bad, body_read, bodies_over}
use Rattle.table.proofs.read_bodies.Goals as goal

pub read-requires : goal.read-requires
read-requires c =
    let small : get_or c.args.ks.now c.loop-own.own-index 0 ≤ most_params =
    small_each c.args.ks.now c.requires c.loop-own.own-index in
    let e = c.from.ensures in
    let e' = c.new.ensures in
    record { few_params = omega arith; few_items = omega arith }

pub returns-in_err-end : goal.returns-in_err-end
returns-in_err-end c =
    let a = c.args in
    let v = c.loop-own in
    let small = small_each a.ks.now c.requires v.own-index in
    let read = c.read.ensures ∙ same_answer a.ks.now a.s c.new.result.section v.at c.new.result.at
    (get_or a.ks.now v.own-index 0) c.from.result v.items c.new.ensures.0 c.new.ensures.1 c.from.ensures in
    let g = body_bad a.ks.now a.s.now v.own-index v.at v.items (omega arith) small v.invariant.few
    c.in_err-end.field-0.0 (sym read ∙ c.in_err-end.was) in
    let e = err_from_is_err_and c.from_residual.result c.from_residual.ensures.1 in
    rw (e.1, e.2) (sym (v.invariant.same ∙ g))

pub loop-own-preserved : goal.loop-own-preserved
loop-own-preserved c =
    let a = c.args in
    let v = c.loop-own in
    let small = small_each a.ks.now c.requires v.own-index in
    let read = c.read.ensures ∙ same_answer a.ks.now a.s c.new.result.section v.at c.new.result.at
    (get_or a.ks.now v.own-index 0) c.from.result v.items c.new.ensures.0 c.new.ensures.1 c.from.ensures in
    let g = body_read a.ks.now a.s.now v.own-index v.at v.items (omega arith) small v.invariant.few c.in_ok-end.end
    (sym read ∙ c.in_ok-end.was) in
    record { few = g.0; same = v.invariant.same ∙ g.1 }

pub returns-then-at-s : goal.returns-then-at-s
returns-then-at-s c =
    let v = c.loop-own in
    sym (v.invariant.same ∙ bodies_over c.args.ks.now c.args.s.now v.own-index v.at v.items (omega arith) (omega arith))
