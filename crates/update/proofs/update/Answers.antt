-- `update` meets its contract, by the cases of the two checks, of the buffer and of the comparison.
use Rattle.std.proofs.Common.{sym, ◌∙◌, arith}
use Rattle.std.proofs.lemmas.Result.{err_from_is_err_and}
use Rattle.std.specs.Cmp.Lexicographic.{same_text, other_text}
use Rattle.update.proofs.BringLaws.{refused_by_old, refused_by_new, refusal_fits, brought, unlike}
use Rattle.update.proofs.update.Goals as goal
use Rattle.update.proofs.update.Goals.{else-routine-n-via-then-routine-n+else-eq, else-routine-n-via-else-routine-n}

pub returns-in_err-old-clause-replaced : goal.returns-in_err-old-clause-replaced
returns-in_err-old-clause-replaced c =
    let p = err_from_is_err_and c.from_residual.result c.from_residual.ensures.1 in
    let t = c.in_err-old.ensures in
    rw (p.1, p.2, t.2)
    (refused_by_old c.args.old.now c.args.new.now c.args.routine c.args.model.now t.0 t.1)

pub returns-in_err-old-clause-fits : goal.returns-in_err-old-clause-fits
returns-in_err-old-clause-fits c =
    let p = err_from_is_err_and c.from_residual.result c.from_residual.ensures.1 in
    rw (p.1, p.2) (refusal_fits c.args.old.now c.in_err-old.field-0.0 c.in_err-old.ensures)

pub returns-in_err-new-clause-replaced : goal.returns-in_err-new-clause-replaced
returns-in_err-new-clause-replaced c =
    let p = err_from_is_err_and c.from_residual-in_err-new.result c.from_residual-in_err-new.ensures.1 in
    let o = c.in_ok-old.ensures in
    let t = c.in_err-new.ensures in
    rw (p.1, p.2, t.2)
    (refused_by_new c.args.old.now c.args.new.now c.args.routine c.args.model.now o.0 o.1.accepts t.0 t.1)

pub returns-in_err-new-clause-fits : goal.returns-in_err-new-clause-fits
returns-in_err-new-clause-fits c =
    let p = err_from_is_err_and c.from_residual-in_err-new.result c.from_residual-in_err-new.ensures.1 in
    rw (p.1, p.2) (refusal_fits c.args.new.now c.in_err-new.field-0.0 c.in_err-new.ensures)

pub returns-then-eq-clause-replaced : goal.returns-then-eq-clause-replaced
returns-then-eq-clause-replaced c =
    let o = c.in_ok-old.old in
    let n = c.in_ok-new.new in
    brought c.args.old.now c.args.new.now o.counts.now o.bodies.now n.counts.now n.bodies.now c.args.routine
    c.args.model.now c.in_ok-old.ensures c.in_ok-new.ensures c.if-model-n.false
    (same_text _ _ (sym c.if-eq.true ∙ c.eq.ensures)) c.bring.new.model c.bring.result c.bring.ensures.brings

pub returns-else-routine-n-clause-replaced : goal.returns-else-routine-n-clause-replaced
returns-else-routine-n-clause-replaced c =
    let o = c.in_ok-old.old in
    let n = c.in_ok-new.new in
    unlike c.args.old.now c.args.new.now o.counts.now o.bodies.now n.counts.now n.bodies.now c.args.routine
    c.args.model.now c.in_ok-old.ensures c.in_ok-new.ensures c.if-model-n.false
    (elim c.else-routine-n.branch [
      | else-routine-n-via-then-routine-n+else-eq w ↦ λ h e. other_text _ _ (sym w.if-eq.false ∙ w.eq.ensures) e
      | else-routine-n-via-else-routine-n w ↦ λ h e. omega arith
    ])
