-- `bring_surveyed` meets its contract: the tables are compared, the model is looked at, and its rows are worked out.
use Rattle.table.proofs.Laws.Sections.{few_params}
use Rattle.settle.specs.Laws.Links.{no_callers}
use Rattle.update.proofs.BringLaws.{few_calls, can_compare, can_rework, brings_bad, brings_done}
use Rattle.update.proofs.bring_surveyed.Goals as goal

pub bounds-starts-r : goal.bounds-starts-r
bounds-starts-r c =
    let a = c.args in
    (few_calls a.new.now.counts.now a.old.now.bodies.now a.new.now.bodies.now a.starts.now a.calls.now a.r a.model.now c.requires).1

pub same_elsewhere-requires : goal.same_elsewhere-requires
same_elsewhere-requires c =
    let a = c.args in
    can_compare a.new.now.counts.now a.old.now.bodies.now a.new.now.bodies.now a.starts.now a.calls.now a.r c.requires.listed a.model.now c.requires

pub rows_fit-requires : goal.rows_fit-requires
rows_fit-requires c = (c.requires.long, few_params c.requires.old c.args.new.now.counts.now c.args.old.now.bodies.now c.requires.old_held)

pub returns-then-not-rows_fit-clause-brings : goal.returns-then-not-rows_fit-clause-brings
returns-then-not-rows_fit-clause-brings c =
    let a = c.args in
    brings_bad a.new.now.counts.now a.old.now.bodies.now a.new.now.bodies.now a.starts.now a.calls.now a.r c.requires.listed a.model.now
    c.same_elsewhere.result c.same_elsewhere.ensures c.if-not-same_elsewhere.false c.rows_fit.result
    c.rows_fit.ensures c.if-not-rows_fit.true

pub add_callers-requires : goal.add_callers-requires
add_callers-requires c =
    let a = c.args in (
      (few_calls a.new.now.counts.now a.old.now.bodies.now a.new.now.bodies.now a.starts.now a.calls.now a.r a.model.now c.requires).0,
      no_callers,
    )

pub rework-requires : goal.rework-requires
rework-requires c =
    let a = c.args in
    can_rework a.new.now.counts.now a.old.now.bodies.now a.new.now.bodies.now a.starts.now a.calls.now a.r c.requires.listed a.model.now
    c.same_elsewhere.result c.same_elsewhere.ensures c.if-not-same_elsewhere.false c.rows_fit.result
    c.rows_fit.ensures c.if-not-rows_fit.false c.add_callers.new.callers c.add_callers.ensures c.requires

pub returns-clause-brings : goal.returns-clause-brings
returns-clause-brings c =
    let a = c.args in
    brings_done a.new.now.counts.now a.old.now.bodies.now a.new.now.bodies.now a.starts.now a.calls.now a.r c.requires.listed a.model.now
    c.same_elsewhere.result c.same_elsewhere.ensures c.if-not-same_elsewhere.false c.rows_fit.result
    c.rows_fit.ensures c.if-not-rows_fit.false c.add_callers.new.callers c.add_callers.ensures
    c.rework.new.model c.rework.ensures
