-- `run_schedule` meets its contract: the ticks can be taken from the first machine, and end as the run does.
use Rattle.std.proofs.Common.{◌^◌, ◌<◌, length, rules}
use Rattle.std.proofs.lemmas.Result.{err_from_is_err_and}
use Rattle.runner.proofs.Laws.Sections.{can_run, accepted_runs, refused_runs}
use Rattle.runner.proofs.run_schedule.Goals as goal

pub returns-in_err-sections : goal.returns-in_err-sections
returns-in_err-sections c =
    let p = err_from_is_err_and c.from_residual.result c.from_residual.ensures.1 in
    let e = c.in_err-sections.ensures in
    rw (p.1, p.2, e.2) (refused_runs c.args.table.now c.args.schedule.now e.0 e.1 c.args.records.now)

pub ticks-stop-requires : goal.ticks-stop-requires
ticks-stop-requires c =
    let l : length c.args.schedule.now < 2 ^ 64 = search rules in
    let t = c.in_ok-sections.ensures in
    rw c.begin-first.ensures
    (can_run c.in_ok-sections.sections.counts.now c.in_ok-sections.sections.bodies.now c.link.new.heads c.link.new.links
    c.args.schedule.now c.link.ensures t.0 t.1.holds l c.args.records.now)

pub returns : goal.returns
returns c =
    let t = c.in_ok-sections.ensures in
    accepted_runs c.args.table.now c.in_ok-sections.sections.counts.now c.in_ok-sections.sections.bodies.now
    c.link.new.heads c.link.new.links c.args.schedule.now t.0 t.1 c.link.ensures c.args.records.now
    c.ticks-stop.new.records c.ticks-stop.result (rw c.begin-first.ensures at c.ticks-stop.ensures)
