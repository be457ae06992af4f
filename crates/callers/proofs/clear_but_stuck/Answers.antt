-- `clear_but_stuck` meets its contract: it is never so.
use mathlib.Core.Path.{sym, ◌∙◌}
use Rattle.callers.proofs.NeverLaws.{never_both}
use Rattle.callers.proofs.clear_but_stuck.Goals as goal

pub returns-then-clear : goal.returns-then-clear
returns-then-clear c =
    let a = c.args in
    c.is_stuck.ensures
    ∙ never_both a.table.now a.model.now _ a.schedule.now a.n c.analyse.result c.run_fresh-d.result
    c.analyse.ensures.analysed c.run_fresh-d.ensures (sym c.is_clear-clear.ensures ∙ c.if-clear.true)
