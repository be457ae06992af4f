-- Every state of every run of a clear program is safe: no threads wait in a circle, and unless all have ended some
-- thread can take its next step.
use Rattle.std.specs.Prelude.{List}
use Rattle.table.specs.Program.{Program}
use Rattle.table.specs.WellFormed.{WellFormed}
use Rattle.rules.specs.Verdict.{Clear}
use Rattle.run.specs.Run.{State, start, run, Turn, Safe}
use Rattle.run.proofs.Laws.Always.{Valid, valid}
use Rattle.run.proofs.Laws.Circle.{no_closed_line, no_circle}
use Rattle.run.proofs.Laws.Progress.{progress}

valid_is_safe : (P : Program) → Clear P → (s : State) → Valid P s → Safe s
valid_is_safe P clear s v =
    record { no_circle = no_circle P clear s v; goes_on = progress s (no_closed_line P clear s v) }

pub clear_is_safe : (P : Program) → WellFormed P → Clear P → (turns : List Turn) → Safe (run P (start P) turns)
clear_is_safe P wf clear turns = valid_is_safe P clear (run P (start P) turns) (valid P wf turns)
