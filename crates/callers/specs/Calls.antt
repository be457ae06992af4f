-- Which answers say clear, and which say stuck.
use Rattle.std.specs.Prelude.{Bool, true, false, Ok, Err}
use Rattle.analysis.specs.Answer.{Answer}
use Rattle.analysis.specs.declared.Verdict.{Verdict}
use Rattle.analysis.specs.declared.Verdict.TheVariants.{Clear, Ring}
use Rattle.steps.specs.declared.machine.Ending.{Ending}
use Rattle.steps.specs.declared.machine.Ending.TheVariants.{Ended, Stuck, Open, Unstarted, Beyond}
use Rattle.runner.specs.Answer.{Ran}

-- the verdict is clear
abbrev pub clear_verdict? : Verdict → Bool
clear_verdict? Clear = true
clear_verdict? (Ring r) = false

-- the analysis calls the table clear
abbrev pub clear? : Answer → Bool
clear? (Ok j) = clear_verdict? j.verdict
clear? (Err r) = false

-- a run that ended so is stuck
abbrev pub ends_stuck? : Ending → Bool
ends_stuck? Ended = false
ends_stuck? Stuck = true
ends_stuck? Open = false
ends_stuck? Unstarted = false
ends_stuck? Beyond = false

-- the run is stuck
abbrev pub stuck? : Ran → Bool
stuck? (Err e) = false
stuck? (Ok x) = ends_stuck? x.ending
