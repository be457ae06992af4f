-- What the functions below `run_schedule` promise.
use Rattle.std.specs.Prelude.{◌≡◌, cond, List, ℕ, eqb, replicate}
use Rattle.table.specs.Constants.{most_names}
use Rattle.schedule.specs.Limits.{most_locks, most_threads}
use Rattle.steps.specs.declared.thread.Thread.{Thread as Record}
use Rattle.steps.specs.declared.machine.Ending.TheVariants.{Beyond}
use Rattle.steps.specs.declared.machine.Stage.TheVariants.{Over}
use Rattle.steps.specs.declared.machine.Want.TheVariants.{Free}
use Rattle.steps.specs.declared.machine.Machine.{Machine}
use Rattle.steps.specs.Machines.{untaken, starting_as}
use Rattle.links.specs.Lies.{Section}
use Rattle.runner.specs.declared.Extent.{Extent}
use Rattle.runner.specs.declared.Stop.{Stop}
use Rattle.runner.specs.Ticks.{Ticks}

-- the machine before anything is done, where so many records are lent
abbrev pub unbegun_as : ℕ → Machine
unbegun_as lent = record {
  stage = Over Beyond;
  read = 0;
  pick = 0;
  lent = lent;
  threads = 0;
  made = 0;
  head = 0;
  locks = replicate most_locks untaken;
  wants = replicate most_threads Free;
  born = replicate most_names 0;
}

-- the machine before the first byte, where so many records are lent
abbrev pub first_machine : ℕ → Machine
first_machine lent =
    cond (eqb lent 0) (unbegun_as lent) (starting_as (unbegun_as lent) 0 (replicate most_names 0) Free)

-- how far the machine came
abbrev pub reached : Machine → Extent
reached m = record { read = m.read; threads = m.threads; locks = m.made }

-- ticks lead from records and a machine to records and a last machine, which has stopped so
pub record Stops (z : Section) (before : List Record) (m : Machine) (after : List Record) (x : Stop) : Type 0 where
  pub last : Machine
  pub ticks : Ticks z before m after last
  pub over : last.stage ≡ Over x.ending
  pub extent : x.extent ≡ reached last
