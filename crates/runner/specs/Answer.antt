-- What the runner answers, and what it leaves in the records.
use Rattle.std.specs.Prelude.{◌≡◌, ◌≢◌, List, ℕ, length, Result, Ok, Err}
use Rattle.table.specs.Check.{Outcome, refused, accepted}
use Rattle.table.specs.Refusal.{refusal_number, refusal_of}
use Rattle.table.specs.Program.{Program}
use Rattle.table.specs.Encoding.{encode_bodies}
use Rattle.table.specs.declared.refusal.Refusal.{Refusal}
use Rattle.rules.specs.Verdict.{Clear}
use Rattle.schedule.specs.Schedule.{End, all_ended, stuck, at_end, unstarted, beyond, runs}
use Rattle.schedule.specs.Schedule.{Result as Run}
use Rattle.steps.specs.declared.thread.Thread.{Thread as Record}
use Rattle.steps.specs.declared.machine.Ending.{Ending}
use Rattle.steps.specs.declared.machine.Ending.TheVariants.{Ended, Stuck, Open, Unstarted, Beyond}
use Rattle.steps.specs.Shown.{ShowsAll}
use Rattle.runner.specs.declared.Extent.{Extent}
use Rattle.runner.specs.declared.Report.{Report}
use Rattle.runner.specs.declared.Stop.{Stop}

-- what running a table under a schedule answers: how the run stopped, or the refusal of the table
abbrev pub Ran : Type 0
Ran = Result Stop Refusal

-- how far a run came
abbrev pub extent_of : Run → Extent
extent_of x = record { read = x.read; threads = length x.state.threads; locks = x.state.made }

-- how a run that stopped so ended
abbrev pub ending_of : End → Ending
ending_of all_ended = Ended
ending_of stuck = Stuck
ending_of at_end = Open
ending_of unstarted = Unstarted
ending_of beyond = Beyond

-- the answer for a run that stopped so and came so far
abbrev pub ran_as : End → Extent → Ran
ran_as w x = Ok (record { ending = ending_of w; extent = x })

-- the number of how a run ended: the papers have none for ended, stuck and open
abbrev pub ending_number : Ending → ℕ
ending_number Ended = 0
ending_number Stuck = 65536
ending_number Open = 65537
ending_number Unstarted = 16
ending_number Beyond = 17

-- the number of an answer: the papers' for a refusal
abbrev pub ran_number : Ran → ℕ
ran_number (Err e) = refusal_number e
ran_number (Ok x) = ending_number x.ending

-- what running the program P under a schedule answers and leaves: the run's answer and extent, each of its threads in
-- the record of that number, and never stuck if P is clear
pub record RunsAs (P : Program) (bs : List ℕ) (before after : List Record) (r : Ran) : Type 0 where
  pub answer : r ≡ ran_as (runs P (length before) bs).why (extent_of (runs P (length before) bs))
  pub records : ShowsAll (encode_bodies P) (runs P (length before) bs).state.threads before after
  pub not_stuck : Clear P → (x : Extent) → r ≢ Ok (record { ending = Stuck; extent = x })

-- what running a table answers and leaves, by what its check comes to: a refusal, with the check's number, leaves every
-- record as it was
abbrev pub Runs : Outcome → List ℕ → List Record → List Record → Ran → Type 0
Runs (refused e) bs before after r = (r ≡ Err (refusal_of e)) × (ran_number r ≡ e) × (after ≡ before)
Runs (accepted P) bs before after r = RunsAs P bs before after r

-- how far the run of an answer came; a table that is refused is not run
abbrev pub ran_extent : Ran → Extent
ran_extent (Err e) = record { read = 0; threads = 0; locks = 0 }
ran_extent (Ok x) = x.extent

-- what is reported of an answer to a caller in C
abbrev pub report_of : Ran → Report
report_of r = record {
  answer = ran_number r;
  read = (ran_extent r).read;
  threads = (ran_extent r).threads;
  locks = (ran_extent r).locks;
}

-- what a run reports to a caller in C, and leaves
pub record Reports (o : Outcome) (bs : List ℕ) (before after : List Record) (r : Report) : Type 0 where
  pub ran : Ran
  pub runs : Runs o bs before after ran
  pub is : r ≡ report_of ran
