-- What a run with fresh records leaves.
use Rattle.std.specs.Prelude.{◌≡◌, false, List, ℕ, ◌-◌, min, length, replicate, take, drop}
use Rattle.table.specs.Check.{Outcome}
use Rattle.schedule.specs.Limits.{most_threads, most_frames, all_names}
use Rattle.steps.specs.declared.thread.Thread.{Thread as Record}
use Rattle.runner.specs.declared.Desk.{Desk}
use Rattle.runner.specs.Answer.{Runs}

-- a record that nothing was written to
abbrev pub fresh : Record
fresh = record {
  at = 0;
  depth = 0;
  ended = false;
  kinds = replicate most_frames 0;
  goes = replicate most_frames 0;
  names = replicate all_names 0;
}

-- how many of a desk's records are lent where n are asked for
abbrev pub lent_of : ℕ → ℕ
lent_of n = min n most_threads

-- a desk's first records were lent to the run, and the others are as they were
pub record RunsFresh (o : Outcome) (bs : List ℕ) (n : ℕ) (d : Desk) : Type 0 where
  pub long : length d.records ≡ most_threads
  pub ran : Runs o bs (replicate (lent_of n) fresh) (take (lent_of n) d.records) d.ran
  pub rest : drop (lent_of n) d.records ≡ replicate (most_threads - lent_of n) fresh
