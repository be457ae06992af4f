-- How many times a record's thread holds a lock.
use Rattle.std.specs.Prelude.{ℕ, ◌==◌, min, take, count_by}
use Rattle.schedule.specs.Limits.{most_frames}
use Rattle.steps.specs.declared.thread.Thread.{Thread as Record}

-- how many times a thread holds the lock l: how many of its open frames are LOCK blocks of l
abbrev pub held_by : Record → ℕ → ℕ
held_by t l = count_by (λ k. k == l) (take (min t.depth most_frames) t.kinds)
