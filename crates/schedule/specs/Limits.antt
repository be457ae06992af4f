-- The limits of the runner, the byte that parts the alternatives, and a size that follows from a limit.
use Rattle.std.specs.Prelude.{ℕ, ◌+◌, ◌*◌}
use Rattle.table.specs.Constants.{most_names}

-- how many threads a run has at most
abbrev pub most_threads : ℕ
most_threads = 16

-- how many locks a run makes at most
abbrev pub most_locks : ℕ
most_locks = 64

-- how many blocks and calls a thread has open at most
abbrev pub most_frames : ℕ
most_frames = 64

-- the lowest byte that takes the second alternative of a CHOICE
abbrev pub second_side : ℕ
second_side = 128

-- how many entries the names of a record have: a level for the body, and one for each open block or call
abbrev pub all_names : ℕ
all_names = (most_frames + 1) * most_names
