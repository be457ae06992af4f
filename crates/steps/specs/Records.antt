-- What the functions over one record do: the record that each leaves.
use Rattle.std.specs.Prelude.{Bool, true, false, cond, List, ℕ, zero, suc, ◌+◌, ◌*◌, ◌-◌, ◌<◌, ◌≤◌, ltb, length}
use Rattle.std.specs.Prelude.{get_or, set, replicate}
use Rattle.table.specs.Constants.{most_names}
use Rattle.schedule.specs.Limits.{most_locks, most_frames}
use Rattle.steps.specs.declared.thread.Thread.{Thread as Record}

-- a record, field by field
abbrev pub rec : ℕ → ℕ → Bool → List ℕ → List ℕ → List ℕ → Record
rec at depth ended kinds goes names =
    record { at = at; depth = depth; ended = ended; kinds = kinds; goes = goes; names = names }

-- the first j names of level d, copied to the level above
unfoldable pub copied : List ℕ → ℕ → ℕ → List ℕ
copied ns d zero = ns
copied ns d (suc j) =
    set (copied ns d j) (most_names * d + most_names + j) (get_or (copied ns d j) (most_names * d + j) 0)

-- the name in a CALL that parameter j + 1 has, where its k names stand from an offset on; past them it is name 0
abbrev pub name_at : List ℕ → ℕ → ℕ → ℕ → ℕ
name_at s from k j = cond (ltb j k) (get_or s (from + j) 0) 0

-- the first j parameters of a routine that is called, at the level above d, whose entry for name 0 is made
unfoldable pub passed : List ℕ → ℕ → List ℕ → ℕ → ℕ → ℕ → List ℕ
passed ns d s from k zero = ns
passed ns d s from k (suc j) =
    set (passed ns d s from k j) (most_names * d + most_names + 1 + j)
    (get_or (passed ns d s from k j) (most_names * d + name_at s from k j) 0)

-- the first j entries of level 0 taken from a list
unfoldable pub taken : List ℕ → List ℕ → ℕ → List ℕ
taken ns from zero = ns
taken ns from (suc j) = set (taken ns from j) j (get_or from j 0)

-- the first j names of level d, as a list
unfoldable pub level : List ℕ → ℕ → ℕ → List ℕ
level ns d zero = replicate most_names 0
level ns d (suc j) = set (level ns d j) j (get_or ns (most_names * d + j) 0)

-- the lock that name x stands for
abbrev pub lock_of : Record → ℕ → ℕ
lock_of t x = get_or t.names (most_names * t.depth + x) 0

-- the record at another offset
abbrev pub moved_to : Record → ℕ → Record
moved_to t at = rec at t.depth t.ended t.kinds t.goes t.names

-- the record of a thread that has ended
abbrev pub finished_as : Record → Record
finished_as t = rec t.at t.depth true t.kinds t.goes t.names

-- at another offset, where name x stands for the lock l
abbrev pub bound_to : Record → ℕ → ℕ → ℕ → Record
bound_to t x l at =
    rec at t.depth t.ended t.kinds t.goes (set t.names (most_names * t.depth + x) l)

-- in a block or an alternative
abbrev pub entered_as : Record → ℕ → ℕ → Record
entered_as t kind at =
    rec at (t.depth + 1) t.ended (set t.kinds t.depth kind) t.goes
    (copied t.names t.depth most_names)

-- at the head of a routine with k parameters, whose names stand from an offset on
abbrev pub called_as : Record → List ℕ → ℕ → ℕ → ℕ → Record
called_as t s from k head =
    rec head (t.depth + 1) t.ended (set t.kinds t.depth (most_locks + 1))
    (set t.goes t.depth (from + k))
    (passed (set t.names (most_names * t.depth + most_names) 0) t.depth s from k (most_names - 1))

-- with the innermost frame closed
abbrev pub left_to : Record → ℕ → Record
left_to t at = rec at (t.depth - 1) t.ended t.kinds t.goes t.names

-- a new thread
abbrev pub born_at : Record → ℕ → List ℕ → Record
born_at t at names = rec at 0 false t.kinds t.goes (taken t.names names most_names)

-- a further frame has room
abbrev pub Room : Record → Type 0
Room t = t.depth < most_frames

-- the level of the thread has room
abbrev pub Level : Record → Type 0
Level t = t.depth ≤ most_frames

-- the k names of a CALL stand from the offset on, and are names
pub record Passes (s : List ℕ) (from k : ℕ) : Type 0 where
  pub inside : from + k ≤ length s
  pub few : k < most_names
  pub named : (j : ℕ) → j < k → get_or s (from + j) 0 < most_names
