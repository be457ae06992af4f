-- What the functions over the machine do: the machine that each leaves.
use Rattle.std.specs.Prelude.{◌≡◌, Bool, true, false, cond, not, ◌||◌, List, ℕ, zero, suc, ◌+◌, ◌-◌, ◌%◌, ◌<◌, ◌≤◌, eqb}
use Rattle.std.specs.Prelude.{leb, length, get_or, set}
use Rattle.table.specs.Constants.{LOCK, code, most_names}
use Rattle.schedule.specs.Limits.{most_threads, most_locks, most_frames}
use Rattle.steps.specs.declared.thread.Thread.{Thread as Record}
use Rattle.steps.specs.Records.{lock_of}
use Rattle.steps.specs.declared.machine.Ending.{Ending}
use Rattle.steps.specs.declared.machine.Ending.TheVariants.{Ended, Stuck, Open, Unstarted, Beyond}
use Rattle.steps.specs.declared.machine.Stage.{Stage}
use Rattle.steps.specs.declared.machine.Stage.TheVariants.{Born, Turn, Over}
use Rattle.steps.specs.declared.machine.Want.{Want}
use Rattle.steps.specs.declared.machine.Want.TheVariants.{Free, Gone}
use Rattle.steps.specs.declared.machine.Want.TheVariants as want
use Rattle.steps.specs.declared.machine.Lock.{Lock}
use Rattle.steps.specs.declared.machine.Machine.{Machine}

-- whether a new thread's record is to be written
abbrev pub is_born : Stage → Bool
is_born Born = true
is_born Turn = false
is_born (Over w) = false

-- whether nothing more is to be done
abbrev pub is_over : Stage → Bool
is_over Born = false
is_over Turn = false
is_over (Over w) = true

-- whether some thread can go on
abbrev pub is_open : Ending → Bool
is_open Ended = false
is_open Stuck = false
is_open Open = true
is_open Unstarted = false
is_open Beyond = false

-- the machine at another stage, with another count of bytes and record to look at
abbrev pub turned : Machine → Stage → ℕ → ℕ → Machine
turned m stage read pick = record m { stage = stage; read = read; pick = pick }

-- a lock that was never taken
abbrev pub untaken : Lock
untaken = record { owner = 0; count = 0 }

-- the lock l
abbrev pub lock_at : Machine → ℕ → Lock
lock_at m l = get_or m.locks l untaken

-- nothing more is to be done
abbrev pub over_as : Machine → Ending → Machine
over_as m w = turned m (Over w) m.read m.pick

-- whether another thread than t holds the lock l
abbrev pub held_elsewhere : Machine → ℕ → ℕ → Bool
held_elsewhere m t l = cond (eqb (lock_at m l).count 0) false (not (eqb (lock_at m l).owner t))

-- thread t takes the lock l once more
abbrev pub taken_by : Machine → ℕ → ℕ → Machine
taken_by m t l = record m { locks = set m.locks l (record { owner = t; count = (lock_at m l).count + 1 }) }

-- one hold of the lock l is given back
abbrev pub given_back : Machine → ℕ → Machine
given_back m l = record m { locks = set m.locks l (record { owner = (lock_at m l).owner; count = (lock_at m l).count - 1 }) }

-- one more lock is made
abbrev pub made_one : Machine → Machine
made_one m = record m { made = m.made + 1 }

-- thread t wants w next
abbrev pub wants_as : Machine → ℕ → Want → Machine
wants_as m t w = record m { wants = set m.wants t w }

-- what the thread with the record t wants at the offset: a lock, or nothing
abbrev pub want_at : List ℕ → Record → ℕ → Want
want_at s t at = cond (eqb (get_or s at 0) (code LOCK)) (want.Lock (lock_of t (get_or s (at + 1) 0))) Free

-- with a thread that waits beside them
abbrev pub worse : Ending → Ending
worse Ended = Stuck
worse Stuck = Stuck
worse Open = Open
worse Unstarted = Unstarted
worse Beyond = Beyond

-- how threads stand, thread t that wants w beside others that stand as v says: Ended, Stuck or Open
abbrev pub join_by : Machine → ℕ → Ending → Want → Ending
join_by m t v Free = Open
join_by m t v Gone = v
join_by m t v (want.Lock l) = cond (held_elsewhere m t l) (worse v) Open

-- the same of what the machine has for thread t
abbrev pub join_at : Machine → ℕ → Ending → Ending
join_at m t v = join_by m t v (get_or m.wants t Free)

-- how the threads below n stand
unfoldable pub view : Machine → ℕ → Ending
view m zero = Ended
view m (suc n) = join_at m n (view m n)

-- what is to be done next, where some thread can go on
abbrev pub next_byte : Machine → List ℕ → Machine
next_byte m bs =
    cond (leb (length bs) m.read) (over_as m Open)
    (cond (leb m.threads (get_or bs m.read 0 % most_threads)) (over_as m Unstarted)
    (turned m Turn m.read (get_or bs m.read 0 % most_threads)))

-- what is to be done next
abbrev pub settled_as : Machine → List ℕ → Machine
settled_as m bs = cond (is_open (view m m.threads)) (next_byte m bs) (over_as m (view m m.threads))

-- one more byte is read
abbrev pub counted_as : Machine → Machine
counted_as m = turned m m.stage (m.read + 1) m.pick

-- a thread starts
abbrev pub starting_as : Machine → ℕ → List ℕ → Want → Machine
starting_as m at names w = record m {
  stage = Born;
  pick = m.threads;
  threads = m.threads + 1;
  head = at;
  wants = set m.wants m.threads w;
  born = names;
}

-- whether thread t may open nothing further
abbrev pub full_at : ℕ → ℕ → Bool
full_at t depth = cond (eqb t 0) (leb most_frames depth) (leb most_frames (depth + 1))

-- whether no further thread may start
abbrev pub crowded_at : Machine → Bool
crowded_at m = leb m.lent m.threads || leb most_threads m.threads

-- an item can be looked at here
pub record Item (s : List ℕ) (at : ℕ) : Type 0 where
  pub inside : at < length s
  pub named : get_or s at 0 ≡ code LOCK → (at + 1 < length s) × (get_or s (at + 1) 0 < most_names)

-- a lock that is wanted is one that there can be
abbrev pub LowWant : Want → Type 0
LowWant Free = Unit {0}
LowWant Gone = Unit {0}
LowWant (want.Lock l) = l < most_locks

-- so for each thread
abbrev pub Wanting : Machine → Type 0
Wanting m = (m.threads ≤ most_threads) × ((t : ℕ) → t < m.threads → LowWant (get_or m.wants t Free))
