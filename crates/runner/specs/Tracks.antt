-- How the machine tracks a state of the run: the locks, who holds them, and what each thread wants.
use Rattle.std.specs.Prelude.{◌≡◌, ◌≢◌, true, cond, List, [], ◌∷◌, ℕ, suc, ◌<◌, ◌≤◌, eqb, length, get_or, set}
use Rattle.table.specs.Program.{end, new, lock, fork, choice, call, mirror}
use Rattle.run.specs.Run.{Thread, ended, at, State, thread, holds}
use Rattle.schedule.specs.Limits.{most_threads, most_locks}
use Rattle.schedule.specs.Schedule.{Outlook, none_left, all_wait, some_can}
use Rattle.steps.specs.declared.thread.Thread.{Thread as Record}
use Rattle.steps.specs.Shown.{blank}
use Rattle.steps.specs.Records.{born_at}
use Rattle.steps.specs.declared.machine.Ending.{Ending}
use Rattle.steps.specs.declared.machine.Ending.TheVariants.{Ended, Stuck, Open}
use Rattle.steps.specs.declared.machine.Want.{Want}
use Rattle.steps.specs.declared.machine.Want.TheVariants.{Free, Gone}
use Rattle.steps.specs.declared.machine.Want.TheVariants as want
use Rattle.steps.specs.declared.machine.Machine.{Machine}
use Rattle.steps.specs.Machines.{lock_at, is_born}
use Rattle.links.specs.Lies.{Section}
use Rattle.runner.specs.Ticks.{Sized, looked}
use Rattle.runner.specs.Follows.{Follows}

-- how often l stands in the list
abbrev pub occurs : ℕ → List ℕ → ℕ
occurs l [] = 0
occurs l (x ∷ xs) = cond (eqb x l) (suc (occurs l xs)) (occurs l xs)

-- each lock is held by its owner alone, as often as the count says
abbrev pub Held : State → Machine → Type 0
Held s m =
    (u l : ℕ) → l < most_locks
    → occurs l (holds (thread s u)) ≡ cond (eqb (lock_at m l).owner u) (lock_at m l).count 0

-- what a thread wants: the lock that its next item takes, nothing, or nothing any more
abbrev pub want_of : Thread → Want
want_of ended = Gone
want_of (at end e fs) = Free
want_of (at (new x c) e fs) = Free
want_of (at (lock x c d) e fs) = want.Lock (e x)
want_of (at (fork i c d) e fs) = Free
want_of (at (choice a b c) e fs) = Free
want_of (at (call r xs c) e fs) = Free
want_of (at (mirror x y c) e fs) = Free

-- a thread wants a lock that there can be
abbrev pub SmallWant : Thread → Type 0
SmallWant (at (lock x c d) e fs) = e x < most_locks
SmallWant ended = Unit {0}
SmallWant (at end e fs) = Unit {0}
SmallWant (at (new x c) e fs) = Unit {0}
SmallWant (at (fork i c d) e fs) = Unit {0}
SmallWant (at (choice a b c) e fs) = Unit {0}
SmallWant (at (call r xs c) e fs) = Unit {0}
SmallWant (at (mirror x y c) e fs) = Unit {0}

-- what each thread wants is as the machine has it
pub record Wants (s : State) (m : Machine) : Type 0 where
  pub wanted : (t : ℕ) → t < length s.threads → get_or m.wants t Free ≡ want_of (thread s t)
  pub small : (t : ℕ) → SmallWant (thread s t)

-- what the machine has for how threads stand
abbrev pub outlook_ending : Outlook → Ending
outlook_ending none_left = Ended
outlook_ending all_wait = Stuck
outlook_ending some_can = Open

-- the records, with the one that is still to be written
abbrev pub written : List Record → Machine → List Record
written ts m = cond (is_born m.stage) (set ts m.pick (born_at (looked ts m) m.head m.born)) ts

-- the records and the machine track the state; of a record that is still to be written nothing is known but by its size
pub record Tracks (z : Section) (s : State) (ts : List Record) (m : Machine) : Type 0 where
  pub threads : m.threads ≡ length s.threads
  pub few : length s.threads ≤ most_threads
  pub lent : m.lent ≡ length ts
  pub room : length s.threads ≤ length ts
  pub made : m.made ≡ s.made
  pub few_locks : s.made ≤ most_locks
  pub follows : (t : ℕ) → t < length s.threads → Sized (get_or (written ts m) t blank)
      → Follows z (thread s t) (get_or (written ts m) t blank)
  pub sized : (t : ℕ) → t < length s.threads → (is_born m.stage ≡ true → t ≢ m.pick) → Sized (get_or (written ts m) t blank)
  pub held : Held s m
  pub wants : Wants s m
  pub locks_long : length m.locks ≡ most_locks
  pub wants_long : length m.wants ≡ most_threads
