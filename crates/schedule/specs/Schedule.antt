-- What running a program under a schedule comes to: document 01's run, turn by turn, within document 02's limits.
use Rattle.std.specs.Prelude.{Bool, true, false, cond, ◌||◌, List, [], ◌∷◌, ℕ, zero, suc, ◌%◌, leb, eqb, ltb, length}
use Rattle.table.specs.Program.{end, new, lock, fork, choice, call, mirror, Program}
use Rattle.run.specs.Run.{Frame, Thread, ended, at, State, start, thread, taken?, Turn, first, second, turn}
use Rattle.schedule.specs.Limits.{most_threads, most_locks, most_frames, second_side}

-- the turn that a byte of the schedule stands for
abbrev pub turn_of : ℕ → Turn
turn_of b = (b % most_threads, cond (ltb b second_side) first second)

-- how many blocks and calls thread t has open: those in its stack and, for all threads but 0, the fork's block around them
abbrev pub opened : ℕ → List Frame → ℕ
opened zero fs = length fs
opened (suc t) fs = suc (length fs)

-- whether the thread, whose number is t, waits
abbrev pub waits? : State → ℕ → Thread → Bool
waits? s t (at (lock x c d) e fs) = elim (taken? s t (e x)) [ yes h ↦ true | no n ↦ false ]
waits? s t ended = false
waits? s t (at end e fs) = false
waits? s t (at (new x c) e fs) = false
waits? s t (at (fork i c d) e fs) = false
waits? s t (at (choice a b c) e fs) = false
waits? s t (at (call r xs c) e fs) = false
waits? s t (at (mirror x y c) e fs) = false

-- whether no further block or call may be opened by thread t
abbrev pub full? : ℕ → List Frame → Bool
full? t fs = leb most_frames (opened t fs)

-- whether no further thread may start, where so many records are lent
abbrev pub crowded? : ℕ → State → Bool
crowded? lent s = leb lent (length s.threads) || leb most_threads (length s.threads)

-- whether the next step of the thread, whose number is t, is beyond a limit; a thread that waits or has ended takes
-- none
unfoldable pub beyond? : ℕ → State → ℕ → Thread → Bool
beyond? lent s t ended = false
beyond? lent s t (at end e fs) = false
beyond? lent s t (at (new x c) e fs) = leb most_locks s.made
beyond? lent s t (at (lock x c d) e fs) = elim (taken? s t (e x)) [ yes h ↦ false | no n ↦ full? t fs ]
beyond? lent s t (at (fork i c d) e fs) = crowded? lent s
beyond? lent s t (at (choice a b c) e fs) = full? t fs
beyond? lent s t (at (call r xs c) e fs) = full? t fs
beyond? lent s t (at (mirror x y c) e fs) = false

-- how threads stand: none is left, some are and all of those wait, or some can go on
pub data Outlook : Type 0 where
  none_left : Outlook
  all_wait : Outlook
  some_can : Outlook

-- with a thread that waits beside them
abbrev pub and_waiting : Outlook → Outlook
and_waiting none_left = all_wait
and_waiting all_wait = all_wait
and_waiting some_can = some_can

-- how the threads of the list stand, the first of which has the number t
abbrev pub outlook_from : State → ℕ → List Thread → Outlook
outlook_from s t [] = none_left
outlook_from s t (ended ∷ xs) = outlook_from s (suc t) xs
outlook_from s t (at c e fs ∷ xs) = cond (waits? s t (at c e fs)) (and_waiting (outlook_from s (suc t) xs)) some_can

-- how the threads of the state stand
abbrev pub outlook : State → Outlook
outlook s = outlook_from s 0 s.threads

-- why no further byte is read
pub data End : Type 0 where
  all_ended : End
  stuck : End
  at_end : End
  unstarted : End
  beyond : End

-- what a run comes to: why it stopped, how many bytes were read, and the state
pub record Result : Type 0 where
  pub why : End
  pub read : ℕ
  pub state : State

-- a run that stops in the state s after n bytes
abbrev pub stop : End → ℕ → State → Result
stop e n s = record { why = e; read = n; state = s }

-- the run stops where no thread is left or all wait, else it goes on as given
abbrev pub unless : Outlook → ℕ → State → Result → Result
unless none_left n s r = stop all_ended n s
unless all_wait n s r = stop stuck n s
unless some_can n s r = r

-- the bytes of the schedule that are left are read in the state s, after n bytes
unfoldable pub run_from : Program → ℕ → State → ℕ → List ℕ → Result
run_from P lent s n [] = unless (outlook s) n s (stop at_end n s)
run_from P lent s n (b ∷ bs) =
    unless (outlook s) n s
    (cond (leb (length s.threads) (b % most_threads)) (stop unstarted n s)
    (cond (beyond? lent s (b % most_threads) (thread s (b % most_threads))) (stop beyond n s)
    (run_from P lent (turn P s (turn_of b)) (suc n) bs)))

-- the whole run, where so many records are lent; with none there is no room for thread 0
abbrev pub runs : Program → ℕ → List ℕ → Result
runs P lent bs =
    cond (eqb lent 0) (stop beyond 0 (record { threads = []; made = 0 })) (run_from P lent (start P) 0 bs)
