-- The run: states, steps, turns, waiting, and what it is for a state to be safe.
use Rattle.std.specs.Prelude.{◌≡◌, refl, ◌≢◌, ◌⊎◌, List, [], ◌∷◌, ◌++◌, ℕ, zero, suc, get_or, set}
use Rattle.table.specs.Program.{Code, end, new, lock, fork, choice, call, mirror, Program, body}
use Rattle.table.specs.WellFormed.{In, NoDup}
use Rattle.rules.specs.Model.{bind}
use Rattle.run.specs.Decide.{elsewhere?}

-- the lock that each name in scope stands for; a name out of scope is never asked for. `bind` of `Model.antt` gives a
-- name its lock.
abbrev pub Env : Type 0
Env = ℕ → ℕ

-- in a called routine: parameter i has the lock that the i-th name in the CALL has at the caller
abbrev pub pass : List ℕ → Env → Env
pass xs e zero = 0
pass xs e (suc i) = e (get_or xs i 0)

-- what can be open around an item: the block of a LOCK that took this lock, an alternative, or the body of a CALL
pub data Open : Type 0 where
  held : ℕ → Open
  alternative : Open
  called : Open

-- something open, and how the thread goes on once it is closed: with which names, and at the head of which code
pub data Frame : Type 0 where
  frame : Open → Env → Code → Frame

-- A thread: it has ended, or is at the head of a code, with its names and with what else is open than the body or FORK
-- block that it began with, the innermost first.
pub data Thread : Type 0 where
  ended : Thread
  at : Code → Env → List Frame → Thread

-- the threads in the order of their numbers, and how many locks were made: their numbers are those below
pub record State : Type 0 where
  pub threads : List Thread
  pub made : ℕ

-- thread t; one that was never started is taken as ended
abbrev pub thread : State → ℕ → Thread
thread s t = get_or s.threads t ended

-- the start: the main thread alone, at the head of routine 0 with nothing else open, and no lock made
abbrev pub start : Program → State
start P = record { threads = at (body P 0) (λ x. 0) [] ∷ []; made = 0 }

-- the locks of the open LOCK blocks, the last taken first
abbrev pub locks : List Frame → List ℕ
locks [] = []
locks (frame (held l) e c ∷ fs) = l ∷ locks fs
locks (frame alternative e c ∷ fs) = locks fs
locks (frame called e c ∷ fs) = locks fs

-- the locks that a thread holds, each as often as it holds it
abbrev pub holds : Thread → List ℕ
holds ended = []
holds (at c e fs) = locks fs

-- whether another thread than t holds the lock l
unfoldable pub taken? : (s : State) (t l : ℕ) → Dec ((u : ℕ) × ((u ≢ t) × In l (holds (thread s u))))
taken? s t l = elsewhere? holds ended refl s.threads t l

-- thread t becomes x
abbrev pub put : State → ℕ → Thread → State
put s t x = record { threads = set s.threads t x; made = s.made }

-- the first alternative of a CHOICE, or the second
pub data Side : Type 0 where
  first : Side
  second : Side

-- One step of thread t, the last argument, at a CHOICE into the alternative a. Where it has ended, or waits at a LOCK,
-- the state stays as it is. END and OTHER go on as the frame that they close says; a lock block's frame is one hold.
unfoldable pub step : Program → State → ℕ → Side → Thread → State
step P s t a ended = s
step P s t a (at end e []) = put s t ended
step P s t a (at end e (frame o f c ∷ fs)) = put s t (at c f fs)
step P s t a (at (new x c) e fs) =
    record { threads = set s.threads t (at c (bind x s.made e) fs); made = suc s.made }
step P s t a (at (lock x c d) e fs) =
    elim (taken? s t (e x)) [ yes h ↦ s | no n ↦ put s t (at c e (frame (held (e x)) e d ∷ fs)) ]
step P s t a (at (fork i c d) e fs) =
    record { threads = set s.threads t (at d e fs) ++ (at c e [] ∷ []); made = s.made }
step P s t first (at (choice c d g) e fs) = put s t (at c e (frame alternative e g ∷ fs))
step P s t second (at (choice c d g) e fs) = put s t (at d e (frame alternative e g ∷ fs))
step P s t a (at (call r xs c) e fs) = put s t (at (body P r) (pass xs e) (frame called e c ∷ fs))
step P s t a (at (mirror x y c) e fs) = put s t (at c (bind x (e y) e) fs)

-- a turn: the number of a thread, and the alternative to take if its next item is a CHOICE
abbrev pub Turn : Type 0
Turn = ℕ × Side

-- the state that a turn leaves
abbrev pub turn : Program → State → Turn → State
turn P s k = step P s k.0 k.1 (thread s k.0)

-- the state that a list of turns leaves, taken one after the other
abbrev pub run : Program → State → List Turn → State
run P s [] = s
run P s (k ∷ turns) = run P (turn P s k) turns

-- the thread's next item is a LOCK on the lock l
pub data Wants : Thread → ℕ → Type 0 where
  wants : {x l : ℕ} {c d : Code} {e : Env} {fs : List Frame} → e x ≡ l → Wants (at (lock x c d) e fs) l

-- thread t waits for thread u: it wants a lock, and u, which is not t, holds it
abbrev pub Waits : State → ℕ → ℕ → Type 0
Waits s t u = (l : ℕ) × Wants (thread s t) l × (u ≢ t) × In l (holds (thread s u))

-- t waits for the first of the list, each of the list for the next, and the last for z
abbrev pub Line : State → ℕ → List ℕ → ℕ → Type 0
Line s t [] z = Waits s t z
Line s t (u ∷ us) z = Waits s t u × Line s u us z

-- a circle of waiting threads: at least two, no two the same, each waits for the one after it, and the last for one
pub record Circle (s : State) : Type 0 where
  pub one : ℕ
  pub two : ℕ
  pub more : List ℕ
  pub different : NoDup (one ∷ two ∷ more)
  pub waits : Line s one (two ∷ more) one

-- thread t can take its next step: it has not ended, and there is no thread that it waits for
pub record CanStep (s : State) (t : ℕ) : Type 0 where
  pub not_ended : thread s t ≢ ended
  pub free : (u : ℕ) → ¬ Waits s t u

-- the state is safe: it has no circle of waiting threads, and all threads have ended or some thread can step
pub record Safe (s : State) : Type 0 where
  pub no_circle : ¬ Circle s
  pub goes_on : ((t : ℕ) → thread s t ≡ ended) ⊎ ((t : ℕ) × CanStep s t)
