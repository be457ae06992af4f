-- How the lent records show the threads of a state.
use Rattle.std.specs.Prelude.{◌≡◌, true, false, ◌⊎◌, List, [], ◌∷◌, ◌++◌, ℕ, ◌+◌, ◌*◌, ◌<◌, ◌≤◌, length, get_or, drop}
use Rattle.table.specs.Constants.{Op, END, OTHER, most_names}
use Rattle.table.specs.Program.{Code}
use Rattle.table.specs.Encoding.{encode}
use Rattle.table.specs.WellFormed.{In}
use Rattle.run.specs.Run.{Env, Open, held, alternative, called, Frame, frame, Thread, ended, at, locks}
use Rattle.schedule.specs.Limits.{most_locks}
use Rattle.steps.specs.declared.thread.Thread.{Thread as Record}

-- the code, closed by an item of the kind z, stands at the offset `from` of the section; `to` is the offset after it
abbrev pub Stands : List ℕ → Op → ℕ → Code → ℕ → Type 0
Stands s z from c to = drop from s ≡ encode z c ++ drop to s

-- The code c stands at the offset, and what each frame goes on with stands where the thread will find it: after the
-- block that it opened, after the second alternative where it opened the first, or at the offset kept for a call.
abbrev pub GoesOn : List ℕ → List ℕ → ℕ → Code → List Frame → Type 0
GoesOn s goes from c [] = (to : ℕ) × Stands s END from c to
GoesOn s goes from c (frame (held l) e d ∷ fs) = (to : ℕ) × Stands s END from c to × GoesOn s goes to d fs
GoesOn s goes from c (frame alternative e d ∷ fs) =
    ((to : ℕ) × Stands s END from c to × GoesOn s goes to d fs)
    ⊎ ((other : ℕ) × (b : Code) × (to : ℕ) × Stands s OTHER from c other × Stands s END other b to
    × GoesOn s goes to d fs)
GoesOn s goes from c (frame called e d ∷ fs) =
    ((to : ℕ) × Stands s END from c to) × GoesOn s goes (get_or goes (length fs) 0) d fs

-- the entries at level d have the lock of each name
abbrev pub NamesAt : List ℕ → ℕ → Env → Type 0
NamesAt names d e = (x : ℕ) → x < most_names → get_or names (most_names * d + x) 0 ≡ e x

-- the mark of what is open
abbrev pub kind_of : Open → ℕ
kind_of (held l) = l
kind_of alternative = most_locks
kind_of called = most_locks + 1

-- the marks and the names of the frames
abbrev pub FramesAt : List ℕ → List ℕ → List Frame → Type 0
FramesAt kinds names [] = Unit {0}
FramesAt kinds names (frame o e c ∷ fs) =
    (get_or kinds (length fs) 0 ≡ kind_of o) × NamesAt names (length fs) e × FramesAt kinds names fs

-- a thread that is at the head of the code c is shown by the record r; each lock that it holds is below the marks
pub record ShowsAt (s : List ℕ) (c : Code) (e : Env) (fs : List Frame) (r : Record) : Type 0 where
  pub runs : r.ended ≡ false
  pub deep : r.depth ≡ length fs
  pub goes_on : GoesOn s r.goes r.at c fs
  pub names : NamesAt r.names (length fs) e
  pub frames : FramesAt r.kinds r.names fs
  pub locks_low : (l : ℕ) → In l (locks fs) → l < most_locks

-- the thread is shown by the record
abbrev pub Shows : List ℕ → Thread → Record → Type 0
Shows s ended r = r.ended ≡ true
Shows s (at c e fs) r = ShowsAt s c e fs r

-- what stands for a record past the end
abbrev pub blank : Record
blank = record { at = 0; depth = 0; ended = false; kinds = []; goes = []; names = [] }

-- each thread is shown by the record of its number; the other records are as they were
pub record ShowsAll (s : List ℕ) (threads : List Thread) (before after : List Record) : Type 0 where
  pub as_many : length after ≡ length before
  pub shown : (t : ℕ) → t < length threads → Shows s (get_or threads t ended) (get_or after t blank)
  pub kept : (t : ℕ) → length threads ≤ t → get_or after t blank ≡ get_or before t blank
