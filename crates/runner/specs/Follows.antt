-- How a record follows a thread of the run: the relation that every tick keeps. It says more than `Shown`, which is
-- what is promised: where what belongs to an item is kept, and that every number is small.
use Rattle.std.specs.Prelude.{◌≡◌, Bool, true, false, cond, List, [], ◌∷◌, ℕ, ◌-◌, ◌<◌, ◌≤◌, length, get_or}
use Rattle.table.specs.Constants.{most_names}
use Rattle.table.specs.Program.{Code}
use Rattle.run.specs.Run.{Env, Open, held, alternative, called, Frame, frame, Thread, ended, at}
use Rattle.schedule.specs.Limits.{most_locks, most_frames}
use Rattle.steps.specs.declared.thread.Thread.{Thread as Record}
use Rattle.steps.specs.Shown.{NamesAt, FramesAt}
use Rattle.links.specs.Lies.{Section, link_at, Lies}

-- whether a block so opened can be closed so before the offset `to`: a first alternative is an alternative, and the
-- second stands after it
abbrev pub Closed : Section → Bool → ℕ → Open → Type 0
Closed z first to (held l) = first ≡ false
Closed z first to alternative = first ≡ true → (b : Code) × Lies z false to b (link_at z (to - 1))
Closed z first to called = first ≡ false

-- where the thread goes on once what was opened is closed before the offset `to`; n frames are around it
abbrev pub target : Section → List ℕ → Bool → ℕ → ℕ → Open → ℕ
target z goes first to n (held l) = to
target z goes first to n alternative = cond first (link_at z (to - 1)) to
target z goes first to n called = get_or goes n 0

-- what the frames go on with stands where the thread will find it, where the code inside ends before the offset `to`
abbrev pub Rest : Section → List ℕ → Bool → ℕ → List Frame → Type 0
Rest z goes first to [] = first ≡ false
Rest z goes first to (frame o e d ∷ fs) =
    Closed z first to o
    × ((q : Bool) × (next : ℕ) × Lies z q (target z goes first to (length fs) o) d next × Rest z goes q next fs)

-- the code stands at the offset, and the frames go on
abbrev pub Stand : Section → List ℕ → ℕ → Code → List Frame → Type 0
Stand z goes from c fs = (q : Bool) × (to : ℕ) × Lies z q from c to × Rest z goes q to fs

-- every name stands for a small number
abbrev pub Small : Env → Type 0
Small e = (x : ℕ) → x < most_names → e x < most_locks

-- the lock held is small
abbrev pub SmallOpen : Open → Type 0
SmallOpen (held l) = l < most_locks
SmallOpen alternative = Unit {0}
SmallOpen called = Unit {0}

-- so in every frame
abbrev pub AllSmall : List Frame → Type 0
AllSmall [] = Unit {0}
AllSmall (frame o e d ∷ fs) = SmallOpen o × Small e × AllSmall fs

-- a thread at the head of the code c is followed by the record r
pub record FollowsAt (z : Section) (c : Code) (e : Env) (fs : List Frame) (r : Record) : Type 0 where
  pub runs : r.ended ≡ false
  pub deep : r.depth ≡ length fs
  pub few : length fs ≤ most_frames
  pub stand : Stand z r.goes r.at c fs
  pub names : NamesAt r.names (length fs) e
  pub frames : FramesAt r.kinds r.names fs
  pub small : Small e
  pub all_small : AllSmall fs

-- the thread is followed by the record
abbrev pub Follows : Section → Thread → Record → Type 0
Follows z ended r = r.ended ≡ true
Follows z (at c e fs) r = FollowsAt z c e fs r
