-- Each item keeps the record following its thread: the steps of `Run` against those of `Records`.
use Rattle.std.specs.Prelude.{◌≡◌, refl, Bool, true, false, cond, List, [], ◌∷◌, ℕ, ◌+◌, ◌*◌, ◌-◌, ◌<◌, ◌≤◌, length}
use Rattle.std.specs.Prelude.{get_or, set, eqb}
use Rattle.std.proofs.Common.{sym, ◌∙◌, subst, arith, get_or-set_same, get_or-set_other}
use Rattle.table.specs.Constants.{most_names}
use Rattle.table.specs.Program.{Code, end, new, lock, fork, choice, mirror}
use Rattle.rules.specs.Model.{bind}
use Rattle.run.specs.Run.{Env, Open, held, alternative, Frame, frame, ended}
use Rattle.schedule.specs.Limits.{most_locks, most_frames}
use Rattle.steps.specs.declared.thread.Thread.{Thread as Record}
use Rattle.steps.specs.Records.{copied, bound_to, entered_as, left_to, moved_to, finished_as, lock_of}
use Rattle.steps.specs.Shown.{FramesAt, kind_of}
use Rattle.links.specs.Lies.{Section}
use Rattle.runner.specs.Ticks.{Sized}
use Rattle.links.specs.Lies.{link_at, Lies}
use Rattle.runner.specs.Follows.{target, Stand, SmallOpen, FollowsAt, Follows}
use Rattle.runner.proofs.Laws.Entries.{bound_names, kept_frames, kept_marks, copied_old, copied_names}

-- the lock that a name stands for is the one in the record
pub same_lock :
    (z : Section) (c : Code) (e : Env) (fs : List Frame) (r : Record) (x : ℕ) → FollowsAt z c e fs r → x < most_names
    → lock_of r x ≡ e x
same_lock z c e fs r x f h = rw f.deep (f.names x h)

-- the thread goes on at the head of the code c, where name x stands for the lock l
follows_bound :
    (z : Section) (x l to : ℕ) (d c : Code) (e : Env) (fs : List Frame) (r : Record) → Sized r → l < most_locks
    → x < most_names → (f : FollowsAt z d e fs r) → Lies z f.stand.0 to c f.stand.1
    → FollowsAt z c (bind x l e) fs (bound_to r x l to)
follows_bound z x l to d c e fs r sized less named f lies = record {
  runs = f.runs;
  deep = f.deep;
  few = f.few;
  stand = (f.stand.0, f.stand.1, lies, f.stand.3);
  names = rw f.deep (bound_names r.names (length fs) e x l named f.few sized.names f.names);
  frames = kept_frames r.kinds r.names _ fs (length fs) (omega arith) (λ i h. other i h) f.frames;
  small = λ y h. bound_small y h;
  all_small = f.all_small;
}
  where
    other : (i : ℕ) → i < most_names * length fs
        → get_or (set r.names (most_names * r.depth + x) l) i 0 ≡ get_or r.names i 0
    other i h =
        get_or-set_other r.names (most_names * r.depth + x) i l 0 (λ q. let d = f.deep in omega (arith, q, h, d))

    bound_small : (y : ℕ) → y < most_names → cond (eqb y x) l (e y) < most_locks
    bound_small y h = by (eqb y x)
      where
        by : (b : Bool) → cond b l (e y) < most_locks
        by true = less
        by false = f.small y h

-- NEW
pub follows_new :
    (z : Section) (x l : ℕ) (c : Code) (e : Env) (fs : List Frame) (r : Record) → Sized r → l < most_locks
    → FollowsAt z (new x c) e fs r → FollowsAt z c (bind x l e) fs (bound_to r x l (r.at + 1))
follows_new z x l c e fs r sized less f =
    let lies = f.stand.2 in follows_bound z x l (r.at + 1) (new x c) c e fs r sized less lies.2 f lies.3

-- MIRROR
pub follows_mirror :
    (z : Section) (x y : ℕ) (c : Code) (e : Env) (fs : List Frame) (r : Record) → Sized r
    → FollowsAt z (mirror x y c) e fs r → FollowsAt z c (bind x (e y) e) fs (bound_to r x (e y) (r.at + 2))
follows_mirror z x y c e fs r sized f =
    let lies = f.stand.2 in
    follows_bound z x (e y) (r.at + 2) (mirror x y c) c e fs r sized (f.small y lies.4) lies.2 f lies.5

-- a block or an alternative is opened: the new code stands at the offset, and what was opened goes on as it says
pub follows_open :
    (z : Section) (o : Open) (c c' d : Code) (e : Env) (fs : List Frame) (r : Record) (from : ℕ) → Sized r
    → length fs < most_frames → SmallOpen o → FollowsAt z c e fs r
    → Stand z r.goes from c' (frame o e d ∷ fs)
    → FollowsAt z c' e (frame o e d ∷ fs) (entered_as r (kind_of o) from)
follows_open z o c c' d e fs r from sized room so f stand =
    let deep = f.deep in
    record {
      runs = f.runs;
      deep = omega (arith, deep);
      few = room;
      stand = stand;
      names = rw f.deep (copied_names r.names (length fs) e room sized.names f.names);
      frames = (
        rw f.deep marked,
        rw f.deep (lower (length fs) (omega arith)),
        subst (λ (k : ℕ). FramesAt (set r.kinds k (kind_of o)) (copied r.names k most_names) fs) (sym f.deep) below,
      );
      small = f.small;
      all_small = (so, f.small, f.all_small);
    }
  where
    n : ℕ
    n = length fs

    kinds : List ℕ
    kinds = set r.kinds n (kind_of o)

    made : List ℕ
    made = copied r.names n most_names

    marked : get_or (set r.kinds (length fs) (kind_of o)) (length fs) 0 ≡ kind_of o
    marked = get_or-set_same r.kinds (length fs) (kind_of o) 0 (let k = sized.kinds in omega (arith, k, room))

    lower : (k : ℕ) → k ≤ length fs → (x : ℕ) → x < most_names
        → get_or (copied r.names (length fs) most_names) (most_names * length fs + x) 0 ≡ e x
    lower k h x l =
        copied_old r.names (length fs) most_names (most_names * length fs + x) (omega (arith, l)) ∙ f.names x l

    below : FramesAt (set r.kinds (length fs) (kind_of o)) (copied r.names (length fs) most_names) fs
    below =
        kept_frames (set r.kinds (length fs) (kind_of o)) r.names (copied r.names (length fs) most_names) fs
        (length fs) (omega arith)
        (λ i h. copied_old r.names (length fs) most_names i (omega (arith, h)))
        (kept_marks r.kinds r.names fs (length fs) (kind_of o) (omega arith) f.frames)

-- LOCK, where it does not wait
pub follows_lock :
    (z : Section) (x : ℕ) (c d : Code) (e : Env) (fs : List Frame) (r : Record) → Sized r → length fs < most_frames
    → FollowsAt z (lock x c d) e fs r
    → FollowsAt z c e (frame (held (e x)) e d ∷ fs) (entered_as r (e x) (r.at + 2))
follows_lock z x c d e fs r sized room f =
    let lies = f.stand.2 in
    let block = lies.3 in
    follows_open z (held (e x)) (lock x c d) c d e fs r (r.at + 2) sized room (f.small x lies.2) f
    (false, block.0, block.1, (refl, (f.stand.0, f.stand.1, block.2, f.stand.3)))

-- CHOICE, of the first alternative
pub follows_first :
    (z : Section) (a b g : Code) (e : Env) (fs : List Frame) (r : Record) → Sized r → length fs < most_frames
    → FollowsAt z (choice a b g) e fs r
    → FollowsAt z a e (frame alternative e g ∷ fs) (entered_as r most_locks (r.at + 1))
follows_first z a b g e fs r sized room f =
    let lies = f.stand.2 in
    follows_open z alternative (choice a b g) a g e fs r (r.at + 1) sized room tt f
    (true, link_at z r.at, lies.1, ((λ q. (b, lies.2)), (f.stand.0, f.stand.1, lies.3, f.stand.3)))

-- CHOICE, of the second alternative
pub follows_second :
    (z : Section) (a b g : Code) (e : Env) (fs : List Frame) (r : Record) → Sized r → length fs < most_frames
    → FollowsAt z (choice a b g) e fs r
    → FollowsAt z b e (frame alternative e g ∷ fs) (entered_as r most_locks (link_at z r.at))
follows_second z a b g e fs r sized room f =
    let lies = f.stand.2 in
    follows_open z alternative (choice a b g) b g e fs r (link_at z r.at) sized room tt f (
      false,
      link_at z (link_at z r.at - 1),
      lies.2,
      ((λ q. absurd (let y : ◌≡◌ {A = ℕ} 0 1 = cc in omega arith)), (f.stand.0, f.stand.1, lies.3, f.stand.3)),
    )

-- END or OTHER, of a frame
pub follows_close :
    (z : Section) (o : Open) (d : Code) (e g : Env) (fs : List Frame) (r : Record)
    → (f : FollowsAt z end e (frame o g d ∷ fs) r)
    → FollowsAt z d g fs (left_to r (target z r.goes f.stand.0 (r.at + 1) (length fs) o))
follows_close z o d e g fs r f =
    let lies = f.stand.2 in
    let rest = f.stand.3.1 in
    let deep = f.deep in
    let few = f.few in
    record {
      runs = f.runs;
      deep = omega (arith, deep);
      few = omega (arith, few);
      stand = (rest.0, rest.1, rw lies.1 at rest.2, rest.3);
      names = f.frames.1;
      frames = f.frames.2;
      small = f.all_small.1;
      all_small = f.all_small.2;
    }

-- END of the thread
pub follows_end : (z : Section) (e : Env) (r : Record) → FollowsAt z end e [] r → Follows z ended (finished_as r)
follows_end z e r f = refl

-- FORK, of the thread that goes on
pub follows_fork :
    (z : Section) (i : ℕ) (c d : Code) (e : Env) (fs : List Frame) (r : Record) → FollowsAt z (fork i c d) e fs r
    → FollowsAt z d e fs (moved_to r (link_at z r.at))
follows_fork z i c d e fs r f = record {
  runs = f.runs;
  deep = f.deep;
  few = f.few;
  stand = (f.stand.0, f.stand.1, f.stand.2.2, f.stand.3);
  names = f.names;
  frames = f.frames;
  small = f.small;
  all_small = f.all_small;
}
