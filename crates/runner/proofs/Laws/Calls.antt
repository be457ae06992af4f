-- A CALL and a FORK's new thread keep the record following its thread.
use Rattle.std.specs.Prelude.{◌≡◌, refl, Bool, false, List, [], ◌∷◌, ℕ, zero, suc, ◌+◌, ◌*◌, ◌-◌, ◌<◌, ◌≤◌, length, get_or, set}
use Rattle.std.proofs.Common.{sym, ◌∙◌, subst, arith, length-set, get_or-set_same, get_or-set_other, lt-ltb, le-ltb}
use Rattle.std.proofs.Math.Decide.{dec_lt}
use Rattle.std.proofs.Math.ListN.{get_or-eq_default}
use Rattle.table.specs.Constants.{most_names}
use Rattle.table.specs.Program.{Code, fork, call}
use Rattle.run.specs.Run.{Env, pass, held, alternative, called, Frame, frame}
use Rattle.schedule.specs.Limits.{most_locks, most_frames, all_names}
use Rattle.steps.specs.declared.thread.Thread.{Thread as Record}
use Rattle.steps.specs.Records.{name_at, passed, taken, level, called_as, born_at}
use Rattle.steps.specs.Shown.{NamesAt, FramesAt}
use Rattle.links.specs.Lies.{Section}
use Rattle.runner.specs.Ticks.{Sized}
use Rattle.links.specs.Lies.{link_at, IsAt, Lies}
use Rattle.runner.specs.Follows.{Rest, FollowsAt}
use Rattle.runner.proofs.Laws.Entries.{kept_frames, kept_marks, passed_old, passed_new, taken_new}
use Rattle.runner.proofs.Laws.Entries.{taken_long, level_new}

-- what is kept for calls may change where no frame looks
pub rest_kept :
    (z : Section) (gs hs : List ℕ) (first : Bool) (to : ℕ) (fs : List Frame)
    → ((i : ℕ) → i < length fs → get_or hs i 0 ≡ get_or gs i 0) → Rest z gs first to fs → Rest z hs first to fs
rest_kept z gs hs first to [] same r = r
rest_kept z gs hs first to (frame (held l) e d ∷ fs) same r = (
  r.0,
  (
    r.1.0,
    r.1.1,
    r.1.2,
    rest_kept z gs hs r.1.0 r.1.1 fs (λ i h. same i (omega (arith, h))) r.1.3,
  ),
)
rest_kept z gs hs first to (frame alternative e d ∷ fs) same r = (
  r.0,
  (
    r.1.0,
    r.1.1,
    r.1.2,
    rest_kept z gs hs r.1.0 r.1.1 fs (λ i h. same i (omega (arith, h))) r.1.3,
  ),
)
rest_kept z gs hs first to (frame called e d ∷ fs) same r =
    let at : get_or hs (length fs) 0 ≡ get_or gs (length fs) 0 = same (length fs) (omega arith) in (
      r.0,
      (
        r.1.0,
        r.1.1,
        rw at r.1.2,
        rest_kept z gs hs r.1.0 r.1.1 fs (λ i h. same i (omega (arith, h))) r.1.3,
      ),
    )

-- the bytes of a CALL are its names, and past them there is name 0
pub name_is :
    (z : Section) (xs : List ℕ) (from : ℕ)
    → ((j : ℕ) → j < length xs → IsAt z (from + j) (get_or xs j 0) × (get_or xs j 0 < most_names))
    → (j : ℕ) → name_at z.bytes from (length xs) j ≡ get_or xs j 0
name_is z xs from names j = by (dec_lt j (length xs))
  where
    by : Dec (j < length xs) → name_at z.bytes from (length xs) j ≡ get_or xs j 0
    by (yes h) = rw (lt-ltb j (length xs) h) (names j h).0.1
    by (no n) =
        let h : length xs ≤ j = omega (arith, n) in
        rw (le-ltb j (length xs) h) (sym (get_or-eq_default xs 0 h))

pub name_small :
    (z : Section) (xs : List ℕ) (from : ℕ)
    → ((j : ℕ) → j < length xs → IsAt z (from + j) (get_or xs j 0) × (get_or xs j 0 < most_names))
    → (j : ℕ) → get_or xs j 0 < most_names
name_small z xs from names j = by (dec_lt j (length xs))
  where
    by : Dec (j < length xs) → get_or xs j 0 < most_names
    by (yes h) = (names j h).1
    by (no n) =
        let h : length xs ≤ j = omega (arith, n) in
        let e : get_or xs j 0 ≡ 0 = get_or-eq_default xs 0 h in
        rw e (omega arith)

-- the names of the routine that is called
pub passed_names :
    (z : Section) (ns : List ℕ) (d : ℕ) (e : Env) (xs : List ℕ) (from : ℕ) → d < most_frames → length ns ≡ all_names
    → ((j : ℕ) → j < length xs → IsAt z (from + j) (get_or xs j 0) × (get_or xs j 0 < most_names)) → NamesAt ns d e
    → NamesAt (passed (set ns (most_names * d + most_names) 0) d z.bytes from (length xs) (most_names - 1)) (suc d)
    (pass xs e)
passed_names z ns d e xs from deep long names at zero h =
    let i : most_names * suc d + 0 ≡ most_names * d + most_names = omega arith in
    rw i
    (passed_old (set ns (most_names * d + most_names) 0) d z.bytes from (length xs) (most_names - 1)
    (most_names * d + most_names) (omega arith)
    ∙ get_or-set_same ns (most_names * d + most_names) 0 0 (omega (arith, deep, long)))
passed_names z ns d e xs from deep long names at (suc y) h =
    let i : most_names * suc d + suc y ≡ most_names * d + most_names + 1 + y = omega arith in
    let g = name_is z xs from names in
    let k = name_small z xs from names in
    let l = length_set' in
    rw i
    (passed_new (set ns (most_names * d + most_names) 0) d z.bytes from (length xs) (most_names - 1) y
    (omega (arith, h)) (omega (arith, deep, long, l)) (λ j. rw (g j) (k j))
    ∙ rw (g y)
    (get_or-set_other ns (most_names * d + most_names) (most_names * d + get_or xs y 0) 0 0
    (λ q. let m = k y in omega (arith, q, m))
    ∙ at (get_or xs y 0) (k y)))
  where
    length_set' : length (set ns (most_names * d + most_names) 0) ≡ length ns
    length_set' = length-set ns (most_names * d + most_names) 0

-- CALL, where the body of the routine stands at its head
pub follows_call :
    (z : Section) (r : ℕ) (xs : List ℕ) (c b : Code) (e : Env) (fs : List Frame) (t : Record) (head to : ℕ) → Sized t
    → length fs < most_frames → Lies z false head b to → FollowsAt z (call r xs c) e fs t
    → FollowsAt z b (pass xs e) (frame called e c ∷ fs) (called_as t z.bytes (t.at + 2) (length xs) head)
follows_call z r xs c b e fs t head to sized room body f =
    let deep = f.deep in
    let lies = f.stand.2 in
    record {
      runs = f.runs;
      deep = omega (arith, deep);
      few = room;
      stand = (
        false,
        to,
        body,
        (
          refl,
          (
            f.stand.0,
            f.stand.1,
            rw (kept_goes) lies.6,
            rest_kept z t.goes (set t.goes t.depth (t.at + 2 + length xs)) f.stand.0 f.stand.1 fs
                (λ i h. get_or-set_other t.goes t.depth i (t.at + 2 + length xs) 0
                (λ q. omega (arith, q, h, deep))) f.stand.3,
          ),
        ),
      );
      names = rw deep (passed_names z t.names (length fs) e xs (t.at + 2) room sized.names lies.5 f.names);
      frames = (
        rw deep marked,
        rw deep lower,
        subst (λ (k : ℕ). FramesAt (set t.kinds k (most_locks + 1))
            (passed (set t.names (most_names * k + most_names) 0) k z.bytes (t.at + 2) (length xs) (most_names - 1)) fs)
            (sym f.deep) below,
      );
      small = passing lies.5;
      all_small = (tt, f.small, f.all_small);
    }
  where
    made : List ℕ
    made =
        passed (set t.names (most_names * length fs + most_names) 0) (length fs) z.bytes (t.at + 2) (length xs)
        (most_names - 1)

    kept_goes : get_or (set t.goes t.depth (t.at + 2 + length xs)) (length fs) 0 ≡ t.at + 2 + length xs
    kept_goes =
        rw f.deep
        (get_or-set_same t.goes (length fs) (t.at + 2 + length xs) 0 (let g = sized.goes in omega (arith, g, room)))

    marked : get_or (set t.kinds (length fs) (most_locks + 1)) (length fs) 0 ≡ most_locks + 1
    marked = get_or-set_same t.kinds (length fs) (most_locks + 1) 0 (let g = sized.kinds in omega (arith, g, room))

    old : (i : ℕ) → i < most_names * length fs + most_names → get_or made i 0 ≡ get_or t.names i 0
    old i h =
        passed_old (set t.names (most_names * length fs + most_names) 0) (length fs) z.bytes (t.at + 2)
        (length xs) (most_names - 1) i (omega (arith, h))
        ∙ get_or-set_other t.names (most_names * length fs + most_names) i 0 0 (λ q. omega (arith, q, h))

    lower : (x : ℕ) → x < most_names → get_or made (most_names * length fs + x) 0 ≡ e x
    lower x h = old (most_names * length fs + x) (omega (arith, h)) ∙ f.names x h

    below : FramesAt (set t.kinds (length fs) (most_locks + 1)) made fs
    below =
        kept_frames (set t.kinds (length fs) (most_locks + 1)) t.names made fs (length fs) (omega arith)
        (λ i h. old i (omega (arith, h)))
        (kept_marks t.kinds t.names fs (length fs) (most_locks + 1) (omega arith) f.frames)

    passing : ((j : ℕ) → j < length xs → IsAt z (t.at + 2 + j) (get_or xs j 0) × (get_or xs j 0 < most_names))
        → (x : ℕ) → x < most_names → pass xs e x < most_locks
    passing names zero h = omega arith
    passing names (suc y) h = f.small (get_or xs y 0) (name_small z xs (t.at + 2) names y)

-- FORK, of the new thread: its record is written over any other
pub follows_born :
    (z : Section) (i : ℕ) (c d : Code) (e : Env) (fs : List Frame) (t u : Record)
    → Sized (born_at u (t.at + 1) (level t.names t.depth most_names)) → FollowsAt z (fork i c d) e fs t
    → FollowsAt z c e [] (born_at u (t.at + 1) (level t.names t.depth most_names))
follows_born z i c d e fs t u sized f = record {
  runs = refl;
  deep = refl;
  few = omega arith;
  stand = (false, link_at z t.at, f.stand.2.1, refl);
  names = named;
  frames = tt;
  small = f.small;
  all_small = tt;
}
  where
    lv : List ℕ
    lv = level t.names t.depth most_names

    named : (x : ℕ) → x < most_names → get_or (taken u.names lv most_names) (most_names * 0 + x) 0 ≡ e x
    named x h =
        let i : most_names * 0 + x ≡ x = omega arith in
        let k = sized.names in
        let g = taken_long u.names lv most_names in
        rw i
        (taken_new u.names lv most_names x h (omega (arith, k, g))
        ∙ level_new t.names t.depth most_names x h (omega arith) ∙ rw f.deep (f.names x h))
