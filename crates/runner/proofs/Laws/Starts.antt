-- The machine before the first byte is on the run: thread 0's record is to be written.
use Rattle.std.specs.Prelude.{◌≡◌, refl, Bool, true, false, cond, List, [], ℕ, ◌+◌, ◌*◌, ◌<◌, ◌≤◌, eqb, length, get_or, replicate}
use Rattle.std.proofs.Common.{sym, ◌∙◌, arith, ne_eqb}
use Rattle.std.proofs.lemmas.List.{get_or-replicate}
use Rattle.table.specs.Constants.{most_names}
use Rattle.table.specs.Program.{Program, Code, body}
use Rattle.run.specs.Run.{at, State, start}
use Rattle.schedule.specs.Limits.{most_locks}
use Rattle.schedule.specs.Schedule.{runs, run_from}
use Rattle.steps.specs.declared.thread.Thread.{Thread as Record}
use Rattle.steps.specs.Records.{taken, born_at}
use Rattle.steps.specs.Machines.{untaken, starting_as}
use Rattle.steps.specs.declared.machine.Want.TheVariants.{Free}
use Rattle.links.specs.Lies.{Section}
use Rattle.runner.specs.Parts.{unbegun_as}
use Rattle.runner.specs.Ticks.{Sized}
use Rattle.links.specs.Lies.{Lies}
use Rattle.runner.specs.Follows.{FollowsAt}
use Rattle.runner.specs.Tracks.{want_of, SmallWant, Tracks}
use Rattle.runner.proofs.Laws.Entries.{taken_new, taken_long}
use Rattle.runner.proofs.Laws.Settles.{births}
use Rattle.runner.proofs.Laws.Ticking.{On}
use Rattle.runner.proofs.Laws.Forks.{with_more, tracks_more}

-- no thread and no lock
abbrev pub nothing : State
nothing = record { threads = []; made = 0 }

pub nothing_tracked : (z : Section) (ts : List Record) → Tracks z nothing ts (unbegun_as (length ts))
nothing_tracked z ts = record {
  threads = refl;
  few = omega arith;
  lent = refl;
  room = omega arith;
  made = refl;
  few_locks = omega arith;
  follows = λ t h y. absurd (omega (arith, h));
  sized = λ t h y. absurd (omega (arith, h));
  held = λ u l h. sym (none l u h);
  wants = record { wanted = λ t h. absurd (omega (arith, h)); small = λ t. tt };
  locks_long = refl;
  wants_long = refl;
}
  where
    zeros : (b : Bool) → ◌≡◌ {A = ℕ} (cond b 0 0) 0
    zeros true = refl
    zeros false = refl

    none : (l u : ℕ) → l < most_locks
        → cond (eqb (get_or (replicate most_locks untaken) l untaken).owner u) (get_or (replicate most_locks untaken) l untaken).count 0 ≡ 0
    none l u h = rw (get_or-replicate most_locks l untaken untaken h) (zeros (eqb 0 u))

-- thread 0's record, once it is written
first_follows :
    (z : Section) (c : Code) (to : ℕ) (u : Record) → Lies z false 0 c to → Sized (born_at u 0 (replicate most_names 0))
    → FollowsAt z c (λ x. 0) [] (born_at u 0 (replicate most_names 0))
first_follows z c to u lies sized = record {
  runs = refl;
  deep = refl;
  few = omega arith;
  stand = (false, to, lies, refl);
  names = zeros;
  frames = tt;
  small = λ x h. omega arith;
  all_small = tt;
}
  where
    zeros : (x : ℕ) → x < most_names
        → get_or (taken u.names (replicate most_names 0) most_names) (most_names * 0 + x) 0 ≡ 0
    zeros x h =
        let i : most_names * 0 + x ≡ x = omega arith in
        let k = sized.names in
        let g = taken_long u.names (replicate most_names 0) most_names in
        rw i
        (taken_new u.names (replicate most_names 0) most_names x h (omega (arith, k, g))
        ∙ get_or-replicate most_names x 0 0 h)

-- the start of a run, where some record is lent and routine 0's body stands at offset 0 and begins with no LOCK
pub on_start :
    (P : Program) (z : Section) (ts : List Record) (to : ℕ) → 1 ≤ length ts → Lies z false 0 (body P 0) to
    → want_of (at (body P 0) (λ x. 0) []) ≡ Free → SmallWant (at (body P 0) (λ x. 0) [])
    → On P z (runs P (length ts) z.schedule) (start P) ts
    (starting_as (unbegun_as (length ts)) 0 (replicate most_names 0) Free)
unfolding with_more
on_start P z ts to some lies free small = (
  tracks_more z nothing ts (unbegun_as (length ts)) 0 (replicate most_names 0) Free (at (body P 0) (λ x. 0) [])
      (nothing_tracked z ts) refl (omega arith) some (sym free) small refl
      (λ u sized. first_follows z (body P 0) to u lies sized),
  births refl (omega arith) (whole (length ts) some),
)
  where
    whole : (n : ℕ) → 1 ≤ n → runs P n z.schedule ≡ run_from P n (start P) 0 z.schedule
    whole n h = rw (ne_eqb n 0 (λ q. omega (arith, q, h))) refl
