-- What the promises of the runner come to; each law uses them, so that none can be dropped.
use Rattle.std.specs.Prelude.{◌≡◌, refl, ◌≢◌, cond, List, [], ◌∷◌, map, ℕ, zero, suc, ◌+◌, ◌*◌, ◌-◌, ◌<◌, ◌≤◌, ltb}
use Rattle.std.specs.Prelude.{length, get_or, take, drop, replicate, Ok}
use Rattle.std.proofs.Common.{sym, ◌∙◌, ap, subst, inl, inr, arith, lt-ltb}
use Rattle.table.specs.Constants.{Op, END, NEW, LOCK, FORK, CHOICE, OTHER, CALL, MIRROR, code, most_names}
use Rattle.table.specs.Program.{Code, end, new, lock, fork, choice, call, mirror, Program}
use Rattle.table.specs.WellFormed.{In}
use Rattle.table.specs.Encoding.{encode_bodies}
use Rattle.table.specs.Check.{Outcome, refused, accepted}
use Rattle.rules.specs.Verdict.{Clear}
use Rattle.run.specs.Run.{Env, Open, State, Thread, ended, at, Frame, frame, held, alternative, called, locks, holds}
use Rattle.run.specs.Run.{thread, start, run}
use Rattle.schedule.specs.Limits.{most_locks, most_threads}
use Rattle.schedule.specs.Schedule.{turn_of, runs}
use Rattle.schedule.proofs.Laws.Stops.{stops}
use Rattle.steps.specs.declared.thread.Thread.{Thread as Record}
use Rattle.steps.specs.Shown.{blank, Stands, GoesOn, FramesAt, Shows}
use Rattle.steps.specs.Records.{lock_of}
use Rattle.links.specs.Laws.Bytes.{drop_here}
use Rattle.runner.specs.declared.Desk.{Desk}
use Rattle.runner.specs.declared.Extent.{Extent}
use Rattle.runner.specs.declared.Report.{Report}
use Rattle.steps.specs.declared.machine.Ending.TheVariants.{Stuck}
use Rattle.runner.specs.Desk.{fresh, lent_of, RunsFresh}
use Rattle.runner.specs.Answer.{Ran, report_of, Runs, Reports}

-- a table, a schedule and records have one answer
pub one_answer : (o : Outcome) (bs : List ℕ) (before after after' : List Record) (r r' : Ran)
    → Runs o bs before after r → Runs o bs before after' r' → r ≡ r'
one_answer (refused e) bs before after after' r r' p q = p.0 ∙ sym q.0
one_answer (accepted P) bs before after after' r r' p q = p.answer ∙ sym q.answer

-- and one report
pub one_report : (o : Outcome) (bs : List ℕ) (before after after' : List Record) (r r' : Report)
    → Reports o bs before after r → Reports o bs before after' r' → r ≡ r'
one_report o bs before after after' r r' p q =
    p.is ∙ ap report_of (one_answer o bs before after after' p.ran q.ran p.runs q.runs) ∙ sym q.is

-- a refusal by the check leaves every record
pub refused_keeps : (e : ℕ) (bs : List ℕ) (before after : List Record) (r : Ran) → Runs (refused e) bs before after r
    → after ≡ before
refused_keeps e bs before after r p = p.2

module _ (P : Program) (bs : List ℕ) (before after : List Record) (r : Ran)
    (p : Runs (accepted P) bs before after r) where
  -- a clear program is never answered stuck
  pub clear_goes_on : Clear P → (x : Extent) → r ≢ Ok (record { ending = Stuck; extent = x })
  clear_goes_on = p.not_stuck

  -- the record of a thread that was not started is as it was
  pub unstarted_kept : (t : ℕ) → length (runs P (length before) bs).state.threads ≤ t
      → get_or after t blank ≡ get_or before t blank
  unstarted_kept = p.records.kept

  -- no record comes or goes
  pub as_many_after : length after ≡ length before
  as_many_after = p.records.as_many

  -- a record shows its thread as document 01's run has it after the turns of the bytes read
  pub shows_run : 1 ≤ length before → (t : ℕ) → t < length (runs P (length before) bs).state.threads
      → Shows (encode_bodies P) (thread (run P (start P) (map turn_of (take (runs P (length before) bs).read bs))) t)
      (get_or after t blank)
  shows_run l t h =
      let q = stops P (length before) bs l in
      let k : q.k ≡ (runs P (length before) bs).read = let c = q.counted in omega (arith, c) in
      let e : (runs P (length before) bs).state
      ≡ run P (start P) (map turn_of (take (runs P (length before) bs).read bs)) =
      q.state_is ∙ ap (λ (n : ℕ). run P (start P) (map turn_of (take n bs))) k in
      subst (λ (s : State). Shows (encode_bodies P) (thread s t) (get_or after t blank)) e (p.records.shown t h)

-- the locks that a record says are held, the last taken first: the marks of its open frames that are locks
abbrev pub held_in : List ℕ → ℕ → List ℕ
held_in kinds zero = []
held_in kinds (suc d) = cond (ltb (get_or kinds d 0) most_locks) (get_or kinds d 0 ∷ held_in kinds d) (held_in kinds d)

told_frames : (kinds names : List ℕ) (fs : List Frame) → FramesAt kinds names fs
    → ((l : ℕ) → In l (locks fs) → l < most_locks) → held_in kinds (length fs) ≡ locks fs
told_frames kinds names [] f low = refl
told_frames kinds names (frame (held l) e c ∷ fs) f low =
    let h = low l (inl refl) in
    let k = f.0 in
    rw (k, lt-ltb l most_locks h)
    (ap (λ (v : List ℕ). l ∷ v) (told_frames kinds names fs f.2 (λ x i. low x (inr i))))
told_frames kinds names (frame alternative e c ∷ fs) f low =
    let k = f.0 in rw k (told_frames kinds names fs f.2 low)
told_frames kinds names (frame called e c ∷ fs) f low =
    let k = f.0 in rw k (told_frames kinds names fs f.2 low)

-- a record that shows a thread tells which locks it holds
pub holds_told : (s : List ℕ) (x : Thread) (r : Record) → Shows s x r
    → cond r.ended [] (held_in r.kinds r.depth) ≡ holds x
holds_told s ended r e = rw e refl
holds_told s (at c e fs) r f =
    rw (f.runs, f.deep) (told_frames r.kinds r.names fs f.frames f.locks_low)

-- the code of the first item of a code that an item of the kind z closes
abbrev pub head_of : Op → Code → ℕ
head_of z end = code z
head_of z (new x c) = code NEW
head_of z (lock x c d) = code LOCK
head_of z (fork i c d) = code FORK
head_of z (choice a b c) = code CHOICE
head_of z (call r xs c) = code CALL
head_of z (mirror x y c) = code MIRROR

-- where a code stands, there is the code of its first item
stands_head : (s : List ℕ) (z : Op) (from : ℕ) (c : Code) (to : ℕ) → Stands s z from c to → get_or s from 0 ≡ head_of z c
stands_head s z from end to h = drop_here s from (code z) _ h
stands_head s z from (new x c) to h = drop_here s from (code NEW) _ h
stands_head s z from (lock x c d) to h = drop_here s from (code LOCK) _ h
stands_head s z from (fork i c d) to h = drop_here s from (code FORK) _ h
stands_head s z from (choice a b c) to h = drop_here s from (code CHOICE) _ h
stands_head s z from (call r xs c) to h = drop_here s from (code CALL) _ h
stands_head s z from (mirror x y c) to h = drop_here s from (code MIRROR) _ h

-- what a record goes on with is the thread's next code
next_stands : (s goes : List ℕ) (from : ℕ) (c : Code) (fs : List Frame) → GoesOn s goes from c fs
    → (z : Op) × (get_or s from 0 ≡ head_of z c)
next_stands s goes from c [] g = (END, stands_head s END from c g.0 g.1)
next_stands s goes from c (frame (held l) e d ∷ fs) g = (END, stands_head s END from c g.0 g.1)
next_stands s goes from c (frame alternative e d ∷ fs) (inl g) = (END, stands_head s END from c g.0 g.1)
next_stands s goes from c (frame alternative e d ∷ fs) (inr g) = (OTHER, stands_head s OTHER from c g.0 g.3)
next_stands s goes from c (frame called e d ∷ fs) g = (END, stands_head s END from c g.0.0 g.0.1)

module _ (s : List ℕ) (c : Code) (e : Env) (fs : List Frame) (r : Record) (f : Shows s (at c e fs) r) where
  -- a record that shows a thread tells its next item
  pub next_told : (z : Op) × (get_or s r.at 0 ≡ head_of z c)
  next_told = next_stands s r.goes r.at c fs f.goes_on

  -- and the lock of each name
  pub names_told : (x : ℕ) → x < most_names → lock_of r x ≡ e x
  names_told x h = rw f.deep (f.names x h)

-- and of each name that it will go on with
pub frame_names_told : (s : List ℕ) (c d : Code) (e g : Env) (o : Open) (fs : List Frame) (r : Record)
    → Shows s (at c e (frame o g d ∷ fs)) r → (x : ℕ) → x < most_names
    → get_or r.names (most_names * length fs + x) 0 ≡ g x
frame_names_told s c d e g o fs r f x h = f.frames.1 x h

-- a desk keeps its records, and those that were not lent are as they were
pub desk_keeps : (o : Outcome) (bs : List ℕ) (n : ℕ) (d : Desk) → RunsFresh o bs n d
    → (length d.records ≡ most_threads) × (drop (lent_of n) d.records ≡ replicate (most_threads - lent_of n) fresh)
desk_keeps o bs n d p = (p.long, p.rest)
