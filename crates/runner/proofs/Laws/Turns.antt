-- Each item, taken by a tick, keeps the machine and the records on the run.
use Rattle.std.specs.Prelude.{◌≡◌, Bool, true, false, cond, ◌≢◌, eqb, ltb, length, get_or, drop, set}
use Rattle.std.proofs.Math.Path.{refl, ap, subst}
use Rattle.std.proofs.Common.{sym, ◌∙◌, length-set, eq-eqb, ne_eqb, le-leb, leb-false}
use mathlib.Core.List.{List, [], ◌∷◌}
use Prim.Native.Nat.{ℕ, zero, suc, ◌+◌, ◌*◌, ◌-◌, ◌%◌, ◌<◌, ◌≤◌}
use native.Mathlib.Omega.{arith}
use Rattle.std.proofs.Math.Decide.{dec_lt, ℕ_discrete}
use Rattle.std.proofs.lemmas.Bool.{lt-leb}
use Rattle.runner.proofs.Laws.Items.{follows_mirror}
use Rattle.steps.specs.Steps.{mirror_as, operand_of}
use Rattle.table.specs.Constants.{END, NEW, LOCK, CHOICE, OTHER, CALL, MIRROR, code, most_names}
use Rattle.table.specs.WellFormed.{In}
use Rattle.table.specs.Program.{Program, Code, end, new, lock, choice, call, mirror, body}
use Rattle.rules.specs.Model.{bind}
use Rattle.run.specs.Run.{Env, Open, held, alternative, called, Frame, frame, Thread, ended, at, State, thread, holds}
use Rattle.run.specs.Run.{Side, first, second, step, turn, taken?, locks, pass}
use Rattle.schedule.specs.Limits.{most_threads, most_locks, most_frames, second_side}
use Rattle.schedule.specs.Schedule.{turn_of, full?, beyond?, beyond, Result, stop, run_from}
use Rattle.steps.specs.declared.thread.Thread.{Thread as Record}
use Rattle.steps.specs.Records.{lock_of, born_at, finished_as, left_to, bound_to, entered_as, called_as}
use Rattle.steps.specs.Shown.{blank, kind_of}
use Rattle.steps.specs.declared.machine.Machine.{Machine}
use Rattle.steps.specs.Machines.{is_born, held_elsewhere, taken_by, given_back, made_one, wants_as, counted_as, full_at, settled_as}
use Rattle.steps.specs.Steps.{top_of, close_as, pair, beyond_as, idle_as, done_as, new_as, lock_as, choice_as, side_of, call_as}
use Rattle.steps.specs.Steps.{item_by, item_as, step_as}
use Rattle.steps.specs.declared.machine.Stage.TheVariants.{Turn}
use Rattle.steps.specs.Steps.{Ticked}
use Rattle.steps.specs.declared.machine.Want.TheVariants.{Gone}
use Rattle.links.specs.Lies.{Section}
use Rattle.runner.specs.Ticks.{Sized, looked, tick_as, records_after, machine_after}
use Rattle.links.specs.Lies.{byte_at, link_at, closer, Lies}
use Rattle.runner.specs.Follows.{FollowsAt, Follows}
use Rattle.runner.specs.Tracks.{occurs, Tracks}
use Rattle.runner.proofs.Laws.Entries.{copied_long, passed_long}
use Rattle.runner.proofs.Laws.Items.{same_lock, follows_new, follows_lock, follows_first, follows_second}
use Rattle.runner.proofs.Laws.Items.{follows_close}
use Rattle.runner.proofs.Laws.Outlooks.{occurs_in, held_is}
use Rattle.runner.proofs.Laws.Calls.{follows_call}
use Rattle.runner.proofs.Laws.States.{not_both, with_thread, written_as, held_same, held_taken, held_given, tracks_step}
use Rattle.runner.proofs.Laws.Settles.{Next, Due, drop_step, run_turn, run_beyond, settles}
use Rattle.runner.proofs.Laws.Ticking.{On, tick_idle, tick_beyond, tick_done}

-- a byte is to be taken by a thread that is x
pub record Taking (P : Program) (z : Section) (R : Result) (s : State) (ts : List Record) (m : Machine)
    (x : Thread) : Type 0 where
  pub tracks : Tracks z s ts m
  pub stage : m.stage ≡ Turn
  pub next : Next P z R s m
  pub due : Due z s m
  pub is : thread s m.pick ≡ x

-- the branch that a test takes
pub first_of : {A : Type 0} (p : Bool) (x y : A) → p ≡ true → cond p x y ≡ x
first_of p x y h = rw h refl

pub second_of : {A : Type 0} (p : Bool) (x y : A) → p ≡ false → cond p x y ≡ y
second_of p x y h = rw h refl

-- the alternative that the byte names
abbrev pub side_at : Section → Machine → Side
side_at z m = (turn_of (get_or z.schedule m.read 0)).1

-- the arrays of a record in which a name is bound
bound_sized : (r : Record) (x l to : ℕ) → Sized r → Sized (bound_to r x l to)
bound_sized r x l to sz = record {
  kinds = sz.kinds;
  goes = sz.goes;
  names = length-set r.names (most_names * r.depth + x) l ∙ sz.names;
}

module _ (P : Program) (z : Section) (R : Result) (s : State) (ts : List Record) (m : Machine) where
  abbrev b : ℕ
  b = get_or z.schedule m.read 0

  abbrev rest : List ℕ
  rest = drop (suc m.read) z.schedule

  -- the run takes the byte
  here : (x : Thread) → Taking P z R s ts m x → R ≡ run_from P m.lent s m.read (b ∷ rest)
  here x k = k.next ∙ ap (run_from P m.lent s m.read) (drop_step z.schedule m.read k.due.inside)

  -- and steps
  pub stepped :
      (x : Thread) → Taking P z R s ts m x → beyond? m.lent s m.pick x ≡ false
      → R ≡ run_from P m.lent (step P s m.pick (side_at z m) x) (suc m.read) rest
  stepped x k nn =
      let p = k.due.picks in
      let i = k.is in
      here x k
      ∙ run_turn P m.lent s m.read b rest k.due.some (rw p at k.due.started)
      (subst (λ (y : Thread). beyond? m.lent s (b % most_threads) y ≡ false) (sym i ∙ ap (thread s) p)
      (subst (λ (t : ℕ). beyond? m.lent s t x ≡ false) p nn))
      ∙ ap (λ (q : State). run_from P m.lent q (suc m.read) rest) turned
    where
      turned : turn P s (turn_of b) ≡ step P s m.pick (side_at z m) x
      turned =
          subst (λ (t : ℕ). step P s t (side_at z m) (thread s t) ≡ step P s m.pick (side_at z m) x) k.due.picks
          (ap (step P s m.pick (side_at z m)) k.is)

  -- or is beyond a limit
  pub past_limit :
      (x : Thread) → Taking P z R s ts m x → beyond? m.lent s m.pick x ≡ true → R ≡ stop beyond m.read s
  past_limit x k yy =
      let p = k.due.picks in
      here x k
      ∙ run_beyond P m.lent s m.read b rest k.due.some (rw p at k.due.started)
      (subst (λ (y : Thread). beyond? m.lent s (b % most_threads) y ≡ true) (sym k.is ∙ ap (thread s) p)
      (subst (λ (t : ℕ). beyond? m.lent s t x ≡ true) p yy))

  -- the record that is looked at follows the thread
  pub followed : (x : Thread) → Taking P z R s ts m x → Follows z x (looked ts m)
  followed x k =
      let w = written_as ts m (ap is_born k.stage) in
      subst (λ (y : Thread). Follows z y (looked ts m)) k.is
      (subst (λ (us : List Record). Follows z (thread s m.pick) (get_or us m.pick blank)) w
      (k.tracks.follows m.pick k.due.started
      (k.tracks.sized m.pick k.due.started (λ q. absurd (not_both m.stage (ap is_born k.stage) q)))))

  pub size_of : (x : Thread) → Taking P z R s ts m x → Sized (looked ts m)
  size_of x k =
      let w = written_as ts m (ap is_born k.stage) in
      subst (λ (us : List Record). Sized (get_or us m.pick blank)) w
      (k.tracks.sized m.pick k.due.started (λ q. absurd (not_both m.stage (ap is_born k.stage) q)))

  -- the tick takes the item at the record's offset
  pub tick_item :
      (x : Thread) → Taking P z R s ts m x → (looked ts m).ended ≡ false → (c : ℕ) → byte_at z (looked ts m).at ≡ c
      → tick_as z (looked ts m) m ≡ item_by z.counts z.bytes z.heads z.links z.schedule (looked ts m) m c
  unfolding step_as
  tick_item x k runs c e =
      let t = looked ts m in
      let i = item_as z.counts z.bytes z.heads z.links z.schedule t m in
      second_of (is_born m.stage) (pair (born_at t m.head m.born) (settled_as m z.schedule))
      (cond t.ended (idle_as z.schedule t m) i)
      (ap is_born k.stage)
      ∙ second_of t.ended (idle_as z.schedule t m) i runs
      ∙ ap (item_by z.counts z.bytes z.heads z.links z.schedule t m) e

  -- a thread that has ended
  pub tick_ended : Taking P z R s ts m ended → On P z R s (records_after z ts m) (machine_after z ts m)
  unfolding step_as step beyond?
  tick_ended k =
      tick_idle P z R s ts m k.tracks k.stage (stepped ended k refl)
      (let t = looked ts m in
      let i = item_as z.counts z.bytes z.heads z.links z.schedule t m in
      second_of (is_born m.stage) (pair (born_at t m.head m.born) (settled_as m z.schedule))
      (cond t.ended (idle_as z.schedule t m) i)
      (ap is_born k.stage)
      ∙ first_of t.ended (idle_as z.schedule t m) i (followed ended k))

  -- NEW
  pub tick_new :
      (x : ℕ) (c : Code) (e : Env) (fs : List Frame) → Taking P z R s ts m (at (new x c) e fs)
      → (q : State) × On P z R q (records_after z ts m) (machine_after z ts m)
  unfolding step beyond? with_thread
  tick_new x c e fs k = by (dec_lt s.made most_locks)
    where
      t : Record
      t = looked ts m

      f : FollowsAt z (new x c) e fs (looked ts m)
      f = followed (at (new x c) e fs) k

      item : tick_as z (looked ts m) m ≡ new_as z.bytes z.schedule x (looked ts m) m
      item =
          tick_item (at (new x c) e fs) k f.runs (code NEW) f.stand.2.0.1
          ∙ ap (λ (y : ℕ). new_as z.bytes z.schedule y (looked ts m) m) f.stand.2.1

      by : Dec (s.made < most_locks) → (q : State) × On P z R q (records_after z ts m) (machine_after z ts m)
      by (yes h) =
          let mm = k.tracks.made in (
            with_thread s m.pick (at c (bind x s.made e) fs) (suc s.made),
            tick_done P z R s ts m (made_one m) c (bind x s.made e) fs
                (bound_to (looked ts m) x s.made ((looked ts m).at + 1)) (suc s.made) k.tracks k.stage
                k.due.started (follows_new z x s.made c e fs (looked ts m) (size_of (at (new x c) e fs) k) h f)
                long h refl refl refl refl refl (omega (arith, mm)) refl
                (held_same s m m.pick (suc s.made) (at c (bind x s.made e) fs) k.due.started
                (λ l. ap (λ (y : Thread). occurs l (holds y)) (sym k.is)) k.tracks.held)
                k.tracks.locks_long
                (stepped (at (new x c) e fs) k (lt-leb most_locks s.made h))
                (item ∙ rw (mm, lt-leb most_locks s.made h) refl),
          )
        where
          long : Sized (bound_to (looked ts m) x s.made ((looked ts m).at + 1))
          long = bound_sized (looked ts m) x s.made ((looked ts m).at + 1) (size_of (at (new x c) e fs) k)
      by (no n) =
          let mm = k.tracks.made in
          let h : most_locks ≤ s.made = omega (arith, n) in (
            s,
            tick_beyond P z R s ts m k.tracks k.stage
                (past_limit (at (new x c) e fs) k (le-leb most_locks s.made h))
                (item ∙ rw (mm, le-leb most_locks s.made h) refl),
          )

-- whether thread t may open nothing further, by the record and by the frames
full_is : (t depth : ℕ) (fs : List Frame) → depth ≡ length fs → full_at t depth ≡ full? t fs
full_is zero depth fs e = rw e refl
full_is (suc t) depth fs e =
    let n : suc t ≡ 0 → ⊥ = λ q. omega (arith, q) in
    let h : depth + 1 ≡ suc (length fs) = omega (arith, e) in
    rw (ne_eqb (suc t) 0 n, h) refl

-- where there is room, a frame fits
fits : (t : ℕ) (fs : List Frame) → full? t fs ≡ false → length fs < most_frames
fits zero fs e = leb-false most_frames (length fs) e
fits (suc t) fs e = let h = leb-false most_frames (suc (length fs)) e in omega (arith, h)

-- the arrays keep their lengths
entered_sized : (t : Record) (kind from : ℕ) → Sized t → Sized (entered_as t kind from)
entered_sized t kind from z = record {
  kinds = length-set t.kinds t.depth kind ∙ z.kinds;
  goes = z.goes;
  names = copied_long t.names t.depth most_names ∙ z.names;
}

called_sized : (t : Record) (bytes : List ℕ) (from k head : ℕ) → Sized t → Sized (called_as t bytes from k head)
called_sized t bytes from k head z = record {
  kinds = length-set t.kinds t.depth (most_locks + 1) ∙ z.kinds;
  goes = length-set t.goes t.depth (from + k) ∙ z.goes;
  names =
      passed_long (set t.names (most_names * t.depth + most_names) 0) t.depth bytes from k (most_names - 1)
      ∙ length-set t.names (most_names * t.depth + most_names) 0 ∙ z.names;
}

module _ (P : Program) (z : Section) (R : Result) (s : State) (ts : List Record) (m : Machine) where
  -- LOCK
  pub tick_lock :
      (x : ℕ) (c d : Code) (e : Env) (fs : List Frame) → Taking P z R s ts m (at (lock x c d) e fs)
      → (q : State) × On P z R q (records_after z ts m) (machine_after z ts m)
  unfolding step beyond? with_thread
  tick_lock x c d e fs k =
      by (taken? s m.pick (e x)) (held_is s m m.pick (e x) k.tracks.held small)
      (stepped P z R s ts m (at (lock x c d) e fs) k) (past_limit P z R s ts m (at (lock x c d) e fs) k)
    where
      y : Thread
      y = at (lock x c d) e fs

      f : FollowsAt z (lock x c d) e fs (looked ts m)
      f = followed P z R s ts m (at (lock x c d) e fs) k

      sz : Sized (looked ts m)
      sz = size_of P z R s ts m (at (lock x c d) e fs) k

      small : e x < most_locks
      small = f.small x f.stand.2.2

      item : tick_as z (looked ts m) m ≡ lock_as z.bytes z.schedule (e x) (looked ts m) m
      item =
          tick_item P z R s ts m (at (lock x c d) e fs) k f.runs (code LOCK) f.stand.2.0.1
          ∙ ap (λ (v : ℕ). lock_as z.bytes z.schedule (lock_of (looked ts m) v) (looked ts m) m) f.stand.2.1.1
          ∙ ap (λ (l : ℕ). lock_as z.bytes z.schedule l (looked ts m) m)
          (same_lock z (lock x c d) e fs (looked ts m) x f f.stand.2.2)

      next : Thread
      next = at c e (frame (held (e x)) e d ∷ fs)

      by : (q : Dec ((u : ℕ) × ((u ≢ m.pick) × In (e x) (holds (thread s u)))))
          → ◌≡◌ {A = Bool} (elim q [ yes h ↦ true | no n ↦ false ]) (held_elsewhere m m.pick (e x))
          → (◌≡◌ {A = Bool} (elim q [ yes h ↦ false | no n ↦ full? m.pick fs ]) false
          → R ≡ run_from P m.lent
          (elim q [ yes h ↦ s | no n ↦ with_thread s m.pick (at c e (frame (held (e x)) e d ∷ fs)) s.made ])
          (suc m.read) (drop (suc m.read) z.schedule))
          → (◌≡◌ {A = Bool} (elim q [ yes h ↦ false | no n ↦ full? m.pick fs ]) true → R ≡ stop beyond m.read s)
          → (q : State) × On P z R q (records_after z ts m) (machine_after z ts m)
      by (yes h) w on off = (
        s,
        tick_idle P z R s ts m k.tracks k.stage (on refl)
            (item ∙ first_of (held_elsewhere m m.pick (e x)) (idle_as z.schedule (looked ts m) m) _ (sym w)),
      )
      by (no n) w on off = room (full? m.pick fs) refl on off
        where
          full : full_at m.pick (looked ts m).depth ≡ full? m.pick fs
          full = full_is m.pick (looked ts m).depth fs f.deep

          free : tick_as z (looked ts m) m
              ≡ cond (full_at m.pick (looked ts m).depth) (beyond_as (looked ts m) m)
              (done_as z.bytes z.schedule (entered_as (looked ts m) (e x) ((looked ts m).at + 2))
              (taken_by m m.pick (e x)))
          free = item ∙ second_of (held_elsewhere m m.pick (e x)) (idle_as z.schedule (looked ts m) m) _ (sym w)

          alone : (u : ℕ) → u ≢ m.pick → occurs (e x) (holds (thread s u)) ≡ 0
          alone u g = none (ℕ_discrete (occurs (e x) (holds (thread s u))) 0)
            where
              none : Dec (occurs (e x) (holds (thread s u)) ≡ 0) → occurs (e x) (holds (thread s u)) ≡ 0
              none (yes i) = i
              none (no i) = absurd (n (u, (g, occurs_in (e x) (holds (thread s u)) (omega (arith, i)))))

          room : (b : Bool) → full? m.pick fs ≡ b
              → (full? m.pick fs ≡ false
              → R ≡ run_from P m.lent (with_thread s m.pick (at c e (frame (held (e x)) e d ∷ fs)) s.made)
              (suc m.read) (drop (suc m.read) z.schedule))
              → (full? m.pick fs ≡ true → R ≡ stop beyond m.read s)
              → (q : State) × On P z R q (records_after z ts m) (machine_after z ts m)
          room true g on off = (
            s,
            tick_beyond P z R s ts m k.tracks k.stage (off g)
                (free ∙ first_of (full_at m.pick (looked ts m).depth) (beyond_as (looked ts m) m) _ (full ∙ g)),
          )
          room false g on off = (
            with_thread s m.pick (at c e (frame (held (e x)) e d ∷ fs)) s.made,
            tick_done P z R s ts m (taken_by m m.pick (e x)) c e (frame (held (e x)) e d ∷ fs)
                (entered_as (looked ts m) (e x) ((looked ts m).at + 2)) s.made k.tracks k.stage k.due.started
                (follows_lock z x c d e fs (looked ts m) sz (fits m.pick fs g) f)
                (entered_sized (looked ts m) (e x) ((looked ts m).at + 2) sz) k.tracks.few_locks
                refl refl refl refl refl k.tracks.made refl
                (held_taken s m m.pick s.made (e x) (at c e (frame (held (e x)) e d ∷ fs)) k.due.started small
                k.tracks.locks_long alone
                (λ l. rw k.is refl) k.tracks.held)
                (length-set m.locks (e x) _ ∙ k.tracks.locks_long)
                (on g)
                (free ∙ second_of (full_at m.pick (looked ts m).depth) (beyond_as (looked ts m) m) _ (full ∙ g)),
          )

  -- a step that takes and makes no lock
  opening :
      (c c' : Code) (e e' : Env) (o : Open) (fs gs : List Frame) (u : Record) → Taking P z R s ts m (at c e fs)
      → FollowsAt z c' e' gs u → Sized u → ((l : ℕ) → occurs l (locks gs) ≡ occurs l (locks fs))
      → R ≡ run_from P m.lent (with_thread s m.pick (at c' e' gs) s.made) (suc m.read)
      (drop (suc m.read) z.schedule)
      → tick_as z (looked ts m) m ≡ done_as z.bytes z.schedule u m
      → (q : State) × On P z R q (records_after z ts m) (machine_after z ts m)
  opening c c' e e' o fs gs u k f sz same on is = (
    with_thread s m.pick (at c' e' gs) s.made,
    tick_done P z R s ts m m c' e' gs u s.made k.tracks k.stage k.due.started f sz k.tracks.few_locks
        refl refl refl refl refl k.tracks.made refl
        (held_same s m m.pick s.made (at c' e' gs) k.due.started
        (λ l. same l ∙ ap (λ (y : Thread). occurs l (holds y)) (sym k.is)) k.tracks.held)
        k.tracks.locks_long on is,
  )

  -- CHOICE
  pub tick_choice :
      (a b' g : Code) (e : Env) (fs : List Frame) → Taking P z R s ts m (at (choice a b' g) e fs)
      → (q : State) × On P z R q (records_after z ts m) (machine_after z ts m)
  unfolding step beyond? with_thread
  tick_choice a b' g e fs k = room (full? m.pick fs) refl
    where
      f : FollowsAt z (choice a b' g) e fs (looked ts m)
      f = followed P z R s ts m (at (choice a b' g) e fs) k

      sz : Sized (looked ts m)
      sz = size_of P z R s ts m (at (choice a b' g) e fs) k

      byte : ℕ
      byte = get_or z.schedule m.read 0

      item : tick_as z (looked ts m) m
          ≡ choice_as z.bytes z.schedule
          (side_of (get_or z.schedule m.read 0) ((looked ts m).at + 1) (link_at z (looked ts m).at)) (looked ts m) m
      item = tick_item P z R s ts m (at (choice a b' g) e fs) k f.runs (code CHOICE) f.stand.2.0.1

      full : full_at m.pick (looked ts m).depth ≡ full? m.pick fs
      full = full_is m.pick (looked ts m).depth fs f.deep

      sided : (q : Bool) → ltb (get_or z.schedule m.read 0) second_side ≡ q → full? m.pick fs ≡ false
          → R ≡ run_from P m.lent (step P s m.pick (cond q first second) (at (choice a b' g) e fs)) (suc m.read)
          (drop (suc m.read) z.schedule)
          → (q : State) × On P z R q (records_after z ts m) (machine_after z ts m)
      sided true i h on =
          opening (choice a b' g) a e e alternative fs (frame alternative e g ∷ fs)
          (entered_as (looked ts m) most_locks ((looked ts m).at + 1)) k
          (follows_first z a b' g e fs (looked ts m) sz (fits m.pick fs h) f)
          (entered_sized (looked ts m) most_locks ((looked ts m).at + 1) sz) (λ l. refl) on
          (item ∙ ap (λ (r : ℕ). choice_as z.bytes z.schedule r (looked ts m) m)
          (first_of (ltb (get_or z.schedule m.read 0) second_side) ((looked ts m).at + 1)
          (link_at z (looked ts m).at) i)
          ∙ second_of (full_at m.pick (looked ts m).depth) (beyond_as (looked ts m) m) _ (full ∙ h))
      sided false i h on =
          opening (choice a b' g) b' e e alternative fs (frame alternative e g ∷ fs)
          (entered_as (looked ts m) most_locks (link_at z (looked ts m).at)) k
          (follows_second z a b' g e fs (looked ts m) sz (fits m.pick fs h) f)
          (entered_sized (looked ts m) most_locks (link_at z (looked ts m).at) sz) (λ l. refl) on
          (item ∙ ap (λ (r : ℕ). choice_as z.bytes z.schedule r (looked ts m) m)
          (second_of (ltb (get_or z.schedule m.read 0) second_side) ((looked ts m).at + 1)
          (link_at z (looked ts m).at) i)
          ∙ second_of (full_at m.pick (looked ts m).depth) (beyond_as (looked ts m) m) _ (full ∙ h))

      room : (b : Bool) → full? m.pick fs ≡ b
          → (q : State) × On P z R q (records_after z ts m) (machine_after z ts m)
      room true h = (
        s,
        tick_beyond P z R s ts m k.tracks k.stage
            (past_limit P z R s ts m (at (choice a b' g) e fs) k h)
            (item ∙ first_of (full_at m.pick (looked ts m).depth) (beyond_as (looked ts m) m) _ (full ∙ h)),
      )
      room false h =
          sided (ltb (get_or z.schedule m.read 0) second_side) refl h
          (stepped P z R s ts m (at (choice a b' g) e fs) k h)

  -- MIRROR
  pub tick_mirror :
      (x y : ℕ) (c : Code) (e : Env) (fs : List Frame) → Taking P z R s ts m (at (mirror x y c) e fs)
      → (q : State) × On P z R q (records_after z ts m) (machine_after z ts m)
  unfolding step beyond? with_thread
  tick_mirror x y c e fs k =
      opening (mirror x y c) c e (bind x (e y) e) alternative fs fs
      (bound_to (looked ts m) x (e y) ((looked ts m).at + 2)) k (follows_mirror z x y c e fs (looked ts m) sz f)
      (bound_sized (looked ts m) x (e y) ((looked ts m).at + 2) sz)
      (λ l. refl) (stepped P z R s ts m (at (mirror x y c) e fs) k refl)
      (tick_item P z R s ts m (at (mirror x y c) e fs) k f.runs (code MIRROR) lies.0.1
      ∙ ap (λ (v : ℕ). mirror_as z.bytes z.schedule v (operand_of z.bytes (looked ts m)) (looked ts m) m)
      lies.1
      ∙ ap (λ (v : ℕ). mirror_as z.bytes z.schedule x v (looked ts m) m)
      (ap (lock_of (looked ts m)) lies.3.1 ∙ same_lock z (mirror x y c) e fs (looked ts m) y f lies.4))
    where
      f : FollowsAt z (mirror x y c) e fs (looked ts m)
      f = followed P z R s ts m (at (mirror x y c) e fs) k

      sz : Sized (looked ts m)
      sz = size_of P z R s ts m (at (mirror x y c) e fs) k

      lies : Lies z f.stand.0 (looked ts m).at (mirror x y c) f.stand.1
      lies = f.stand.2

  -- CALL, where the body of every routine stands at its head
  pub tick_call :
      (r : ℕ) (xs : List ℕ) (c : Code) (e : Env) (fs : List Frame)
      → ((q : ℕ) → q < length z.counts → (to : ℕ) × Lies z false (get_or z.heads q 0) (body P q) to)
      → Taking P z R s ts m (at (call r xs c) e fs)
      → (q : State) × On P z R q (records_after z ts m) (machine_after z ts m)
  unfolding step beyond? with_thread
  tick_call r xs c e fs bodies k = room (full? m.pick fs) refl
    where
      f : FollowsAt z (call r xs c) e fs (looked ts m)
      f = followed P z R s ts m (at (call r xs c) e fs) k

      sz : Sized (looked ts m)
      sz = size_of P z R s ts m (at (call r xs c) e fs) k

      target : Record
      target = called_as (looked ts m) z.bytes ((looked ts m).at + 2) (length xs) (get_or z.heads r 0)

      full : full_at m.pick (looked ts m).depth ≡ full? m.pick fs
      full = full_is m.pick (looked ts m).depth fs f.deep

      item : tick_as z (looked ts m) m ≡ call_as z.counts z.bytes z.heads z.schedule (looked ts m) m
      item = tick_item P z R s ts m (at (call r xs c) e fs) k f.runs (code CALL) f.stand.2.0.1

      same : done_as z.bytes z.schedule
          (called_as (looked ts m) z.bytes ((looked ts m).at + 2)
          (get_or z.counts (get_or z.bytes ((looked ts m).at + 1) 0) 0)
          (get_or z.heads (get_or z.bytes ((looked ts m).at + 1) 0) 0)) m
          ≡ done_as z.bytes z.schedule
          (called_as (looked ts m) z.bytes ((looked ts m).at + 2) (length xs) (get_or z.heads r 0)) m
      same =
          ap (λ (q : ℕ). done_as z.bytes z.schedule
          (called_as (looked ts m) z.bytes ((looked ts m).at + 2) (get_or z.counts q 0) (get_or z.heads q 0)) m)
          f.stand.2.1.1
          ∙ ap (λ (n : ℕ). done_as z.bytes z.schedule
          (called_as (looked ts m) z.bytes ((looked ts m).at + 2) n (get_or z.heads r 0)) m) f.stand.2.3

      room : (b : Bool) → full? m.pick fs ≡ b
          → (q : State) × On P z R q (records_after z ts m) (machine_after z ts m)
      room true h = (
        s,
        tick_beyond P z R s ts m k.tracks k.stage
            (past_limit P z R s ts m (at (call r xs c) e fs) k h)
            (item ∙ first_of (full_at m.pick (looked ts m).depth) (beyond_as (looked ts m) m) _ (full ∙ h)),
      )
      room false h =
          let b = bodies r f.stand.2.2 in
          opening (call r xs c) (body P r) e (pass xs e) called fs (frame called e c ∷ fs)
          (called_as (looked ts m) z.bytes ((looked ts m).at + 2) (length xs) (get_or z.heads r 0)) k
          (follows_call z r xs c (body P r) e fs (looked ts m) (get_or z.heads r 0) b.0 sz
          (fits m.pick fs h) b.1 f)
          (called_sized (looked ts m) z.bytes ((looked ts m).at + 2) (length xs) (get_or z.heads r 0) sz) (λ l. refl)
          (stepped P z R s ts m (at (call r xs c) e fs) k h)
          (item ∙ second_of (full_at m.pick (looked ts m).depth) (beyond_as (looked ts m) m) _ (full ∙ h) ∙ same)

  -- END of the thread
  pub tick_end :
      (e : Env) → Taking P z R s ts m (at end e [])
      → (q : State) × On P z R q (records_after z ts m) (machine_after z ts m)
  unfolding step beyond? with_thread
  tick_end e k =
      let t = looked ts m in
      let u = finished_as t in
      let n = wants_as (counted_as m) m.pick Gone in
      let s' = with_thread s m.pick ended s.made in
      let on : is_born m.stage ≡ false = ap is_born k.stage in
      let sz = size_of P z R s ts m (at end e []) k in
      let tk = tracks_step z s ts m n m.pick s.made ended u k.tracks on on k.due.started refl
      (record { kinds = sz.kinds; goes = sz.goes; names = sz.names }) tt k.tracks.few_locks refl refl
      k.tracks.made refl
      (held_same s m m.pick s.made ended k.due.started
      (λ l. ap (λ (y : Thread). occurs l (holds y)) (sym k.is)) k.tracks.held)
      k.tracks.locks_long in
      let h : m.read + 1 ≡ suc m.read = omega arith in
      let q =
      settles P z R s' (set ts m.pick u) n tk (λ i g. tk.sized i g (λ q. absurd (not_both m.stage on q)))
      (rw h (stepped P z R s ts m (at end e []) k refl)) in (
        s',
        subst (λ (r : Ticked). On P z R s' (set ts m.pick r.thread) r.machine) (sym item)
            (subst (λ (us : List Record). On P z R s' us (settled_as n z.schedule))
            (written_as (set ts m.pick u) n on) q),
      )
    where
      f : FollowsAt z end e [] (looked ts m)
      f = followed P z R s ts m (at end e []) k

      item : tick_as z (looked ts m) m
          ≡ pair (finished_as (looked ts m)) (settled_as (wants_as (counted_as m) m.pick Gone) z.schedule)
      item =
          tick_item P z R s ts m (at end e []) k f.runs (code END) (f.stand.2.0.1 ∙ ap closer f.stand.3)
          ∙ first_of (eqb (looked ts m).depth 0)
          (pair (finished_as (looked ts m)) (settled_as (wants_as (counted_as m) m.pick Gone) z.schedule))
          (close_as z.bytes z.schedule (looked ts m) m) (eq-eqb (looked ts m).depth 0 f.deep)

  -- END or OTHER of what a frame opened
  pub tick_close :
      (o : Open) (d : Code) (e g : Env) (fs : List Frame) → Taking P z R s ts m (at end e (frame o g d ∷ fs))
      → (q : State) × On P z R q (records_after z ts m) (machine_after z ts m)
  unfolding step beyond? with_thread
  tick_close o d e g fs k = by o k (f o k) (f o k).stand.0 refl
    where
      f : (o : Open) → Taking P z R s ts m (at end e (frame o g d ∷ fs))
          → FollowsAt z end e (frame o g d ∷ fs) (looked ts m)
      f o k = followed P z R s ts m (at end e (frame o g d ∷ fs)) k

      sz : Sized (looked ts m)
      sz = size_of P z R s ts m (at end e (frame o g d ∷ fs)) k

      left_sized : (a : ℕ) → Sized (left_to (looked ts m) a)
      left_sized a = record { kinds = sz.kinds; goes = sz.goes; names = sz.names }

      -- END closes the frame
      closes : (o : Open) (k : Taking P z R s ts m (at end e (frame o g d ∷ fs)))
          → (f : FollowsAt z end e (frame o g d ∷ fs) (looked ts m)) → f.stand.0 ≡ false
          → tick_as z (looked ts m) m ≡ close_as z.bytes z.schedule (looked ts m) m
      closes o k f i =
          tick_item P z R s ts m (at end e (frame o g d ∷ fs)) k f.runs (code END) (f.stand.2.0.1 ∙ ap closer i)
          ∙ second_of (eqb (looked ts m).depth 0)
          (pair (finished_as (looked ts m)) (settled_as (wants_as (counted_as m) m.pick Gone) z.schedule))
          (close_as z.bytes z.schedule (looked ts m) m)
          (ne_eqb (looked ts m).depth 0 (λ q. let h = f.deep in omega (arith, q, h)))

      -- the mark of the frame
      top : (o : Open) → (f : FollowsAt z end e (frame o g d ∷ fs) (looked ts m)) → top_of (looked ts m) ≡ kind_of o
      top o f =
          let h = f.deep in
          let i : (looked ts m).depth - 1 ≡ length fs = omega (arith, h) in
          ap (λ (j : ℕ). get_or (looked ts m).kinds j 0) i ∙ f.frames.0

      -- a step that leaves the locks as they are
      kept : (o : Open) (k : Taking P z R s ts m (at end e (frame o g d ∷ fs))) (a : ℕ)
          → ((l : ℕ) → occurs l (locks fs) ≡ occurs l (locks (frame o g d ∷ fs)))
          → FollowsAt z d g fs (left_to (looked ts m) a)
          → tick_as z (looked ts m) m ≡ done_as z.bytes z.schedule (left_to (looked ts m) a) m
          → (q : State) × On P z R q (records_after z ts m) (machine_after z ts m)
      kept o k a same fl is =
          opening end d e g o (frame o g d ∷ fs) fs (left_to (looked ts m) a) k fl (left_sized a) same
          (stepped P z R s ts m (at end e (frame o g d ∷ fs)) k refl) is

      by : (o : Open) (k : Taking P z R s ts m (at end e (frame o g d ∷ fs)))
          → (f : FollowsAt z end e (frame o g d ∷ fs) (looked ts m)) → (q : Bool) → f.stand.0 ≡ q
          → (q : State) × On P z R q (records_after z ts m) (machine_after z ts m)
      by alternative k f true i =
          let j : (looked ts m).at + 1 - 1 ≡ (looked ts m).at = omega arith in
          kept alternative k (link_at z (looked ts m).at) (λ l. refl)
          (subst (λ (a : ℕ). FollowsAt z d g fs (left_to (looked ts m) a))
          (ap (λ (r : Bool). cond r (link_at z ((looked ts m).at + 1 - 1)) ((looked ts m).at + 1)) i ∙ ap (link_at z) j)
          (follows_close z alternative d e g fs (looked ts m) f))
          (tick_item P z R s ts m (at end e (frame alternative g d ∷ fs)) k f.runs (code OTHER)
          (f.stand.2.0.1 ∙ ap closer i))
      by alternative k f false i =
          kept alternative k ((looked ts m).at + 1) (λ l. refl)
          (subst (λ (a : ℕ). FollowsAt z d g fs (left_to (looked ts m) a))
          (ap (λ (r : Bool). cond r (link_at z ((looked ts m).at + 1 - 1)) ((looked ts m).at + 1)) i)
          (follows_close z alternative d e g fs (looked ts m) f))
          (closes alternative k f i
          ∙ second_of (eqb (top_of (looked ts m)) (most_locks + 1)) _ _
          (ne_eqb (top_of (looked ts m)) (most_locks + 1) (λ q. let h = top alternative f in omega (arith, q, h)))
          ∙ first_of (eqb (top_of (looked ts m)) most_locks) _ _
          (eq-eqb (top_of (looked ts m)) most_locks (top alternative f)))
      by called k f true i =
          absurd (let w : true ≡ false = sym i ∙ f.stand.3.0 in let y : ◌≡◌ {A = ℕ} 0 1 = cc in omega arith)
      by called k f false i =
          let h = f.deep in
          let j : (looked ts m).depth - 1 ≡ length fs = omega (arith, h) in
          kept called k (get_or (looked ts m).goes (length fs) 0) (λ l. refl)
          (follows_close z called d e g fs (looked ts m) f)
          (closes called k f i
          ∙ first_of (eqb (top_of (looked ts m)) (most_locks + 1)) _ _
          (eq-eqb (top_of (looked ts m)) (most_locks + 1) (top called f))
          ∙ ap (λ (n : ℕ). done_as z.bytes z.schedule (left_to (looked ts m) (get_or (looked ts m).goes n 0)) m) j)
      by (held l) k f true i =
          absurd (let w : true ≡ false = sym i ∙ f.stand.3.0 in let y : ◌≡◌ {A = ℕ} 0 1 = cc in omega arith)
      by (held l) k f false i =
          let small : l < most_locks = f.all_small.0 in
          let given = held_given s m m.pick s.made l (at d g fs) k.due.started small k.tracks.locks_long
          (λ j. rw k.is refl) k.tracks.held in (
            with_thread s m.pick (at d g fs) s.made,
            tick_done P z R s ts m (given_back m l) d g fs (left_to (looked ts m) ((looked ts m).at + 1)) s.made
                k.tracks k.stage k.due.started (follows_close z (held l) d e g fs (looked ts m) f)
                (left_sized ((looked ts m).at + 1)) k.tracks.few_locks refl refl refl refl refl
                k.tracks.made refl given.0
                (length-set m.locks l _ ∙ k.tracks.locks_long)
                (stepped P z R s ts m (at end e (frame (held l) g d ∷ fs)) k refl)
                (closes (held l) k f i
                ∙ second_of (eqb (top_of (looked ts m)) (most_locks + 1)) _ _
                (ne_eqb (top_of (looked ts m)) (most_locks + 1)
                (λ q. let h = top (held l) f in omega (arith, q, h, small)))
                ∙ second_of (eqb (top_of (looked ts m)) most_locks) _ _
                (ne_eqb (top_of (looked ts m)) most_locks (λ q. let h = top (held l) f in omega (arith, q, h, small)))
                ∙ ap (λ (n : ℕ). done_as z.bytes z.schedule (left_to (looked ts m) ((looked ts m).at + 1))
                (given_back m n)) (top (held l) f)),
          )
