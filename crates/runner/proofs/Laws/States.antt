-- The machine and the records track the state that a step leaves.
use Rattle.std.specs.Prelude.{◌≡◌, refl, ◌≢◌, Bool, true, false, cond, List, ℕ, suc, ◌+◌, ◌-◌, ◌<◌, ◌≤◌, eqb, length, get_or, set}
use Rattle.std.proofs.Common.{sym, ◌∙◌, ap, arith, length-set, get_or-set_same, get_or-set_other, eq-eqb, ne_eqb}
use Rattle.std.proofs.Math.Decide.{ℕ_discrete}
use Rattle.runner.specs.Follows.{Small}
use Rattle.table.specs.Constants.{NEW, LOCK, FORK, CHOICE, CALL, MIRROR, code, most_names}
use Rattle.table.specs.Program.{Code, end, new, lock, fork, choice, call, mirror}
use Rattle.run.specs.Run.{Env, Frame, Thread, ended, at, State, thread, holds}
use Rattle.schedule.specs.Limits.{most_locks}
use Rattle.steps.specs.declared.thread.Thread.{Thread as Record}
use Rattle.steps.specs.Records.{lock_of}
use Rattle.steps.specs.Shown.{blank}
use Rattle.steps.specs.declared.machine.Machine.{Machine}
use Rattle.steps.specs.Machines.{want_at, taken_by, given_back}
use Rattle.steps.specs.declared.machine.Ending.{Ending}
use Rattle.steps.specs.declared.machine.Stage.{Stage}
use Rattle.steps.specs.declared.machine.Stage.TheVariants.{Born, Turn, Over}
use Rattle.steps.specs.Machines.{is_born, is_over, untaken, lock_at}
use Rattle.steps.specs.declared.machine.Want.TheVariants.{Free}
use Rattle.steps.specs.declared.machine.Want.TheVariants as want
use Rattle.steps.specs.declared.machine.Lock.{Lock}
use Rattle.links.specs.Lies.{Section, Lies}
use Rattle.runner.specs.Ticks.{Sized}
use Rattle.links.specs.Lies.{byte_at, closer}
use Rattle.runner.specs.Follows.{FollowsAt, Follows}
use Rattle.runner.specs.Tracks.{occurs, Held, want_of, SmallWant, written, Tracks}
use Rattle.runner.proofs.Laws.Items.{same_lock}

-- an item that is no LOCK wants nothing
free_at : (z : Section) (t : Record) (from b : ℕ) → byte_at z from ≡ b → (b ≡ code LOCK → ⊥)
    → want_at z.bytes t from ≡ Free
free_at z t from b e n = rw (ne_eqb (get_or z.bytes from 0) (code LOCK) (λ q. n (sym e ∙ q))) refl

closer_free : (o : Bool) → closer o ≡ code LOCK → ⊥
closer_free true e = omega (arith, e)
closer_free false e = omega (arith, e)

-- what a thread wants at the head of a code that lies at an offset, with the names of the record t
pub want_here :
    (z : Section) (q : Bool) (from : ℕ) (c : Code) (to : ℕ) (t : Record) (e : Env) (gs : List Frame)
    → Lies z q from c to → ((x : ℕ) → x < most_names → lock_of t x ≡ e x)
    → want_at z.bytes t from ≡ want_of (at c e gs)
want_here z q from end to t e gs l n = free_at z t from (closer q) l.0.1 (closer_free q)
want_here z q from (new x c) to t e gs l n = free_at z t from (code NEW) l.0.1 (λ j. omega (arith, j))
want_here z q from (lock x c d) to t e gs l n =
    let b : get_or z.bytes from 0 ≡ code LOCK = l.0.1 in
    rw (eq-eqb (get_or z.bytes from 0) (code LOCK) b) (ap (λ (v : ℕ). want.Lock v) (ap (lock_of t) l.1.1 ∙ n x l.2))
want_here z q from (fork i c d) to t e gs l n = free_at z t from (code FORK) l.0.1 (λ j. omega (arith, j))
want_here z q from (choice a b c) to t e gs l n = free_at z t from (code CHOICE) l.0.1 (λ j. omega (arith, j))
want_here z q from (call r xs c) to t e gs l n = free_at z t from (code CALL) l.0.1 (λ j. omega (arith, j))
want_here z q from (mirror x y c) to t e gs l n = free_at z t from (code MIRROR) l.0.1 (λ j. omega (arith, j))

-- it is a lock that there can be
pub small_here :
    (z : Section) (q : Bool) (from : ℕ) (c : Code) (to : ℕ) (e : Env) (gs : List Frame) → Lies z q from c to → Small e
    → SmallWant (at c e gs)
small_here z q from end to e gs l n = tt
small_here z q from (new x c) to e gs l n = tt
small_here z q from (lock x c d) to e gs l n = n x l.2
small_here z q from (fork i c d) to e gs l n = tt
small_here z q from (choice a b c) to e gs l n = tt
small_here z q from (call r xs c) to e gs l n = tt
small_here z q from (mirror x y c) to e gs l n = tt

-- what the record wants is what its thread wants
pub want_is :
    (z : Section) (c : Code) (e : Env) (fs : List Frame) (u : Record) → FollowsAt z c e fs u
    → want_at z.bytes u u.at ≡ want_of (at c e fs)
want_is z c e fs u f =
    want_here z f.stand.0 u.at c f.stand.1 u e fs f.stand.2 (λ x h. same_lock z c e fs u x f h)

pub want_small :
    (z : Section) (c : Code) (e : Env) (fs : List Frame) (u : Record) → FollowsAt z c e fs u → SmallWant (at c e fs)
want_small z c e fs u f = small_here z f.stand.0 u.at c f.stand.1 e fs f.stand.2 f.small

-- one thread becomes x; the others are as they were
unfoldable pub with_thread : State → ℕ → Thread → ℕ → State
with_thread s t x made = record { threads = set s.threads t x; made = made }

-- who holds what, after one thread became another that holds the same
pub held_same :
    (s : State) (m : Machine) (t made : ℕ) (x : Thread) → t < length s.threads
    → ((l : ℕ) → occurs l (holds x) ≡ occurs l (holds (thread s t))) → Held s m → Held (with_thread s t x made) m
unfolding with_thread
held_same s m t made x within same held u l h = by (ℕ_discrete u t)
  where
    by : Dec (u ≡ t)
        → occurs l (holds (get_or (set s.threads t x) u ended))
        ≡ cond (eqb (lock_at m l).owner u) (lock_at m l).count 0
    by (yes e) =
        rw e
        (ap (λ (y : Thread). occurs l (holds y)) (get_or-set_same s.threads t x ended within) ∙ same l ∙ held t l h)
    by (no n) = ap (λ (y : Thread). occurs l (holds y)) (get_or-set_other s.threads t u x ended n) ∙ held u l h

-- who holds what, after thread t took the lock k, which no other thread held
pub held_taken :
    (s : State) (m : Machine) (t made k : ℕ) (x : Thread) → t < length s.threads → k < most_locks
    → length m.locks ≡ most_locks
    → ((u : ℕ) → u ≢ t → occurs k (holds (thread s u)) ≡ 0)
    → ((l : ℕ) → occurs l (holds x)
    ≡ cond (eqb k l) (suc (occurs l (holds (thread s t)))) (occurs l (holds (thread s t))))
    → Held s m → Held (with_thread s t x made) (taken_by m t k)
unfolding with_thread
held_taken s m t made k x within small long alone more held u l h = by (ℕ_discrete u t) (ℕ_discrete k l)
  where
    new : Lock
    new = record { owner = t; count = (lock_at m k).count + 1 }

    took : get_or (set m.locks k new) k untaken ≡ new
    took = get_or-set_same m.locks k new untaken (omega (arith, small, long))

    other : (k ≡ l → ⊥) → get_or (set m.locks k new) l untaken ≡ get_or m.locks l untaken
    other q = get_or-set_other m.locks k l new untaken (λ g. q (sym g))

    -- before, thread t held the lock as often as the count says
    before : occurs k (holds (thread s t)) ≡ (lock_at m k).count
    before = own (ℕ_discrete (lock_at m k).owner t)
      where
        own : Dec ((lock_at m k).owner ≡ t) → occurs k (holds (thread s t)) ≡ (lock_at m k).count
        own (yes e) = held t k small ∙ rw (eq-eqb (lock_at m k).owner t e) refl
        own (no n) =
            let o = (lock_at m k).owner in
            let a : occurs k (holds (thread s t)) ≡ 0 = held t k small ∙ rw (ne_eqb o t n) refl in
            let b : occurs k (holds (thread s o)) ≡ (lock_at m k).count = held o k small ∙ rw (eq-eqb o o refl) refl in
            a ∙ sym (alone o n) ∙ b

    by : Dec (u ≡ t) → Dec (k ≡ l)
        → occurs l (holds (get_or (set s.threads t x) u ended))
        ≡ cond (eqb (get_or (set m.locks k new) l untaken).owner u) (get_or (set m.locks k new) l untaken).count 0
    by (yes e) (yes q) =
        rw (e, sym q)
        (ap (λ (y : Thread). occurs k (holds y)) (get_or-set_same s.threads t x ended within) ∙ more k
        ∙ rw (
          eq-eqb k k refl,
          took,
          eq-eqb t t refl,
        )
        (let b = before in omega (arith, b)))
    by (yes e) (no q) =
        rw (e, other q)
        (ap (λ (y : Thread). occurs l (holds y)) (get_or-set_same s.threads t x ended within) ∙ more l
        ∙ rw (ne_eqb k l q) (held t l h))
    by (no n) (yes q) =
        rw (sym q)
        (ap (λ (y : Thread). occurs k (holds y)) (get_or-set_other s.threads t u x ended n) ∙ alone u n
        ∙ rw (took, ne_eqb t u (λ g. n (sym g))) refl)
    by (no n) (no q) =
        rw (other q)
        (ap (λ (y : Thread). occurs l (holds y)) (get_or-set_other s.threads t u x ended n) ∙ held u l h)

-- who holds what, after thread t gave back one hold of the lock k
pub held_given :
    (s : State) (m : Machine) (t made k : ℕ) (x : Thread) → t < length s.threads → k < most_locks
    → length m.locks ≡ most_locks
    → ((l : ℕ) → occurs l (holds (thread s t)) ≡ cond (eqb k l) (suc (occurs l (holds x))) (occurs l (holds x)))
    → Held s m → Held (with_thread s t x made) (given_back m k) × (1 ≤ (lock_at m k).count)
unfolding with_thread
held_given s m t made k x within small long less before =
    (λ u l h. by u l h (ℕ_discrete u t) (ℕ_discrete k l), let a = was in let b = count_is in omega (arith, a, b))
  where
    new : Lock
    new = record { owner = (lock_at m k).owner; count = (lock_at m k).count - 1 }

    gave : get_or (set m.locks k new) k untaken ≡ new
    gave = get_or-set_same m.locks k new untaken (omega (arith, small, long))

    other : (l : ℕ) → (k ≡ l → ⊥) → get_or (set m.locks k new) l untaken ≡ get_or m.locks l untaken
    other l q = get_or-set_other m.locks k l new untaken (λ g. q (sym g))

    was : occurs k (holds (thread s t)) ≡ suc (occurs k (holds x))
    was = less k ∙ rw (eq-eqb k k refl) refl

    -- the lock is thread t's
    owned : (lock_at m k).owner ≡ t
    owned = own (ℕ_discrete (lock_at m k).owner t)
      where
        own : Dec ((lock_at m k).owner ≡ t) → (lock_at m k).owner ≡ t
        own (yes e) = e
        own (no n) =
            let a : occurs k (holds (thread s t)) ≡ 0 = before t k small ∙ rw (ne_eqb (lock_at m k).owner t n) refl in
            let b = was in
            absurd (omega (arith, a, b))

    count_is : occurs k (holds (thread s t)) ≡ (lock_at m k).count
    count_is = before t k small ∙ rw (eq-eqb (lock_at m k).owner t owned) refl

    by : (u l : ℕ) → l < most_locks → Dec (u ≡ t) → Dec (k ≡ l)
        → occurs l (holds (get_or (set s.threads t x) u ended))
        ≡ cond (eqb (get_or (set m.locks k new) l untaken).owner u) (get_or (set m.locks k new) l untaken).count 0
    by u l h (yes e) (yes q) =
        rw (e, sym q)
        (ap (λ (y : Thread). occurs k (holds y)) (get_or-set_same s.threads t x ended within)
        ∙ rw (
          gave,
          eq-eqb (lock_at m k).owner t owned,
        )
        (let a = was in let b = count_is in omega (arith, a, b)))
    by u l h (yes e) (no q) =
        rw (e, other l q)
        (ap (λ (y : Thread). occurs l (holds y)) (get_or-set_same s.threads t x ended within)
        ∙ sym (less l ∙ rw (ne_eqb k l q) refl) ∙ before t l h)
    by u l h (no n) (yes q) =
        rw (sym q)
        (ap (λ (y : Thread). occurs k (holds y)) (get_or-set_other s.threads t u x ended n) ∙ before u k small
        ∙ rw (gave, ne_eqb (lock_at m k).owner u (λ g. n (sym g ∙ owned))) refl)
    by u l h (no n) (no q) =
        rw (other l q)
        (ap (λ (y : Thread). occurs l (holds y)) (get_or-set_other s.threads t u x ended n) ∙ before u l h)

-- a record is still to be written or not
pub not_both : (w : Stage) → is_born w ≡ false → is_born w ≡ true → ⊥
not_both w p q = let z : ◌≡◌ {A = Bool} false true = sym p ∙ q in cc

-- a stage that is not Over is another
pub not_over : (w : Stage) → ((e : Ending) → w ≡ Over e → ⊥) → is_over w ≡ false
not_over Born n = refl
not_over Turn n = refl
not_over (Over e) n = absurd (n e refl)

-- no record is still to be written
pub written_as : (ts : List Record) (m : Machine) → is_born m.stage ≡ false → written ts m ≡ ts
written_as ts m n = rw (n) refl

-- a step of thread t, which becomes x and is followed by u; who holds what is tracked by the machine k
pub tracks_step :
    (z : Section) (s : State) (ts : List Record) (m k : Machine) (t made : ℕ) (x : Thread) (u : Record)
    → Tracks z s ts m → is_born m.stage ≡ false → is_born k.stage ≡ false → t < length s.threads → Follows z x u → Sized u
    → SmallWant x → made ≤ most_locks → k.threads ≡ m.threads → k.lent ≡ m.lent → k.made ≡ made
    → k.wants ≡ set m.wants t (want_of x) → Held (with_thread s t x made) k → length k.locks ≡ most_locks → Tracks z (with_thread s t x made) (set ts t u) k
unfolding with_thread
tracks_step z s ts m k t made x u tr going on within fx sized small few kt kl km kw held long = record {
  threads = kt ∙ tr.threads ∙ sym (length-set s.threads t x);
  few = rw (length-set s.threads t x) tr.few;
  lent = kl ∙ tr.lent ∙ sym (length-set ts t u);
  room = rw (length-set s.threads t x, length-set ts t u) tr.room;
  made = km;
  few_locks = few;
  follows = λ i h z. followed i (rw (length-set s.threads t x) at h) (ℕ_discrete i t);
  sized = λ i h z. all_sized i (rw (length-set s.threads t x) at h) (ℕ_discrete i t);
  held = held;
  wants = record {
    wanted = λ i h. want i (rw (length-set s.threads t x) at h) (ℕ_discrete i t);
    small = λ i. small_want i (ℕ_discrete i t);
  };
  locks_long = long;
  wants_long = rw (kw, length-set m.wants t (want_of x)) tr.wants_long;
}
  where
    size : (i : ℕ) → i < length s.threads → Sized (get_or (written ts m) i blank)
    size i h = tr.sized i h (λ q. absurd (not_both m.stage going q))

    lent : t < length ts
    lent = let r = tr.room in omega (arith, within, r)

    now : written (set ts t u) k ≡ set ts t u
    now = written_as (set ts t u) k on

    was : written ts m ≡ ts
    was = written_as ts m going

    followed : (i : ℕ) → i < length s.threads → Dec (i ≡ t)
        → Follows z (get_or (set s.threads t x) i ended) (get_or (written (set ts t u) k) i blank)
    followed i h (yes e) =
        rw (now, e, get_or-set_same s.threads t x ended within, get_or-set_same ts t u blank lent) fx
    followed i h (no n) =
        rw (now, get_or-set_other s.threads t i x ended n, get_or-set_other ts t i u blank n)
        (rw was at (tr.follows i h (size i h)))

    all_sized : (i : ℕ) → i < length s.threads → Dec (i ≡ t) → Sized (get_or (written (set ts t u) k) i blank)
    all_sized i h (yes e) = rw (now, e, get_or-set_same ts t u blank lent) sized
    all_sized i h (no n) = rw (now, get_or-set_other ts t i u blank n) (rw was at (size i h))

    want : (i : ℕ) → i < length s.threads → Dec (i ≡ t)
        → get_or k.wants i Free ≡ want_of (get_or (set s.threads t x) i ended)
    want i h (yes e) =
        rw (kw, e, get_or-set_same s.threads t x ended within)
        (get_or-set_same m.wants t (want_of x) Free
        (let a = tr.wants_long in let b = tr.few in omega (arith, within, a, b)))
    want i h (no n) =
        rw (kw, get_or-set_other s.threads t i x ended n)
        (get_or-set_other m.wants t i (want_of x) Free n ∙ tr.wants.wanted i h)

    small_want : (i : ℕ) → Dec (i ≡ t) → SmallWant (get_or (set s.threads t x) i ended)
    small_want i (yes e) = rw (e, get_or-set_same s.threads t x ended within) small
    small_want i (no n) = rw (get_or-set_other s.threads t i x ended n) (tr.wants.small i)
