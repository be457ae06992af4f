-- One tick keeps the machine and the records on the run: a new thread's record, a byte that does nothing, a step taken.
use Rattle.std.specs.Prelude.{◌≡◌, refl, false, List, [], ◌∷◌, ℕ, zero, suc, ◌+◌, ◌<◌, ◌≤◌, length, get_or, drop, set}
use Rattle.std.proofs.Common.{sym, ◌∙◌, ap, subst, arith, get_or-set_same}
use Rattle.std.proofs.Math.Decide.{ℕ_discrete}
use Rattle.table.specs.Program.{Program, Code}
use Rattle.run.specs.Run.{Env, Frame, at, State}
use Rattle.schedule.specs.Limits.{most_locks}
use Rattle.schedule.specs.Schedule.{beyond, Result, stop, run_from}
use Rattle.steps.specs.declared.thread.Thread.{Thread as Record}
use Rattle.steps.specs.Records.{born_at}
use Rattle.steps.specs.Shown.{blank}
use Rattle.steps.specs.declared.machine.Machine.{Machine}
use Rattle.steps.specs.Machines.{is_born, over_as, settled_as, counted_as, wants_as, want_at}
use Rattle.steps.specs.Steps.{Ticked, pair, idle_as, done_as, step_as}
use Rattle.steps.specs.declared.machine.Ending.TheVariants.{Beyond}
use Rattle.steps.specs.declared.machine.Stage.TheVariants.{Born, Turn}
use Rattle.links.specs.Lies.{Section}
use Rattle.runner.specs.Ticks.{Sized, looked, tick_as, records_after, machine_after}
use Rattle.runner.specs.Follows.{FollowsAt}
use Rattle.runner.specs.Tracks.{Held, want_of, written, Tracks}
use Rattle.runner.proofs.Laws.States.{not_both, want_is, want_small, with_thread, written_as, tracks_step}
use Rattle.runner.proofs.Laws.Settles.{Next, Stage, over, tracks_as, settles}

-- the records and the machine are on the run, in the state s
abbrev pub On : Program → Section → Result → State → List Record → Machine → Type 0
On P z R s ts m = Tracks z s ts m × Stage P z R s m

-- a record that is stored where it was
set_same : (ts : List Record) (i : ℕ) → set ts i (get_or ts i blank) ≡ ts
set_same [] i = refl
set_same (t ∷ ts) zero = refl
set_same (t ∷ ts) (suc i) = ap (λ (us : List Record). t ∷ us) (set_same ts i)

-- the record of a new thread is written
pub tick_births :
    (P : Program) (z : Section) (R : Result) (s : State) (ts : List Record) (m : Machine) → Tracks z s ts m
    → m.stage ≡ Born → m.pick < length ts → Next P z R s m → Sized (tick_as z (looked ts m) m).thread
    → On P z R s (records_after z ts m) (machine_after z ts m)
unfolding step_as
tick_births P z R s ts m tr e lent next sized =
    let t = looked ts m in
    let is : tick_as z t m ≡ pair (born_at t m.head m.born) (settled_as m z.schedule) =
    rw (ap is_born e) refl in
    let w : written ts m ≡ set ts m.pick (born_at t m.head m.born) = rw (ap is_born e) refl in
    let new : Sized (born_at t m.head m.born) = subst (λ (r : Ticked). Sized r.thread) is sized in
    let q = settles P z R s ts m tr (λ i h. all new w i h (ℕ_discrete i m.pick)) next in
    subst (λ (r : Ticked). On P z R s (set ts m.pick r.thread) r.machine) (sym is)
    (subst (λ (us : List Record). On P z R s us (settled_as m z.schedule)) w q)
  where
    all : Sized (born_at (looked ts m) m.head m.born)
        → written ts m ≡ set ts m.pick (born_at (looked ts m) m.head m.born)
        → (i : ℕ) → i < length s.threads → Dec (i ≡ m.pick) → Sized (get_or (written ts m) i blank)
    all new w i h (yes g) =
        subst (λ (r : Record). Sized r)
        (sym (ap (λ (us : List Record). get_or us i blank) w
        ∙ ap (λ (j : ℕ). get_or (set ts m.pick (born_at (looked ts m) m.head m.born)) j blank) g
        ∙ get_or-set_same ts m.pick (born_at (looked ts m) m.head m.born) blank lent)) new
    all new w i h (no g) = tr.sized i h (λ q. g)

-- a byte that leaves the state as it is
pub tick_idle :
    (P : Program) (z : Section) (R : Result) (s : State) (ts : List Record) (m : Machine) → Tracks z s ts m
    → m.stage ≡ Turn → R ≡ run_from P m.lent s (suc m.read) (drop (suc m.read) z.schedule)
    → tick_as z (looked ts m) m ≡ idle_as z.schedule (looked ts m) m
    → On P z R s (records_after z ts m) (machine_after z ts m)
tick_idle P z R s ts m tr e next is =
    let k = counted_as m in
    let h : m.read + 1 ≡ suc m.read = omega arith in
    let on : is_born k.stage ≡ false = ap is_born e in
    let size : (i : ℕ) → i < length s.threads → Sized (get_or (written ts m) i blank) =
    λ i h. tr.sized i h (λ q. absurd (not_both m.stage on q)) in
    let tk = tracks_as z s ts ts m k tr size
    (written_as ts k on ∙ sym (written_as ts m on)) refl refl refl refl refl refl in
    let q = settles P z R s ts k tk (λ i h. tk.sized i h (λ q. absurd (not_both m.stage on q))) (rw h next) in
    subst (λ (r : Ticked). On P z R s (set ts m.pick r.thread) r.machine) (sym is)
    (subst (λ (us : List Record). On P z R s us (settled_as k z.schedule))
    (written_as ts k on ∙ sym (set_same ts m.pick)) q)

-- a step beyond a limit
pub tick_beyond :
    (P : Program) (z : Section) (R : Result) (s : State) (ts : List Record) (m : Machine) → Tracks z s ts m
    → m.stage ≡ Turn → R ≡ stop beyond m.read s
    → tick_as z (looked ts m) m ≡ pair (looked ts m) (over_as m Beyond)
    → On P z R s (records_after z ts m) (machine_after z ts m)
tick_beyond P z R s ts m tr e end is =
    let k = over_as m Beyond in
    let on : is_born m.stage ≡ false = ap is_born e in
    let off : is_born k.stage ≡ false = refl in
    let size : (i : ℕ) → i < length s.threads → Sized (get_or (written ts m) i blank) =
    λ i h. tr.sized i h (λ q. absurd (not_both m.stage on q)) in
    let tk = tracks_as z s ts ts m k tr size
    (written_as ts k off ∙ sym (written_as ts m on)) refl refl refl refl refl refl in
    subst (λ (r : Ticked). On P z R s (set ts m.pick r.thread) r.machine) (sym is)
    (subst (λ (us : List Record). On P z R s us k) (sym (set_same ts m.pick)) (tk, over beyond refl end))

-- a step that leaves the thread at the head of the code c, followed by u, and the locks as the machine n has them
pub tick_done :
    (P : Program) (z : Section) (R : Result) (s : State) (ts : List Record) (m n : Machine) (c : Code) (e : Env)
    (fs : List Frame) (u : Record) (made : ℕ) → Tracks z s ts m → m.stage ≡ Turn → m.pick < length s.threads
    → FollowsAt z c e fs u → Sized u → made ≤ most_locks
    → n.stage ≡ m.stage → n.read ≡ m.read → n.pick ≡ m.pick → n.threads ≡ m.threads → n.lent ≡ m.lent
    → n.made ≡ made → n.wants ≡ m.wants → Held (with_thread s m.pick (at c e fs) made) n
    → length n.locks ≡ most_locks
    → R ≡ run_from P m.lent (with_thread s m.pick (at c e fs) made) (suc m.read)
    (drop (suc m.read) z.schedule)
    → tick_as z (looked ts m) m ≡ done_as z.bytes z.schedule u n
    → On P z R (with_thread s m.pick (at c e fs) made) (records_after z ts m) (machine_after z ts m)
tick_done P z R s ts m n c e fs u made tr st within f sized few ns nr np nt nl nm nw held long next is =
    let x = at c e fs in
    let s' = with_thread s m.pick x made in
    let k = wants_as (counted_as n) n.pick (want_at z.bytes u u.at) in
    let on : is_born m.stage ≡ false = ap is_born st in
    let off : is_born k.stage ≡ false = ap is_born (ns ∙ st) in
    let w : k.wants ≡ set m.wants m.pick (want_of x) = rw (nw, np, want_is z c e fs u f) refl in
    let tk = tracks_step z s ts m k m.pick made x u tr on off within f sized (want_small z c e fs u f) few nt nl nm w
    held long in
    let h : n.read + 1 ≡ suc m.read = omega (arith, nr) in
    let q = settles P z R s' (set ts m.pick u) k tk (λ i h. tk.sized i h (λ q. absurd (not_both k.stage off q))) (rw (nl, h) next) in
    subst (λ (r : Ticked). On P z R s' (set ts m.pick r.thread) r.machine) (sym is)
    (subst (λ (us : List Record). On P z R s' us (settled_as k z.schedule)) (written_as (set ts m.pick u) k off) q)
