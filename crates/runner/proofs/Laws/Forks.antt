-- A FORK, taken by a tick, keeps the machine and the records on the run; the next tick writes the new thread's record.
use Rattle.std.specs.Prelude.{◌≡◌, ◌≢◌, Bool, true, false, cond, ◌||◌, List, [], ◌∷◌, ◌++◌, ℕ, zero, suc, ◌+◌, ◌<◌}
use Rattle.std.specs.Prelude.{eqb, leb, length, get_or, set}
use Rattle.std.proofs.Math.Path.{refl}
use Rattle.std.proofs.Common.{sym, ◌∙◌, ap, subst, arith, length-set, get_or-set_same, get_or-set_other, leb-false}
use Rattle.std.proofs.Math.Decide.{ℕ_discrete}
use Rattle.std.proofs.Math.ListN.{get_or-eq_default}
use Rattle.table.specs.Constants.{FORK, code, most_names}
use Rattle.table.specs.Program.{Program, Code, fork}
use Rattle.run.specs.Run.{Env, Frame, Thread, ended, at, State, thread, holds, step}
use Rattle.schedule.specs.Limits.{most_threads, most_locks}
use Rattle.schedule.specs.Schedule.{crowded?, beyond?, Result}
use Rattle.steps.specs.declared.thread.Thread.{Thread as Record}
use Rattle.steps.specs.Records.{level, born_at, moved_to}
use Rattle.steps.specs.Shown.{blank}
use Rattle.steps.specs.declared.machine.Machine.{Machine}
use Rattle.steps.specs.Machines.{want_at, wants_as, counted_as, starting_as, crowded_at}
use Rattle.steps.specs.Steps.{beyond_as, fork_as}
use Rattle.steps.specs.Steps.{Ticked}
use Rattle.steps.specs.declared.machine.Want.TheVariants.{Free}
use Rattle.steps.specs.declared.machine.Want.{Want}
use Rattle.links.specs.Lies.{Section}
use Rattle.runner.specs.Ticks.{Sized, looked, tick_as, records_after, machine_after}
use Rattle.links.specs.Lies.{link_at}
use Rattle.runner.specs.Follows.{FollowsAt, Follows}
use Rattle.runner.specs.Tracks.{occurs, want_of, SmallWant, written, Tracks}
use Rattle.runner.proofs.Laws.Items.{same_lock, follows_fork}
use Rattle.runner.proofs.Laws.Calls.{follows_born}
use Rattle.runner.proofs.Laws.States.{want_here, small_here, with_thread, written_as, held_same, tracks_step}
use Rattle.runner.proofs.Laws.States.{not_both, want_is, want_small}
use Rattle.steps.specs.Machines.{is_born, lock_at}
use Rattle.runner.proofs.Laws.Settles.{births}
use Rattle.runner.proofs.Laws.Ticking.{On, tick_beyond}
use Rattle.runner.proofs.Laws.Turns.{Taking, first_of, second_of, stepped, past_limit, followed, size_of}
use Rattle.runner.proofs.Laws.Turns.{tick_item}

-- entries of a list with one more at its end
pub more_long : {A : Type 0} (xs : List A) (y : A) → length (xs ++ (y ∷ [])) ≡ suc (length xs)
more_long [] y = refl
more_long (x ∷ xs) y = ap suc (more_long xs y)

pub more_old : {A : Type 0} (xs : List A) (y d : A) (i : ℕ) → i ≢ length xs → get_or (xs ++ (y ∷ [])) i d ≡ get_or xs i d
more_old [] y d zero n = absurd (n refl)
more_old [] y d (suc i) n = refl
more_old (x ∷ xs) y d zero n = refl
more_old (x ∷ xs) y d (suc i) n = more_old xs y d i (λ e. n (ap suc e))

pub more_new : {A : Type 0} (xs : List A) (y d : A) → get_or (xs ++ (y ∷ [])) (length xs) d ≡ y
more_new [] y d = refl
more_new (x ∷ xs) y d = more_new xs y d

-- one more thread
unfoldable pub with_more : State → Thread → State
with_more s y = record { threads = s.threads ++ (y ∷ []); made = s.made }

-- a thread is added, whose record is still to be written
pub tracks_more :
    (z : Section) (s : State) (ts : List Record) (m : Machine) (at' : ℕ) (names : List ℕ) (w : Want) (y : Thread)
    → Tracks z s ts m → is_born m.stage ≡ false → length s.threads < most_threads → length s.threads < length ts
    → w ≡ want_of y → SmallWant y → holds y ≡ []
    → ((u : Record) → Sized (born_at u at' names) → Follows z y (born_at u at' names))
    → Tracks z (with_more s y) ts (starting_as m at' names w)
unfolding with_more
tracks_more z s ts m at' names w y tr going few room wy small none fo = record {
  threads = let h = tr.threads in let g = more_long s.threads y in omega (arith, h, g);
  few = let g = more_long s.threads y in omega (arith, g, few);
  lent = tr.lent;
  room = let g = more_long s.threads y in omega (arith, g, room);
  made = tr.made;
  few_locks = tr.few_locks;
  follows = λ i h z. followed_by i (ℕ_discrete i (length s.threads)) h z;
  sized = λ i h z. sized_by i (ℕ_discrete i (length s.threads)) h z;
  held = λ u l h. held_by_lem u l h (ℕ_discrete u (length s.threads));
  wants = record {
    wanted = λ i h. want_by i (ℕ_discrete i (length s.threads)) h;
    small = λ i. small_by i (ℕ_discrete i (length s.threads));
  };
  locks_long = tr.locks_long;
  wants_long = length-set m.wants m.threads w ∙ tr.wants_long;
}
  where
    n : ℕ
    n = length s.threads

    now : List Record
    now = set ts m.threads (born_at (get_or ts m.threads blank) at' names)

    was : written ts m ≡ ts
    was = written_as ts m going

    size : (i : ℕ) → i < length s.threads → Sized (get_or (written ts m) i blank)
    size i h = tr.sized i h (λ q. absurd (not_both m.stage going q))

    below : (i : ℕ) → i < length (s.threads ++ (y ∷ [])) → i ≢ length s.threads → i < length s.threads
    below i h g = let l = more_long s.threads y in omega (arith, h, l, g)

    lent : m.threads < length ts
    lent = let h = tr.threads in omega (arith, h, room)

    followed_by : (i : ℕ) → Dec (i ≡ length s.threads) → i < length (s.threads ++ (y ∷ []))
        → Sized (get_or (set ts m.threads (born_at (get_or ts m.threads blank) at' names)) i blank)
        → Follows z (get_or (s.threads ++ (y ∷ [])) i ended)
        (get_or (set ts m.threads (born_at (get_or ts m.threads blank) at' names)) i blank)
    followed_by i (yes e) h sz =
        let j : i ≡ m.threads = e ∙ sym tr.threads in
        let same = ap (λ (q : ℕ). get_or now q blank) j
        ∙ get_or-set_same ts m.threads (born_at (get_or ts m.threads blank) at' names) blank lent in
        subst (λ (r : Record). Follows z (get_or (s.threads ++ (y ∷ [])) i ended) r)
        (sym (ap (λ (q : ℕ). get_or now q blank) j
        ∙ get_or-set_same ts m.threads (born_at (get_or ts m.threads blank) at' names) blank lent))
        (subst (λ (v : Thread). Follows z v (born_at (get_or ts m.threads blank) at' names))
        (sym (ap (λ (q : ℕ). get_or (s.threads ++ (y ∷ [])) q ended) e ∙ more_new s.threads y ended))
        (fo (get_or ts m.threads blank) (subst (λ (r : Record). Sized r) same sz)))
    followed_by i (no g) h sz =
        subst (λ (r : Record). Follows z (get_or (s.threads ++ (y ∷ [])) i ended) r)
        (sym (get_or-set_other ts m.threads i (born_at (get_or ts m.threads blank) at' names) blank
        (λ q. g (q ∙ tr.threads))))
        (subst (λ (v : Thread). Follows z v (get_or ts i blank)) (sym (more_old s.threads y ended i g))
        (subst (λ (us : List Record). Follows z (thread s i) (get_or us i blank)) was
        (tr.follows i (below i h g) (size i (below i h g)))))

    sized_by : (i : ℕ) → Dec (i ≡ length s.threads) → i < length (s.threads ++ (y ∷ []))
        → (◌≡◌ {A = Bool} true true → i ≢ m.threads)
        → Sized (get_or (set ts m.threads (born_at (get_or ts m.threads blank) at' names)) i blank)
    sized_by i (yes e) h not = absurd (not refl (e ∙ sym tr.threads))
    sized_by i (no g) h not =
        subst (λ (r : Record). Sized r)
        (sym (get_or-set_other ts m.threads i (born_at (get_or ts m.threads blank) at' names) blank
        (λ q. g (q ∙ tr.threads))))
        (subst (λ (us : List Record). Sized (get_or us i blank)) was (size i (below i h g)))

    held_by_lem : (u l : ℕ) → l < most_locks → Dec (u ≡ length s.threads)
        → occurs l (holds (get_or (s.threads ++ (y ∷ [])) u ended))
        ≡ cond (eqb (lock_at m l).owner u) (lock_at m l).count 0
    held_by_lem u l h (yes e) =
        let past : thread s u ≡ ended = get_or-eq_default s.threads ended (omega (arith, e)) in
        ap (λ (q : ℕ). occurs l (holds (get_or (s.threads ++ (y ∷ [])) q ended))) e
        ∙ ap (λ (v : Thread). occurs l (holds v)) (more_new s.threads y ended) ∙ ap (occurs l) none
        ∙ sym (ap (λ (v : Thread). occurs l (holds v)) past) ∙ tr.held u l h
    held_by_lem u l h (no g) =
        ap (λ (v : Thread). occurs l (holds v)) (more_old s.threads y ended u g) ∙ tr.held u l h

    want_by : (i : ℕ) → Dec (i ≡ length s.threads) → i < length (s.threads ++ (y ∷ []))
        → get_or (set m.wants m.threads w) i Free ≡ want_of (get_or (s.threads ++ (y ∷ [])) i ended)
    want_by i (yes e) h =
        let j : i ≡ m.threads = e ∙ sym tr.threads in
        let k = tr.threads in
        let g = tr.wants_long in
        ap (λ (q : ℕ). get_or (set m.wants m.threads w) q Free) j
        ∙ get_or-set_same m.wants m.threads w Free (omega (arith, k, g, few)) ∙ wy
        ∙ ap want_of (sym (ap (λ (q : ℕ). get_or (s.threads ++ (y ∷ [])) q ended) e ∙ more_new s.threads y ended))
    want_by i (no g) h =
        get_or-set_other m.wants m.threads i w Free (λ q. g (q ∙ tr.threads)) ∙ tr.wants.wanted i (below i h g)
        ∙ ap want_of (sym (more_old s.threads y ended i g))

    small_by : (i : ℕ) → Dec (i ≡ length s.threads) → SmallWant (get_or (s.threads ++ (y ∷ [])) i ended)
    small_by i (yes e) =
        subst SmallWant
        (sym (ap (λ (q : ℕ). get_or (s.threads ++ (y ∷ [])) q ended) e ∙ more_new s.threads y ended)) small
    small_by i (no g) = subst SmallWant (sym (more_old s.threads y ended i g)) (tr.wants.small i)

-- not crowded: there is a number and a record for one more thread
not_crowded : (lent : ℕ) (s : State) → crowded? lent s ≡ false
    → (length s.threads < lent) × (length s.threads < most_threads)
not_crowded lent s e = by (leb lent (length s.threads)) (leb most_threads (length s.threads)) refl refl e
  where
    by : (p q : Bool) → leb lent (length s.threads) ≡ p → leb most_threads (length s.threads) ≡ q
        → (p || q) ≡ false → (length s.threads < lent) × (length s.threads < most_threads)
    by true q i j f = absurd (let y : ◌≡◌ {A = ℕ} 0 1 = cc in omega arith)
    by false true i j f = absurd (let y : ◌≡◌ {A = ℕ} 0 1 = cc in omega arith)
    by false false i j f =
        (leb-false lent (length s.threads) i, leb-false most_threads (length s.threads) j)

module _ (P : Program) (z : Section) (R : Result) (s : State) (ts : List Record) (m : Machine) where
  -- FORK
  pub tick_fork :
      (i : ℕ) (c d : Code) (e : Env) (fs : List Frame) → Taking P z R s ts m (at (fork i c d) e fs)
      → (q : State) × On P z R q (records_after z ts m) (machine_after z ts m)
  unfolding step beyond? with_thread with_more
  tick_fork i c d e fs k = room (crowded? m.lent s) refl
    where
      f : FollowsAt z (fork i c d) e fs (looked ts m)
      f = followed P z R s ts m (at (fork i c d) e fs) k

      sz : Sized (looked ts m)
      sz = size_of P z R s ts m (at (fork i c d) e fs) k

      item : tick_as z (looked ts m) m ≡ fork_as z.bytes (link_at z (looked ts m).at) (looked ts m) m
      item = tick_item P z R s ts m (at (fork i c d) e fs) k f.runs (code FORK) f.stand.2.0.1

      crowd : crowded_at m ≡ crowded? m.lent s
      crowd = ap (λ (n : ℕ). leb m.lent n || leb most_threads n) k.tracks.threads

      room : (b : Bool) → crowded? m.lent s ≡ b
          → (q : State) × On P z R q (records_after z ts m) (machine_after z ts m)
      room true h = (
        s,
        tick_beyond P z R s ts m k.tracks k.stage
            (past_limit P z R s ts m (at (fork i c d) e fs) k h)
            (item ∙ first_of (crowded_at m) (beyond_as (looked ts m) m) _ (crowd ∙ h)),
      )
      room false h =
          let t = looked ts m in
          let next = link_at z (looked ts m).at in
          let u = moved_to t next in
          let x = at d e fs in
          let s' = with_thread s m.pick x s.made in
          let on : is_born m.stage ≡ false = ap is_born k.stage in
          let ff = follows_fork z i c d e fs t f in
          let n = wants_as (counted_as m) m.pick (want_at z.bytes t next) in
          let w : n.wants ≡ set m.wants m.pick (want_of x) =
          ap (set m.wants m.pick) (want_is z d e fs u ff) in
          let tk = tracks_step z s ts m n m.pick s.made x u k.tracks on on k.due.started ff
          (record { kinds = sz.kinds; goes = sz.goes; names = sz.names }) (want_small z d e fs u ff)
          k.tracks.few_locks refl refl k.tracks.made w
          (held_same s m m.pick s.made x k.due.started
          (λ l. ap (λ (y : Thread). occurs l (holds y)) (sym k.is)) k.tracks.held)
          k.tracks.locks_long in
          let nc = not_crowded m.lent s h in
          let l1 = length-set s.threads m.pick x in
          let l2 = length-set ts m.pick u in
          let kl = k.tracks.lent in
          let kt = k.tracks.threads in
          let y = at c e [] in
          let at' = (looked ts m).at + 1 in
          let names = level t.names t.depth most_names in
          let mt = tracks_more z s' (set ts m.pick u) n at' names (want_at z.bytes t at') y tk on
          (omega (arith, nc.1, l1)) (omega (arith, nc.0, l1, l2, kl))
          (want_here z false at' c (link_at z (looked ts m).at) t e [] f.stand.2.1
          (λ v g. same_lock z (fork i c d) e fs t v f g))
          (small_here z false at' c (link_at z (looked ts m).at) e [] f.stand.2.1 f.small) refl
          (λ v sv. follows_born z i c d e fs t v sv f) in
          let l3 = more_long s'.threads y in
          let r1 : m.read + 1 ≡ suc m.read = omega arith in (
            with_more s' y,
            subst (λ (r : Ticked). On P z R (with_more s' y) (set ts m.pick r.thread) r.machine)
                (sym (item ∙ second_of (crowded_at m) (beyond_as (looked ts m) m) _ (crowd ∙ h))) (
                  mt,
                  births refl (omega (arith, l1, l3, kt))
                      (rw r1 (stepped P z R s ts m (at (fork i c d) e fs) k h)),
                ),
          )
