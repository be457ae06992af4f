-- Where the machine tracks the state, its tests say what the run says: which locks others hold, and how threads stand.
use Rattle.std.specs.Prelude.{◌≡◌, refl, ◌≢◌, ◌⊎◌, Bool, true, false, cond, not, List, [], ◌∷◌, ℕ, suc, ◌+◌}
use Rattle.std.specs.Prelude.{◌<◌, ◌≤◌, eqb, length, get_or}
use Rattle.std.proofs.Common.{sym, ◌∙◌, ap, inl, inr, arith, eq-eqb, ne_eqb, eqb-true}
use Rattle.std.proofs.Math.Decide.{ℕ_discrete}
use Rattle.std.proofs.lemmas.Bool.{eqb-false, not-true, not-false}
use Rattle.table.specs.WellFormed.{In}
use Rattle.table.specs.Program.{Code, end, new, lock, fork, choice, call, mirror}
use Rattle.run.specs.Run.{Env, Frame, Thread, ended, at, State, thread, holds, taken?}
use Rattle.schedule.specs.Limits.{most_locks}
use Rattle.schedule.specs.Schedule.{Outlook, none_left, all_wait, some_can, and_waiting, outlook_from, outlook}
use Rattle.steps.specs.declared.machine.Machine.{Machine}
use Rattle.steps.specs.Machines.{lock_at, held_elsewhere, worse, join_at, view}
use Rattle.steps.specs.declared.machine.Ending.{Ending}
use Rattle.steps.specs.declared.machine.Ending.TheVariants.{Ended, Stuck, Open, Unstarted, Beyond}
use Rattle.steps.specs.declared.machine.Want.TheVariants.{Free, Gone}
use Rattle.steps.specs.declared.machine.Want.TheVariants as want
use Rattle.runner.specs.Tracks.{occurs, Held, want_of, Wants, outlook_ending}

-- an entry occurs
pub occurs_in : (l : ℕ) (xs : List ℕ) → 1 ≤ occurs l xs → In l xs
occurs_in l [] h = omega (arith, h)
occurs_in l (x ∷ xs) h = by (ℕ_discrete x l) (occurs_in l xs)
  where
    by : Dec (x ≡ l) → (1 ≤ occurs l xs → In l xs) → In l (x ∷ xs)
    by (yes e) f = inl (sym e)
    by (no n) f = inr (f (rw (ne_eqb x l n) at h))

in_occurs : (l : ℕ) (xs : List ℕ) → In l xs → 1 ≤ occurs l xs
in_occurs l [] i = elim i [ ]
in_occurs l (x ∷ xs) i = by (ℕ_discrete x l) i (in_occurs l xs)
  where
    by : Dec (x ≡ l) → In l (x ∷ xs) → (In l xs → 1 ≤ occurs l xs)
        → 1 ≤ cond (eqb x l) (suc (occurs l xs)) (occurs l xs)
    by (yes e) i f = rw (eq-eqb x l e) (omega arith)
    by (no n) (inl e) f = absurd (n (sym e))
    by (no n) (inr j) f = rw (ne_eqb x l n) (f j)

-- what the machine says of a lock is what the run says
pub held_is :
    (s : State) (m : Machine) (t l : ℕ) → Held s m → l < most_locks
    → ◌≡◌ {A = Bool} (elim (taken? s t l) [ yes h ↦ true | no n ↦ false ]) (held_elsewhere m t l)
held_is s m t l held h = by (taken? s t l) (held_elsewhere m t l) refl
  where
    count : ℕ
    count = (lock_at m l).count

    owner : ℕ
    owner = (lock_at m l).owner

    none : (u : ℕ) → (eqb (lock_at m l).owner u ≡ false ⊎ (lock_at m l).count ≡ 0) → In l (holds (thread s u)) → ⊥
    none u (inl e) i =
        let k = in_occurs l (holds (thread s u)) i in
        let q : occurs l (holds (thread s u)) ≡ 0 = held u l h ∙ rw e refl in
        omega (arith, k, q)
    none u (inr e) i =
        let k = in_occurs l (holds (thread s u)) i in
        let q : occurs l (holds (thread s u)) ≡ 0 = held u l h ∙ zeros (eqb (lock_at m l).owner u) in
        omega (arith, k, q)
      where
        zeros : (b : Bool) → cond b (lock_at m l).count 0 ≡ 0
        zeros true = e
        zeros false = refl

    -- the machine says that another thread holds it
    some : cond (eqb (lock_at m l).count 0) false (not (eqb (lock_at m l).owner t)) ≡ true
        → (u : ℕ) × ((u ≢ t) × In l (holds (thread s u)))
    some e = split (ℕ_discrete (lock_at m l).count 0)
      where
        split : Dec ((lock_at m l).count ≡ 0) → (u : ℕ) × ((u ≢ t) × In l (holds (thread s u)))
        split (yes z) =
            let k : false ≡ true = rw (eq-eqb (lock_at m l).count 0 z) at e in
            absurd (let y : ◌≡◌ {A = ℕ} 0 1 = cc in omega arith)
        split (no z) =
            let k : not (eqb (lock_at m l).owner t) ≡ true = rw (ne_eqb (lock_at m l).count 0 z) at e in
            let o = (lock_at m l).owner in
            let q : occurs l (holds (thread s o)) ≡ (lock_at m l).count = held o l h ∙ rw (eq-eqb o o refl) refl in
            (o, (eqb-false o t (not-true (eqb o t) k), occurs_in l (holds (thread s o)) (omega (arith, q, z))))

    -- it says that no other thread does
    no_other : cond (eqb (lock_at m l).count 0) false (not (eqb (lock_at m l).owner t)) ≡ false
        → (u : ℕ) → u ≢ t → In l (holds (thread s u)) → ⊥
    no_other e u n i = split (ℕ_discrete (lock_at m l).count 0)
      where
        split : Dec ((lock_at m l).count ≡ 0) → ⊥
        split (yes z) = none u (inr z) i
        split (no z) =
            let k : not (eqb (lock_at m l).owner t) ≡ false = rw (ne_eqb (lock_at m l).count 0 z) at e in
            let o : (lock_at m l).owner ≡ t =
            eqb-true (lock_at m l).owner t (not-false (eqb (lock_at m l).owner t) k) in
            none u (inl (ne_eqb (lock_at m l).owner u (λ q. n (sym q ∙ o)))) i

    by : (d : Dec ((u : ℕ) × ((u ≢ t) × In l (holds (thread s u))))) (b : Bool)
        → cond (eqb (lock_at m l).count 0) false (not (eqb (lock_at m l).owner t)) ≡ b
        → ◌≡◌ {A = Bool} (elim d [ yes h ↦ true | no n ↦ false ]) b
    by (yes p) true e = refl
    by (yes p) false e = absurd (no_other e p.0 p.1.0 p.1.1)
    by (no n) true e = absurd (n (some e))
    by (no n) false e = refl

-- threads that stand as v says beside others
abbrev beside : Ending → Outlook → Ending
beside v none_left = v
beside v all_wait = worse v
beside v some_can = Open

worse_twice : (v : Ending) → worse (worse v) ≡ worse v
worse_twice Ended = refl
worse_twice Stuck = refl
worse_twice Open = refl
worse_twice Unstarted = refl
worse_twice Beyond = refl

beside_waiting : (v : Ending) (o : Outlook) → beside (worse v) o ≡ beside v (and_waiting o)
beside_waiting v none_left = refl
beside_waiting v all_wait = worse_twice v
beside_waiting v some_can = refl

beside_can : (o : Outlook) → beside Open o ≡ Open
beside_can none_left = refl
beside_can all_wait = refl
beside_can some_can = refl

-- a thread that has ended changes nothing
join_ended : (m : Machine) (t : ℕ) (v : Ending) → get_or m.wants t Free ≡ Gone → join_at m t v ≡ v
join_ended m t v e = rw e refl

join_free : (m : Machine) (t : ℕ) (v : Ending) → get_or m.wants t Free ≡ Free → join_at m t v ≡ Open
join_free m t v e = rw e refl

-- a thread that wants a lock waits for it or not
join_lock :
    (m : Machine) (t : ℕ) (v : Ending) (l : ℕ) (b : Bool) → get_or m.wants t Free ≡ want.Lock l → b ≡ held_elsewhere m t l
    → join_at m t v ≡ cond b (worse v) Open
join_lock m t v l b e q = rw e (ap (λ (c : Bool). cond c (worse v) Open) (sym q))

-- one thread more
step_view : (m : Machine) (t : ℕ) → view m (suc t) ≡ join_at m t (view m t)
unfolding view
step_view m t = refl

-- no thread at all
no_view : (m : Machine) → view m 0 ≡ Ended
unfolding view
no_view m = refl

module _ (s : State) (m : Machine) (held : Held s m) (wants : Wants s m) where
  -- the threads from number t on, beside those below
  view_from :
      (xs : List Thread) (t : ℕ) → t + length xs ≡ length s.threads
      → ((i : ℕ) → get_or xs i ended ≡ thread s (t + i))
      → view m (t + length xs) ≡ beside (view m t) (outlook_from s t xs)
  view_from [] t long are = let h : t + 0 ≡ t = omega arith in rw h refl
  view_from (x ∷ xs) t long are =
      let h : t + suc (length xs) ≡ suc t + length xs = omega arith in
      let k : suc t + length xs ≡ length s.threads = omega (arith, long) in
      rw h
      (view_from xs (suc t) k (λ i. let g : suc t + i ≡ t + suc i = omega arith in rw g (are (suc i)))
      ∙ ap (λ (v : Ending). beside v (outlook_from s (suc t) xs)) (step_view m t)
      ∙ by x here)
    where
      here : x ≡ thread s t
      here = let g : t + 0 ≡ t = omega arith in rw g at (are 0)

      want : get_or m.wants t Free ≡ want_of (thread s t)
      want = wants.wanted t (omega (arith, long))

      locked :
          (y : ℕ) (c d : Code) (e : Env) (fs : List Frame) → at (lock y c d) e fs ≡ thread s t
          → (b : Bool) → elim (taken? s t (e y)) [ yes h ↦ true | no n ↦ false ] ≡ b
          → beside (join_at m t (view m t)) (outlook_from s (suc t) xs)
          ≡ beside (view m t) (cond b (and_waiting (outlook_from s (suc t) xs)) some_can)
      locked y c d e fs is true w =
          let small : e y < most_locks = rw (sym is) at (wants.small t) in
          let q = join_lock m t (view m t) (e y) true (want ∙ rw (sym is) refl)
          (sym w ∙ held_is s m t (e y) held small) in
          ap (λ (v : Ending). beside v (outlook_from s (suc t) xs)) q ∙ beside_waiting (view m t) (outlook_from s (suc t) xs)
      locked y c d e fs is false w =
          let small : e y < most_locks = rw (sym is) at (wants.small t) in
          let q = join_lock m t (view m t) (e y) false (want ∙ rw (sym is) refl)
          (sym w ∙ held_is s m t (e y) held small) in
          ap (λ (v : Ending). beside v (outlook_from s (suc t) xs)) q ∙ beside_can (outlook_from s (suc t) xs)

      free : (c : Code) (e : Env) (fs : List Frame) → at c e fs ≡ thread s t → want_of (at c e fs) ≡ Free
          → beside (join_at m t (view m t)) (outlook_from s (suc t) xs) ≡ Open
      free c e fs is w =
          ap (λ (v : Ending). beside v (outlook_from s (suc t) xs))
          (join_free m t (view m t) (want ∙ ap want_of (sym is) ∙ w))
          ∙ beside_can (outlook_from s (suc t) xs)

      by : (y : Thread) → y ≡ thread s t
          → beside (join_at m t (view m t)) (outlook_from s (suc t) xs) ≡ beside (view m t) (outlook_from s t (y ∷ xs))
      by ended is =
          ap (λ (v : Ending). beside v (outlook_from s (suc t) xs))
          (join_ended m t (view m t) (want ∙ ap want_of (sym is)))
      by (at (lock y c d) e fs) is =
          locked y c d e fs is (elim (taken? s t (e y)) [ yes h ↦ true | no n ↦ false ]) refl
      by (at end e fs) is = free end e fs is refl
      by (at (new y c) e fs) is = free (new y c) e fs is refl
      by (at (fork i c d) e fs) is = free (fork i c d) e fs is refl
      by (at (choice a b c) e fs) is = free (choice a b c) e fs is refl
      by (at (call r ys c) e fs) is = free (call r ys c) e fs is refl
      by (at (mirror x y c) e fs) is = free (mirror x y c) e fs is refl

  -- how the threads stand is as the machine says
  pub view_is : m.threads ≡ length s.threads → view m m.threads ≡ outlook_ending (outlook s)
  view_is e =
      let h : length s.threads ≡ 0 + length s.threads = omega arith in
      ap (view m) (e ∙ h) ∙ whole ∙ number (outlook s)
    where
      whole : view m (0 + length s.threads) ≡ beside (view m 0) (outlook s)
      whole =
          view_from s.threads 0 (omega arith) (λ i. let h : 0 + i ≡ i = omega arith in rw h refl)

      number : (o : Outlook) → beside (view m 0) o ≡ outlook_ending o
      number none_left = no_view m
      number all_wait = rw (no_view m) refl
      number some_can = refl
