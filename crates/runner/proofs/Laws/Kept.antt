-- Records of threads that were not started are as they were.
use Rattle.std.specs.Prelude.{◌≡◌, refl, Bool, true, false, cond, List, ℕ, ◌+◌, ◌-◌, ◌%◌, ◌<◌, ◌≤◌, eqb, leb, length, get_or}
use Rattle.std.proofs.Common.{sym, ◌∙◌, ap, arith, get_or-set_other}
use Rattle.steps.specs.Steps.{other_as, mirror_as, operand_of}
use Rattle.table.specs.Program.{Program}
use Rattle.run.specs.Run.{State}
use Rattle.table.specs.Constants.{END, NEW, LOCK, FORK, CHOICE, CALL, MIRROR, code, most_names}
use Rattle.schedule.specs.Limits.{most_threads, most_locks}
use Rattle.schedule.specs.Schedule.{Result}
use Rattle.steps.specs.declared.thread.Thread.{Thread as Record}
use Rattle.steps.specs.Shown.{blank}
use Rattle.steps.specs.Records.{level, moved_to, finished_as, bound_to, entered_as, called_as, left_to, born_at}
use Rattle.steps.specs.declared.machine.Machine.{Machine}
use Rattle.steps.specs.Machines.{is_born, is_open, is_over, turned, view, over_as, next_byte, settled_as, taken_by}
use Rattle.steps.specs.Machines.{given_back, made_one, counted_as, wants_as, want_at, held_elsewhere, starting_as, full_at}
use Rattle.steps.specs.Machines.{crowded_at}
use Rattle.steps.specs.Steps.{pair, beyond_as, idle_as, done_as, top_of, close_as, end_as, new_as, lock_as, fork_as, choice_as}
use Rattle.steps.specs.Steps.{side_of, call_as, item_by, item_as, step_as}
use Rattle.steps.specs.declared.machine.Ending.TheVariants.{Open, Unstarted}
use Rattle.steps.specs.declared.machine.Stage.TheVariants.{Turn}
use Rattle.steps.specs.Steps.{Ticked}
use Rattle.steps.specs.declared.machine.Want.TheVariants.{Gone}
use Rattle.links.specs.Lies.{Section}
use Rattle.runner.specs.Ticks.{looked, tick_as, machine_after, Ticks, start, more}
use Rattle.runner.proofs.Laws.Settles.{Stage, births, turns, over}
use Rattle.runner.proofs.Laws.Ticking.{On}
use Rattle.links.specs.Lies.{Bodies}
use Rattle.runner.proofs.Laws.Runs.{OnRun, on_ticks}

-- what holds of both branches holds of the branch taken
pub either : {A : Type 0} (Q : A → Type 0) (b : Bool) (x y : A) → Q x → Q y → Q (cond b x y)
either Q true x y p q = p
either Q false x y p q = q

-- settling starts no thread
settled_threads : (m : Machine) (bs : List ℕ) → (settled_as m bs).threads ≡ m.threads
settled_threads m bs =
    either Q (is_open (view m m.threads)) (next_byte m bs) (over_as m (view m m.threads))
    (either Q (leb (length bs) m.read) (over_as m Open)
    (cond (leb m.threads (get_or bs m.read 0 % most_threads)) (over_as m Unstarted)
    (turned m Turn m.read (get_or bs m.read 0 % most_threads))) refl
    (either Q (leb m.threads (get_or bs m.read 0 % most_threads)) (over_as m Unstarted)
    (turned m Turn m.read (get_or bs m.read 0 % most_threads)) refl refl)) refl
  where
    Q : Machine → Type 0
    Q k = k.threads ≡ m.threads

-- a tick never has fewer threads than before
abbrev More : Machine → Ticked → Type 0
More m r = m.threads ≤ r.machine.threads

idle_more : (bs : List ℕ) (t : Record) (m : Machine) → More m (idle_as bs t m)
idle_more bs t m = let e = settled_threads (counted_as m) bs in omega (arith, e)

done_more : (s bs : List ℕ) (u : Record) (m n : Machine) → n.threads ≡ m.threads → More m (done_as s bs u n)
done_more s bs u m n e =
    let h = settled_threads (wants_as (counted_as n) n.pick (want_at s u u.at)) bs in omega (arith, e, h)

module _ (ks s heads links bs : List ℕ) (t : Record) (m : Machine) where
  beyond_more : More m (beyond_as t m)
  beyond_more = let h : m.threads ≤ m.threads = omega arith in h

  limited : (b : Bool) (r : Ticked) → More m r → More m (cond b (beyond_as t m) r)
  limited b r p = either (More m) b (beyond_as t m) r beyond_more p

  close_more : More m (close_as s bs t m)
  close_more =
      either (More m) (eqb (top_of t) (most_locks + 1)) (done_as s bs (left_to t (get_or t.goes (t.depth - 1) 0)) m)
      (cond (eqb (top_of t) most_locks) (done_as s bs (left_to t (t.at + 1)) m)
      (done_as s bs (left_to t (t.at + 1)) (given_back m (top_of t))))
      (done_more s bs (left_to t (get_or t.goes (t.depth - 1) 0)) m m refl)
      (either (More m) (eqb (top_of t) most_locks) (done_as s bs (left_to t (t.at + 1)) m)
      (done_as s bs (left_to t (t.at + 1)) (given_back m (top_of t)))
      (done_more s bs (left_to t (t.at + 1)) m m refl)
      (done_more s bs (left_to t (t.at + 1)) m (given_back m (top_of t)) refl))

  end_more : More m (end_as s bs t m)
  end_more =
      either (More m) (eqb t.depth 0)
      (pair (finished_as t) (settled_as (wants_as (counted_as m) m.pick Gone) bs)) (close_as s bs t m)
      (let e = settled_threads (wants_as (counted_as m) m.pick Gone) bs in omega (arith, e)) close_more

  lock_more : (l : ℕ) → More m (lock_as s bs l t m)
  lock_more l =
      either (More m) (held_elsewhere m m.pick l) (idle_as bs t m)
      (cond (full_at m.pick t.depth) (beyond_as t m)
      (done_as s bs (entered_as t l (t.at + 2)) (taken_by m m.pick l)))
      (idle_more bs t m)
      (limited (full_at m.pick t.depth) (done_as s bs (entered_as t l (t.at + 2)) (taken_by m m.pick l))
      (done_more s bs (entered_as t l (t.at + 2)) m (taken_by m m.pick l) refl))

  fork_more : (next : ℕ) → More m (fork_as s next t m)
  fork_more next =
      limited (crowded_at m)
      (pair (moved_to t next)
      (starting_as (wants_as (counted_as m) m.pick (want_at s t next)) (t.at + 1)
      (level t.names t.depth most_names) (want_at s t (t.at + 1))))
      (let h : m.threads ≤ m.threads + 1 = omega arith in h)

  item_more : (b : ℕ) → More m (item_by ks s heads links bs t m b)
  item_more b =
      let k = get_or links t.at 0 in
      let to = side_of (get_or bs m.read 0) (t.at + 1) k in
      let u = called_as t s (t.at + 2) (get_or ks (get_or s (t.at + 1) 0) 0) (get_or heads (get_or s (t.at + 1) 0) 0) in
      let r8 = other_as s bs k t m in
      let x7 = mirror_as s bs k (operand_of s t) t m in
      let r7 = cond (eqb b (code MIRROR)) x7 r8 in
      let x6 = call_as ks s heads bs t m in
      let r6 = cond (eqb b (code CALL)) x6 r7 in
      let x5 = choice_as s bs to t m in
      let r5 = cond (eqb b (code CHOICE)) x5 r6 in
      let x4 = fork_as s k t m in
      let r4 = cond (eqb b (code FORK)) x4 r5 in
      let x3 = lock_as s bs (operand_of s t) t m in
      let r3 = cond (eqb b (code LOCK)) x3 r4 in
      let x2 = new_as s bs k t m in
      let r2 = cond (eqb b (code NEW)) x2 r3 in
      either (More m) (eqb b (code END)) (end_as s bs t m) r2 end_more
      (either (More m) (eqb b (code NEW)) x2 r3
      (limited (leb most_locks m.made) (done_as s bs (bound_to t k m.made (t.at + 1)) (made_one m))
      (done_more s bs (bound_to t k m.made (t.at + 1)) m (made_one m) refl))
      (either (More m) (eqb b (code LOCK)) x3 r4 (lock_more (operand_of s t))
      (either (More m) (eqb b (code FORK)) x4 r5 (fork_more k)
      (either (More m) (eqb b (code CHOICE)) x5 r6
      (limited (full_at m.pick t.depth) (done_as s bs (entered_as t most_locks to) m)
      (done_more s bs (entered_as t most_locks to) m m refl))
      (either (More m) (eqb b (code CALL)) x6 r7
      (limited (full_at m.pick t.depth) (done_as s bs u m) (done_more s bs u m m refl))
      (either (More m) (eqb b (code MIRROR)) x7 r8
      (done_more s bs (bound_to t k (operand_of s t) (t.at + 2)) m m refl) (done_more s bs (left_to t k) m m refl)))))))

  step_more : More m (step_as ks s heads links bs t m)
  unfolding step_as
  step_more =
      either (More m) (is_born m.stage) (pair (born_at t m.head m.born) (settled_as m bs))
      (cond t.ended (idle_as bs t m) (item_as ks s heads links bs t m))
      (let e = settled_threads m bs in omega (arith, e))
      (either (More m) t.ended (idle_as bs t m) (item_as ks s heads links bs t m) (idle_more bs t m)
      (item_more (get_or s t.at 0)))

-- the record that is looked at is that of a thread that was started
picked : (P : Program) (z : Section) (R : Result) (s : State) (ts : List Record) (m : Machine) → On P z R s ts m
    → is_over m.stage ≡ false → m.pick < m.threads
picked P z R s ts m on going = by on.1
  where
    by : Stage P z R s m → m.pick < m.threads
    by (births e p n) = let h = on.0.threads in omega (arith, p, h)
    by (turns e n d) = let h = on.0.threads in let g = d.started in omega (arith, g, h)
    by (over w e r) = absurd (let z : ◌≡◌ {A = Bool} false true = sym going ∙ ap is_over e in cc)

-- records from the number of threads on are as they were
pub kept :
    (P : Program) (z : Section) (R : Result) (bodies : Bodies P z) (ts us : List Record) (m n : Machine)
    → Ticks z ts m us n → OnRun P z R bodies ts m → (i : ℕ) → n.threads ≤ i → get_or us i blank ≡ get_or ts i blank
kept P z R bodies ts us m n ticks on i h = go us n ticks h
  where
    go : (ws : List Record) (j : Machine) → Ticks z ts m ws j → j.threads ≤ i → get_or ws i blank ≡ get_or ts i blank
    go ws j start h = refl
    go ws j (more vs xs k l before going v w sized) h =
        let q = on_ticks P z R bodies ts vs m k before on in
        let p = picked P z R q.0 vs k q.1 going in
        let g : k.threads ≤ (machine_after z vs k).threads =
        step_more z.counts z.bytes z.heads z.links z.schedule (looked vs k) k in
        let e : j.threads ≡ (machine_after z vs k).threads = ap (λ (x : Machine). x.threads) w in
        ap (λ (x : List Record). get_or x i blank) v
        ∙ get_or-set_other vs k.pick i (tick_as z (looked vs k) k).thread blank (λ y. omega (arith, y, p, g, e, h))
        ∙ go vs k before (omega (arith, g, e, h))
