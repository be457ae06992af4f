-- A tick leaves less to do: it reads a byte, or writes the record of the thread that the byte before it started.
use Rattle.std.specs.Prelude.{◌≡◌, Bool, ℕ, ◌+◌, ◌*◌, ◌-◌, ◌%◌, ◌<◌, ◌≤◌, eqb, leb, length, get_or}
use Rattle.std.proofs.Math.Path.{refl, subst}
use Rattle.std.proofs.Common.{false, sym, ap, arith}
use Rattle.std.proofs.Math.Bool.{cond}
use Rattle.steps.specs.Steps.{other_as, mirror_as, operand_of}
use Rattle.table.specs.Constants.{END, NEW, LOCK, FORK, CHOICE, CALL, MIRROR, code, most_names}
use Rattle.schedule.specs.Limits.{most_threads, most_locks}
use Rattle.steps.specs.declared.thread.Thread.{Thread as Record}
use Rattle.steps.specs.Records.{level, moved_to, finished_as, bound_to, entered_as, called_as, left_to, born_at}
use Rattle.steps.specs.declared.machine.Machine.{Machine}
use Rattle.steps.specs.Machines.{is_born, is_open}
use Rattle.steps.specs.Machines.{turned, view, over_as, next_byte, settled_as, taken_by, given_back, made_one, counted_as}
use Rattle.steps.specs.Machines.{wants_as, want_at, held_elsewhere, starting_as, full_at, crowded_at}
use Rattle.steps.specs.Steps.{pair, beyond_as, idle_as, done_as, top_of, close_as, end_as, new_as, lock_as, fork_as, choice_as}
use Rattle.steps.specs.Steps.{side_of, call_as, item_by, item_as, step_as}
use Rattle.steps.specs.declared.machine.Ending.TheVariants.{Open, Unstarted}
use Rattle.steps.specs.declared.machine.Stage.TheVariants.{Born, Turn}
use Rattle.steps.specs.Steps.{Ticked}
use Rattle.steps.specs.declared.machine.Want.TheVariants.{Gone}
use Rattle.links.specs.Lies.{Section}
use Rattle.runner.specs.Ticks.{tick_as, left}
use Rattle.runner.proofs.Laws.Kept.{either}

-- what is left once the machine has settled
settled_left :
    (z : Section) (m : Machine) → left z (settled_as m z.schedule) ≤ 2 * (length z.schedule - m.read) + 1
settled_left z m =
    either Q (is_open (view m m.threads)) (next_byte m z.schedule) (over_as m (view m m.threads))
    (either Q (leb (length z.schedule) m.read) (over_as m Open)
    (cond (leb m.threads (get_or z.schedule m.read 0 % most_threads)) (over_as m Unstarted)
    (turned m Turn m.read (get_or z.schedule m.read 0 % most_threads))) over
    (either Q (leb m.threads (get_or z.schedule m.read 0 % most_threads)) (over_as m Unstarted)
    (turned m Turn m.read (get_or z.schedule m.read 0 % most_threads)) over on)) over
  where
    Q : Machine → Type 0
    Q k = left z k ≤ 2 * (length z.schedule - m.read) + 1

    over : 0 ≤ 2 * (length z.schedule - m.read) + 1
    over = omega arith

    on : 2 * (length z.schedule - m.read) + 1 ≤ 2 * (length z.schedule - m.read) + 1
    on = omega arith

-- a tick leaves as much as two for each byte that was left before it, the one that it reads among them
abbrev Less : Section → Machine → Ticked → Type 0
Less z m r = left z r.machine ≤ 2 * (length z.schedule - m.read)

module _ (z : Section) (t : Record) (m : Machine) (inside : m.read < length z.schedule) where
  read_less : (n : Machine) → n.read ≡ m.read + 1 → left z (settled_as n z.schedule)
      ≤ 2 * (length z.schedule - m.read)
  read_less n e = let h = settled_left z n in omega (arith, h, e, inside)

  idle_less : Less z m (idle_as z.schedule t m)
  idle_less = read_less (counted_as m) refl

  done_less : (u : Record) (n : Machine) → n.read ≡ m.read → Less z m (done_as z.bytes z.schedule u n)
  done_less u n e =
      read_less (wants_as (counted_as n) n.pick (want_at z.bytes u u.at)) (ap (λ (v : ℕ). v + 1) e)

  beyond_less : Less z m (beyond_as t m)
  beyond_less = let h : 0 ≤ 2 * (length z.schedule - m.read) = omega arith in h

  limited : (b : Bool) (r : Ticked) → Less z m r → Less z m (cond b (beyond_as t m) r)
  limited b r p = either (Less z m) b (beyond_as t m) r beyond_less p

  close_less : Less z m (close_as z.bytes z.schedule t m)
  close_less =
      let u = left_to t (t.at + 1) in
      let v = left_to t (get_or t.goes (t.depth - 1) 0) in
      let r = done_as z.bytes z.schedule u (given_back m (top_of t)) in
      either (Less z m) (eqb (top_of t) (most_locks + 1)) (done_as z.bytes z.schedule v m)
      (cond (eqb (top_of t) most_locks) (done_as z.bytes z.schedule u m) r) (done_less v m refl)
      (either (Less z m) (eqb (top_of t) most_locks) (done_as z.bytes z.schedule u m) r (done_less u m refl)
      (done_less u (given_back m (top_of t)) refl))

  end_less : Less z m (end_as z.bytes z.schedule t m)
  end_less =
      let n = wants_as (counted_as m) m.pick Gone in
      either (Less z m) (eqb t.depth 0) (pair (finished_as t) (settled_as n z.schedule))
      (close_as z.bytes z.schedule t m) (read_less n refl) close_less

  lock_less : (l : ℕ) → Less z m (lock_as z.bytes z.schedule l t m)
  lock_less l =
      let r = done_as z.bytes z.schedule (entered_as t l (t.at + 2)) (taken_by m m.pick l) in
      either (Less z m) (held_elsewhere m m.pick l) (idle_as z.schedule t m)
      (cond (full_at m.pick t.depth) (beyond_as t m) r) idle_less
      (limited (full_at m.pick t.depth) r
      (done_less (entered_as t l (t.at + 2)) (taken_by m m.pick l) refl))

  fork_less : (next : ℕ) → Less z m (fork_as z.bytes next t m)
  fork_less next =
      limited (crowded_at m)
      (pair (moved_to t next)
      (starting_as (wants_as (counted_as m) m.pick (want_at z.bytes t next)) (t.at + 1)
      (level t.names t.depth most_names) (want_at z.bytes t (t.at + 1))))
      (let h : 2 * (length z.schedule - (m.read + 1)) + 2 ≤ 2 * (length z.schedule - m.read) =
      omega (arith, inside) in h)

  item_less : (b : ℕ) → Less z m (item_by z.counts z.bytes z.heads z.links z.schedule t m b)
  item_less b =
      let s = z.bytes in
      let bs = z.schedule in
      let k = get_or z.links t.at 0 in
      let to = side_of (get_or bs m.read 0) (t.at + 1) k in
      let u = called_as t s (t.at + 2) (get_or z.counts (get_or s (t.at + 1) 0) 0) (get_or z.heads (get_or s
      (t.at + 1) 0) 0) in
      let r8 = other_as s bs k t m in
      let x7 = mirror_as s bs k (operand_of s t) t m in
      let r7 = cond (eqb b (code MIRROR)) x7 r8 in
      let x6 = call_as z.counts s z.heads bs t m in
      let r6 = cond (eqb b (code CALL)) x6 r7 in
      let x5 = choice_as s bs to t m in
      let r5 = cond (eqb b (code CHOICE)) x5 r6 in
      let x4 = fork_as s k t m in
      let r4 = cond (eqb b (code FORK)) x4 r5 in
      let x3 = lock_as s bs (operand_of s t) t m in
      let r3 = cond (eqb b (code LOCK)) x3 r4 in
      let x2 = new_as s bs k t m in
      let r2 = cond (eqb b (code NEW)) x2 r3 in
      either (Less z m) (eqb b (code END)) (end_as s bs t m) r2 end_less
      (either (Less z m) (eqb b (code NEW)) x2 r3
      (limited (leb most_locks m.made) (done_as s bs (bound_to t k m.made (t.at + 1)) (made_one m))
      (done_less (bound_to t k m.made (t.at + 1)) (made_one m) refl))
      (either (Less z m) (eqb b (code LOCK)) x3 r4 (lock_less (operand_of s t))
      (either (Less z m) (eqb b (code FORK)) x4 r5 (fork_less k)
      (either (Less z m) (eqb b (code CHOICE)) x5 r6
      (limited (full_at m.pick t.depth) (done_as s bs (entered_as t most_locks to) m)
      (done_less (entered_as t most_locks to) m refl))
      (either (Less z m) (eqb b (code CALL)) x6 r7
      (limited (full_at m.pick t.depth) (done_as s bs u m) (done_less u m refl))
      (either (Less z m) (eqb b (code MIRROR)) x7 r8
      (done_less (bound_to t k (operand_of s t) (t.at + 2)) m refl) (done_less (left_to t k) m refl)))))))

  -- a byte is read
  pub turn_less : m.stage ≡ Turn → left z (tick_as z t m).machine < left z m
  unfolding step_as
  turn_less e =
      let i = item_as z.counts z.bytes z.heads z.links z.schedule t m in
      let b = pair (born_at t m.head m.born) (settled_as m z.schedule) in
      let n : is_born m.stage ≡ false = ap is_born e in
      let h : Less z m (cond t.ended (idle_as z.schedule t m) i) =
      either (Less z m) t.ended (idle_as z.schedule t m) i idle_less (item_less (get_or z.bytes t.at 0)) in
      let g : left z m ≡ 2 * (length z.schedule - m.read) + 1 = rw e refl in
      let w : cond (is_born m.stage) b (cond t.ended (idle_as z.schedule t m) i)
      ≡ cond t.ended (idle_as z.schedule t m) i = rw (n) refl in
      let k : left z (cond (is_born m.stage) b (cond t.ended (idle_as z.schedule t m) i)).machine
      ≤ 2 * (length z.schedule - m.read) = subst (Less z m) (sym w) h in
      omega (arith, k, g)

-- a record is written
pub birth_less : (z : Section) (t : Record) (m : Machine) → m.stage ≡ Born → left z (tick_as z t m).machine < left z m
unfolding step_as
birth_less z t m e =
    let i = item_as z.counts z.bytes z.heads z.links z.schedule t m in
    let b = pair (born_at t m.head m.born) (settled_as m z.schedule) in
    let h = settled_left z m in
    let g : left z m ≡ 2 * (length z.schedule - m.read) + 2 = rw e refl in
    let w : cond (is_born m.stage) b (cond t.ended (idle_as z.schedule t m) i) ≡ b =
    rw (ap is_born e) refl in
    let k : left z (cond (is_born m.stage) b (cond t.ended (idle_as z.schedule t m) i)).machine
    ≤ 2 * (length z.schedule - m.read) + 1 =
    subst (λ (r : Ticked). left z r.machine ≤ 2 * (length z.schedule - m.read) + 1) (sym w) h in
    omega (arith, k, g)
