-- What a tick needs, for each item: where the record follows its thread, the step is safe.
use Rattle.std.specs.Prelude.{◌≡◌, refl, Bool, true, false, cond, List, [], ◌∷◌, ℕ, zero, suc, ◌+◌, ◌-◌, ◌%◌, ◌<◌}
use Rattle.std.specs.Prelude.{◌≤◌, ◌^◌, eqb, leb, ltb, length, get_or}
use Rattle.std.proofs.Common.{sym, ◌∙◌, ap, subst, arith, eq-eqb, ne_eqb, leb-false}
use Rattle.std.proofs.Math.Decide.{dec_lt, ℕ_discrete}
use Rattle.std.proofs.Math.ListN.{get_or-eq_default}
use Rattle.steps.specs.Steps.{Ready}
use Rattle.rules.specs.Model.{bind}
use Rattle.table.specs.Constants.{END, NEW, LOCK, FORK, CHOICE, OTHER, CALL, MIRROR, code, most_names, most_bytes}
use Rattle.table.specs.Program.{Program, Code, end, new, lock, fork, choice, call, mirror, body}
use Rattle.run.specs.Run.{Env, Open, held, alternative, called, Frame, frame, Thread}
use Rattle.run.specs.Run.{ended, at, State, thread, holds, locks, pass}
use Rattle.schedule.specs.Limits.{most_threads, most_locks, most_frames, second_side}
use Rattle.schedule.specs.Schedule.{Result}
use Rattle.steps.specs.declared.thread.Thread.{Thread as Record}
use Rattle.steps.specs.Records.{lock_of, left_to, bound_to, entered_as, called_as, Level, Passes}
use Rattle.steps.specs.Shown.{blank, kind_of}
use Rattle.steps.specs.declared.machine.Machine.{Machine}
use Rattle.steps.specs.Machines.{taken_by, given_back, made_one, full_at, Item, Wanting}
use Rattle.steps.specs.Steps.{top_of, Counts, Goes, Closes, News, Mirrors, Operand, Locks, Calls, Items}
use Rattle.links.specs.Lies.{Section}
use Rattle.runner.specs.Ticks.{looked}
use Rattle.links.specs.Lies.{byte_at, link_at, IsAt, closer, Lies}
use Rattle.runner.specs.Follows.{target, FollowsAt, Follows}
use Rattle.runner.specs.Tracks.{occurs, want_of, SmallWant, written, Tracks}
use Rattle.runner.proofs.Laws.Items.{same_lock, follows_new, follows_mirror, follows_lock, follows_first}
use Rattle.runner.proofs.Laws.Items.{follows_second, follows_close}
use Rattle.runner.proofs.Laws.Calls.{follows_call}
use Rattle.runner.proofs.Laws.States.{not_both, want_is, want_small, held_given}
use Rattle.steps.specs.Machines.{is_born, lock_at, LowWant}
use Rattle.runner.proofs.Laws.Turns.{Taking, followed, size_of}
use Rattle.links.specs.Lies.{Bodies}
use Rattle.runner.specs.Bounds.{Bounds}

-- a lock that a thread wants is one that there can be
want_low : (x : Thread) → SmallWant x → LowWant (want_of x)
want_low ended s = tt
want_low (at end e fs) s = tt
want_low (at (new x c) e fs) s = tt
want_low (at (lock x c d) e fs) s = s
want_low (at (fork i c d) e fs) s = tt
want_low (at (choice a b c) e fs) s = tt
want_low (at (call r xs c) e fs) s = tt
want_low (at (mirror x y c) e fs) s = tt

-- the machine can look at every thread
pub wanting : (z : Section) (s : State) (ts : List Record) (m : Machine) → Tracks z s ts m → Wanting m
wanting z s ts m tr =
    let e = tr.threads in
    let f = tr.few in (
      omega (arith, e, f),
      λ t h. let w = tr.wants.wanted t (omega (arith, h, e)) in
          subst LowWant (sym w) (want_low (thread s t) (tr.wants.small t)),
    )

-- an item can be looked at where a code stands
pub item_here : (z : Section) (o : Bool) (from : ℕ) (c : Code) (to : ℕ) → Lies z o from c to → Item z.bytes from
item_here z true from end to l =
    let b = l.0.1 in record { inside = l.0.0; named = λ q. absurd (omega (arith, q, b)) }
item_here z false from end to l =
    let b = l.0.1 in record { inside = l.0.0; named = λ q. absurd (omega (arith, q, b)) }
item_here z o from (new x c) to l =
    let b = l.0.1 in record { inside = l.0.0; named = λ q. absurd (omega (arith, q, b)) }
item_here z o from (lock x c d) to l =
    let b = l.1.1 in
    let h = l.2 in
    record { inside = l.0.0; named = λ q. (l.1.0, omega (arith, b, h)) }
item_here z o from (fork i c d) to l =
    let b = l.0.1 in record { inside = l.0.0; named = λ q. absurd (omega (arith, q, b)) }
item_here z o from (choice a b' c) to l =
    let b = l.0.1 in record { inside = l.0.0; named = λ q. absurd (omega (arith, q, b)) }
item_here z o from (call r xs c) to l =
    let b = l.0.1 in record { inside = l.0.0; named = λ q. absurd (omega (arith, q, b)) }
item_here z o from (mirror x y c) to l =
    let b = l.0.1 in record { inside = l.0.0; named = λ q. absurd (omega (arith, q, b)) }

-- a record that follows a thread can be left so
goes_on : (z : Section) (c : Code) (e : Env) (fs : List Frame) (u : Record) (n : Machine) → FollowsAt z c e fs u
    → Counts n → Goes z.bytes u n
goes_on z c e fs u n f k =
    let d = f.deep in
    let few = f.few in
    let w = want_is z c e fs u f in
    let l = want_low (at c e fs) (want_small z c e fs u f) in
    record {
      counts = k;
      deep = omega (arith, d, few);
      item = item_here z f.stand.0 u.at c f.stand.1 f.stand.2;
      wants = subst LowWant (sym w) l;
    }

-- a lock occurs no more often than there are frames
occurs_few : (l : ℕ) (fs : List Frame) → occurs l (locks fs) ≤ length fs
occurs_few l [] = omega arith
occurs_few l (frame (held k) e c ∷ fs) = by (ℕ_discrete k l) (occurs_few l fs)
  where
    by : Dec (k ≡ l) → occurs l (locks fs) ≤ length fs
        → cond (eqb k l) (suc (occurs l (locks fs))) (occurs l (locks fs)) ≤ suc (length fs)
    by (yes e) h = rw (eq-eqb k l e) (omega (arith, h))
    by (no n) h = rw (ne_eqb k l n) (omega (arith, h))
occurs_few l (frame alternative e c ∷ fs) = let h = occurs_few l fs in omega (arith, h)
occurs_few l (frame called e c ∷ fs) = let h = occurs_few l fs in omega (arith, h)

follows_few : (z : Section) (l : ℕ) (x : Thread) (r : Record) → Follows z x r → occurs l (holds x) ≤ most_frames
follows_few z l ended r f = omega arith
follows_few z l (at c e fs) r f = let h = occurs_few l fs in let g = f.few in omega (arith, h, g)

-- there is room where the machine says so
room_of : (t depth : ℕ) → full_at t depth ≡ false → depth < most_frames
room_of zero depth e = leb-false most_frames depth e
room_of (suc t) depth e =
    let n : suc t ≡ 0 → ⊥ = λ q. omega (arith, q) in
    let f : leb most_frames (depth + 1) ≡ false = rw (ne_eqb (suc t) 0 n) at e in
    let h = leb-false most_frames (depth + 1) f in
    omega (arith, h)

-- the machine's locks do not matter for counting
counts_as : (m n : Machine) → n.pick ≡ m.pick → n.read ≡ m.read → n.threads ≡ m.threads → n.wants ≡ m.wants
    → Counts m → Counts n
counts_as m n p r t w k = record {
  picked = rw p k.picked;
  bytes = rw r k.bytes;
  wanting = rw (t, w) k.wanting;
}

module _ (P : Program) (z : Section) (R : Result) (s : State) (ts : List Record) (m : Machine) (bounds : Bounds z) where
  -- a byte can be counted
  counted : (x : Thread) → Taking P z R s ts m x → Counts m
  counted x k =
      let p = k.due.picks in
      let i = k.due.inside in
      let l = bounds.schedule in
      let w : get_or z.schedule m.read 0 % most_threads < most_threads = omega arith in
      record {
        picked = omega (arith, p, w);
        bytes = omega (arith, i, l);
        wanting = wanting z s ts m k.tracks;
      }

  -- a lock is held 64 times at most
  held_few : (x : Thread) → Taking P z R s ts m x → (l : ℕ) → l < most_locks → (lock_at m l).count ≤ most_frames
  held_few x k l h =
      let o = (lock_at m l).owner in
      let e : occurs l (holds (thread s o)) ≡ (lock_at m l).count =
      k.tracks.held o l h ∙ rw (eq-eqb o o refl) refl in
      let g = by o (dec_lt o (length s.threads)) in
      omega (arith, e, g)
    where
      on : is_born m.stage ≡ false
      on = ap is_born k.stage

      by : (o : ℕ) → Dec (o < length s.threads) → occurs l (holds (thread s o)) ≤ most_frames
      by o (yes i) =
          follows_few z l (thread s o) (get_or (written ts m) o blank)
          (k.tracks.follows o i (k.tracks.sized o i (λ q. absurd (not_both m.stage on q))))
      by o (no n) =
          let e : thread s o ≡ ended = get_or-eq_default s.threads ended (omega (arith, n)) in
          rw e (omega arith)

  -- the frames that are open fit
  level_of : (c : Code) (e : Env) (fs : List Frame) → FollowsAt z c e fs (looked ts m) → Level (looked ts m)
  level_of c e fs f = let d = f.deep in let g = f.few in omega (arith, d, g)

  -- the offset is low
  near_of : (b : ℕ) → IsAt z (looked ts m).at b → (looked ts m).at + 2 < 2 ^ 64
  near_of b i = let h = i.0 in let g = bounds.bytes in omega (arith, h, g)

  short_of : (b : ℕ) → IsAt z (looked ts m).at b → (looked ts m).at < most_bytes
  short_of b i = let h = i.0 in let g = bounds.bytes in omega (arith, h, g)

  -- a name stands after the item's code
  operand : (b x : ℕ) → IsAt z (looked ts m).at b → IsAt z ((looked ts m).at + 1) x → x < most_names
      → Level (looked ts m) → Operand z.bytes (looked ts m)
  operand b x i j low deep =
      let n = near_of b i in
      let y = j.1 in
      record { inside = j.0; named = omega (arith, y, low); near = omega (arith, n); deep = deep }

  -- the items of a record, but for the one kind that stands there
  abbrev Ours : Type 0
  Ours = Items z.counts z.bytes z.heads z.links z.schedule (looked ts m) m

  -- END of the thread
  items_end : (e : Env) → Taking P z R s ts m (at end e []) → Ours
  items_end e k =
      let f = followed P z R s ts m (at end e []) k in
      let is : IsAt z (looked ts m).at (closer f.stand.0) = f.stand.2.0 in
      let b : byte_at z (looked ts m).at ≡ code END = is.1 ∙ ap closer f.stand.3 in
      let d = f.deep in
      record {
        inside = is.0;
        short = short_of (closer f.stand.0) is;
        byte = k.due.inside;
        counts = counted (at end e []) k;
        ends = λ q h. absurd (omega (arith, h, d));
        news = λ q. absurd (omega (arith, q, b));
        locks = λ q. absurd (omega (arith, q, b));
        forks = λ q. absurd (omega (arith, q, b));
        choices = λ q. absurd (omega (arith, q, b));
        calls = λ q. absurd (omega (arith, q, b));
        mirrors = λ q. absurd (omega (arith, q, b));
        others = λ q. absurd (omega (arith, q, b));
        known = omega (arith, b);
      }

  -- NEW
  items_new : (x : ℕ) (c : Code) (e : Env) (fs : List Frame) → Taking P z R s ts m (at (new x c) e fs) → Ours
  items_new x c e fs k =
      let f = followed P z R s ts m (at (new x c) e fs) k in
      let sz = size_of P z R s ts m (at (new x c) e fs) k in
      let lies = f.stand.2 in
      let b = lies.0.1 in
      let n : News z.bytes x (looked ts m) m = record {
        deep = level_of (new x c) e fs f;
        named = lies.2;
        near = near_of (code NEW) lies.0;
        goes = λ h. goes_on z c (bind x m.made e) fs (bound_to (looked ts m) x m.made ((looked ts m).at + 1))
            (made_one m)
            (follows_new z x m.made c e fs (looked ts m) sz h f)
            (counts_as m (made_one m) refl refl refl refl (counted (at (new x c) e fs) k));
      } in
      record {
        inside = lies.0.0;
        short = short_of (code NEW) lies.0;
        byte = k.due.inside;
        counts = counted (at (new x c) e fs) k;
        ends = λ q h. absurd (omega (arith, q, b));
        news = λ q. subst (λ (y : ℕ). News z.bytes y (looked ts m) m) (sym lies.1) n;
        locks = λ q. absurd (omega (arith, q, b));
        forks = λ q. absurd (omega (arith, q, b));
        choices = λ q. absurd (omega (arith, q, b));
        calls = λ q. absurd (omega (arith, q, b));
        mirrors = λ q. absurd (omega (arith, q, b));
        others = λ q. absurd (omega (arith, q, b));
        known = omega (arith, b);
      }

  -- LOCK
  items_lock : (x : ℕ) (c d : Code) (e : Env) (fs : List Frame) → Taking P z R s ts m (at (lock x c d) e fs) → Ours
  items_lock x c d e fs k =
      let f = followed P z R s ts m (at (lock x c d) e fs) k in
      let sz = size_of P z R s ts m (at (lock x c d) e fs) k in
      let lies = f.stand.2 in
      let b = lies.0.1 in
      let few = held_few (at (lock x c d) e fs) k (e x) (f.small x lies.2) in
      let deep = f.deep in
      let n : Locks z.bytes (e x) (looked ts m) m = record {
        counts = counted (at (lock x c d) e fs) k;
        deep = level_of (lock x c d) e fs f;
        lock = f.small x lies.2;
        near = near_of (code LOCK) lies.0;
        held = omega (arith, few);
        goes = λ i h. goes_on z c e (frame (held (e x)) e d ∷ fs) (entered_as (looked ts m) (e x) ((looked ts m).at + 2))
            (taken_by m m.pick (e x))
            (follows_lock z x c d e fs (looked ts m) sz
            (let g = room_of m.pick (looked ts m).depth h in omega (arith, g, deep)) f)
            (counts_as m (taken_by m m.pick (e x)) refl refl refl refl (counted (at (lock x c d) e fs) k));
      } in
      let y : byte_at z ((looked ts m).at + 1) ≡ x = lies.1.1 in
      let l : lock_of (looked ts m) (byte_at z ((looked ts m).at + 1)) ≡ e x =
      ap (lock_of (looked ts m)) y ∙ same_lock z (lock x c d) e fs (looked ts m) x f lies.2 in
      record {
        inside = lies.0.0;
        short = short_of (code LOCK) lies.0;
        byte = k.due.inside;
        counts = counted (at (lock x c d) e fs) k;
        ends = λ q h. absurd (omega (arith, q, b));
        news = λ q. absurd (omega (arith, q, b));
        locks = λ q. (
          operand (code LOCK) x lies.0 lies.1 lies.2 (level_of (lock x c d) e fs f),
          subst (λ (v : ℕ). Locks z.bytes v (looked ts m) m) (sym l) n,
        );
        forks = λ q. absurd (omega (arith, q, b));
        choices = λ q. absurd (omega (arith, q, b));
        calls = λ q. absurd (omega (arith, q, b));
        mirrors = λ q. absurd (omega (arith, q, b));
        others = λ q. absurd (omega (arith, q, b));
        known = omega (arith, b);
      }

  -- MIRROR
  items_mirror : (x y : ℕ) (c : Code) (e : Env) (fs : List Frame) → Taking P z R s ts m (at (mirror x y c) e fs) → Ours
  items_mirror x y c e fs k =
      let f = followed P z R s ts m (at (mirror x y c) e fs) k in
      let sz = size_of P z R s ts m (at (mirror x y c) e fs) k in
      let lies = f.stand.2 in
      let b = lies.0.1 in
      let n : Mirrors z.bytes x (e y) (looked ts m) m = record {
        deep = level_of (mirror x y c) e fs f;
        named = lies.2;
        near = near_of (code MIRROR) lies.0;
        goes = goes_on z c (bind x (e y) e) fs (bound_to (looked ts m) x (e y) ((looked ts m).at + 2)) m
            (follows_mirror z x y c e fs (looked ts m) sz f) (counted (at (mirror x y c) e fs) k);
      } in
      let l : lock_of (looked ts m) (byte_at z ((looked ts m).at + 1)) ≡ e y =
      ap (lock_of (looked ts m)) lies.3.1 ∙ same_lock z (mirror x y c) e fs (looked ts m) y f lies.4 in
      record {
        inside = lies.0.0;
        short = short_of (code MIRROR) lies.0;
        byte = k.due.inside;
        counts = counted (at (mirror x y c) e fs) k;
        ends = λ q h. absurd (omega (arith, q, b));
        news = λ q. absurd (omega (arith, q, b));
        locks = λ q. absurd (omega (arith, q, b));
        forks = λ q. absurd (omega (arith, q, b));
        choices = λ q. absurd (omega (arith, q, b));
        calls = λ q. absurd (omega (arith, q, b));
        mirrors = λ q. (
          operand (code MIRROR) y lies.0 lies.3 lies.4 (level_of (mirror x y c) e fs f),
          subst
              (λ (v : ℕ). Mirrors z.bytes v (lock_of (looked ts m) (byte_at z ((looked ts m).at + 1))) (looked ts m) m)
              (sym lies.1) (subst (λ (v : ℕ). Mirrors z.bytes x v (looked ts m) m) (sym l) n),
        );
        others = λ q. absurd (omega (arith, q, b));
        known = omega (arith, b);
      }

  -- FORK
  items_fork : (i : ℕ) (c d : Code) (e : Env) (fs : List Frame) → Taking P z R s ts m (at (fork i c d) e fs) → Ours
  items_fork i c d e fs k =
      let f = followed P z R s ts m (at (fork i c d) e fs) k in
      let lies = f.stand.2 in
      let b = lies.0.1 in
      record {
        inside = lies.0.0;
        short = short_of (code FORK) lies.0;
        byte = k.due.inside;
        counts = counted (at (fork i c d) e fs) k;
        ends = λ q h. absurd (omega (arith, q, b));
        news = λ q. absurd (omega (arith, q, b));
        locks = λ q. absurd (omega (arith, q, b));
        forks = λ q. record {
          counts = counted (at (fork i c d) e fs) k;
          deep = level_of (fork i c d) e fs f;
          near = near_of (code FORK) lies.0;
          block = item_here z false ((looked ts m).at + 1) c (link_at z (looked ts m).at) lies.1;
          after = item_here z f.stand.0 (link_at z (looked ts m).at) d f.stand.1 lies.2;
        };
        choices = λ q. absurd (omega (arith, q, b));
        calls = λ q. absurd (omega (arith, q, b));
        mirrors = λ q. absurd (omega (arith, q, b));
        others = λ q. absurd (omega (arith, q, b));
        known = omega (arith, b);
      }

  -- CHOICE
  items_choice :
      (a b' g : Code) (e : Env) (fs : List Frame) → Taking P z R s ts m (at (choice a b' g) e fs) → Ours
  items_choice a b' g e fs k =
      let f = followed P z R s ts m (at (choice a b' g) e fs) k in
      let lies = f.stand.2 in
      let b = lies.0.1 in
      record {
        inside = lies.0.0;
        short = short_of (code CHOICE) lies.0;
        byte = k.due.inside;
        counts = counted (at (choice a b' g) e fs) k;
        ends = λ q h. absurd (omega (arith, q, b));
        news = λ q. absurd (omega (arith, q, b));
        locks = λ q. absurd (omega (arith, q, b));
        forks = λ q. absurd (omega (arith, q, b));
        choices = λ q. (
          level_of (choice a b' g) e fs f,
          λ h. side (ltb (get_or z.schedule m.read 0) second_side) h,
        );
        calls = λ q. absurd (omega (arith, q, b));
        mirrors = λ q. absurd (omega (arith, q, b));
        others = λ q. absurd (omega (arith, q, b));
        known = omega (arith, b);
      }
    where
      side : (q : Bool) → full_at m.pick (looked ts m).depth ≡ false
          → Goes z.bytes
          (entered_as (looked ts m) most_locks (cond q ((looked ts m).at + 1) (link_at z (looked ts m).at))) m
      side true h =
          let f = followed P z R s ts m (at (choice a b' g) e fs) k in
          let sz = size_of P z R s ts m (at (choice a b' g) e fs) k in
          let deep = f.deep in
          let r = room_of m.pick (looked ts m).depth h in
          goes_on z a e (frame alternative e g ∷ fs) (entered_as (looked ts m) most_locks ((looked ts m).at + 1)) m
          (follows_first z a b' g e fs (looked ts m) sz (omega (arith, r, deep)) f) (counted (at
          (choice a b' g) e fs) k)
      side false h =
          let f = followed P z R s ts m (at (choice a b' g) e fs) k in
          let sz = size_of P z R s ts m (at (choice a b' g) e fs) k in
          let deep = f.deep in
          let r = room_of m.pick (looked ts m).depth h in
          goes_on z b' e (frame alternative e g ∷ fs)
          (entered_as (looked ts m) most_locks (link_at z (looked ts m).at)) m
          (follows_second z a b' g e fs (looked ts m) sz (omega (arith, r, deep)) f) (counted (at
          (choice a b' g) e fs) k)

  -- CALL
  items_call :
      (r : ℕ) (xs : List ℕ) (c : Code) (e : Env) (fs : List Frame) → Bodies P z
      → Taking P z R s ts m (at (call r xs c) e fs) → Ours
  items_call r xs c e fs bodies k =
      let f = followed P z R s ts m (at (call r xs c) e fs) k in
      let lies = f.stand.2 in
      let b = lies.0.1 in
      record {
        inside = lies.0.0;
        short = short_of (code CALL) lies.0;
        byte = k.due.inside;
        counts = counted (at (call r xs c) e fs) k;
        ends = λ q h. absurd (omega (arith, q, b));
        news = λ q. absurd (omega (arith, q, b));
        locks = λ q. absurd (omega (arith, q, b));
        forks = λ q. absurd (omega (arith, q, b));
        choices = λ q. absurd (omega (arith, q, b));
        calls = λ q. calls;
        mirrors = λ q. absurd (omega (arith, q, b));
        others = λ q. absurd (omega (arith, q, b));
        known = omega (arith, b);
      }
    where
      f : FollowsAt z (call r xs c) e fs (looked ts m)
      f = followed P z R s ts m (at (call r xs c) e fs) k

      from : ℕ
      from = (looked ts m).at + 2

      y : byte_at z ((looked ts m).at + 1) ≡ r
      y = f.stand.2.1.1

      n : get_or z.counts (byte_at z ((looked ts m).at + 1)) 0 ≡ length xs
      n = ap (λ (q : ℕ). get_or z.counts q 0) y ∙ f.stand.2.3

      passes : Passes z.bytes ((looked ts m).at + 2) (length xs)
      passes = record {
        inside = let h = (item_here z f.stand.0 ((looked ts m).at + 2 + length xs) c f.stand.1
            f.stand.2.6).inside in
            omega (arith, h);
        few = f.stand.2.4;
        named = λ j h. let p = f.stand.2.5 j h in let a = p.0.1 in let b = p.1 in omega (arith, a, b);
      }

      calls : Calls z.counts z.bytes z.heads (looked ts m) m
      calls =
          let sz = size_of P z R s ts m (at (call r xs c) e fs) k in
          let deep = f.deep in
          let less = f.stand.2.2 in
          let few = f.stand.2.4 in
          let many = bounds.routines in
          let near = near_of (code CALL) f.stand.2.0 in
          let short = short_of (code CALL) f.stand.2.0 in
          let n1 = n in
          let y1 = y in
          record {
            deep = level_of (call r xs c) e fs f;
            near = near;
            inside = f.stand.2.1.0;
            routine = omega (arith, y1, less);
            listed = omega (arith, y1, less, many);
            passes = subst (λ (v : ℕ). Passes z.bytes ((looked ts m).at + 2) v) (sym n) passes;
            far = omega (arith, n1, few, short);
            goes = λ h.
                let b = bodies r f.stand.2.2 in
                let room = room_of m.pick (looked ts m).depth h in
                let g = goes_on z (body P r) (pass xs e) (frame called e c ∷ fs)
                (called_as (looked ts m) z.bytes ((looked ts m).at + 2) (length xs) (get_or z.heads r 0)) m
                (follows_call z r xs c (body P r) e fs (looked ts m) (get_or z.heads r 0) b.0 sz
                (omega (arith, room, deep)) b.1 f)
                (counted (at (call r xs c) e fs) k) in
                subst (λ (v : ℕ). Goes z.bytes
                (called_as (looked ts m) z.bytes ((looked ts m).at + 2) v (get_or z.heads (byte_at z
                ((looked ts m).at + 1)) 0)) m)
                (sym n)
                (subst (λ (v : ℕ). Goes z.bytes
                (called_as (looked ts m) z.bytes ((looked ts m).at + 2) (length xs) (get_or z.heads v 0)) m)
                (sym y) g);
          }

  -- END or OTHER of what a frame opened
  items_close :
      (o : Open) (d : Code) (e g : Env) (fs : List Frame) → Taking P z R s ts m (at end e (frame o g d ∷ fs)) → Ours
  items_close o d e g fs k = by f.stand.0 refl
    where
      f : FollowsAt z end e (frame o g d ∷ fs) (looked ts m)
      f = followed P z R s ts m (at end e (frame o g d ∷ fs)) k

      n : Counts m
      n = counted (at end e (frame o g d ∷ fs)) k

      top : top_of (looked ts m) ≡ kind_of o
      top =
          let h = f.deep in
          let i : (looked ts m).depth - 1 ≡ length fs = omega (arith, h) in
          ap (λ (j : ℕ). get_or (looked ts m).kinds j 0) i ∙ f.frames.0

      -- the record that the frame is left with
      left_to_lem : (o : Open) (k : FollowsAt z end e (frame o g d ∷ fs) (looked ts m)) (q : Bool) → k.stand.0 ≡ q
          → FollowsAt z d g fs
          (left_to (looked ts m) (target z (looked ts m).goes q ((looked ts m).at + 1)
          (length fs) o))
      left_to_lem o k q i =
          subst (λ (q : Bool). FollowsAt z d g fs
          (left_to (looked ts m) (target z (looked ts m).goes q ((looked ts m).at + 1)
          (length fs) o)))
          i (follows_close z o d e g fs (looked ts m) k)

      closes : (o : Open) → Taking P z R s ts m (at end e (frame o g d ∷ fs)) → (f : FollowsAt z end e
          (frame o g d ∷ fs) (looked ts m))
          → f.stand.0 ≡ false → top_of (looked ts m) ≡ kind_of o → Closes z.bytes (looked ts m) m
      closes alternative k f i w =
          let h = f.deep in
          record {
            some = omega (arith, h);
            deep = level_of end e (frame alternative g d ∷ fs) f;
            near = near_of (closer f.stand.0) f.stand.2.0;
            returns = λ q. absurd (omega (arith, q, w));
            after = λ q. goes_on z d g fs (left_to (looked ts m) ((looked ts m).at + 1)) m
                (left_to_lem alternative f false i) n;
            held = λ q. absurd (omega (arith, q, w));
            known = omega (arith, w);
          }
      closes called k f i w =
          let h = f.deep in
          let j : (looked ts m).depth - 1 ≡ length fs = omega (arith, h) in
          record {
            some = omega (arith, h);
            deep = level_of end e (frame called g d ∷ fs) f;
            near = near_of (closer f.stand.0) f.stand.2.0;
            returns = λ q.
                subst (λ (v : ℕ). Goes z.bytes (left_to (looked ts m) (get_or (looked ts m).goes v 0)) m) (sym j)
                (goes_on z d g fs (left_to (looked ts m) (get_or (looked ts m).goes (length fs) 0)) m
                (left_to_lem called f false i) n);
            after = λ q. absurd (omega (arith, q, w));
            held = λ q. absurd (omega (arith, q, w));
            known = omega (arith, w);
          }
      closes (held l) k f i w =
          let h = f.deep in
          let small : l < most_locks = f.all_small.0 in
          let given = held_given s m m.pick s.made l (at d g fs) k.due.started small k.tracks.locks_long
          (λ j. rw k.is refl) k.tracks.held in
          record {
            some = omega (arith, h);
            deep = level_of end e (frame (held l) g d ∷ fs) f;
            near = near_of (closer f.stand.0) f.stand.2.0;
            returns = λ q. absurd (omega (arith, q, w, small));
            after = λ q. absurd (omega (arith, q, w, small));
            held = λ q. (
              subst (λ (v : ℕ). 1 ≤ (lock_at m v).count) (sym w) given.1,
              subst (λ (v : ℕ). Goes z.bytes (left_to (looked ts m) ((looked ts m).at + 1)) (given_back m v)) (sym w)
                  (goes_on z d g fs (left_to (looked ts m) ((looked ts m).at + 1)) (given_back m l) (left_to_lem
                  (held l) f false i)
                  (counts_as m (given_back m l) refl refl refl refl n)),
            );
            known = omega (arith, w, small);
          }

      -- an OTHER closes a first alternative
      others : (o : Open) (f : FollowsAt z end e (frame o g d ∷ fs) (looked ts m)) → f.stand.0 ≡ true
          → Goes z.bytes (left_to (looked ts m) (link_at z (looked ts m).at)) m
      others alternative f i =
          let j : (looked ts m).at + 1 - 1 ≡ (looked ts m).at = omega arith in
          subst (λ (v : ℕ). Goes z.bytes (left_to (looked ts m) (link_at z v)) m) j
          (goes_on z d g fs (left_to (looked ts m) (link_at z ((looked ts m).at + 1 - 1))) m
          (left_to_lem alternative f true i) n)
      others called f i =
          absurd (let w : true ≡ false = sym i ∙ f.stand.3.0 in let y : ◌≡◌ {A = ℕ} 0 1 = cc in omega arith)
      others (held l) f i =
          absurd (let w : true ≡ false = sym i ∙ f.stand.3.0 in let y : ◌≡◌ {A = ℕ} 0 1 = cc in omega arith)

      by : (q : Bool) → f.stand.0 ≡ q → Ours
      by true i =
          let b : byte_at z (looked ts m).at ≡ code OTHER = f.stand.2.0.1 ∙ ap closer i in
          let h = f.deep in
          record {
            inside = f.stand.2.0.0;
            short = short_of (closer f.stand.0) f.stand.2.0;
            byte = k.due.inside;
            counts = n;
            ends = λ q h. absurd (omega (arith, q, b));
            news = λ q. absurd (omega (arith, q, b));
            locks = λ q. absurd (omega (arith, q, b));
            forks = λ q. absurd (omega (arith, q, b));
            choices = λ q. absurd (omega (arith, q, b));
            calls = λ q. absurd (omega (arith, q, b));
            mirrors = λ q. absurd (omega (arith, q, b));
            others = λ q. record { some = omega (arith, h); goes = others o f i };
            known = omega (arith, b);
          }
      by false i =
          let b : byte_at z (looked ts m).at ≡ code END = f.stand.2.0.1 ∙ ap closer i in
          record {
            inside = f.stand.2.0.0;
            short = short_of (closer f.stand.0) f.stand.2.0;
            byte = k.due.inside;
            counts = n;
            ends = λ q h. closes o k f i top;
            news = λ q. absurd (omega (arith, q, b));
            locks = λ q. absurd (omega (arith, q, b));
            forks = λ q. absurd (omega (arith, q, b));
            choices = λ q. absurd (omega (arith, q, b));
            calls = λ q. absurd (omega (arith, q, b));
            mirrors = λ q. absurd (omega (arith, q, b));
            others = λ q. absurd (omega (arith, q, b));
            known = omega (arith, b);
          }

  -- the next item of a thread that has not ended
  items : (x : Thread) → Bodies P z → Taking P z R s ts m x → (looked ts m).ended ≡ false → Ours
  items ended bodies k runs =
      absurd (let w : true ≡ false = sym (followed P z R s ts m ended k) ∙ runs in
      let y : ◌≡◌ {A = ℕ} 0 1 = cc in omega arith)
  items (at end e []) bodies k runs = items_end e k
  items (at end e (frame o g d ∷ fs)) bodies k runs = items_close o d e g fs k
  items (at (new x c) e fs) bodies k runs = items_new x c e fs k
  items (at (lock x c d) e fs) bodies k runs = items_lock x c d e fs k
  items (at (fork i c d) e fs) bodies k runs = items_fork i c d e fs k
  items (at (choice a b c) e fs) bodies k runs = items_choice a b c e fs k
  items (at (call r xs c) e fs) bodies k runs = items_call r xs c e fs bodies k
  items (at (mirror x y c) e fs) bodies k runs = items_mirror x y c e fs k

  -- a byte can be taken
  pub ready_turn : (x : Thread) → Bodies P z → Taking P z R s ts m x
      → (1 ≤ length z.bytes) × Ready z.counts z.bytes z.heads z.links z.schedule (looked ts m) m
  ready_turn x bodies k = (
    bounds.some,
    record {
      births = λ q. wanting z s ts m k.tracks;
      counts = λ q. counted x k;
      items = λ q runs. items x bodies k runs;
    },
  )
