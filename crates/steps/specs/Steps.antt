-- What one step does to a record and the machine, and what it needs to be safe.
use Rattle.std.specs.Prelude.{◌≡◌, true, false, cond, List, ℕ, ◌+◌, ◌-◌, ◌<◌, ◌≤◌, ◌^◌, eqb, leb, ltb, length, get_or}
use Rattle.table.specs.Constants.{END, NEW, LOCK, FORK, CHOICE, OTHER, CALL, MIRROR, code}
use Rattle.table.specs.Constants.{most_names, most_bytes, most_routines}
use Rattle.schedule.specs.Limits.{most_threads, most_locks, second_side}
use Rattle.steps.specs.declared.thread.Thread.{Thread as Record}
use Rattle.steps.specs.Records.{level, lock_of, moved_to, finished_as, bound_to, entered_as, called_as, left_to, born_at}
use Rattle.steps.specs.Records.{Level, Passes}
use Rattle.steps.specs.declared.machine.Ending.TheVariants.{Beyond}
use Rattle.steps.specs.declared.machine.Want.TheVariants.{Gone}
use Rattle.steps.specs.declared.machine.Machine.{Machine}
use Rattle.steps.specs.Machines.{is_born, over_as, held_elsewhere, taken_by, given_back, made_one, wants_as, want_at}
use Rattle.steps.specs.Machines.{settled_as, lock_at, LowWant}
use Rattle.steps.specs.Machines.{counted_as, starting_as, full_at, crowded_at, Item, Wanting}

-- a record and the machine
pub record Ticked : Type 0 where
  pub thread : Record
  pub machine : Machine

-- the two of them
abbrev pub pair : Record → Machine → Ticked
pair t m = record { thread = t; machine = m }

-- a step beyond a limit
abbrev pub beyond_as : Record → Machine → Ticked
beyond_as t m = pair t (over_as m Beyond)

-- a byte that does nothing
abbrev pub idle_as : List ℕ → Record → Machine → Ticked
idle_as bs t m = pair t (settled_as (counted_as m) bs)

-- a step that leaves the thread as u
abbrev pub done_as : List ℕ → List ℕ → Record → Machine → Ticked
done_as s bs u m = pair u (settled_as (wants_as (counted_as m) m.pick (want_at s u u.at)) bs)

-- what the innermost frame is
abbrev pub top_of : Record → ℕ
top_of t = get_or t.kinds (t.depth - 1) 0

-- END of a frame
abbrev pub close_as : List ℕ → List ℕ → Record → Machine → Ticked
close_as s bs t m =
    cond (eqb (top_of t) (most_locks + 1)) (done_as s bs (left_to t (get_or t.goes (t.depth - 1) 0)) m)
    (cond (eqb (top_of t) most_locks) (done_as s bs (left_to t (t.at + 1)) m)
    (done_as s bs (left_to t (t.at + 1)) (given_back m (top_of t))))

-- END
abbrev pub end_as : List ℕ → List ℕ → Record → Machine → Ticked
end_as s bs t m =
    cond (eqb t.depth 0)
    (pair (finished_as t) (settled_as (wants_as (counted_as m) m.pick Gone) bs)) (close_as s bs t m)

-- NEW, whose name is x
abbrev pub new_as : List ℕ → List ℕ → ℕ → Record → Machine → Ticked
new_as s bs x t m =
    cond (leb most_locks m.made) (beyond_as t m) (done_as s bs (bound_to t x m.made (t.at + 1)) (made_one m))

-- LOCK, of the lock l
abbrev pub lock_as : List ℕ → List ℕ → ℕ → Record → Machine → Ticked
lock_as s bs l t m =
    cond (held_elsewhere m m.pick l) (idle_as bs t m)
    (cond (full_at m.pick t.depth) (beyond_as t m)
    (done_as s bs (entered_as t l (t.at + 2)) (taken_by m m.pick l)))

-- FORK, after whose block the thread goes on at an offset
abbrev pub fork_as : List ℕ → ℕ → Record → Machine → Ticked
fork_as s next t m =
    cond (crowded_at m) (beyond_as t m)
    (pair (moved_to t next)
    (starting_as (wants_as (counted_as m) m.pick (want_at s t next)) (t.at + 1)
    (level t.names t.depth most_names) (want_at s t (t.at + 1))))

-- CHOICE, of the alternative at an offset
abbrev pub choice_as : List ℕ → List ℕ → ℕ → Record → Machine → Ticked
choice_as s bs to t m =
    cond (full_at m.pick t.depth) (beyond_as t m) (done_as s bs (entered_as t most_locks to) m)

-- the alternative that a byte takes
abbrev pub side_of : ℕ → ℕ → ℕ → ℕ
side_of b one other = cond (ltb b second_side) one other

-- CALL
abbrev pub call_as : List ℕ → List ℕ → List ℕ → List ℕ → Record → Machine → Ticked
call_as ks s heads bs t m =
    cond (full_at m.pick t.depth) (beyond_as t m)
    (done_as s bs
    (called_as t s (t.at + 2) (get_or ks (get_or s (t.at + 1) 0) 0) (get_or heads (get_or s (t.at + 1) 0) 0)) m)

-- MIRROR, whose name is x and whose operand stands for the lock l
abbrev pub mirror_as : List ℕ → List ℕ → ℕ → ℕ → Record → Machine → Ticked
mirror_as s bs x l t m = done_as s bs (bound_to t x l (t.at + 2)) m

-- OTHER, after whose choice the thread goes on at an offset
abbrev pub other_as : List ℕ → List ℕ → ℕ → Record → Machine → Ticked
other_as s bs next t m = done_as s bs (left_to t next) m

-- the lock that the name after the item's code stands for
abbrev pub operand_of : List ℕ → Record → ℕ
operand_of s t = lock_of t (get_or s (t.at + 1) 0)

-- the item whose code is b
abbrev pub item_by : List ℕ → List ℕ → List ℕ → List ℕ → List ℕ → Record → Machine → ℕ → Ticked
item_by ks s heads links bs t m b =
    cond (eqb b (code END)) (end_as s bs t m)
    (cond (eqb b (code NEW)) (new_as s bs (get_or links t.at 0) t m)
    (cond (eqb b (code LOCK)) (lock_as s bs (operand_of s t) t m)
    (cond (eqb b (code FORK)) (fork_as s (get_or links t.at 0) t m)
    (cond (eqb b (code CHOICE))
    (choice_as s bs (side_of (get_or bs m.read 0) (t.at + 1) (get_or links t.at 0)) t m)
    (cond (eqb b (code CALL)) (call_as ks s heads bs t m)
    (cond (eqb b (code MIRROR)) (mirror_as s bs (get_or links t.at 0) (operand_of s t) t m)
    (other_as s bs (get_or links t.at 0) t m)))))))

-- the next item of the thread
abbrev pub item_as : List ℕ → List ℕ → List ℕ → List ℕ → List ℕ → Record → Machine → Ticked
item_as ks s heads links bs t m = item_by ks s heads links bs t m (get_or s t.at 0)

-- what is done to the record that the machine looks at
unfoldable pub step_as : List ℕ → List ℕ → List ℕ → List ℕ → List ℕ → Record → Machine → Ticked
step_as ks s heads links bs t m =
    cond (is_born m.stage) (pair (born_at t m.head m.born) (settled_as m bs))
    (cond t.ended (idle_as bs t m) (item_as ks s heads links bs t m))

-- the machine can count a byte and look at every thread
pub record Counts (m : Machine) : Type 0 where
  pub picked : m.pick < most_threads
  pub bytes : m.read + 1 < 2 ^ 64
  pub wanting : Wanting m

-- the thread can be left as u
pub record Goes (s : List ℕ) (u : Record) (m : Machine) : Type 0 where
  pub counts : Counts m
  pub deep : Level u
  pub item : Item s u.at
  pub wants : LowWant (want_at s u u.at)

-- the innermost frame can be closed
pub record Closes (s : List ℕ) (t : Record) (m : Machine) : Type 0 where
  pub some : 1 ≤ t.depth
  pub deep : Level t
  pub near : t.at + 2 < 2 ^ 64
  pub returns : top_of t ≡ most_locks + 1 → Goes s (left_to t (get_or t.goes (t.depth - 1) 0)) m
  pub after : top_of t ≡ most_locks → Goes s (left_to t (t.at + 1)) m
  pub held : top_of t < most_locks
      → (1 ≤ (lock_at m (top_of t)).count) × Goes s (left_to t (t.at + 1)) (given_back m (top_of t))
  pub known : top_of t ≤ most_locks + 1

-- a block or an alternative can be opened
abbrev pub Enters : List ℕ → Record → Machine → ℕ → ℕ → Machine → Type 0
Enters s t m kind to n = full_at m.pick t.depth ≡ false → Goes s (entered_as t kind to) n

-- a NEW with the name x can be taken
pub record News (s : List ℕ) (x : ℕ) (t : Record) (m : Machine) : Type 0 where
  pub deep : Level t
  pub named : x < most_names
  pub near : t.at + 2 < 2 ^ 64
  pub goes : m.made < most_locks → Goes s (bound_to t x m.made (t.at + 1)) (made_one m)

-- a MIRROR with the name x, whose operand stands for the lock l, can be taken
pub record Mirrors (s : List ℕ) (x l : ℕ) (t : Record) (m : Machine) : Type 0 where
  pub deep : Level t
  pub named : x < most_names
  pub near : t.at + 2 < 2 ^ 64
  pub goes : Goes s (bound_to t x l (t.at + 2)) m

-- an OTHER can be taken
pub record Others (s : List ℕ) (next : ℕ) (t : Record) (m : Machine) : Type 0 where
  pub some : 1 ≤ t.depth
  pub goes : Goes s (left_to t next) m

-- a name stands after the item's code
pub record Operand (s : List ℕ) (t : Record) : Type 0 where
  pub inside : t.at + 1 < length s
  pub named : get_or s (t.at + 1) 0 < most_names
  pub near : t.at + 1 < 2 ^ 64
  pub deep : Level t

-- a LOCK of the lock l can be taken
pub record Locks (s : List ℕ) (l : ℕ) (t : Record) (m : Machine) : Type 0 where
  pub counts : Counts m
  pub deep : Level t
  pub lock : l < most_locks
  pub near : t.at + 2 < 2 ^ 64
  pub held : (lock_at m l).count + 1 < 2 ^ 8
  pub goes : held_elsewhere m m.pick l ≡ false → Enters s t m l (t.at + 2) (taken_by m m.pick l)

-- a FORK can be taken
pub record Forks (s : List ℕ) (next : ℕ) (t : Record) (m : Machine) : Type 0 where
  pub counts : Counts m
  pub deep : Level t
  pub near : t.at + 2 < 2 ^ 64
  pub block : Item s (t.at + 1)
  pub after : Item s next

-- a CALL can be taken
pub record Calls (ks s heads : List ℕ) (t : Record) (m : Machine) : Type 0 where
  pub deep : Level t
  pub near : t.at + 2 < 2 ^ 64
  pub inside : t.at + 1 < length s
  pub routine : get_or s (t.at + 1) 0 < length ks
  pub listed : get_or s (t.at + 1) 0 < most_routines
  pub passes : Passes s (t.at + 2) (get_or ks (get_or s (t.at + 1) 0) 0)
  pub far : t.at + 2 + get_or ks (get_or s (t.at + 1) 0) 0 < 2 ^ 64
  pub goes : full_at m.pick t.depth ≡ false
      → Goes s (called_as t s (t.at + 2) (get_or ks (get_or s (t.at + 1) 0) 0) (get_or heads (get_or s (t.at + 1) 0) 0)) m

-- the next item of the thread can be taken
pub record Items (ks s heads links bs : List ℕ) (t : Record) (m : Machine) : Type 0 where
  pub inside : t.at < length s
  pub short : t.at < most_bytes
  pub byte : m.read < length bs
  pub counts : Counts m
  pub ends : get_or s t.at 0 ≡ code END → 1 ≤ t.depth → Closes s t m
  pub news : get_or s t.at 0 ≡ code NEW → News s (get_or links t.at 0) t m
  pub locks : get_or s t.at 0 ≡ code LOCK → Operand s t × Locks s (operand_of s t) t m
  pub forks : get_or s t.at 0 ≡ code FORK → Forks s (get_or links t.at 0) t m
  pub choices : get_or s t.at 0 ≡ code CHOICE
      → Level t × Enters s t m most_locks (side_of (get_or bs m.read 0) (t.at + 1) (get_or links t.at 0)) m
  pub calls : get_or s t.at 0 ≡ code CALL → Calls ks s heads t m
  pub mirrors : get_or s t.at 0 ≡ code MIRROR → Operand s t × Mirrors s (get_or links t.at 0) (operand_of s t) t m
  pub others : get_or s t.at 0 ≡ code OTHER → Others s (get_or links t.at 0) t m
  pub known : get_or s t.at 0 ≤ code MIRROR

-- what the machine asks for can be done to the record that it looks at
pub record Ready (ks s heads links bs : List ℕ) (t : Record) (m : Machine) : Type 0 where
  pub births : is_born m.stage ≡ true → Wanting m
  pub counts : is_born m.stage ≡ false → Counts m
  pub items : is_born m.stage ≡ false → t.ended ≡ false → Items ks s heads links bs t m
