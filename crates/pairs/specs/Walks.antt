-- The walk over a body, item by item.
use Rattle.std.specs.Prelude.{◌≡◌, Bool, true, false, cond, List, ℕ, ◌+◌, ◌-◌, ◌*◌, ◌/◌, ◌%◌, ◌^◌, ◌≤◌, ◌<◌, eqb}
use Rattle.std.specs.Prelude.{Option, None, Some, IfSome, length, get_or, set, replicate}
use Rattle.std.proofs.Math.Option as rules
use Rattle.std.specs.Int.Bits.{bit_or}
use Rattle.table.specs.Constants.{Op, END, NEW, LOCK, FORK, CHOICE, OTHER, CALL, MIRROR, code, most_open}
use Rattle.table.specs.Constants.{most_forks, most_names}
pub use Rattle.table.specs.Laws.Passing.{past_by, past_item, Passable}
use Rattle.pairs.specs.declared.walk.Level.{Level}
use Rattle.pairs.specs.declared.walk.Place.{Place}
use Rattle.pairs.specs.declared.walk.Levels.{Levels}
use Rattle.pairs.specs.declared.walk.TheConstants.{SELVES}

-- a place of a body with what holds there: the offset, how many FORK stand before it, the last name, the innermost open
-- level, what holds at each open level, and the root of each name
pub record Walk : Type 0 where
  pub at : ℕ
  pub forks : ℕ
  pub last : ℕ
  pub top : ℕ
  pub levels : List Level
  pub roots : List ℕ

-- the walk at a place, with what holds at its levels
abbrev pub walk_of : Place → Levels → Walk
walk_of p v = record {
  at = p.at;
  forks = p.forks;
  last = p.last;
  top = p.top;
  levels = v.levels;
  roots = v.roots;
}

-- the holder, if there is one, in the rules' terms
abbrev pub held_by : Option ℕ → rules.Option ℕ
held_by None = rules.none
held_by (Some x) = rules.some x

-- the holder, if there is one, is a name
abbrev pub LowHolder : Option ℕ → Type 0
LowHolder h = IfSome h (λ x. x < most_names)

-- the byte at the place
abbrev pub byte_of : List ℕ → Walk → ℕ
byte_of s w = get_or s w.at 0

-- the byte after it: the name of a LOCK or MIRROR, the routine of a CALL
abbrev pub arg_of : List ℕ → Walk → ℕ
arg_of s w = get_or s (w.at + 1) 0

-- what holds where the thread with the number n starts: there is no holder, and the nest is empty
abbrev pub thread_level : ℕ → Level
thread_level n = record { holder = None; thread = n; nest = 0 }

-- what holds at the start of a body: the holder is name 0, that of the caller
abbrev pub outermost : Level
outermost = record { holder = Some 0; thread = 0; nest = 0 }

-- what holds at level n, of those open
abbrev pub level_at : List Level → ℕ → Level
level_at vs n = get_or vs n outermost

-- what holds at the place
abbrev pub level_of : Walk → Level
level_of w = level_at w.levels w.top

-- the root z is in the nest m
abbrev pub in_nest : ℕ → ℕ → Bool
in_nest m z = eqb (m / 2 ^ z % 2) 1

-- the nest m with the root z
abbrev pub with_root : ℕ → ℕ → ℕ
with_root m z = bit_or m (1 * 2 ^ z % 65536)

-- the root of the name x
abbrev pub root_of : List ℕ → ℕ → ℕ
root_of rs x = get_or rs x 0

-- x is a name, and so is its root
abbrev pub LowRoot : List ℕ → ℕ → Type 0
LowRoot rs x = (x < most_names) × (root_of rs x < most_names)

-- there is a root for each name, and each name below n is its own
abbrev pub SelvesTo : List ℕ → ℕ → Type 0
SelvesTo rs n = (length rs ≡ most_names) × ((x : ℕ) → x < n → root_of rs x ≡ x)

-- each name is its own root
abbrev pub Selves : List ℕ → Type 0
Selves rs = SelvesTo rs most_names

-- what holds inside a LOCK on a name with the root z, where v holds outside: the holder is that of v, where the root is in
-- the nest already, else the root
abbrev pub inside_lock : Level → ℕ → Level
inside_lock v z = record {
  holder = cond (in_nest v.nest z) v.holder (Some z);
  thread = v.thread;
  nest = with_root v.nest z;
}

-- the place at the start of the body of a routine with k parameters
abbrev pub start_place : ℕ → ℕ → Place
start_place at k = record { at = at; forks = 0; last = k; top = 0 }

-- what holds at the start of a body
abbrev pub start_levels : Levels
start_levels = record { levels = set (replicate (most_open + 1) (thread_level 0)) 0 outermost; roots = SELVES }

-- the walk there
abbrev pub start_walk : ℕ → ℕ → Walk
start_walk at k = walk_of (start_place at k) start_levels

-- the walk at another offset, with another innermost level
abbrev pub moved_walk : Walk → ℕ → ℕ → Walk
moved_walk w at top = record w { at = at; top = top }

-- the walk after so many FORK, where v holds at the innermost level
abbrev pub entered_walk : Walk → ℕ → Level → Walk
entered_walk w forks v = record w { forks = forks; levels = set w.levels w.top v }

-- the walk with one level more, where v holds
abbrev pub opened_walk : Walk → Level → Walk
opened_walk w v = entered_walk (moved_walk w w.at (w.top + 1)) w.forks v

-- the walk with one local more, and its root
abbrev pub local_walk : Walk → ℕ → Walk
local_walk w root = record w { last = w.last + 1; roots = set w.roots (w.last + 1) root }

-- the innermost open level past it
abbrev pub top_by : ℕ → ℕ → ℕ
top_by top b =
    cond (eqb b (code END)) (top - 1)
    (cond (eqb b (code LOCK)) (top + 1)
    (cond (eqb b (code FORK)) (top + 1)
    (cond (eqb b (code CHOICE)) (top + 1)
    top)))

-- the walk past it, where it opens no level and gives no name
abbrev pub passed_by : List ℕ → List ℕ → Walk → ℕ → Walk
passed_by ks s w b = moved_walk w (past_by ks s w.at b) (top_by w.top b)

-- the walk past it
abbrev pub walk_by : List ℕ → List ℕ → Walk → ℕ → Walk
walk_by ks s w b =
    cond (eqb b (code LOCK)) (entered_walk (passed_by ks s w b) w.forks
    (inside_lock (level_of w) (root_of w.roots (arg_of s w))))
    (cond (eqb b (code FORK)) (entered_walk (passed_by ks s w b) (w.forks + 1) (thread_level (w.forks + 1)))
    (cond (eqb b (code CHOICE)) (entered_walk (passed_by ks s w b) w.forks (level_of w))
    (cond (eqb b (code NEW)) (local_walk (passed_by ks s w b) (w.last + 1))
    (cond (eqb b (code MIRROR)) (local_walk (passed_by ks s w b) (root_of w.roots (arg_of s w)))
    (passed_by ks s w b)))))

-- the walk past the item at its place
unfoldable pub next_walk : List ℕ → List ℕ → Walk → Walk
next_walk ks s w = walk_by ks s w (byte_of s w)

-- the answer whether the item with code b closes the body, where top is the innermost open level
abbrev pub IsOver : ℕ → ℕ → Bool → Type 0
IsOver b top true = (b ≡ code END) × (top ≡ 0)
IsOver b top false = b ≡ code END → 1 ≤ top

-- an item with code b can stand where top is the innermost open level
pub record LevelReady (b top : ℕ) : Type 0 where
  pub some_open : b ≡ code END → 1 ≤ top
  pub few : top ≤ most_open

-- what an item of each kind needs of the bytes and of the open levels
abbrev pub RoomAt : List ℕ → List ℕ → ℕ → ℕ → Op → Type 0
RoomAt ks s at top END = 1 ≤ top
RoomAt ks s at top NEW = Unit {0}
RoomAt ks s at top LOCK = (at + 1 < length s) × (top < most_open)
RoomAt ks s at top FORK = top < most_open
RoomAt ks s at top CHOICE = top < most_open
RoomAt ks s at top OTHER = Unit {0}
RoomAt ks s at top CALL =
    (at + 1 < length s) × (get_or s (at + 1) 0 < length ks) × (at + 2 + get_or ks (get_or s (at + 1) 0) 0 ≤ length s)
RoomAt ks s at top MIRROR = at + 1 < length s

-- what it needs of the names and of the forks
abbrev pub NamesFit : List ℕ → Walk → Op → Type 0
NamesFit s w END = Unit {0}
NamesFit s w NEW = w.last + 1 < most_names
NamesFit s w LOCK = LowRoot w.roots (arg_of s w)
NamesFit s w FORK = w.forks < most_forks
NamesFit s w CHOICE = Unit {0}
NamesFit s w OTHER = Unit {0}
NamesFit s w CALL = Unit {0}
NamesFit s w MIRROR = (arg_of s w < most_names) × (w.last + 1 < most_names)

-- the walk can pass the item at its place
pub record Ready (ks s : List ℕ) (w : Walk) : Type 0 where
  pub here : w.at < length s
  pub few : w.top ≤ most_open
  pub room : (k : Op) → byte_of s w ≡ code k → RoomAt ks s w.at w.top k
  pub names : (k : Op) → byte_of s w ≡ code k → NamesFit s w k
