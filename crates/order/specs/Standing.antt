-- Items that stand in a body section, and the section of a program with where its bodies start.
use Rattle.std.specs.Prelude.{◌≡◌, ◌≢◌, cond, List, [], ◌∷◌, ◌++◌, ℕ, ◌+◌, ◌≤◌, ◌<◌, eqb, ltb, length, get_or, take, drop}
use Rattle.table.specs.Constants.{most_names, NEW, LOCK, CALL, MIRROR, code}
use Rattle.table.specs.Program.{Program}
use Rattle.table.specs.WellFormed.{In}
use Rattle.table.specs.Laws.Sections.{Holds}
use Rattle.settle.specs.Bodies.{start_of}
use Rattle.order.specs.Items.{Item, mark, making, mirroring, locking, calling, item_bytes, flat}

-- an item of a table whose routines have the parameter counts ks, where `old` is the next name
abbrev pub Good : List ℕ → ℕ → Item → Type 0
Good ks old (mark b) = (b ≢ code NEW) × (b ≢ code LOCK) × (b ≢ code CALL) × (b ≢ code MIRROR)
Good ks old making = old < most_names
Good ks old (mirroring y) = (old < most_names) × (y < most_names)
Good ks old (locking x) = x < most_names
Good ks old (calling r xs) = (r < length ks) × (length xs ≡ get_or ks r 0) × ((x : ℕ) → In x xs → x < most_names)

-- the next name after an item
abbrev pub old_after : ℕ → Item → ℕ
old_after old (mark b) = old
old_after old making = old + 1
old_after old (mirroring y) = old + 1
old_after old (locking x) = old
old_after old (calling r xs) = old

-- items one after the other
abbrev pub AllGood : List ℕ → ℕ → List Item → Type 0
AllGood ks old [] = Unit {0}
AllGood ks old (t ∷ ts) = Good ks old t × AllGood ks (old_after old t) ts

-- the item t stands at the offset, and the bytes l after it
pub record ItemAt (ks s : List ℕ) (at old : ℕ) (t : Item) (l : List ℕ) : Type 0 where
  pub content : drop at s ≡ item_bytes t ++ l
  pub good : Good ks old t

-- some item stands there
abbrev pub SomeItem : List ℕ → List ℕ → ℕ → ℕ → Type 0
SomeItem ks s at old = (t : Item) × (l : List ℕ) × ItemAt ks s at old t l

-- a name stands at the offset
pub record NameAt (s : List ℕ) (at : ℕ) : Type 0 where
  pub there : at < length s
  pub low : get_or s at 0 < most_names

-- a CALL stands at the offset
pub record CallAt {A : Type 0} (ks s : List ℕ) (at : ℕ) (ps : List A) : Type 0 where
  pub there : at + 1 < length s
  pub routine : get_or s (at + 1) 0 < length ks
  pub place : get_or s (at + 1) 0 < length ps
  pub whole : at + 2 + get_or ks (get_or s (at + 1) 0) 0 ≤ length s
  pub low : (i : ℕ) → i < get_or ks (get_or s (at + 1) 0) 0 → get_or s (at + 2 + i) 0 < most_names

-- the CALL at the offset
abbrev pub call_here : List ℕ → List ℕ → ℕ → Item
call_here ks s at = calling (get_or s (at + 1) 0) (take (get_or ks (get_or s (at + 1) 0) 0) (drop (at + 2) s))

-- the item at the offset, by its code b
abbrev pub item_by : List ℕ → List ℕ → ℕ → ℕ → Item
item_by ks s at b =
    cond (eqb b (code NEW)) making
    (cond (eqb b (code MIRROR)) (mirroring (get_or s (at + 1) 0))
    (cond (eqb b (code LOCK)) (locking (get_or s (at + 1) 0))
    (cond (eqb b (code CALL)) (call_here ks s at)
    (mark b))))

-- the item at the offset
unfoldable pub item_at : List ℕ → List ℕ → ℕ → Item
item_at ks s at = item_by ks s at (get_or s at 0)

-- the items ts stand from the offset to the end
pub record ItemsAt (ks s : List ℕ) (at end old : ℕ) (ts : List Item) (l : List ℕ) : Type 0 where
  pub content : drop at s ≡ flat ts ++ l
  pub good : AllGood ks old ts
  pub ends : at + length (flat ts) ≡ end

-- an item of some place of a routine stands at the offset
abbrev pub AnyItem : List ℕ → List ℕ → ℕ → Type 0
AnyItem ks s at = (old : ℕ) × SomeItem ks s at old

-- the sections hold P, and the offsets are where its bodies start
pub record HoldsAt (P : Program) (ks s starts : List ℕ) : Type 0 where
  pub holds : Holds P ks s
  pub starts_long : length starts ≡ length P
  pub starts_are : (r : ℕ) → r < length P → get_or starts r 0 ≡ start_of P r

-- some program is held so
abbrev pub HeldAt : List ℕ → List ℕ → List ℕ → Type 0
HeldAt ks s starts = (P : Program) × HoldsAt P ks s starts

-- where the body of routine r ends
abbrev pub end_of : List ℕ → List ℕ → ℕ → ℕ
end_of s starts r = cond (ltb (r + 1) (length starts)) (get_or starts (r + 1) 0) (length s)
