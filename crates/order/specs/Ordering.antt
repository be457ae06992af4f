-- What the functions that find the order of routines need and leave.
use Rattle.std.specs.Prelude.{◌≡◌, cond, None, Some, List, ℕ, ◌+◌, ◌^◌, ◌≤◌, ◌<◌, eqb, length, get_or, take, replicate}
use Rattle.table.specs.Constants.{most_routines, most_bytes, MIRROR, code}
use Rattle.table.specs.Program.{Program}
use Rattle.table.specs.WellFormed.{In, NoDup}
use Rattle.canon.specs.Canonical.{met, all_met, order, position}
use Rattle.order.specs.declared.Order.{Order}
use Rattle.order.specs.Items.{Item, called_in, sizes, body_sizes}
use Rattle.order.specs.Standing.{ItemsAt, HoldsAt}

-- the routines met so far, in order
abbrev pub list_of : Order → List ℕ
list_of o = take o.count o.routines

-- the arrays have the routines met so far, none twice, and the place of each; a routine not met has none
pub record Listed (o : Order) : Type 0 where
  pub long : length o.routines ≡ most_routines
  pub places_long : length o.places ≡ most_routines
  pub few : o.count ≤ most_routines
  pub once : NoDup (list_of o)
  pub below : (r : ℕ) → In r (list_of o) → r < most_routines
  pub placed : (r : ℕ) → In r (list_of o) → get_or o.places r None ≡ Some (position (list_of o) r)
  pub unplaced : (r : ℕ) → r < most_routines → (In r (list_of o) → ⊥) → get_or o.places r None ≡ None

-- the order with no routine in it
abbrev pub unmet : Order
unmet = record {
  routines = replicate most_routines 0;
  places = replicate most_routines None;
  count = 0;
  bytes = 0;
}

-- routine r was met
pub record Met (o v : Order) (r : ℕ) : Type 0 where
  pub listed : Listed v
  pub list : list_of v ≡ met (list_of o) r
  pub bytes : v.bytes ≡ o.bytes

-- the order with n bytes more
abbrev pub counted : Order → ℕ → Order
counted o n = record o { bytes = o.bytes + n }

-- how many of the n bytes of an item with code b the canonical table has
abbrev pub kept : ℕ → ℕ → ℕ
kept b n = cond (eqb b (code MIRROR)) 0 n

-- items stand from the offset to the end, and routines can be met there
pub record CanMeet (ks s : List ℕ) (at end : ℕ) (o : Order) : Type 0 where
  pub old : ℕ
  pub items : List Item
  pub rest : List ℕ
  pub items_at : ItemsAt ks s at end old items rest
  pub listed : Listed o
  pub few : length ks ≤ most_routines
  pub section : length s ≤ most_bytes
  pub room : o.bytes + most_bytes < 2 ^ 64

-- the routines that the items call were met, and the bytes of the items counted
pub record AllMet (ks s : List ℕ) (at end : ℕ) (o v : Order) : Type 0 where
  pub listed : Listed v
  pub list : (old : ℕ) (ts : List Item) (l : List ℕ) → ItemsAt ks s at end old ts l
      → (list_of v ≡ all_met (list_of o) (called_in ts)) × (v.bytes ≡ o.bytes + sizes ts)

-- the order is that of the program, and the bytes are those of its canonical bodies
pub record Ordered (ks s starts : List ℕ) (o : Order) : Type 0 where
  pub listed : Listed o
  pub list : (P : Program) → HoldsAt P ks s starts → list_of o ≡ order P
  pub bytes : (P : Program) → HoldsAt P ks s starts → o.bytes ≡ body_sizes P (order P)
