-- A body as a list of items, one after the other, whatever blocks they open and close.
use Rattle.std.specs.Prelude.{List, [], ◌∷◌, ◌++◌, ℕ, ◌+◌, length}
use Rattle.table.specs.Constants.{Op, END, NEW, LOCK, FORK, CHOICE, OTHER, CALL, MIRROR, code}
use Rattle.table.specs.Program.{Code, end, new, lock, fork, choice, call, mirror, Program, body}

-- an item without its blocks: a code alone (END, OTHER, FORK, CHOICE), NEW, MIRROR, LOCK and CALL
pub data Item : Type 0 where
  mark : ℕ → Item
  making : Item
  mirroring : ℕ → Item
  locking : ℕ → Item
  calling : ℕ → List ℕ → Item

-- the items of a code that an item of the kind z closes
abbrev pub items_of : Op → Code → List Item
items_of z end = mark (code z) ∷ []
items_of z (new x c) = making ∷ items_of z c
items_of z (mirror x y c) = mirroring y ∷ items_of z c
items_of z (lock x c d) = locking x ∷ (items_of END c ++ items_of z d)
items_of z (fork i c d) = mark (code FORK) ∷ (items_of END c ++ items_of z d)
items_of z (choice a b c) = mark (code CHOICE) ∷ (items_of OTHER a ++ (items_of END b ++ items_of z c))
items_of z (call r xs c) = calling r xs ∷ items_of z c

-- the bytes of an item
abbrev pub item_bytes : Item → List ℕ
item_bytes (mark b) = b ∷ []
item_bytes making = code NEW ∷ []
item_bytes (mirroring y) = code MIRROR ∷ y ∷ []
item_bytes (locking x) = code LOCK ∷ x ∷ []
item_bytes (calling r xs) = code CALL ∷ r ∷ xs

-- the bytes of items
abbrev pub flat : List Item → List ℕ
flat [] = []
flat (t ∷ ts) = item_bytes t ++ flat ts

-- the routines that they call
abbrev pub called_in : List Item → List ℕ
called_in [] = []
called_in (mark b ∷ ts) = called_in ts
called_in (making ∷ ts) = called_in ts
called_in (mirroring y ∷ ts) = called_in ts
called_in (locking x ∷ ts) = called_in ts
called_in (calling r xs ∷ ts) = r ∷ called_in ts

-- how many bytes of an item the canonical table has: none of a MIRROR
abbrev pub size_of : Item → ℕ
size_of (mark b) = 1
size_of making = 1
size_of (mirroring y) = 0
size_of (locking x) = 2
size_of (calling r xs) = 2 + length xs

-- and how many of items
abbrev pub sizes : List Item → ℕ
sizes [] = 0
sizes (t ∷ ts) = size_of t + sizes ts

-- and how many of the bodies of routines
abbrev pub body_sizes : Program → List ℕ → ℕ
body_sizes P [] = 0
body_sizes P (r ∷ rs) = sizes (items_of END (body P r)) + body_sizes P rs
