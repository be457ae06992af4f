-- The items of a code have its bytes and its calls.
use Rattle.std.specs.Prelude.{◌≡◌, refl, List, [], ◌∷◌, ◌++◌, ℕ, ◌+◌, ◌≤◌, length}
use Rattle.std.proofs.Common.{sym, ap, ◌∙◌, append_assoc, arith, length-append}
use Rattle.table.specs.Constants.{Op, END, NEW, OTHER, CALL, MIRROR, code}
use Rattle.table.specs.Program.{Code, end, new, lock, fork, choice, call, mirror, Program}
use Rattle.table.specs.Encoding.{encode}
use Rattle.canon.specs.Canonical.{called}
use Rattle.order.specs.Items.{Item, mark, making, mirroring, locking, calling, items_of, item_bytes, flat}
use Rattle.order.specs.Items.{called_in, size_of, sizes, body_sizes}

flat_append : (ts us : List Item) → flat (ts ++ us) ≡ flat ts ++ flat us
flat_append [] us = refl
flat_append (t ∷ ts) us =
    ap (λ (l : List ℕ). item_bytes t ++ l) (flat_append ts us) ∙ sym (append_assoc (item_bytes t) (flat ts) (flat us))

called_append : (ts us : List Item) → called_in (ts ++ us) ≡ called_in ts ++ called_in us
called_append [] us = refl
called_append (mark b ∷ ts) us = called_append ts us
called_append (making ∷ ts) us = called_append ts us
called_append (mirroring y ∷ ts) us = called_append ts us
called_append (locking x ∷ ts) us = called_append ts us
called_append (calling r xs ∷ ts) us = ap (λ (l : List ℕ). r ∷ l) (called_append ts us)

-- the items of a code have its bytes
pub flat_items : (z : Op) (c : Code) → flat (items_of z c) ≡ encode z c
flat_items z end = refl
flat_items z (new x c) = ap (λ (l : List ℕ). code NEW ∷ l) (flat_items z c)
flat_items z (mirror x y c) = ap (λ (l : List ℕ). code MIRROR ∷ y ∷ l) (flat_items z c)
flat_items z (lock x c d) = rw (flat_append (items_of END c) (items_of z d), flat_items END c, flat_items z d) refl
flat_items z (fork i c d) = rw (flat_append (items_of END c) (items_of z d), flat_items END c, flat_items z d) refl
flat_items z (choice a b c) =
    rw (
      flat_append (items_of OTHER a) (items_of END b ++ items_of z c),
      flat_append (items_of END b) (items_of z c),
      flat_items OTHER a,
      flat_items END b,
      flat_items z c,
    ) refl
flat_items z (call r xs c) = ap (λ (l : List ℕ). code CALL ∷ r ∷ (xs ++ l)) (flat_items z c)

-- and its calls
pub called_items : (z : Op) (c : Code) → called_in (items_of z c) ≡ called c
called_items z end = refl
called_items z (new x c) = called_items z c
called_items z (mirror x y c) = called_items z c
called_items z (lock x c d) =
    rw (called_append (items_of END c) (items_of z d), called_items END c, called_items z d) refl
called_items z (fork i c d) =
    rw (called_append (items_of END c) (items_of z d), called_items END c, called_items z d) refl
called_items z (choice a b c) =
    rw (
      called_append (items_of OTHER a) (items_of END b ++ items_of z c),
      called_append (items_of END b) (items_of z c),
      called_items OTHER a,
      called_items END b,
      called_items z c,
    ) refl
called_items z (call r xs c) = ap (λ (l : List ℕ). r ∷ l) (called_items z c)

pub bytes_some : (t : Item) → 1 ≤ length (item_bytes t)
bytes_some (mark b) = omega arith
bytes_some making = omega arith
bytes_some (mirroring y) = omega arith
bytes_some (locking x) = omega arith
bytes_some (calling r xs) = omega arith

-- an item gets no longer
pub size_short : (t : Item) → size_of t ≤ length (item_bytes t)
size_short (mark b) = omega arith
size_short making = omega arith
size_short (mirroring y) = omega arith
size_short (locking x) = omega arith
size_short (calling r xs) = omega arith

pub sizes_short : (ts : List Item) → sizes ts ≤ length (flat ts)
sizes_short [] = omega arith
sizes_short (t ∷ ts) =
    let a = size_short t in let b = sizes_short ts in let c = length-append (item_bytes t) (flat ts) in omega arith

pub sizes_append : (P : Program) (rs us : List ℕ) → body_sizes P (rs ++ us) ≡ body_sizes P rs + body_sizes P us
sizes_append P [] us = omega arith
sizes_append P (r ∷ rs) us = let h = sizes_append P rs us in omega arith
