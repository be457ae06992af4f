-- Codes that lie in a body section, with what belongs to their items but does not stand at them.
use Rattle.std.specs.Prelude.{◌≡◌, Bool, true, false, cond, List, ℕ, ◌+◌, ◌-◌, ◌<◌, length, get_or}
use Rattle.table.specs.Constants.{END, NEW, LOCK, FORK, CHOICE, OTHER, CALL, MIRROR, code, most_names}
use Rattle.table.specs.Program.{Code, end, new, lock, fork, choice, call, mirror, Program, body}

-- what a run is of: the parameter counts and the body section of a table, where its bodies start, what belongs to its
-- items, and the schedule
pub record Section : Type 0 where
  pub counts : List ℕ
  pub bytes : List ℕ
  pub heads : List ℕ
  pub links : List ℕ
  pub schedule : List ℕ

abbrev pub section : List ℕ → List ℕ → List ℕ → List ℕ → List ℕ → Section
section ks s heads links bs = record { counts = ks; bytes = s; heads = heads; links = links; schedule = bs }

-- the byte at an offset of the section
abbrev pub byte_at : Section → ℕ → ℕ
byte_at z from = get_or z.bytes from 0

-- what belongs to the item at an offset: the name that a NEW or MIRROR makes, or an offset
abbrev pub link_at : Section → ℕ → ℕ
link_at z from = get_or z.links from 0

-- an item with that code stands at the offset
abbrev pub IsAt : Section → ℕ → ℕ → Type 0
IsAt z from b = (from < length z.bytes) × (byte_at z from ≡ b)

-- the code of the item that closes a first alternative, or another block
abbrev pub closer : Bool → ℕ
closer first = cond first (code OTHER) (code END)

-- The code, a first alternative or another block, stands at the offset `from`, with what belongs to its items where the
-- section keeps it, and `to` is the offset after it.
abbrev pub Lies : Section → Bool → ℕ → Code → ℕ → Type 0
Lies z o from end to = IsAt z from (closer o) × (to ≡ from + 1)
Lies z o from (new x c) to =
    IsAt z from (code NEW) × (link_at z from ≡ x) × (x < most_names) × Lies z o (from + 1) c to
Lies z o from (lock x c d) to =
    IsAt z from (code LOCK) × IsAt z (from + 1) x × (x < most_names)
    × ((mid : ℕ) × Lies z false (from + 2) c mid × Lies z o mid d to)
Lies z o from (fork i c d) to =
    IsAt z from (code FORK) × Lies z false (from + 1) c (link_at z from) × Lies z o (link_at z from) d to
Lies z o from (choice a b c) to =
    IsAt z from (code CHOICE) × Lies z true (from + 1) a (link_at z from)
    × Lies z false (link_at z from) b (link_at z (link_at z from - 1)) × Lies z o (link_at z (link_at z from - 1)) c to
Lies z o from (call r xs c) to =
    IsAt z from (code CALL) × IsAt z (from + 1) r × (r < length z.counts) × (get_or z.counts r 0 ≡ length xs)
    × (length xs < most_names)
    × ((j : ℕ) → j < length xs → IsAt z (from + 2 + j) (get_or xs j 0) × (get_or xs j 0 < most_names))
    × Lies z o (from + 2 + length xs) c to
Lies z o from (mirror x y c) to =
    IsAt z from (code MIRROR) × (link_at z from ≡ x) × (x < most_names) × IsAt z (from + 1) y × (y < most_names)
    × Lies z o (from + 2) c to

-- the body of every routine lies at its head
abbrev pub Bodies : Program → Section → Type 0
Bodies P z = (q : ℕ) → q < length z.counts → (to : ℕ) × Lies z false (get_or z.heads q 0) (body P q) to
