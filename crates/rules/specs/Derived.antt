-- The pairs that a body gives from the rows of the routines that it calls: what it records from them by the rules of
-- Model.antt, closed under combining; and the rows that pairs give.
use Rattle.std.specs.Prelude.{◌≡◌, ◌≢◌, ◌⊎◌, map, ℕ, ◌≤◌}
use Rattle.std.proofs.Math.Option.{some}
use Rattle.table.specs.Program.{Code, end, new, lock, fork, choice, call, mirror, Program, params, body}
use Rattle.table.specs.WellFormed.{In}
use Rattle.rules.specs.Label.{Label, combine, cut, placed}
use Rattle.rules.specs.Model.{Kept, renamed, Place, at_head, naming, under_lock, under_fork}

-- a family of labelled pairs for each routine
abbrev pub Pairs : Type 1
Pairs = ℕ → ℕ → ℕ → Label → Type 0

-- the code c, at the place w, records the pair (a, b) labelled l, where R has the rows of the routines called
abbrev pub RecordedFrom : Pairs → Code → Place → ℕ → ℕ → Label → Type 0
RecordedFrom R end w a b l = ⊥
RecordedFrom R (new x c) w a b l = RecordedFrom R c (naming x x w) a b l
RecordedFrom R (lock x c d) w a b l =
    ((¬ In (w.roots x) w.nest) × (w.holder ≡ some a) × (b ≡ w.roots x) × (l ≡ w.thread))
    ⊎ (RecordedFrom R c (under_lock (w.roots x) w) a b l ⊎ RecordedFrom R d w a b l)
RecordedFrom R (fork i c d) w a b l = RecordedFrom R c (under_fork i w) a b l ⊎ RecordedFrom R d w a b l
RecordedFrom R (choice u v c) w a b l =
    RecordedFrom R u w a b l ⊎ (RecordedFrom R v w a b l ⊎ RecordedFrom R c w a b l)
RecordedFrom R (call r xs c) w a b l =
    ((a₀ : ℕ) × (b₀ : ℕ) × (m : Label) × R r a₀ b₀ m
    × (renamed w.holder (map w.roots xs) a₀ ≡ some a) × (renamed w.holder (map w.roots xs) b₀ ≡ some b)
    × (l ≡ placed w.thread m))
    ⊎ RecordedFrom R c w a b l
RecordedFrom R (mirror x y c) w a b l = RecordedFrom R c (naming x (w.roots y) w) a b l

-- the row that the pairs M give routine r
abbrev pub RowOf : Program → Pairs → Pairs
RowOf P M r a b l = (m : Label) × M r a b m × (a ≤ params P r) × (b ≤ params P r) × (a ≢ b) × (l ≡ cut m)

-- the pairs G, and each kept pair that follows from two
pub data Closed (G : ℕ → ℕ → Label → Type 0) : ℕ → ℕ → Label → Type 0 where
  given : {a b : ℕ} {l : Label} → G a b l → Closed G a b l
  follows : {a b c : ℕ} {l m n : Label}
      → Closed G a b l → Closed G b c m → n ≡ combine l m → Kept a c n
      → Closed G a c n

-- the kept pairs that a code records as a body, from the rows R
abbrev pub KeptFrom : Pairs → Code → ℕ → ℕ → Label → Type 0
KeptFrom R c a b l = RecordedFrom R c at_head a b l × Kept a b l

-- the pairs worked out in the body of routine r from the rows R
abbrev pub Derived : Program → Pairs → Pairs
Derived P R r a b l = Closed (KeptFrom R (body P r)) a b l
