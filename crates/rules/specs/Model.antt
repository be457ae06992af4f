-- Pairs, rows and rings: the least set that the rules give, a rule a line (docs/FORMAT.md has them in words).
use Rattle.std.specs.Prelude.{◌≡◌, ◌≢◌, ◌⊎◌, cond, List, [], ◌∷◌, map, ℕ, zero, suc, ◌≤◌, eqb}
use Rattle.std.proofs.Math.Option.{Option, none, some}
use Rattle.std.proofs.Math.ListN.{get_elem?}
use Rattle.table.specs.Program.{Code, new, lock, fork, choice, call, mirror, Program, params, body}
use Rattle.table.specs.WellFormed.{In}
use Rattle.table.specs.Check.{in?}
use Rattle.rules.specs.Label.{Label, own, forked, several, combine, cut, placed}

-- the pairs that are not dropped: those with two different ends, and those labelled several
abbrev pub Kept : ℕ → ℕ → Label → Type 0
Kept a b l = (a ≢ b) ⊎ (l ≡ several)

-- the caller's name for a name of the callee: for 0 the holder h at the call, for parameter i the i-th of the names xs
abbrev pub renamed : Option ℕ → List ℕ → ℕ → Option ℕ
renamed h xs zero = h
renamed h xs (suc i) = get_elem? xs i

-- a place in a body: its thread, the root of each name in scope (the parameter or NEW name behind its mirrors), its
-- holder h (none for nothing), and its nest, the roots of the names of the LOCK blocks of that thread that are open
-- there in this body
pub record Place : Type 0 where
  pub thread : Label
  pub roots : ℕ → ℕ
  pub holder : Option ℕ
  pub nest : List ℕ

-- the head of a body: the running thread, each name its own root, name 0 as the holder, and an empty nest
abbrev pub at_head : Place
at_head = record { thread = own; roots = λ x. x; holder = some 0; nest = [] }

-- f with z for x: what roots, and in a run locks, are once a NEW or MIRROR has given the name x
abbrev pub bind : ℕ → ℕ → (ℕ → ℕ) → ℕ → ℕ
bind x z f y = cond (eqb y x) z (f y)

-- the place after a NEW or MIRROR that gives the name x, with the root z
abbrev pub naming : ℕ → ℕ → Place → Place
naming x z w = record { thread = w.thread; roots = bind x z w.roots; holder = w.holder; nest = w.nest }

-- the place with the root z as its holder, and put into its nest
abbrev pub nested : ℕ → Place → Place
nested z w = record { thread = w.thread; roots = w.roots; holder = some z; nest = z ∷ w.nest }

-- the head of the block of a LOCK, z its name's root: the place outside where z is in its nest, else z is nested
abbrev pub under_lock : ℕ → Place → Place
under_lock z w = cond (in? z w.nest) w (nested z w)

-- the head of the block of FORK i: that thread, with nothing as its holder and an empty nest, whatever is held outside
abbrev pub under_fork : ℕ → Place → Place
under_fork i w = record { thread = forked i; roots = w.roots; holder = none; nest = [] }

-- Recorded P c w a b l: the code c, at the place w, records the pair (a, b) labelled l. A LOCK on a name whose root is
-- in the nest records nothing itself (at_lock). Model P r a b l: the pair is among those worked out in the body of
-- routine r.
mutual
  pub data Recorded (P : Program) : Code → Place → ℕ → ℕ → Label → Type 0 where
    in_new : {x : ℕ} {c : Code} {w : Place} {a b : ℕ} {l : Label}
        → Recorded P c (naming x x w) a b l
        → Recorded P (new x c) w a b l
    at_lock : {x : ℕ} {c d : Code} {w : Place} {a b : ℕ} {l : Label}
        → ¬ In (w.roots x) w.nest → w.holder ≡ some a → b ≡ w.roots x → l ≡ w.thread
        → Recorded P (lock x c d) w a b l
    in_lock : {x : ℕ} {c d : Code} {w : Place} {a b : ℕ} {l : Label}
        → Recorded P c (under_lock (w.roots x) w) a b l
        → Recorded P (lock x c d) w a b l
    after_lock : {x : ℕ} {c d : Code} {w : Place} {a b : ℕ} {l : Label}
        → Recorded P d w a b l
        → Recorded P (lock x c d) w a b l
    in_fork : {i : ℕ} {c d : Code} {w : Place} {a b : ℕ} {l : Label}
        → Recorded P c (under_fork i w) a b l
        → Recorded P (fork i c d) w a b l
    after_fork : {i : ℕ} {c d : Code} {w : Place} {a b : ℕ} {l : Label}
        → Recorded P d w a b l
        → Recorded P (fork i c d) w a b l
    in_first : {u v c : Code} {w : Place} {a b : ℕ} {l : Label}
        → Recorded P u w a b l
        → Recorded P (choice u v c) w a b l
    in_second : {u v c : Code} {w : Place} {a b : ℕ} {l : Label}
        → Recorded P v w a b l
        → Recorded P (choice u v c) w a b l
    after_choice : {u v c : Code} {w : Place} {a b : ℕ} {l : Label}
        → Recorded P c w a b l
        → Recorded P (choice u v c) w a b l
    at_call : {r : ℕ} {xs : List ℕ} {c : Code} {w : Place} {a b a₀ b₀ : ℕ} {l m : Label}
        → Model P r a₀ b₀ m → a₀ ≤ params P r → b₀ ≤ params P r → a₀ ≢ b₀
        → renamed w.holder (map w.roots xs) a₀ ≡ some a → renamed w.holder (map w.roots xs) b₀ ≡ some b
        → l ≡ placed w.thread (cut m)
        → Recorded P (call r xs c) w a b l
    after_call : {r : ℕ} {xs : List ℕ} {c : Code} {w : Place} {a b : ℕ} {l : Label}
        → Recorded P c w a b l
        → Recorded P (call r xs c) w a b l
    in_mirror : {x y : ℕ} {c : Code} {w : Place} {a b : ℕ} {l : Label}
        → Recorded P c (naming x (w.roots y) w) a b l
        → Recorded P (mirror x y c) w a b l

  pub data Model (P : Program) : ℕ → ℕ → ℕ → Label → Type 0 where
    records : {r a b : ℕ} {l : Label} → Recorded P (body P r) at_head a b l → Kept a b l → Model P r a b l
    follows : {r a b c : ℕ} {l m n : Label}
        → Model P r a b l → Model P r b c m → n ≡ combine l m → Kept a c n
        → Model P r a c n

-- the row of routine r has the pair: both ends are 0 or parameters, and differ, and the label is cut
abbrev pub Row : Program → ℕ → ℕ → ℕ → Label → Type 0
Row P r a b l = (m : Label) × Model P r a b m × (a ≤ params P r) × (b ≤ params P r) × (a ≢ b) × (l ≡ cut m)

-- the pairs worked out in the body of routine r have a ring at the name x
abbrev pub Ring : Program → ℕ → ℕ → Type 0
Ring P r x = Model P r x x several
