-- The canonical program of a program and its table, and the programs that differ only in how they are written.
use Rattle.std.specs.Prelude.{◌≡◌, cond, List, [], ◌∷◌, ◌++◌, map, ℕ, zero, suc, ◌+◌, eqb, length, get_or}
use Rattle.std.proofs.Math.Option.{Option, none, some}
use Rattle.std.proofs.Math.ListN.{get_elem?}
use Rattle.table.specs.Program.{Code, end, new, lock, fork, choice, call, mirror, Routine, Program, empty}
use Rattle.table.specs.Program.{params, body}
use Rattle.table.specs.Check.{in?}
use Rattle.table.specs.Encoding.{encode_table}
use Rattle.rules.specs.Model.{bind}
use Rattle.rules.specs.Verdict.{Reached}

-- the routines that the calls of the code name, in written order
abbrev pub called : Code → List ℕ
called end = []
called (new x c) = called c
called (lock x c d) = called c ++ called d
called (fork i c d) = called c ++ called d
called (choice a b c) = called a ++ (called b ++ called c)
called (call r xs c) = r ∷ called c
called (mirror x y c) = called c

-- the routines s, and after them r where it is not among them
abbrev pub met : List ℕ → ℕ → List ℕ
met s r = cond (in? r s) s (s ++ (r ∷ []))

-- the routines s, and after them those of the list that are not among them, as first met
abbrev pub all_met : List ℕ → List ℕ → List ℕ
all_met s [] = s
all_met s (r ∷ rs) = all_met (met s r) rs

-- the routines that the calls of a routine name, if there is one
abbrev pub called_by : Program → Option ℕ → List ℕ
called_by P none = []
called_by P (some r) = called (body P r)

-- the routines met, in order, once the bodies with the new numbers below i are read
unfoldable pub found : Program → ℕ → List ℕ
found P zero = 0 ∷ []
found P (suc i) = all_met (found P i) (called_by P (get_elem? (found P i) i))

-- the routines in the order in which they are first met: a routine's new number is its place in this list
unfoldable pub order : Program → List ℕ
order P = found P (length P)

-- the place of r in the list
abbrev pub position : List ℕ → ℕ → ℕ
position [] r = 0
position (x ∷ s) r = cond (eqb r x) 0 (suc (position s r))

-- the new number of routine r
abbrev pub place : Program → ℕ → ℕ
place P = position (order P)

-- how many NEW stand in the code
abbrev pub news : Code → ℕ
news end = 0
news (new x c) = 1 + news c
news (lock x c d) = news c + news d
news (fork i c d) = news c + news d
news (choice a b c) = news a + (news b + news c)
news (call r xs c) = news c
news (mirror x y c) = news c

-- the code with its mirrors resolved and left out and its locals renumbered, where σ has the new name of each name in
-- scope and n is the next local name
abbrev pub plain : (ℕ → ℕ) → ℕ → Code → Code
plain σ n end = end
plain σ n (new x c) = new n (plain (bind x n σ) (n + 1) c)
plain σ n (lock x c d) = lock (σ x) (plain σ n c) (plain σ (n + news c) d)
plain σ n (fork i c d) = fork i (plain σ n c) (plain σ (n + news c) d)
plain σ n (choice a b c) = choice (plain σ n a) (plain σ (n + news a) b) (plain σ (n + news a + news b) c)
plain σ n (call r xs c) = call r (map σ xs) (plain σ n c)
plain σ n (mirror x y c) = plain (bind x (σ y) σ) n c

-- the code with the routine of each call renumbered by f
abbrev pub recalled : (ℕ → ℕ) → Code → Code
recalled f end = end
recalled f (new x c) = new x (recalled f c)
recalled f (lock x c d) = lock x (recalled f c) (recalled f d)
recalled f (fork i c d) = fork i (recalled f c) (recalled f d)
recalled f (choice a b c) = choice (recalled f a) (recalled f b) (recalled f c)
recalled f (call r xs c) = call (f r) xs (recalled f c)
recalled f (mirror x y c) = mirror x y (recalled f c)

-- the body of a routine with its mirrors resolved and left out and its locals renumbered
abbrev pub resolved : Routine → Code
resolved q = plain (λ x. x) (q.count + 1) q.code

-- a routine with its body resolved and its calls renumbered by f
abbrev pub rewritten : (ℕ → ℕ) → Routine → Routine
rewritten f q = record { count = q.count; code = recalled f (resolved q) }

-- the canonical program: the reached routines, rewritten, in the order in which they are first met
unfoldable pub canonical : Program → Program
canonical P = map (λ r. rewritten (place P) (get_or P r empty)) (order P)

-- the canonical table of a program: the bytes of its canonical program
abbrev pub canonical_table : Program → List ℕ
canonical_table P = encode_table (canonical P)

-- P and Q differ only in the order of routines after 0, in unreached routines or in mirrors: reached routine r of P is
-- routine `to r` of Q, and their bodies are equal once resolved and renumbered
pub record Alike (P Q : Program) : Type 0 where
  pub to : ℕ → ℕ
  pub main : to 0 ≡ 0
  pub apart : (r q : ℕ) → Reached P r → Reached P q → to r ≡ to q → r ≡ q
  pub count : (r : ℕ) → Reached P r → params P r ≡ params Q (to r)
  pub body : (r : ℕ) → Reached P r → recalled to (resolved (get_or P r empty)) ≡ resolved (get_or Q (to r) empty)
