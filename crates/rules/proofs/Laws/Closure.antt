-- The model of a routine is what its body records, closed under combining; the closure is the least.
use Rattle.std.specs.Prelude.{ℕ}
use Rattle.table.specs.Program.{Program, body}
use Rattle.rules.specs.Label.{Label, combine}
use Rattle.rules.specs.Model.{Kept, at_head, Recorded, Model}
use Rattle.rules.specs.Derived.{Closed, given}

-- the kept pairs that the body of routine r records
abbrev pub KeptBy : Program → ℕ → ℕ → ℕ → Label → Type 0
KeptBy P r a b l = Recorded P (body P r) at_head a b l × Kept a b l

-- the model of routine r is the closure of what its body records
pub closed_of_model : {P : Program} {r a b : ℕ} {l : Label} → Model P r a b l → Closed (KeptBy P r) a b l
closed_of_model (Model.records w k) = given (w, k)
closed_of_model (Model.follows p q e k) = Closed.follows (closed_of_model p) (closed_of_model q) e k

pub model_of_closed : {P : Program} {r a b : ℕ} {l : Label} → Closed (KeptBy P r) a b l → Model P r a b l
model_of_closed (given w) = Model.records w.0 w.1
model_of_closed (Closed.follows p q e k) = Model.follows (model_of_closed p) (model_of_closed q) e k

-- pairs N that have G, and each kept pair that follows from two of N, have all of the closure
pub closed_least :
    (G N : ℕ → ℕ → Label → Type 0) → ((a b : ℕ) (l : Label) → G a b l → N a b l)
    → ((a b c : ℕ) (l m : Label) → N a b l → N b c m → Kept a c (combine l m) → N a c (combine l m))
    → {a b : ℕ} {l : Label} → Closed G a b l → N a b l
closed_least G N f g (given {a = a} {b = b} {l = l} w) = f a b l w
closed_least G N f g (Closed.follows {a = a} {b = b} {c = c} {l = l} {m = m} p q e k) =
    rw e (g a b c l m (closed_least G N f g p) (closed_least G N f g q) (rw e at k))
