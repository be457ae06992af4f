-- The routines that calls reach, and the verdict.
use Rattle.std.specs.Prelude.{◌≡◌, ◌⊎◌, ℕ, ◌≤◌}
use Rattle.table.specs.Program.{Code, end, new, lock, fork, choice, call, mirror, Program, body}
use Rattle.rules.specs.Model.{Ring}

-- a CALL anywhere in the code names routine q
abbrev pub Calls : Code → ℕ → Type 0
Calls end q = ⊥
Calls (new x c) q = Calls c q
Calls (lock x c d) q = Calls c q ⊎ Calls d q
Calls (fork i c d) q = Calls c q ⊎ Calls d q
Calls (choice a b c) q = Calls a q ⊎ (Calls b q ⊎ Calls c q)
Calls (call r xs c) q = (q ≡ r) ⊎ Calls c q
Calls (mirror x y c) q = Calls c q

-- routine 0 is reached, and so is each routine that a reached one calls
pub data Reached (P : Program) : ℕ → Type 0 where
  first : Reached P 0
  then : {r q : ℕ} → Reached P r → Calls (body P r) q → Reached P q

-- the verdict clear: no reached routine has a ring
abbrev pub Clear : Program → Type 0
Clear P = (r x : ℕ) → Reached P r → Ring P r x → ⊥

-- the verdict ring with routine r and name x: the lowest reached routine with a ring, and its lowest ring name
pub record RingAt (P : Program) (r x : ℕ) : Type 0 where
  pub reached : Reached P r
  pub ring : Ring P r x
  pub lowest_routine : (q y : ℕ) → Reached P q → Ring P q y → r ≤ q
  pub lowest_name : (y : ℕ) → Ring P r y → x ≤ y
