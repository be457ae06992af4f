-- The routines that reach a routine by calls.
use Rattle.std.specs.Prelude.{◌≡◌, ◌⊎◌, ℕ}
use Rattle.table.specs.Program.{Program, body}
use Rattle.rules.specs.Verdict.{Calls}

-- routine q reaches routine r by calls, one or more
pub data ReachesBy (P : Program) : ℕ → ℕ → Type 0 where
  calls : {q r : ℕ} → Calls (body P q) r → ReachesBy P q r
  passes : {q s r : ℕ} → Calls (body P q) s → ReachesBy P s r → ReachesBy P q r

-- routine q is routine r, or reaches it by calls: its row may change where the body of r does
abbrev pub Touched : Program → ℕ → ℕ → Type 0
Touched P r q = (q ≡ r) ⊎ ReachesBy P q r
