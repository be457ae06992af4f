-- Programs that differ in one body alone.
use Rattle.std.specs.Prelude.{◌≡◌, ◌≢◌, ℕ, ◌<◌, length}
use Rattle.table.specs.Program.{Program, params, body}

-- P and Q have routine r, and differ in its body at most
pub record OnlyBody (P Q : Program) (r : ℕ) : Type 0 where
  pub listed : r < length P
  pub same_length : length Q ≡ length P
  pub same_params : (q : ℕ) → params Q q ≡ params P q
  pub same_bodies : (q : ℕ) → q ≢ r → body Q q ≡ body P q
