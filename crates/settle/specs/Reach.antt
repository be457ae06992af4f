-- Reachability over call masks: what `reach.rt` works out.
use Rattle.std.specs.Prelude.{◌≡◌, List, ℕ, ◌≤◌, ◌<◌, length, get_or}
use Rattle.table.specs.Constants.{most_routines}
use Rattle.grid.specs.Rows.{Has}

-- routine r calls routine q
abbrev pub CallBit : List ℕ → ℕ → ℕ → Type 0
CallBit calls r q = (r < length calls) × Has (get_or calls r 0) q

-- calls reach q from routine `from`
pub data Reachable (calls : List ℕ) (from : ℕ) : ℕ → Type 0 where
  main : {q : ℕ} → q ≡ from → Reachable calls from q
  next : {r q : ℕ} → Reachable calls from r → CallBit calls r q → Reachable calls from q

-- the calls can be followed: routine `from` is there, and so is each routine that one calls
pub record CanReach (calls : List ℕ) (from : ℕ) : Type 0 where
  pub there : from < length calls
  pub few : length calls ≤ most_routines
  pub within : (r q : ℕ) → CallBit calls r q → q < length calls
