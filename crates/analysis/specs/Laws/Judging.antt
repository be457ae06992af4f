-- What the functions of `judging.rt` give: the routines with a ring, the lowest of them, the verdict, and the share.
use Rattle.std.specs.Prelude.{◌≡◌, List, ℕ, ◌*◌, ◌/◌, ◌%◌, ◌<◌, get_or, Option, Some, None, IsSome}
use Rattle.table.specs.Constants.{most_routines}
use Rattle.grid.specs.Rows.{Has, Bits}
use Rattle.rows.specs.Bytes.{RingByte}
use Rattle.analysis.specs.declared.Share.{Share}
use Rattle.analysis.specs.declared.Verdict.{Verdict}
use Rattle.analysis.specs.declared.Verdict.TheVariants.{Clear, Ring}

-- routine r is in the mask, and its row tells of a ring
abbrev pub RingRow : List ℕ → ℕ → ℕ → Type 0
RingRow model mask r = Has mask r × RingByte model r

-- m has the routines below n that are in the mask and whose rows tell of a ring
abbrev pub RingRows : List ℕ → ℕ → ℕ → ℕ → Type 0
RingRows model n mask m = Bits m (λ r. (r < n) × RingRow model mask r)

-- r is the lowest bit of the mask
pub record Lowest (mask r : ℕ) : Type 0 where
  pub bit : Has mask r
  pub lowest : (q : ℕ) → q < r → Has mask q → ⊥

-- the list has a ring name for each routine of the mask
abbrev pub AllNamed : ℕ → List (Option ℕ) → Type 0
AllNamed rings names = (r : ℕ) → Has rings r → IsSome (get_or names r None)

-- the verdict where the routines with a ring are those of the mask, and the list has the ring names
abbrev pub Tells : ℕ → List (Option ℕ) → Verdict → Type 0
Tells rings names Clear = rings ≡ 0
Tells rings names (Ring ring) =
    Lowest rings ring.routine × (ring.routine < most_routines) × (get_or names ring.routine None ≡ Some ring.name)

-- the share of c in m, by division
abbrev pub Divided : ℕ → ℕ → Share → Type 0
Divided c m share = (share.percent ≡ 100 * c / m) × (share.remainder ≡ 100 * c % m) × (share.reached ≡ m)
