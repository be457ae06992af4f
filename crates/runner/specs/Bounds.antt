-- How large a section is at most: what makes its offsets and counts safe to compute with.
use Rattle.std.specs.Prelude.{◌^◌, ◌<◌, ◌≤◌, length}
use Rattle.table.specs.Constants.{most_bytes, most_routines}
use Rattle.links.specs.Lies.{Section}

-- the body section is not empty, it and the routines are within document 01's limits, and the schedule can be counted
pub record Bounds (z : Section) : Type 0 where
  pub some : 1 ≤ length z.bytes
  pub bytes : length z.bytes ≤ most_bytes
  pub routines : length z.counts ≤ most_routines
  pub schedule : length z.schedule < 2 ^ 64
