-- The canonical table of a program within the limits is accepted, as the canonical program, and is its own canonical
-- table.
use Rattle.std.specs.Prelude.{◌≡◌}
use Rattle.std.proofs.Common.{ap}
use Rattle.table.specs.Program.{Program}
use Rattle.table.specs.Check.{check_table, accepted}
use Rattle.table.specs.Encoding.{encode_table, WithinLimits}
use Rattle.table.proofs.Laws.Complete.{complete}
use Rattle.canon.specs.Canonical.{canonical, canonical_table}
use Rattle.canon.proofs.Laws.Limits.{canonical_within, canonical_twice}

pub canonical_accepted : (P : Program) → WithinLimits P → check_table (canonical_table P) ≡ accepted (canonical P)
canonical_accepted P within = complete (canonical P) (canonical_within P within)

pub canonical_table_twice : (P : Program) → WithinLimits P → canonical_table (canonical P) ≡ canonical_table P
canonical_table_twice P within = ap encode_table (canonical_twice P within)
