-- The links of the sections of a table.
use Rattle.std.specs.Prelude.{◌≡◌, List, ℕ, get_or}
use Rattle.table.specs.Program.{Program}
use Rattle.table.specs.Laws.Sections.{Holds}
use Rattle.links.specs.Lies.{section, Bodies}

-- every body lies at its head, with its links; the first at the offset 0
abbrev pub Links : List ℕ → List ℕ → List ℕ → List ℕ → Type 0
Links ks s heads links =
    (P : Program) → Holds P ks s
    → ((bs : List ℕ) → Bodies P (section ks s heads links bs)) × (get_or heads 0 0 ≡ 0)
