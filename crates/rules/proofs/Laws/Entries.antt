-- The table of combined labels that request 103 replaced by a formula.
use Rattle.std.specs.Prelude.{List, [], ◌∷◌, ℕ}

-- the table, for routines of at most 8 forks: in row a and column b stands the label of (x, z) where (x, y) has label a
-- and (y, z) label b
abbrev pub entries : List (List ℕ)
entries =
    (0 ∷ 10 ∷ 10 ∷ 10 ∷ 10 ∷ 10 ∷ 10 ∷ 10 ∷ 10 ∷ 10 ∷ 10 ∷ [])
    ∷ (10 ∷ 1 ∷ 10 ∷ 10 ∷ 10 ∷ 10 ∷ 10 ∷ 10 ∷ 10 ∷ 10 ∷ 10 ∷ [])
    ∷ (10 ∷ 10 ∷ 2 ∷ 10 ∷ 10 ∷ 10 ∷ 10 ∷ 10 ∷ 10 ∷ 10 ∷ 10 ∷ [])
    ∷ (10 ∷ 10 ∷ 10 ∷ 3 ∷ 10 ∷ 10 ∷ 10 ∷ 10 ∷ 10 ∷ 10 ∷ 10 ∷ [])
    ∷ (10 ∷ 10 ∷ 10 ∷ 10 ∷ 4 ∷ 10 ∷ 10 ∷ 10 ∷ 10 ∷ 10 ∷ 10 ∷ [])
    ∷ (10 ∷ 10 ∷ 10 ∷ 10 ∷ 10 ∷ 5 ∷ 10 ∷ 10 ∷ 10 ∷ 10 ∷ 10 ∷ [])
    ∷ (10 ∷ 10 ∷ 10 ∷ 10 ∷ 10 ∷ 10 ∷ 6 ∷ 10 ∷ 10 ∷ 10 ∷ 10 ∷ [])
    ∷ (10 ∷ 10 ∷ 10 ∷ 10 ∷ 10 ∷ 10 ∷ 10 ∷ 7 ∷ 10 ∷ 10 ∷ 10 ∷ [])
    ∷ (10 ∷ 10 ∷ 10 ∷ 10 ∷ 10 ∷ 10 ∷ 10 ∷ 10 ∷ 8 ∷ 10 ∷ 10 ∷ [])
    ∷ (10 ∷ 10 ∷ 10 ∷ 10 ∷ 10 ∷ 10 ∷ 10 ∷ 10 ∷ 10 ∷ 10 ∷ 10 ∷ [])
    ∷ (10 ∷ 10 ∷ 10 ∷ 10 ∷ 10 ∷ 10 ∷ 10 ∷ 10 ∷ 10 ∷ 10 ∷ 10 ∷ []) ∷ []
