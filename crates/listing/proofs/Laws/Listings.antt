-- The listings of the worked tables g and h, whole, and of a refusal, byte for byte.
use Rattle.std.specs.Prelude.{◌≡◌, refl, List, [], ◌∷◌, ℕ, ◌+◌, ◌*◌, replicate, set, Ok, Err}
use Rattle.table.specs.Constants.{row_names, row_bytes}
use Rattle.analysis.specs.declared.Verdict.TheVariants.{Clear, Ring}
use Rattle.table.specs.declared.refusal.Refusal.TheVariants.{NoBytes}
use Rattle.listing.specs.Text.{digits, each, listing}

-- rows of two routines, all zero
abbrev none : List ℕ
none = replicate (row_bytes * 2) 0

-- rows with v in the cell (a, b) of routine 1
abbrev with_cell : List ℕ → ℕ → ℕ → ℕ → List ℕ
with_cell rows a b v = set rows (row_bytes * 1 + (row_names * a + b)) v

-- g, whatever the number of rounds
pub g_listed : (m : ℕ) → listing 2 (with_cell (with_cell (with_cell none 0 1 1) 0 2 1) 2 1 1)
    (Ok (record { verdict = Clear; share = record { percent = 100; remainder = 0; reached = 2 }; rounds = m })) ≡
    -- routines 2
    114 ∷ 111 ∷ 117 ∷ 116 ∷ 105 ∷ 110 ∷ 101 ∷ 115 ∷ 32 ∷ 50 ∷ 10
    -- pair 1 0 1 1
    ∷ 112 ∷ 97 ∷ 105 ∷ 114 ∷ 32 ∷ 49 ∷ 32 ∷ 48 ∷ 32 ∷ 49 ∷ 32 ∷ 49 ∷ 10
    -- pair 1 0 2 1
    ∷ 112 ∷ 97 ∷ 105 ∷ 114 ∷ 32 ∷ 49 ∷ 32 ∷ 48 ∷ 32 ∷ 50 ∷ 32 ∷ 49 ∷ 10
    -- pair 1 2 1 1
    ∷ 112 ∷ 97 ∷ 105 ∷ 114 ∷ 32 ∷ 49 ∷ 32 ∷ 50 ∷ 32 ∷ 49 ∷ 32 ∷ 49 ∷ 10
    -- share 100 0 2
    ∷ 115 ∷ 104 ∷ 97 ∷ 114 ∷ 101 ∷ 32 ∷ 49 ∷ 48 ∷ 48 ∷ 32 ∷ 48 ∷ 32 ∷ 50 ∷ 10
    -- clear
    ∷ 99 ∷ 108 ∷ 101 ∷ 97 ∷ 114 ∷ 10
    ∷ []
unfolding digits each
g_listed m = refl

-- h
pub h_listed : (m : ℕ) → listing 2 (with_cell (with_cell (with_cell none 0 1 1) 0 2 5) 1 2 5)
    (Ok (record {
      verdict = Ring (record { routine = 0; name = 1 });
      share = record { percent = 50; remainder = 0; reached = 2 };
      rounds = m;
    })) ≡
    -- routines 2
    114 ∷ 111 ∷ 117 ∷ 116 ∷ 105 ∷ 110 ∷ 101 ∷ 115 ∷ 32 ∷ 50 ∷ 10
    -- pair 1 0 1 1
    ∷ 112 ∷ 97 ∷ 105 ∷ 114 ∷ 32 ∷ 49 ∷ 32 ∷ 48 ∷ 32 ∷ 49 ∷ 32 ∷ 49 ∷ 10
    -- pair 1 0 2 5
    ∷ 112 ∷ 97 ∷ 105 ∷ 114 ∷ 32 ∷ 49 ∷ 32 ∷ 48 ∷ 32 ∷ 50 ∷ 32 ∷ 53 ∷ 10
    -- pair 1 1 2 5
    ∷ 112 ∷ 97 ∷ 105 ∷ 114 ∷ 32 ∷ 49 ∷ 32 ∷ 49 ∷ 32 ∷ 50 ∷ 32 ∷ 53 ∷ 10
    -- share 50 0 2
    ∷ 115 ∷ 104 ∷ 97 ∷ 114 ∷ 101 ∷ 32 ∷ 53 ∷ 48 ∷ 32 ∷ 48 ∷ 32 ∷ 50 ∷ 10
    -- ring 0 1
    ∷ 114 ∷ 105 ∷ 110 ∷ 103 ∷ 32 ∷ 48 ∷ 32 ∷ 49 ∷ 10
    ∷ []
unfolding digits each
h_listed m = refl

-- an empty table
pub refusal_listed : listing 0 [] (Err NoBytes) ≡
    -- refused 1
    114 ∷ 101 ∷ 102 ∷ 117 ∷ 115 ∷ 101 ∷ 100 ∷ 32 ∷ 49 ∷ 10
    ∷ []
unfolding digits each
refusal_listed = refl
