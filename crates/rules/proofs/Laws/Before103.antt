-- Request 103 put a formula in the place of the table of combined labels: each result is the one that the table gave.
use Rattle.std.specs.Prelude.{◌≡◌, [], ℕ, ◌+◌, ◌<◌, get_or}
use Rattle.std.proofs.Common.{sym, ◌∙◌, arith}
use Rattle.std.proofs.Math.Decide.{ℕ_discrete}
use Rattle.table.specs.Constants.{most_forks}
use Rattle.rules.specs.Label.{combine}
use Rattle.rules.specs.Number.{number_for, label_for, number, label_of, labels}
use Rattle.rules.proofs.Laws.Entries.{entries}
use Rattle.rules.proofs.Laws.Table.{table_rule}

-- the formula has the table's entries, by one test at all 121, which antt computes
by_entry : (f a b : ℕ) → f ≡ 8 → a < f + 3 → b < f + 3
    → number_for f (combine (label_for f a) (label_for f b)) ≡ get_or (get_or entries a []) b 0
unfolding ℕ_discrete
by_entry f a b e h k =
    let all = table_rule 11 11 entries (λ x y. number_for 8 (combine (label_for 8 x) (label_for 8 y))) in
    rw e (sym (all a b (omega arith) (omega arith) tt))

-- a result as `combine` promises it is the table's entry
pub as_the_table : most_forks ≡ 8 → (a b r : ℕ) → a < labels → b < labels
    → r ≡ number (combine (label_of a) (label_of b)) → r ≡ get_or (get_or entries a []) b 0
as_the_table e a b r h k p = p ∙ by_entry most_forks a b e h k
