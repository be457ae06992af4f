-- Labels as numbers, as the code and the masks keep them: own is 0, fork i is i, and then come unknown and several.
use Rattle.std.specs.Prelude.{cond, ℕ, ◌+◌, eqb, leb}
use Rattle.table.specs.Constants.{most_forks}
use Rattle.rules.specs.Label.{Label, own, forked, unknown, several}

-- the number of a label, where a routine has at most f forks
abbrev pub number_for : ℕ → Label → ℕ
number_for f own = 0
number_for f (forked i) = i
number_for f unknown = f + 1
number_for f several = f + 2

-- the label of a number from 0 to f + 2, where a routine has at most f forks
abbrev pub label_for : ℕ → ℕ → Label
label_for f n = cond (eqb n 0) own (cond (leb n f) (forked n) (cond (eqb n (f + 1)) unknown several))

-- the number of a label of a table
abbrev pub number : Label → ℕ
number l = number_for most_forks l

-- the label of a number, in a table
abbrev pub label_of : ℕ → Label
label_of n = label_for most_forks n

-- how many labels there are
abbrev pub labels : ℕ
labels = most_forks + 3
