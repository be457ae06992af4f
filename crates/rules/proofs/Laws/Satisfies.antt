-- What it is for a family of pairs to satisfy the rules (docs/FORMAT.md).
use Rattle.std.specs.Prelude.{ℕ}
use Rattle.table.specs.Program.{Program, body}
use Rattle.rules.specs.Label.{Label, several, combine}
use Rattle.rules.specs.Model.{Kept, at_head}
use Rattle.rules.specs.Derived.{Pairs, RecordedFrom, RowOf}
use Rattle.rules.specs.Verdict.{Reached}

-- what some rules record in the body of each routine, by the rows of the routines called
abbrev pub Recording : Type 1
Recording = Pairs → Pairs

-- the pairs M have what each body records from their own rows, and what follows from two of them
pub record SatisfiesOf (F : Recording) (P : Program) (M : Pairs) : Type 0 where
  pub records : (r a b : ℕ) (l : Label)
      → F (RowOf P M) r a b l → Kept a b l
      → M r a b l
  pub follows : (r a b c : ℕ) (l m : Label)
      → M r a b l → M r b c m → Kept a c (combine l m)
      → M r a c (combine l m)

-- by the rules
abbrev pub Satisfies : Program → Pairs → Type 0
Satisfies P M = SatisfiesOf (λ R r a b l. RecordedFrom R (body P r) at_head a b l) P M

-- the pair is in the least model by what is recorded: in all pairs that have it
abbrev pub ModelOf : Recording → Program → ℕ → ℕ → ℕ → Label → Type 1
ModelOf F P r a b l = (M : Pairs) → SatisfiesOf F P M → M r a b l

-- the verdict clear by it
abbrev pub ClearOf : Recording → Program → Type 1
ClearOf F P = (r x : ℕ) → Reached P r → ModelOf F P r x x several → ⊥
