-- Labels by their numbers: those in a mask, those that are kept, and those that clash.
use Rattle.std.specs.Prelude.{◌≡◌, refl, ◌≢◌, ℕ, ◌<◌}
use Rattle.std.proofs.Common.{sym, ap, ◌∙◌, arith}
use Rattle.std.proofs.Math.Decide.{dec_lt}
use Rattle.table.specs.Constants.{most_forks}
use Rattle.rules.specs.Label.{Label, unknown, several, combine}
use Rattle.rules.specs.Number.{number, label_of, labels}
use Rattle.rules.proofs.Laws.Number.{LabelCase, is_own, is_fork, is_unknown, is_several, label_case}
use Rattle.rules.proofs.Laws.Number.{InRange, number_of_label, combine_same, combine_else}
use Rattle.grid.specs.Rows.{Has, Bits}
use Rattle.grid.specs.Grid.{In}
use Rattle.grid.specs.Planes.{Clashing}

-- the label of each number is in range
of_range : (n : ℕ) → InRange (label_of n)
of_range n = go (label_case most_forks n)
  where
    go : LabelCase most_forks n (label_of n) → InRange (label_of n)
    go (is_own e l) = rw l tt
    go (is_fork lo hi l) = rw l (lo, hi)
    go (is_unknown e l) = rw l tt
    go (is_several lo l) = rw l tt

-- a label in a mask is there by its own number
pub in_number : (m : ℕ) (l : Label) (p : In m l) → number l ≡ p.0
in_number m l p = let z = p.1 in ap number p.2 ∙ number_of_label most_forks p.0 (omega arith)

pub in_has : (m : ℕ) (l : Label) → In m l → Has m (number l)
in_has m l p = rw (in_number m l p) p.3

-- a label in a mask is in range
pub in_range : (m : ℕ) (l : Label) → In m l → InRange l
in_range m l p = rw p.2 (of_range p.0)

-- own and the forks combine with themselves to themselves, and are not several
pub keeps : (n : ℕ) → n < number unknown → combine (label_of n) (label_of n) ≡ label_of n
keeps n h = combine_same most_forks n (omega arith)

other_number : (n : ℕ) → n < number unknown → number (label_of n) ≡ number several → ⊥
other_number n h e =
    let z : n ≡ number several = sym (number_of_label most_forks n (omega arith)) ∙ e in omega arith

pub not_several : (n : ℕ) → n < number unknown → label_of n ≡ several → ⊥
not_several n h e = other_number n h (ap number e)

-- each other label clashes with l, and l does too unless it keeps itself
pub others_clash : (l m : ℕ) → l ≢ m → Clashing l m
others_clash l m n = combine_else most_forks m l (λ e. absurd (n (sym e)))

pub all_clash : (l : ℕ) → number (combine (label_of l) (label_of l)) ≡ number several → (m : ℕ) → Clashing l m
all_clash l e m =
    elim (dec_lt l (number unknown)) [
      | yes h ↦ absurd (other_number l h (ap number (sym (keeps l h)) ∙ e))
      | no h ↦ combine_else most_forks m l (λ i. omega arith)
    ]

-- a mask of one bit has the label of that number alone
pub in_one : (m n : ℕ) (l : Label) → Bits m (λ j. j ≡ n) → In m l → l ≡ label_of n
in_one m n l b p = p.2 ∙ ap label_of (b.to p.0 p.3)

pub one_in : (m n : ℕ) (l : Label) → n < labels → Bits m (λ j. j ≡ n) → l ≡ label_of n → In m l
one_in m n l h b e = (n, h, e, b.from n refl)
