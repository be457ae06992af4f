-- Labels and their numbers, and the rule of combining by numbers, for every number of forks.
use Rattle.std.specs.Prelude.{◌≡◌, refl, Bool, true, false, cond, ℕ, ◌+◌, ◌≤◌, ◌<◌, eqb, leb}
use Rattle.std.proofs.Common.{sym, arith, eqb-true, leb-true, leb-false, ne_eqb, le-leb}
use Rattle.std.proofs.lemmas.Bool.{eqb-false}
use Rattle.table.specs.Constants.{most_forks}
use Rattle.rules.specs.Label.{Label, own, forked, unknown, several, combine}
use Rattle.rules.proofs.Laws.Combine.{other_fork, same_fork}
use Rattle.rules.specs.Number.{number_for, label_for, number, label_of, labels}

-- the label l of a number n, by cases
pub data LabelCase (f n : ℕ) (l : Label) : Type 0 where
  is_own : n ≡ 0 → l ≡ own → LabelCase f n l
  is_fork : 1 ≤ n → n ≤ f → l ≡ forked n → LabelCase f n l
  is_unknown : n ≡ f + 1 → l ≡ unknown → LabelCase f n l
  is_several : f + 1 < n → l ≡ several → LabelCase f n l

pub label_case : (f n : ℕ) → LabelCase f n (label_for f n)
label_case f n = go (eqb n 0) (leb n f) (eqb n (f + 1)) refl refl refl
  where
    go : (b c d : Bool) → eqb n 0 ≡ b → leb n f ≡ c → eqb n (f + 1) ≡ d
        → LabelCase f n (cond b own (cond c (forked n) (cond d unknown several)))
    go true c d p q r = is_own (eqb-true n 0 p) refl
    go false true d p q r = is_fork (let z = eqb-false n 0 p in omega arith) (leb-true n f q) refl
    go false false true p q r = is_unknown (eqb-true n (f + 1) r) refl
    go false false false p q r =
        is_several (let y = leb-false n f q in let z = eqb-false n (f + 1) r in omega arith) refl

-- the rule of combining, by numbers: of two equal ones of own or of a fork it is that one, and several of all else
module _ (f : ℕ) where
  pub combine_same : (n : ℕ) → n ≤ f → combine (label_for f n) (label_for f n) ≡ label_for f n
  combine_same n h = go (label_case f n)
    where
      go : LabelCase f n (label_for f n) → combine (label_for f n) (label_for f n) ≡ label_for f n
      go (is_own e l) = rw l
      go (is_fork lo hi l) = rw l (same_fork n)
      go (is_unknown e l) = absurd (omega arith)
      go (is_several lo l) = absurd (omega arith)

  pub combine_else : (a b : ℕ) → (a ≡ b → f < a) → combine (label_for f a) (label_for f b) ≡ several
  combine_else a b h = go (label_case f a) (label_case f b)
    where
      go : LabelCase f a (label_for f a) → LabelCase f b (label_for f b) → combine (label_for f a) (label_for f b) ≡ several
      go (is_own e l) (is_own g m) = let z = h (omega arith) in absurd (omega arith)
      go (is_own e l) (is_fork lo hi m) = rw (l, m)
      go (is_own e l) (is_unknown g m) = rw (l, m)
      go (is_own e l) (is_several g m) = rw (l, m)
      go (is_fork lo hi l) (is_own g m) = rw (l, m)
      go (is_fork lo hi l) (is_fork lo' hi' m) = rw (l, m) (other_fork a b (λ e. let z = h e in omega arith))
      go (is_fork lo hi l) (is_unknown g m) = rw (l, m)
      go (is_fork lo hi l) (is_several g m) = rw (l, m)
      go (is_unknown e l) c = rw l
      go (is_several e l) c = rw l

  pub number_of_label : (n : ℕ) → n ≤ f + 2 → number_for f (label_for f n) ≡ n
  number_of_label n h = go (label_case f n)
    where
      go : LabelCase f n (label_for f n) → number_for f (label_for f n) ≡ n
      go (is_own e l) = rw l (sym e)
      go (is_fork lo hi l) = rw l
      go (is_unknown e l) = rw l (sym e)
      go (is_several lo l) = rw l (omega arith)

-- the labels of a routine: own, each fork that it may have, unknown and several
abbrev pub InRange : Label → Type 0
InRange own = Unit {0}
InRange (forked i) = (1 ≤ i) × (i ≤ most_forks)
InRange unknown = Unit {0}
InRange several = Unit {0}

pub label_of_number : (l : Label) → InRange l → label_of (number l) ≡ l
label_of_number own h = refl
label_of_number (forked i) h =
    let z : i ≡ 0 → ⊥ = λ e. omega arith in
    rw (ne_eqb i 0 z, le-leb i most_forks h.1)
label_of_number unknown h = refl
label_of_number several h = refl

pub number_lt : (l : Label) → InRange l → number l < labels
number_lt own h = omega arith
number_lt (forked i) h = omega arith
number_lt unknown h = omega arith
number_lt several h = omega arith
