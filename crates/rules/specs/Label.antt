-- Labels: which threads a pair is of, and how labels change.
use Rattle.std.specs.Prelude.{ℕ}
use Rattle.std.proofs.Math.Decide.{ℕ_discrete}

-- the running thread, fork i of the routine, one unnamed thread, or two or more
pub data Label : Type 0 where
  own : Label
  forked : ℕ → Label
  unknown : Label
  several : Label

-- the label of (x, z) from those of (x, y) and (y, z): own with own and a fork with itself are kept, and every other
-- combination is several
abbrev pub combine : Label → Label → Label
combine own own = own
combine own (forked i) = several
combine own unknown = several
combine own several = several
combine (forked i) own = several
combine (forked i) (forked j) = elim (ℕ_discrete i j) [ yes p ↦ forked i | no n ↦ several ]
combine (forked i) unknown = several
combine (forked i) several = several
combine unknown m = several
combine several m = several

-- the label in a routine's row: unknown in place of a fork
abbrev pub cut : Label → Label
cut own = own
cut (forked i) = unknown
cut unknown = unknown
cut several = several

-- the label, at a call in thread θ, of a pair of the called row, which has no fork label: θ in place of own
abbrev pub placed : Label → Label → Label
placed θ own = θ
placed θ (forked i) = unknown
placed θ unknown = unknown
placed θ several = several
