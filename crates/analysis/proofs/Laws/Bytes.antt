-- Flags and cells as bytes: what a byte tells of the labels, and the other way round.
use Rattle.std.specs.Prelude.{◌≡◌, List, ℕ, ◌+◌, ◌*◌, ◌/◌, ◌%◌, ◌^◌, ◌<◌, get_or}
use Rattle.std.proofs.Common.{sym, ◌∙◌, subst, inl, inr, arith}
use Rattle.std.proofs.Math.Decide.{ℕ_discrete}
use Rattle.table.specs.Constants.{row_names, row_bytes}
use Rattle.rules.specs.Label.{Label, own, forked, unknown, several}
use Rattle.rows.specs.Bytes.{Labelled, RowBits}
use Rattle.rows.specs.Model.{ShapedRow}
use Rattle.analysis.specs.Answer.{Flag, CellOf}

-- a flag is 0 or 1, and tells
pub flag_small : (v : ℕ) (Q : Type 0) → Flag v Q → v < 2
flag_small v Q (inl f) = let e = f.0 in omega arith
flag_small v Q (inr f) = let e = f.0 in omega arith

pub flag_true : (v : ℕ) (Q : Type 0) → Flag v Q → v ≡ 1 → Q
flag_true v Q (inl f) e = f.1
flag_true v Q (inr f) e = let z = f.0 in absurd (omega arith)

pub flag_set : (v : ℕ) (Q : Type 0) → Flag v Q → Q → v ≡ 1
flag_set v Q (inl f) q = f.0
flag_set v Q (inr f) q = absurd (f.1 q)

pub flag_none : (v : ℕ) (Q : Type 0) → Flag v Q → ¬ Q → v ≡ 0
flag_none v Q (inl f) n = absurd (n f.1)
flag_none v Q (inr f) n = f.0

pub flag_false : (v : ℕ) (Q : Type 0) → Flag v Q → v ≡ 0 → ¬ Q
flag_false v Q (inl f) e q = let one = f.0 in omega arith
flag_false v Q (inr f) e q = f.1 q

-- a fact that holds where another does has its flag
pub flag_map : (v : ℕ) {A B : Type 0} → (A → B) → (B → A) → Flag v A → Flag v B
flag_map v f g (inl w) = inl (w.0, f w.1)
flag_map v f g (inr w) = inr (w.0, λ b. w.1 (g b))

-- a bit that is set exactly where Q holds
pub bit_flag : (v : ℕ) (Q : Type 0) → v < 2 → (v ≡ 1 → Q) → (Q → v ≡ 1) → Flag v Q
bit_flag v Q l f g = step (ℕ_discrete v 1)
  where
    step : Dec (v ≡ 1) → Flag v Q
    step (yes e) = inl (e, f e)
    step (no n) = inr (omega arith, λ q. n (g q))

-- labels that hold where others do have their byte
pub cell_map : (L M : Label → Type 0) (v : ℕ) → ((l : Label) → L l → M l) → ((l : Label) → M l → L l) → CellOf L v
    → CellOf M v
cell_map L M v f g c = record {
  one = c.one;
  two = c.two;
  four = c.four;
  sum = c.sum;
  by_own = flag_map c.one (f own) (g own) c.by_own;
  by_unknown = flag_map c.two (f unknown) (g unknown) c.by_unknown;
  by_several = flag_map c.four (f several) (g several) c.by_several;
}

-- a byte below 8 whose labels are L
pub cell_of : (L : Label → Type 0) (v : ℕ) → v < 8 → ((l : Label) → Labelled v l → L l)
    → ((l : Label) → L l → Labelled v l) → CellOf L v
cell_of L v small f g = record {
  one = v / 2 ^ 0 % 2;
  two = v / 2 ^ 1 % 2;
  four = v / 2 ^ 2 % 2;
  sum = omega arith;
  by_own = bit_flag (v / 2 ^ 0 % 2) (L own) (omega arith) (f own) (g own);
  by_unknown = bit_flag (v / 2 ^ 1 % 2) (L unknown) (omega arith) (f unknown) (g unknown);
  by_several = bit_flag (v / 2 ^ 2 % 2) (L several) (omega arith) (f several) (g several);
}

module _ (L : Label → Type 0) (v : ℕ) (c : CellOf L v) where
  small : (c.one < 2) × (c.two < 2) × (c.four < 2)
  small = (
    flag_small c.one (L own) c.by_own,
    flag_small c.two (L unknown) c.by_unknown,
    flag_small c.four (L several) c.by_several,
  )

  pub cell_small : v < 8
  cell_small = let s = small in let e = c.sum in omega arith

  -- a byte of no label is 0
  pub cell_none : ((l : Label) → ¬ L l) → v ≡ 0
  cell_none n =
      let x = flag_none c.one (L own) c.by_own (n own) in
      let y = flag_none c.two (L unknown) c.by_unknown (n unknown) in
      let z = flag_none c.four (L several) c.by_several (n several) in
      let e = c.sum in
      omega arith

  bit_own : v / 2 ^ 0 % 2 ≡ c.one
  bit_own = let s = small in let e = c.sum in omega arith

  bit_unknown : v / 2 ^ 1 % 2 ≡ c.two
  bit_unknown = let s = small in let e = c.sum in omega arith

  bit_several : v / 2 ^ 2 % 2 ≡ c.four
  bit_several = let s = small in let e = c.sum in omega arith

  -- the labels of the byte are L, where no fork is of L
  pub labelled_to : (l : Label) → Labelled v l → L l
  labelled_to own h = flag_true c.one (L own) c.by_own (sym bit_own ∙ h)
  labelled_to (forked i) h = absurd h
  labelled_to unknown h = flag_true c.two (L unknown) c.by_unknown (sym bit_unknown ∙ h)
  labelled_to several h = flag_true c.four (L several) c.by_several (sym bit_several ∙ h)

  pub labelled_from : ((i : ℕ) → ¬ L (forked i)) → (l : Label) → L l → Labelled v l
  labelled_from n own w = bit_own ∙ flag_set c.one (L own) c.by_own w
  labelled_from n (forked i) w = absurd (n i w)
  labelled_from n unknown w = bit_unknown ∙ flag_set c.two (L unknown) c.by_unknown w
  labelled_from n several w = bit_several ∙ flag_set c.four (L several) c.by_several w

-- a cell of a row in a buffer whose labels are L
pub cell_at : (model : List ℕ) (r a b : ℕ) → a < row_names → b < row_names → ShapedRow model r → (L : Label → Type 0)
    → ((l : Label) → RowBits model r a b l → L l) → ((l : Label) → L l → RowBits model r a b l)
    → CellOf L (get_or model (row_bytes * r + (row_names * a + b)) 0)
cell_at model r a b la lb s L f g =
    let e : 65 * r + 8 * a + b ≡ row_bytes * r + (row_names * a + b) = omega arith in
    subst (λ (i : ℕ). CellOf L (get_or model i 0)) e
    (cell_of L (get_or model (65 * r + 8 * a + b) 0) (rw e (s.cells (8 * a + b) (omega arith)))
    (λ l h. f l (la, lb, h)) (λ l w. (g l w).2))
