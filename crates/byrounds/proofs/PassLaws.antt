-- Passing a round's changes on: cells are copied byte by byte, and the callers of each routine are due.
use mathlib.Core.Path.{◌≡◌, refl, ◌∙◌}
use mathlib.Core.Logic.{⊎_elim}
use mathlib.Core.List.{List}
use Prim.Native.Nat.{ℕ, ◌+◌, ◌*◌, ◌^◌, ◌≤◌, ◌<◌}
use native.Mathlib.Omega.{arith}
use native.Mathlib.Decide.{ℕ_discrete}
use lib.ListN.{length, get_or}
use lib.Bits.{bit_or, or_lt}
use lib.Pow.{pow_pos}
use Rattle.grid.specs.Rows.{Has}
use Rattle.grid.proofs.Laws.Masks.{has_zero, has_below, has_left, has_right, has_or}
use Rattle.settle.specs.Due.{Taken, Below}
use Rattle.byrounds.specs.Round.{Copied, CanPass, PassedOn}

-- the cells of routine r can be copied
pub record Chosen (callers model old : List ℕ) (r : ℕ) : Type 0 where
  pub small : r < 64
  pub caller_there : r < length callers
  pub row_there : (65 * r + 64 ≤ length model) × (65 * r + 64 ≤ length old)

-- the cells of the mask that are not left were copied, and their callers are due
pub record Passing (n : ℕ) (callers : List ℕ) (moved : ℕ) (model before after : List ℕ) (left due : ℕ) : Type 0 where
  pub long : length after ≡ length before
  pub left_of : (q : ℕ) → Has left q → Has moved q
  pub left_below : left < 2 ^ n
  pub copied : (q j : ℕ) → Has moved q → (Has left q → ⊥) → j < 64
      → get_or after (65 * q + j) 0 ≡ get_or model (65 * q + j) 0
  pub kept : (q j : ℕ) → (Has moved q → ⊥) → j < 64 → get_or after (65 * q + j) 0 ≡ get_or before (65 * q + j) 0
  pub callers_due : (q p : ℕ) → Has moved q → (Has left q → ⊥) → Has (get_or callers q 0) p → Has due p
  pub only_callers : (p : ℕ) → Has due p → (q : ℕ) × Has moved q × Has (get_or callers q 0) p
  pub below : (m : ℕ) → Below callers m → due < 2 ^ m

pub passing_start : {callers : List ℕ} {moved : ℕ} {model before : List ℕ} → (can : CanPass callers moved model before)
    → Passing can.routines callers moved model before before moved 0
passing_start can = record {
  long = refl;
  left_of = λ q h. h;
  left_below = can.below;
  copied = λ q j h m l. absurd (m h);
  kept = λ q j h l. refl;
  callers_due = λ q p h m l. absurd (m h);
  only_callers = λ p h. absurd (has_zero p h);
  below = λ m b. pow_pos m;
}

module _ {callers : List ℕ} {moved : ℕ} {model before old : List ℕ} {left due r rest : ℕ}
    (can : CanPass callers moved model before)
    (go : Passing can.routines callers moved model before old left due) (t : Taken left r rest) where
  pub chosen : Chosen callers model old r
  chosen =
      let i = has_below left can.routines r go.left_below t.bit in
      let b = t.routine in
      let l = can.long in
      let m = can.old_long in
      let e = go.long in
      let c = can.callers_below.0 in
      record { small = omega arith; caller_there = omega arith; row_there = (omega arith, omega arith) }

  pub passing_turn : {after : List ℕ} → Copied r model old after
      → Passing can.routines callers moved model before after rest (bit_or due (get_or callers r 0))
  passing_turn {after = after} c = record {
    long = c.long ∙ go.long;
    left_of = λ q h. go.left_of q (t.others.to q h).1;
    left_below = let l = t.less in let b = go.left_below in omega arith;
    copied = λ q j h m l. copied q j h m l (ℕ_discrete q r);
    kept = λ q j h l. c.outside q j (λ e. h (go.left_of q (rw e t.bit))) l ∙ go.kept q j h l;
    callers_due = λ q p h m w. callers_due q p h m w (ℕ_discrete q r);
    only_callers = λ p h. ⊎_elim (go.only_callers p) (λ w. (r, go.left_of r t.bit, w))
        (has_or due (get_or callers r 0) p h);
    below = λ m b. or_lt m due (get_or callers r 0) (go.below m b) (b.1 r);
  }
    where
      copied : (q j : ℕ) → Has moved q → (Has rest q → ⊥) → j < 64
          → Dec (q ≡ r) → get_or after (65 * q + j) 0 ≡ get_or model (65 * q + j) 0
      copied q j h m l (yes e) = rw e (c.inside j l)
      copied q j h m l (no ne) = c.outside q j ne l ∙ go.copied q j h (λ b. m (t.others.from q (ne, b))) l

      callers_due : (q p : ℕ) → Has moved q → (Has rest q → ⊥)
          → Has (get_or callers q 0) p → Dec (q ≡ r) → Has (bit_or due (get_or callers r 0)) p
      callers_due q p h m w (yes e) = has_right due (get_or callers r 0) p (rw e at w)
      callers_due q p h m w (no ne) =
          has_left due (get_or callers r 0) p (go.callers_due q p h (λ b. m (t.others.from q (ne, b))) w)

pub passing_end : {n : ℕ} {callers : List ℕ} {moved : ℕ} {model before old : List ℕ} {left due : ℕ} → left ≡ 0
    → Passing n callers moved model before old left due → PassedOn callers moved model before old due
passing_end {left = left} e go = record {
  long = go.long;
  copied = λ q j h l. go.copied q j h (none q) l;
  kept = go.kept;
  callers_due = λ q p h w. go.callers_due q p h (none q) w;
  only_callers = go.only_callers;
  below = go.below;
}
  where
    none : (q : ℕ) → Has left q → ⊥
    none q h = has_zero q (rw e at h)
