-- Clearing the rows of a mask, and working out anew the rows that reach a routine.
use mathlib.Core.Path.{◌≡◌, refl, ◌∙◌}
use mathlib.Core.Logic.{inl, inr}
use mathlib.Core.List.{List, []}
use Prim.Native.Nat.{ℕ, ◌+◌, ◌-◌, ◌*◌, ◌/◌, ◌%◌, ◌^◌, ◌≤◌, ◌<◌}
use native.Mathlib.Nat.{div-add-mod', mod-lt}
use native.Mathlib.Omega.{arith}
use native.Mathlib.Decide.{ℕ_discrete}
use lib.Count.{count_leading_zeros}
use lib.Pow.{pow_pos}
use lib.ListN.{length, get_or}
use Rattle.table.proofs.Laws.Lists.{body_listed}
use Rattle.std.specs.Prelude.{Option}
use Rattle.table.specs.Program.{Program, body}
use Rattle.table.specs.Laws.ScopeMask.{grows}
use Rattle.table.proofs.Laws.Sections.{routines}
use Rattle.rules.specs.Verdict.{Calls}
use Rattle.grid.specs.Rows.{Has, Bits}
use Rattle.grid.proofs.Laws.Masks.{has_zero, has_below}
use Rattle.rows.specs.Model.{Shaped, Cleared}
use Rattle.rows.specs.Laws.Cells.{apart}
use Rattle.rounds.specs.Reaches.{ReachesBy, calls, passes, Touched}
use Rattle.settle.specs.Due.{Taken}
use Rattle.settle.specs.Reach.{CallBit, Reachable, main, next, CanReach}
use Rattle.settle.specs.Settle.{PartlyWith}
use Rattle.settle.specs.Bodies.{Linked, Rising, Started, Settles}
use Rattle.settle.specs.Laws.Masks.{has_top, highest_at}
use Rattle.settle.specs.Laws.Cleared.{cleared_with}
use Rattle.update.specs.Parts.{MaskCleared, CanRework, Reworks}

-- the rows of the mask that are not left are zero
pub record Clearing (mask : ℕ) (before after : List ℕ) (left : ℕ) : Type 0 where
  pub long : length after ≡ length before
  pub left_of : (q : ℕ) → Has left q → Has mask q
  pub zero : (q i : ℕ) → Has mask q → (Has left q → ⊥) → i < 65 → get_or after (65 * q + i) 0 ≡ 0
  pub same : (q i : ℕ) → (Has mask q → ⊥) → i < 65 → get_or after (65 * q + i) 0 ≡ get_or before (65 * q + i) 0

pub clearing_start : (mask : ℕ) (before : List ℕ) → Clearing mask before before mask
clearing_start mask before = record {
  long = refl;
  left_of = λ q h. h;
  zero = λ q i h m l. absurd (m h);
  same = λ q i m l. refl;
}

module _ {mask : ℕ} {before model : List ℕ} {left r rest : ℕ} (go : Clearing mask before model left)
    (t : Taken left r rest) where
  -- a row that is left is in the buffer
  pub there : ((q : ℕ) → Has mask q → 65 * q + 65 ≤ length before) → 65 * r + 65 ≤ length model
  there room = let e = go.long in let l = room r (go.left_of r t.bit) in omega arith

  pub clearing_turn : {after : List ℕ} → Cleared (65 * r) (65 * r + 65) model after → Clearing mask before after rest
  clearing_turn {after = after} c = record {
    long = c.long ∙ go.long;
    left_of = λ q h. go.left_of q (t.others.to q h).1;
    zero = λ q i h m l. zero q i h m l (ℕ_discrete q r);
    same = λ q i m l. c.rest (65 * q + i) (apart q r i (λ e. m (go.left_of q (rw e t.bit))) l) ∙ go.same q i m l;
  }
    where
      zero : (q i : ℕ) → Has mask q → (Has rest q → ⊥) → i < 65 → Dec (q ≡ r) → get_or after (65 * q + i) 0 ≡ 0
      zero q i h m l (yes e) = rw e (c.zero (65 * r + i) (omega arith) (omega arith))
      zero q i h m l (no ne) = c.rest (65 * q + i) (apart q r i ne l) ∙ go.zero q i h (λ b. m (t.others.from q (ne, b))) l

pub clearing_end : {mask : ℕ} {before model : List ℕ} {left : ℕ} → left ≡ 0 → Clearing mask before model left
    → MaskCleared mask before model
clearing_end {left = left} e go = record {
  long = go.long;
  zero = λ q i h l. go.zero q i h (λ b. has_zero q (rw e at b)) l;
  same = go.same;
}

-- the routines that a walk over callers reaches are those that reach r by calls
module _ (P : Program) (ks s starts callers : List ℕ) (k : Linked P ks s starts callers) (r : ℕ) where
  to_touched : (q : ℕ) → Reachable callers r q → Touched P r q
  to_touched q (main e) = inl e
  to_touched q (next {r = p} h w) = go (to_touched p h)
    where
      c : Calls (body P q) p
      c = (k.callers_only p q w.1).1

      go : Touched P r p → Touched P r q
      go (inl e) = inr (calls (rw e at c))
      go (inr x) = inr (passes c x)

  caller_bit : (p q : ℕ) → p < 64 → q < length P → Calls (body P q) p → CallBit callers p q
  caller_bit p q l h c = let e = k.callers_below.0 in (omega arith, k.callers_of p q h c)

  -- a routine that calls another is one of the program
  calls_listed : (q p : ℕ) → Calls (body P q) p → q < length P
  calls_listed q p c = body_listed P q (λ d. Calls d p) (λ z. z) c

  few : length P ≤ 64
  few = k.holds.limits.few_routines

  reach_back : {q p : ℕ} → ReachesBy P q p → p ≡ r → r < length P → Reachable callers r q
  reach_back (calls {q = q} {r = p} c) e h =
      let f = few in
      next (main refl) (caller_bit r q (omega arith) (calls_listed q p c) (rw e at c))
  reach_back (passes {q = q} {s = p} c w) e h =
      let f = few in
      let l = first_listed w in
      next (reach_back w e h) (caller_bit p q (omega arith) (calls_listed q p c) c)
    where
      first_listed : {u v : ℕ} → ReachesBy P u v → u < length P
      first_listed (calls {q = u} {r = v} d) = calls_listed u v d
      first_listed (passes {q = u} {s = v} d x) = calls_listed u v d

  from_touched : (q : ℕ) → r < length P → Touched P r q → Reachable callers r q
  from_touched q h (inl e) = main e
  from_touched q h (inr w) = reach_back w refl h

  module _ (mask : ℕ) (fits : mask < 2 ^ 64) (listed : r < length P) (bits : Bits mask (Reachable callers r)) where
    pub touched_bits : Bits mask (Touched P r)
    touched_bits = record {
      to = λ q h. to_touched q (bits.to q h);
      from = λ q t. bits.from q (from_touched q listed t);
    }

    bit_listed : (q : ℕ) → Has mask q → q < length P
    bit_listed q h = go (to_touched q (bits.to q h))
      where
        go : Touched P r q → q < length P
        go (inl e) = rw e listed
        go (inr (calls {r = p} c)) = calls_listed q p c
        go (inr (passes {s = p} c w)) = calls_listed q p c

    pub mask_below : mask < 2 ^ length P
    mask_below = go (ℕ_discrete mask 0)
      where
        go : Dec (mask ≡ 0) → mask < 2 ^ length P
        go (yes e) = rw e (pow_pos (length P))
        go (no n) =
            let t = highest_at mask (omega arith) fits in
            let l = bit_listed (63 - count_leading_zeros 64 mask) (has_top mask (63 - count_leading_zeros 64 mask) t) in
            let g = grows (63 - count_leading_zeros 64 mask + 1) (length P) (omega arith) in
            let u = t.high in
            omega arith

    pub rising : Rising P callers mask
    rising = record {
      below = mask_below;
      closed = λ p q h w.
          let f = few in
          let e = k.callers_below.0 in
          let l = bit_listed p h in
          bits.from q (next (bits.to p h) (omega arith, w));
    }

-- the whole update
module _ {ks s starts callers : List ℕ} {r : ℕ} {before : List ℕ} (can : CanRework ks s starts callers r before) where
  pub can_reach : CanReach callers r
  can_reach =
      let e = can.linked.callers_below.0 in
      let f = can.linked.holds.limits.few_routines in
      let l = can.listed in
      record {
        there = omega arith;
        few = omega arith;
        within = λ p q c.
            let b = has_below (get_or callers p 0) (length can.program) q (can.linked.callers_below.1 p) c.1 in
            omega arith;
      }

  module _ {mask : ℕ} (fits : mask < 2 ^ 64) (bits : Bits mask (Reachable callers r)) where
    pub can_clear : (q : ℕ) → Has mask q → 65 * q + 65 ≤ length before
    can_clear q h =
        let l = can.long in
        let b = bit_listed can.program ks s starts callers can.linked r mask fits can.listed bits q h in
        omega arith

    module _ {cleared : List ℕ} (clear : MaskCleared mask before cleared) where
      partly_start : (P : Program) → Linked P ks s starts callers → Shaped (length P) before
          → PartlyWith P (Has mask) before cleared [] (Has mask)
      partly_start P k shaped =
          let e = routines P ks s k.holds in
          let f = routines can.program ks s can.linked.holds in
          let g = can.listed in
          let h : r < length P = omega arith in
          let low = mask_below P ks s starts callers k r mask fits h bits in
          cleared_with P mask before cleared low clear.long (λ i l. beyond P low i l)
          (λ q i l t j. clear.zero q i t j) (λ q i l n j. clear.same q i n j) (λ q l n. shaped q l)
        where
          beyond : (P : Program) → mask < 2 ^ length P → (i : ℕ) → 65 * length P ≤ i → get_or cleared i 0 ≡ get_or before
              i 0
          beyond P low i l =
              let e : i ≡ 65 * (i / 65) + i % 65 = omega (arith, div-add-mod' i 65) in
              let m : i % 65 < 65 = mod-lt i (omega arith) in
              let q = i / 65 in
              let j = i % 65 in
              rw e (clear.same q j (λ b. let z = has_below mask (length P) q low b in omega arith) m)

      pub can_settle_due : Started ks s starts callers mask cleared
      can_settle_due = record {
        program = can.program;
        linked = can.linked;
        rising = rising can.program ks s starts callers can.linked r mask fits can.listed bits;
        long = let l = can.long in let e = clear.long in omega arith;
        before = before;
        partly = partly_start can.program can.linked can.shaped;
      }

      pub reworked : {after : List ℕ} {names : List (Option ℕ)} → Settles ks s starts callers mask cleared after names
          → Reworks ks s starts callers r before after
      reworked {names = names} st P k shaped =
          let e = routines P ks s k.holds in
          let f = routines can.program ks s can.linked.holds in
          let g = can.listed in
          let h : r < length P = omega arith in
          record {
            mask = mask;
            names = names;
            touched = touched_bits P ks s starts callers k r mask fits h bits;
            partly = st P before k (partly_start P k shaped);
          }
