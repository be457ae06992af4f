-- Adding bits to bytes: nothing, one byte, and one thing after another.
use mathlib.Core.Path.{◌≡◌, refl, ◌∙◌}
use mathlib.Core.Logic.{◌≢◌, ◌⊎◌, inl, inr, ⊎_elim}
use mathlib.Core.Bool.{Bool, true, false, ◌||◌}
use mathlib.Core.List.{List}
use Prim.Native.Nat.{ℕ, ◌+◌, ◌<◌}
use native.Mathlib.Omega.{arith}
use native.Mathlib.Decide.{dec_lt, ℕ_discrete}
use lib.ListN.{get_or, set, length, length-set}
use lib.Seq.{get_or-set_same, get_or-set_other}
use lib.Bits.{bit_or, or_zero_r}
use Rattle.std.specs.Prelude.{Option, Some, None, IsSome}
use Rattle.grid.specs.Rows.{Has, Rel, Bits}
use Rattle.grid.specs.Grid.{RingName}
use Rattle.rows.specs.Added.{CellBit, AtByte, AtCell, AtName, AtRing, Below, Added}
use Rattle.rows.specs.Laws.Totals.{total_set, moves_or}
use Rattle.rows.proofs.Masks.{no_bits}
use Rattle.grid.proofs.Laws.Masks.{or_le, has_left, has_right, has_or, has_zero, has_below}

pub added_none : (W : Rel) (l : List ℕ) → ((i j : ℕ) → W i j → ⊥) → Added W l l false
added_none W l never = record {
  long = refl;
  bits = λ i. record { to = λ j h. inl h; from = λ j h. ⊎_elim (λ p. p) (λ p. absurd (never i j p)) h };
  rest = λ i h. refl;
  told = refl;
}

pub added_then :
    (W U : Rel) (e m x : List ℕ) (c d : Bool) → Added W e m c → Added U m x d
    → Added (λ i j. W i j ⊎ U i j) e x (c || d)
added_then W U e m x c d p q = record {
  long = q.long ∙ p.long;
  bits = λ i. record { to = to i; from = from i };
  rest = λ i never. q.rest i (λ j u. never j (inr u)) ∙ p.rest i (λ j w. never j (inl w));
  told = moves_or c d e m x p.told q.told;
}
  where
    to : (i j : ℕ) → Has (get_or x i 0) j → Has (get_or e i 0) j ⊎ (W i j ⊎ U i j)
    to i j h =
        ⊎_elim (λ k. ⊎_elim (λ o. inl o) (λ w. inr (inl w)) ((p.bits i).to j k)) (λ v. inr (inr v)) ((q.bits i).to j h)

    from : (i j : ℕ) → Has (get_or e i 0) j ⊎ (W i j ⊎ U i j) → Has (get_or x i 0) j
    from i j (inl o) = (q.bits i).from j (inl ((p.bits i).from j (inl o)))
    from i j (inr (inl w)) = (q.bits i).from j (inl ((p.bits i).from j (inr w)))
    from i j (inr (inr v)) = (q.bits i).from j (inr v)

-- the same bits, in other words
pub added_map :
    (W U : Rel) (e x : List ℕ) (c : Bool) → ((i j : ℕ) → W i j → U i j) → ((i j : ℕ) → U i j → W i j)
    → Added W e x c → Added U e x c
added_map W U e x c f g p = record {
  long = p.long;
  bits = λ i. record {
    to = λ j h. ⊎_elim (λ o. inl o) (λ w. inr (f i j w)) ((p.bits i).to j h);
    from = λ j h. (p.bits i).from j (⊎_elim (λ o. inl o) (λ v. inr (g i j v)) h);
  };
  rest = λ i never. p.rest i (λ j w. never j (f i j w));
  told = p.told;
}

-- those below n, and then that of n
pub added_more :
    (F : ℕ → Rel) (n : ℕ) (e m x : List ℕ) (c d : Bool) → Added (Below F n) e m c → Added (F n) m x d
    → Added (Below F (n + 1)) e x (c || d)
added_more F n e m x c d p q =
    added_map (λ i j. Below F n i j ⊎ F n i j) (Below F (n + 1)) e x (c || d) join split
    (added_then (Below F n) (F n) e m x c d p q)
  where
    join : (i j : ℕ) → Below F n i j ⊎ F n i j → Below F (n + 1) i j
    join i j (inl w) = (w.0, omega arith, w.2)
    join i j (inr w) = (n, omega arith, w)

    split : (i j : ℕ) → Below F (n + 1) i j → Below F n i j ⊎ F n i j
    split i j w =
        elim (dec_lt w.0 n) [
          | yes l ↦ inl (w.0, l, w.2)
          | no l ↦ let z : w.0 ≡ n = omega arith in inr (rw z at w.2)
        ]

module _ (l : List ℕ) (i v : ℕ) where
  pub byte_same : bit_or (get_or l i 0) v ≡ get_or l i 0 → Added (AtByte i v) l l false
  byte_same e = record {
    long = refl;
    bits = λ p. record {
      to = λ j h. inl h;
      from = λ j h. ⊎_elim (λ o. o) (λ w. rw (w.0, ← e) (has_right (get_or l i 0) v j w.1)) h;
    };
    rest = λ p never. refl;
    told = refl;
  }

  module _ (inside : i < length l) (low : v < 256) (ne : bit_or (get_or l i 0) v ≡ get_or l i 0 → ⊥) where
    here : get_or (set l i (bit_or (get_or l i 0) v)) i 0 ≡ bit_or (get_or l i 0) v
    here = get_or-set_same l i (bit_or (get_or l i 0) v) 0 inside

    there : (p : ℕ) → p ≢ i → get_or (set l i (bit_or (get_or l i 0) v)) p 0 ≡ get_or l p 0
    there p n = get_or-set_other l i p (bit_or (get_or l i 0) v) 0 n

    byte_bits : (p : ℕ) → Dec (p ≡ i)
        → Bits (get_or (set l i (bit_or (get_or l i 0) v)) p 0) (λ j. Has (get_or l p 0) j ⊎ AtByte i v p j)
    byte_bits p (yes e) =
        rw (e, here)
        (record {
          to = λ j h. ⊎_elim (λ o. inl o) (λ w. inr (refl, w)) (has_or (get_or l i 0) v j h);
          from = λ j h. ⊎_elim (λ o. has_left (get_or l i 0) v j o) (λ w. has_right (get_or l i 0) v j w.1) h;
        })
    byte_bits p (no n) =
        rw (there p n)
        (record { to = λ j h. inl h; from = λ j h. ⊎_elim (λ o. o) (λ w. absurd (n w.0)) h })

    byte_rest : (p : ℕ) → Dec (p ≡ i) → ((j : ℕ) → AtByte i v p j → ⊥)
        → get_or (set l i (bit_or (get_or l i 0) v)) p 0 ≡ get_or l p 0
    byte_rest p (yes e) never =
        let z : v ≡ 0 = no_bits v low (λ j h. never j (e, h)) in absurd (ne (rw (z, or_zero_r (get_or l i 0))))
    byte_rest p (no n) never = there p n

    pub byte_set : Added (AtByte i v) l (set l i (bit_or (get_or l i 0) v)) true
    byte_set = record {
      long = length-set l i (bit_or (get_or l i 0) v);
      bits = λ p. byte_bits p (ℕ_discrete p i);
      rest = λ p never. byte_rest p (ℕ_discrete p i) never;
      told = omega (arith, total_set l i (bit_or (get_or l i 0) v) inside, or_le (get_or l i 0) v);
    }

-- a byte that has the bits of a mask's labels, for two different names
pub cell_of_byte :
    (i a b m v : ℕ) (e x : List ℕ) (c : Bool) → a ≢ b → Bits v (CellBit m) → Added (AtByte i v) e x c
    → Added (AtCell i a b m) e x c
cell_of_byte i a b m v e x c ne bits p =
    added_map (AtByte i v) (AtCell i a b m) e x c (λ p j w. (w.0, ne, bits.to j w.1))
    (λ p j w. (w.0, bits.from j w.2)) p

-- the mask 0 has no label
pub no_cell : (i a b : ℕ) (l : List ℕ) → Added (AtCell i a b 0) l l false
no_cell i a b l = added_none (AtCell i a b 0) l (λ p j w. has_zero w.2.1.0 w.2.1.3)

pub same_name : (i a b m : ℕ) (l : List ℕ) → a ≡ b → Added (AtCell i a b m) l l false
same_name i a b m l e = added_none (AtCell i a b m) l (λ p j w. w.1 e)

-- where there is a ring name it sets the bit, and else it does not
pub name_of_byte :
    (i : ℕ) (y : Option ℕ) (e x : List ℕ) (c : Bool) → IsSome y → Added (AtByte i 1) e x c → Added (AtName i y) e x c
name_of_byte i y e x c some p = added_map (AtByte i 1) (AtName i y) e x c to (λ q j w. (w.0, rw w.1)) p
  where
    to : (q j : ℕ) → AtByte i 1 q j → AtName i y q j
    to q j w = let z : j < 1 = has_below 1 1 j (omega arith) w.1 in (w.0, omega arith, some)

pub no_name : (i : ℕ) (l : List ℕ) → Added (AtName i None) l l false
no_name i l = added_none (AtName i None) l (λ p j w. let z = w.2 in cc)

-- a grid has a ring name where it has a ring
pub ring_of_name :
    (i : ℕ) (y : Option ℕ) (g : List (List ℕ)) (e x : List ℕ) (c : Bool) → RingName g y → Added (AtName i y) e x c
    → Added (AtRing i g) e x c
ring_of_name i None g e x c none p =
    added_map (AtName i None) (AtRing i g) e x c (λ q j w. let z = w.2 in cc) (λ q j w. absurd (none w.2.0 w.2.1)) p
ring_of_name i (Some y) g e x c ring p =
    added_map (AtName i (Some y)) (AtRing i g) e x c (λ q j w. (w.0, w.1, (y, ring.1))) (λ q j w. (w.0, w.1, refl)) p
