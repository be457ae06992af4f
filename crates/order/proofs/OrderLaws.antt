-- The order of routines: what meeting one leaves in the arrays.
use mathlib.Core.Path.{◌≡◌, refl, sym, ap, ◌∙◌}
use mathlib.Core.Logic.{◌⊎◌, inl, inr}
use mathlib.Core.List.{List, [], ◌∷◌, ◌++◌}
use Rattle.std.specs.Prelude.{Option, None, Some, true, false}
use Rattle.std.specs.Option.{is_some}
use mathlib.Core.Option.{some}
use Prim.Native.Nat.{ℕ, ◌+◌, ◌≤◌, ◌<◌}
use native.Mathlib.Numerals.{add-one}
use native.Mathlib.Decide.{ℕ_discrete}
use native.Mathlib.Omega.{arith}
use lib.ListN.{length, get_or, get_elem?, set, take, length-set, length-append}
use lib.Seq.{length-take-le, take-suc-set, get_or-set_same, get_or-set_other}
use Rattle.table.specs.WellFormed.{In, NoDup}
use Rattle.table.proofs.Laws.Lists.{In-split}
use Rattle.canon.specs.Canonical.{met, position}
use Rattle.canon.proofs.Laws.Lists.{by_met, met_last, met_old, met_new, met_only, met_once, below_few, entry_left}
use Rattle.canon.proofs.Laws.Lists.{position_entry}
use Rattle.canon.proofs.Laws.Lists.{position_once}
use Rattle.std.proofs.lemmas.Option.{none-some}
use Rattle.order.specs.declared.Order.{Order}
use Rattle.order.specs.Ordering.{list_of, Listed, Met}

-- what is not there
pub not_some : (x : Option ℕ) → is_some x ≡ false → x ≡ None
not_some None e = refl
not_some (Some p) e = cc

-- the bytes do not matter
pub listed_bytes : (o : Order) (b : ℕ) → Listed o → Listed (record o { bytes = b })
listed_bytes o b l = record {
  long = l.long;
  places_long = l.places_long;
  few = l.few;
  once = l.once;
  below = l.below;
  placed = l.placed;
  unplaced = l.unplaced;
}

pub list_length : (o : Order) → Listed o → length (list_of o) ≡ o.count
list_length o l = length-take-le o.count o.routines (let a = l.long in let b = l.few in omega arith)

-- a routine with a place was met before
pub met_before : (o : Order) (r : ℕ) → Listed o → r < 64 → is_some (get_or o.places r None) ≡ true → Met o o r
met_before o r l lt e = record {
  listed = l;
  list = by_met (λ (t : List ℕ). list_of o ≡ t) (list_of o) r (λ i. refl)
      (λ m. absurd (let z : false ≡ true = sym (ap is_some (l.unplaced r lt m)) ∙ e in cc));
  bytes = refl;
}

-- a routine without one was not
place_new : (o : Order) (r : ℕ) → Listed o → get_or o.places r None ≡ None → In r (list_of o) → ⊥
place_new o r l e i = none-some (position (list_of o) r) (sym e ∙ l.placed r i)

-- and there is room for it
pub place_room : (o : Order) (r : ℕ) → Listed o → r < 64 → get_or o.places r None ≡ None → o.count < 64
place_room o r l lt e =
    let n = place_new o r l e in
    let h = below_few 64 (met (list_of o) r) (met_once (list_of o) r l.once)
    (λ x i. elim (met_only (list_of o) r x i) [ inl j ↦ l.below x j | inr p ↦ rw p lt ]) in
    let g : length (list_of o ++ (r ∷ [])) ≤ 64 = rw (met_last (list_of o) r n) at h in
    let a = length-append (list_of o) (r ∷ []) in
    let c = list_length o l in
    omega arith

entry_end : (l : List ℕ) (r : ℕ) → get_elem? (l ++ (r ∷ [])) (length l) ≡ some r
entry_end [] r = refl
entry_end (x ∷ l) r = entry_end l r

-- the order with r at its end
abbrev pub longer : Order → ℕ → Order
longer o r = record {
  routines = set o.routines o.count r;
  places = set o.places r (Some o.count);
  count = o.count + 1;
  bytes = o.bytes;
}

module _ (o : Order) (r : ℕ) (l : Listed o) (lt : r < 64) (e : get_or o.places r None ≡ None) where
  list_longer : list_of (longer o r) ≡ list_of o ++ (r ∷ [])
  list_longer = ap (λ n. take n (set o.routines o.count r)) (add-one o.count)
      ∙ take-suc-set o.routines o.count r (let a = place_room o r l lt e in let b = l.long in omega arith)

  list_met : list_of (longer o r) ≡ met (list_of o) r
  list_met = list_longer ∙ sym (met_last (list_of o) r (place_new o r l e))

  placed_longer : (q : ℕ) → In q (list_of o ++ (r ∷ []))
      → get_or (set o.places r (Some o.count)) q None ≡ Some (position (list_of o ++ (r ∷ [])) q)
  placed_longer q i = go (ℕ_discrete q r) (In-split q (list_of o) (r ∷ []) i)
    where
      once : NoDup (list_of o ++ (r ∷ []))
      once = rw (met_last (list_of o) r (place_new o r l e)) at (met_once (list_of o) r l.once)

      go : Dec (q ≡ r) → In q (list_of o) ⊎ In q (r ∷ [])
          → get_or (set o.places r (Some o.count)) q None ≡ Some (position (list_of o ++ (r ∷ [])) q)
      go (yes p) j = rw p
          (get_or-set_same o.places r (Some o.count) None (let a = l.places_long in omega arith)
          ∙ ap Some (sym (position_once (list_of o ++ (r ∷ [])) (length (list_of o)) r once (entry_end (list_of o) r)
          ∙ list_length o l)))
      go (no p) (inl j) = get_or-set_other o.places r q (Some o.count) None p ∙ l.placed q j
          ∙ ap Some (sym (position_once (list_of o ++ (r ∷ [])) (position (list_of o) q) q once
          (entry_left (list_of o) (r ∷ []) (position (list_of o) q) q (position_entry (list_of o) q j))))
      go (no p) (inr (inl j)) = absurd (p j)
      go (no p) (inr (inr z)) = absurd z

  pub meet_new : Met o (longer o r) r
  meet_new = record {
    list = list_met;
    bytes = refl;
    listed = record {
      long = length-set o.routines o.count r ∙ l.long;
      places_long = length-set o.places r (Some o.count) ∙ l.places_long;
      few = let a = place_room o r l lt e in omega arith;
      once = rw list_met (met_once (list_of o) r l.once);
      below = λ x i. elim (met_only (list_of o) r x (rw list_met at i)) [ inl j ↦ l.below x j | inr p ↦ rw p lt ];
      placed = λ q i. rw list_longer (placed_longer q (rw list_longer at i));
      unplaced = λ q k n. get_or-set_other o.places r q (Some o.count) None
          (λ p. n (rw (list_met, p) (met_new (list_of o) r)))
          ∙ l.unplaced q k (λ j. n (rw list_met (met_old (list_of o) r q j)));
    };
  }
