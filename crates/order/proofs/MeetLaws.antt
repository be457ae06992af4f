-- Meeting the routines that items call, and counting the bytes of the items, item by item.
use mathlib.Core.Path.{◌≡◌, refl, sym, ap, ◌∙◌}
use mathlib.Core.Logic.{◌≢◌}
use mathlib.Core.List.{List, [], ◌∷◌, ◌++◌, append_assoc}
use Prim.Native.Nat.{ℕ, ◌+◌, ◌-◌, ◌^◌, ◌≤◌, ◌<◌}
use native.Mathlib.Omega.{arith}
use borrow.Author.Tests.{ne_eqb}
use native.Mathlib.Decide.{ℕ_discrete}
use lib.ListN.{length, get_or, drop, length-append}
use lib.Seq.{drop-drop, drop-append_seam}
use Rattle.table.specs.Laws.Passing.{past_item}
use Rattle.canon.specs.Canonical.{met, all_met}
use Rattle.order.specs.declared.Order.{Order}
use Rattle.order.specs.Items.{Item, mark, making, mirroring, locking, calling, item_bytes, flat, called_in}
use Rattle.order.specs.Items.{size_of, sizes}
use Rattle.order.specs.Standing.{old_after, ItemAt, ItemsAt, AnyItem, item_at}
use Rattle.order.specs.Ordering.{list_of, Listed, Met, counted, kept, CanMeet, AllMet}
use Rattle.order.proofs.OrderLaws.{listed_bytes}
use Rattle.order.specs.Laws.Items.{bytes_some}
use Rattle.order.specs.Laws.Standing.{item_is, item_there, at_call, bytes_there, first_byte, second_byte}
use Rattle.order.specs.Laws.Standing.{past_item_lem}

-- the items that are left: meeting what they call meets all, and their bytes make up the whole
pub record Left (ks s : List ℕ) (end : ℕ) (o : Order) (i : ℕ) (v : Order) (ts : List Item) (l : List ℕ) : Type 0 where
  pub old : ℕ
  pub items : List Item
  pub items_at : ItemsAt ks s i end old items l
  pub whole : all_met (list_of v) (called_in items) ≡ all_met (list_of o) (called_in ts)
  pub sized : v.bytes + sizes items ≡ o.bytes + sizes ts

pub record Meeting (ks s : List ℕ) (at end : ℕ) (o : Order) (i : ℕ) (v : Order) : Type 0 where
  pub listed : Listed v
  pub bound : v.bytes + at ≤ o.bytes + i
  pub each : (old : ℕ) (ts : List Item) (l : List ℕ) → ItemsAt ks s at end old ts l → Left ks s end o i v ts l

-- the bytes that are counted for an item
kept_size : (ks s : List ℕ) (i old : ℕ) (t : Item) (l : List ℕ) → ItemAt ks s i old t l
    → kept (get_or s i 0) (length (item_bytes t)) ≡ size_of t
kept_size ks s i old (mark b) l it = rw ((first_byte s i b l it.content).0, ne_eqb b 7 it.good.3) refl
kept_size ks s i old making l it = rw (first_byte s i 1 l it.content).0 refl
kept_size ks s i old (mirroring y) l it = rw (first_byte s i 7 (y ∷ l) it.content).0 refl
kept_size ks s i old (locking x) l it = rw (first_byte s i 2 (x ∷ l) it.content).0 refl
kept_size ks s i old (calling r xs) l it = rw (first_byte s i 6 (r ∷ (xs ++ l)) it.content).0 (omega arith)

-- what a CALL meets, and that another item meets nothing
pub CallsMet : List ℕ → List ℕ → ℕ → Order → Order → Type 0
CallsMet ks s i v w = (old : ℕ) (t : Item) (l : List ℕ) (us : List Item) → ItemAt ks s i old t l
    → all_met (list_of v) (called_in (t ∷ us)) ≡ all_met (list_of w) (called_in us)

meets_call : (ks s : List ℕ) (i : ℕ) (v w : Order) → get_or s i 0 ≡ 6 → Met v w (get_or s (i + 1) 0) → CallsMet ks s i v w
unfolding CallsMet
meets_call ks s i v w e m old (mark b) l us it =
    absurd (it.good.2 (sym (first_byte s i b l it.content).0 ∙ e))
meets_call ks s i v w e m old making l us it =
    absurd (let z : 1 ≡ 6 = sym (first_byte s i 1 l it.content).0 ∙ e in omega arith)
meets_call ks s i v w e m old (mirroring y) l us it =
    absurd (let z : 7 ≡ 6 = sym (first_byte s i 7 (y ∷ l) it.content).0 ∙ e in omega arith)
meets_call ks s i v w e m old (locking x) l us it =
    absurd (let z : 2 ≡ 6 = sym (first_byte s i 2 (x ∷ l) it.content).0 ∙ e in omega arith)
meets_call ks s i v w e m old (calling r xs) l us it =
    ap (λ (u : List ℕ). all_met u (called_in us))
    (ap (met (list_of v)) (sym (second_byte s i 6 r (xs ++ l) it.content).0) ∙ sym m.list)

meets_other : (ks s : List ℕ) (i : ℕ) (v : Order) → get_or s i 0 ≢ 6 → CallsMet ks s i v v
unfolding CallsMet
meets_other ks s i v n old (mark b) l us it = refl
meets_other ks s i v n old making l us it = refl
meets_other ks s i v n old (mirroring y) l us it = refl
meets_other ks s i v n old (locking x) l us it = refl
meets_other ks s i v n old (calling r xs) l us it = absurd (n (first_byte s i 6 (r ∷ (xs ++ l)) it.content).0)

-- the order v is w once the calls of the item at the offset are met
pub record Stepped (ks s : List ℕ) (i : ℕ) (v w : Order) : Type 0 where
  pub listed : Listed w
  pub meets : CallsMet ks s i v w
  pub bytes : w.bytes ≡ v.bytes

pub stepped_call : {ks s : List ℕ} {i : ℕ} {v w : Order} → get_or s i 0 ≡ 6 → Met v w (get_or s (i + 1) 0)
    → Stepped ks s i v w
stepped_call {ks} {s} {i} {v} {w} e m = record { listed = m.listed; meets = meets_call ks s i v w e m; bytes = m.bytes }

pub stepped_other : {ks s : List ℕ} {i : ℕ} {v : Order} → get_or s i 0 ≢ 6 → Listed v → Stepped ks s i v v
stepped_other {ks} {s} {i} {v} n l = record { listed = l; meets = meets_other ks s i v n; bytes = refl }

module _ {ks s : List ℕ} {at end : ℕ} {o : Order} where
  pub meeting_end : {i : ℕ} {v : Order} → Meeting ks s at end o i v → end ≤ i → AllMet ks s at end o v
  meeting_end {i} {v} g le = record { listed = g.listed; list = λ old ts l ia. go ts (g.each old ts l ia) }
    where
      go : (ts : List Item) {l : List ℕ} → Left ks s end o i v ts l
          → (list_of v ≡ all_met (list_of o) (called_in ts)) × (v.bytes ≡ o.bytes + sizes ts)
      go ts {l} z = by z.items z.items_at z.whole z.sized
        where
          by : (us : List Item) → ItemsAt ks s i end z.old us l
              → all_met (list_of v) (called_in us) ≡ all_met (list_of o) (called_in ts)
              → v.bytes + sizes us ≡ o.bytes + sizes ts
              → (list_of v ≡ all_met (list_of o) (called_in ts)) × (v.bytes ≡ o.bytes + sizes ts)
          by [] ia e f = (e, omega arith)
          by (t ∷ us) ia e f = absurd
              (let a = ia.ends in let b = bytes_some t in let c = length-append (item_bytes t) (flat us) in omega arith)

  module _ {i : ℕ} {v : Order} (g : Meeting ks s at end o i v) (lt : i < end) where
    pub any_item : CanMeet ks s at end o → AnyItem ks s i
    any_item b = by z.items z.items_at
      where
        z : Left ks s end o i v b.items b.rest
        z = g.each b.old b.items b.rest b.items_at

        by : (us : List Item) → ItemsAt ks s i end z.old us b.rest → AnyItem ks s i
        by [] ia = absurd (let a = ia.ends in omega arith)
        by (t ∷ us) ia = (
          z.old,
          (
            t,
            flat us ++ b.rest,
            record {
              content = ia.content ∙ append_assoc (item_bytes t) (flat us) b.rest;
              good = ia.good.0;
            },
          ),
        )

    pub item_here : CanMeet ks s at end o → i < length s
    item_here b = let a = any_item b in item_there ks s i a.0 a.1

    pub routine_here : CanMeet ks s at end o → get_or s i 0 ≡ 6 → (i + 1 < length s) × (get_or s (i + 1) 0 < 64)
    routine_here b e =
        let a = any_item b in
        let c = at_call ks s i a.0 ks (omega arith) a.1 e in
        let r = c.routine in
        let f = b.few in
        (c.there, omega arith)

    -- the item after which the next one stands at j
    module _ (b : CanMeet ks s at end o) {j : ℕ} (passed : j ≡ past_item ks s i) where
      here : j ≡ i + length (item_bytes (item_at ks s i))
      here = passed ∙ past_item_lem ks s i (any_item b)

      pub meeting_less : i < j
      meeting_less = let h = here in let c = bytes_some (item_at ks s i) in omega arith

      pub kept_few : kept (get_or s i 0) (j - i) ≤ j - i
      kept_few = elim (ℕ_discrete (get_or s i 0) 7) [
        | yes e ↦ rw e (omega arith)
        | no n ↦ rw (ne_eqb (get_or s i 0) 7 n) (omega arith)
      ]

      pub ends_within : j ≤ end
      ends_within = by z.items z.items_at
        where
          z : Left ks s end o i v b.items b.rest
          z = g.each b.old b.items b.rest b.items_at

          by : (us : List Item) → ItemsAt ks s i end z.old us b.rest → j ≤ end
          by [] ia = absurd (let a = ia.ends in omega arith)
          by (t ∷ us) ia =
              let it : ItemAt ks s i z.old t (flat us ++ b.rest) =
              record { content = ia.content ∙ append_assoc (item_bytes t) (flat us) b.rest; good = ia.good.0 } in
              let e = ap (λ (u : Item). length (item_bytes u)) (item_is ks s i z.old t (flat us ++ b.rest) it) in
              let h = here in
              let d = ia.ends in
              let c = length-append (item_bytes t) (flat us) in
              omega arith

      pub counts_fit : (w : Order) → Stepped ks s i v w → w.bytes + kept (get_or s i 0) (j - i) < 2 ^ 64
      counts_fit w m =
          let e = m.bytes in
          let a = kept_few in
          let c = g.bound in
          let d = b.room in
          let f = b.section in
          let h = ends_within in
          let y = b.items_at.ends in
          let n = bytes_there s at (flat b.items ++ b.rest) b.items_at.content in
          let k = length-append (flat b.items) b.rest in
          let x = meeting_less in
          omega arith

      pub meeting_on : (w : Order) → Stepped ks s i v w
          → Meeting ks s at end o j (counted w (kept (get_or s i 0) (j - i)))
      unfolding CallsMet
      meeting_on w m = record {
        listed = listed_bytes w (w.bytes + kept (get_or s i 0) (j - i)) m.listed;
        bound = let same = m.bytes in let a = kept_few in let c = g.bound in let x = meeting_less in omega arith;
        each = λ old ts r ia. go ts r (g.each old ts r ia);
      }
        where
          go : (ts : List Item) (r : List ℕ) → Left ks s end o i v ts r
              → Left ks s end o j (counted w (kept (get_or s i 0) (j - i))) ts r
          go ts r z = by z.items z.items_at z.whole z.sized
            where
              by : (us : List Item) → ItemsAt ks s i end z.old us r
                  → all_met (list_of v) (called_in us) ≡ all_met (list_of o) (called_in ts)
                  → v.bytes + sizes us ≡ o.bytes + sizes ts
                  → Left ks s end o j (counted w (kept (get_or s i 0) (j - i))) ts r
              by [] ia f q = absurd (let a = ia.ends in omega arith)
              by (t ∷ us) ia f q =
                  let it : ItemAt ks s i z.old t (flat us ++ r) =
                  record { content = ia.content ∙ append_assoc (item_bytes t) (flat us) r; good = ia.good.0 } in
                  let next : j ≡ i + length (item_bytes t) =
                  here ∙ ap (λ (u : Item). i + length (item_bytes u)) (item_is ks s i z.old t (flat us ++ r) it) in
                  let long : j - i ≡ length (item_bytes t) = omega arith in
                  let size : kept (get_or s i 0) (j - i) ≡ size_of t =
                  ap (kept (get_or s i 0)) long ∙ kept_size ks s i z.old t (flat us ++ r) it in
                  record {
                    old = old_after z.old t;
                    items = us;
                    items_at = record {
                      content = ap (λ n. drop n s) next ∙ sym (drop-drop (length (item_bytes t)) i s)
                          ∙ ap (drop (length (item_bytes t))) it.content
                          ∙ drop-append_seam (item_bytes t) (flat us ++ r);
                      good = ia.good.1;
                      ends = let d = ia.ends in let c = length-append (item_bytes t) (flat us) in omega arith;
                    };
                    whole = sym (m.meets z.old t (flat us ++ r) us it) ∙ f;
                    sized = let same = m.bytes in omega arith;
                  }
