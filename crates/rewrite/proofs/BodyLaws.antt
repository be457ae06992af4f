-- Writing a body item by item: what is written so far and what is left to write make the whole text.
use mathlib.Core.Path.{◌≡◌, refl, sym, ap, ◌∙◌}
use Rattle.std.specs.Prelude.{Option}
use mathlib.Core.List.{List, [], ◌∷◌, ◌++◌, append-nil, append_assoc}
use Prim.Native.Nat.{ℕ, ◌+◌, ◌≤◌, ◌<◌}
use native.Mathlib.Omega.{arith}
use lib.ListN.{length, drop, length-set, length-append}
use lib.Seq.{drop-drop, drop-append_seam}
use Rattle.rewrite.specs.declared.Spot.{Spot}
use Rattle.order.specs.Items.{Item, mark, making, mirroring, locking, calling, item_bytes, flat}
use Rattle.rewrite.specs.Writing.{Known}
use Rattle.rewrite.specs.Writing.{after_item, written, written_all, name_of}
use Rattle.append.specs.Puts.{Puts}
use Rattle.append.specs.declared.text.Text.{Text}
use Rattle.append.specs.Laws.Putting.{then, equal_text}
use Rattle.rewrite.specs.Writing.{known_of, Fits, Passed}
use Rattle.order.specs.Standing.{Good, old_after, ItemAt, SomeItem, ItemsAt}
use Rattle.order.specs.Standing.{item_at}
use Rattle.rewrite.specs.Writing.{BodyReady, BodyWritten, at_start}
use Rattle.order.specs.Laws.Items.{bytes_some, size_short}
use Rattle.rewrite.specs.Laws.Sizes.{written_size}
use Rattle.order.specs.Laws.Standing.{item_is, item_there, bytes_there}

-- the names have room after an item
pub record Kept (e : Known) : Type 0 where
  pub names : length e.names ≡ 16
  pub next : e.next ≤ e.old
  pub old : e.old ≤ 16

kept_after : (ks : List ℕ) (e : Known) (t : Item) → Good ks e.old t → Kept e
    → Kept (after_item e t) × ((after_item e t).old ≡ old_after e.old t)
kept_after ks e (mark b) g k = (k, refl)
kept_after ks e making g k =
    let a = k.next in (
      record { names = length-set e.names e.old e.next ∙ k.names; next = omega arith; old = omega arith },
      refl,
    )
kept_after ks e (mirroring y) g k =
    let a = k.next in
    let b = g.0 in (
      record {
        names = length-set e.names e.old (name_of e y) ∙ k.names;
        next = omega arith;
        old = omega arith;
      },
      refl,
    )
kept_after ks e (locking x) g k = (k, refl)
kept_after ks e (calling r xs) g k = (k, refl)

-- what is left of the items ts, and what is written at the end of the text a
pub record Left (ks s : List ℕ) (ps : List (Option ℕ)) (end own : ℕ) (a : Text) (w : Spot) (b : Text) (ts : List Item)
    (l : List ℕ) : Type 0 where
  pub items : List Item
  pub items_at : ItemsAt ks s w.at end w.local items l
  pub done : List ℕ
  pub appended : Puts done a b
  pub whole : done ++ written_all ps (known_of w) items ≡ written_all ps (at_start own) ts

pub record Going (ks s : List ℕ) (ps : List (Option ℕ)) (at end own : ℕ) (a : Text) (w : Spot) (b : Text) : Type 0 where
  pub each : (ts : List Item) (l : List ℕ) → ItemsAt ks s at end (own + 1) ts l → Left ks s ps end own a w b ts l
  pub kept : Kept (known_of w)
  pub place : b.at + at ≤ a.at + w.at

module _ {ks s : List ℕ} {ps : List (Option ℕ)} {at end own : ℕ} {a : Text} where
  pub going_end : {w : Spot} {b : Text} → Going ks s ps at end own a w b → end ≤ w.at
      → BodyWritten ks s ps at end own a b
  going_end {w} {b} g le ts l i = go (g.each ts l i)
    where
      go : Left ks s ps end own a w b ts l → Puts (written_all ps (at_start own) ts) a b
      go z = by z.items z.items_at z.whole
        where
          by : (us : List Item) → ItemsAt ks s w.at end w.local us l
              → z.done ++ written_all ps (known_of w) us ≡ written_all ps (at_start own) ts
              → Puts (written_all ps (at_start own) ts) a b
          by [] ia e = equal_text (sym e ∙ append-nil z.done) z.appended
          by (t ∷ us) ia e = absurd
              (let k = ia.ends in let n = bytes_some t in let c = length-append (item_bytes t) (flat us) in omega arith)

  module _ {w : Spot} {b : Text} (g : Going ks s ps at end own a w b) (lt : w.at < end) where
    -- the first of the items that are left
    first : (ts : List Item) (l : List ℕ) → ItemsAt ks s at end (own + 1) ts l
        → (t : Item) × (us : List Item) × ItemAt ks s w.at w.local t (flat us ++ l)
    first ts l i = by z.items z.items_at
      where
        z : Left ks s ps end own a w b ts l
        z = g.each ts l i

        by : (us : List Item) → ItemsAt ks s w.at end w.local us l
            → (t : Item) × (vs : List Item) × ItemAt ks s w.at w.local t (flat vs ++ l)
        by [] ia = absurd (let k = ia.ends in omega arith)
        by (t ∷ us) ia =
            (t, us, record { content = ia.content ∙ append_assoc (item_bytes t) (flat us) l; good = ia.good.0 })

    pub some_item : BodyReady ks s ps at end own a.at → SomeItem ks s w.at w.local
    some_item r =
        let f = first r.items r.rest r.items_at in
        (f.0, flat f.1 ++ r.rest, f.2)

    pub fits : BodyReady ks s ps at end own a.at → Fits w b.at
    fits r =
        let t = item_there ks s w.at w.local (some_item r) in
        let e = r.items_at.ends in
        let c = bytes_there s at (flat r.items ++ r.rest) r.items_at.content in
        let d = length-append (flat r.items) r.rest in
        let k = g.kept in
        let q = g.place in
        let f = r.few in
        let n = r.section in
        record { low = omega arith; names_long = k.names; next = k.next; local = k.old; place = omega arith }

    module _ {v : Spot} {after : Text} (h : Passed ps (item_at ks s w.at) w v b after) where
      passed : (t : Item) (l : List ℕ) → ItemAt ks s w.at w.local t l → Passed ps t w v b after
      passed t l i = rw (item_is ks s w.at w.local t l i) at h

      old_after_lem : (t : Item) (l : List ℕ) → ItemAt ks s w.at w.local t l
          → Kept (known_of v) × (v.local ≡ old_after w.local t)
      old_after_lem t l i =
          let k = kept_after ks (known_of w) t i.good g.kept in
          let e = (passed t l i).known in
          (rw e k.0, ap (λ (x : Known). x.old) e ∙ k.1)

      bytes_past : (t : Item) (l : List ℕ) → ItemAt ks s w.at w.local t l → drop v.at s ≡ l
      bytes_past t l i =
          ap (λ n. drop n s) (passed t l i).at ∙ sym (drop-drop (length (item_bytes t)) w.at s)
          ∙ ap (drop (length (item_bytes t))) i.content ∙ drop-append_seam (item_bytes t) l

      left_on : (ts : List Item) (l : List ℕ) → ItemsAt ks s at end (own + 1) ts l
          → Left ks s ps end own a v after ts l
      left_on ts l i = by z.items z.items_at z.whole
        where
          z : Left ks s ps end own a w b ts l
          z = g.each ts l i

          by : (us : List Item) → ItemsAt ks s w.at end w.local us l
              → z.done ++ written_all ps (known_of w) us ≡ written_all ps (at_start own) ts
              → Left ks s ps end own a v after ts l
          by [] ia e = absurd (let k = ia.ends in omega arith)
          by (t ∷ us) ia e =
              let it : ItemAt ks s w.at w.local t (flat us ++ l) =
              record { content = ia.content ∙ append_assoc (item_bytes t) (flat us) l; good = ia.good.0 } in
              let q = passed t (flat us ++ l) it in
              record {
                items = us;
                items_at = record {
                  content = bytes_past t (flat us ++ l) it;
                  good = rw (old_after_lem t (flat us ++ l) it).1 ia.good.1;
                  ends = let k = q.at in let d = ia.ends in let f = length-append (item_bytes t) (flat us) in
                      omega arith;
                };
                done = z.done ++ written ps (known_of w) t;
                appended = then z.appended q.text;
                whole = append_assoc z.done (written ps (known_of w) t) (written_all ps (known_of v) us)
                    ∙ ap (λ (k : Known). z.done ++ (written ps (known_of w) t ++ written_all ps k us)) q.known
                    ∙ e;
              }

      pub going_on : BodyReady ks s ps at end own a.at
          → Going ks s ps at end own a v after × (w.at < v.at)
      going_on r =
          let f = first r.items r.rest r.items_at in
          let q = passed f.0 (flat f.1 ++ r.rest) f.2 in
          let k = q.at in
          let c = q.text.appends.place in
          let d = written_size ps (known_of w) f.0 in
          let e = size_short f.0 in
          let m = bytes_some f.0 in
          let n = g.place in (
            record {
              each = left_on;
              kept = (old_after_lem f.0 (flat f.1 ++ r.rest) f.2).0;
              place = omega arith;
            },
            omega arith,
          )
