-- Writing the counts and the bodies of the routines one after the other.
use Rattle.std.specs.Prelude.{◌≡◌, refl, Option, List, [], ◌∷◌, ◌++◌, ℕ, ◌+◌, ◌*◌, ◌≤◌, ◌<◌, length, get_or, take}
use Rattle.std.proofs.Common.{sym, ap, subst, ◌∙◌, append-nil, append_assoc, arith, length-append}
use Rattle.std.proofs.lemmas.List.{take_more}
use Rattle.table.specs.Constants.{END}
use Rattle.table.specs.WellFormed.{In}
use Rattle.table.specs.Program.{Program, params, body}
use Rattle.table.proofs.Laws.Lists.{get_or_in}
use Rattle.table.proofs.Laws.Formed.{well_formed}
use Rattle.table.proofs.Laws.Sections.{routines, params_at}
use Rattle.rules.proofs.Laws.Verdict.{reached_within}
use Rattle.canon.proofs.Laws.Order.{order_reached}
use Rattle.append.specs.Puts.{Puts}
use Rattle.append.specs.declared.text.Text.{Text}
use Rattle.append.specs.Laws.Putting.{then, equal_text}
use Rattle.order.specs.declared.Order.{Order}
use Rattle.order.specs.Items.{items_of, flat, body_sizes}
use Rattle.order.specs.Ordering.{list_of}
use Rattle.order.specs.Standing.{ItemsAt, HoldsAt, end_of}
use Rattle.order.specs.Laws.Items.{sizes_short}
use Rattle.order.specs.Laws.Program.{items_here, rest, few_routines, few_bytes, params_few}
use Rattle.order.specs.Laws.Standing.{bytes_there}
use Rattle.order.proofs.OrderLaws.{list_length}
use Rattle.rewrite.specs.Writing.{written_all, BodyReady, BodyWritten, at_start}
use Rattle.rewrite.specs.Laws.Sizes.{all_size}
use Rattle.writer.specs.Parts.{texts, CanCount, Ready}

texts_append : (ps : List (Option ℕ)) (P : Program) (rs us : List ℕ) → texts ps P (rs ++ us) ≡ texts ps P rs ++ texts ps P us
texts_append ps P [] us = refl
texts_append ps P (r ∷ rs) us =
    let w = written_all ps (at_start (params P r)) (items_of END (body P r)) in
    ap (λ (l : List ℕ). w ++ l) (texts_append ps P rs us) ∙ sym (append_assoc w (texts ps P rs) (texts ps P us))

-- the bodies are as long as was counted
pub texts_size : (ps : List (Option ℕ)) (P : Program) (rs : List ℕ) → length (texts ps P rs) ≡ body_sizes P rs
texts_size ps P [] = refl
texts_size ps P (r ∷ rs) =
    let w = written_all ps (at_start (params P r)) (items_of END (body P r)) in
    let a = all_size ps (at_start (params P r)) (items_of END (body P r)) in
    let b = texts_size ps P rs in
    let c = length-append w (texts ps P rs) in
    omega arith

-- the bodies of the first i routines are written
pub record Putting (ks s starts : List ℕ) (o : Order) (a b : Text) (i : ℕ) : Type 0 where
  pub each : (P : Program) → HoldsAt P ks s starts
      → Puts (texts o.places P (take i (list_of o))) a b
  pub bound : b.at ≤ a.at + 4096 * i

module _ {ks s starts : List ℕ} {o : Order} (ready : Ready ks s starts o) where
  abbrev P : Program
  P = ready.held.0

  abbrev h : HoldsAt P ks s starts
  h = ready.held.1

  pub below : (r : ℕ) → In r (list_of o) → r < length P
  below r i = reached_within P (well_formed P h.holds.limits) r (order_reached P r (rw (ready.ordered.list P h) at i))

  pub few : length (list_of o) ≤ 64
  few = let a = list_length o ready.ordered.listed in let b = ready.ordered.listed.few in omega arith

  pub can_count : {p : ℕ} → p < 1000 → CanCount ks (list_of o) p
  can_count l =
      let n = routines P ks s h.holds in
      record { below = λ r i. (let b = below r i in omega arith); few = few; place = l }

  -- r is the routine at place i of the routines met
  module _ {rs : List ℕ} (are : rs ≡ list_of o) {i r : ℕ} (lt : i < length rs) (here : r ≡ get_or rs i 0) where
    inside : r < length P
    inside = below r (subst (λ (l : List ℕ). In r l) are (rw here (get_or_in rs i lt).0))

    pub start_here : r < length starts
    start_here = let a = inside in let b = h.starts_long in omega arith

    pub count_here : r < length ks
    count_here = let a = inside in let b = routines P ks s h.holds in omega arith

    within : (Q : Program) → HoldsAt Q ks s starts → r < length Q
    within Q k = let a = start_here in let b = k.starts_long in omega arith

    module _ {at end own : ℕ} (ea : at ≡ get_or starts r 0) (ee : end ≡ end_of s starts r) (eo : own ≡ get_or ks r 0)
        {a b : Text} (g : Putting ks s starts o a b i) (small : a.at < 1000) where
      items : (Q : Program) (k : HoldsAt Q ks s starts)
          → ItemsAt ks s at end (own + 1) (items_of END (body Q r)) (rest Q ks s starts k r (within Q k))
      items Q k = rw (ea, ee, eo, params_at Q ks s k.holds r) (items_here Q ks s starts k r (within Q k))

      pub body_ready : BodyReady ks s o.places at end own b.at
      body_ready =
          let k = params_few P ks s starts h r inside in
          let c = params_at P ks s h.holds r in
          let d = g.bound in
          let f : length rs ≤ 64 = rw are few in
          let m = few_routines P ks s starts h in
          let n = ready.ordered.listed.places_long in
          record {
            items = items_of END (body P r);
            rest = rest P ks s starts h r (within P h);
            items_at = items P h;
            own_few = omega arith;
            few = omega arith;
            places = omega arith;
            section = few_bytes P ks s starts h;
          }

      pub putting_on : {c : Text} → BodyWritten ks s o.places at end own b c
          → Putting ks s starts o a c (i + 1)
      putting_on {c} w = record { each = more; bound = bound }
        where
          text : (Q : Program) (k : HoldsAt Q ks s starts)
              → Puts (written_all o.places (at_start own) (items_of END (body Q r))) b c
          text Q k = w (items_of END (body Q r)) (rest Q ks s starts k r (within Q k)) (items Q k)

          more : (Q : Program) → HoldsAt Q ks s starts
              → Puts (texts o.places Q (take (i + 1) (list_of o))) a c
          more Q k =
              let e : own ≡ params Q r = eo ∙ params_at Q ks s k.holds r in
              let t : written_all o.places (at_start own) (items_of END (body Q r)) ≡ texts o.places Q (r ∷ []) =
              ap (λ n. written_all o.places (at_start n) (items_of END (body Q r))) e ∙ sym (append-nil _) in
              let f : take (i + 1) (list_of o) ≡ take i (list_of o) ++ (r ∷ []) =
              subst (λ (l : List ℕ). take (i + 1) l ≡ take i l ++ (r ∷ [])) are (rw here (take_more rs i 0 lt)) in
              equal_text
              (ap (texts o.places Q) f ∙ texts_append o.places Q (take i (list_of o)) (r ∷ []))
              (then (g.each Q k) (equal_text (sym t) (text Q k)))

          bound : c.at ≤ a.at + 4096 * (i + 1)
          bound =
              let u = (text P h).appends.place in
              let x = all_size o.places (at_start own) (items_of END (body P r)) in
              let y = sizes_short (items_of END (body P r)) in
              let z = bytes_there s at _ (items P h).content in
              let d = length-append (flat (items_of END (body P r))) (rest P ks s starts h r (within P h)) in
              let e = few_bytes P ks s starts h in
              let f = g.bound in
              omega arith
