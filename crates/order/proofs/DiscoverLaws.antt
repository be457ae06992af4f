-- Finding the order: after i bodies the routines met are those of the definition.
use mathlib.Core.Path.{◌≡◌, refl, sym, ap, ◌∙◌, subst}
use mathlib.Core.List.{List, [], ◌∷◌, ◌++◌}
use Rattle.std.specs.Prelude.{None}
use mathlib.Core.Option.{some}
use Prim.Native.Nat.{ℕ, ◌+◌, ◌*◌, ◌≤◌, ◌<◌}
use native.Mathlib.Nat.{add_comm}
use native.Mathlib.Numerals.{add-one}
use native.Mathlib.Omega.{arith}
use lib.ListN.{length, get_or, get_elem?, take, replicate, get_or-replicate, length-append}
use lib.Seq.{get_or-take, take-suc, take_all}
use Rattle.table.specs.Constants.{END, most_bytes}
use Rattle.table.specs.WellFormed.{In}
use Rattle.table.proofs.Laws.Lists.{get_or_in}
use Rattle.table.specs.Program.{Program, params, body}
use Rattle.canon.specs.Canonical.{met, all_met, called_by, found, order}
use Rattle.canon.proofs.Laws.Order.{found_step, found_reached, found_settled, found_few, order_enough, order_entry}
use Rattle.canon.proofs.Laws.Lists.{entry_in, get_or_entry}
use Rattle.table.proofs.Laws.Formed.{well_formed}
use Rattle.rules.proofs.Laws.Verdict.{reached_within}
use Rattle.order.specs.declared.Order.{Order}
use Rattle.order.specs.Items.{items_of, flat, called_in, sizes, body_sizes}
use Rattle.order.specs.Standing.{HoldsAt, HeldAt, end_of}
use Rattle.order.specs.Ordering.{list_of, Listed, Met, CanMeet, AllMet, Ordered}
use Rattle.order.specs.Laws.Items.{called_items, sizes_append, sizes_short}
use Rattle.order.specs.Laws.Standing.{bytes_there}
use Rattle.order.proofs.OrderLaws.{list_length}
use Rattle.order.specs.Laws.Program.{items_here, rest, few_routines, few_bytes}

-- no routine is met
pub none_listed : (o : Order) → o.count ≡ 0 → length o.routines ≡ 64 → o.places ≡ replicate 64 None → Listed o
none_listed o z r p = record {
  long = r;
  places_long = rw p refl;
  few = omega arith;
  once = rw nothing tt;
  below = λ x i. absurd (rw nothing at i);
  placed = λ x i. absurd (rw nothing at i);
  unplaced = λ x l n. rw p (get_or-replicate 64 x None None l);
}
  where
    nothing : list_of o ≡ []
    nothing = ap (λ n. take n o.routines) z

-- the routines met once i bodies are read
pub record Finding (ks s starts : List ℕ) (o : Order) (i : ℕ) : Type 0 where
  pub listed : Listed o
  pub list : (P : Program) → HoldsAt P ks s starts → list_of o ≡ found P i
  pub bytes : (P : Program) → HoldsAt P ks s starts → o.bytes ≡ body_sizes P (take i (order P))
  pub bound : o.bytes ≤ most_bytes * i

module _ {ks s starts : List ℕ} where
  pub finding_start : (blank o : Order) → blank.count ≡ 0 → blank.bytes ≡ 0 → Met blank o 0 → Finding ks s starts o 0
  unfolding found
  finding_start blank o z y m = record {
    listed = m.listed;
    list = λ P h. m.list ∙ alone P;
    bytes = λ P h. m.bytes ∙ y;
    bound = let e = m.bytes in omega arith;
  }
    where
      alone : (P : Program) → met (list_of blank) 0 ≡ found P 0
      alone P = ap (λ n. met (take n blank.routines) 0) z

  module _ {o : Order} {i : ℕ} (g : Finding ks s starts o i) (lt : i < o.count) where
    abbrev here : ℕ
    here = get_or o.routines i 0

    entry : get_elem? (list_of o) i ≡ some here
    entry =
        let e = list_length o g.listed in
        (get_or_in (list_of o) i (omega arith)).1 ∙ ap some (get_or-take o.count o.routines i 0 lt)

    inside : In here (list_of o)
    inside =
        let e = list_length o g.listed in
        subst (λ x. In x (list_of o)) (get_or-take o.count o.routines i 0 lt) (get_or_in (list_of o) i (omega arith)).0

    below : (P : Program) → HoldsAt P ks s starts → here < length P
    below P h = reached_within P (well_formed P h.holds.limits) here
        (found_reached P i here (subst (In here) (g.list P h) inside))

    pub start_there : HeldAt ks s starts → here < length starts
    start_there p = let a = below p.0 p.1 in let b = p.1.starts_long in omega arith

    pub can_meet : (r at end : ℕ) → r ≡ here → at ≡ get_or starts r 0 → end ≡ end_of s starts r → HeldAt ks s starts
        → CanMeet ks s at end o
    can_meet r at end e a b p = record {
      old = params p.0 here + 1;
      items = items_of END (body p.0 here);
      rest = rest p.0 ks s starts p.1 here (below p.0 p.1);
      items_at = rw (a, b, e) (items_here p.0 ks s starts p.1 here (below p.0 p.1));
      listed = g.listed;
      few = few_routines p.0 ks s starts p.1;
      section = few_bytes p.0 ks s starts p.1;
      room = let x = g.bound in let y = g.listed.few in omega arith;
    }

    -- the routine is there in the order, and its body is the next one that is read
    next_body : (P : Program) → HoldsAt P ks s starts → take (i + 1) (order P) ≡ take i (order P) ++ (here ∷ [])
    next_body P h =
        let a = list_length o g.listed in
        let b = ap length (g.list P h) in
        let c = found_few P (well_formed P h.holds.limits) i in
        let e = order_entry P i i here (omega arith)
        (subst (λ (l : List ℕ). get_elem? l i ≡ some here) (g.list P h) entry) in
        ap (λ n. take n (order P)) (add-one i) ∙ take-suc (order P) i 0 (entry_in (order P) i here e).1
        ∙ ap (λ x. take i (order P) ++ (x ∷ [])) (get_or_entry (order P) i here 0 e)

    module _ (r at end : ℕ) (v : Order) (e : r ≡ here) (a : at ≡ get_or starts r 0) (b : end ≡ end_of s starts r)
        (m : AllMet ks s at end o v) where
      -- what was met in the body, and its bytes
      met_there : (P : Program) (h : HoldsAt P ks s starts)
          → (list_of v ≡ all_met (list_of o) (called_in (items_of END (body P here))))
          × (v.bytes ≡ o.bytes + sizes (items_of END (body P here)))
      met_there P h =
          m.list (params P here + 1) (items_of END (body P here)) (rest P ks s starts h here (below P h))
          (rw (a, b, e) (items_here P ks s starts h here (below P h)))

      next_list : (P : Program) → HoldsAt P ks s starts → list_of v ≡ found P (i + 1)
      next_list P h =
          let d : called_by P (get_elem? (found P i) i) ≡ called_by P (some here) =
          ap (called_by P) (ap (λ (l : List ℕ). get_elem? l i) (sym (g.list P h)) ∙ entry) in
          (met_there P h).0 ∙ ap (all_met (list_of o)) (called_items END (body P here))
          ∙ ap (λ (l : List ℕ). all_met l (called_by P (some here))) (g.list P h)
          ∙ ap (all_met (found P i)) (sym d) ∙ sym (found_step P i) ∙ ap (found P) (sym (add-one i))

      next_bytes : (P : Program) → HoldsAt P ks s starts → v.bytes ≡ body_sizes P (take (i + 1) (order P))
      next_bytes P h =
          let c = (met_there P h).1 in
          let d = g.bytes P h in
          let f = ap (body_sizes P) (next_body P h) ∙ sizes_append P (take i (order P)) (here ∷ []) in
          omega arith

      pub finding_on : HeldAt ks s starts → Finding ks s starts v (i + 1)
      finding_on p = record { listed = m.listed; list = next_list; bytes = next_bytes; bound = few_more }
        where
          few_more : v.bytes ≤ most_bytes * (i + 1)
          few_more =
              let P = p.0 in
              let h = p.1 in
              let it = items_here P ks s starts h here (below P h) in
              let c = (met_there P h).1 in
              let d = sizes_short (items_of END (body P here)) in
              let f = it.ends in
              let k = bytes_there s (get_or starts here 0) _ it.content in
              let q = length-append (flat (items_of END (body P here))) (rest P ks s starts h here (below P h)) in
              let n = few_bytes P ks s starts h in
              let x = g.bound in
              omega arith

  pub finding_end : {o : Order} {i : ℕ} → Finding ks s starts o i → o.count ≤ i → Ordered ks s starts o
  finding_end {o} {i} g le = record { listed = g.listed; list = last; bytes = whole }
    where
      last : (P : Program) → HoldsAt P ks s starts → list_of o ≡ order P
      last P h =
          let a = list_length o g.listed in
          let b : length (found P i) ≤ i = rw (sym (g.list P h)) (omega arith) in
          g.list P h ∙ sym (found_settled P i (length P) b) ∙ ap (found P) (add_comm i (length P))
          ∙ order_enough P (well_formed P h.holds.limits) i

      whole : (P : Program) → HoldsAt P ks s starts → o.bytes ≡ body_sizes P (order P)
      whole P h =
          let a = list_length o g.listed in
          let b = ap length (last P h) in
          g.bytes P h ∙ ap (body_sizes P) (take_all i (order P) (omega arith))
