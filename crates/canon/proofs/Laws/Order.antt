-- The order in which routines are first met: it has each reached routine once, and nothing else.
use Rattle.std.specs.Prelude.{◌≡◌, ◌⊎◌, List}
use Rattle.std.proofs.Math.Path.{refl, ap}
use Rattle.std.proofs.Common.{sym, ◌∙◌, inl, inr}
use Rattle.std.proofs.Math.Option.{Option, none, some, none-ne-some, some-injective}
use Prim.Native.Nat.{ℕ, zero, suc, ◌+◌, ◌-◌, ◌≤◌, ◌<◌}
use Rattle.std.proofs.Math.Nat.{add-zero, add-suc}
use native.Mathlib.Omega.{arith}
use Rattle.std.proofs.Math.ListN.{length, get_elem?}
use Rattle.table.specs.Program.{Code, end, new, lock, fork, choice, call, mirror, Program, body}
use Rattle.table.specs.WellFormed.{In, NoDup, WellFormed}
use Rattle.rules.specs.Verdict.{Calls, Reached, first, then}
use Rattle.rules.proofs.Laws.Lists.{Found, nowhere, alone, appended}
use Rattle.rules.proofs.Laws.Verdict.{reached_within}
use Rattle.canon.specs.Canonical.{called, all_met, called_by, found, order, position}
use Rattle.canon.proofs.Laws.Lists.{all_new, all_only, all_once, all_entry}
use Rattle.canon.proofs.Laws.Lists.{entry_in, entry_past, past_entry, position_entry, below_few}

-- the list of the routines called has those that the code calls, and no other
pub is_called : (c : Code) (q : ℕ) → Found q (called c) (Calls c q)
is_called end q = nowhere q
is_called (new x c) q = is_called c q
is_called (lock x c d) q = appended (is_called c q) (is_called d q)
is_called (fork i c d) q = appended (is_called c q) (is_called d q)
is_called (choice a b c) q = appended (is_called a q) (appended (is_called b q) (is_called c q))
is_called (call r xs c) q = appended (alone q r) (is_called c q)
is_called (mirror x y c) q = is_called c q

module _ (P : Program) where
  -- what is met next comes from the calls of the routine at the place, if there is one
  read_of : (s : List ℕ) (i q : ℕ) → In q (called_by P (get_elem? s i)) → (r : ℕ) × In r s × Calls (body P r) q
  read_of s i q = go (get_elem? s i) refl
    where
      go : (o : Option ℕ) → get_elem? s i ≡ o → In q (called_by P o) → (r : ℕ) × In r s × Calls (body P r) q
      go none e j = absurd j
      go (some r) e j = (r, (entry_in s i r e).0, (is_called (body P r) q).fact j)

  pub found_step : (i : ℕ) → found P (suc i) ≡ all_met (found P i) (called_by P (get_elem? (found P i) i))
  unfolding found
  found_step i = refl

  found_once : (i : ℕ) → NoDup (found P i)
  unfolding found
  found_once zero = ((λ z. z), tt)
  found_once (suc i) = all_once (called_by P (get_elem? (found P i) i)) (found P i) (found_once i)

  pub found_reached : (i q : ℕ) → In q (found P i) → Reached P q
  unfolding found
  found_reached zero q (inl e) = rw e first
  found_reached zero q (inr z) = absurd z
  found_reached (suc i) q j =
      go (found_reached i) (all_only (called_by P (get_elem? (found P i) i)) (found P i) q j)
    where
      go : ((r : ℕ) → In r (found P i) → Reached P r)
          → In q (found P i) ⊎ In q (called_by P (get_elem? (found P i) i)) → Reached P q
      go ih (inl k) = ih q k
      go ih (inr k) = let w = read_of (found P i) i q k in then (ih w.0 w.1) w.2

  found_first : (i : ℕ) → get_elem? (found P i) 0 ≡ some 0
  unfolding found
  found_first zero = refl
  found_first (suc i) = all_entry (called_by P (get_elem? (found P i) i)) (found P i) 0 0 (found_first i)

  -- what was met at a place stays there
  found_entry : (i d p x : ℕ) → get_elem? (found P i) p ≡ some x → get_elem? (found P (i + d)) p ≡ some x
  unfolding found
  found_entry i zero p x e = rw add-zero e
  found_entry i (suc d) p x e = rw add-suc
      (all_entry (called_by P (get_elem? (found P (i + d)) (i + d))) (found P (i + d)) p x (found_entry i d p x e))

  found_old : (i d q : ℕ) → In q (found P i) → In q (found P (i + d))
  found_old i d q j =
      let p = position (found P i) q in
      (entry_in (found P (i + d)) p q (found_entry i d p q (position_entry (found P i) q j))).0

  -- once there is no body left to read, nothing more is met
  pub found_settled : (i d : ℕ) → length (found P i) ≤ i → found P (i + d) ≡ found P i
  found_settled i zero l = rw add-zero refl
  found_settled i (suc d) l =
      let ih = found_settled i d l in
      let none_left : get_elem? (found P (i + d)) (i + d) ≡ none =
      entry_past (found P (i + d)) (i + d) (rw ih (let b : length (found P i) ≤ i = l in omega arith)) in
      let s : found P (suc (i + d)) ≡ found P (i + d) =
      found_step (i + d) ∙ ap (λ (o : Option ℕ). all_met (found P (i + d)) (called_by P o)) none_left in
      rw add-suc (s ∙ ih)

  -- the order has no routine twice
  pub order_once : NoDup (order P)
  unfolding order
  order_once = found_once (length P)

  -- each of its routines is reached
  pub order_reached : (q : ℕ) → In q (order P) → Reached P q
  unfolding order
  order_reached q i = found_reached (length P) q i

  -- routine 0 is first
  pub order_first : get_elem? (order P) 0 ≡ some 0
  unfolding order
  order_first = found_first (length P)

  -- the order is what is met after i bodies and then those left
  later : (i : ℕ) → i ≤ length P → order P ≡ found P (i + (length P - i))
  unfolding order
  later i l = ap (found P) (let h : length P ≡ i + (length P - i) = omega arith in h)

  -- what was met at a place is there in the order
  pub order_entry : (i p x : ℕ) → i ≤ length P → get_elem? (found P i) p ≡ some x → get_elem? (order P) p ≡ some x
  order_entry i p x l e = rw (later i l) (found_entry i (length P - i) p x e)

module _ (P : Program) (wf : WellFormed P) where
  pub found_few : (i : ℕ) → length (found P i) ≤ length P
  found_few i =
      below_few (length P) (found P i) (found_once P i) (λ q j. reached_within P wf q (found_reached P i q j))

  -- no more routines are met than there are
  pub order_few : length (order P) ≤ length P
  unfolding order
  order_few = found_few (length P)

  -- reading more bodies than there are routines meets no more
  pub order_enough : (d : ℕ) → found P (length P + d) ≡ order P
  unfolding order
  order_enough d = found_settled P (length P) d (found_few (length P))

  -- what a routine of the order calls is of the order: its body was read when its place was due
  order_calls : (p r q : ℕ) → get_elem? (order P) p ≡ some r → Calls (body P r) q → In q (order P)
  order_calls p r q e k = go (get_elem? (found P p) p) refl
    where
      below : p < length P
      below = let a = (entry_in (order P) p r e).1 in let b = order_few in omega arith

      go : (o : Option ℕ) → get_elem? (found P p) p ≡ o → In q (order P)
      go none g =
          let l = past_entry (found P p) p g in
          let same : order P ≡ found P p =
          later P p (omega (arith, below)) ∙ found_settled P p (length P - p) l in
          absurd (none-ne-some r (sym (entry_past (order P) p (rw same l)) ∙ e))
      go (some x) g =
          let there = order_entry P p p x (omega (arith, below)) g in
          let it : x ≡ r = some-injective x r (sym there ∙ e) in
          let here : In q (called_by P (get_elem? (found P p) p)) = rw (g, it) ((is_called (body P r) q).entry k) in
          let next : In q (found P (suc p)) =
          rw (found_step P p) (all_new (called_by P (get_elem? (found P p) p)) (found P p) q here) in
          rw (later P (suc p) below) (found_old P (suc p) (length P - suc p) q next)

  -- each reached routine is of the order
  pub reached_order : (q : ℕ) → Reached P q → In q (order P)
  reached_order q first = (entry_in (order P) 0 0 (order_first P)).0
  reached_order q (then {r = r} w k) =
      order_calls (position (order P) r) r q (position_entry (order P) r (reached_order r w)) k
