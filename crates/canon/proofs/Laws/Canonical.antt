-- Programs that differ only in how they are written have one canonical program, and the canonical program of a program
-- differs from it only in that.
use Rattle.std.specs.Prelude.{◌≡◌, refl, length, get_or}
use Rattle.std.proofs.Math.Path.{sym, ap}
use Rattle.std.proofs.Common.{◌∙◌, inl, inr, add_comm}
use mathlib.Core.List.{List, [], ◌∷◌, map, map-map}
use Rattle.std.proofs.Math.Option
use Rattle.std.proofs.Math.Option.{Option, none, some}
use Prim.Native.Nat.{ℕ, zero, suc, ◌+◌}
use Rattle.std.proofs.Math.ListN.{get_elem?}
use Rattle.table.specs.Program.{Code, Routine, Program, empty, params, body, names}
use Rattle.table.specs.WellFormed.{In, WellFormed}
use Rattle.rules.specs.Verdict.{Calls, Reached, then}
use Rattle.rules.proofs.Laws.Verdict.{reached_within}
use Rattle.canon.specs.Canonical.{called, all_met, called_by, found, order, position, place, recalled, resolved}
use Rattle.canon.specs.Canonical.{rewritten, canonical, Alike}
use Rattle.canon.proofs.Laws.Lists.{all_new, all_map, entry_map, entry_in, get_or_entry, position_map}
use Rattle.canon.proofs.Laws.Lists.{position_once, position_entry, position_apart}
use Rattle.canon.proofs.Laws.Order.{is_called, found_reached, order_enough}
use Rattle.canon.proofs.Laws.Order.{order_once, order_first, order_reached, reached_order}
use Rattle.canon.proofs.Laws.Rewrite.{called_plain, called_recalled, recalled_twice, recalled_agree}
use Rattle.canon.proofs.Laws.Rewrite.{plain_recalled, plain_again}

map_same : {A : Type 0} (f g : ℕ → A) (s : List ℕ) → ((r : ℕ) → In r s → f r ≡ g r) → map f s ≡ map g s
map_same f g [] e = refl
map_same f g (x ∷ s) e = let h = e x (inl refl) in let t = map_same f g s (λ r i. e r (inr i)) in cc

routine_same : {k k' : ℕ} {c c' : Code} → k ≡ k' → c ≡ c'
    → ◌≡◌ {A = Routine} (record { count = k; code = c }) (record { count = k'; code = c' })
routine_same e f = λ i. record { count = e i; code = f i }

-- a call that is left in a resolved body was there before
pub calls_resolved : (q : Routine) (r : ℕ) → Calls (resolved q) r → Calls q.code r
calls_resolved q r h =
    (is_called q.code r).fact
    (rw (called_plain (λ x. x) (q.count + 1) q.code) at ((is_called (resolved q) r).entry h))

module _ (P Q : Program) (alike : Alike P Q) where
  same_called : (r : ℕ) → Reached P r → called (body Q (alike.to r)) ≡ map alike.to (called (body P r))
  same_called r w =
      sym (called_plain (λ x. x) (params Q (alike.to r) + 1) (body Q (alike.to r)))
      ∙ ap called (sym (alike.body r w))
      ∙ called_recalled alike.to (resolved (get_or P r empty))
      ∙ ap (map alike.to) (called_plain (λ x. x) (params P r + 1) (body P r))

  same_read : (s : List ℕ) (i : ℕ) → ((r : ℕ) → In r s → Reached P r)
      → called_by Q (get_elem? (map alike.to s) i) ≡ map alike.to (called_by P (get_elem? s i))
  same_read s i all = rw (entry_map alike.to s i) (go (get_elem? s i) refl)
    where
      go : (o : Option ℕ) → get_elem? s i ≡ o
          → called_by Q (Option.map alike.to o) ≡ map alike.to (called_by P o)
      go none e = refl
      go (some r) e = same_called r (all r (entry_in s i r e).0)

  -- the same routines are met in the same order
  same_found : (i : ℕ) → found Q i ≡ map alike.to (found P i)
  unfolding found
  same_found zero = ap (λ (x : ℕ). x ∷ []) (sym alike.main)
  same_found (suc i) =
      ap (λ (s : List ℕ). all_met s (called_by Q (get_elem? s i))) (same_found i)
      ∙ ap (all_met (map alike.to (found P i))) (same_read (found P i) i (found_reached P i))
      ∙ all_map (Reached P) alike.to alike.apart (called_by P (get_elem? (found P i) i)) (found P i)
      (found_reached P i) (λ r j. found_reached P (suc i) r (all_new (called_by P (get_elem? (found P i) i)) (found P i) r
      j))

  module _ (ok_p : WellFormed P) (ok_q : WellFormed Q) where
    same_order : order Q ≡ map alike.to (order P)
    same_order =
        sym (order_enough Q ok_q (length P))
        ∙ ap (found Q) (add_comm (length Q) (length P))
        ∙ same_found (length P + length Q)
        ∙ ap (map alike.to) (order_enough P ok_p (length Q))

    -- programs that are alike have one canonical program
    pub alike_canonical : canonical P ≡ canonical Q
    unfolding canonical
    alike_canonical = sym
        (rw same_order
        (map-map (λ q. rewritten (position (map alike.to (order P))) (get_or Q q empty)) alike.to (order P)
        ∙ map_same (λ r. rewritten (position (map alike.to (order P))) (get_or Q (alike.to r) empty))
        (λ r. rewritten (place P) (get_or P r empty)) (order P) (λ r i. one r (order_reached P r i))))
      where
        one : (r : ℕ) → Reached P r
            → rewritten (position (map alike.to (order P))) (get_or Q (alike.to r) empty)
            ≡ rewritten (place P) (get_or P r empty)
        one r w = routine_same (sym (alike.count r w))
            (ap (recalled (position (map alike.to (order P)))) (sym (alike.body r w))
            ∙ recalled_twice (position (map alike.to (order P))) alike.to (resolved (get_or P r empty))
            ∙ recalled_agree (λ q. position (map alike.to (order P)) (alike.to q)) (place P)
            (resolved (get_or P r empty))
            (λ q h. position_map (Reached P) alike.to alike.apart (order P) q (order_reached P)
            (then w (calls_resolved (get_or P r empty) q h))))

-- routine 0 stays 0
pub place_main : (P : Program) → place P 0 ≡ 0
place_main P = position_once (order P) 0 0 (order_once P) (order_first P)

module _ (P : Program) (ok : WellFormed P) where
  -- no two reached routines have one new number
  pub place_apart : (r q : ℕ) → Reached P r → Reached P q → place P r ≡ place P q → r ≡ q
  place_apart r q v w e = position_apart (order P) r q (reached_order P ok r v) (reached_order P ok q w) e

  -- a reached routine stands rewritten at its new number
  pub kept_routine : (r : ℕ) → Reached P r → get_or (canonical P) (place P r) empty ≡ rewritten (place P) (get_or P r empty)
  unfolding canonical
  kept_routine r w =
      let g : ℕ → Routine = λ q. rewritten (place P) (get_or P q empty) in
      get_or_entry (map g (order P)) (place P r) (g r) empty
      (entry_map g (order P) (place P r) ∙ ap (Option.map g) (position_entry (order P) r (reached_order P ok r w)))

  -- the canonical program differs from the program only in how it is written
  pub canonical_alike : Alike P (canonical P)
  canonical_alike = record {
    to = place P;
    main = place_main P;
    apart = place_apart;
    count = λ r w. ap (λ (q : Routine). q.count) (sym (kept_routine r w));
    body = λ r w. sym (ap resolved (kept_routine r w) ∙ again r w);
  }
    where
      again : (r : ℕ) → Reached P r
          → resolved (rewritten (place P) (get_or P r empty)) ≡ recalled (place P) (resolved (get_or P r empty))
      again r w =
          plain_recalled (place P) (λ x. x) (params P r + 1) (resolved (get_or P r empty))
          ∙ ap (recalled (place P)) (plain_again P (params P r) (params P r + 1) (names (params P r)) (λ x. x) (λ x. x)
          (body P r) (ok.scoped r (reached_within P ok r w)) (λ z i. refl))
