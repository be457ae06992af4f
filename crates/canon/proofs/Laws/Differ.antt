-- The ways in which programs may differ and be alike, and that they are alike exactly where they have one canonical
-- program.
use Rattle.std.specs.Prelude.{◌≡◌, refl, ◌↔◌, ℕ, ◌+◌, ◌<◌, length, get_or}
use Rattle.std.proofs.Common.{sym, ap, ◌∙◌}
use Rattle.table.specs.Program.{Routine, Program, empty, params, body}
use Rattle.table.specs.WellFormed.{WellFormed}
use Rattle.table.specs.Encoding.{WithinLimits}
use Rattle.table.proofs.Laws.Formed.{well_formed}
use Rattle.rules.specs.Verdict.{Reached, then}
use Rattle.canon.specs.Canonical.{order, place, recalled, resolved, rewritten, canonical, Alike}
use Rattle.canon.proofs.Laws.Lists.{get_or_entry, position_entry}
use Rattle.canon.proofs.Laws.Order.{order_first, reached_order}
use Rattle.canon.proofs.Laws.Rewrite.{plain_recalled, recalled_twice, recalled_agree, recalled_itself}
use Rattle.canon.proofs.Laws.Canonical.{calls_resolved, place_main, place_apart, kept_routine, alike_canonical}
use Rattle.canon.proofs.Laws.Limits.{original, keeps}

-- the mirrors of the reached routines differ
pub differ_in_mirrors : (P Q : Program)
    → ((r : ℕ) → Reached P r → (params P r ≡ params Q r) × (resolved (get_or P r empty) ≡ resolved (get_or Q r empty)))
    → Alike P Q
differ_in_mirrors P Q e = record {
  to = λ r. r;
  main = refl;
  apart = λ r q v w f. f;
  count = λ r w. (e r w).0;
  body = λ r w. recalled_itself (resolved (get_or P r empty)) ∙ (e r w).1;
}

-- the unreached routines differ
pub differ_in_unreached : (P Q : Program) → ((r : ℕ) → Reached P r → get_or P r empty ≡ get_or Q r empty) → Alike P Q
differ_in_unreached P Q e =
    differ_in_mirrors P Q (λ r w. (ap (λ (q : Routine). q.count) (e r w), ap resolved (e r w)))

-- the order of the routines after 0 differs: routine r of P is routine f r of Q, and calls are renumbered
pub differ_in_order : (P Q : Program) (f : ℕ → ℕ) → f 0 ≡ 0 → ((r q : ℕ) → f r ≡ f q → r ≡ q)
    → ((r : ℕ) → r < length P → get_or Q (f r) empty ≡ record { count = params P r; code = recalled f (body P r) })
    → ((r : ℕ) → Reached P r → r < length P) → Alike P Q
differ_in_order P Q f z apart e below = record {
  to = f;
  main = z;
  apart = λ r q v w. apart r q;
  count = λ r w. sym (ap (λ (q : Routine). q.count) (e r (below r w)));
  body = λ r w. sym (ap resolved (e r (below r w)) ∙ plain_recalled f (λ x. x) (params P r + 1) (body P r));
}

module _ (P Q : Program) (p : WithinLimits P) (q : WithinLimits Q) (same : canonical P ≡ canonical Q) where
  ok_p : WellFormed P
  ok_p = well_formed P p

  ok_q : WellFormed Q
  ok_q = well_formed Q q

  -- the routine of Q that has the new number i, and the one that has the new number of routine r of P
  abbrev numbered : ℕ → ℕ
  numbered i = get_or (order Q) i 0

  abbrev other : ℕ → ℕ
  other r = numbered (place P r)

  -- a routine of Q by its new number
  numbered_place : (x : ℕ) → Reached Q x → numbered (place Q x) ≡ x
  numbered_place x w = get_or_entry (order Q) (place Q x) x 0 (position_entry (order Q) x (reached_order Q ok_q x w))

  other_place : (r : ℕ) → Reached P r → Reached Q (other r) × (place Q (other r) ≡ place P r)
  other_place r w =
      let o = original Q q (place P r) (rw (← same) (keeps P p r w).0) in
      let e : other r ≡ o.0 = ap numbered (sym o.2) ∙ numbered_place o.0 o.1 in
      rw e (o.1, o.2)

  other_routine : (r : ℕ) → Reached P r
      → rewritten (place P) (get_or P r empty) ≡ rewritten (place Q) (get_or Q (other r) empty)
  other_routine r w =
      let o = other_place r w in
      sym (kept_routine P ok_p r w) ∙ ap (λ (C : Program). get_or C (place P r) empty) same
      ∙ ap (λ i. get_or (canonical Q) i empty) (sym o.1) ∙ kept_routine Q ok_q (other r) o.0

  same_alike : Alike P Q
  same_alike = record {
    to = other;
    main = ap numbered (place_main P) ∙ get_or_entry (order Q) 0 0 0 (order_first Q);
    apart = λ r t v w e. place_apart P ok_p r t v w (sym (other_place r v).1 ∙ ap (place Q) e ∙ (other_place t w).1);
    count = λ r w. ap (λ (x : Routine). x.count) (other_routine r w);
    body = bodies;
  }
    where
      bodies : (r : ℕ) → Reached P r → recalled other (resolved (get_or P r empty)) ≡ resolved (get_or Q (other r) empty)
      bodies r w =
          sym (recalled_twice numbered (place P) (resolved (get_or P r empty)))
          ∙ ap (recalled numbered) (ap (λ (x : Routine). x.code) (other_routine r w))
          ∙ recalled_twice numbered (place Q) (resolved (get_or Q (other r) empty))
          ∙ recalled_agree (λ t. numbered (place Q t)) (λ t. t) (resolved (get_or Q (other r) empty))
          (λ t h. numbered_place t (then (other_place r w).0 (calls_resolved (get_or Q (other r) empty) t h)))
          ∙ recalled_itself (resolved (get_or Q (other r) empty))

-- programs are alike exactly where they have one canonical program
pub alike_exactly : (P Q : Program) → WithinLimits P → WithinLimits Q → Alike P Q ↔ (canonical P ≡ canonical Q)
alike_exactly P Q p q =
    ((λ alike. alike_canonical P Q alike (well_formed P p) (well_formed Q q)), same_alike P Q p q)
