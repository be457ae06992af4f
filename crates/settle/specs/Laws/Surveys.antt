-- A survey of the bodies: what it knows of the routines passed so far.
use Rattle.std.specs.Prelude.{◌≡◌, refl, List, [], ◌∷◌, ◌++◌, ℕ, suc, ◌+◌, ◌-◌, ◌≤◌, ◌<◌, length, get_or, set, take, drop}
use Rattle.std.proofs.Common.{sym, ap, ◌∙◌, subst, add-one, arith, length-set, get_or-set_same, get_or-set_other}
use Rattle.std.proofs.Common.{get_or-take, length-take-le}
use Rattle.std.proofs.Math.Decide.{ℕ_discrete}
use Rattle.table.specs.Constants.{END}
use Rattle.table.specs.Program.{Program, body}
use Rattle.table.specs.Encoding.{encode, encode_bodies}
use Rattle.table.proofs.Laws.Sound.{counts_params}
use Rattle.rules.specs.Verdict.{Calls}
use Rattle.grid.specs.Rows.{Has}
use Rattle.table.specs.Laws.Fine.{Fine, IsBody}
use Rattle.pairs.specs.Parts.{Scans}
use Rattle.table.proofs.Laws.Within.{fine}
use Rattle.settle.specs.Bodies.{start_of, Surveyed, Surveys}
use Rattle.settle.specs.Laws.Starts.{body_at, start_next}
use Rattle.table.specs.Laws.Sections.{Holds, Held}
use Rattle.table.proofs.Laws.Sections.{routines, few}

module _ (P : Program) (ks s : List ℕ) (h : Holds P ks s) (r : ℕ) (l : r < length P) where
  -- what follows the body of routine r
  abbrev pub rest : List ℕ
  rest = encode_bodies (drop (suc r) P)

  pub fine_here : Fine ks (get_or ks r 0) (body P r)
  fine_here = rw (h.params_are, counts_params P r) (fine P r h.limits l)

  pub bytes_here : drop (start_of P r) s ≡ encode END (body P r) ++ rest
  bytes_here = ap (drop (start_of P r)) h.bytes_are ∙ body_at P r l

  pub is_body : (at : ℕ) → at ≡ start_of P r → IsBody ks (get_or ks r 0) s at
  is_body at e = (body P r, rest, fine_here, ap (λ (v : ℕ). drop v s) e ∙ bytes_here)

-- what is known of routine q
pub record Told (P : Program) (starts calls : List ℕ) (q : ℕ) : Type 0 where
  pub start : get_or starts q 0 ≡ start_of P q
  pub calls_to : (p : ℕ) → Has (get_or calls q 0) p → Calls (body P q) p
  pub calls_from : (p : ℕ) → Calls (body P q) p → Has (get_or calls q 0) p

-- what is known where the body of routine r is next, at the offset
pub record Surveying (ks s starts calls : List ℕ) (at r : ℕ) : Type 0 where
  pub starts_long : length starts ≡ 64
  pub calls_long : length calls ≡ 64
  pub within : r ≤ length ks
  pub here : (P : Program) → Holds P ks s → at ≡ start_of P r
  pub told : (P : Program) → Holds P ks s → (q : ℕ) → q < r → Told P starts calls q

module _ (ks s : List ℕ) where
  pub survey_start : (starts calls : List ℕ) → length starts ≡ 64 → length calls ≡ 64 → Surveying ks s starts calls 0 0
  survey_start starts calls e f = record {
    starts_long = e;
    calls_long = f;
    within = omega arith;
    here = λ P h. first P;
    told = λ P h q l. absurd (omega arith);
  }
    where
      first : (P : Program) → 0 ≡ start_of P 0
      first [] = refl
      first (q ∷ P) = refl

  module _ (starts calls : List ℕ) (at r : ℕ) (v : Surveying ks s starts calls at r) (lt : r < length ks) where
    pub scan_ready : Held ks s → ((k : ℕ) × IsBody ks k s at) × (length ks ≤ 64)
    scan_ready p =
        let e = routines p.0 ks s p.1 in
        ((get_or ks r 0, is_body p.0 ks s p.1 r (omega arith) at (v.here p.0 p.1)), few ks s p)

    pub survey_turn : (next mask : ℕ) → Held ks s → Scans ks s at next mask
        → Surveying ks s (set starts r at) (set calls r mask) next (r + 1)
    survey_turn next mask p sc = record {
      starts_long = length-set starts r at ∙ v.starts_long;
      calls_long = length-set calls r mask ∙ v.calls_long;
      within = omega arith;
      here = λ P h.
          let e = routines P ks s h in
          let lr : r < length P = omega arith in
          sc.ends (get_or ks r 0) (body P r) (rest P ks s h r lr) (fine_here P ks s h r lr) (bytes P h lr)
          ∙ ap (λ (u : ℕ). u + length (encode END (body P r))) (v.here P h)
          ∙ sym (start_next P r lr) ∙ ap (start_of P) (sym (add-one r));
      told = λ P h q l. step P h q l (ℕ_discrete q r);
    }
      where
        bytes : (P : Program) (h : Holds P ks s) (lr : r < length P) → drop at s ≡ encode END
            (body P r) ++ rest P ks s h r lr
        bytes P h lr = ap (λ (u : ℕ). drop u s) (v.here P h) ∙ bytes_here P ks s h r lr

        inside : r < 64
        inside = let f = few ks s p in omega arith

        step : (P : Program) → Holds P ks s → (q : ℕ) → q < r + 1 → Dec (q ≡ r)
            → Told P (set starts r at) (set calls r mask) q
        step P h q l (yes e) = subst (Told P (set starts r at) (set calls r mask)) (sym e) (record {
          start = get_or-set_same starts r at 0 (let f = v.starts_long in let i = inside in omega arith) ∙ v.here P h;
          calls_to = λ p w. sc.only (get_or ks r 0) (body P r) (rest P ks s h r lr) (fine_here P ks s h r lr)
              (bytes P h lr) p (rw mask_is at w);
          calls_from = λ p w. rw mask_is (sc.all (get_or ks r 0) (body P r) (rest P ks s h r lr)
              (fine_here P ks s h r lr) (bytes P h lr) p w);
        })
          where
            lr : r < length P
            lr = let g = routines P ks s h in omega arith

            mask_is : get_or (set calls r mask) r 0 ≡ mask
            mask_is = get_or-set_same calls r mask 0 (let f = v.calls_long in let i = inside in omega arith)
        step P h q l (no n) =
            let t = v.told P h q (omega arith) in
            record {
              start = get_or-set_other starts r q at 0 n ∙ t.start;
              calls_to = λ p w. t.calls_to p (rw (get_or-set_other calls r q mask 0 n) at w);
              calls_from = λ p w. rw (get_or-set_other calls r q mask 0 n) (t.calls_from p w);
            }

  pub all_surveyed : (starts calls : List ℕ) (at r : ℕ) → Held ks s → length ks ≤ r
      → Surveying ks s starts calls at r → Surveys ks s starts calls
  all_surveyed starts calls at r p l v = record {
    starts_long = v.starts_long;
    calls_long = v.calls_long;
    told = told_of;
  }
    where
      told_of : (P : Program) → Holds P ks s → Surveyed P (take (length ks) starts) (take (length ks) calls)
      told_of P h = record {
        start = λ q lq. get_or-take (length ks) starts q 0 (omega (arith, e)) ∙ (told q lq).start;
        calls_to = λ q x lq w. (told q lq).calls_to x (rw (get_or-take (length ks) calls q 0 (omega (arith, e))) at w);
        calls_from = λ q x lq w. rw (get_or-take (length ks) calls q 0 (omega (arith, e))) ((told q lq).calls_from x w);
        starts_long = length-take-le (length ks) starts (let f = v.starts_long in let g = few ks s p in omega arith) ∙ e;
        calls_long = length-take-le (length ks) calls (let f = v.calls_long in let g = few ks s p in omega arith) ∙ e;
      }
        where
          e : length ks ≡ length P
          e = routines P ks s h

          told : (q : ℕ) → q < length P → Told P starts calls q
          told q lq = v.told P h q (omega (arith, e))

-- the arrays of a survey as code cuts them
pub cut_surveyed : (ks s starts calls : List ℕ) → Surveys ks s starts calls → (P : Program) → Holds P ks s
    → Surveyed P (take (length ks - 0) (drop 0 starts)) (take (length ks - 0) (drop 0 calls))
cut_surveyed ks s starts calls sv P h = let e : length ks - 0 ≡ length ks = omega arith in rw e (sv.told P h)
