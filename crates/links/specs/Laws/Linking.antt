-- The bodies that are linked so far: one more, and all of them.
use Rattle.std.specs.Prelude.{◌≡◌, refl, false, not, List, [], ◌∷◌, ℕ, suc, ◌+◌, ◌<◌, ◌≤◌, length, get_or, set, drop}
use Rattle.std.proofs.Common.{sym, ◌∙◌, ap, subst, arith, add-one, length-set, get_or-set_same, get_or-set_other, eq-eqb}
use Rattle.std.proofs.Math.Decide.{ℕ_discrete}
use Rattle.table.specs.Constants.{most_bytes, most_routines, most_params}
use Rattle.table.specs.Program.{Program, body, params}
use Rattle.table.specs.Encoding.{encode_bodies, counts}
use Rattle.table.proofs.Laws.Sound.{counts_params}
use Rattle.table.proofs.Laws.Within.{fine, bodies_from}
use Rattle.table.specs.Laws.Sections.{Holds, Held}
use Rattle.table.proofs.Laws.Sections.{routines, few}
use Rattle.links.specs.Laws.Named.{named}
use Rattle.links.specs.Lies.{section, Lies}
use Rattle.links.specs.Walks.{going_by, begun, Ends, Walks, Linked}
use Rattle.links.specs.Holding.{Links}
use Rattle.links.specs.Laws.Passing.{Same, Fit, Passed, passes}

drop_none : (P : Program) → drop 0 P ≡ P
drop_none [] = refl
drop_none (q ∷ P) = refl

-- the body of routine q is linked, whatever the links from the offset on are
abbrev pub LinkedTo : List ℕ → List ℕ → List ℕ → ℕ → Program → ℕ → ℕ → Type 0
LinkedTo ks s links at P head q =
    (to : ℕ) × (to ≤ at)
    × ((hs n bs : List ℕ) → Same 0 at links n → Lies (section ks s hs n bs) false head (body P q) to)

-- the bodies below r are linked, and the next is at the offset
pub record Linking (ks s heads links : List ℕ) (at r : ℕ) : Type 0 where
  pub heads_long : length heads ≡ most_routines
  pub links_long : length links ≡ most_bytes
  pub within : r ≤ length ks
  pub here : (P : Program) → Holds P ks s → drop at s ≡ encode_bodies (drop r P)
  pub linked : (P : Program) → Holds P ks s → (q : ℕ) → q < r → LinkedTo ks s links at P (get_or heads q 0) q
  pub starts : r ≡ 0 → at ≡ 0
  pub first : 1 ≤ r → get_or heads 0 0 ≡ 0

module _ (ks s : List ℕ) where
  pub linking_start : (heads links : List ℕ) → length heads ≡ most_routines → length links ≡ most_bytes
      → Linking ks s heads links 0 0
  linking_start heads links e f = record {
    heads_long = e;
    links_long = f;
    within = omega arith;
    here = λ P h. whole s ∙ h.bytes_are ∙ ap encode_bodies (sym (drop_none P));
    linked = λ P h q l. absurd (omega (arith, l));
    starts = λ q. refl;
    first = λ q. absurd (omega (arith, q));
  }
    where
      whole : (l : List ℕ) → drop 0 l ≡ l
      whole [] = refl
      whole (x ∷ l) = refl

  module _ (heads links : List ℕ) (at r : ℕ) (k : Linking ks s heads links at r) (lt : r < length ks) where
    -- the body of routine r can be passed
    passed : (P : Program) → Holds P ks s → (hs bs : List ℕ)
        → Passed ks s hs bs false (body P r) (begun at (get_or ks r 0)) links (encode_bodies (drop (suc r) P))
    passed P h hs bs = passes ks s hs bs (body P r) false (begun at (get_or ks r 0)) links (encode_bodies (drop
        (suc r) P)) fit
      where
        low : r < length P
        low = let e = routines P ks s h in omega (arith, e, lt)

        own : get_or ks r 0 ≡ params P r
        own = ap (λ (l : List ℕ). get_or l r 0) h.params_are ∙ counts_params P r

        fit : Fit ks s hs bs false (body P r) (begun at (get_or ks r 0)) links (encode_bodies (drop (suc r) P))
        fit =
            let f = h.limits.fits r low in
            let e = own in
            let a = f.few_params in
            let b = f.few_locals in
            let c = f.few_open in
            let d = h.limits.few_bytes in
            let g = ap length h.bytes_are in
            record {
              bytes = k.here P h ∙ bodies_from P r low;
              short = omega (arith, d, g);
              named = rw h.params_are (named (counts P) (params P r) (body P r) (fine P r h.limits low));
              params = params P r;
              before = 0;
              forked = 0;
              numbered = f.numbered;
              name = omega (arith, e);
              low = omega (arith, e, a, b);
              room = omega (arith, c);
              opened_long = refl;
              long = k.links_long;
            }

    ends : (P : Program) (h : Holds P ks s) (hs bs : List ℕ) → Ends s (passed P h hs bs).v
    ends P h hs bs =
        let p = passed P h hs bs in
        (p.inside, ap (going_by p.v) p.byte ∙ ap not (eq-eqb p.v.top 0 p.top))

    pub own_low : Held ks s → get_or ks r 0 ≤ most_params
    own_low p =
        let e : get_or ks r 0 ≡ params p.0 r = ap (λ (l : List ℕ). get_or l r 0) p.1.params_are ∙ counts_params
        p.0 r in
        let l = routines p.0 ks s p.1 in
        let a = (p.1.limits.fits r (omega (arith, l, lt))).few_params in
        omega (arith, e, a)

    pub can_walk : Held ks s → Walks ks s (begun at (get_or ks r 0)) links
    can_walk p =
        let q = passed p.0 p.1 [] [] in
        (q.v, q.m, q.path, ends p.0 p.1 [] [])

    -- one more
    pub linking_turn : Held ks s → (to : ℕ) (new : List ℕ) → Linked ks s (begun at (get_or ks r 0)) links new to
        → Linking ks s (set heads r at) new to (r + 1)
    linking_turn p to new done = record {
      heads_long = length-set heads r at ∙ k.heads_long;
      links_long =
          let q = passed p.0 p.1 [] [] in
          let d = done q.v q.m q.path (ends p.0 p.1 [] []) in
          ap length d.1 ∙ q.long;
      within = omega (arith, lt);
      here = λ P h.
          let q = passed P h [] [] in
          let d = done q.v q.m q.path (ends P h [] []) in
          ap (λ (v : ℕ). drop v s) d.0 ∙ q.after ∙ ap (λ (v : ℕ). encode_bodies (drop v P)) (sym (add-one r));
      linked = λ P h q l. each P h q l (ℕ_discrete q r);
      starts = λ q. absurd (omega (arith, q));
      first = λ q. zeroth (ℕ_discrete r 0);
    }
      where
        inside : r < length heads
        inside = let f = few ks s p in let g = k.heads_long in omega (arith, f, g, lt)

        zeroth : Dec (r ≡ 0) → get_or (set heads r at) 0 0 ≡ 0
        zeroth (yes e) =
            ap (λ (v : ℕ). get_or (set heads v at) 0 0) e
            ∙ get_or-set_same heads 0 at 0 (let i = inside in omega (arith, i)) ∙ k.starts e
        zeroth (no n) =
            get_or-set_other heads r 0 at 0 (λ e. n (sym e)) ∙ k.first (omega (arith, n))

        each : (P : Program) → Holds P ks s → (q : ℕ) → q < r + 1 → Dec (q ≡ r)
            → LinkedTo ks s new to P (get_or (set heads r at) q 0) q
        each P h q l (yes e) =
            let v = passed P h [] [] in
            let d = done v.v v.m v.path (ends P h [] []) in
            let head : get_or (set heads r at) q 0 ≡ at =
            ap (λ (i : ℕ). get_or (set heads r at) i 0) e ∙ get_or-set_same heads r at 0 inside in
            subst (λ (i : ℕ). LinkedTo ks s new to P i q) (sym head)
            (subst (λ (i : ℕ). LinkedTo ks s new to P at i) (sym e) (
              to,
              omega arith,
              λ hs n bs same.
                  let u = passed P h hs bs in
                  let du = done u.v u.m u.path (ends P h hs bs) in
                  let a = du.0 in
                  subst (λ (i : ℕ). Lies (section ks s hs n bs) false at (body P r) i) (sym a)
                  (u.lies n (λ i x y. same i (omega arith) (omega (arith, y, a)) ∙ ap (λ (m : List ℕ). get_or m i 0)
                  du.1)),
            ))
        each P h q l (no g) =
            let t = k.linked P h q (omega (arith, l, g)) in
            let v = passed P h [] [] in
            let d = done v.v v.m v.path (ends P h [] []) in
            let a = d.0 in
            let o = v.order in
            let b = t.1 in
            subst (λ (i : ℕ). LinkedTo ks s new to P i q) (sym (get_or-set_other heads r q at 0 g)) (
              t.0,
              omega (arith, a, b, o),
              λ hs n bs same.
                  t.2 hs n bs (λ i x y. same i x (omega (arith, y, a, o)) ∙ ap (λ (m : List ℕ). get_or m i 0) d.1
                  ∙ v.below i y),
            )

  -- all of them
  pub all_linked : (heads links : List ℕ) (at r : ℕ) → Linking ks s heads links at r → length ks ≤ r
      → Links ks s heads links
  all_linked heads links at r k h P held =
      let e = routines P ks s held in
      let l = held.limits.some_routine in (
        (λ bs q less. let t = k.linked P held q (omega (arith, less, h)) in (
          t.0,
          t.2 heads links bs
              (λ i x y. refl),
        )),
        k.first (omega (arith, e, l, h)),
      )
