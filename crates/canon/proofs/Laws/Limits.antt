-- The canonical program of a program within the limits is within them, and its table is no longer. So a second writing
-- changes nothing, and programs that differ only in how they are written have one canonical table.
use Rattle.std.specs.Prelude.{◌≡◌, refl, List, [], ◌∷◌, ◌++◌, map, ℕ, zero, suc, ◌+◌, ◌≤◌, ◌<◌, length, get_or}
use Rattle.std.proofs.Common.{sym, ap, ◌∙◌, inl, inr, suc-le-suc, length-append}
use Rattle.std.proofs.Math.Option.{Option, none, some}
use native.Mathlib.Omega.{arith}
use Rattle.std.proofs.Math.ListN.{length-map, get_elem?}
use Rattle.table.specs.Constants.{Op, END, OTHER}
use Rattle.table.specs.Program.{Code, end, new, lock, fork, choice, call, mirror, Routine, Program, empty}
use Rattle.table.specs.Program.{params, body, names, locals, forks}
use Rattle.table.specs.WellFormed.{In, Scoped, WellFormed}
use Rattle.table.specs.Encoding.{encode, encode_bodies, counts, two_bytes, encode_table, Numbered, Fits, WithinLimits}
use Rattle.table.proofs.Laws.Lists.{In-map}
use Rattle.table.proofs.Laws.Sound.{counts_length}
use Rattle.table.proofs.Laws.Formed.{well_formed}
use Rattle.rules.specs.Model.{bind}
use Rattle.rules.specs.Verdict.{Calls, Reached, first, then}
use Rattle.rules.proofs.Laws.Lists.{up_to, in_up_to}
use Rattle.rules.proofs.Laws.Nest.{by_bind}
use Rattle.rules.proofs.Laws.Verdict.{reached_within}
use Rattle.canon.specs.Canonical.{order, place, news, plain, recalled, resolved, rewritten, canonical}
use Rattle.canon.specs.Canonical.{canonical_table, Alike}
use Rattle.canon.proofs.Laws.Lists.{entry_in, past_entry, position_below, position_once, sum, sum_within}
use Rattle.canon.proofs.Laws.Order.{order_once, order_first, order_reached, reached_order, order_few}
use Rattle.canon.proofs.Laws.Rewrite.{locals_plain, forks_plain, depth_plain, news_locals}
use Rattle.canon.proofs.Laws.Rewrite.{locals_recalled, forks_recalled, depth_recalled}
use Rattle.canon.proofs.Laws.Canonical.{place_main, kept_routine, alike_canonical, canonical_alike}

-- the routine r of P is the routine f r of Q, with as many parameters
abbrev Keeps : Program → Program → (ℕ → ℕ) → ℕ → Type 0
Keeps P Q f r = (f r < length Q) × (params Q (f r) ≡ params P r)

-- each name in the scope s has its new name, by σ, in the scope t
abbrev Leads : (ℕ → ℕ) → List ℕ → List ℕ → Type 0
Leads σ s t = (z : ℕ) → In z s → In (σ z) t

leads_new : (σ : ℕ → ℕ) (s t : List ℕ) (x n : ℕ) → Leads σ s t → Leads (bind x n σ) (x ∷ s) (n ∷ t)
leads_new σ s t x n h z i =
    by_bind (λ v u. In v (n ∷ t)) x n n σ σ z (λ p. inl refl)
    (λ m. inr (h z (elim i [ inl p ↦ absurd (m p) | inr j ↦ j ])))

leads_mirror : (σ : ℕ → ℕ) (s t : List ℕ) (x y : ℕ) → In y s → Leads σ s t → Leads (bind x (σ y) σ) (x ∷ s) t
leads_mirror σ s t x y k h z i =
    by_bind (λ v u. In v t) x (σ y) (σ y) σ σ z (λ p. h y k)
    (λ m. h z (elim i [ inl p ↦ absurd (m p) | inr j ↦ j ]))

module _ (P Q : Program) (f : ℕ → ℕ) (k : ℕ) where
  -- the rewritten code is scoped in the program that keeps the routines called
  scoped_plain :
      (s t : List ℕ) (σ : ℕ → ℕ) (n : ℕ) (c : Code) → k < n → Scoped P k s c → Leads σ s t
      → ((r : ℕ) → Calls c r → Keeps P Q f r)
      → Scoped Q k t (recalled f (plain σ n c))
  scoped_plain s t σ n end l w h e = tt
  scoped_plain s t σ n (new x c) l w h e =
      (l, scoped_plain (x ∷ s) (n ∷ t) (bind x n σ) (n + 1) c (omega arith) w.1 (leads_new σ s t x n h) e)
  scoped_plain s t σ n (lock x c d) l w h e = (
    h x w.0,
    scoped_plain s t σ n c l w.1 h (λ r u. e r (inl u)),
    scoped_plain s t σ (n + news c) d (omega arith) w.2 h (λ r u. e r (inr u)),
  )
  scoped_plain s t σ n (fork i c d) l w h e = (
    scoped_plain s t σ n c l w.0 h (λ r u. e r (inl u)),
    scoped_plain s t σ (n + news c) d (omega arith) w.1 h (λ r u. e r (inr u)),
  )
  scoped_plain s t σ n (choice a b c) l w h e = (
    scoped_plain s t σ n a l w.0 h (λ r u. e r (inl u)),
    scoped_plain s t σ (n + news a) b (omega arith) w.1 h (λ r u. e r (inr (inl u))),
    scoped_plain s t σ (n + news a + news b) c (omega arith) w.2 h (λ r u. e r (inr (inr u))),
  )
  scoped_plain s t σ n (call r xs c) l w h e = (
    (e r (inl refl)).0,
    length-map xs σ ∙ w.1 ∙ sym (e r (inl refl)).1,
    (λ x i. let v = In-map σ x xs i in rw v.2 (h v.0 (w.2 v.0 v.1))),
    scoped_plain s t σ n c l w.3 h (λ q u. e q (inr u)),
  )
  scoped_plain s t σ n (mirror x y c) l w h e =
      scoped_plain (x ∷ s) t (bind x (σ y) σ) n c l w.2 (leads_mirror σ s t x y w.1 h) e

append_le : (a b a' b' : List ℕ) → length a ≤ length a' → length b ≤ length b' → length (a ++ b) ≤ length (a' ++ b')
append_le a b a' b' h g = let e = length-append a b in let f = length-append a' b' in omega arith

module _ (f : ℕ → ℕ) where
  locals_both : (σ : ℕ → ℕ) (n : ℕ) (c : Code) → locals (recalled f (plain σ n c)) ≡ news c
  locals_both σ n c = locals_recalled f (plain σ n c) ∙ locals_plain σ n c

  forks_both : (σ : ℕ → ℕ) (n : ℕ) (c : Code) → forks (recalled f (plain σ n c)) ≡ forks c
  forks_both σ n c = forks_recalled f (plain σ n c) ∙ forks_plain σ n c

  -- its locals are numbered by NEW alone, and its forks as before
  numbered_plain :
      (k m m' j : ℕ) (σ : ℕ → ℕ) (n : ℕ) (c : Code) → n ≡ k + m' + 1 → Numbered k m j c
      → Numbered k m' j (recalled f (plain σ n c))
  numbered_plain k m m' j σ n end e w = tt
  numbered_plain k m m' j σ n (new x c) e w =
      (e, numbered_plain k (m + 1) (m' + 1) j (bind x n σ) (n + 1) c (omega arith) w.1)
  numbered_plain k m m' j σ n (lock x c d) e w = (
    numbered_plain k m m' j σ n c e w.0,
    rw (locals_both σ n c, forks_both σ n c)
        (numbered_plain k (m + locals c) (m' + news c) (j + forks c) σ (n + news c) d (omega arith) w.1),
  )
  numbered_plain k m m' j σ n (fork i c d) e w = (
    w.0,
    numbered_plain k m m' (j + 1) σ n c e w.1,
    rw (locals_both σ n c, forks_both σ n c)
        (numbered_plain k (m + locals c) (m' + news c) (j + 1 + forks c) σ (n + news c) d (omega arith) w.2),
  )
  numbered_plain k m m' j σ n (choice a b c) e w = (
    numbered_plain k m m' j σ n a e w.0,
    rw (locals_both σ n a, forks_both σ n a)
        (numbered_plain k (m + locals a) (m' + news a) (j + forks a) σ (n + news a) b (omega arith) w.1),
    rw (locals_both σ n a, forks_both σ n a, locals_both σ (n + news a) b, forks_both σ (n + news a) b)
        (numbered_plain k (m + locals a + locals b) (m' + news a + news b) (j + forks a + forks b) σ
        (n + news a + news b) c (omega arith) w.2),
  )
  numbered_plain k m m' j σ n (call r xs c) e w = numbered_plain k m m' j σ n c e w
  numbered_plain k m m' j σ n (mirror x y c) e w = numbered_plain k (m + 1) m' j (bind x (σ y) σ) n c e w.1

  -- the bytes of the rewritten code, which are no more
  abbrev short : Op → (ℕ → ℕ) → ℕ → Code → List ℕ
  short z σ n c = encode z (recalled f (plain σ n c))

  shorter : (z : Op) (σ : ℕ → ℕ) (n : ℕ) (c : Code) → length (short z σ n c) ≤ length (encode z c)
  shorter z σ n end = omega arith
  shorter z σ n (new x c) = let h = shorter z (bind x n σ) (n + 1) c in omega arith
  shorter z σ n (lock x c d) =
      suc-le-suc (suc-le-suc
      (append_le (short END σ n c) (short z σ (n + news c) d) (encode END c) (encode z d)
      (shorter END σ n c) (shorter z σ (n + news c) d)))
  shorter z σ n (fork i c d) =
      suc-le-suc
      (append_le (short END σ n c) (short z σ (n + news c) d) (encode END c) (encode z d)
      (shorter END σ n c) (shorter z σ (n + news c) d))
  shorter z σ n (choice a b c) =
      let d = short END σ (n + news a) b in
      let e = short z σ (n + news a + news b) c in
      suc-le-suc
      (append_le (short OTHER σ n a) (d ++ e) (encode OTHER a) (encode END b ++ encode z c) (shorter OTHER σ n a)
      (append_le d e (encode END b) (encode z c) (shorter END σ (n + news a) b) (shorter z σ (n + news a + news b) c)))
  shorter z σ n (call r xs c) =
      let e : length (map σ xs) ≤ length xs = rw (length-map xs σ) (omega arith) in
      suc-le-suc (suc-le-suc (append_le (map σ xs) (short z σ n c) xs (encode z c) e (shorter z σ n c)))
  shorter z σ n (mirror x y c) = let h = shorter z (bind x (σ y) σ) n c in omega arith

-- how many bytes the body of a routine has
abbrev sized : Routine → ℕ
sized q = length (encode END q.code)

bodies_map : (g : ℕ → Routine) (s : List ℕ) → length (encode_bodies (map g s)) ≡ sum (λ r. sized (g r)) s
bodies_map g [] = refl
bodies_map g (x ∷ s) =
    length-append (encode END (g x).code) (encode_bodies (map g s)) ∙ ap (λ m. sized (g x) + m) (bodies_map g s)

sum_le : (v w : ℕ → ℕ) → ((r : ℕ) → v r ≤ w r) → (s : List ℕ) → sum v s ≤ sum w s
sum_le v w h [] = omega arith
sum_le v w h (x ∷ s) = let a = h x in let b = sum_le v w h s in omega arith

-- a sum over the numbers up to n, with the lowest apart
sum_first : (w : ℕ → ℕ) (n : ℕ) → sum w (up_to (suc n)) ≡ w 0 + sum (λ r. w (suc r)) (up_to n)
sum_first w zero = refl
sum_first w (suc n) = let h = sum_first w n in omega arith

bodies_sum : (P : Program) → length (encode_bodies P) ≡ sum (λ r. sized (get_or P r empty)) (up_to (length P))
bodies_sum [] = refl
bodies_sum (q ∷ P) =
    length-append (encode END q.code) (encode_bodies P)
    ∙ ap (λ m. sized q + m) (bodies_sum P)
    ∙ sym (sum_first (λ r. sized (get_or (q ∷ P) r empty)) (length P))

module _ (P : Program) (within : WithinLimits P) where
  ok : WellFormed P
  ok = well_formed P within

  pub length_canonical : length (canonical P) ≡ length (order P)
  unfolding canonical
  length_canonical = length-map (order P) (λ r. rewritten (place P) (get_or P r empty))

  -- a reached routine is kept, with as many parameters
  pub keeps : (r : ℕ) → Reached P r → Keeps P (canonical P) (place P) r
  keeps r w = (
    rw length_canonical (position_below (order P) r (reached_order P ok r w)),
    ap (λ (q : Routine). q.count) (kept_routine P ok r w),
  )

  -- each routine of the canonical program is a reached one at its new number
  pub original : (r : ℕ) → r < length (canonical P) → (x : ℕ) × Reached P x × (place P x ≡ r)
  original r l = go (get_elem? (order P) r) refl
    where
      go : (o : Option ℕ) → get_elem? (order P) r ≡ o → (x : ℕ) × Reached P x × (place P x ≡ r)
      go none e = absurd
          (let h = past_entry (order P) r e in
          let g : length (canonical P) ≡ length (order P) = length_canonical in
          omega arith)
      go (some x) e =
          (x, order_reached P x (entry_in (order P) r x e).0, position_once (order P) r x (order_once P) e)

  fits_one : (x : ℕ) → Reached P x → Fits (canonical P) (rewritten (place P) (get_or P x empty))
  fits_one x w =
      let f = within.fits x (reached_within P ok x w) in
      let k = params P x in
      record {
        few_params = f.few_params;
        scoped = scoped_plain P (canonical P) (place P) k (names k) (names k) (λ z. z) (k + 1) (body P x) (omega arith)
            f.scoped (λ z i. i) (λ r h. keeps r (then w h));
        numbered = numbered_plain (place P) k 0 0 0 (λ z. z) (k + 1) (body P x) (omega arith) f.numbered;
        few_open = rw (
          depth_recalled (place P) (resolved (get_or P x empty)),
          depth_plain (λ z. z) (k + 1) (body P x),
        )
            f.few_open;
        few_locals = rw (locals_both (place P) (λ z. z) (k + 1) (body P x))
            (let a = f.few_locals in let b = news_locals (body P x) in omega arith);
        few_forks = rw (forks_both (place P) (λ z. z) (k + 1) (body P x)) f.few_forks;
      }

  no_more_bytes : length (encode_bodies (canonical P)) ≤ length (encode_bodies P)
  unfolding canonical
  no_more_bytes =
      let a = bodies_map (λ r. rewritten (place P) (get_or P r empty)) (order P) in
      let b = sum_le (λ r. sized (rewritten (place P) (get_or P r empty))) (λ r. sized (get_or P r empty))
      (λ r. shorter (place P) END (λ z. z) (params P r + 1) (body P r)) (order P) in
      let c = sum_within (λ r. sized (get_or P r empty)) (order P) (up_to (length P)) (order_once P)
      (λ q i. in_up_to q (length P) (reached_within P ok q (order_reached P q i))) in
      let d = bodies_sum P in
      omega arith

  -- the canonical program is within the limits
  pub canonical_within : WithinLimits (canonical P)
  canonical_within = record {
    some_routine = rw length_canonical (entry_in (order P) 0 0 (order_first P)).1;
    few_routines =
        let a = order_few P ok in
        let b = within.few_routines in
        let c : length (canonical P) ≡ length (order P) = length_canonical in
        omega arith;
    main = rw (place_main P) at (keeps 0 first).1 ∙ within.main;
    fits = λ r l. let o = original r l in rw (sym o.2, kept_routine P ok o.0 o.1) (fits_one o.0 o.1);
    few_bytes = let a = no_more_bytes in let b = within.few_bytes in omega arith;
  }

  -- its table is no longer than the program's
  pub canonical_short : length (canonical_table P) ≤ length (encode_table P)
  canonical_short =
      let e : length (counts (canonical P)) ≤ length (counts P) =
      rw (counts_length (canonical P), counts_length P, length_canonical) (order_few P ok) in
      let n = length (encode_bodies (canonical P)) in
      let m = length (encode_bodies P) in
      suc-le-suc (append_le (counts (canonical P)) (two_bytes n ++ encode_bodies (canonical P)) (counts P)
      (two_bytes m ++ encode_bodies P) e (suc-le-suc (suc-le-suc no_more_bytes)))

-- programs within the limits that differ only in how they are written have one canonical table
pub alike_tables :
    (P Q : Program) → WithinLimits P → WithinLimits Q → Alike P Q → canonical_table P ≡ canonical_table Q
alike_tables P Q p q alike = ap encode_table (alike_canonical P Q alike (well_formed P p) (well_formed Q q))

-- a second writing changes nothing
pub canonical_twice : (P : Program) → WithinLimits P → canonical (canonical P) ≡ canonical P
canonical_twice P p =
    let ok = well_formed P p in
    sym (alike_canonical P (canonical P) (canonical_alike P ok) ok
    (well_formed (canonical P) (canonical_within P p)))
