-- Older rules, kept for the laws of requests 101 and 105 alone. The nest has the names as they are written, and a test
-- says where a LOCK is passed over: it records no pair there, and the place inside is the one outside. By `in-older`
-- each pair of the model is one by such rules, if they pass over no LOCK but on a name of that nest. The idea: where a
-- LOCK on a name with the root z is passed over today and was not, those rules have (h, z) and (z, y) for (h, y).
use Rattle.std.specs.Prelude.{◌≡◌, refl, ◌⊎◌, Bool, true, false, not, cond, List, [], ◌∷◌, map, ℕ, zero, suc, ◌<◌, T, length}
use Rattle.std.proofs.Common.{sym, ap, ◌∙◌, subst, inl, inr, arith}
use Rattle.std.proofs.Math.Option.{Option, none, some, none-ne-some}
use Rattle.std.proofs.Math.Decide.{ℕ_discrete, dec_lt}
use Rattle.std.proofs.Math.ListN.{get_elem?}
use Rattle.table.specs.Program.{Code, end, new, lock, fork, choice, call, mirror, Program}
use Rattle.table.specs.Program.{params, body, names}
use Rattle.table.specs.WellFormed.{In, Scoped, Fresh, WellFormed}
use Rattle.table.proofs.Laws.Lists.{names_in, In-map, body_listed}
use Rattle.rules.specs.Label.{Label, own, forked, unknown, several, combine, cut, placed}
use Rattle.rules.specs.Model.{Kept, renamed, Place, at_head, naming, nested, under_lock, under_fork, Model}
use Rattle.rules.specs.Verdict.{Clear}
use Rattle.rules.proofs.Laws.Combine.{with_several, same_fork}
use Rattle.rules.proofs.Laws.Nest.{by_nest, by_bind}
use Rattle.rules.specs.Derived.{Pairs, RecordedFrom, RowOf}
use Rattle.rules.proofs.Laws.Satisfies.{Recording, SatisfiesOf, Satisfies}
use Rattle.rules.proofs.Laws.Satisfies.{ModelOf, ClearOf}
use Rattle.rules.proofs.Laws.Least.{model_least}

-- by which test a LOCK on a name is passed over, where the nest has the names of the list, as they are written
abbrev pub Test : Type 0
Test = ℕ → List ℕ → Bool

-- the place with the root of x as its holder, and x, as it is written, put into its nest
abbrev pub nested_as : ℕ → Place → Place
nested_as x w = record { thread = w.thread; roots = w.roots; holder = some (w.roots x); nest = x ∷ w.nest }

-- the head of the block of LOCK x by such rules: the place outside where it is passed over
abbrev pub under_lock_by : Test → ℕ → Place → Place
under_lock_by κ x w = cond (κ x w.nest) w (nested_as x w)

-- the code, at the place w, records the pair (a, b) labelled l by such rules, where R has the rows called
abbrev pub RecordedBy : Test → Pairs → Code → Place → ℕ → ℕ → Label → Type 0
RecordedBy κ R end w a b l = ⊥
RecordedBy κ R (new x c) w a b l = RecordedBy κ R c (naming x x w) a b l
RecordedBy κ R (lock x c d) w a b l =
    (T (not (κ x w.nest)) × (w.holder ≡ some a) × (b ≡ w.roots x) × (l ≡ w.thread))
    ⊎ (RecordedBy κ R c (under_lock_by κ x w) a b l ⊎ RecordedBy κ R d w a b l)
RecordedBy κ R (fork i c d) w a b l = RecordedBy κ R c (under_fork i w) a b l ⊎ RecordedBy κ R d w a b l
RecordedBy κ R (choice u v c) w a b l =
    RecordedBy κ R u w a b l ⊎ (RecordedBy κ R v w a b l ⊎ RecordedBy κ R c w a b l)
RecordedBy κ R (call r xs c) w a b l =
    ((a₀ : ℕ) × (b₀ : ℕ) × (m : Label) × R r a₀ b₀ m
    × (renamed w.holder (map w.roots xs) a₀ ≡ some a) × (renamed w.holder (map w.roots xs) b₀ ≡ some b)
    × (l ≡ placed w.thread m))
    ⊎ RecordedBy κ R c w a b l
RecordedBy κ R (mirror x y c) w a b l = RecordedBy κ R c (naming x (w.roots y) w) a b l

-- the same of the body of each routine
abbrev pub bodies_by : Test → Program → Recording
bodies_by κ P R r a b l = RecordedBy κ R (body P r) at_head a b l

-- the pairs M satisfy those rules, the pair is in the least model by them, and the verdict is clear by them
abbrev pub SatisfiesBy : Test → Program → Pairs → Type 0
SatisfiesBy κ P M = SatisfiesOf (bodies_by κ P) P M

abbrev pub ModelBy : Test → Program → ℕ → ℕ → ℕ → Label → Type 1
ModelBy κ P = ModelOf (bodies_by κ P) P

abbrev pub ClearBy : Test → Program → Type 1
ClearBy κ P = ClearOf (bodies_by κ P) P

-- the test passes over no LOCK but on a name of the nest, as it is written
abbrev pub Careful : Test → Type 0
Careful κ = (x : ℕ) (n : List ℕ) → T (κ x n) → In x n

-- no name of the list has the root 0
abbrev NonZero : (ℕ → ℕ) → List ℕ → Type 0
NonZero ρ s = (x : ℕ) → In x s → 0 < ρ x

get_elem_in : (xs : List ℕ) (i : ℕ) {x : ℕ} → get_elem? xs i ≡ some x → In x xs
get_elem_in [] i {x} e = absurd (none-ne-some x e)
get_elem_in (y ∷ xs) zero e = inl (cc)
get_elem_in (y ∷ xs) (suc i) e = inr (get_elem_in xs i e)

-- nor does a name that is passed
passed_named :
    (ρ : ℕ → ℕ) (s xs : List ℕ) → NonZero ρ s → ((x : ℕ) → In x xs → In x s)
    → (i : ℕ) {a : ℕ} → get_elem? (map ρ xs) i ≡ some a → 0 < a
passed_named ρ s xs n f i e =
    let r = In-map ρ _ xs (get_elem_in (map ρ xs) i e) in rw r.2 (n r.0 (f r.0 r.1))

-- the label is own or several: the two that pairs from name 0 have
abbrev Running : Label → Type 0
Running l = (l ≡ own) ⊎ (l ≡ several)

running_combine : (l m : Label) → Running l → Running (combine l m)
running_combine own own r = inl refl
running_combine own (forked i) r = inr refl
running_combine own unknown r = inr refl
running_combine own several r = inr refl
running_combine several m r = inr refl
running_combine (forked i) m (inl e) = absurd (let z : ◌≡◌ {A = ℕ} 0 1 = cc in omega arith)
running_combine (forked i) m (inr e) = absurd (let z : ◌≡◌ {A = ℕ} 0 1 = cc in omega arith)
running_combine unknown m r = inr refl

-- in the caller such a label is the thread's own or several
running_placed : (θ m : Label) → Running m → (placed θ (cut m) ≡ θ) ⊎ (placed θ (cut m) ≡ several)
running_placed θ m (inl e) = inl (rw e)
running_placed θ m (inr e) = inr (rw e)

-- the place w by the older rules, which have the holder g and the nest n
abbrev pub older_place : Place → Option ℕ → List ℕ → Place
older_place w g n = record { thread = w.thread; roots = w.roots; holder = g; nest = n }

module _ (κ : Test) (careful : Careful κ) (P : Program) (M : Pairs) (ok : SatisfiesBy κ P M) where
  -- the pair is among M; no pair leads to name 0, and one from it is of the running thread or of several
  abbrev InOlder : Pairs
  InOlder r a b l = M r a b l × (0 < b) × (a ≡ 0 → Running l)

  -- h is the older holder g, or M has the pair of the two
  abbrev Leads : ℕ → Label → Option ℕ → Option ℕ → Type 0
  Leads r θ h g = (h ≡ g) ⊎ ((u v : ℕ) × (h ≡ some u) × (g ≡ some v) × M r u v θ)

  -- M has what the code records by the older rules
  abbrev HasOlder : ℕ → Place → Option ℕ → List ℕ → Code → Type 0
  HasOlder r w g n c =
      (a b : ℕ) (l : Label) → RecordedBy κ (RowOf P M) c (older_place w g n) a b l → Kept a b l → M r a b l

  -- the place w of routine r, with the code c and the names s in scope, where the older rules have the holder g and the
  -- nest n
  record At (r : ℕ) (w : Place) (g : Option ℕ) (n s : List ℕ) (c : Code) : Type 0 where
    k : ℕ
    scoped : Scoped P k s c
    fresh : Fresh s c
    names : NonZero w.roots s
    among : (x : ℕ) → In x n → In x s × In (w.roots x) w.nest
    same : combine w.thread w.thread ≡ w.thread
    running : w.holder ≡ some 0 → w.thread ≡ own
    some_holder : (z : ℕ) → In z w.nest → (u : ℕ) × (w.holder ≡ some u)
    leads : Leads r w.thread w.holder g
    inside : HasOlder r w g n c

  -- a part of the code, at the same place
  part :
      {r : ℕ} {w : Place} {g : Option ℕ} {n s : List ℕ} {c d : Code} (t : At r w g n s c)
      → Scoped P t.k s d → Fresh s d
      → ((a b : ℕ) (l : Label)
      → RecordedBy κ (RowOf P M) d (older_place w g n) a b l → RecordedBy κ (RowOf P M) c (older_place w g n) a b l)
      → At r w g n s d
  part t scoped fresh f = record {
    k = t.k;
    scoped = scoped;
    fresh = fresh;
    names = t.names;
    among = t.among;
    same = t.same;
    running = t.running;
    some_holder = t.some_holder;
    leads = t.leads;
    inside = λ a b l q. t.inside a b l (f a b l q);
  }

  -- what follows a NEW or MIRROR that gives the name x, with the root z
  named :
      {r : ℕ} {w : Place} {g : Option ℕ} {n s : List ℕ} {c d : Code} (t : At r w g n s c) (x z : ℕ)
      → Scoped P t.k (x ∷ s) d → ¬ In x s → Fresh (x ∷ s) d → 0 < z → HasOlder r (naming x z w) g n d
      → At r (naming x z w) g n (x ∷ s) d
  named {w = w} t x z scoped out fresh lt f = record {
    k = t.k;
    scoped = scoped;
    fresh = fresh;
    names = λ y j. by_bind (λ v u. 0 < v) x z z w.roots w.roots y (λ p. lt)
        (λ ne. elim j [ inl p ↦ absurd (ne p) | inr i ↦ t.names y i ]);
    among = λ y i. let q = t.among y i in (
      inr q.0,
      by_bind (λ v u. In v w.nest) x z z w.roots w.roots y (λ p. absurd (out (rw (← p) q.0))) (λ ne. q.1),
    );
    same = t.same;
    running = t.running;
    some_holder = t.some_holder;
    leads = t.leads;
    inside = f;
  }

  -- a pair from the older holder is a pair from h, where its label is the thread's or several
  onto :
      (r : ℕ) (θ : Label) (g : Option ℕ) (a y : ℕ) (l : Label) → combine θ θ ≡ θ → (l ≡ θ) ⊎ (l ≡ several)
      → Leads r θ (some a) g → ((v : ℕ) → g ≡ some v → Kept v y l → M r v y l) → Kept a y l → M r a y l
  onto r θ g a y l same w (inl e) f k = f a (sym e) k
  onto r θ g a y l same w (inr q) f k = step q.1 q.3 (subst (λ (u : ℕ). M r u q.1 θ) (cc q.2) q.4)
    where
      kept : combine θ l ≡ l
      kept = elim w [ inl e ↦ rw e same | inr e ↦ rw e (with_several θ) ]

      step : (v : ℕ) → g ≡ some v → M r a v θ → M r a y l
      step v gv m = elim (ℕ_discrete v y) [
        | yes p ↦ elim w [ inl e ↦ rw (e, ← p) m | inr e ↦ join (f v gv (inr e)) ]
        | no ne ↦ join (f v gv (inl ne))
      ]
        where
          join : M r v y l → M r a y l
          join n = rw kept at (ok.follows r a v y θ l m n (rw kept k))

  module _ (r : ℕ) (w : Place) (g : Option ℕ) (n s : List ℕ) where
    module _ {x : ℕ} {c d : Code} (t : At r w g n s (lock x c d)) where
      -- the root of its name
      abbrev z : ℕ
      z = w.roots x

      -- a LOCK that the older rules do not pass over, from the name a of the holder
      to_lock : κ x n ≡ false → (a : ℕ) → w.holder ≡ some a → Kept a z w.thread → M r a z w.thread
      to_lock e a h k =
          onto r w.thread g a z w.thread t.same (inl refl) (rw h at t.leads)
          (λ v q. t.inside v z w.thread (inl (rw e tt, q, refl, refl))) k

      -- they pass it over only where it is passed over today
      not_passed : ¬ In z w.nest → κ x n ≡ false
      not_passed out = go (κ x n) (λ v. (t.among x (careful x n v)).1)
        where
          go : (v : Bool) → (T v → In z w.nest) → v ≡ false
          go true f = absurd (out (f tt))
          go false f = refl

      -- inside it, where both pass it over
      both_pass : κ x n ≡ true → At r w g n s c
      both_pass e = part t t.scoped.1 t.fresh.0 (λ a b l q. inr (inl (rw e q)))

      -- inside it, where today's rules alone do
      today_passes : κ x n ≡ false → In z w.nest → At r w (some z) (x ∷ n) s c
      today_passes e i = record {
        k = t.k;
        scoped = t.scoped.1;
        fresh = t.fresh.0;
        names = t.names;
        among = λ y j. elim j [ inl p ↦ rw p (t.scoped.0, i) | inr q ↦ t.among y q ];
        same = t.same;
        running = t.running;
        some_holder = t.some_holder;
        leads = from (t.some_holder z i);
        inside = λ a b l q. t.inside a b l (inr (inl (rw e q)));
      }
        where
          from : (u : ℕ) × (w.holder ≡ some u) → Leads r w.thread w.holder (some z)
          from f = elim (ℕ_discrete f.0 z) [
            | yes p ↦ inl (f.1 ∙ ap some p)
            | no ne ↦ inr (f.0, z, f.1, refl, to_lock e f.0 f.1 (inl ne))
          ]

      -- inside it, where neither does
      neither_passes : κ x n ≡ false → At r (nested z w) (some z) (x ∷ n) s c
      neither_passes e = record {
        k = t.k;
        scoped = t.scoped.1;
        fresh = t.fresh.0;
        names = t.names;
        among = λ y j. elim j [
          | inl p ↦ rw p (t.scoped.0, inl refl)
          | inr q ↦ ((t.among y q).0, inr (t.among y q).1)
        ];
        same = t.same;
        running = λ q. let k : 0 < z = t.names x t.scoped.0 in let p : z ≡ 0 = cc in absurd (omega arith);
        some_holder = λ y j. (z, refl);
        leads = inl refl;
        inside = λ a b l q. t.inside a b l (inr (inl (rw e q)));
      }

      -- so there are three cases
      in_block :
          (Q : Place → Type 0) → (At r w g n s c → Q w) → (At r w (some z) (x ∷ n) s c → Q w)
          → (At r (nested z w) (some z) (x ∷ n) s c → Q (nested z w))
          → Q (under_lock z w)
      in_block Q both today neither =
          by_nest Q z w (again (κ x n) refl) (λ out. neither (neither_passes (not_passed out)))
        where
          again : (v : Bool) → κ x n ≡ v → In z w.nest → Q w
          again true e i = both (both_pass e)
          again false e i = today (today_passes e i)

    -- what a CALL takes
    at_call :
        {q : ℕ} {xs : List ℕ} {c : Code} → At r w g n s (call q xs c)
        → (a b : ℕ) (l : Label) (a₀ b₀ : ℕ) (m : Label) → RowOf P InOlder q a₀ b₀ m
        → renamed w.holder (map w.roots xs) a₀ ≡ some a → renamed w.holder (map w.roots xs) b₀ ≡ some b
        → l ≡ placed w.thread m → Kept a b l
        → InOlder r a b l
    at_call t a b l a₀ zero m row pa pb e k = absurd (let z : 0 < 0 = row.1.1 in omega arith)
    at_call {xs = xs} t a b l zero (suc j) m row pa pb e k = (
      onto r w.thread g a b l t.same label (rw pa at t.leads)
          (λ v q. t.inside v b l (inl (0, suc j, m, (row.0, row.1.0, row.2, row.3, row.4, row.5), q, pb, e))) k,
      passed_named w.roots s xs t.names t.scoped.2 j pb,
      (λ z. let o = t.running (pa ∙ ap some z) in elim label [ inl q ↦ inl (q ∙ o) | inr q ↦ inr q ]),
    )
      where
        label : (l ≡ w.thread) ⊎ (l ≡ several)
        label = elim (running_placed w.thread row.0 (row.1.2 refl)) [
          | inl q ↦ inl (e ∙ ap (placed w.thread) row.5 ∙ q)
          | inr q ↦ inr (e ∙ ap (placed w.thread) row.5 ∙ q)
        ]
    at_call {xs = xs} t a b l (suc i) (suc j) m row pa pb e k = (
      t.inside a b l (inl (suc i, suc j, m, (row.0, row.1.0, row.2, row.3, row.4, row.5), pa, pb, e)) k,
      passed_named w.roots s xs t.names t.scoped.2 j pb,
      (λ z. let n : 0 < a = passed_named w.roots s xs t.names t.scoped.2 i pa in absurd (omega arith)),
    )

  -- what a code records is found, with the pairs of its calls
  recorded :
      (c : Code) (r : ℕ) (w : Place) (g : Option ℕ) (n s : List ℕ) → At r w g n s c
      → (a b : ℕ) (l : Label) → RecordedFrom (RowOf P InOlder) c w a b l → Kept a b l → InOlder r a b l
  recorded end r w g n s t a b l q k = elim q [ ]
  recorded (new x c) r w g n s t a b l q k =
      recorded c r (naming x x w) g n (x ∷ s) (named t x x t.scoped.1 t.fresh.0 t.fresh.1
      (let lt : t.k < x = t.scoped.0 in let z : 0 < x = omega arith in z) t.inside) a b l q k
  recorded (mirror x y c) r w g n s t a b l q k =
      recorded c r (naming x (w.roots y) w) g n (x ∷ s) (named t x (w.roots y) t.scoped.2 t.fresh.0
      t.fresh.1 (t.names y t.scoped.1) t.inside) a b l q k
  recorded (lock x c d) r w g n s t a b l (inl q) k = (
    rw (q.2, q.3) (to_lock r w g n s t (not_passed r w g n s t q.0) a q.1 (rw (q.2, q.3) at k)),
    rw q.2 (t.names x t.scoped.0),
    (λ z. inl (q.3 ∙ t.running (q.1 ∙ ap some z))),
  )
  recorded (lock x c d) r w g n s t a b l (inr (inl q)) k =
      in_block r w g n s t (λ v. RecordedFrom (RowOf P InOlder) c v a b l → InOlder r a b l)
      (λ i p. recorded c r w g n s i a b l p k)
      (λ i p. recorded c r w (some (w.roots x)) (x ∷ n) s i a b l p k)
      (λ i p. recorded c r (nested (w.roots x) w) (some (w.roots x)) (x ∷ n) s i a b l p k) q
  recorded (lock x c d) r w g n s t a b l (inr (inr q)) k =
      recorded d r w g n s (part t t.scoped.2 t.fresh.1 (λ u v m i. inr (inr i))) a b l q k
  recorded (fork i c d) r w g n s t a b l (inl q) k = recorded c r (under_fork i w) none [] s (record {
    k = t.k;
    scoped = t.scoped.0;
    fresh = t.fresh.0;
    names = t.names;
    among = λ x j. absurd j;
    same = same_fork i;
    running = λ e. absurd (none-ne-some 0 e);
    some_holder = λ x j. absurd j;
    leads = inl refl;
    inside = λ u v m j. t.inside u v m (inl j);
  }) a b l q k
  recorded (fork i c d) r w g n s t a b l (inr q) k =
      recorded d r w g n s (part t t.scoped.1 t.fresh.1 (λ u v m i. inr i)) a b l q k
  recorded (choice x y c) r w g n s t a b l (inl q) k =
      recorded x r w g n s (part t t.scoped.0 t.fresh.0 (λ u v m i. inl i)) a b l q k
  recorded (choice x y c) r w g n s t a b l (inr (inl q)) k =
      recorded y r w g n s (part t t.scoped.1 t.fresh.1 (λ u v m i. inr (inl i))) a b l q k
  recorded (choice x y c) r w g n s t a b l (inr (inr q)) k =
      recorded c r w g n s (part t t.scoped.2 t.fresh.2 (λ u v m i. inr (inr i))) a b l q k
  recorded (call p xs c) r w g n s t a b l (inl q) k =
      at_call r w g n s t a b l q.0 q.1 q.2 q.3 q.4 q.5 q.6 k
  recorded (call p xs c) r w g n s t a b l (inr q) k =
      recorded c r w g n s (part t t.scoped.3 t.fresh (λ u v m i. inr i)) a b l q k

  found : WellFormed P → Satisfies P InOlder
  found wf = record {
    records = λ r a b l q k. elim (dec_lt r (length P)) [
      | yes lt ↦ recorded (body P r) r at_head (some 0) [] (names (params P r)) (record {
        k = params P r;
        scoped = wf.scoped r lt;
        fresh = wf.fresh r lt;
        names = λ x i. let w = names_in (params P r) x i in rw w.1 (omega arith);
        among = λ x i. absurd i;
        same = refl;
        running = λ e. refl;
        some_holder = λ x i. absurd i;
        leads = inl refl;
        inside = ok.records r;
      }) a b l q k
      | no ge ↦ absurd (let lt = body_listed P r (λ c. RecordedFrom (RowOf P InOlder) c at_head a b l) (λ z. z) q in
          omega arith)
    ];
    follows = λ r a b c l m p q k. (
      ok.follows r a b c l m p.0 q.0 k,
      q.1,
      (λ z. running_combine l m (p.2 z)),
    );
  }

module _ (κ : Test) (careful : Careful κ) (P : Program) (wf : WellFormed P) where
  -- each pair of the model is in the least model by the older rules
  pub in_older : {r a b : ℕ} {l : Label} → Model P r a b l → ModelBy κ P r a b l
  in_older m = λ M ok. (model_least P (InOlder κ careful P M ok) (found κ careful P M ok wf) m).0

  -- so nothing that was clear by them becomes a ring
  pub clear_older : ClearBy κ P → Clear P
  clear_older clear r x reached ring = clear r x reached (in_older ring)
