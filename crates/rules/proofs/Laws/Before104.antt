-- Request 104 (mirrors) against the rules without it, which are kept here for these laws alone: those with the nest of
-- request 101, where each name in scope is a lock of its own and a place has no roots. A mirror is resolved before
-- anything else is asked (request 105): the model of a program is the one that those rules give the program with each
-- name's root in its place (`in-resolved`, `of-resolved`), and it is clear exactly where that one is (`clear-there`,
-- `clear-back`). So a program without MIRROR has the model that it had (`in-before`, `same-before`), and is clear as it
-- was (`clear-before`, `clear_stays`).
use Rattle.std.specs.Prelude.{◌≡◌, refl, ◌⊎◌, Bool, true, false, cond, List, [], ◌∷◌, map, ℕ, suc}
use Rattle.std.proofs.Common.{sym, ap, subst, inl, inr}
use Rattle.std.proofs.Math.Option.{Option, none, some}
use Rattle.std.proofs.Math.ListN.{get_or-map}
use Rattle.table.specs.Program.{Code, end, new, lock, fork, choice, call, mirror, Routine, Program, empty}
use Rattle.table.specs.Program.{params, body}
use Rattle.table.specs.WellFormed.{In}
use Rattle.table.specs.Check.{in?}
use Rattle.rules.specs.Label.{Label, own, forked, placed}
use Rattle.rules.specs.Model.{renamed, Place, at_head, bind, naming, nested, under_lock, under_fork, Model}
use Rattle.rules.specs.Verdict.{Calls, Reached, first as reached-first, then, Clear}
use Rattle.rules.proofs.Laws.Nest.{by_bind}
use Rattle.rules.specs.Derived.{Pairs, RecordedFrom, RowOf}
use Rattle.rules.proofs.Laws.Satisfies.{Recording, ModelOf, ClearOf}
use Rattle.rules.proofs.Laws.Least.{recorded_mono, model_satisfies, model_least}

-- a place by the rules without request 104
pub record PlaceBefore : Type 0 where
  pub thread : Label
  pub holder : Option ℕ
  pub nest : List ℕ

-- the head of a body
abbrev pub at_head_before : PlaceBefore
at_head_before = record { thread = own; holder = some 0; nest = [] }

-- the place with x as its holder, and put into its nest
abbrev pub nested_before : ℕ → PlaceBefore → PlaceBefore
nested_before x v = record { thread = v.thread; holder = some x; nest = x ∷ v.nest }

-- the head of the block of LOCK x
abbrev pub under_lock_before : ℕ → PlaceBefore → PlaceBefore
under_lock_before x v = cond (in? x v.nest) v (nested_before x v)

-- the head of the block of FORK i
abbrev pub under_fork_before : ℕ → PlaceBefore
under_fork_before i = record { thread = forked i; holder = none; nest = [] }

-- the code, at the place v, records the pair (a, b) labelled l, where R has the rows of the routines called
abbrev pub RecordedBefore : Pairs → Code → PlaceBefore → ℕ → ℕ → Label → Type 0
RecordedBefore R end v a b l = ⊥
RecordedBefore R (new x c) v a b l = RecordedBefore R c v a b l
RecordedBefore R (lock x c d) v a b l =
    ((¬ In x v.nest) × (v.holder ≡ some a) × (b ≡ x) × (l ≡ v.thread))
    ⊎ (RecordedBefore R c (under_lock_before x v) a b l ⊎ RecordedBefore R d v a b l)
RecordedBefore R (fork i c d) v a b l = RecordedBefore R c (under_fork_before i) a b l ⊎ RecordedBefore R d v a b l
RecordedBefore R (choice s t c) v a b l =
    RecordedBefore R s v a b l ⊎ (RecordedBefore R t v a b l ⊎ RecordedBefore R c v a b l)
RecordedBefore R (call r xs c) v a b l =
    ((a₀ : ℕ) × (b₀ : ℕ) × (m : Label) × R r a₀ b₀ m
    × (renamed v.holder xs a₀ ≡ some a) × (renamed v.holder xs b₀ ≡ some b) × (l ≡ placed v.thread m))
    ⊎ RecordedBefore R c v a b l
RecordedBefore R (mirror x y c) v a b l = ⊥

-- the same of the body of each routine
abbrev pub bodies_before : Program → Recording
bodies_before P R r a b l = RecordedBefore R (body P r) at_head_before a b l

-- the pair is in the least model by those rules, and the verdict is clear by them
abbrev pub ModelBefore : Program → ℕ → ℕ → ℕ → Label → Type 1
ModelBefore P = ModelOf (bodies_before P) P

abbrev pub ClearBefore : Program → Type 1
ClearBefore P = ClearOf (bodies_before P) P

-- the code with the root of each name in its place, and without MIRROR, where ρ gives the roots
abbrev pub resolved : (ℕ → ℕ) → Code → Code
resolved ρ end = end
resolved ρ (new x c) = new x (resolved (bind x x ρ) c)
resolved ρ (lock x c d) = lock (ρ x) (resolved ρ c) (resolved ρ d)
resolved ρ (fork i c d) = fork i (resolved ρ c) (resolved ρ d)
resolved ρ (choice u v c) = choice (resolved ρ u) (resolved ρ v) (resolved ρ c)
resolved ρ (call r xs c) = call r (map ρ xs) (resolved ρ c)
resolved ρ (mirror x y c) = resolved (bind x (ρ y) ρ) c

-- the same of a routine, where each parameter is its own root, and of a program
abbrev pub resolved_routine : Routine → Routine
resolved_routine q = record { count = q.count; code = resolved (λ x. x) q.code }

abbrev pub resolved_program : Program → Program
resolved_program P = map resolved_routine P

-- the place w without its roots
abbrev without : Place → PlaceBefore
without w = record { thread = w.thread; holder = w.holder; nest = w.nest }

-- each gives the other
abbrev Same : Type 0 → Type 0 → Type 0
Same A B = (A → B) × (B → A)

-- the same of two alternatives, one by one
either : {A B C D : Type 0} → Same A B → Same C D → Same (A ⊎ C) (B ⊎ D)
either p q = (
  (λ s. elim s [ inl i ↦ inl (p.0 i) | inr j ↦ inr (q.0 j) ]),
  (λ s. elim s [ inl i ↦ inl (p.1 i) | inr j ↦ inr (q.1 j) ]),
)

module _ (R : Pairs) (a b : ℕ) (l : Label) where
  -- the code records the pair by today's rules where, resolved, it does without request 104
  abbrev Alike : Code → Place → Type 0
  Alike c w = Same (RecordedFrom R c w a b l) (RecordedBefore R (resolved w.roots c) (without w) a b l)

  -- inside a LOCK on a name with the root z, taken again or for the first time
  in_block :
      (c : Code) (z : ℕ) (w : Place) → Alike c w → Alike c (nested z w)
      → Same (RecordedFrom R c (under_lock z w) a b l)
      (RecordedBefore R (resolved w.roots c) (under_lock_before z (without w)) a b l)
  in_block c z w again first = go (in? z w.nest)
    where
      go : (t : Bool)
          → Same (RecordedFrom R c (cond t w (nested z w)) a b l)
          (RecordedBefore R (resolved w.roots c) (cond t (without w) (nested_before z (without w))) a b l)
      go true = again
      go false = first

  -- so it is with each code
  alike : (c : Code) (w : Place) → Alike c w
  alike end w = ((λ q. q), (λ q. q))
  alike (new x c) w = alike c (naming x x w)
  alike (lock x c d) w =
      let z = w.roots x in
      either ((λ q. q), (λ q. q)) (either (in_block c z w (alike c w) (alike c (nested z w))) (alike d w))
  alike (fork i c d) w = either (alike c (under_fork i w)) (alike d w)
  alike (choice u v c) w = either (alike u w) (either (alike v w) (alike c w))
  alike (call r xs c) w = either ((λ q. q), (λ q. q)) (alike c w)
  alike (mirror x y c) w = alike c (naming x (w.roots y) w)

-- a code calls what it calls when it is resolved
same_calls : (ρ : ℕ → ℕ) (c : Code) (q : ℕ) → Same (Calls c q) (Calls (resolved ρ c) q)
same_calls ρ end q = ((λ i. i), (λ i. i))
same_calls ρ (new x c) q = same_calls (bind x x ρ) c q
same_calls ρ (lock x c d) q = either (same_calls ρ c q) (same_calls ρ d q)
same_calls ρ (fork i c d) q = either (same_calls ρ c q) (same_calls ρ d q)
same_calls ρ (choice u v c) q = either (same_calls ρ u q) (either (same_calls ρ v q) (same_calls ρ c q))
same_calls ρ (call r xs c) q = either ((λ i. i), (λ i. i)) (same_calls ρ c q)
same_calls ρ (mirror x y c) q = same_calls (bind x (ρ y) ρ) c q

module _ (P : Program) where
  -- routine r of the resolved program: its parameters and its body
  params_resolved : (r : ℕ) → params (resolved_program P) r ≡ params P r
  params_resolved r = ap (λ (q : Routine). q.count) (get_or-map resolved_routine P r empty)

  code_resolved : (r : ℕ) → body (resolved_program P) r ≡ resolved (λ x. x) (body P r)
  code_resolved r = ap (λ (q : Routine). q.code) (get_or-map resolved_routine P r empty)

  -- so its rows are cut from the same pairs
  same_rows : (M : Pairs) (r a b : ℕ) (l : Label) → Same (RowOf P M r a b l) (RowOf (resolved_program P) M r a b l)
  same_rows M r a b l = rw (params_resolved r) ((λ q. q), (λ q. q))

  -- its body records the same
  same_body : (M : Pairs) (r a b : ℕ) (l : Label)
      → Same (RecordedFrom (RowOf P M) (body P r) at_head a b l)
      (RecordedBefore (RowOf (resolved_program P) M) (body (resolved_program P) r) at_head_before a b l)
  same_body M r a b l =
      let R = RowOf P M in
      let S = RowOf (resolved_program P) M in
      let same = alike S a b l (body P r) at_head in
      let there = recorded_mono R S (λ r a b l. (same_rows M r a b l).0) (body P r) at_head a b l in
      let back = recorded_mono S R (λ r a b l. (same_rows M r a b l).1) (body P r) at_head a b l in
      rw (code_resolved r) ((λ q. same.0 (there q)), (λ q. back (same.1 q)))

  -- and the same routines are reached
  reached_there : {r : ℕ} → Reached P r → Reached (resolved_program P) r
  reached_there reached-first = reached-first
  reached_there (then {r = r} {q = q} i c) =
      then {q = q} (reached_there i) (rw (code_resolved r) ((same_calls (λ x. x) (body P r) q).0 c))

  reached_back : {r : ℕ} → Reached (resolved_program P) r → Reached P r
  reached_back reached-first = reached-first
  reached_back (then {r = r} {q = q} i c) =
      then (reached_back i) ((same_calls (λ x. x) (body P r) q).1 (rw (code_resolved r) at c))

  -- the model is that of the resolved program by the rules without request 104
  pub in_resolved : {r a b : ℕ} {l : Label} → Model P r a b l → ModelBefore (resolved_program P) r a b l
  in_resolved m = λ M ok. model_least P M (record {
    records = λ r a b l q. ok.records r a b l ((same_body M r a b l).0 q);
    follows = ok.follows;
  }) m

  pub of_resolved : {r a b : ℕ} {l : Label} → ModelBefore (resolved_program P) r a b l → Model P r a b l
  of_resolved m = m (Model P) (record {
    records = λ r a b l q. (model_satisfies P).records r a b l ((same_body (Model P) r a b l).1 q);
    follows = (model_satisfies P).follows;
  })

  -- and it is clear exactly where that program is
  pub clear_there : Clear P → ClearBefore (resolved_program P)
  clear_there clear r x reached ring = clear r x (reached_back reached) (of_resolved ring)

  pub clear_back : ClearBefore (resolved_program P) → Clear P
  clear_back clear r x reached ring = clear r x (reached_there reached) (in_resolved ring)

-- the code has no MIRROR
abbrev pub Unmirrored : Code → Type 0
Unmirrored end = Unit {0}
Unmirrored (new x c) = Unmirrored c
Unmirrored (lock x c d) = Unmirrored c × Unmirrored d
Unmirrored (fork i c d) = Unmirrored c × Unmirrored d
Unmirrored (choice u v c) = Unmirrored u × Unmirrored v × Unmirrored c
Unmirrored (call r xs c) = Unmirrored c
Unmirrored (mirror x y c) = ⊥

-- each name is its own root
abbrev pub Plain : (ℕ → ℕ) → Type 0
Plain ρ = (y : ℕ) → ρ y ≡ y

-- so it is after a NEW
pub plain_new : (x : ℕ) (ρ : ℕ → ℕ) → Plain ρ → Plain (bind x x ρ)
plain_new x ρ p y = by_bind (λ z t. z ≡ y) x x x ρ ρ y (λ e. sym e) (λ ne. p y)

-- a list of names is the list of their roots
plain_names : (ρ : ℕ → ℕ) → Plain ρ → (xs : List ℕ) → map ρ xs ≡ xs
plain_names ρ p [] = refl
plain_names ρ p (x ∷ xs) = rw (p x, plain_names ρ p xs) refl

-- and a code without MIRROR is resolved as it is
plain_code : (ρ : ℕ → ℕ) → Plain ρ → (c : Code) → Unmirrored c → resolved ρ c ≡ c
plain_code ρ p (mirror _ _ _) u = elim u [ ]
plain_code ρ p end u = refl
plain_code ρ p (new x c) u = ap (new x) (plain_code (bind x x ρ) (plain_new x ρ p) c u)
plain_code ρ p (lock x c d) u = rw (p x, plain_code ρ p c u.0, plain_code ρ p d u.1) refl
plain_code ρ p (fork i c d) u = rw (plain_code ρ p c u.0, plain_code ρ p d u.1) refl
plain_code ρ p (choice s t c) u =
    rw (plain_code ρ p s u.0, plain_code ρ p t u.1, plain_code ρ p c u.2) refl
plain_code ρ p (call r xs c) u = rw (plain_names ρ p xs, plain_code ρ p c u) refl

plain_program : (P : Program) → ((r : ℕ) → Unmirrored (body P r)) → resolved_program P ≡ P
plain_program [] u = refl
plain_program (q ∷ P) u =
    rw (plain_code (λ x. x) (λ y. refl) q.code (u 0), plain_program P (λ r. u (suc r))) refl

module _ (P : Program) (u : (r : ℕ) → Unmirrored (body P r)) where
  -- the model of a program without MIRROR is what it was
  pub in_before : {r a b : ℕ} {l : Label} → Model P r a b l → ModelBefore P r a b l
  in_before {r} {a} {b} {l} m = subst (λ (Q : Program). ModelBefore Q r a b l) (plain_program P u) (in_resolved P m)

  pub same_before : {r a b : ℕ} {l : Label} → ModelBefore P r a b l → Model P r a b l
  same_before {r} {a} {b} {l} m =
      of_resolved P (subst (λ (Q : Program). ModelBefore Q r a b l) (sym (plain_program P u)) m)

  -- it is clear exactly where it was
  pub clear_before : Clear P → ClearBefore P
  clear_before clear = subst ClearBefore (plain_program P u) (clear_there P clear)

  pub clear_stays : ClearBefore P → Clear P
  clear_stays clear = clear_back P (subst ClearBefore (sym (plain_program P u)) clear)
