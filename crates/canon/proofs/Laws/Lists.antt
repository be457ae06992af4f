-- Lists of routines: what is met, the place of an entry, and sums over lists without repetition.
use Rattle.std.specs.Prelude.{◌≡◌, refl, ◌≢◌, ◌⊎◌, Bool, true, false, cond, List, [], ◌∷◌, ◌++◌, map, ℕ, zero, suc, ◌+◌, ◌≤◌}
use Rattle.std.specs.Prelude.{◌<◌, length, get_or}
use Rattle.std.proofs.Common.{sym, ap, ◌∙◌, inl, inr, arith, eq-eqb, ne_eqb}
use Rattle.std.proofs.lemmas.List.{map-append}
use Rattle.std.proofs.Math.Option
use Rattle.std.proofs.Math.Option.{none, some, none-ne-some, some-ne-none, some-injective}
use Rattle.std.proofs.Math.Decide.{ℕ_discrete}
use Rattle.std.proofs.Math.ListN.{get_elem?}
use Rattle.table.specs.WellFormed.{In, NoDup}
use Rattle.table.specs.Check.{in?}
use Rattle.table.proofs.Laws.Lists.{In-left, In-right, In-split, In-map, NoDup-join, NoDup-within}
use Rattle.rules.proofs.Laws.Tests.{Decides}
use Rattle.rules.proofs.Laws.Lists.{up_to, in_up_to, up_to_long}
use Rattle.rules.proofs.Laws.Nest.{is_in}
use Rattle.canon.specs.Canonical.{met, all_met, position}

-- the two cases of a routine that is met: it is of the list, or it is put at its end
pub by_met :
    (Q : List ℕ → Type 0) (s : List ℕ) (r : ℕ) → (In r s → Q s) → (¬ In r s → Q (s ++ (r ∷ []))) → Q (met s r)
by_met Q s r old new = go (in? r s) (is_in r s)
  where
    go : (b : Bool) → Decides b (In r s) → Q (cond b s (s ++ (r ∷ [])))
    go true d = old (d.fact tt)
    go false d = new (λ i. d.test i)

-- a routine that is not of the list is put at its end
pub met_last : (s : List ℕ) (r : ℕ) → ¬ In r s → met s r ≡ s ++ (r ∷ [])
met_last s r n = by_met (λ t. t ≡ s ++ (r ∷ [])) s r (λ j. absurd (n j)) (λ m. refl)

-- what is listed stays, the routine is listed, nothing else is, and none twice
pub met_old : (s : List ℕ) (r x : ℕ) → In x s → In x (met s r)
met_old s r x i = by_met (In x) s r (λ j. i) (λ n. In-left x s (r ∷ []) i)

pub met_new : (s : List ℕ) (r : ℕ) → In r (met s r)
met_new s r = by_met (In r) s r (λ j. j) (λ n. In-right r s (r ∷ []) (inl refl))

pub met_only : (s : List ℕ) (r x : ℕ) → In x (met s r) → In x s ⊎ (x ≡ r)
met_only s r x = by_met (λ t. In x t → In x s ⊎ (x ≡ r)) s r (λ j i. inl i)
    (λ n i. elim (In-split x s (r ∷ []) i) [ inl j ↦ inl j | inr j ↦ elim j [ inl e ↦ inr e | inr z ↦ absurd z ] ])

pub met_once : (s : List ℕ) (r : ℕ) → NoDup s → NoDup (met s r)
met_once s r d = by_met NoDup s r (λ j. d) (λ n. NoDup-join s (r ∷ []) d ((λ z. z), tt) (λ x i j. n (same x i j)))
  where
    same : (x : ℕ) → In x s → In x (r ∷ []) → In r s
    same x i (inl e) = rw e at i
    same x i (inr z) = absurd z

-- an entry at a place is one of the list, and its place is below the length
pub entry_in : (s : List ℕ) (i x : ℕ) → get_elem? s i ≡ some x → In x s × (i < length s)
entry_in [] i x e = absurd (none-ne-some x e)
entry_in (y ∷ s) zero x e = (inl (sym (some-injective y x e)), omega arith)
entry_in (y ∷ s) (suc i) x e = let r = entry_in s i x e in (inr r.0, (let l = r.1 in omega arith))

-- a place from the length on has no entry, and a place that has none is one
pub entry_past : (s : List ℕ) (i : ℕ) → length s ≤ i → get_elem? s i ≡ none
entry_past [] i l = refl
entry_past (y ∷ s) zero l = absurd (omega arith)
entry_past (y ∷ s) (suc i) l = entry_past s i (omega arith)

pub past_entry : (s : List ℕ) (i : ℕ) → get_elem? s i ≡ none → length s ≤ i
past_entry [] i e = omega arith
past_entry (y ∷ s) zero e = absurd (some-ne-none y e)
past_entry (y ∷ s) (suc i) e = let h = past_entry s i e in omega arith

-- an entry keeps its place where the list goes on
pub entry_left : (s t : List ℕ) (i x : ℕ) → get_elem? s i ≡ some x → get_elem? (s ++ t) i ≡ some x
entry_left [] t i x e = absurd (none-ne-some x e)
entry_left (y ∷ s) t zero x e = e
entry_left (y ∷ s) t (suc i) x e = entry_left s t i x e

-- the entry at a place, once f is applied to each entry
pub entry_map : {A B : Type 0} (f : A → B) (s : List A) (i : ℕ) → get_elem? (map f s) i ≡ Option.map f (get_elem? s i)
entry_map f [] i = refl
entry_map f (y ∷ s) zero = refl
entry_map f (y ∷ s) (suc i) = entry_map f s i

-- the entry at a place is what get_or gives there
pub get_or_entry : {A : Type 0} (s : List A) (i : ℕ) (x d : A) → get_elem? s i ≡ some x → get_or s i d ≡ x
get_or_entry [] i x d e = absurd (none-ne-some x e)
get_or_entry (y ∷ s) zero x d e = some-injective y x e
get_or_entry (y ∷ s) (suc i) x d e = get_or_entry s i x d e

-- routines met one after the other: what is listed stays, and stays at its place; each of them is listed, nothing else
-- is, and none twice
all_old : (rs s : List ℕ) (x : ℕ) → In x s → In x (all_met s rs)
all_old [] s x i = i
all_old (r ∷ rs) s x i = all_old rs (met s r) x (met_old s r x i)

pub all_new : (rs s : List ℕ) (x : ℕ) → In x rs → In x (all_met s rs)
all_new [] s x x3 = elim x3 [ ]
all_new (r ∷ rs) s x (inl e) = all_old rs (met s r) x (rw e (met_new s r))
all_new (r ∷ rs) s x (inr i) = all_new rs (met s r) x i

pub all_only : (rs s : List ℕ) (x : ℕ) → In x (all_met s rs) → In x s ⊎ In x rs
all_only [] s x i = inl i
all_only (r ∷ rs) s x i = go (all_only rs (met s r) x i)
  where
    go : In x (met s r) ⊎ In x rs → In x s ⊎ In x (r ∷ rs)
    go (inl j) = elim (met_only s r x j) [ inl k ↦ inl k | inr e ↦ inr (inl e) ]
    go (inr j) = inr (inr j)

pub all_once : (rs s : List ℕ) → NoDup s → NoDup (all_met s rs)
all_once [] s d = d
all_once (r ∷ rs) s d = all_once rs (met s r) (met_once s r d)

pub all_entry : (rs s : List ℕ) (i x : ℕ) → get_elem? s i ≡ some x → get_elem? (all_met s rs) i ≡ some x
all_entry [] s i x e = e
all_entry (r ∷ rs) s i x e =
    all_entry rs (met s r) i x
    (by_met (λ t. get_elem? t i ≡ some x) s r (λ j. e) (λ n. entry_left s (r ∷ []) i x e))

-- an entry stands at its place
pub position_entry : (s : List ℕ) (r : ℕ) → In r s → get_elem? s (position s r) ≡ some r
position_entry [] r i = elim i [ ]
position_entry (x ∷ s) r i = go (ℕ_discrete r x) (position_entry s r) i
  where
    go : Dec (r ≡ x) → (In r s → get_elem? s (position s r) ≡ some r) → In r (x ∷ s)
        → get_elem? (x ∷ s) (position (x ∷ s) r) ≡ some r
    go (yes e) ih j = rw (eq-eqb r x e) (ap some (sym e))
    go (no n) ih (inl e) = absurd (n e)
    go (no n) ih (inr j) = rw (ne_eqb r x n) (ih j)

-- its place is below the length
pub position_below : (s : List ℕ) (r : ℕ) → In r s → position s r < length s
position_below s r i = (entry_in s (position s r) r (position_entry s r i)).1

-- two entries at one place are equal
pub position_apart : (s : List ℕ) (r q : ℕ) → In r s → In q s → position s r ≡ position s q → r ≡ q
position_apart s r q i j e =
    some-injective r q
    (sym (position_entry s r i) ∙ ap (get_elem? s) e ∙ position_entry s q j)

-- in a list without repetition an entry has no other place
pub position_once : (s : List ℕ) (i r : ℕ) → NoDup s → get_elem? s i ≡ some r → position s r ≡ i
position_once [] i r d e = absurd (none-ne-some r e)
position_once (x ∷ s) zero r d e = rw (eq-eqb r x (sym (some-injective x r e))) refl
position_once (x ∷ s) (suc i) r d e =
    rw (ne_eqb r x (λ f. d.0 (rw f at (entry_in s i r e).0))) (ap suc (position_once s i r d.1 e))

pub map_in : (f : ℕ → ℕ) (s : List ℕ) (r : ℕ) → In r s → In (f r) (map f s)
map_in f [] r x' = elim x' [ ]
map_in f (x ∷ s) r (inl e) = inl (ap f e)
map_in f (x ∷ s) r (inr i) = inr (map_in f s r i)

-- a function that keeps the numbers D apart
abbrev pub Apart : (ℕ → Type 0) → (ℕ → ℕ) → Type 0
Apart D f = (r q : ℕ) → D r → D q → f r ≡ f q → r ≡ q

module _ (D : ℕ → Type 0) (f : ℕ → ℕ) (apart : Apart D f) where
  -- it keeps what is of a list and what is not
  pub in_back : (s : List ℕ) (r : ℕ) → ((x : ℕ) → In x s → D x) → D r → In (f r) (map f s) → In r s
  in_back s r all d i =
      let w = In-map f (f r) s i in rw (apart r w.0 d (all w.0 w.1) w.2) w.1

  pub in?_map : (s : List ℕ) (r : ℕ) → ((x : ℕ) → In x s → D x) → D r → in? (f r) (map f s) ≡ in? r s
  in?_map s r all d = go (in? (f r) (map f s)) (in? r s) (is_in (f r) (map f s)) (is_in r s)
    where
      go : (a b : Bool) → Decides a (In (f r) (map f s)) → Decides b (In r s) → a ≡ b
      go true true p q = refl
      go true false p q = absurd (q.test (in_back s r all d (p.fact tt)))
      go false true p q = absurd (p.test (map_in f s r (q.fact tt)))
      go false false p q = refl

  met_map : (s : List ℕ) (r : ℕ) → ((x : ℕ) → In x s → D x) → D r → met (map f s) (f r) ≡ map f (met s r)
  met_map s r all d = rw (in?_map s r all d) (go (in? r s))
    where
      go : (b : Bool) → cond b (map f s) (map f s ++ (f r ∷ [])) ≡ map f (cond b s (s ++ (r ∷ [])))
      go true = refl
      go false = sym (map-append f s (r ∷ []))

  pub all_map :
      (rs s : List ℕ) → ((x : ℕ) → In x s → D x) → ((x : ℕ) → In x rs → D x)
      → all_met (map f s) (map f rs) ≡ map f (all_met s rs)
  all_map [] s all more = refl
  all_map (r ∷ rs) s all more =
      ap (λ (t : List ℕ). all_met t (map f rs)) (met_map s r all (more r (inl refl)))
      ∙ (all_map rs (met s r) (λ x i. elim (met_only s r x i) [ inl j ↦ all x j | inr e ↦ rw e (more r (inl refl)) ])
      (λ x i. more x (inr i)))

  pub position_map :
      (s : List ℕ) (r : ℕ) → ((x : ℕ) → In x s → D x) → D r → position (map f s) (f r) ≡ position s r
  position_map [] r all d = refl
  position_map (x ∷ s) r all d = go (ℕ_discrete r x) (position_map s r (λ y j. all y (inr j)) d)
    where
      go : Dec (r ≡ x) → position (map f s) (f r) ≡ position s r
          → position (map f (x ∷ s)) (f r) ≡ position (x ∷ s) r
      go (yes e) ih = rw (eq-eqb r x e, eq-eqb (f r) (f x) (ap f e)) refl
      go (no n) ih = rw (ne_eqb r x n, ne_eqb (f r) (f x) (λ e. n (apart r x d (all x (inl refl)) e))) (ap suc ih)

-- the sum of w over the list
abbrev pub sum : (ℕ → ℕ) → List ℕ → ℕ
sum w [] = 0
sum w (x ∷ s) = w x + sum w s

-- a list less its entry x: the sum is less by that of x, and every other entry is left
sum_less : (w : ℕ → ℕ) (x : ℕ) (s : List ℕ) → In x s
    → (t : List ℕ) × (sum w s ≡ w x + sum w t) × ((y : ℕ) → y ≢ x → In y s → In y t)
sum_less w x [] x'' = elim x'' [ ]
sum_less w x (z ∷ s) (inl e) = (s, rw e refl, λ y ne i. elim i [ inl q ↦ absurd (ne (q ∙ sym e)) | inr j ↦ j ])
sum_less w x (z ∷ s) (inr i) =
    let r = sum_less w x s i in
    let e = r.1 in
    (z ∷ r.0, omega arith, λ y ne j. elim j [ inl q ↦ inl q | inr k ↦ inr (r.2 y ne k) ])

-- entries that are all different and all in a second list have no greater sum
pub sum_within :
    (w : ℕ → ℕ) (s t : List ℕ) → NoDup s → ((x : ℕ) → In x s → In x t) → sum w s ≤ sum w t
sum_within w [] t d all = omega arith
sum_within w (x ∷ s) t d all =
    let r = sum_less w x t (all x (inl refl)) in
    let e = r.1 in
    let h = sum_within w s r.0 d.1 (λ y i. r.2 y (λ q. d.0 (rw q at i)) (all y (inr i))) in
    omega arith

-- numbers below n that are all different are at most n
pub below_few : (n : ℕ) (s : List ℕ) → NoDup s → ((x : ℕ) → In x s → x < n) → length s ≤ n
below_few n s d all =
    let h = NoDup-within s (up_to n) d (λ x i. in_up_to x n (all x i)) in let e = up_to_long n in omega arith
