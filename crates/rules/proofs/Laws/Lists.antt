-- Lists that are computed, with the fact that an entry of each stands for, and the closing of a list under a step.
use Rattle.std.specs.Prelude.{◌≡◌, refl, ◌⊎◌, Bool, true, false, not, cond, ◌&&◌, ◌||◌, List, [], ◌∷◌, ◌++◌, ℕ, zero, suc}
use Rattle.std.specs.Prelude.{◌<◌, T, length}
use Rattle.std.proofs.Common.{ap, inl, inr, le_of_suc-le-suc, not-suc-le-zero, eq-or-lt_of_le}
use Rattle.table.specs.WellFormed.{In}
use Rattle.rules.proofs.Laws.Tests.{Decides, either, negated, halves}

-- x is an entry of the list where the fact holds, and nowhere else
pub record Found {A : Type 0} (x : A) (xs : List A) (Q : Type 0) : Type 0 where
  pub fact : In x xs → Q
  pub entry : Q → In x xs

pub changed : {A : Type 0} {x : A} {xs : List A} {Q R : Type 0} → (Q → R) → (R → Q) → Found x xs Q → Found x xs R
changed f g p = record { fact = λ i. f (p.fact i); entry = λ r. p.entry (g r) }

pub nowhere : {A : Type 0} (x : A) → Found x [] ⊥
nowhere x = record { fact = λ i. i; entry = λ i. i }

pub alone : {A : Type 0} (x y : A) → Found x (y ∷ []) (x ≡ y)
alone x y = record { fact = λ i. elim i [ inl e ↦ e | inr z ↦ absurd z ]; entry = inl }

pub appended :
    {A : Type 0} {x : A} {xs ys : List A} {Q R : Type 0}
    → Found x xs Q → Found x ys R → Found x (xs ++ ys) (Q ⊎ R)
appended {A} {x} {xs} {ys} {Q} {R} p q = record { fact = to xs p.fact; entry = from xs p.entry }
  where
    to : (zs : List A) → (In x zs → Q) → In x (zs ++ ys) → Q ⊎ R
    to [] f i = inr (q.fact i)
    to (z ∷ zs) f (inl e) = inl (f (inl e))
    to (z ∷ zs) f (inr i) = to zs (λ j. f (inr j)) i

    left : (zs : List A) → In x zs → In x (zs ++ ys)
    left [] x'' = elim x'' [ ]
    left (z ∷ zs) (inl e) = inl e
    left (z ∷ zs) (inr i) = inr (left zs i)

    right : (zs : List A) → In x ys → In x (zs ++ ys)
    right [] i = i
    right (z ∷ zs) i = inr (right zs i)

    from : (zs : List A) → (Q → In x zs) → Q ⊎ R → In x (zs ++ ys)
    from zs f (inl w) = left zs (f w)
    from zs f (inr w) = right zs (q.entry w)

-- the list where the test passes, and nothing where it fails
abbrev pub only : {A : Type 0} → Bool → List A → List A
only b xs = cond b xs []

pub guarded :
    {A : Type 0} {x : A} {xs : List A} {b : Bool} {Q R : Type 0}
    → Decides b Q → Found x xs R → Found x (only b xs) (Q × R)
guarded {A} {x} {xs} {b} {Q} {R} d p = record { fact = to b d.fact; entry = from b d.test }
  where
    to : (c : Bool) → (T c → Q) → In x (only c xs) → Q × R
    to true f i = (f tt, p.fact i)
    to false f i = absurd i

    from : (c : Bool) → (Q → T c) → Q × R → In x (only c xs)
    from true f w = p.entry w.1
    from false f w = absurd (f w.0)

-- the lists that f gives for the entries, one after the other
abbrev pub gather : {A B : Type 0} → (A → List B) → List A → List B
gather f [] = []
gather f (x ∷ xs) = f x ++ gather f xs

pub gathered :
    {A B : Type 0} {y : B} {f : A → List B} {R : A → Type 0} (xs : List A)
    → ((x : A) → Found y (f x) (R x)) → Found y (gather f xs) ((x : A) × In x xs × R x)
gathered {y = y} [] p = changed (λ z. absurd z) (λ w. w.1) (nowhere y)
gathered {A} {R = R} (z ∷ zs) p = changed to from (appended (p z) (gathered zs p))
  where
    to : R z ⊎ ((x : A) × In x zs × R x) → (x : A) × In x (z ∷ zs) × R x
    to (inl w) = (z, inl refl, w)
    to (inr w) = (w.0, inr w.1, w.2)

    from : ((x : A) × In x (z ∷ zs) × R x) → R z ⊎ ((x : A) × In x zs × R x)
    from w = go w.1
      where
        go : (w.0 ≡ z) ⊎ In w.0 zs → R z ⊎ ((x : A) × In x zs × R x)
        go (inl e) = inl (rw e at w.2)
        go (inr i) = inr (w.0, i, w.2)

-- the numbers below n
abbrev pub up_to : ℕ → List ℕ
up_to zero = []
up_to (suc n) = n ∷ up_to n

pub in_up_to : (k n : ℕ) → k < n → In k (up_to n)
in_up_to k zero h = absurd (not-suc-le-zero h)
in_up_to k (suc n) h = go (eq-or-lt_of_le (le_of_suc-le-suc h)) (in_up_to k n)
  where
    go : (k ≡ n) ⊎ (k < n) → (k < n → In k (up_to n)) → (k ≡ n) ⊎ In k (up_to n)
    go (inl e) rest = inl e
    go (inr lt) rest = inr (rest lt)

pub up_to_long : (n : ℕ) → length (up_to n) ≡ n
up_to_long zero = refl
up_to_long (suc n) = ap suc (up_to_long n)

-- the test passes at each entry
abbrev pub every? : {A : Type 0} → (A → Bool) → List A → Bool
every? f [] = true
every? f (x ∷ xs) = let rest = every? f xs in f x && rest

pub every_at : {A : Type 0} (f : A → Bool) (xs : List A) (x : A) → T (every? f xs) → In x xs → T (f x)
every_at {A = A} f [] x t x4 = elim x4 [ ]
every_at f (z ∷ zs) x t (inl e) = rw e (halves (f z) (every? f zs) t).0
every_at f (z ∷ zs) x t (inr i) = every_at f zs x (halves (f z) (every? f zs) t).1 i

module _ {A : Type 0} (same? : A → A → Bool) where
  abbrev pub member? : A → List A → Bool
  member? x [] = false
  member? x (y ∷ ys) = let rest = member? x ys in same? x y || rest

  -- the entries of the first list that the second one lacks
  abbrev pub missing : List A → List A → List A
  missing cs xs = gather (λ c. only (not (member? c xs)) (c ∷ [])) cs

  -- the second list with the entries of the first that it lacks, each put in once
  abbrev pub added : List A → List A → List A
  added [] xs = xs
  added (c ∷ cs) xs = added cs (cond (member? c xs) xs (c ∷ xs))

  -- the list closed under the step f, as far as n rounds take it
  abbrev pub saturate : (List A → List A) → ℕ → List A → List A
  saturate f zero xs = xs
  saturate f (suc n) xs = elim (missing (f xs) xs) [ [] ↦ xs | c ∷ cs ↦ saturate f n (added (c ∷ cs) xs) ]

  -- the list is closed under the step
  abbrev pub closed? : (List A → List A) → List A → Bool
  closed? f xs = every? (λ c. member? c xs) (f xs)

module _ {A : Type 0} (same? : A → A → Bool) (same : (x y : A) → Decides (same? x y) (x ≡ y)) where
  pub member : (x : A) (xs : List A) → Decides (member? same? x xs) (In x xs)
  member x [] = record { fact = λ t. t; test = λ i. i }
  member x (y ∷ ys) = either (same x y) (member x ys)

  missing_in : (cs xs : List A) (x : A) → In x (missing same? cs xs) → In x cs
  missing_in cs xs x i =
      let w = (gathered cs (λ c. guarded (negated (member c xs)) (alone x c))).fact i in
      rw w.2.1 w.1

  added_in : (cs xs : List A) (x : A) → In x (added same? cs xs) → In x cs ⊎ In x xs
  added_in [] xs x i = inr i
  added_in (c ∷ cs) xs x i = go (member? same? c xs) (added_in cs (cond (member? same? c xs) xs (c ∷ xs)) x i)
    where
      go : (b : Bool) → In x cs ⊎ In x (cond b xs (c ∷ xs)) → ((x ≡ c) ⊎ In x cs) ⊎ In x xs
      go b (inl j) = inl (inr j)
      go true (inr j) = inr j
      go false (inr (inl e)) = inl (inl e)
      go false (inr (inr j)) = inr j

  -- what holds of the entries at the start, and of what the step makes from entries that it holds of, holds at the end
  pub saturate_holds :
      (Q : A → Type 0) (f : List A → List A)
      → ((xs : List A) → ((x : A) → In x xs → Q x) → (x : A) → In x (f xs) → Q x)
      → (n : ℕ) (xs : List A) → ((x : A) → In x xs → Q x) → (x : A) → In x (saturate same? f n xs) → Q x
  saturate_holds Q f s zero xs h x i = h x i
  saturate_holds Q f s (suc n) xs h x i =
      go (missing same? (f xs) xs) (missing_in (f xs) xs) (saturate_holds Q f s n) i
    where
      go :
          (ms : List A) → ((y : A) → In y ms → In y (f xs))
          → ((ys : List A) → ((y : A) → In y ys → Q y) → (y : A) → In y (saturate same? f n ys) → Q y)
          → In x (elim ms [ [] ↦ xs | c ∷ cs ↦ saturate same? f n (added same? (c ∷ cs) xs) ]) → Q x
      go [] k rest i = h x i
      go (c ∷ cs) k rest i = rest (added same? (c ∷ cs) xs) new x i
        where
          new : (y : A) → In y (added same? (c ∷ cs) xs) → Q y
          new y j = elim (added_in (c ∷ cs) xs y j) [ inl u ↦ s xs h y (k y u) | inr u ↦ h y u ]

  pub closed_in : (f : List A → List A) (xs : List A) (x : A) → T (closed? same? f xs) → In x (f xs) → In x xs
  closed_in f xs x t i = (member x xs).fact (every_at (λ c. member? same? c xs) (f xs) x t i)
