-- Lists: membership, lists without repetition, and a list less one entry; the routines that a program has.
use Rattle.std.specs.Prelude.{◌≡◌, ◌≢◌, ◌⊎◌, List, [], ◌∷◌, ◌++◌, map, length, get_or}
use Rattle.std.proofs.Math.Path.{refl, sym, ap}
use Rattle.std.proofs.Common.{◌∙◌, subst, arith}
use Rattle.std.proofs.Math.Logic.{inl, inr}
use Rattle.std.proofs.Math.Option.{some}
use Prim.Native.Nat.{ℕ, zero, suc, ◌≤◌, ◌<◌}
use Rattle.std.proofs.Math.Decide.{dec_lt}
use Rattle.std.proofs.Math.ListN.{get_elem?, get_or-eq_default}
use Rattle.table.specs.Program.{Code, end, Routine, Program, empty, body, names}
use Rattle.table.specs.WellFormed.{In, NoDup}

module _ {A : Type 0} where
  pub In-left : (x : A) (a b : List A) → In x a → In x (a ++ b)
  In-left x [] b x'' = elim x'' [ ]
  In-left x (y ∷ a) b (inl e) = inl e
  In-left x (y ∷ a) b (inr i) = inr (In-left x a b i)

  pub In-right : (x : A) (a b : List A) → In x b → In x (a ++ b)
  In-right x [] b i = i
  In-right x (y ∷ a) b i = inr (In-right x a b i)

  pub In-split : (x : A) (a b : List A) → In x (a ++ b) → In x a ⊎ In x b
  In-split x [] b i = inr i
  In-split x (y ∷ a) b (inl e) = inl (inl e)
  In-split x (y ∷ a) b (inr i) = elim (In-split x a b i) [ inl j ↦ inl (inr j) | inr j ↦ inr j ]

  -- with the part b left out of the middle
  pub In-skip : (x : A) (a b c : List A) → In x (a ++ c) → In x (a ++ (b ++ c))
  In-skip x [] b c i = In-right x b c i
  In-skip x (y ∷ a) b c (inl e) = inl e
  In-skip x (y ∷ a) b c (inr i) = inr (In-skip x a b c i)

  pub NoDup-right : (a b : List A) → NoDup (a ++ b) → NoDup b
  NoDup-right [] b d = d
  NoDup-right (y ∷ a) b d = NoDup-right a b d.1

  pub NoDup-skip : (a b c : List A) → NoDup (a ++ (b ++ c)) → NoDup (a ++ c)
  NoDup-skip [] b c d = NoDup-right b c d
  NoDup-skip (y ∷ a) b c d = (λ i. d.0 (In-skip y a b c i), NoDup-skip a b c d.1)

  pub NoDup-left : (a b : List A) → NoDup (a ++ b) → NoDup a
  NoDup-left [] b d = tt
  NoDup-left (y ∷ a) b d = (λ i. d.0 (In-left y a b i), NoDup-left a b d.1)

  pub NoDup-apart : (x : A) (a b : List A) → NoDup (a ++ b) → In x a → In x b → ⊥
  NoDup-apart x [] b d x4 j = elim x4 [ ]
  NoDup-apart x (y ∷ a) b d (inl e) j = d.0 (subst (λ (z : A). In z (a ++ b)) e (In-right x a b j))
  NoDup-apart x (y ∷ a) b d (inr i) j = NoDup-apart x a b d.1 i j

  pub NoDup-join : (a b : List A) → NoDup a → NoDup b → ((x : A) → In x a → In x b → ⊥) → NoDup (a ++ b)
  NoDup-join [] b p q f = q
  NoDup-join (y ∷ a) b p q f = (
    (λ i. elim (In-split y a b i) [ inl j ↦ p.0 j | inr j ↦ f y (inl refl) j ]),
    NoDup-join a b p.1 q (λ x i j. f x (inr i) j),
  )

  -- the list less the entry x
  pub out : (x : A) (xs : List A) → In x xs → List A
  out x [] x'' = elim x'' [ ]
  out x (y ∷ xs) (inl e) = xs
  out x (y ∷ xs) (inr i) = y ∷ out x xs i

  pub out_length : (x : A) (xs : List A) (i : In x xs) → length xs ≡ suc (length (out x xs i))
  unfolding out
  out_length x [] i = elim i [ ]
  out_length x (y ∷ xs) (inl e) = refl
  out_length x (y ∷ xs) (inr i) = ap suc (out_length x xs i)

  pub out_in : (x y : A) (xs : List A) (i : In x xs) → y ≢ x → In y xs → In y (out x xs i)
  unfolding out
  out_in x y [] i ne _ = elim i [ ]
  out_in x y (z ∷ xs) (inl e) ne (inl q) = absurd (ne (q ∙ sym e))
  out_in x y (z ∷ xs) (inl e) ne (inr j) = j
  out_in x y (z ∷ xs) (inr i) ne (inl q) = inl q
  out_in x y (z ∷ xs) (inr i) ne (inr j) = inr (out_in x y xs i ne j)

  -- entries that are all different and all in a second list are no more than it has
  pub NoDup-within : (xs ys : List A) → NoDup xs → ((x : A) → In x xs → In x ys) → length xs ≤ length ys
  NoDup-within [] ys d f = omega arith
  NoDup-within (x ∷ xs) ys d f =
      let i = f x (inl refl) in
      let rest = NoDup-within xs (out x ys i) d.1 (λ y j. out_in x y ys i (λ e. d.0 (rw e at j)) (f y (inr j))) in
      omega (arith, out_length x ys i)

module _ {A B : Type 0} (f : A → B) where
  pub In-map : (y : B) (a : List A) → In y (map f a) → (x : A) × In x a × (y ≡ f x)
  In-map y [] x' = elim x' [ ]
  In-map y (x ∷ a) (inl e) = (x, inl refl, e)
  In-map y (x ∷ a) (inr i) = let r = In-map y a i in (r.0, inr r.1, r.2)

  pub NoDup-map : ((x y : A) → f x ≡ f y → x ≡ y) → (a : List A) → NoDup a → NoDup (map f a)
  NoDup-map inj [] d = tt
  NoDup-map inj (x ∷ a) d =
      ((λ i. let r = In-map (f x) a i in d.0 (rw (inj x r.0 r.2) r.1)), NoDup-map inj a d.1)

-- a name from 1 to k is one more than a number below k
pub names_in : (k x : ℕ) → In x (names k) → (i : ℕ) × (x ≡ suc i) × (i < k)
names_in zero x x3 = elim x3 [ ]
names_in (suc k) x (inl p) = (k, p, omega arith)
names_in (suc k) x (inr j) = let r = names_in k x j in (r.0, r.1, (let lt : r.0 < k = r.2 in omega arith))

-- so it is at most k
pub names_low : (k x : ℕ) → In x (names k) → x ≤ k
names_low k x i =
    let r = names_in k x i in let e : x ≡ suc r.0 = r.1 in let l : r.0 < k = r.2 in omega arith

pub get_or_in :
    (xs : List ℕ) (i : ℕ) → i < length xs → In (get_or xs i 0) xs × (get_elem? xs i ≡ some (get_or xs i 0))
get_or_in [] i lt = absurd (omega arith)
get_or_in (x ∷ xs) zero lt = (inl refl, refl)
get_or_in (x ∷ xs) (suc i) lt = let r = get_or_in xs i (omega arith) in (inr r.0, r.1)

-- a routine of whose body something holds that does not hold of the empty one is one of the program
pub body_listed : (P : Program) (r : ℕ) (F : Code → Type 0) → ¬ F end → F (body P r) → r < length P
body_listed P r F n w = go (dec_lt r (length P))
  where
    go : Dec (r < length P) → r < length P
    go (yes l) = l
    go (no m) =
        absurd (n (subst (λ (q : Routine). F q.code) (get_or-eq_default P empty {n = r} (omega arith)) w))
