-- A program that a table can hold is well formed: each local, NEW and FORK of a body has a number of its own.
use Rattle.std.specs.Prelude.{◌≡◌, ◌⊎◌, List, ◌∷◌, ◌++◌, ℕ, ◌+◌, ◌≤◌, ◌<◌}
use Rattle.std.proofs.Common.{sym, subst, inl, inr, arith}
use Rattle.table.specs.Program.{Code, end, new, lock, fork, choice, call, mirror, Program}
use Rattle.table.specs.Program.{params, body, names, locals, forks}
use Rattle.table.specs.WellFormed.{In, NoDup, Fresh, Once, makes, starts, onces, WellFormed}
use Rattle.table.specs.Encoding.{Numbered, WithinLimits}
use Rattle.table.proofs.Laws.Lists.{In-split, NoDup-join, names_low}

-- a local above a and up to b, or a fork above p and up to q
abbrev Between : ℕ → ℕ → ℕ → ℕ → Once → Type 0
Between a b p q (makes x) = (a < x) × (x ≤ b)
Between a b p q (starts i) = (p < i) × (i ≤ q)

wider : (a b p q a' b' p' q' : ℕ) (o : Once) → a' ≤ a → b ≤ b' → p' ≤ p → q ≤ q' → Between a b p q o
    → Between a' b' p' q' o
wider a b p q a' b' p' q' (makes x) l₁ l₂ l₃ l₄ h = omega arith
wider a b p q a' b' p' q' (starts i) l₁ l₂ l₃ l₄ h = omega arith

apart : (a b p q a' b' p' q' : ℕ) (o : Once) → b ≤ a' → q ≤ p' → Between a b p q o → Between a' b' p' q' o → ⊥
apart a b p q a' b' p' q' (makes x) l₁ l₂ h h' = omega arith
apart a b p q a' b' p' q' (starts i) l₁ l₂ h h' = omega arith

-- what stands in the code has the numbers from m and j on
abbrev From : ℕ → ℕ → ℕ → Code → Once → Type 0
From k m j c o = Between (k + m) (k + (m + locals c)) j (j + forks c) o

either : {A B C : Type 0} → A ⊎ B → (A → C) → (B → C) → C
either (inl a) f g = f a
either (inr b) f g = g b

within : (k m j : ℕ) (c : Code) → Numbered k m j c → (o : Once) → In o (onces c) → From k m j c o
within k m j end n o i = absurd i
within k m j (new x c) n o (inl e) = subst (λ (v : Once). From k m j (new x c) v) (sym e)
    (let h : x ≡ k + m + 1 = n.0 in omega arith)
within k m j (new x c) n o (inr i) = wider _ _ _ _ _ _ _ _ o (omega arith) (omega arith) (omega arith) (omega arith)
    (within k (m + 1) j c n.1 o i)
within k m j (lock x b c) n o i = either (In-split o (onces b) (onces c) i)
    (λ h. wider _ _ _ _ _ _ _ _ o (omega arith) (omega arith) (omega arith) (omega arith) (within k m j b n.0 o h))
    (λ h. wider _ _ _ _ _ _ _ _ o (omega arith) (omega arith) (omega arith) (omega arith) (within k (m + locals b)
    (j + forks b) c n.1 o h))
within k m j (fork y b c) n o (inl e) = subst (λ (v : Once). From k m j (fork y b c) v) (sym e)
    (let h : y ≡ j + 1 = n.0 in omega arith)
within k m j (fork y b c) n o (inr i) = either (In-split o (onces b) (onces c) i)
    (λ h. wider _ _ _ _ _ _ _ _ o (omega arith) (omega arith) (omega arith) (omega arith) (within k m (j + 1) b
    n.1 o h))
    (λ h. wider _ _ _ _ _ _ _ _ o (omega arith) (omega arith) (omega arith) (omega arith) (within k (m + locals b)
    (j + 1 + forks b) c n.2 o h))
within k m j (choice a b c) n o i = either (In-split o (onces a) (onces b ++ onces c) i)
    (λ h. wider _ _ _ _ _ _ _ _ o (omega arith) (omega arith) (omega arith) (omega arith) (within k m j a n.0 o h))
    (λ h. either (In-split o (onces b) (onces c) h)
    (λ g. wider _ _ _ _ _ _ _ _ o (omega arith) (omega arith) (omega arith) (omega arith) (within k (m + locals a)
    (j + forks a) b n.1 o g))
    (λ g. wider _ _ _ _ _ _ _ _ o (omega arith) (omega arith) (omega arith) (omega arith)
    (within k (m + locals a + locals b) (j + forks a + forks b) c n.2 o g)))
within k m j (call r xs c) n o i = within k m j c n o i
within k m j (mirror x y c) n o i = wider _ _ _ _ _ _ _ _ o (omega arith) (omega arith) (omega arith) (omega arith)
    (within k (m + 1) j c n.1 o i)

-- two codes, one after the other, share no number
separate : (k m j m' j' : ℕ) (b c : Code) → m + locals b ≤ m' → j + forks b ≤ j' → Numbered k m j b
    → Numbered k m' j' c → (o : Once) → In o (onces b) → In o (onces c) → ⊥
separate k m j m' j' b c l₁ l₂ n n' o i i' = apart _ _ _ _ _ _ _ _ o (omega arith) l₂ (within k m j b n o i)
    (within k m' j' c n' o i')

once_each : (k m j : ℕ) (c : Code) → Numbered k m j c → NoDup (onces c)
once_each k m j end n = tt
once_each k m j (new x c) n = (
  (λ i. let h : k + (m + 1) < x = (within k (m + 1) j c n.1 (makes x) i).0 in
      let e : x ≡ k + m + 1 = n.0 in omega arith),
  once_each k (m + 1) j c n.1,
)
once_each k m j (lock x b c) n = NoDup-join (onces b) (onces c) (once_each k m j b n.0) (once_each k (m + locals b)
    (j + forks b) c n.1)
    (separate k m j (m + locals b) (j + forks b) b c (omega arith) (omega arith) n.0 n.1)
once_each k m j (fork y b c) n = (
  (λ i. either (In-split (starts y) (onces b) (onces c) i)
      (λ h. let l : j + 1 < y = (within k m (j + 1) b n.1 (starts y) h).0 in let e : y ≡ j + 1 = n.0 in
      omega arith)
      (λ h. let l : j + 1 + forks b < y = (within k (m + locals b) (j + 1 + forks b) c n.2 (starts y) h).0 in
      let e : y ≡ j + 1 = n.0 in omega arith)),
  NoDup-join (onces b) (onces c) (once_each k m (j + 1) b n.1) (once_each k (m + locals b) (j + 1 + forks b) c
      n.2)
      (separate k m (j + 1) (m + locals b) (j + 1 + forks b) b c (omega arith) (omega arith) n.1 n.2),
)
once_each k m j (choice a b c) n = NoDup-join (onces a) (onces b ++ onces c) (once_each k m j a n.0)
    (NoDup-join (onces b) (onces c) (once_each k (m + locals a) (j + forks a) b n.1)
    (once_each k (m + locals a + locals b) (j + forks a + forks b) c n.2)
    (separate k (m + locals a) (j + forks a) (m + locals a + locals b) (j + forks a + forks b) b c (omega arith)
    (omega arith) n.1 n.2))
    (λ o i i'. either (In-split o (onces b) (onces c) i')
    (separate k m j (m + locals a) (j + forks a) a b (omega arith) (omega arith) n.0 n.1 o i)
    (separate k m j (m + locals a + locals b) (j + forks a + forks b) a c (omega arith) (omega arith) n.0 n.2 o
    i))
once_each k m j (call r xs c) n = once_each k m j c n
once_each k m j (mirror x y c) n = once_each k (m + 1) j c n.1

-- each name of the scope is a parameter or one of the first m locals
abbrev Before : ℕ → ℕ → List ℕ → Type 0
Before k m s = (x : ℕ) → In x s → x ≤ k + m

later : (k m n : ℕ) (s : List ℕ) → Before k m s → m ≤ n → Before k n s
later k m n s h le x i = let l : x ≤ k + m = h x i in omega arith

one_more : (k m x : ℕ) (s : List ℕ) → x ≡ k + m + 1 → Before k m s → Before k (m + 1) (x ∷ s)
one_more k m x s e h y (inl p) = omega arith
one_more k m x s e h y (inr i) = let l : y ≤ k + m = h y i in omega arith

not_yet : (k m x : ℕ) (s : List ℕ) → x ≡ k + m + 1 → Before k m s → ¬ In x s
not_yet k m x s e h i = let l : x ≤ k + m = h x i in omega arith

fresh_each : (k m j : ℕ) (s : List ℕ) (c : Code) → Before k m s → Numbered k m j c → Fresh s c
fresh_each k m j s end h n = tt
fresh_each k m j s (new x c) h n =
    (not_yet k m x s n.0 h, fresh_each k (m + 1) j (x ∷ s) c (one_more k m x s n.0 h) n.1)
fresh_each k m j s (lock x b c) h n = (
  fresh_each k m j s b h n.0,
  fresh_each k (m + locals b) (j + forks b) s c (later k m _ s h (omega arith)) n.1,
)
fresh_each k m j s (fork i b c) h n = (
  fresh_each k m (j + 1) s b h n.1,
  fresh_each k (m + locals b) (j + 1 + forks b) s c (later k m _ s h (omega arith)) n.2,
)
fresh_each k m j s (choice a b c) h n = (
  fresh_each k m j s a h n.0,
  fresh_each k (m + locals a) (j + forks a) s b (later k m _ s h (omega arith)) n.1,
  fresh_each k (m + locals a + locals b) (j + forks a + forks b) s c (later k m _ s h (omega arith)) n.2,
)
fresh_each k m j s (call r xs c) h n = fresh_each k m j s c h n
fresh_each k m j s (mirror x y c) h n =
    (not_yet k m x s n.0 h, fresh_each k (m + 1) j (x ∷ s) c (one_more k m x s n.0 h) n.1)

pub well_formed : (P : Program) → WithinLimits P → WellFormed P
well_formed P h = record {
  main = h.main;
  scoped = λ r lt. (h.fits r lt).scoped;
  fresh = λ r lt. fresh_each (params P r) 0 0 (names (params P r)) (body P r)
      (λ x i. let l = names_low (params P r) x i in omega arith)
      (h.fits r lt).numbered;
  once = λ r lt. once_each (params P r) 0 0 (body P r) (h.fits r lt).numbered;
  some_routine = h.some_routine;
}
