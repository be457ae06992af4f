-- The new names of a routine's locals: each NEW with its old and its new name, both growing in written order.
use Rattle.std.specs.Prelude.{◌≡◌, refl, ◌⊎◌, cond, List, [], ◌∷◌, ◌++◌, ℕ, ◌+◌, ◌≤◌, ◌<◌, eqb}
use Rattle.std.proofs.Common.{sym, ap, ◌∙◌, inl, inr, ⊎_elim, arith, eq-eqb, ne_eqb}
use Rattle.table.specs.Program.{Code, end, new, lock, fork, choice, call, mirror, locals, forks}
use Rattle.table.specs.WellFormed.{In}
use Rattle.table.specs.Encoding.{Numbered}
use Rattle.table.proofs.Laws.Lists.{In-split}
use Rattle.canon.specs.Canonical.{news}
use Rattle.canon.proofs.Laws.Lists.{Apart}

-- an old name and its new one
pub record Change : Type 0 where
  pub old : ℕ
  pub fresh : ℕ

-- each NEW of the code, where n is the next new name
abbrev pub changes : ℕ → Code → List Change
changes n end = []
changes n (new x c) = record { old = x; fresh = n } ∷ changes (n + 1) c
changes n (lock x c d) = changes n c ++ changes (n + news c) d
changes n (fork i c d) = changes n c ++ changes (n + news c) d
changes n (choice a b c) = changes n a ++ (changes (n + news a) b ++ changes (n + news a + news b) c)
changes n (call r xs c) = changes n c
changes n (mirror x y c) = changes n c

-- both names of p are below those of q
abbrev Below : Change → Change → Type 0
Below p q = (p.old < q.old) × (p.fresh < q.fresh)

-- both names grow along the list
abbrev Growing : List Change → Type 0
Growing [] = Unit {0}
Growing (p ∷ ps) = ((q : Change) → In q ps → Below p q) × Growing ps

growing_append : (a b : List Change) → Growing a → Growing b
    → ((p q : Change) → In p a → In q b → Below p q) → Growing (a ++ b)
growing_append [] b g h f = h
growing_append (p ∷ a) b g h f = (
  (λ q i. elim (In-split q a b i) [ inl j ↦ g.0 q j | inr j ↦ f p q (inl refl) j ]),
  growing_append a b g.1 h (λ u v i j. f u v (inr i) j),
)

module _ (k : ℕ) where
  -- p is of a code before which m locals of the routine stand, and whose next new name is n
  abbrev Of : ℕ → ℕ → Code → Change → Type 0
  Of m n c p = (k + m < p.old) × (p.old ≤ k + (m + locals c)) × (n ≤ p.fresh) × (p.fresh < n + news c)

  changes_of : (m j n : ℕ) (c : Code) → Numbered k m j c → (p : Change) → In p (changes n c) → Of m n c p
  changes_of m j n end w p i = elim i [ ]
  changes_of m j n (new x c) w p (inl e) =
      let a : p.old ≡ x = ap (λ (q : Change). q.old) e in
      let b : p.fresh ≡ n = ap (λ (q : Change). q.fresh) e in
      let d : x ≡ k + m + 1 = w.0 in
      omega arith
  changes_of m j n (new x c) w p (inr i) = let h = changes_of (m + 1) j (n + 1) c w.1 p i in omega arith
  changes_of m j n (lock x c d) w p i = ⊎_elim
      (λ u. let h = changes_of m j n c w.0 p u in omega arith)
      (λ u. let h = changes_of (m + locals c) (j + forks c) (n + news c) d w.1 p u in omega arith)
      (In-split p (changes n c) (changes (n + news c) d) i)
  changes_of m j n (fork y c d) w p i = ⊎_elim
      (λ u. let h = changes_of m (j + 1) n c w.1 p u in omega arith)
      (λ u. let h = changes_of (m + locals c) (j + 1 + forks c) (n + news c) d w.2 p u in omega arith)
      (In-split p (changes n c) (changes (n + news c) d) i)
  changes_of m j n (choice a b c) w p i = ⊎_elim
      (λ u. let h = changes_of m j n a w.0 p u in omega arith)
      (⊎_elim
      (λ u. let h = changes_of (m + locals a) (j + forks a) (n + news a) b w.1 p u in omega arith)
      (λ u. let h = changes_of (m + locals a + locals b) (j + forks a + forks b) (n + news a + news b) c w.2 p u in
      omega arith))
      (⊎_elim (λ u. inl u) (λ u. inr (In-split p (changes (n + news a) b) (changes (n + news a + news b) c) u))
      (In-split p (changes n a) _ i))
  changes_of m j n (call r xs c) w p i = changes_of m j n c w p i
  changes_of m j n (mirror x y c) w p i = let h = changes_of (m + 1) j n c w.1 p i in omega arith

  -- of two codes, what stands later has greater names
  later_below : (m j n m' j' n' : ℕ) (c d : Code) → m + locals c ≤ m' → n + news c ≤ n' → Numbered k m j c
      → Numbered k m' j' d → (p q : Change) → In p (changes n c) → In q (changes n' d) → Below p q
  later_below m j n m' j' n' c d a b w v p q i i' =
      let g = changes_of m j n c w p i in let h = changes_of m' j' n' d v q i' in omega arith

  growing : (m j n : ℕ) (c : Code) → Numbered k m j c → Growing (changes n c)
  growing m j n end w = tt
  growing m j n (new x c) w = (
    (λ q i. let h = changes_of (m + 1) j (n + 1) c w.1 q i in let e : x ≡ k + m + 1 = w.0 in omega arith),
    growing (m + 1) j (n + 1) c w.1,
  )
  growing m j n (lock x c d) w = growing_append (changes n c) (changes (n + news c) d) (growing m j n c w.0)
      (growing (m + locals c) (j + forks c) (n + news c) d w.1)
      (later_below m j n (m + locals c) (j + forks c) (n + news c) c d (omega arith) (omega arith) w.0 w.1)
  growing m j n (fork y c d) w = growing_append (changes n c) (changes (n + news c) d) (growing m (j + 1) n c w.1)
      (growing (m + locals c) (j + 1 + forks c) (n + news c) d w.2)
      (later_below m (j + 1) n (m + locals c) (j + 1 + forks c) (n + news c) c d (omega arith) (omega arith) w.1
      w.2)
  growing m j n (choice a b c) w =
      let q = changes (n + news a) b in
      let r = changes (n + news a + news b) c in
      let ab = later_below m j n (m + locals a) (j + forks a) (n + news a) a b (omega arith) (omega arith) w.0 w.1
      in
      let ac = later_below m j n (m + locals a + locals b) (j + forks a + forks b) (n + news a + news b) a c
      (omega arith) (omega arith) w.0 w.2 in
      let bc = later_below (m + locals a) (j + forks a) (n + news a) (m + locals a + locals b) (j + forks a + forks b)
      (n + news a + news b) b c (omega arith) (omega arith) w.1 w.2 in
      growing_append (changes n a) (q ++ r) (growing m j n a w.0)
      (growing_append q r (growing (m + locals a) (j + forks a) (n + news a) b w.1)
      (growing (m + locals a + locals b) (j + forks a + forks b) (n + news a + news b) c w.2) bc)
      (λ u v i i'. ⊎_elim (ab u v i) (ac u v i) (In-split v q r i'))
  growing m j n (call r xs c) w = growing m j n c w
  growing m j n (mirror x y c) w = growing (m + 1) j n c w.1

-- the new name of x by the list: its own where the list has none for it
abbrev pub changed : List Change → ℕ → ℕ
changed [] x = x
changed (p ∷ ps) x = cond (eqb x p.old) p.fresh (changed ps x)

changed_in : (ps : List Change) (p : Change) → Growing ps → In p ps → changed ps p.old ≡ p.fresh
changed_in [] p g x'' = elim x'' [ ]
changed_in (q ∷ ps) p g (inl e) =
    let a : p.old ≡ q.old = ap (λ (v : Change). v.old) e in
    rw (eq-eqb p.old q.old a) (ap (λ (v : Change). v.fresh) (sym e))
changed_in (q ∷ ps) p g (inr i) =
    let l = g.0 p i in
    rw (ne_eqb p.old q.old (λ e. omega arith)) (changed_in ps p g.1 i)

changed_out : (ps : List Change) (x : ℕ) → ((p : Change) → In p ps → x < p.old) → changed ps x ≡ x
changed_out [] x h = refl
changed_out (q ∷ ps) x h =
    let l = h q (inl refl) in
    rw (ne_eqb x q.old (λ e. omega arith)) (changed_out ps x (λ p i. h p (inr i)))

growing_apart : (ps : List Change) (p q : Change) → Growing ps → In p ps → In q ps → p.fresh ≡ q.fresh
    → p.old ≡ q.old
growing_apart [] p q g x4 _ a = elim x4 [ ]
growing_apart (v ∷ ps) p q g (inl e) (inl f) a = ap (λ (u : Change). u.old) (e ∙ sym f)
growing_apart (v ∷ ps) p q g (inl e) (inr j) a =
    let l : v.fresh < q.fresh = (g.0 q j).1 in
    let b : p.fresh ≡ v.fresh = ap (λ (u : Change). u.fresh) e in
    absurd (omega arith)
growing_apart (v ∷ ps) p q g (inr i) (inl f) a =
    let l : v.fresh < p.fresh = (g.0 p i).1 in
    let b : q.fresh ≡ v.fresh = ap (λ (u : Change). u.fresh) f in
    absurd (omega arith)
growing_apart (v ∷ ps) p q g (inr i) (inr j) a = growing_apart ps p q g.1 i j a

-- name 0, the k parameters, and the names that NEW makes in the body
abbrev pub Root : ℕ → Code → ℕ → Type 0
Root k c x = (x ≤ k) ⊎ ((p : Change) × In p (changes (k + 1) c) × (x ≡ p.old))

-- the new name of each of them
abbrev pub renaming : ℕ → Code → ℕ → ℕ
renaming k c = changed (changes (k + 1) c)

module _ (k : ℕ) (c : Code) (w : Numbered k 0 0 c) where
  above : (p : Change) → In p (changes (k + 1) c) → (k < p.old) × (k < p.fresh)
  above p i = let h = changes_of k 0 0 (k + 1) c w p i in omega arith

  -- name 0 and the parameters keep their names
  pub renaming_param : (x : ℕ) → x ≤ k → renaming k c x ≡ x
  renaming_param x l = changed_out (changes (k + 1) c) x (λ p i. let h = above p i in omega arith)

  pub renaming_local : (p : Change) → In p (changes (k + 1) c) → renaming k c p.old ≡ p.fresh
  renaming_local p i = changed_in (changes (k + 1) c) p (growing k 0 0 (k + 1) c w) i

  -- no two names get one new name
  pub renaming_apart : Apart (Root k c) (renaming k c)
  renaming_apart x y (inl a) (inl b) e = sym (renaming_param x a) ∙ e ∙ renaming_param y b
  renaming_apart x y (inl a) (inr q) e =
      let f : renaming k c y ≡ q.0.fresh = ap (renaming k c) q.2 ∙ renaming_local q.0 q.1 in
      let g = renaming_param x a in
      let h = above q.0 q.1 in
      absurd (omega arith)
  renaming_apart x y (inr p) (inl b) e =
      let f : renaming k c x ≡ p.0.fresh = ap (renaming k c) p.2 ∙ renaming_local p.0 p.1 in
      let g = renaming_param y b in
      let h = above p.0 p.1 in
      absurd (omega arith)
  renaming_apart x y (inr p) (inr q) e =
      let f : renaming k c x ≡ p.0.fresh = ap (renaming k c) p.2 ∙ renaming_local p.0 p.1 in
      let g : renaming k c y ≡ q.0.fresh = ap (renaming k c) q.2 ∙ renaming_local q.0 q.1 in
      p.2 ∙ growing_apart (changes (k + 1) c) p.0 q.0 (growing k 0 0 (k + 1) c w) p.1 q.1 (sym f ∙ e ∙ g)
      ∙ sym q.2
