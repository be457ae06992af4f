-- A closed chain of dependencies, spread over the tree of activations, is all by one thread, or some activation has a
-- ring: links that meet in a lock made at the greatest depth compose there, what is left at that depth is lifted to the
-- callers, and so on up to the root.
use Rattle.std.specs.Prelude.{◌≡◌, refl, ◌⊎◌, ℕ, zero, suc, ◌+◌, ◌≤◌, ◌<◌}
use Rattle.std.proofs.Common.{sym, ap, subst, inl, inr, ⊎_elim, eq-or-lt_of_le, le_refl, le_of_eq, le_of_lt, arith}
use Rattle.std.proofs.Math.Decide.{ℕ_discrete}
use Rattle.rules.specs.Label.{Label, own, forked, unknown, several, combine, placed}
use Rattle.rules.specs.Model.{Kept}

-- what is known of activations (A), names (a b x y z), locks (u v) and threads (t s)
pub record Forest : Type 1 where
  pub Act : Type 0
  pub depth : Act → ℕ
  pub params : Act → ℕ
  pub parent : Act → Act
  pub site : Act → Label
  pub birth : ℕ → Act
  pub Stands : (A : Act) (x u : ℕ) → Type 0
  pub Pair : (A : Act) (x y : ℕ) → Label → Type 0
  pub By : Act → Label → ℕ → Type 0
  pub Owner : (u t : ℕ) → Type 0
  -- the depths fall towards the root
  pub above : {A : Act} → 1 ≤ depth A → depth (parent A) < depth A
  -- own and a fork's label mean one thread in an activation, and a lock has one owner
  pub own_one : {A : Act} {t s : ℕ} → By A own t → By A own s → t ≡ s
  pub forked_one : {A : Act} {i t s : ℕ} → By A (forked i) t → By A (forked i) s → t ≡ s
  pub owner_one : {u t s : ℕ} → Owner u t → Owner u s → t ≡ s
  -- the rules: pairs follow from pairs, and there is no ring
  pub trans : {A : Act} {x y z : ℕ} {l m : Label}
      → Pair A x y l → Pair A y z m → Kept x z (combine l m)
      → Pair A x z (combine l m)
  pub noring : {A : Act} {x : ℕ} → Pair A x x several → ⊥
  -- a name stands for a lock made in the activation, and is a local, or for one made above it, and is no local
  pub cases : {A : Act} {x u : ℕ}
      → Stands A x u → ((birth u ≡ A) × (params A < x)) ⊎ ((x ≤ params A) × (depth (birth u) < depth A))
  -- a lock made in the activation has one name there, and a name stands for one lock
  pub unique : {A : Act} {x y u : ℕ} → birth u ≡ A → Stands A x u → Stands A y u → x ≡ y
  pub same : {A : Act} {a b u v : ℕ} {l : Label} → Pair A a b l → Stands A b u → Stands A b v → u ≡ v
  -- labels and pairs in the caller
  pub by_up : {A : Act} {t : ℕ} {l : Label}
      → 1 ≤ depth A → By A l t → (l ≡ several) ⊎ By (parent A) (placed (site A) l) t
  pub lift : {A : Act} {a b u v : ℕ} {l : Label}
      → 1 ≤ depth A → Pair A a b l → a ≤ params A → b ≤ params A → (a ≡ b → ⊥) → Stands A a u → Stands A b v
      → (x y : ℕ) × Stands (parent A) x u × Stands (parent A) y v × (x ≡ y → u ≡ v)
      × (Kept x y (placed (site A) l) → Pair (parent A) x y (placed (site A) l))

-- a property of threads: most often, that all of some links are by the thread
abbrev Pred : Type 1
Pred = ℕ → Type 0

abbrev All : Pred
All t = Unit {0}

infixr 3 ◌&◌
abbrev ◌&◌ : Pred → Pred → Pred
P & Q = λ t. P t × Q t

abbrev Join : Pred → Pred → Pred → Type 0
Join P Q R = (t : ℕ) → P t → Q t → R t

module _ (F : Forest) where
  open F use {
    Act,
    depth,
    params,
    parent,
    site,
    birth,
    Stands,
    Pair,
    By,
    Owner,
    above,
    own_one,
    forked_one,
    owner_one,
    trans,
    noring,
    cases,
    unique,
    same,
    by_up,
    lift,
  }

  -- the label is several, or of one thread that has P
  abbrev One : Act → Label → Pred → Type 0
  One A l P = (l ≡ several) ⊎ ((t : ℕ) × P t × By A l t)

  -- a link from the lock u to the lock v in the activation A; P t: all that it stands for is by t
  pub record Link (A : Act) (u v : ℕ) (P : Pred) : Type 0 where
    pub a : ℕ
    pub b : ℕ
    pub l : Label
    pub pair : Pair A a b l
    pub start : Stands A a u
    pub end : Stands A b v
    pub kept : Kept a b l
    pub owned : (t : ℕ) → P t → Owner u t
    pub one : One A l P

  -- A link whose two names are equal, with a label of one thread, is dropped: it is a loop at the lock u by u's owner.
  -- What the dropped loops at u leave behind: nothing, or that all were by one thread, u's owner.
  abbrev Seed : ℕ → Pred → Type 0
  Seed u R = ((t : ℕ) → R t) ⊎ ((t : ℕ) × R t × Owner u t)

  seed_at : {u t : ℕ} {P : Pred} → Seed u P → Owner u t → P t
  seed_at {t} (inl f) o = f t
  seed_at {P} (inr s) o = subst P (owner_one s.2 o) s.1

  seed_some : {u : ℕ} {P : Pred} → Seed u P → (t : ℕ) × P t
  seed_some (inl f) = (0, f 0)
  seed_some (inr s) = (s.0, s.1)

  seed_both : {u : ℕ} {P Q R : Pred} → Seed u P → Seed u Q → Join P Q R → Seed u R
  seed_both (inl f) (inl g) k = inl (λ t. k t (f t) (g t))
  seed_both (inl f) (inr s) k = inr (s.0, k s.0 (f s.0) s.1, s.2)
  seed_both (inr s) y k = inr (s.0, k s.0 s.1 (seed_at y s.2), s.2)

  -- a chain of links in activations of depth below n, from u to v; R t: all that it stands for is by t
  data Chain (n v : ℕ) : ℕ → Pred → Type 1 where
    stop : {u : ℕ} {R : Pred} → u ≡ v → Seed u R → Chain n v u R
    link : {A : Act} {u x : ℕ} {P Q R : Pred} → depth A < n → Link A u x P → Chain n v x Q → Join P Q R → Chain n v u R

  absorb : {n u v : ℕ} {P Q R : Pred} → Seed u P → Chain n v u Q → Join P Q R → Chain n v u R
  absorb s (stop e y) k = stop e (seed_both s y k)
  absorb s (link h f c j) k = link h f c (λ t p q. k t (seed_at s (f.owned t p)) (j t p q))

  -- a link, or a loop to be dropped
  abbrev Step : (A : Act) (u v : ℕ) → Pred → Type 0
  Step A u v P = Link A u v P ⊎ ((u ≡ v) × Seed u P)

  prepend : {A : Act} {n u x v : ℕ} {P Q R : Pred}
      → depth A < n → Step A u x P → Chain n v x Q → Join P Q R → Chain n v u R
  prepend h (inl f) c k = link h f c k
  prepend h (inr s) c k = absorb s.1 (rw (← s.0) at c) k

  settle : {A : Act} {a b u v : ℕ} {l : Label} {P : Pred}
      → Stands A a u → Stands A b v → (a ≡ b → u ≡ v) → (Kept a b l → Pair A a b l)
      → ((t : ℕ) → P t → Owner u t) → One A l P
      → Step A u v P
  settle {A} {a} {b} {u} {v} {l} {P} su sv e pr o w = elim w [
    | inl f ↦ inl (make (inr f))
    | inr s ↦ elim (ℕ_discrete a b) [ yes d ↦ inr (e d, inr (s.0, s.1, o s.0 s.1)) | no d ↦ inl (make (inl d)) ]
  ]
    where
      make : Kept a b l → Link A u v P
      make k = record { a = a; b = b; l = l; pair = pr k; start = su; end = sv; kept = k; owned = o; one = w }

  both : {A : Act} {l : Label} {P Q : Pred}
      → ((t s : ℕ) → By A l t → By A l s → t ≡ s) → One A l P → One A l Q → One A l (P & Q)
  both f (inl e) y = inl e
  both f (inr x) (inl e) = inl e
  both {Q} f (inr x) (inr y) = inr (x.0, (x.1, subst Q (f _ _ y.2 x.2) y.1), x.2)

  -- a combined label that is not several is of one thread, which has both properties
  agree : {A : Act} {P Q : Pred} (l m : Label) → One A l P → One A m Q → One A (combine l m) (P & Q)
  agree own own x y = both (λ t s. own_one) x y
  agree own (forked k) x y = inl refl
  agree own unknown x y = inl refl
  agree own several x y = inl refl
  agree (forked i) own x y = inl refl
  agree (forked i) unknown x y = inl refl
  agree (forked i) several x y = inl refl
  agree {A} {P} {Q} (forked i) (forked k) x y =
      elim (ℕ_discrete i k) as (λ d. One A (elim d [ yes e ↦ forked i | no n ↦ several ]) (P & Q)) [
        | yes e ↦ both (λ t s. forked_one) x (rw (← e) at y)
        | no n ↦ inl refl
      ]
  agree unknown m x y = inl refl
  agree several m x y = inl refl

  -- two links of one activation that meet in a lock made there
  compose : {A : Act} {u x v : ℕ} {P Q : Pred} → birth x ≡ A → Link A u x P → Link A x v Q → Step A u v (P & Q)
  compose e f g =
      settle f.start g.end (λ d. same g.pair (rw d at f.start) g.end)
      (trans f.pair (rw (unique e g.start f.end) at g.pair))
      (λ t p. f.owned t p.0)
      (agree f.l g.l f.one g.one)

  apart : {A : Act} {u v : ℕ} {P : Pred} (f : Link A u v P) → f.a ≡ f.b → ⊥
  apart f d = elim f.kept [ inl n ↦ n d | inr e ↦ noring (rw (e, d) at f.pair) ]

  born : {A : Act} {x u : ℕ} → Stands A x u → depth (birth u) ≤ depth A
  born s = ⊎_elim (λ c. le_of_eq (ap depth c.0)) (λ c. le_of_lt c.1) (cases s)

  inherited : {A : Act} {x u : ℕ} → depth (birth u) < depth A → Stands A x u → x ≤ params A
  inherited h s = ⊎_elim (λ c. omega (arith, ap depth c.0)) (λ c. c.0) (cases s)

  one_up : {A : Act} {P : Pred} (l : Label) → 1 ≤ depth A → One A l P → One (parent A) (placed (site A) l) P
  one_up {A} l h (inl e) = inl (ap (placed (site A)) e)
  one_up {A} l h (inr x) = elim (by_up h x.2) [ inl e ↦ inl (ap (placed (site A)) e) | inr b ↦ inr (x.0, x.1, b) ]

  -- a link between locks that were not made in its activation, in the caller
  lower : {A : Act} {u v : ℕ} {P : Pred}
      → depth (birth u) < depth A → depth (birth v) < depth A → Link A u v P → Step (parent A) u v P
  lower {A} hu hv f =
      let h : 1 ≤ depth A = omega arith in
      let r = lift h f.pair (inherited hu f.start) (inherited hv f.end) (apart f) f.start f.end in
      settle r.2 r.3 r.4 r.5 f.owned (one_up f.l h f.one)

  -- The greatest depth is i. If the chain passes a lock made above depth i (`find`), it is read from there, and so
  -- brought above depth i (`reduce`). If not, all of it composes to one link from a lock to itself, a ring (`closed`).
  module _ (i : ℕ) where
    top : {A : Act} {x u : ℕ} → depth A < suc i → depth (birth u) ≡ i → Stands A x u → A ≡ birth u
    top h e s = ⊎_elim (λ c. sym c.0) (λ c. absurd (omega arith)) (cases s)

    place : {A : Act} {x u : ℕ} → depth A < suc i → Stands A x u → (depth (birth u) ≡ i) ⊎ (depth (birth u) < i)
    place h s = eq-or-lt_of_le (omega (arith, born s))

    sink : {A : Act} {u v : ℕ} {P : Pred}
        → depth (birth u) < i → depth (birth v) < i → depth A < suc i → Link A u v P
        → (B : Act) × (depth B < i) × Step B u v P
    sink {A} hu hv h f = elim (eq-or-lt_of_le h) [
      | inl e ↦ (parent A, omega (arith, above {A = A} (omega arith)), lower (omega arith) (omega arith) f)
      | inr l ↦ (A, omega arith, inl f)
    ]

    -- a chain below depth i from x to v; or, where x was made at depth i, a link of depth i and then such a chain
    data Rest (v : ℕ) : ℕ → Pred → Type 1 where
      here : {x : ℕ} {R : Pred} → depth (birth x) < i → Chain i v x R → Rest v x R
      via : {x y : ℕ} {P Q R : Pred}
          → depth (birth x) ≡ i → Link (birth x) x y P → depth (birth y) < i → Chain i v y Q → Join P Q R
          → Rest v x R

    absorb_rest : {u v : ℕ} {P Q R : Pred} → Seed u P → Rest v u Q → Join P Q R → Rest v u R
    absorb_rest s (here m c) k = here m (absorb s c k)
    absorb_rest s (via e f m c j) k = via e f m c (λ t p q. k t (seed_at s (f.owned t p)) (j t p q))

    push : {A : Act} {u y v : ℕ} {P Q R : Pred}
        → (depth (birth u) ≡ i) ⊎ (depth (birth u) < i) → depth A < suc i → Step A u y P
        → depth (birth y) < i → Chain i v y Q → Join P Q R
        → Rest v u R
    push w h (inr s) m c k = here (rw (← s.0) at m) (absorb s.1 (rw (← s.0) at c) k)
    push (inl e) h (inl f) m c k = via e (rw (top h e f.start) at f) m c k
    push (inr l) h (inl f) m c k = let r = sink l m h f in here l (prepend r.1 r.2 c k)

    add : {A : Act} {u x v : ℕ} {P Q R : Pred} → depth A < suc i → Link A u x P → Rest v x Q → Join P Q R → Rest v u R
    add h f (here m c) k = push (place h f.start) h (inl f) m c k
    add h f (via e g m c j) k =
        push (place h f.start) (omega arith) (compose refl (rw (top h e f.end) at f) g) m c
        (λ t p q. k t p.0 (j t p.1 q))

    reduce : {z v x : ℕ} {P Q R : Pred} → Chain (suc i) z x P → Rest v z Q → Join P Q R → Rest v x R
    reduce (stop e s) r k = absorb_rest s (rw (← e) at r) k
    reduce (link h f c j) r k =
        add {Q = _ & _} h f (reduce c r (λ t p q. (p, q))) (λ t p q. k t (j t p q.0) q.1)

    -- a chain from x to v, cut at a lock that was made above depth i; or else it comes to one link of depth i, or to
    -- none
    data Found (v : ℕ) : ℕ → Pred → Type 1 where
      cut : {x w : ℕ} {P Q R : Pred}
          → depth (birth w) < i → Chain (suc i) w x P → Chain (suc i) v w Q → Join P Q R
          → Found v x R
      line : {x : ℕ} {P Q R : Pred} → depth (birth x) ≡ i → Link (birth x) x v P → Seed v Q → Join P Q R → Found v x R
      loop : {x : ℕ} {R : Pred} → x ≡ v → Seed x R → Found v x R

    more : {A : Act} {u x v : ℕ} {P Q R : Pred}
        → depth (birth u) ≡ i → depth A < suc i → Link A u x P → Found v x Q → Join P Q R
        → Found v u R
    more e h f (cut l c d j) k =
        cut l (link {R = _ & _} h f c (λ t p q. (p, q))) d (λ t p q. k t p.0 (j t p.1 q))
    more e h f (line d g y j) k = elim (compose refl (rw (top h d f.end) at f) g) [
      | inl a ↦ line e (rw (top (omega arith) e a.start) at a) y (λ t p q. k t p.0 (j t p.1 q))
      | inr s ↦ loop s.0 (seed_both s.1 (rw (← s.0) at y) (λ t p q. k t p.0 (j t p.1 q)))
    ]
    more e h f (loop d s) k = line e (rw (top h e f.start, d) at f) (rw d at s) k

    find : {v x : ℕ} {R : Pred} → Chain (suc i) v x R → Found v x R
    find (stop e s) = loop e s
    find (link h f c k) = elim (place h f.start) [
      | inl e ↦ more e h f (find c) k
      | inr l ↦ cut l (stop {R = All} refl (inl (λ t. tt))) (link h f c k) (λ t p q. q)
    ]

    module _ (below : (w : ℕ) (P : Pred) → Chain i w w P → (t : ℕ) × P t) where
      rested : {w : ℕ} {R : Pred} → depth (birth w) < i → Rest w w R → (t : ℕ) × R t
      rested {w} {R} l (here m c) = below w R c
      rested l (via e f m c k) = absurd (omega arith)

      closed : {u : ℕ} {R : Pred} → Found u u R → (t : ℕ) × R t
      closed (cut l c d k) =
          rested l
          (reduce d (reduce c (here l (stop {R = All} refl (inl (λ t. tt)))) (λ t p q. p)) (λ t q p. k t p q))
      closed (line e f y k) = absurd (apart f (unique refl f.start f.end))
      closed (loop e s) = seed_some s

  cycle : (n u : ℕ) (R : Pred) → Chain n u u R → (t : ℕ) × R t
  cycle zero u R (stop e s) = seed_some s
  cycle zero u R (link h f c k) = absurd (omega arith)
  cycle (suc i) u R c = closed i (cycle i) (find i c)

  -- the links as they are found in a state, each by one thread
  pub data Links (v : ℕ) : ℕ → Type 0 where
    none : {u : ℕ} → u ≡ v → Links v u
    next : {A : Act} {u x : ℕ} (s : ℕ) → Link A u x (λ t. s ≡ t) → Links v x → Links v u

  -- all the links are by the thread t
  unfoldable pub AllBy : {v u : ℕ} → ℕ → Links v u → Type 0
  AllBy t (none e) = Unit {0}
  AllBy t (next s f c) = (s ≡ t) × AllBy t c

  bound : {v u : ℕ} → Links v u → ℕ
  bound (none e) = 0
  bound (next {A} s f c) = suc (depth A + bound c)

  chain : {v u : ℕ} (n : ℕ) (c : Links v u) → bound c ≤ n → Chain n v u (λ t. AllBy t c)
  unfolding AllBy bound
  chain n (none e) h = stop e (inl (λ t. tt))
  chain n (next {A} s f c) h = link {A = A} {R = _ & _} (omega arith) f (chain n c (omega arith)) (λ t p q. (p, q))

  -- the links of a closed chain are all by one thread
  pub all_by_one : (u : ℕ) (c : Links u u) → (t : ℕ) × AllBy t c
  all_by_one u c = cycle (bound c) u (λ t. AllBy t c) (chain (bound c) c (le_refl (bound c)))
