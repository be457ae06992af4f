-- What follows from given pairs, in plain terms: own and forks go along walks, unknown is only given, several is a mix
-- with walks before and after it.
use Rattle.std.specs.Prelude.{◌≡◌, refl, ◌≢◌, ◌⊎◌, ℕ}
use Rattle.std.proofs.Common.{sym, inl, inr, ⊎_elim, arith}
use Rattle.std.proofs.Math.Decide.{ℕ_discrete}
use Rattle.rules.specs.Label.{Label, own, forked, unknown, several, combine}
use Rattle.rules.specs.Model.{Kept}
use Rattle.rules.specs.Derived.{Closed, given, follows}
use Rattle.rules.proofs.Laws.Combine.{with_several, other_fork, same_fork}
use Rattle.grid.specs.Rows.{Rel, Walk, one, more, Star}

-- the names joined by a given pair of the label, or of any label
abbrev pub Of : (ℕ → ℕ → Label → Type 0) → Label → Rel
Of G l a b = G a b l

abbrev pub Any : (ℕ → ℕ → Label → Type 0) → Rel
Any G a b = (l : Label) × G a b l

-- a pair labelled several, or two that combine to several
abbrev pub Mix : (ℕ → ℕ → Label → Type 0) → Rel
Mix G a b = G a b several ⊎ ((c : ℕ) × (l : Label) × (m : Label) × G a c l × G c b m × (combine l m ≡ several))

-- a mix, with walks before and after it
abbrev pub Mixed : (ℕ → ℕ → Label → Type 0) → Rel
Mixed G a b = (u : ℕ) × (v : ℕ) × Star (Any G) a u × Mix G u v × Star (Any G) v b

-- what a pair labelled l says of its ends
abbrev pub Says : (ℕ → ℕ → Label → Type 0) → Label → Rel
Says G own a b = (a ≢ b) × Walk (Of G own) a b
Says G (forked i) a b = (a ≢ b) × Walk (Of G (forked i)) a b
Says G unknown a b = G a b unknown
Says G several a b = Mixed G a b

-- walks put together, and walks over a larger relation
pub walk_then : {R : Rel} {a b c : ℕ} → Walk R a b → Walk R b c → Walk R a c
walk_then (one e) w = more e w
walk_then (more e v) w = more e (walk_then v w)

star_then : {R : Rel} {a b c : ℕ} → Star R a b → Star R b c → Star R a c
star_then (inl e) w = rw e w
star_then (inr v) (inl e) = inr (rw e at v)
star_then (inr v) (inr w) = inr (walk_then v w)

pub walk_map : {R S : Rel} → ((a b : ℕ) → R a b → S a b) → {a b : ℕ} → Walk R a b → Walk S a b
walk_map f (one {i = i} {j = j} e) = one (f i j e)
walk_map f (more {i = i} {j = j} e w) = more (f i j e) (walk_map f w)

-- a walk backwards
pub walk_back : {R S : Rel} → ((a b : ℕ) → R a b → S b a) → {a b : ℕ} → Walk R a b → Walk S b a
walk_back f (one {i = i} {j = j} e) = one (f i j e)
walk_back f (more {i = i} {j = j} e w) = walk_then (walk_back f w) (one (f i j e))

pub star_back : {R S : Rel} → ((a b : ℕ) → R a b → S b a) → {a b : ℕ} → Star R a b → Star S b a
star_back f (inl e) = inl (sym e)
star_back f (inr w) = inr (walk_back f w)

-- a walk's last step, and its first
last : {R : Rel} {a b : ℕ} → Walk R a b → (c : ℕ) × Star R a c × R c b
last (one {i = a} e) = (a, inl refl, e)
last (more e w) = let l = last w in (l.0, star_then (inr (one e)) l.1, l.2)

pub first : {R : Rel} {a b : ℕ} → Walk R a b → (c : ℕ) × R a c × Star R c b
first (one {j = b} e) = (b, e, inl refl)
first (more {j = c} e w) = (c, e, inr w)

star_map : {R S : Rel} → ((a b : ℕ) → R a b → S a b) → {a b : ℕ} → Star R a b → Star S a b
star_map f (inl e) = inl e
star_map f (inr w) = inr (walk_map f w)

module _ (G : ℕ → ℕ → Label → Type 0) where
  -- what a pair says holds of some walk
  path : (l : Label) {a b : ℕ} → Says G l a b → Star (Any G) a b
  path own w = inr (walk_map (λ a b e. (own, e)) w.1)
  path (forked i) w = inr (walk_map (λ a b e. (forked i, e)) w.1)
  path unknown w = inr (one (unknown, w))
  path several w = star_then w.2 (star_then (mix w.3) w.4)
    where
      mix : {a b : ℕ} → Mix G a b → Star (Any G) a b
      mix (inl e) = inr (one (several, e))
      mix (inr m) = inr (more (m.1, m.3) (one (m.2, m.4)))

  -- a pair not several ends, and begins, with a given pair of its label
  ending : (l : Label) {a b : ℕ} → Says G l a b → Mixed G a b ⊎ ((c : ℕ) × Star (Any G) a c × G c b l)
  ending own w = let e = last w.1 in inr (e.0, star_map (λ a b p. (own, p)) e.1, e.2)
  ending (forked i) w = let e = last w.1 in inr (e.0, star_map (λ a b p. (forked i, p)) e.1, e.2)
  ending unknown {a} w = inr (a, inl refl, w)
  ending several w = inl w

  beginning : (l : Label) {a b : ℕ} → Says G l a b → Mixed G a b ⊎ ((c : ℕ) × G a c l × Star (Any G) c b)
  beginning own w = let e = first w.1 in inr (e.0, e.1, star_map (λ a b p. (own, p)) e.2)
  beginning (forked i) w = let e = first w.1 in inr (e.0, e.1, star_map (λ a b p. (forked i, p)) e.2)
  beginning unknown {b = b} w = inr (b, w, inl refl)
  beginning several w = inl w

  -- two pairs that combine to several have a mix between their ends
  mixes : (l m : Label) (a b c : ℕ) → combine l m ≡ several → Says G l a b → Says G m b c → Mixed G a c
  mixes l m a b c e p q =
      ⊎_elim
      (λ x. (x.0, x.1, x.2, x.3, star_then x.4 (path m q)))
      (λ x.
      ⊎_elim
      (λ y. (y.0, y.1, star_then (path l p) y.2, y.3, y.4))
      (λ y. (x.0, y.0, x.1, inr (b, l, m, x.2, y.1, e), y.2))
      (beginning m q))
      (ending l p)

  -- what two pairs say gives what the pair that follows says
  says_follows :
      (l m : Label) (a b c : ℕ) → Says G l a b → Says G m b c → Kept a c (combine l m)
      → Says G (combine l m) a c
  says_follows own own a b c p q (inl n) = (n, walk_then p.1 q.1)
  says_follows own own a b c p q (inr e) = let z : ◌≡◌ {A = ℕ} 0 1 = cc in absurd (omega arith)
  says_follows own (forked j) a b c p q k = mixes own (forked j) a b c refl p q
  says_follows own unknown a b c p q k = mixes own unknown a b c refl p q
  says_follows own several a b c p q k = mixes own several a b c refl p q
  says_follows (forked i) own a b c p q k = mixes (forked i) own a b c refl p q
  says_follows (forked i) (forked j) a b c p q k = go (ℕ_discrete i j)
    where
      same : i ≡ j → combine (forked i) (forked j) ≡ forked i
      same e = rw (← e) (same_fork i)

      joined : i ≡ j → Kept a c (forked i) → Says G (forked i) a c
      joined e (inl n) = (n, walk_then p.1 (rw (← e) at q.1))
      joined e (inr x) = let z : ◌≡◌ {A = ℕ} 0 1 = cc in absurd (omega arith)

      go : Dec (i ≡ j) → Says G (combine (forked i) (forked j)) a c
      go (yes e) = rw (same e) (joined e (rw (same e) at k))
      go (no n) = rw (other_fork i j n) (mixes (forked i) (forked j) a b c (other_fork i j n) p q)
  says_follows (forked i) unknown a b c p q k = mixes (forked i) unknown a b c refl p q
  says_follows (forked i) several a b c p q k = mixes (forked i) several a b c refl p q
  says_follows unknown m a b c p q k = mixes unknown m a b c refl p q
  says_follows several m a b c p q k = mixes several m a b c refl p q

  -- a given pair says what its label says
  says_given : (l : Label) {a b : ℕ} → G a b l → Kept a b l → Says G l a b
  says_given own w (inl n) = (n, one w)
  says_given own w (inr e) = let z : ◌≡◌ {A = ℕ} 0 1 = cc in absurd (omega arith)
  says_given (forked i) w (inl n) = (n, one w)
  says_given (forked i) w (inr e) = let z : ◌≡◌ {A = ℕ} 0 1 = cc in absurd (omega arith)
  says_given unknown w k = w
  says_given several {a} {b} w k = (a, b, inl refl, inl w, inl refl)

  -- each pair that follows says what its label says
  pub says : ((a b : ℕ) (l : Label) → G a b l → Kept a b l) → {a b : ℕ} {l : Label} → Closed G a b l → Says G l a b
  says kept (given {a = a} {b = b} {l = l} w) = says_given l w (kept a b l w)
  says kept (follows {a = a} {b = b} {c = c} {l = l} {m = m} p q e k) =
      rw e (says_follows l m a b c (says kept p) (says kept q) (rw e at k))

  -- a walk of one named label is a pair
  pub walked : (l : Label) → combine l l ≡ l → {a b : ℕ} → Walk (Of G l) a b → a ≢ b → Closed G a b l
  walked l e (one w) n = given w
  walked l e (more {j = y} {k = b} w v) n =
      elim (ℕ_discrete y b) [
        | yes q ↦ given (rw q at w)
        | no q ↦ follows (given w) (walked l e v q) (sym e) (inl n)
      ]

  -- a mix is a pair labelled several, and so it is with walks before and after it
  mixed : {a b : ℕ} → Mix G a b → Closed G a b several
  mixed (inl w) = given w
  mixed (inr w) = follows (given w.3) (given w.4) (sym w.5) (inr refl)

  before : {a b c : ℕ} → Walk (Any G) a b → Closed G b c several → Closed G a c several
  before (one w) p = follows (given w.1) p (sym (with_several w.0)) (inr refl)
  before (more w v) p = follows (given w.1) (before v p) (sym (with_several w.0)) (inr refl)

  after : {a b c : ℕ} → Closed G a b several → Walk (Any G) b c → Closed G a c several
  after p (one w) = follows p (given w.1) refl (inr refl)
  after p (more w v) = after (follows p (given w.1) refl (inr refl)) v

  star_before : {a b c : ℕ} → Star (Any G) a b → Closed G b c several → Closed G a c several
  star_before (inl e) p = rw e p
  star_before (inr w) p = before w p

  star_after : {a b c : ℕ} → Closed G a b several → Star (Any G) b c → Closed G a c several
  star_after p (inl e) = rw e at p
  star_after p (inr w) = after p w

  -- what a label says holds only of pairs that follow
  pub said : (l : Label) {a b : ℕ} → Says G l a b → Closed G a b l
  said own w = walked own refl w.1 w.0
  said (forked i) w = walked (forked i) (same_fork i) w.1 w.0
  said unknown w = given w
  said several w = star_after (star_before w.2 (mixed w.3)) w.4
