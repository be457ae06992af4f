-- One thread changes its form and the history may grow: when the invariant is kept.
use Rattle.std.specs.Prelude.{◌≡◌, refl, ◌≢◌, ◌⊎◌, ℕ, ◌≤◌, ◌<◌}
use Rattle.std.proofs.Common.{inl, inr, arith}
use Rattle.table.specs.Program.{Program}
use Rattle.table.specs.WellFormed.{In}
use Rattle.run.specs.Run.{Thread}
use Rattle.run.proofs.Laws.History.{Activation, Item, age, History, Single, Ran, Longer}
use Rattle.run.proofs.Laws.Invariant.{todo, Explained, Explained-up, Invariant, Holds}
use Rattle.run.proofs.Laws.Update.{upd, upd_both}

-- no thread may run the item, none has run it, and its serial number is below m
abbrev pub Fresh : History → ℕ → (ℕ → Activation) → (ℕ → Thread) → Item → Type 0
Fresh H m acts forms k = ((v : ℕ) → In k (todo (acts v) (forms v)) → ⊥) × (Ran H k → ⊥) × (age k < m)

-- no other thread than t holds the lock
abbrev pub Free : (ℕ → Thread) → ℕ → ℕ → Type 0
Free forms t l = (v : ℕ) → v ≢ t → ¬ Holds (forms v) l

-- Thread t takes the form x in the activation A, and the history H becomes K. What the thread may still run it might
-- run before, or it is fresh. What has been run since it no longer may. What it holds it held before, or no other
-- holds it.
pub record Change
    (P : Program) (H K : History) (n m t : ℕ) (A : Activation) (x : Thread)
    (acts : ℕ → Activation) (forms : ℕ → Thread) : Type 0 where
  pub longer : Longer H K
  pub more : n ≤ m
  pub explained : Explained P K t A x
  pub before : (k : Item) → In k (todo A x) → In k (todo (acts t) (forms t)) ⊎ Fresh H m acts forms k
  pub ran : (k : Item) → Ran K k → Ran H k ⊎ (In k (todo (acts t) (forms t)) × ¬ In k (todo A x))
  pub free : (l : ℕ) → Holds x l → Holds (forms t) l ⊎ Free forms t l
  pub made_once : Single K.maker K.made
  pub started_once : Single K.starter K.forks

module _
    (P : Program) (H K : History) (n m t : ℕ) (A : Activation) (x : Thread)
    (acts : ℕ → Activation) (forms : ℕ → Thread)
    (g : Invariant P H n acts forms) (w : Change P H K n m t A x acts forms) where
  abbrev acts' : ℕ → Activation
  acts' = upd acts t A

  abbrev forms' : ℕ → Thread
  forms' = upd forms t x

  -- what holds of t and of each other thread holds of all
  every :
      (Q : ℕ → Activation → Thread → Type 0)
      → Q t A x → ((u : ℕ) → u ≢ t → Q u (acts u) (forms u)) → (u : ℕ) → Q u (acts' u) (forms' u)
  every = upd_both acts forms t A x

  older : (k : Item) → age k < n → age k < m
  older k l = let le : n ≤ m = w.more in omega arith

  not_other : (v : ℕ) (k : Item) → v ≢ t → In k (todo A x) → In k (todo (acts v) (forms v)) → ⊥
  not_other v k ne i j = elim (w.before k i) [ inl h ↦ ne (g.apart v t k j h) | inr f ↦ f.0 v j ]

  change_apart : (u v : ℕ) (k : Item) → In k (todo (acts' u) (forms' u)) → In k (todo (acts' v) (forms' v)) → u ≡ v
  change_apart =
      every (λ u B y. (v : ℕ) (k : Item) → In k (todo B y) → In k (todo (acts' v) (forms' v)) → u ≡ v)
      (every (λ v B y. (k : Item) → In k (todo A x) → In k (todo B y) → t ≡ v)
      (λ k i j. refl)
      (λ v ne k i j. absurd (not_other v k ne i j)))
      (λ u ne. every (λ v B y. (k : Item) → In k (todo (acts u) (forms u)) → In k (todo B y) → u ≡ v)
      (λ k i j. absurd (not_other u k ne j i))
      (λ v no k i j. g.apart u v k i j))

  change_unrun : (u : ℕ) (k : Item) → In k (todo (acts' u) (forms' u)) → Ran K k → ⊥
  change_unrun =
      every (λ u B y. (k : Item) → In k (todo B y) → Ran K k → ⊥)
      (λ k i r. elim (w.ran k r) [
        | inl h ↦ elim (w.before k i) [ inl j ↦ g.unrun t k j h | inr f ↦ f.1 h ]
        | inr q ↦ q.1 i
      ])
      (λ u ne k i r. elim (w.ran k r) [ inl h ↦ g.unrun u k i h | inr q ↦ ne (g.apart u t k i q.0) ])

  change_young : (u : ℕ) (k : Item) → In k (todo (acts' u) (forms' u)) → age k < m
  change_young =
      every (λ u B y. (k : Item) → In k (todo B y) → age k < m)
      (λ k i. elim (w.before k i) [ inl j ↦ older k (g.young t k j) | inr f ↦ f.2 ])
      (λ u ne k i. older k (g.young u k i))

  change_alone : (u v l : ℕ) → Holds (forms' u) l → Holds (forms' v) l → u ≡ v
  change_alone =
      every (λ u B y. (v l : ℕ) → Holds y l → Holds (forms' v) l → u ≡ v)
      (every (λ v B y. (l : ℕ) → Holds x l → Holds y l → t ≡ v)
      (λ l i j. refl)
      (λ v ne l i j. absurd (other v l ne i j)))
      (λ u ne. every (λ v B y. (l : ℕ) → Holds (forms u) l → Holds y l → u ≡ v)
      (λ l i j. absurd (other u l ne j i))
      (λ v no l i j. g.alone u v l i j))
    where
      other : (v l : ℕ) → v ≢ t → Holds x l → Holds (forms v) l → ⊥
      other v l ne i j = elim (w.free l i) [ inl h ↦ ne (g.alone v t l j h) | inr f ↦ f v ne j ]

  pub change : Invariant P K m acts' forms'
  change = record {
    explained =
        every (Explained P K) w.explained (λ u ne. Explained-up P w.longer u (acts u) (forms u) (g.explained u));
    alone = change_alone;
    apart = change_apart;
    unrun = change_unrun;
    young = change_young;
    ran_young = λ k r. elim (w.ran k r) [
      | inl h ↦ older k (g.ran_young k h)
      | inr q ↦ older k (g.young t k q.0)
    ];
    made_once = w.made_once;
    started_once = w.started_once;
  }
