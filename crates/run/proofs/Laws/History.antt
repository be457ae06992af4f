-- What the proof keeps beside the state. An activation is one time that a routine is run; the history says which
-- activation's NEW made each lock, and which one's FORK started each thread. By it the names and the labels of a
-- routine mean locks and threads, in each activation by itself.
use Rattle.std.specs.Prelude.{◌≡◌, ◌⊎◌, List, ℕ, suc, ◌≤◌, ◌<◌}
use Rattle.std.proofs.Common.{sym, ◌∙◌, subst, inl, inr, arith}
use Rattle.std.proofs.Math.Option.{Option, some}
use Rattle.std.proofs.Math.Decide.{ℕ_discrete}
use Rattle.table.specs.Program.{Program, params}
use Rattle.table.specs.WellFormed.{Once, makes, starts}
use Rattle.rules.specs.Label.{Label, own, forked, unknown, several}
use Rattle.rules.specs.Model.{renamed}
use Rattle.run.proofs.Laws.Update.{upd, upd_same, upd_other}

-- An activation: the root, of routine 0, or the child that a CALL makes: its caller, the routine called, the label
-- and the holder of the CALL's place, the roots of the names passed, the thread that ran the CALL, and a serial number.
pub data Activation : Type 0 where
  root : Activation
  child : Activation → ℕ → Label → Option ℕ → List ℕ → ℕ → ℕ → Activation

abbrev pub routine : Activation → ℕ
routine root = 0
routine (child p r θ h xs t n) = r

-- the thread that runs the activation's body
abbrev pub runner : Activation → ℕ
runner root = 0
runner (child p r θ h xs t n) = t

abbrev pub parent : Activation → Activation
parent root = root
parent (child p r θ h xs t n) = p

abbrev pub serial : Activation → ℕ
serial root = 0
serial (child p r θ h xs t n) = n

abbrev pub depth : Activation → ℕ
depth root = 0
depth (child p r θ h xs t n) = suc (depth p)

-- a NEW or FORK of an activation's body: it is run at most once
pub data Item : Type 0 where
  item : Activation → Once → Item

abbrev pub age : Item → ℕ
age (item A o) = serial A

-- what has been run: lock l, for l < made, was made by the item `maker l`, and thread 1 + m, for m < forks, was
-- started by the item `starter m`
pub record History : Type 0 where
  pub maker : ℕ → Item
  pub made : ℕ
  pub starter : ℕ → Item
  pub forks : ℕ

-- the item is one of the first n
abbrev pub Done : (ℕ → Item) → ℕ → Item → Type 0
Done f n k = (m : ℕ) × (m < n) × (f m ≡ k)

-- no item is two of the first n
abbrev pub Single : (ℕ → Item) → ℕ → Type 0
Single f n = (k : Item) (p q : Done f n k) → p.0 ≡ q.0

abbrev pub Ran : History → Item → Type 0
Ran H k = Done H.maker H.made k ⊎ Done H.starter H.forks k

-- in the activation the name stands for the lock: a local's NEW made it, or the caller passed it
pub data Stands (P : Program) (H : History) : Activation → ℕ → ℕ → Type 0 where
  local : {A : Activation} {x l : ℕ}
      → params P (routine A) < x → l < H.made → H.maker l ≡ item A (makes x)
      → Stands P H A x l
  passed : {p : Activation} {r : ℕ} {θ : Label} {h : Option ℕ} {xs : List ℕ} {t n x y l : ℕ}
      → x ≤ params P r → renamed h xs x ≡ some y → Stands P H p y l
      → Stands P H (child p r θ h xs t n) x l

-- in the activation the label means the thread
abbrev pub By : History → Activation → Label → ℕ → Type 0
By H A own t = runner A ≡ t
By H A (forked i) t = (m : ℕ) × (t ≡ suc m) × (m < H.forks) × (H.starter m ≡ item A (starts i))
By H A unknown t = ⊥
By H A several t = ⊥

-- a name stands for one lock only
pub stands_one :
    (P : Program) (H : History) → Single H.maker H.made
    → (A : Activation) (x u v : ℕ) → Stands P H A x u → Stands P H A x v → u ≡ v
stands_one P H once A x u v (local b l e) (local c m f) = once (item A (makes x)) (u, l, e) (v, m, f)
stands_one P H once A x u v (local b l e) (passed le q s) = absurd (omega arith)
stands_one P H once A x u v (passed le q s) (local b l e) = absurd (omega arith)
stands_one P H once A x u v (passed {p = p} {y = y} le q s) (passed {y = z} m r k) =
    stands_one P H once p y u v s (subst (λ (w : ℕ). Stands P H p w v) (cc) k)

-- one more item done
module _ (f : ℕ → Item) (n : ℕ) (k : Item) where
  -- place m has j: as before, or it is the new place
  abbrev Split : Item → ℕ → Type 0
  Split j m = ((m < n) × (f m ≡ j)) ⊎ ((m ≡ n) × (k ≡ j))

  done_split : (j : Item) (m : ℕ) → m < suc n → upd f n k m ≡ j → Split j m
  done_split j m l e = step (ℕ_discrete m n)
    where
      step : Dec (m ≡ n) → Split j m
      step (yes p) = inr (p, sym (upd_same f n k m p) ∙ e)
      step (no q) = inl (omega arith, sym (upd_other f n k m q) ∙ e)

  pub done_old : (j : Item) (m : ℕ) → (m < n) × (f m ≡ j) → (m < suc n) × (upd f n k m ≡ j)
  done_old j m d = let l : m < n = d.0 in (omega arith, upd_other f n k m (omega arith) ∙ d.1)

  pub done_back : (j : Item) → Done (upd f n k) (suc n) j → Done f n j ⊎ (k ≡ j)
  done_back j d =
      elim (done_split j d.0 d.1 d.2) [ inl a ↦ inl (d.0, a.0, a.1) | inr a ↦ inr a.1 ]

  pub done_single : Single f n → ¬ Done f n k → Single (upd f n k) (suc n)
  done_single once new j p q = step (done_split j p.0 p.1 p.2) (done_split j q.0 q.1 q.2)
    where
      step : Split j p.0 → Split j q.0 → p.0 ≡ q.0
      step (inl a) (inl b) = once j (p.0, a.0, a.1) (q.0, b.0, b.1)
      step (inl a) (inr b) = absurd (new (p.0, a.0, a.1 ∙ sym b.1))
      step (inr a) (inl b) = absurd (new (q.0, b.0, b.1 ∙ sym a.1))
      step (inr a) (inr b) = a.0 ∙ sym b.0

-- what has been run by the history H has been run by K
pub record Longer (H K : History) : Type 0 where
  pub made : (k : Item) (l : ℕ) → (l < H.made) × (H.maker l ≡ k) → (l < K.made) × (K.maker l ≡ k)
  pub started : (k : Item) (m : ℕ) → (m < H.forks) × (H.starter m ≡ k) → (m < K.forks) × (K.starter m ≡ k)

pub same_history : (H : History) → Longer H H
same_history H = record { made = λ k l d. d; started = λ k m d. d }

-- one more lock
abbrev pub with_lock : History → Item → History
with_lock H k =
    record { maker = upd H.maker H.made k; made = suc H.made; starter = H.starter; forks = H.forks }

pub lock_longer : (H : History) (k : Item) → Longer H (with_lock H k)
lock_longer H k = record { made = done_old H.maker H.made k; started = λ j m d. d }

-- one more thread
abbrev pub with_thread : History → Item → History
with_thread H k =
    record { maker = H.maker; made = H.made; starter = upd H.starter H.forks k; forks = suc H.forks }

pub thread_longer : (H : History) (k : Item) → Longer H (with_thread H k)
thread_longer H k = record { made = λ j l d. d; started = done_old H.starter H.forks k }

-- what names and labels mean by a history they mean by a longer one
module _ (P : Program) {H K : History} (up : Longer H K) where
  pub Stands-up : (A : Activation) (x l : ℕ) → Stands P H A x l → Stands P K A x l
  Stands-up A x l (local b lt e) = let d = up.made (item A (makes x)) l (lt, e) in local b d.0 d.1
  Stands-up A x l (passed {p = p} {y = y} le q s) = passed le q (Stands-up p y l s)

  pub By-up : (A : Activation) (θ : Label) (t : ℕ) → By H A θ t → By K A θ t
  By-up A several t b = elim b [ ]
  By-up A unknown t b = elim b [ ]
  By-up A own t b = b
  By-up A (forked i) t b =
      let d = up.started (item A (starts i)) b.0 (b.2, b.3) in (b.0, b.1, d.0, d.1)
