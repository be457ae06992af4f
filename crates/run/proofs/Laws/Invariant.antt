-- The invariant of a run. The history explains each thread: its code, and the code after each open block, records
-- nothing that the model of its activation's routine lacks, and from each lock that it holds dependencies, each as a
-- pair of a model says, lead to the lock of the holder. No lock is held by two threads, and no NEW or FORK still to be
-- run has been run.
use Rattle.std.specs.Prelude.{◌≡◌, ◌≢◌, List, [], ◌∷◌, ◌++◌, map, ℕ, ◌<◌}
use Rattle.std.proofs.Math.Option.{Option, some}
use Rattle.table.specs.Program.{Code, Program, params}
use Rattle.table.specs.WellFormed.{Scoped, onces, In, NoDup}
use Rattle.rules.specs.Label.{Label, placed}
use Rattle.rules.specs.Model.{Kept, renamed, Place, Recorded, Model, Row}
use Rattle.rules.specs.Verdict.{Calls, Reached}
use Rattle.run.specs.Run.{Env, Open, held, alternative, called, Frame, frame, Thread, ended, at, locks, holds}
use Rattle.run.proofs.Laws.History.{Activation, root, child, routine, parent, Item, item, age, History, Single}
use Rattle.run.proofs.Laws.History.{Ran, Stands, By, Longer, Stands-up, By-up}

-- the thread holds the lock
abbrev pub Holds : Thread → ℕ → Type 0
Holds x l = In l (holds x)

-- the activation of what follows an open block or call
abbrev pub under : Open → Activation → Activation
under (held l) A = A
under alternative A = A
under called A = parent A

-- the NEW and FORK items that a code, the code after all that is open, and a thread may still run
abbrev pub items : Activation → Code → List Item
items A c = map (item A) (onces c)

abbrev pub later : Activation → List Frame → List Item
later A [] = []
later A (frame o e c ∷ fs) = items (under o A) c ++ later (under o A) fs

abbrev pub todo : Activation → Thread → List Item
todo A ended = []
todo A (at c e fs) = items A c ++ later A fs

module _ (P : Program) where
  -- what the code records at the place is in the model of the activation's routine
  abbrev pub Inside : Activation → Place → Code → Type 0
  Inside A w c = (a b : ℕ) (l : Label) → Recorded P c w a b l → Kept a b l → Model P (routine A) a b l

  -- the row of the routine r, called at the place, is in the model of the activation's routine
  abbrev pub Passes : Activation → ℕ → Label → Option ℕ → List ℕ → Type 0
  Passes A r θ h xs =
      (a b : ℕ) (l : Label) (x y : ℕ)
      → Row P r a b l → renamed h xs a ≡ some x → renamed h xs b ≡ some y → Kept x y (placed θ l)
      → Model P (routine A) x y (placed θ l)

  -- each caller of the activation has in its model what its CALL passes
  abbrev pub Lawful : History → Activation → Type 0
  Lawful H root = Unit {0}
  Lawful H (child p r θ h xs t n) = Lawful H p × By H p θ t × Passes p r θ h xs × Reached P r

  -- a dependency: thread t holds the lock u while it wants the lock v, as a pair of an activation's model says
  pub record Dependency (H : History) (t u v : ℕ) : Type 0 where
    pub act : Activation
    pub from : ℕ
    pub to : ℕ
    pub label : Label
    pub differ : from ≢ to
    pub lawful : Lawful H act
    pub by : By H act label t
    pub pair : Model P (routine act) from to label
    pub stands_from : Stands P H act from u
    pub stands_to : Stands P H act to v

  -- dependencies of thread t, each from a lock of the list ls, lead to the lock v from the lock u
  pub data Path (H : History) (t : ℕ) (ls : List ℕ) (v : ℕ) : ℕ → Type 0 where
    there : {u : ℕ} → u ≡ v → Path H t ls v u
    onward : {u w : ℕ} → In u ls → Dependency H t u w → Path H t ls v w → Path H t ls v u

  -- the holder h stands for a lock of the list ls, to which dependencies lead from the lock u
  pub record Over (H : History) (t : ℕ) (A : Activation) (h : Option ℕ) (ls : List ℕ) (u : ℕ) : Type 0 where
    pub name : ℕ
    pub lock : ℕ
    pub is_name : h ≡ some name
    pub stands : Stands P H A name lock
    pub held : In lock ls
    pub path : Path H t ls lock u

  -- thread t, which holds the locks ls, is or will be at the code, in the activation and with the names e; a root in
  -- the nest stands for a lock that it holds (kept)
  pub record Here (H : History) (t : ℕ) (A : Activation) (e : Env) (c : Code) (ls : List ℕ) : Type 0 where
    pub place : Place
    pub scope : List ℕ
    pub by : By H A place.thread t
    pub inside : Inside A place c
    pub scoped : Scoped P (params P (routine A)) scope c
    pub stands : (x : ℕ) → In x scope → Stands P H A (place.roots x) (e x)
    pub kept : (z : ℕ) → In z place.nest → (u : ℕ) × Stands P H A z u × In u ls
    pub over : (u : ℕ) → In u ls → Over H t A place.holder ls u
    pub reach : (q : ℕ) → Calls c q → Reached P q

  -- all that is open around a code of the activation
  abbrev pub Frames : History → ℕ → Activation → List Frame → Type 0
  Frames H t A [] = Unit {0}
  Frames H t A (frame o e c ∷ fs) =
      Here H t (under o A) e c (locks fs) × Frames H t (under o A) fs

  -- thread t, of the form x, in the activation
  abbrev pub Explained : History → ℕ → Activation → Thread → Type 0
  Explained H t A ended = Unit {0}
  Explained H t A (at c e fs) =
      Here H t A e c (locks fs) × Frames H t A fs × NoDup (items A c ++ later A fs) × Lawful H A

  -- the invariant: acts gives the present activation of each thread and forms its form; all serial numbers are below n
  pub record Invariant (H : History) (n : ℕ) (acts : ℕ → Activation) (forms : ℕ → Thread) : Type 0 where
    pub explained : (u : ℕ) → Explained H u (acts u) (forms u)
    pub alone : (u v l : ℕ) → Holds (forms u) l → Holds (forms v) l → u ≡ v
    pub apart : (u v : ℕ) (k : Item) → In k (todo (acts u) (forms u)) → In k (todo (acts v) (forms v)) → u ≡ v
    pub unrun : (u : ℕ) (k : Item) → In k (todo (acts u) (forms u)) → Ran H k → ⊥
    pub young : (u : ℕ) (k : Item) → In k (todo (acts u) (forms u)) → age k < n
    pub ran_young : (k : Item) → Ran H k → age k < n
    pub made_once : Single H.maker H.made
    pub started_once : Single H.starter H.forks

-- what is explained by a history is explained by a longer one
module _ (P : Program) {H K : History} (up : Longer H K) where
  pub Lawful-up : (A : Activation) → Lawful P H A → Lawful P K A
  Lawful-up root w = tt
  Lawful-up (child p r θ h xs t n) w = (Lawful-up p w.0, By-up P up p θ t w.1, w.2, w.3)

  Dependency-up : (t u v : ℕ) → Dependency P H t u v → Dependency P K t u v
  Dependency-up t u v w = record {
    act = w.act;
    from = w.from;
    to = w.to;
    label = w.label;
    differ = w.differ;
    lawful = Lawful-up w.act w.lawful;
    by = By-up P up w.act w.label t w.by;
    pair = w.pair;
    stands_from = Stands-up P up w.act w.from u w.stands_from;
    stands_to = Stands-up P up w.act w.to v w.stands_to;
  }

  Path-up : {t v : ℕ} {ls : List ℕ} {u : ℕ} → Path P H t ls v u → Path P K t ls v u
  Path-up (there e) = there e
  Path-up {t} (onward {u = u} {w = w} i d p) = onward i (Dependency-up t u w d) (Path-up p)

  pub Here-up : {t : ℕ} {A : Activation} {e : Env} {c : Code} {ls : List ℕ} → Here P H t A e c ls → Here P K t A e c ls
  Here-up {t} {A} {e} w = record {
    place = w.place;
    scope = w.scope;
    by = By-up P up A w.place.thread t w.by;
    inside = w.inside;
    scoped = w.scoped;
    stands = λ x i. Stands-up P up A (w.place.roots x) (e x) (w.stands x i);
    kept = λ z i. let r = w.kept z i in (r.0, Stands-up P up A z r.0 r.1, r.2);
    over = λ u i. let r = w.over u i in record {
      name = r.name;
      lock = r.lock;
      is_name = r.is_name;
      stands = Stands-up P up A r.name r.lock r.stands;
      held = r.held;
      path = Path-up r.path;
    };
    reach = w.reach;
  }

  pub Frames-up : (t : ℕ) (A : Activation) (fs : List Frame) → Frames P H t A fs → Frames P K t A fs
  Frames-up t A [] w = tt
  Frames-up t A (frame o e c ∷ fs) w =
      (Here-up w.0, Frames-up t (under o A) fs w.1)

  pub Explained-up : (t : ℕ) (A : Activation) (x : Thread) → Explained P H t A x → Explained P K t A x
  Explained-up t A ended w = tt
  Explained-up t A (at c e fs) w = (Here-up w.0, Frames-up t A fs w.1, w.2, Lawful-up A w.3)
