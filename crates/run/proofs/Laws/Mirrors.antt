-- In every run a name and its root stand for one lock, so a mirror and the name that it mirrors do.
use Rattle.std.specs.Prelude.{◌≡◌, refl, List, [], ◌∷◌, ◌++◌, ℕ, zero, suc, ◌<◌, length, get_or, set}
use Rattle.std.proofs.Common.{sym, ap, ◌∙◌, subst, inl, inr}
use Rattle.table.specs.Program.{Code, end, new, lock, fork, choice, call, mirror, Program, params, body, names}
use Rattle.table.specs.WellFormed.{In, Scoped, Fresh, WellFormed}
use Rattle.rules.specs.Model.{Place, at_head, bind, naming, under_lock, under_fork}
use Rattle.rules.proofs.Laws.Nest.{by_nest, by_bind}
use Rattle.run.specs.Run.{Env, pass, held, alternative, called, Frame, frame, Thread, ended, at, State, thread}
use Rattle.run.specs.Run.{start, put, taken?, Side, first, second, step, Turn, turn, run}

-- StandsIn P r c w s: the code c stands in the body of routine r, at the place w and with the names s in scope
pub data StandsIn (P : Program) (r : ℕ) : Code → Place → List ℕ → Type 0 where
  at_head_lem : StandsIn P r (body P r) at_head (names (params P r))
  after_new : {x : ℕ} {c : Code} {w : Place} {s : List ℕ}
      → StandsIn P r (new x c) w s
      → StandsIn P r c (naming x x w) (x ∷ s)
  in_lock : {x : ℕ} {c d : Code} {w : Place} {s : List ℕ}
      → StandsIn P r (lock x c d) w s
      → StandsIn P r c (under_lock (w.roots x) w) s
  after_lock : {x : ℕ} {c d : Code} {w : Place} {s : List ℕ}
      → StandsIn P r (lock x c d) w s
      → StandsIn P r d w s
  in_fork : {i : ℕ} {c d : Code} {w : Place} {s : List ℕ}
      → StandsIn P r (fork i c d) w s
      → StandsIn P r c (under_fork i w) s
  after_fork : {i : ℕ} {c d : Code} {w : Place} {s : List ℕ}
      → StandsIn P r (fork i c d) w s
      → StandsIn P r d w s
  in_first : {u v c : Code} {w : Place} {s : List ℕ}
      → StandsIn P r (choice u v c) w s
      → StandsIn P r u w s
  in_second : {u v c : Code} {w : Place} {s : List ℕ}
      → StandsIn P r (choice u v c) w s
      → StandsIn P r v w s
  after_choice : {u v c : Code} {w : Place} {s : List ℕ}
      → StandsIn P r (choice u v c) w s
      → StandsIn P r c w s
  after_call : {q : ℕ} {xs : List ℕ} {c : Code} {w : Place} {s : List ℕ}
      → StandsIn P r (call q xs c) w s
      → StandsIn P r c w s
  after_mirror : {x y : ℕ} {c : Code} {w : Place} {s : List ℕ}
      → StandsIn P r (mirror x y c) w s
      → StandsIn P r c (naming x (w.roots y) w) (x ∷ s)

-- each name in scope stands for the lock of its root, which is in scope and its own root
abbrev pub OneLock : Place → List ℕ → Env → Type 0
OneLock w s e =
    (x : ℕ) → In x s
    → In (w.roots x) s × (w.roots (w.roots x) ≡ w.roots x) × (e x ≡ e (w.roots x))

-- the code c is of a routine of the program, and with the names e a name and its root stand for one lock there
pub record ByRoots (P : Program) (c : Code) (e : Env) : Type 0 where
  pub routine : ℕ
  pub place : Place
  pub scope : List ℕ
  pub within : routine < length P
  pub stands : StandsIn P routine c place scope
  pub one_lock : OneLock place scope e

-- so two names of one root stand for one lock
pub same_root :
    {P : Program} {c : Code} {e : Env} (m : ByRoots P c e) (x y : ℕ) → In x m.scope → In y m.scope
    → m.place.roots x ≡ m.place.roots y → e x ≡ e y
same_root {e = e} m x y i j p = (m.one_lock x i).2 ∙ ap e p ∙ sym (m.one_lock y j).2

-- after a NEW or MIRROR that gives the name x, which is not in scope before it: its root is z, and its lock l
module _ (x z l : ℕ) (w : Place) (s : List ℕ) (e : Env) (out : ¬ In x s) (f : OneLock w s e) where
  -- v is a root in scope, and its lock is u
  abbrev Root : ℕ → ℕ → Type 0
  Root v u = In v (x ∷ s) × (bind x z w.roots v ≡ v) × (u ≡ bind x l e v)

  -- a root of the scope is still one
  still : (v u : ℕ) → In v s → w.roots v ≡ v → u ≡ e v → Root v u
  still v u i p q = (inr i, r.0, r.1)
    where
      r : (bind x z w.roots v ≡ v) × (u ≡ bind x l e v)
      r =
          by_bind (λ a b. (a ≡ v) × (u ≡ b)) x z l w.roots e v
          (λ same. absurd (out (subst (λ (y : ℕ). In y s) same i))) (λ other. (p, q))

  -- where z is one with the lock l, all is as it was
  named : Root z l → OneLock (naming x z w) (x ∷ s) (bind x l e)
  named root y i =
      by_bind Root x z l w.roots e y (λ same. root)
      (λ other. elim i [
        | inl p ↦ absurd (other p)
        | inr j ↦ (let r = f y j in still (w.roots y) (e y) r.0 r.1 r.2)
      ])

-- the local of a NEW is its own root, whatever its lock
made :
    (x l : ℕ) (w : Place) (s : List ℕ) (e : Env) → ¬ In x s → OneLock w s e
    → OneLock (naming x x w) (x ∷ s) (bind x l e)
made x l w s e out f = named x x l w s e out f (inl refl, r.0, r.1)
  where
    r : (bind x x w.roots x ≡ x) × (l ≡ bind x l e x)
    r = by_bind (λ a b. (a ≡ x) × (l ≡ b)) x x l w.roots e x (λ same. (refl, refl)) (λ other. absurd (other refl))

-- the local of a MIRROR has the root and the lock of the name that it mirrors
mirrors :
    (x y : ℕ) (w : Place) (s : List ℕ) (e : Env) → ¬ In x s → In y s → OneLock w s e
    → OneLock (naming x (w.roots y) w) (x ∷ s) (bind x (e y) e)
mirrors x y w s e out i f =
    let r = f y i in
    named x (w.roots y) (e y) w s e out f
    (still x (w.roots y) (e y) w s e out f (w.roots y) (e y) r.0 r.1 r.2)

module _ (P : Program) (wf : WellFormed P) where
  -- the code has its names in scope, and each of its locals is new there
  formed :
      {r : ℕ} {c : Code} {w : Place} {s : List ℕ} → r < length P → StandsIn P r c w s
      → Scoped P (params P r) s c × Fresh s c
  formed {r} lt at_head_lem = (wf.scoped r lt, wf.fresh r lt)
  formed lt (after_new i) = let h = formed lt i in (h.0.1, h.1.1)
  formed lt (in_lock i) = let h = formed lt i in (h.0.1, h.1.0)
  formed lt (after_lock i) = let h = formed lt i in (h.0.2, h.1.1)
  formed lt (in_fork i) = let h = formed lt i in (h.0.0, h.1.0)
  formed lt (after_fork i) = let h = formed lt i in (h.0.1, h.1.1)
  formed lt (in_first i) = let h = formed lt i in (h.0.0, h.1.0)
  formed lt (in_second i) = let h = formed lt i in (h.0.1, h.1.1)
  formed lt (after_choice i) = let h = formed lt i in (h.0.2, h.1.2)
  formed lt (after_call i) = let h = formed lt i in (h.0.3, h.1)
  formed lt (after_mirror i) = let h = formed lt i in (h.0.2, h.1.1)

  -- a part d of the code c, at the place v and with the names t in scope
  part :
      {c d : Code} {e g : Env} {v : Place} {t : List ℕ} (m : ByRoots P c e)
      → StandsIn P m.routine d v t → OneLock v t g
      → ByRoots P d g
  part {v = v} {t = t} m i f =
      record { routine = m.routine; place = v; scope = t; within = m.within; stands = i; one_lock = f }

  -- the body of a routine, where each name is its own root
  whole : (r : ℕ) (e : Env) → r < length P → ByRoots P (body P r) e
  whole r e lt = record {
    routine = r;
    place = at_head;
    scope = names (params P r);
    within = lt;
    stands = at_head_lem;
    one_lock = λ x i. (i, refl, refl);
  }

  -- so it is with the code that each thread is at, and the code after each block and call that is open
  abbrev AllFrames : List Frame → Type 0
  AllFrames [] = Unit {0}
  AllFrames (frame o e c ∷ fs) = ByRoots P c e × AllFrames fs

  abbrev AllOf : Thread → Type 0
  AllOf ended = Unit {0}
  AllOf (at c e fs) = ByRoots P c e × AllFrames fs

  abbrev All : List Thread → Type 0
  All [] = Unit {0}
  All (x ∷ xs) = AllOf x × All xs

  abbrev AllIn : State → Type 0
  AllIn s = All s.threads

  all_at : (xs : List Thread) (t : ℕ) → All xs → AllOf (get_or xs t ended)
  all_at [] t a = tt
  all_at (x ∷ xs) zero a = a.0
  all_at (x ∷ xs) (suc t) a = all_at xs t a.1

  all_set : (xs : List Thread) (t : ℕ) (y : Thread) → All xs → AllOf y → All (set xs t y)
  all_set [] t y a b = tt
  all_set (x ∷ xs) zero y a b = (b, a.1)
  all_set (x ∷ xs) (suc t) y a b = (a.0, all_set xs t y a.1 b)

  all_add : (xs : List Thread) (y : Thread) → All xs → AllOf y → All (xs ++ (y ∷ []))
  all_add [] y a b = (b, tt)
  all_add (x ∷ xs) y a b = (a.0, all_add xs y a.1 b)

  -- each step keeps it
  module _ (s : State) (t : ℕ) (a : AllIn s) where
    to : (x : Thread) → AllOf x → AllIn (put s t x)
    to x = all_set s.threads t x a

    all_step : (k : Side) (x : Thread) → AllOf x → AllIn (step P s t k x)
    unfolding step
    all_step k ended m = a
    all_step k (at end e []) m = to ended tt
    all_step k (at end e (frame o f c ∷ fs)) (m, ms) = to (at c f fs) ms
    all_step k (at (new x c) e fs) (m, ms) =
        let h = formed m.within m.stands in
        let f = made x s.made m.place m.scope e h.1.0 m.one_lock in
        to (at c (bind x s.made e) fs) (part m (after_new m.stands) f, ms)
    all_step k (at (lock x c d) e fs) (m, ms) =
        let z = m.place.roots x in
        let f = by_nest (λ v. OneLock v m.scope e) z m.place (λ i. m.one_lock) (λ n. m.one_lock) in
        elim (taken? s t (e x))
        as (λ q. AllIn (elim q [ yes h ↦ s | no n ↦ put s t (at c e (frame (held (e x)) e d ∷ fs)) ])) [
          | yes h ↦ a
          | no n ↦ to (at c e (frame (held (e x)) e d ∷ fs))
              (part m (in_lock m.stands) f, (part m (after_lock m.stands) m.one_lock, ms))
        ]
    all_step k (at (fork i c d) e fs) (m, ms) =
        all_add (set s.threads t (at d e fs)) (at c e [])
        (to (at d e fs) (part m (after_fork m.stands) m.one_lock, ms))
        (part m (in_fork m.stands) m.one_lock, tt)
    all_step first (at (choice c d g) e fs) (m, ms) =
        to (at c e (frame alternative e g ∷ fs))
        (part m (in_first m.stands) m.one_lock, (part m (after_choice m.stands) m.one_lock, ms))
    all_step second (at (choice c d g) e fs) (m, ms) =
        to (at d e (frame alternative e g ∷ fs))
        (part m (in_second m.stands) m.one_lock, (part m (after_choice m.stands) m.one_lock, ms))
    all_step k (at (call r xs c) e fs) (m, ms) =
        let lt = (formed m.within m.stands).0.0 in
        to (at (body P r) (pass xs e) (frame called e c ∷ fs))
        (whole r (pass xs e) lt, (part m (after_call m.stands) m.one_lock, ms))
    all_step k (at (mirror x y c) e fs) (m, ms) =
        let h = formed m.within m.stands in
        let f = mirrors x y m.place m.scope e h.1.0 h.0.1 m.one_lock in
        to (at c (bind x (e y) e) fs) (part m (after_mirror m.stands) f, ms)

  all_run : (turns : List Turn) (s : State) → AllIn s → AllIn (run P s turns)
  all_run [] s a = a
  all_run (k ∷ turns) s a =
      all_run turns (turn P s k) (all_step s k.0 a k.1 (thread s k.0) (all_at s.threads k.0 a))

  -- at every moment, wherever a thread is
  pub one_lock :
      (turns : List Turn) (t : ℕ) (c : Code) (e : Env) (fs : List Frame)
      → thread (run P (start P) turns) t ≡ at c e fs → ByRoots P c e
  one_lock turns t c e fs q =
      let a = all_run turns (start P) ((whole 0 (λ x. 0) wf.some_routine, tt), tt) in
      (subst AllOf q (all_at (run P (start P) turns).threads t a)).0
