-- Each kind of step keeps the invariant.
use Rattle.std.specs.Prelude.{◌≡◌, refl, ◌⊎◌, List, [], ◌∷◌, ◌++◌, map, ℕ, zero, suc, ◌≤◌, ◌<◌, length, get_or}
use Rattle.std.proofs.Common.{sym, ap, subst, inl, inr, append_assoc, append-nil, arith, le_refl}
use Rattle.std.proofs.lemmas.List.{map-append}
use Rattle.std.proofs.Math.Option.{some, none-ne-some}
use Rattle.std.proofs.Math.ListN.{get_elem?}
use Rattle.table.specs.Program.{Code, end, new, lock, fork, choice, call, mirror, Program, params, body, names}
use Rattle.table.specs.WellFormed.{onces, In}
use Rattle.table.specs.WellFormed.{NoDup, makes, starts, WellFormed}
use Rattle.rules.specs.Label.{placed}
use Rattle.rules.specs.Model.{at_head, bind, naming, at_call, records, in_new}
use Rattle.rules.specs.Verdict.{Reached, then}
use Rattle.rules.proofs.Laws.Nest.{by_bind}
use Rattle.run.specs.Run.{Env, pass, Open, held, alternative, called, Frame, frame, Thread, ended, at}
use Rattle.run.specs.Run.{locks}
use Rattle.table.proofs.Laws.Lists.{In-left, In-right, In-split, In-skip, In-map, NoDup-skip, NoDup-right}
use Rattle.table.proofs.Laws.Lists.{NoDup-left, NoDup-apart, NoDup-join, NoDup-map, names_in, get_or_in}
use Rattle.run.proofs.Laws.Update.{upd, upd_same, upd_both}
use Rattle.run.proofs.Laws.History.{Activation, child, Item, item, age, History, Ran, Stands}
use Rattle.run.proofs.Laws.History.{local, passed, Longer, same_history, with_lock, with_thread, lock_longer}
use Rattle.run.proofs.Laws.History.{thread_longer, done_back, done_single}
use Rattle.run.proofs.Laws.Invariant.{under, items, later, todo, Lawful, Here, Here-up, Frames-up, Lawful-up}
use Rattle.run.proofs.Laws.Invariant.{Holds}
use Rattle.run.proofs.Laws.Invariant.{Explained, Invariant}
use Rattle.run.proofs.Laws.Change.{Fresh, Free, change}
use Rattle.run.proofs.Laws.Places.{under_lawful, choice_first, choice_second, choice_rest, lock_rest, fork_rest}
use Rattle.run.proofs.Laws.Places.{call_rest, lock_block, fork_block, mirror_rest}

-- an entry of a list, in the list of the values of f
map_at :
    {A B : Type 0} (f : A → B) (xs : List A) (i : ℕ) {x : A}
    → get_elem? xs i ≡ some x → get_elem? (map f xs) i ≡ some (f x)
map_at f [] i {x} e = absurd (none-ne-some x e)
map_at f (y ∷ xs) zero e = ap some (ap f (cc))
map_at f (y ∷ xs) (suc i) e = map_at f xs i e

-- the items of a code with blocks, sorted out
module _ (A : Activation) (L : List Item) where
  items_lock : (x : ℕ) (c d : Code) → items A (lock x c d) ++ L ≡ items A c ++ (items A d ++ L)
  items_lock x c d = rw (map-append, append_assoc)

  items_fork : (i : ℕ) (c d : Code) → items A (fork i c d) ++ L ≡ item A (starts i) ∷ (items A c ++ (items A d ++ L))
  items_fork i c d = ap (λ (l : List Item). item A (starts i) ∷ l) (items_lock i c d)

  items_choice : (a b c : Code) → items A (choice a b c) ++ L ≡ items A a ++ (items A b ++ (items A c ++ L))
  items_choice a b c = rw (map-append, map-append, append_assoc, append_assoc)

under_holds :
    (o : Open) (e : Env) (c : Code) (fs : List Frame) (l : ℕ) → In l (locks fs) → In l (locks (frame o e c ∷ fs))
under_holds (held m) e c fs l i = inr i
under_holds alternative e c fs l i = i
under_holds called e c fs l i = i

-- the state is explained, and the next step is thread t's, which is in the activation A
module _
    (P : Program) (H : History) (n : ℕ) (acts : ℕ → Activation) (forms : ℕ → Thread)
    (g : Invariant P H n acts forms) (t : ℕ) where
  abbrev A : Activation
  A = acts t

  explained_at : (y : Thread) → forms t ≡ y → Explained P H t A y
  explained_at y eq = subst (Explained P H t A) eq (g.explained t)

  todo_at : (y : Thread) → forms t ≡ y → (k : Item) → In k (todo A y) → In k (todo A (forms t))
  todo_at y eq k i = rw eq i

  holds_at : (y : Thread) → forms t ≡ y → (l : ℕ) → Holds y l → Holds (forms t) l
  holds_at y eq l i = rw eq i

  -- a step that adds nothing to the history, from the form y to the form x
  keep :
      (y x : Thread) (B : Activation) → forms t ≡ y → Explained P H t B x
      → ((k : Item) → In k (todo B x) → In k (todo A y)) → ((l : ℕ) → Holds x l → Holds y l ⊎ Free forms t l)
      → Invariant P H n (upd acts t B) (upd forms t x)
  keep y x B eq f b h = change P H H n n t B x acts forms g (record {
    longer = same_history H;
    more = le_refl n;
    explained = f;
    before = λ k i. inl (todo_at y eq k (b k i));
    ran = λ k r. inl r;
    free = λ l i. elim (h l i) [ inl j ↦ inl (holds_at y eq l j) | inr q ↦ inr q ];
    made_once = g.made_once;
    started_once = g.started_once;
  })

  -- the END of the thread's first body or block
  pub step_ended : (e : Env) → forms t ≡ at end e [] → Invariant P H n (upd acts t A) (upd forms t ended)
  step_ended e eq = keep (at end e []) ended A eq tt (λ k i. i) (λ l i. absurd i)

  -- END or OTHER
  pub step_end :
      (e : Env) (o : Open) (f : Env) (c : Code) (fs : List Frame) → forms t ≡ at end e (frame o f c ∷ fs)
      → Invariant P H n (upd acts t (under o A)) (upd forms t (at c f fs))
  step_end e o f c fs eq =
      let w = explained_at (at end e (frame o f c ∷ fs)) eq in
      keep (at end e (frame o f c ∷ fs)) (at c f fs) (under o A) eq
      (w.1.0, w.1.1, w.2, under_lawful P H o A w.3)
      (λ k i. i)
      (λ l i. inl (under_holds o f c fs l i))

  -- CHOICE
  module _ (a b c : Code) (e : Env) (fs : List Frame) (eq : forms t ≡ at (choice a b c) e fs) where
    abbrev R : List Item
    R = items A c ++ later A fs

    choice_at : Explained P H t A (at (choice a b c) e fs)
    choice_at = explained_at (at (choice a b c) e fs) eq

    -- into the alternative d
    into :
        (d : Code) → Here P H t A e d (locks fs)
        → (NoDup (items A a ++ (items A b ++ R)) → NoDup (items A d ++ R))
        → ((k : Item) → In k (items A d ++ R) → In k (items A a ++ (items A b ++ R)))
        → Invariant P H n (upd acts t A) (upd forms t (at d e (frame alternative e c ∷ fs)))
    into d h f i =
        keep (at (choice a b c) e fs) (at d e (frame alternative e c ∷ fs)) A eq
        (h, (choice_rest P choice_at.0, choice_at.1), f (rw items_choice at choice_at.2), choice_at.3)
        (λ k j. rw items_choice (i k j))
        (λ l j. inl j)

    pub step_first : Invariant P H n (upd acts t A) (upd forms t (at a e (frame alternative e c ∷ fs)))
    step_first =
        into a (choice_first P choice_at.0) (NoDup-skip (items A a) (items A b) R)
        (λ k. In-skip k (items A a) (items A b) R)

    pub step_second : Invariant P H n (upd acts t A) (upd forms t (at b e (frame alternative e c ∷ fs)))
    step_second =
        into b (choice_second P choice_at.0) (NoDup-right (items A a) (items A b ++ R))
        (λ k. In-right k (items A a) (items A b ++ R))

  -- LOCK, where no other thread holds the lock
  pub step_lock :
      (x : ℕ) (c d : Code) (e : Env) (fs : List Frame) → forms t ≡ at (lock x c d) e fs → Free forms t (e x)
      → Invariant P H n (upd acts t A) (upd forms t (at c e (frame (held (e x)) e d ∷ fs)))
  step_lock x c d e fs eq free =
      let w = explained_at (at (lock x c d) e fs) eq in
      keep (at (lock x c d) e fs) (at c e (frame (held (e x)) e d ∷ fs)) A eq (
        lock_block P g.made_once w.0 w.3,
        (lock_rest P w.0, w.1),
        (rw items_lock at w.2),
        w.3,
      )
      (λ k i. rw items_lock i)
      (λ l i. elim i [ inl p ↦ inr (rw p free) | inr j ↦ inl j ])

  -- MIRROR
  pub step_mirror :
      (x y : ℕ) (c : Code) (e : Env) (fs : List Frame) → forms t ≡ at (mirror x y c) e fs
      → Invariant P H n (upd acts t A) (upd forms t (at c (bind x (e y) e) fs))
  step_mirror x y c e fs eq =
      let w = explained_at (at (mirror x y c) e fs) eq in
      keep (at (mirror x y c) e fs) (at c (bind x (e y) e) fs) A eq (mirror_rest P w.0, w.1, w.2, w.3)
      (λ k i. i)
      (λ l i. inl i)

  -- NEW
  module _ (x : ℕ) (c : Code) (e : Env) (fs : List Frame) (eq : forms t ≡ at (new x c) e fs) where
    abbrev made_item : Item
    made_item = item A (makes x)

    abbrev after_new : History
    after_new = with_lock H made_item

    abbrev new_todo : List Item
    new_todo = items A c ++ later A fs

    new_longer : Longer H after_new
    new_longer = lock_longer H made_item

    was_new : (k : Item) → (k ≡ made_item) ⊎ In k new_todo → In k (todo A (forms t))
    was_new k i = todo_at (at (new x c) e fs) eq k i

    new_here : Here P H t A e (new x c) (locks fs) → Here P after_new t A (bind x H.made e) c (locks fs)
    new_here v = let w = Here-up P new_longer v in record {
      place = naming x x w.place;
      scope = x ∷ w.scope;
      by = w.by;
      inside = λ a b l r. w.inside a b l (in_new r);
      scoped = w.scoped.1;
      stands = λ y i. by_bind (Stands P after_new A) x x H.made w.place.roots e y (λ p. made_here w)
          (λ ne. elim i [ inl p ↦ absurd (ne p) | inr j ↦ w.stands y j ]);
      kept = w.kept;
      over = w.over;
      reach = w.reach;
    }
      where
        made_here : (w : Here P after_new t A e (new x c) (locks fs)) → Stands P after_new A x H.made
        made_here w =
            local w.scoped.0 (let q : H.made < suc H.made = omega arith in q)
            (upd_same H.maker H.made made_item H.made refl)

    new_ran :
        (k : Item) → ¬ In made_item new_todo → Ran after_new k
        → Ran H k ⊎ (In k (todo A (forms t)) × ¬ In k new_todo)
    new_ran k out (inr d) = inl (inr d)
    new_ran k out (inl d) = elim (done_back H.maker H.made made_item k d) [
      | inl q ↦ inl (inl q)
      | inr q ↦ inr (was_new k (inl (sym q)), subst (λ (z : Item). ¬ In z new_todo) q out)
    ]

    pub step_new : Invariant P after_new n (upd acts t A) (upd forms t (at c (bind x H.made e) fs))
    step_new =
        let w : Explained P H t A (at (new x c) e fs) = explained_at (at (new x c) e fs) eq in
        change P H after_new n n t A (at c (bind x H.made e) fs) acts forms g (record {
          longer = new_longer;
          more = le_refl n;
          explained = (new_here w.0, Frames-up P new_longer t A fs w.1, w.2.1, Lawful-up P new_longer A w.3);
          before = λ k i. inl (was_new k (inr i));
          ran = λ k r. new_ran k w.2.0 r;
          free = λ l i. inl (holds_at (at (new x c) e fs) eq l i);
          made_once =
              done_single H.maker H.made made_item g.made_once
              (λ d. g.unrun t made_item (was_new made_item (inl refl)) (inl d));
          started_once = g.started_once;
        })

  -- FORK: the old thread goes on, then the new one is added
  module _ (i : ℕ) (c d : Code) (e : Env) (fs : List Frame) (eq : forms t ≡ at (fork i c d) e fs) where
    abbrev start_item : Item
    start_item = item A (starts i)

    abbrev after_fork : History
    after_fork = with_thread H start_item

    abbrev rest_todo : List Item
    rest_todo = items A d ++ later A fs

    abbrev both_todo : List Item
    both_todo = items A c ++ rest_todo

    was_fork : (k : Item) → (k ≡ start_item) ⊎ In k both_todo → In k (todo A (forms t))
    was_fork k j = todo_at (at (fork i c d) e fs) eq k (subst (In k) (sym (items_fork A (later A fs) i c d)) j)

    fork_ran : (k : Item) → Ran after_fork k → Ran H k ⊎ (start_item ≡ k)
    fork_ran k (inl r) = inl (inl r)
    fork_ran k (inr r) = elim (done_back H.starter H.forks start_item k r) [ inl q ↦ inl (inr q) | inr q ↦ inr q ]

    abbrev fork_at : Explained P H t A (at (fork i c d) e fs)
    fork_at = explained_at (at (fork i c d) e fs) eq

    up : Longer H after_fork
    up = thread_longer H start_item

    fork_here : Here P after_fork t A e (fork i c d) (locks fs)
    fork_here = Here-up P up fork_at.0

    fork_lawful : Lawful P after_fork A
    fork_lawful = Lawful-up P up A fork_at.3

    once : (¬ In start_item both_todo) × NoDup both_todo
    once = subst NoDup (items_fork A (later A fs) i c d) fork_at.2

    -- the item of the FORK itself is not run again
    not_again : (k : Item) → start_item ≡ k → ¬ In k both_todo
    not_again k q j = once.0 (rw q j)

    abbrev acts₁ : ℕ → Activation
    acts₁ = upd acts t A

    abbrev forms₁ : ℕ → Thread
    forms₁ = upd forms t (at d e fs)

    fork_old : Invariant P after_fork n acts₁ forms₁
    fork_old = change P H after_fork n n t A (at d e fs) acts forms g (record {
      longer = up;
      more = le_refl n;
      explained = (
        fork_rest P fork_here,
        Frames-up P up t A fs fork_at.1,
        NoDup-right (items A c) rest_todo once.1,
        fork_lawful,
      );
      before = λ k j. inl (was_fork k (inr (In-right k (items A c) rest_todo j)));
      ran = λ k r. elim (fork_ran k r) [
        | inl h ↦ inl h
        | inr q ↦ inr (was_fork k (inl (sym q)), λ j. not_again k q (In-right k (items A c) rest_todo j))
      ];
      free = λ l j. inl (holds_at (at (fork i c d) e fs) eq l j);
      made_once = g.made_once;
      started_once =
          done_single H.starter H.forks start_item g.started_once
          (λ q. g.unrun t start_item (was_fork start_item (inl refl)) (inr q));
    })

    abbrev u : ℕ
    u = suc H.forks

    fork_fresh : (k : Item) → In k (items A c) → Fresh after_fork n acts₁ forms₁ k
    fork_fresh k j =
        let here : In k both_todo = In-left k (items A c) rest_todo j in
        let was : In k (todo A (forms t)) = was_fork k (inr here) in (
          upd_both acts forms t A (at d e fs) (λ v B y. In k (todo B y) → ⊥)
              (λ q. NoDup-apart k (items A c) rest_todo once.1 j q)
              (λ v ne q. ne (g.apart v t k q was)),
          (λ r. elim (fork_ran k r) [ inl h ↦ g.unrun t k was h | inr q ↦ not_again k q here ]),
          g.young t k was,
        )

    pub step_fork : Invariant P after_fork n (upd acts₁ u A) (upd forms₁ u (at c e []))
    step_fork = change P after_fork after_fork n n u A (at c e []) acts₁ forms₁ fork_old (record {
      longer = same_history after_fork;
      more = le_refl n;
      explained = (
        fork_block P (
          H.forks,
          refl,
          (let q : H.forks < suc H.forks = omega arith in q),
          upd_same H.starter H.forks start_item H.forks refl,
        ) fork_here,
        tt,
        rw append-nil (NoDup-left (items A c) rest_todo once.1),
        fork_lawful,
      );
      before = λ k j. inr (fork_fresh k (rw append-nil at j));
      ran = λ k r. inl r;
      free = λ l j. absurd j;
      made_once = fork_old.made_once;
      started_once = fork_old.started_once;
    })

  -- CALL
  module _
      (wf : WellFormed P) (r : ℕ) (xs : List ℕ) (c : Code) (e : Env) (fs : List Frame)
      (eq : forms t ≡ at (call r xs c) e fs) where
    abbrev call_at : Explained P H t A (at (call r xs c) e fs)
    call_at = explained_at (at (call r xs c) e fs) eq

    abbrev site : Here P H t A e (call r xs c) (locks fs)
    site = call_at.0

    abbrev callee : Activation
    callee = child A r site.place.thread site.place.holder (map site.place.roots xs) t n

    abbrev call_todo : List Item
    call_todo = items A c ++ later A fs

    reached : Reached P r
    reached = site.reach r (inl refl)

    call_stands : (x : ℕ) → In x (names (params P r)) → Stands P H callee x (pass xs e x)
    call_stands x j = let q = names_in (params P r) x j in step q.0 q.1 q.2
      where
        step : (i : ℕ) → x ≡ suc i → i < params P r → Stands P H callee x (pass xs e x)
        step i p lt =
            let len : length xs ≡ params P r = site.scoped.1 in
            let k = get_or_in xs i (omega arith) in
            let name = site.stands (get_or xs i 0) (site.scoped.2 (get_or xs i 0) k.0) in
            subst (λ (y : ℕ). Stands P H callee y (pass xs e y)) (sym p)
            (passed lt (map_at site.place.roots xs i k.1) name)

    call_here_lem : Here P H t callee (pass xs e) (body P r) (locks fs)
    call_here_lem = record {
      place = at_head;
      scope = names (params P r);
      by = refl;
      inside = λ a b l w k. records w k;
      scoped = wf.scoped r site.scoped.0;
      stands = call_stands;
      kept = λ z i. absurd i;
      over = λ u i. let k = site.over u i in record {
        name = 0;
        lock = k.lock;
        is_name = refl;
        stands = passed (let z : 0 ≤ params P r = omega arith in z) k.is_name k.stands;
        held = k.held;
        path = k.path;
      };
      reach = λ q i. then reached i;
    }

    abbrev form : Thread
    form = at (body P r) (pass xs e) (frame called e c ∷ fs)

    was_call : (k : Item) → In k call_todo → In k (todo A (forms t))
    was_call k j = todo_at (at (call r xs c) e fs) eq k j

    call_fresh : (k : Item) → In k (items callee (body P r)) → Fresh H (suc n) acts forms k
    call_fresh k j =
        let q = In-map (item callee) k (onces (body P r)) j in
        let a : age k ≡ n = ap age q.2 in (
          (λ v i. let y : age k < n = g.young v k i in omega arith),
          (λ s. let y : age k < n = g.ran_young k s in omega arith),
          omega arith,
        )

    call_once : NoDup (items callee (body P r) ++ call_todo)
    call_once =
        NoDup-join (items callee (body P r)) call_todo
        (NoDup-map (item callee) (λ x y q. cc) (onces (body P r)) (wf.once r site.scoped.0))
        call_at.2
        (λ k i j. (call_fresh k i).0 t (was_call k j))

    pub step_call : (B : Activation) × Invariant P H (suc n) (upd acts t B) (upd forms t form)
    step_call = (
      callee,
      change P H H n (suc n) t callee form acts forms g (record {
        longer = same_history H;
        more = omega arith;
        explained = (
          call_here_lem,
          (call_rest P site, call_at.1),
          call_once,
          (
            call_at.3,
            site.by,
            (λ a b l x y w p q kept. site.inside x y (placed site.place.thread l)
                (at_call w.1 w.2 w.3 w.4 p q (ap (placed site.place.thread) w.5)) kept),
            reached,
          ),
        );
        before = λ k j. elim (In-split k (items callee (body P r)) call_todo j) [
          | inl i ↦ inr (call_fresh k i)
          | inr i ↦ inl (was_call k i)
        ];
        ran = λ k r. inl r;
        free = λ l j. inl (holds_at (at (call r xs c) e fs) eq l j);
        made_once = g.made_once;
        started_once = g.started_once;
      }),
    )
