-- Each program that a table can hold is accepted from its bytes.
use Rattle.std.specs.Prelude.{◌≡◌, refl, Bool, true, false, ◌||◌, List, [], ◌∷◌, ◌++◌, ℕ, suc, ◌+◌, ◌*◌, ◌-◌, ◌/◌, ◌%◌, ◌≤◌}
use Rattle.std.specs.Prelude.{◌<◌, eqb, length, get_or}
use Rattle.std.proofs.Common.{sym, ap, ◌∙◌, inl, inr, append_assoc, arith, take_at, drop_at, le-ltb, le-leb, eq-eqb, ne_eqb}
use Rattle.std.proofs.lemmas.Bool.{lt-leb}
use Rattle.table.specs.Constants.{most_routines, most_params, most_bytes, most_open, most_locals, most_forks}
use Rattle.table.specs.Constants.{END, OTHER}
use Rattle.table.specs.Program.{Code, end, new, lock, fork, choice, call, mirror, Routine, Program, empty}
use Rattle.table.specs.Program.{params}
use Rattle.table.specs.WellFormed.{In}
use Rattle.table.specs.Encoding.{encode, encode_bodies, counts, two_bytes, encode_table, Fits, WithinLimits}
use Rattle.table.specs.Check.{Item, a_new, a_lock, a_fork, a_choice, a_call, a_mirror, then, Place, past, starting}
use Rattle.table.specs.Check.{next_local, ok, more, in?, named}
use Rattle.table.specs.Check.{after, joined, go_on, block, item, at_head}
use Rattle.table.specs.Check.{accepted, bodies, small?, sections, check_table}
use Rattle.table.proofs.Laws.Sound.{closing, Stands, Each, Sits, counts_length, counts_params}
use Rattle.table.proofs.Laws.Fuel.{block_step}

pub In-in? : (x : ℕ) (s : List ℕ) → In x s → in? x s ≡ true
In-in? x [] x'' = elim x'' [ ]
In-in? x (y ∷ s) (inl e) = rw (eq-eqb x y e)
In-in? x (y ∷ s) (inr i) = step (eqb x y) (In-in? x s i)
  where
    step : (b : Bool) → in? x s ≡ true → (b || in? x s) ≡ true
    step true e = refl
    step false e = e

In-named : (s xs t : List ℕ) → ((x : ℕ) → In x xs → In x s) → named (length xs) s (xs ++ t) ≡ true
In-named s [] t h = refl
In-named s (x ∷ xs) t h = rw (In-in? x s (h x (inl refl))) (In-named s xs t (λ y i. h y (inr i)))

module _ (ks : List ℕ) (d : ℕ) (first : Bool) (w : Place) where
  -- a block from its first item and the rest
  by_item : (l t u : List ℕ) (i : Item) (c : Code) → item ks d first w l ≡ more i t → block ks d first (after w i) t
      ≡ ok c u → block ks d first w l ≡ ok (then i c) u
  by_item l t u i c e h = block_step ks d first w l ∙ ap (go_on (block ks) d first w) e ∙ ap (joined i) h

  new_item : (l : List ℕ) → w.made < most_locals → item ks d first w (1 ∷ l) ≡ more (a_new (next_local w)) l
  new_item l lt = rw (lt-leb most_locals w.made lt)

  lock_item_lem : (x : ℕ) (l t : List ℕ) (c : Code) → (d ≡ 0 → ⊥) → In x w.scope → block ks (d - 1) false w l
      ≡ ok c t → item ks d first w (2 ∷ x ∷ l) ≡ more (a_lock x c) t
  lock_item_lem x l t c nz i e = rw (ne_eqb d 0 nz, In-in? x w.scope i, e)

  fork_item : (l t : List ℕ) (c : Code) → (d ≡ 0 → ⊥) → w.started < most_forks → block ks (d - 1) false
      (starting w) l ≡ ok c t → item ks d first w (3 ∷ l) ≡ more (a_fork (w.started + 1) c) t
  fork_item l t c nz lt e = rw (ne_eqb d 0 nz, lt-leb most_forks w.started lt, e)

  choice_item : (l t u : List ℕ) (a b : Code) → (d ≡ 0 → ⊥) → block ks (d - 1) true w l ≡ ok a t → block ks
      (d - 1) false (past w a) t ≡ ok b u → item ks d first w (4 ∷ l) ≡ more (a_choice a b) u
  choice_item l t u a b nz e e' = rw (ne_eqb d 0 nz, e, e')

  call_item_lem : (r q : ℕ) (xs t : List ℕ) → r < length ks → get_or ks r 0 ≡ q → length xs ≡ q → ((x : ℕ) → In x xs
      → In x w.scope) → item ks d first w (6 ∷ r ∷ (xs ++ t)) ≡ more (a_call r xs) t
  call_item_lem r q xs t lt e n h = rw (
    lt-leb (length ks) r lt,
    e,
    sym n,
    In-named w.scope xs t h,
    take_at xs t
        (length xs) refl,
    drop_at xs t (length xs) refl,
  )

  mirror_item_lem : (y : ℕ) (l : List ℕ) → w.made < most_locals → In y w.scope
      → item ks d first w (7 ∷ y ∷ l) ≡ more (a_mirror (next_local w) y) l
  mirror_item_lem y l lt i = rw (lt-leb most_locals w.made lt, In-in? y w.scope i)

pub block_complete : (P : Program) (c : Code) (d : ℕ) (first : Bool) (w : Place) (t : List ℕ) → Stands P d w c
    → block (counts P) d first w (encode (closing first) c ++ t) ≡ ok c t
block_complete P end d true w t s = block_step (counts P) d true w (5 ∷ t)
block_complete P end d false w t s = block_step (counts P) d false w (0 ∷ t)
block_complete P (new x c) d first w t s =
    let e : next_local w ≡ x = sym s.numbered.0 in
    let s' : Stands P d (after w (a_new x)) c = record {
      scoped = s.scoped.1;
      numbered = s.numbered.1;
      few_open = s.few_open;
      few_locals = omega arith;
      few_forks = s.few_forks;
    } in
    by_item (counts P) d first w (1 ∷ (encode (closing first) c ++ t)) (encode (closing first) c ++ t) t (a_new x) c
    (new_item (counts P) d first w (encode (closing first) c ++ t) (omega arith) ∙ ap (λ (v : ℕ). more (a_new v)
    (encode (closing first) c ++ t)) e)
    (block_complete P c d first (after w (a_new x)) t s')
block_complete P (lock x b c) d first w t s =
    let s₁ : Stands P (d - 1) w b = record {
      scoped = s.scoped.1;
      numbered = s.numbered.0;
      few_open = omega arith;
      few_locals = omega arith;
      few_forks = omega arith;
    } in
    let s₂ : Stands P d (past w b) c = record {
      scoped = s.scoped.2;
      numbered = s.numbered.1;
      few_open = omega arith;
      few_locals = omega arith;
      few_forks = omega arith;
    } in
    rw append_assoc
    (by_item (counts P) d first w (2 ∷ x ∷ (encode END b ++ (encode (closing first) c ++ t)))
    (encode (closing first) c ++ t) t (a_lock x b) c
    (lock_item_lem (counts P) d first w x (encode END b ++ (encode (closing first) c ++ t))
    (encode (closing first) c ++ t) b (λ e. omega arith) s.scoped.0 (block_complete P b (d - 1) false w
    (encode (closing first) c ++ t) s₁))
    (block_complete P c d first (past w b) t s₂))
block_complete P (fork i b c) d first w t s =
    let e : w.started + 1 ≡ i = sym s.numbered.0 in
    let s₁ : Stands P (d - 1) (starting w) b = record {
      scoped = s.scoped.0;
      numbered = s.numbered.1;
      few_open = omega arith;
      few_locals = omega arith;
      few_forks = omega arith;
    } in
    let s₂ : Stands P d (past (starting w) b) c = record {
      scoped = s.scoped.1;
      numbered = s.numbered.2;
      few_open = omega arith;
      few_locals = omega arith;
      few_forks = omega arith;
    } in
    rw append_assoc
    (by_item (counts P) d first w (3 ∷ (encode END b ++ (encode (closing first) c ++ t)))
    (encode (closing first) c ++ t) t (a_fork i b) c
    (fork_item (counts P) d first w (encode END b ++ (encode (closing first) c ++ t))
    (encode (closing first) c ++ t) b (λ e'. omega arith) (omega arith) (block_complete P b (d - 1) false
    (starting w) (encode (closing first) c ++ t) s₁)
    ∙ ap (λ (v : ℕ). more (a_fork v b) (encode (closing first) c ++ t)) e)
    (block_complete P c d first (past (starting w) b) t s₂))
block_complete P (choice a b c) d first w t s =
    let s₁ : Stands P (d - 1) w a = record {
      scoped = s.scoped.0;
      numbered = s.numbered.0;
      few_open = omega arith;
      few_locals = omega arith;
      few_forks = omega arith;
    } in
    let s₂ : Stands P (d - 1) (past w a) b = record {
      scoped = s.scoped.1;
      numbered = s.numbered.1;
      few_open = omega arith;
      few_locals = omega arith;
      few_forks = omega arith;
    } in
    let s₃ : Stands P d (past (past w a) b) c = record {
      scoped = s.scoped.2;
      numbered = s.numbered.2;
      few_open = omega arith;
      few_locals = omega arith;
      few_forks = omega arith;
    } in
    let u : List ℕ = encode (closing first) c ++ t in
    rw (
      append_assoc (encode OTHER a) (encode END b ++ encode (closing first) c) t,
      append_assoc (encode END b)
          (encode (closing first) c) t,
    )
    (by_item (counts P) d first w (4 ∷ (encode OTHER a ++ (encode END b ++ u))) u t (a_choice a b) c
    (choice_item (counts P) d first w (encode OTHER a ++ (encode END b ++ u)) (encode END b ++ u) u a b
    (λ e'. omega arith) (block_complete P a (d - 1) true w (encode END b ++ u) s₁) (block_complete P b
    (d - 1) false (past w a) u s₂))
    (block_complete P c d first (past (past w a) b) t s₃))
block_complete P (call r xs c) d first w t s =
    let s' : Stands P d w c = record {
      scoped = s.scoped.3;
      numbered = s.numbered;
      few_open = s.few_open;
      few_locals = s.few_locals;
      few_forks = s.few_forks;
    } in
    rw append_assoc
    (by_item (counts P) d first w (6 ∷ r ∷ (xs ++ (encode (closing first) c ++ t)))
    (encode (closing first) c ++ t) t (a_call r xs) c
    (call_item_lem (counts P) d first w r (params P r) xs (encode (closing first) c ++ t) (let h : length (counts P)
    ≡ length P = counts_length P in let h' : r < length P = s.scoped.0 in omega arith) (counts_params P r)
    s.scoped.1 s.scoped.2)
    (block_complete P c d first w t s'))
block_complete P (mirror x y c) d first w t s =
    let e : next_local w ≡ x = sym s.numbered.0 in
    let s' : Stands P d (after w (a_mirror x y)) c = record {
      scoped = s.scoped.2;
      numbered = s.numbered.1;
      few_open = s.few_open;
      few_locals = omega arith;
      few_forks = s.few_forks;
    } in
    by_item (counts P) d first w (7 ∷ y ∷ (encode (closing first) c ++ t)) (encode (closing first) c ++ t) t
    (a_mirror x y) c
    (mirror_item_lem (counts P) d first w y (encode (closing first) c ++ t) (omega arith) s.scoped.1
    ∙ ap (λ (v : ℕ). more (a_mirror v y) (encode (closing first) c ++ t)) e)
    (block_complete P c d first (after w (a_mirror x y)) t s')

bodies_complete : (P Q : Program) → Each (Sits P) Q → bodies (counts P) (counts Q) (encode_bodies Q) ≡ accepted Q
bodies_complete P [] h = refl
bodies_complete P (q ∷ Q) h = rw (
  block_complete P q.code most_open false (at_head q.count) (encode_bodies Q)
      h.0,
  bodies_complete P Q h.1,
)

sit : (P : Program) (q : Routine) → Fits P q → Sits P q
sit P q f = record {
  scoped = f.scoped;
  numbered = f.numbered;
  few_open = f.few_open;
  few_locals = omega arith;
  few_forks = omega arith;
}

each_of : (F : Routine → Type 0) (P : Program) → ((r : ℕ) → r < length P → F (get_or P r empty)) → Each F P
each_of F [] h = tt
each_of F (q ∷ P) h = (h 0 (omega arith), each_of F P (λ r lt. h (suc r) (omega arith)))

small_of : (P : Program) → ((r : ℕ) → r < length P → params P r ≤ most_params) → small? (counts P) ≡ true
small_of [] h = refl
small_of (q ∷ P) h = rw (le-leb q.count most_params (h 0 (omega arith))) (small_of P (λ r lt. h (suc r)
    (omega arith)))

module _ (P : Program) (h : WithinLimits P) where
  size : length (encode_bodies P) % 256 + 256 * (length (encode_bodies P) / 256) ≡ length (encode_bodies P)
  size = omega arith

  sections_complete : sections (counts P) (two_bytes (length (encode_bodies P)) ++ encode_bodies P) ≡ accepted P
  sections_complete =
      rw (
        small_of P (λ r lt. (h.fits r lt).few_params),
        counts_params P 0,
        h.main,
        size,
        le-ltb most_bytes
            (length (encode_bodies P)) h.few_bytes,
        eq-eqb (length (encode_bodies P)) (length (encode_bodies P)) refl,
      )
      (bodies_complete P P (each_of (Sits P) P (λ r lt. sit P (get_or P r empty) (h.fits r lt))))

  -- the bytes of a program that a table can hold are accepted as that program
  pub complete : check_table (encode_table P) ≡ accepted P
  complete =
      rw (
        ne_eqb (length P) 0 (λ e. omega arith),
        le-ltb most_routines (length P) h.few_routines,
        take_at
            (counts P) _ (length P) (counts_length P),
        drop_at (counts P) _ (length P) (counts_length P),
      )
      sections_complete
