-- A table that is accepted holds the bytes of the program, and the program keeps the rules.
use Rattle.std.specs.Prelude.{◌≡◌, refl, Bool, true, false, cond, not, ◌&&◌, ◌||◌, List, [], ◌∷◌, ◌++◌, leb, eqb, ltb}
use Rattle.std.specs.Prelude.{length, get_or, take, drop}
use Rattle.std.proofs.Common.{sym, ap, subst, ◌∙◌, inl, inr, append_assoc, arith, take-append-drop, length-drop}
use Rattle.std.proofs.Common.{length-take-le, get_or-drop, leb-true, leb-false, ltb-false, eqb-true}
use Prim.Native.Nat.{ℕ, zero, suc, ◌+◌, ◌*◌, ◌-◌, ◌/◌, ◌%◌, ◌≤◌, ◌<◌}
use Rattle.std.proofs.lemmas.Bool.{eqb-false, not-false}
use Rattle.table.specs.Constants.{most_routines, most_params, most_bytes, most_open, most_locals, most_forks}
use Rattle.table.specs.Constants.{Op, END, OTHER, code}
use Rattle.table.specs.Program.{Code, Routine, Program, empty, params}
use Rattle.table.specs.Program.{locals, forks}
use Rattle.table.specs.WellFormed.{In, Scoped}
use Rattle.table.specs.Encoding.{Numbered, encode, encode_bodies, counts, two_bytes, encode_table, depth, Fits}
use Rattle.table.specs.Encoding.{WithinLimits}
use Rattle.table.specs.Check.{Item, a_new, a_lock, a_fork, a_choice, then, Place, past, starting}
use Rattle.table.specs.Check.{Block, ok, bad, Head, more, closed, wrong, Reader, opened, in?, named, lock_item}
use Rattle.table.specs.Check.{after, call_item, mirror_item, item_by, joined, go_on, block_by, block, at_head}
use Rattle.table.specs.Check.{Outcome, refused, accepted, with_routine, body_then, bodies, small?, sections}
use Rattle.table.specs.Check.{next_local, check_table}
use Rattle.table.proofs.Laws.Cases.{cond_cases, and_left, and_right, or_false_left, or_false_right}

-- the kind of item that closes a block
abbrev pub closing : Bool → Op
closing true = OTHER
closing false = END

-- the code may stand at the place, where d more blocks may be opened
pub record Stands (P : Program) (d : ℕ) (w : Place) (c : Code) : Type 0 where
  pub scoped : Scoped P w.own w.scope c
  pub numbered : Numbered w.own w.made w.started c
  pub few_open : depth c ≤ d
  pub few_locals : locals c ≤ most_locals - w.made
  pub few_forks : forks c ≤ most_forks - w.started

pub in?_In : (x : ℕ) (s : List ℕ) → in? x s ≡ true → In x s
in?_In x [] e = absurd (let z : ◌≡◌ {A = ℕ} 0 1 = cc in omega arith)
in?_In x (y ∷ s) e = step (eqb x y) refl e (in?_In x s)
  where
    step : (b : Bool) → eqb x y ≡ b → (b || in? x s) ≡ true → (in? x s ≡ true → In x s) → In x (y ∷ s)
    step true p q h = inl (eqb-true x y p)
    step false p q h = inr (h q)

pub named_fit : (q : ℕ) (s l : List ℕ) → named q s l ≡ true → q ≤ length l
named_fit zero s l e = omega arith
named_fit (suc q) s [] e = absurd (let z : ◌≡◌ {A = ℕ} 0 1 = cc in omega arith)
named_fit (suc q) s (x ∷ l) e = let h : q ≤ length l = named_fit q s l (and_right (in? x s) (named q s l) e) in
    omega arith

pub named_In : (q : ℕ) (s l : List ℕ) → named q s l ≡ true → (x : ℕ) → In x (take q l) → In x s
named_In zero s l e x i = absurd i
named_In (suc q) s [] e x i = absurd i
named_In (suc q) s (y ∷ l) e x (inl p) = subst (λ (v : ℕ). In v s) (sym p) (in?_In y s (and_left (in? y s)
    (named q s l) e))
named_In (suc q) s (y ∷ l) e x (inr i) = named_In q s l (and_right (in? y s) (named q s l) e) x i

pub counts_length : (P : Program) → length (counts P) ≡ length P
counts_length [] = refl
counts_length (q ∷ P) = ap suc (counts_length P)

pub counts_params : (P : Program) (r : ℕ) → get_or (counts P) r 0 ≡ params P r
counts_params [] r = refl
counts_params (q ∷ P) zero = refl
counts_params (q ∷ P) (suc r) = counts_params P r

module _ (P : Program) where
  -- what is read as a block is one, with those bytes
  abbrev pub RightB : ℕ → Bool → Place → List ℕ → Block → Type 0
  RightB d first w l (ok c t) = (l ≡ encode (closing first) c ++ t) × Stands P d w c
  RightB d first w l (bad e) = Unit {0}

  abbrev pub Right : Reader → Type 0
  Right read = (d : ℕ) (first : Bool) (w : Place) (l : List ℕ) → RightB d first w l (read d first w l)

  -- what is read as an item makes a block of a rest that is one
  abbrev pub RightH : ℕ → Bool → Place → List ℕ → Head → Type 0
  RightH d first w l (more i t) = (c : Code) (u : List ℕ) → t ≡ encode (closing first) c ++ u → Stands P d
      (after w i) c → RightB d first w l (ok (then i c) u)
  RightH d first w l (closed t) = l ≡ code (closing first) ∷ t
  RightH d first w l (wrong e) = Unit {0}

  module _ (d : ℕ) (first : Bool) (w : Place) (l : List ℕ) where
    opened_right : (d' : ℕ) (first' : Bool) (w' : Place) (l' : List ℕ) (p : Block) (f : Code → List ℕ → Head)
        → RightB d' first' w' l' p
        → ((c : Code) (t : List ℕ) → l' ≡ encode (closing first') c ++ t → Stands P d' w' c → RightH d first w l
        (f c t)) → RightH d first w l (opened p f)
    opened_right d' first' w' l' (ok c t) f r g = g c t r.0 r.1
    opened_right d' first' w' l' (bad e) f r g = tt

    joined_right : (i : Item) (t : List ℕ) (p : Block) → RightB d first (after w i) t p → RightH d first w l
        (more i t) → RightB d first w l (joined i p)
    joined_right i t (ok c u) r h = h c u r.0 r.1
    joined_right i t (bad e) r h = tt

    go_on_right : (read : Reader) → Right read → (h : Head) → RightH d first w l h → RightB d first w l
        (go_on read d first w h)
    go_on_right read hr (more i t) h = joined_right i t (read d first (after w i) t) (hr d first (after w i) t) h
    go_on_right read hr (closed t) h = (
      h,
      record {
        scoped = tt;
        numbered = tt;
        few_open = omega arith;
        few_locals = omega arith;
        few_forks = omega arith;
      },
    )
    go_on_right read hr (wrong e) h = tt

  module _ (read : Reader) (hr : Right read) (d : ℕ) (first : Bool) (w : Place) where
    new_right : (l : List ℕ) → w.made < most_locals → RightH d first w (1 ∷ l) (more (a_new (next_local w)) l)
    new_right l lt c u e s = (
      ap (λ (v : List ℕ). 1 ∷ v) e,
      record {
        scoped = (omega arith, s.scoped);
        numbered = (refl, s.numbered);
        few_open = s.few_open;
        few_locals = omega arith;
        few_forks = s.few_forks;
      },
    )

    lock_right : (l : List ℕ) → (d ≡ 0 → ⊥) → RightH d first w (2 ∷ l) (lock_item read d w l)
    lock_right [] nz = tt
    lock_right (x ∷ l) nz =
        cond_cases (RightH d first w (2 ∷ x ∷ l)) (in? x w.scope) _ _
        (λ i. opened_right d first w (2 ∷ x ∷ l) (d - 1) false w l (read (d - 1) false w l)
        (λ c t. more (a_lock x c) t) (hr (d - 1) false w l)
        (λ c t e s c' u e' s'. (
          ap (λ (v : List ℕ). 2 ∷ x ∷ v) (e ∙ ap (λ (v : List ℕ). encode END c ++ v) e' ∙ sym
              (append_assoc (encode END c) (encode (closing first) c') u)),
          record {
            scoped = (in?_In x w.scope i, s.scoped, s'.scoped);
            numbered = (s.numbered, s'.numbered);
            few_open = omega arith;
            few_locals = omega arith;
            few_forks = omega arith;
          },
        )))
        (λ i. tt)

    fork_right : (l : List ℕ) → (d ≡ 0 → ⊥) → w.started < most_forks → RightH d first w (3 ∷ l)
        (opened (read (d - 1) false (starting w) l) (λ c t. more (a_fork (w.started + 1) c) t))
    fork_right l nz lt = opened_right d first w (3 ∷ l) (d - 1) false (starting w) l (read (d - 1) false
        (starting w) l) (λ c t. more (a_fork (w.started + 1) c) t) (hr (d - 1) false (starting w) l)
        (λ c t e s c' u e' s'. (
          ap (λ (v : List ℕ). 3 ∷ v) (e ∙ ap (λ (v : List ℕ). encode END c ++ v) e' ∙ sym
              (append_assoc (encode END c) (encode (closing first) c') u)),
          record {
            scoped = (s.scoped, s'.scoped);
            numbered = (refl, s.numbered, s'.numbered);
            few_open = omega arith;
            few_locals = omega arith;
            few_forks = omega arith;
          },
        ))

    choice_right : (l : List ℕ) → (d ≡ 0 → ⊥) → RightH d first w (4 ∷ l) (opened (read (d - 1) true w l)
        (λ a t. opened (read (d - 1) false (past w a) t) (λ b u. more (a_choice a b) u)))
    choice_right l nz =
        opened_right d first w (4 ∷ l) (d - 1) true w l (read (d - 1) true w l) (λ a t. opened (read (d - 1) false
        (past w a) t) (λ b u. more (a_choice a b) u)) (hr (d - 1) true w l)
        (λ a t e s. opened_right d first w (4 ∷ l) (d - 1) false (past w a) t (read (d - 1) false (past w a) t)
        (λ b u. more (a_choice a b) u) (hr (d - 1) false (past w a) t)
        (λ b t' e' s' c u e'' s''. (
          ap (λ (v : List ℕ). 4 ∷ v) (e ∙ ap (λ (v : List ℕ). encode OTHER a ++ v)
              (e' ∙ ap (λ (v : List ℕ). encode END b ++ v) e'' ∙ sym (append_assoc (encode END b)
              (encode (closing first) c) u)) ∙ sym (append_assoc (encode OTHER a) (encode END b ++ encode
              (closing first) c) u)),
          record {
            scoped = (s.scoped, s'.scoped, s''.scoped);
            numbered = (
              s.numbered,
              s'.numbered,
              s''.numbered,
            );
            few_open = omega arith;
            few_locals = omega arith;
            few_forks = omega arith;
          },
        )))

    call_right : (l : List ℕ) → RightH d first w (6 ∷ l) (call_item (counts P) w l)
    call_right [] = tt
    call_right (r ∷ l) =
        cond_cases (RightH d first w (6 ∷ r ∷ l)) (leb (length (counts P)) r) _ _ (λ i. tt)
        (λ i. cond_cases (RightH d first w (6 ∷ r ∷ l)) (named q w.scope l) _ _
        (λ n c u e s. (
          ap (λ (v : List ℕ). 6 ∷ r ∷ v) (sym (take-append-drop q l) ∙ ap (λ (v : List ℕ). take q l ++ v) e ∙ sym
              (append_assoc (take q l) (encode (closing first) c) u)),
          record {
            scoped = (
              let h : r < length (counts P) = leb-false (length (counts P)) r i in let h' : length
                  (counts P) ≡ length P = counts_length P in omega arith,
              length-take-le q l
                  (named_fit q w.scope l n) ∙ counts_params P r,
              named_In q w.scope l n,
              s.scoped,
            );
            numbered = s.numbered;
            few_open = s.few_open;
            few_locals = s.few_locals;
            few_forks = s.few_forks;
          },
        ))
        (λ n. tt))
      where
        q : ℕ
        q = get_or (counts P) r 0

    mirror_right : (l : List ℕ) → w.made < most_locals → RightH d first w (7 ∷ l) (mirror_item w l)
    mirror_right [] lt = tt
    mirror_right (y ∷ l) lt =
        cond_cases (RightH d first w (7 ∷ y ∷ l)) (in? y w.scope) _ _
        (λ i c u e s. (
          ap (λ (v : List ℕ). 7 ∷ y ∷ v) e,
          record {
            scoped = (omega arith, in?_In y w.scope i, s.scoped);
            numbered = (refl, s.numbered);
            few_open = s.few_open;
            few_locals = omega arith;
            few_forks = s.few_forks;
          },
        ))
        (λ i. tt)

    end_right : (f : Bool) (l : List ℕ) → f ≡ first → RightH d first w (0 ∷ l) (cond f (wrong 9) (closed l))
    end_right true l e = tt
    end_right false l e = rw (← e)

    other_right : (f : Bool) (l : List ℕ) → f ≡ first → RightH d first w (5 ∷ l) (cond f (closed l) (wrong 9))
    other_right true l e = rw (← e)
    other_right false l e = tt

    item_by_right : (l : List ℕ) → RightH d first w l (item_by read (counts P) d first w l)
    item_by_right [] = tt
    item_by_right (zero ∷ l) = end_right first l refl
    item_by_right (suc zero ∷ l) = cond_cases (RightH d first w (1 ∷ l)) (leb most_locals w.made) _ _ (λ e. tt)
        (λ e. new_right l (leb-false most_locals w.made e))
    item_by_right (suc (suc zero) ∷ l) = cond_cases (RightH d first w (2 ∷ l)) (eqb d 0) _ _ (λ e. tt)
        (λ e. lock_right l (eqb-false d 0 e))
    item_by_right (suc (suc (suc zero)) ∷ l) =
        cond_cases (RightH d first w (3 ∷ l)) (eqb d 0) _ _ (λ e. tt)
        (λ e. cond_cases (RightH d first w (3 ∷ l)) (leb most_forks w.started) _ _ (λ e'. tt) (λ e'. fork_right l
        (eqb-false d 0 e) (leb-false most_forks w.started e')))
    item_by_right (suc (suc (suc (suc zero))) ∷ l) = cond_cases (RightH d first w (4 ∷ l)) (eqb d 0) _ _ (λ e. tt)
        (λ e. choice_right l (eqb-false d 0 e))
    item_by_right (suc (suc (suc (suc (suc zero)))) ∷ l) = other_right first l refl
    item_by_right (suc (suc (suc (suc (suc (suc zero))))) ∷ l) = call_right l
    item_by_right (suc (suc (suc (suc (suc (suc (suc zero)))))) ∷ l) = cond_cases (RightH d first w (7 ∷ l))
        (leb most_locals w.made) _ _ (λ e. tt) (λ e. mirror_right l (leb-false most_locals w.made e))
    item_by_right (suc (suc (suc (suc (suc (suc (suc (suc b))))))) ∷ l) = tt

  pub block_by_right : (f : ℕ) → Right (block_by f (counts P))
  unfolding block_by
  block_by_right zero d first w l = tt
  block_by_right (suc f) d first w l =
      go_on_right d first w l (block_by f (counts P)) (block_by_right f) (item_by (block_by f (counts P))
      (counts P) d first w l) (item_by_right (block_by f (counts P)) (block_by_right f) d first w l)

  pub block_right : Right (block (counts P))
  unfolding block
  block_right d first w l = block_by_right (suc (length l)) d first w l

-- each entry of the list is so
abbrev pub Each : {A : Type 0} → (A → Type 0) → List A → Type 0
Each F [] = Unit {0}
Each F (x ∷ xs) = F x × Each F xs

abbrev pub Sits : Program → Routine → Type 0
Sits P q = Stands P most_open (at_head q.count) q.code

-- the bodies that are read are those of the parameter counts
abbrev Counted : List ℕ → Outcome → Type 0
Counted qs (refused e) = Unit {0}
Counted qs (accepted Q) = counts Q ≡ qs

with_counted : (qs : List ℕ) (q : Routine) (x : Outcome) → Counted qs x → Counted (q.count ∷ qs) (with_routine q x)
with_counted qs q (refused e) h = tt
with_counted qs q (accepted Q) h = ap (λ (v : List ℕ). q.count ∷ v) h

body_then_counted : (qs : List ℕ) (k : ℕ) (p : Block) (rest : List ℕ → Outcome) → ((t : List ℕ) → Counted qs
    (rest t)) → Counted (k ∷ qs) (body_then k p rest)
body_then_counted qs k (ok c t) rest h = with_counted qs (record { count = k; code = c }) (rest t) (h t)
body_then_counted qs k (bad e) rest h = tt

bodies_counted : (ks qs l : List ℕ) → Counted qs (bodies ks qs l)
bodies_counted ks [] [] = refl
bodies_counted ks [] (b ∷ l) = tt
bodies_counted ks (k ∷ qs) l = body_then_counted qs k (block ks most_open false (at_head k) l) (λ t. bodies ks qs t)
    (λ t. bodies_counted ks qs t)

module _ (P : Program) where
  abbrev RightC : List ℕ → Outcome → Type 0
  RightC l (refused e) = Unit {0}
  RightC l (accepted Q) = (l ≡ encode_bodies Q) × Each (Sits P) Q

  with_right : (k : ℕ) (l t : List ℕ) (c : Code) (x : Outcome) → l ≡ encode END c ++ t → Stands P most_open
      (at_head k) c → RightC t x → RightC l (with_routine (record { count = k; code = c }) x)
  with_right k l t c (refused e) p s h = tt
  with_right k l t c (accepted Q) p s h = (p ∙ ap (λ (v : List ℕ). encode END c ++ v) h.0, (s, h.1))

  body_then_right : (k : ℕ) (l : List ℕ) (p : Block) (rest : List ℕ → Outcome) → RightB P most_open false
      (at_head k) l p → ((t : List ℕ) → RightC t (rest t)) → RightC l (body_then k p rest)
  body_then_right k l (ok c t) rest r h = with_right k l t c (rest t) r.0 r.1 (h t)
  body_then_right k l (bad e) rest r h = tt

  bodies_right : (qs l : List ℕ) → RightC l (bodies (counts P) qs l)
  bodies_right [] [] = (refl, tt)
  bodies_right [] (b ∷ l) = tt
  bodies_right (k ∷ qs) l = body_then_right k l (block (counts P) most_open false (at_head k) l)
      (λ t. bodies (counts P) qs t) (block_right P most_open false (at_head k) l) (λ t. bodies_right qs t)

-- what the check accepts is right
abbrev RightT : List ℕ → Outcome → Type 0
RightT s (refused e) = Unit {0}
RightT s (accepted P) = (s ≡ encode_table P) × WithinLimits P

pub small_each : (ks : List ℕ) → small? ks ≡ true → (r : ℕ) → get_or ks r 0 ≤ most_params
small_each [] e r = omega arith
small_each (k ∷ ks) e zero = leb-true k most_params (and_left (leb k most_params) (small? ks) e)
small_each (k ∷ ks) e (suc r) = small_each ks (and_right (leb k most_params) (small? ks) e) r

each_at : (F : Routine → Type 0) (P : Program) → Each F P → (r : ℕ) → r < length P → F (get_or P r empty)
each_at F [] h r lt = absurd (omega arith)
each_at F (q ∷ P) h zero lt = h.0
each_at F (q ∷ P) h (suc r) lt = each_at F P h.1 r (omega arith)

two_of : (lo hi : ℕ) → lo < 256 → two_bytes (lo + 256 * hi) ≡ lo ∷ hi ∷ []
two_of lo hi lt =
    let a : (lo + 256 * hi) % 256 ≡ lo = omega arith in
    let b : (lo + 256 * hi) / 256 ≡ hi = omega arith in
    cc

fit : (P : Program) (q : Routine) → q.count ≤ most_params → Sits P q → Fits P q
fit P q le s = record {
  few_params = le;
  scoped = s.scoped;
  numbered = s.numbered;
  few_open = s.few_open;
  few_locals = omega arith;
  few_forks = omega arith;
}

module _ (n lo hi : ℕ) (ks s : List ℕ) (nz : n ≡ 0 → ⊥) (le : n ≤ most_routines) (len : length ks ≡ n)
    (byte : lo < 256)
    (small : small? ks ≡ true) (main : get_or ks 0 0 ≡ 0) (few : lo + 256 * hi ≤ most_bytes)
    (size : length s ≡ lo + 256 * hi) where
  finish : (P : Program) → counts P ≡ ks → s ≡ encode_bodies P → Each (Sits P) P → RightT (n ∷ (ks ++ lo ∷ hi ∷ s))
      (accepted P)
  finish P c p each = (
    bytes,
    record {
      some_routine = omega (arith, number);
      few_routines = omega (arith, number);
      main = m;
      fits = fits;
      few_bytes = omega (arith, long);
    },
  )
    where
      number : n ≡ length P
      number = sym len ∙ ap length (sym c) ∙ counts_length P

      long : length (encode_bodies P) ≡ lo + 256 * hi
      long = ap length (sym p) ∙ size

      m : params P 0 ≡ 0
      m = sym (counts_params P 0) ∙ ap (λ (v : List ℕ). get_or v 0 0) c ∙ main

      fits : (r : ℕ) → r < length P → Fits P (get_or P r empty)
      fits r lt = fit P (get_or P r empty) (subst (λ (v : ℕ). v ≤ most_params) (ap (λ (v : List ℕ). get_or v r 0)
          (sym c) ∙ counts_params P r) (small_each ks small r)) (each_at (Sits P) P each r lt)

      bytes : n ∷ (ks ++ lo ∷ hi ∷ s) ≡ encode_table P
      bytes =
          let a : n ∷ (ks ++ lo ∷ hi ∷ s) ≡ length P ∷ (counts P ++ lo ∷ hi ∷ encode_bodies P) = cc number in
          a ∙ ap (λ (v : List ℕ). length P ∷ (counts P ++ (v ++ encode_bodies P)))
          (sym (ap two_bytes long ∙ two_of lo hi byte))

  bodies_done : RightT (n ∷ (ks ++ lo ∷ hi ∷ s)) (bodies ks ks s)
  bodies_done = go (bodies ks ks s) refl
    where
      go : (x : Outcome) → bodies ks ks s ≡ x → RightT (n ∷ (ks ++ lo ∷ hi ∷ s)) x
      go (refused e) h = tt
      go (accepted P) h =
          let c : counts P ≡ ks = subst (Counted ks) h (bodies_counted ks ks s) in
          let r : RightC P s (accepted P) = subst (RightC P s) (ap (λ (v : List ℕ). bodies v v s) c ∙ h)
          (bodies_right P (counts P) s) in
          finish P c r.0 r.1

sections_right : (n : ℕ) (ks l : List ℕ) → (n ≡ 0 → ⊥) → n ≤ most_routines → (0 < length l → length ks ≡ n)
    → get_or l 0 0 < 256 → RightT (n ∷ (ks ++ l)) (sections ks l)
sections_right n ks [] nz le len byte = tt
sections_right n ks (lo ∷ []) nz le len byte = tt
sections_right n ks (lo ∷ hi ∷ s) nz le len byte =
    cond_cases (RightT all) (not (small? ks && eqb (get_or ks 0 0) 0)) _ _ (λ e. tt)
    (λ e₄. cond_cases (RightT all) (ltb most_bytes (lo + 256 * hi)) _ _ (λ e. tt)
    (λ e₅. cond_cases (RightT all) (not (eqb (length s) (lo + 256 * hi))) _ _ (λ e. tt)
    (λ e₆. bodies_done n lo hi ks s nz le (len (omega arith)) byte
    (and_left (small? ks) (eqb (get_or ks 0 0) 0) (not-false _ e₄))
    (eqb-true (get_or ks 0 0) 0 (and_right (small? ks) (eqb (get_or ks 0 0) 0) (not-false _ e₄)))
    (ltb-false most_bytes (lo + 256 * hi) e₅)
    (eqb-true (length s) (lo + 256 * hi) (not-false _ e₆)))))
  where
    all : List ℕ
    all = n ∷ (ks ++ lo ∷ hi ∷ s)

check_right : (s : List ℕ) → ((i : ℕ) → get_or s i 0 < 256) → RightT s (check_table s)
check_right [] byte = tt
check_right (n ∷ l) byte =
    cond_cases (RightT (n ∷ l)) (eqb n 0 || ltb most_routines n) _ _ (λ e. tt)
    (λ e. subst (λ (v : List ℕ). RightT (n ∷ v) (sections (take n l) (drop n l))) (take-append-drop n l)
    (sections_right n (take n l) (drop n l) (eqb-false n 0 (or_false_left (eqb n 0) (ltb most_routines n) e))
    (ltb-false most_routines n (or_false_right (eqb n 0) (ltb most_routines n) e))
    (λ h. length-take-le n l (let g : length (drop n l) ≡ length l - n = length-drop n l in omega arith))
    (rw (get_or-drop n l 0 0) (byte (suc (n + 0))))))

-- what is accepted is a table of the program, and the program is one that a table can hold
pub sound : (s : List ℕ) (P : Program) → ((i : ℕ) → get_or s i 0 < 256) → check_table s ≡ accepted P
    → (s ≡ encode_table P) × WithinLimits P
sound s P byte e = subst (RightT s) e (check_right s byte)
