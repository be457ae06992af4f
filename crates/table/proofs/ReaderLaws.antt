-- Laws of the readers' answers at a cursor: an item leaves the reader ready for the next one, and the answer from the
-- start of a block equals the answer from there.
use mathlib.Core.Path.{◌≡◌, refl, sym, ap, subst, ◌∙◌}
use mathlib.Core.Bool.{Bool, true, false}
use mathlib.Core.List.{List, [], ◌∷◌, ◌++◌}
use mathlib.Core.Option.{Option, none, some}
use Prim.Native.Nat.{ℕ, suc, ◌+◌, ◌-◌, ◌^◌, ◌≤◌, ◌<◌}
use native.Mathlib.Omega.{arith}
use lib.Dec.{leb, eqb}
use lib.ListN.{length, get_or, take, drop, length-drop, length-append, take-append-drop}
use lib.Seq.{drop-drop, drop_at}
use borrow.Author.Tests.{leb-false}
use Rattle.std.specs.Prelude.{Result, Ok, Err}
use Rattle.table.specs.Constants.{most_params, most_locals, most_forks}
use Rattle.table.specs.Constants.{Op, END, NEW, LOCK, FORK, CHOICE, OTHER, CALL, MIRROR, op_of}
use Rattle.table.specs.Program.{Code, end, Program, locals, forks, items}
use Rattle.table.specs.Encoding.{encode, counts}
use Rattle.table.specs.Check.{Item, a_new, a_lock, a_fork, a_choice, a_call, a_mirror, Place, past, starting}
use Rattle.table.specs.Check.{Block, ok, bad, Head, more, closed, wrong, opened, in?, named, lock_item, call_item}
use Rattle.table.specs.Check.{after, mirror_item, item_of, joined, go_on, block, item}
use Rattle.table.proofs.Laws.Sound.{closing, RightB, block_right}
use Rattle.table.proofs.Laws.Fuel.{block_step}
use Rattle.table.specs.Laws.ScopeMask.{bits, bits_add, grows, double}
use Rattle.table.specs.Laws.Readers.{place_of, with_item, with_fork, past_block, after_item}
use Rattle.table.specs.Laws.Readers.{read_of, head_of, block_answer, item_answer, Ready}
use Rattle.table.specs.Check.{item_if}
use Rattle.table.proofs.Laws.Cases.{cond_cases}
use Rattle.table.proofs.Laws.Items.{items_some, items_bytes}
use Rattle.table.specs.declared.bodies.Cursor.{Cursor}
use Rattle.table.specs.declared.refusal.Refusal.{Refusal}
use Rattle.table.specs.declared.bodies.ItemRead.TheVariants.{More, Closed}

-- a program with the parameter counts
shell : List ℕ → Program
shell [] = []
shell (k ∷ ks) = record { count = k; code = end } ∷ shell ks

counts_shell : (ks : List ℕ) → counts (shell ks) ≡ ks
unfolding shell
counts_shell [] = refl
counts_shell (k ∷ ks) = ap (λ (v : List ℕ). k ∷ v) (counts_shell ks)

-- what a block that was read takes
block_bytes : (ks : List ℕ) (d : ℕ) (first : Bool) (w : Place) (l : List ℕ) (c : Code) (t : List ℕ)
    → block ks d first w l ≡ ok c t
    → (l ≡ encode (closing first) c ++ t) × (locals c ≤ most_locals - w.made) × (forks c ≤ most_forks - w.started)
block_bytes ks d first w l c t e =
    let r : RightB (shell ks) d first w l (ok c t) = subst (RightB (shell ks) d first w l) e
    (subst (λ (v : List ℕ). RightB (shell ks) d first w l (block v d first w l)) (counts_shell ks)
    (block_right (shell ks) d first w l)) in
    (r.0, r.1.few_locals, r.1.few_forks)

-- t is what is left of s from an offset after `at`
pub record Next (s : List ℕ) (at : ℕ) (t : List ℕ) : Type 0 where
  pub rest : t ≡ drop (length s - length t) s
  pub later : at < length s - length t
  pub inside : at < length s

next_of : (s a t : List ℕ) (at : ℕ) → drop at s ≡ a ++ t → 0 < length a → Next s at t × (length s - length t
    ≡ at + length a)
next_of s a t at e l =
    let p : length s - at ≡ length a + length t = sym (length-drop at s) ∙ ap length e ∙ length-append a t in
    let q : length s - length t ≡ at + length a = omega arith in (
      record {
        rest = sym (ap (λ (v : ℕ). drop v s) q ∙ sym (drop-drop (length a) at s) ∙ ap (drop (length a)) e
            ∙ drop_at a t (length a) refl);
        later = omega arith;
        inside = omega arith;
      },
      q,
    )

further : (s t : List ℕ) (at at' : ℕ) → at ≤ at' → Next s at' t → Next s at t
further s t at at' l x = record { rest = x.rest; later = omega arith; inside = omega arith }

-- the bytes after the first one or two
after_one : (s l : List ℕ) (at b : ℕ) → drop at s ≡ b ∷ l → l ≡ drop (at + 1) s
after_one s l at b e = sym (sym (drop-drop 1 at s) ∙ ap (drop 1) e)

after_two : (s l : List ℕ) (at b x : ℕ) → drop at s ≡ b ∷ x ∷ l → l ≡ drop (at + 2) s
after_two s l at b x e = sym (sym (drop-drop 2 at s) ∙ ap (drop 2) e)

module _ (ks s : List ℕ) (own d : ℕ) (first : Bool) where
  -- what holds after a block
  pub block_next : (p : Cursor) → Ready own p → (c : Code) (l t : List ℕ) → l ≡ drop p.at s
      → block ks d first (place_of own p) l ≡ ok c t
      → Next s p.at t × Ready own (past_block c p (length s - length t))
  block_next p rd c l t el e =
      let b : (l ≡ encode (closing first) c ++ t) × (locals c ≤ most_locals - p.locals)
      × (forks c ≤ most_forks - p.forks) = block_bytes ks d first (place_of own p) l c t e in
      let i : items c ≤ length (encode (closing first) c) = items_bytes (closing first) c in
      let i' : 1 ≤ items c = items_some c in
      let x : Next s p.at t × (length s - length t ≡ p.at + length (encode (closing first) c)) = next_of s
      (encode (closing first) c) t p.at (sym el ∙ b.0) (omega arith) in
      let g : 2 ^ (own + p.locals + 1) ≤ 2 ^ (own + (p.locals + locals c) + 1) = grows (own + p.locals + 1)
      (own + (p.locals + locals c) + 1) (omega arith) in
      let lt : p.scope < 2 ^ (own + p.locals + 1) = rd.below in (
        x.0,
        record {
          few_params = rd.few_params;
          few_locals = omega arith;
          few_forks = omega arith;
          below = omega arith;
          few_items = omega arith;
        },
      )

pub item_ready : (own : ℕ) (p : Cursor) → Ready own p → (k : ℕ) → 1 ≤ k → Ready own (with_item p (p.at + k))
item_ready own p rd k l = record {
  few_params = rd.few_params;
  few_locals = rd.few_locals;
  few_forks = rd.few_forks;
  below = rd.below;
  few_items = let h : p.items ≤ p.at = rd.few_items in omega arith;
}

fork_ready : (own : ℕ) (p : Cursor) → Ready own p → p.forks < most_forks → Ready own (with_fork p (p.at + 1))
fork_ready own p rd l = record {
  few_params = rd.few_params;
  few_locals = rd.few_locals;
  few_forks = omega arith;
  below = rd.below;
  few_items = let h : p.items ≤ p.at = rd.few_items in omega arith;
}

-- the cursor after the rest of a block, with the scope that the block began with
abbrev pub back : ℕ → Result Cursor Refusal → Result Cursor Refusal
back m (Ok q) = Ok (record { at = q.at; scope = m; locals = q.locals; forks = q.forks; items = q.items })
back m (Err e) = Err e

pub back_back : (m m' : ℕ) (r : Result Cursor Refusal) → back m (back m' r) ≡ back m r
back_back m m' (Ok q) = refl
back_back m m' (Err e) = refl

-- what holds after an item
pub record Goes (s : List ℕ) (own : ℕ) (p : Cursor) (i : Item) (t : List ℕ) : Type 0 where
  pub next : Next s p.at t
  pub ready : Ready own (after_item i p (length s - length t))
  pub place : place_of own (after_item i p (length s - length t)) ≡ after (place_of own p) i

module _ (ks s : List ℕ) (own : ℕ) (p : Cursor) (d : ℕ) (first : Bool) (rd : Ready own p) where
  abbrev w : Place
  w = place_of own p

  abbrev Good : Head → Type 0
  Good (more i t) = Goes s own p i t
  Good (closed t) = Next s p.at t
  Good (wrong e) = Unit {0}

  opened_good : (b : Block) (f : Code → List ℕ → Head) → ((c : Code) (t : List ℕ) → b ≡ ok c t → Good (f c t))
      → Good (opened b f)
  opened_good (ok c t) f h = h c t refl
  opened_good (bad e) f h = tt

  -- NEW, or MIRROR with its name, of the bytes a
  new_good :
      (a l : List ℕ) → drop p.at s ≡ a ++ l → 1 ≤ length a → p.locals < most_locals
      → Good (more (a_new (own + p.locals + 1)) l)
  new_good a l e long lt =
      let x : Next s p.at l × (length s - length l ≡ p.at + length a) = next_of s a l p.at e (omega arith) in
      let h : p.scope < 2 ^ (own + p.locals + 1) = rd.below in
      let g : own ≤ most_params = rd.few_params in
      let g' : p.items ≤ p.at = rd.few_items in
      let e₁ : own + (p.locals + 1) + 1 ≡ suc (own + p.locals + 1) = omega arith in
      let e₂ : 2 ^ suc (own + p.locals + 1) ≡ 2 ^ (own + p.locals + 1) + 2 ^ (own + p.locals + 1) = double
      (own + p.locals + 1) in
      record {
        next = x.0;
        ready = record {
          few_params = g;
          few_locals = omega arith;
          few_forks = rd.few_forks;
          below = rw (e₁, e₂) (omega arith);
          few_items = omega arith;
        };
        place = ap {B = Place} (λ (v : List ℕ). record {
          own = own;
          scope = v;
          made = p.locals + 1;
          started = p.forks;
        }) (bits_add (own + p.locals + 1) p.scope (omega arith) h);
      }

  lock_good : (b : ℕ) (l : List ℕ) → drop p.at s ≡ b ∷ l → Good (lock_item (block ks) d w l)
  lock_good b [] e = tt
  lock_good b (x ∷ l) e = cond_cases Good (in? x (bits p.scope)) _ _
      (λ i. opened_good (block ks (d - 1) false w l) (λ c t. more (a_lock x c) t)
      (λ c t q. let g = block_next ks s own (d - 1) false (with_item p (p.at + 2)) (item_ready own p rd 2
      (omega arith)) c l t (after_two s l p.at b x e) q in
      record { next = further s t p.at (p.at + 2) (omega arith) g.0; ready = g.1; place = refl }))
      (λ i. tt)

  fork_good : (b : ℕ) (l : List ℕ) → drop p.at s ≡ b ∷ l → p.forks < most_forks → Good
      (opened (block ks (d - 1) false (starting w) l) (λ c t. more (a_fork (p.forks + 1) c) t))
  fork_good b l e lt = opened_good (block ks (d - 1) false (starting w) l) (λ c t. more (a_fork (p.forks + 1) c) t)
      (λ c t q. let g = block_next ks s own (d - 1) false (with_fork p (p.at + 1)) (fork_ready own p rd lt) c l t
      (after_one s l p.at b e) q in
      record { next = further s t p.at (p.at + 1) (omega arith) g.0; ready = g.1; place = refl })

  choice_good : (b : ℕ) (l : List ℕ) → drop p.at s ≡ b ∷ l → Good (opened (block ks (d - 1) true w l) (λ a t. opened
      (block ks (d - 1) false (past w a) t) (λ c u. more (a_choice a c) u)))
  choice_good b l e = opened_good (block ks (d - 1) true w l) (λ a t. opened (block ks (d - 1) false (past w a) t)
      (λ c u. more (a_choice a c) u))
      (λ a t q. let g = block_next ks s own (d - 1) true (with_item p (p.at + 1)) (item_ready own p rd 1
      (omega arith)) a l t (after_one s l p.at b e) q in
      opened_good (block ks (d - 1) false (past w a) t) (λ c u. more (a_choice a c) u)
      (λ c u q'. let g' = block_next ks s own (d - 1) false
      (past_block a (with_item p (p.at + 1)) (length s - length t)) g.1 c t u g.0.rest q' in
      let o : p.at + 1 < length s - length t = g.0.later in
      record { next = further s u p.at (length s - length t) (omega arith) g'.0; ready = g'.1; place = refl }))

  call_good : (b : ℕ) (l : List ℕ) → drop p.at s ≡ b ∷ l → Good (call_item ks w l)
  call_good b [] e = tt
  call_good b (r ∷ l) e = cond_cases Good (leb (length ks) r) _ _ (λ i. tt)
      (λ i. cond_cases Good (named q (bits p.scope) l) _ _
      (λ i'.
      let x : Next s p.at (drop q l) × (length s - length (drop q l) ≡ p.at + length (b ∷ r ∷ take q l)) = next_of s
      (b ∷ r ∷ take q l) (drop q l) p.at (e ∙ ap (λ (v : List ℕ). b ∷ r ∷ v) (sym (take-append-drop q l)))
      (omega arith) in
      let h : p.items ≤ p.at = rd.few_items in
      record {
        next = x.0;
        ready = record {
          few_params = rd.few_params;
          few_locals = rd.few_locals;
          few_forks = rd.few_forks;
          below = rd.below;
          few_items = omega arith;
        };
        place = refl;
      })
      (λ i'. tt))
    where
      q : ℕ
      q = get_or ks r 0

  mirror_good : (b : ℕ) (l : List ℕ) → drop p.at s ≡ b ∷ l → p.locals < most_locals → Good (mirror_item w l)
  mirror_good b [] e lt = tt
  mirror_good b (y ∷ l) e lt = cond_cases Good (in? y (bits p.scope)) _ _
      (λ i. let g = new_good (b ∷ y ∷ []) l e (omega arith) lt in
      record { next = g.next; ready = g.ready; place = g.place })
      (λ i. tt)

  op_good : (b : ℕ) (o : Op) (l : List ℕ) → drop p.at s ≡ b ∷ l → Good (item_of (block ks) ks d first w o l)
  op_good b END l e = cond_cases Good first _ _ (λ i. tt) (λ i. (next_of s (b ∷ []) l p.at e (omega arith)).0)
  op_good b NEW l e = cond_cases Good (leb most_locals p.locals) _ _ (λ i. tt) (λ i. new_good (b ∷ []) l e
      (omega arith) (leb-false most_locals p.locals i))
  op_good b LOCK l e = cond_cases Good (eqb d 0) _ _ (λ i. tt) (λ i. lock_good b l e)
  op_good b FORK l e = cond_cases Good (eqb d 0) _ _ (λ i. tt) (λ i. cond_cases Good (leb most_forks p.forks) _ _
      (λ i'. tt) (λ i'. fork_good b l e (leb-false most_forks p.forks i')))
  op_good b CHOICE l e = cond_cases Good (eqb d 0) _ _ (λ i. tt) (λ i. choice_good b l e)
  op_good b OTHER l e = cond_cases Good first _ _ (λ i. (next_of s (b ∷ []) l p.at e (omega arith)).0) (λ i. tt)
  op_good b CALL l e = call_good b l e
  op_good b MIRROR l e = cond_cases Good (leb most_locals p.locals) _ _ (λ i. tt)
      (λ i. mirror_good b l e (leb-false most_locals p.locals i))

  item_good : Good (item ks d first w (drop p.at s))
  item_good = go (drop p.at s) refl
    where
      go : (l : List ℕ) → drop p.at s ≡ l → Good (item ks d first w l)
      go [] e = tt
      go (b ∷ l) e = step (op_of b)
        where
          step : (o : Option Op) → Good (item_if (block ks) ks d first w o l)
          step none = tt
          step (some o) = op_good b o l e

  -- a block after an item, with the counts in one sum
  same_read : (x m a a' b b' c c' : ℕ) → a ≡ a' → b ≡ b' → c ≡ c'
      → ◌≡◌ {A = Result Cursor Refusal} (Ok (record { at = x; scope = m; locals = a; forks = b; items = c }))
      (Ok (record { at = x; scope = m; locals = a'; forks = b'; items = c' }))
  same_read x m a a' b b' c c' e f g = rw (e, f, g)

  joined_read : (i : Item) (x : ℕ) (b : Block)
      → read_of s p (joined i b) ≡ back p.scope (read_of s (after_item i p x) b)
  joined_read i x (bad e) = refl
  joined_read (a_new v) x (ok c t) = same_read _ _ _ _ _ _ _ _ (omega arith) refl (omega arith)
  joined_read (a_lock v b) x (ok c t) = same_read _ _ _ _ _ _ _ _ (omega arith) (omega arith) (omega arith)
  joined_read (a_fork v b) x (ok c t) = same_read _ _ _ _ _ _ _ _ (omega arith) (omega arith) (omega arith)
  joined_read (a_choice a b) x (ok c t) = same_read _ _ _ _ _ _ _ _ (omega arith) (omega arith) (omega arith)
  joined_read (a_call r vs) x (ok c t) = same_read _ _ _ _ _ _ _ _ refl refl (omega arith)
  joined_read (a_mirror v y) x (ok c t) = same_read _ _ _ _ _ _ _ _ (omega arith) refl (omega arith)

  after_at : (i : Item) (x : ℕ) → (after_item i p x).at ≡ x
  after_at (a_new v) x = refl
  after_at (a_lock v b) x = refl
  after_at (a_fork v b) x = refl
  after_at (a_choice a b) x = refl
  after_at (a_call r vs) x = refl
  after_at (a_mirror v y) x = refl

  -- what a block gives, by what its first item does
  by_item : (h : Head) → item ks d first w (drop p.at s) ≡ h
      → block_answer ks s own p d first ≡ read_of s p (go_on (block ks) d first w h)
  by_item h e = ap (read_of s p) (block_step ks d first w (drop p.at s) ∙ ap (go_on (block ks) d first w) e)

  -- What the block reader goes by: an item leaves the block as it is from the next cursor on, but for the scope
  pub more_goes_on : (q : Cursor) → item_answer ks s own p d first ≡ Ok (More q)
      → (p.at < q.at) × (p.at < length s) × Ready own q
      × (block_answer ks s own p d first ≡ back p.scope (block_answer ks s own q d first))
  more_goes_on q e = go (item ks d first w (drop p.at s)) refl item_good
    where
      go : (h : Head) → item ks d first w (drop p.at s) ≡ h → Good h
          → (p.at < q.at) × (p.at < length s) × Ready own q
          × (block_answer ks s own p d first ≡ back p.scope (block_answer ks s own q d first))
      go (more i t) e' g =
          let x : ℕ = length s - length t in
          let o : head_of s p (more i t) ≡ Ok (More q) = sym (ap (head_of s p) e') ∙ e in
          let same : after_item i p x ≡ q = cc in
          let far : q.at ≡ x = sym (ap (λ (v : Cursor). v.at) same) ∙ after_at i x in (
            subst (λ (v : ℕ). p.at < v) (sym far) g.next.later,
            g.next.inside,
            subst (Ready own) same g.ready,
            by_item (more i t) e'
                ∙ joined_read i x (block ks d first (after w i) t)
                ∙ ap (λ (v : Place). back p.scope (read_of s (after_item i p x) (block ks d first v t))) (sym g.place)
                ∙ ap (λ (v : Cursor). back p.scope (read_of s v (block ks d first (place_of own v) t))) same
                ∙ ap (λ (v : List ℕ). back p.scope (read_of s q (block ks d first (place_of own q) v)))
                (g.next.rest ∙ ap (λ (v : ℕ). drop v s) (sym far)),
          )
      go (closed t) e' g =
          let o : head_of s p (closed t) ≡ Ok (More q) = sym (ap (head_of s p) e') ∙ e in cc
      go (wrong y) e' g = let o : head_of s p (wrong y) ≡ Ok (More q) = sym (ap (head_of s p) e') ∙ e in cc

  pub closed_ends : (x : ℕ) → item_answer ks s own p d first ≡ Ok (Closed x)
      → (p.at < length s) × (block_answer ks s own p d first ≡ Ok (with_item p x))
  closed_ends x e = go (item ks d first w (drop p.at s)) refl item_good
    where
      go : (h : Head) → item ks d first w (drop p.at s) ≡ h → Good h
          → (p.at < length s) × (block_answer ks s own p d first ≡ Ok (with_item p x))
      go (more i t) e' g =
          let o : head_of s p (more i t) ≡ Ok (Closed x) =
          sym (ap (head_of s p) e') ∙ e in cc
      go (closed t) e' g =
          let o : head_of s p (closed t) ≡ Ok (Closed x) = sym (ap (head_of s p) e') ∙ e in
          let far : length s - length t ≡ x = cc in
          (g.inside, by_item (closed t) e' ∙ rw far (same_read _ _ _ _ _ _ _ _ (omega arith) (omega arith) refl))
      go (wrong y) e' g = let o : head_of s p (wrong y) ≡ Ok (Closed x) = sym (ap (head_of s p) e') ∙ e in cc

  pub wrong_ends : (x : Refusal) → item_answer ks s own p d first ≡ Err x → block_answer ks s own p d first ≡ Err x
  wrong_ends x e = go (item ks d first w (drop p.at s)) refl
    where
      go : (h : Head) → item ks d first w (drop p.at s) ≡ h → block_answer ks s own p d first ≡ Err x
      go (more i t) e' =
          let o : head_of s p (more i t) ≡ Err x = sym (ap (head_of s p) e') ∙ e in cc
      go (closed t) e' = let o : head_of s p (closed t) ≡ Err x = sym (ap (head_of s p) e') ∙ e in cc
      go (wrong y) e' = by_item (wrong y) e' ∙ (let o : head_of s p (wrong y) ≡ Err x = sym (ap (head_of s p) e') ∙ e in cc)

  -- a block that was read leaves the reader ready
  pub read_ready : (q : Cursor) → block_answer ks s own p d first ≡ Ok q
      → Ready own q × ((c : Code) (t : List ℕ) → block ks d first w (drop p.at s) ≡ ok c t → t ≡ drop q.at s)
  read_ready q e = go (block ks d first w (drop p.at s)) refl
    where
      go : (b : Block) → block ks d first w (drop p.at s) ≡ b
          → Ready own q × ((c : Code) (t : List ℕ) → block ks d first w (drop p.at s) ≡ ok c t → t ≡ drop q.at s)
      go (ok c t) e' =
          let o : read_of s p (ok c t) ≡ Ok q = sym (ap (read_of s p) e') ∙ e in
          let same : past_block c p (length s - length t) ≡ q = cc in
          let g = block_next ks s own d first p rd c (drop p.at s) t refl e' in
          rw (← same) (
            g.1,
            λ c' t' e''. (let o' : ok c t ≡ ok c' t' = sym e' ∙ e'' in let o'' : t ≡ t' = cc in sym o'' ∙ g.0.rest),
          )
      go (bad y) e' = let o : read_of s p (bad y) ≡ Ok q = sym (ap (read_of s p) e') ∙ e in cc
