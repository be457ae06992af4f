-- Reading goes forward: fewer bytes are left after what was read, and a refusal while reading is one of 7 to 13. So the
-- fuel never runs out, and a block is its first item and what follows (block_step).
use Rattle.std.specs.Prelude.{◌≡◌, refl, Bool, true, false, cond, List, [], ◌∷◌, ℕ, zero, suc, ◌+◌, ◌-◌, ◌≤◌, ◌<◌, leb, eqb}
use Rattle.std.specs.Prelude.{length, get_or, drop}
use Rattle.std.proofs.Common.{ap, ◌∙◌, arith, length-drop}
use Rattle.std.proofs.Math.Option.{Option, none, some}
use Rattle.table.specs.Constants.{most_locals, most_forks}
use Rattle.table.specs.Constants.{Op, END, NEW, LOCK, FORK, CHOICE, OTHER, CALL, MIRROR, op_of}
use Rattle.table.specs.Program.{Code}
use Rattle.table.specs.Check.{Item, a_lock, a_fork, a_choice, Place, past, starting, after}
use Rattle.table.specs.Check.{Block, ok, bad, Head, more, closed, wrong, Reader, opened, in?, named}
use Rattle.table.specs.Check.{lock_item, call_item, mirror_item, item_of, item_if, item_by, joined, go_on, block_by}
use Rattle.table.specs.Check.{block, item}
use Rattle.table.proofs.Laws.Cases.{cond_cases}

-- a block of the bytes l was read, with fewer bytes left, or refused by 7 to 13
abbrev pub AheadBlock : List ℕ → Block → Type 0
AheadBlock l (ok c t) = length t < length l
AheadBlock l (bad e) = (7 ≤ e) × (e ≤ 13)

-- the same of an item
abbrev pub AheadItem : List ℕ → Head → Type 0
AheadItem l (more i t) = length t < length l
AheadItem l (closed t) = length t < length l
AheadItem l (wrong e) = (7 ≤ e) × (e ≤ 13)

-- the same of every block that a reader reads
abbrev pub Ahead : Reader → Type 0
Ahead read = (d : ℕ) (first : Bool) (w : Place) (l : List ℕ) → AheadBlock l (read d first w l)

opened_ahead : (l l' : List ℕ) (p : Block) (f : Code → List ℕ → Head) → AheadBlock l' p
    → ((c : Code) (t : List ℕ) → length t < length l' → AheadItem l (f c t)) → AheadItem l (opened p f)
opened_ahead l l' (ok c t) f a h = h c t a
opened_ahead l l' (bad e) f a h = a

module _ (read : Reader) (hr : Ahead read) (ks : List ℕ) (d : ℕ) (first : Bool) (w : Place) where
  lock_ahead : (b : ℕ) (l : List ℕ) → AheadItem (b ∷ l) (lock_item read d w l)
  lock_ahead b [] = omega arith
  lock_ahead b (x ∷ l) = cond_cases (AheadItem (b ∷ x ∷ l)) (in? x w.scope) _ _
      (λ e. opened_ahead (b ∷ x ∷ l) l (read (d - 1) false w l) (λ c t. more (a_lock x c) t) (hr (d - 1) false w l)
      (λ c t a. omega arith))
      (λ e. omega arith)

  call_ahead : (b : ℕ) (l : List ℕ) → AheadItem (b ∷ l) (call_item ks w l)
  call_ahead b [] = omega arith
  call_ahead b (r ∷ l) = cond_cases (AheadItem (b ∷ r ∷ l)) (leb (length ks) r) _ _ (λ e. omega arith)
      (λ e. cond_cases (AheadItem (b ∷ r ∷ l)) (named q w.scope l) _ _
      (λ e'. let h : length (drop q l) ≡ length l - q = length-drop q l in omega arith)
      (λ e'. omega arith))
    where
      q : ℕ
      q = get_or ks r 0

  mirror_ahead : (b : ℕ) (l : List ℕ) → AheadItem (b ∷ l) (mirror_item w l)
  mirror_ahead b [] = omega arith
  mirror_ahead b (y ∷ l) =
      cond_cases (AheadItem (b ∷ y ∷ l)) (in? y w.scope) _ _ (λ e. omega arith) (λ e. omega arith)

  item_of_ahead : (b : ℕ) (o : Op) (l : List ℕ) → AheadItem (b ∷ l) (item_of read ks d first w o l)
  item_of_ahead b END l = cond_cases (AheadItem (b ∷ l)) first _ _ (λ e. omega arith) (λ e. omega arith)
  item_of_ahead b NEW l =
      cond_cases (AheadItem (b ∷ l)) (leb most_locals w.made) _ _ (λ e. omega arith) (λ e. omega arith)
  item_of_ahead b LOCK l = cond_cases (AheadItem (b ∷ l)) (eqb d 0) _ _ (λ e. omega arith) (λ e. lock_ahead b l)
  item_of_ahead b FORK l = cond_cases (AheadItem (b ∷ l)) (eqb d 0) _ _ (λ e. omega arith)
      (λ e. cond_cases (AheadItem (b ∷ l)) (leb most_forks w.started) _ _ (λ e'. omega arith)
      (λ e'. opened_ahead (b ∷ l) l (read (d - 1) false (starting w) l) (λ c t. more (a_fork (w.started + 1) c) t)
      (hr (d - 1) false (starting w) l) (λ c t a. omega arith)))
  item_of_ahead b CHOICE l = cond_cases (AheadItem (b ∷ l)) (eqb d 0) _ _ (λ e. omega arith)
      (λ e. opened_ahead (b ∷ l) l (read (d - 1) true w l)
      (λ a t. opened (read (d - 1) false (past w a) t) (λ c u. more (a_choice a c) u)) (hr (d - 1) true w l)
      (λ c t a. opened_ahead (b ∷ l) t (read (d - 1) false (past w c) t) (λ c' u. more (a_choice c c') u)
      (hr (d - 1) false (past w c) t) (λ c' u a'. omega arith)))
  item_of_ahead b OTHER l = cond_cases (AheadItem (b ∷ l)) first _ _ (λ e. omega arith) (λ e. omega arith)
  item_of_ahead b CALL l = call_ahead b l
  item_of_ahead b MIRROR l =
      cond_cases (AheadItem (b ∷ l)) (leb most_locals w.made) _ _ (λ e. omega arith) (λ e. mirror_ahead b l)

  item_by_ahead : (l : List ℕ) → AheadItem l (item_by read ks d first w l)
  item_by_ahead [] = omega arith
  item_by_ahead (b ∷ l) = step (op_of b)
    where
      step : (o : Option Op) → AheadItem (b ∷ l) (item_if read ks d first w o l)
      step none = omega arith
      step (some o) = item_of_ahead b o l

  joined_ahead : (l t : List ℕ) (i : Item) (p : Block) → length t < length l → AheadBlock t p
      → AheadBlock l (joined i p)
  joined_ahead l t i (ok c u) lt a = omega arith
  joined_ahead l t i (bad e) lt a = a

  go_on_ahead : (l : List ℕ) (h : Head) → AheadItem l h → AheadBlock l (go_on read d first w h)
  go_on_ahead l (more i t) a = joined_ahead l t i (read d first (after w i) t) a (hr d first (after w i) t)
  go_on_ahead l (closed t) a = a
  go_on_ahead l (wrong e) a = a

block_by_ahead : (f : ℕ) (ks : List ℕ) → Ahead (block_by f ks)
unfolding block_by
block_by_ahead zero ks d first w l = omega arith
block_by_ahead (suc f) ks d first w l =
    go_on_ahead (block_by f ks) (block_by_ahead f ks) ks d first w l (item_by (block_by f ks) ks d first w l)
    (item_by_ahead (block_by f ks) (block_by_ahead f ks) ks d first w l)

pub block_ahead : (ks : List ℕ) → Ahead (block ks)
unfolding block
block_ahead ks d first w l = block_by_ahead (suc (length l)) ks d first w l

-- two readers that agree on the lists of fewer bytes
abbrev Agree : Reader → Reader → List ℕ → Type 0
Agree p q l = (d : ℕ) (first : Bool) (w : Place) (t : List ℕ) → length t < length l → p d first w t ≡ q d first w t

opened_agree : (l : List ℕ) (p q : Block) (f g : Code → List ℕ → Head) → p ≡ q → AheadBlock l p
    → ((c : Code) (t : List ℕ) → length t < length l → f c t ≡ g c t) → opened p f ≡ opened q g
opened_agree l p q f g e a h = go p a ∙ ap (λ (v : Block). opened v g) e
  where
    go : (p' : Block) → AheadBlock l p' → opened p' f ≡ opened p' g
    go (ok c t) a' = h c t a'
    go (bad x) a' = refl

module _ (p q : Reader) (hp : Ahead p) (ks : List ℕ) (d : ℕ) (first : Bool) (w : Place) where
  lock_agree : (b : ℕ) (l : List ℕ) → Agree p q (b ∷ l) → lock_item p d w l ≡ lock_item q d w l
  lock_agree b [] e = refl
  lock_agree b (x ∷ l) e = rw (e (d - 1) false w l (omega arith))

  item_of_agree : (b : ℕ) (o : Op) (l : List ℕ) → Agree p q (b ∷ l)
      → item_of p ks d first w o l ≡ item_of q ks d first w o l
  item_of_agree b END l e = refl
  item_of_agree b NEW l e = refl
  item_of_agree b LOCK l e = rw (lock_agree b l e)
  item_of_agree b FORK l e = rw (e (d - 1) false (starting w) l (omega arith))
  item_of_agree b CHOICE l e = ap (cond (eqb d 0) (wrong 10))
      (opened_agree l _ _ _ _ (e (d - 1) true w l (omega arith)) (hp (d - 1) true w l)
      (λ c t a. rw (e (d - 1) false (past w c) t (omega arith))))
  item_of_agree b OTHER l e = refl
  item_of_agree b CALL l e = refl
  item_of_agree b MIRROR l e = refl

  item_by_agree : (l : List ℕ) → Agree p q l → item_by p ks d first w l ≡ item_by q ks d first w l
  item_by_agree [] e = refl
  item_by_agree (b ∷ l) e = step (op_of b)
    where
      step : (o : Option Op) → item_if p ks d first w o l ≡ item_if q ks d first w o l
      step none = refl
      step (some o) = item_of_agree b o l e

  go_on_agree : (l : List ℕ) (h : Head) → Agree p q l → AheadItem l h → go_on p d first w h ≡ go_on q d first w h
  go_on_agree l (more i t) e a = ap (joined i) (e d first (after w i) t a)
  go_on_agree l (closed t) e a = refl
  go_on_agree l (wrong x) e a = refl

  step_agree : (l : List ℕ) → Agree p q l
      → go_on p d first w (item_by p ks d first w l) ≡ go_on q d first w (item_by q ks d first w l)
  step_agree l e =
      go_on_agree l (item_by p ks d first w l) e (item_by_ahead p hp ks d first w l)
      ∙ ap (go_on q d first w) (item_by_agree l e)

-- any fuel above the bytes left gives the same
enough : (f g : ℕ) (ks : List ℕ) (d : ℕ) (first : Bool) (w : Place) (l : List ℕ) → length l < f → length l < g
    → block_by f ks d first w l ≡ block_by g ks d first w l
unfolding block_by
enough zero g ks d first w l a b = absurd (omega arith)
enough (suc f) zero ks d first w l a b = absurd (omega arith)
enough (suc f) (suc g) ks d first w l a b =
    step_agree (block_by f ks) (block_by g ks) (block_by_ahead f ks) ks d first w l
    (λ d' first' w' t lt. enough f g ks d' first' w' t (omega arith) (omega arith))

-- a block is its first item and what follows
pub block_step : (ks : List ℕ) (d : ℕ) (first : Bool) (w : Place) (l : List ℕ)
    → block ks d first w l ≡ go_on (block ks) d first w (item ks d first w l)
unfolding block block_by
block_step ks d first w l =
    step_agree (block_by (length l) ks) (block ks) (block_by_ahead (length l) ks) ks d first w l
    (λ d' first' w' t lt. enough (length l) (suc (length t)) ks d' first' w' t (omega arith) (omega arith))
