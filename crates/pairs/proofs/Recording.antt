-- Recording a body item by item: what it records in all is what the grid has and what is recorded in what is left.
use mathlib.Core.Path.{◌≡◌, refl, sym, ap, ◌∙◌}
use mathlib.Core.Logic.{◌⊎◌, inl, inr, ⊎_elim}
use mathlib.Core.List.{List, [], ◌∷◌, ◌++◌, map, append_assoc}
use mathlib.Core.Option.{Option, none}
use Prim.Native.Nat.{ℕ, zero, suc, ◌+◌, ◌-◌, ◌*◌, ◌≤◌, ◌<◌}
use native.Mathlib.Omega.{arith}
use lib.ListN.{length, get_or, take, drop}
use lib.Seq.{drop-drop, take_at, get_or-set_same}
use Rattle.table.specs.Constants.{END, LOCK, CALL, code, most_forks, most_names}
use Rattle.table.specs.Program.{Code, lock, call}
use Rattle.table.specs.WellFormed.{In}
use Rattle.table.proofs.Laws.Lists.{In-map}
use Rattle.table.specs.Encoding.{encode}
use Rattle.rules.specs.Label.{Label}
use Rattle.rules.specs.Number.{label_of}
use Rattle.rules.specs.Model.{Kept, Place, at_head}
use Rattle.rules.specs.Derived.{Pairs, RecordedFrom}
use Rattle.grid.specs.Rows.{Has}
use Rattle.grid.specs.Grid.{Pair, Small, AllKept}
use Rattle.table.specs.Laws.Fine.{Fine, IsBody}
use Rattle.pairs.specs.declared.walk.Level.{Level as Holding}
use Rattle.pairs.specs.Walks.{Walk}
use Rattle.pairs.specs.Walks.{Ready, held_by, LowHolder, byte_of, arg_of, level_of, root_of}
use Rattle.pairs.specs.Walks.{inside_lock, start_walk, moved_walk, next_walk, outermost, past_item}
use Rattle.pairs.specs.Gains.{Gains, HoldersGive, CallGives, CallPairs, Low, LowAt, names_at, roots_at, CallReady}
use Rattle.rows.specs.Bytes.{RowBits}
use Rattle.pairs.proofs.Pending.{Alternative, Level, level, bytes, second_bytes, closer, past, Left, InLeft}
use Rattle.pairs.proofs.Pending.{AtItem, PairIn, PairAt, LockGives, Shows}
use Rattle.pairs.specs.Parts.{Records}
use Rattle.pairs.proofs.Steps.{Going, begins, place_there, few_levels, room, step, next_place, shrinks}
use Rattle.pairs.proofs.Steps.{none_left, at_kind, quiet, byte_at, by_byte, past_byte}
use Rattle.pairs.proofs.Tracking.{Tracked, top_entry, name_low, root_low, track, ready, tracks, shows_lock}
use Rattle.pairs.proofs.Gaining.{gains_none, gains_map, lock_gains}
use Rattle.pairs.proofs.Parts.{left_past, past_left, pair_parts, parts_pair, pair_at}

-- each entry of a list of names below 16 is below 16
low_names : (xs : List ℕ) → ((x : ℕ) → In x xs → x < 16) → Low xs
low_names [] h i = omega arith
low_names (x ∷ xs) h zero = h x (inl refl)
low_names (x ∷ xs) h (suc i) = low_names xs (λ y p. h y (inr p)) i

-- the walk over the body c, of a routine with k parameters and followed by t, is at its place, and the grid has the
-- pairs of f and those recorded before
pub record Recorded (ks : List ℕ) (k : ℕ) (s rows : List ℕ) (c : Code) (t : List ℕ) (f : List (List ℕ)) (w : Walk)
    (g : List (List ℕ)) : Type 0 where
  pub levels : List Level
  pub left : Left ks s t w.at w.top levels
  pub tracked : Tracked k w levels
  pub met : (a b : ℕ) (l : Label) → Pair g a b l
      → Pair f a b l ⊎ (RecordedFrom (RowBits rows) c at_head a b l × Kept a b l)
  pub pending : (a b : ℕ) (l : Label) → InLeft (PairIn (RowBits rows) a b l) levels
      → RecordedFrom (RowBits rows) c at_head a b l
  pub all : (a b : ℕ) (l : Label) → RecordedFrom (RowBits rows) c at_head a b l → Kept a b l
      → Pair g a b l ⊎ InLeft (PairIn (RowBits rows) a b l) levels

-- the walk over each body that the bytes can be, from the grid f on
pub record Recording (ks : List ℕ) (k : ℕ) (s : List ℕ) (at : ℕ) (rows : List ℕ) (f : List (List ℕ)) (w : Walk)
    (g : List (List ℕ)) : Type 0 where
  pub small : Small g
  pub kept : AllKept f → AllKept g
  pub old : (a b : ℕ) (l : Label) → Pair f a b l → Pair g a b l
  pub each : (c : Code) (t : List ℕ) → Fine ks k c → drop at s ≡ encode END c ++ t → Recorded ks k s rows c t f w g

pub record_start : (ks : List ℕ) (k : ℕ) (s : List ℕ) (at : ℕ) (rows : List ℕ) (f : List (List ℕ))
    → Small f → Recording ks k s at rows f (start_walk at k) f
record_start ks k s at rows f small = record {
  small = small;
  kept = λ z. z;
  old = λ a b l p. p;
  each = λ c t i e. record {
    levels = level c none at_head ∷ [];
    left = begins ks s t at k c i e;
    tracked = tracks ks at k c i;
    met = λ a b l p. inl p;
    pending = λ a b l p. ⊎_elim (λ y. y) (⊎_elim (λ y. absurd y) (λ y. absurd y)) p;
    all = λ a b l p k. inr (inl p);
  };
}

-- the pair from the holder outside a LOCK at the place to the one inside
abbrev pub LockPairs : List ℕ → Walk → ℕ → ℕ → Label → Type 0
LockPairs s w =
    HoldersGive (held_by (level_of w).holder) (held_by (inside_lock (level_of w) (root_of w.roots (arg_of s w))).holder)
    (label_of (level_of w).thread)

-- past a LOCK, what holds at the place is what holds inside it
opened_level : (ks s : List ℕ) (w : Walk) → byte_of s w ≡ code LOCK → w.top + 1 < length w.levels
    → level_of (next_walk ks s w) ≡ inside_lock (level_of w) (root_of w.roots (arg_of s w))
opened_level ks s w e l = ap level_of (by_byte ks s w 2 e) ∙ get_or-set_same w.levels (w.top + 1) _ outermost l

-- the same gains, with equals for equals
lock_same : {g r : List (List ℕ)} (h : Holding) (π : Place) (u v : ℕ) → Shows h π → u ≡ v
    → Gains g (LockGives (Has h.nest) u (label_of h.thread) (held_by h.holder)) r
    → Gains g (LockGives (λ z. In z π.nest) v π.thread π.holder) r
lock_same h π u v k e p =
    gains_map
    (λ a b l z. ((λ i. z.0 (k.nest.from u (rw e i))), k.holder ∙ z.1, z.2 ∙ e, z.3 ∙ sym k.thread))
    (λ a b l z. ((λ i. z.0 (rw e at (k.nest.to u i))), sym k.holder ∙ z.1, z.2 ∙ sym e, z.3 ∙ k.thread))
    p

call_same : {g r : List (List ℕ)} (R : Pairs) (n m : ℕ) (xs ys : List ℕ) (θ ϑ : Label) (h i : Option ℕ) → n ≡ m
    → xs ≡ ys → ϑ ≡ θ → i ≡ h → Gains g (CallGives R n xs θ h) r → Gains g (CallGives R m ys ϑ i) r
call_same {g} {r} R n m xs ys θ ϑ h i e f c d p = rw (← e, ← f, c, d) p

-- the names of a call
names_are : (s t xs z y : List ℕ) (at r : ℕ) → drop at s ≡ code CALL ∷ r ∷ (((xs ++ z) ++ y) ++ t)
    → names_at s (at + 2) (length xs) ≡ xs
names_are s t xs z y at r e =
    ap (take (length xs)) (sym (drop-drop 2 at s) ∙
    (ap (drop 2) e ∙ (ap (λ (l : List ℕ). l ++ t) (append_assoc xs z y) ∙ append_assoc xs (z ++ y) t)))
    ∙ take_at xs ((z ++ y) ++ t) (length xs) refl

-- the images of a list by two functions that agree on it
same_images : (f g : ℕ → ℕ) (xs : List ℕ) → ((x : ℕ) → In x xs → f x ≡ g x) → map f xs ≡ map g xs
same_images f g [] e = refl
same_images f g (x ∷ xs) e =
    let p : f x ≡ g x = e x (inl refl) in
    let q : map f xs ≡ map g xs = same_images f g xs (λ y i. e y (inr i)) in
    cc

-- the same of the images of a list
low_images : (f : ℕ → ℕ) (xs : List ℕ) → ((x : ℕ) → In x xs → f x < 16) → Low (map f xs)
low_images f xs h = low_names (map f xs) (λ y i. let r = In-map f y xs i in rw r.2 (h r.0 r.1))

module _ (ks s t : List ℕ) (k : ℕ) (w : Walk) where
  here_low : (ls : List Level) → Left ks s t w.at w.top ls → Tracked k w ls
      → LowHolder (level_of w).holder × ((level_of w).thread ≤ most_forks)
  here_low [] p o = absurd (let z = p.count in omega arith)
  here_low (level c u π ∷ ls) p o = let y = top_entry ks s t k w c u π ls p o in (y.name, y.low)

  inside_low : (ls : List Level) → Left ks s t w.at w.top ls → Tracked k w ls → (z : ℕ) → z < most_names
      → LowHolder (inside_lock (level_of w) z).holder
  inside_low [] p o z l = absurd (let z = p.count in omega arith)
  inside_low (level c u π ∷ ls) p o z l = (shows_lock (top_entry ks s t k w c u π ls p o) z l).name

  lock_item_lem : (R : Pairs) (g r : List (List ℕ)) (ls : List Level) → Left ks s t w.at w.top ls → Tracked k w ls
      → byte_of s w ≡ code LOCK → Gains g (LockPairs s w) r → Gains g (λ a b l. AtItem (PairAt R a b l) ls) r
  lock_item_lem R g r ls p o e q =
      let v = at_kind ks s t w.at w.top LOCK ls p e in
      let p' : Left ks s t w.at w.top (level (lock v.0 v.1 v.2) v.3 v.4 ∷ v.5) = rw v.6 at p in
      let o' : Tracked k w (level (lock v.0 v.1 v.2) v.3 v.4 ∷ v.5) = rw v.6 at o in
      let x : arg_of s w ≡ v.0 = byte_at s w.at 1 _ p'.content in
      let y = top_entry ks s t k w _ _ _ _ p' o' in
      let n = o'.scopes.0 in
      rw v.6 (lock_same (level_of w) v.4 (root_of w.roots (arg_of s w)) (v.4.roots v.0) y
      (ap (root_of w.roots) x ∙ n.roots v.0 n.uses.0)
      (lock_gains (level_of w) (root_of w.roots (arg_of s w)) y.low q))

  module _ (r : ℕ) (xs : List ℕ) (c : Code) (u : Option Alternative) (π : Place) (ls : List Level)
      (p : Left ks s t w.at w.top (level (call r xs c) u π ∷ ls)) where
    names_at_call : names_at s (w.at + 2) (get_or ks (arg_of s w) 0) ≡ xs
    names_at_call =
        let x : arg_of s w ≡ r = byte_at s w.at 1 _ p.content in
        let k : get_or ks (arg_of s w) 0 ≡ length xs = rw x (sym p.levels.0.calling.1) in
        rw k (names_are s t xs (encode (closer u) c) (second_bytes u ++ bytes ls) w.at r p.content)

    module _ (o : Tracked k w (level (call r xs c) u π ∷ ls)) where
      roots_at_call : roots_at w.roots s (w.at + 2) (get_or ks (arg_of s w) 0) ≡ map π.roots xs
      roots_at_call =
          let n = o.scopes.0 in
          ap (map (root_of w.roots)) names_at_call
          ∙ same_images (root_of w.roots) π.roots xs (λ x i. n.roots x (n.uses.0 x i))

      low_at_call : LowAt w.roots s (w.at + 2) (get_or ks (arg_of s w) 0)
      low_at_call = rw names_at_call (
        low_names xs (λ x i. name_low k w _ _ _ _ o x (o.scopes.0.uses.0 x i)),
        low_images (root_of w.roots) xs (λ x i. root_low k w _ _ _ _ o x (o.scopes.0.uses.0 x i)),
      )

  call_ready : (rows : List ℕ) (ls : List Level) → Left ks s t w.at w.top ls → Tracked k w ls
      → byte_of s w ≡ code CALL → 65 * length ks ≤ length rows → CallReady ks s rows w
  call_ready rows ls p o e long =
      let v = at_kind ks s t w.at w.top CALL ls p e in
      let p' : Left ks s t w.at w.top (level (call v.0 v.1 v.2) v.3 v.4 ∷ v.5) = rw v.6 at p in
      let o' : Tracked k w (level (call v.0 v.1 v.2) v.3 v.4 ∷ v.5) = rw v.6 at o in
      let x : arg_of s w ≡ v.0 = byte_at s w.at 1 _ p'.content in
      let n = p'.levels.0.calling in
      let m : get_or ks (arg_of s w) 0 ≡ length v.1 = rw x (sym n.1) in
      let d = room ks s t w.at w.top ls p (λ f. absurd (omega arith)) CALL e in
      record {
        there = d.2;
        routine = d.1;
        params = rw m n.2;
        names = low_at_call _ _ _ _ _ _ p' o';
        few = few_levels ks s t w.at w.top ls p;
        holder = (here_low ls p o).0;
        thread = (here_low ls p o).1;
        long = long;
      }

  call_item_lem : (rows : List ℕ) (g r : List (List ℕ)) (ls : List Level) → Left ks s t w.at w.top ls → Tracked k w ls
      → byte_of s w ≡ code CALL → Gains g (CallPairs ks s rows w) r
      → Gains g (λ a b l. AtItem (PairAt (RowBits rows) a b l) ls) r
  call_item_lem rows g r ls p o e q =
      let v = at_kind ks s t w.at w.top CALL ls p e in
      let p' : Left ks s t w.at w.top (level (call v.0 v.1 v.2) v.3 v.4 ∷ v.5) = rw v.6 at p in
      let o' : Tracked k w (level (call v.0 v.1 v.2) v.3 v.4 ∷ v.5) = rw v.6 at o in
      let x : arg_of s w ≡ v.0 = byte_at s w.at 1 _ p'.content in
      let y = top_entry ks s t k w _ _ _ _ p' o' in
      rw v.6
      (call_same (RowBits rows) (arg_of s w) v.0 _ (map v.4.roots v.1) (label_of (level_of w).thread) v.4.thread
      (held_by (level_of w).holder) v.4.holder x (roots_at_call _ _ _ _ _ _ p' o') y.thread y.holder q)

module _ {ks : List ℕ} {k : ℕ} {s : List ℕ} {at : ℕ} {rows : List ℕ} {f : List (List ℕ)} {w : Walk} {g : List (List ℕ)}
    (p : Recording ks k s at rows f w g) (body : IsBody ks k s at) where
  abbrev here : Recorded ks k s rows body.0 body.1 f w g
  here = p.each body.0 body.1 body.2 body.3

  pub record_there : w.at < length s
  record_there = place_there ks s body.1 w.at w.top here.levels here.left

  pub record_entries : w.top ≤ 16
  record_entries = few_levels ks s body.1 w.at w.top here.levels here.left

  pub record_ready : Going s w.at w.top → Ready ks s w
  record_ready h = ready ks s body.1 k w here.levels here.left here.tracked h

  pub record_shrinks : Going s w.at w.top → length s - past_item ks s w.at < length s - w.at
  record_shrinks h = shrinks ks s body.1 w.at w.top here.levels here.left h

  pub record_less : Going s w.at w.top → length s - (next_walk ks s w).at < length s - w.at
  record_less h = rw (next_place ks s w).0 (record_shrinks h)

  pub record_here : LowHolder (level_of w).holder × ((level_of w).thread ≤ most_forks)
  record_here = here_low ks s body.1 k w here.levels here.left here.tracked

  pub record_opened : Going s w.at w.top → byte_of s w ≡ code LOCK
      → ((next_walk ks s w).top ≤ 16)
      × (level_of (next_walk ks s w) ≡ inside_lock (level_of w) (root_of w.roots (arg_of s w)))
  record_opened h e =
      let r = ((record_ready h).room LOCK e).1 in
      let l = here.tracked.long_levels in
      let n : (next_walk ks s w).top ≡ w.top + 1 = ap (λ (v : Walk). v.top) (by_byte ks s w 2 e) in
      (omega arith, opened_level ks s w e (omega arith))

  pub record_inside : Going s w.at w.top → byte_of s w ≡ code LOCK
      → LowHolder (inside_lock (level_of w) (root_of w.roots (arg_of s w))).holder
  record_inside h e =
      inside_low ks s body.1 k w here.levels here.left here.tracked _ ((record_ready h).names LOCK e).1

  pub record_call_ready : byte_of s w ≡ code CALL → 65 * length ks ≤ length rows
      → CallReady ks s rows w
  record_call_ready e l = call_ready ks s body.1 k w rows here.levels here.left here.tracked e l

  record_next : (r : List (List ℕ)) → Going s w.at w.top
      → ((t : List ℕ) (ls : List Level) → Left ks s t w.at w.top ls → Tracked k w ls
      → Gains g (λ a b l. AtItem (PairAt (RowBits rows) a b l) ls) r)
      → Recording ks k s at rows f (next_walk ks s w) r
  record_next r h gains =
      let q₀ = gains body.1 here.levels here.left here.tracked in
      record {
        small = q₀.small;
        kept = λ z. q₀.kept (p.kept z);
        old = λ a b l y. q₀.old a b l (p.old a b l y);
        each = λ c t i e.
            let z = p.each c t i e in
            let q = gains t z.levels z.left z.tracked in
            record {
              levels = past z.levels;
              left = rw ((next_place ks s w).0, (next_place ks s w).1)
                  (step ks s t w.at w.top z.levels z.left h);
              tracked = track ks s t k w z.levels z.left h z.tracked;
              met = λ a b l y. ⊎_elim (z.met a b l)
                  (λ x. inr (z.pending a b l (pair_at (RowBits rows) a b l z.levels x.0), x.1))
                  (q.only a b l y);
              pending = λ a b l y. z.pending a b l
                  (past_left (PairAt (RowBits rows) a b l) (PairIn (RowBits rows) a b l) (parts_pair (RowBits rows) a b l)
                  z.levels y);
              all = λ a b l y k.
                  ⊎_elim
                  (λ x. inl (q.old a b l x))
                  (λ x. ⊎_elim (λ v. inl (q.new a b l v k)) (λ v. inr v)
                  (left_past _ _ (pair_parts (RowBits rows) a b l) z.levels x))
                  (z.all a b l y k);
            };
      }

  pub record_lock : (r : List (List ℕ)) → Going s w.at w.top → byte_of s w ≡ code LOCK → Gains g (LockPairs s w) r
      → Recording ks k s at rows f (next_walk ks s w) r
  record_lock r h e q =
      record_next r h (λ t ls y o. lock_item_lem ks s t k w (RowBits rows) g r ls y o e q)

  pub record_call : (r : List (List ℕ)) → Going s w.at w.top → byte_of s w ≡ code CALL
      → Gains g (CallPairs ks s rows w) r
      → Recording ks k s at rows f (next_walk ks s w) r
  record_call r h e q = record_next r h (λ t ls y o. call_item_lem ks s t k w rows g r ls y o e q)

  -- past a CALL the walk is at the next item, and all else is as it was
  pub record_called : (r : List (List ℕ)) → Going s w.at w.top → byte_of s w ≡ code CALL
      → Gains g (CallPairs ks s rows w) r
      → Recording ks k s at rows f (moved_walk w (past_item ks s w.at) w.top) r
  record_called r h e q = rw (past_byte ks s w.at 6 e) (rw (by_byte ks s w 6 e) at (record_call r h e q))

  pub record_other : Going s w.at w.top → (byte_of s w ≡ code LOCK → ⊥) → (byte_of s w ≡ code CALL → ⊥)
      → Recording ks k s at rows f (next_walk ks s w) g
  record_other h n m =
      record_next g h
      (λ t ls y o. gains_none g _ p.small (λ a b l. quiet ks s t w.at w.top (RowBits rows) a b l ls y n m))

  -- past the END of a block the walk is one byte on, and one level out
  pub record_close : byte_of s w ≡ code END → 1 ≤ w.top
      → Recording ks k s at rows f (moved_walk w (w.at + 1) (w.top - 1)) g
  record_close e n =
      rw (by_byte ks s w 0 e) at (record_other (λ x. n) (λ x. absurd (omega arith)) (λ x. absurd (omega arith)))

  pub record_end : byte_of s w ≡ code END → w.top ≡ 0 → Records ks k s at rows f g
  record_end e n c t i h =
      let z = p.each c t i h in
      record {
        small = p.small;
        kept = p.kept;
        only = z.met;
        old = p.old;
        new = λ a b l y k.
            ⊎_elim (λ x. x)
            (λ x. absurd (none_left ks s t w.at w.top z.levels z.left e n (PairIn (RowBits rows) a b l)
            (λ π v. v) x))
            (z.all a b l y k);
      }
