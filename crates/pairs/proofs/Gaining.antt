-- What grids gain: nothing, one gain after another, and the pairs of one cell, LOCK or CALL.
use mathlib.Core.Path.{◌≡◌, refl, sym, ap, subst, ◌∙◌}
use mathlib.Core.Logic.{◌⊎◌, inl, inr, ⊎_elim}
use mathlib.Core.Bool.{Bool, true, false, cond}
use mathlib.Core.List.{List, [], ◌∷◌, map}
use mathlib.Core.Option.{Option, none, some}
use Prim.Native.Nat.{ℕ, zero, suc, ◌+◌, ◌-◌, ◌*◌, ◌/◌, ◌%◌, ◌^◌, ◌≤◌, ◌<◌}
use native.Mathlib.Omega.{arith}
use native.Mathlib.Decide.{dec_lt}
use native.Mathlib.Nat.{div-one}
use lib.Bits.{bit_or, or_lt}
use lib.ListN.{length, get_or, get_elem?, drop, length-drop, length-map, take}
use lib.Seq.{length-take-le, get_or-take, get_or-drop}
use Rattle.table.specs.Constants.{most_forks}
use Rattle.rules.specs.Label.{Label, own, unknown, several, placed}
use Rattle.rules.specs.Number.{number, label_of, labels}
use Rattle.rules.specs.Model.{Kept, renamed}
use Rattle.grid.specs.Rows.{Has, Bits}
use Rattle.grid.specs.Grid.{In, Small, Added}
use Rattle.grid.proofs.Laws.Masks.{below_bits, bits_or, bits_one, bits_shl}
use Rattle.grid.proofs.Laws.Labels.{not_several, in_one, one_in}
use Rattle.std.specs.Prelude.{Option as Found, None, Some, is_some}
use Rattle.pairs.specs.declared.walk.Level.{Level}
use Rattle.pairs.specs.Walks.{Walk}
use Rattle.pairs.specs.Walks.{held_by, arg_of, level_of, root_of, in_nest, inside_lock}
use Rattle.pairs.specs.Gains.{HoldersGive, CallGives, CallPairs, Gains, Low, names_at, MaskGives, Placed}
use Rattle.rows.specs.Bytes.{Labelled, RowBits}
use Rattle.rows.specs.Laws.Cells.{no_label}
use Rattle.pairs.specs.Gains.{Below, CellGives, LineGives, RowGives, CallReady}
use Rattle.pairs.proofs.Pending.{LockGives}
use Rattle.pairs.proofs.Tracking.{in_nest_lem, not_in_nest}

pub gains_none : (g : List (List ℕ)) (N : ℕ → ℕ → Label → Type 0) → Small g → ((a b : ℕ) (l : Label) → N a b l → ⊥)
    → Gains g N g
gains_none g N s n = record {
  small = s;
  kept = λ h. h;
  only = λ a b l p. inl p;
  old = λ a b l p. p;
  new = λ a b l p k. absurd (n a b l p);
}

pub gains_then : {g h r : List (List ℕ)} {N M : ℕ → ℕ → Label → Type 0} → Gains g N h → Gains h M r
    → Gains g (λ a b l. N a b l ⊎ M a b l) r
gains_then p q = record {
  small = q.small;
  kept = λ h. q.kept (p.kept h);
  only = λ a b l w.
      ⊎_elim
      (λ z. ⊎_elim (λ y. inl y) (λ y. inr (inl y.0, y.1)) (p.only a b l z))
      (λ z. inr (inr z.0, z.1))
      (q.only a b l w);
  old = λ a b l w. q.old a b l (p.old a b l w);
  new = λ a b l w k. ⊎_elim (λ z. q.old a b l (p.new a b l z k)) (λ z. q.new a b l z k) w;
}

-- the same gains, where the same pairs are kept
gains_same : {g r : List (List ℕ)} {N M : ℕ → ℕ → Label → Type 0}
    → ((a b : ℕ) (l : Label) → N a b l → Kept a b l → M a b l)
    → ((a b : ℕ) (l : Label) → M a b l → Kept a b l → N a b l) → Gains g N r → Gains g M r
gains_same f h p = record {
  small = p.small;
  kept = p.kept;
  only = λ a b l w. ⊎_elim (λ z. inl z) (λ z. inr (f a b l z.0 z.1, z.1)) (p.only a b l w);
  old = p.old;
  new = λ a b l w k. p.new a b l (h a b l w k) k;
}

pub gains_map : {g r : List (List ℕ)} {N M : ℕ → ℕ → Label → Type 0} → ((a b : ℕ) (l : Label) → N a b l → M a b l)
    → ((a b : ℕ) (l : Label) → M a b l → N a b l) → Gains g N r → Gains g M r
gains_map f h p = gains_same (λ a b l w k. f a b l w) (λ a b l w k. h a b l w) p

-- the pairs of one cell
pub gains_added : {g r : List (List ℕ)} {a b : ℕ} {L : Label → Type 0} → Added g a b L r
    → Gains g (λ x y l. (x ≡ a) × (y ≡ b) × L l) r
gains_added {g} {r} {a} {b} {L} p = record {
  small = p.small;
  kept = p.kept;
  only = λ x y l w. ⊎_elim (λ z. inl z) (λ z. inr ((z.0, z.1, z.2), rw (z.0, z.1) z.3)) (p.only x y l w);
  old = p.old;
  new = λ x y l w k. rw (w.0, w.1) (p.new l w.2 (rw (w.0, w.1) at k));
}

pub cell_gains : {g r : List (List ℕ)} (a b m : ℕ) → Added g a b (In m) r
    → Gains g (MaskGives (some a) (some b) m) r
cell_gains a b m p = gains_map (λ x y l w. (cc, cc, w.2)) (λ x y l w. (cc, cc, w.2)) (gains_added p)

pub mask_gains : {g r : List (List ℕ)} (p q : Option ℕ) (t : ℕ) → t ≤ most_forks
    → Gains g (MaskGives p q (1 * 2 ^ t % 65536)) r → Gains g (HoldersGive p q (label_of t)) r
mask_gains p q t n =
    let o = bits_one t (omega arith) in
    gains_map
    (λ a b l w. (w.0, w.1, in_one _ t l o w.2))
    (λ a b l w. (w.0, w.1, one_in _ t l (omega arith) o w.2))

-- from the holder outside a LOCK to the one inside: a pair with equal ends is not kept
pub lock_gains : {g r : List (List ℕ)} (v : Level) (z : ℕ) → v.thread ≤ most_forks
    → Gains g (HoldersGive (held_by v.holder) (held_by (inside_lock v z).holder) (label_of v.thread)) r
    → Gains g (LockGives (Has v.nest) z (label_of v.thread) (held_by v.holder)) r
lock_gains {g} {r} v z n = go (in_nest v.nest z) refl
  where
    go : (x : Bool) → in_nest v.nest z ≡ x
        → Gains g (HoldersGive (held_by v.holder) (held_by (cond x v.holder (Some z))) (label_of v.thread)) r
        → Gains g (LockGives (Has v.nest) z (label_of v.thread) (held_by v.holder)) r
    go true e =
        gains_same
        (λ a b l w. ⊎_elim
        (λ ne. absurd (ne (let same : some a ≡ some b = sym w.0 ∙ w.1 in cc)))
        (λ s. absurd (not_several v.thread (omega arith) (sym w.2 ∙ s))))
        (λ a b l w kept. absurd (w.0 (in_nest_lem v.nest z e)))
    go false e =
        gains_map
        (λ a b l w. (not_in_nest v.nest z e, w.0, cc, w.2))
        (λ a b l w. (w.1, cc, w.3))

-- the i-th name of a list
pub name_some : (xs : List ℕ) (i : ℕ) → i < length xs → get_elem? xs i ≡ some (get_or xs i 0)
name_some [] i h = absurd (omega arith)
name_some (x ∷ xs) zero h = refl
name_some (x ∷ xs) (suc i) h = name_some xs i (omega arith)

-- the i-th entry of the images of a list
map_entry : (f : ℕ → ℕ) (xs : List ℕ) (i : ℕ) → i < length xs → get_or (map f xs) i 0 ≡ f (get_or xs i 0)
map_entry f [] i h = absurd (omega arith)
map_entry f (x ∷ xs) zero h = refl
map_entry f (x ∷ xs) (suc i) h = map_entry f xs i (omega arith)

pub renamed_within : (h : Option ℕ) (xs : List ℕ) (i x : ℕ) → renamed h xs i ≡ some x → i ≤ length xs
renamed_within h xs zero x e = omega arith
renamed_within h [] (suc i) x e = let z : ◌≡◌ {A = ℕ} 0 1 = cc in omega arith
renamed_within h (y ∷ xs) (suc zero) x e = omega arith
renamed_within h (y ∷ xs) (suc (suc i)) x e = let z = renamed_within h xs (suc i) x e in omega arith

-- the name for a parameter of the callee is the root of the name at the call
module _ (rs xs : List ℕ) where
  pub root_low : Low (map (root_of rs) xs) → (i : ℕ) → i < length xs → root_of rs (get_or xs i 0) < 16
  root_low low i l = rw (← map_entry (root_of rs) xs i l) (low i)

  pub renamed_name : (h : Option ℕ) (i : ℕ) → (i ≡ 0 → ⊥) → i ≤ length xs
      → some (root_of rs (get_or xs (i - 1) 0)) ≡ renamed h (map (root_of rs) xs) i
  renamed_name h zero n l = absurd (n refl)
  renamed_name h (suc i) n l =
      let e : suc i - 1 ≡ i = omega arith in
      rw e (ap some (sym (map_entry (root_of rs) xs i (omega arith)))
      ∙ sym (name_some (map (root_of rs) xs) i (let z = length-map xs (root_of rs) in omega arith)))

-- the mask of a cell's labels in a thread, as the code works it out
pub placed_mask : (v t : ℕ) → t ≤ most_forks
    → Placed v t
    (bit_or (bit_or (v % 2 * 2 ^ t % 65536) (v / 2 ^ 1 % 2 * 2 ^ number unknown % 65536))
    (v / 2 ^ 2 % 2 * 2 ^ number several % 65536))
placed_mask v t l = record { small = low; only = only; all = all }
  where
    x : ℕ
    x = v % 2 * 2 ^ t % 65536

    y : ℕ
    y = v / 2 ^ 1 % 2 * 2 ^ number unknown % 65536

    z : ℕ
    z = v / 2 ^ 2 % 2 * 2 ^ number several % 65536

    mask : ℕ
    mask = bit_or (bit_or x y) z

    zeroth : Bits x (λ j. Has v 0 × (j ≡ t))
    zeroth =
        let e : v / 2 ^ 0 ≡ v = div-one v in
        subst (λ (u : ℕ). Bits (u % 2 * 2 ^ t % 65536) (λ j. Has v 0 × (j ≡ t))) e (bits_shl v 0 t (omega arith))

    bits : Bits mask (λ j. ((Has v 0 × (j ≡ t)) ⊎ (Has v 1 × (j ≡ number unknown))) ⊎ (Has v 2 × (j ≡ number several)))
    bits =
        bits_or (bits_or zeroth (bits_shl v 1 (number unknown) (omega arith)))
        (bits_shl v 2 (number several) (omega arith))

    low : mask < 2 ^ labels
    low =
        below_bits labels mask
        (or_lt 16 (bit_or x y) z (or_lt 16 x y (omega arith) (omega arith)) (omega arith))
        (λ j h.
        ⊎_elim
        (⊎_elim (λ p. let e = p.1 in omega arith) (λ p. let e = p.1 in omega arith))
        (λ p. let e = p.1 in omega arith)
        (bits.to j h))

    only : (k : Label) → In mask k → (m : Label) × Labelled v m × (k ≡ placed (label_of t) m)
    only k p =
        ⊎_elim
        (⊎_elim
        (λ z. (own, z.0, p.2 ∙ ap label_of z.1))
        (λ z. (unknown, z.0, p.2 ∙ ap label_of z.1)))
        (λ z. (several, z.0, p.2 ∙ ap label_of z.1))
        (bits.to p.0 p.3)

    all : (k : Label) → Labelled v k → In mask (placed (label_of t) k)
    all (Rattle.rules.specs.Label.forked _) h = elim h [ ]
    all own h = (t, omega arith, refl, bits.from t (inl (inl (h, refl))))
    all unknown h = (number unknown, omega arith, refl, bits.from (number unknown) (inl (inr (h, refl))))
    all several h = (number several, omega arith, refl, bits.from (number several) (inr (h, refl)))

-- the gains one after another
pub below_more : (N : ℕ → ℕ → ℕ → Label → Type 0) {g n r : List (List ℕ)} (j : ℕ) → Gains g (Below N j) n
    → Gains n (N j) r → Gains g (Below N (j + 1)) r
below_more N j p q =
    gains_map
    (λ a b l w. ⊎_elim (λ z. let y = z.1 in (z.0, omega arith, z.2)) (λ z. (j, omega arith, z)) w)
    (λ a b l w.
    elim (dec_lt w.0 j) [
      | yes z ↦ inl (w.0, z, w.2)
      | no z ↦ let y = w.1 in let e : w.0 ≡ j = omega arith in inr (rw e at w.2)
    ])
    (gains_then p q)

-- a cell of a line, as the loop over the line reads it
pub cell_byte : (rows : List ℕ) (first n j : ℕ) → first + n ≤ length rows
    → j < length (take (first + n - first) (drop first rows))
    → get_or (take (first + n - first) (drop first rows)) j 0 ≡ get_or rows (first + j) 0
cell_byte rows first n j l h =
    let a = length-drop first rows in
    let b = length-take-le (first + n - first) (drop first rows) (omega arith) in
    get_or-take (first + n - first) (drop first rows) j 0 (omega arith) ∙ get_or-drop first rows j 0

-- an end that is nothing
pub held_none : (a : Found ℕ) → is_some a ≡ false → held_by a ≡ none
held_none None e = refl
held_none (Some x) e = absurd (let z : ◌≡◌ {A = ℕ} 0 1 = cc in omega arith)

module _ (rows : List ℕ) (first : ℕ) (xs : List ℕ) (t : ℕ) (h : Option ℕ) where
  pub cell_skip : (p : Option ℕ) (j : ℕ) (g : List (List ℕ)) → Small g → get_or rows (first + j) 0 ≡ 0
      → Gains g (CellGives rows first xs (label_of t) h p j) g
  cell_skip p j g s e = gains_none g _ s (λ a b l w. no_label _ w.2.0 e w.2.1)

  pub cell_next : {g r : List (List ℕ)} (p : Option ℕ) (j : ℕ) (b : Option ℕ) (m : ℕ) → b ≡ renamed h xs j
      → Placed (get_or rows (first + j) 0) t m → Gains g (MaskGives p b m) r
      → Gains g (CellGives rows first xs (label_of t) h p j) r
  cell_next p j b m eb q w =
      gains_map
      (λ x y l z. (z.0, sym eb ∙ z.1, q.only l z.2))
      (λ x y l z. (z.0, eb ∙ z.1, rw z.2.2 (q.all z.2.0 z.2.1)))
      w

  pub line_skip : (i n : ℕ) (g : List (List ℕ)) → Small g → none ≡ renamed h xs i
      → Gains g (LineGives rows (first + 8 * i) xs (label_of t) h (renamed h xs i) n) g
  line_skip i n g s e = gains_none g _ s (λ x y k w. absurd (let z : none ≡ some x = e ∙ w.2.0 in cc))

-- all cells of the row
cells_all : (rows : List ℕ) (r k : ℕ) (xs : List ℕ) (θ : Label) (h : Option ℕ) {g n : List (List ℕ)}
    → k ≤ 7 → length xs ≡ k → Gains g (RowGives rows (65 * r) xs θ h (k + 1) (k + 1)) n
    → Gains g (CallGives (RowBits rows) r xs θ h) n
cells_all rows r k xs θ h lk lx p =
    gains_map
    (λ a b l w.
    let y = w.1 in
    let c = w.2 in
    let z = c.1 in
    (w.0, c.0, c.2.2.0, (omega arith, omega arith, c.2.2.1), c.2.0, c.2.1, c.2.2.2))
    (λ a b l w.
    let y = renamed_within h xs w.0 a w.4 in
    let z = renamed_within h xs w.1 b w.5 in
    (w.0, omega arith, (w.1, omega arith, (w.4, w.5, (w.2, w.3.2, w.6)))))
    p

-- the row of a call, with the numbers that the code reads for it
module _ (ks s rows : List ℕ) (w : Walk) (ready : CallReady ks s rows w) (xs : List ℕ)
    (names : xs ≡ names_at s (w.at + 2) (get_or ks (arg_of s w) 0)) where
  names_long : length xs ≡ get_or ks (arg_of s w) 0
  names_long =
      let a = length-drop (w.at + 2) s in
      let b = ready.there in
      ap length names ∙ length-take-le _ (drop (w.at + 2) s) (omega arith)

  pub row_gains : {g r : List (List ℕ)}
      → Gains g (RowGives rows (65 * arg_of s w) (map (root_of w.roots) xs) (label_of (level_of w).thread)
      (held_by (level_of w).holder) (length xs + 1) (length xs + 1)) r
      → Gains g (CallPairs ks s rows w) r
  row_gains {g} {r} p =
      let q = cells_all rows (arg_of s w) (length xs) (map (root_of w.roots) xs) (label_of (level_of w).thread)
      (held_by (level_of w).holder) (let a = ready.params in let b = names_long in omega arith)
      (length-map xs (root_of w.roots)) p in
      rw names at q
