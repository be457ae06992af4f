-- One item of a body: its bytes, what it needs to be passed, and what is left past it.
use mathlib.Core.Path.{◌≡◌, refl, sym, ap, subst, ◌∙◌}
use mathlib.Core.Logic.{⊎_elim}
use mathlib.Core.Bool.{Bool, true, false}
use mathlib.Core.List.{List, [], ◌∷◌, ◌++◌, append_assoc, append-nil}
use mathlib.Core.Option.{Option, none, some}
use Prim.Native.Nat.{ℕ, suc, ◌+◌, ◌-◌, ◌≤◌, ◌<◌}
use native.Mathlib.Omega.{arith}
use lib.ListN.{length, get_or, drop, length-append, length-drop}
use lib.Seq.{drop-drop, drop_at, get_or-drop}
use lib.Dec.{eqb}
use borrow.Author.Tests.{ne_eqb}
use Rattle.table.specs.Constants.{Op, END, NEW, LOCK, FORK, CHOICE, OTHER, CALL, MIRROR, code, op_of}
use Rattle.table.specs.Program.{Code, end, new, lock, fork, choice, call, mirror}
use Rattle.table.specs.Encoding.{encode}
use Rattle.rules.specs.Label.{Label}
use Rattle.rules.specs.Model.{Place, at_head}
use Rattle.rules.specs.Derived.{Pairs}
use Rattle.table.specs.Laws.Fine.{Fine}
use Rattle.pairs.specs.Walks.{Walk}
use Rattle.pairs.specs.Walks.{byte_of, RoomAt, Ready, passed_by, walk_by, next_walk, past_by, past_item, top_by}
use Rattle.pairs.specs.Walks.{Passable}
use Rattle.pairs.proofs.Pending.{Alternative, other, Level, level, bytes, item_bytes, past, Levels, Left}
use Rattle.pairs.proofs.Pending.{InLeft, AtItem, CallAt, PairAt}

-- the bytes left are those of the item and those past it
pub bytes_past : (ls : List Level) → bytes ls ≡ item_bytes ls ++ bytes (past ls)
bytes_past [] = refl
bytes_past (level end none π ∷ ls) = refl
bytes_past (level end (some (other b κ)) π ∷ ls) = refl
bytes_past (level (new x c) u π ∷ ls) = refl
bytes_past (level (lock x c d) u π ∷ ls) = simp append_assoc
bytes_past (level (fork i c d) u π ∷ ls) = simp append_assoc
bytes_past (level (choice a b c) u π ∷ ls) = simp append_assoc
bytes_past (level (call r xs c) u π ∷ ls) = simp append_assoc
bytes_past (level (mirror x y c) u π ∷ ls) = refl

bytes_length : (ls : List Level) → length (bytes ls) ≡ length (item_bytes ls) + length (bytes (past ls))
bytes_length ls = ap length (bytes_past ls) ∙ length-append (item_bytes ls) (bytes (past ls))

-- what is left past the item
pub drop_past : (s t : List ℕ) (at : ℕ) (ls : List Level) → drop at s ≡ bytes ls ++ t
    → drop (at + length (item_bytes ls)) s ≡ bytes (past ls) ++ t
drop_past s t at ls e =
    sym (drop-drop (length (item_bytes ls)) at s)
    ∙ ap (λ (l : List ℕ). drop (length (item_bytes ls)) l)
    (e ∙ ap (λ (l : List ℕ). l ++ t) (bytes_past ls) ∙ append_assoc (item_bytes ls) (bytes (past ls)) t)
    ∙ drop_at (item_bytes ls) (bytes (past ls) ++ t) (length (item_bytes ls)) refl

-- a byte that is left
pub byte_at : (s : List ℕ) (at i : ℕ) (l : List ℕ) → drop at s ≡ l → get_or s (at + i) 0 ≡ get_or l i 0
byte_at s at i l e = sym (get_or-drop at s i 0) ∙ ap (λ (v : List ℕ). get_or v i 0) e

-- a kind is known by its code
op_of_code : (k : Op) → op_of (code k) ≡ some k
op_of_code END = refl
op_of_code NEW = refl
op_of_code LOCK = refl
op_of_code FORK = refl
op_of_code CHOICE = refl
op_of_code OTHER = refl
op_of_code CALL = refl
op_of_code MIRROR = refl

pub code_same : (j k : Op) → code j ≡ code k → j ≡ k
code_same j k e = let f : some j ≡ some k = sym (op_of_code j) ∙ (ap op_of e ∙ op_of_code k) in cc

-- the walk past an item, by the byte at its place
pub by_byte : (ks s : List ℕ) (w : Walk) (b : ℕ) → byte_of s w ≡ b → next_walk ks s w ≡ walk_by ks s w b
unfolding next_walk
by_byte ks s w b e = ap (walk_by ks s w) e

-- the walk past an item that opens no level and gives no name
pub by_rest : (ks s : List ℕ) (w : Walk) (b : ℕ) → (b ≡ 2 → ⊥) → (b ≡ 3 → ⊥) → (b ≡ 4 → ⊥) → (b ≡ 1 → ⊥) → (b ≡ 7 → ⊥)
    → walk_by ks s w b ≡ passed_by ks s w b
by_rest ks s w b p₂ p₃ p₄ p₁ p₇ = rw (ne_eqb b 2 p₂, ne_eqb b 3 p₃, ne_eqb b 4 p₄, ne_eqb b 1 p₁, ne_eqb b 7 p₇)

-- the offset past the item, and the innermost level there
pub next_place : (ks s : List ℕ) (w : Walk)
    → ((next_walk ks s w).at ≡ past_item ks s w.at) × ((next_walk ks s w).top ≡ top_by w.top (byte_of s w))
unfolding next_walk
next_place ks s w = go (byte_of s w) (eqb (byte_of s w) 2) (eqb (byte_of s w) 3) (eqb (byte_of s w) 4) (eqb (byte_of s w) 1)
    (eqb (byte_of s w) 7) refl refl refl refl refl
  where
    go : (b : ℕ) (x y z u v : Bool) → eqb b 2 ≡ x → eqb b 3 ≡ y → eqb b 4 ≡ z → eqb b 1 ≡ u → eqb b 7 ≡ v
        → ((walk_by ks s w b).at ≡ past_by ks s w.at b) × ((walk_by ks s w b).top ≡ top_by w.top b)
    go b true y z u v e f g h i = rw e (refl, refl)
    go b false true z u v e f g h i = rw (e, f) (refl, refl)
    go b false false true u v e f g h i = rw (e, f, g) (refl, refl)
    go b false false false true v e f g h i = rw (e, f, g, h) (refl, refl)
    go b false false false false true e f g h i = rw (e, f, g, h, i) (refl, refl)
    go b false false false false false e f g h i = rw (e, f, g, h, i) (refl, refl)

-- what passing the item needs of its bytes
pub ready_pass : (ks s : List ℕ) (w : Walk) → Ready ks s w → Passable ks s w.at
ready_pass ks s w r = record { here = r.here; routine = λ e. let z = r.room CALL e in (z.0, z.1) }

-- the offset past an item with the byte b, and the innermost level there
pub past_byte : (ks s : List ℕ) (at b : ℕ) → get_or s at 0 ≡ b → past_item ks s at ≡ past_by ks s at b
past_byte ks s at b e = ap (past_by ks s at) e

pub top_byte : (top v b : ℕ) → v ≡ b → top_by top v ≡ top_by top b
top_byte top v b e = ap (top_by top) e

-- the level past an item that neither opens nor closes one
pub top_rest : (top b : ℕ) → (b ≡ 0 → ⊥) → (b ≡ 2 → ⊥) → (b ≡ 3 → ⊥) → (b ≡ 4 → ⊥) → top_by top b ≡ top
top_rest top b p₀ p₂ p₃ p₄ = rw (ne_eqb b 0 p₀, ne_eqb b 2 p₂, ne_eqb b 3 p₃, ne_eqb b 4 p₄)

-- the first byte that is left
pub first_byte : (s : List ℕ) (at x : ℕ) (l : List ℕ) → drop at s ≡ x ∷ l → get_or s at 0 ≡ x
first_byte s at x l e = let z : at ≡ at + 0 = omega arith in ap (λ (v : ℕ). get_or s v 0) z ∙ byte_at s at 0 (x ∷ l) e

-- an item lies in the section
pub item_there : (s t : List ℕ) (at : ℕ) (ls : List Level) → drop at s ≡ bytes ls ++ t → 0 < length (item_bytes ls)
    → at + length (item_bytes ls) ≤ length s
item_there s t at ls e l =
    let a : length (drop at s) ≡ length s - at = length-drop at s in
    let b : length (drop at s) ≡ length (bytes ls) + length t = ap length e ∙ length-append (bytes ls) t in
    let d = bytes_length ls in
    omega arith

some_bytes : (l : Level) (ls : List Level) → 0 < length (item_bytes (l ∷ ls))
some_bytes (level end u π) ls = omega arith
some_bytes (level (new x c) u π) ls = omega arith
some_bytes (level (lock x c d) u π) ls = omega arith
some_bytes (level (fork i c d) u π) ls = omega arith
some_bytes (level (choice a b c) u π) ls = omega arith
some_bytes (level (call r xs c) u π) ls = omega arith
some_bytes (level (mirror x y c) u π) ls = omega arith

-- where the item is the END that closes the body, the walk does not go on
abbrev pub Going : List ℕ → ℕ → ℕ → Type 0
Going s at top = get_or s at 0 ≡ code END → 1 ≤ top

-- what the levels are at an item of each kind, for the kinds where that matters
abbrev pub Shape : Op → List Level → Type 0
Shape END ls = (π : Place) × (ms : List Level) × (ls ≡ level end none π ∷ ms)
Shape NEW ls =
    (x : ℕ) × (c : Code) × (u : Option Alternative) × (π : Place) × (ms : List Level) × (ls ≡ level (new x c) u π ∷ ms)
Shape LOCK ls =
    (x : ℕ) × (c : Code) × (d : Code) × (u : Option Alternative) × (π : Place) × (ms : List Level)
    × (ls ≡ level (lock x c d) u π ∷ ms)
Shape FORK ls =
    (i : ℕ) × (c : Code) × (d : Code) × (u : Option Alternative) × (π : Place) × (ms : List Level)
    × (ls ≡ level (fork i c d) u π ∷ ms)
Shape CHOICE ls = Unit {0}
Shape OTHER ls = Unit {0}
Shape CALL ls =
    (r : ℕ) × (xs : List ℕ) × (c : Code) × (u : Option Alternative) × (π : Place) × (ms : List Level)
    × (ls ≡ level (call r xs c) u π ∷ ms)
Shape MIRROR ls =
    (x : ℕ) × (y : ℕ) × (c : Code) × (u : Option Alternative) × (π : Place) × (ms : List Level)
    × (ls ≡ level (mirror x y c) u π ∷ ms)

module _ (ks s t : List ℕ) (at top : ℕ) where
  -- the kind of the item, which its byte is the code of, with the shape of the levels and what it needs to be passed
  item : (ls : List Level) → Left ks s t at top ls
      → (k : Op) × (get_or s at 0 ≡ code k) × Shape k ls × (Going s at top → RoomAt ks s at top k)
  item [] p = absurd (let z = p.count in omega arith)
  item (level end none π ∷ ls) p =
      let e : get_or s at 0 ≡ 0 = first_byte s at _ _ p.content in (END, e, (π, ls, refl), λ g. g e)
  item (level end (some (other b κ)) π ∷ ls) p = (OTHER, first_byte s at _ _ p.content, tt, λ g. tt)
  item (level (new x c) u π ∷ ls) p = (NEW, first_byte s at _ _ p.content, (x, c, u, π, ls, refl), λ g. tt)
  item (level (lock x c d) u π ∷ ls) p =
      let z = p.count in
      let o = p.levels.0.few_open in
      let l = item_there s t at (level (lock x c d) u π ∷ ls) p.content (omega arith) in
      (LOCK, first_byte s at _ _ p.content, (x, c, d, u, π, ls, refl), λ g. (omega arith, omega arith))
  item (level (fork i c d) u π ∷ ls) p =
      let z = p.count in
      let o = p.levels.0.few_open in
      (FORK, first_byte s at _ _ p.content, (i, c, d, u, π, ls, refl), λ g. omega arith)
  item (level (choice a b c) u π ∷ ls) p =
      let z = p.count in
      let o = p.levels.0.few_open in
      (CHOICE, first_byte s at _ _ p.content, tt, λ g. omega arith)
  item (level (call r xs c) u π ∷ ls) p =
      let e : get_or s (at + 1) 0 ≡ r = byte_at s at 1 _ p.content in
      let n = p.levels.0.calling in
      let l = item_there s t at (level (call r xs c) u π ∷ ls) p.content (omega arith) in
      let k : length xs ≡ get_or ks (get_or s (at + 1) 0) 0 = rw e n.1 in (
        CALL,
        first_byte s at _ _ p.content,
        (r, xs, c, u, π, ls, refl),
        λ g. (omega arith, rw e n.0, omega arith),
      )
  item (level (mirror x y c) u π ∷ ls) p =
      let l = item_there s t at (level (mirror x y c) u π ∷ ls) p.content (omega arith) in
      (MIRROR, first_byte s at _ _ p.content, (x, y, c, u, π, ls, refl), λ g. omega arith)

  pub at_kind : (k : Op) (ls : List Level) → Left ks s t at top ls → get_or s at 0 ≡ code k → Shape k ls
  at_kind k ls p e =
      let z = item ls p in subst (λ (j : Op). Shape j ls) (code_same z.0 k (sym z.1 ∙ e)) z.2

  pub place_there : (ls : List Level) → Left ks s t at top ls → at < length s
  place_there [] p = absurd (let z = p.count in omega arith)
  place_there (l ∷ ls) p =
      let a = some_bytes l ls in let b = item_there s t at (l ∷ ls) p.content a in omega arith

  pub few_levels : (ls : List Level) → Left ks s t at top ls → top ≤ 16
  few_levels [] p = absurd (let z = p.count in omega arith)
  few_levels (level c u π ∷ ls) p = let z = p.count in let o = p.levels.0.few_open in omega arith

  pub room : (ls : List Level) → Left ks s t at top ls → Going s at top
      → (k : Op) → get_or s at 0 ≡ code k → RoomAt ks s at top k
  room ls p g k e =
      let z = item ls p in
      subst (λ (j : Op). RoomAt ks s at top j) (code_same z.0 k (sym z.1 ∙ e)) (z.3 g)

  -- what is left past the item, at the next offset and with the level that is innermost there
  stepped : (ls ms : List Level) (top' : ℕ) → Left ks s t at top ls → past ls ≡ ms
      → past_item ks s at ≡ at + length (item_bytes ls) → top_by top (get_or s at 0) ≡ top' → length ms ≡ top' + 1
      → Levels ks ms → Left ks s t (past_item ks s at) (top_by top (get_or s at 0)) (past ls)
  stepped ls ms top' p e f h n l =
      rw (f, h) (record {
        content = drop_past s t at ls p.content;
        count = ap length e ∙ n;
        levels = subst (Levels ks) (sym e) l;
      })

  pub step : (ls : List Level) → Left ks s t at top ls → Going s at top
      → Left ks s t (past_item ks s at) (top_by top (get_or s at 0)) (past ls)
  step [] p g = absurd (let z = p.count in omega arith)
  step (level end none π ∷ ls) p g =
      let e : get_or s at 0 ≡ 0 = first_byte s at _ _ p.content in
      let o = g e in
      stepped _ ls (top - 1) p refl (past_byte ks s at 0 e) (top_byte top _ 0 e)
      (let z = p.count in omega arith) p.levels.2
  step (level end (some (other b κ)) π ∷ ls) p g =
      let e : get_or s at 0 ≡ 5 = first_byte s at _ _ p.content in
      stepped _ (level b none κ ∷ ls) top p refl (past_byte ks s at 5 e) (top_byte top _ 5 e) p.count
      (p.levels.1, tt, p.levels.2)
  step (level (new x c) u π ∷ ls) p g =
      let e : get_or s at 0 ≡ 1 = first_byte s at _ _ p.content in
      let q = p.levels in
      stepped _ _ top p refl (past_byte ks s at 1 e) (top_byte top _ 1 e) p.count
      (record { calling = q.0.calling; few_open = q.0.few_open }, q.1, q.2)
  step (level (lock x c d) u π ∷ ls) p g =
      let e : get_or s at 0 ≡ 2 = first_byte s at _ _ p.content in
      let q = p.levels in let o = q.0.few_open in let n = q.0.calling in
      stepped _ _ (top + 1) p refl (past_byte ks s at 2 e) (top_byte top _ 2 e) (let z = p.count in omega arith) (
        record { calling = n.0; few_open = omega arith },
        tt,
        (record { calling = n.1; few_open = omega arith }, q.1, q.2),
      )
  step (level (fork i c d) u π ∷ ls) p g =
      let e : get_or s at 0 ≡ 3 = first_byte s at _ _ p.content in
      let q = p.levels in let o = q.0.few_open in let n = q.0.calling in
      stepped _ _ (top + 1) p refl (past_byte ks s at 3 e) (top_byte top _ 3 e) (let z = p.count in omega arith) (
        record { calling = n.0; few_open = omega arith },
        tt,
        (record { calling = n.1; few_open = omega arith }, q.1, q.2),
      )
  step (level (choice a b c) u π ∷ ls) p g =
      let e : get_or s at 0 ≡ 4 = first_byte s at _ _ p.content in
      let q = p.levels in let o = q.0.few_open in let n = q.0.calling in
      stepped _ _ (top + 1) p refl (past_byte ks s at 4 e) (top_byte top _ 4 e) (let z = p.count in omega arith) (
        record { calling = n.0; few_open = omega arith },
        record { calling = n.1; few_open = omega arith },
        (record { calling = n.2; few_open = omega arith }, q.1, q.2),
      )
  step (level (call r xs c) u π ∷ ls) p g =
      let e : get_or s at 0 ≡ 6 = first_byte s at _ _ p.content in
      let a : get_or s (at + 1) 0 ≡ r = byte_at s at 1 _ p.content in
      let q = p.levels in let n = q.0.calling in
      let k : get_or ks (get_or s (at + 1) 0) 0 ≡ length xs = rw a (sym n.1) in
      let m : at + 2 + get_or ks (get_or s (at + 1) 0) 0 ≡ at + suc (suc (length xs)) = omega arith in
      stepped _ _ top p refl (past_byte ks s at 6 e ∙ m) (top_byte top _ 6 e) p.count
      (record { calling = n.3; few_open = q.0.few_open }, q.1, q.2)
  step (level (mirror x y c) u π ∷ ls) p g =
      let e : get_or s at 0 ≡ 7 = first_byte s at _ _ p.content in
      let q = p.levels in
      stepped _ _ top p refl (past_byte ks s at 7 e) (top_byte top _ 7 e) p.count
      (record { calling = q.0.calling; few_open = q.0.few_open }, q.1, q.2)

  -- the bytes that are left fill the section
  left_length : {ls : List Level} → Left ks s t at top ls → length (bytes ls) + length t ≡ length s - at
  left_length {ls} p =
      sym (length-append (bytes ls) t) ∙ (ap length (sym p.content) ∙ length-drop at s)

  pub filled : (l : Level) (ls : List Level) → Left ks s t at top (l ∷ ls)
      → at + length (bytes (l ∷ ls)) + length t ≡ length s
  filled l ls p =
      let a = left_length p in let b = bytes_length (l ∷ ls) in let d = some_bytes l ls in omega arith

  -- the item is the END of the body
  at_end : (ls : List Level) → Left ks s t at top ls → get_or s at 0 ≡ code END → top ≡ 0
      → (π : Place) × (ls ≡ level end none π ∷ [])
  at_end ls p e n =
      let v = at_kind END ls p e in
      let m = last v.1
      (let z = p.count in let y : length ls ≡ suc (length v.1) = ap length v.2 in omega arith) in
      (v.0, v.2 ∙ ap (λ (ms : List Level). level end none v.0 ∷ ms) m)
    where
      last : (ms : List Level) → length ms ≡ 0 → ms ≡ []
      last [] l = refl
      last (m ∷ ms) l = absurd (omega arith)

  -- a call is met where its code stands
  pub call_met : (q : ℕ) (ls : List Level) → Left ks s t at top ls → AtItem (CallAt q) ls
      → (get_or s at 0 ≡ code CALL) × (q ≡ get_or s (at + 1) 0)
  call_met q (level (mirror _ _ _) u π ∷ ls) p e = elim e [ ]
  call_met q (level (choice _ _ _) u π ∷ ls) p e = elim e [ ]
  call_met q (level (fork _ _ _) u π ∷ ls) p e = elim e [ ]
  call_met q (level (lock _ _ _) u π ∷ ls) p e = elim e [ ]
  call_met q (level (new _ _) u π ∷ ls) p e = elim e [ ]
  call_met q (level end u π ∷ ls) p e = elim e [ ]
  call_met q [] p e = elim e [ ]
  call_met q (level (call r xs c) u π ∷ ls) p e =
      (first_byte s at _ _ p.content, e ∙ sym (byte_at s at 1 _ p.content))

  pub call_here_lem : (q : ℕ) (ls : List Level) → Left ks s t at top ls → get_or s at 0 ≡ code CALL
      → q ≡ get_or s (at + 1) 0 → AtItem (CallAt q) ls
  call_here_lem q ls p e f =
      let v = at_kind CALL ls p e in
      let p' : Left ks s t at top (level (call v.0 v.1 v.2) v.3 v.4 ∷ v.5) = rw v.6 at p in
      rw v.6 (f ∙ byte_at s at 1 _ p'.content)

  -- an item that is neither LOCK nor CALL records nothing
  pub quiet : (R : Pairs) (a b : ℕ) (l : Label) (ls : List Level) → Left ks s t at top ls
      → (get_or s at 0 ≡ code LOCK → ⊥) → (get_or s at 0 ≡ code CALL → ⊥) → AtItem (PairAt R a b l) ls → ⊥
  quiet R a b l (level (mirror _ _ _) u π ∷ ls) p n m e = elim e [ ]
  quiet R a b l (level (choice _ _ _) u π ∷ ls) p n m e = elim e [ ]
  quiet R a b l (level (fork _ _ _) u π ∷ ls) p n m e = elim e [ ]
  quiet R a b l (level (new _ _) u π ∷ ls) p n m e = elim e [ ]
  quiet R a b l (level end u π ∷ ls) p n m e = elim e [ ]
  quiet R a b l [] p n m e = elim e [ ]
  quiet R a b l (level (lock x c d) u π ∷ ls) p n m e = n (first_byte s at _ _ p.content)
  quiet R a b l (level (call r xs c) u π ∷ ls) p n m e = m (first_byte s at _ _ p.content)

  -- less is left past the item
  pub shrinks : (ls : List Level) → Left ks s t at top ls → Going s at top
      → length s - past_item ks s at < length s - at
  shrinks [] p g = absurd (let z = p.count in omega arith)
  shrinks (l ∷ ls) p g =
      let a = left_length p in
      let b : length (bytes (past (l ∷ ls))) + length t ≡ length s - past_item ks s at =
      sym (length-append (bytes (past (l ∷ ls))) t)
      ∙ (ap length (sym (step (l ∷ ls) p g).content) ∙ length-drop (past_item ks s at) s) in
      let d = bytes_length (l ∷ ls) in
      let z = some_bytes l ls in
      omega arith

-- a body is left at its start
pub begins : (ks s t : List ℕ) (at k : ℕ) (c : Code) → Fine ks k c → drop at s ≡ encode END c ++ t
    → Left ks s t at 0 (level c none at_head ∷ [])
begins ks s t at k c f e = record {
  content = e ∙ ap (λ (l : List ℕ). l ++ t) (sym (append-nil (encode END c)));
  count = refl;
  levels = (record { calling = f.calling; few_open = let z = f.few_open in omega arith }, tt, tt);
}

-- where the body's END is met, nothing is left, and the body ends with it
module _ (ks s t : List ℕ) (at top : ℕ) (ls : List Level) (p : Left ks s t at top ls) (e : get_or s at 0 ≡ code END)
    (n : top ≡ 0) where
  pub none_left : (F : Code → Place → Type 0) → ((π : Place) → F end π → ⊥) → InLeft F ls
      → ⊥
  none_left F f i =
      let v = at_end ks s t at top ls p e n in
      ⊎_elim (f v.0) (⊎_elim (λ y. absurd y) (λ y. absurd y)) (rw v.1 at i)

  pub end_met : (from k : ℕ) (c : Code) → Fine ks k c → drop from s ≡ encode END c ++ t
      → at + 1 ≡ from + length (encode END c)
  end_met from k c f h =
      let v = at_end ks s t at top ls p e n in
      let a = filled ks s t at top (level end none v.0) [] (rw v.1 at p) in
      let b = filled ks s t from 0 _ [] (begins ks s t from k c f h) in
      let d : length (encode END c ++ []) ≡ length (encode END c) = ap length (append-nil (encode END c)) in
      omega arith
