-- The item at an offset: its bytes tell which it is, and what there is to read of it.
use Rattle.std.specs.Prelude.{◌≡◌, ◌≢◌, List, ◌∷◌, ◌++◌, ℕ, ◌+◌, ◌-◌, ◌≤◌, ◌<◌, length, get_or, take, drop}
use Rattle.std.proofs.Math.Path.{refl}
use Rattle.std.proofs.Common.{sym, ap, ◌∙◌, arith, length-drop, length-append, get_or-drop, drop-drop, length-take-le}
use borrow.Author.Tests.{ne_eqb}
use Rattle.std.proofs.Math.ListN.{get_or-append}
use Rattle.std.proofs.Math.Seq.{take-append_seam}
use Rattle.std.proofs.Math.Decide.{ℕ_discrete}
use Rattle.table.proofs.Laws.Lists.{get_or_in}
use Rattle.table.specs.Laws.Passing.{Passable, past_item}
use Rattle.order.specs.Items.{Item, mark, making, mirroring, locking, calling, item_bytes}
use Rattle.order.specs.Standing.{ItemAt, SomeItem, AnyItem, NameAt, CallAt, call_here, item_at}

module _ (s : List ℕ) (at : ℕ) where
  -- the bytes from the offset on, one by one
  pub byte_at : (l : List ℕ) (i : ℕ) → drop at s ≡ l → get_or s (at + i) 0 ≡ get_or l i 0
  byte_at l i e = sym (get_or-drop at s i 0) ∙ ap (λ (u : List ℕ). get_or u i 0) e

  pub bytes_there : (l : List ℕ) → drop at s ≡ l → length l ≡ length s - at
  bytes_there l e = ap length (sym e) ∙ length-drop at s

  pub first_byte : (b : ℕ) (l : List ℕ) → drop at s ≡ b ∷ l → (get_or s at 0 ≡ b) × (at < length s)
  first_byte b l e =
      let h = bytes_there (b ∷ l) e in
      let z : at + 0 ≡ at = omega arith in
      (rw z at (byte_at (b ∷ l) 0 e), omega arith)

  pub second_byte : (b y : ℕ) (l : List ℕ) → drop at s ≡ b ∷ y ∷ l → (get_or s (at + 1) 0 ≡ y) × (at + 1 < length s)
  second_byte b y l e =
      let h = bytes_there (b ∷ y ∷ l) e in
      (byte_at (b ∷ y ∷ l) 1 e, omega arith)

  pub two_past : (b y : ℕ) (l : List ℕ) → drop at s ≡ b ∷ y ∷ l → drop (at + 2) s ≡ l
  two_past b y l e = sym (drop-drop 2 at s) ∙ ap (drop 2) e

-- the item that the bytes are
pub item_is : (ks s : List ℕ) (at old : ℕ) (t : Item) (l : List ℕ) → ItemAt ks s at old t l → item_at ks s at ≡ t
unfolding item_at
item_is ks s at old (mark b) l i =
    let g = i.good in
    rw ((first_byte s at b l i.content).0, ne_eqb b 1 g.0, ne_eqb b 7 g.3, ne_eqb b 2 g.1, ne_eqb b 6 g.2)
    refl
item_is ks s at old making l i = rw (first_byte s at 1 l i.content).0 refl
item_is ks s at old (mirroring y) l i =
    rw (first_byte s at 7 (y ∷ l) i.content).0 (ap mirroring (second_byte s at 7 y l i.content).0)
item_is ks s at old (locking x) l i =
    rw (first_byte s at 2 (x ∷ l) i.content).0 (ap locking (second_byte s at 2 x l i.content).0)
item_is ks s at old (calling r xs) l i =
    rw (first_byte s at 6 (r ∷ (xs ++ l)) i.content).0
    (rw ((second_byte s at 6 r (xs ++ l) i.content).0, two_past s at 6 r (xs ++ l) i.content, sym i.good.1)
    (ap (calling r) (take-append_seam xs l)))

pub item_there : (ks s : List ℕ) (at old : ℕ) → SomeItem ks s at old → at < length s
item_there ks s at old (mark b, l, i) = (first_byte s at b l i.content).1
item_there ks s at old (making, l, i) = (first_byte s at 1 l i.content).1
item_there ks s at old (mirroring y, l, i) = (first_byte s at 7 (y ∷ l) i.content).1
item_there ks s at old (locking x, l, i) = (first_byte s at 2 (x ∷ l) i.content).1
item_there ks s at old (calling r xs, l, i) = (first_byte s at 6 (r ∷ (xs ++ l)) i.content).1

-- what a code says of the item
clash : {A : Type 0} (s : List ℕ) (at b v : ℕ) (l : List ℕ) → drop at s ≡ b ∷ l → get_or s at 0 ≡ v → (b ≡ v → ⊥) → A
clash s at b v l e f n = absurd (n (sym (first_byte s at b l e).0 ∙ f))

pub at_new : (ks s : List ℕ) (at old : ℕ) → SomeItem ks s at old → get_or s at 0 ≡ 1 → old < 16
at_new ks s at old (mark b, l, i) e = clash s at b 1 l i.content e i.good.0
at_new ks s at old (making, l, i) e = i.good
at_new ks s at old (mirroring y, l, i) e = clash s at 7 1 (y ∷ l) i.content e (λ z. omega arith)
at_new ks s at old (locking x, l, i) e = clash s at 2 1 (x ∷ l) i.content e (λ z. omega arith)
at_new ks s at old (calling r xs, l, i) e = clash s at 6 1 (r ∷ (xs ++ l)) i.content e (λ z. omega arith)

name_at_lem : (s : List ℕ) (at b y : ℕ) (l : List ℕ) → drop at s ≡ b ∷ y ∷ l → y < 16 → NameAt s (at + 1)
name_at_lem s at b y l e h =
    let p = second_byte s at b y l e in record { there = p.1; low = rw p.0 h }

pub at_mirror : (ks s : List ℕ) (at old : ℕ) → SomeItem ks s at old → get_or s at 0 ≡ 7
    → (old < 16) × NameAt s (at + 1)
at_mirror ks s at old (mark b, l, i) e = clash s at b 7 l i.content e i.good.3
at_mirror ks s at old (making, l, i) e = clash s at 1 7 l i.content e (λ z. omega arith)
at_mirror ks s at old (mirroring y, l, i) e = (i.good.0, name_at_lem s at 7 y l i.content i.good.1)
at_mirror ks s at old (locking x, l, i) e = clash s at 2 7 (x ∷ l) i.content e (λ z. omega arith)
at_mirror ks s at old (calling r xs, l, i) e = clash s at 6 7 (r ∷ (xs ++ l)) i.content e (λ z. omega arith)

pub at_lock : (ks s : List ℕ) (at old : ℕ) → SomeItem ks s at old → get_or s at 0 ≡ 2 → NameAt s (at + 1)
at_lock ks s at old (mark b, l, i) e = clash s at b 2 l i.content e i.good.1
at_lock ks s at old (making, l, i) e = clash s at 1 2 l i.content e (λ z. omega arith)
at_lock ks s at old (mirroring y, l, i) e = clash s at 7 2 (y ∷ l) i.content e (λ z. omega arith)
at_lock ks s at old (locking x, l, i) e = name_at_lem s at 2 x l i.content i.good
at_lock ks s at old (calling r xs, l, i) e = clash s at 6 2 (r ∷ (xs ++ l)) i.content e (λ z. omega arith)

pub at_call : {A : Type 0} (ks s : List ℕ) (at old : ℕ) (ps : List A) → length ks ≤ length ps → SomeItem ks s at old
    → get_or s at 0 ≡ 6 → CallAt ks s at ps
at_call ks s at old ps h (mark b, l, i) e = clash s at b 6 l i.content e i.good.2
at_call ks s at old ps h (making, l, i) e = clash s at 1 6 l i.content e (λ z. omega arith)
at_call ks s at old ps h (mirroring y, l, i) e = clash s at 7 6 (y ∷ l) i.content e (λ z. omega arith)
at_call ks s at old ps h (locking x, l, i) e = clash s at 2 6 (x ∷ l) i.content e (λ z. omega arith)
at_call ks s at old ps h (calling r xs, l, i) e =
    let p = second_byte s at 6 r (xs ++ l) i.content in
    let q = two_past s at 6 r (xs ++ l) i.content in
    let g = i.good in
    let n = g.1 in
    let m = bytes_there s (at + 2) (xs ++ l) q in
    let a = length-append xs l in
    let b = g.0 in
    record {
      there = p.1;
      routine = rw p.0 g.0;
      place = rw p.0 (omega arith);
      whole = rw (p.0, sym n) (let c = p.1 in omega arith);
      low = λ j k. let k' : j < length xs = rw (p.0, sym n) at k in
          rw (byte_at s (at + 2) (xs ++ l) j q, get_or-append xs l 0 j k')
          (g.2 (get_or xs j 0) (get_or_in xs j k').0);
    }

-- the item by its code
module _ (ks s : List ℕ) (at : ℕ) where
  pub item_new : get_or s at 0 ≡ 1 → item_at ks s at ≡ making
  unfolding item_at
  item_new e = rw e refl

  pub item_mirror : get_or s at 0 ≡ 7 → item_at ks s at ≡ mirroring (get_or s (at + 1) 0)
  unfolding item_at
  item_mirror e = rw e refl

  pub item_lock : get_or s at 0 ≡ 2 → item_at ks s at ≡ locking (get_or s (at + 1) 0)
  unfolding item_at
  item_lock e = rw e refl

  pub item_call : get_or s at 0 ≡ 6 → item_at ks s at ≡ call_here ks s at
  unfolding item_at
  item_call e = rw e refl

  pub item_mark : get_or s at 0 ≢ 1 → get_or s at 0 ≢ 7 → get_or s at 0 ≢ 2 → get_or s at 0 ≢ 6 → item_at ks s at ≡ mark
      (get_or s at 0)
  unfolding item_at
  item_mark a b c d =
      rw (ne_eqb (get_or s at 0) 1 a, ne_eqb (get_or s at 0) 7 b, ne_eqb (get_or s at 0) 2 c, ne_eqb (get_or s at 0) 6 d) refl

-- how long the item is, by its code
module _ (ks s : List ℕ) (at : ℕ) where
  long_lock : get_or s at 0 ≡ 2 → length (item_bytes (item_at ks s at)) ≡ 2
  long_lock e = rw (item_lock ks s at e) refl

  long_mirror : get_or s at 0 ≡ 7 → length (item_bytes (item_at ks s at)) ≡ 2
  long_mirror e = rw (item_mirror ks s at e) refl

  long_call : AnyItem ks s at → get_or s at 0 ≡ 6
      → length (item_bytes (item_at ks s at)) ≡ 2 + get_or ks (get_or s (at + 1) 0) 0
  long_call i e =
      let c = at_call ks s at i.0 ks (omega arith) i.1 e in
      let w = c.whole in
      let k = get_or ks (get_or s (at + 1) 0) 0 in
      let h : length (take k (drop (at + 2) s)) ≡ k =
      length-take-le k (drop (at + 2) s) (rw (length-drop (at + 2) s) (omega arith)) in
      rw (item_call ks s at e) (omega arith)

  long_rest : get_or s at 0 ≢ 2 → get_or s at 0 ≢ 7 → get_or s at 0 ≢ 6 → length (item_bytes (item_at ks s at)) ≡ 1
  long_rest a b c = go (ℕ_discrete (get_or s at 0) 1)
    where
      go : Dec (get_or s at 0 ≡ 1) → length (item_bytes (item_at ks s at)) ≡ 1
      go (yes e) = rw (item_new ks s at e) refl
      go (no n) = rw (item_mark ks s at n b a c) refl

-- the item can be passed, and the offset past it
module _ (ks s : List ℕ) (at : ℕ) where
  pub passable : AnyItem ks s at → Passable ks s at
  passable i = record {
    here = item_there ks s at i.0 i.1;
    routine = λ e. let c = at_call ks s at i.0 ks (omega arith) i.1 e in (c.there, c.routine);
  }

  pub past_item_lem : AnyItem ks s at → past_item ks s at ≡ at + length (item_bytes (item_at ks s at))
  past_item_lem i = elim (ℕ_discrete (get_or s at 0) 2) [
    | yes e ↦ let h = long_lock ks s at e in rw e (omega (arith, h))
    | no a ↦ elim (ℕ_discrete (get_or s at 0) 7) [
      | yes e ↦ let h = long_mirror ks s at e in rw e (omega (arith, h))
      | no b ↦ elim (ℕ_discrete (get_or s at 0) 6) [
        | yes e ↦ let h = long_call ks s at i e in rw e (omega (arith, h))
        | no c ↦ let h = long_rest ks s at a b c in
            rw (ne_eqb (get_or s at 0) 2 a, ne_eqb (get_or s at 0) 7 b, ne_eqb (get_or s at 0) 6 c) (omega (arith, h))
      ]
    ]
  ]
