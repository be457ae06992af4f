-- The walk's arrays past an item: the roots of the names, and what the entries show of the places of the levels.
use mathlib.Core.Path.{◌≡◌, refl, sym, ap, subst, ◌∙◌}
use mathlib.Core.Logic.{◌⊎◌, inl, inr, ⊎_elim}
use mathlib.Core.Bool.{Bool, true, false, cond}
use lib.Dec.{eqb}
use mathlib.Core.List.{List, [], ◌∷◌}
use mathlib.Core.Option.{Option, none, some}
use Prim.Native.Nat.{ℕ, zero, suc, ◌+◌, ◌/◌, ◌%◌, ◌^◌, ◌≤◌, ◌<◌}
use native.Mathlib.Omega.{arith}
use lib.ListN.{length, get_or, set, length-set}
use lib.Seq.{get_or-set_same, get_or-set_other}
use borrow.Author.Tests.{ne_eqb, eqb-true, eqb-false}
use Rattle.table.specs.Constants.{Op, END, NEW, LOCK, FORK, CHOICE, OTHER, CALL, MIRROR, code, most_forks, most_names}
use Rattle.table.specs.Program.{Code, end, new, lock, fork, choice, call, mirror, names, locals, forks}
use Rattle.table.specs.WellFormed.{In}
use Rattle.table.specs.Encoding.{Numbered}
use Rattle.table.proofs.Laws.Lists.{names_low}
use Rattle.rules.specs.Label.{forked}
use Rattle.rules.specs.Model.{Place, at_head, naming, nested, under_lock, under_fork}
use Rattle.rules.specs.Number.{label_of}
use Rattle.rules.proofs.Laws.Number.{label_of_number}
use Rattle.rules.proofs.Laws.Nest.{by_nest, by_bind}
use Rattle.grid.specs.Rows.{Has, Bits}
use Rattle.grid.proofs.Laws.Masks.{bits_zero, bits_or, bits_one, bits_map}
use Rattle.table.specs.Laws.Fine.{Uses, Fine}
use Rattle.pairs.specs.Walks.{byte_of, arg_of, level_of, in_nest, with_root, root_of}
use Rattle.pairs.specs.Walks.{Selves, inside_lock, thread_level, start_walk, moved_walk, entered_walk, local_walk}
use Rattle.pairs.specs.declared.walk.Level.{Level as Holding}
use Rattle.pairs.specs.Walks.{Walk}
use Rattle.pairs.specs.declared.walk.TheConstants.{SELVES}
use Rattle.pairs.specs.Walks.{next_walk, NamesFit, Ready}
use Rattle.pairs.proofs.Pending.{Alternative, other, Level, level, past, second_locals, second_forks, InScope}
use Rattle.pairs.specs.Walks.{outermost}
use Rattle.pairs.proofs.Pending.{SecondInScope, Scopes, Shows, Entry, SecondEntry, Entries, Left}
use Rattle.pairs.proofs.Steps.{byte_at, first_byte, by_byte, Going, at_kind, place_there, few_levels, room}

module _ (k : ℕ) where
  -- the same facts, with counts written in another way
  named_at : (n : ℕ) (rs : List ℕ) {m j m' j' : ℕ} (π : Place) (c : Code) → m ≡ m' → j ≡ j'
      → InScope k n rs m j π c → InScope k n rs m' j' π c
  named_at n rs π c e f p = rw (← e, ← f) p

  second_at : (n : ℕ) (rs : List ℕ) {m j m' j' : ℕ} (u : Option Alternative) → m ≡ m' → j ≡ j'
      → SecondInScope k n rs m j u → SecondInScope k n rs m' j' u
  second_at n rs u e f p = rw (← e, ← f) p

  scopes_at : (n : ℕ) (rs : List ℕ) {m j m' j' : ℕ} (ls : List Level) → m ≡ m' → j ≡ j'
      → Scopes k n rs m j ls → Scopes k n rs m' j' ls
  scopes_at n rs ls e f p = rw (← e, ← f) p

  -- there are few names and forks in all
  scopes_few : (n : ℕ) (rs : List ℕ) (m j : ℕ) (ls : List Level) → Scopes k n rs m j ls
      → (k + m < most_names) × (j ≤ most_forks)
  scopes_few n rs m j [] p = p
  scopes_few n rs m j (level c u π ∷ ls) p =
      let z = scopes_few n rs (m + locals c + second_locals u) (j + forks c + second_forks u) ls p.2 in
      (omega arith, omega arith)

  -- and few past the code of the innermost level
  level_few : (n : ℕ) (rs : List ℕ) (m j : ℕ) (c : Code) (u : Option Alternative) (π : Place) (ls : List Level)
      → Scopes k n rs m j (level c u π ∷ ls) → (k + (m + locals c) < most_names) × (j + forks c ≤ most_forks)
  level_few n rs m j c u π ls p =
      let z = scopes_few n rs (m + locals c + second_locals u) (j + forks c + second_forks u) ls p.2 in
      (omega arith, omega arith)

  -- one name more changes nothing for the codes that do not have it in scope
  module _ (n : ℕ) (rs : List ℕ) (v : ℕ) where
    named_kept : {m j : ℕ} {π : Place} {c : Code} → InScope k n rs m j π c
        → InScope k (n + 1) (set rs (n + 1) v) m j π c
    named_kept p = record {
      numbered = p.numbered;
      scope = p.scope;
      uses = p.uses;
      low = λ x i. let l = p.low x i in omega arith;
      roots = λ x i. get_or-set_other rs (n + 1) x v 0 (λ e. let l = p.low x i in omega arith) ∙ p.roots x i;
      low_roots = λ x i. let l = p.low_roots x i in omega arith;
    }

    second_kept : (m j : ℕ) (u : Option Alternative) → SecondInScope k n rs m j u
        → SecondInScope k (n + 1) (set rs (n + 1) v) m j u
    second_kept m j none p = tt
    second_kept m j (some (other b κ)) p = named_kept p

    scopes_kept : (m j : ℕ) (ls : List Level) → Scopes k n rs m j ls → Scopes k (n + 1) (set rs (n + 1) v) m j ls
    scopes_kept m j [] p = p
    scopes_kept m j (level c u π ∷ ls) p = (
      named_kept p.0,
      second_kept _ _ u p.1,
      scopes_kept (m + locals c + second_locals u) (j + forks c + second_forks u) ls p.2,
    )

    -- the code that has it in scope, with the root v
    named_more : {m j m' j' : ℕ} {π : Place} {c d : Code} (x z : ℕ) (p : InScope k n rs m j π c) → x ≡ n + 1 → v ≡ z
        → n + 1 < length rs → z ≤ n + 1 → Numbered k m' j' d → Uses (x ∷ p.scope) d
        → InScope k (n + 1) (set rs (n + 1) v) m' j' (naming x z π) d
    named_more {π = π} x z p e f l low numbered uses = record {
      numbered = numbered;
      scope = x ∷ p.scope;
      uses = uses;
      low = λ y i. ⊎_elim (λ q. omega arith) (λ q. let h = p.low y q in omega arith) i;
      roots = λ y i. by_bind (λ a b. root_of (set rs (n + 1) v) y ≡ a) x z z π.roots π.roots y
          (λ q. let h : y ≡ n + 1 = q ∙ e in rw h (get_or-set_same rs (n + 1) v 0 l ∙ f))
          (λ ne. ⊎_elim (λ q. absurd (ne q))
          (λ q. get_or-set_other rs (n + 1) y v 0 (λ h. let b = p.low y q in omega arith) ∙ p.roots y q) i);
      low_roots = λ y i. by_bind (λ a b. a ≤ n + 1) x z z π.roots π.roots y (λ q. low)
          (λ ne. ⊎_elim (λ q. absurd (ne q)) (λ q. let h = p.low_roots y q in omega arith) i);
    }

  -- a part of the code, at a place with the same roots
  named_part : {n m j m' j' : ℕ} {rs : List ℕ} {π κ : Place} {c d : Code} (p : InScope k n rs m j π c)
      → κ.roots ≡ π.roots → Numbered k m' j' d → Uses p.scope d → InScope k n rs m' j' κ d
  named_part p e numbered uses = record {
    numbered = numbered;
    scope = p.scope;
    uses = uses;
    low = p.low;
    roots = λ x i. p.roots x i ∙ ap (λ (f : ℕ → ℕ). f x) (sym e);
    low_roots = λ x i. rw e (p.low_roots x i);
  }

-- inside a LOCK the roots are those outside
lock_roots : (z : ℕ) (π : Place) → (under_lock z π).roots ≡ π.roots
lock_roots z π = by_nest (λ v. v.roots ≡ π.roots) z π (λ i. refl) (λ n. refl)

-- what the test of a nest tells
pub in_nest_lem : (m z : ℕ) → in_nest m z ≡ true → Has m z
in_nest_lem m z e = eqb-true (m / 2 ^ z % 2) 1 e

pub not_in_nest : (m z : ℕ) → in_nest m z ≡ false → ¬ Has m z
not_in_nest m z e = eqb-false (m / 2 ^ z % 2) 1 e

-- the place after a NEW or MIRROR, as the walk shows it
shows_naming : {v : Holding} {π : Place} (x z : ℕ) → Shows v π → Shows v (naming x z π)
shows_naming x z k = record { holder = k.holder; name = k.name; thread = k.thread; low = k.low; nest = k.nest }

-- the place inside a LOCK on a name with the root z, as the walk shows it
module _ {v : Holding} {π : Place} (k : Shows v π) (z : ℕ) (low : z < 16) where
  nest_more : Bits (with_root v.nest z) (λ y. (y ≡ z) ⊎ In y π.nest)
  nest_more = bits_map (λ y. ⊎_elim (λ i. inr i) (λ e. inl e)) (λ y. ⊎_elim (λ e. inr e) (λ i. inl i))
      (bits_or k.nest (bits_one z low))

  pub shows_lock : Shows (inside_lock v z) (under_lock z π)
  shows_lock = by_nest (λ p. Shows (inside_lock v z) p) z π again first
    where
      again : In z π.nest → Shows (inside_lock v z) π
      again i = record {
        holder = rw (k.nest.from z i) k.holder;
        name = rw (k.nest.from z i) k.name;
        thread = k.thread;
        low = k.low;
        nest = bits_map (λ y. ⊎_elim (λ e. rw e i) (λ j. j)) (λ y j. inr j) nest_more;
      }

      first : ¬ In z π.nest → Shows (inside_lock v z) (nested z π)
      first n =
          let e = ne_eqb (v.nest / 2 ^ z % 2) 1 (λ e. n (k.nest.to z e)) in
          record { holder = rw e; name = rw e low; thread = k.thread; low = k.low; nest = nest_more }

-- entries from the n-th on do not matter to n levels
second_set : (vs : List Holding) (n : ℕ) (v : Holding) (i : ℕ) (u : Option Alternative) → i < n → SecondEntry vs i u
    → SecondEntry (set vs n v) i u
second_set vs n v i none l p = tt
second_set vs n v i (some (other b κ)) l p = rw (get_or-set_other vs n i v outermost (λ e. omega arith)) p

entries_set : (vs : List Holding) (n : ℕ) (v : Holding) (ls : List Level) → length ls ≤ n → Entries vs ls
    → Entries (set vs n v) ls
entries_set vs n v [] l p = tt
entries_set vs n v (level c u π ∷ ls) l p = (
  rw (get_or-set_other vs n (length ls) v outermost (λ e. omega arith)) p.0,
  second_set vs n v (length ls) u (omega arith) p.1,
  entries_set vs n v ls (omega arith) p.2,
)

-- a second alternative has the place that the level shows
abbrev SecondShows : Holding → Option Alternative → Type 0
SecondShows v none = Unit {0}
SecondShows v (some (other b κ)) = Shows v κ

-- one level more
entries_open : (vs : List Holding) (n : ℕ) (v : Holding) (c : Code) (u : Option Alternative) (κ : Place)
    (ls : List Level) → length ls ≡ n → n < length vs → Shows v κ → SecondShows v u → Entries vs ls
    → Entries (set vs n v) (level c u κ ∷ ls)
entries_open vs n v c u κ ls e lh k k' p = (
  rw (e, get_or-set_same vs n v outermost lh) k,
  second u k',
  entries_set vs n v ls (omega arith) p,
)
  where
    second : (u : Option Alternative) → SecondShows v u → SecondEntry (set vs n v) (length ls) u
    second none h = tt
    second (some (other b κ)) h = rw (e, get_or-set_same vs n v outermost lh) h

-- the walk's arrays tell of the levels, in the body of a routine with k parameters
pub record Tracked (k : ℕ) (w : Walk) (ls : List Level) : Type 0 where
  pub made : ℕ
  pub last : w.last ≡ k + made
  pub scopes : Scopes k w.last w.roots made w.forks ls
  pub entries : Entries w.levels ls
  pub long_levels : length w.levels ≡ 17
  pub long_roots : length w.roots ≡ 16

module _ (k : ℕ) (w : Walk) where
  -- a name in scope is below 16, and so is its root
  module _ (c : Code) (u : Option Alternative) (π : Place) (ls : List Level) (o : Tracked k w (level c u π ∷ ls)) where
    pub name_low : (x : ℕ) → In x o.scopes.0.scope → x < 16
    name_low x i =
        let a = o.scopes.0.low x i in
        let few = level_few k w.last w.roots o.made w.forks c u π ls o.scopes in
        let b = o.last in
        omega arith

    pub root_low : (x : ℕ) → In x o.scopes.0.scope → root_of w.roots x < 16
    root_low x i =
        let a = o.scopes.0.low_roots x i in
        let e = o.scopes.0.roots x i in
        let few = level_few k w.last w.roots o.made w.forks c u π ls o.scopes in
        let b = o.last in
        omega arith

module _ (ks s t : List ℕ) (k : ℕ) (w : Walk) where
  -- the entry of the innermost level
  pub top_entry : (c : Code) (u : Option Alternative) (π : Place) (ls : List Level)
      → Left ks s t w.at w.top (level c u π ∷ ls) → Tracked k w (level c u π ∷ ls)
      → Shows (level_of w) π
  top_entry c u π ls p q =
      let n : length ls ≡ w.top = let z = p.count in omega arith in
      subst (λ (v : ℕ). Entry w.levels v π) n q.entries.0

  -- past an item that opens no level and gives no name
  moves : (at top : ℕ) {ls : List Level} (ms : List Level) (q : Tracked k w ls)
      → Scopes k w.last w.roots q.made w.forks ms → Entries w.levels ms
      → Tracked k (moved_walk w at top) ms
  moves at top ms q a b = record {
    made = q.made;
    last = q.last;
    scopes = a;
    entries = b;
    long_levels = q.long_levels;
    long_roots = q.long_roots;
  }

  -- past an item that opens a level, at the place κ
  opens : (at j : ℕ) (v : Holding) (c d : Code) (z u : Option Alternative) (π κ : Place) (ls : List Level) {e : Code}
      → Left ks s t w.at w.top (level e u π ∷ ls) → (o : Tracked k w (level e u π ∷ ls)) → w.top < 16
      → Scopes k w.last w.roots o.made j (level c z κ ∷ level d u π ∷ ls)
      → Shows v κ → SecondShows v z
      → Tracked k (entered_walk (moved_walk w at (w.top + 1)) j v) (level c z κ ∷ level d u π ∷ ls)
  opens at j v c d z u π κ ls p o r a y y' =
      let n = p.count in
      let l = o.long_levels in
      record {
        made = o.made;
        last = o.last;
        scopes = a;
        entries = entries_open w.levels (w.top + 1) v c z κ (level d u π ∷ ls) (omega arith) (omega arith) y y'
            o.entries;
        long_levels = length-set w.levels (w.top + 1) v ∙ l;
        long_roots = o.long_roots;
      }

  -- past an item that gives the name x, which its code has with the root z
  gives : (at top v x z : ℕ) (c d : Code) (u : Option Alternative) (π : Place) (ls : List Level)
      → (o : Tracked k w (level c u π ∷ ls)) → locals c ≡ 1 + locals d → forks c ≡ forks d
      → x ≡ k + o.made + 1 → v ≡ z → z ≤ w.last + 1
      → Numbered k (o.made + 1) w.forks d → Uses (x ∷ o.scopes.0.scope) d
      → Tracked k (local_walk (moved_walk w at top) v) (level d u (naming x z π) ∷ ls)
  gives at top v x z c d u π ls o e f g h low numbered uses =
      let b = o.last in
      let l = o.long_roots in
      let few = level_few k w.last w.roots o.made w.forks c u π ls o.scopes in
      record {
        made = o.made + 1;
        last = omega arith;
        scopes = (
          named_more k w.last w.roots v x z o.scopes.0 (omega arith) h (omega arith) low numbered uses,
          second_at k _ _ u (omega arith) (omega arith) (second_kept k w.last w.roots v _ _ u o.scopes.1),
          scopes_at k _ _ ls (omega arith) (omega arith) (scopes_kept k w.last w.roots v _ _ ls o.scopes.2),
        );
        entries = (shows_naming x z o.entries.0, o.entries.1, o.entries.2);
        long_levels = o.long_levels;
        long_roots = length-set w.roots (w.last + 1) v ∙ l;
      }

  pub track : (ls : List Level) → Left ks s t w.at w.top ls → Going s w.at w.top → Tracked k w ls
      → Tracked k (next_walk ks s w) (past ls)
  track [] p g o = absurd (let z = p.count in omega arith)
  track (level end none π ∷ ls) p g o =
      let e : byte_of s w ≡ 0 = first_byte s w.at _ _ p.content in
      rw (by_byte ks s w 0 e)
      (moves _ _ ls o (scopes_at k _ _ ls (omega arith) (omega arith) o.scopes.2) o.entries.2)
  track (level end (some (other b κ)) π ∷ ls) p g o =
      let e : byte_of s w ≡ 5 = first_byte s w.at _ _ p.content in
      rw (by_byte ks s w 5 e)
      (moves _ _ (level b none κ ∷ ls) o (
        named_at k _ _ κ b (omega arith) (omega arith) o.scopes.1,
        tt,
        scopes_at k _ _ ls (omega arith) (omega arith) o.scopes.2,
      )
      (o.entries.1, tt, o.entries.2))
  track (level (new x c) u π ∷ ls) p g o =
      let e : byte_of s w ≡ 1 = first_byte s w.at _ _ p.content in
      let b = o.last in
      let n = o.scopes.0.numbered in
      let i : x ≡ k + o.made + 1 = n.0 in
      rw (by_byte ks s w 1 e)
      (gives _ _ (w.last + 1) x x (new x c) c u π ls o refl refl i (omega arith) (omega arith) n.1
      o.scopes.0.uses)
  track (level (lock x c d) u π ∷ ls) p g o =
      let e : byte_of s w ≡ 2 = first_byte s w.at _ _ p.content in
      let a : arg_of s w ≡ x = byte_at s w.at 1 _ p.content in
      let q = o.scopes.0 in
      let r = room ks s t w.at w.top _ p g LOCK e in
      let z : root_of w.roots x ≡ π.roots x = q.roots x q.uses.0 in
      rw (by_byte ks s w 2 e)
      (rw (a, z) (opens (w.at + 2) w.forks (inside_lock (level_of w) (π.roots x)) c d none u π
      (under_lock (π.roots x) π) ls p o r.1 (
        named_part k q (lock_roots (π.roots x) π) q.numbered.0 q.uses.1,
        tt,
        (
          named_at k _ _ π d (omega arith) (omega arith) (named_part k q refl q.numbered.1 q.uses.2),
          second_at k _ _ u (omega arith) (omega arith) o.scopes.1,
          scopes_at k _ _ ls (omega arith) (omega arith) o.scopes.2,
        ),
      )
      (shows_lock (top_entry _ u π ls p o) (π.roots x) (rw z at (root_low k w _ u π ls o x q.uses.0))) tt))
  track (level (fork i c d) u π ∷ ls) p g o =
      let e : byte_of s w ≡ 3 = first_byte s w.at _ _ p.content in
      let q = o.scopes.0 in
      let n = q.numbered in
      let r = room ks s t w.at w.top _ p g FORK e in
      let few = level_few k w.last w.roots o.made w.forks (fork i c d) u π ls o.scopes in
      let m : forked i ≡ label_of (w.forks + 1) =
      rw n.0 (sym (label_of_number (forked (w.forks + 1)) (omega arith, omega arith))) in
      rw (by_byte ks s w 3 e)
      (opens (w.at + 1) (w.forks + 1) (thread_level (w.forks + 1)) c d none u π (under_fork i π) ls p o r (
        named_part k q refl n.1 q.uses.0,
        tt,
        (
          named_at k _ _ π d (omega arith) (omega arith) (named_part k q refl n.2 q.uses.1),
          second_at k _ _ u (omega arith) (omega arith) o.scopes.1,
          scopes_at k _ _ ls (omega arith) (omega arith) o.scopes.2,
        ),
      )
      (record { holder = refl; name = tt; thread = m; low = omega arith; nest = bits_zero _ (λ y i. i) }) tt)
  track (level (choice a b c) u π ∷ ls) p g o =
      let e : byte_of s w ≡ 4 = first_byte s w.at _ _ p.content in
      let q = o.scopes.0 in
      let n = q.numbered in
      let r = room ks s t w.at w.top _ p g CHOICE e in
      let y = top_entry _ u π ls p o in
      rw (by_byte ks s w 4 e)
      (opens (w.at + 1) w.forks (level_of w) a c (some (other b π)) u π π ls p o r (
        named_part k q refl n.0 q.uses.0,
        named_part k q refl n.1 q.uses.1,
        (
          named_part k q refl n.2 q.uses.2,
          second_at k _ _ u (omega arith) (omega arith) o.scopes.1,
          scopes_at k _ _ ls (omega arith) (omega arith) o.scopes.2,
        ),
      )
      y y)
  track (level (call r xs c) u π ∷ ls) p g o =
      let e : byte_of s w ≡ 6 = first_byte s w.at _ _ p.content in
      let q = o.scopes.0 in
      rw (by_byte ks s w 6 e)
      (moves _ _ (level c u π ∷ ls) o (named_part k q refl q.numbered q.uses.1, o.scopes.1, o.scopes.2)
      o.entries)
  track (level (mirror x y c) u π ∷ ls) p g o =
      let e : byte_of s w ≡ 7 = first_byte s w.at _ _ p.content in
      let a : arg_of s w ≡ y = byte_at s w.at 1 _ p.content in
      let b = o.last in
      let q = o.scopes.0 in
      let n = q.numbered in
      let i : x ≡ k + o.made + 1 = n.0 in
      let low = q.low_roots y q.uses.0 in
      rw (by_byte ks s w 7 e)
      (gives _ _ (root_of w.roots (arg_of s w)) x (π.roots y) (mirror x y c) c u π ls o refl refl i
      (ap (root_of w.roots) a ∙ q.roots y q.uses.0) (omega arith) n.1 q.uses.1)

  -- what passing the item needs of the names
  names_met : (ls : List Level) → Left ks s t w.at w.top ls → Tracked k w ls
      → (j : Op) → byte_of s w ≡ code j → NamesFit s w j
  names_met ls p o END e = tt
  names_met ls p o NEW e =
      let v = at_kind ks s t w.at w.top NEW ls p e in
      let o' : Tracked k w (level (new v.0 v.1) v.2 v.3 ∷ v.4) = rw v.5 at o in
      let few = level_few k w.last w.roots o'.made w.forks (new v.0 v.1) v.2 v.3 v.4
      o'.scopes in
      let b = o'.last in
      omega arith
  names_met ls p o LOCK e =
      let v = at_kind ks s t w.at w.top LOCK ls p e in
      let o' : Tracked k w (level (lock v.0 v.1 v.2) v.3 v.4 ∷ v.5) = rw v.6 at o in
      let p' : Left ks s t w.at w.top (level (lock v.0 v.1 v.2) v.3 v.4 ∷ v.5) = rw v.6 at p in
      let a : arg_of s w ≡ v.0 = byte_at s w.at 1 _ p'.content in
      let i = o'.scopes.0.uses.0 in
      rw a (name_low k w _ _ _ _ o' v.0 i, root_low k w _ _ _ _ o' v.0 i)
  names_met ls p o FORK e =
      let v = at_kind ks s t w.at w.top FORK ls p e in
      let o' : Tracked k w (level (fork v.0 v.1 v.2) v.3 v.4 ∷ v.5) = rw v.6 at o in
      let few = level_few k w.last w.roots o'.made w.forks (fork v.0 v.1 v.2) v.3 v.4 v.5
      o'.scopes in
      omega arith
  names_met ls p o CHOICE e = tt
  names_met ls p o OTHER e = tt
  names_met ls p o CALL e = tt
  names_met ls p o MIRROR e =
      let v = at_kind ks s t w.at w.top MIRROR ls p e in
      let o' : Tracked k w (level (mirror v.0 v.1 v.2) v.3 v.4 ∷ v.5) = rw v.6 at o in
      let p' : Left ks s t w.at w.top (level (mirror v.0 v.1 v.2) v.3 v.4 ∷ v.5) =
      rw v.6 at p in
      let a : arg_of s w ≡ v.1 = byte_at s w.at 1 _ p'.content in
      let few = level_few k w.last w.roots o'.made w.forks (mirror v.0 v.1 v.2) v.3 v.4
      v.5 o'.scopes in
      let b = o'.last in
      (rw a (name_low k w _ _ _ _ o' v.1 o'.scopes.0.uses.0), omega arith)

  pub ready : (ls : List Level) → Left ks s t w.at w.top ls → Tracked k w ls → Going s w.at w.top
      → Ready ks s w
  ready ls p o g = record {
    here = place_there ks s t w.at w.top ls p;
    few = few_levels ks s t w.at w.top ls p;
    room = room ks s t w.at w.top ls p g;
    names = names_met ls p o;
  }

-- each name is its own root at the start
abbrev counts? : ℕ → List ℕ → Bool
counts? n [] = true
counts? n (x ∷ xs) = cond (eqb x n) (counts? (suc n) xs) false

count_first : (n x : ℕ) (xs : List ℕ) → ((i : ℕ) → counts? (suc n) xs ≡ true → i < length xs → get_or xs i 0 ≡ suc n + i)
    → (v : Bool) → eqb x n ≡ v → (i : ℕ) → cond v (counts? (suc n) xs) false ≡ true → i < suc (length xs)
    → get_or (x ∷ xs) i 0 ≡ n + i
count_first n x xs more false f i e l = absurd (let z : ◌≡◌ {A = ℕ} 0 1 = cc in omega arith)
count_first n x xs more true f zero e l = let z = eqb-true x n f in omega arith
count_first n x xs more true f (suc i) e l = let z = more i e (omega arith) in omega arith

count_at : (n : ℕ) (xs : List ℕ) (i : ℕ) → counts? n xs ≡ true → i < length xs → get_or xs i 0 ≡ n + i
count_at n [] i e l = absurd (omega arith)
count_at n (x ∷ xs) i e l = count_first n x xs (λ j. count_at (suc n) xs j) (eqb x n) refl i e l

selves_are : Selves SELVES
selves_are = (refl, λ x l. let z = count_at 0 SELVES x refl l in omega arith)

-- the arrays at the start of a body
pub tracks : (ks : List ℕ) (at k : ℕ) (c : Code) → Fine ks k c
    → Tracked k (start_walk at k) (level c none at_head ∷ [])
tracks ks at k c f = record {
  made = 0;
  last = omega arith;
  scopes = (
    record {
      numbered = f.numbered;
      scope = names k;
      uses = f.uses;
      low = names_low k;
      roots = λ x i. let h = names_low k x i in let z = f.few_names in selves_are.1 x (omega arith);
      low_roots = names_low k;
    },
    tt,
    (let z = f.few_names in omega arith, let z = f.few_forks in omega arith),
  );
  entries = (
    record { holder = refl; name = omega arith; thread = refl; low = omega arith; nest = bits_zero _ (λ y i. i) },
    tt,
    tt,
  );
  long_levels = refl;
  long_roots = refl;
}
