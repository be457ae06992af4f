-- The writing of a body item by item: the bytes are those of the rewritten body.
use Rattle.std.specs.Prelude.{◌≡◌, refl, Option, List, [], ◌∷◌, ◌++◌, map, ℕ, ◌+◌, ◌<◌, length, get_or, set}
use Rattle.std.proofs.Common.{sym, ap, ◌∙◌, inl, inr, append_assoc, zero-add, arith, eq-eqb, ne_eqb, length-set}
use Rattle.std.proofs.Common.{get_or-set_same, get_or-set_other}
use Rattle.std.proofs.Math.Decide.{ℕ_discrete}
use Rattle.table.specs.Constants.{Op, END, NEW, LOCK, FORK, CHOICE, OTHER, CALL, code}
use Rattle.table.specs.Program.{Code, end, new, lock, fork, choice, call, mirror, Program, locals, forks}
use Rattle.table.specs.WellFormed.{In, Scoped}
use Rattle.table.specs.Encoding.{encode, Numbered}
use Rattle.rules.specs.Model.{bind}
use Rattle.canon.specs.Canonical.{news, plain, recalled}
use Rattle.order.specs.Items.{Item, mark, making, mirroring, locking, calling, items_of}
use Rattle.rewrite.specs.Writing.{Known, new_number, name_of, after_item, written, after_all, written_all}

after_append : (e : Known) (ts us : List Item) → after_all e (ts ++ us) ≡ after_all (after_all e ts) us
after_append e [] us = refl
after_append e (t ∷ ts) us = after_append (after_item e t) ts us

written_append : (ps : List (Option ℕ)) (e : Known) (ts us : List Item)
    → written_all ps e (ts ++ us) ≡ written_all ps e ts ++ written_all ps (after_all e ts) us
written_append ps e [] us = refl
written_append ps e (t ∷ ts) us =
    ap (λ (l : List ℕ). written ps e t ++ l) (written_append ps (after_item e t) ts us)
    ∙ sym (append_assoc (written ps e t) (written_all ps (after_item e t) ts)
    (written_all ps (after_all (after_item e t) ts) us))

-- a later place: the names so far are as they were
pub record Later (e g : Known) (m n : ℕ) : Type 0 where
  pub size : length g.names ≡ length e.names
  pub old : g.old ≡ e.old + m
  pub next : g.next ≡ e.next + n
  pub same : (x : ℕ) → x < e.old → name_of g x ≡ name_of e x

later_then : (e g h : Known) (m n m' n' : ℕ) → Later e g m n → Later g h m' n' → Later e h (m + m') (n + n')
later_then e g h m n m' n' p q =
    let a = p.old in let b = p.next in let c = q.old in let d = q.next in
    record {
      size = q.size ∙ p.size;
      old = omega arith;
      next = omega arith;
      same = λ x l. q.same x (omega arith) ∙ p.same x l;
    }

later_self : (e : Known) → Later e e 0 0
later_self e = record { size = refl; old = omega arith; next = omega arith; same = λ x l. refl }

-- where σ has the new name of each name in the scope s, the writer knows it
pub record Knows (s : List ℕ) (σ : ℕ → ℕ) (e : Known) : Type 0 where
  pub low : (x : ℕ) → In x s → x < e.old
  pub name : (x : ℕ) → In x s → name_of e x ≡ σ x

knows_later : (s : List ℕ) (σ : ℕ → ℕ) (e g : Known) (m n : ℕ) → Knows s σ e → Later e g m n → Knows s σ g
knows_later s σ e g m n k p =
    record {
      low = λ x i. let a = k.low x i in let b = p.old in omega arith;
      name = λ x i. p.same x (k.low x i) ∙ k.name x i;
    }

-- a name is added: the next one, which stands for v
module _ (e : Known) (v n : ℕ) where
  abbrev more : Known
  more = record { names = set e.names e.old v; old = e.old + 1; next = n }

  more_later : (d : ℕ) → n ≡ e.next + d → Later e more 1 d
  more_later d q = record {
    size = length-set e.names e.old v;
    old = refl;
    next = q;
    same = λ x l. get_or-set_other e.names e.old x v 0 (λ f. omega arith);
  }

  more_knows : (s : List ℕ) (σ : ℕ → ℕ) (x : ℕ) → x ≡ e.old → e.old < length e.names → Knows s σ e
      → Knows (x ∷ s) (bind x v σ) more
  more_knows s σ x p l k = record { low = low; name = name }
    where
      low : (y : ℕ) → In y (x ∷ s) → y < e.old + 1
      low y (inl q) = omega arith
      low y (inr i) = let h = k.low y i in omega arith

      name : (y : ℕ) → In y (x ∷ s) → get_or (set e.names e.old v) y 0 ≡ bind x v σ y
      name y i = go (ℕ_discrete y x) i
        where
          go : Dec (y ≡ x) → In y (x ∷ s) → get_or (set e.names e.old v) y 0 ≡ bind x v σ y
          go (yes q) j = rw (eq-eqb y x q, q, p) (get_or-set_same e.names e.old v 0 l)
          go (no q) (inl j) = absurd (q j)
          go (no q) (inr j) = rw (ne_eqb y x q)
              (get_or-set_other e.names e.old y v 0 (λ f. q (f ∙ sym p)) ∙ k.name y j)

names_known : (s : List ℕ) (σ : ℕ → ℕ) (e : Known) → Knows s σ e → (xs : List ℕ) → ((x : ℕ) → In x xs → In x s)
    → map (name_of e) xs ≡ map σ xs
names_known s σ e k [] all = refl
names_known s σ e k (x ∷ xs) all =
    let h = k.name x (all x (inl refl)) in
    let t = names_known s σ e k xs (λ y i. all y (inr i)) in
    cc

-- what is written for the items of a code is the rewritten code, and the names so far stay
module _ (P : Program) (k : ℕ) (ps : List (Option ℕ)) where
  abbrev pub number : ℕ → ℕ
  number r = new_number ps r

  -- the place after m locals, with room for i more
  pub record At (m i : ℕ) (s : List ℕ) (σ : ℕ → ℕ) (n : ℕ) (e : Known) : Type 0 where
    pub old : e.old ≡ k + m + 1
    pub next : e.next ≡ n
    pub room : k + m + i < length e.names
    pub knows : Knows s σ e

  -- items ts that have so many locals and NEW write the text t
  abbrev pub Writes : List Item → ℕ → ℕ → List ℕ → Known → Type 0
  Writes ts i v t e = (written_all ps e ts ≡ t) × Later e (after_all e ts) i v

  at_later : (m i i' v : ℕ) (s : List ℕ) (σ : ℕ → ℕ) (n : ℕ) (e g : Known) → At m (i + i') s σ n e → Later e g i v
      → At (m + i) i' s σ (n + v) g
  at_later m i i' v s σ n e g a p =
      let o = a.old in let o' = p.old in
      let x = a.next in let x' = p.next in
      let r = a.room in let r' = p.size in
      record { old = omega arith; next = omega arith; room = omega arith; knows = knows_later s σ e g i v a.knows p }

  at_less : (m i i' : ℕ) (s : List ℕ) (σ : ℕ → ℕ) (n : ℕ) (e : Known) → At m (i + i') s σ n e → At m i s σ n e
  at_less m i i' s σ n e a =
      let r = a.room in record { old = a.old; next = a.next; room = omega arith; knows = a.knows }

  -- items and then others
  pub seq : (m i i' v v' n : ℕ) (s : List ℕ) (σ : ℕ → ℕ) (ts us : List Item) (t u : List ℕ)
      → ((e : Known) → At m i s σ n e → Writes ts i v t e)
      → ((e : Known) → At (m + i) i' s σ (n + v) e → Writes us i' v' u e)
      → (e : Known) → At m (i + i') s σ n e → Writes (ts ++ us) (i + i') (v + v') (t ++ u) e
  seq m i i' v v' n s σ ts us t u f g e a = go (f e (at_less m i i' s σ n e a))
    where
      go : Writes ts i v t e → Writes (ts ++ us) (i + i') (v + v') (t ++ u) e
      go p = next (g (after_all e ts) (at_later m i i' v s σ n e (after_all e ts) a p.1))
        where
          next : Writes us i' v' u (after_all e ts) → Writes (ts ++ us) (i + i') (v + v') (t ++ u) e
          next q = (
            written_append ps e ts us ∙ ap (λ (l : List ℕ). l ++ written_all ps (after_all e ts) us) p.0
                ∙ ap (λ (l : List ℕ). t ++ l) q.0,
            rw (after_append e ts us)
                (later_then e (after_all e ts) (after_all (after_all e ts) us) i v i' v' p.1 q.1),
          )

  -- a code alone before them
  marked : (b i v : ℕ) (ts : List Item) (t : List ℕ) (e : Known) → Writes ts i v t e → Writes (mark b ∷ ts) i v (b ∷ t)
      e
  marked b i v ts t e p = (ap (λ (l : List ℕ). b ∷ l) p.0, p.1)

  locked : (x y i v : ℕ) (ts : List Item) (t : List ℕ) (e : Known) → name_of e x ≡ y → Writes ts i v t e
      → Writes (locking x ∷ ts) i v (code LOCK ∷ y ∷ t) e
  locked x y i v ts t e f p = let g = p.0 in (cc, p.1)

  calls : (r i v : ℕ) (xs ys : List ℕ) (ts : List Item) (t : List ℕ) (e : Known) → map (name_of e) xs ≡ ys
      → Writes ts i v t e → Writes (calling r xs ∷ ts) i v (code CALL ∷ number r ∷ (ys ++ t)) e
  calls r i v xs ys ts t e f p = let g = p.0 in (cc, p.1)

  made : (m i v n x : ℕ) (s : List ℕ) (σ : ℕ → ℕ) (ts : List Item) (t : List ℕ) (e : Known) → x ≡ k + m + 1
      → At m (1 + i) s σ n e
      → ((g : Known) → At (m + 1) i (x ∷ s) (bind x n σ) (n + 1) g → Writes ts i v t g)
      → Writes (making ∷ ts) (1 + i) (1 + v) (code NEW ∷ t) e
  made m i v n x s σ ts t e h a f =
      let o = a.old in let y = a.next in let r = a.room in
      let p = f (after_item e making) (record {
        old = omega arith;
        next = omega arith;
        room = rw (length-set e.names e.old e.next) (omega arith);
        knows = rw (sym a.next)
            (more_knows e e.next (e.next + 1) s σ x (h ∙ sym o) (omega arith) a.knows);
      }) in (
        ap (λ (l : List ℕ). code NEW ∷ l) p.0,
        later_then e (after_item e making) (after_all (after_item e making) ts) 1 1 i v
            (more_later e e.next (e.next + 1) 1 refl) p.1,
      )

  mirrored : (m i v n x y : ℕ) (s : List ℕ) (σ : ℕ → ℕ) (ts : List Item) (t : List ℕ) (e : Known) → x ≡ k + m + 1
      → In y s → At m (1 + i) s σ n e
      → ((g : Known) → At (m + 1) i (x ∷ s) (bind x (σ y) σ) n g → Writes ts i v t g)
      → Writes (mirroring y ∷ ts) (1 + i) v t e
  mirrored m i v n x y s σ ts t e h j a f =
      let o = a.old in let r = a.room in
      let p = f (after_item e (mirroring y)) (record {
        old = omega arith;
        next = a.next;
        room = rw (length-set e.names e.old (name_of e y)) (omega arith);
        knows = rw (sym (a.knows.name y j))
            (more_knows e (name_of e y) e.next s σ x (h ∙ sym o) (omega arith) a.knows);
      }) in
      let b : Later e (after_all (after_item e (mirroring y)) ts) (1 + i) (0 + v) =
      later_then e (after_item e (mirroring y)) (after_all (after_item e (mirroring y)) ts) 1 0 i v
      (more_later e (name_of e y) e.next 0 (omega arith)) p.1 in
      (p.0, rw zero-add at b)

  -- the text of a rewritten code
  abbrev pub text : Op → (ℕ → ℕ) → ℕ → Code → List ℕ
  text z σ n c = encode z (recalled number (plain σ n c))

  pub written_code :
      (m j : ℕ) (z : Op) (s : List ℕ) (σ : ℕ → ℕ) (n : ℕ) (c : Code) → Scoped P k s c → Numbered k m j c
      → (e : Known) → At m (locals c) s σ n e → Writes (items_of z c) (locals c) (news c) (text z σ n c) e
  written_code m j z s σ n end sc w e a = (refl, later_self e)
  written_code m j z s σ n (new x c) sc w e a =
      made m (locals c) (news c) n x s σ (items_of z c) (text z (bind x n σ) (n + 1) c) e w.0 a
      (written_code (m + 1) j z (x ∷ s) (bind x n σ) (n + 1) c sc.1 w.1)
  written_code m j z s σ n (mirror x y c) sc w e a =
      mirrored m (locals c) (news c) n x y s σ (items_of z c) (text z (bind x (σ y) σ) n c) e w.0 sc.1 a
      (written_code (m + 1) j z (x ∷ s) (bind x (σ y) σ) n c sc.2 w.1)
  written_code m j z s σ n (lock x c d) sc w e a =
      locked x (σ x) (locals c + locals d) (news c + news d) (items_of END c ++ items_of z d)
      (text END σ n c ++ text z σ (n + news c) d) e (a.knows.name x sc.0)
      (seq m (locals c) (locals d) (news c) (news d) n s σ (items_of END c) (items_of z d) (text END σ n c)
      (text z σ (n + news c) d) (written_code m j END s σ n c sc.1 w.0)
      (written_code (m + locals c) (j + forks c) z s σ (n + news c) d sc.2 w.1) e a)
  written_code m j z s σ n (fork i c d) sc w e a =
      marked (code FORK) (locals c + locals d) (news c + news d) (items_of END c ++ items_of z d)
      (text END σ n c ++ text z σ (n + news c) d) e
      (seq m (locals c) (locals d) (news c) (news d) n s σ (items_of END c) (items_of z d) (text END σ n c)
      (text z σ (n + news c) d) (written_code m (j + 1) END s σ n c sc.0 w.1)
      (written_code (m + locals c) (j + 1 + forks c) z s σ (n + news c) d sc.1 w.2) e a)
  written_code m j z s σ n (choice u v c) sc w e a =
      marked (code CHOICE) (locals u + (locals v + locals c)) (news u + (news v + news c))
      (items_of OTHER u ++ (items_of END v ++ items_of z c))
      (text OTHER σ n u ++ (text END σ (n + news u) v ++ text z σ (n + news u + news v) c)) e
      (seq m (locals u) (locals v + locals c) (news u) (news v + news c) n s σ (items_of OTHER u)
      (items_of END v ++ items_of z c) (text OTHER σ n u) (text END σ (n + news u) v ++ text z σ (n + news u + news v) c)
      (written_code m j OTHER s σ n u sc.0 w.0)
      (seq (m + locals u) (locals v) (locals c) (news v) (news c) (n + news u) s σ (items_of END v) (items_of z c)
      (text END σ (n + news u) v) (text z σ (n + news u + news v) c)
      (written_code (m + locals u) (j + forks u) END s σ (n + news u) v sc.1 w.1)
      (written_code (m + locals u + locals v) (j + forks u + forks v) z s σ (n + news u + news v) c sc.2 w.2)) e
      a)
  written_code m j z s σ n (call r xs c) sc w e a =
      calls r (locals c) (news c) xs (map σ xs) (items_of z c) (text z σ n c) e
      (names_known s σ e a.knows xs sc.2) (written_code m j z s σ n c sc.3 w e a)
