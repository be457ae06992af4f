-- The walk over a code that stands in the section leaves its links as `Lies` has them.
use Rattle.std.specs.Prelude.{◌≡◌, refl, Bool, true, false, cond, not, ◌⊎◌, List, ◌∷◌, ◌++◌, ℕ, ◌+◌, ◌-◌, ◌<◌}
use Rattle.std.specs.Prelude.{◌≤◌, eqb, length, get_or, set, drop}
use Rattle.std.proofs.Common.{sym, ◌∙◌, ap, subst, inl, inr, append_assoc, arith, length-set, get_or-set_same}
use Rattle.std.proofs.Common.{get_or-set_other, ne_eqb}
use Rattle.table.specs.Constants.{Op, END, NEW, LOCK, FORK, CHOICE, OTHER, CALL, MIRROR, code}
use Rattle.table.specs.Constants.{most_names, most_open, most_bytes}
use Rattle.table.specs.Program.{Code, end, new, lock, fork, choice, call, mirror, locals, forks}
use Rattle.table.proofs.Laws.Lists.{get_or_in}
use Rattle.table.specs.Encoding.{encode, Numbered, depth}
use Rattle.links.specs.Laws.Named.{Named}
use Rattle.links.specs.Lies.{Section, section, closer, Lies}
use Rattle.links.specs.declared.walk.Walk.{Walk}
use Rattle.links.specs.Walks.{walk, binds?, slot_by, walk_by, links_by, going_by, Passable, Moves, CanLink, Path}
use Rattle.links.specs.Walks.{done, step}
use Rattle.links.specs.Laws.Bytes.{op_for, closer_is, drop_inside, drop_here, drop_next, drop_past}
use Rattle.links.specs.Laws.Bytes.{drop_entry}

-- one path after another, by the first
then_from : (ks s : List ℕ) (w v : Walk) (l m : List ℕ) (u : Walk) (n : List ℕ) → Path ks s v m u n → Path ks s w l v m
    → Path ks s w l u n
then_from ks s w v l m u n (done u' n' e f) p = rw (e, f) p
then_from ks s w v l m u n (step u' t n' o g can e f q) p = step u t n o g can e f (then_from ks s w v l m t o q p)

-- one path after another
pub then : (ks s : List ℕ) (w v u : Walk) (l m n : List ℕ) → Path ks s v m u n → Path ks s w l v m → Path ks s w l u n
then ks s w v u l m n q p = then_from ks s w v l m u n q p

-- the links are the same from an offset on, below another
abbrev pub Same : ℕ → ℕ → List ℕ → List ℕ → Type 0
Same lo hi l m = (i : ℕ) → lo ≤ i → i < hi → get_or m i 0 ≡ get_or l i 0

module _ (ks s heads bs : List ℕ) where
  abbrev pub with_links : List ℕ → Section
  with_links l = section ks s heads l bs

  -- the code stands at the place, which has room for it
  pub record Fit (o : Bool) (c : Code) (w : Walk) (l rest : List ℕ) : Type 0 where
    pub bytes : drop w.at s ≡ encode (op_for o) c ++ rest
    pub short : length s ≤ most_bytes
    pub named : Named ks c
    pub params : ℕ
    pub before : ℕ
    pub forked : ℕ
    pub numbered : Numbered params before forked c
    pub name : w.name ≡ params + before + 1
    pub low : w.name + locals c ≤ most_names
    pub room : w.top + depth c ≤ most_open
    pub opened_long : length w.opened ≡ most_open + 1
    pub long : length l ≡ most_bytes

  -- the code was passed: the place v is the item that closes it
  pub record Passed (o : Bool) (c : Code) (w : Walk) (l rest : List ℕ) : Type 0 where
    pub v : Walk
    pub m : List ℕ
    pub path : Path ks s v m w l
    pub order : w.at ≤ v.at
    pub inside : v.at < length s
    pub byte : get_or s v.at 0 ≡ closer o
    pub after : drop (v.at + 1) s ≡ rest
    pub top : v.top ≡ w.top
    pub name : v.name ≡ w.name + locals c
    pub opened : (i : ℕ) → i ≤ w.top → get_or v.opened i 0 ≡ get_or w.opened i 0
    pub opened_long : length v.opened ≡ most_open + 1
    pub long : length m ≡ most_bytes
    pub below : (i : ℕ) → i < w.at → get_or m i 0 ≡ get_or l i 0
    pub lies : (n : List ℕ) → Same w.at v.at m n → Lies (with_links n) o w.at c (v.at + 1)

  -- the code is passed wherever it stands
  abbrev pub Passes : Code → Type 0
  Passes c = (o : Bool) (w : Walk) (l rest : List ℕ) → Fit o c w l rest → Passed o c w l rest

  pass_end : Passes end
  pass_end o w l rest f = record {
    v = w;
    m = l;
    path = done w l refl refl;
    order = omega arith;
    inside = drop_inside s w.at (code (op_for o)) rest f.bytes;
    byte = is;
    after = drop_next s w.at (code (op_for o)) rest f.bytes;
    top = refl;
    name = omega arith;
    opened = λ i h. refl;
    opened_long = f.opened_long;
    long = f.long;
    below = λ i h. refl;
    lies = λ n same. ((drop_inside s w.at (code (op_for o)) rest f.bytes, is), refl);
  }
    where
      is : get_or s w.at 0 ≡ closer o
      is = drop_here s w.at (code (op_for o)) rest f.bytes ∙ sym (closer_is o)

  -- an item that is no CALL can be passed
  passable : (w : Walk) (b : ℕ) → w.at < length s → length s ≤ most_bytes → get_or s w.at 0 ≡ b → (b ≡ code CALL → ⊥)
      → Passable ks s w.at
  passable w b i h e n = record { here = i; routine = λ q. absurd (n (sym e ∙ q)) }

  -- the code and the size of an item that makes a name: MIRROR or NEW
  abbrev made_code : Bool → ℕ
  made_code k = cond k (code MIRROR) (code NEW)

  abbrev made_size : Bool → ℕ
  made_size k = cond k 2 1

  made_no : (k : Bool) (b : Op) → made_code k ≡ code b → (code b ≡ code END) ⊎ (code b ≡ code CALL) → ⊥
  made_no true b e (inl q) = omega (arith, e, q)
  made_no true b e (inr q) = omega (arith, e, q)
  made_no false b e (inl q) = omega (arith, e, q)
  made_no false b e (inr q) = omega (arith, e, q)

  made_size_lem : (k : Bool) → 1 ≤ made_size k
  made_size_lem true = omega arith
  made_size_lem false = omega arith

  made_walk : (k : Bool) (w : Walk)
      → walk_by ks s w (made_code k) ≡ walk (w.at + made_size k) w.top (w.name + 1) w.opened
  made_walk true w = refl
  made_walk false w = refl

  made_links : (k : Bool) (w : Walk) (l : List ℕ) → links_by ks s w l (made_code k) ≡ set l w.at w.name
  made_links true w l = refl
  made_links false w l = refl

  made_going : (k : Bool) (w : Walk) → going_by w (made_code k) ≡ true
  made_going true w = refl
  made_going false w = refl

  made_binds : (k : Bool) → binds? (made_code k) ≡ true
  made_binds true = refl
  made_binds false = refl

  made_slot : (k : Bool) (w : Walk) → slot_by w (made_code k) ≡ w.at
  made_slot true w = refl
  made_slot false w = refl

  -- an item that makes the name x, and the code c that follows it, are passed where c is
  pass_made : (k o : Bool) (d c : Code) (x : ℕ) (w : Walk) (l rest : List ℕ) → Passes c → (f : Fit o d w l rest)
      → get_or s w.at 0 ≡ made_code k → w.at < length s → drop (w.at + made_size k) s ≡ encode (op_for o) c ++ rest
      → Named ks c → x ≡ f.params + f.before + 1 → Numbered f.params (f.before + 1) f.forked c
      → locals d ≡ 1 + locals c → depth d ≡ depth c
      → ((n : List ℕ) (to : ℕ) → get_or n w.at 0 ≡ x → x < most_names
      → Lies (with_links n) o (w.at + made_size k) c to → Lies (with_links n) o w.at d to)
      → Passed o d w l rest
  pass_made k o d c x w l rest again f is inside bytes nm num numbered more deep lies =
      by (again o (walk (w.at + made_size k) w.top (w.name + 1) w.opened) (set l w.at w.name) rest fit)
    where
      fit : Fit o c (walk (w.at + made_size k) w.top (w.name + 1) w.opened) (set l w.at w.name) rest
      fit =
          let n = f.name in
          let g = f.low in
          let r = f.room in
          record {
            bytes = bytes;
            short = f.short;
            named = nm;
            params = f.params;
            before = f.before + 1;
            forked = f.forked;
            numbered = numbered;
            name = omega (arith, n);
            low = omega (arith, g, more);
            room = omega (arith, r, deep);
            opened_long = f.opened_long;
            long = length-set l w.at w.name ∙ f.long;
          }

      can : CanLink ks s w
      can =
          let g = f.low in
          let h = f.short in
          let r = f.room in
          record {
            passable = passable w (made_code k) inside f.short is (λ q. made_no k CALL q (inr refl));
            moves = subst (Moves w) (sym is) (record {
              levelled = omega (arith, r);
              closes = λ q. absurd (made_no k END q (inl refl));
              opens = λ p q. absurd (let z : true ≡ false = sym (made_binds k) ∙ q in let y : ◌≡◌ {A = ℕ} 0 1 = cc in
                  omega arith);
              named = omega (arith, g, more);
            });
            slot = let e : slot_by w (get_or s w.at 0) ≡ w.at = ap (slot_by w) is ∙ made_slot k w in
                omega (arith, e, inside, h);
          }

      by : Passed o c (walk (w.at + made_size k) w.top (w.name + 1) w.opened) (set l w.at w.name) rest
          → Passed o d w l rest
      by p =
          let ord = p.order in
          let ln = p.name in
          let sz = made_size_lem k in
          let h = f.short in
          let lg = f.long in
          let n0 = f.name in
          let g = f.low in
          record {
            v = p.v;
            m = p.m;
            path = step w (walk (w.at + made_size k) w.top (w.name + 1) w.opened) l (set l w.at w.name)
                (ap (going_by w) is ∙ made_going k w) can (sym (ap (walk_by ks s w) is ∙ made_walk k w))
                (sym (ap (links_by ks s w l) is ∙ made_links k w l)) p.path;
            order = omega (arith, ord);
            inside = p.inside;
            byte = p.byte;
            after = p.after;
            top = p.top;
            name = omega (arith, ln, more);
            opened = p.opened;
            opened_long = p.opened_long;
            long = p.long;
            below = λ j q. p.below j (omega (arith, q))
                ∙ get_or-set_other l w.at j w.name 0 (λ e. omega (arith, e, q));
            lies = λ n same.
                lies n (p.v.at + 1)
                (same w.at (omega arith) (omega (arith, ord, sz)) ∙ p.below w.at (omega (arith, sz))
                ∙ get_or-set_same l w.at w.name 0 (omega (arith, inside, h, lg)) ∙ n0 ∙ sym num)
                (omega (arith, num, n0, g, more)) (p.lies n (λ j a b. same j (omega (arith, a)) b));
          }

  -- NEW
  pass_new : (x : ℕ) (c : Code) → Passes c → Passes (new x c)
  pass_new x c again o w l rest f =
      pass_made false o (new x c) c x w l rest again f is inside
      (drop_next s w.at (code NEW) (encode (op_for o) c ++ rest) f.bytes) f.named f.numbered.0
      f.numbered.1 refl refl (λ n to e h q. ((inside, is), e, h, q))
    where
      inside : w.at < length s
      inside = drop_inside s w.at (code NEW) (encode (op_for o) c ++ rest) f.bytes

      is : get_or s w.at 0 ≡ code NEW
      is = drop_here s w.at (code NEW) (encode (op_for o) c ++ rest) f.bytes

  -- MIRROR
  pass_mirror : (x y : ℕ) (c : Code) → Passes c → Passes (mirror x y c)
  pass_mirror x y c again o w l rest f =
      pass_made true o (mirror x y c) c x w l rest again f is inside
      (ap (λ (q : ℕ). drop q s) two ∙ drop_next s (w.at + 1) y _ bytes1) f.named.1 f.numbered.0
      f.numbered.1 refl refl
      (λ n to e h q. (
        (inside, is),
        e,
        h,
        (drop_inside s (w.at + 1) y _ bytes1, drop_here s (w.at + 1) y _ bytes1),
        f.named.0,
        q,
      ))
    where
      inside : w.at < length s
      inside = drop_inside s w.at (code MIRROR) (y ∷ (encode (op_for o) c ++ rest)) f.bytes

      is : get_or s w.at 0 ≡ code MIRROR
      is = drop_here s w.at (code MIRROR) (y ∷ (encode (op_for o) c ++ rest)) f.bytes

      bytes1 : drop (w.at + 1) s ≡ y ∷ (encode (op_for o) c ++ rest)
      bytes1 = drop_next s w.at (code MIRROR) (y ∷ (encode (op_for o) c ++ rest)) f.bytes

      two : w.at + 2 ≡ w.at + 1 + 1
      two = omega arith

  -- an item that is no CALL can be linked
  can_link : (w : Walk) (b : ℕ) → w.at < length s → length s ≤ most_bytes → get_or s w.at 0 ≡ b → (b ≡ code CALL → ⊥)
      → w.top ≤ most_open → w.name ≤ most_names → (b ≡ code END → 1 ≤ w.top)
      → ((b ≡ code END → ⊥) → (b ≡ code OTHER → ⊥) → w.top < most_open)
      → slot_by w b < most_bytes → CanLink ks s w
  can_link w b i h e n t nm cl op sl = record {
    passable = passable w b i h e n;
    moves = rw e (record {
      levelled = t;
      closes = cl;
      opens = λ p q r u. op p r;
      named = omega (arith, nm);
    });
    slot = rw e sl;
  }

  -- a block and what follows it were passed, from a place inside the block; a is the offset of the item that opened it
  pub record Inner (o : Bool) (c d : Code) (w : Walk) (l rest : List ℕ) (a t : ℕ) : Type 0 where
    pub v : Walk
    pub m : List ℕ
    pub mid : ℕ
    pub path : Path ks s v m w l
    pub order : w.at < mid
    pub order' : mid ≤ v.at
    pub inside : v.at < length s
    pub byte : get_or s v.at 0 ≡ closer o
    pub after : drop (v.at + 1) s ≡ rest
    pub top : v.top ≡ t
    pub name : v.name ≡ w.name + locals c + locals d
    pub opened : (i : ℕ) → i ≤ t → get_or v.opened i 0 ≡ get_or w.opened i 0
    pub opened_long : length v.opened ≡ most_open + 1
    pub long : length m ≡ most_bytes
    pub below : (i : ℕ) → i < w.at → (i ≡ a → ⊥) → get_or m i 0 ≡ get_or l i 0
    pub link : get_or m a 0 ≡ mid
    pub lies_in : (n : List ℕ) → Same w.at v.at m n → Lies (with_links n) false w.at c mid
    pub lies_on : (n : List ℕ) → Same w.at v.at m n → Lies (with_links n) o mid d (v.at + 1)

  pass_inner : (c d : Code) → Passes c → Passes d
      → (o : Bool) (w : Walk) (l rest : List ℕ) (a t : ℕ) → w.top ≡ t + 1 → get_or w.opened (t + 1) 0 ≡ a → a < w.at
      → (f : Fit false c w l (encode (op_for o) d ++ rest)) → Named ks d → (j : ℕ)
      → Numbered f.params (f.before + locals c) j d → w.name + locals c + locals d ≤ most_names
      → t + depth d ≤ most_open → Inner o c d w l rest a t
  pass_inner c d first again o w l rest a t top op less f nd j num low room =
      by (first false w l (encode (op_for o) d ++ rest) f)
    where
      by : Passed false c w l (encode (op_for o) d ++ rest) → Inner o c d w l rest a t
      by p = on (again o w2 l2 rest fit)
        where
          slot : get_or p.v.opened p.v.top 0 ≡ a
          slot =
              let e = p.top in
              ap (λ (i : ℕ). get_or p.v.opened i 0) (e ∙ top)
              ∙ p.opened (t + 1) (omega (arith, top)) ∙ op

          w2 : Walk
          w2 = walk (p.v.at + 1) (p.v.top - 1) p.v.name p.v.opened

          l2 : List ℕ
          l2 = set p.m (get_or p.v.opened p.v.top 0) (p.v.at + 1)

          fit : Fit o d (walk (p.v.at + 1) (p.v.top - 1) p.v.name p.v.opened)
              (set p.m (get_or p.v.opened p.v.top 0) (p.v.at + 1)) rest
          fit =
              let n = p.name in
              let n0 = f.name in
              let e = p.top in
              record {
                bytes = p.after;
                short = f.short;
                named = nd;
                params = f.params;
                before = f.before + locals c;
                forked = j;
                numbered = num;
                name = omega (arith, n, n0);
                low = omega (arith, n, low);
                room = omega (arith, e, top, room);
                opened_long = p.opened_long;
                long = length-set p.m (get_or p.v.opened p.v.top 0) (p.v.at + 1) ∙ p.long;
              }

          low_slot : a < most_bytes
          low_slot = let g = p.order in let h = p.inside in let k = f.short in omega (arith, g, h, k, less)

          can : CanLink ks s p.v
          can =
              let e = p.top in
              let r = f.room in
              let n = p.name in
              let g = f.low in
              can_link p.v (code END) p.inside f.short p.byte (λ q. omega (arith, q)) (omega (arith, e, r))
              (omega (arith, n, g)) (λ q. omega (arith, e, top)) (λ q. absurd (q refl)) (rw slot low_slot)

          on : Passed o d (walk (p.v.at + 1) (p.v.top - 1) p.v.name p.v.opened)
              (set p.m (get_or p.v.opened p.v.top 0) (p.v.at + 1)) rest → Inner o c d w l rest a t
          on q =
              let e = p.top in
              let e2 = q.top in
              let n = p.name in
              let n2 = q.name in
              let h1 = p.order in
              let h2 = q.order in
              let ls = low_slot in
              let pl = p.long in
              let more : eqb p.v.top 0 ≡ false = ne_eqb p.v.top 0 (λ z. omega
              (arith, z, e, top)) in
              record {
                v = q.v;
                m = q.m;
                mid = p.v.at + 1;
                path = then ks s q.v p.v w q.m p.m l p.path
                    (step p.v w2 p.m l2 (ap (going_by p.v) p.byte ∙ ap not more) can
                    (sym (ap (walk_by ks s p.v) p.byte)) (sym (ap (links_by ks s p.v p.m) p.byte))
                    q.path);
                order = omega (arith, h1);
                order' = h2;
                inside = q.inside;
                byte = q.byte;
                after = q.after;
                top = omega (arith, e2, e, top);
                name = omega (arith, n, n2);
                opened = λ i h. q.opened i (omega (arith, h, e, top)) ∙ p.opened i (omega (arith, h, top));
                opened_long = q.opened_long;
                long = q.long;
                below = λ i h g.
                    q.below i (omega (arith, h, h1))
                    ∙ get_or-set_other p.m (get_or p.v.opened p.v.top 0) i (p.v.at + 1) 0 (λ z. g (z ∙ slot))
                    ∙ p.below i h;
                link =
                    q.below a (omega (arith, less, h1))
                    ∙ ap (λ (k : ℕ). get_or (set p.m k (p.v.at + 1)) a 0) slot
                    ∙ get_or-set_same p.m a (p.v.at + 1) 0 (omega (arith, ls, pl));
                lies_in = λ n same.
                    p.lies n (λ i x y. same i x (omega (arith, y, h2)) ∙ q.below i (omega (arith, y))
                    ∙ get_or-set_other p.m (get_or p.v.opened p.v.top 0) i (p.v.at + 1) 0
                    (λ z. let sl = slot in omega (arith, z, sl, less, x)));
                lies_on = λ n same. q.lies n (λ i x y. same i (omega (arith, x, h1)) y);
              }

  -- inside a block that the item at w opened, at an offset
  abbrev opened_at : Walk → ℕ → Walk
  opened_at w h = walk h (w.top + 1) w.name (set w.opened (w.top + 1) w.at)

  -- the entries of the levels below, and the new one
  opened_old : (w : Walk) (i : ℕ) → i ≤ w.top → get_or (set w.opened (w.top + 1) w.at) i 0 ≡ get_or w.opened i 0
  opened_old w i h = get_or-set_other w.opened (w.top + 1) i w.at 0 (λ e. omega (arith, e, h))

  opened_new : (w : Walk) → length w.opened ≡ most_open + 1 → w.top + 1 ≤ most_open
      → get_or (set w.opened (w.top + 1) w.at) (w.top + 1) 0 ≡ w.at
  opened_new w e h = get_or-set_same w.opened (w.top + 1) w.at 0 (omega (arith, e, h))

  -- LOCK
  pass_lock : (x : ℕ) (c d : Code) → Passes c → Passes d → Passes (lock x c d)
  pass_lock x c d first again o w l rest f =
      by (pass_inner c d first again o w1 l1 rest w.at w.top refl (opened_new w f.opened_long deep)
      (omega arith)
      fit f.named.2 (f.forked + forks c) f.numbered.1
      (let g = f.low in omega (arith, g)) (let r = f.room in omega (arith, r)))
    where
      w1 : Walk
      w1 = opened_at w (w.at + 2)

      l1 : List ℕ
      l1 = set l w.at (w.at + 2)

      bytes : drop w.at s ≡ code LOCK ∷ (x ∷ (encode END c ++ (encode (op_for o) d ++ rest)))
      bytes =
          f.bytes ∙ ap (λ (q : List ℕ). code LOCK ∷ (x ∷ q)) (append_assoc (encode END c) (encode (op_for o) d) rest)

      inside : w.at < length s
      inside = drop_inside s w.at (code LOCK) _ bytes

      is : get_or s w.at 0 ≡ code LOCK
      is = drop_here s w.at (code LOCK) _ bytes

      bytes1 : drop (w.at + 1) s ≡ x ∷ (encode END c ++ (encode (op_for o) d ++ rest))
      bytes1 = drop_next s w.at (code LOCK) _ bytes

      deep : w.top + 1 ≤ most_open
      deep = let r = f.room in omega (arith, r)

      fit : Fit false c (opened_at w (w.at + 2)) (set l w.at (w.at + 2)) (encode (op_for o) d ++ rest)
      fit =
          let g = f.low in
          let r = f.room in
          let h : w.at + 2 ≡ w.at + 1 + 1 = omega arith in
          record {
            bytes = ap (λ (q : ℕ). drop q s) h ∙ drop_next s (w.at + 1) x _ bytes1;
            short = f.short;
            named = f.named.1;
            params = f.params;
            before = f.before;
            forked = f.forked;
            numbered = f.numbered.0;
            name = f.name;
            low = omega (arith, g);
            room = omega (arith, r);
            opened_long = length-set w.opened (w.top + 1) w.at ∙ f.opened_long;
            long = length-set l w.at (w.at + 2) ∙ f.long;
          }

      can : CanLink ks s w
      can =
          let g = f.low in
          let d1 = deep in
          let i = inside in
          let h = f.short in
          can_link w (code LOCK) inside f.short is (λ q. omega (arith, q)) (omega (arith, d1)) (omega (arith, g))
          (λ q. absurd (omega (arith, q))) (λ p q. omega (arith, d1)) (omega (arith, i, h))

      by : Inner o c d (opened_at w (w.at + 2)) (set l w.at (w.at + 2)) rest w.at w.top
          → Passed o (lock x c d) w l rest
      by q =
          let h1 = q.order in
          let h2 = q.order' in
          let n = q.name in
          record {
            v = q.v;
            m = q.m;
            path = step w w1 l l1 (ap (going_by w) is) can (sym (ap (walk_by ks s w) is)) (sym (ap
                (links_by ks s w l) is)) q.path;
            order = omega (arith, h1, h2);
            inside = q.inside;
            byte = q.byte;
            after = q.after;
            top = q.top;
            name = omega (arith, n);
            opened = λ i h. q.opened i h ∙ opened_old w i h;
            opened_long = q.opened_long;
            long = q.long;
            below = λ i h.
                q.below i (omega (arith, h)) (λ z. omega (arith, z, h))
                ∙ get_or-set_other l w.at i (w.at + 2) 0 (λ z. omega (arith, z, h));
            lies = λ n same.
                let sub : Same (w.at + 2) q.v.at q.m n = λ i a b. same i (omega (arith, a)) b in (
                  (inside, is),
                  (drop_inside s (w.at + 1) x _ bytes1, drop_here s (w.at + 1) x _ bytes1),
                  f.named.0,
                  (q.mid, q.lies_in n sub, q.lies_on n sub),
                );
          }

  -- FORK
  pass_fork : (j : ℕ) (c d : Code) → Passes c → Passes d → Passes (fork j c d)
  pass_fork j c d first again o w l rest f =
      by (pass_inner c d first again o w1 l1 rest w.at w.top refl (opened_new w f.opened_long deep)
      (omega arith)
      fit f.named.1 (f.forked + 1 + forks c) f.numbered.2
      (let g = f.low in omega (arith, g)) (let r = f.room in omega (arith, r)))
    where
      w1 : Walk
      w1 = opened_at w (w.at + 1)

      l1 : List ℕ
      l1 = set l w.at (w.at + 1)

      bytes : drop w.at s ≡ code FORK ∷ (encode END c ++ (encode (op_for o) d ++ rest))
      bytes = f.bytes ∙ ap (λ (q : List ℕ). code FORK ∷ q) (append_assoc (encode END c) (encode (op_for o) d) rest)

      inside : w.at < length s
      inside = drop_inside s w.at (code FORK) _ bytes

      is : get_or s w.at 0 ≡ code FORK
      is = drop_here s w.at (code FORK) _ bytes

      deep : w.top + 1 ≤ most_open
      deep = let r = f.room in omega (arith, r)

      fit : Fit false c (opened_at w (w.at + 1)) (set l w.at (w.at + 1)) (encode (op_for o) d ++ rest)
      fit =
          let g = f.low in
          let r = f.room in
          record {
            bytes = drop_next s w.at (code FORK) _ bytes;
            short = f.short;
            named = f.named.0;
            params = f.params;
            before = f.before;
            forked = f.forked + 1;
            numbered = f.numbered.1;
            name = f.name;
            low = omega (arith, g);
            room = omega (arith, r);
            opened_long = length-set w.opened (w.top + 1) w.at ∙ f.opened_long;
            long = length-set l w.at (w.at + 1) ∙ f.long;
          }

      can : CanLink ks s w
      can =
          let g = f.low in
          let d1 = deep in
          let i = inside in
          let h = f.short in
          can_link w (code FORK) inside f.short is (λ q. omega (arith, q)) (omega (arith, d1)) (omega (arith, g))
          (λ q. absurd (omega (arith, q))) (λ p q. omega (arith, d1)) (omega (arith, i, h))

      by : Inner o c d (opened_at w (w.at + 1)) (set l w.at (w.at + 1)) rest w.at w.top
          → Passed o (fork j c d) w l rest
      by q =
          let h1 = q.order in
          let h2 = q.order' in
          let n = q.name in
          record {
            v = q.v;
            m = q.m;
            path = step w w1 l l1 (ap (going_by w) is) can (sym (ap (walk_by ks s w) is)) (sym (ap
                (links_by ks s w l) is)) q.path;
            order = omega (arith, h1, h2);
            inside = q.inside;
            byte = q.byte;
            after = q.after;
            top = q.top;
            name = omega (arith, n);
            opened = λ i h. q.opened i h ∙ opened_old w i h;
            opened_long = q.opened_long;
            long = q.long;
            below = λ i h.
                q.below i (omega (arith, h)) (λ z. omega (arith, z, h))
                ∙ get_or-set_other l w.at i (w.at + 1) 0 (λ z. omega (arith, z, h));
            lies = λ n same.
                let sub : Same (w.at + 1) q.v.at q.m n = λ i a b. same i (omega (arith, a)) b in
                let to : get_or n w.at 0 ≡ q.mid = same w.at (omega arith) (omega (arith, h1, h2)) ∙ q.link in (
                  (inside, is),
                  subst (λ (k : ℕ). Lies (with_links n) false (w.at + 1) c k) (sym to) (q.lies_in n sub),
                  subst (λ (k : ℕ). Lies (with_links n) o k d (q.v.at + 1)) (sym to) (q.lies_on n sub),
                );
          }

  -- CALL
  pass_call : (r : ℕ) (xs : List ℕ) (c : Code) → Passes c → Passes (call r xs c)
  pass_call r xs c again o w l rest f = by (again o w1 l1 rest fit)
    where
      w1 : Walk
      w1 = walk (w.at + 2 + length xs) w.top w.name w.opened

      l1 : List ℕ
      l1 = set l w.at (w.at + 2 + length xs)

      bytes : drop w.at s ≡ code CALL ∷ (r ∷ (xs ++ (encode (op_for o) c ++ rest)))
      bytes =
          f.bytes ∙ ap (λ (q : List ℕ). code CALL ∷ (r ∷ q)) (append_assoc xs (encode (op_for o) c) rest)

      inside : w.at < length s
      inside = drop_inside s w.at (code CALL) _ bytes

      is : get_or s w.at 0 ≡ code CALL
      is = drop_here s w.at (code CALL) _ bytes

      bytes1 : drop (w.at + 1) s ≡ r ∷ (xs ++ (encode (op_for o) c ++ rest))
      bytes1 = drop_next s w.at (code CALL) _ bytes

      bytes2 : drop (w.at + 2) s ≡ xs ++ (encode (op_for o) c ++ rest)
      bytes2 =
          let g : w.at + 2 ≡ w.at + 1 + 1 = omega arith in
          ap (λ (q : ℕ). drop q s) g ∙ drop_next s (w.at + 1) r _ bytes1

      which : get_or s (w.at + 1) 0 ≡ r
      which = drop_here s (w.at + 1) r _ bytes1

      size : get_or ks (get_or s (w.at + 1) 0) 0 ≡ length xs
      size = ap (λ (q : ℕ). get_or ks q 0) which ∙ sym f.named.1

      fit : Fit o c (walk (w.at + 2 + length xs) w.top w.name w.opened) (set l w.at
          (w.at + 2 + length xs)) rest
      fit = record {
        bytes = drop_past s (w.at + 2) xs (encode (op_for o) c ++ rest) bytes2;
        short = f.short;
        named = f.named.4;
        params = f.params;
        before = f.before;
        forked = f.forked;
        numbered = f.numbered;
        name = f.name;
        low = f.low;
        room = f.room;
        opened_long = f.opened_long;
        long = length-set l w.at (w.at + 2 + length xs) ∙ f.long;
      }

      can : CanLink ks s w
      can =
          let g = f.low in
          let rm = f.room in
          let i = inside in
          let sh = f.short in
          let e = which in
          let e2 = size in
          let k = f.named.0 in
          let k2 = f.named.2 in
          record {
            passable = record {
              here = inside;
              routine = λ q. (drop_inside s (w.at + 1) r _ bytes1, omega (arith, e, k));
            };
            moves = rw is (record {
              levelled = omega (arith, rm);
              closes = λ q. absurd (omega (arith, q));
              opens = λ p q t u. absurd (u refl);
              named = omega (arith, g);
            });
            slot = rw is (omega (arith, i, sh));
          }

      by : Passed o c (walk (w.at + 2 + length xs) w.top w.name w.opened) (set l w.at
          (w.at + 2 + length xs)) rest
          → Passed o (call r xs c) w l rest
      by p =
          let ord = p.order in
          let few = f.named.2 in
          record {
            v = p.v;
            m = p.m;
            path = step w w1 l l1 (ap (going_by w) is) can
                (sym (ap (walk_by ks s w) is ∙ ap (λ (q : ℕ). walk (w.at + 2 + q) w.top w.name w.opened) size))
                (sym (ap (links_by ks s w l) is ∙ ap (λ (q : ℕ). set l w.at (w.at + 2 + q)) size)) p.path;
            order = omega (arith, ord);
            inside = p.inside;
            byte = p.byte;
            after = p.after;
            top = p.top;
            name = p.name;
            opened = p.opened;
            opened_long = p.opened_long;
            long = p.long;
            below = λ j q. p.below j (omega (arith, q))
                ∙ get_or-set_other l w.at j (w.at + 2 + length xs) 0 (λ e. omega (arith, e, q));
            lies = λ n same. (
              (inside, is),
              (drop_inside s (w.at + 1) r _ bytes1, which),
              f.named.0,
              sym f.named.1,
              omega (arith, few),
              (λ j q. (
                drop_entry s (w.at + 2) xs (encode (op_for o) c ++ rest) j bytes2 q,
                f.named.3 (get_or xs j 0)
                    (get_or_in xs j q).0,
              )),
              p.lies n (λ j a b. same j (omega (arith, a)) b),
            );
          }

  -- CHOICE
  pass_choice : (a b c : Code) → Passes a → Passes b → Passes c → Passes (choice a b c)
  pass_choice a b c first second again o w l rest f = by (first true w1 l1 more fit)
    where
      more : List ℕ
      more = encode END b ++ (encode (op_for o) c ++ rest)

      w1 : Walk
      w1 = opened_at w (w.at + 1)

      l1 : List ℕ
      l1 = set l w.at (w.at + 1)

      bytes : drop w.at s ≡ code CHOICE ∷ (encode OTHER a ++ (encode END b ++ (encode (op_for o) c ++ rest)))
      bytes =
          f.bytes ∙ ap (λ (q : List ℕ). code CHOICE ∷ q) (append_assoc (encode OTHER a) (encode END b ++ encode
          (op_for o) c) rest)
          ∙ ap (λ (q : List ℕ). code CHOICE ∷ (encode OTHER a ++ q)) (append_assoc (encode END b) (encode
          (op_for o) c) rest)

      inside : w.at < length s
      inside = drop_inside s w.at (code CHOICE) _ bytes

      is : get_or s w.at 0 ≡ code CHOICE
      is = drop_here s w.at (code CHOICE) _ bytes

      deep : w.top + 1 ≤ most_open
      deep = let r = f.room in omega (arith, r)

      fit : Fit true a (opened_at w (w.at + 1)) (set l w.at (w.at + 1)) (encode END b ++ (encode
          (op_for o) c ++ rest))
      fit =
          let g = f.low in
          let r = f.room in
          record {
            bytes = drop_next s w.at (code CHOICE) _ bytes;
            short = f.short;
            named = f.named.0;
            params = f.params;
            before = f.before;
            forked = f.forked;
            numbered = f.numbered.0;
            name = f.name;
            low = omega (arith, g);
            room = omega (arith, r);
            opened_long = length-set w.opened (w.top + 1) w.at ∙ f.opened_long;
            long = length-set l w.at (w.at + 1) ∙ f.long;
          }

      can : CanLink ks s w
      can =
          let g = f.low in
          let d1 = deep in
          let i = inside in
          let h = f.short in
          can_link w (code CHOICE) inside f.short is (λ q. omega (arith, q)) (omega (arith, d1)) (omega (arith, g))
          (λ q. absurd (omega (arith, q))) (λ p q. omega (arith, d1)) (omega (arith, i, h))

      by : Passed true a (opened_at w (w.at + 1)) (set l w.at (w.at + 1)) (encode END b ++ (encode
          (op_for o) c ++ rest))
          → Passed o (choice a b c) w l rest
      by p =
          on (pass_inner b c second again o w2 l2 rest p.v.at w.top p.top own (omega arith) fit2 f.named.2
          (f.forked + forks a + forks b) f.numbered.2
          (let g = f.low in let n = p.name in omega (arith, g, n)) (let r = f.room in omega (arith, r)))
        where
          w2 : Walk
          w2 = walk (p.v.at + 1) p.v.top p.v.name (set p.v.opened p.v.top p.v.at)

          l2 : List ℕ
          l2 = set p.m (get_or p.v.opened p.v.top 0) (p.v.at + 1)

          slot : get_or p.v.opened p.v.top 0 ≡ w.at
          slot =
              ap (λ (i : ℕ). get_or p.v.opened i 0) p.top ∙ p.opened (w.top + 1) (omega arith)
              ∙ opened_new w f.opened_long deep

          own : get_or (set p.v.opened p.v.top p.v.at) (w.top + 1) 0 ≡ p.v.at
          own =
              ap (λ (i : ℕ). get_or (set p.v.opened i p.v.at) (w.top + 1) 0) p.top
              ∙ get_or-set_same p.v.opened (w.top + 1) p.v.at 0
              (let d1 = deep in let k = p.opened_long in omega (arith, d1, k))

          fit2 : Fit false b (walk (p.v.at + 1) p.v.top p.v.name (set p.v.opened p.v.top p.v.at))
              (set p.m (get_or p.v.opened p.v.top 0) (p.v.at + 1)) (encode (op_for o) c ++ rest)
          fit2 =
              let n = p.name in
              let n0 = f.name in
              let g = f.low in
              let e = p.top in
              let r = f.room in
              record {
                bytes = p.after;
                short = f.short;
                named = f.named.1;
                params = f.params;
                before = f.before + locals a;
                forked = f.forked + forks a;
                numbered = f.numbered.1;
                name = omega (arith, n, n0);
                low = omega (arith, n, g);
                room = omega (arith, e, r);
                opened_long = length-set p.v.opened p.v.top p.v.at ∙ p.opened_long;
                long = length-set p.m (get_or p.v.opened p.v.top 0) (p.v.at + 1) ∙ p.long;
              }

          can2 : CanLink ks s p.v
          can2 =
              let n = p.name in
              let g = f.low in
              let e = p.top in
              let d1 = deep in
              let i = inside in
              let h = f.short in
              can_link p.v (code OTHER) p.inside f.short p.byte (λ q. omega (arith, q)) (omega
              (arith, e, d1))
              (omega (arith, n, g)) (λ q. absurd (omega (arith, q))) (λ z q. absurd (q refl))
              (let sl = slot in omega (arith, sl, i, h))

          on : Inner o b c (walk (p.v.at + 1) p.v.top p.v.name (set p.v.opened p.v.top p.v.at))
              (set p.m (get_or p.v.opened p.v.top 0) (p.v.at + 1)) rest p.v.at w.top
              → Passed o (choice a b c) w l rest
          on q =
              let h0 = p.order in
              let h1 = q.order in
              let h2 = q.order' in
              let n = p.name in
              let n2 = q.name in
              let e = p.top in
              let sl = slot in
              let i0 = inside in
              let sh = f.short in
              let pl = p.long in
              record {
                v = q.v;
                m = q.m;
                path = step w w1 l l1 (ap (going_by w) is) can (sym (ap (walk_by ks s w) is)) (sym (ap
                    (links_by ks s w l) is))
                    (then ks s q.v p.v w1 q.m p.m l1 p.path
                    (step p.v w2 p.m l2 (ap (going_by p.v) p.byte) can2
                    (sym (ap (walk_by ks s p.v) p.byte)) (sym (ap (links_by ks s p.v p.m) p.byte))
                    q.path));
                order = omega (arith, h0, h1, h2);
                inside = q.inside;
                byte = q.byte;
                after = q.after;
                top = q.top;
                name = omega (arith, n, n2);
                opened = λ i h. q.opened i h
                    ∙ get_or-set_other p.v.opened p.v.top i p.v.at 0 (λ z. omega (arith, z, h, e))
                    ∙ p.opened i (omega (arith, h)) ∙ opened_old w i h;
                opened_long = q.opened_long;
                long = q.long;
                below = λ i h.
                    q.below i (omega (arith, h, h0)) (λ z. omega (arith, z, h, h0))
                    ∙ get_or-set_other p.m (get_or p.v.opened p.v.top 0) i (p.v.at + 1) 0 (λ z. omega
                    (arith, z, h, sl))
                    ∙ p.below i (omega (arith, h)) ∙ get_or-set_other l w.at i (w.at + 1) 0 (λ z. omega
                    (arith, z, h));
                lies = λ n same.
                    let sub : Same (p.v.at + 1) q.v.at q.m n = λ i x y. same i (omega (arith, x, h0)) y in
                    let to : get_or n w.at 0 ≡ p.v.at + 1 =
                    same w.at (omega arith) (omega (arith, h0, h1, h2)) ∙ q.below w.at (omega (arith, h0))
                    (λ z. omega (arith, z, h0))
                    ∙ ap (λ (k : ℕ). get_or (set p.m k (p.v.at + 1)) w.at 0) slot
                    ∙ get_or-set_same p.m w.at (p.v.at + 1) 0 (omega (arith, i0, sh, pl)) in
                    let back : get_or n w.at 0 - 1 ≡ p.v.at = omega (arith, to) in
                    let past : get_or n (get_or n w.at 0 - 1) 0 ≡ q.mid =
                    ap (λ (k : ℕ). get_or n k 0) back ∙ same p.v.at (omega (arith, h0)) (omega (arith, h1, h2))
                    ∙ q.link in (
                      (inside, is),
                      subst (λ (k : ℕ). Lies (with_links n) true (w.at + 1) a k) (sym to)
                          (p.lies n (λ i x y. same i (omega (arith, x)) (omega (arith, y, h1, h2))
                          ∙ q.below i (omega (arith, y)) (λ z. omega (arith, z, y))
                          ∙ get_or-set_other p.m (get_or p.v.opened p.v.top 0) i (p.v.at + 1) 0 (λ z. omega
                          (arith, z, x, sl)))),
                      subst (λ (k : ℕ). Lies (with_links n) false k b (get_or n (get_or n w.at 0 - 1) 0)) (sym to)
                          (subst (λ (k : ℕ). Lies (with_links n) false (p.v.at + 1) b k) (sym past)
                          (q.lies_in n sub)),
                      subst (λ (k : ℕ). Lies (with_links n) o k c (q.v.at + 1)) (sym past) (q.lies_on n sub),
                    );
              }

  -- every code
  pub passes : (c : Code) → Passes c
  passes end = pass_end
  passes (new x c) = pass_new x c (passes c)
  passes (lock x c d) = pass_lock x c d (passes c) (passes d)
  passes (fork j c d) = pass_fork j c d (passes c) (passes d)
  passes (choice a b c) = pass_choice a b c (passes a) (passes b) (passes c)
  passes (call r xs c) = pass_call r xs c (passes c)
  passes (mirror x y c) = pass_mirror x y c (passes c)
