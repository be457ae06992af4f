-- A code and its rewritten one record the same pairs, up to the new names.
use Rattle.std.specs.Prelude.{◌≡◌, refl, ◌⊎◌, ◌↔◌, Bool, true, false, cond, List, [], ◌∷◌, ◌++◌, map, ℕ, zero, suc, ◌+◌}
use Rattle.std.proofs.Common.{sym, ap, ◌∙◌, subst, inl, inr}
use Rattle.std.proofs.Math.Option
use Rattle.std.proofs.Math.Option.{some, map-eq-some_iff, none-ne-some, some-injective}
use Rattle.std.proofs.Math.ListN.{get_elem?}
use Rattle.table.specs.Program.{Code, end, new, lock, fork, choice, call, mirror, Program}
use Rattle.table.specs.WellFormed.{In, Scoped}
use Rattle.table.specs.Check.{in?}
use Rattle.table.proofs.Laws.Lists.{In-left, In-right, In-map}
use Rattle.rules.specs.Label.{Label, placed}
use Rattle.rules.specs.Model.{renamed, Place, bind, naming, nested, under_lock, under_fork}
use Rattle.rules.specs.Verdict.{Calls}
use Rattle.rules.specs.Derived.{Pairs, RecordedFrom}
use Rattle.rules.proofs.Laws.Nest.{by_nest, by_bind}
use Rattle.rules.proofs.Laws.Before104.{Plain as Itself, plain_new as itself-new}
use Rattle.canon.specs.Canonical.{news, plain, recalled}
use Rattle.canon.proofs.Laws.Lists.{Apart, map_in, in_back, in?_map, entry_in, entry_map}
use Rattle.canon.proofs.Laws.Renaming.{Change, changes}

-- the place w in the rewritten code, where ρ has the new name of each root and ι the roots of the rewritten code
abbrev moved : (ℕ → ℕ) → (ℕ → ℕ) → Place → Place
moved ρ ι w = record { thread = w.thread; roots = ι; holder = Option.map ρ w.holder; nest = map ρ w.nest }

-- the roots at the place w are of D, and τ has the new name of the root of each name in the scope s
pub record Stands (D : ℕ → Type 0) (ρ : ℕ → ℕ) (s : List ℕ) (τ : ℕ → ℕ) (w : Place) : Type 0 where
  pub links : (z : ℕ) → In z s → D (w.roots z) × (τ z ≡ ρ (w.roots z))
  pub holder_in : (x : ℕ) → w.holder ≡ some x → D x
  pub nest_in : (x : ℕ) → In x w.nest → D x

-- the pairs F are of names of D, and the pairs X are those under the new names, and no other
abbrev pub Moves : (ℕ → Type 0) → (ℕ → ℕ) → (ℕ → ℕ → Type 0) → (ℕ → ℕ → Type 0) → Type 0
Moves D ρ F X =
    ((a b : ℕ) → F a b → D a × D b × X (ρ a) (ρ b))
    × ((a' b' : ℕ) → X a' b' → (a : ℕ) × (b : ℕ) × (a' ≡ ρ a) × (b' ≡ ρ b) × F a b)

module _ (D : ℕ → Type 0) (ρ : ℕ → ℕ) where
  -- the same of two alternatives, one by one
  either :
      {F G X Y : ℕ → ℕ → Type 0}
      → Moves D ρ F X → Moves D ρ G Y → Moves D ρ (λ a b. F a b ⊎ G a b) (λ a b. X a b ⊎ Y a b)
  either {F} {G} {X} {Y} p q = (to, from)
    where
      to : (a b : ℕ) → F a b ⊎ G a b → D a × D b × (X (ρ a) (ρ b) ⊎ Y (ρ a) (ρ b))
      to a b (inl u) = let v = p.0 a b u in (v.0, v.1, inl v.2)
      to a b (inr u) = let v = q.0 a b u in (v.0, v.1, inr v.2)

      from : (a' b' : ℕ) → X a' b' ⊎ Y a' b'
          → (a : ℕ) × (b : ℕ) × (a' ≡ ρ a) × (b' ≡ ρ b) × (F a b ⊎ G a b)
      from a b (inl u) = let v = p.1 a b u in (v.0, v.1, v.2, v.3, inl v.4)
      from a b (inr u) = let v = q.1 a b u in (v.0, v.1, v.2, v.3, inr v.4)

  -- each NEW of the code gets its new name
  abbrev Given : List Change → Type 0
  Given ps = (p : Change) → In p ps → D p.old × (ρ p.old ≡ p.fresh)

  given_left : (ps qs : List Change) → Given (ps ++ qs) → Given ps
  given_left ps qs g p i = g p (In-left p ps qs i)

  given_right : (ps qs : List Change) → Given (ps ++ qs) → Given qs
  given_right ps qs g p i = g p (In-right p ps qs i)

  -- the place after a NEW, after a MIRROR, inside a LOCK and inside a FORK
  module _ (s : List ℕ) (τ : ℕ → ℕ) (w : Place) (st : Stands D ρ s τ w) where
    stands_new : (x n : ℕ) → D x → ρ x ≡ n → Stands D ρ (x ∷ s) (bind x n τ) (naming x x w)
    stands_new x n d e = record {
      links = λ z i. by_bind (λ u v. D u × (v ≡ ρ u)) x x n w.roots τ z (λ p. (d, sym e))
          (λ m. st.links z (elim i [ inl p ↦ absurd (m p) | inr j ↦ j ]));
      holder_in = st.holder_in;
      nest_in = st.nest_in;
    }

    stands_mirror : (x y : ℕ) → In y s → Stands D ρ (x ∷ s) (bind x (τ y) τ) (naming x (w.roots y) w)
    stands_mirror x y k = record {
      links = λ z i. by_bind (λ u v. D u × (v ≡ ρ u)) x (w.roots y) (τ y) w.roots τ z (λ p. st.links y k)
          (λ m. st.links z (elim i [ inl p ↦ absurd (m p) | inr j ↦ j ]));
      holder_in = st.holder_in;
      nest_in = st.nest_in;
    }

    stands_lock : (z : ℕ) → D z → Stands D ρ s τ (under_lock z w)
    stands_lock z d = by_nest (Stands D ρ s τ) z w (λ i. st) (λ n. record {
      links = st.links;
      holder_in = λ x e. rw (some-injective z x e) at d;
      nest_in = λ x i. elim i [ inl e ↦ rw e d | inr j ↦ st.nest_in x j ];
    })

    stands_fork : (i : ℕ) → Stands D ρ s τ (under_fork i w)
    stands_fork i = record {
      links = st.links;
      holder_in = λ x e. absurd (none-ne-some x e);
      nest_in = λ x j. absurd j;
    }

module _ (P : Program) (k : ℕ) (D : ℕ → Type 0) (ρ : ℕ → ℕ) (apart : Apart D ρ) (f : ℕ → ℕ) (R S : Pairs) where
  -- what a LOCK and a CALL record at a place
  module _ (s : List ℕ) (τ ι : ℕ → ℕ) (w : Place) (st : Stands D ρ s τ w) (own : Itself ι) (l : Label) where
    -- the root of a name in the rewritten code is the new name of its root
    root_moved : (x : ℕ) → In x s → ι (τ x) ≡ ρ (w.roots x)
    root_moved x i = own (τ x) ∙ (st.links x i).1

    at_lock :
        (x : ℕ) → In x s
        → Moves D ρ
        (λ a b. (¬ In (w.roots x) w.nest) × (w.holder ≡ some a) × (b ≡ w.roots x) × (l ≡ w.thread))
        (λ a b. (¬ In (ι (τ x)) (map ρ w.nest)) × (Option.map ρ w.holder ≡ some a) × (b ≡ ι (τ x))
        × (l ≡ w.thread))
    at_lock x i =
        let d = (st.links x i).0 in
        let e = root_moved x i in (
          (λ a b q. (
            st.holder_in a q.1,
            rw q.2 d,
            (
              (λ j. q.0 (in_back D ρ apart w.nest (w.roots x) st.nest_in d (rw e at j))),
              ap (Option.map ρ) q.1,
              ap ρ q.2 ∙ sym e,
              q.3,
            ),
          )),
          (λ a b q.
              let v = (map-eq-some_iff ρ w.holder).0 q.1 in (
                v.0,
                w.roots x,
                sym v.2,
                q.2 ∙ e,
                ((λ j. q.0 (rw e (map_in ρ w.nest (w.roots x) j))), v.1, refl, q.3),
              )),
        )

    -- the place inside a LOCK
    lock_moved : (x : ℕ) → In x s → under_lock (ι (τ x)) (moved ρ ι w) ≡ moved ρ ι (under_lock (w.roots x) w)
    lock_moved x i =
        ap (λ z. under_lock z (moved ρ ι w)) (root_moved x i)
        ∙ ap (λ b. cond b (moved ρ ι w) (moved ρ ι (nested (w.roots x) w)))
        (in?_map D ρ apart w.nest (w.roots x) st.nest_in (st.links x i).0)
        ∙ go (in? (w.roots x) w.nest)
      where
        go : (b : Bool)
            → cond b (moved ρ ι w) (moved ρ ι (nested (w.roots x) w)) ≡ moved ρ ι (cond b w (nested (w.roots x) w))
        go true = refl
        go false = refl

    module _ (xs : List ℕ) (all : (x : ℕ) → In x xs → In x s) where
      names_moved : map ι (map τ xs) ≡ map ρ (map w.roots xs)
      names_moved = go xs all
        where
          go : (ys : List ℕ) → ((y : ℕ) → In y ys → In y s) → map ι (map τ ys) ≡ map ρ (map w.roots ys)
          go [] i = refl
          go (y ∷ ys) i = rw (root_moved y (i y (inl refl)), go ys (λ z j. i z (inr j))) refl

      -- the caller's name for a name of the callee is of D
      renamed_root : (i a : ℕ) → renamed w.holder (map w.roots xs) i ≡ some a → D a
      renamed_root zero a e = st.holder_in a e
      renamed_root (suc i) a e =
          let v = In-map w.roots a xs (entry_in (map w.roots xs) i a e).0 in
          rw v.2 (st.links v.0 (all v.0 v.1)).0

      -- and moves with the place
      renamed_moved :
          (i : ℕ)
          → renamed (Option.map ρ w.holder) (map ι (map τ xs)) i
          ≡ Option.map ρ (renamed w.holder (map w.roots xs) i)
      renamed_moved zero = refl
      renamed_moved (suc i) =
          ap (λ (ys : List ℕ). get_elem? ys i) names_moved ∙ entry_map ρ (map w.roots xs) i

      at_call :
          (r : ℕ) → ((a b : ℕ) (m : Label) → R r a b m ↔ S (f r) a b m)
          → Moves D ρ
          (λ a b. (a₀ : ℕ) × (b₀ : ℕ) × (m : Label) × R r a₀ b₀ m
          × (renamed w.holder (map w.roots xs) a₀ ≡ some a)
          × (renamed w.holder (map w.roots xs) b₀ ≡ some b) × (l ≡ placed w.thread m))
          (λ a b. (a₀ : ℕ) × (b₀ : ℕ) × (m : Label) × S (f r) a₀ b₀ m
          × (renamed (Option.map ρ w.holder) (map ι (map τ xs)) a₀ ≡ some a)
          × (renamed (Option.map ρ w.holder) (map ι (map τ xs)) b₀ ≡ some b) × (l ≡ placed w.thread m))
      at_call r rows = (
        (λ a b q. (
          renamed_root q.0 a q.4,
          renamed_root q.1 b q.5,
          (
            q.0,
            q.1,
            q.2,
            (rows q.0 q.1 q.2).0 q.3,
            renamed_moved q.0 ∙ ap (Option.map ρ) q.4,
            renamed_moved q.1 ∙ ap (Option.map ρ) q.5,
            q.6,
          ),
        )),
        (λ a b q.
            let u = (map-eq-some_iff ρ (renamed w.holder (map w.roots xs) q.0)).0
            (sym (renamed_moved q.0) ∙ q.4) in
            let v = (map-eq-some_iff ρ (renamed w.holder (map w.roots xs) q.1)).0
            (sym (renamed_moved q.1) ∙ q.5) in (
              u.0,
              v.0,
              sym u.2,
              sym v.2,
              (q.0, q.1, q.2, (rows q.0 q.1 q.2).1 q.3, u.1, v.1, q.6),
            )),
      )

  -- the rewritten code records what the code records, under the new names
  pub recorded_moved :
      (s : List ℕ) (τ ι : ℕ → ℕ) (n : ℕ) (c : Code) (w : Place) (l : Label)
      → Scoped P k s c → Given D ρ (changes n c) → Stands D ρ s τ w → Itself ι
      → ((r : ℕ) → Calls c r → (a b : ℕ) (m : Label) → R r a b m ↔ S (f r) a b m)
      → Moves D ρ (λ a b. RecordedFrom R c w a b l)
      (λ a b. RecordedFrom S (recalled f (plain τ n c)) (moved ρ ι w) a b l)
  recorded_moved s τ ι n end w l sc g st own rows = ((λ a b q. absurd q), (λ a b q. absurd q))
  recorded_moved s τ ι n (new x c) w l sc g st own rows =
      let x₀ = g (record { old = x; fresh = n }) (inl refl) in
      recorded_moved (x ∷ s) (bind x n τ) (bind n n ι) (n + 1) c (naming x x w) l sc.1 (λ p i. g p (inr i))
      (stands_new D ρ s τ w st x n x₀.0 x₀.1) (itself-new n ι own) rows
  recorded_moved s τ ι n (lock x c d) w l sc g st own rows =
      let u = under_lock (w.roots x) w in
      let st' = stands_lock D ρ s τ w st (w.roots x) (st.links x sc.0).0 in
      let inside = recorded_moved s τ ι n c u l sc.1 (given_left D ρ (changes n c) (changes (n + news c) d) g) st'
      own (λ r h. rows r (inl h)) in
      either D ρ (at_lock s τ ι w st own l x sc.0)
      (either D ρ
      (subst (λ (v : Place). Moves D ρ (λ a b. RecordedFrom R c u a b l)
      (λ a b. RecordedFrom S (recalled f (plain τ n c)) v a b l))
      (sym (lock_moved s τ ι w st own l x sc.0)) inside)
      (recorded_moved s τ ι (n + news c) d w l sc.2 (given_right D ρ (changes n c) (changes (n + news c) d) g) st own
      (λ r h. rows r (inr h))))
  recorded_moved s τ ι n (fork i c d) w l sc g st own rows =
      either D ρ
      (recorded_moved s τ ι n c (under_fork i w) l sc.0 (given_left D ρ (changes n c) (changes (n + news c) d) g)
      (stands_fork D ρ s τ w st i) own (λ r h. rows r (inl h)))
      (recorded_moved s τ ι (n + news c) d w l sc.1 (given_right D ρ (changes n c) (changes (n + news c) d) g) st own
      (λ r h. rows r (inr h)))
  recorded_moved s τ ι n (choice t u c) w l sc g st own rows =
      let ts = changes n t in
      let us = changes (n + news t) u in
      let cs = changes (n + news t + news u) c in
      let g' = given_right D ρ ts (us ++ cs) g in
      either D ρ
      (recorded_moved s τ ι n t w l sc.0 (given_left D ρ ts (us ++ cs) g) st own (λ r h. rows r (inl h)))
      (either D ρ
      (recorded_moved s τ ι (n + news t) u w l sc.1 (given_left D ρ us cs g') st own (λ r h. rows r (inr (inl h))))
      (recorded_moved s τ ι (n + news t + news u) c w l sc.2 (given_right D ρ us cs g') st own
      (λ r h. rows r (inr (inr h)))))
  recorded_moved s τ ι n (call r xs c) w l sc g st own rows =
      either D ρ (at_call s τ ι w st own l xs sc.2 r (rows r (inl refl)))
      (recorded_moved s τ ι n c w l sc.3 g st own (λ q h. rows q (inr h)))
  recorded_moved s τ ι n (mirror x y c) w l sc g st own rows =
      recorded_moved (x ∷ s) (bind x (τ y) τ) ι n c (naming x (w.roots y) w) l sc.2 g
      (stands_mirror D ρ s τ w st x y sc.1) own rows
