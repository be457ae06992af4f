-- A MIRROR left out: where the name that it mirrors stands in place of its own, the resolved code is the same
-- (`mirror-left-out`). So a program and the one with every MIRROR left out are alike (`mirrors-left-out`).
use Rattle.std.specs.Prelude.{◌≡◌, refl, Bool, true, false, List, [], ◌∷◌, map, ℕ, ◌+◌, get_or}
use Rattle.std.proofs.Common.{sym, ap, ◌∙◌, inl, inr}
use Rattle.std.proofs.Math.ListN.{get_or-map}
use Rattle.table.specs.Program.{Code, end, new, lock, fork, choice, call, mirror, Routine, Program, empty}
use Rattle.table.specs.Program.{params, body, names}
use Rattle.table.specs.WellFormed.{In, Scoped, Fresh, WellFormed}
use Rattle.rules.specs.Model.{bind}
use Rattle.rules.specs.Verdict.{Reached}
use Rattle.rules.proofs.Laws.Nest.{by_bind}
use Rattle.rules.proofs.Laws.Verdict.{reached_within}
use Rattle.rules.proofs.Laws.Before104.{resolved as rooted, resolved_routine as rooted_routine}
use Rattle.rules.proofs.Laws.Before104.{resolved_program as rooted_program}
use Rattle.canon.specs.Canonical.{news, plain, resolved, Alike}
use Rattle.canon.proofs.Laws.Differ.{differ_in_mirrors}

-- the code with ν z for each name z of the scope that it uses; its NEW stay, and so do its MIRROR where the first
-- argument is true, else they are left out
abbrev replaced : Bool → (ℕ → ℕ) → Code → Code
replaced m ν end = end
replaced m ν (new x c) = new x (replaced m (bind x x ν) c)
replaced m ν (lock x c d) = lock (ν x) (replaced m ν c) (replaced m ν d)
replaced m ν (fork i c d) = fork i (replaced m ν c) (replaced m ν d)
replaced m ν (choice a b c) = choice (replaced m ν a) (replaced m ν b) (replaced m ν c)
replaced m ν (call r xs c) = call r (map ν xs) (replaced m ν c)
replaced true ν (mirror x y c) = mirror x (ν y) (replaced true (bind x x ν) c)
replaced false ν (mirror x y c) = replaced false (bind x (ν y) ν) c

-- the code with the name y in place of x
abbrev pub in_place : ℕ → ℕ → Code → Code
in_place y x c = replaced true (bind x y (λ z. z)) c

news_replaced : (m : Bool) (ν : ℕ → ℕ) (c : Code) → news (replaced m ν c) ≡ news c
news_replaced m ν end = refl
news_replaced m ν (new x c) = ap (λ n. 1 + n) (news_replaced m (bind x x ν) c)
news_replaced m ν (lock x c d) = rw (news_replaced m ν c, news_replaced m ν d) refl
news_replaced m ν (fork i c d) = rw (news_replaced m ν c, news_replaced m ν d) refl
news_replaced m ν (choice a b c) = rw (news_replaced m ν a, news_replaced m ν b, news_replaced m ν c) refl
news_replaced m ν (call r xs c) = news_replaced m ν c
news_replaced true ν (mirror x y c) = news_replaced true (bind x x ν) c
news_replaced false ν (mirror x y c) = news_replaced false (bind x (ν y) ν) c

-- for each name in the scope s, ν has one in the scope with the same new name, where σ has the new names, and τ has
-- them for the replaced code
abbrev Agrees : List ℕ → (ℕ → ℕ) → (ℕ → ℕ) → (ℕ → ℕ) → Type 0
Agrees s ν σ τ = (z : ℕ) → In z s → In (ν z) s × (τ (ν z) ≡ σ z)

agrees_names : (s xs : List ℕ) (ν σ τ : ℕ → ℕ) → Agrees s ν σ τ → ((x : ℕ) → In x xs → In x s)
    → map τ (map ν xs) ≡ map σ xs
agrees_names s [] ν σ τ h all = refl
agrees_names s (x ∷ xs) ν σ τ h all =
    rw ((h x (all x (inl refl))).1, agrees_names s xs ν σ τ h (λ y i. all y (inr i))) refl

-- after a local x that stays, with one new name in both
agrees_kept : (s : List ℕ) (ν σ τ : ℕ → ℕ) (x u v : ℕ) → ¬ In x s → u ≡ v → Agrees s ν σ τ
    → Agrees (x ∷ s) (bind x x ν) (bind x v σ) (bind x u τ)
agrees_kept s ν σ τ x u v out e h z i =
    by_bind (λ y t. In y (x ∷ s) × (bind x u τ y ≡ t)) x x v ν σ z
    (λ p. (inl refl, by_bind (λ y t. y ≡ v) x u u τ τ x (λ q. e) (λ m. absurd (m refl))))
    (λ m. let g = h z (elim i [ inl p ↦ absurd (m p) | inr j ↦ j ]) in
    (inr g.0, by_bind (λ y t. y ≡ σ z) x u u τ τ (ν z) (λ q. absurd (out (rw q at g.0))) (λ q. g.1)))

-- after a MIRROR of y that is left out
agrees_left_out : (s : List ℕ) (ν σ τ : ℕ → ℕ) (x y : ℕ) → In y s → Agrees s ν σ τ
    → Agrees (x ∷ s) (bind x (ν y) ν) (bind x (σ y) σ) τ
agrees_left_out s ν σ τ x y k h z i =
    by_bind (λ u v. In u (x ∷ s) × (τ u ≡ v)) x (ν y) (σ y) ν σ z (λ e. (inr (h y k).0, (h y k).1))
    (λ m. let g = h z (elim i [ inl p ↦ absurd (m p) | inr j ↦ j ]) in (inr g.0, g.1))

plain_replaced :
    (P : Program) (k n : ℕ) (s : List ℕ) (m : Bool) (ν σ τ : ℕ → ℕ) (c : Code)
    → Scoped P k s c → Fresh s c → Agrees s ν σ τ
    → plain τ n (replaced m ν c) ≡ plain σ n c
plain_replaced P k n s m ν σ τ end w f h = refl
plain_replaced P k n s m ν σ τ (new x c) w f h =
    ap (new n) (plain_replaced P k (n + 1) (x ∷ s) m (bind x x ν) (bind x n σ) (bind x n τ) c w.1 f.1
    (agrees_kept s ν σ τ x n n f.0 refl h))
plain_replaced P k n s m ν σ τ (lock x c d) w f h =
    rw (
      news_replaced m ν c,
      (h x w.0).1,
      plain_replaced P k n s m ν σ τ c w.1 f.0 h,
      plain_replaced P k (n + news c) s m ν σ τ d w.2 f.1 h,
    )
    refl
plain_replaced P k n s m ν σ τ (fork i c d) w f h =
    rw (
      news_replaced m ν c,
      plain_replaced P k n s m ν σ τ c w.0 f.0 h,
      plain_replaced P k (n + news c) s m ν σ τ d w.1 f.1 h,
    )
    refl
plain_replaced P k n s m ν σ τ (choice a b c) w f h =
    rw (
      news_replaced m ν a,
      news_replaced m ν b,
      plain_replaced P k n s m ν σ τ a w.0 f.0 h,
      plain_replaced P k (n + news a) s m ν σ τ b w.1 f.1 h,
      plain_replaced P k (n + news a + news b) s m ν σ τ c w.2 f.2 h,
    )
    refl
plain_replaced P k n s m ν σ τ (call r xs c) w f h =
    rw (agrees_names s xs ν σ τ h w.2, plain_replaced P k n s m ν σ τ c w.3 f h) refl
plain_replaced P k n s true ν σ τ (mirror x y c) w f h =
    plain_replaced P k n (x ∷ s) true (bind x x ν) (bind x (σ y) σ) (bind x (τ (ν y)) τ) c w.2 f.1
    (agrees_kept s ν σ τ x (τ (ν y)) (σ y) f.0 (h y w.1).1 h)
plain_replaced P k n s false ν σ τ (mirror x y c) w f h =
    plain_replaced P k n (x ∷ s) false (bind x (ν y) ν) (bind x (σ y) σ) τ c w.2 f.1
    (agrees_left_out s ν σ τ x y w.1 h)

-- one MIRROR is left out, wherever it stands: it gives x for y, and y stands in place of x in what follows
pub mirror_left_out :
    (P : Program) (k n x y : ℕ) (s : List ℕ) (σ : ℕ → ℕ) (c : Code) → Scoped P k s (mirror x y c)
    → Fresh s (mirror x y c) → plain σ n (mirror x y c) ≡ plain σ n (in_place y x c)
mirror_left_out P k n x y s σ c w f =
    sym (plain_replaced P k n (x ∷ s) true (bind x y (λ z. z)) (bind x (σ y) σ) σ c w.2 f.1
    (agrees_left_out s (λ z. z) σ σ x y w.1 (λ z i. (i, refl))))

-- the code with the root of each name in its place, and without MIRROR (rules, Before104.antt)
is_rooted : (ρ : ℕ → ℕ) (c : Code) → rooted ρ c ≡ replaced false ρ c
is_rooted ρ end = refl
is_rooted ρ (new x c) = ap (new x) (is_rooted (bind x x ρ) c)
is_rooted ρ (lock x c d) = rw (is_rooted ρ c, is_rooted ρ d) refl
is_rooted ρ (fork i c d) = rw (is_rooted ρ c, is_rooted ρ d) refl
is_rooted ρ (choice a b c) = rw (is_rooted ρ a, is_rooted ρ b, is_rooted ρ c) refl
is_rooted ρ (call r xs c) = ap (call r (map ρ xs)) (is_rooted ρ c)
is_rooted ρ (mirror x y c) = is_rooted (bind x (ρ y) ρ) c

-- a program and the one with every MIRROR left out, and the root of each name in its place, are alike
pub mirrors_left_out : (P : Program) → WellFormed P → Alike P (rooted_program P)
mirrors_left_out P ok = differ_in_mirrors P (rooted_program P) one
  where
    there : (r : ℕ) → get_or (rooted_program P) r empty ≡ rooted_routine (get_or P r empty)
    there r = get_or-map rooted_routine P r empty

    one : (r : ℕ) → Reached P r
        → (params P r ≡ params (rooted_program P) r)
        × (resolved (get_or P r empty) ≡ resolved (get_or (rooted_program P) r empty))
    one r w =
        let l = reached_within P ok r w in
        let k = params P r in
        let same = plain_replaced P k (k + 1) (names k) false (λ x. x) (λ x. x) (λ x. x) (body P r) (ok.scoped r l)
        (ok.fresh r l) (λ z i. (i, refl)) in (
          ap (λ (q : Routine). q.count) (sym (there r)),
          sym (ap resolved (there r) ∙ ap (plain (λ x. x) (k + 1)) (is_rooted (λ x. x) (body P r)) ∙ same),
        )
