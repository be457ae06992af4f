-- Codes with their mirrors left out and their calls renumbered: what stays as it was, and what a second time does.
use Rattle.std.specs.Prelude.{◌≡◌, refl, List, [], ◌∷◌, ◌++◌, map, ℕ, ◌+◌, ◌≤◌}
use Rattle.std.proofs.Common.{sym, ap, ◌∙◌, inl, inr, arith}
use Rattle.std.proofs.lemmas.List.{map-append}
use Rattle.table.specs.Program.{Code, end, new, lock, fork, choice, call, mirror, Program, locals, forks}
use Rattle.table.specs.WellFormed.{In, Scoped}
use Rattle.table.specs.Encoding.{depth}
use Rattle.rules.specs.Model.{bind}
use Rattle.rules.specs.Verdict.{Calls}
use Rattle.rules.proofs.Laws.Nest.{by_bind}
use Rattle.canon.specs.Canonical.{called, news, plain, recalled}

-- the routines called, in written order, and the numbers of NEW and FORK and of open blocks stay; of the locals those
-- of NEW stay
pub called_plain : (σ : ℕ → ℕ) (n : ℕ) (c : Code) → called (plain σ n c) ≡ called c
called_plain σ n end = refl
called_plain σ n (new x c) = called_plain (bind x n σ) (n + 1) c
called_plain σ n (lock x c d) = rw (called_plain σ n c, called_plain σ (n + news c) d) refl
called_plain σ n (fork i c d) = rw (called_plain σ n c, called_plain σ (n + news c) d) refl
called_plain σ n (choice a b c) =
    rw (called_plain σ n a, called_plain σ (n + news a) b, called_plain σ (n + news a + news b) c) refl
called_plain σ n (call r xs c) = ap (λ (u : List ℕ). r ∷ u) (called_plain σ n c)
called_plain σ n (mirror x y c) = called_plain (bind x (σ y) σ) n c

news_plain : (σ : ℕ → ℕ) (n : ℕ) (c : Code) → news (plain σ n c) ≡ news c
news_plain σ n end = refl
news_plain σ n (new x c) = ap (λ m. 1 + m) (news_plain (bind x n σ) (n + 1) c)
news_plain σ n (lock x c d) = rw (news_plain σ n c, news_plain σ (n + news c) d) refl
news_plain σ n (fork i c d) = rw (news_plain σ n c, news_plain σ (n + news c) d) refl
news_plain σ n (choice a b c) =
    rw (news_plain σ n a, news_plain σ (n + news a) b, news_plain σ (n + news a + news b) c) refl
news_plain σ n (call r xs c) = news_plain σ n c
news_plain σ n (mirror x y c) = news_plain (bind x (σ y) σ) n c

pub locals_plain : (σ : ℕ → ℕ) (n : ℕ) (c : Code) → locals (plain σ n c) ≡ news c
locals_plain σ n end = refl
locals_plain σ n (new x c) = ap (λ m. 1 + m) (locals_plain (bind x n σ) (n + 1) c)
locals_plain σ n (lock x c d) = rw (locals_plain σ n c, locals_plain σ (n + news c) d) refl
locals_plain σ n (fork i c d) = rw (locals_plain σ n c, locals_plain σ (n + news c) d) refl
locals_plain σ n (choice a b c) =
    rw (locals_plain σ n a, locals_plain σ (n + news a) b, locals_plain σ (n + news a + news b) c) refl
locals_plain σ n (call r xs c) = locals_plain σ n c
locals_plain σ n (mirror x y c) = locals_plain (bind x (σ y) σ) n c

pub forks_plain : (σ : ℕ → ℕ) (n : ℕ) (c : Code) → forks (plain σ n c) ≡ forks c
forks_plain σ n end = refl
forks_plain σ n (new x c) = forks_plain (bind x n σ) (n + 1) c
forks_plain σ n (lock x c d) = rw (forks_plain σ n c, forks_plain σ (n + news c) d) refl
forks_plain σ n (fork i c d) = rw (forks_plain σ n c, forks_plain σ (n + news c) d) refl
forks_plain σ n (choice a b c) =
    rw (forks_plain σ n a, forks_plain σ (n + news a) b, forks_plain σ (n + news a + news b) c) refl
forks_plain σ n (call r xs c) = forks_plain σ n c
forks_plain σ n (mirror x y c) = forks_plain (bind x (σ y) σ) n c

pub depth_plain : (σ : ℕ → ℕ) (n : ℕ) (c : Code) → depth (plain σ n c) ≡ depth c
depth_plain σ n end = refl
depth_plain σ n (new x c) = depth_plain (bind x n σ) (n + 1) c
depth_plain σ n (lock x c d) = rw (depth_plain σ n c, depth_plain σ (n + news c) d) refl
depth_plain σ n (fork i c d) = rw (depth_plain σ n c, depth_plain σ (n + news c) d) refl
depth_plain σ n (choice a b c) =
    rw (depth_plain σ n a, depth_plain σ (n + news a) b, depth_plain σ (n + news a + news b) c) refl
depth_plain σ n (call r xs c) = depth_plain σ n c
depth_plain σ n (mirror x y c) = depth_plain (bind x (σ y) σ) n c

pub news_locals : (c : Code) → news c ≤ locals c
news_locals end = omega arith
news_locals (new x c) = let h = news_locals c in omega arith
news_locals (lock x c d) = let h = news_locals c in let g = news_locals d in omega arith
news_locals (fork i c d) = let h = news_locals c in let g = news_locals d in omega arith
news_locals (choice a b c) =
    let h = news_locals a in let g = news_locals b in let k = news_locals c in omega arith
news_locals (call r xs c) = news_locals c
news_locals (mirror x y c) = let h = news_locals c in omega arith

-- renumbering the calls keeps all of these, but for the numbers of the routines called
module _ (f : ℕ → ℕ) where
  pub called_recalled : (c : Code) → called (recalled f c) ≡ map f (called c)
  called_recalled end = refl
  called_recalled (new x c) = called_recalled c
  called_recalled (lock x c d) = rw (called_recalled c, called_recalled d) (sym (map-append f (called c) (called d)))
  called_recalled (fork i c d) = rw (called_recalled c, called_recalled d) (sym (map-append f (called c) (called d)))
  called_recalled (choice a b c) = rw (called_recalled a, called_recalled b, called_recalled c)
      (sym (map-append f (called a) (called b ++ called c)
      ∙ ap (λ (u : List ℕ). map f (called a) ++ u) (map-append f (called b) (called c))))
  called_recalled (call r xs c) = ap (λ (u : List ℕ). f r ∷ u) (called_recalled c)
  called_recalled (mirror x y c) = called_recalled c

  news_recalled : (c : Code) → news (recalled f c) ≡ news c
  news_recalled end = refl
  news_recalled (new x c) = ap (λ m. 1 + m) (news_recalled c)
  news_recalled (lock x c d) = rw (news_recalled c, news_recalled d) refl
  news_recalled (fork i c d) = rw (news_recalled c, news_recalled d) refl
  news_recalled (choice a b c) = rw (news_recalled a, news_recalled b, news_recalled c) refl
  news_recalled (call r xs c) = news_recalled c
  news_recalled (mirror x y c) = news_recalled c

  pub locals_recalled : (c : Code) → locals (recalled f c) ≡ locals c
  locals_recalled end = refl
  locals_recalled (new x c) = ap (λ m. 1 + m) (locals_recalled c)
  locals_recalled (lock x c d) = rw (locals_recalled c, locals_recalled d) refl
  locals_recalled (fork i c d) = rw (locals_recalled c, locals_recalled d) refl
  locals_recalled (choice a b c) = rw (locals_recalled a, locals_recalled b, locals_recalled c) refl
  locals_recalled (call r xs c) = locals_recalled c
  locals_recalled (mirror x y c) = ap (λ m. 1 + m) (locals_recalled c)

  pub forks_recalled : (c : Code) → forks (recalled f c) ≡ forks c
  forks_recalled end = refl
  forks_recalled (new x c) = forks_recalled c
  forks_recalled (lock x c d) = rw (forks_recalled c, forks_recalled d) refl
  forks_recalled (fork i c d) = rw (forks_recalled c, forks_recalled d) refl
  forks_recalled (choice a b c) = rw (forks_recalled a, forks_recalled b, forks_recalled c) refl
  forks_recalled (call r xs c) = forks_recalled c
  forks_recalled (mirror x y c) = forks_recalled c

  pub depth_recalled : (c : Code) → depth (recalled f c) ≡ depth c
  depth_recalled end = refl
  depth_recalled (new x c) = depth_recalled c
  depth_recalled (lock x c d) = rw (depth_recalled c, depth_recalled d) refl
  depth_recalled (fork i c d) = rw (depth_recalled c, depth_recalled d) refl
  depth_recalled (choice a b c) = rw (depth_recalled a, depth_recalled b, depth_recalled c) refl
  depth_recalled (call r xs c) = depth_recalled c
  depth_recalled (mirror x y c) = depth_recalled c

  -- leaving mirrors out and renumbering calls is the same in either order
  pub plain_recalled : (σ : ℕ → ℕ) (n : ℕ) (c : Code) → plain σ n (recalled f c) ≡ recalled f (plain σ n c)
  plain_recalled σ n end = refl
  plain_recalled σ n (new x c) = ap (new n) (plain_recalled (bind x n σ) (n + 1) c)
  plain_recalled σ n (lock x c d) =
      rw (news_recalled c, plain_recalled σ n c, plain_recalled σ (n + news c) d) refl
  plain_recalled σ n (fork i c d) =
      rw (news_recalled c, plain_recalled σ n c, plain_recalled σ (n + news c) d) refl
  plain_recalled σ n (choice a b c) =
      rw (
        news_recalled a,
        news_recalled b,
        plain_recalled σ n a,
        plain_recalled σ (n + news a) b,
        plain_recalled σ (n + news a + news b) c,
      )
      refl
  plain_recalled σ n (call r xs c) = ap (call (f r) (map σ xs)) (plain_recalled σ n c)
  plain_recalled σ n (mirror x y c) = plain_recalled (bind x (σ y) σ) n c

-- renumbering calls twice is renumbering them once
pub recalled_twice : (g f : ℕ → ℕ) (c : Code) → recalled g (recalled f c) ≡ recalled (λ r. g (f r)) c
recalled_twice g f end = refl
recalled_twice g f (new x c) = ap (new x) (recalled_twice g f c)
recalled_twice g f (lock x c d) = rw (recalled_twice g f c, recalled_twice g f d) refl
recalled_twice g f (fork i c d) = rw (recalled_twice g f c, recalled_twice g f d) refl
recalled_twice g f (choice a b c) = rw (recalled_twice g f a, recalled_twice g f b, recalled_twice g f c) refl
recalled_twice g f (call r xs c) = ap (call (g (f r)) xs) (recalled_twice g f c)
recalled_twice g f (mirror x y c) = ap (mirror x y) (recalled_twice g f c)

-- renumbering no call changes nothing
pub recalled_itself : (c : Code) → recalled (λ r. r) c ≡ c
recalled_itself end = refl
recalled_itself (new x c) = ap (new x) (recalled_itself c)
recalled_itself (lock x c d) = rw (recalled_itself c, recalled_itself d) refl
recalled_itself (fork i c d) = rw (recalled_itself c, recalled_itself d) refl
recalled_itself (choice a b c) = rw (recalled_itself a, recalled_itself b, recalled_itself c) refl
recalled_itself (call r xs c) = ap (call r xs) (recalled_itself c)
recalled_itself (mirror x y c) = ap (mirror x y) (recalled_itself c)

-- only the numbers of the routines called matter
pub recalled_agree :
    (f g : ℕ → ℕ) (c : Code) → ((r : ℕ) → Calls c r → f r ≡ g r) → recalled f c ≡ recalled g c
recalled_agree f g end e = refl
recalled_agree f g (new x c) e = ap (new x) (recalled_agree f g c e)
recalled_agree f g (lock x c d) e =
    rw (recalled_agree f g c (λ r h. e r (inl h)), recalled_agree f g d (λ r h. e r (inr h))) refl
recalled_agree f g (fork i c d) e =
    rw (recalled_agree f g c (λ r h. e r (inl h)), recalled_agree f g d (λ r h. e r (inr h))) refl
recalled_agree f g (choice a b c) e =
    rw (
      recalled_agree f g a (λ r h. e r (inl h)),
      recalled_agree f g b (λ r h. e r (inr (inl h))),
      recalled_agree f g c (λ r h. e r (inr (inr h))),
    )
    refl
recalled_agree f g (call r xs c) e = rw (e r (inl refl), recalled_agree f g c (λ q h. e q (inr h))) refl
recalled_agree f g (mirror x y c) e = ap (mirror x y) (recalled_agree f g c e)

-- τ leaves the new name of each name in the scope s as it is, where σ has the new names
abbrev Still : List ℕ → (ℕ → ℕ) → (ℕ → ℕ) → Type 0
Still s σ τ = (z : ℕ) → In z s → τ (σ z) ≡ σ z

still_new : (s : List ℕ) (σ τ : ℕ → ℕ) (x n : ℕ) → Still s σ τ → Still (x ∷ s) (bind x n σ) (bind n n τ)
still_new s σ τ x n h z i =
    by_bind (λ v u. bind n n τ v ≡ v) x n n σ σ z
    (λ e. by_bind (λ v u. v ≡ n) n n n τ τ n (λ p. refl) (λ ne. absurd (ne refl)))
    (λ ne. by_bind (λ v u. v ≡ σ z) n n n τ τ (σ z) sym (λ m. h z (elim i [ inl e ↦ absurd (ne e) | inr j ↦ j ])))

still_mirror :
    (s : List ℕ) (σ τ : ℕ → ℕ) (x y : ℕ) → In y s → Still s σ τ → Still (x ∷ s) (bind x (σ y) σ) τ
still_mirror s σ τ x y j h z i = by_bind (λ v u. τ v ≡ v) x (σ y) (σ y) σ σ z (λ e. h y j)
    (λ ne. h z (elim i [ inl e ↦ absurd (ne e) | inr k ↦ k ]))

still_names : (s xs : List ℕ) (σ τ : ℕ → ℕ) → Still s σ τ → ((x : ℕ) → In x xs → In x s)
    → map τ (map σ xs) ≡ map σ xs
still_names s [] σ τ h all = refl
still_names s (x ∷ xs) σ τ h all = rw (h x (all x (inl refl)), still_names s xs σ τ h (λ y i. all y (inr i))) refl

-- leaving mirrors out and renumbering locals a second time changes nothing
pub plain_again :
    (P : Program) (k n : ℕ) (s : List ℕ) (σ τ : ℕ → ℕ) (c : Code) → Scoped P k s c → Still s σ τ
    → plain τ n (plain σ n c) ≡ plain σ n c
plain_again P k n s σ τ end w h = refl
plain_again P k n s σ τ (new x c) w h =
    ap (new n) (plain_again P k (n + 1) (x ∷ s) (bind x n σ) (bind n n τ) c w.1 (still_new s σ τ x n h))
plain_again P k n s σ τ (lock x c d) w h =
    rw (
      news_plain σ n c,
      h x w.0,
      plain_again P k n s σ τ c w.1 h,
      plain_again P k (n + news c) s σ τ d w.2 h,
    )
    refl
plain_again P k n s σ τ (fork i c d) w h =
    rw (news_plain σ n c, plain_again P k n s σ τ c w.0 h, plain_again P k (n + news c) s σ τ d w.1 h) refl
plain_again P k n s σ τ (choice a b c) w h =
    rw (
      news_plain σ n a,
      news_plain σ (n + news a) b,
      plain_again P k n s σ τ a w.0 h,
      plain_again P k (n + news a) s σ τ b w.1 h,
      plain_again P k (n + news a + news b) s σ τ c w.2 h,
    )
    refl
plain_again P k n s σ τ (call r xs c) w h =
    rw (still_names s xs σ τ h w.2, plain_again P k n s σ τ c w.3 h) refl
plain_again P k n s σ τ (mirror x y c) w h =
    plain_again P k n (x ∷ s) (bind x (σ y) σ) τ c w.2 (still_mirror s σ τ x y w.1 h)
