-- Functions on numbers, changed at one place.
use Rattle.std.specs.Prelude.{◌≡◌, refl, ◌≢◌, ℕ}
use Rattle.std.proofs.Common.{sym, subst}
use Rattle.std.proofs.Math.Decide.{ℕ_discrete}

-- f, but x at t
abbrev pub upd : {B : Type 0} → (ℕ → B) → ℕ → B → ℕ → B
upd f t x u = elim (ℕ_discrete u t) [ yes p ↦ x | no n ↦ f u ]

-- a property of two functions, both changed at t: it holds at t, and elsewhere as before
pub upd_both :
    {B C : Type 0} (f : ℕ → B) (g : ℕ → C) (t : ℕ) (x : B) (y : C) (Q : ℕ → B → C → Type 0)
    → Q t x y → ((u : ℕ) → u ≢ t → Q u (f u) (g u)) → (u : ℕ) → Q u (upd f t x u) (upd g t y u)
upd_both f g t x y Q q o u =
    elim (ℕ_discrete u t)
    as (λ d. Q u (elim d [ yes p ↦ x | no n ↦ f u ]) (elim d [ yes p ↦ y | no n ↦ g u ]))
    [ yes p ↦ subst (λ (w : ℕ). Q w x y) (sym p) q | no n ↦ o u n ]

module _ {B : Type 0} (f : ℕ → B) (t : ℕ) (x : B) where
  pub upd_same : (u : ℕ) → u ≡ t → upd f t x u ≡ x
  upd_same u p =
      elim (ℕ_discrete u t) as (λ d. elim d [ yes q ↦ x | no n ↦ f u ] ≡ x) [ yes q ↦ refl | no n ↦ absurd (n p) ]

  pub upd_other : (u : ℕ) → u ≢ t → upd f t x u ≡ f u
  upd_other u m =
      elim (ℕ_discrete u t) as (λ d. elim d [ yes q ↦ x | no n ↦ f u ] ≡ f u) [ yes q ↦ absurd (m q) | no n ↦ refl ]
