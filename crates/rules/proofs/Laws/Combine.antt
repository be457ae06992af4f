-- How labels combine, where the definition does not say it at once.
use Rattle.std.specs.Prelude.{◌≡◌, refl, ◌≢◌, ℕ}
use Rattle.std.proofs.Math.Decide.{ℕ_discrete}
use Rattle.rules.specs.Label.{Label, own, forked, unknown, several, combine}

-- each label with several gives several
pub with_several : (l : Label) → combine l several ≡ several
with_several own = refl
with_several (forked i) = refl
with_several unknown = refl
with_several several = refl

-- so does a fork with another fork
pub other_fork : (i j : ℕ) → i ≢ j → combine (forked i) (forked j) ≡ several
other_fork i j ne =
    elim (ℕ_discrete i j) as (λ d. elim d [ yes p ↦ forked i | no n ↦ several ] ≡ several) [
      | yes p ↦ absurd (ne p)
      | no n ↦ refl
    ]

-- and with itself it gives itself
pub same_fork : (i : ℕ) → combine (forked i) (forked i) ≡ forked i
same_fork i =
    elim (ℕ_discrete i i) as (λ d. elim d [ yes p ↦ forked i | no n ↦ several ] ≡ forked i) [
      | yes p ↦ refl
      | no n ↦ absurd (n refl)
    ]
