-- Tests that are computed, each with the fact that it decides.
use Rattle.std.specs.Prelude.{◌≡◌, ◌⊎◌, Bool, true, false, not, ◌&&◌, ◌||◌, ℕ, ◌≤◌, T, eqb, leb}
use Rattle.std.proofs.Common.{inl, inr, eqb→eq, leb→le, le→leb, T_not}
use Rattle.std.proofs.Math.Dec.{eqb_refl, not_T}

-- the test passes where the fact holds, and nowhere else
pub record Decides (b : Bool) (Q : Type 0) : Type 0 where
  pub fact : T b → Q
  pub test : Q → T b

pub both : {a b : Bool} {Q R : Type 0} → Decides a Q → Decides b R → Decides (a && b) (Q × R)
both {a} {b} {Q} {R} p q = record { fact = to a p.fact; test = from a p.test }
  where
    to : (c : Bool) → (T c → Q) → T (c && b) → Q × R
    to true f t = (f tt, q.fact t)
    to false f t = absurd t

    from : (c : Bool) → (Q → T c) → Q × R → T (c && b)
    from true f w = q.test w.1
    from false f w = f w.0

pub either : {a b : Bool} {Q R : Type 0} → Decides a Q → Decides b R → Decides (a || b) (Q ⊎ R)
either {a} {b} {Q} {R} p q = record { fact = to a p.fact; test = from a p.test }
  where
    to : (c : Bool) → (T c → Q) → T (c || b) → Q ⊎ R
    to true f t = inl (f tt)
    to false f t = inr (q.fact t)

    from : (c : Bool) → (Q → T c) → Q ⊎ R → T (c || b)
    from true f w = tt
    from false f (inl x) = absurd (f x)
    from false f (inr y) = q.test y

pub negated : {a : Bool} {Q : Type 0} → Decides a Q → Decides (not a) (Q → ⊥)
negated {a} p = record { fact = λ t x. T_not a t (p.test x); test = λ f. not_T a (λ t. f (p.fact t)) }

pub implied : {a b : Bool} {Q R : Type 0} → Decides a Q → Decides b R → Decides (not a || b) (Q → R)
implied {a} {b} {Q} {R} p q = record { fact = to a p.test; test = from a p.fact }
  where
    to : (c : Bool) → (Q → T c) → T (not c || b) → Q → R
    to true f t x = q.fact t
    to false f t x = absurd (f x)

    from : (c : Bool) → (T c → Q) → (Q → R) → T (not c || b)
    from true f g = q.test (g (f tt))
    from false f g = tt

pub equal : (a b : ℕ) → Decides (eqb a b) (a ≡ b)
equal a b = record { fact = eqb→eq a b; test = λ e. rw e (eqb_refl b) }

pub at_most : (a b : ℕ) → Decides (leb a b) (a ≤ b)
at_most a b = record { fact = leb→le a b; test = le→leb a b }

pub itself : (b : Bool) → Decides b (T b)
itself b = record { fact = λ t. t; test = λ t. t }

pub halves : (a b : Bool) → T (a && b) → T a × T b
halves a b t = (both (itself a) (itself b)).fact t

-- the fact by its test
pub decided : {b : Bool} {Q : Type 0} → Decides b Q → Dec Q
decided {b} {Q} d = go b d.fact d.test
  where
    go : (c : Bool) → (T c → Q) → (Q → T c) → Dec Q
    go true f g = yes (f tt)
    go false f g = no (λ q. g q)
