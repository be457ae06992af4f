-- The names of a call as a part of the section.
use Rattle.std.proofs.Common.{◌≡◌, refl, sym, ap, ◌∙◌, Bool, true, false, ◌&&◌, ◌⊎◌, inl, inr, List, [], ◌∷◌, ℕ, zero, suc}
use Rattle.std.proofs.Common.{◌+◌, ◌≤◌, ◌<◌, length, take, drop, Bor, arith}
use Rattle.std.specs.Prelude.{Option, Some, None, MatchOption}
use Rattle.std.specs.Option.{unwrap_or}
use Rattle.std.specs.List.{list_all, slice_range}
use Rattle.std.proofs.Math.ListN.{drop_of_length-le}
use Rattle.std.proofs.lemmas.List.{take_rest}
use Rattle.table.specs.Check.{in?, named}

-- enough bytes: each of the first q is a name in scope
pub named_all : (q : ℕ) (sc l : List ℕ) → q ≤ length l → named q sc l ≡ list_all (λ x. in? x sc) (take q l)
named_all zero sc l h = refl
named_all (suc q) sc [] h = absurd (omega arith)
named_all (suc q) sc (x ∷ l) h = ap (λ (b : Bool). in? x sc && b) (named_all q sc l (omega arith))

-- too few bytes
pub named_short : (q : ℕ) (sc l : List ℕ) → length l < q → named q sc l ≡ false
named_short zero sc l h = absurd (omega arith)
named_short (suc q) sc [] h = refl
named_short (suc q) sc (x ∷ l) h = rw (named_short q sc l (omega arith)) (go (in? x sc))
  where
    go : (b : Bool) → (b && false) ≡ false
    go true = refl
    go false = refl

-- what is left from an offset on, and nothing where it is past the end
pub rest_is : (s : List ℕ) (at : ℕ) (o : Option (Bor (List ℕ))) (r : Bor (List ℕ)) → r.now ≡ []
    → MatchOption o ((length s < at) ⊎ (length s < length s))
    (λ x. (at ≤ length s) × (length s ≤ length s) × (x.now ≡ slice_range s at (length s))
    × (length x.now + at ≡ length s))
    → (unwrap_or o r).now ≡ drop at s
rest_is s at None r e (inl l) = e ∙ sym (drop_of_length-le s (omega arith))
rest_is s at None r e (inr l) = absurd (omega arith)
rest_is s at (Some x) r e h = h.2 ∙ take_rest s at
