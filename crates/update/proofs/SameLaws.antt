-- What `==` of two runs of bytes tells.
use Rattle.std.specs.Prelude.{◌≡◌, Bool, true, false, List, ℕ, nat_eq}
use Rattle.std.specs.Cmp.Lexicographic.{pointwise, same_text, other_text}
use Rattle.update.specs.Parts.{Answers}

pub answers_same : (a b : List ℕ) (c : Bool) → c ≡ pointwise nat_eq a b → Answers c (a ≡ b)
answers_same a b true e = same_text a b e
answers_same a b false e = other_text a b e
