-- Appending to a text, byte by byte and part by part, where the text and its place are one value.
use Rattle.std.specs.Prelude.{◌≡◌, refl, List, [], ◌∷◌, ◌++◌, ℕ, ◌+◌, ◌<◌, length, get_or, take}
use Rattle.std.proofs.Common.{◌∙◌}
use Rattle.append.specs.Puts.{Puts}
use Rattle.append.specs.Laws.Appending as appending
use Rattle.append.specs.declared.text.Text.{Text}

pub nothing : (t : Text) → Puts [] t t
nothing t = record { same = refl; appends = appending.nothing t.at t.bytes.now }

-- one text after another
pub then : {v w : List ℕ} {a b c : Text} → Puts v a b → Puts w b c → Puts (v ++ w) a c
then f g = record { same = g.same ∙ f.same; appends = appending.then f.appends g.appends }

-- an equal text
pub equal_text : {v w : List ℕ} {a b : Text} → w ≡ v → Puts v a b → Puts w a b
equal_text e f = record { same = f.same; appends = appending.equal_text e f.appends }

-- the first i bytes of w, and one more
pub one_more : (i : ℕ) (w : List ℕ) {a b c : Text} → i < length w → Puts (take i w) a b
    → Puts (get_or w i 0 ∷ []) b c → Puts (take (i + 1) w) a c
one_more i w h f g = record { same = g.same ∙ f.same; appends = appending.one_more i w h f.appends g.appends }
