-- Texts written one after the other, and a text written from the beginning of its buffer on.
use Rattle.std.specs.Prelude.{◌≡◌, refl, List, [], ◌∷◌, ◌++◌, ℕ, suc, ◌+◌, length, set}
use Rattle.std.proofs.Common.{sym, ap, ◌∙◌, add-one}
use Rattle.std.proofs.lemmas.List.Edits.{sets}
use Rattle.std.proofs.Math.Seq.{drop-nil}
use Rattle.append.specs.Appends.{Appends}
use Rattle.append.specs.Puts.{Puts}
use Rattle.append.specs.Laws.Appending.{nothing, then, equal_text}
use Rattle.append.specs.declared.text.Text.{Text}
use Rattle.listing.specs.Text.{over, each}

sets_nil : (w : List ℕ) (at : ℕ) → sets [] at w ≡ []
sets_nil [] at = refl
sets_nil (x ∷ w) at = sets_nil w (suc at)

sets_cons : (w : List ℕ) (c : ℕ) (l : List ℕ) (at : ℕ) → sets (c ∷ l) (suc at) w ≡ c ∷ sets l at w
sets_cons [] c l at = refl
sets_cons (x ∷ w) c l at = sets_cons w c (set l at x) (suc at)

-- written from the beginning on
pub sets_over : (w l : List ℕ) → sets l 0 w ≡ over w l
sets_over w [] = sets_nil w 0 ∙ sym (drop-nil (length w))
sets_over [] (c ∷ l) = refl
sets_over (x ∷ w) (c ∷ l) = sets_cons w x l 0 ∙ ap (λ (m : List ℕ). x ∷ m) (sets_over w l)

-- the first i of some texts, and one more
pub each_more : (i : ℕ) (f : ℕ → List ℕ) {at p q : ℕ} {l m x : List ℕ} → Appends at (each i f) l m p
    → Appends p (f i) m x q → Appends at (each (i + 1) f) l x q
unfolding each
each_more i f g h =
    let e : each (i + 1) f ≡ each i f ++ f i = ap (λ k. each k f) (add-one i) in
    equal_text e (then g h)

-- no texts
pub each_none : (f : ℕ → List ℕ) (at : ℕ) (l : List ℕ) → Appends at (each 0 f) l l at
unfolding each
each_none f at l = nothing at l

-- n texts, counted by i
pub each_all : (n i : ℕ) (f : ℕ → List ℕ) {at p : ℕ} {l x : List ℕ} → i ≡ n → Appends at (each i f) l x p
    → Appends at (each n f) l x p
each_all n i f e g = equal_text (ap (λ k. each k f) (sym e)) g

-- the same of a text in its buffer
pub puts_more : (i : ℕ) (f : ℕ → List ℕ) {a b c : Text} → Puts (each i f) a b → Puts (f i) b c → Puts (each (i + 1) f) a c
puts_more i f g h = record { same = h.same ∙ g.same; appends = each_more i f g.appends h.appends }

pub puts_none : (f : ℕ → List ℕ) (t : Text) → Puts (each 0 f) t t
puts_none f t = record { same = refl; appends = each_none f t.at t.bytes.now }
