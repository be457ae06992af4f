-- Appending to a text, byte by byte and part by part.
use Rattle.std.specs.Prelude.{◌≡◌, refl, List, [], ◌∷◌, ◌++◌, ℕ, suc, ◌+◌, ◌<◌, ◌≤◌, length, get_or, take, set}
use Rattle.std.proofs.Common.{sym, ap, subst, ◌∙◌, arith, add-one, length-append, take_all, take-suc}
use Rattle.std.proofs.lemmas.List.Edits.{sets}
use Rattle.std.proofs.Math.Seq.{length-sets, set_out}
use Rattle.append.specs.Appends.{Appends}

-- a text in two parts
pub sets_append : (v w l : List ℕ) (at : ℕ) → sets l at (v ++ w) ≡ sets (sets l at v) (at + length v) w
sets_append [] w l at = let e : at ≡ at + 0 = omega arith in ap (λ i. sets l i w) e
sets_append (x ∷ v) w l at =
    let e : suc at + length v ≡ at + suc (length v) = omega arith in
    sets_append v w (set l at x) (suc at) ∙ ap (λ i. sets (sets (set l at x) (suc at) v) i w) e

pub nothing : (at : ℕ) (l : List ℕ) → Appends at [] l l at
nothing at l = record { bytes = refl; place = omega arith }

-- a byte that has room, and one that has none
pub stored : (at b : ℕ) (l : List ℕ) → Appends at (b ∷ []) l (set l at b) (at + 1)
stored at b l = record { bytes = refl; place = omega arith }

pub left_out : (at b : ℕ) (l : List ℕ) → length l ≤ at → Appends at (b ∷ []) l l (at + 1)
left_out at b l h = record { bytes = sym (set_out l at b h); place = omega arith }

-- one text after another
pub then : {at p q : ℕ} {v w l m x : List ℕ} → Appends at v l m p → Appends p w m x q → Appends at (v ++ w) l x q
then {at} {p} {q} {v} {w} {l} {m} {x} f g =
    let b : x ≡ sets (sets l at v) (at + length v) w = rw f.place at (rw f.bytes at g.bytes) in
    record { bytes = b ∙ sym (sets_append v w l at); place = omega (arith, f.place, g.place, length-append v w) }

-- a text in two parts: the first is written, and the second comes after it
pub first_part : (v l : List ℕ) (at : ℕ) → Appends at v l (sets l at v) (at + length v)
first_part v l at = record { bytes = refl; place = refl }

pub second_part : (v w : List ℕ) {at p : ℕ} {l x : List ℕ} → Appends at (v ++ w) l x p
    → Appends (at + length v) w (sets l at v) x p
second_part v w {at} {p} {l} {x} f =
    record { bytes = f.bytes ∙ sets_append v w l at; place = omega (arith, f.place, length-append v w) }

-- an equal text
pub equal_text : {at p : ℕ} {v w l x : List ℕ} → w ≡ v → Appends at v l x p → Appends at w l x p
equal_text {at} {p} {v} {w} {l} {x} e f = subst (λ (u : List ℕ). Appends at u l x p) (sym e) f

pub same_size : {at p : ℕ} {w l x : List ℕ} → Appends at w l x p → length x ≡ length l
same_size {at} {p} {w} {l} {x} f = ap length f.bytes ∙ length-sets l at w

-- the first i bytes of w, and one more
pub one_more : (i : ℕ) (w : List ℕ) {at p q : ℕ} {l m x : List ℕ} → i < length w → Appends at (take i w) l m p
    → Appends p (get_or w i 0 ∷ []) m x q → Appends at (take (i + 1) w) l x q
one_more i w h f g =
    let e : take (i + 1) w ≡ take i w ++ (get_or w i 0 ∷ []) = ap (λ k. take k w) (add-one i) ∙ take-suc w i 0 h in
    equal_text e (then f g)

-- all the bytes of w
pub all : (i : ℕ) (w : List ℕ) {at p : ℕ} {l x : List ℕ} → length w ≤ i → Appends at (take i w) l x p → Appends at w l x p
all i w h f = equal_text (sym (take_all i w h)) f
