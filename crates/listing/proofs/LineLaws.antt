-- Lines: how long they are, and when a cell has one.
use Rattle.std.specs.Prelude.{◌≡◌, refl, List, [], ◌∷◌, ◌++◌, ℕ, zero, suc, ◌+◌, ◌^◌, ◌<◌, ◌≤◌, length, get_or, take}
use Rattle.std.proofs.Common.{sym, ap, ◌∙◌, arith, add-one, append_assoc, append-nil, length-append}
use Rattle.std.proofs.Math.Decide.{dec_lt}
use Rattle.listing.specs.Text.{digits, decimal, space, line_end, numbers, line, pair_word, share_word, ring_word}
use Rattle.listing.proofs.DecimalLaws.{few_digits, one_digit, two_digits, three_digits}

-- each number takes a space and its digits
numbers_more : (n : ℕ) (ns : List ℕ) → length (numbers (n ∷ ns)) ≡ 1 + (length (decimal n) + length (numbers ns))
numbers_more n ns = omega (arith, length-append (decimal n) (numbers ns))

pub line_short : (k : ℕ) (w : List ℕ) (n : ℕ) → 0 < k → n < 10 ^ k → n < 2 ^ 64
    → length (line w (n ∷ [])) ≤ length w + (k + 2)
line_short k w n some h g =
    omega (arith, length-append w (numbers (n ∷ [])), numbers_more n [], few_digits k n some h g)

pub ring_short : (r x : ℕ) → r < 100 → x < 100 → length (line ring_word (r ∷ x ∷ [])) ≤ 11
ring_short r x h g = omega (
  arith,
  length-append ring_word (numbers (r ∷ x ∷ [])),
  numbers_more r (x ∷ []),
  numbers_more x [],
  two_digits r h,
  two_digits x g,
)

-- at 100 percent there is one digit less in the remainder
pub share_short : (q r m : ℕ) → q ≤ 100 → (q ≡ 100 → r ≡ 0) → r < 100 → m < 100
    → length (line share_word (q ∷ r ∷ m ∷ [])) ≤ 15
share_short q r m hq whole hr hm = omega (
  arith,
  length-append share_word (numbers (q ∷ r ∷ m ∷ [])),
  numbers_more q (r ∷ m ∷ []),
  numbers_more r (m ∷ []),
  numbers_more m [],
  both,
  two_digits m hm,
)
  where
    both : length (decimal q) + length (decimal r) ≤ 4
    both = elim (dec_lt q 100) [
      | yes l ↦ omega (arith, two_digits q l, two_digits r hr)
      | no l ↦
          omega (arith, three_digits q (omega arith), one_digit r (let z = whole (omega arith) in omega arith))
    ]

-- a line of 15 bytes: 100 percent of 64 routines
share_fifteen : length (line share_word (100 ∷ 0 ∷ 64 ∷ [])) ≡ 15
unfolding digits
share_fifteen = refl

pub pair_short : (r a b v : ℕ) → r < 100 → a < 10 → b < 10 → v < 1000
    → length (line pair_word (r ∷ a ∷ b ∷ v ∷ [])) ≤ 16
pair_short r a b v hr ha hb hv = omega (
  arith,
  length-append pair_word (numbers (r ∷ a ∷ b ∷ v ∷ [])),
  numbers_more r (a ∷ b ∷ v ∷ []),
  numbers_more a (b ∷ v ∷ []),
  numbers_more b (v ∷ []),
  numbers_more v [],
  two_digits r hr,
  one_digit a ha,
  one_digit b hb,
  three_digits v hv,
)

-- the numbers of a line without its end: each after a space
abbrev pub spaced : List ℕ → List ℕ
spaced [] = []
spaced (n ∷ ns) = space ∷ decimal n ++ spaced ns

-- all of them, and the line's end
pub numbers_spaced : (ns : List ℕ) → numbers ns ≡ spaced ns ++ (line_end ∷ [])
numbers_spaced [] = refl
numbers_spaced (n ∷ ns) =
    ap (λ (t : List ℕ). space ∷ decimal n ++ t) (numbers_spaced ns)
    ∙ sym (append_assoc (space ∷ decimal n) (spaced ns) (line_end ∷ []))

-- the first i of them, and one more
pub spaced_more : (i : ℕ) (ns : List ℕ) → i < length ns
    → spaced (take (i + 1) ns) ≡ spaced (take i ns) ++ (space ∷ decimal (get_or ns i 0))
spaced_more i ns h = rw (add-one i) (go i ns h)
  where
    go : (i : ℕ) (ns : List ℕ) → i < length ns
        → spaced (take (suc i) ns) ≡ spaced (take i ns) ++ (space ∷ decimal (get_or ns i 0))
    go i [] h = absurd (omega arith)
    go zero (n ∷ ns) h = append-nil (space ∷ decimal n)
    go (suc i) (n ∷ ns) h =
        ap (λ (t : List ℕ). space ∷ decimal n ++ t) (go i ns (omega arith))
        ∙ sym (append_assoc (space ∷ decimal n) (spaced (take i ns)) (space ∷ decimal (get_or ns i 0)))
