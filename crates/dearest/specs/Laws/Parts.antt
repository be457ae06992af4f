-- The table of the chain in the parts that the writer appends.
use Rattle.std.specs.Prelude.{◌≡◌, refl, ◌⊎◌, List, [], ◌∷◌, ◌++◌, length, get_or, take}
use Rattle.std.specs.Prelude.{ℕ, zero, suc, ◌+◌, ◌-◌, ◌*◌, ◌/◌, ◌%◌, ◌≤◌, ◌<◌}
use Rattle.std.proofs.Common.{sym, ap, ◌∙◌, inl, inr, append_assoc, append-nil, arith, add-one, length-append, take_all}
use Rattle.std.specs.Int.{w16, to_le_bytes}
use Rattle.table.specs.Constants.{most_routines, END}
use Rattle.table.specs.Program.{Routine, Program, params, body}
use Rattle.table.specs.Encoding.{encode, encode_bodies, counts, two_bytes}
use Rattle.table.proofs.Laws.Sound.{counts_length, counts_params}
use Rattle.append.specs.Appends.{Appends}
use Rattle.append.specs.Laws.Appending.{then, equal_text, one_more, all}
use Rattle.rounds.specs.Chain.{params_of, passing, opposing, chain, chain_table}
use Rattle.rounds.proofs.Laws.ChainRounds.{chain_long, link, last, params_at}
use Rattle.rounds.proofs.Laws.ChainTable.{bodies_long}
use Rattle.dearest.specs.Written.{Written}

-- how many parameters a routine has
pub first_has_none : (r : ℕ) → r ≡ 0 → 0 ≡ params_of r
first_has_none r e = rw e refl

pub others_have_two : (r : ℕ) → 1 ≤ r → 2 ≡ params_of r
others_have_two zero h = absurd (omega arith)
others_have_two (suc r) h = refl

chain_params : (n r : ℕ) → r < n → params (chain n) r ≡ params_of r
chain_params zero r h = absurd (omega arith)
chain_params (suc m) r h = params_at m r (omega arith)

-- the bytes of a body
pub body_passing : (n r : ℕ) → r + 1 < n → encode END (body (chain n) r) ≡ encode END (passing 0 (r + 1))
body_passing zero r h = absurd (omega arith)
body_passing (suc m) r h =
    let e : suc r ≡ r + 1 = omega arith in
    ap (λ (q : Routine). encode END q.code) (link m r (omega arith)) ∙ ap (λ q. encode END (passing 0 q)) e

pub body_opposing : (n r : ℕ) → r + 1 ≡ n → encode END (body (chain n) r) ≡ encode END (opposing 0)
body_opposing zero r h = absurd (omega arith)
body_opposing (suc m) r h =
    let e : r ≡ m = omega arith in
    rw e (ap (λ (q : Routine). encode END q.code) (last m))

-- how many bytes the parameter counts, the bodies and the table have
pub counts_long : (n : ℕ) → length (counts (chain n)) ≡ n
counts_long n = counts_length (chain n) ∙ chain_long n

pub chain_bytes : (n : ℕ) → 1 ≤ n → length (encode_bodies (chain n)) ≡ 7 * (n - 1) + 17
chain_bytes zero h = absurd (omega arith)
chain_bytes (suc m) h = let e = bodies_long 0 m in omega arith

pub table_long : (n : ℕ) → 1 ≤ n → length (chain_table n) ≡ 3 + n + (7 * (n - 1) + 17)
table_long n h =
    let a = length-append (counts (chain n)) (two_bytes (length (encode_bodies (chain n))) ++ encode_bodies (chain n)) in
    let b = counts_long n in
    let c = chain_bytes n h in
    omega arith

-- the first r parameter counts, and one more
pub counts_more : (n r k : ℕ) {at p q : ℕ} {l m x : List ℕ} → r < n → k ≡ params_of r
    → Appends at (take r (counts (chain n))) l m p → Appends p (k ∷ []) m x q
    → Appends at (take (r + 1) (counts (chain n))) l x q
counts_more n r k h e f g =
    let long = counts_long n in
    let s : get_or (counts (chain n)) r 0 ≡ k = counts_params (chain n) r ∙ chain_params n r h ∙ sym e in
    one_more r (counts (chain n)) (omega arith) f (equal_text (ap (λ (j : ℕ). j ∷ []) s) g)

pub counts_all : (n r : ℕ) {at p : ℕ} {l x : List ℕ} → n ≤ r
    → Appends at (take r (counts (chain n))) l x p → Appends at (counts (chain n)) l x p
counts_all n r h f =
    let long = counts_long n in
    all r (counts (chain n)) (omega arith) f

-- the bodies of the first r routines, and one more
one_body : (P : Program) (r : ℕ) → r < length P
    → encode_bodies (take (suc r) P) ≡ encode_bodies (take r P) ++ encode END (body P r)
one_body [] r h = absurd (omega arith)
one_body (q ∷ P) zero h = append-nil (encode END q.code)
one_body (q ∷ P) (suc r) h =
    ap (λ (t : List ℕ). encode END q.code ++ t) (one_body P r (omega arith))
    ∙ sym (append_assoc (encode END q.code) (encode_bodies (take r P)) (encode END (body P r)))

pub bodies_more : (n r : ℕ) {at p q : ℕ} {l m x : List ℕ} → r < n
    → Appends at (encode_bodies (take r (chain n))) l m p → Appends p (encode END (body (chain n) r)) m x q
    → Appends at (encode_bodies (take (r + 1) (chain n))) l x q
bodies_more n r h f g =
    let n-long = chain_long n in
    let e = one_body (chain n) r (omega arith) in
    equal_text (ap (λ k. encode_bodies (take k (chain n))) (add-one r) ∙ e) (then f g)

pub bodies_all : (n r : ℕ) {at p : ℕ} {l x : List ℕ} → n ≤ r
    → Appends at (encode_bodies (take r (chain n))) l x p → Appends at (encode_bodies (chain n)) l x p
bodies_all n r h f =
    let n-long = chain_long n in
    equal_text (ap encode_bodies (sym (take_all r (chain n) (omega arith)))) f

-- the two bytes of a number, the low one first
pub low_and_high : (m : ℕ) → m < 65536 → to_le_bytes w16 m ≡ two_bytes m
low_and_high m h =
    let high : m / 256 % 256 ≡ m / 256 = omega arith in ap (λ b. m % 256 ∷ b ∷ []) high

-- the whole table, part by part
pub table_parts : (n m : ℕ) {a b c d e : ℕ} {l₀ l₁ l₂ l₃ l₄ l₅ : List ℕ} → 1 ≤ n → m ≡ 7 * (n - 1) + 17
    → Appends 0 (n ∷ []) l₀ l₁ a → Appends a (counts (chain n)) l₁ l₂ b → Appends b (m % 256 ∷ []) l₂ l₃ c
    → Appends c (m / 256 ∷ []) l₃ l₄ d → Appends d (encode_bodies (chain n)) l₄ l₅ e
    → Appends 0 (chain_table n) l₀ l₅ e
table_parts n m h s f g i j k =
    equal_text (whole (length (chain n)) (length (encode_bodies (chain n))) (chain_long n) (chain_bytes n h ∙ sym s))
    (then f (then g (then i (then j k))))
  where
    whole : (u v : ℕ) → u ≡ n → v ≡ m
        → u ∷ (counts (chain n) ++ (two_bytes v ++ encode_bodies (chain n)))
        ≡ n ∷ (counts (chain n) ++ (m % 256 ∷ m / 256 ∷ encode_bodies (chain n)))
    whole u v p q = λ i. p i ∷ (counts (chain n) ++ (two_bytes (q i) ++ encode_bodies (chain n)))

-- no number is both
neither : (n : ℕ) → (n ≡ 0) ⊎ (most_routines < n) → 1 ≤ n → n ≤ most_routines → ⊥
neither n (inl z) l k = omega arith
neither n (inr z) l k = omega arith

-- the table was written, and nothing was
pub written : (n : ℕ) {before after : List ℕ} {size : ℕ} → 1 ≤ n → n ≤ most_routines
    → Appends 0 (chain_table n) before after size → Written n before after size
written n l h a = record { chain = λ p q. a; none = λ o. absurd (neither n o l h) }

pub not_written : (n : ℕ) (before : List ℕ) → (n ≡ 0) ⊎ (most_routines < n) → Written n before before 0
not_written n before o = record { chain = λ l h. absurd (neither n o l h); none = λ z. (refl, refl) }
