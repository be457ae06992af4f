-- The contract leaves nothing free: two answers to one input, and the two buffers left, are equal. So are the launcher's
-- numbers, and a number tells its answer. Whatever is answered, only rows of the routine and of those that reach it
-- change.
use Rattle.std.specs.Prelude.{◌≡◌, refl, List, ℕ, ◌+◌, ◌*◌, ◌/◌, ◌%◌, ◌<◌, length, get_or, Ok, Err}
use Rattle.std.proofs.Common.{sym, ap, ◌∙◌, div-add-mod', mod-lt, arith, ext_get_or}
use Rattle.std.proofs.Math.Decide.{ℕ_discrete, dec_lt}
use Rattle.table.specs.Constants.{row_bytes}
use Rattle.table.specs.Program.{Program}
use Rattle.table.specs.Check.{Outcome, refused, accepted, check_table}
use Rattle.rules.specs.Label.{several}
use Rattle.rules.specs.Derived.{RowOf}
use Rattle.rounds.specs.Reaches.{Touched}
use Rattle.rounds.specs.OneBody.{OnlyBody}
use Rattle.rounds.proofs.Laws.Reach.{touched?}
use Rattle.rounds.proofs.Laws.OneBody.{same?}
use Rattle.rows.specs.Bytes.{cell_byte, last_byte}
use Rattle.analysis.proofs.Laws.Unique.{flag_unique, cell_unique}
use Rattle.update.specs.Answer.{Formed, ModelFrom, UpToDateFrom, Compared, Replaced}
use Rattle.update.specs.Answer.{Updated, Fits, update_number, ReplacedAs}
use Rattle.table.specs.Refusal.{refusal_number, refusal_of}
use Rattle.table.specs.declared.refusal.Refusal.{Refusal}
use Rattle.table.proofs.Laws.Numbers.{refusal_of_number}

-- what is left of one buffer is one buffer
pub updated_unique : (P : Program) (r : ℕ) (before after after' : List ℕ)
    → UpToDateFrom P r before after → UpToDateFrom P r before after' → after ≡ after'
updated_unique P r before after after' p q =
    ext_get_or 0 after after' (p.same_length ∙ sym q.same_length) (λ i h. go i (dec_lt i (65 * length P)))
  where
    in_row : (s j : ℕ) → s < length P → j < 65 → Dec (Touched P r s)
        → get_or after (65 * s + j) 0 ≡ get_or after' (65 * s + j) 0
    in_row s j k l (no n) = p.others s j k n l ∙ sym (q.others s j k n l)
    in_row s j k l (yes t) = at (dec_lt j 64)
      where
        at : Dec (j < 64) → get_or after (65 * s + j) 0 ≡ get_or after' (65 * s + j) 0
        at (yes lt) =
            let e : j ≡ 8 * (j / 8) + j % 8 = omega (arith, div-add-mod' j 8) in
            let m : j % 8 < 8 = mod-lt j (omega arith) in
            let a = j / 8 in
            let b = j % 8 in
            rw e (cell_unique (RowOf P (ModelFrom P r before) s a b) (cell_byte after s a b) (cell_byte after' s a b)
            (p.cells s a b k t (omega arith) m) (q.cells s a b k t (omega arith) m))
        at (no ge) =
            let e : j ≡ 64 = omega arith in
            rw e (flag_unique (last_byte after s) (last_byte after' s) ((x : ℕ) × ModelFrom P r before s x x several)
            (p.last s k t) (q.last s k t))

    go : (i : ℕ) → Dec (i < 65 * length P) → get_or after i 0 ≡ get_or after' i 0
    go i (yes h) =
        let e : i ≡ 65 * (i / 65) + i % 65 = omega (arith, div-add-mod' i 65) in
        let m : i % 65 < 65 = mod-lt i (omega arith) in
        let s = i / 65 in
        let j = i % 65 in
        rw e (in_row s j (omega arith) m (touched? P r s))
    go i (no n) = p.rest i (omega arith) ∙ sym (q.rest i (omega arith))

-- a fact that can be decided holds where it cannot fail
pub stable : {A : Type 0} → Dec A → ¬ ¬ A → A
stable (yes a) n = a
stable (no m) n = absurd (n m)

-- a refusal's number tells it
told : (x y : Refusal) → refusal_number x ≡ refusal_number y → x ≡ y
told x y e = sym (refusal_of_number x) ∙ ap refusal_of e ∙ refusal_of_number y

answer? : (a b : Updated) → Dec (a ≡ b)
answer? (Ok x) (Ok y) = yes refl
answer? (Ok x) (Err y) = no (λ e. let z : ◌≡◌ {A = ℕ} 0 1 = cc in omega arith)
answer? (Err x) (Ok y) = no (λ e. let z : ◌≡◌ {A = ℕ} 0 1 = cc in omega arith)
answer? (Err x) (Err y) = go (ℕ_discrete (refusal_number x) (refusal_number y))
  where
    go : Dec (refusal_number x ≡ refusal_number y) → Dec (◌≡◌ {A = Updated} (Err x) (Err y))
    go (yes e) = yes (ap Err (told x y e))
    go (no n) = no (λ e. n (ap refusal_number (let q : x ≡ y = cc in q)))

-- whatever can be decided holds of what is answered where it holds of each answer
pub by_answer : (P Q : Program) (r : ℕ) (before : List ℕ) {A : Type 0} → Dec A → (¬ OnlyBody P Q r → A)
    → (OnlyBody P Q r → ¬ Formed P before → A) → (OnlyBody P Q r → Formed P before → A) → A
by_answer P Q r before d other bad done =
    stable d (λ n. n (other (λ o. n (bad o (λ f. n (done o f))))))

both? : {A B : Type 0} → Dec A → Dec B → Dec (A × B)
both? (yes a) (yes b) = yes (a, b)
both? (no n) d = no (λ w. n w.0)
both? (yes a) (no n) = no (λ w. n w.1)

pub compared_unique : (P Q : Program) (r : ℕ) (before after after' : List ℕ) (answer answer' : Updated)
    → Compared P Q r before after answer → Compared P Q r before after' answer'
    → (after ≡ after') × (answer ≡ answer')
compared_unique P Q r before after after' answer answer' p q =
    by_answer P Q r before (both? (same? after after') (answer? answer answer')) other bad done
  where
    other : ¬ OnlyBody P Q r → (after ≡ after') × (answer ≡ answer')
    other n = let x = p.refused_other n in let y = q.refused_other n in (cc (x.2, y.2), cc (x.0, y.0))

    bad : OnlyBody P Q r → ¬ Formed P before → (after ≡ after') × (answer ≡ answer')
    bad o n = let x = p.refused_model o n in let y = q.refused_model o n in (cc (x.2, y.2), cc (x.0, y.0))

    done : OnlyBody P Q r → Formed P before → (after ≡ after') × (answer ≡ answer')
    done o f =
        let x = p.done o f in
        let y = q.done o f in
        (updated_unique Q r before after after' x.1 y.1, cc (x.0, y.0))

-- two answers to one input, from one buffer, are equal, and so are the buffers left
pub replaced_unique : (old new : List ℕ) (r : ℕ) (before after after' : List ℕ) (answer answer' : Updated)
    → Replaced old new r before after answer → Replaced old new r before after' answer'
    → (after ≡ after') × (answer ≡ answer')
replaced_unique old new r before after after' answer answer' p q = by_old (check_table old) refl
  where
    sized : (P Q : Program) → check_table old ≡ accepted P → check_table new ≡ accepted Q
        → Dec (length before < row_bytes * length P) → (after ≡ after') × (answer ≡ answer')
    sized P Q e f (yes lt) =
        let x = p.refused_buffer P Q e f lt in
        let y = q.refused_buffer P Q e f lt in
        (cc (x.2, y.2), cc (x.0, y.0))
    sized P Q e f (no ge) =
        compared_unique P Q r before after after' answer answer' (p.compared P Q e f (omega arith))
        (q.compared P Q e f (omega arith))

    by_new : (P : Program) → check_table old ≡ accepted P → (o : Outcome) → check_table new ≡ o
        → (after ≡ after') × (answer ≡ answer')
    by_new P e (refused n) f =
        let x = p.refused_new P n e f in
        let y = q.refused_new P n e f in
        (cc (x.2, y.2), cc (x.0, y.0))
    by_new P e (accepted Q) f = sized P Q e f (dec_lt (length before) (row_bytes * length P))

    by_old : (o : Outcome) → check_table old ≡ o → (after ≡ after') × (answer ≡ answer')
    by_old (refused n) e =
        let x = p.refused_old n e in
        let y = q.refused_old n e in
        (cc (x.2, y.2), cc (x.0, y.0))
    by_old (accepted P) e = by_new P e (check_table new) refl

-- and so are the launcher's numbers
pub number_unique : (old new : List ℕ) (r : ℕ) (before after after' : List ℕ) (n m : ℕ)
    → ReplacedAs old new r before after n → ReplacedAs old new r before after' m → (after ≡ after') × (n ≡ m)
number_unique old new r before after after' n m p q =
    let same = replaced_unique old new r before after after' p.0 q.0 p.3 q.3 in
    (same.0, p.1 ∙ ap update_number same.1 ∙ sym q.1)

-- a launcher's number tells its answer
pub number_tells : (a b : Updated) → Fits a → Fits b → update_number a ≡ update_number b → a ≡ b
number_tells (Ok x) (Ok y) f g e = refl
number_tells (Ok x) (Err y) f g e = let l = g.0 in absurd (omega arith)
number_tells (Err x) (Ok y) f g e = let l = f.0 in absurd (omega arith)
number_tells (Err x) (Err y) f g e = ap Err (told x y e)

-- whatever is answered, rows of routines that do not reach r keep every byte
pub others_stay : (P Q : Program) (r : ℕ) (before after : List ℕ) (answer : Updated)
    → Compared P Q r before after answer → (q i : ℕ) → q < length Q → ¬ Touched Q r q → i < row_bytes
    → get_or after (row_bytes * q + i) 0 ≡ get_or before (row_bytes * q + i) 0
others_stay P Q r before after answer c q i h n l =
    by_answer P Q r before (ℕ_discrete (get_or after (row_bytes * q + i) 0) (get_or before (row_bytes * q + i) 0))
    (λ o. ap (λ (v : List ℕ). get_or v (row_bytes * q + i) 0) (c.refused_other o).2)
    (λ o f. ap (λ (v : List ℕ). get_or v (row_bytes * q + i) 0) (c.refused_model o f).2)
    (λ o f. (c.done o f).1.others q i h n l)

-- in the contract's words: whatever is answered, of the rows of the new table only those of r and of the routines that
-- reach it change
pub only_touched : (old new : List ℕ) (r : ℕ) (before after : List ℕ) (answer : Updated)
    → Replaced old new r before after answer → (Q : Program) → check_table new ≡ accepted Q → (q i : ℕ) → q < length Q
    → ¬ Touched Q r q → i < row_bytes → get_or after (row_bytes * q + i) 0 ≡ get_or before (row_bytes * q + i) 0
only_touched old new r before after answer u Q f q i h n l = by (check_table old) refl
  where
    stays : after ≡ before → get_or after (row_bytes * q + i) 0 ≡ get_or before (row_bytes * q + i) 0
    stays e = ap (λ (v : List ℕ). get_or v (row_bytes * q + i) 0) e

    sized : (P : Program) → check_table old ≡ accepted P → Dec (length before < row_bytes * length P)
        → get_or after (row_bytes * q + i) 0 ≡ get_or before (row_bytes * q + i) 0
    sized P e (yes lt) = stays (u.refused_buffer P Q e f lt).2
    sized P e (no ge) = others_stay P Q r before after answer (u.compared P Q e f (omega arith)) q i h n l

    by : (o : Outcome) → check_table old ≡ o → get_or after (row_bytes * q + i) 0 ≡ get_or before (row_bytes * q + i) 0
    by (refused m) e = stays (u.refused_old m e).2
    by (accepted P) e = sized P e (dec_lt (length before) (row_bytes * length P))
