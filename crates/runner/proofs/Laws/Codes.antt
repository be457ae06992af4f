-- The code that begins at an offset of the body section, and that the codes in a code are there.
use Rattle.std.specs.Prelude.{◌≡◌, refl, cond, List, [], ◌∷◌, ◌++◌, ℕ, zero, suc, ◌+◌, ◌-◌, ◌<◌, ◌≤◌, ltb, length, take}
use Rattle.std.proofs.Common.{◌∙◌, ap, arith, length-append, lt-ltb, le-ltb}
use Rattle.table.specs.Constants.{END, OTHER}
use Rattle.table.specs.Program.{Program, Code, end, new, lock, fork, choice, call, mirror, body}
use Rattle.table.specs.Encoding.{encode, encode_bodies}
use Rattle.schedule.specs.Places.{size, body_of}

-- the code itself, or what is one byte less on in what follows
abbrev headed : Code → (ℕ → Code) → ℕ → Code
headed c f zero = c
headed c f (suc n) = f n

-- the code that begins n bytes on in a code; on an operand none does
abbrev pub within : Code → ℕ → Code
within end = headed end (λ n. end)
within (new x c) = headed (new x c) (within c)
within (lock x c d) =
    headed (lock x c d) (headed end (λ n. cond (ltb n (size END c)) (within c n) (within d (n - size END c))))
within (fork i c d) =
    headed (fork i c d) (λ n. cond (ltb n (size END c)) (within c n) (within d (n - size END c)))
within (choice c d f) =
    headed (choice c d f) (λ n. cond (ltb n (size OTHER c)) (within c n)
    (cond (ltb (n - size OTHER c) (size END d)) (within d (n - size OTHER c))
    (within f (n - size OTHER c - size END d))))
within (call r xs c) =
    headed (call r xs c) (headed end (λ n. cond (ltb n (length xs)) end (within c (n - length xs))))
within (mirror x y c) = headed (mirror x y c) (headed end (within c))

-- the code that begins at an offset of the bodies
abbrev pub code_at : Program → ℕ → Code
code_at [] = λ n. end
code_at (q ∷ P) = λ n. cond (ltb n (size END q.code)) (within q.code n) (code_at P (n - size END q.code))

-- the code and the codes in it begin at the offset and after it
abbrev pub Begins : Program → ℕ → Code → Type 0
Begins P from c = (n : ℕ) → n < size END c → code_at P (from + n) ≡ within c n

-- what closes a code is one byte
same_size : (c : Code) → size OTHER c ≡ size END c
same_size end = refl
same_size (new x c) = ap suc (same_size c)
same_size (lock x c d) =
    let h = same_size d in
    let a = length-append (encode END c) (encode END d) in
    let b = length-append (encode END c) (encode OTHER d) in
    omega (arith, h, a, b)
same_size (fork i c d) =
    let h = same_size d in
    let a = length-append (encode END c) (encode END d) in
    let b = length-append (encode END c) (encode OTHER d) in
    omega (arith, h, a, b)
same_size (choice c d f) =
    let h = same_size f in
    let a = length-append (encode OTHER c) (encode END d ++ encode END f) in
    let b = length-append (encode OTHER c) (encode END d ++ encode OTHER f) in
    let i = length-append (encode END d) (encode END f) in
    let j = length-append (encode END d) (encode OTHER f) in
    omega (arith, h, a, b, i, j)
same_size (call r xs c) =
    let h = same_size c in
    let a = length-append xs (encode END c) in
    let b = length-append xs (encode OTHER c) in
    omega (arith, h, a, b)
same_size (mirror x y c) = let h = same_size c in omega (arith, h)

-- a code has a byte
some_size : (c : Code) → 0 < size END c
some_size end = omega arith
some_size (new x c) = omega arith
some_size (lock x c d) = omega arith
some_size (fork i c d) = omega arith
some_size (choice c d f) = omega arith
some_size (call r xs c) = omega arith
some_size (mirror x y c) = omega arith

-- it begins with itself
within_none : (c : Code) → within c 0 ≡ c
within_none end = refl
within_none (new x c) = refl
within_none (lock x c d) = refl
within_none (fork i c d) = refl
within_none (choice c d f) = refl
within_none (call r xs c) = refl
within_none (mirror x y c) = refl

-- the branch within a block, and after it
inner : (c : Code) (n k : ℕ) (x : Code) → n < k → cond (ltb n k) c x ≡ c
inner c n k x h = rw (lt-ltb n k h) refl

outer : (f : ℕ → Code) (n k : ℕ) (x : Code) → cond (ltb (k + n) k) x (f (k + n - k)) ≡ f n
outer f n k x =
    let l : k ≤ k + n = omega arith in
    let e : k + n - k ≡ n = omega arith in
    rw (le-ltb (k + n) k l, e) refl

module _ (P : Program) (from : ℕ) where
  -- n bytes on
  moved : (k n : ℕ) (x : Code) → code_at P (from + (k + n)) ≡ x → code_at P (from + k + n) ≡ x
  moved k n x h = let e : from + k + n ≡ from + (k + n) = omega arith in rw e h

  pub begins_new : (x : ℕ) (c : Code) → Begins P from (new x c) → Begins P (from + 1) c
  begins_new x c b n h =
      let e : 1 + n ≡ suc n = omega arith in
      moved 1 n (within c n) (rw e (b (suc n) (omega (arith, h))))

  pub begins_mirror : (x y : ℕ) (c : Code) → Begins P from (mirror x y c) → Begins P (from + 2) c
  begins_mirror x y c b n h =
      let e : 2 + n ≡ suc (suc n) = omega arith in
      moved 2 n (within c n) (rw e (b (suc (suc n)) (omega (arith, h))))

  pub begins_lock : (x : ℕ) (c d : Code) → Begins P from (lock x c d)
      → Begins P (from + 2) c × Begins P (from + (2 + size END c)) d
  begins_lock x c d b =
      let a = length-append (encode END c) (encode END d) in (
        (λ n h. let e : 2 + n ≡ suc (suc n) = omega arith in
            moved 2 n (within c n) (rw e (b (suc (suc n)) (omega (arith, h, a))
            ∙ inner (within c n) n (size END c) (within d (n - size END c)) h))),
        (λ n h. let e : 2 + size END c + n ≡ suc (suc (size END c + n)) = omega arith in
            moved (2 + size END c) n (within d n) (rw e (b (suc (suc (size END c + n))) (omega (arith, h, a))
            ∙ outer (within d) n (size END c) (within c (size END c + n))))),
      )

  pub begins_fork : (i : ℕ) (c d : Code) → Begins P from (fork i c d)
      → Begins P (from + 1) c × Begins P (from + (1 + size END c)) d
  begins_fork i c d b =
      let a = length-append (encode END c) (encode END d) in (
        (λ n h. let e : 1 + n ≡ suc n = omega arith in
            moved 1 n (within c n) (rw e (b (suc n) (omega (arith, h, a))
            ∙ inner (within c n) n (size END c) (within d (n - size END c)) h))),
        (λ n h. let e : 1 + size END c + n ≡ suc (size END c + n) = omega arith in
            moved (1 + size END c) n (within d n) (rw e (b (suc (size END c + n)) (omega (arith, h, a))
            ∙ outer (within d) n (size END c) (within c (size END c + n))))),
      )

  pub begins_choice : (c d f : Code) → Begins P from (choice c d f)
      → Begins P (from + 1) c × Begins P (from + (1 + size OTHER c)) d
      × Begins P (from + (1 + size OTHER c + size END d)) f
  begins_choice c d f b =
      let s = same_size c in
      let a = length-append (encode OTHER c) (encode END d ++ encode END f) in
      let i = length-append (encode END d) (encode END f) in (
        (λ n h. let e : 1 + n ≡ suc n = omega arith in
            moved 1 n (within c n) (rw e (b (suc n) (omega (arith, h, a, s))
            ∙ inner (within c n) n (size OTHER c) (later (n - size OTHER c)) (omega (arith, h, s))))),
        (λ n h. let e : 1 + size OTHER c + n ≡ suc (size OTHER c + n) = omega arith in
            moved (1 + size OTHER c) n (within d n) (rw e (b (suc (size OTHER c + n)) (omega (arith, h, a, i))
            ∙ outer later n (size OTHER c) (within c (size OTHER c + n))
            ∙ inner (within d n) n (size END d) (within f (n - size END d)) h))),
        (λ n h. let e : 1 + size OTHER c + size END d + n ≡ suc (size OTHER c + (size END d + n)) = omega arith in
            moved (1 + size OTHER c + size END d) n (within f n)
            (rw e (b (suc (size OTHER c + (size END d + n))) (omega (arith, h, a, i))
            ∙ outer later (size END d + n) (size OTHER c) (within c (size OTHER c + (size END d + n)))
            ∙ outer (within f) n (size END d) (within d (size END d + n))))),
      )
    where
      later : ℕ → Code
      later m = cond (ltb m (size END d)) (within d m) (within f (m - size END d))

  pub begins_call : (r : ℕ) (xs : List ℕ) (c : Code) → Begins P from (call r xs c)
      → Begins P (from + (2 + length xs)) c
  begins_call r xs c b n h =
      let a = length-append xs (encode END c) in
      let e : 2 + length xs + n ≡ suc (suc (length xs + n)) = omega arith in
      moved (2 + length xs) n (within c n) (rw e (b (suc (suc (length xs + n))) (omega (arith, h, a))
      ∙ outer (within c) n (length xs) end))

  -- the code itself
  pub begins_here : (c : Code) → Begins P from c → code_at P from ≡ c
  begins_here c b = let e : from ≡ from + 0 = omega arith in ap (code_at P) e ∙ b 0 (some_size c) ∙ within_none c

-- the body of a routine
pub begins_body : (P : Program) (r : ℕ) → r < length P → Begins P (body_of P r) (body P r)
begins_body [] r l n h = absurd (omega (arith, l))
begins_body (q ∷ P) zero l n h =
    let e : 0 + n ≡ n = omega arith in
    rw e (inner (within q.code n) n (size END q.code) (code_at P (n - size END q.code)) h)
begins_body (q ∷ P) (suc r) l n h =
    let a = length-append (encode END q.code) (encode_bodies (take r P)) in
    let e : body_of (q ∷ P) (suc r) + n ≡ size END q.code + (body_of P r + n) = omega (arith, a) in
    ap (code_at (q ∷ P)) e
    ∙ outer (code_at P) (body_of P r + n) (size END q.code)
    (within q.code (size END q.code + (body_of P r + n)))
    ∙ begins_body P r (omega (arith, l)) n h
