-- A program has at most one share; its numbers are small; and it is 100 percent exactly where the verdict is clear.
use Rattle.std.specs.Prelude.{◌≡◌, List, ◌∷◌, ℕ, ◌+◌, ◌*◌, ◌/◌, ◌≤◌, ◌<◌, length}
use Rattle.std.proofs.Common.{sym, ap, ◌∙◌, inl, inr, le_antisymm, mul-le-mul_right, suc-mul, add-one, arith}
use Rattle.std.proofs.Math.Nat.{div-eq_of_lt-le}
use Rattle.std.proofs.Math.Decide.{dec_lt}
use Rattle.table.specs.Program.{Program}
use Rattle.table.specs.WellFormed.{In, WellFormed}
use Rattle.table.proofs.Laws.Lists.{NoDup-within}
use Rattle.rules.specs.Verdict.{Clear}
use Rattle.rules.specs.Share.{Count, ShareOf}
use Rattle.rules.proofs.Laws.Lists.{up_to, in_up_to, up_to_long}
use Rattle.rules.proofs.Laws.Verdict.{reached_within}

-- a property that fewer numbers have has no higher count
pub count_le : {Q R : ℕ → Type 0} {n m : ℕ} → ((r : ℕ) → Q r → R r) → Count Q n → Count R m → n ≤ m
count_le f p q =
    let l = NoDup-within p.list q.list p.once (λ r i. q.all r (f r (p.only r i))) in
    omega (arith, p.size, q.size)

-- a property has one count
pub count_unique : {Q : ℕ → Type 0} {n m : ℕ} → Count Q n → Count Q m → n ≡ m
count_unique p q = le_antisymm (count_le (λ r h. h) p q) (count_le (λ r h. h) q p)

-- where some number has the property there is one at least
pub count_some : {Q : ℕ → Type 0} {n : ℕ} (r : ℕ) → Q r → Count Q n → 1 ≤ n
count_some r h p = go p.list (p.all r h) p.size
  where
    go : {n : ℕ} (l : List ℕ) → In r l → length l ≡ n → 1 ≤ n
    go mathlib.Core.List.[] i e = elim i [ ]
    go (x ∷ l) i e = omega arith

-- the same count, of a property in other words
pub count_map : {Q R : ℕ → Type 0} {n : ℕ} → ((r : ℕ) → Q r → R r) → ((r : ℕ) → R r → Q r) → Count Q n → Count R n
count_map f g p = record {
  list = p.list;
  once = p.once;
  only = λ r i. f r (p.only r i);
  all = λ r h. p.all r (g r h);
  size = p.size;
}

-- what is divided and left over is the quotient
quotient : (a q m rest : ℕ) → a ≡ q * m + rest → rest < m → a / m ≡ q
quotient a q m rest e l =
    div-eq_of_lt-le m (omega arith) (let s = ap (λ (k : ℕ). k * m) (add-one q) ∙ suc-mul q m in omega arith)

module _ (P : Program) where
  -- a program has one share
  pub share_unique : (q rest m q' rest' m' : ℕ) → ShareOf P q rest m → ShareOf P q' rest' m'
      → (q ≡ q') × (rest ≡ rest') × (m ≡ m')
  share_unique q rest m q' rest' m' s t = (eq, omega (arith, s.sum, t.sum, ec, products), em)
    where
      em : m ≡ m'
      em = count_unique s.reached t.reached

      ec : s.c ≡ t.c
      ec = count_unique s.ringless t.ringless

      eq : q ≡ q'
      eq =
          sym (quotient (100 * s.c) q m rest s.sum s.below)
          ∙ ap (λ (c : ℕ). 100 * c / m) ec ∙ ap (λ (k : ℕ). 100 * t.c / k) em
          ∙ quotient (100 * t.c) q' m' rest' t.sum t.below

      products : q * m ≡ q' * m'
      products = ap (λ (k : ℕ). k * m) eq ∙ ap (λ (k : ℕ). q' * k) em

  module _ (q rest m : ℕ) (s : ShareOf P q rest m) where
    few_ringless : s.c ≤ m
    few_ringless = count_le (λ i h. h.0) s.ringless s.reached

    -- it is at most 100 percent, and then nothing is left over
    pub percent_few : q ≤ 100
    percent_few = elim (dec_lt 100 q) [
      | yes l ↦
          let p : 101 * m ≤ q * m = mul-le-mul_right m l in
          let b = s.below in
          absurd (omega (arith, few_ringless, s.sum))
      | no l ↦ omega arith
    ]

    pub whole_exact : q ≡ 100 → rest ≡ 0
    whole_exact e =
        let p : q * m ≡ 100 * m = ap (λ (k : ℕ). k * m) e in
        omega (arith, few_ringless, s.sum)

    -- it is of one routine at least, and of no more than there are
    pub reached_few : WellFormed P → m ≤ length P
    reached_few wf =
        let l = NoDup-within s.reached.list (up_to (length P)) s.reached.once
        (λ i h. in_up_to i (length P) (reached_within P wf i (s.reached.only i h))) in
        omega (arith, s.reached.size, up_to_long (length P))

    pub reached_some : 1 ≤ m
    reached_some = let b = s.below in omega arith

    -- where the verdict is clear it is whole
    pub clear_whole : Clear P → (q ≡ 100) × (rest ≡ 0)
    clear_whole clear = (e, whole_exact e)
      where
        all : m ≤ s.c
        all = count_le (λ i h. (h, λ x. clear i x h)) s.reached s.ringless

        e : q ≡ 100
        e =
            sym (quotient (100 * s.c) q m rest s.sum s.below)
            ∙ quotient (100 * s.c) 100 m 0 (omega (arith, all, few_ringless)) (omega (arith, reached_some))

    -- and nowhere else
    pub whole_clear : q ≡ 100 → Clear P
    whole_clear e i x h ring =
        let p : q * m ≡ 100 * m = ap (λ (k : ℕ). k * m) e in
        let l = NoDup-within (i ∷ s.ringless.list) s.reached.list
        ((λ j. (s.ringless.only i j).1 x ring), s.ringless.once) inside in
        omega (arith, s.sum, s.ringless.size, s.reached.size)
      where
        inside : (j : ℕ) → In j (i ∷ s.ringless.list) → In j s.reached.list
        inside j (inl z) = rw z (s.reached.all i h)
        inside j (inr k) = s.reached.all j (s.ringless.only j k).0
