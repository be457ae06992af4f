-- The contract of the analysis leaves nothing free: two answers to one table, and the two buffers left, are equal. So
-- are the launcher's numbers; a number tells its answer but for the share and the rounds.
use Rattle.std.specs.Prelude.{◌≡◌, refl, ◌⊎◌, List, ℕ, ◌+◌, ◌*◌, ◌/◌, ◌%◌, ◌≤◌, ◌<◌, length, get_or, Ok, Err}
use Rattle.std.proofs.Common.{sym, ap, ◌∙◌, inl, inr, div-add-mod', mod-lt, arith, ext_get_or}
use Rattle.std.proofs.Math.Decide.{dec_lt}
use Rattle.table.specs.Program.{Program}
use Rattle.table.specs.Check.{Outcome, refused, accepted, check_table}
use Rattle.rules.specs.Label.{Label, own, unknown, several}
use Rattle.rules.specs.Model.{Row, Ring}
use Rattle.rules.proofs.Laws.Verdict.{ring_at_unique, clear_no_ring}
use Rattle.rules.proofs.Laws.Share.{share_unique}
use Rattle.rounds.proofs.Laws.Steps.{rounds_unique}
use Rattle.analysis.specs.declared.Share.{Share}
use Rattle.analysis.specs.declared.Verdict.{Verdict}
use Rattle.analysis.specs.declared.Verdict.TheVariants.{Clear as SaysClear, Ring as SaysRing}
use Rattle.analysis.specs.declared.Judgement.{Judgement}
use Rattle.table.specs.Constants.{row_bytes}
use Rattle.table.specs.Refusal.{refusal_number, refusal_of}
use Rattle.table.proofs.Laws.Numbers.{refusal_of_number}
use Rattle.analysis.specs.Answer.{Answer, Flag, CellOf, Models, Says, Shares, JudgedAs, Analysed, Fits}
use Rattle.analysis.specs.Answer.{most_rounds, Short, verdict_number, number_of, AnalysedAs, rounds_number, RoundsAs}

-- a fact has one flag
pub flag_unique : (v w : ℕ) (Q : Type 0) → Flag v Q → Flag w Q → v ≡ w
flag_unique v w Q (inl p) (inl q) = p.0 ∙ sym q.0
flag_unique v w Q (inl p) (inr q) = absurd (q.1 p.1)
flag_unique v w Q (inr p) (inl q) = absurd (p.1 q.1)
flag_unique v w Q (inr p) (inr q) = p.0 ∙ sym q.0

-- a cell has one byte
pub cell_unique : (L : Label → Type 0) (v w : ℕ) → CellOf L v → CellOf L w → v ≡ w
cell_unique L v w p q =
    let e₁ = flag_unique p.one q.one (L own) p.by_own q.by_own in
    let e₂ = flag_unique p.two q.two (L unknown) p.by_unknown q.by_unknown in
    let e₄ = flag_unique p.four q.four (L several) p.by_several q.by_several in
    omega arith

-- the rows of a program have one content
pub models_unique :
    (P : Program) (model model' : List ℕ) → Models P model → Models P model'
    → (i : ℕ) → i < row_bytes * length P → get_or model i 0 ≡ get_or model' i 0
models_unique P model model' m m' i h = at (i / 65) (i % 65) (omega (arith, div-add-mod' i 65)) (mod-lt i (omega arith))
  where
    in_cell :
        (r j : ℕ) → r < length P → j < 64
        → get_or model (65 * r + j) 0 ≡ get_or model' (65 * r + j) 0
    in_cell r j k l =
        let e : j ≡ 8 * (j / 8) + j % 8 = omega (arith, div-add-mod' j 8) in
        let s : j % 8 < 8 = mod-lt j (omega arith) in
        let a = j / 8 in
        let b = j % 8 in
        rw e (cell_unique (Row P r a b) (get_or model (65 * r + (8 * a + b)) 0) (get_or model' (65 * r + (8 * a + b)) 0)
        (m.cells r a b k (omega arith) s) (m'.cells r a b k (omega arith) s))

    at : (r j : ℕ) → i ≡ 65 * r + j → j < 65 → get_or model i 0 ≡ get_or model' i 0
    at r j e l = rw e (go (dec_lt j 64))
      where
        k : r < length P
        k = omega arith

        go : Dec (j < 64) → get_or model (65 * r + j) 0 ≡ get_or model' (65 * r + j) 0
        go (yes lt) = in_cell r j k lt
        go (no ge) =
            let e' : j ≡ 64 = omega arith in
            rw e'
            (flag_unique (get_or model (65 * r + 64) 0) (get_or model' (65 * r + 64) 0) ((x : ℕ) × Ring P r x)
            (m.last r k) (m'.last r k))

-- a program has one verdict
pub verdict_unique : (P : Program) (v w : Verdict) → Says P v → Says P w → v ≡ w
verdict_unique P SaysClear SaysClear p q = refl
verdict_unique P SaysClear (SaysRing b) p q = absurd (clear_no_ring P b.routine b.name p q)
verdict_unique P (SaysRing a) SaysClear p q = absurd (clear_no_ring P a.routine a.name q p)
verdict_unique P (SaysRing a) (SaysRing b) p q =
    let e = ring_at_unique P a.routine b.routine a.name b.name p q in
    λ i. SaysRing (record { routine = e.0 i; name = e.1 i })

-- a program has one share
pub shares_unique : (P : Program) (s t : Share) → Shares P s → Shares P t → s ≡ t
shares_unique P s t p q =
    let e = share_unique P s.percent s.remainder s.reached t.percent t.remainder t.reached p q in
    λ i. record { percent = e.0 i; remainder = e.1 i; reached = e.2 i }

-- what is left of one buffer is one buffer
pub judged_unique :
    (P : Program) (before after after' : List ℕ) (i j : Judgement) → JudgedAs P before after i
    → JudgedAs P before after' j → after ≡ after'
judged_unique P before after after' i j p q =
    ext_get_or 0 after after' (p.same_length ∙ sym q.same_length) (λ i h. go i (dec_lt i (row_bytes * length P)))
  where
    go : (i : ℕ) → Dec (i < row_bytes * length P) → get_or after i 0 ≡ get_or after' i 0
    go i (yes lt) = models_unique P after after' p.model q.model i lt
    go i (no ge) = p.rest i (omega arith) ∙ sym (q.rest i (omega arith))

-- two answers to one table, from one buffer, are equal, and so are the buffers left
pub analysed_unique :
    (table before after after' : List ℕ) (answer answer' : Answer)
    → Analysed table before after answer → Analysed table before after' answer'
    → (after ≡ after') × (answer ≡ answer')
analysed_unique table before after after' answer answer' p q = by (check_table table) refl
  where
    judged : (P : Program) → check_table table ≡ accepted P → row_bytes * length P ≤ length before
        → (after ≡ after') × (answer ≡ answer')
    judged P e h =
        let x = p.judged P e h in
        let y = q.judged P e h in
        let verdicts = verdict_unique P x.0.verdict y.0.verdict x.2.says y.2.says in
        let shares = shares_unique P x.0.share y.0.share x.2.shares y.2.shares in
        let rounds = rounds_unique P x.0.rounds y.0.rounds x.2.rounds y.2.rounds in
        let same : x.0 ≡ y.0 = λ i. record { verdict = verdicts i; share = shares i; rounds = rounds i } in
        (judged_unique P before after after' x.0 y.0 x.2 y.2, x.1 ∙ ap Ok same ∙ sym y.1)

    sized : (P : Program) → check_table table ≡ accepted P → Dec (length before < row_bytes * length P)
        → (after ≡ after') × (answer ≡ answer')
    sized P e (yes lt) =
        let x = p.refused_buffer P e lt in
        let y = q.refused_buffer P e lt in
        (cc (x.2, y.2), cc (x.0, y.0))
    sized P e (no ge) = judged P e (omega arith)

    by : (o : Outcome) → check_table table ≡ o → (after ≡ after') × (answer ≡ answer')
    by (refused n) e =
        let x = p.refused_table n e in
        let y = q.refused_table n e in
        (cc (x.2, y.2), cc (x.0, y.0))
    by (accepted P) e = sized P e (dec_lt (length before) (row_bytes * length P))

-- and so are the launcher's numbers
pub number_unique :
    (table before after after' : List ℕ) (n m : ℕ) → AnalysedAs table before after n → AnalysedAs table before after' m
    → (after ≡ after') × (n ≡ m)
number_unique table before after after' n m p q =
    let same = analysed_unique table before after after' p.0 q.0 p.2 q.2 in
    (same.0, p.1 ∙ ap number_of same.1 ∙ sym q.1)

-- two answers are the same in their verdict
abbrev pub SameVerdict : Answer → Answer → Type 0
SameVerdict (Ok i) (Ok j) = i.verdict ≡ j.verdict
SameVerdict (Ok i) (Err y) = ⊥
SameVerdict (Err x) (Ok j) = ⊥
SameVerdict (Err x) (Err y) = x ≡ y

-- the number of a verdict is 0 or, of a ring, 65,536 and more, and at most that of routine 63 and name 15
verdict_few : (v : Verdict) → Short v → (verdict_number v ≡ 0) ⊎ ((65536 ≤ verdict_number v) × (verdict_number v ≤ 130528))
verdict_few SaysClear f = inl refl
verdict_few (SaysRing x) f = let l = f.0 in let k = f.1 in inr (omega arith, omega arith)

-- and tells the verdict
verdict_tells : (v w : Verdict) → Short v → Short w → verdict_number v ≡ verdict_number w → v ≡ w
verdict_tells SaysClear SaysClear f g e = refl
verdict_tells SaysClear (SaysRing y) f g e = absurd (omega arith)
verdict_tells (SaysRing x) SaysClear f g e = absurd (omega arith)
verdict_tells (SaysRing x) (SaysRing y) f g e =
    let l = f.1 in
    let k = g.1 in
    let r : x.routine ≡ y.routine = omega arith in
    let e' : x.name ≡ y.name = omega arith in
    λ i. SaysRing (record { routine = r i; name = e' i })

-- no verdict has the number of a refusal
no_refusal : (v : Verdict) (n : ℕ) → Short v → (1 ≤ n) × (n ≤ 15) → verdict_number v ≡ n → ⊥
no_refusal v n f g e = by (verdict_few v f)
  where
    by : (verdict_number v ≡ 0) ⊎ ((65536 ≤ verdict_number v) × (verdict_number v ≤ 130528)) → ⊥
    by (inl z) = let a = g.0 in omega arith
    by (inr w) = let a = g.1 in let b = w.0 in omega arith

-- the launcher's number tells the answer, but for the share and the rounds
pub number_tells : (a b : Answer) → Fits a → Fits b → number_of a ≡ number_of b → SameVerdict a b
number_tells (Ok i) (Ok j) f g e = verdict_tells i.verdict j.verdict f.0 g.0 e
number_tells (Ok i) (Err y) f g e = no_refusal i.verdict (refusal_number y) f.0 g e
number_tells (Err x) (Ok j) f g e = no_refusal j.verdict (refusal_number x) g.0 f (sym e)
number_tells (Err x) (Err y) f g e = sym (refusal_of_number x) ∙ ap refusal_of e ∙ refusal_of_number y

-- it is 0 for clear
pub clear_number : (s : Share) (m : ℕ) → number_of (Ok (record { verdict = SaysClear; share = s; rounds = m })) ≡ 0
clear_number s m = refl

-- for a ring it has the routine and the name
pub ring_number : (r x : ℕ) (s : Share) (m : ℕ)
    → number_of (Ok (record { verdict = SaysRing (record { routine = r; name = x }); share = s; rounds = m }))
    ≡ 65536 + 1024 * r + 32 * x
ring_number r x s m = refl

-- it is 0 to 15 or, of a ring, 65,536 and more, and at most that of routine 63 and name 15
pub number_few : (a : Answer) → Fits a → (number_of a ≤ 15) ⊎ ((65536 ≤ number_of a) × (number_of a ≤ 130528))
number_few (Ok j) f = by (verdict_few j.verdict f.0)
  where
    by : (verdict_number j.verdict ≡ 0) ⊎ ((65536 ≤ verdict_number j.verdict) × (verdict_number j.verdict ≤ 130528))
        → (verdict_number j.verdict ≤ 15) ⊎ ((65536 ≤ verdict_number j.verdict) × (verdict_number j.verdict ≤ 130528))
    by (inl z) = inl (omega arith)
    by (inr w) = inr w
number_few (Err r) f = inl f.1

-- the numbers of rounds are equal too, and the same model is left as where the verdict is asked for
pub rounds_number_unique :
    (table before after after' : List ℕ) (n m : ℕ) → RoundsAs table before after n → RoundsAs table before after' m
    → (after ≡ after') × (n ≡ m)
rounds_number_unique table before after after' n m p q =
    let same = analysed_unique table before after after' p.0 q.0 p.2 q.2 in
    (same.0, p.1 ∙ ap rounds_number same.1 ∙ sym q.1)

pub same_model :
    (table before after after' : List ℕ) (n m : ℕ) → AnalysedAs table before after n → RoundsAs table before after' m
    → after ≡ after'
same_model table before after after' n m p q =
    (analysed_unique table before after after' p.0 q.0 p.2 q.2).0

-- it is 1 to 15 or 65,536 and more, and at most that of the most rounds
pub rounds_number_few : (a : Answer) → Fits a
    → (rounds_number a ≤ 15) ⊎ ((65536 ≤ rounds_number a) × (rounds_number a ≤ 65536 + most_rounds))
rounds_number_few (Ok j) f = let l = f.1 in inr (omega arith, omega arith)
rounds_number_few (Err r) f = inl f.1
