-- The listing of an answer is what `list` leaves; a table that was judged has at most 64 routines, and a small share.
use Rattle.std.specs.Prelude.{◌≡◌, refl, List, ℕ, ◌*◌, ◌≤◌, ◌<◌, length, get_or, Ok, Err}
use Rattle.std.proofs.Common.{sym, ap, subst, ◌∙◌, arith}
use Rattle.std.proofs.Math.Decide.{dec_lt}
use Rattle.table.specs.Program.{Program}
use Rattle.table.specs.Constants.{row_bytes}
use Rattle.table.specs.Check.{Outcome, refused, accepted, check_table}
use Rattle.table.specs.Refusal.{refusal_of}
use Rattle.table.proofs.Laws.Accepts.{Bytes, accepted_few}
use Rattle.table.proofs.Laws.Sound.{sound}
use Rattle.table.proofs.Laws.Formed.{well_formed}
use Rattle.rules.proofs.Laws.Share.{percent_few, whole_exact, reached_few}
use Rattle.analysis.specs.Answer.{Answer, Shares, Analysed}
use Rattle.analysis.specs.declared.Share.{Share}
use Rattle.analysis.specs.declared.Judgement.{Judgement}
use Rattle.append.specs.Appends.{Appends}
use Rattle.listing.specs.Text.{listing, Listed}
use Rattle.listing.specs.Laws.Digits.{FewDigits}
use Rattle.listing.proofs.Laws.Texts.{sets_over}

module _ (T before after : List ℕ) (answer : Answer) (h : Analysed T before after answer) where
  -- an answer that judges is no refusal
  not_refused : (j : Judgement) (e : ℕ) → answer ≡ Ok j → answer ≡ Err (refusal_of e) → ⊥
  not_refused j e p q = cc

  pub judged_few : (j : Judgement) → Bytes T → answer ≡ Ok j → get_or T 0 0 ≤ 64
  judged_few j bytes p = by (check_table T) refl where
    by : (o : Outcome) → check_table T ≡ o → get_or T 0 0 ≤ 64
    by (refused e) c = absurd (not_refused j e p (h.refused_table e c).0)
    by (accepted P) c =
        let n = ap (λ (t : List ℕ). get_or t 0 0) (sound T P bytes c).0 in omega (arith, (accepted_few T P bytes c).0)

  -- its share is that of the table's program, and so it is small
  pub judged_small : (j : Judgement) → Bytes T → answer ≡ Ok j → FewDigits j.share
  judged_small j bytes p = by (check_table T) refl where
    small : (P : Program) (s : Share) → check_table T ≡ accepted P → Shares P s → FewDigits s
    small P s c sh =
        let few = (accepted_few T P bytes c).0 in
        let reached = reached_few P s.percent s.remainder s.reached sh (well_formed P (sound T P bytes c).1) in
        let below = sh.below in
        record {
          percent_few = percent_few P s.percent s.remainder s.reached sh;
          whole_exact = whole_exact P s.percent s.remainder s.reached sh;
          remainder_few = omega arith;
          reached_few = omega arith;
        }

    sized : (P : Program) → check_table T ≡ accepted P → Dec (length before < row_bytes * length P) → FewDigits j.share
    sized P c (yes lt) = absurd (not_refused j 15 p (h.refused_buffer P c lt).0)
    sized P c (no ge) =
        let w = h.judged P c (omega arith) in
        let same : ◌≡◌ {A = Answer} (Ok w.0) (Ok j) = sym w.1 ∙ p in
        let e : w.0 ≡ j = cc in
        small P j.share c (subst (λ (k : Judgement). Shares P k.share) e w.2.shares)

    by : (o : Outcome) → check_table T ≡ o → FewDigits j.share
    by (refused e) c = absurd (not_refused j e p (h.refused_table e c).0)
    by (accepted P) c = sized P c (dec_lt (length before) (row_bytes * length P))

  pub listed : {l x : List ℕ} {p : ℕ} (n : ℕ) (a : Answer) → n ≡ get_or T 0 0 → answer ≡ a
      → Appends 0 (listing n after a) l x p → Listed T before after l x p
  listed {l} {x} {p} n a en ea f =
      let g : Appends 0 (listing (get_or T 0 0) after answer) l x p =
      subst (λ (m : ℕ). Appends 0 (listing m after answer) l x p) en
      (subst (λ (b : Answer). Appends 0 (listing n after b) l x p) (sym ea) f) in
      record { answer = answer; analysed = h; text = g.bytes ∙ sets_over _ l; whole = omega (arith, g.place) }
