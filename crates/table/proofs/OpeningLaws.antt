-- What stands at a cursor, where the code's way to it differs from the check's: a CALL's names, and the two blocks of a
-- CHOICE.
use Rattle.std.proofs.Common.{◌≡◌, refl, sym, ap, ◌∙◌, Bool, true, false, List, ◌∷◌, ℕ, zero, suc, ◌+◌, ◌-◌, ◌≤◌, ◌<◌}
use Rattle.std.proofs.Common.{length, get_or, drop, length-drop, add-one, drop-cons, arith, ne_eqb}
use Rattle.std.proofs.Math.Option.{none}
use Rattle.std.proofs.lemmas.Bool.{lt-leb}
use Rattle.table.specs.Constants.{CHOICE, code, op_of}
use Rattle.table.specs.Program.{Code}
use Rattle.table.specs.Check.{a_choice, Place, past, Block, ok, bad, Head, more, opened, named, block, item, item_if}
use Rattle.table.specs.Laws.ScopeMask.{bits}
use Rattle.table.specs.Laws.Readers.{place_of, with_item, past_block, read_of, head_of, item_answer}
use Rattle.table.specs.Laws.Readers.{after_last, after_first, Ready, Opens, call_answer}
use Rattle.table.specs.declared.bodies.Cursor.{Cursor}
use Rattle.table.specs.declared.bodies.Opening.TheVariants.{Plain, Two}
use Rattle.table.specs.declared.refusal.Refusal.TheVariants.{UnknownName, UnknownCode}
use Rattle.std.specs.Prelude.{Ok, Err}
use Rattle.table.proofs.Laws.Sound.{named_fit}
use Rattle.table.proofs.ReaderLaws.{read_ready, item_ready}

-- a byte that is none of the codes has no kind
pub no_kind : (b : ℕ) → 8 ≤ b → op_of b ≡ none
no_kind zero l = absurd (omega arith)
no_kind (suc zero) l = absurd (omega arith)
no_kind (suc (suc zero)) l = absurd (omega arith)
no_kind (suc (suc (suc zero))) l = absurd (omega arith)
no_kind (suc (suc (suc (suc zero)))) l = absurd (omega arith)
no_kind (suc (suc (suc (suc (suc zero))))) l = absurd (omega arith)
no_kind (suc (suc (suc (suc (suc (suc zero)))))) l = absurd (omega arith)
no_kind (suc (suc (suc (suc (suc (suc (suc zero))))))) l = absurd (omega arith)
no_kind (suc (suc (suc (suc (suc (suc (suc (suc b)))))))) l = refl

module _ (ks s : List ℕ) (own : ℕ) (p : Cursor) where
  abbrev here : Place
  here = place_of own p

  abbrev rest : List ℕ
  rest = drop (p.at + 1) s

  second : p.at + 1 < length s → rest ≡ get_or s (p.at + 1) 0 ∷ drop (p.at + 2) s
  second l =
      let e : suc (p.at + 1) ≡ p.at + 2 = omega arith in
      drop-cons s (p.at + 1) 0 l ∙ ap (λ (v : ℕ). get_or s (p.at + 1) 0 ∷ drop v s) e

  -- a CALL with its routine byte r, which has q parameters
  module _ (l : p.at + 1 < length s) (r : ℕ) (er : r ≡ get_or s (p.at + 1) 0) (h : r < length ks) (q : ℕ)
      (eq : q ≡ get_or ks r 0) where
    pub call_unnamed : named q (bits p.scope) (drop (p.at + 2) s) ≡ false → Err UnknownName ≡ call_answer ks s own p
    call_unnamed i = rw (second l, ← er, lt-leb (length ks) r h, ← eq, i)

    call_fits : named q (bits p.scope) (drop (p.at + 2) s) ≡ true → p.at + 2 + q ≤ length s
    call_fits i =
        let f : q ≤ length (drop (p.at + 2) s) = named_fit q (bits p.scope) (drop (p.at + 2) s) i in
        omega (arith, length-drop (p.at + 2) s)

    pub call_named : named q (bits p.scope) (drop (p.at + 2) s) ≡ true
        → Ok (Plain (with_item p (p.at + 2 + q))) ≡ call_answer ks s own p
    call_named i =
        let f : p.at + 2 + q ≤ length s = call_fits i in
        let x : length s - length (drop q (drop (p.at + 2) s)) ≡ p.at + 2 + q =
        omega (arith, length-drop q (drop (p.at + 2) s), length-drop (p.at + 2) s) in
        rw (second l, ← er, lt-leb (length ks) r h, ← eq, i, x)

  module _ (d : ℕ) (first : Bool) (lt : p.at < length s) where
    by_code : (b : ℕ) → get_or s p.at 0 ≡ b
        → item_answer ks s own p d first ≡ head_of s p (item_if (block ks) ks d first here (op_of b) rest)
    by_code b e = ap (λ (v : List ℕ). head_of s p (item ks d first here v))
        (drop-cons s p.at 0 lt ∙ ap (λ (v : ℕ). get_or s p.at 0 ∷ drop v s) (sym (add-one p.at))
        ∙ ap (λ (v : ℕ). v ∷ rest) e)

    pub unknown : op_of (get_or s p.at 0) ≡ none → Opens ks s own p d first (Err UnknownCode)
    unknown e = record { answer = sym (by_code (get_or s p.at 0) refl ∙ rw e); ready = tt }

    -- the second alternative of a choice, read after the first
    abbrev second_of : Code → List ℕ → Head
    second_of a t = opened (block ks (d - 1) false (past here a) t) (λ b u. more (a_choice a b) u)

    -- the last block of a choice whose first one is a
    last_of : (a : Code) (x : ℕ) (b : Block)
        → after_last (read_of s (past_block a (with_item p (p.at + 1)) x) b)
        ≡ head_of s p (opened b (λ c t. more (a_choice a c) t))
    last_of a x (ok c t) = refl
    last_of a x (bad e) = refl

    two_blocks : Ready own p → (b : Block) → block ks (d - 1) true here rest ≡ b
        → after_first ks s own d (read_of s (with_item p (p.at + 1)) b) ≡ head_of s p (opened b second_of)
    two_blocks rd (bad x) e = refl
    two_blocks rd (ok c t) e =
        let x : ℕ = length s - length t in
        let r : t ≡ drop x s =
        (read_ready ks s own (with_item p (p.at + 1)) (d - 1) true (item_ready own p rd 1 (omega arith))
        (past_block c (with_item p (p.at + 1)) x) (ap (read_of s (with_item p (p.at + 1))) e)).1 c t e in
        last_of c x (block ks (d - 1) false (past here c) (drop x s))
        ∙ ap (λ (v : List ℕ). head_of s p (second_of c v)) (sym r)

    pub choice_opens : Ready own p → 0 < d → get_or s p.at 0 ≡ code CHOICE
        → Opens ks s own p d first (Ok (Two (with_item p (p.at + 1))))
    choice_opens rd some e = record {
      answer = two_blocks rd (block ks (d - 1) true here rest) refl
          ∙ sym (by_code (code CHOICE) e ∙ rw (ne_eqb d 0 (λ z. omega arith)));
      ready = (some, item_ready own p rd 1 (omega arith));
    }
