-- The answer, case by case: what is refused by comparing, what by the model, and what is brought up to date.
use Rattle.std.specs.Prelude.{Ok, Err}
use mathlib.Core.Path.{◌≡◌, refl, sym, ap, ◌∙◌, subst}
use mathlib.Core.Bool.{Bool, true, false}
use mathlib.Core.List.{List}
use Prim.Native.Nat.{ℕ, ◌*◌, ◌≤◌, ◌<◌}
use native.Mathlib.Omega.{arith}
use lib.ListN.{length, get_or}
use Rattle.table.specs.Constants.{row_bytes}
use Rattle.table.specs.Program.{Program}
use Rattle.table.specs.Check.{refused, accepted, check_table}
use Rattle.table.specs.Refusal.{refusal_number, refusal_of}
use Rattle.table.specs.declared.refusal.Refusal.{Refusal}
use Rattle.table.specs.Laws.Sections.{Holds}
use Rattle.table.specs.Laws.Splits.{SectionsOf}
use Rattle.table.proofs.Laws.Refusals.{refusals}
use Rattle.table.proofs.Laws.Sections.{routines}
use Rattle.rows.specs.Model.{Shaped}
use Rattle.rounds.specs.OneBody.{OnlyBody}
use Rattle.rounds.proofs.Laws.OneBody.{bytes_of_only_body}
use Rattle.settle.specs.Due.{Callers}
use Rattle.settle.specs.Bodies.{BodyOf, Known}
use Rattle.settle.specs.Laws.Links.{linked}
use Rattle.analysis.specs.Answer.{short_buffer}
use Rattle.analysis.proofs.Laws.Refusals.{number_refused}
use Rattle.update.specs.Answer.{Updated, other_table, bad_model, Formed, Compared, Replaced, Fits}
use Rattle.update.specs.Parts.{Answers, RowsFit, CanRework, Reworks, CanCompare, Compares}
use Rattle.update.specs.Parts.{CanBringKnown, BringsKnown, Brings}
use Rattle.update.proofs.Laws.Fits.{formed_of_fits, fits_of_formed, shaped_of_formed}
use Rattle.update.proofs.Laws.Reworked.{up_to_date}
use Rattle.update.proofs.FitLaws.{told_true, told_false}

-- the second program was surveyed
module _ (ks s t starts calls : List ℕ) (r : ℕ) (listed : r < length ks) where
  body_of : (Q : Program) → Known Q ks t starts calls → BodyOf Q ks t (get_or starts r 0) r
  body_of Q k =
      let e = routines Q ks t k.holds in
      let l : r < length Q = omega arith in
      record { holds = k.holds; listed = l; starts = k.surveyed.start r l }

  pub can_compare : (model : List ℕ) → CanBringKnown ks s t starts calls r model
      → CanCompare ks s t (get_or starts r 0)
  can_compare model can = record {
    routine = r;
    old = can.old;
    old_held = can.old_held;
    new = can.new;
    new_body = body_of can.new can.new_known;
  }

  module _ (before : List ℕ) (c : Bool) (compares : Compares ks s t (get_or starts r 0) c) where
    -- the comparison failed
    pub brings_other : c ≡ false → BringsKnown ks s t starts calls r before before (Err (refusal_of other_table))
    brings_other e P Q p k = record {
      refused_other = λ n. (refl, refl, refl);
      refused_model = λ o n. absurd (differ o);
      done = λ o f. absurd (differ o);
    }
      where
        differ : ¬ OnlyBody P Q r
        differ = told_false c (OnlyBody P Q r) e (compares P Q r p (body_of Q k))

    module _ (e : c ≡ true) (d : Bool) (fits : Answers d (RowsFit ks before)) where
      only : (P Q : Program) → Holds P ks s → Known Q ks t starts calls → OnlyBody P Q r
      only P Q p k = told_true c (OnlyBody P Q r) e (compares P Q r p (body_of Q k))

      -- the model is not well formed
      pub brings_bad : d ≡ false → BringsKnown ks s t starts calls r before before (Err (refusal_of bad_model))
      brings_bad f P Q p k = record {
        refused_other = λ n. absurd (n (only P Q p k));
        refused_model = λ o n. (refl, refl, refl);
        done = λ o w. absurd (told_false d (RowsFit ks before) f fits (fits_of_formed P ks s p before w));
      }

      module _ (f : d ≡ true) (callers : List ℕ) (turned : Callers calls callers) where
        formed : (P : Program) (u : List ℕ) → Holds P ks u → Formed P before
        formed P u p = formed_of_fits P ks u p before (told_true d (RowsFit ks before) f fits)

        shaped : (Q : Program) → Known Q ks t starts calls → Shaped (length Q) before
        shaped Q k = shaped_of_formed Q ks t k.holds before (formed Q t k.holds)

        pub can_rework : CanBringKnown ks s t starts calls r before → CanRework ks t starts callers r before
        can_rework can =
            let n = routines can.new ks t can.new_known.holds in
            let l = can.long in
            record {
              program = can.new;
              linked = linked ks t starts calls callers turned can.new can.new_known;
              listed = omega arith;
              long = omega arith;
              shaped = shaped can.new can.new_known;
            }

        -- the rows were worked out anew
        pub brings_done : (after : List ℕ) → Reworks ks t starts callers r before after
            → BringsKnown ks s t starts calls r before after (Ok tt)
        brings_done after reworks P Q p k = record {
          refused_other = λ n. absurd (n (only P Q p k));
          refused_model = λ o n. absurd (n (formed P s p));
          done = λ o w. (
            refl,
            up_to_date Q r before after
                (reworks Q (linked ks t starts calls callers turned Q k) (shaped Q k)),
          );
        }

pub few_calls : (ks s t starts calls : List ℕ) (r : ℕ) (model : List ℕ) → CanBringKnown ks s t starts calls r model
    → (length calls ≤ 64) × (r < length starts)
few_calls ks s t starts calls r model can =
    let known = can.new_known in
    let c = known.surveyed.calls_long in
    let e = known.surveyed.starts_long in
    let n = routines can.new ks t known.holds in
    let l = known.holds.limits.few_routines in
    let h = can.listed in
    (omega arith, omega arith)

-- the parameter counts differ, or the routine is not one of the first program
module _ (P Q : Program) (ks s ls t : List ℕ) (p : Holds P ks s) (q : Holds Q ls t) (r : ℕ) (before : List ℕ) where
  differ : (r < length ks → ks ≡ ls → ⊥) → ¬ OnlyBody P Q r
  differ n o =
      let e = routines P ks s p in
      let h = o.listed in
      n (omega arith)
      (p.params_are ∙ (bytes_of_only_body P Q p.limits q.limits r o).same_counts ∙ sym q.params_are)

  pub compared_differ : (r < length ks → ks ≡ ls → ⊥) → Compared P Q r before before (Err (refusal_of other_table))
  compared_differ n = record {
    refused_other = λ k. (refl, refl, refl);
    refused_model = λ o k. absurd (differ n o);
    done = λ o f. absurd (differ n o);
  }

-- the whole call
module _ (old new : List ℕ) (r : ℕ) (before : List ℕ) where
  pub refused_by_old : (e : ℕ) → check_table old ≡ refused e → Replaced old new r before before (Err (refusal_of e))
  refused_by_old e h = record {
    refused_old = λ y g.
        let o : refused e ≡ refused y = sym h ∙ g in
        let z : e ≡ y = cc in
        (cc, number_refused old e h ∙ z, refl);
    refused_new = λ P y g k. absurd (let z : ◌≡◌ {A = ℕ} 0 1 = cc in omega arith);
    refused_buffer = λ P Q g k l. absurd (let z : ◌≡◌ {A = ℕ} 0 1 = cc in omega arith);
    compared = λ P Q g k l. absurd (let z : ◌≡◌ {A = ℕ} 0 1 = cc in omega arith);
  }

  module _ (P : Program) (h : check_table old ≡ accepted P) where
    pub refused_by_new : (e : ℕ) → check_table new ≡ refused e → Replaced old new r before before (Err (refusal_of e))
    refused_by_new e k = record {
      refused_old = λ y g. absurd (let z : ◌≡◌ {A = ℕ} 0 1 = cc in omega arith);
      refused_new = λ S y g l.
          let o : refused e ≡ refused y = sym k ∙ l in
          let z : e ≡ y = cc in
          (cc, number_refused new e k ∙ z, refl);
      refused_buffer = λ S Q g l m. absurd (let z : ◌≡◌ {A = ℕ} 0 1 = cc in omega arith);
      compared = λ S Q g l m. absurd (let z : ◌≡◌ {A = ℕ} 0 1 = cc in omega arith);
    }

    module _ (Q : Program) (k : check_table new ≡ accepted Q) where
      old_is : (S : Program) → check_table old ≡ accepted S → P ≡ S
      old_is S e = let o : accepted P ≡ accepted S = sym h ∙ e in cc

      new_is : (S : Program) → check_table new ≡ accepted S → Q ≡ S
      new_is S e = let o : accepted Q ≡ accepted S = sym k ∙ e in cc

      pub refused_short : length before < row_bytes * length P
          → Replaced old new r before before (Err (refusal_of short_buffer))
      refused_short s = record {
        refused_old = λ y g. absurd (let z : ◌≡◌ {A = ℕ} 0 1 = cc in omega arith);
        refused_new = λ S y g l. absurd (let z : ◌≡◌ {A = ℕ} 0 1 = cc in omega arith);
        refused_buffer = λ S R g l m. (refl, refl, refl);
        compared = λ S R g l m. absurd (let e = ap length (old_is S g) in omega arith);
      }

      pub replaced_by : row_bytes * length P ≤ length before → (after : List ℕ) (answer : Updated)
          → Compared P Q r before after answer → Replaced old new r before after answer
      replaced_by s after answer w = record {
        refused_old = λ y g. absurd (let z : ◌≡◌ {A = ℕ} 0 1 = cc in omega arith);
        refused_new = λ S y g l. absurd (let z : ◌≡◌ {A = ℕ} 0 1 = cc in omega arith);
        refused_buffer = λ S R g l m. absurd (let e = ap length (old_is S g) in omega arith);
        compared = λ S R g l m. rw (old_is S g, new_is R l) at w;
      }

-- the call, with the sections of both tables
module _ (old new ks s ls t : List ℕ) (r : ℕ) (before : List ℕ) (p : (P : Program) × SectionsOf P old ks s)
    (q : (Q : Program) × SectionsOf Q new ls t) (long : row_bytes * length ks ≤ length before) where
  fits : row_bytes * length p.0 ≤ length before
  fits = let e = routines p.0 ks s p.1.holds in omega arith

  pub brought : ks ≡ ls → (after : List ℕ) (answer : Updated) → Brings ls s t r before after answer
      → Replaced old new r before after answer
  brought e after answer w =
      replaced_by old new r before p.0 p.1.accepts q.0 q.1.accepts fits after answer
      (w p.0 q.0 (subst (λ (v : List ℕ). Holds p.0 v s) e p.1.holds) q.1.holds)

  pub unlike : (r < length ks → ks ≡ ls → ⊥) → Replaced old new r before before (Err (refusal_of other_table))
  unlike n =
      replaced_by old new r before p.0 p.1.accepts q.0 q.1.accepts fits before (Err (refusal_of other_table))
      (compared_differ p.0 q.0 ks s ls t p.1.holds q.1.holds r before n)

-- a refusal of the check is one of those that an answer may have
pub refusal_fits : (table : List ℕ) (v : Refusal) → (e : ℕ) × (check_table table ≡ refused e) × (v ≡ refusal_of e)
    → Fits (Err v)
refusal_fits table v (e, h, q) =
    let l = refusals table e h in
    let n : refusal_number v ≡ e = ap refusal_number q ∙ number_refused table e h in
    (omega arith, omega arith)
