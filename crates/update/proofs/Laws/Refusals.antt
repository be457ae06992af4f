-- The refusals in their order, with the numbers of docs/FORMAT.md: whatever else is wrong, the first ground counts. And
-- the launcher's numbers.
use Rattle.std.specs.Prelude.{◌≡◌, refl, List, ℕ, ◌*◌, ◌≤◌, ◌<◌, length, Ok, Err}
use Rattle.table.specs.Program.{Program}
use Rattle.table.specs.Check.{refused, accepted, check_table}
use Rattle.rounds.specs.OneBody.{OnlyBody}
use Rattle.table.specs.Refusal.{refusal_of}
use Rattle.table.specs.Refusal.{refusal_number as number}
use Rattle.table.specs.declared.refusal.Refusal.{Refusal}
use Rattle.table.specs.declared.refusal.Refusal.TheVariants.{ShortModel, OtherTable, BadModel}
use Rattle.update.specs.Answer.{Updated, Formed, Replaced, update_number}

module _ (old new : List ℕ) (r : ℕ) (before after : List ℕ) (answer : Updated)
    (u : Replaced old new r before after answer) where
  -- first the old table's refusal, whatever the new one is
  pub old_first : (e : ℕ) → check_table old ≡ refused e → answer ≡ Err (refusal_of e)
  old_first e h = (u.refused_old e h).0

  -- with its number
  pub old_number : (e : ℕ) → check_table old ≡ refused e → update_number answer ≡ e
  old_number e h = (u.refused_old e h).1

  module _ (P : Program) (p : check_table old ≡ accepted P) where
    -- then the new table's, however short the buffer is
    pub new_second : (e : ℕ) → check_table new ≡ refused e → answer ≡ Err (refusal_of e)
    new_second e h = (u.refused_new P e p h).0

    -- with its number
    pub new_number : (e : ℕ) → check_table new ≡ refused e → update_number answer ≡ e
    new_number e h = (u.refused_new P e p h).1

    module _ (Q : Program) (q : check_table new ≡ accepted Q) where
      -- then 15 by the old table's routines, however the tables differ
      pub short_third : length before < 65 * length P → answer ≡ Err ShortModel
      short_third l = (u.refused_buffer P Q p q l).0

      pub short_number : length before < 65 * length P → update_number answer ≡ 15
      short_number l = (u.refused_buffer P Q p q l).1

      module _ (l : 65 * length P ≤ length before) where
        -- then 18, whatever the model is
        pub other_fourth : ¬ OnlyBody P Q r → answer ≡ Err OtherTable
        other_fourth n = ((u.compared P Q p q l).refused_other n).0

        pub other_number : ¬ OnlyBody P Q r → update_number answer ≡ 18
        other_number n = ((u.compared P Q p q l).refused_other n).1

        -- then 19
        pub model_fifth : OnlyBody P Q r → ¬ Formed P before → answer ≡ Err BadModel
        model_fifth o n = ((u.compared P Q p q l).refused_model o n).0

        pub model_number : OnlyBody P Q r → ¬ Formed P before → update_number answer ≡ 19
        model_number o n = ((u.compared P Q p q l).refused_model o n).1

        -- and where there is none of these, done
        pub done_last : OnlyBody P Q r → Formed P before → answer ≡ Ok tt
        done_last o f = ((u.compared P Q p q l).done o f).0

-- the launcher's number is 0 for done
pub done_number : update_number (Ok tt) ≡ 0
done_number = refl

-- and of a refusal its own
pub refusal_number : (v : Refusal) → update_number (Err v) ≡ number v
refusal_number v = refl
