-- `small_counts` meets its contract: `all` of the slice is the test of the counts.
use Rattle.std.proofs.Common.{◌≡◌, ◌∙◌, refl, leb, List, ℕ, Bool, ◌&&◌, rules, tests}
use Rattle.std.specs.List.{list_all}
use Rattle.std.proofs.lemmas.Iterator.{YieldsList-from_slice}
use Rattle.std.proofs.lemmas.Iterator.Search.{all_from_yields_List}
use Rattle.std.proofs.lemmas.List.Recursion.{same_from_clauses}
use Rattle.table.specs.Constants.{most_params}
use Rattle.table.specs.Check.{small?}
use Rattle.table.proofs.small_counts.Goals as goal

abbrev low : ℕ → Bool
low k = leb k most_params

small_all : (ks : List ℕ) → list_all low ks ≡ small? ks
small_all ks = same_from_clauses (list_all low) small? (λ k b. low k && b) refl (λ _ _. refl) (λ _ _. refl) ks

pub returns : goal.returns
returns c =
    all_from_yields_List low _ _ c.all.result c.all.ensures.ran (YieldsList-from_slice c.args.ks.now cc)
    (λ x b q k. search (rules, tests))
    ∙ small_all c.args.ks.now
