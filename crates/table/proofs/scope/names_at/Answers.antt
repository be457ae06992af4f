-- `names_at` meets its contract: the names are a part of the slice, and `all` of them is the test of each.
use Rattle.std.proofs.Common.{◌≡◌, refl, sym, ap, ◌∙◌, List, ℕ, ◌≤◌, length, take, drop, Bor, arith, rules, tests, inl, inr, ◌<◌}
use Rattle.std.specs.List.{list_all}
use Rattle.std.proofs.lemmas.Iterator.{YieldsList-from_slice}
use Rattle.std.proofs.lemmas.Iterator.Search.{all_from_yields_List}
use Rattle.table.specs.Check.{in?}
use Rattle.table.specs.Laws.ScopeMask.{bits}
use Rattle.table.proofs.NameLaws.{named_all, named_short, rest_is}
use Rattle.table.proofs.scope.names_at.Goals as goal

pub returns-in-Some : goal.returns-in-Some
returns-in-Some c =
    let a = c.args in
    let rest : c.unwrap_or-rest.result.now ≡ drop a.at a.s.now =
    ap (λ (v : Bor (List ℕ)). v.now) c.unwrap_or-rest.ensures
    ∙ rest_is a.s.now a.at c.get.result _ refl c.get.ensures.lookup.0 in
    let g = c.in-Some.ensures.lookup.0 in
    let few : a.q ≤ length (drop a.at a.s.now) = rw (← rest) g.1 in
    let names : c.in-Some.names.now ≡ take a.q (drop a.at a.s.now) =
    g.2 ∙ ap (λ (v : ℕ). take v c.unwrap_or-rest.result.now) (omega arith) ∙ ap (take a.q) rest in
    all_from_yields_List (λ x. in? x (bits a.scope)) _ _ c.all.result c.all.ensures.ran
    (YieldsList-from_slice c.in-Some.names.now cc) (λ x b q k. search (rules, tests))
    ∙ ap (list_all (λ x. in? x (bits a.scope))) names
    ∙ sym (named_all a.q (bits a.scope) (drop a.at a.s.now) few)

pub returns-in-None : goal.returns-in-None
returns-in-None c =
    let a = c.args in
    let rest : c.unwrap_or-rest.result.now ≡ drop a.at a.s.now =
    ap (λ (v : Bor (List ℕ)). v.now) c.unwrap_or-rest.ensures
    ∙ rest_is a.s.now a.at c.get.result _ refl c.get.ensures.lookup.0 in
    let few : length c.unwrap_or-rest.result.now < a.q =
    elim c.in-None.ensures.lookup.0 [ inl l ↦ absurd (omega arith) | inr l ↦ l ] in
    sym (named_short a.q (bits a.scope) (drop a.at a.s.now) (rw (← rest) few))
