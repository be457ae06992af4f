-- `list_judged` meets its contract: the first line, the pairs, the share and the verdict, one after the other.
use Rattle.std.proofs.Common.{rules, ◌≡◌, ◌∷◌, [], ℕ, ◌<◌, ◌≤◌, arith, subst}
use Rattle.append.specs.Puts.{Puts}
use Rattle.append.specs.Laws.Putting.{then}
use Rattle.append.specs.declared.text.Text.{Text}
use Rattle.listing.specs.Text.{line, routines_word, pair_lines}
use Rattle.listing.proofs.LineLaws.{line_short}
use Rattle.listing.proofs.list_judged.Goals as goal

first_short : (n : ℕ) {a b : Text} → n < 100 → a.at ≡ 0 → Puts (line routines_word (n ∷ [])) a b → b.at ≤ 12
first_short n h z p = omega (arith, line_short 2 routines_word n (omega arith) h (omega arith), p.appends.place)

pub put_rows-requires : goal.put_rows-requires
put_rows-requires c =
    let first = first_short c.from.result (omega arith) c.new-text.ensures.at c.put_line.ensures in
    (omega arith, omega arith)

pub put_share-requires : goal.put_share-requires
put_share-requires c =
    let first = first_short c.from.result (omega arith) c.new-text.ensures.at c.put_line.ensures in
    (omega (arith, c.put_rows.ensures.few), c.requires.2)

pub put_verdict-requires : goal.put_verdict-requires
put_verdict-requires c =
    let first = first_short c.from.result (omega arith) c.new-text.ensures.at c.put_line.ensures in
    (omega (arith, c.put_rows.ensures.few, c.put_share.ensures.few), c.requires.1)

pub returns-clause-appends : goal.returns-clause-appends
returns-clause-appends c =
    let first = subst (λ n. Puts (line routines_word (n ∷ [])) c.new-text.result c.put_line.new.text) c.from.ensures
    c.put_line.ensures in
    let rows = subst (λ n. Puts (pair_lines n c.args.model.now) c.put_line.new.text c.put_rows.new.text) c.from-2.ensures
    c.put_rows.ensures.appends in
    let f = then (then (then first rows) c.put_share.ensures.appends) c.put_verdict.ensures.appends in
    search (rules, f)

pub returns-clause-few : goal.returns-clause-few
returns-clause-few c =
    let first = first_short c.from.result (omega arith) c.new-text.ensures.at c.put_line.ensures in
    omega (arith, c.put_rows.ensures.few, c.put_share.ensures.few, c.put_verdict.ensures.few)
