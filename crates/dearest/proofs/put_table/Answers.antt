-- `put_table` meets its contract: the parts of the table, one after the other.
use Rattle.std.proofs.Common.{ap, arith, length, refl, subst, sym, ◌∙◌, ◌∷◌, [], ℕ, ◌%◌, ◌/◌, ◌+◌, ◌*◌, ◌-◌}
use Rattle.append.specs.Appends.{Appends}
use Rattle.append.specs.Laws.Appending.{equal_text, first_part, second_part}
use Rattle.rounds.specs.Chain.{chain_table}
use Rattle.dearest.specs.Laws.Parts.{counts_long, low_and_high, table_parts}
use Rattle.dearest.proofs.put_table.Goals as goal

pub put-requires : goal.put-requires
put-requires c =
    let long = counts_long c.args.n in
    omega (arith, c.put_byte.ensures.appends.place, c.put_counts.ensures.appends.place, ap length c.to_le_bytes.ensures)

pub put_bodies-requires : goal.put_bodies-requires
put_bodies-requires c =
    let long = counts_long c.args.n in (
      omega (
        arith,
        c.put_byte.ensures.appends.place,
        c.put_counts.ensures.appends.place,
        ap length c.to_le_bytes.ensures,
        c.put.ensures.appends.place,
      ),
      c.requires.2,
    )

pub returns : goal.returns
returns c =
    let n = c.args.n in
    let before = c.args.text.now.bytes.now in
    let one = c.put_byte.new.self in
    let after = c.put_bodies.new.text in
    let size = 7 * (n - 1) + 17 in
    let low = size % 256 ∷ [] in
    let high = size / 256 ∷ [] in
    let first = subst (λ (i : ℕ). Appends i (n ∷ []) before one.bytes.now one.at)
    c.requires.0 c.put_byte.ensures.appends in
    let both = equal_text (sym (c.to_le_bytes.ensures ∙ low_and_high size (omega arith))) c.put.ensures.appends in
    let whole = table_parts n size c.requires.1 refl first c.put_counts.ensures.appends (first_part low _ _)
    (second_part low high both) c.put_bodies.ensures.appends in
    record {
      same = c.put_bodies.ensures.same ∙ c.put.ensures.same ∙ c.put_counts.ensures.same ∙ c.put_byte.ensures.same;
      appends =
          subst (λ (i : ℕ). Appends i (chain_table n) before after.bytes.now after.at)
          (sym c.requires.0) whole;
    }
