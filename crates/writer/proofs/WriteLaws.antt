-- The whole table: its parts in order, its length, and what is left of the buffer.
use Rattle.std.specs.Prelude.{◌≡◌, refl, List, [], ◌∷◌, ◌++◌, map, ℕ, ◌+◌, ◌/◌, ◌%◌, ◌≤◌, ◌<◌, length, get_or, drop, Ok, Err}
use Rattle.std.specs.Int.{w16, to_le_bytes}
use Rattle.std.specs.Option.{unwrap_or}
use Rattle.std.proofs.Common.{sym, ap, ◌∙◌, arith, length-append}
use Rattle.std.proofs.lemmas.List.{length-map}
use Rattle.std.proofs.lemmas.List.Edits.{sets}
use Rattle.std.proofs.Math.Seq.{sets-eq}
use Rattle.table.specs.WellFormed.{In}
use Rattle.table.specs.Program.{Program, params}
use Rattle.table.specs.Encoding.{encode_bodies, counts, encode_table}
use Rattle.table.specs.Check.{refused, check_table}
use Rattle.table.specs.Refusal.{refusal_of}
use Rattle.table.proofs.Laws.Sections.{params_at}
use Rattle.analysis.proofs.Laws.Refusals.{number_refused}
use Rattle.canon.specs.Canonical.{order, position, canonical, canonical_table}
use Rattle.canon.proofs.Laws.Limits.{canonical_within, length_canonical}
use Rattle.append.specs.Puts.{Puts}
use Rattle.append.specs.declared.text.Text.{Text}
use Rattle.append.specs.Laws.Putting.{then, equal_text}
use Rattle.order.specs.declared.Order.{Order}
use Rattle.order.specs.Items.{body_sizes}
use Rattle.order.specs.Ordering.{list_of}
use Rattle.order.specs.Standing.{HoldsAt}
use Rattle.order.proofs.OrderLaws.{list_length}
use Rattle.rewrite.specs.Writing.{new_number}
use Rattle.writer.specs.Answer.{short_output, Writes, longest_table}
use Rattle.writer.specs.Parts.{texts, counts_of, Ready, BodiesWritten, TableWritten, WritesAt}
use Rattle.writer.proofs.TableLaws.{texts_size}
use Rattle.writer.proofs.CanonLaws.{texts_canonical, counts_canonical}

-- a table that the check refuses leaves the buffer as it was
pub refused_by_check : (table before : List ℕ) (e : ℕ) → check_table table ≡ refused e
    → Writes table before before (Err (refusal_of e))
refused_by_check table before e h = record {
  refused_table = λ y g.
      let o : refused e ≡ refused y = sym h ∙ g in
      let z : e ≡ y = cc in
      (cc, number_refused table e h ∙ z, refl);
  accepted_table = λ P g. absurd (let z : ◌≡◌ {A = ℕ} 0 1 = cc in omega arith);
}

map_eq : (f g : ℕ → ℕ) → ((x : ℕ) → f x ≡ g x) → (l : List ℕ) → map f l ≡ map g l
map_eq f g e [] = refl
map_eq f g e (x ∷ l) = let a = e x in let b = map_eq f g e l in cc

-- the buffer after the table
after_table : (w l : List ℕ) → length w ≤ length l → sets l 0 w ≡ w ++ drop (length w) l
after_table w l h =
    let e : 0 + length w ≡ length w = omega arith in
    rw e at (sets-eq w l 0 (omega arith))

module _ {ks s starts : List ℕ} {o : Order} (ready : Ready ks s starts o) where
  module _ (P : Program) (h : HoldsAt P ks s starts) where
    placed : (r : ℕ) → In r (order P) → new_number o.places r ≡ position (order P) r
    placed r i =
        let e = ready.ordered.list P h in
        ap (λ x. unwrap_or x 0) (ready.ordered.listed.placed r (rw e i)) ∙ ap (λ (l : List ℕ). position l r) e

    bodies_are : texts o.places P (list_of o) ≡ encode_bodies (canonical P)
    bodies_are = ap (texts o.places P) (ready.ordered.list P h) ∙ texts_canonical P h.holds.limits o.places placed

    counts_are : counts_of ks (list_of o) ≡ counts (canonical P)
    counts_are = map_eq (λ r. get_or ks r 0) (params P) (params_at P ks s h.holds) (list_of o)
        ∙ ap (map (params P)) (ready.ordered.list P h) ∙ sym (counts_canonical P)

    count_is : length (list_of o) ≡ length (canonical P)
    count_is = ap length (ready.ordered.list P h) ∙ sym (length_canonical P h.holds.limits)

    bytes_is : o.bytes ≡ length (encode_bodies (canonical P))
    bytes_is = ready.ordered.bytes P h ∙ ap (body_sizes P) (sym (ready.ordered.list P h))
        ∙ sym (texts_size o.places P (list_of o)) ∙ ap length bodies_are

    few_here : o.bytes ≤ 4096
    few_here = let a = bytes_is in let b = (canonical_within P h.holds.limits).few_bytes in omega arith

    -- the table is its parts
    table_is : encode_table (canonical P)
        ≡ (length (list_of o) ∷ []) ++ (counts_of ks (list_of o) ++ (to_le_bytes w16 o.bytes ++ texts o.places P (list_of o)))
    table_is =
        let f = few_here in
        let e : o.bytes / 256 % 256 ≡ o.bytes / 256 = omega arith in
        rw (e, bodies_are, counts_are, count_is, bytes_is) refl

    total_is : 3 + o.count + o.bytes ≡ length (canonical_table P)
    total_is =
        let a = ap length table_is in
        let b = length-append (counts_of ks (list_of o)) (to_le_bytes w16 o.bytes ++ texts o.places P (list_of o)) in
        let c = length-map (list_of o) (λ r. get_or ks r 0) in
        let d = ap length bodies_are in
        let e = bytes_is in
        let f = list_length o ready.ordered.listed in
        omega arith

  pub few_bytes : o.bytes ≤ 4096
  few_bytes = few_here ready.held.0 ready.held.1

  pub small : 3 + o.count + o.bytes ≤ longest_table
  small = let a = few_bytes in let b = ready.ordered.listed.few in omega arith

  pub table_written : {a b c d e : Text} → Puts (length (list_of o) ∷ []) a b → Puts (counts_of ks (list_of o)) b c
      → Puts (to_le_bytes w16 o.bytes) c d → BodiesWritten ks s starts o d e → TableWritten ks s starts a e
  table_written f g i j P h = equal_text (table_is P h) (then f (then g (then i (j P h))))

  pub too_short : {l : List ℕ} → length l < 3 + o.count + o.bytes
      → WritesAt ks s starts l l (Err (refusal_of short_output))
  too_short lt P h = record {
    short = λ k. (refl, refl, refl);
    written = λ k. absurd (let t = total_is P h in omega arith);
  }

  pub all_written : {l n : List ℕ} (a b : Text) → a.bytes.now ≡ l → a.at ≡ 0 → n ≡ b.bytes.now
      → 3 + o.count + o.bytes ≤ length l → TableWritten ks s starts a b
      → WritesAt ks s starts l n (Ok (3 + o.count + o.bytes))
  all_written {l} {n} a b e z f le w P h = record {
    short = λ k. absurd (let t = total_is P h in omega arith);
    written = λ k. (
      ap Ok (total_is P h),
      f ∙ rw (e, z) at (w P h).appends.bytes ∙ after_table (canonical_table P) l k,
    );
  }
