-- The sections of a table that hold a program; those of an accepted table do, as code takes them.
use Rattle.table.specs.Laws.Sections.{Holds, Held, AcceptedAs}
use Rattle.table.specs.Laws.Splits.{SectionsOf}
use Rattle.std.specs.Prelude.{◌≡◌, List, ◌++◌, ℕ, suc, ◌+◌, ◌-◌, ◌≤◌, ◌<◌, length, get_or, take, drop, Ok}
use Rattle.std.proofs.Common.{Fits, w8, sym, ap, ◌∙◌, arith, length-append, length-drop, take_at, take_all}
use Rattle.std.proofs.Math.Decide.{dec_lt}
use Rattle.std.proofs.Math.ListN.{get_or-eq_default}
use Rattle.std.proofs.Math.Seq.{drop-append-add}
use Rattle.table.specs.Constants.{most_routines, most_params}
use Rattle.table.specs.Program.{Program, params}
use Rattle.table.specs.Encoding.{encode_table, encode_bodies, counts, two_bytes}
use Rattle.table.specs.Check.{accepted, check_table}
use Rattle.table.proofs.Laws.Sound.{sound, counts_length, counts_params}
use Rattle.table.specs.Answer.{checked_of}
use Rattle.table.specs.declared.Accepted.{Accepted}
use Rattle.table.proofs.Laws.Accepts.{Bytes, accepted_few, accepted_of}

module _ (P : Program) (ks s : List ℕ) (h : Holds P ks s) where
  pub routines : length ks ≡ length P
  routines = ap length h.params_are ∙ counts_length P

  pub params_at : (r : ℕ) → get_or ks r 0 ≡ params P r
  params_at r = ap (λ (v : List ℕ). get_or v r 0) h.params_are ∙ counts_params P r

  -- a parameter count is at most 7, and 0 beyond the last
  pub few_params : (r : ℕ) → get_or ks r 0 ≤ most_params
  few_params r = go (dec_lt r (length P))
    where
      go : Dec (r < length P) → get_or ks r 0 ≤ most_params
      go (yes l) = rw (params_at r) (h.limits.fits r l).few_params
      go (no n) =
          let e = routines in
          let z : get_or ks r 0 ≡ 0 = get_or-eq_default ks 0 {n = r} (omega (arith, e, n)) in
          omega (arith, z)

pub few : (ks s : List ℕ) → Held ks s → length ks ≤ most_routines
few ks s p = let e = routines p.0 ks s p.1 in let l = p.1.limits.few_routines in omega (arith, e, l)

module _ (P : Program) where
  -- what follows the parameter counts
  abbrev behind : List ℕ
  behind = two_bytes (length (encode_bodies P)) ++ encode_bodies P

  abbrev T : List ℕ
  T = encode_table P

  long : length T ≡ length P + 3 + length (encode_bodies P)
  long =
      let a : length (counts P ++ behind) ≡ length (counts P) + length behind = length-append (counts P) behind in
      let b : length (counts P) ≡ length P = counts_length P in
      omega arith

  first_part : take (length P + 1 - 1) (drop 1 T) ≡ counts P
  first_part =
      let e : length P + 1 - 1 ≡ length P = omega arith in
      ap (λ (v : ℕ). take v (counts P ++ behind)) e ∙ take_at (counts P) behind (length P) (counts_length P)

  second_part : take (length T - (length P + 3)) (drop (length P + 3) T) ≡ encode_bodies P
  second_part =
      let e : length P + 3 ≡ suc (length P + 2) = omega arith in
      let c : length P + 2 ≡ length (counts P) + 2 = ap (λ (v : ℕ). v + 2) (sym (counts_length P)) in
      let d : drop (length P + 3) T ≡ encode_bodies P =
      ap (λ (v : ℕ). drop v T) e ∙ ap (λ (v : ℕ). drop v (counts P ++ behind)) c
      ∙ drop-append-add (counts P) behind 2 in
      ap (take (length T - (length P + 3))) d
      ∙ take_all (length T - (length P + 3)) (encode_bodies P) (let l = long in omega arith)

-- the program of a table that was accepted with n routines
module _ (table : List ℕ) (bytes : Bytes table) (n : ℕ) (P : Program) (e : check_table table ≡ accepted P)
    (en : n ≡ length P) where
  is_table : table ≡ encode_table P
  is_table = (sound table P bytes e).0

  sections_there : n + 3 ≤ length table
  sections_there = let a = ap length is_table in let l = long P in omega arith

  first_byte : get_or table 0 0 ≡ n
  first_byte = ap (λ (v : List ℕ). get_or v 0 0) is_table ∙ sym en

  sections_hold : Holds P (take (n + 1 - 1) (drop 1 table)) (take (length table - (n + 3)) (drop (n + 3) table))
  sections_hold = record {
    params_are = rw (is_table, en) (first_part P);
    bytes_are = rw (is_table, en) (second_part P);
    limits = (sound table P bytes e).1;
  }

pub accepted_as : (table : List ℕ) (a : Accepted) → Bytes table → Ok a ≡ checked_of (check_table table)
    → AcceptedAs table a.routines
accepted_as table a bytes e =
    let n = a.routines in
    let o = accepted_of (check_table table) a e in
    record {
      program = o.0;
      accepts = o.1;
      size = o.2;
      few = let l = (accepted_few table o.0 bytes o.1).0 in let k : n ≡ length o.0 = o.2 in omega arith;
      there = sections_there table bytes n o.0 o.1 o.2;
      first = first_byte table bytes n o.0 o.1 o.2;
      holds = sections_hold table bytes n o.0 o.1 o.2;
    }

-- the counts of an accepted table are there
pub there_of : (table : List ℕ) (a : Accepted) → ((i : ℕ) → Fits w8 (get_or table i 0))
    → Ok a ≡ checked_of (check_table table) → AcceptedAs table a.routines
there_of table a fit e = accepted_as table a (λ i. omega (arith, fit i)) e

-- the parts of an accepted table, as code takes them
pub sections_of : (table : List ℕ) (n : ℕ) (h : AcceptedAs table n)
    → SectionsOf h.program table (take (n + 1 - 1) (drop 1 table)) (take (length table - (n + 3)) (drop (n + 3) table))
sections_of table n h = record {
  accepts = h.accepts;
  first = h.first ∙ h.size;
  counts_are = let e : n + 1 - 1 ≡ length h.program = omega (arith, h.size) in ap (λ (v : ℕ). take v (drop 1 table)) e;
  bodies_are =
      take_all (length table - (n + 3)) (drop (n + 3) table) (omega (arith, length-drop (n + 3) table))
      ∙ ap (λ (v : ℕ). drop (v + 3) table) h.size;
  holds = h.holds;
}
