-- Scanning a body item by item: what is called in all is what was met and what is called in what is left.
use mathlib.Core.Path.{◌≡◌}
use mathlib.Core.Logic.{◌⊎◌, inl, inr, ⊎_elim}
use mathlib.Core.List.{List, [], ◌∷◌, ◌++◌}
use mathlib.Core.Option.{none}
use Prim.Native.Nat.{ℕ, ◌+◌, ◌*◌, ◌%◌, ◌^◌, ◌-◌, ◌<◌}
use native.Mathlib.Omega.{arith}
use native.Mathlib.Nat.{one-mul}
use lib.ListN.{length, get_or, drop}
use lib.Pow.{shl_exact}
use Rattle.table.specs.Constants.{END, CALL, code}
use Rattle.table.specs.Program.{Code}
use Rattle.table.specs.Encoding.{encode}
use Rattle.rules.specs.Model.{at_head}
use Rattle.rules.specs.Verdict.{Calls}
use Rattle.grid.specs.Rows.{Has, Bits}
use Rattle.grid.proofs.Laws.Masks.{has_zero, has_pow, pow_has, bits_self, bits_map}
use Rattle.table.specs.Laws.Fine.{Fine, IsBody}
use Rattle.pairs.specs.Walks.{Passable, LevelReady, past_item, top_by}
use Rattle.pairs.proofs.Pending.{Level, level, past, Left, InLeft, AtItem, CallIn, CallAt}
use Rattle.pairs.specs.Parts.{Scans}
use Rattle.pairs.proofs.Steps.{Going, begins, place_there, few_levels, room, step, shrinks, none_left, end_met}
use Rattle.pairs.proofs.Steps.{call_met, call_here_lem}
use Rattle.pairs.proofs.Parts.{left_past, past_left, call_parts, parts_call, call_at}

-- the bit of q, as `1 << q`
pub bit_wide : (q : ℕ) → q < 64 → Bits (1 * 2 ^ q % 18446744073709551616) (λ j. j ≡ q)
bit_wide q l =
    rw (shl_exact {a = 1} 1 q 64 (omega arith) (omega arith), one-mul)
    (record { to = λ j h. pow_has q j h; from = λ j h. rw h (has_pow q) })

-- the scan of the body c, followed by t, is at the offset i, with an innermost open level, having met the calls
pub record Scanned (ks s : List ℕ) (c : Code) (t : List ℕ) (i top calls : ℕ) : Type 0 where
  pub levels : List Level
  pub left : Left ks s t i top levels
  pub met : (q : ℕ) → Has calls q → Calls c q
  pub pending : (q : ℕ) → InLeft (CallIn q) levels → Calls c q
  pub all : (q : ℕ) → Calls c q → Has calls q ⊎ InLeft (CallIn q) levels

-- the scan of each body that the bytes can be
pub record Scanning (ks s : List ℕ) (at i top calls : ℕ) : Type 0 where
  pub each : (k : ℕ) (c : Code) (t : List ℕ) → Fine ks k c → drop at s ≡ encode END c ++ t
      → Scanned ks s c t i top calls
  pub listed : (q : ℕ) → Has calls q → q < length ks

pub scan_start : (ks s : List ℕ) (at : ℕ) → Scanning ks s at at 0 0
scan_start ks s at = record {
  each = λ k c t f e. record {
    levels = level c none at_head ∷ [];
    left = begins ks s t at k c f e;
    met = λ q h. absurd (has_zero q h);
    pending = λ q h. ⊎_elim (λ z. z) (λ z. ⊎_elim (λ y. absurd y) (λ y. absurd y) z) h;
    all = λ q h. inr (inl h);
  };
  listed = λ q h. absurd (has_zero q h);
}

module _ {ks s : List ℕ} {at i top calls : ℕ} (p : Scanning ks s at i top calls) where
  module _ (b : (k : ℕ) × IsBody ks k s at) where
    abbrev here : Scanned ks s b.1.0 b.1.1 i top calls
    here = p.each b.0 b.1.0 b.1.1 b.1.2 b.1.3

    pub scan_there : i < length s
    scan_there = place_there ks s b.1.1 i top here.levels here.left

    pub scan_pass : Going s i top → Passable ks s i
    scan_pass g = record {
      here = scan_there;
      routine = λ e. let z = room ks s b.1.1 i top here.levels here.left g CALL e in (z.0, z.1);
    }

    pub scan_level : Going s i top → LevelReady (get_or s i 0) top
    scan_level g = record { some_open = g; few = few_levels ks s b.1.1 i top here.levels here.left }

    pub scan_less : Going s i top → length s - past_item ks s i < length s - i
    scan_less g = shrinks ks s b.1.1 i top here.levels here.left g

  scan_next : (r : ℕ) → Going s i top
      → ((t : List ℕ) (ls : List Level) → Left ks s t i top ls → Bits r (λ j. Has calls j ⊎ AtItem (CallAt j) ls))
      → ((q : ℕ) → Has r q → q < length ks) → Scanning ks s at (past_item ks s i) (top_by top (get_or s i 0)) r
  scan_next r g f l = record {
    each = λ k c t h e.
        let z = p.each k c t h e in
        let b = f t z.levels z.left in
        record {
          levels = past z.levels;
          left = step ks s t i top z.levels z.left g;
          met = λ q i. ⊎_elim (z.met q) (λ y. z.pending q (call_at q z.levels y)) (b.to q i);
          pending = λ q i. z.pending q (past_left (CallAt q) (CallIn q) (parts_call q) z.levels i);
          all = λ q i.
              ⊎_elim
              (λ y. inl (b.from q (inl y)))
              (λ y. ⊎_elim (λ x. inl (b.from q (inr x))) (λ x. inr x)
              (left_past (CallAt q) (CallIn q) (call_parts q) z.levels y))
              (z.all q i);
        };
    listed = l;
  }

  pub scan_call : (r : ℕ) → Going s i top → get_or s i 0 ≡ code CALL → get_or s (i + 1) 0 < length ks
      → Bits r (λ j. Has calls j ⊎ (j ≡ get_or s (i + 1) 0))
      → Scanning ks s at (past_item ks s i) (top_by top (get_or s i 0)) r
  scan_call r g e l b =
      scan_next r g
      (λ t ls q. bits_map
      (λ j. ⊎_elim (λ z. inl z) (λ z. inr (call_here_lem ks s t i top j ls q e z)))
      (λ j. ⊎_elim (λ z. inl z) (λ z. inr (call_met ks s t i top j ls q z).1)) b)
      (λ q h. ⊎_elim (p.listed q) (λ z. rw z l) (b.to q h))

  pub scan_other : Going s i top → (get_or s i 0 ≡ code CALL → ⊥)
      → Scanning ks s at (past_item ks s i) (top_by top (get_or s i 0)) calls
  scan_other g n =
      scan_next calls g
      (λ t ls q. bits_map (λ j z. inl z) (λ j. ⊎_elim (λ z. z) (λ z. absurd (n (call_met ks s t i top j ls q z).0)))
      (bits_self calls))
      p.listed

  pub scan_end : get_or s i 0 ≡ code END → top ≡ 0 → Scans ks s at (i + 1) calls
  scan_end e n = record {
    ends = λ k c t f h. let z = p.each k c t f h in end_met ks s t i top z.levels z.left e n at k c f h;
    only = λ k c t f h. (p.each k c t f h).met;
    all = λ k c t f h q j.
        let z = p.each k c t f h in
        ⊎_elim (λ y. y) (λ y. absurd (none_left ks s t i top z.levels z.left e n (CallIn q) (λ π x. x) y))
        (z.all q j);
    listed = p.listed;
  }
