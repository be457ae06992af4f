-- The loop over due rows: what holds at each turn, that a turn is left for, and that the loop ends.
use mathlib.Core.Path.{◌≡◌, refl, ◌∙◌}
use mathlib.Core.Logic.{◌≢◌, ◌⊎◌, inl, inr, ⊎_elim}
use mathlib.Core.Bool.{Bool, true, false, ◌||◌}
use mathlib.Core.List.{List, []}
use Prim.Native.Nat.{ℕ, ◌+◌, ◌-◌, ◌*◌, ◌%◌, ◌^◌, ◌≤◌, ◌<◌}
use native.Mathlib.Omega.{arith}
use native.Mathlib.Decide.{ℕ_discrete}
use lib.ListN.{length, get_or, set, length-set}
use lib.Bits.{bit_or, or_lt, or_add_and}
use Rattle.std.specs.Prelude.{Option}
use Rattle.table.specs.Program.{Program, body}
use Rattle.table.specs.Laws.ScopeMask.{grows}
use Rattle.rules.specs.Verdict.{Calls}
use Rattle.grid.specs.Rows.{Has, Bits}
use Rattle.grid.proofs.Laws.Masks.{has_zero, has_below, has_left, has_right, has_or}
use Rattle.rows.specs.Model.{total, Moves}
use Rattle.rows.specs.Laws.Totals.{room_falls}
use Rattle.settle.specs.Settle.{PartlyWith, Fresh}
use Rattle.table.proofs.Laws.Sections.{routines, few}
use Rattle.settle.specs.Bodies.{Linked, BodyOf, BodyReady, RowReady, Improves}
use Rattle.settle.specs.Bodies.{Started, Settles}
use Rattle.settle.specs.Laws.Cleared.{has?}
use Rattle.settle.specs.Laws.Off.{rest_bits, rest_less, rest_below}
use Rattle.settle.proofs.SettleLaws.{improved_partly}

-- what is due may be told otherwise
partly_as : (P : Program) (T : ℕ → Type 0) (before model : List ℕ) (names more : List (Option ℕ)) (due next : ℕ → Type 0)
    → ((r : ℕ) → T r → (next r → ⊥) → Fresh P model more r)
    → PartlyWith P T before model names due → PartlyWith P T before model more next
partly_as P T before model names more due next f p = record {
  long = p.long;
  rest = p.rest;
  others = p.others;
  shaped = p.shaped;
  sound = p.sound;
  ring_sound = p.ring_sound;
  fresh = f;
}

-- the measure: the room for bits, and then the mask, which is below 2 ^ 65
abbrev pub size_left : List ℕ → ℕ → ℕ
size_left model left = (255 * length model - total model) * 36893488147419103232 + left

-- a change leaves less room, whatever is due then
pub less_changed : (model after : List ℕ) (left next : ℕ) (changed : Bool) → changed ≡ true
    → length after ≡ length model → ((i : ℕ) → get_or after i 0 < 256) → Moves changed model after
    → next < 36893488147419103232 → size_left after next < size_left model left
less_changed model after left next changed e long bytes moves b =
    let r = room_falls changed model after e long bytes moves in
    omega arith

-- without a change the mask is less
less_same : (model after : List ℕ) (left next : ℕ) → after ≡ model → next < left
    → size_left after next < size_left model left
less_same model after left next s b = rw s (omega arith)

-- where no cell changed the last byte may have, and else the mask is less
less_cells : (model after : List ℕ) (left next : ℕ) (cells last : Bool) → cells ≡ false → length after ≡ length model
    → ((i : ℕ) → get_or after i 0 < 256) → Moves (cells || last) model after → next < left → left < 36893488147419103232
    → size_left after next < size_left model left
less_cells model after left next cells true e long bytes moves b c =
    less_changed model after left next true refl long bytes (rw e at moves) (omega arith)
less_cells model after left next cells false e long bytes moves b c =
    less_same model after left next (rw e at moves) b

-- what holds at each turn, of the rows, the ring names, the mask of those that are due, and the last one worked out
pub record Going (ks s starts callers : List ℕ) (mask : ℕ) (from model : List ℕ) (names : List (Option ℕ)) (left last : ℕ)
    : Type 0 where
  pub long : length model ≡ length from
  pub names_long : length names ≡ 64
  pub within : (q : ℕ) → Has left q → Has mask q
  pub below : left < 2 ^ length ks
  pub swept : last < 64
  pub partly : (P : Program) (before : List ℕ) → Linked P ks s starts callers
      → PartlyWith P (Has mask) before from [] (Has mask) → PartlyWith P (Has mask) before model names (Has left)

-- a routine that is due: its row and its body are there, and so is its ring name
pub record Chosen (ks s starts : List ℕ) (model : List ℕ) (r : ℕ) : Type 0 where
  pub small : r < 64
  pub start_there : r < length starts
  pub ready : RowReady ks s (get_or starts r 0) r model model
  pub body_ready : BodyReady ks s (get_or starts r 0) r model

module _ {ks s starts callers : List ℕ} {mask : ℕ} {from : List ℕ} (st : Started ks s starts callers mask from) where
  few_routines : length ks ≤ 64
  few_routines = few ks s (st.program, st.linked.holds)

  pub going_start : (names : List (Option ℕ)) → length names ≡ 64 → Going ks s starts callers mask from from names mask 0
  going_start names f = record {
    long = refl;
    names_long = f;
    within = λ q h. h;
    below = rw (routines st.program ks s st.linked.holds) st.rising.below;
    swept = omega arith;
    partly = λ P before k p. partly_as P (Has mask) before from [] names (Has mask) (Has mask)
        (λ r t n. absurd (n t)) p;
  }

  listed_at : (P : Program) → Linked P ks s starts callers → (q : ℕ) → Has mask q → q < length P
  listed_at P k q h =
      let e = routines P ks s k.holds in
      let f = routines st.program ks s st.linked.holds in
      let l = has_below mask (length st.program) q st.rising.below h in
      omega arith

  module _ {model : List ℕ} {names : List (Option ℕ)} {left last : ℕ} (r : ℕ)
      (go : Going ks s starts callers mask from model names left last) (bit : Has left r) where
    listed : r < length ks
    listed = has_below left (length ks) r go.below bit

    at_body : (P : Program) → Linked P ks s starts callers → BodyOf P ks s (get_or starts r 0) r
    at_body P k =
        let e = routines P ks s k.holds in
        let b = listed in
        let l : r < length P = omega arith in
        record { holds = k.holds; listed = l; starts = k.start r l }

    pub chosen : Chosen ks s starts model r
    chosen =
        let b = at_body st.program st.linked in
        let l = st.long in
        let g = go.long in
        let f = few_routines in
        let i = listed in
        let j = b.listed in
        let m = st.linked.starts_long in
        record {
          small = omega arith;
          start_there = omega arith;
          ready = record {
            program = st.program;
            body_of = b;
            rows_long = omega arith;
            long = omega arith;
            shaped = (go.partly st.program st.before st.linked st.partly).shaped r b.listed;
          };
          body_ready = record { program = st.program; body_of = b; long = omega arith };
        }

    -- the mask without r
    abbrev pub rest : ℕ
    rest = left - (1 * 2 ^ r) % 18446744073709551616

    rest_off : Bits rest (λ j. (j ≢ r) × Has left j)
    rest_off = rest_bits (length ks) left r few_routines go.below bit

    low : rest < 2 ^ length ks
    low = rest_below (length ks) left r few_routines go.below bit

    callers_below : get_or callers r 0 < 2 ^ length ks
    callers_below = rw (routines st.program ks s st.linked.holds) (st.linked.callers_below.1 r)

    masks_fit : (rest < 2 ^ 64) × (get_or callers r 0 < 2 ^ 64)
    masks_fit =
        let g : 2 ^ length ks ≤ 2 ^ 64 = grows (length ks) 64 few_routines in
        let b = low in
        let m = callers_below in
        (omega arith, omega arith)

    -- what was due is r, or still due
    still : (q : ℕ) → Has left q → (q ≡ r) ⊎ Has rest q
    still q h = step (ℕ_discrete q r)
      where
        step : Dec (q ≡ r) → (q ≡ r) ⊎ Has rest q
        step (yes e) = inl e
        step (no n) = inr (rest_off.from q (n, h))

    module _ {after : List ℕ} {cells last_byte : Bool} {x : Option ℕ}
        (imp : Improves ks s (get_or starts r 0) r model model after cells last_byte x)
        (same_length : length after ≡ length model) where
      turn : (next : ℕ) → next < 2 ^ length ks → ((q : ℕ) → Has next q → Has mask q)
          → ((q : ℕ) → Has rest q → Has next q)
          → (cells ≡ true → (P : Program) → Linked P ks s starts callers → (q : ℕ) → q < length P
          → Calls (body P q) r → Has next q)
          → Going ks s starts callers mask from after (set names r x) next r
      turn next b m f g = record {
        long = same_length ∙ go.long;
        names_long = length-set names r x ∙ go.names_long;
        within = m;
        below = b;
        swept = let l = listed in let f = few_routines in omega arith;
        partly = λ P before k p.
            let o = at_body P k in
            improved_partly P (Has mask) (has? mask) (listed_at P k) before model after names r cells last_byte x
            (go.within r bit) (Has left) (go.partly P before k p)
            (imp P o) (let l = listed in let f = go.names_long in let n = few_routines in omega arith) (Has next)
            (λ q h. ⊎_elim (λ e. inl e) (λ x. inr (f q x)) (still q h)) (λ e. g e P k);
      }

      from_mask : (q : ℕ) → Has rest q → Has mask q
      from_mask q h = go.within q (rest_off.to q h).1

      -- the callers of r become due
      abbrev with_callers : ℕ
      with_callers = bit_or rest (get_or callers r 0)

      pub turn_changed : Going ks s starts callers mask from after (set names r x) with_callers r
      turn_changed = turn with_callers (or_lt (length ks) rest (get_or callers r 0) low callers_below)
          (λ q h. ⊎_elim (from_mask q) (λ y. st.rising.closed r q (go.within r bit) y)
          (has_or rest (get_or callers r 0) q h))
          (λ q h. has_left rest (get_or callers r 0) q h)
          (λ e P k q lq w. has_right rest (get_or callers r 0) q (k.callers_of r q lq w))

      moves : Moves (cells || last_byte) model after
      moves = (imp st.program (at_body st.program st.linked)).added.told

      pub less_then : cells ≡ true → ((i : ℕ) → get_or after i 0 < 256)
          → size_left after with_callers < size_left model left
      less_then e bytes =
          let b = masks_fit in
          let o = or_add_and rest (get_or callers r 0) in
          less_changed model after left with_callers (cells || last_byte) (rw e) same_length bytes moves (omega arith)

      pub less_else : cells ≡ false → ((i : ℕ) → get_or after i 0 < 256) → size_left after rest < size_left model left
      less_else e bytes =
          let g : 2 ^ length ks ≤ 2 ^ 64 = grows (length ks) 64 few_routines in
          let b = go.below in
          less_cells model after left rest cells last_byte e same_length bytes moves
          (rest_less (length ks) left r few_routines go.below bit) (omega arith)

      pub turn_same : cells ≡ false → Going ks s starts callers mask from after (set names r x) rest r
      turn_same e = turn rest low from_mask (λ q h. h)
          (λ z. absurd (let o : ◌≡◌ {A = ℕ} 0 1 = cc in omega arith))

pub all_done : {ks s starts callers : List ℕ} {mask : ℕ} {from model : List ℕ} {names : List (Option ℕ)} {left last : ℕ}
    → left ≡ 0 → Going ks s starts callers mask from model names left last → Settles ks s starts callers mask from model names
all_done {mask = mask} {model = model} {names = names} {left = left} e go P before k p =
    let q = go.partly P before k p in
    partly_as P (Has mask) before model names names (Has left) (λ r. ⊥)
    (λ r t n. q.fresh r t (λ h. has_zero r (rw e at h))) q
