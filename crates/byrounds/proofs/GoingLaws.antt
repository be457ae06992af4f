-- The loop over rounds: what holds before each round, that its changes are passed on, and that the last one leaves the
-- model.
use mathlib.Core.Path.{◌≡◌, refl, ◌∙◌}
use mathlib.Core.Bool.{Bool, true, false, ◌&&◌}
use mathlib.Core.List.{List, [], ◌∷◌}
use mathlib.Core.Logic.{inr}
use Prim.Native.Nat.{ℕ, zero, suc, ◌+◌, ◌*◌, ◌/◌, ◌%◌, ◌^◌, ◌≤◌, ◌<◌}
use native.Mathlib.Omega.{arith}
use native.Mathlib.Decide.{ℕ_discrete, dec_lt}
use lib.Dec.{T, eqb, eqb→eq}
use lib.ListN.{length, get_or}
use Rattle.std.specs.Prelude.{Option, None}
use Rattle.table.specs.Constants.{row_bytes}
use Rattle.table.specs.Program.{Program, body}
use Rattle.table.proofs.Laws.Sections.{routines, few}
use Rattle.rules.specs.Label.{several, cut}
use Rattle.rules.specs.Model.{Model}
use Rattle.rules.specs.Verdict.{Calls}
use Rattle.rules.proofs.Laws.Least.{row_mono}
use Rattle.rules.proofs.Laws.Tests.{halves}
use Rattle.grid.specs.Rows.{Has}
use Rattle.rows.specs.Model.{Cleared}
use Rattle.rows.specs.Laws.Cells.{no_label}
use Rattle.rounds.specs.Rounds.{PairsIn, Changeless}
use Rattle.rounds.proofs.Laws.Steps.{in_model, all_same}
use Rattle.rounds.proofs.Laws.Bound.{changing_le}
use Rattle.settle.specs.Due.{All}
use Rattle.settle.specs.Settle.{AllFresh}
use Rattle.settle.specs.Bodies.{Linked}
use Rattle.settle.specs.Laws.Improving.{lowest_same}
use Rattle.byrounds.specs.Round.{CellsAre, RowIs, At, Placed, RoundStart, RoundEnd, RoundReady}
use Rattle.byrounds.specs.Round.{Rounded, CanPass, PassedOn, AllZero, CanBegin, RoundsDone}
use Rattle.byrounds.proofs.RoundLaws.{cells_move, same_cells_are, steady_next, to_after, to_pairs, from_pairs}

placed : (P : Program) (ks s starts callers : List ℕ) → Linked P ks s starts callers → Placed P ks s starts
placed P ks s starts callers k = record { holds = k.holds; start = k.start; starts_long = k.starts_long }

-- a row of zeros is the one before the first round
zero_cells : (P : Program) (rows : List ℕ) (q : ℕ) → ((i : ℕ) → i < 65 → get_or rows (65 * q + i) 0 ≡ 0)
    → CellsAre P 0 rows q
zero_cells P rows q z = record {
  to = λ a b l w. absurd (no_label (get_or rows (65 * q + 8 * a + b) 0) l (at a b w.0 w.1) w.2);
  from = λ a b l w. absurd w.1;
}
  where
    at : (a b : ℕ) → a < 8 → b < 8 → get_or rows (65 * q + 8 * a + b) 0 ≡ 0
    at a b la lb =
        let e : 65 * q + 8 * a + b ≡ 65 * q + (8 * a + b) = omega arith in
        rw e (z (8 * a + b) (omega arith))

zero_row : (P : Program) (model : List ℕ) (q : ℕ) → ((i : ℕ) → i < 65 → get_or model (65 * q + i) 0 ≡ 0)
    → RowIs P 0 model q
zero_row P model q z = record {
  cells = zero_cells P model q z;
  ring_to = λ e. absurd (let y = z 64 (omega arith) in omega arith);
  ring_from = λ w. absurd w.1;
  shaped = record {
    cells = λ i l. let e = z i (omega arith) in omega arith;
    last = let e = z 64 (omega arith) in omega arith;
  };
}

-- where the last round changed nothing, the rows are the model's
module _ (P : Program) (i : ℕ) (still : Changeless P i) (before model : List ℕ) (names : List (Option ℕ))
    (long : length model ≡ length before)
    (rest : (k : ℕ) → row_bytes * length P ≤ k → get_or model k 0 ≡ get_or before k 0)
    (rows : (q : ℕ) → q < length P → At P (suc i) model names q) where
  -- they are those after i rounds
  cells : (q : ℕ) → q < length P → CellsAre P i model q
  cells q h = record {
    to = λ a b l w. (still.cells q a b l).0 ((rows q h).row.cells.to a b l w);
    from = λ a b l w. (rows q h).row.cells.from a b l ((still.cells q a b l).1 w);
  }

  all_fresh : AllFresh P before model names
  all_fresh = record {
    long = long;
    rest = rest;
    shaped = λ q h. (rows q h).row.shaped;
    sound = λ q a b l w. row_mono P (PairsIn P i) (Model P) (in_model P i) q a b l (to_after P i model cells q a b l w);
    ring_sound = λ q h e.
        let w = (rows q h).row.ring_to e in (w.0, in_model P (suc i) q w.0 w.0 several w.1);
    fresh = λ q h. record {
      row = λ a b m w ha hb ne.
          let v = to_pairs P i model cells q a b m w in
          (h, (rows q h).row.cells.from a b (cut m) (m, v, ha, hb, ne, refl));
      ring = λ x w. (rows q h).row.ring_from (x, to_pairs P i model cells q x x several w);
      name = lowest_same (get_or names q None) (λ y w. from_pairs P i model cells q y y several w)
          (λ y w. to_pairs P i model cells q y y several w) (rows q h).name;
    };
  }

-- what is passed on is what the next round begins with
next_start : (P : Program) (i : ℕ) (old old' model : List ℕ) (names : List (Option ℕ)) (callers : List ℕ) (changed : Bool)
    (moved due : ℕ)
    → ((r q : ℕ) → q < length P → Calls (body P q) r → Has (get_or callers r 0) q) → due < 2 ^ length P
    → RoundEnd P i old model names changed moved → PassedOn callers moved model old old' due
    → RoundStart P (suc i) old' model names due
next_start P i old old' model names callers changed moved due callers_of below end pass = record {
  old_cells = λ q h. old_row q h (ℕ_discrete (moved / 2 ^ q % 2) 1);
  rows = end.rows;
  steady = λ q h n. steady_next P i q (λ p c l. end.still p l (λ b. n (pass.callers_due p q b (callers_of p q h c))));
  below = below;
}
  where
    old_row : (q : ℕ) → q < length P → Dec (Has moved q) → CellsAre P (suc i) old' q
    old_row q h (yes b) = cells_move P (suc i) model old' q (λ k l. pass.copied q k b l) (end.rows q h).row.cells
    old_row q h (no n) = cells_move P (suc i) old old' q (λ k l. pass.kept q k n l)
        (same_cells_are P i old q (end.still q h n) (end.old_cells q h))

-- what holds before each round: `done` were done, and each changed something
pub record Going (ks s starts callers old₀ from old model : List ℕ) (names : List (Option ℕ)) (due done : ℕ) : Type 0 where
  pub long : length model ≡ length from
  pub old_same : length old ≡ length old₀
  pub names_long : length names ≡ 64
  pub rest_same : (i : ℕ) → 65 * length ks ≤ i → get_or model i 0 ≡ get_or from i 0
  pub told : (P : Program) → Linked P ks s starts callers → RoundStart P done old model names due
  pub changing : (P : Program) → Linked P ks s starts callers → (j : ℕ) → j < done → Changeless P j → ⊥

-- what holds before the round of this number
pub record Numbered (ks s starts callers old₀ from old model : List ℕ) (names : List (Option ℕ)) (due number : ℕ)
    : Type 0 where
  pub done : ℕ
  pub next : number ≡ done + 1
  pub going : Going ks s starts callers old₀ from old model names due done

module _ {ks s starts callers old₀ from : List ℕ} {first : List (Option ℕ)}
    (start : AllZero ks s starts callers old₀ from first) where
  count : length ks ≡ length start.program
  count = routines start.program ks s start.linked.holds

  pub few_routines : length ks ≤ 64
  few_routines = few ks s (start.program, start.linked.holds)

  pub going_start : (due : ℕ) → All (length ks) due → Going ks s starts callers old₀ from old₀ from first due 0
  going_start due all = record {
    long = refl;
    old_same = refl;
    names_long = start.names_long;
    rest_same = λ i h. refl;
    told = λ P k.
        let e = routines P ks s k.holds in
        let c = count in
        let f = few_routines in
        record {
          old_cells = λ q h. zero_cells P old₀ q (λ i l. start.old_zero (65 * q + i));
          rows = λ q h. record {
            row = zero_row P from q (λ i l. start.zero (65 * q + i) (omega arith));
            name = rw (start.no_name q (omega arith)) (λ y w. w);
          };
          steady = λ q h n. absurd (n (all.bits.from q (omega arith)));
          below = rw e at all.below;
        };
    changing = λ P k j h. absurd (omega arith);
  }

  module _ {old model : List ℕ} {names : List (Option ℕ)} {due done : ℕ}
      (go : Going ks s starts callers old₀ from old model names due done) where
    pub few_done : done ≤ 148 * length ks
    few_done =
        let e = count in
        let h = changing_le start.program start.linked.holds.limits done
        (go.changing start.program start.linked) in
        omega arith

    pub round_ready : RoundReady ks s starts due old model names
    round_ready =
        let e = count in
        let l = start.long in
        let g = go.long in
        let o = go.old_same in
        let z = start.old_long in
        record {
          program = start.program;
          placed = placed start.program ks s starts callers start.linked;
          done = done;
          start = go.told start.program start.linked;
          old_long = omega arith;
          long = omega arith;
          names_long = go.names_long;
        }

    module _ {model' : List ℕ} {names' : List (Option ℕ)} {changed : Bool} {moved : ℕ}
        (round : Rounded ks s starts due old model model' names names' changed moved) where
      ended : (P : Program) → Linked P ks s starts callers → RoundEnd P done old model' names' changed moved
      ended P k = round.told P done (placed P ks s starts callers k) (go.told P k)

      -- the round changed nothing: it is the last
      pub last_round : changed ≡ false → RoundsDone ks s starts callers from model' names' (done + 1)
      last_round e P k l =
          let n = routines P ks s k.holds in (
            all_fresh P done still from model' names' (round.long ∙ go.long)
                (λ i h. round.rest i (omega arith) ∙ go.rest_same i (omega arith)) (ended P k).rows,
            record { before = done; number = omega arith; changeless = still; first = least },
          )
        where
          still : Changeless P done
          still = all_same P done ((ended P k).same e)

          least : (i : ℕ) → Changeless P i → done ≤ i
          least i c = at (dec_lt i done)
            where
              at : Dec (i < done) → done ≤ i
              at (yes h) = absurd (go.changing P k i h c)
              at (no h) = omega arith

      pub can_pass : CanPass callers moved model' old
      can_pass =
          let e = count in
          let l = start.long in
          let g = go.long in
          let f = round.long in
          record {
            routines = length ks;
            few = few_routines;
            callers_below = rw count start.linked.callers_below;
            below = rw count (ended start.program start.linked).below;
            long = omega arith;
            old_long = let o = go.old_same in let z = start.old_long in omega arith;
          }

      -- it changed something: another follows
      module _ (some : changed ≡ true) {old' : List ℕ} {due' : ℕ} (pass : PassedOn callers moved model' old old' due')
        where
          changed_too : (P : Program) → Linked P ks s starts callers → (j : ℕ) → j < suc done → Changeless P j → ⊥
          changed_too P k j h c = at (ℕ_discrete j done)
            where
              at : Dec (j ≡ done) → ⊥
              at (yes e) = (ended P k).other some (rw e at c)
              at (no n) = go.changing P k j (omega arith) c

          pub next_round : Going ks s starts callers old₀ from old' model' names' due' (done + 1)
          next_round = rw e (record {
            long = round.long ∙ go.long;
            old_same = pass.long ∙ go.old_same;
            names_long = round.names_long;
            rest_same = λ i h. round.rest i h ∙ go.rest_same i h;
            told = λ P k. next_start P done old old' model' names' callers changed moved due' k.callers_of
                (pass.below (length P) k.callers_below) (ended P k) pass;
            changing = changed_too;
          })
            where
              e : done + 1 ≡ suc done
              e = omega arith

-- a list of zeros alone, as a test
abbrev zeros? : List ℕ → Bool
zeros? [] = true
zeros? (x ∷ l) = let rest = zeros? l in eqb x 0 && rest

zeros_at : (l : List ℕ) → T (zeros? l) → (i : ℕ) → get_or l i 0 ≡ 0
zeros_at [] t i = refl
zeros_at (x ∷ l) t zero = eqb→eq x 0 (halves (eqb x 0) (zeros? l) t).0
zeros_at (x ∷ l) t (suc i) = zeros_at l (halves (eqb x 0) (zeros? l) t).1 i

module _ {ks s starts callers before : List ℕ} {names : List (Option ℕ)} (p : CanBegin ks s starts callers before names) where
  pub few_rows : 65 * length ks ≤ 4160
  few_rows = let f = few ks s (p.program, p.linked.holds) in omega arith

  pub room : 65 * length ks ≤ length before
  room = let e = routines p.program ks s p.linked.holds in let l = p.long in omega arith

  -- cleared rows are those before the first round
  pub all_zero : {cleared old : List ℕ} → Cleared 0 (65 * length ks) before cleared → 65 * length ks ≤ length old
      → T (zeros? old) → AllZero ks s starts callers old cleared names
  all_zero {old = old} k long none =
      let e = routines p.program ks s p.linked.holds in
      let l = p.long in
      let g = k.long in
      record {
        program = p.program;
        linked = p.linked;
        old_long = omega arith;
        long = omega arith;
        names_long = p.names_long;
        old_zero = zeros_at old none;
        zero = λ i h. k.zero i (omega arith) (omega arith);
        no_name = p.no_name;
      }

  -- what was done from cleared rows was done from the buffer
  pub done_from : {cleared after : List ℕ} {names' : List (Option ℕ)} {m : ℕ} → Cleared 0 (65 * length ks) before cleared
      → RoundsDone ks s starts callers cleared after names' m → RoundsDone ks s starts callers before after names' m
  done_from k d P known l =
      let e = routines P ks s known.holds in
      let g = k.long in
      let w = d P known (omega arith) in
      let f = w.0 in (
        record {
          long = f.long ∙ k.long;
          rest = λ i h. f.rest i h ∙ k.rest i (inr (omega arith));
          shaped = f.shaped;
          sound = f.sound;
          ring_sound = f.ring_sound;
          fresh = f.fresh;
        },
        w.1,
      )
