-- The verdict and the share that are read off the rows are those that the rules give, with the number of rounds that it
-- took; and a clear verdict promises safe runs.
use mathlib.Core.Path.{◌≡◌, refl, sym}
use mathlib.Core.List.{List}
use Prim.Native.Nat.{ℕ, ◌*◌, ◌^◌, ◌≤◌, ◌<◌}
use native.Mathlib.Nat.{div-add-mod', mod-lt}
use native.Mathlib.Omega.{arith}
use lib.ListN.{length, replicate, get_or-replicate}
use lib.Bits.{bit_or, bit_xor, or_lt, xor_lt}
use lib.Count.{ones, ones-le}
use Rattle.std.specs.Prelude.{Option, None}
use Rattle.table.specs.Program.{Program}
use Rattle.table.specs.WellFormed.{WellFormed}
use Rattle.table.proofs.Laws.Formed.{well_formed}
use Rattle.rules.specs.Verdict.{Reached, first}
use Rattle.rules.specs.Share.{Count, ReachedRingless}
use Rattle.rules.proofs.Laws.Verdict.{body_calls, reached_within}
use Rattle.rules.proofs.Laws.Share.{count_some}
use Rattle.run.proofs.Laws.Safety.{clear_is_safe}
use Rattle.grid.specs.Rows.{Has, Bits}
use Rattle.grid.proofs.Laws.Masks.{has_zero, bits_map, bits_beyond}
use Rattle.rows.specs.Bytes.{RingByte}
use Rattle.analysis.specs.Answer.{Says, Shares, Short}
use Rattle.analysis.specs.declared.Judgement.{Judgement}
use Rattle.analysis.specs.declared.Share.{Share}
use Rattle.analysis.specs.declared.Verdict.{Verdict}
use Rattle.analysis.specs.declared.Verdict.TheVariants.{Clear, Ring}
use Rattle.settle.specs.Reach.{Reachable, CanReach}
use Rattle.settle.specs.Due.{Callers}
use Rattle.analysis.specs.Laws.Judging.{RingRows, AllNamed, Tells, Divided}
use Rattle.settle.specs.Settle.{AllFresh}
use Rattle.settle.specs.Bodies.{Known}
use Rattle.byrounds.specs.Round.{CanBegin, RoundsDone}
use Rattle.rounds.specs.Rounds.{Rounds}
use Rattle.rounds.proofs.Laws.Bound.{rounds_le}
use Rattle.analysis.specs.Laws.Judges.{Finished, Pronounces}
use Rattle.analysis.specs.Laws.Judges.{CanJudgeKnown, JudgesKnown}
use Rattle.analysis.proofs.ModelLaws.{are_models, ring_told, ring_named, no_ring, ring_at}
use Rattle.settle.specs.Laws.Starts.{reached_bits}
use Rattle.settle.specs.Laws.Links.{linked}
use Rattle.analysis.proofs.JudgingLaws.{count_bits}

module _ (calls model : List ℕ) (names : List (Option ℕ)) where
  pub rows_there : Finished calls model names → (length calls ≤ 64) × (65 * length calls ≤ length model)
  rows_there fin =
      let e = fin.known.surveyed.calls_long in
      let l = fin.known.holds.limits.few_routines in
      let g = fin.long in
      (omega arith, omega arith)

  pub can_reach : Finished calls model names → CanReach calls 0
  can_reach fin =
      let e = fin.known.surveyed.calls_long in
      let wf = well_formed fin.program fin.known.holds.limits in
      record {
        there = let l = wf.some_routine in omega arith;
        few = (rows_there fin).0;
        within = λ r q c.
            let l : r < length calls = c.0 in
            let k : r < length fin.program = omega arith in
            let w = body_calls fin.program wf r q k (fin.known.surveyed.calls_to r q k c.1) in
            omega arith;
      }

  -- what the masks of the reached routines, and of those of them with a ring, tell of a program that was surveyed
  module _ (reached rings : ℕ) (reach : Bits reached (Reachable calls 0))
      (found : RingRows model (length calls) reached rings) where
    module _ (P : Program) (ks s starts before : List ℕ) (known : Known P ks s starts calls)
        (part : AllFresh P before model names) where
      formed : WellFormed P
      formed = well_formed P known.holds.limits

      is_reached : Bits reached (Reached P)
      is_reached = reached_bits P formed starts calls known.surveyed reached reach

      ring_row : (r : ℕ) → Reached P r → RingByte model r → Has rings r
      ring_row r h b =
          let e = known.surveyed.calls_long in
          let l = reached_within P formed r h in
          found.from r (omega arith, (is_reached.from r h, b))

      says : (v : Verdict) → Tells rings names v → Says P v × Short v
      says Clear e = (
        no_ring P before model names part (reached_within P formed)
            (λ q h b. has_zero q (rw e at (ring_row q h b))),
        tt,
      )
      says (Ring ring) (low, l, e) =
          let w = found.to ring.routine low.bit in
          let h = ring_at P before model names part (reached_within P formed) ring.routine
          (is_reached.to ring.routine w.1.0) w.1.1
          (λ q k g b. low.lowest q k (ring_row q g b)) ring.name e in
          (h.0, (l, h.1))

      abbrev ringless : ℕ
      ringless = bit_xor (bit_or reached rings) rings

      is_ringless : Bits ringless (ReachedRingless P)
      is_ringless = bits_map
          (λ r h. (
            is_reached.to r h.0,
            λ x ring. h.1 (ring_row r (is_reached.to r h.0)
                (ring_told P before model names part r x (reached_within P formed r (is_reached.to r h.0)) ring)),
          ))
          (λ r h. (
            is_reached.from r h.0,
            λ g.
                let some = part.ring_sound r (reached_within P formed r h.0) (found.to r g).1.1 in
                h.1 some.0 some.1,
          ))
          (bits_beyond reached rings)

      module _ (low : reached < 2 ^ 64) (lows : rings < 2 ^ 64) where
        ringless_fits : ringless < 2 ^ 64
        ringless_fits = xor_lt 64 (bit_or reached rings) rings (or_lt 64 reached rings low lows) lows

        counted : Count (Reached P) (ones reached)
        counted = count_bits (Reached P) reached low is_reached

        counted_ringless : Count (ReachedRingless P) (ones ringless)
        counted_ringless = count_bits (ReachedRingless P) ringless ringless_fits is_ringless

        some_reached : 0 < ones reached
        some_reached = count_some 0 first counted

        shares : (share : Share) → Divided (ones ringless) (ones reached) share → Shares P share
        shares share d = rw (d.0, d.1, d.2) (record {
          c = ones ringless;
          reached = counted;
          ringless = counted_ringless;
          sum = sym (div-add-mod' (100 * ones ringless) (ones reached));
          below = mod-lt (100 * ones ringless) some_reached;
        })

    -- the routines with a ring have ring names
    pub all_named : Finished calls model names → AllNamed rings names
    all_named fin r h =
        let e = fin.known.surveyed.calls_long in
        let w = found.to r h in
        ring_named fin.program fin.before model names fin.fresh r (omega (arith, w.0)) w.1.1

    module _ (low : reached < 2 ^ 64) (lows : rings < 2 ^ 64) where
      -- there is a reached routine to divide by
      pub some_counted : Finished calls model names → 0 < ones reached
      some_counted fin =
          some_reached fin.program fin.ks fin.s fin.starts fin.before fin.known fin.fresh low lows

      -- the verdict and the share are those of the program
      pub pronounced : (c m : ℕ) (j : Judgement)
          → c ≡ ones (bit_xor (bit_or reached rings) rings) → m ≡ ones reached
          → Tells rings names j.verdict → Divided c m j.share → Pronounces calls model names j
      pronounced c m j ec em tells d P ks s starts before known part =
          let v = says P ks s starts before known part j.verdict tells in
          (v.0, shares P ks s starts before known part low lows j.share (rw (ec, em) at d), v.1)

-- the bits that are left of a mask are at most 64
pub few_counted : (reached rings : ℕ) → reached < 2 ^ 64 → rings < 2 ^ 64
    → ones (bit_xor (bit_or reached rings) rings) ≤ 64
few_counted reached rings low lows =
    ones-le 64 (bit_xor (bit_or reached rings) rings)
    (xor_lt 64 (bit_or reached rings) rings (or_lt 64 reached rings low lows) lows)

pub few_calls : (ks s starts calls model : List ℕ) → CanJudgeKnown ks s starts calls model → length calls ≤ 64
few_calls ks s starts calls model p =
    let e = p.known.surveyed.calls_long in
    let l = p.known.holds.limits.few_routines in
    omega arith

module _ (ks s starts calls callers : List ℕ) (turned : Callers calls callers) where
  pub can_begin : (model : List ℕ) → CanJudgeKnown ks s starts calls model
      → CanBegin ks s starts callers model (replicate 64 None)
  can_begin model p = record {
    program = p.program;
    linked = linked ks s starts calls callers turned p.program p.known;
    long = p.long;
    names_long = refl;
    no_name = λ q h. get_or-replicate 64 q None None h;
  }

  -- what the judgement leaves
  module _ (before after : List ℕ) (names : List (Option ℕ)) (m : ℕ)
      (done : RoundsDone ks s starts callers before after names m) where
    pub judged_known : (j : Judgement) → Pronounces calls after names j → j.rounds ≡ m
        → JudgesKnown ks s starts calls before after j
    judged_known j pr counts P known l =
        let settled = done P (linked ks s starts calls callers turned P known) l in
        let part = settled.0 in
        let rounds : Rounds P j.rounds = rw counts settled.1 in
        let most = rounds_le P known.holds.limits j.rounds rounds in
        let few = known.holds.limits.few_routines in
        let says = pr P ks s starts before known part in (
          record {
            model = are_models P before after names part;
            same_length = part.long;
            rest = part.rest;
            says = says.0;
            shares = says.1;
            rounds = rounds;
            safe = λ e. clear_is_safe P (well_formed P known.holds.limits) (rw e at says.0);
          },
          (says.2, omega arith),
        )

    pub finished_from : CanJudgeKnown ks s starts calls before → length after ≡ length before
        → Finished calls after names
    finished_from p e =
        let l = p.long in
        record {
          program = p.program;
          ks = ks;
          s = s;
          starts = starts;
          known = p.known;
          long = omega arith;
          before = before;
          fresh = (done p.program (linked ks s starts calls callers turned p.program p.known) l).0;
        }
