-- A run of a table: the first machine is on the run, the ticks are steady, and where they end the answer is the run's.
use Rattle.std.specs.Prelude.{◌≡◌, refl, ◌≢◌, Bool, true, false, List, ℕ, ◌<◌, ◌≤◌, ◌^◌, length, get_or, replicate, Ok, Err}
use Rattle.std.proofs.Common.{sym, ◌∙◌, ap, subst, arith, length-set, eq-eqb, ne_eqb}
use Rattle.std.proofs.Math.Decide.{ℕ_discrete}
use Rattle.table.specs.Constants.{most_names}
use Rattle.table.specs.Program.{Program, body}
use Rattle.table.specs.Check.{Outcome, refused, check_table}
use Rattle.table.specs.Refusal.{refusal_of}
use Rattle.table.specs.Laws.Splits.{SectionsOf}
use Rattle.table.proofs.Laws.Numbers.{number_of_refusal}
use Rattle.table.proofs.Laws.Formed.{well_formed}
use Rattle.table.proofs.Laws.Refusals.{refusals}
use Rattle.table.specs.Laws.Sections.{Holds}
use Rattle.table.proofs.Laws.Sections.{routines}
use Rattle.run.specs.Run.{ended, thread, start}
use Rattle.schedule.specs.Schedule.{End, all_ended, stuck, at_end, unstarted, beyond, Result, stop, runs}
use Rattle.schedule.proofs.Laws.Stuck.{never_stuck}
use Rattle.steps.specs.declared.thread.Thread.{Thread as Record}
use Rattle.steps.specs.declared.machine.Machine.{Machine}
use Rattle.steps.specs.Shown.{blank, Shows, ShowsAll}
use Rattle.steps.specs.declared.machine.Ending.{Ending}
use Rattle.steps.specs.declared.machine.Stage.{Stage}
use Rattle.steps.specs.declared.machine.Ending.TheVariants.{Stuck}
use Rattle.steps.specs.Machines.{is_born, is_over, starting_as}
use Rattle.steps.specs.declared.machine.Want.TheVariants.{Free}
use Rattle.links.specs.Lies.{Section, section, Lies, Bodies}
use Rattle.links.specs.Holding.{Links}
use Rattle.runner.specs.declared.Extent.{Extent}
use Rattle.runner.specs.declared.Stop.{Stop}
use Rattle.runner.specs.Answer.{Ran, extent_of, ending_of, ran_as, RunsAs, Runs}
use Rattle.runner.specs.Bounds.{Bounds}
use Rattle.runner.specs.Parts.{unbegun_as, first_machine, Stops}
use Rattle.runner.specs.Follows.{Follows}
use Rattle.runner.specs.Ticks.{looked, tick_as, Ticks, more, Steady}
use Rattle.runner.specs.Ticks as ticks
use Rattle.runner.specs.Tracks.{Tracks}
use Rattle.runner.proofs.Laws.Kept.{kept}
use Rattle.runner.proofs.Laws.Ready.{item_here}
use Rattle.runner.proofs.Laws.Runs.{OnRun, on_ticks, on_over}
use Rattle.runner.proofs.Laws.Settles.{over}
use Rattle.runner.proofs.Laws.Shows.{shows, begins_free, begins_small}
use Rattle.runner.proofs.Laws.Starts.{nothing, nothing_tracked, on_start}
use Rattle.runner.proofs.Laws.States.{not_both, written_as}
use Rattle.runner.proofs.Laws.Steady.{steady}

-- ticks keep the number of records
ticks_long : (z : Section) (ts us : List Record) (m n : Machine) → Ticks z ts m us n → length us ≡ length ts
ticks_long z ts us m n turns = go us n turns
  where
    go : (ws : List Record) (j : Machine) → Ticks z ts m ws j → length ws ≡ length ts
    go ws j ticks.start = refl
    go ws j (more vs xs k l before going v w sized) =
        ap length v ∙ length-set vs k.pick (tick_as z (looked vs k) k).thread ∙ go vs k before

-- nothing more is to be done, or something is
not_over_both : (w : Stage) → is_over w ≡ true → is_over w ≡ false → ⊥
not_over_both w p q = let z : ◌≡◌ {A = Bool} true false = sym p ∙ q in cc

-- where nothing more is to be done, nothing is
stays : (z : Section) (ts us : List Record) (m n : Machine) → is_over m.stage ≡ true → Ticks z ts m us n → (us ≡ ts) × (n ≡ m)
stays z ts us m n e turns = go us n turns
  where
    go : (ws : List Record) (j : Machine) → Ticks z ts m ws j → (ws ≡ ts) × (j ≡ m)
    go ws j ticks.start = (refl, refl)
    go ws j (more vs xs k l before going v w sized) =
        absurd (not_over_both k.stage
        (let s = go vs k before in ap (λ (q : Machine). is_over q.stage) s.1 ∙ e) going)

-- and the ticks can be taken, as there is none
pub can_rest : (z : Section) (ts : List Record) (m : Machine) → is_over m.stage ≡ true → Steady z ts m
can_rest z ts m e us n turns going =
    absurd (not_over_both n.stage
    (let s = stays z ts us m n e turns in ap (λ (q : Machine). is_over q.stage) s.1 ∙ e) going)

-- how far a run came, by its parts
same_extent : (a b c : ℕ) (x : Result) → a ≡ x.read → b ≡ length x.state.threads → c ≡ x.state.made
    → ◌≡◌ {A = Extent} (record { read = a; threads = b; locks = c }) (extent_of x)
same_extent a b c x e f g = rw (e, f, g) refl

-- a run that is not stuck does not end so
not_stuck_as : (w : End) → w ≢ stuck → ending_of w ≢ Stuck
not_stuck_as all_ended n q = cc
not_stuck_as stuck n q = n refl
not_stuck_as at_end n q = cc
not_stuck_as unstarted n q = cc
not_stuck_as beyond n q = cc

module _ (ks s heads links bs : List ℕ) (linked : Links ks s heads links) (P : Program) (h : Holds P ks s) where
  bodies : Bodies P (section ks s heads links bs)
  bodies = (linked P h).0 bs

  -- the body of routine 0 is the first
  first : (to : ℕ) × Lies (section ks s heads links bs) false 0 (body P 0) to
  first =
      let e = (linked P h).1 in
      let l = h.limits.some_routine in
      let d = routines P ks s h in
      let b = bodies 0 (omega (arith, l, d)) in
      (b.0, subst (λ (v : ℕ). Lies (section ks s heads links bs) false v (body P 0) b.0) e b.1)

  -- there is an item for a tick to look at
  pub some_byte : 1 ≤ length s
  some_byte = (item_here (section ks s heads links bs) false 0 (body P 0) first.0 first.1).inside

  bounds : length bs < 2 ^ 64 → Bounds (section ks s heads links bs)
  bounds l =
      let a = h.limits.few_bytes in
      let b = ap length h.bytes_are in
      let c = h.limits.few_routines in
      let d = routines P ks s h in
      record {
        some = some_byte;
        bytes = omega (arith, a, b);
        routines = omega (arith, c, d);
        schedule = l;
      }

  -- the first machine is on the run
  begins : (ts : List Record)
      → OnRun P (section ks s heads links bs) (runs P (length ts) bs) bodies ts (first_machine (length ts))
  begins ts = by (ℕ_discrete (length ts) 0)
    where
      Q : Machine → Type 0
      Q m = OnRun P (section ks s heads links bs) (runs P (length ts) bs) bodies ts m

      by : Dec (length ts ≡ 0) → Q (first_machine (length ts))
      by (yes e) =
          let w : first_machine (length ts) ≡ unbegun_as (length ts) = rw (eq-eqb (length ts) 0 e) refl in
          let r : runs P (length ts) bs ≡ stop beyond 0 nothing = rw (eq-eqb (length ts) 0 e) refl in
          subst Q (sym w) (nothing, (nothing_tracked (section ks s heads links bs) ts, over beyond refl r))
      by (no n) =
          let w : first_machine (length ts) ≡ starting_as (unbegun_as (length ts)) 0 (replicate most_names 0) Free =
          rw (ne_eqb (length ts) 0 n) refl in
          subst Q (sym w) (
            start P,
            on_start P (section ks s heads links bs) ts first.0 (omega (arith, n)) first.1
                (begins_free P h.limits) (begins_small P h.limits),
          )

  -- the ticks can be taken
  pub can_run : length bs < 2 ^ 64 → (ts : List Record) → Steady (section ks s heads links bs) ts (first_machine (length ts))
  can_run l ts =
      steady P (section ks s heads links bs) (runs P (length ts) bs) bodies (bounds l) ts (first_machine (length ts))
      (begins ts)

  -- where they end, the answer and the records are those of the run
  pub has_run : (ts us : List Record) (x : Stop) → Stops (section ks s heads links bs) ts (first_machine (length ts)) us x
      → RunsAs P bs ts us (Ok x)
  has_run ts us x stops = record {
    answer = answer;
    records = subst (λ (v : List ℕ). ShowsAll v R.state.threads ts us) h.bytes_are (record {
      as_many = ticks_long z ts us (first_machine (length ts)) n stops.ticks;
      shown = shown;
      kept = λ t g. let k = tracks.threads in
          kept P z R bodies ts us (first_machine (length ts)) n stops.ticks (begins ts) t (omega (arith, g, k));
    });
    not_stuck = λ clear y q.
        not_stuck_as R.why (never_stuck P (well_formed P h.limits) clear (length ts) bs) (stuck_there y q);
  }
    where
      z : Section
      z = section ks s heads links bs

      R : Result
      R = runs P (length ts) bs

      n : Machine
      n = stops.last

      result : (w : End) × (x.ending ≡ ending_of w)
          × (runs P (length ts) bs ≡ stop w stops.last.read (runs P (length ts) bs).state)
          × Tracks (section ks s heads links bs) (runs P (length ts) bs).state us stops.last
      result =
          on_over P z (runs P (length ts) bs) bodies us n x.ending
          (on_ticks P z (runs P (length ts) bs) bodies ts us (first_machine (length ts)) n stops.ticks (begins ts)) stops.over

      tracks : Tracks (section ks s heads links bs) (runs P (length ts) bs).state us stops.last
      tracks = result.3

      same : x.extent ≡ extent_of (runs P (length ts) bs)
      same =
          stops.extent
          ∙ same_extent n.read n.threads n.made (runs P (length ts) bs)
          (sym (ap (λ (v : Result). v.read) result.2)) tracks.threads tracks.made

      why : x.ending ≡ ending_of (runs P (length ts) bs).why
      why = result.1 ∙ ap ending_of (sym (ap (λ (v : Result). v.why) result.2))

      stop_is : (e : Ending) (y : Extent) → x.ending ≡ e → x.extent ≡ y → x ≡ record { ending = e; extent = y }
      stop_is e y p q = rw (sym p, sym q) refl

      answer : ◌≡◌ {A = Ran} (Ok x) (ran_as (runs P (length ts) bs).why (extent_of (runs P (length ts) bs)))
      answer =
          ap ok (stop_is (ending_of (runs P (length ts) bs).why) (extent_of (runs P (length ts) bs)) why same)
        where
          ok : Stop → Ran
          ok v = Ok v

      stuck_there : (y : Extent) → ◌≡◌ {A = Ran} (Ok x) (Ok (record { ending = Stuck; extent = y }))
          → ending_of (runs P (length ts) bs).why ≡ Stuck
      stuck_there y q = let e : x ≡ record { ending = Stuck; extent = y } = cc in sym why ∙ ap (λ (v : Stop). v.ending) e

      shown : (t : ℕ) → t < length (runs P (length ts) bs).state.threads
          → Shows s (get_or (runs P (length ts) bs).state.threads t ended) (get_or us t blank)
      shown t g =
          let on : is_born stops.last.stage ≡ false = ap is_born stops.over in
          shows z (thread (runs P (length ts) bs).state t) (get_or us t blank)
          (subst (λ (vs : List Record). Follows z (thread (runs P (length ts) bs).state t) (get_or vs t blank))
          (written_as us n on) (tracks.follows t g (tracks.sized t g (λ q. absurd (not_both stops.last.stage on q)))))

-- the answer for a table that is accepted
pub accepted_runs : (table ks s heads links bs : List ℕ) (P : Program) → SectionsOf P table ks s → Links ks s heads links
    → (ts us : List Record) (x : Stop) → Stops (section ks s heads links bs) ts (first_machine (length ts)) us x
    → Runs (check_table table) bs ts us (Ok x)
accepted_runs table ks s heads links bs P t linked ts us x stops =
    subst (λ (o : Outcome). Runs o bs ts us (Ok x)) (sym t.accepts)
    (has_run ks s heads links bs linked P t.holds ts us x stops)

-- and for one that is refused
pub refused_runs : (table bs : List ℕ) (e : ℕ) → check_table table ≡ refused e → (ts : List Record)
    → Runs (check_table table) bs ts ts (Err (refusal_of e))
refused_runs table bs e o ts =
    let l = refusals table e o in
    subst (λ (v : Outcome). Runs v bs ts ts (Err (refusal_of e))) (sym o)
    (refl, number_of_refusal e l.0 (omega (arith, l.1)), refl)
