-- `run_fresh` meets its contract: the first of the desk's records were lent, and the others are fresh.
use Rattle.std.proofs.Common.{◌≡◌, sym, ◌∙◌, ap, subst, arith, List, ◌++◌, ℕ, ◌-◌, ◌≤◌, length, take, drop, length-append}
use Rattle.std.proofs.Math.ListN.{replicate}
use Rattle.std.proofs.Math.Seq.{take_at, drop_at}
use Rattle.std.proofs.lemmas.List.{take-replicate, drop-replicate, length-replicate}
use Rattle.schedule.specs.Limits.{most_threads}
use Rattle.steps.specs.declared.thread.Thread.{Thread as Record}
use Rattle.table.specs.Check.{Outcome}
use Rattle.runner.specs.Answer.{Ran, Runs}
use Rattle.runner.specs.Desk.{fresh, lent_of, RunsFresh}
use Rattle.runner.proofs.run_fresh.Goals as goal

-- what is said of a desk, where the first k of its records were lent and the run left them as us
ran_fresh : (o : Outcome) (bs : List ℕ) (n k : ℕ) (x : Record) (us : List Record) (r : Ran) → x ≡ fresh → k ≡ lent_of n
    → length us ≡ length (take k (replicate most_threads x))
    → Runs o bs (take k (replicate most_threads x)) us r
    → RunsFresh o bs n (record { ran = r; records = us ++ drop k (replicate most_threads x) })
ran_fresh o bs n k x us r is lent long runs =
    let few : lent_of n ≤ most_threads = omega arith in
    let front : take k (replicate most_threads x) ≡ replicate (lent_of n) fresh =
    rw (is, lent) (take-replicate (lent_of n) most_threads fresh few) in
    let back : drop k (replicate most_threads x) ≡ replicate (most_threads - lent_of n) fresh =
    rw (is, lent) (drop-replicate (lent_of n) most_threads fresh) in
    let count : length us ≡ lent_of n = long ∙ ap length front ∙ length-replicate (lent_of n) fresh in
    record {
      long = omega (
        arith,
        length-append us (drop k (replicate most_threads x)),
        count,
        few,
        ap length back ∙ length-replicate (most_threads - lent_of n) fresh,
      );
      ran = subst (λ (vs : List Record). Runs o bs (replicate (lent_of n) fresh) vs r)
          (sym (take_at us (drop k (replicate most_threads x)) (lent_of n) count)) (rw front at runs);
      rest = drop_at us (drop k (replicate most_threads x)) (lent_of n) count ∙ back;
    }

pub returns : goal.returns
returns c =
    ran_fresh _ c.args.schedule.now c.args.n c.min-lent.result c.blank-records.result c.run_schedule-ran.new.records
    c.run_schedule-ran.result c.blank-records.ensures c.min-lent.ensures c.run_schedule-ran.auto.records
    c.run_schedule-ran.ensures
