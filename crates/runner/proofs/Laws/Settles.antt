-- What the machine does next is what the run under the schedule does next.
use Rattle.std.specs.Prelude.{◌≡◌, refl, Bool, true, false, cond, List, [], ◌∷◌, ℕ, zero, suc, ◌%◌, ◌<◌, ◌≤◌}
use Rattle.std.specs.Prelude.{length, get_or, drop, set}
use Rattle.std.proofs.Common.{sym, ◌∙◌, ap, subst, arith, length-set, le-leb}
use Rattle.std.proofs.Math.Decide.{dec_lt}
use Rattle.steps.specs.Records.{born_at}
use Rattle.runner.specs.Ticks.{looked}
use Rattle.std.proofs.lemmas.Bool.{lt-leb}
use Rattle.table.specs.Program.{Program}
use Rattle.run.specs.Run.{State, thread, turn}
use Rattle.schedule.specs.Limits.{most_threads}
use Rattle.schedule.specs.Schedule.{turn_of, beyond?, Outlook, none_left, all_wait, some_can, outlook, End, all_ended}
use Rattle.schedule.specs.Schedule.{stuck, at_end, unstarted, beyond, Result, stop, run_from}
use Rattle.steps.specs.declared.thread.Thread.{Thread as Record}
use Rattle.steps.specs.Shown.{blank}
use Rattle.steps.specs.declared.machine.Machine.{Machine}
use Rattle.steps.specs.declared.machine.Ending.{Ending}
use Rattle.steps.specs.declared.machine.Ending.TheVariants.{Ended, Stuck, Open, Unstarted}
use Rattle.steps.specs.declared.machine.Stage.TheVariants.{Born, Turn, Over}
use Rattle.steps.specs.Machines.{is_born, is_open}
use Rattle.runner.specs.Answer.{ending_of}
use Rattle.steps.specs.Machines.{turned, over_as, view, next_byte, settled_as}
use Rattle.links.specs.Lies.{Section}
use Rattle.runner.specs.Ticks.{Sized}
use Rattle.runner.specs.Tracks.{outlook_ending, written, Tracks}
use Rattle.runner.proofs.Laws.Outlooks.{view_is}
use Rattle.runner.proofs.Laws.States.{written_as}

-- the bytes from an offset on: the one there, and the rest
pub drop_step : (l : List ℕ) (i : ℕ) → i < length l → drop i l ≡ get_or l i 0 ∷ drop (suc i) l
drop_step [] i h = absurd (omega (arith, h))
drop_step (x ∷ l) zero h = refl
drop_step (x ∷ l) (suc i) h = drop_step l i (omega (arith, h))

pub drop_end : (l : List ℕ) (i : ℕ) → length l ≤ i → drop i l ≡ []
drop_end [] zero h = refl
drop_end [] (suc i) h = refl
drop_end (x ∷ l) zero h = absurd (omega (arith, h))
drop_end (x ∷ l) (suc i) h = drop_end l i (omega (arith, h))

-- the result of the whole run is that of the bytes that are left, in this state
abbrev pub Next : Program → Section → Result → State → Machine → Type 0
Next P z R s m = R ≡ run_from P m.lent s m.read (drop m.read z.schedule)

-- the byte that is due can be taken
pub record Due (z : Section) (s : State) (m : Machine) : Type 0 where
  pub some : outlook s ≡ some_can
  pub inside : m.read < length z.schedule
  pub picks : m.pick ≡ get_or z.schedule m.read 0 % most_threads
  pub started : m.pick < length s.threads

-- the machine at each stage: a record is to be written, a byte to be taken, or the run has stopped
pub data Stage (P : Program) (z : Section) (R : Result) (s : State) (m : Machine) : Type 0 where
  births : m.stage ≡ Born → m.pick < length s.threads → Next P z R s m → Stage P z R s m
  turns : m.stage ≡ Turn → Next P z R s m → Due z s m → Stage P z R s m
  over : (w : End) → m.stage ≡ Over (ending_of w) → R ≡ stop w m.read s → Stage P z R s m

-- the machine's fields that track the state are kept
pub tracks_as :
    (z : Section) (s : State) (ts us : List Record) (m k : Machine) → Tracks z s ts m
    → ((t : ℕ) → t < length s.threads → Sized (get_or (written ts m) t blank)) → written us k ≡ written ts m
    → length us ≡ length ts → k.threads ≡ m.threads → k.lent ≡ m.lent → k.made ≡ m.made → k.locks ≡ m.locks
    → k.wants ≡ m.wants → Tracks z s us k
tracks_as z s ts us m k tr all w long a b c d f = record {
  threads = a ∙ tr.threads;
  few = tr.few;
  lent = b ∙ tr.lent ∙ sym long;
  room = rw long tr.room;
  made = c ∙ tr.made;
  few_locks = tr.few_locks;
  follows = λ t h y. rw w (tr.follows t h (all t h));
  sized = λ t h y. rw w (all t h);
  held = λ u l h. tr.held u l h ∙ rw d refl;
  wants = record { wanted = λ t h. rw f (tr.wants.wanted t h); small = tr.wants.small };
  locks_long = rw d tr.locks_long;
  wants_long = rw f tr.wants_long;
}

-- where no thread is left, or all wait, whatever bytes are left
run_ended : (P : Program) (lent : ℕ) (s : State) (n : ℕ) (l : List ℕ) → outlook s ≡ none_left
    → run_from P lent s n l ≡ stop all_ended n s
unfolding run_from
run_ended P lent s n [] e = rw e refl
run_ended P lent s n (b ∷ l) e = rw e refl

run_stuck : (P : Program) (lent : ℕ) (s : State) (n : ℕ) (l : List ℕ) → outlook s ≡ all_wait
    → run_from P lent s n l ≡ stop stuck n s
unfolding run_from
run_stuck P lent s n [] e = rw e refl
run_stuck P lent s n (b ∷ l) e = rw e refl

run_open : (P : Program) (lent : ℕ) (s : State) (n : ℕ) → outlook s ≡ some_can → run_from P lent s n [] ≡ stop at_end n s
unfolding run_from
run_open P lent s n e = rw e refl

run_unstarted :
    (P : Program) (lent : ℕ) (s : State) (n b : ℕ) (l : List ℕ) → outlook s ≡ some_can
    → length s.threads ≤ b % most_threads → run_from P lent s n (b ∷ l) ≡ stop unstarted n s
unfolding run_from
run_unstarted P lent s n b l e h = rw (e, le-leb (length s.threads) (b % most_threads) h) refl

pub run_beyond :
    (P : Program) (lent : ℕ) (s : State) (n b : ℕ) (l : List ℕ) → outlook s ≡ some_can
    → b % most_threads < length s.threads
    → beyond? lent s (b % most_threads) (thread s (b % most_threads)) ≡ true
    → run_from P lent s n (b ∷ l) ≡ stop beyond n s
unfolding run_from
run_beyond P lent s n b l e h k = rw (e, lt-leb (length s.threads) (b % most_threads) h, k) refl

pub run_turn :
    (P : Program) (lent : ℕ) (s : State) (n b : ℕ) (l : List ℕ) → outlook s ≡ some_can
    → b % most_threads < length s.threads
    → beyond? lent s (b % most_threads) (thread s (b % most_threads)) ≡ false
    → run_from P lent s n (b ∷ l) ≡ run_from P lent (turn P s (turn_of b)) (suc n) l
unfolding run_from
run_turn P lent s n b l e h k = rw (e, lt-leb (length s.threads) (b % most_threads) h, k) refl

-- as many records, with the one that is still to be written
pub written_long : (ts : List Record) (m : Machine) → length (written ts m) ≡ length ts
written_long ts m = by (is_born m.stage)
  where
    by : (q : Bool) → length (cond q (set ts m.pick (born_at (looked ts m) m.head m.born)) ts) ≡ length ts
    by true = length-set ts m.pick (born_at (looked ts m) m.head m.born)
    by false = refl

-- the machine settles as the outlook says
settled_over : (m : Machine) (bs : List ℕ) (v : Ending) → view m m.threads ≡ v → is_open v ≡ false
    → settled_as m bs ≡ over_as m v
settled_over m bs v e n = rw (e, n) refl

settled_next : (m : Machine) (bs : List ℕ) → view m m.threads ≡ Open → settled_as m bs ≡ next_byte m bs
settled_next m bs e = rw e refl

byte_none : (m : Machine) (bs : List ℕ) → length bs ≤ m.read → next_byte m bs ≡ over_as m Open
byte_none m bs h = rw (le-leb (length bs) m.read h) refl

byte_unstarted :
    (m : Machine) (bs : List ℕ) → m.read < length bs → m.threads ≤ get_or bs m.read 0 % most_threads
    → next_byte m bs ≡ over_as m Unstarted
byte_unstarted m bs h k =
    rw (lt-leb (length bs) m.read h, le-leb m.threads (get_or bs m.read 0 % most_threads) k) refl

byte_turn :
    (m : Machine) (bs : List ℕ) → m.read < length bs → get_or bs m.read 0 % most_threads < m.threads
    → next_byte m bs ≡ turned m Turn m.read (get_or bs m.read 0 % most_threads)
byte_turn m bs h k =
    rw (lt-leb (length bs) m.read h, lt-leb m.threads (get_or bs m.read 0 % most_threads) k) refl

-- once every record is written, the machine goes on as the run does
pub settles :
    (P : Program) (z : Section) (R : Result) (s : State) (ts : List Record) (m : Machine) → Tracks z s ts m
    → ((t : ℕ) → t < length s.threads → Sized (get_or (written ts m) t blank)) → Next P z R s m
    → Tracks z s (written ts m) (settled_as m z.schedule) × Stage P z R s (settled_as m z.schedule)
settles P z R s ts m tr all next = by (outlook s) refl
  where
    bs : List ℕ
    bs = z.schedule

    Q : Machine → Type 0
    Q k = Tracks z s (written ts m) k × Stage P z R s k

    ends : (w : End) → R ≡ stop w m.read s → Q (over_as m (ending_of w))
    ends w e = (
      tracks_as z s ts (written ts m) m (over_as m (ending_of w)) tr all
          (written_as (written ts m) (over_as m (ending_of w)) refl) (written_long ts m)
          refl refl refl refl refl,
      over w refl e,
    )

    seen : (o : Outlook) → outlook s ≡ o → view m m.threads ≡ outlook_ending o
    seen o e = view_is s m tr.held tr.wants tr.threads ∙ ap outlook_ending e

    can : outlook s ≡ some_can → Dec (m.read < length z.schedule) → Q (next_byte m z.schedule)
    can e (no n) =
        let h : length z.schedule ≤ m.read = omega (arith, n) in
        subst Q (sym (byte_none m z.schedule h))
        (ends at_end (next ∙ ap (run_from P m.lent s m.read) (drop_end z.schedule m.read h)
        ∙ run_open P m.lent s m.read e))
    can e (yes h) = started (dec_lt (get_or z.schedule m.read 0 % most_threads) m.threads)
      where
        b : ℕ
        b = get_or z.schedule m.read 0

        here : R ≡ run_from P m.lent s m.read
            (get_or z.schedule m.read 0 ∷ drop (suc m.read) z.schedule)
        here = next ∙ ap (run_from P m.lent s m.read) (drop_step z.schedule m.read h)

        started : Dec (get_or z.schedule m.read 0 % most_threads < m.threads) → Q (next_byte m z.schedule)
        started (no n) =
            let g : m.threads ≤ get_or z.schedule m.read 0 % most_threads = omega (arith, n) in
            let k = tr.threads in
            subst Q (sym (byte_unstarted m z.schedule h g))
            (ends unstarted (here ∙ run_unstarted P m.lent s m.read (get_or z.schedule m.read 0)
            (drop (suc m.read) z.schedule) e (omega (arith, g, k))))
        started (yes g) =
            let k = tr.threads in
            subst Q (sym (byte_turn m z.schedule h g)) (
              tracks_as z s ts (written ts m) m
                  (turned m Turn m.read (get_or z.schedule m.read 0 % most_threads)) tr all
                  (written_as (written ts m)
                  (turned m Turn m.read (get_or z.schedule m.read 0 % most_threads))
                  refl) (written_long ts m) refl refl refl refl refl,
              turns refl next (record { some = e; inside = h; picks = refl; started = omega (arith, g, k) }),
            )

    by : (o : Outlook) → outlook s ≡ o → Q (settled_as m z.schedule)
    by none_left e =
        subst Q (sym (settled_over m z.schedule Ended (seen none_left e) refl))
        (ends all_ended (next ∙ run_ended P m.lent s m.read (drop m.read z.schedule) e))
    by all_wait e =
        subst Q (sym (settled_over m z.schedule Stuck (seen all_wait e) refl))
        (ends stuck (next ∙ run_stuck P m.lent s m.read (drop m.read z.schedule) e))
    by some_can e =
        subst Q (sym (settled_next m z.schedule (seen some_can e)))
        (can e (dec_lt m.read (length z.schedule)))
