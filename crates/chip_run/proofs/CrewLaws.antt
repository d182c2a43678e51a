-- How a crew goes on by a turn of one worker, and what a row of turns comes to.
use Rattle.std.proofs.Common.{◌≡◌, ◌≢◌, inl, inr, ⊎_elim, ℕ, ◌+◌, ◌<◌, ◌≤◌, Bool, true, false, List, length, slice_index_or, None, refl, sym, ◌∙◌, ap, subst, arith}
use Rattle.std.proofs.lemmas.Bool.{cases_eq}
use Rattle.std.proofs.lemmas.List.{length-set, get_or-set_same, get_or-set_other}
use Rattle.scc_base.specs.Setups.{SetupView}
use Rattle.scc_base.specs.declared.events.Event.{Event}
use Rattle.scc_proto.specs.Like.{Like}
use Rattle.scc_proto.specs.Records.{record_of}
use Rattle.scc_proto.specs.Stages.{Record}
use Rattle.scc_proto.proofs.Words.FlagsTold.{like_both, like_self}
use Rattle.scc_mesh.specs.Scenes.{ChipView, about_in, events_in, records_in}
use Rattle.scc_mesh.specs.Turns.{IsTurned}
use Rattle.chip_run.specs.declared.rests.Rest.{Rest}
use Rattle.chip_run.specs.declared.rests.Rest.TheVariants as rest
use Rattle.chip_run.specs.Crews.{AllFinished, AllRest, CrewStands, CrewGoesOn, IsCrew, OneTurn, OneUnfinished, SweepStands, SweptTo, WorkerRests, all_left, end_by}
use Rattle.chip_run.specs.Behaves.{Behaviour, Later, NoTurn, Moving, Staying, WorkerView}
use Rattle.chip_run.specs.Turns.{TurnCameTo, HasStayed, RestsAt, both_rest}
use Rattle.chip_run.proofs.LaterLaws.{later_both}
use Rattle.chip_run.proofs.ServedLaws.{one_entry, sum_set}

-- a rank that rests does so while ranks only look
pub rests_kept : (b : Bool) (s : SetupView) (old now : ℕ → Record) (k : ℕ) (w : WorkerView) → ((j : ℕ) → Like (old j) (now j)) → RestsAt b s old k w → RestsAt b s now k w
rests_kept true s old now k w like rests = record {
  over = record { ends = rests.over.ends; idle = sym (like k).stage ∙ rests.over.idle };
  running = rests.running;
}
rests_kept false s old now k w like (inl rests) =
    inl (record { over = record { ends = rests.over.ends; idle = sym (like k).stage ∙ rests.over.idle }; stopped = rests.stopped })
rests_kept false s old now k w like (inr waits) = inr (record {
  memory = waits.memory;
  records = waits.records;
  agrees = waits.agrees;
  alike = λ j. like_both (waits.records j) (old j) (now j) (waits.alike j) (like j);
  waits = waits.waits;
})

module _ {A : Type 0} (c : Behaviour A) where
  pub goes_on_self : (chip : ChipView) (crew : List A) → CrewGoesOn c chip crew chip crew
  goes_on_self chip crew = record { about = refl; table = refl; count = refl; each = λ k d low. NoTurn; left = omega arith }

  pub goes_on_both : (chip mid now : ChipView) (crew some later : List A) → CrewGoesOn c chip crew mid some → CrewGoesOn c mid some now later → CrewGoesOn c chip crew now later
  goes_on_both chip mid now crew some later one two =
      let less : all_left c (about_in chip) later ≤ all_left c (about_in chip) some = subst (λ (s : SetupView). all_left c s later ≤ all_left c s some) one.about two.left in
      record {
        about = two.about ∙ one.about;
        table = two.table ∙ one.table;
        count = two.count ∙ one.count;
        each = λ k d low. later_both c (slice_index_or crew k d) (slice_index_or some k d) (slice_index_or later k d) (one.each k d low) (two.each k d (subst (λ (n : ℕ). k < n) (sym one.count) low));
        left = let a = one.left in omega (arith, a, less);
      }

  module _ (chip now : ChipView) (crew later : List A) (at : ℕ) (came : Rest) (turn : OneTurn c chip crew at now later came) where
    abbrev s : SetupView
    s = about_in chip

    is_turned : IsTurned chip at now
    is_turned = turn.turned.turned

    count : length later ≡ length crew
    count = ap length turn.is ∙ length-set crew at turn.new

    entry_here : (d : A) → slice_index_or later at d ≡ turn.new
    entry_here d = ap (λ (l : List A). slice_index_or l at d) turn.is ∙ get_or-set_same crew at turn.new d turn.within

    entry_before : (d : A) → turn.old ≡ slice_index_or crew at d
    entry_before d = turn.here ∙ one_entry crew at turn.old d turn.within

    entry_there : (k : ℕ) (d : A) → k ≢ at → slice_index_or later k d ≡ slice_index_or crew k d
    entry_there k d ne = ap (λ (l : List A). slice_index_or l k d) turn.is ∙ get_or-set_other crew at k turn.new d ne

    -- the crew is tied to the chip again
    pub crew_turned : IsCrew c chip crew → IsCrew c now later
    crew_turned is_crew = record {
      whole = is_turned.whole;
      each = count ∙ is_crew.each ∙ ap (λ (x : SetupView). x.nue) (sym is_turned.about);
      ties = λ k d low.
          ⊎_elim
          (λ (e : k ≡ at).
          subst (λ (j : ℕ). c.tied (slice_index_or later j d) (about_in now) j (events_in now j)) (sym e)
          (subst (λ (w : A). c.tied w (about_in now) at (events_in now at)) (sym (entry_here d)) turn.turned.ties))
          (λ (ne : k ≢ at).
          subst (λ (w : A). c.tied w (about_in now) k (events_in now k)) (sym (entry_there k d ne))
          (subst (λ (es : List Event). c.tied (slice_index_or crew k d) (about_in now) k es) (sym (is_turned.others k ne))
          (subst (λ (x : SetupView). c.tied (slice_index_or crew k d) x k (events_in chip k)) (sym is_turned.about)
          (is_crew.ties k d (subst (λ (n : ℕ). k < n) count low)))))
          (cases_eq k at);
    }

    abbrev left_at : ℕ → A → ℕ
    left_at k w = (c.seen s k w).left

    -- how many turns are left after it
    sums : all_left c s later + left_at at turn.old ≡ all_left c s crew + left_at at turn.new
    sums =
        ap (λ (l : List A). all_left c s l + left_at at turn.old) turn.is
        ∙ sum_set left_at 0 at at crew turn.old turn.new (omega arith) turn.within turn.here

    stayed_same : (b : Bool) → HasStayed c b chip at now turn.old turn.new → left_at at turn.new ≡ left_at at turn.old
    stayed_same b stayed = ap (λ (w : WorkerView). w.left) stayed.seen

    pub less_left : (came : Rest) → TurnCameTo c came chip at now turn.old turn.new → all_left c s later ≤ all_left c s crew
    less_left rest.Moved comes = let sum = sums in let less = comes.less in omega (arith, sum, less)
    less_left rest.Finished comes = let sum = sums in let same = stayed_same true comes in omega (arith, sum, same)
    less_left rest.Unfinished comes = let sum = sums in let same = stayed_same false comes in omega (arith, sum, same)

    later_by : (came : Rest) → TurnCameTo c came chip at now turn.old turn.new → Later c turn.old turn.new
    later_by rest.Moved comes = Moving turn.old turn.new NoTurn comes.moves
    later_by rest.Finished comes = Staying turn.old turn.new NoTurn comes.stays
    later_by rest.Unfinished comes = Staying turn.old turn.new NoTurn comes.stays

    pub turn_goes_on : CrewGoesOn c chip crew now later
    turn_goes_on = record {
      about = is_turned.about;
      table = is_turned.table;
      count = count;
      each = λ k d low.
          ⊎_elim
          (λ (e : k ≡ at).
          subst (λ (j : ℕ). Later c (slice_index_or crew j d) (slice_index_or later j d)) (sym e)
          (subst (λ (w : A). Later c w (slice_index_or later at d)) (entry_before d)
          (subst (λ (w : A). Later c turn.old w) (sym (entry_here d)) (later_by came turn.turned.comes))))
          (λ (ne : k ≢ at). subst (λ (w : A). Later c (slice_index_or crew k d) w) (sym (entry_there k d ne)) NoTurn)
          (cases_eq k at);
      left = less_left came turn.turned.comes;
    }

    -- the records after a turn that did not move
    like_all : Like (records_in chip at) (records_in now at) → (j : ℕ) → Like (records_in chip j) (records_in now j)
    like_all here j =
        ⊎_elim
        (λ (e : j ≡ at). subst (λ (k : ℕ). Like (records_in chip k) (records_in now k)) (sym e) here)
        (λ (ne : j ≢ at).
        let about = sym is_turned.about in let same = sym (is_turned.others j ne) in
        subst (λ (rec : Record). Like (records_in chip j) rec) (λ i. record_of (about i) j (same i)) (like_self (records_in chip j)))
        (cases_eq j at)

    -- who rested before rests after it
    kept_there : Like (records_in chip at) (records_in now at) → (b : Bool) (k : ℕ) (d : A) → k ≢ at → WorkerRests c b chip crew k d → WorkerRests c b now later k d
    kept_there here b k d ne rests =
        subst (λ (x : SetupView). RestsAt b x (records_in now) k (c.seen x k (slice_index_or later k d))) (sym is_turned.about)
        (subst (λ (w : A). RestsAt b s (records_in now) k (c.seen s k w)) (sym (entry_there k d ne))
        (rests_kept b s (records_in chip) (records_in now) k (c.seen s k (slice_index_or crew k d)) (like_all here) rests))

    -- and the worker itself
    rests_here : (b : Bool) → HasStayed c b chip at now turn.old turn.new → (d : A) → WorkerRests c b now later at d
    rests_here b stayed d =
        subst (λ (x : SetupView). RestsAt b x (records_in now) at (c.seen x at (slice_index_or later at d))) (sym is_turned.about)
        (subst (λ (w : A). RestsAt b s (records_in now) at (c.seen s at w)) (sym (entry_here d)) stayed.rests)

    all_finished : HasStayed c true chip at now turn.old turn.new → AllFinished c chip crew at → AllFinished c now later (at + 1)
    all_finished stayed front k d low =
        ⊎_elim
        (λ (e : k ≡ at). subst (λ (j : ℕ). WorkerRests c true now later j d) (sym e) (rests_here true stayed d))
        (λ (ne : k ≢ at). kept_there stayed.alike true k d ne (front k d (omega (arith, low, ne))))
        (cases_eq k at)

    all_rest : (b : Bool) → HasStayed c b chip at now turn.old turn.new → AllRest c chip crew at → AllRest c now later (at + 1)
    all_rest b stayed front k d low =
        ⊎_elim
        (λ (e : k ≡ at). (b, subst (λ (j : ℕ). WorkerRests c b now later j d) (sym e) (rests_here b stayed d)))
        (λ (ne : k ≢ at). let (finished, rests) = front k d (omega (arith, low, ne)) in (finished, kept_there stayed.alike finished k d ne rests))
        (cases_eq k at)

    first_unfinished : HasStayed c false chip at now turn.old turn.new → OneUnfinished c now later (at + 1)
    first_unfinished stayed = record { one = at; below = omega arith; rests = rests_here false stayed }

    still_unfinished : (b : Bool) → HasStayed c b chip at now turn.old turn.new → OneUnfinished c chip crew at → OneUnfinished c now later (at + 1)
    still_unfinished b stayed some = record {
      one = some.one;
      below = let low = some.below in omega (arith, low);
      rests = λ d. kept_there stayed.alike false some.one d (λ e. let low = some.below in absurd (omega (arith, low, e))) (some.rests d);
    }

    as_all : AllFinished c chip crew at → AllRest c chip crew at
    as_all front k d low = (true, front k d low)

    -- a turn that moved, behind turns that may have moved
    moved_after : (start : ChipView) (first : List A) → CrewGoesOn c start first chip crew → left_at at turn.new < left_at at turn.old → all_left c (about_in start) later < all_left c (about_in start) first
    moved_after start first goes less =
        let sum = sums in
        let fewer : all_left c s later < all_left c s crew = omega (arith, sum, less) in
        let here : all_left c (about_in start) later < all_left c (about_in start) crew = subst (λ (x : SetupView). all_left c x later < all_left c x crew) goes.about fewer in
        let most = goes.left in omega (arith, here, most)

    -- one turn more of a row of turns
    swept_by : (start : ChipView) (first : List A) (before after : Rest) → CrewGoesOn c start first chip crew → SweptTo c before at start first chip crew
        → TurnCameTo c after chip at now turn.old turn.new → SweptTo c (both_rest before after) (at + 1) start first now later
    swept_by start first rest.Moved after goes swept comes =
        let less : all_left c (about_in start) later ≤ all_left c (about_in start) crew = subst (λ (x : SetupView). all_left c x later ≤ all_left c x crew) goes.about (less_left after comes) in
        omega (arith, swept, less)
    swept_by start first rest.Finished rest.Moved goes swept comes = moved_after start first goes comes.less
    swept_by start first rest.Finished rest.Finished goes swept comes = all_finished comes swept
    swept_by start first rest.Finished rest.Unfinished goes swept comes = (all_rest false comes (as_all swept), first_unfinished comes)
    swept_by start first rest.Unfinished rest.Moved goes swept comes = moved_after start first goes comes.less
    swept_by start first rest.Unfinished rest.Finished goes (all, some) comes = (all_rest true comes all, still_unfinished true comes some)
    swept_by start first rest.Unfinished rest.Unfinished goes (all, some) comes = (all_rest false comes all, still_unfinished false comes some)

    pub swept_on : (start : ChipView) (first : List A) (before : Rest) → CrewGoesOn c start first chip crew → SweptTo c before at start first chip crew
        → SweptTo c (both_rest before came) (at + 1) start first now later
    swept_on start first before goes swept = swept_by start first before came goes swept turn.turned.comes

module _ {A : Type 0} (c : Behaviour A) where
  pub stands_first : (chip : ChipView) (crew : List A) → IsCrew c chip crew → CrewStands c chip crew chip crew
  stands_first chip crew is = record { is_crew = is; goes = goes_on_self c chip crew }

  pub stands_on : (chip mid now : ChipView) (crew some later : List A) (at : ℕ) (came : Rest) → CrewStands c chip crew mid some → OneTurn c mid some at now later came → CrewStands c chip crew now later
  stands_on chip mid now crew some later at came stands turn = record {
    is_crew = crew_turned c mid now some later at came turn stands.is_crew;
    goes = goes_on_both c chip mid now crew some later stands.goes (turn_goes_on c mid now some later at came turn);
  }

  pub stands_both : (chip mid now : ChipView) (crew some later : List A) → CrewStands c chip crew mid some → CrewStands c mid some now later → CrewStands c chip crew now later
  stands_both chip mid now crew some later one two = record { is_crew = two.is_crew; goes = goes_on_both c chip mid now crew some later one.goes two.goes }

  pub sweep_first : (chip : ChipView) (crew : List A) → IsCrew c chip crew → SweepStands c rest.Finished 0 chip crew chip crew
  sweep_first chip crew is = record { stands = stands_first chip crew is; swept = λ k d low. absurd (omega (arith, low)) }

  pub sweep_on : (chip mid now : ChipView) (crew some later : List A) (at : ℕ) (before came after : Rest) → after ≡ both_rest before came → SweepStands c before at chip crew mid some
      → OneTurn c mid some at now later came → SweepStands c after (at + 1) chip crew now later
  sweep_on chip mid now crew some later at before came after is sweep turn = record {
    stands = stands_on chip mid now crew some later at came sweep.stands turn;
    swept = subst (λ (r : Rest). SweptTo c r (at + 1) chip crew now later) (sym is) (swept_on c mid now some later at came turn chip crew before sweep.stands.goes sweep.swept);
  }

  -- a sweep in which a worker moved leaves less, by the numbers of the setup at the start of the run
  pub moved_falls : (came : Rest) (n : ℕ) (first chip now : ChipView) (crew later : List A) → end_by came ≡ None → about_in chip ≡ about_in first → SweptTo c came n chip crew now later
      → all_left c (about_in first) later < all_left c (about_in first) crew
  moved_falls rest.Moved n first chip now crew later is same swept = subst (λ (x : SetupView). all_left c x later < all_left c x crew) same swept
  moved_falls rest.Finished n first chip now crew later is same swept = absurd (cc (is))
  moved_falls rest.Unfinished n first chip now crew later is same swept = absurd (cc (is))

  -- and no round leaves more
  pub round_falls : (first chip now : ChipView) (crew later : List A) → about_in chip ≡ about_in first → CrewGoesOn c chip crew now later → all_left c (about_in first) later ≤ all_left c (about_in first) crew
  round_falls first chip now crew later same goes = subst (λ (x : SetupView). all_left c x later ≤ all_left c x crew) same goes.left

pub below_all : (a b c : ℕ) → a < b → b ≤ c → a < c
below_all a b c one two = omega (arith, one, two)
