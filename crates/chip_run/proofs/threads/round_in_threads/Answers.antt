use Rattle.std.proofs.Common.{◌≡◌, ℕ, zero, suc, ◌*◌, ◌<◌, ◌≤◌, length, slice_index_or, refl, sym, ◌∙◌, ap, subst, arith}
use Rattle.std.specs.Int.{div_ceil}
use Rattle.std.proofs.lemmas.Grind.{div_ceil_times}
use Rattle.scc_base.specs.Setups.{SetupView}
use Rattle.scc_mesh.specs.Scenes.{about_in, events_in, table_in}
use Rattle.chip_run.specs.Away.{IsAtHome, TookSlice, behaviour_of_members}
use Rattle.chip_run.specs.Marks.{BeganFor}
use Rattle.chip_run.proofs.MemberLaws.{member_took}
use Rattle.chip_run.proofs.ThreadLaws.{round_stands, slice_between, away_yet}
use Rattle.chip_run.proofs.threads.round_in_threads.Goals as goal

-- so many parts as hold all are some
some_parts : (all part : ℕ) → 0 < all → 0 < part → 0 < div_ceil all part
some_parts all part some more = by (div_ceil all part) (div_ceil_times all part more).0
  where
    by : (n : ℕ) → all ≤ n * part → 0 < n
    by zero fits = absurd (omega (arith, some, fits))
    by (suc n) fits = omega arith

pub div_ceil-requires : goal.div_ceil-requires
div_ceil-requires g c = subst (λ (n : ℕ). 0 < n) (sym c.div_ceil-each.ensures) (some_parts (length c.args.crew.now) c.args.threads c.requires.some c.requires.threads)

pub words-requires : goal.words-requires
words-requires g c = record { opened = c.hand_out.ensures.none.opened }

pub all_slices-requires : goal.all_slices-requires
all_slices-requires g c =
    let handed = c.hand_out.ensures in
    let each = subst (λ (n : ℕ). 0 < n) (sym c.div_ceil-each.ensures) (some_parts (length c.args.crew.now) c.args.threads c.requires.some c.requires.threads) in (
      c.type_bounds.send-W,
      (
        c.type_bounds.sync-G,
        (
          c.type_bounds.sync-R,
          (
            c.type_bounds.sync-M,
            (
              subst (λ (n : ℕ). 0 < n) (sym handed.served.count) c.requires.some,
              (
                each,
                λ i d low.
                    let within = subst (λ (n : ℕ). i < n) handed.served.count low in
                    away_yet g.W.Worker.behaviour.tied (about_in c.args.chip.now) c.words.result.space.now.about i
                    (slice_index_or c.hand_out.new.crew i d) (slice_index_or c.hand_out.new.crew i d) (c.words.ensures.about ∙ handed.same.0) refl
                    (table_in c.args.chip.now) c.words.result.space.now.table (c.words.ensures.table ∙ handed.same.1) (handed.served.done i d within within).1,
              ),
            ),
          ),
        ),
      ),
    )

pub take_home-requires-clause-each : goal.take_home-requires-clause-each
take_home-requires-clause-each g c =
    c.all_slices.auto.crew ∙ c.hand_out.ensures.served.count ∙ c.requires.crew.each ∙ ap (λ (s : SetupView). s.nue) (sym c.hand_out.ensures.same.0)

pub take_home-requires-clause-away : goal.take_home-requires-clause-away
take_home-requires-clause-away g c = λ i d low.
    away_yet g.W.Worker.behaviour.tied c.words.result.space.now.about (about_in c.hand_out.new.chip) i
    (slice_index_or c.all_slices.new.crew i d) (slice_index_or c.all_slices.new.crew i d) (sym c.words.ensures.about) refl
    c.words.result.space.now.table (table_in c.hand_out.new.chip) (sym c.words.ensures.table) (c.all_slices.ensures.away i d (subst (λ (n : ℕ). i < n) c.all_slices.auto.crew low))

pub returns-clause-took : goal.returns-clause-took
returns-clause-took g c =
    let handed = c.hand_out.ensures in
    let taken = c.take_home.ensures in
    let same_about = taken.same.0 ∙ handed.same.0 in
    let many : length c.all_slices.new.crew ≡ length c.args.crew.now = c.all_slices.auto.crew ∙ handed.served.count in
    let about = c.words.ensures.about ∙ handed.same.0 in
    let slices : (k : ℕ) (d : _) → k < length c.args.crew.now
    → TookSlice (behaviour_of_members g.W.Worker.behaviour) (about_in c.args.chip.now) k (slice_index_or c.args.crew.now k d) (slice_index_or c.take_home.new.crew k d) =
    λ k d low.
    let within = subst (λ (n : ℕ). k < n) (sym many) low in
    member_took g.W.Worker.behaviour (about_in c.args.chip.now) k (slice_index_or c.args.crew.now k d) (slice_index_or c.take_home.new.crew k d)
    (slice_between g.W.Worker.behaviour (about_in c.args.chip.now) k (slice_index_or c.args.crew.now k d).worker (slice_index_or c.hand_out.new.crew k d).worker
    (slice_index_or c.all_slices.new.crew k d).worker (slice_index_or c.take_home.new.crew k d).worker
    (handed.served.done k d low low).0
    (subst (λ (s : SetupView). TookSlice g.W.Worker.behaviour s k (slice_index_or c.hand_out.new.crew k d).worker (slice_index_or c.all_slices.new.crew k d).worker) about
    (c.all_slices.ensures.slices k d (subst (λ (n : ℕ). k < n) (sym handed.served.count) low)))
    (taken.served.done k d within within).0) in
    record {
      stands = round_stands (behaviour_of_members g.W.Worker.behaviour) c.args.chip.now c.take_home.new.chip c.args.crew.now c.take_home.new.crew
          c.requires.crew taken.whole same_about (taken.same.1 ∙ handed.same.1) (taken.served.count ∙ many)
          (λ k d low.
          let within = subst (λ (n : ℕ). k < n) (sym many) low in
          subst (λ (s : SetupView). IsAtHome (g.W.Worker.behaviour.tied (slice_index_or c.take_home.new.crew k d).worker) (slice_index_or c.take_home.new.crew k d).token s k (events_in c.take_home.new.chip k)) (sym taken.same.0)
          (taken.served.done k d within within).1)
          slices;
      slices = slices;
    }

pub returns-clause-began : goal.returns-clause-began
returns-clause-began g c = λ k low.
    subst (λ (n : ℕ). BeganFor g.M.Marks.shown n k) c.div_ceil-each.ensures (c.all_slices.ensures.began k (subst (λ (n : ℕ). k < n) (sym c.hand_out.ensures.served.count) low))

pub returns-clause-passed : goal.returns-clause-passed
returns-clause-passed g c = λ k low. c.all_slices.ensures.passed k (subst (λ (n : ℕ). k < n) (sym c.hand_out.ensures.served.count) low)
