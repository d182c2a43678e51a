use Rattle.std.proofs.Common.{◌≡◌, ◌<◌, [], ℕ, List, None, Some, refl, slice_index_or, slice_set, subst, sym, rules}
use Rattle.std.proofs.lemmas.Bool.{false≢true}
use Rattle.scc_proto.specs.Histories.{records_from}
use Rattle.scc_proto.specs.Stages.{Record, blank}
use Rattle.scc_proto.specs.Words.{RankEvent}
use Rattle.rank_monitor.specs.Following.{Adds, FollowsRecord}
use Rattle.rank_monitor.specs.Next.{allowed_for}
use Rattle.rank_monitor.specs.declared.monitors.RankMonitor.{RankMonitor}
use Rattle.rank_monitor.specs.declared.next.NextEvent.{NextEvent}
use Rattle.trace_judge.specs.Followed.{IsFollowed, bytes_shown}
use Rattle.trace_judge.specs.Judged.{JudgeView, chip_of}
use Rattle.trace_judge.specs.Rulings.{refusal_of}
use Rattle.trace_judge.specs.declared.judge.Refusal.TheVariants.{NotPermitted}
use Rattle.trace_judge.proofs.FollowFacts.{adds_own, followed_on, own_allows, own_permits}
use Rattle.trace_judge.proofs.RefusalFacts.{refused_none, refused_permit}
use Rattle.trace_judge.proofs.judge.Judge.take.Goals as goal

pub invariant_of-self : goal.invariant_of-self
invariant_of-self c =
    let j = c.self.inside in
    let m = c.index_mut-monitor.result.now in
    let n = c.take-taken.new.self in
    let below : c.args.rank < j.setup.nue = subst (λ (v : JudgeView). c.args.rank < v.setup.nue) (sym c.self.view_is) c.requires.below in
    let at : m ≡ slice_index_or j.monitors.items c.args.rank m = subst (λ (k : ℕ). m ≡ slice_index_or j.monitors.items k m) c.number.ensures.gives c.index_mut-monitor.ensures.value in
    let next = followed_on j.setup j.monitors.items j.words c.self.invariant c.args.rank below c.args.event.now m at n c.in-Ok.ensures.same c.in-Ok.ensures.follows in
    subst (λ (k : ℕ). IsFollowed j.setup (slice_set j.monitors.items k n) c.make.new.self) (sym c.number.ensures.gives)
    (subst (λ (l : List RankEvent). IsFollowed j.setup (slice_set j.monitors.items c.args.rank n) l) (sym c.make.ensures.makes) next)

pub returns-in-Ok-clause-refused : goal.returns-in-Ok-clause-refused
returns-in-Ok-clause-refused c =
    let j = c.self.inside in
    let m = c.index_mut-monitor.result.now in
    let made : RankEvent = record { rank = c.args.rank; event = c.args.event.now } in
    let below : c.args.rank < j.setup.nue = subst (λ (v : JudgeView). c.args.rank < v.setup.nue) (sym c.self.view_is) c.requires.below in
    let at : m ≡ slice_index_or j.monitors.items c.args.rank m = subst (λ (k : ℕ). m ≡ slice_index_or j.monitors.items k m) c.number.ensures.gives c.index_mut-monitor.ensures.value in
    let may = own_permits j.setup j.monitors.items j.words c.self.invariant c.args.rank below c.args.event.now m at _ c.in-Ok.ensures.permitted in
    subst (λ (v : JudgeView). None ≡ refusal_of (chip_of v) made) c.self.view_is
    (refused_none j.setup j.words made c.is_step.result c.is_step.ensures.gives c.if-not-is_step.false (may.0 refl))

pub returns-in-Ok-clause-finishes : goal.returns-in-Ok-clause-finishes
returns-in-Ok-clause-finishes c =
    let j = c.self.inside in
    let m = c.index_mut-monitor.result.now in
    let n = c.take-taken.new.self in
    let rank = c.args.rank in
    let call = c.in-Ok.call in
    let below : rank < j.setup.nue = subst (λ (v : JudgeView). rank < v.setup.nue) (sym c.self.view_is) c.requires.below in
    let at : m ≡ slice_index_or j.monitors.items rank m = subst (λ (k : ℕ). m ≡ slice_index_or j.monitors.items k m) c.number.ensures.gives c.index_mut-monitor.ensures.value in
    let adds = adds_own j.setup j.monitors.items j.words c.self.invariant rank below c.args.event.now m at n c.in-Ok.ensures.same c.in-Ok.ensures.follows call c.in-Ok.ensures.finishes in
    let own = (records_from j.setup (λ k. blank) j.words rank).calls in
    subst (λ (v : JudgeView). Adds call (slice_index_or (bytes_shown (slice_set j.monitors.items c.number.result n)) rank []) (records_from v.setup (λ k. blank) v.run rank).calls (records_from j.setup (λ k. blank) c.make.new.self rank).calls)
    c.self.view_is
    (subst (λ (k : ℕ). Adds call (slice_index_or (bytes_shown (slice_set j.monitors.items k n)) rank []) own (records_from j.setup (λ x. blank) c.make.new.self rank).calls) (sym c.number.ensures.gives)
    (subst (λ (l : List RankEvent). Adds call (slice_index_or (bytes_shown (slice_set j.monitors.items rank n)) rank []) own (records_from j.setup (λ k. blank) l rank).calls) (sym c.make.ensures.makes) adds))

pub returns-in-Err-clause-refused : goal.returns-in-Err-clause-refused
returns-in-Err-clause-refused c =
    let j = c.self.inside in
    let m = c.index_mut-monitor.result.now in
    let made : RankEvent = record { rank = c.args.rank; event = c.args.event.now } in
    let below : c.args.rank < j.setup.nue = subst (λ (v : JudgeView). c.args.rank < v.setup.nue) (sym c.self.view_is) c.requires.below in
    let at : m ≡ slice_index_or j.monitors.items c.args.rank m = subst (λ (k : ℕ). m ≡ slice_index_or j.monitors.items k m) c.number.ensures.gives c.index_mut-monitor.ensures.value in
    let may = own_permits j.setup j.monitors.items j.words c.self.invariant c.args.rank below c.args.event.now m at _ c.in-Err.ensures.permitted in
    let why = c.not_permitted.result in
    let told : (rec : Record) → FollowsRecord m rec → why ≡ NotPermitted (allowed_for m.setup rec c.args.event.now)
    = subst (λ (x : RankMonitor). (rec : Record) → FollowsRecord x rec → why ≡ NotPermitted (allowed_for x.setup rec c.args.event.now)) c.in-Err.ensures.unchanged c.not_permitted.ensures.gives in
    let same = own_allows j.setup j.monitors.items j.words c.self.invariant c.args.rank below c.args.event.now m at why (λ (next : NextEvent). NotPermitted next) told in
    subst (λ (v : JudgeView). Some why ≡ refusal_of (chip_of v) made) c.self.view_is
    (refused_permit j.setup j.words made c.is_step.result c.is_step.ensures.gives c.if-not-is_step.false (λ is. false≢true (may.1 is)) why same)

-- Names the goal, so that the prover rejects a wrong body at once, without a search.
pub returns-then-not-is_step-clause-refused : goal.returns-then-not-is_step-clause-refused
returns-then-not-is_step-clause-refused c = search rules
