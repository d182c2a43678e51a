use Rattle.std.proofs.Common.{◌<◌, Option, refl, subst, sym, ◌∙◌, arith}
use Rattle.rank_monitor.specs.Following.{Adds}
use Rattle.scc_base.specs.Setups.{SetupView}
use Rattle.scc_base.specs.declared.calls.Call.{Call}
use Rattle.scc_proto.specs.Words.{RankEvent}
use Rattle.trace_judge.specs.Judged.{bytes_at, chip_of}
use Rattle.trace_text.specs.Views.{rank_event}
use Rattle.trace_program.proofs.HearingLemmas.{held_none, held_some, refused_on, tried_on}
use Rattle.trace_program.proofs.judging.Trial.take.Goals as goal

pub take-requires : goal.take-requires
take-requires c =
    let (asked, r, next) = c.requires.next in
    record { below = subst (λ (s : SetupView). c.args.made.now.rank < s.nue) (sym next.has.tried.setup) next.below }

pub bytes-requires : goal.bytes-requires
bytes-requires c =
    let (asked, r, next) = c.requires.next in
    record { below = subst (λ (s : SetupView). c.args.made.now.rank < s.nue) (sym (c.take.ensures.setup ∙ next.has.tried.setup)) next.below }

pub keep-requires : goal.keep-requires
keep-requires c =
    let (asked, r, next) = c.requires.next in
    record { few = λ k. omega (arith, next.has.held.few k, c.requires.few) }

pub returns-in_ok-keep-in-Ok-Some-clause-tried : goal.returns-in_ok-keep-in-Ok-Some-clause-tried
returns-in_ok-keep-in-Ok-Some-clause-tried c = λ asked r next.
    let t = c.args.self.now in
    let new = c.take.new.self in
    let e : RankEvent = rank_event c.args.made.now in
    let low : e.rank < 48 = c.known.ensures.below in
    let adds = subst (λ (o : Option Call). Adds o (bytes_at new e.rank) ((chip_of t.judge).records e.rank).calls ((chip_of new).records e.rank).calls) c.in-Ok-Some.field-0-is c.in-Ok-Some.ensures.finishes in
    record {
      tried = tried_on t r e next.has.tried _ refl refl c.take.ensures.setup c.in-Ok-Some.ensures.takes c.in-Ok-Some.ensures.refused;
      held = held_some asked c.args.finished.now c.keep.new.self t.number t.judge new e c.in-Ok-Some.call (bytes_at new e.rank) c.take.ensures.setup c.in-Ok-Some.ensures.takes low adds
          (λ calls done is moved held. c.in_ok-keep-in-Ok-Some.ensures.keeps asked t.number calls done is (moved ∙ sym c.bytes.ensures.gives) held) next.has.held;
    }

pub returns-in-Ok-None-clause-tried : goal.returns-in-Ok-None-clause-tried
returns-in-Ok-None-clause-tried c = λ asked r next.
    let t = c.args.self.now in
    let new = c.take.new.self in
    let e : RankEvent = rank_event c.args.made.now in
    let adds = subst (λ (o : Option Call). Adds o (bytes_at new e.rank) ((chip_of t.judge).records e.rank).calls ((chip_of new).records e.rank).calls) c.in-Ok-None.field-0-is c.in-Ok-None.ensures.finishes in
    record {
      tried = tried_on t r e next.has.tried _ refl refl c.take.ensures.setup c.in-Ok-None.ensures.takes c.in-Ok-None.ensures.refused;
      held = held_none asked c.args.finished.now t.number t.judge new e (bytes_at new e.rank) c.take.ensures.setup c.in-Ok-None.ensures.takes adds next.has.held;
    }

pub returns-in-Err-clause-tried : goal.returns-in-Err-clause-tried
returns-in-Err-clause-tried c = λ asked r next. refused_on c.args.self.now r (rank_event c.args.made.now) next.has.tried _ refl refl c.in-Err.ensures.refused
