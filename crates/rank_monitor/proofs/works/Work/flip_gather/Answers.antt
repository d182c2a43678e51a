use Rattle.std.proofs.Common.{◌≡◌, ◌<◌, ◌==◌, ◌-◌, ◌%◌, List, ℕ, Some, true, false, length, sym, ap, subst, arith}
use Rattle.scc_base.specs.Calls.{Bar}
use Rattle.scc_base.specs.declared.calls.Call.TheVariants as call
use Rattle.scc_proto.specs.Moves.{finished_if, flip_gather}
use Rattle.scc_proto.specs.Permission.{is_idle}
use Rattle.scc_proto.proofs.Tests.{both_first, both_second, eqb_other}
use Rattle.rank_monitor.specs.Standing.{KeepsStage}
use Rattle.rank_monitor.proofs.PartLaws.{flags_flipped}
use Rattle.rank_monitor.proofs.ReceiveLaws.{entered_alone, entered_among}
use Rattle.rank_monitor.specs.Following.{Adds}
use Rattle.rank_monitor.proofs.works.Work.flip_gather.Goals as goal

pub returns-then-last-eq0-clause-moves : goal.returns-then-last-eq0-clause-moves
returns-then-last-eq0-clause-moves c = λ rec f may.
    let w = c.args.self.now in
    let within : c.args.comm < length w.flags = omega arith in
    let none : (c.args.last == 0) ≡ true = ap (λ (n : ℕ). n == 0) c.if-last-eq0.true in
    let x = entered_alone w.size w.header w.chunk w.bytes.items w.standing rec.stage f.keeps (both_first (is_idle rec.stage) (c.args.value == 1 - rec.flips c.args.comm % 2) may) c.args.comm c.args.last none rec.calls in
    record {
      stands = record {
        keeps = subst (λ (b : List ℕ). KeepsStage w.size w.header w.chunk b w.standing (flip_gather c.args.comm c.args.last rec.stage)) (sym c.clear.ensures.items) x.0;
        post = f.post;
        said = f.said;
        flags = flags_flipped w.flags rec.flips c.args.comm c.args.value c.requires.below within (both_second (is_idle rec.stage) (c.args.value == 1 - rec.flips c.args.comm % 2) may) f.flags;
      };
      adds = subst (λ (b : List ℕ). Adds (Some (call.Bar c.args.comm)) b rec.calls (finished_if (c.args.last == 0) (Bar c.args.comm) rec.calls)) (sym c.clear.ensures.items) x.1;
    }

pub returns-clause-moves : goal.returns-clause-moves
returns-clause-moves c = λ rec f may.
    let w = c.args.self.now in
    let within : c.args.comm < length w.flags = omega arith in
    let some : (c.args.last == 0) ≡ false = eqb_other c.args.last 0 c.if-last-eq0.false in
    let x = entered_among w.size w.header w.chunk w.bytes.items w.standing rec.stage f.keeps (both_first (is_idle rec.stage) (c.args.value == 1 - rec.flips c.args.comm % 2) may) c.args.comm c.args.last some rec.calls in
    record {
      stands = record {
        keeps = x.0;
        post = f.post;
        said = f.said;
        flags = flags_flipped w.flags rec.flips c.args.comm c.args.value c.requires.below within (both_second (is_idle rec.stage) (c.args.value == 1 - rec.flips c.args.comm % 2) may) f.flags;
      };
      adds = x.1;
    }
