use Rattle.std.proofs.Common.{Option, subst, sym, ◌∙◌}
use Rattle.scc_base.specs.declared.calls.Call.{Call}
use Rattle.scc_proto.specs.Records.{record_after}
use Rattle.rank_monitor.specs.Following.{Adds}
use Rattle.call_tap.proofs.TapLaws.{kept_more, kept_on, read_on}
use Rattle.call_tap.proofs.taps.Tap.read.Goals as goal

pub returns-in-Ok-Some : goal.returns-in-Ok-Some
returns-in-Ok-Some c = record {
  reads = read_on c.args.self.now _ c.args.event.now c.take.ensures.same (λ rec r.
      let m = c.args.self.now.monitor in
      let now = record_after m.setup m.rank rec c.args.event.now in
      let adds = subst (λ (o : Option Call). Adds o c.take.new.self.work.bytes.items rec.calls now.calls) c.in-Ok-Some.field-0-is (c.in-Ok-Some.ensures.finishes rec r.follows) in
      record {
        follows = c.take.ensures.follows rec r.follows;
        kept = kept_more c.note.new.self c.in-Ok-Some.call c.take.new.self.work.bytes.items rec.calls now.calls adds
            (λ done is_call is_bytes. c.note.ensures.notes rec.calls done is_call (is_bytes ∙ sym c.bytes.ensures.gives) r.kept);
      });
}

pub returns-in-Ok-None : goal.returns-in-Ok-None
returns-in-Ok-None c = record {
  reads = read_on c.args.self.now _ c.args.event.now c.take.ensures.same (λ rec r.
      let m = c.args.self.now.monitor in
      let now = record_after m.setup m.rank rec c.args.event.now in
      let adds = subst (λ (o : Option Call). Adds o c.take.new.self.work.bytes.items rec.calls now.calls) c.in-Ok-None.field-0-is (c.in-Ok-None.ensures.finishes rec r.follows) in
      record { follows = c.take.ensures.follows rec r.follows; kept = kept_on c.args.self.now.kept now.calls rec.calls adds r.kept });
}

pub returns-in-Err : goal.returns-in-Err
returns-in-Err c = record {
  reads = read_on c.args.self.now _ c.args.event.now c.take.ensures.same (λ rec r.
      let m = c.args.self.now.monitor in
      let now = record_after m.setup m.rank rec c.args.event.now in
      record { follows = c.take.ensures.follows rec r.follows; kept = kept_on c.args.self.now.kept now.calls rec.calls (c.in-Err.ensures.finishes rec r.follows) r.kept });
}
