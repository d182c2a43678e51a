use Rattle.std.proofs.Common.{◌+◌, ◌-◌, ◌<◌, Bool, Ok, arith, length, rules, subst}
use Rattle.rcce_io.specs.Reading.{ReadsBlock}
use Rattle.trace_text.specs.Traces.{most_trace_bytes}
use Rattle.trace_program.proofs.FileLemmas.{rest_ended, rest_full}
use Rattle.trace_program.proofs.hearing.Hearing.read_rest.Goals as goal

pub read_block-requires-clause-hears : goal.read_block-requires-clause-hears
read_block-requires-clause-hears g c = let (asked, hears) = c.requires.hears in (asked, c.loop-self.invariant.hears asked hears)

pub loop-self-preserved : goal.loop-self-preserved
loop-self-preserved g c =
    let (asked, hears) = c.requires.hears in
    record {
      same = search rules;
      counted = (c.in_ok-read_block.ensures.hears asked (c.loop-self.invariant.hears asked hears)).counted;
      within = search rules;
      whole = search rules;
      hears = λ asked hears. c.in_ok-read_block.ensures.hears asked (c.loop-self.invariant.hears asked hears);
    }

pub returns-after-loop-self-clause-reads : goal.returns-after-loop-self-clause-reads
returns-after-loop-self-clause-reads g c =
    let l = c.loop-self in
    let long : most_trace_bytes < length l.self.walk = omega (arith, c.loop-self-test.false, l.invariant.counted) in
    rest_full most_trace_bytes l.self.walk (g.F.Files.seen c.args.files.now) (g.F.Files.seen l.files) l.invariant.same l.invariant.within l.invariant.whole long

pub returns-then-not-branch-clause-hears : goal.returns-then-not-branch-clause-hears
returns-then-not-branch-clause-hears g c = λ asked hears. c.in_ok-read_block.ensures.hears asked (c.loop-self.invariant.hears asked hears)

pub returns-then-not-branch-clause-reads : goal.returns-then-not-branch-clause-reads
returns-then-not-branch-clause-reads g c =
    let l = c.loop-self in
    let before = g.F.Files.seen c.args.files.now in
    let now = g.F.Files.seen l.files in
    let later = g.F.Files.seen c.read_block.new.files in
    let more = c.read_block.new.self.walk in
    let room = most_trace_bytes + 1 - l.self.bytes in
    let ended = subst (λ (b : Bool). ReadsBlock l.self.walk more room now later (Ok b)) c.if-not-branch.true c.in_ok-read_block.ensures.reads in
    rest_ended most_trace_bytes l.self.walk before now l.invariant.same l.invariant.within l.invariant.whole more room later ended
