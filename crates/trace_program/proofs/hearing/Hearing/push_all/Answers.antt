use Rattle.std.proofs.Common.{◌∷◌, [], append_assoc, get_or, rules, take}
use Rattle.std.proofs.lemmas.List.{take_more}
use Rattle.trace_program.proofs.hearing.Hearing.push_all.Goals as goal

pub push-requires-clause-hears : goal.push-requires-clause-hears
push-requires-clause-hears c = let (asked, hears) = c.requires.hears in (asked, c.loop-byte.invariant.hears asked hears)

pub loop-byte-preserved : goal.loop-byte-preserved
loop-byte-preserved c =
    let before = c.args.self.now.walk in
    let bytes = c.args.bytes.now in
    let at = c.loop-byte.byte-index in
    let more = take_more bytes at 0 c.loop-byte-test.true in
    let first = c.loop-byte.invariant.text in
    let joins = append_assoc before (take at bytes) (get_or bytes at 0 ∷ []) in
    record {
      text = search (rules, more, first, joins);
      hears = λ asked hears. c.in_ok-push.ensures.hears asked (c.loop-byte.invariant.hears asked hears);
    }
