use Rattle.std.proofs.Common.{◌≡◌, ◌∙◌, ℕ, ap, length, map, arith}
use Rattle.std.specs.List.{range_with_len}
use Rattle.plain_meaning.specs.Meaning.{keys_of}
use Rattle.check_program.specs.Waiting.{found_at}
use Rattle.check_program.proofs.WaitingLaws.{found_more, many}
use Rattle.check_program.proofs.trouble.all_found.Goals as goal

pub loop-number-preserved : goal.loop-number-preserved
loop-number-preserved c =
    found_more (keys_of c.args.scripts.now) c.args.end.now c.loop-number.number c.of-rank.result c.trouble_of.result c.loop-number.all.items c.push.new.self.items
    c.loop-number.invariant c.of-rank.ensures.gives c.trouble_of.ensures c.in_ok-push.ensures.items

pub returns : goal.returns
returns c =
    let all : length c.args.end.now ≡ c.args.scripts.now.nue = many c.args.scripts.now c.args.end.now c.requires in
    let last : c.loop-number.number ≡ length c.args.end.now =
    omega (arith, all, c.loop-number-test.false, c.loop-number.auto.number-end, c.nue-number-end.ensures.same) in
    c.loop-number.invariant ∙ ap (λ (n : ℕ). map (found_at (keys_of c.args.scripts.now) c.args.end.now) (range_with_len 0 n)) last
