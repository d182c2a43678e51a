use Rattle.std.proofs.Common.{◌≡◌, length, arith}
use Rattle.check_program.proofs.WaitingLaws.{many}
use Rattle.check_program.proofs.trouble.trouble_of.Goals as goal

pub ue-requires : goal.ue-requires
ue-requires c =
    let all : length c.args.end.now ≡ c.args.scripts.now.nue = many c.args.scripts.now c.args.end.now c.requires.ended in
    omega (arith, all, c.requires.below)
