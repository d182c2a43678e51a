use Rattle.std.proofs.Common.{ℕ, ◌+◌, ◌%◌, arith}
use Rattle.std.proofs.lemmas.List.FromFn.{length-map-range_with_len}
use Rattle.script_machine.proofs.rooms.Room.set.Goals as goal

pub fill-requires : goal.fill-requires
fill-requires c =
    let all = length-map-range_with_len (λ (i : ℕ). (c.in-Filling.start + i) % 251) 0 c.in-Filling.len in
    let sized = rw c.in-Filling.is at c.requires in
    omega (arith, all, sized)
