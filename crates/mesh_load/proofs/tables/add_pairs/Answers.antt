use Rattle.std.proofs.Common.{◌≡◌, ◌+◌, ◌*◌, ◌≤◌, ◌<◌, ◌∙◌, ℕ, true, get_or, length, arith, refl, length-set}
use Rattle.mesh_load.specs.Tables.{pair_place, total}
use Rattle.mesh_load.proofs.SumLaws.{added_pair, placed_more}
use Rattle.mesh_load.proofs.TableLaws.{chosen-set, chosen-zeros, get_or-le}
use Rattle.mesh_load.proofs.tables.add_pairs.Goals as goal

pub loop-i-init : goal.loop-i-init
loop-i-init c = record {
  room = refl;
  so_far = λ test. chosen-zeros test 576;
  placed = λ j d below. absurd (omega (arith, below));
  few = omega (arith, chosen-zeros (λ (place : ℕ). true) 576);
}

pub overflow_add-pairs-in-loop-i : goal.overflow_add-pairs-in-loop-i
overflow_add-pairs-in-loop-i c =
    let place : ℕ = c.tile-from.result * 24 + c.tile-to.result in
    let here : get_or c.loop-i.pairs place 0 ≤ total c.loop-i.pairs = get_or-le c.loop-i.pairs place in
    omega (arith, here, c.loop-i.invariant.few, c.lines.ensures.few, c.len-i-end.ensures.most, c.loop-i-test.true)

pub loop-i-preserved : goal.loop-i-preserved
loop-i-preserved c =
    let at = c.args.at.now in
    let matches = c.args.matches.now in
    let one = c.get-one.result.now in
    let place : ℕ = c.tile-from.result * 24 + c.tile-to.result in
    let there : place < length c.loop-i.pairs = omega (arith, c.tile-from.ensures.same, c.tile-from.ensures.placed, c.tile-to.ensures.same, c.tile-to.ensures.placed, c.loop-i.invariant.room) in
    let is : place ≡ pair_place at one = omega (arith, c.tile-from.ensures.same, c.tile-to.ensures.same) in
    record {
      room = length-set c.loop-i.pairs place _ ∙ c.loop-i.invariant.room;
      so_far = added_pair at matches c.loop-i.pairs c.loop-i.i place c.lines.result one c.get-one.ensures there is c.lines.ensures.same c.loop-i.invariant.so_far;
      placed = placed_more at matches c.loop-i.pairs c.loop-i.i place c.lines.result one c.get-one.ensures there is c.lines.ensures.same
          (record { from = c.tile-from.ensures.placed; to = c.tile-to.ensures.placed }) c.loop-i.invariant.placed;
      few = omega (arith, chosen-set (λ (k : ℕ). true) c.loop-i.pairs place c.lines.result there, c.loop-i.invariant.few, c.lines.ensures.few);
    }
