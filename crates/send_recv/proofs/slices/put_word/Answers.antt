use Rattle.std.proofs.Common.{◌+◌, ◌-◌, ℕ, List, length, slice_index, sym, ◌∙◌, ap, subst, arith}
use Rattle.send_recv.proofs.Lines.Puts.{IsPutting, le_byte, part_long, part_put, part_before, part_after, putting_more, putting_past}
use Rattle.send_recv.proofs.slices.put_word.Goals as goal
use Rattle.send_recv.proofs.slices.put_word.Goals.{then-at-k, else-at-k}

pub copy_from_slice-requires : goal.copy_from_slice-requires
copy_from_slice-requires c =
    let long = part_long c.args.bytes.now c.args.at 8 c.if-at-bytes.true in
    let eight = ap length c.to_le_bytes.ensures in
    omega (arith, long, eight)

pub returns-then-at-bytes-clause-put : goal.returns-then-at-bytes-clause-put
returns-then-at-bytes-clause-put c = λ k low within.
    part_put c.args.bytes.now c.copy_from_slice.new.self c.args.at (c.args.at + 8 - c.args.at) (omega (arith, c.if-at-bytes.true))
    (c.copy_from_slice.ensures.len ∙ part_long c.args.bytes.now c.args.at 8 c.if-at-bytes.true) k (omega (arith, low))
    ∙ ap (λ (bs : List ℕ). slice_index bs k) (c.copy_from_slice.ensures.after ∙ c.to_le_bytes.ensures) ∙ le_byte c.args.word k low

pub returns-then-at-bytes-clause-before : goal.returns-then-at-bytes-clause-before
returns-then-at-bytes-clause-before c =
    part_before c.args.bytes.now c.copy_from_slice.new.self c.args.at (c.args.at + 8 - c.args.at) (omega (arith, c.if-at-bytes.true))
    (c.copy_from_slice.ensures.len ∙ part_long c.args.bytes.now c.args.at 8 c.if-at-bytes.true)

pub returns-then-at-bytes-clause-afterwards : goal.returns-then-at-bytes-clause-afterwards
returns-then-at-bytes-clause-afterwards c = λ k high.
    part_after c.args.bytes.now c.copy_from_slice.new.self c.args.at (c.args.at + 8 - c.args.at) (omega (arith, c.if-at-bytes.true))
    (c.copy_from_slice.ensures.len ∙ part_long c.args.bytes.now c.args.at 8 c.if-at-bytes.true) k (omega (arith, high))

pub bytes-preserved : goal.bytes-preserved
bytes-preserved c =
    let i = c.bytes.invariant in
    let is : IsPutting c.args.bytes.now c.args.at c.args.word c.bytes.k c.bytes.bytes = record { put = i.put; before = i.before; afterwards = i.afterwards } in
    let more : IsPutting c.args.bytes.now c.args.at c.args.word (c.bytes.k + 1) c.if-at-k.bytes
    = elim c.if-at-k.branch [
      | then-at-k w ↦ subst (IsPutting c.args.bytes.now c.args.at c.args.word (c.bytes.k + 1)) (sym w.bytes-is)
          (putting_more c.args.bytes.now c.bytes.bytes c.args.at c.args.word c.bytes.k is _ w.byte_of.ensures.gives w.if-at-k.true)
      | else-at-k w ↦ subst (IsPutting c.args.bytes.now c.args.at c.args.word (c.bytes.k + 1)) (sym w.bytes-is)
          (putting_past c.args.bytes.now c.bytes.bytes c.args.at c.args.word c.bytes.k is w.if-at-k.false)
    ] in
    record { put = more.put; before = more.before; afterwards = more.afterwards }
