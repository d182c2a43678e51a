use Rattle.std.proofs.Common.{◌≡◌, ◌⊎◌, ◌≤◌, ◌<◌, ◌%◌, ◌+◌, ◌-◌, ◌++◌, ℕ, Bool, if◌then◌else◌, List, ◌∙◌, ap, sym, length, min, arith, inl, inr, refl, subst, vec_len}
use Rattle.std.proofs.Math.Nat.{min-le_left, min-le_right}
use Rattle.std.proofs.lemmas.List.FromFn.{length-map-range_with_len}
use Rattle.std.specs.List.{slice_range}
use Rattle.script_machine.specs.Program.{filling}
use Rattle.script_machine.specs.Rooms.{RoomView}
use Rattle.script_machine.proofs.FillLemmas.{filling_again, filling_begins, first_part, next_part}
use Rattle.script_machine.proofs.rooms.Room.go_on_filling.Goals as goal

long_filling : (n start : ℕ) → length (filling n start) ≡ n
long_filling n start = length-map-range_with_len (λ (i : ℕ). (start + i) % 251) 0 n

pub loop-self-init : goal.loop-self-init
loop-self-init c =
    let begun = ap (λ (r : RoomView). r.bytes) c.self.view_is ∙ c.requires.begun in
    let count : vec_len c.self.inside.bytes ≡ min c.args.len 251 = c.self.inside.bytes.ok.0 ∙ ap length begun ∙ long_filling (min c.args.len 251) c.args.start in
    record {
      bytes = begun ∙ ap (λ (n : ℕ). filling n c.args.start) (sym count);
      within = omega (arith, count, min-le_left c.args.len 251);
      whole = first_part (vec_len c.self.inside.bytes) c.args.len count;
      room = omega arith;
      same = refl;
    }

pub loop-self-preserved : goal.loop-self-preserved
loop-self-preserved c =
    let n = vec_len c.loop-self.self-inside.bytes in
    let m = c.min-more.result in
    let least : m ≡ min n (c.args.len - n) = c.min-more.ensures ∙ ap (λ (k : ℕ). min k (c.args.len - k)) c.len-done.ensures in
    let more : n < c.args.len = omega (arith, c.loop-self-test.true, c.len.ensures) in
    let fits : m ≤ n = omega (arith, least, min-le_left n (c.args.len - n)) in
    let within : n + m ≤ c.args.len = omega (arith, least, more, min-le_right n (c.args.len - n)) in
    let (some, whole) = begun n c.args.len more c.loop-self.invariant.whole in
    let old = c.loop-self.self-inside.bytes.items in
    let items : c.extend_from_within.new.self.items ≡ filling (n + m) c.args.start =
    c.extend_from_within.ensures.items
    ∙ ap (λ (b : Bool). if b then old ++ slice_range old 0 m else old) c.if-is_err.ensures.negation
    ∙ ap (λ (l : List ℕ). l ++ slice_range l 0 m) c.loop-self.invariant.bytes
    ∙ ap (λ (l : List ℕ). filling n c.args.start ++ l) (filling_begins n m c.args.start fits)
    ∙ sym (filling_again n m c.args.start whole) in
    let count : vec_len c.extend_from_within.new.self ≡ n + m =
    c.extend_from_within.new.self.ok.0 ∙ ap length items ∙ long_filling (n + m) c.args.start in
    record {
      bytes = items ∙ ap (λ (k : ℕ). filling k c.args.start) (sym count);
      within = omega (arith, count, within);
      whole = subst (λ (k : ℕ). (k ≡ c.args.len) ⊎ ((251 ≤ k) × (k % 251 ≡ 0))) (sym count) (next_part n m c.args.len least more whole some);
      room = omega (arith, c.extend_from_within.ensures.capacity, c.loop-self.invariant.room);
      same = c.loop-self.invariant.same;
    }
  where
    begun : (n len : ℕ) → n < len → (n ≡ len) ⊎ ((251 ≤ n) × (n % 251 ≡ 0)) → (251 ≤ n) × (n % 251 ≡ 0)
    begun n len more (inl all) = absurd (omega (arith, all, more))
    begun n len more (inr parts) = parts
