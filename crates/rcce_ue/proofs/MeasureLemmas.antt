-- Each primitive that is done lowers what is left of a rank's program, and a call begins with no more turns than were
-- reckoned for it.
use Rattle.std.proofs.Common.{◌≡◌, ℕ, suc, ◌+◌, ◌-◌, ◌*◌, ◌<◌, ◌≤◌, ◌==◌, Bool, true, false, cond, min, List, [], ◌∷◌, length, drop, Option, Some, None, refl, sym, ap, ◌∙◌, subst, arith, slice_get}
use Rattle.std.proofs.Math.ListN.{get_or-map}
use Rattle.std.proofs.Math.Nat.{mul-le-mul_right}
use Rattle.scc_base.specs.Heads.{MessageHead}
use Rattle.scc_base.specs.Layouts.{chunk_size}
use Rattle.scc_base.specs.Setups.{SetupView, place_of, setup_key, size_of}
use Rattle.scc_base.specs.declared.layouts.Layout.{Layout}
use Rattle.scc_base.specs.declared.layouts.Layout.TheVariants.{LineFlags, BitFlags}
use Rattle.scc_base.proofs.GroupFacts.{place_below}
use Rattle.send_recv.specs.Chunks.{chunk_count, lines_from, lines_of_bytes, message_bound}
use Rattle.send_recv.specs.Ops.{SlotAt, new_send, slot_left}
use Rattle.send_recv.specs.Sending.{of_chunk}
use Rattle.send_recv.proofs.Starts.{new_receive_left}
use Rattle.barrier.specs.Stages.{left_by}
use Rattle.barrier.specs.declared.stages.BarStage.TheVariants.{Flip}
use Rattle.script_machine.specs.declared.prims.Source.{Source}
use Rattle.script_machine.specs.declared.prims.Source.TheVariants as source_of
use Rattle.script_machine.specs.declared.prims.Standing.{Standing}
use Rattle.script_machine.specs.declared.prims.Standing.TheVariants as standing
use Rattle.script_machine.specs.Lengths.{Lengths, asked_length, length_of_register, lengths_after, lengths_of, source_length, with_register}
use Rattle.script_machine.specs.Local.{Local, asked_head, local_next, next_by_act, next_by_prim, prim_by_standing, register_at, source_bytes}
use Rattle.script_machine.specs.Next.{Next}
use Rattle.script_machine.specs.Next.Next.{Ends, Goes, Posts, Sends, Recvs, Bars}
use Rattle.script_machine.specs.Program.{Act, Prim}
use Rattle.script_machine.proofs.ProgramLengths.NextLengths.{lengths_next}
use Rattle.rcce_ue.specs.Left.{barrier_bound, bound_of, bounds_left, next_bound, open_left, rest_of}
use Rattle.rcce_ue.specs.Ues.{open_for_next}
use Rattle.rcce_ue.specs.declared.calls.Open.TheVariants.{Sending}

-- the length of a register
reg_length : (u : Local) (reg : ℕ) → length_of_register (lengths_of u) reg ≡ length (register_at u reg)
reg_length u reg = get_or-map (length {A = ℕ}) u.registers reg []

module _ (s : SetupView) (rank : ℕ) where
  -- what stands next leaves less
  abbrev Lowers : ℕ → Next Local → Type 0
  Lowers left Ends = Unit {0}
  Lowers left (Goes after) = left ≡ 1 + rest_of s rank after
  Lowers left (Posts message after) = left ≡ (1 + message_bound s.layout message.head.len) + rest_of s rank after
  Lowers left (Sends to head bytes after) = left ≡ (1 + message_bound s.layout head.len) + rest_of s rank after
  Lowers left (Recvs from head take refuse) = (bytes : List ℕ) → length bytes ≡ head.len → left ≡ (1 + message_bound s.layout head.len) + rest_of s rank (take bytes)
  Lowers left (Bars comm after) = left ≡ (1 + barrier_bound s rank comm) + rest_of s rank after

  -- the number after one primitive, by the lengths after it
  abbrev rest_by : Lengths → List Prim → ℕ
  rest_by l prims = length prims + bounds_left s rank l prims

  lowered : (left bound : ℕ) (before after : Lengths) (prims : List Prim) → left ≡ (1 + bound) + rest_by before prims → before ≡ after → left ≡ (1 + bound) + rest_by after prims
  lowered left bound before after prims is same = is ∙ ap (λ (l : Lengths). (1 + bound) + rest_by l prims) same

  module _ (u : Local) (line : ℕ) (left : ℕ) where
    lowers_act : (a : Act) → left ≡ (1 + bound_of s rank (lengths_of u) a) + rest_by (lengths_after (lengths_of u) a) (drop 1 u.left) → Lowers left (next_by_act u line a)
    lowers_act (Act.Send to head source) is = is ∙ ap (λ (n : ℕ). (1 + message_bound s.layout n) + rest_by (lengths_of u) (drop 1 u.left)) (by source)
      where
        by : (source : Source) → source_length (lengths_of u) source ≡ length (source_bytes u source)
        by (source_of.Own reg) = reg_length u reg
        by source_of.Accumulator = refl
    lowers_act (Act.Post to reg) is = is ∙ ap (λ (n : ℕ). (1 + message_bound s.layout (min n 3584)) + rest_by (lengths_of u) (drop 1 u.left)) (reg_length u reg)
    lowers_act (Act.Recv from reg head) is = λ bytes long.
        lowered left (message_bound s.layout head.len) (with_register (lengths_of u) reg head.len) _ (drop 1 u.left) is (sym (lengths_next u line (Act.Recv from reg head) bytes long))
    lowers_act (Act.Gather from head sized) is = λ bytes long.
        lowered left (message_bound s.layout (asked_head u head sized).len) (record (lengths_of u) { received = asked_length (lengths_of u) head sized }) _ (drop 1 u.left)
        (is ∙ ap (λ (n : ℕ). (1 + message_bound s.layout n) + rest_by (record (lengths_of u) { received = asked_length (lengths_of u) head sized }) (drop 1 u.left)) (by sized))
        (sym (lengths_next u line (Act.Gather from head sized) bytes long))
      where
        by : (sized : Option ℕ) → asked_length (lengths_of u) head sized ≡ (asked_head u head sized).len
        by None = refl
        by (Some reg) = reg_length u reg
    lowers_act (Act.Bar comm) is = is
    lowers_act a is = lowered left 0 (lengths_after (lengths_of u) a) _ (drop 1 u.left) is (sym (lengths_next u line a [] refl))

  more_bound : (n bound rest : ℕ) → suc n + (bound + rest) ≡ (1 + bound) + (n + rest)
  more_bound n bound rest = omega arith

  module _ (u : Local) where
    lowers_left : (l : List Prim) → u.left ≡ l → Lowers (rest_of s rank u) (next_by_prim u (slice_get l 0))
    lowers_left [] is = tt
    lowers_left (prim ∷ rest) is =
        lowers_act u prim.line (rest_of s rank u) prim.act
        (ap (rest_by (lengths_of u)) is
        ∙ more_bound (length rest) (bound_of s rank (lengths_of u) prim.act) (bounds_left s rank (lengths_after (lengths_of u) prim.act) rest)
        ∙ ap (λ (l : List Prim). (1 + bound_of s rank (lengths_of u) prim.act) + rest_by (lengths_after (lengths_of u) prim.act) (drop 1 l)) (sym is))

    lowers_standing : (at : Standing) → Lowers (rest_of s rank u) (next_by_prim u (prim_by_standing at u.left))
    lowers_standing standing.Running = lowers_left u.left refl
    lowers_standing (standing.Mismatched line from sent asked) = tt

    lowers_next : Lowers (rest_of s rank u) (local_next u)
    unfolding local_next
    lowers_next = lowers_standing u.standing

    -- what is left after what stands next
    pub falls : (n : Next Local) → local_next u ≡ n → Lowers (rest_of s rank u) n
    falls n is = subst (Lowers (rest_of s rank u)) is lowers_next

-- ---- a new call

each_send : (layout : Layout) → of_chunk layout false ≤ 4
each_send LineFlags = omega arith
each_send BitFlags = omega arith

each_post : (layout : Layout) → of_chunk layout true ≤ 2
each_post LineFlags = omega arith
each_post BitFlags = omega arith

lines_all : (size len : ℕ) → lines_from size len 0 ≡ lines_of_bytes len
lines_all size len = let none : len - size * 0 ≡ len = omega arith in ap lines_of_bytes none

post_fits : (slot lines product chunks : ℕ) → product ≤ 2 * (chunks - 0) → 3 + (slot + 1 + lines + product) ≤ slot + (1 + (4 + 5 * chunks + lines))
post_fits slot lines product chunks le = omega (arith, le)

send_fits : (slot lines product chunks : ℕ) → product ≤ 4 * (chunks - 0) → 1 + (slot + 1 + lines + product) ≤ slot + (1 + (4 + 5 * chunks + lines))
send_fits slot lines product chunks le = omega (arith, le)

module _ (s : SetupView) (rank : ℕ) (slot : SlotAt) where
  post_opens : (to : ℕ) (head : MessageHead) → open_left s rank (Sending (new_send to head true)) slot ≤ slot_left slot + (1 + message_bound s.layout head.len)
  post_opens to head =
      subst (λ (l : ℕ). 3 + (slot_left slot + 1 + l + of_chunk s.layout true * (chunk_count (chunk_size s.layout) head.len - 0)) ≤ slot_left slot + (1 + (4 + 5 * chunk_count (chunk_size s.layout) head.len + lines_of_bytes head.len)))
      (sym (lines_all (chunk_size s.layout) head.len))
      (post_fits (slot_left slot) (lines_of_bytes head.len) (of_chunk s.layout true * (chunk_count (chunk_size s.layout) head.len - 0)) (chunk_count (chunk_size s.layout) head.len)
      (mul-le-mul_right (chunk_count (chunk_size s.layout) head.len - 0) (each_post s.layout)))

  send_opens : (to : ℕ) (head : MessageHead) → open_left s rank (Sending (new_send to head false)) slot ≤ slot_left slot + (1 + message_bound s.layout head.len)
  send_opens to head =
      subst (λ (l : ℕ). 1 + (slot_left slot + 1 + l + of_chunk s.layout false * (chunk_count (chunk_size s.layout) head.len - 0)) ≤ slot_left slot + (1 + (4 + 5 * chunk_count (chunk_size s.layout) head.len + lines_of_bytes head.len)))
      (sym (lines_all (chunk_size s.layout) head.len))
      (send_fits (slot_left slot) (lines_of_bytes head.len) (of_chunk s.layout false * (chunk_count (chunk_size s.layout) head.len - 0)) (chunk_count (chunk_size s.layout) head.len)
      (mul-le-mul_right (chunk_count (chunk_size s.layout) head.len - 0) (each_send s.layout)))

  flip_left : (size place : ℕ) → 1 ≤ size → left_by size place Flip ≤ 2 * size + 1
  flip_left size place some = by (place == 0)
    where
      by : (b : Bool) → cond b (2 * size - 1) 2 ≤ 2 * size + 1
      by true = omega arith
      by false = omega (arith, some)

  -- the turns of a call that begins, and of the slot, are no more than were reckoned
  pub opened_by : {U : Type 0} → rank < s.nue → (n : Next U) → open_left s rank (open_for_next n) slot ≤ slot_left slot + (1 + next_bound s rank n)
  opened_by within Ends = omega arith
  opened_by within (Goes after) = omega arith
  opened_by within (Posts message after) = post_opens message.to message.head
  opened_by within (Sends to head bytes after) = send_opens to head
  opened_by within (Recvs from head take refuse) = let most = new_receive_left (chunk_size s.layout) from head in omega (arith, most)
  opened_by within (Bars comm after) =
      let some = place_below s.nue (setup_key s comm) rank within in
      let most = flip_left (size_of s comm rank) (place_of s comm rank) (omega (arith, some)) in
      omega (arith, most)
