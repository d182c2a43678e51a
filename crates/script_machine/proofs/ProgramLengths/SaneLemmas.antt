-- Whatever a rank does next, each of its registers and work buffers has at most as many bytes as a message may have, and
-- its calls can be made.
use Rattle.std.proofs.Common.{◌≡◌, ◌≢◌, ℕ, ◌<◌, ◌≤◌, List, [], ◌∷◌, length, drop, get_or, set, Some, None, Option, refl, sym, ap, subst, arith, slice_get, ⊎_elim}
use Rattle.std.proofs.lemmas.Bool.{cases_eq, cases_lt}
use Rattle.std.proofs.lemmas.List.{get_or-set_same, get_or-set_other, get_or_past, length-set}
use Rattle.groups.specs.Peers.{IsPeer}
use Rattle.scc_base.specs.Communicators.{rule_of}
use Rattle.scc_base.specs.Heads.{IsHead, IsPostHead, MessageHead}
use Rattle.scc_base.specs.declared.communicators.CommRule.TheVariants as rule
use Rattle.script_rules.specs.Script.{Script, rules_of}
use Rattle.script_machine.specs.declared.prims.Source.{Source}
use Rattle.script_machine.specs.declared.prims.Source.TheVariants as source_of
use Rattle.script_machine.specs.declared.prims.Standing.{Standing}
use Rattle.script_machine.specs.declared.prims.Standing.TheVariants as standing
use Rattle.script_machine.specs.Lengths.{Lengths}
use Rattle.script_machine.specs.Local.{Local, asked_head, gone_on_alone, local_next, next_by_act, next_by_prim, prim_by_standing, register_at, source_bytes, head_with_length}
use Rattle.script_machine.specs.Next.{Next}
use Rattle.script_machine.specs.Next.Next.{Ends, Goes, Posts, Sends, Recvs, Bars}
use Rattle.script_machine.specs.Program.{Act, Prim}
use Rattle.script_machine.proofs.ProgramLengths.AimLemmas.{AreAimed, IsAimedAct}
use Rattle.script_machine.proofs.ProgramLengths.NextLengths.{after, length_same, lengths_next, own_even}

-- a register is written
short_set : (registers : List (List ℕ)) (reg : ℕ) (bytes : List ℕ) → length bytes ≤ 65536 → ((r : ℕ) → length (get_or registers r []) ≤ 65536) → (r : ℕ) → length (get_or (set registers reg bytes) r []) ≤ 65536
short_set registers reg bytes new all r =
    ⊎_elim
    (λ (same : r ≡ reg). subst (λ (x : ℕ). length (get_or (set registers reg bytes) x []) ≤ 65536) (sym same) here)
    (λ (apart : r ≢ reg). subst (λ (b : List ℕ). length b ≤ 65536) (sym (get_or-set_other registers reg r bytes [] apart)) (all r))
    (cases_eq r reg)
  where
    here : length (get_or (set registers reg bytes) reg []) ≤ 65536
    here =
        ⊎_elim
        (λ (within : reg < length registers). subst (λ (b : List ℕ). length b ≤ 65536) (sym (get_or-set_same registers reg bytes [] within)) new)
        (λ (past : length registers ≤ reg). let none = ap length (get_or_past (set registers reg bytes) reg [] (omega (arith, past, length-set registers reg bytes))) in omega (arith, none))
        (cases_lt reg (length registers))

-- a head with another length
head_sized : (head : MessageHead) (len : ℕ) → IsHead head → len ≤ 65536 → IsHead (head_with_length head len)
head_sized head len valid short = record { kind_below = valid.kind_below; comm_below = valid.comm_below; len_within = short; plain_in_world = valid.plain_in_world }

module _ (script : Script) (rank : ℕ) where
  -- what a rank holds is short enough, and what is left is aimed
  pub record IsSane (u : Local) : Type 0 where
    pub registers : (reg : ℕ) → length (register_at u reg) ≤ 65536
    pub accumulator : length u.accumulator ≤ 65536
    pub received : length u.received ≤ 65536
    pub left : AreAimed script rank u.left

  -- and so it is after what stands next, and what stands next can be done. (That a post is as long as its head says is
  -- shown by the lengths of the registers.)
  abbrev pub SaneNext : {U : Type 0} → (U → Local) → Next U → Type 0
  SaneNext local Ends = Unit {0}
  SaneNext local (Goes after) = IsSane (local after)
  SaneNext local (Posts message after) = IsSane (local after) × IsPeer script.nue rank message.to × IsPostHead message.head
  SaneNext local (Sends to head bytes after) = IsSane (local after) × IsPeer script.nue rank to × IsHead head × (length bytes ≡ head.len)
  SaneNext local (Recvs from head take refuse) = ((bytes : List ℕ) → length bytes ≡ head.len → IsSane (local (take bytes))) × IsPeer script.nue rank from × IsHead head
  SaneNext local (Bars comm after) = IsSane (local after) × (comm < 16) × (rule_of (rules_of script.items) comm ≢ rule.Absent)

  module _ (u : Local) (sane : IsSane u) (line : ℕ) where
    source_short : (source : Source) → length (source_bytes u source) ≤ 65536
    source_short (source_of.Own reg) = sane.registers reg
    source_short source_of.Accumulator = sane.accumulator

    asked_short : (head : MessageHead) (sized : Option ℕ) → IsHead head → IsHead (asked_head u head sized)
    asked_short head None valid = valid
    asked_short head (Some reg) valid = head_sized head (length (register_at u reg)) valid (sane.registers reg)

    sane_act : (a : Act) → IsAimedAct script rank a → AreAimed script rank (drop 1 u.left) → SaneNext (λ (v : Local). v) (next_by_act u line a)
    sane_act (Act.Set reg content) aim on = record { registers = short_set u.registers reg content aim sane.registers; accumulator = sane.accumulator; received = sane.received; left = on }
    sane_act (Act.Own own) aim on = record {
      registers = λ reg. subst (λ (n : ℕ). n ≤ 65536) (sym (length_same u (gone_on_alone u own) (own_even u own) reg)) (sane.registers reg);
      accumulator = sane.accumulator;
      received = sane.received;
      left = on;
    }
    sane_act (Act.Send to head source) aim on = (
      record { registers = sane.registers; accumulator = sane.accumulator; received = sane.received; left = on },
      aim.0,
      head_sized head (length (source_bytes u source)) aim.1 (source_short source),
      refl,
    )
    sane_act (Act.Post to reg) aim on = (
      record { registers = sane.registers; accumulator = sane.accumulator; received = sane.received; left = on },
      aim,
      record { plain = refl; in_world = refl; len_within = omega arith },
    )
    sane_act (Act.Recv from reg head) aim on = (
      λ bytes even.
          let short = aim.1.len_within in
          record { registers = short_set u.registers reg bytes (omega (arith, even, short)) sane.registers; accumulator = sane.accumulator; received = sane.received; left = on },
      aim.0,
      aim.1,
    )
    sane_act (Act.Gather from head sized) aim on =
        let valid = asked_short head sized aim.1 in (
          λ bytes even. let short = valid.len_within in record { registers = sane.registers; accumulator = sane.accumulator; received = omega (arith, even, short); left = on },
          aim.0,
          valid,
        )
    sane_act (Act.Bar comm) aim on = (record { registers = sane.registers; accumulator = sane.accumulator; received = sane.received; left = on }, aim.0, aim.1)
    sane_act (Act.Begin reg) aim on = record { registers = sane.registers; accumulator = sane.registers reg; received = sane.received; left = on }
    sane_act (Act.Accept reg) aim on = record { registers = short_set u.registers reg u.received sane.received sane.registers; accumulator = sane.accumulator; received = sane.received; left = on }
    sane_act (Act.Finish reg) aim on = record { registers = short_set u.registers reg u.accumulator sane.accumulator sane.registers; accumulator = sane.accumulator; received = sane.received; left = on }
    sane_act a aim on =
        let same = lengths_next u line a [] refl in
        record {
          registers = λ reg. subst (λ (n : ℕ). n ≤ 65536) (sym (length_same u (after (next_by_act u line a) [] u) (ap (λ (l : Lengths). l.registers) same) reg)) (sane.registers reg);
          accumulator = subst (λ (n : ℕ). n ≤ 65536) (sym (ap (λ (l : Lengths). l.accumulator) same)) sane.accumulator;
          received = subst (λ (n : ℕ). n ≤ 65536) (sym (ap (λ (l : Lengths). l.received) same)) sane.received;
          left = on;
        }

  module _ (u : Local) (sane : IsSane u) where
    sane_left : (l : List Prim) → u.left ≡ l → SaneNext (λ (v : Local). v) (next_by_prim u (slice_get l 0))
    sane_left [] is = tt
    sane_left (prim ∷ rest) is =
        let both = subst (AreAimed script rank) is sane.left in
        sane_act u sane prim.line prim.act both.0 (subst (λ (l : List Prim). AreAimed script rank (drop 1 l)) (sym is) both.1)

    sane_standing : (s : Standing) → SaneNext (λ (v : Local). v) (next_by_prim u (prim_by_standing s u.left))
    sane_standing standing.Running = sane_left u.left refl
    sane_standing (standing.Mismatched line from sent asked) = tt

    pub sane_next : SaneNext (λ (v : Local). v) (local_next u)
    unfolding local_next
    sane_next = sane_standing u.standing
