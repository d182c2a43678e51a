-- The messages of a rank's program are with other ranks of the run, and its barriers are of communicators that are there.
use Rattle.std.proofs.Common.{◌≡◌, ◌≢◌, ℕ, ◌+◌, ◌%◌, ◌<◌, ◌≤◌, Bool, true, false, cond, not, ◌&&◌, List, [], ◌∷◌, ◌++◌, length, map, None, Some, refl, arith}
use Rattle.std.specs.Prelude.{nat_le, nat_lt, pos}
use Rattle.std.proofs.lemmas.Bool.{eqb-false, leb-true, ltb-true}
use Rattle.std.proofs.lemmas.List.FromFn.{length-map-range_with_len}
use Rattle.groups.specs.Collectives.{HasRoot, IsCallable, comm_of, len_of, steps_of}
use Rattle.groups.specs.Folds.{bytes_in}
use Rattle.groups.specs.Peers.{IsPeer}
use Rattle.groups.specs.declared.collectives.Coll.{Coll}
use Rattle.groups.specs.declared.collectives.Coll.TheVariants as coll
use Rattle.groups.specs.declared.collectives.Step.{Step}
use Rattle.groups.specs.declared.collectives.Step.TheVariants as step
use Rattle.groups.specs.declared.operations.Op.TheVariants as op_of
use Rattle.groups.specs.declared.operations.Ty.{Ty}
use Rattle.groups.specs.declared.operations.Ty.TheVariants as ty_of
use Rattle.groups.proofs.FoldLemmas.{bytes_length}
use Rattle.groups.proofs.PeerLaws.{AreWithPeers, steps_with}
use Rattle.scc_base.specs.Communicators.{rule_of}
use Rattle.scc_base.specs.Heads.{IsHead, plain_head}
use Rattle.scc_base.specs.Setups.{SetupView}
use Rattle.scc_base.specs.declared.communicators.CommRule.{CommRule}
use Rattle.scc_base.specs.declared.communicators.CommRule.TheVariants as rule
use Rattle.script_rules.specs.Checks.{has_root, is_absent, is_to_self}
use Rattle.script_rules.specs.Effects.{comm_needed, effect_of}
use Rattle.script_rules.specs.Script.{IsSized, Script, has_rank, peer_of, rules_of}
use Rattle.script_rules.specs.Settled.{HasPeer, IsSettled, IsWholeScript}
use Rattle.script_rules.specs.declared.script.Item.{Item}
use Rattle.script_rules.specs.declared.script.Peer.{Peer}
use Rattle.script_rules.specs.declared.script.Stmt.{Stmt}
use Rattle.script_rules.specs.declared.script.Stmt.TheVariants as stmt
use Rattle.script_rules.proofs.SettledLemmas.{present-low}
use Rattle.script_machine.specs.declared.prims.Operands.{Operands}
use Rattle.script_machine.specs.Program.{Act, Prim, acts_of, begins, call_steps, can_call, part_of, parts_of, prims_of, program_of, setup_of}
use Rattle.script_machine.proofs.ProgramLengths.LengthLemmas.{at-found}
use Rattle.script_machine.proofs.Choices as choices
use Rattle.script_machine.proofs.Walks.UnrolledLaws.{hold_program}

-- a rule that is there
there_is : (r : CommRule) → not (is_absent r) ≡ true → r ≢ rule.Absent
there_is rule.Absent is = absurd (cc)
there_is rule.World is = λ same. absurd (cc)
there_is (rule.Mod parent k) is = λ same. absurd (cc)
there_is (rule.Div parent k) is = λ same. absurd (cc)

rooted : (s : SetupView) (rank : ℕ) (c : Coll) → has_root s rank c ≡ true → HasRoot s rank c
rooted s rank (coll.Bcast comm root len) is = ltb-true _ _ is
rooted s rank (coll.Reduce comm root len) is = ltb-true _ _ is
rooted s rank (coll.Allreduce comm len) is = tt

-- a call that passes the tests of a program can be made
pub called : (s : SetupView) (rank : ℕ) (c : Coll) → can_call s rank c ≡ true → IsCallable s rank c
called s rank c is =
    let four = choices.both_true (nat_lt (comm_of c) 16 && not (is_absent (rule_of s.comms (comm_of c))) && nat_le (len_of c) 65536 && nat_lt rank s.nue) (has_root s rank c) is in
    let three = choices.both_true (nat_lt (comm_of c) 16 && not (is_absent (rule_of s.comms (comm_of c))) && nat_le (len_of c) 65536) (nat_lt rank s.nue) four.0 in
    let two = choices.both_true (nat_lt (comm_of c) 16 && not (is_absent (rule_of s.comms (comm_of c)))) (nat_le (len_of c) 65536) three.0 in
    let one = choices.both_true (nat_lt (comm_of c) 16) (not (is_absent (rule_of s.comms (comm_of c)))) two.0 in
    record {
      comm_below = ltb-true (comm_of c) 16 one.0;
      present = there_is (rule_of s.comms (comm_of c)) one.1;
      len_within = leb-true (len_of c) 65536 two.1;
      rank_below = ltb-true rank s.nue three.1;
      root_below = rooted s rank c four.1;
    }

narrow : (ty : Ty) → bytes_in ty ≤ 65536
narrow ty_of.Int = omega arith
narrow ty_of.Long = omega arith

plain_valid : (len : ℕ) → len ≤ 65536 → IsHead (plain_head len)
plain_valid len short = record { kind_below = omega arith; comm_below = omega arith; len_within = short; plain_in_world = λ same. refl }

module _ (script : Script) (rank : ℕ) where
  -- an act sets a register to no more bytes than a message may have; a message is with another rank of the run, with a head
  -- that it may have; a barrier is one of a communicator that is there
  abbrev pub IsAimedAct : Act → Type 0
  IsAimedAct (Act.Set reg content) = length content ≤ 65536
  IsAimedAct (Act.Send to head source) = IsPeer script.nue rank to × IsHead head
  IsAimedAct (Act.Post to reg) = IsPeer script.nue rank to
  IsAimedAct (Act.Recv from reg head) = IsPeer script.nue rank from × IsHead head
  IsAimedAct (Act.Gather from head sized) = IsPeer script.nue rank from × IsHead head
  IsAimedAct (Act.Bar comm) = (comm < 16) × (rule_of (rules_of script.items) comm ≢ rule.Absent)
  IsAimedAct _ = Unit {0}

  abbrev pub AreAimed : List Prim → Type 0
  AreAimed [] = Unit {0}
  AreAimed (prim ∷ prims) = IsAimedAct prim.act × AreAimed prims

  aimed_both : (one two : List Prim) → AreAimed one → AreAimed two → AreAimed (one ++ two)
  aimed_both [] two first second = second
  aimed_both (prim ∷ one) two first second = (first.0, aimed_both one two first.1 second)

  -- the acts of one line
  abbrev AimedActs : ℕ → List Act → Type 0
  AimedActs line acts = AreAimed (map (λ act. record { line = line; act = act }) acts)

  aimed_steps : (line : ℕ) (o : Operands) (begun : Bool) (list : List Step) → AreWithPeers (setup_of script) rank list → AimedActs line (map (part_of o begun) list)
  aimed_steps line o begun [] all = tt
  aimed_steps line o begun (step.Begin ∷ list) all = (tt, aimed_steps line o begun list all.1)
  aimed_steps line o begun (step.Send to head ∷ list) all = (all.0, aimed_steps line o begun list all.1)
  aimed_steps line o begun (step.Recv from head ∷ list) all = (all.0, aimed_steps line o begun list all.1)
  aimed_steps line o begun (step.Fold ∷ list) all = (tt, aimed_steps line o begun list all.1)
  aimed_steps line o begun (step.Accept ∷ list) all = (tt, aimed_steps line o begun list all.1)
  aimed_steps line o begun (step.Finish ∷ list) all = (tt, aimed_steps line o begun list all.1)

  aimed_call : (line : ℕ) (o : Operands) (c : Coll) → AimedActs line (parts_of o (call_steps (setup_of script) rank c))
  aimed_call line o c = by (can_call (setup_of script) rank c) refl
    where
      by : (b : Bool) → can_call (setup_of script) rank c ≡ b → AimedActs line (parts_of o (cond b (steps_of (setup_of script) rank c) []))
      by true may =
          aimed_steps line o (begins (steps_of (setup_of script) rank c)) (steps_of (setup_of script) rank c)
          (steps_with (setup_of script) rank c (called (setup_of script) rank c may))
      by false may = tt

  peer_by : (peer : Peer) → peer_of script.nue peer rank < script.nue → is_to_self script.nue (effect_of (stmt.Send peer 0)) rank ≡ false → IsPeer script.nue rank (peer_of script.nue peer rank)
  peer_by peer below other = record { below = below; other = eqb-false (peer_of script.nue peer rank) rank other }

  -- each statement's
  aimed_statement : (line : ℕ) (statement : Stmt) → HasPeer script.nue (effect_of statement) rank → is_to_self script.nue (effect_of statement) rank ≡ false
      → rule_of (rules_of script.items) (comm_needed (effect_of statement).group) ≢ rule.Absent → IsSized statement → AimedActs line (acts_of (setup_of script) rank statement)
  aimed_statement line (stmt.Bytes reg bytes) below other there short = (short, tt)
  aimed_statement line (stmt.Fill reg len start) below other there short =
      let long = length-map-range_with_len (λ (i : ℕ). (start + i) % 251) 0 len in (omega (arith, long, short), tt)
  aimed_statement line (stmt.RankOf reg ty) below other there short = let long = bytes_length ty (pos rank) in (omega (arith, long, narrow ty), tt)
  aimed_statement line (stmt.Send peer reg) below other there short = ((peer_by peer below other, plain_valid 0 (omega arith)), tt)
  aimed_statement line (stmt.Post peer reg) below other there short = (peer_by peer below other, tt)
  aimed_statement line (stmt.Recv peer reg len) below other there short = ((peer_by peer below other, plain_valid len short), tt)
  aimed_statement line (stmt.Barrier comm) below other there short = ((present-low script.items comm there, there), tt)
  aimed_statement line (stmt.Split comm by) below other there short = ((present-low script.items _ there, there), tt)
  aimed_statement line (stmt.Bcast comm root reg len) below other there short =
      aimed_call line (record { op = op_of.Sum; ty = ty_of.Int; dst = reg; src = reg; sized = None }) (coll.Bcast comm root len)
  aimed_statement line (stmt.Reduce comm root op ty dst src) below other there short =
      aimed_call line (record { op = op; ty = ty; dst = dst; src = src; sized = Some src }) (coll.Reduce comm root 0)
  aimed_statement line (stmt.Allreduce comm op ty dst src) below other there short =
      aimed_call line (record { op = op; ty = ty; dst = dst; src = src; sized = Some src }) (coll.Allreduce comm 0)
  aimed_statement line (stmt.Repeat times end) below other there short = tt
  aimed_statement line (stmt.End start) below other there short = tt
  aimed_statement line _ below other there short = (tt, tt)

  aimed_prims : (item : Item) → (has_rank item.who rank ≡ true → AimedActs item.line (acts_of (setup_of script) rank item.stmt)) → AreAimed (prims_of (setup_of script) rank item)
  aimed_prims item is = by (has_rank item.who rank) refl
    where
      by : (b : Bool) → has_rank item.who rank ≡ b → AreAimed (cond b (map (λ act. record { line = item.line; act = act }) (acts_of (setup_of script) rank item.stmt)) [])
      by true has = is has
      by false has = tt

  -- the program's
  pub program_aimed : IsWholeScript script.nue script.items → rank < script.nue → AreAimed (program_of script rank)
  program_aimed whole within =
      hold_program AreAimed tt aimed_both (setup_of script) rank script.items (λ k item found. aimed_prims item (λ has.
      let settled = at-found (IsSettled script.nue (rules_of script.items)) script.items k item whole.settled found in
      let sized = at-found (λ (i : Item). IsSized i.stmt) script.items k item whole.sized found in
      aimed_statement item.line item.stmt (settled.below rank within has) (settled.other rank within has) (settled.present rank within has) sized))
