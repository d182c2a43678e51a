use Rattle.std.proofs.Common.{◌≡◌, true, false, List, [], Option, Some, None, sym, ◌∙◌, ap, subst, refl, arith, append-nil, ℕ}
use Rattle.scc_base.specs.declared.events.Spot.{Spot}
use Rattle.scc_base.specs.declared.layouts.Layout.{Layout}
use Rattle.scc_base.specs.declared.layouts.Layout.TheVariants.{LineFlags, BitFlags}
use Rattle.scc_proto.specs.Ports.{Sight, record_in}
use Rattle.scc_proto.proofs.PortLaws.{did_nothing}
use Rattle.put_get.specs.Cores.{Private}
use Rattle.send_recv.specs.Ops.{RecvAt, is_received}
use Rattle.send_recv.specs.Receiving.{RecvTurned, spot_by, recv_waits, extra_line}
use Rattle.send_recv.specs.Steps.{own_core, core_of, goes_on, HeadRead, Same, Differs}
use Rattle.sync_flags.specs.Tries.{Aim, NoTry, tries_at}
use Rattle.send_recv.specs.Tries.{aim_of, aim_at}
use Rattle.send_recv.proofs.Looks.TryLemmas.{le_self}
use Rattle.send_recv.specs.Turns.{NoLoad}
use Rattle.send_recv.specs.declared.stages.RecvStage.{RecvStage}
use Rattle.send_recv.specs.declared.stages.RecvStage.TheVariants.{Finished}
use Rattle.send_recv.specs.declared.answers.RecvTurn.{RecvTurn}
use Rattle.send_recv.specs.declared.answers.RecvTurn.TheVariants.{Moved, Waiting, Done, Mismatch}
use Rattle.send_recv.specs.Ranks.{receiving}
use Rattle.send_recv.proofs.Receiving.LookTurn.{Turns, recv_does, look_turn}
use Rattle.send_recv.proofs.Receiving.HeadTurn.{head_turn, post_itself}
use Rattle.send_recv.proofs.Receiving.LinesMove.{lines_turn}
use Rattle.send_recv.proofs.Receiving.FlagTurns.{may_lower_turn}
use Rattle.send_recv.proofs.Receiving.RaiseTurn.{may_raise_turn}
use Rattle.send_recv.proofs.Receiving.RecvTurns.{lower_turn, raise_turn}
use Rattle.scc_base.specs.Calls.{Recv}
use Rattle.std.proofs.Common.{◌∷◌, ◌++◌, if◌then◌else◌, ◌-◌, ◌+◌, ◌*◌, ◌≤◌}
use Rattle.send_recv.proofs.receives.RecvOp.turn.Goals as goal

-- a turn, where the op after it and the answer are known by equations
at_answer : (s t : Sight) (c d : Private) (op now known : RecvAt) (bytes after : List ℕ) (answer told : RecvTurn) → now ≡ known → answer ≡ told
    → Turns s c op bytes t d known after told → Turns s c op bytes t d now after answer
at_answer s t c d op now known bytes after answer told n a turns =
    subst (λ (x : RecvAt). Turns s c op bytes t d x after answer) (sym n) (subst (λ (x : RecvTurn). Turns s c op bytes t d known after x) (sym a) turns)

waiting_stops : (r : RecvTurn) (spot : Spot) → recv_waits r ≡ Some spot → goes_on r ≡ false
waiting_stops Moved spot e = absurd (cc)
waiting_stops (Waiting at) spot e = refl
waiting_stops Done spot e = absurd (cc)
waiting_stops (Mismatch sent) spot e = absurd (cc)

-- a turn that reads the header line never waits
head_moves : {P : Type 0} {words : List ℕ} {op now : RecvAt} {answer : RecvTurn} → HeadRead words op now answer → goes_on answer ≡ false → P
head_moves (Same says next is) e = absurd (cc (sym (ap goes_on is) ∙ e))
head_moves (Differs says next is) e = absurd (cc (sym (ap goes_on is) ∙ e))

spot_finished : (layout : Layout) (own other from : ℕ) → spot_by layout own other from Finished ≡ None
spot_finished LineFlags own other from = refl
spot_finished BitFlags own other from = refl

rest_work : (a x z : ℕ) → 0 + 4 * a ≤ 4 * a + 4 * ((x - x) + z)
rest_work a x z = omega arith

none_tried : (aim : Aim) → tries_at aim [] ≡ 0
none_tried aim = refl

-- a further turn of a receive that is finished makes no event
finished_turn : (s : Sight) (c : Private) (op : RecvAt) (bytes : List ℕ) → op.stage ≡ Finished → RecvTurned (receiving s c op bytes) (receiving s c op bytes) Done
finished_turn s c op bytes finished = record {
  events = [];
  did = did_nothing s;
  does = recv_does (receiving s c op bytes) Finished true s c finished (refl, refl);
  tried = NoTry (ap (λ (st : RecvStage). aim_at s.seat.setup.layout (spot_by s.seat.setup.layout (own_core s.seat) (core_of s.seat op.from) op.from st)) finished
      ∙ ap (λ (o : Option Spot). aim_at s.seat.setup.layout o) (spot_finished s.seat.setup.layout (own_core s.seat) (core_of s.seat op.from) op.from)) refl;
  freed = refl;
  elsewhere = λ at spot ne. none_tried (aim_of s.seat.setup.layout at);
  fuller = le_self _;
  fewer = le_self _;
  rests = λ spot e. refl;
  only = tt;
  no_drafts = refl;
  same = (refl, refl);
  means = (finished, refl, sym (append-nil (record_in s).calls) ∙ ap (λ (st : RecvStage). (record_in s).calls ++ (if is_received st then [] else Recv op.from op.head bytes ∷ [])) (sym finished));
  rest = record { flips = refl; hold = refl; heap = refl };
  post = post_itself (record_in s).post;
  before = λ k low. refl;
  afterwards = λ k high. refl;
  held = NoLoad refl;
  work = rest_work c.evictions _ (extra_line op.stage Done);
}

pub lower_sent-requires : goal.lower_sent-requires
lower_sent-requires g c = record {
  may = may_lower_turn (g.P.Port.sight c.args.port.now) c.args.core.now c.args.self.now c.args.bytes.now c.known.ensures.valid c.requires.stands (ap (λ (x : RecvAt). x.stage) (sym c.self.view_is) ∙ c.in-Lower.is);
}

pub raise_ready-requires-clause-may : goal.raise_ready-requires-clause-may
raise_ready-requires-clause-may g c =
    may_raise_turn (g.P.Port.sight c.args.port.now) c.args.core.now c.args.self.now c.args.bytes.now c.known.ensures.valid c.requires.stands (ap (λ (x : RecvAt). x.stage) (sym c.self.view_is) ∙ c.in-Raise.is)

pub returns-in-Look : goal.returns-in-Look
returns-in-Look g c =
    let turns =
    at_answer (g.P.Port.sight c.args.port.now) (g.P.Port.sight c.look_sent.new.port) c.args.core.now c.look_sent.new.core c.args.self.now _ _ c.args.bytes.now c.args.bytes.now _ _ c.look_sent.ensures.next c.look_sent.ensures.answers
    (look_turn (goes_on c.look_sent.result) (g.P.Port.sight c.args.port.now) (g.P.Port.sight c.look_sent.new.port) c.args.core.now c.look_sent.new.core c.args.self.now c.args.bytes.now c.known.ensures.valid c.requires.stands
    (ap (λ (x : RecvAt). x.stage) (sym c.self.view_is) ∙ c.in-Look.is) c.look_sent.ensures.looks) in
    record { stands = turns.stands; turned = turns.turned; steps = λ spot e. c.look_sent.ensures.steps }

pub returns-in-Header : goal.returns-in-Header
returns-in-Header g c =
    let turns =
    head_turn (g.P.Port.sight c.args.port.now) (g.P.Port.sight c.read_head.new.port) c.args.core.now c.read_head.new.core c.args.self.now c.read_head.new.self c.args.bytes.now c.read_head.ensures.reads.0 c.read_head.result
    c.known.ensures.valid c.requires.stands (ap (λ (x : RecvAt). x.stage) (sym c.self.view_is) ∙ c.in-Header.is) c.read_head.ensures.sound c.read_head.ensures.reads.1 c.read_head.ensures.reads.2 in
    record { stands = turns.stands; turned = turns.turned; steps = λ spot e. head_moves c.read_head.ensures.reads.2 (waiting_stops c.read_head.result spot e) }

pub returns-in-Lower : goal.returns-in-Lower
returns-in-Lower g c =
    let turns =
    at_answer (g.P.Port.sight c.args.port.now) (g.P.Port.sight c.lower_sent.new.port) c.args.core.now c.lower_sent.new.core c.args.self.now _ _ c.args.bytes.now c.args.bytes.now _ _ c.lower_sent.ensures.next c.lower_sent.ensures.answers
    (lower_turn (goes_on c.lower_sent.result) (g.P.Port.sight c.args.port.now) (g.P.Port.sight c.lower_sent.new.port) c.args.core.now c.lower_sent.new.core c.args.self.now c.args.bytes.now c.known.ensures.valid c.requires.stands
    (ap (λ (x : RecvAt). x.stage) (sym c.self.view_is) ∙ c.in-Lower.is) c.lower_sent.ensures.changes) in
    record { stands = turns.stands; turned = turns.turned; steps = λ spot e. c.lower_sent.ensures.steps (waiting_stops c.lower_sent.result spot e) }

pub returns-in-Lines : goal.returns-in-Lines
returns-in-Lines g c =
    let turns =
    at_answer (g.P.Port.sight c.args.port.now) (g.P.Port.sight c.read_line.new.port) c.args.core.now c.read_line.new.core c.args.self.now _ _ c.args.bytes.now c.read_line.new.bytes _ _ c.read_line.ensures.next c.read_line.ensures.answers
    (lines_turn (g.P.Port.sight c.args.port.now) (g.P.Port.sight c.read_line.new.port) c.args.core.now c.read_line.new.core c.args.self.now c.in-Lines.line c.args.bytes.now c.read_line.new.bytes c.read_line.ensures.reads.0
    c.known.ensures.valid c.requires.stands (ap (λ (x : RecvAt). x.stage) (sym c.self.view_is) ∙ c.in-Lines.is) c.read_line.ensures.reads.1 c.read_line.auto.bytes c.read_line.ensures.reads.2
    c.read_line.ensures.before c.read_line.ensures.afterwards) in
    record { stands = turns.stands; turned = turns.turned; steps = λ spot e. absurd (cc (sym (ap goes_on c.read_line.ensures.answers) ∙ waiting_stops c.read_line.result spot e)) }

pub returns-in-Raise : goal.returns-in-Raise
returns-in-Raise g c =
    let turns =
    at_answer (g.P.Port.sight c.args.port.now) (g.P.Port.sight c.raise_ready.new.port) c.args.core.now c.raise_ready.new.core c.args.self.now _ _ c.args.bytes.now c.args.bytes.now _ _ c.raise_ready.ensures.next c.raise_ready.ensures.answers
    (raise_turn (goes_on c.raise_ready.result) (g.P.Port.sight c.args.port.now) (g.P.Port.sight c.raise_ready.new.port) c.args.core.now c.raise_ready.new.core c.args.self.now c.args.bytes.now c.known.ensures.valid c.requires.stands
    (ap (λ (x : RecvAt). x.stage) (sym c.self.view_is) ∙ c.in-Raise.is) c.raise_ready.ensures.changes) in
    record { stands = turns.stands; turned = turns.turned; steps = λ spot e. c.raise_ready.ensures.steps (waiting_stops c.raise_ready.result spot e) }

pub returns-in-Finished-clause-turned : goal.returns-in-Finished-clause-turned
returns-in-Finished-clause-turned g c =
    finished_turn (g.P.Port.sight c.args.port.now) c.args.core.now c.args.self.now c.args.bytes.now (ap (λ (x : RecvAt). x.stage) (sym c.self.view_is) ∙ c.in-Finished.is)
