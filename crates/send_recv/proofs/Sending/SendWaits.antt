-- The turn of a send that found the register of a flag taken, and the answers of one that changed the flag.
use Rattle.std.proofs.Common.{◌≡◌, inl, ℕ, Bool, true, false, if◌then◌else◌, List, [], Some, None, refl, sym, ap, subst}
use Rattle.std.specs.List.{list_all}
use Rattle.sync_flags.specs.Turns.{waits_at}
use Rattle.scc_base.specs.declared.signals.Signal.{Signal}
use Rattle.scc_base.specs.Setups.{SetupView, IsSetup}
use Rattle.scc_base.specs.declared.events.Event.{Event}
use Rattle.scc_base.specs.declared.events.Spot.{Spot}
use Rattle.scc_base.specs.declared.events.Spot.TheVariants.{Register}
use Rattle.scc_base.specs.declared.events.Turn.{Turn}
use Rattle.scc_base.specs.declared.events.Turn.TheVariants.{Moved, Waiting, Done}
use Rattle.scc_base.specs.declared.layouts.Layout.TheVariants.{BitFlags}
use Rattle.scc_proto.specs.Stages.{Record}
use Rattle.scc_proto.specs.Ports.{Seat, Sight, record_in}
use Rattle.scc_proto.proofs.PortLaws.{seat_kept}
use Rattle.put_get.specs.Cores.{Private}
use Rattle.put_get.specs.Transfers.{load_count}
use Rattle.send_recv.specs.Flags.{Changes}
use Rattle.send_recv.specs.Ops.{SendAt, SlotAt}
use Rattle.send_recv.specs.Sending.{IsSending, SendStands, SendDoes, send_spot}
use Rattle.send_recv.specs.Ranks.{sending}
use Rattle.send_recv.specs.Steps.{signal_flag, moves_on}
use Rattle.send_recv.specs.Turns.{KeepsAllButMessages, StoresFromBuffer, is_no_draft}
use Rattle.send_recv.proofs.Receiving.HeadTurn.{post_kept}
use Rattle.send_recv.proofs.Looks.ChangeFacts.{change_facts}
use Rattle.send_recv.proofs.Receiving.RecvTurns.{missed_by, waits_tried}
use Rattle.send_recv.proofs.Lines.DraftNone.{IsFlagWord, change_drafts_none}
use Rattle.send_recv.proofs.Sending.SendWork.{change_work}
use Rattle.send_recv.proofs.Sending.SendFacts.{SendTurns}

-- events that store no word of a message
pub no_stores : (setup : SetupView) (c : Private) (events : List Event) → list_all (is_no_draft setup) events ≡ true → StoresFromBuffer setup c events
no_stores setup c events none = record { front = []; rest = events; is = refl; none_or_all = inl refl; no_draft = none }

pub register_waits : (s t : Sight) (c d : Private) (op : SendAt) (slot : SlotAt) (bytes : List ℕ) (core : ℕ) (signal : Signal) (by : ℕ) (set : Bool) → IsSetup s.seat.setup → SendStands s c op slot bytes → c.out ≡ None → IsFlagWord s.seat.setup core (signal_flag s.seat signal by)
    → (s.seat.setup.layout ≡ BitFlags → send_spot s.seat op slot ≡ Some (Register core)) → Changes s c core (signal_flag s.seat signal by) set false t d → SendDoes (sending s c op slot bytes) op.stage false t d → SendTurns s c op slot bytes t d op slot (Waiting (Register core))
register_waits s t c d op slot bytes core signal by set valid r empty plain spot changes does =
    let layout = s.seat.setup.layout in
    let m = missed_by layout s t c d core signal by set valid r.hands changes in
    let facts = change_facts layout s t c d core signal by set false empty changes in
    let rest : KeepsAllButMessages (record_in s) (record_in t) = record {
      flips = ap (λ (x : Record). x.flips) m.same;
      hold = ap (λ (x : Record). x.held) m.same;
      heap = ap (λ (x : Record). x.heap) m.same;
    } in
    record {
      stands = subst (λ (x : Seat). IsSending x (record_in t) d op slot bytes) (sym (seat_kept s facts.events t facts.did))
          (subst (λ (x : Record). IsSending s.seat x d op slot bytes) (sym m.same) (subst (λ (y : Private). IsSending s.seat (record_in s) y op slot bytes) (sym m.core) r));
      turned = record {
        events = facts.events;
        did = facts.did;
        does = does;
        tried = waits_tried layout (send_spot s.seat op slot) core facts.events spot facts.tries facts.failed facts.lines;
        freed = facts.freed;
        ends = λ e. absurd (cc);
        rests = λ w e. facts.rests refl;
        only = facts.only refl;
        same = (refl, refl, refl);
        means = (
          refl,
          refl,
          record {
            stage = ap (λ (x : Record). x.stage) m.same;
            post = post_kept (record_in s).post (record_in t).post (ap (λ (x : Record). x.post) m.same);
            rest = rest;
            calls = ap (λ (x : Record). x.calls) m.same;
          },
        );
        rest = rest;
        drafts = no_stores s.seat.setup c facts.events (change_drafts_none s t c d core (signal_flag s.seat signal by) set false empty plain changes facts.events facts.did);
        held = facts.held;
        work = change_work layout false (load_count facts.events) c.evictions d.evictions (send_spot s.seat op slot) (Register core) spot facts.work;
      };
    }

-- ---- a turn that went on

-- its answer: the operation is at its end, or not
abbrev pub next_answer : Bool → Turn
next_answer b = if b then Done else Moved

pub no_wait : (b : Bool) → waits_at (next_answer b) ≡ None
no_wait true = refl
no_wait false = refl

pub goes_on : (b : Bool) → moves_on (next_answer b) ≡ true
goes_on true = refl
goes_on false = refl

pub never_waits : (b : Bool) (spot : Spot) (P : Type 0) → next_answer b ≡ Waiting spot → P
never_waits true spot P e = absurd (cc)
never_waits false spot P e = absurd (cc)
