-- The state of a UE fits the record of its rank.
use Rattle.std.proofs.Common.{◌≡◌, ℕ, ◌<◌, ◌++◌, [], ◌∷◌, List, Option, option_map, refl, sym, ap, ◌∙◌, subst}
use Rattle.scc_base.specs.Calls.DataCall.{Recv}
use Rattle.scc_base.specs.Setups.{SetupView}
use Rattle.scc_base.specs.declared.events.Event.{Event}
use Rattle.scc_proto.specs.Messages.{has_all, head_of, is_head}
use Rattle.scc_proto.specs.Ports.{Sight, record_in}
use Rattle.scc_proto.specs.Records.{record_of}
use Rattle.scc_proto.specs.Stages.{InFlight, Record}
use Rattle.scc_proto.proofs.Tests.{both_first, peers_from}
use Rattle.scc_mesh.specs.Scenes.{blank_table, sight_away}
use Rattle.script_rules.specs.Script.{Script}
use Rattle.script_rules.specs.Settled.{IsWholeScript}
use Rattle.script_machine.specs.declared.posts.Posted.{Posted}
use Rattle.plain_meaning.specs.Collectives.{start_of_rank}
use Rattle.script_machine.specs.Local.{Local}
use Rattle.plain_meaning.specs.Meaning.{State, next_of, next_with_calls}
use Rattle.script_machine.specs.Next.{Next}
use Rattle.script_machine.specs.Next.Next.{Recvs}
use Rattle.plain_meaning.specs.Ready.{CanMakeNext}
use Rattle.plain_meaning.proofs.OwnWays.CameDid.{came_matched}
use Rattle.plain_meaning.proofs.ProgramLengths.ReadyLemmas.{ready-law}
use Rattle.script_machine.proofs.StoppedLaws.{stopped_ends}
use Rattle.rcce_ue.specs.Standing as ue
use Rattle.rcce_ue.specs.Ues.{UeView}
use Rattle.rcce_run.specs.Sweep.{IsStateOfRecord, Running, Stopped}
use Rattle.rcce_run.specs.Ues.{FitsRecord, state_of}

-- a port at which a rank of a setup has these events
abbrev pub some_sight : SetupView → ℕ → List Event → Sight
some_sight s rank events = sight_away s (record { table = blank_table; rank = rank; events = events })

stood_of : (script : Script) (s : SetupView) (rank : ℕ) (rec : Record) (u : Local) (last : Option Posted) → IsWholeScript script.nue script.items → s.nue ≡ script.nue → rank < script.nue
    → ue.Stood (start_of_rank script rank) rec u last → IsStateOfRecord next_of s rank (start_of_rank script rank) rec (state_of u rec) last
stood_of script s rank rec u last whole ranks low (ue.Runs came) = Running (came_matched (start_of_rank script rank) (state_of u rec) last refl came)
stood_of script s rank rec u last whole ranks low (ue.Refused v from head sent take refuse header came is other noted says at stopped) =
    let before : State = state_of v rec in
    let ready : CanMakeNext script rank (Recvs from head take refuse) = subst (λ (n : Next Local). CanMakeNext script rank n) is (ready-law script rank whole low before last came) in
    Stopped before (came_matched (start_of_rank script rank) before last refl came) (record {
      from = from;
      asked = head;
      take = λ bytes. record { local = take bytes; matched = rec.calls ++ Recv from head bytes ∷ [] };
      refuse = λ other_head. record { local = refuse other_head; matched = rec.calls };
      header = header;
      peers = peers_from s from rank (subst (λ (n : ℕ). from < n) (sym ranks) ready.0.below) (subst (λ (n : ℕ). rank < n) (sym ranks) low) ready.0.other;
      stands = ap (next_with_calls rec.calls) is;
      seen = noted;
      noted = both_first (has_all header 3) (is_head (head_of header)) says.0;
      another = λ same. other (sym says.1 ∙ same);
      stopped = λ i. record { local = (at ∙ ap refuse (sym says.1)) i; matched = rec.calls };
      ends = ap (next_with_calls rec.calls) (stopped_ends u stopped);
    })

module _ (x : UeView) (s : SetupView) (rank : ℕ) (events : List Event) (tied : ue.Tied x (some_sight s rank events)) where
  ranks : s.nue ≡ x.machine.script.nue
  ranks = ap (λ (y : SetupView). y.nue) tied.setup_is ∙ tied.begun.ranks

  -- the rank has come by itself to what the UE holds, with its record's calls
  pub tied_stood : IsStateOfRecord next_of s rank (start_of_rank x.machine.script rank) (record_of s rank events) (state_of x.machine.local (record_of s rank events)) tied.last
  unfolding record_in
  tied_stood =
      stood_of x.machine.script s rank (record_of s rank events) x.machine.local tied.last tied.begun.whole ranks (subst (λ (k : ℕ). k < x.machine.script.nue) (sym tied.rank_is) tied.begun.within)
      (subst (λ (k : ℕ). ue.Stood (start_of_rank x.machine.script k) (record_of s rank events) x.machine.local tied.last) (sym tied.rank_is) tied.stood)

  pub tied_fits : FitsRecord x s rank events
  unfolding record_in
  tied_fits = record { ranks = ranks; comms = ap (λ (y : SetupView). y.comms) tied.setup_is ∙ tied.begun.comms; last = tied.last; stood = tied_stood }

  -- its slot is as the record says
  pub tied_slot : x.slot.to ≡ option_map (λ (post : InFlight). post.to) (record_of s rank events).post
  unfolding record_in
  tied_slot = tied.slot_is.to
