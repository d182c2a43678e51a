-- What a tap has read after one access more.
use base.Stored.{Coded-set, coded_list, coded_ℕ}
use Rattle.std.proofs.Common.{◌≡◌, ℕ, List, [], ◌∷◌, ◌++◌, Some, sym, ◌∙◌, subst}
use Rattle.std.proofs.Math.Logic.{∥∥₁_elim, ∥∥₁_map}
use Rattle.scc_base.specs.Calls.{DataCall, call_of}
use Rattle.scc_base.specs.Setups.{SetupView}
use Rattle.scc_base.specs.contracts.calls.Call.{the_row}
use Rattle.scc_base.specs.declared.calls.Call.{Call}
use Rattle.scc_base.specs.declared.events.Event.{Event}
use Rattle.scc_proto.specs.Ports.{Sight, Did}
use Rattle.scc_proto.specs.Records.{record_after, record_of}
use Rattle.scc_proto.specs.Stages.{Record, blank}
use Rattle.scc_proto.proofs.PortLaws.{record_of-nil, record_of-push}
use Rattle.rank_monitor.specs.Following.{Adds, FollowsRecord, moved_by}
use Rattle.call_tap.specs.declared.kept.Kept.{Kept}
use Rattle.call_tap.specs.declared.taps.Tap.{Tap}
use Rattle.call_tap.specs.Kept.{AreKept, HasTapRoom, AreKeptWithRoom}
use Rattle.call_tap.specs.Taps.{HasRead, TapReads}

-- a tap of a rank that has made no access
pub fresh_read : (tap : Tap) (s : SetupView) (rank : ℕ) → tap.monitor.setup ≡ s → tap.monitor.rank ≡ rank → FollowsRecord tap.monitor blank → AreKeptWithRoom tap.kept [] → HasRead tap s rank []
fresh_read tap s rank setup_is rank_is follows kept = record {
  setup_is = setup_is;
  rank_is = rank_is;
  reads = ∣ subst (λ (r : Record). TapReads tap r) (sym (record_of-nil s rank)) (record { follows = follows; kept = kept }) ∣₁;
}

-- one access more
pub read_on : (old new : Tap) (e : Event) → (new.monitor.setup ≡ old.monitor.setup) × (new.monitor.rank ≡ old.monitor.rank)
    → ((rec : Record) → TapReads old rec → TapReads new (record_after old.monitor.setup old.monitor.rank rec e))
    → (s : SetupView) (rank : ℕ) (events : List Event) → HasRead old s rank events → HasRead new s rank (events ++ e ∷ [])
read_on old new e same goes s rank events read = record {
  setup_is = same.0 ∙ read.setup_is;
  rank_is = same.1 ∙ read.rank_is;
  reads = ∥∥₁_map read.reads (λ r.
      let rec = record_of s rank events in
      subst (λ (x : Record). TapReads new x) (sym (record_of-push s rank events e))
      (subst (λ (k : ℕ). TapReads new (record_after s k rec e)) read.rank_is
      (subst (λ (x : SetupView). TapReads new (record_after x old.monitor.rank rec e)) read.setup_is (goes rec r))));
}

-- an access that finishes no call
pub kept_on : (kept : Kept) (now before : List DataCall) → now ≡ before → AreKeptWithRoom kept before → AreKeptWithRoom kept now
kept_on kept now before same is = subst (λ (calls : List DataCall). AreKeptWithRoom kept calls) (sym same) is

-- an access that finishes a call
pub kept_more : (kept : Kept) (call : Call) (bytes : List ℕ) (before now : List DataCall) → Adds (Some call) bytes before now
    → ((done : DataCall) → call_of done ≡ call → moved_by done ≡ bytes → AreKeptWithRoom kept (before ++ done ∷ [])) → AreKeptWithRoom kept now
kept_more kept call bytes before now adds notes = subst (λ (calls : List DataCall). AreKeptWithRoom kept calls) (sym adds.3) (notes adds.0 adds.1 adds.2)

-- a port that was continued by one event
pub read_there : (tap : Tap) (old now : Sight) (e : Event) → Did old (e ∷ []) now → HasRead tap old.seat.setup old.seat.rank (old.events ++ e ∷ []) → HasRead tap now.seat.setup now.seat.rank now.events
read_there tap old now e did read = subst (λ (x : Sight). HasRead tap x.seat.setup x.seat.rank x.events) (sym did.continues) read

-- a tap keeps the calls of the events that it has read, where it has room for them
pub kept_calls : (tap : Tap) (s : SetupView) (rank : ℕ) (events : List Event) → HasRead tap s rank events → HasTapRoom (record_of s rank events).calls → AreKept tap.kept (record_of s rank events).calls
kept_calls tap s rank events read room = record {
  calls_are = ∥∥₁_elim read.reads (Coded-set (coded_list the_row.coded) _ _) (λ r. (r.kept room).calls_are);
  bytes_are = ∥∥₁_elim read.reads (Coded-set (coded_list coded_ℕ) _ _) (λ r. (r.kept room).bytes_are);
}
