-- Where words and records agree, a load answers the noted value.
use Rattle.std.proofs.Common.{◌≡◌, ℕ, ◌+◌, ◌*◌, ◌/◌, ◌%◌, ◌<◌, Bool, true, false, not, ◌&&◌, ◌==◌, if◌then◌else◌, Option, Some, None, option_and_then, refl, sym, ◌∙◌, ap, subst}
use Rattle.scc_base.specs.Places.{WordAt}
use Rattle.scc_base.specs.Layouts.{first_chunk, chunk_lines}
use Rattle.scc_base.specs.Setups.{SetupView, host_of, place_of}
use Rattle.scc_base.specs.declared.events.Access.{Access}
use Rattle.scc_base.specs.declared.events.Access.TheVariants.{Load, Store, Take, Free}
use Rattle.scc_base.specs.declared.events.Event.{Event}
use Rattle.scc_base.specs.Events.{IsEvent, IsAccess}
use Rattle.scc_proto.specs.Messages.{Notes, noted_word, StandsIn}
use Rattle.scc_proto.specs.Stages.{Stage, Idle, Drafting, Sending, Between, Taking, Barrier, Record}
use Rattle.scc_proto.specs.Moves.{Move, LookSignal, LookGather, LookRelease, NoMove}
use Rattle.scc_proto.specs.Words.{Memory, word_at, IsStep, IsStepBy, Role, HeaderWord, ChunkWord, SignalFlag, SignalFlags, GatherFlag, ReleaseFlag, HeapWord, IdleWord, role_of, are_peers}
use Rattle.scc_proto.specs.Records.{chunk_of, leads, look_at, look_at_bits, load_by, noted_chunk, noted_by, noted_load, IsHonest}
use Rattle.scc_proto.specs.Views.{view_of}
use Rattle.scc_proto.specs.Pairs.{NotesStand, Awaiting, Receiving, taking_side, pair_of}
use Rattle.scc_proto.specs.Singles.{IsStage}
use Rattle.scc_proto.specs.Agreement.{Agrees}
use Rattle.scc_proto.proofs.Tests.{same_by_eqb, peers_swap}
use Rattle.scc_proto.proofs.Pairs.PhaseFacts.{when_taking}
use Rattle.scc_proto.proofs.Layouts.Roles.{IsOwn, Stands, role_stands, lt_yes}
use Rattle.scc_proto.proofs.Agreement.SoundLaw.{raised}

-- a look is no read
no_read : (b : Bool) (move : Move) (rec : Record) (v : ℕ) → noted_by move rec ≡ None → noted_by (if b then move else NoMove) rec ≡ Some v → {P : Type 0} → P
no_read true move rec v none is = absurd (cc (none, is))
no_read false move rec v none is = absurd (cc (is))

module _ (s : SetupView) (memory : Memory) (records : ℕ → Record) (agrees : Agrees s memory records) (me : ℕ) (below : me < s.nue) (place : WordAt) (v : ℕ) where
  here : (owner line word : ℕ) → IsOwn s place owner line word → word_at memory place ≡ memory.word (host_of s.hosts owner) line word
  here owner line word own = λ i. memory.word (own.on i) (own.at_line i) (own.at_word i)

  header_word_is : (owner k : ℕ) (n : Option Notes) → (records me).notes owner ≡ n → option_and_then (λ (header : Notes). noted_word header k) n ≡ Some v → memory.word (host_of s.hosts owner) 0 k ≡ v
  header_word_is owner k None is noted_is = absurd (cc (noted_is))
  header_word_is owner k (Some header) is noted_is =
      let r = raised s memory records agrees me below owner header is in
      let stands : StandsIn header ((view_of s memory).header owner) = subst (λ (o : Option Notes). NotesStand o ((view_of s memory).header owner)) is r.is.notes in
      stands k v noted_is

  chunk_word_is : (owner k : ℕ) (st : Stage) → (records me).stage ≡ st → k < 4 * chunk_lines s.layout → noted_chunk owner k st ≡ Some v → memory.word (host_of s.hosts owner) (first_chunk s.layout + k / 4) (k % 4) ≡ v
  chunk_word_is owner k Idle is lt noted_is = absurd (cc (noted_is))
  chunk_word_is owner k (Drafting h c) is lt noted_is = absurd (cc (noted_is))
  chunk_word_is owner k (Sending to part m c) is lt noted_is = absurd (cc (noted_is))
  chunk_word_is owner k (Between i m) is lt noted_is = absurd (cc (noted_is))
  chunk_word_is owner k (Barrier comm seen released) is lt noted_is = absurd (cc (noted_is))
  chunk_word_is owner k (Taking i m c) is lt noted_is = by (i == owner) refl
    where
      by : (b : Bool) → (i == owner) ≡ b → memory.word (host_of s.hosts owner) (first_chunk s.layout + k / 4) (k % 4) ≡ v
      by true t =
          let same : i ≡ owner = same_by_eqb i owner t in
          let stage : IsStage s me (Taking i m c) = subst (λ (x : Stage). IsStage s me x) is (agrees.singles.0 me below).stage in
          let peers = subst (λ x. are_peers s me x ≡ true) same stage.peers in
          let side : taking_side owner (records me).stage ≡ Receiving m c = ap (λ (x : Stage). taking_side owner x) is ∙ ap (λ b. if b then Receiving m c else Awaiting None) t in
          let p = when_taking (chunk_of s) (pair_of owner me (view_of s memory) (records owner) (records me)) m c side (agrees.pairs owner me (peers_swap s me owner peers)) in
          let word : noted_word c k ≡ Some v = sym (ap (λ b. if b then noted_word c k else None) t) ∙ noted_is in
          sym (ap (λ b. if b then memory.word (host_of s.hosts owner) (first_chunk s.layout + k / 4) (k % 4) else 0) (lt_yes k (4 * chunk_lines s.layout) lt)) ∙ p.2.loaded k v word
      by false t = absurd (cc (noted_is, ap (λ b. if b then noted_word c k else None) t))

  word_is : (role : Role) → Stands s place role → noted_by (load_by s me 0 role) (records me) ≡ Some v → word_at memory place ≡ v
  word_is (HeaderWord owner k) stands is = here owner 0 k stands ∙ header_word_is owner k ((records me).notes owner) refl is
  word_is (ChunkWord owner k) stands is = here owner _ _ stands.0 ∙ chunk_word_is owner k (records me).stage refl stands.1 is
  word_is (SignalFlag signal by at) stands is = no_read (at == me) (LookSignal signal (look_at by 0)) (records me) v refl is
  word_is (SignalFlags signal at) stands is = no_read (at == me) (LookSignal signal (look_at_bits s me 0)) (records me) v refl is
  word_is (GatherFlag comm owner) stands is = no_read (leads s comm me owner) (LookGather comm owner (place_of s comm owner) 0) (records me) v refl is
  word_is (ReleaseFlag comm owner) stands is = no_read ((owner == me) && not (leads s comm me me)) (LookRelease comm 0) (records me) v refl is
  word_is HeapWord stands is = absurd (cc (is))
  word_is IdleWord stands is = absurd (cc (is))

  value_is : (access : Access) (value : ℕ) → IsAccess access place value → IsStepBy access place value memory → noted_load s me (records me) access place ≡ Some v → value ≡ v
  value_is Load value is step noted_is = sym step ∙ word_is (role_of s place) (role_stands s place is.0.word_below) noted_is
  value_is Store value is step noted_is = absurd (cc (noted_is))
  value_is Take value is step noted_is = absurd (cc (noted_is))
  value_is Free value is step noted_is = absurd (cc (noted_is))

pub told_law : (s : SetupView) (memory : Memory) (records : ℕ → Record) → Agrees s memory records → (me : ℕ) → me < s.nue → (e : Event) → IsEvent e → IsStep memory e → IsHonest s me (records me) e
told_law s memory records agrees me below e is step v noted_is = value_is s memory records agrees me below e.place v e.access e.value is step noted_is
