-- What an event at each of the layout's places is to the record of a seat: the move that it is, and that the
-- record permits it where it permits the move.
use Rattle.std.proofs.Common.{◌≡◌, ◌≢◌, ℕ, ◌+◌, ◌*◌, ◌^◌, ◌<◌, ◌≤◌, Bool, true, false, not, ◌&&◌, ◌==◌, Option, Some, None, is_some, is_none, refl, sym, ◌∙◌, ap, subst}
use Rattle.std.specs.Int.{bit_at}
use Rattle.scc_base.specs.Places.{first_heap, WordAt, flag_word}
use Rattle.scc_base.specs.Layouts.{signal_at, signal_word, gather_at, release_at, first_chunk, chunk_lines}
use Rattle.scc_base.specs.declared.signals.Signal.{Signal}
use Rattle.scc_base.specs.Setups.{IsSetup, host_of, place_of}
use Rattle.scc_base.specs.Events.{load_of, store_of, take_of, free_of}
use Rattle.scc_base.specs.declared.layouts.Layout.{Layout}
use Rattle.scc_base.specs.declared.layouts.Layout.TheVariants.{LineFlags, BitFlags}
use Rattle.scc_base.specs.declared.events.Event.{Event}
use Rattle.scc_proto.specs.Tables.{table_with}
use Rattle.scc_proto.specs.Stages.{Record}
use Rattle.scc_proto.specs.Moves.{Move, DraftHeader, DraftChunk, RaiseSignal, LookSignal, ReadHeader, ReadChunk, LowerSignal, FlipGather, LookGather, WriteRelease, LookRelease, StoreHeap, NoMove, Misplaced, after}
use Rattle.scc_proto.specs.Permission.{permits}
use Rattle.scc_proto.specs.Words.{Role, HeaderWord, ChunkWord, SignalFlag, SignalFlags, GatherFlag, ReleaseFlag, HeapWord, IdleWord, role_of, are_peers, is_present}
use Rattle.scc_proto.specs.Records.{EventAct, Moving, NotingSignal, act_of, load_act, store_act, store_by, look_at, look_at_bits, last_of, leads, move_at, change_at, raises_bit, chunk_of, flags_noted, note_flags, forget_flags, change_held, after_act, permits_act}
use Rattle.scc_proto.specs.Ports.{Seat, record_next, MayMake}
use Rattle.scc_proto.proofs.Tests.{eqb_same, eqb_other, peers_are, peers_swap}
use Rattle.scc_proto.proofs.Words.FlagBits.{raises_from, lowers_from, lowered_below-from}
use Rattle.scc_proto.proofs.Layouts.Roles.{if_yes, if_no, own_word, signal_role, role_header, role_signal, role_signal_bits, role_gather, role_release, role_chunk_line, role_heap}

and_false : (b : Bool) → (b && false) ≡ false
and_false true = refl
and_false false = refl

-- the record permits an event of the seat next, and is this one after it
pub record Makes (seat : Seat) (rec : Record) (e : Event) (late : Record) : Type 0 where
  pub may : MayMake seat rec e
  pub becomes : record_next seat rec e ≡ late

-- a load at a place of this use
pub load_makes : (seat : Seat) (rec : Record) (place : WordAt) (value : ℕ) (role : Role) → role_of seat.setup place ≡ role
    → Makes seat rec (load_of place value) (after_act (chunk_of seat.setup) (load_act seat.setup seat.rank rec place value role) rec)
unfolding record_next act_of
load_makes seat rec place value role is = record { may = refl; becomes = ap (λ (r : Role). after_act (chunk_of seat.setup) (load_act seat.setup seat.rank rec place value r) rec) is }

-- a store at a place of this use
pub store_makes : (seat : Seat) (rec : Record) (place : WordAt) (value : ℕ) (role : Role) → role_of seat.setup place ≡ role
    → permits_act (chunk_of seat.setup) (store_act seat.setup seat.rank rec place value role) rec ≡ true
    → Makes seat rec (store_of place value) (after_act (chunk_of seat.setup) (store_act seat.setup seat.rank rec place value role) rec)
unfolding record_next act_of
store_makes seat rec place value role is may =
    let permitted : permits_act (chunk_of seat.setup) (store_act seat.setup seat.rank rec place value (role_of seat.setup place)) rec ≡ true
    = ap (λ (r : Role). permits_act (chunk_of seat.setup) (store_act seat.setup seat.rank rec place value r) rec) is ∙ may in
    record {
      may = permitted;
      becomes = if_yes _ _ rec permitted ∙ ap (λ (r : Role). after_act (chunk_of seat.setup) (store_act seat.setup seat.rank rec place value r) rec) is;
    }

-- a store that is this move by the use of its place
pub store_moves : (seat : Seat) (rec : Record) (place : WordAt) (value : ℕ) (role : Role) (move : Move) → role_of seat.setup place ≡ role
    → store_act seat.setup seat.rank rec place value role ≡ Moving move → permits (chunk_of seat.setup) move rec ≡ true
    → Makes seat rec (store_of place value) (after (chunk_of seat.setup) move rec)
store_moves seat rec place value role move is act may =
    subst (λ (a : EventAct). Makes seat rec (store_of place value) (after_act (chunk_of seat.setup) a rec)) act
    (store_makes seat rec place value role is (ap (λ (a : EventAct). permits_act (chunk_of seat.setup) a rec) act ∙ may))

-- a load that is this move by the use of its place
pub load_moves : (seat : Seat) (rec : Record) (place : WordAt) (value : ℕ) (role : Role) (move : Move) → role_of seat.setup place ≡ role
    → load_act seat.setup seat.rank rec place value role ≡ Moving move
    → Makes seat rec (load_of place value) (after (chunk_of seat.setup) move rec)
load_moves seat rec place value role move is act =
    subst (λ (a : EventAct). Makes seat rec (load_of place value) (after_act (chunk_of seat.setup) a rec)) act (load_makes seat rec place value role is)

-- a load of an idle word, or of a heap word, tells nothing
pub idle_loaded : (seat : Seat) (rec : Record) (place : WordAt) (value : ℕ) → role_of seat.setup place ≡ IdleWord → Makes seat rec (load_of place value) rec
idle_loaded seat rec place value is = load_moves seat rec place value IdleWord NoMove is refl

-- ---- in both layouts

module _ (seat : Seat) (rec : Record) (valid : IsSetup seat.setup) where
  pub header_loaded : (r k value : ℕ) → r < seat.setup.nue
      → Makes seat rec (load_of (own_word seat.setup r 0 k) value) (after (chunk_of seat.setup) (ReadHeader r k value) rec)
  header_loaded r k value lt = load_moves seat rec _ value (HeaderWord r k) (ReadHeader r k value) (role_header seat.setup valid r k lt) refl

  -- word `word` of line `i` of the chunk buffer
  pub chunk_loaded : (r i word value : ℕ) → r < seat.setup.nue → i < chunk_lines seat.setup.layout
      → Makes seat rec (load_of (own_word seat.setup r (first_chunk seat.setup.layout + i) word) value) (after (chunk_of seat.setup) (ReadChunk r (4 * i + word) value) rec)
  chunk_loaded r i word value lt low = load_moves seat rec _ value (ChunkWord r (4 * i + word)) (ReadChunk r (4 * i + word) value) (role_chunk_line seat.setup valid r i word lt low) refl

  pub header_stored : (k value : ℕ) → seat.rank < seat.setup.nue → permits (chunk_of seat.setup) (DraftHeader k value) rec ≡ true
      → Makes seat rec (store_of (own_word seat.setup seat.rank 0 k) value) (after (chunk_of seat.setup) (DraftHeader k value) rec)
  header_stored k value lt = store_moves seat rec _ value (HeaderWord seat.rank k) (DraftHeader k value) (role_header seat.setup valid seat.rank k lt)
      (ap (λ (m : Move). Moving m) (if_yes (seat.rank == seat.rank) (DraftHeader k value) Misplaced (eqb_same seat.rank)))

  pub chunk_stored : (i word value : ℕ) → seat.rank < seat.setup.nue → i < chunk_lines seat.setup.layout → permits (chunk_of seat.setup) (DraftChunk (4 * i + word) value) rec ≡ true
      → Makes seat rec (store_of (own_word seat.setup seat.rank (first_chunk seat.setup.layout + i) word) value) (after (chunk_of seat.setup) (DraftChunk (4 * i + word) value) rec)
  chunk_stored i word value lt low = store_moves seat rec _ value (ChunkWord seat.rank (4 * i + word)) (DraftChunk (4 * i + word) value) (role_chunk_line seat.setup valid seat.rank i word lt low)
      (ap (λ (m : Move). Moving m) (if_yes (seat.rank == seat.rank) (DraftChunk (4 * i + word) value) Misplaced (eqb_same seat.rank)))

  pub heap_loaded : (r line word value : ℕ) → r < seat.setup.nue → first_heap ≤ line → Makes seat rec (load_of (own_word seat.setup r line word) value) rec
  heap_loaded r line word value lt high = load_moves seat rec _ value HeapWord NoMove (role_heap seat.setup valid r line word lt high) refl

  pub heap_stored : (r line word value : ℕ) → r < seat.setup.nue → first_heap ≤ line → permits (chunk_of seat.setup) (StoreHeap (own_word seat.setup r line word) value) rec ≡ true
      → Makes seat rec (store_of (own_word seat.setup r line word) value) (after (chunk_of seat.setup) (StoreHeap (own_word seat.setup r line word) value) rec)
  heap_stored r line word value lt high = store_moves seat rec _ value HeapWord (StoreHeap (own_word seat.setup r line word) value) (role_heap seat.setup valid r line word lt high) refl

  -- a member's gather flag, by the root
  pub gather_loaded : (comm r value : ℕ) → is_present seat.setup comm ≡ true → r < seat.setup.nue → leads seat.setup comm seat.rank r ≡ true
      → Makes seat rec (load_of (flag_word (host_of seat.setup.hosts r) (gather_at seat.setup.layout comm)) value)
      (after (chunk_of seat.setup) (LookGather comm r (place_of seat.setup comm r) value) rec)
  gather_loaded comm r value present lt root = load_moves seat rec _ value (GatherFlag comm r) (LookGather comm r (place_of seat.setup comm r) value) (role_gather seat.setup valid comm r present lt)
      (ap (λ (m : Move). Moving m) (if_yes (leads seat.setup comm seat.rank r) (LookGather comm r (place_of seat.setup comm r) value) NoMove root))

  -- the own release flag, by a member that is not the root
  pub release_loaded : (comm value : ℕ) → is_present seat.setup comm ≡ true → seat.rank < seat.setup.nue → leads seat.setup comm seat.rank seat.rank ≡ false
      → Makes seat rec (load_of (flag_word (host_of seat.setup.hosts seat.rank) (release_at seat.setup.layout comm)) value)
      (after (chunk_of seat.setup) (LookRelease comm value) rec)
  release_loaded comm value present lt member = load_moves seat rec _ value (ReleaseFlag comm seat.rank) (LookRelease comm value) (role_release seat.setup valid comm seat.rank present lt)
      (ap (λ (m : Move). Moving m) (if_yes ((seat.rank == seat.rank) && not (leads seat.setup comm seat.rank seat.rank)) (LookRelease comm value) NoMove
      (λ i. eqb_same seat.rank i && not (member i))))

  pub gather_stored : (comm value : ℕ) → is_present seat.setup comm ≡ true → seat.rank < seat.setup.nue
      → permits (chunk_of seat.setup) (FlipGather comm value (last_of seat.setup comm seat.rank)) rec ≡ true
      → Makes seat rec (store_of (flag_word (host_of seat.setup.hosts seat.rank) (gather_at seat.setup.layout comm)) value)
      (after (chunk_of seat.setup) (FlipGather comm value (last_of seat.setup comm seat.rank)) rec)
  gather_stored comm value present lt = store_moves seat rec _ value (GatherFlag comm seat.rank) (FlipGather comm value (last_of seat.setup comm seat.rank)) (role_gather seat.setup valid comm seat.rank present lt)
      (ap (λ (m : Move). Moving m) (if_yes (seat.rank == seat.rank) (FlipGather comm value (last_of seat.setup comm seat.rank)) Misplaced (eqb_same seat.rank)))

  pub release_stored : (comm r value : ℕ) → is_present seat.setup comm ≡ true → r < seat.setup.nue → leads seat.setup comm seat.rank r ≡ true
      → permits (chunk_of seat.setup) (WriteRelease comm r (place_of seat.setup comm r) value (last_of seat.setup comm seat.rank)) rec ≡ true
      → Makes seat rec (store_of (flag_word (host_of seat.setup.hosts r) (release_at seat.setup.layout comm)) value)
      (after (chunk_of seat.setup) (WriteRelease comm r (place_of seat.setup comm r) value (last_of seat.setup comm seat.rank)) rec)
  release_stored comm r value present lt root = store_moves seat rec _ value (ReleaseFlag comm r) (WriteRelease comm r (place_of seat.setup comm r) value (last_of seat.setup comm seat.rank)) (role_release seat.setup valid comm r present lt)
      (ap (λ (m : Move). Moving m) (if_yes (leads seat.setup comm seat.rank r) (WriteRelease comm r (place_of seat.setup comm r) value (last_of seat.setup comm seat.rank)) Misplaced root))

  -- ---- registers

  pub register_taken : (core : ℕ) → rec.held core ≡ None
      → Makes seat rec (take_of core true) (record rec { held = table_with rec.held core (Some (record { sent = None; ready = None })) })
  unfolding record_next act_of
  register_taken core free =
      let may : is_none (rec.held core) ≡ true = ap is_none free in
      record { may = may; becomes = if_yes (is_none (rec.held core)) _ rec may }

  pub register_missed : (core : ℕ) → rec.held core ≡ None → Makes seat rec (take_of core false) rec
  unfolding record_next act_of
  register_missed core free =
      let may : is_none (rec.held core) ≡ true = ap is_none free in
      record { may = may; becomes = if_yes (is_none (rec.held core)) _ rec may }

  pub register_freed : (core : ℕ) → is_some (rec.held core) ≡ true → Makes seat rec (free_of core) (record rec { held = table_with rec.held core None })
  unfolding record_next act_of
  register_freed core held = record { may = held; becomes = if_yes (is_some (rec.held core)) _ rec held }

-- ---- line flags

module _ (seat : Seat) (rec : Record) (valid : IsSetup seat.setup) (lines : seat.setup.layout ≡ LineFlags) where
  signal_is : (signal : Signal) (by at : ℕ) → are_peers seat.setup by at ≡ true → role_of seat.setup (flag_word (host_of seat.setup.hosts at) (signal_at LineFlags signal by)) ≡ SignalFlag signal by at
  signal_is signal by at peers =
      subst (λ (layout : Layout). role_of seat.setup (flag_word (host_of seat.setup.hosts at) (signal_at layout signal by)) ≡ signal_role layout signal by at) lines (role_signal seat.setup valid signal by at peers)

  -- the flag of a signal that rank j raises, at the own core
  pub signal_loaded : (signal : Signal) (j value : ℕ) → are_peers seat.setup seat.rank j ≡ true
      → Makes seat rec (load_of (flag_word (host_of seat.setup.hosts seat.rank) (signal_at LineFlags signal j)) value) (after (chunk_of seat.setup) (LookSignal signal (look_at j value)) rec)
  signal_loaded signal j value peers = load_moves seat rec _ value (SignalFlag signal j seat.rank) (LookSignal signal (look_at j value)) (signal_is signal j seat.rank (peers_swap seat.setup seat.rank j peers))
      (ap (λ (m : Move). Moving m) (if_yes (seat.rank == seat.rank) (LookSignal signal (look_at j value)) NoMove (eqb_same seat.rank)))

  -- at the core of another rank
  pub signal_raised : (signal : Signal) (at : ℕ) → are_peers seat.setup seat.rank at ≡ true → permits (chunk_of seat.setup) (RaiseSignal signal at) rec ≡ true
      → Makes seat rec (store_of (flag_word (host_of seat.setup.hosts at) (signal_at LineFlags signal seat.rank)) 1) (after (chunk_of seat.setup) (RaiseSignal signal at) rec)
  signal_raised signal at peers = store_moves seat rec _ 1 (SignalFlag signal seat.rank at) (RaiseSignal signal at) (signal_is signal seat.rank at peers)
      (ap (λ (m : Move). Moving m) (if_yes ((seat.rank == seat.rank) && true) (RaiseSignal signal at) _ (λ i. eqb_same seat.rank i && true)))

  pub signal_lowered : (signal : Signal) (by : ℕ) → are_peers seat.setup seat.rank by ≡ true → permits (chunk_of seat.setup) (LowerSignal signal by) rec ≡ true
      → Makes seat rec (store_of (flag_word (host_of seat.setup.hosts seat.rank) (signal_at LineFlags signal by)) 0) (after (chunk_of seat.setup) (LowerSignal signal by) rec)
  signal_lowered signal by peers = store_moves seat rec _ 0 (SignalFlag signal by seat.rank) (LowerSignal signal by) (signal_is signal by seat.rank (peers_swap seat.setup seat.rank by peers))
      (ap (λ (m : Move). Moving m) (if_no ((by == seat.rank) && false) (RaiseSignal signal seat.rank) _ (and_false (by == seat.rank))
      ∙ if_yes ((seat.rank == seat.rank) && true) (LowerSignal signal by) Misplaced (λ i. eqb_same seat.rank i && true)))

-- ---- bit flags

module _ (seat : Seat) (rec : Record) (valid : IsSetup seat.setup) (bits : seat.setup.layout ≡ BitFlags) where
  -- a look at all flags of a signal at the own core, which is not made under its register
  pub signal_bits_loaded : (signal : Signal) (value : ℕ) → seat.rank < seat.setup.nue → rec.held (host_of seat.setup.hosts seat.rank) ≡ None
      → Makes seat rec (load_of (own_word seat.setup seat.rank 1 (signal_word signal)) value) (after (chunk_of seat.setup) (LookSignal signal (look_at_bits seat.setup seat.rank value)) rec)
  signal_bits_loaded signal value lt free =
      load_moves seat rec _ value (SignalFlags signal seat.rank) (LookSignal signal (look_at_bits seat.setup seat.rank value)) (role_signal_bits seat.setup valid bits signal seat.rank lt)
      (if_no (is_some (rec.held (host_of seat.setup.hosts seat.rank))) _ _ (ap is_some free)
      ∙ ap (λ (m : Move). Moving m) (if_yes (seat.rank == seat.rank) (LookSignal signal (look_at_bits seat.setup seat.rank value)) NoMove (eqb_same seat.rank)))

  -- a load under the register of the word's core
  pub signal_bits_noted : (signal : Signal) (r value : ℕ) → r < seat.setup.nue → is_some (rec.held (host_of seat.setup.hosts r)) ≡ true
      → Makes seat rec (load_of (own_word seat.setup r 1 (signal_word signal)) value) (change_held (note_flags signal value) (host_of seat.setup.hosts r) rec)
  signal_bits_noted signal r value lt held = let act = if_yes (is_some (rec.held (host_of seat.setup.hosts r))) (NotingSignal signal (host_of seat.setup.hosts r) value) _ held in
      subst (λ (a : EventAct). Makes seat rec (load_of (own_word seat.setup r 1 (signal_word signal)) value) (after_act (chunk_of seat.setup) a rec)) act
      (load_makes seat rec (own_word seat.setup r 1 (signal_word signal)) value (SignalFlags signal r) (role_signal_bits seat.setup valid bits signal r lt))

  -- a store of a flag word that is this move
  signal_changed : (signal : Signal) (r value : ℕ) (move : Move) → r < seat.setup.nue → store_by seat.setup seat.rank rec (own_word seat.setup r 1 (signal_word signal)) value (SignalFlags signal r) ≡ move
      → permits (chunk_of seat.setup) move rec ≡ true
      → Makes seat rec (store_of (own_word seat.setup r 1 (signal_word signal)) value) (change_held (forget_flags signal) (host_of seat.setup.hosts r) (after (chunk_of seat.setup) move rec))
  signal_changed signal r value move lt is may =
      subst (λ (m : Move). Makes seat rec (store_of (own_word seat.setup r 1 (signal_word signal)) value) (change_held (forget_flags signal) (host_of seat.setup.hosts r) (after (chunk_of seat.setup) m rec))) is
      (store_makes seat rec (own_word seat.setup r 1 (signal_word signal)) value (SignalFlags signal r) (role_signal_bits seat.setup valid bits signal r lt) (ap (λ (m : Move). permits (chunk_of seat.setup) m rec) is ∙ may))

  raised_is : (lower raise : ℕ → Move) (r old : ℕ) (o : Option ℕ) → o ≡ Some old → seat.rank ≢ r → bit_at old seat.rank ≡ 0 → change_at lower raise seat.setup seat.rank r (old + 2 ^ seat.rank) o ≡ raise r
  raised_is lower raise r old o is other clear = ap (λ (x : Option ℕ). change_at lower raise seat.setup seat.rank r (old + 2 ^ seat.rank) x) is
      ∙ if_no (r == seat.rank) _ _ (eqb_other r seat.rank (λ e. other (sym e))) ∙ if_yes (raises_bit seat.rank old (old + 2 ^ seat.rank)) (raise r) Misplaced (raises_from seat.rank old clear)

  lowered_is : (lower raise : ℕ → Move) (j old new : ℕ) (o : Option ℕ) → o ≡ Some old → are_peers seat.setup seat.rank j ≡ true → bit_at old j ≡ 1 → old ≡ new + 2 ^ j
      → change_at lower raise seat.setup seat.rank seat.rank new o ≡ lower j
  lowered_is lower raise j old new o is peers set sum = let p = peers_are seat.setup seat.rank j peers in
      ap (λ (x : Option ℕ). change_at lower raise seat.setup seat.rank seat.rank new x) is
      ∙ if_yes (seat.rank == seat.rank) _ _ (eqb_same seat.rank)
      ∙ ap (λ (x : Option ℕ). move_at lower x) (lowered_below-from seat.rank old new seat.setup.nue j p.other (λ e. p.apart (sym e)) (lowers_from j old new set sum))

  -- the own bit is raised in the noted word of another core
  pub signal_bit_raised : (signal : Signal) (at old : ℕ) → are_peers seat.setup seat.rank at ≡ true → flags_noted signal rec (host_of seat.setup.hosts at) ≡ Some old → bit_at old seat.rank ≡ 0
      → permits (chunk_of seat.setup) (RaiseSignal signal at) rec ≡ true
      → Makes seat rec (store_of (own_word seat.setup at 1 (signal_word signal)) (old + 2 ^ seat.rank)) (change_held (forget_flags signal) (host_of seat.setup.hosts at) (after (chunk_of seat.setup) (RaiseSignal signal at) rec))
  signal_bit_raised signal at old peers is clear = let p = peers_are seat.setup seat.rank at peers in
      signal_changed signal at (old + 2 ^ seat.rank) (RaiseSignal signal at) p.other (raised_is (LowerSignal signal) (RaiseSignal signal) at old (flags_noted signal rec (host_of seat.setup.hosts at)) is p.apart clear)

  -- the bit of another rank is lowered in the noted word of the own core
  pub signal_bit_lowered : (signal : Signal) (by old new : ℕ) → are_peers seat.setup seat.rank by ≡ true → flags_noted signal rec (host_of seat.setup.hosts seat.rank) ≡ Some old → bit_at old by ≡ 1 → old ≡ new + 2 ^ by
      → permits (chunk_of seat.setup) (LowerSignal signal by) rec ≡ true
      → Makes seat rec (store_of (own_word seat.setup seat.rank 1 (signal_word signal)) new) (change_held (forget_flags signal) (host_of seat.setup.hosts seat.rank) (after (chunk_of seat.setup) (LowerSignal signal by) rec))
  signal_bit_lowered signal by old new peers is set sum = let p = peers_are seat.setup seat.rank by peers in
      signal_changed signal seat.rank new (LowerSignal signal by) p.one (lowered_is (LowerSignal signal) (RaiseSignal signal) by old new (flags_noted signal rec (host_of seat.setup.hosts seat.rank)) is peers set sum)
