-- What a change of a flag in one turn is to the record, in both layouts: with bit flags the flags' line is
-- loaded under its core's register, and after the change the register is free again.
use Rattle.std.proofs.Common.{◌≡◌, ⊎_elim, ℕ, ◌+◌, ◌-◌, ◌^◌, ◌<◌, ◌≤◌, true, false, ◌==◌, List, [], ◌∷◌, Option, Some, None, is_some, option_map, option_and_then, sym, ◌∙◌, ap, arith, slice_index}
use Rattle.std.proofs.lemmas.Bool.{cases_lt}
use Rattle.std.specs.Int.{bit_at}
use Rattle.std.proofs.lemmas.Nat.Bits.{bit_at_above}
use Rattle.scc_base.specs.Setups.{IsSetup}
use Rattle.scc_base.specs.Events.{take_of, free_of}
use Rattle.scc_base.specs.declared.events.Event.{Event}
use Rattle.scc_base.specs.declared.layouts.Layout.TheVariants.{BitFlags}
use Rattle.scc_base.specs.Layouts.{signal_word}
use Rattle.scc_base.specs.declared.signals.Signal.{Signal}
use Rattle.scc_base.specs.declared.signals.Signal.TheVariants.{Sent, Ready}
use Rattle.scc_proto.specs.Tables.{table_with}
use Rattle.scc_proto.specs.Stages.{FlagWords, Record}
use Rattle.scc_proto.specs.Moves.{Move, after}
use Rattle.scc_proto.specs.Records.{chunk_of, change_held, note_flags, flags_noted}
use Rattle.scc_proto.specs.Ports.{Seat, record_next, record_on}
use Rattle.scc_proto.proofs.Tests.{put_here}
use Rattle.scc_proto.proofs.Layouts.Roles.{own_word, role_spare_bits, if_no}
use Rattle.scc_proto.proofs.Layouts.PlaceMoves.{idle_loaded, register_taken, register_freed, signal_bits_noted}
use Rattle.put_get.specs.Accesses.{loads_of}
use Rattle.put_get.specs.Transfers.{line_at}
use Rattle.sync_flags.specs.Flags.{with_bit}
use Rattle.send_recv.specs.Steps.{core_of}
use Rattle.send_recv.proofs.Lines.Sources.{put_again}
use Rattle.send_recv.proofs.Receiving.HeadTurn.{put_self}
use Rattle.send_recv.proofs.Looks.LookLemmas.{on_four}

-- a record that holds a core's register, with the flag words noted under it
abbrev pub with_hold : Record → ℕ → FlagWords → Record
with_hold rec core flags = record rec { held = table_with rec.held core (Some flags) }

abbrev pub both_noted : ℕ → ℕ → FlagWords
both_noted sent ready = record { sent = Some sent; ready = Some ready }

held_here : (rec : Record) (core : ℕ) (flags : FlagWords) → (with_hold rec core flags).held core ≡ Some flags
held_here rec core flags = put_here rec.held core (Some flags)

pub is_held : (rec : Record) (core : ℕ) (flags : FlagWords) → is_some ((with_hold rec core flags).held core) ≡ true
is_held rec core flags = ap (λ (o : Option FlagWords). is_some o) (held_here rec core flags)

-- one flag word more is noted, or forgotten
change_hold : (f : FlagWords → FlagWords) (rec : Record) (core : ℕ) (flags : FlagWords) → change_held f core (with_hold rec core flags) ≡ with_hold rec core (f flags)
change_hold f rec core flags = ap (λ (h : ℕ → Option FlagWords). record rec { held = h })
    (put_again rec.held core (Some flags) (option_map f (table_with rec.held core (Some flags) core))
    ∙ ap (λ (o : Option FlagWords). table_with rec.held core (option_map f o)) (put_here rec.held core (Some flags)))

-- the flags' line of a core was loaded under its register
pub line_noted : (seat : Seat) (rec : Record) (r : ℕ) (words : List ℕ) → IsSetup seat.setup → seat.setup.layout ≡ BitFlags → r < seat.setup.nue → rec.held (core_of seat r) ≡ None
    → record_on seat rec (take_of (core_of seat r) true ∷ loads_of (line_at (core_of seat r) 1) words) ≡ with_hold rec (core_of seat r) (both_noted (slice_index words 0) (slice_index words 1))
line_noted seat rec r words valid bits below free =
    let core = core_of seat r in
    let none : FlagWords = record { sent = None; ready = None } in
    let one : FlagWords = record { sent = Some (slice_index words 0); ready = None } in
    let two : FlagWords = both_noted (slice_index words 0) (slice_index words 1) in
    ap (λ (x : Record). record_on seat x (loads_of (line_at (core_of seat r) 1) words)) (register_taken seat rec valid core free).becomes
    ∙ on_four seat (with_hold rec core none) (with_hold rec core one) (with_hold rec core two) (with_hold rec core two) (with_hold rec core two) _ _ _ _
    ((signal_bits_noted seat (with_hold rec core none) valid bits Sent r (slice_index words 0) below (is_held rec core none)).becomes ∙ change_hold (note_flags Sent (slice_index words 0)) rec core none)
    ((signal_bits_noted seat (with_hold rec core one) valid bits Ready r (slice_index words 1) below (is_held rec core one)).becomes ∙ change_hold (note_flags Ready (slice_index words 1)) rec core one)
    (idle_loaded seat (with_hold rec core two) (own_word seat.setup r 1 2) (slice_index words 2) (role_spare_bits seat.setup valid bits r 2 below (omega arith))).becomes
    (idle_loaded seat (with_hold rec core two) (own_word seat.setup r 1 3) (slice_index words 3) (role_spare_bits seat.setup valid bits r 3 below (omega arith))).becomes

-- the words noted under the register
pub is_noted : (signal : Signal) (rec : Record) (core : ℕ) (words : List ℕ)
    → flags_noted signal (with_hold rec core (both_noted (slice_index words 0) (slice_index words 1))) core ≡ Some (slice_index words (signal_word signal))
is_noted Sent rec core words = ap (λ (o : Option FlagWords). option_and_then (λ (flags : FlagWords). flags.sent) o) (held_here rec core (both_noted (slice_index words 0) (slice_index words 1)))
is_noted Ready rec core words = ap (λ (o : Option FlagWords). option_and_then (λ (flags : FlagWords). flags.ready) o) (held_here rec core (both_noted (slice_index words 0) (slice_index words 1)))

-- after the store and the free the record is that after the move, with the register free
pub move_made : (seat : Seat) (rec : Record) (core : ℕ) (flags : FlagWords) (f : FlagWords → FlagWords) (move : Move) (store : Event) → IsSetup seat.setup → rec.held core ≡ None
    → after (chunk_of seat.setup) move (with_hold rec core flags) ≡ with_hold (after (chunk_of seat.setup) move rec) core flags
    → record_next seat (with_hold rec core flags) store ≡ change_held f core (after (chunk_of seat.setup) move (with_hold rec core flags))
    → record_on seat (with_hold rec core flags) (store ∷ free_of core ∷ []) ≡ after (chunk_of seat.setup) move rec
move_made seat rec core flags f move store valid free apart stored =
    let moved : Record = after (chunk_of seat.setup) move rec in
    let changed = stored ∙ ap (λ (x : Record). change_held f core x) apart ∙ change_hold f moved core flags in
    let last : Record = with_hold moved core (f flags) in
    ap (λ (x : Record). record_next seat x (free_of core)) changed
    ∙ (register_freed seat last valid core (is_held moved core (f flags))).becomes
    ∙ ap (λ (h : ℕ → Option FlagWords). record moved { held = h }) (put_again moved.held core (Some (f flags)) None ∙ sym (put_self rec.held core None free))

-- ---- one bit of a word

clear_above : (word bit : ℕ) → bit_at word bit ≡ 1 → 2 ^ bit ≤ word
clear_above word bit set = ⊎_elim (λ (low : word < 2 ^ bit). absurd (let e = bit_at_above word bit bit low (omega arith) in omega (arith, e, set))) (λ (high : 2 ^ bit ≤ word). high) (cases_lt word (2 ^ bit))

pub bit_taken : (word bit : ℕ) → bit_at word bit ≡ 1 → word ≡ with_bit bit false word + 2 ^ bit
bit_taken word bit set =
    let le = clear_above word bit set in
    let e : with_bit bit false word ≡ word - 2 ^ bit = if_no (bit_at word bit == 0) word (word - 2 ^ bit) (ap (λ b. b == 0) set) in
    let m : word ≡ (word - 2 ^ bit) + 2 ^ bit = omega (arith, le) in
    m ∙ ap (λ x. x + 2 ^ bit) (sym e)

pub bit_given : (word bit : ℕ) → bit_at word bit ≡ 0 → with_bit bit true word ≡ word + 2 ^ bit
bit_given word bit clear = if_no (bit_at word bit == 1) word (word + 2 ^ bit) (ap (λ b. b == 1) clear)
