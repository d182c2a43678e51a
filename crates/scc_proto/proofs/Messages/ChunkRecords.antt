-- What the records of both ranks make of a message of two chunks, with line flags and with bit flags: what the events at the
-- words of a whole chunk come to is proved once, for any number of words of either layout.
use Rattle.std.proofs.Common.{◌≡◌, ℕ, zero, suc, ◌+◌, ◌*◌, ◌/◌, ◌%◌, ◌^◌, ◌<◌, ◌≤◌, Bool, true, false, ◌&&◌, ◌==◌, if◌then◌else◌, List, [], ◌∷◌, ◌++◌, map, Some, is_some, unwrap_or, refl, sym, ◌∙◌, ap, subst, arith, rules}
use Rattle.std.specs.List.{range_with_len}
use base.Stored.{gnil}
use Rattle.scc_base.specs.Calls.{Send, Recv}
use Rattle.scc_base.specs.Communicators.{AreRules}
use Rattle.scc_base.specs.Heads.{MessageHead, plain_head}
use Rattle.scc_base.specs.Places.{WordAt, IsPlace}
use Rattle.scc_base.specs.Layouts.{first_chunk, chunk_lines, chunk_size}
use Rattle.scc_base.specs.Events.{IsEvent, load_of, store_of, take_of, free_of}
use Rattle.scc_base.specs.Setups.{SetupView, IsSetup, AreApart, host_of}
use Rattle.scc_base.specs.declared.communicators.CommRule.TheVariants.{World}
use Rattle.scc_base.specs.declared.layouts.Layout.{Layout}
use Rattle.scc_base.specs.declared.layouts.Layout.TheVariants.{LineFlags, BitFlags}
use Rattle.scc_base.specs.declared.events.Event.{Event}
use Rattle.scc_base.specs.declared.signals.Signal.TheVariants.{Sent, Ready}
use Rattle.scc_proto.specs.Tables.{table_with}
use Rattle.scc_proto.specs.Messages.{Notes, noted_word, note_word, has_all, bytes_from, is_zero_from, fresh_message}
use Rattle.scc_proto.specs.Stages.{Drafting, Taking, Record, blank}
use Rattle.scc_proto.specs.Moves.{DraftChunk, RaiseSignal, ReadChunk, after}
use Rattle.scc_proto.specs.Permission.{permits}
use Rattle.scc_proto.specs.Words.{Memory, memory_after, RankEvent, IsRun, ChunkWord}
use Rattle.scc_proto.specs.Records.{act_of, record_after, forget_flags, change_held}
use Rattle.scc_proto.specs.Histories.{events_of, memory_from, IsPermittedRun}
use Rattle.scc_proto.specs.Ports.{Seat, MayMakeAll, record_next, record_on}
use Rattle.scc_proto.specs.Examples.{two_ranks_by, for_numbers, drafts_head, begins_first, raises_ready, goes_second, bytes_of_words}
use Rattle.scc_proto.proofs.Tests.{same_or_other, put_here, put_there, eqb_same}
use Rattle.scc_proto.proofs.PortLaws.{record_on-append, may-append}
use Rattle.scc_proto.proofs.Layouts.PlaceMoves.{Makes, store_moves, load_moves, signal_raised, signal_bit_raised}
use Rattle.scc_proto.proofs.Layouts.Roles.{chunk_lines-end, role_chunk}

-- ---- lists of events one after another

pub events_of-append : (r : ℕ) (a b : List RankEvent) → events_of r (a ++ b) ≡ events_of r a ++ events_of r b
events_of-append r [] b = refl
events_of-append r (e ∷ a) b = by (events_of-append r a b) (e.rank == r)
  where
    by : events_of r (a ++ b) ≡ events_of r a ++ events_of r b → (t : Bool) → (if t then e.event ∷ events_of r (a ++ b) else events_of r (a ++ b)) ≡ (if t then e.event ∷ events_of r a else events_of r a) ++ events_of r b
    by rest true = λ i. e.event ∷ rest i
    by rest false = rest

pub events_of-own : (r : ℕ) (of : ℕ → RankEvent) → ((k : ℕ) → ((of k).rank == r) ≡ true) → (n : ℕ) → events_of r (for_numbers of n) ≡ for_numbers (λ k. (of k).event) n
unfolding for_numbers
events_of-own r of own zero = refl
events_of-own r of own (suc n) = events_of-append r (for_numbers of n) (of n ∷ []) ∙ (λ i. events_of-own r of own n i ++ (if own n i then (of n).event ∷ [] else []))

pub events_of-other : (r : ℕ) (of : ℕ → RankEvent) → ((k : ℕ) → ((of k).rank == r) ≡ false) → (n : ℕ) → events_of r (for_numbers of n) ≡ []
unfolding for_numbers
events_of-other r of other zero = refl
events_of-other r of other (suc n) = events_of-append r (for_numbers of n) (of n ∷ []) ∙ (λ i. events_of-other r of other n i ++ (if other n i then (of n).event ∷ [] else []))

pub memory_from-append : (memory : Memory) (a b : List RankEvent) → memory_from memory (a ++ b) ≡ memory_from (memory_from memory a) b
memory_from-append memory [] b = refl
memory_from-append memory (e ∷ a) b = memory_from-append (memory_after memory e.event) a b

pub run-append : (memory : Memory) (a b : List RankEvent) → IsRun memory a → IsRun (memory_from memory a) b → IsRun memory (a ++ b)
run-append memory [] b first next = next
run-append memory (e ∷ a) b first next = (first.0, run-append (memory_after memory e.event) a b first.1 next)

-- ---- events of a run, each permitted by the record of its rank

abbrev pub AreEvents : ℕ → List RankEvent → Type 0
AreEvents nue [] = Unit {0}
AreEvents nue (e ∷ es) = (e.rank < nue) × IsEvent e.event × AreEvents nue es

pub are-append : (nue : ℕ) (a b : List RankEvent) → AreEvents nue a → AreEvents nue b → AreEvents nue (a ++ b)
are-append nue [] b x y = y
are-append nue (e ∷ a) b x y = (x.0, x.1, are-append nue a b x.2 y)

pub are_each : (nue : ℕ) (of : ℕ → RankEvent) (n : ℕ) → ((k : ℕ) → k < n → ((of k).rank < nue) × IsEvent (of k).event) → AreEvents nue (for_numbers of n)
unfolding for_numbers
are_each nue of zero is = tt
are_each nue of (suc n) is =
    let last = is n (omega arith) in
    are-append nue (for_numbers of n) (of n ∷ []) (are_each nue of n (λ k lt. is k (omega (arith, lt)))) (last.0, last.1, tt)

abbrev seat_at : SetupView → ℕ → Seat
seat_at s r = record { setup = s; rank = r; mark = gnil; rest = gnil; hold = 0 }

pub permitted_run : (s : SetupView) (run : List RankEvent) (records : ℕ → Record) → AreEvents s.nue run
    → ((r : ℕ) → r < s.nue → MayMakeAll (seat_at s r) (records r) (events_of r run)) → IsPermittedRun s records run
unfolding record_next
permitted_run s [] records are may = tt
permitted_run s (e ∷ es) records are may = (are.0, are.1, own.0, permitted_run s es next are.2 later)
  where
    next : ℕ → Record
    next = table_with records e.rank (record_after s e.rank (records e.rank) e.event)

    own : MayMakeAll (seat_at s e.rank) (records e.rank) (e.event ∷ events_of e.rank es)
    own = subst (λ (t : Bool). MayMakeAll (seat_at s e.rank) (records e.rank) (if t then e.event ∷ events_of e.rank es else events_of e.rank es)) (eqb_same e.rank) (may e.rank are.0)

    later : (r : ℕ) → r < s.nue → MayMakeAll (seat_at s r) (next r) (events_of r es)
    later r below = same_or_other (MayMakeAll (seat_at s r) (next r) (events_of r es)) e.rank r
        (λ t q. subst (λ x. MayMakeAll (seat_at s x) (next x) (events_of x es)) q
        (subst (λ (y : Record). MayMakeAll (seat_at s e.rank) y (events_of e.rank es)) (sym (put_here records e.rank (record_after s e.rank (records e.rank) e.event))) own.1))
        (λ t ne. subst (λ (y : Record). MayMakeAll (seat_at s r) y (events_of r es)) (sym (put_there records e.rank (record_after s e.rank (records e.rank) e.event) r (λ q. ne (sym q))))
        (subst (λ (b : Bool). MayMakeAll (seat_at s r) (records r) (if b then e.event ∷ events_of r es else events_of r es)) t (may r below)))

-- a record permits events one after the other, and is this one after them
pub record Goes (seat : Seat) (rec : Record) (es : List Event) (late : Record) : Type 0 where
  pub may : MayMakeAll seat rec es
  pub becomes : record_on seat rec es ≡ late

goes_one : (seat : Seat) (rec : Record) (e : Event) (late : Record) → Makes seat rec e late → Goes seat rec (e ∷ []) late
goes_one seat rec e late made = record { may = (made.may, tt); becomes = made.becomes }

pub goes_then : (seat : Seat) (rec : Record) (a : List Event) (mid : Record) (b : List Event) (late : Record) → Goes seat rec a mid → Goes seat mid b late → Goes seat rec (a ++ b) late
goes_then seat rec a mid b late x y = record {
  may = may-append seat rec a b x.may (subst (λ (m : Record). MayMakeAll seat m b) (sym x.becomes) y.may);
  becomes = record_on-append seat rec a b ∙ ap (λ (m : Record). record_on seat m b) x.becomes ∙ y.becomes;
}

-- ---- the words of a whole chunk, noted from word 0 on

unfoldable pub notes_up : (ℕ → ℕ) → ℕ → Notes
notes_up word zero = []
notes_up word (suc n) = note_word n (word n) (notes_up word n)

noted_up : (word : ℕ → ℕ) (n k : ℕ) → k < n → noted_word (notes_up word n) k ≡ Some (word k)
unfolding notes_up
noted_up word zero k lt = absurd (omega (arith, lt))
noted_up word (suc n) k lt = same_or_other ((if k == n then Some (word n) else noted_word (notes_up word n) k) ≡ Some (word k)) k n
    (λ t is. (λ i. if t i then Some (word n) else noted_word (notes_up word n) k) ∙ ap (λ x. Some (word x)) (sym is))
    (λ t ne. (λ i. if t i then Some (word n) else noted_word (notes_up word n) k) ∙ noted_up word n k (omega (arith, lt, ne)))

has_up : (word : ℕ → ℕ) (n m : ℕ) → m ≤ n → has_all (notes_up word n) m ≡ true
unfolding has_all
has_up word n zero le = refl
has_up word n (suc m) le =
    let here = noted_up word n m (omega (arith, le)) in
    let rest = has_up word n m (omega (arith, le)) in
    λ i. is_some (here i) && rest i

abbrev byte_in : (ℕ → ℕ) → ℕ → ℕ
byte_in word b = word (b / 8) / 256 ^ (b % 8) % 256

bytes_up : (word : ℕ → ℕ) (n start m : ℕ) → start + m ≤ 8 * n → bytes_from (notes_up word n) start m ≡ map (byte_in word) (range_with_len start m)
unfolding bytes_from
bytes_up word n start zero le = refl
bytes_up word n start (suc m) le =
    let here : noted_word (notes_up word n) (start / 8) ≡ Some (word (start / 8)) = noted_up word n (start / 8) (omega (arith, le)) in
    let next : suc start ≡ start + 1 = omega arith in
    let rest = bytes_up word n (start + 1) m (omega (arith, le)) in
    (λ i. (unwrap_or (here i) 0 / 256 ^ (start % 8) % 256) ∷ bytes_from (notes_up word n) (next i) m) ∙ (λ i. byte_in word start ∷ rest i)

-- ---- the chunk buffer of a layout

abbrev pub words_in : Layout → ℕ
words_in layout = 4 * chunk_lines layout

pub bytes_are : (layout : Layout) (word : ℕ → ℕ) → bytes_from (notes_up word (words_in layout)) 0 (chunk_size layout) ≡ bytes_of_words word (chunk_size layout)
unfolding bytes_of_words
bytes_are layout word = bytes_up word (words_in layout) 0 (chunk_size layout) (omega arith)

abbrev pub word_place : Layout → ℕ → WordAt
word_place layout k = record { core = 0; line = first_chunk layout + k / 4; word = k % 4 }

pub in_chunk : (layout : Layout) (k : ℕ) → k < words_in layout → IsPlace (word_place layout k)
in_chunk layout k lt = let end = chunk_lines-end layout in record { core_below = omega arith; line_below = omega (arith, lt, end); word_below = omega arith }

-- ---- the setup of two ranks

two_valid : (layout : Layout) → IsSetup (two_ranks_by layout)
two_valid layout = record { some_ranks = omega arith; ranks_within = omega arith; apart = are_apart; rules = are_rules }
  where
    are_apart : AreApart 2 (0 ∷ 1 ∷ [])
    are_apart r q lt below same =
        let first : r ≡ 0 = omega (arith, lt, below) in
        let second : q ≡ 1 = omega (arith, lt, below) in
        let clash : host_of (0 ∷ 1 ∷ []) 0 ≡ host_of (0 ∷ 1 ∷ []) 1 = sym (ap (host_of (0 ∷ 1 ∷ [])) first) ∙ same ∙ ap (host_of (0 ∷ 1 ∷ [])) second in
        omega (arith, clash)

    are_rules : AreRules (World ∷ [])
    are_rules zero lt = refl
    are_rules (suc comm) lt = λ same. omega (arith, same)

abbrev pub seat_of : Layout → ℕ → Seat
seat_of layout r = seat_at (two_ranks_by layout) r

-- a word of the line of bit flags of a core
abbrev flags_word : ℕ → ℕ → WordAt
flags_word core word = record { core = core; line = 1; word = word }

-- under the register of a core its line of bit flags is loaded
abbrev notes_flags : (core sent ready : ℕ) → List Event
notes_flags core sent ready = take_of core true ∷ load_of (flags_word core 0) sent ∷ load_of (flags_word core 1) ready ∷ load_of (flags_word core 2) 0 ∷ load_of (flags_word core 3) 0 ∷ []

-- ---- rank 0

abbrev header_notes : Layout → Notes
header_notes layout = note_word 0 0 (note_word 1 0 (note_word 2 (chunk_size layout + 1) (note_word 3 0 [])))

abbrev pub drafting : Layout → Notes → Record
drafting layout chunk = record blank { stage = Drafting (header_notes layout) chunk }

draft : (layout : Layout) (word : ℕ → ℕ) (k : ℕ) (chunk : Notes) → k < words_in layout
    → Makes (seat_of layout 0) (drafting layout chunk) (store_of (word_place layout k) (word k)) (drafting layout (note_word k (word k) chunk))
draft layout word k chunk lt = store_moves (seat_of layout 0) (drafting layout chunk) (word_place layout k) (word k) (ChunkWord 0 k) (DraftChunk k (word k))
    (role_chunk (two_ranks_by layout) (two_valid layout) 0 k (omega arith) lt) refl refl

pub drafts : (layout : Layout) (word : ℕ → ℕ) (n : ℕ) → n ≤ words_in layout
    → Goes (seat_of layout 0) (drafting layout []) (for_numbers (λ k. store_of (word_place layout k) (word k)) n) (drafting layout (notes_up word n))
unfolding for_numbers notes_up
drafts layout word zero le = record { may = tt; becomes = refl }
drafts layout word (suc n) le =
    goes_then (seat_of layout 0) (drafting layout []) (for_numbers (λ k. store_of (word_place layout k) (word k)) n) (drafting layout (notes_up word n))
    (store_of (word_place layout n) (word n) ∷ []) (drafting layout (note_word n (word n) (notes_up word n)))
    (drafts layout word n (omega (arith, le)))
    (goes_one (seat_of layout 0) (drafting layout (notes_up word n)) (store_of (word_place layout n) (word n)) (drafting layout (note_word n (word n) (notes_up word n))) (draft layout word n (notes_up word n) (omega (arith, le))))

pub drafts_line : (layout : Layout) → Goes (seat_of layout 0) blank (events_of 0 (drafts_head layout)) (drafting layout [])
unfolding record_next act_of
drafts_line layout = record { may = (refl, (refl, (refl, (refl, tt)))); becomes = refl }

header_all : (layout : Layout) → has_all (header_notes layout) 4 ≡ true
unfolding has_all
header_all layout = refl

nothing_padded : (size : ℕ) (chunk : Notes) → is_zero_from chunk size 0 ≡ true
unfolding is_zero_from
nothing_padded size chunk = refl

abbrev pub head : Layout → MessageHead
head layout = plain_head (chunk_size layout + 1)

abbrev pub raised_events : Layout → List Event
raised_events layout = events_of 0 (begins_first layout)

-- the flag words of the receiver's core are noted
abbrev noted_there : Notes → Record
noted_there chunk = record_on (seat_of BitFlags 0) (drafting BitFlags chunk) (notes_flags 1 0 0)

abbrev bit_raised : Notes → Record
bit_raised chunk = change_held (forget_flags Sent) 1 (after 6624 (RaiseSignal Sent 1) (noted_there chunk))

-- the first chunk is raised
abbrev pub offering : Layout → Notes → Record
offering LineFlags chunk = after 3584 (RaiseSignal Sent 1) (drafting LineFlags chunk)
offering BitFlags chunk = record_on (seat_of BitFlags 0) (bit_raised chunk) (free_of 1 ∷ [])

pub raises : (layout : Layout) (word : ℕ → ℕ) → Goes (seat_of layout 0) (drafting layout (notes_up word (words_in layout))) (raised_events layout) (offering layout (notes_up word (words_in layout)))
unfolding record_next act_of
raises LineFlags word = goes_one (seat_of LineFlags 0) (drafting LineFlags (notes_up word 448)) (store_of (record { core = 1; line = 1; word = 0 }) 1) (offering LineFlags (notes_up word 448))
    (signal_raised (seat_of LineFlags 0) (drafting LineFlags (notes_up word 448)) (two_valid LineFlags) refl Sent 1 refl may)
  where
    may : permits 3584 (RaiseSignal Sent 1) (drafting LineFlags (notes_up word 448)) ≡ true
    may = let whole = has_up word 448 448 (omega arith) in λ i. (header_all LineFlags i && true) && (whole i && nothing_padded 3584 (notes_up word 448) i)
raises BitFlags word =
    goes_then seat (drafting BitFlags chunk) (notes_flags 1 0 0) (noted_there chunk) (store_of (flags_word 1 0) 1 ∷ free_of 1 ∷ []) (offering BitFlags chunk)
    (record { may = (refl, (refl, (refl, (refl, (refl, tt))))); becomes = refl })
    (goes_then seat (noted_there chunk) (store_of (flags_word 1 0) 1 ∷ []) (bit_raised chunk) (free_of 1 ∷ []) (offering BitFlags chunk)
    (goes_one seat (noted_there chunk) (store_of (flags_word 1 0) 1) (bit_raised chunk) (signal_bit_raised seat (noted_there chunk) (two_valid BitFlags) refl Sent 1 0 refl refl refl may))
    (record { may = (refl, tt); becomes = refl }))
  where
    seat : Seat
    seat = seat_of BitFlags 0

    chunk : Notes
    chunk = notes_up word 828

    may : permits 6624 (RaiseSignal Sent 1) (noted_there chunk) ≡ true
    may = let whole = has_up word 828 828 (omega arith) in λ i. (header_all BitFlags i && true) && (whole i && nothing_padded 6624 chunk i)

-- the second chunk, as it was drafted and as it was loaded
abbrev drafted_second : Notes
drafted_second = note_word 0 7 (note_word 1 0 (note_word 2 0 (note_word 3 0 [])))

abbrev loaded_second : Notes
loaded_second = note_word 3 0 (note_word 2 0 (note_word 1 0 (note_word 0 7 [])))

pub drafted_byte : bytes_from drafted_second 0 1 ≡ 7 ∷ []
unfolding bytes_from
drafted_byte = refl

pub loaded_byte : bytes_from loaded_second 0 1 ≡ 7 ∷ []
unfolding bytes_from
loaded_byte = refl

abbrev pub sent_events : Layout → List Event
sent_events layout = events_of 0 (raises_ready layout) ++ events_of 0 (goes_second layout)

abbrev pub has_sent : Layout → Notes → Record
has_sent layout chunk = record_on (seat_of layout 0) (offering layout chunk) (sent_events layout)

pub sends_second : (layout : Layout) (chunk : Notes) → Goes (seat_of layout 0) (offering layout chunk) (sent_events layout) (has_sent layout chunk)
unfolding record_next act_of has_all is_zero_from
sends_second LineFlags chunk = record { may = search rules; becomes = refl }
sends_second BitFlags chunk = record { may = search rules; becomes = refl }

pub sent_calls : (layout : Layout) (chunk : Notes) → (has_sent layout chunk).calls ≡ Send 1 (head layout) (bytes_from chunk 0 (chunk_size layout) ++ bytes_from drafted_second 0 1) ∷ []
unfolding record_next act_of has_all is_zero_from
sent_calls LineFlags chunk = refl
sent_calls BitFlags chunk = refl

-- ---- rank 1

abbrev pub begun_events : Layout → List Event
begun_events layout = events_of 1 (begins_first layout)

abbrev begun_record : Layout → Record
begun_record layout = record_on (seat_of layout 1) blank (begun_events layout)

abbrev pub taking : Layout → Notes → Record
taking layout chunk = record (begun_record layout) { stage = Taking 0 (fresh_message (head layout)) chunk }

pub begins_taking : (layout : Layout) → Goes (seat_of layout 1) blank (begun_events layout) (taking layout [])
unfolding record_next act_of has_all
begins_taking LineFlags = record { may = search rules; becomes = refl }
begins_taking BitFlags = record { may = search rules; becomes = refl }

loaded : (layout : Layout) (word : ℕ → ℕ) (k : ℕ) (chunk : Notes) → k < words_in layout
    → Makes (seat_of layout 1) (taking layout chunk) (load_of (word_place layout k) (word k)) (taking layout (note_word k (word k) chunk))
loaded layout word k chunk lt = load_moves (seat_of layout 1) (taking layout chunk) (word_place layout k) (word k) (ChunkWord 0 k) (ReadChunk 0 k (word k))
    (role_chunk (two_ranks_by layout) (two_valid layout) 0 k (omega arith) lt) refl

pub loads_all : (layout : Layout) (word : ℕ → ℕ) (n : ℕ) → n ≤ words_in layout
    → Goes (seat_of layout 1) (taking layout []) (for_numbers (λ k. load_of (word_place layout k) (word k)) n) (taking layout (notes_up word n))
unfolding for_numbers notes_up
loads_all layout word zero le = record { may = tt; becomes = refl }
loads_all layout word (suc n) le =
    goes_then (seat_of layout 1) (taking layout []) (for_numbers (λ k. load_of (word_place layout k) (word k)) n) (taking layout (notes_up word n))
    (load_of (word_place layout n) (word n) ∷ []) (taking layout (note_word n (word n) (notes_up word n)))
    (loads_all layout word n (omega (arith, le)))
    (goes_one (seat_of layout 1) (taking layout (notes_up word n)) (load_of (word_place layout n) (word n)) (taking layout (note_word n (word n) (notes_up word n))) (loaded layout word n (notes_up word n) (omega (arith, le))))

-- the flag words of the sender's core are noted
abbrev noted_here : Notes → Record
noted_here chunk = record_on (seat_of BitFlags 1) (taking BitFlags chunk) (notes_flags 0 0 0)

abbrev bit_answered : Notes → Record
bit_answered chunk = change_held (forget_flags Ready) 0 (after 6624 (RaiseSignal Ready 0) (noted_here chunk))

-- the first chunk is answered
abbrev pub between : Layout → Notes → Record
between LineFlags chunk = after 3584 (RaiseSignal Ready 0) (taking LineFlags chunk)
between BitFlags chunk = record_on (seat_of BitFlags 1) (bit_answered chunk) (free_of 0 ∷ [])

pub answers : (layout : Layout) (word : ℕ → ℕ) → Goes (seat_of layout 1) (taking layout (notes_up word (words_in layout))) (events_of 1 (raises_ready layout)) (between layout (notes_up word (words_in layout)))
unfolding record_next act_of has_all
answers LineFlags word = goes_one (seat_of LineFlags 1) (taking LineFlags (notes_up word 448)) (store_of (record { core = 0; line = 50; word = 0 }) 1) (between LineFlags (notes_up word 448))
    (signal_raised (seat_of LineFlags 1) (taking LineFlags (notes_up word 448)) (two_valid LineFlags) refl Ready 0 refl (has_up word 448 448 (omega arith)))
answers BitFlags word =
    goes_then seat (taking BitFlags chunk) (notes_flags 0 0 0) (noted_here chunk) (store_of (flags_word 0 1) 2 ∷ free_of 0 ∷ []) (between BitFlags chunk)
    (record { may = (refl, (refl, (refl, (refl, (refl, tt))))); becomes = refl })
    (goes_then seat (noted_here chunk) (store_of (flags_word 0 1) 2 ∷ []) (bit_answered chunk) (free_of 0 ∷ []) (between BitFlags chunk)
    (goes_one seat (noted_here chunk) (store_of (flags_word 0 1) 2) (bit_answered chunk) (signal_bit_raised seat (noted_here chunk) (two_valid BitFlags) refl Ready 0 0 refl refl refl (has_up word 828 828 (omega arith))))
    (record { may = (refl, tt); becomes = refl }))
  where
    seat : Seat
    seat = seat_of BitFlags 1

    chunk : Notes
    chunk = notes_up word 828

-- the events of the second chunk
abbrev pub second_events : Layout → List Event
second_events layout = events_of 1 (goes_second layout)

abbrev pub has_received : Layout → Notes → Record
has_received layout chunk = record_on (seat_of layout 1) (between layout chunk) (second_events layout)

pub receives_second : (layout : Layout) (chunk : Notes) → Goes (seat_of layout 1) (between layout chunk) (second_events layout) (has_received layout chunk)
unfolding record_next act_of has_all
receives_second LineFlags chunk = record { may = search rules; becomes = refl }
receives_second BitFlags chunk = record { may = search rules; becomes = refl }

pub received_calls : (layout : Layout) (chunk : Notes) → (has_received layout chunk).calls ≡ Recv 0 (head layout) (bytes_from chunk 0 (chunk_size layout) ++ bytes_from loaded_second 0 1) ∷ []
unfolding record_next act_of has_all
received_calls LineFlags chunk = refl
received_calls BitFlags chunk = refl
