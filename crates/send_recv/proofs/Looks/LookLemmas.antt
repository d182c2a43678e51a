-- What a look at a flag of the own core is to the record and to the cache, in both layouts.
use Rattle.std.proofs.Common.{◌≡◌, ◌≢◌, ℕ, ◌+◌, ◌<◌, ◌≤◌, Bool, true, false, ◌==◌, ◌&&◌, List, [], ◌∷◌, Option, Some, None, option_map, refl, sym, ◌∙◌, ap, subst, arith, slice_index}
use Rattle.scc_base.specs.Places.{line_of_word, flag_word}
use Rattle.scc_base.specs.Layouts.{signal_at, first_signal, signal_word, first_gather}
use Rattle.scc_base.specs.declared.signals.Signal.{Signal}
use Rattle.scc_base.specs.declared.signals.Signal.TheVariants.{Sent, Ready}
use Rattle.scc_base.specs.Setups.{IsSetup}
use Rattle.scc_base.specs.Events.{load_of}
use Rattle.scc_base.specs.declared.events.Event.{Event}
use Rattle.scc_base.specs.declared.layouts.Layout.{Layout}
use Rattle.scc_base.specs.declared.layouts.Layout.TheVariants.{LineFlags, BitFlags}
use Rattle.scc_proto.specs.Stages.{Filling, Raised, Answered, Stage, Idle, Drafting, Sending, Between, Taking, Barrier, InFlight, Record}
use Rattle.scc_proto.specs.Moves.{LookSignal, look_ready, post_answered, after}
use Rattle.scc_proto.specs.Tables.{put_signal}
use Rattle.scc_proto.specs.Words.{are_peers}
use Rattle.scc_proto.specs.Records.{look_at, look_at_bits, chunk_of}
use Rattle.scc_proto.specs.Ports.{Seat, Sight, Did, record_in, record_next, record_on}
use Rattle.scc_proto.proofs.PortLaws.{record_did}
use Rattle.scc_proto.proofs.Tests.{eqb_same, peers_are, put_signal_here}
use Rattle.scc_proto.proofs.Layouts.Roles.{own_word, signal_lines, role_spare_line, role_spare_bits}
use Rattle.scc_proto.proofs.Layouts.PlaceMoves.{idle_loaded, signal_loaded, signal_bits_loaded}
use Rattle.put_get.specs.Accesses.{loads_of}
use Rattle.put_get.specs.Cores.{Private}
use Rattle.put_get.specs.Transfers.{line_at}
use Rattle.sync_flags.specs.Flags.{is_set_in}
use Rattle.send_recv.specs.Flags.{Looks}
use Rattle.send_recv.specs.Turns.{HoldsNoneBy, HoldsNone}
use Rattle.send_recv.specs.Steps.{own_core, core_of}

-- the record after four events
pub on_four : (seat : Seat) (a b c d last : Record) (e0 e1 e2 e3 : Event) → record_next seat a e0 ≡ b → record_next seat b e1 ≡ c → record_next seat c e2 ≡ d → record_next seat d e3 ≡ last
    → record_on seat a (e0 ∷ e1 ∷ e2 ∷ e3 ∷ []) ≡ last
on_four seat a b c d last e0 e1 e2 e3 p q r t =
    ap (λ (x : Record). record_next seat (record_next seat (record_next seat x e1) e2) e3) p
    ∙ ap (λ (x : Record). record_next seat (record_next seat x e2) e3) q
    ∙ ap (λ (x : Record). record_next seat x e3) r ∙ t

-- a record was looked with: of each signal some flags were seen
pub record IsLooked (size : ℕ) (rec new : Record) : Type 0 where
  pub seen : Signal → ℕ → Bool
  pub is : new ≡ after size (LookSignal Ready (seen Ready)) (after size (LookSignal Sent (seen Sent)) rec)

-- no flag was seen
abbrev pub none_set : ℕ → Bool
none_set = λ j. false

-- flags of one signal were seen, and none of the other
abbrev seen_alone : Signal → (ℕ → Bool) → Signal → ℕ → Bool
seen_alone signal p = put_signal (λ other. none_set) signal p

seen_none : (stage : Stage) → look_ready none_set stage ≡ stage
seen_none Idle = refl
seen_none (Drafting header chunk) = refl
seen_none (Sending to Filling message chunk) = refl
seen_none (Sending to Raised message chunk) = refl
seen_none (Sending to Answered message chunk) = refl
seen_none (Between from message) = refl
seen_none (Taking from message chunk) = refl
seen_none (Barrier comm seen released) = refl

answered_none : (post : Option InFlight) → option_map (post_answered none_set) post ≡ post
answered_none None = refl
answered_none (Some post) = refl

-- a look at `sent` flags alone
looked_sent_alone : (size : ℕ) (rec : Record) (p : ℕ → Bool) → after size (LookSignal Sent p) rec ≡ after size (LookSignal Ready none_set) (after size (LookSignal Sent p) rec)
looked_sent_alone size rec p = λ i. record (after size (LookSignal Sent p) rec) { stage = sym (seen_none rec.stage) i; post = sym (answered_none rec.post) i }

-- ---- line flags

-- the line of a flag that fills one: its other words are idle
four_of_line : (seat : Seat) (rec last : Record) (line : ℕ) (words : List ℕ) → IsSetup seat.setup → seat.setup.layout ≡ LineFlags → seat.rank < seat.setup.nue → 1 ≤ line → line < 97
    → record_next seat rec (load_of (own_word seat.setup seat.rank line 0) (slice_index words 0)) ≡ last
    → record_on seat rec (loads_of (line_at (core_of seat seat.rank) line) words) ≡ last
four_of_line seat rec last line words valid lines below low high first =
    let high2 : line < first_gather seat.setup.layout = subst (λ (l : Layout). line < first_gather l) (sym lines) high in
    let idle : (word : ℕ) → word ≢ 0 → record_next seat last (load_of (own_word seat.setup seat.rank line word) (slice_index words word)) ≡ last
    = λ word other. (idle_loaded seat last (own_word seat.setup seat.rank line word) (slice_index words word) (role_spare_line seat.setup valid lines seat.rank line word below low high2 other)).becomes in
    on_four seat rec last last last last _ _ _ _ first (idle 1 (omega arith)) (idle 2 (omega arith)) (idle 3 (omega arith))

line_loaded : (signal : Signal) (seat : Seat) (rec : Record) (j : ℕ) (words : List ℕ) → IsSetup seat.setup → seat.setup.layout ≡ LineFlags → are_peers seat.setup seat.rank j ≡ true
    → record_next seat rec (load_of (own_word seat.setup seat.rank (first_signal signal + j) 0) (slice_index words 0))
    ≡ after (chunk_of seat.setup) (LookSignal Ready (seen_alone signal (look_at j (slice_index words 0)) Ready)) (after (chunk_of seat.setup) (LookSignal Sent (seen_alone signal (look_at j (slice_index words 0)) Sent)) rec)
line_loaded Sent seat rec j words valid lines peers =
    (signal_loaded seat rec valid lines Sent j (slice_index words 0) peers).becomes ∙ looked_sent_alone (chunk_of seat.setup) rec (look_at j (slice_index words 0))
line_loaded Ready seat rec j words valid lines peers = (signal_loaded seat rec valid lines Ready j (slice_index words 0) peers).becomes

lines_end : (signal : Signal) (j n : ℕ) → j < n → n ≤ 48 → first_signal signal + j < 97
lines_end signal j n low most = let lines = signal_lines signal in omega (arith, lines.1, low, most)

lines_begin : (signal : Signal) (j : ℕ) → 1 ≤ first_signal signal + j
lines_begin signal j = let lines = signal_lines signal in omega (arith, lines.0)

signal_line : (signal : Signal) (seat : Seat) (rec : Record) (j : ℕ) (words : List ℕ) → IsSetup seat.setup → seat.setup.layout ≡ LineFlags → are_peers seat.setup seat.rank j ≡ true
    → record_on seat rec (loads_of (line_at (core_of seat seat.rank) (first_signal signal + j)) words)
    ≡ after (chunk_of seat.setup) (LookSignal Ready (seen_alone signal (look_at j (slice_index words 0)) Ready)) (after (chunk_of seat.setup) (LookSignal Sent (seen_alone signal (look_at j (slice_index words 0)) Sent)) rec)
signal_line signal seat rec j words valid lines peers =
    let p = peers_are seat.setup seat.rank j peers in
    four_of_line seat rec _ (first_signal signal + j) words valid lines p.one (lines_begin signal j) (lines_end signal j seat.setup.nue p.other valid.ranks_within)
    (line_loaded signal seat rec j words valid lines peers)

-- ---- bit flags: the line has the flags of all ranks

bits_line : (seat : Seat) (rec : Record) (words : List ℕ) → IsSetup seat.setup → seat.setup.layout ≡ BitFlags → seat.rank < seat.setup.nue → rec.held (own_core seat) ≡ None
    → record_on seat rec (loads_of (line_at (core_of seat seat.rank) 1) words)
    ≡ after (chunk_of seat.setup) (LookSignal Ready (look_at_bits seat.setup seat.rank (slice_index words 1))) (after (chunk_of seat.setup) (LookSignal Sent (look_at_bits seat.setup seat.rank (slice_index words 0))) rec)
bits_line seat rec words valid bits below free =
    let a : Record = after (chunk_of seat.setup) (LookSignal Sent (look_at_bits seat.setup seat.rank (slice_index words 0))) rec in
    let b : Record = after (chunk_of seat.setup) (LookSignal Ready (look_at_bits seat.setup seat.rank (slice_index words 1))) a in
    on_four seat rec a b b b _ _ _ _
    (signal_bits_loaded seat rec valid bits Sent (slice_index words 0) below free).becomes
    (signal_bits_loaded seat a valid bits Ready (slice_index words 1) below free).becomes
    (idle_loaded seat b (own_word seat.setup seat.rank 1 2) (slice_index words 2) (role_spare_bits seat.setup valid bits seat.rank 2 below (omega arith))).becomes
    (idle_loaded seat b (own_word seat.setup seat.rank 1 3) (slice_index words 3) (role_spare_bits seat.setup valid bits seat.rank 3 below (omega arith))).becomes

-- ---- in both layouts

-- the look tells of rank j what was found
pub record LooksAt (s t : Sight) (signal : Signal) (j : ℕ) (found : Bool) : Type 0 where
  pub looked : IsLooked (chunk_of s.seat.setup) (record_in s) (record_in t)
  pub tells : looked.seen signal j ≡ found

at_itself : (signal : Signal) (j value : ℕ) → seen_alone signal (look_at j value) signal j ≡ (value == 1)
at_itself signal j value = ap (λ (p : ℕ → Bool). p j) (put_signal_here (λ other. none_set) signal (look_at j value)) ∙ ap (λ b. b && (value == 1)) (eqb_same j)

looks_by : (layout : Layout) (signal : Signal) (s t : Sight) (j : ℕ) (words : List ℕ) → s.seat.setup.layout ≡ layout → IsSetup s.seat.setup → are_peers s.seat.setup s.seat.rank j ≡ true
    → HoldsNoneBy layout (record_in s).held → Did s (loads_of (line_of_word (flag_word (own_core s.seat) (signal_at layout signal j))) words) t
    → LooksAt s t signal j (is_set_in (signal_at layout signal j).bit (slice_index words (signal_at layout signal j).word))
looks_by LineFlags signal s t j words lines valid peers hands did = record {
  looked = record {
    seen = seen_alone signal (look_at j (slice_index words 0));
    is = record_did s _ t did ∙ signal_line signal s.seat (record_in s) j words valid lines peers;
  };
  tells = at_itself signal j (slice_index words 0);
}
looks_by BitFlags signal s t j words bits valid peers hands did =
    let p = peers_are s.seat.setup s.seat.rank j peers in
    record {
      looked = record {
        seen = λ at. look_at_bits s.seat.setup s.seat.rank (slice_index words (signal_word at));
        is = record_did s _ t did ∙ bits_line s.seat (record_in s) words valid bits p.one (hands (own_core s.seat));
      };
      tells = ap (λ b. b && (is_set_in (Some j) (slice_index words (signal_word signal)))) peers;
    }

-- a look at the flag of a signal that rank j raises
pub looks_at : (signal : Signal) (s t : Sight) (c d : Private) (j : ℕ) (found : Bool) → IsSetup s.seat.setup → are_peers s.seat.setup s.seat.rank j ≡ true → HoldsNone s.seat.setup.layout (record_in s)
    → Looks s c (own_core s.seat) (signal_at s.seat.setup.layout signal j) found t d → LooksAt s t signal j found
looks_at signal s t c d j found valid peers hands looks =
    subst (λ b. LooksAt s t signal j b) (sym looks.is) (looks_by s.seat.setup.layout signal s t j looks.words refl valid peers hands looks.looks.did)
