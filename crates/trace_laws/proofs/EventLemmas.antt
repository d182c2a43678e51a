-- The line of an event says the event.
use Rattle.std.proofs.Common.{◌≡◌, ◌⊎◌, inl, inr, ℕ, ◌+◌, ◌-◌, ◌^◌, ◌<◌, ◌≤◌, false, List, [], ◌∷◌, ◌++◌, length, map, codes, decimal, Option, Some, None, Ok, refl, sym, ap, ◌∙◌, append_assoc, arith}
use Rattle.std.specs.Prelude.{◌==◌, All, nat_le, nat_lt}
use Rattle.std.specs.Option.{ok_or}
use Rattle.std.proofs.lemmas.Bool.{and_left, cond-false, le-ltb, ne_eqb}
use Rattle.std.proofs.lemmas.List.{append-nil}
use Rattle.std.proofs.lemmas.List.Elements.{All-head, All-tail}
use Rattle.rcce_io.specs.Sending.{joined_texts}
use Rattle.rcce_audit.specs.Grammar.{begins_comm, log_rank_said}
use Rattle.rcce_audit.specs.Words.{◌>>=◌, only_if, log_words_of}
use Rattle.rcce_audit.proofs.CallTexts.{BeginsLow, decimal_low}
use Rattle.rcce_audit.proofs.WordLemmas.{range_said-decimal}
use Rattle.scc_base.specs.Events.{IsAccess, IsEvent, free_of, load_of, store_of, take_of}
use Rattle.scc_base.specs.Places.{WordAt, register_place}
use Rattle.scc_base.specs.Setups.{SetupView}
use Rattle.scc_base.specs.declared.events.Access.{Access}
use Rattle.scc_base.specs.declared.events.Access.TheVariants.{Load, Store, Take, Free}
use Rattle.scc_base.specs.declared.events.Event.{Event}
use Rattle.scc_proto.specs.Words.{RankEvent}
use Rattle.trace_writer.specs.Lines.{access_name, comment_words, event_line, place_words}
use Rattle.trace_text.specs.Grammar.{TraceReading, access_said, event_added, event_said, event_taken, line_fault, line_taken, lines_taken, split_taken, ◌>->◌}
use Rattle.trace_text.specs.Traces.{most_line_bytes}
use Rattle.trace_text.specs.Words.{hex_word_said}
use Rattle.trace_text.specs.declared.faults.TraceFault.{TraceFault}
use Rattle.trace_laws.proofs.ByteLemmas.{IsFrom, from_lower}
use Rattle.trace_laws.proofs.WordLemmas.{number_word, place_text, place_told, place_word, register_text, register_told, register_word, value_from, value_text, value_told, word_at}

-- ---- the words of the line

-- where the access is
abbrev pub where_text : Access → WordAt → List ℕ
where_text Load p = place_text p
where_text Store p = place_text p
where_text Take p = register_text p.core
where_text Free p = register_text p.core

where_pieces : (a : Access) (p : WordAt) → decimal p.core ++ joined_texts (place_words a p) ≡ where_text a p
where_pieces Load p = ap (λ (word : List ℕ). decimal p.core ++ 46 ∷ (decimal p.line ++ 46 ∷ word)) (append-nil (decimal p.word))
where_pieces Store p = ap (λ (word : List ℕ). decimal p.core ++ 46 ∷ (decimal p.line ++ 46 ∷ word)) (append-nil (decimal p.word))
where_pieces Take p = refl
where_pieces Free p = refl

-- what stands behind the mark
abbrev pub comment_text : SetupView → RankEvent → List ℕ
comment_text s e = joined_texts (comment_words s e.event.access e.event.place)

-- the line without its line feed, and what of it stands behind the rank
abbrev pub event_rest : SetupView → RankEvent → List ℕ
event_rest s e =
    32 ∷ (access_name e.event.access ++ 32 ∷ (where_text e.event.access e.event.place ++ 32 ∷ (value_text e.event.value ++ 32 ∷ 35 ∷ 32 ∷ comment_text s e)))

abbrev pub event_body : SetupView → RankEvent → List ℕ
event_body s e = decimal e.rank ++ event_rest s e

line_pieces : (r a c p v t : List ℕ) → (r ++ (codes " " ++ (a ++ (codes " " ++ (c ++ []))))) ++ (p ++ (codes " " ++ (v ++ (codes " # " ++ (t ++ codes "\n")))))
    ≡ (r ++ 32 ∷ (a ++ 32 ∷ ((c ++ p) ++ 32 ∷ (v ++ 32 ∷ 35 ∷ 32 ∷ t)))) ++ 10 ∷ []
line_pieces r a c p v t = simp append_assoc

pub event_line_is : (s : SetupView) (e : RankEvent) → event_line s e ≡ event_body s e ++ 10 ∷ []
event_line_is s e =
    line_pieces (decimal e.rank) (access_name e.event.access) (decimal e.event.place.core) (joined_texts (place_words e.event.access e.event.place)) (value_text e.event.value) (comment_text s e)
    ∙ ap (λ (place : List ℕ). (decimal e.rank ++ 32 ∷ (access_name e.event.access ++ 32 ∷ (place ++ 32 ∷ (value_text e.event.value ++ 32 ∷ 35 ∷ 32 ∷ comment_text s e)))) ++ 10 ∷ [])
    (where_pieces e.event.access e.event.place)

pub access_word : (a : Access) → IsFrom 33 (access_name a)
access_word Load = refl
access_word Store = refl
access_word Take = refl
access_word Free = refl

pub where_word : (a : Access) (p : WordAt) (v : ℕ) → IsAccess a p v → IsFrom 33 (where_text a p)
where_word Load p v is = place_word p is.0
where_word Store p v is = place_word p is.0
where_word Take p v is = register_word p.core is.0
where_word Free p v is = register_word p.core is.0

abbrev pub event_words : SetupView → RankEvent → List (List ℕ)
event_words s e = decimal e.rank ∷ access_name e.event.access ∷ where_text e.event.access e.event.place ∷ value_text e.event.value ∷ codes "#" ∷ log_words_of (comment_text s e)

words_are : (s : SetupView) (e : RankEvent) → e.rank < 48 → IsEvent e.event → log_words_of (event_body s e) ≡ event_words s e
words_are s e low is =
    let a = e.event.access in
    let place = where_text a e.event.place in
    let value = value_text e.event.value in
    let comment = comment_text s e in
    word_at (decimal e.rank) (access_name a ++ 32 ∷ (place ++ 32 ∷ (value ++ 32 ∷ 35 ∷ 32 ∷ comment))) (number_word e.rank (omega (arith, low)))
    ∙ ap (λ (ws : List (List ℕ)). decimal e.rank ∷ ws) (word_at (access_name a) (place ++ 32 ∷ (value ++ 32 ∷ 35 ∷ 32 ∷ comment)) (access_word a)
    ∙ ap (λ (ws : List (List ℕ)). access_name a ∷ ws) (word_at place (value ++ 32 ∷ 35 ∷ 32 ∷ comment) (where_word a e.event.place e.event.value is)
    ∙ ap (λ (ws : List (List ℕ)). place ∷ ws) (word_at value (35 ∷ 32 ∷ comment) (from_lower 33 48 value (omega arith) (value_from e.event.value))
    ∙ ap (λ (ws : List (List ℕ)). value ∷ ws) (word_at (35 ∷ []) comment refl))))

-- ---- what they say

load_told : (p : WordAt) (v : ℕ) → IsAccess Load p v → access_said (codes "load") (place_text p) (value_text v) ≡ Some (load_of p v)
load_told p v is =
    ap (λ (o : Option WordAt). o >>= λ q. hex_word_said (value_text v) >>= λ w. Some (load_of q w)) (place_told p is.0)
    ∙ ap (λ (o : Option ℕ). o >>= λ w. Some (load_of p w)) (value_told v is.1)

store_told : (p : WordAt) (v : ℕ) → IsAccess Store p v → access_said (codes "store") (place_text p) (value_text v) ≡ Some (store_of p v)
store_told p v is =
    ap (λ (o : Option WordAt). o >>= λ q. hex_word_said (value_text v) >>= λ w. Some (store_of q w)) (place_told p is.0)
    ∙ ap (λ (o : Option ℕ). o >>= λ w. Some (store_of p w)) (value_told v is.1)

abbrev taken_as : WordAt → ℕ → Event
taken_as p v = record { access = Take; place = p; value = v }

took : (p : WordAt) (v : ℕ) → p ≡ register_place p.core → (v ≡ 0) ⊎ (v ≡ 1) → only_if (nat_le v 1) (take_of p.core (v == 1)) ≡ Some (taken_as p v)
took p v at (inl is) =
    ap (λ (n : ℕ). only_if (nat_le n 1) (take_of p.core (n == 1))) is
    ∙ ap (λ (q : WordAt). Some (taken_as q 0)) (sym at) ∙ ap (λ (n : ℕ). Some (taken_as p n)) (sym is)
took p v at (inr is) =
    ap (λ (n : ℕ). only_if (nat_le n 1) (take_of p.core (n == 1))) is
    ∙ ap (λ (q : WordAt). Some (taken_as q 1)) (sym at) ∙ ap (λ (n : ℕ). Some (taken_as p n)) (sym is)

bit_small : (v : ℕ) → (v ≡ 0) ⊎ (v ≡ 1) → v < 2 ^ 64
bit_small v (inl is) = omega (arith, is)
bit_small v (inr is) = omega (arith, is)

take_told : (p : WordAt) (v : ℕ) → IsAccess Take p v → access_said (codes "take") (register_text p.core) (value_text v) ≡ Some (taken_as p v)
take_told p v is =
    ap (λ (o : Option ℕ). o >>= λ c. hex_word_said (value_text v) >>= λ w. only_if (nat_le w 1) (take_of c (w == 1))) (register_told p.core is.0)
    ∙ ap (λ (o : Option ℕ). o >>= λ w. only_if (nat_le w 1) (take_of p.core (w == 1))) (value_told v (bit_small v is.2))
    ∙ took p v is.1 is.2

abbrev freed_as : WordAt → ℕ → Event
freed_as p v = record { access = Free; place = p; value = v }

free_told : (p : WordAt) (v : ℕ) → IsAccess Free p v → access_said (codes "free") (register_text p.core) (value_text v) ≡ Some (freed_as p v)
free_told p v is =
    ap (λ (o : Option ℕ). o >>= λ c. hex_word_said (value_text v) >>= λ w. only_if (w == 0) (free_of c)) (register_told p.core is.0)
    ∙ ap (λ (o : Option ℕ). o >>= λ w. only_if (w == 0) (free_of p.core)) (value_told v (bit_small v (inl is.2)))
    ∙ ap (λ (n : ℕ). only_if (n == 0) (free_of p.core)) is.2
    ∙ ap (λ (q : WordAt). Some (freed_as q 0)) (sym is.1) ∙ ap (λ (n : ℕ). Some (freed_as p n)) (sym is.2)

access_told : (a : Access) (p : WordAt) (v : ℕ) → IsAccess a p v → access_said (access_name a) (where_text a p) (value_text v) ≡ Some (record { access = a; place = p; value = v })
access_told Load p v is = load_told p v is
access_told Store p v is = store_told p v is
access_told Take p v is = take_told p v is
access_told Free p v is = free_told p v is

rank_told : (nue r : ℕ) → nue ≤ 48 → r < nue → log_rank_said nue (decimal r) ≡ Some r
rank_told nue r ranks below = range_said-decimal 0 (nue - 1) r (omega arith) (omega arith) (omega arith)

said : (s : SetupView) (nue : ℕ) (e : RankEvent) → nue ≤ 48 → e.rank < nue → IsEvent e.event → event_said nue (event_words s e) ≡ Some e
said s nue e ranks below is =
    let a = e.event.access in
    ap (λ (o : Option ℕ). o >>= λ r. access_said (access_name a) (where_text a e.event.place) (value_text e.event.value) >>= λ made. Some (record { rank = r; event = made })) (rank_told nue e.rank ranks below)
    ∙ ap (λ (o : Option Event). o >>= λ made. Some (record { rank = e.rank; event = made })) (access_told a e.event.place e.event.value is)

-- ---- the line is one of an event

not_comm : (text rest : List ℕ) → BeginsLow text → begins_comm (text ++ rest) ≡ false
not_comm text rest (b, more, is, low) = ap (λ (t : List ℕ). begins_comm (t ++ rest)) is ∙ and_left (b == 99) _ (ne_eqb b 99 (λ at. omega (arith, low, at)))

-- ---- the reading after the lines of events

-- a reading of this setup, with these events
abbrev pub at_events : SetupView → ℕ → List RankEvent → TraceReading
at_events t comm events = record { trace = record { setup = t; events = events }; comm = comm }

-- a line of an event is not too long
abbrev pub IsShort : List ℕ → Type 0
IsShort line = length line ≤ 255

-- an event that a rank of a run may make
abbrev pub IsOf : ℕ → RankEvent → Type 0
IsOf nue e = (e.rank < nue) × IsEvent e.event

taken : (s t : SetupView) (comm : ℕ) (before : List RankEvent) (e : RankEvent) → t.nue ≤ 48 → IsOf t.nue e → IsShort (event_body s e)
    → line_taken (at_events t comm before) (event_body s e) ≡ Some (at_events t comm (before ++ e ∷ []))
taken s t comm before e ranks is short =
    let r = at_events t comm before in
    let line = event_body s e in
    cond-false (nat_lt most_line_bytes (length line)) None _ (le-ltb most_line_bytes (length line) short)
    ∙ cond-false (begins_comm line) (split_taken r (log_words_of line)) (event_taken r (log_words_of line)) (not_comm (decimal e.rank) (event_rest s e) (decimal_low e.rank (omega (arith, is.0, ranks))))
    ∙ ap (event_taken r) (words_are s e (omega (arith, is.0, ranks)) is.1)
    ∙ ap (λ (o : Option RankEvent). o >>= λ x. Some (event_added r x)) (said s t.nue e ranks is.0 is.1)

pub events_taken : (s t : SetupView) (comm number : ℕ) (before run : List RankEvent) → t.nue ≤ 48 → All (IsOf t.nue) run → ((e : RankEvent) → IsOf t.nue e → IsShort (event_body s e))
    → lines_taken number (at_events t comm before) (map (event_body s) run) ≡ Ok (at_events t comm (before ++ run))
events_taken s t comm number before [] ranks are short = ap (λ (es : List RankEvent). Ok (at_events t comm es)) (sym (append-nil before))
events_taken s t comm number before (e ∷ run) ranks are short =
    let first = All-head (IsOf t.nue) e run are in
    ap (λ (o : Option TraceReading). ok_or {E = TraceFault} o (record { line = number; kind = line_fault (event_body s e) }) >-> λ next. lines_taken (number + 1) next (map (event_body s) run))
    (taken s t comm before e ranks first (short e first))
    ∙ events_taken s t comm (number + 1) (before ++ e ∷ []) run ranks (All-tail (IsOf t.nue) e run are) short
    ∙ ap (λ (es : List RankEvent). Ok (at_events t comm es)) (append_assoc before (e ∷ []) run)
