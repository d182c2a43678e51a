-- What each move makes of the barrier that is open at its rank.
use Rattle.std.proofs.Common.{◌≡◌, ◌≢◌, ℕ, suc, ◌==◌, Bool, true, false, true≢false, ◌&&◌, if◌then◌else◌, [], Option, Some, None, unwrap_or, refl, sym, ◌∙◌, ap, arith}
use Rattle.std.proofs.lemmas.Bool.Decides.{nat_tests}
use Rattle.scc_base.specs.declared.signals.Signal.TheVariants.{Sent, Ready}
use Rattle.scc_proto.specs.Messages.{Notes, note_word, head_of, fresh_message, is_last, with_chunk}
use Rattle.scc_proto.specs.Stages.{Filling, Raised, Answered, Stage, Idle, Drafting, Sending, Between, Taking, Barrier, Record}
use Rattle.scc_proto.specs.Moves.{Move, DraftHeader, DraftChunk, RaiseSignal, LookSignal, ReadHeader, ReadChunk, LowerSignal, FlipGather, LookGather, WriteRelease, LookRelease, StoreHeap, NoMove, Misplaced, is_posted, draft_header, draft_chunk, raise_sent, read_chunk, lower_sent, raise_ready, look_ready, lower_ready, flip_gather, look_gather, write_release, look_release, stage_after}
use Rattle.scc_proto.specs.Permission.{is_idle, may_release}
use Rattle.scc_proto.proofs.Barriers.BarrierFacts.{Counts, bar_at, released_bar}

-- a choice between two stages that have the same barrier open
pub either_bar : (comm : ℕ) (bar : Option Counts) (b : Bool) (one other : Stage) → bar_at comm one ≡ bar → bar_at comm other ≡ bar → bar_at comm (if b then one else other) ≡ bar
either_bar comm bar true one other first second = first
either_bar comm bar false one other first second = second

draft_header-bar : (comm k v : ℕ) (st : Stage) → bar_at comm (draft_header k v st) ≡ bar_at comm st
draft_header-bar comm k v Idle = refl
draft_header-bar comm k v (Drafting header chunk) = refl
draft_header-bar comm k v (Sending to part message chunk) = refl
draft_header-bar comm k v (Between from message) = refl
draft_header-bar comm k v (Taking from message chunk) = refl
draft_header-bar comm k v (Barrier c seen released) = refl

draft_chunk-bar : (comm k v : ℕ) (st : Stage) → bar_at comm (draft_chunk k v st) ≡ bar_at comm st
draft_chunk-bar comm k v Idle = refl
draft_chunk-bar comm k v (Drafting header chunk) = refl
draft_chunk-bar comm k v (Sending to Filling message chunk) = refl
draft_chunk-bar comm k v (Sending to Raised message chunk) = refl
draft_chunk-bar comm k v (Sending to Answered message chunk) = refl
draft_chunk-bar comm k v (Between from message) = refl
draft_chunk-bar comm k v (Taking from message chunk) = refl
draft_chunk-bar comm k v (Barrier c seen released) = refl

raise_sent-bar : (comm to : ℕ) (st : Stage) → bar_at comm (raise_sent to st) ≡ bar_at comm st
raise_sent-bar comm to Idle = refl
raise_sent-bar comm to (Drafting header chunk) = either_bar comm None (is_posted header) Idle (Sending to Raised (fresh_message (head_of header)) chunk) refl refl
raise_sent-bar comm to (Sending j Filling message chunk) = refl
raise_sent-bar comm to (Sending j Raised message chunk) = refl
raise_sent-bar comm to (Sending j Answered message chunk) = refl
raise_sent-bar comm to (Between from message) = refl
raise_sent-bar comm to (Taking from message chunk) = refl
raise_sent-bar comm to (Barrier c seen released) = refl

read_chunk-bar : (comm from k v : ℕ) (st : Stage) → bar_at comm (read_chunk from k v st) ≡ bar_at comm st
read_chunk-bar comm from k v Idle = refl
read_chunk-bar comm from k v (Drafting header chunk) = refl
read_chunk-bar comm from k v (Sending to part message chunk) = refl
read_chunk-bar comm from k v (Between i message) = refl
read_chunk-bar comm from k v (Taking i message chunk) = either_bar comm None (i == from) (Taking i message (note_word k v chunk)) (Taking i message chunk) refl refl
read_chunk-bar comm from k v (Barrier c seen released) = refl

lower_sent-bar : (comm from : ℕ) (header : Notes) (st : Stage) → bar_at comm (lower_sent from header st) ≡ bar_at comm st
lower_sent-bar comm from header Idle = refl
lower_sent-bar comm from header (Drafting noted chunk) = refl
lower_sent-bar comm from header (Sending to part message chunk) = refl
lower_sent-bar comm from header (Between i message) = refl
lower_sent-bar comm from header (Taking i message chunk) = refl
lower_sent-bar comm from header (Barrier c seen released) = refl

raise_ready-bar : (comm size : ℕ) (st : Stage) → bar_at comm (raise_ready size st) ≡ bar_at comm st
raise_ready-bar comm size Idle = refl
raise_ready-bar comm size (Drafting header chunk) = refl
raise_ready-bar comm size (Sending to part message chunk) = refl
raise_ready-bar comm size (Between i message) = refl
raise_ready-bar comm size (Taking i message chunk) = either_bar comm None (is_last size message) Idle (Between i (with_chunk size message chunk)) refl refl
raise_ready-bar comm size (Barrier c seen released) = refl

look_ready-bar : (comm : ℕ) (is_set : ℕ → Bool) (st : Stage) → bar_at comm (look_ready is_set st) ≡ bar_at comm st
look_ready-bar comm is_set Idle = refl
look_ready-bar comm is_set (Drafting header chunk) = refl
look_ready-bar comm is_set (Sending to Filling message chunk) = refl
look_ready-bar comm is_set (Sending to Raised message chunk) = either_bar comm None (is_set to) (Sending to Answered message chunk) (Sending to Raised message chunk) refl refl
look_ready-bar comm is_set (Sending to Answered message chunk) = refl
look_ready-bar comm is_set (Between i message) = refl
look_ready-bar comm is_set (Taking i message chunk) = refl
look_ready-bar comm is_set (Barrier c seen released) = refl

lower_ready-bar : (comm size : ℕ) (st : Stage) → bar_at comm (lower_ready size st) ≡ bar_at comm st
lower_ready-bar comm size Idle = refl
lower_ready-bar comm size (Drafting header chunk) = refl
lower_ready-bar comm size (Sending to part message chunk) = either_bar comm None (is_last size message) Idle (Sending to Filling (with_chunk size message chunk) []) refl refl
lower_ready-bar comm size (Between i message) = refl
lower_ready-bar comm size (Taking i message chunk) = refl
lower_ready-bar comm size (Barrier c seen released) = refl

-- a move of barriers
abbrev pub is_barrier_move : Move → Bool
is_barrier_move (FlipGather comm value last) = true
is_barrier_move (LookGather comm from place value) = true
is_barrier_move (WriteRelease comm to place value last) = true
is_barrier_move (LookRelease comm value) = true
is_barrier_move move = false

-- any other move leaves the open barrier as it is
pub bar_kept : (comm size : ℕ) (move : Move) (rec : Record) → is_barrier_move move ≡ false → bar_at comm (stage_after size move rec) ≡ bar_at comm rec.stage
bar_kept comm size (DraftHeader k v) rec other = draft_header-bar comm k v rec.stage
bar_kept comm size (DraftChunk k v) rec other = draft_chunk-bar comm k v rec.stage
bar_kept comm size (RaiseSignal Sent to) rec other = raise_sent-bar comm to rec.stage
bar_kept comm size (LookSignal Sent is_set) rec other = refl
bar_kept comm size (ReadHeader from k v) rec other = refl
bar_kept comm size (ReadChunk from k v) rec other = read_chunk-bar comm from k v rec.stage
bar_kept comm size (LowerSignal Sent from) rec other = lower_sent-bar comm from (unwrap_or (rec.notes from) []) rec.stage
bar_kept comm size (RaiseSignal Ready to) rec other = raise_ready-bar comm size rec.stage
bar_kept comm size (LookSignal Ready is_set) rec other = look_ready-bar comm is_set rec.stage
bar_kept comm size (LowerSignal Ready by) rec other = lower_ready-bar comm size rec.stage
bar_kept comm size (FlipGather c value last) rec other = absurd (true≢false other)
bar_kept comm size (LookGather c from place value) rec other = absurd (true≢false other)
bar_kept comm size (WriteRelease c to place value last) rec other = absurd (true≢false other)
bar_kept comm size (LookRelease c value) rec other = absurd (true≢false other)
bar_kept comm size (StoreHeap place value) rec other = refl
bar_kept comm size NoMove rec other = refl
bar_kept comm size Misplaced rec other = refl

pub idle_told : (st : Stage) → is_idle st ≡ true → st ≡ Idle
idle_told Idle is = refl
idle_told (Drafting header chunk) is = absurd (true≢false (sym is))
idle_told (Sending to part message chunk) is = absurd (true≢false (sym is))
idle_told (Between from message) is = absurd (true≢false (sym is))
idle_told (Taking from message chunk) is = absurd (true≢false (sym is))
idle_told (Barrier c seen released) is = absurd (true≢false (sym is))

-- the counts after a look at the member at a place
abbrev pub saw_bar : ℕ → ℕ → ℕ → Option Counts → Option Counts
saw_bar place value v None = None
saw_bar place value v (Some x) = if (place == suc x.seen) && (value == v) then Some (record { seen = suc x.seen; released = x.released }) else Some x

-- the barrier after a look at the own release flag
abbrev pub left_bar : ℕ → ℕ → Option Counts → Option Counts
left_bar value v None = None
left_bar value v (Some x) = if value == v then None else Some x

pub look_gather-bar : (comm place value v : ℕ) (st : Stage) → bar_at comm (look_gather comm place value v st) ≡ saw_bar place value v (bar_at comm st)
look_gather-bar comm place value v Idle = refl
look_gather-bar comm place value v (Drafting header chunk) = refl
look_gather-bar comm place value v (Sending to part message chunk) = refl
look_gather-bar comm place value v (Between from message) = refl
look_gather-bar comm place value v (Taking from message chunk) = refl
look_gather-bar comm place value v (Barrier c seen released) = by_comm (c == comm) refl
  where
    by_look : (d : Bool) → (c == comm) ≡ true → bar_at comm (if d then Barrier c (suc seen) released else Barrier c seen released) ≡ (if d then Some (record { seen = suc seen; released = released }) else Some (record { seen = seen; released = released }))
    by_look true is = ap (λ (b : Bool). if b then Some (record { seen = suc seen; released = released }) else None) is
    by_look false is = ap (λ (b : Bool). if b then Some (record { seen = seen; released = released }) else None) is

    by_comm : (b : Bool) → (c == comm) ≡ b → bar_at comm (look_gather comm place value v (Barrier c seen released)) ≡ saw_bar place value v (bar_at comm (Barrier c seen released))
    by_comm true is =
        ap (λ (b : Bool). bar_at comm (if b && ((place == suc seen) && (value == v)) then Barrier c (suc seen) released else Barrier c seen released)) is
        ∙ by_look ((place == suc seen) && (value == v)) is
        ∙ sym (ap (λ (b : Bool). saw_bar place value v (if b then Some (record { seen = seen; released = released }) else None)) is)
    by_comm false is =
        ap (λ (b : Bool). bar_at comm (if b && ((place == suc seen) && (value == v)) then Barrier c (suc seen) released else Barrier c seen released)) is
        ∙ ap (λ (b : Bool). if b then Some (record { seen = seen; released = released }) else None) is
        ∙ sym (ap (λ (b : Bool). saw_bar place value v (if b then Some (record { seen = seen; released = released }) else None)) is)

-- a barrier of one communicator is none of another
closed_at : (other comm c : ℕ) → other ≢ comm → (c == comm) ≡ true → (seen released : ℕ) → bar_at other (Barrier c seen released) ≡ None
closed_at other comm c apart is seen released =
    let closed : (c == other) ≡ false = grind (arith, nat_tests) in
    ap (λ (b : Bool). if b then Some (record { seen = seen; released = released }) else None) closed

pub look_gather-other : (comm other place value v : ℕ) (st : Stage) → other ≢ comm → bar_at other (look_gather comm place value v st) ≡ bar_at other st
look_gather-other comm other place value v Idle apart = refl
look_gather-other comm other place value v (Drafting header chunk) apart = refl
look_gather-other comm other place value v (Sending to part message chunk) apart = refl
look_gather-other comm other place value v (Between from message) apart = refl
look_gather-other comm other place value v (Taking from message chunk) apart = refl
look_gather-other comm other place value v (Barrier c seen released) apart = by_comm (c == comm) refl
  where
    by_comm : (b : Bool) → (c == comm) ≡ b → bar_at other (look_gather comm place value v (Barrier c seen released)) ≡ bar_at other (Barrier c seen released)
    by_comm true is =
        either_bar other None ((c == comm) && ((place == suc seen) && (value == v))) (Barrier c (suc seen) released) (Barrier c seen released)
        (closed_at other comm c apart is (suc seen) released) (closed_at other comm c apart is seen released)
        ∙ sym (closed_at other comm c apart is seen released)
    by_comm false is = ap (λ (b : Bool). bar_at other (if b && ((place == suc seen) && (value == v)) then Barrier c (suc seen) released else Barrier c seen released)) is

pub look_release-bar : (comm value v : ℕ) (st : Stage) → bar_at comm (look_release comm value v st) ≡ left_bar value v (bar_at comm st)
look_release-bar comm value v Idle = refl
look_release-bar comm value v (Drafting header chunk) = refl
look_release-bar comm value v (Sending to part message chunk) = refl
look_release-bar comm value v (Between from message) = refl
look_release-bar comm value v (Taking from message chunk) = refl
look_release-bar comm value v (Barrier c seen released) = by_comm (c == comm) refl
  where
    by_look : (d : Bool) → (c == comm) ≡ true → bar_at comm (if d then Idle else Barrier c seen released) ≡ (if d then None else Some (record { seen = seen; released = released }))
    by_look true is = refl
    by_look false is = ap (λ (b : Bool). if b then Some (record { seen = seen; released = released }) else None) is

    by_comm : (b : Bool) → (c == comm) ≡ b → bar_at comm (look_release comm value v (Barrier c seen released)) ≡ left_bar value v (bar_at comm (Barrier c seen released))
    by_comm true is =
        ap (λ (b : Bool). bar_at comm (if b && (value == v) then Idle else Barrier c seen released)) is
        ∙ by_look (value == v) is
        ∙ sym (ap (λ (b : Bool). left_bar value v (if b then Some (record { seen = seen; released = released }) else None)) is)
    by_comm false is =
        ap (λ (b : Bool). bar_at comm (if b && (value == v) then Idle else Barrier c seen released)) is
        ∙ ap (λ (b : Bool). if b then Some (record { seen = seen; released = released }) else None) is
        ∙ sym (ap (λ (b : Bool). left_bar value v (if b then Some (record { seen = seen; released = released }) else None)) is)

pub look_release-other : (comm other value v : ℕ) (st : Stage) → other ≢ comm → bar_at other (look_release comm value v st) ≡ bar_at other st
look_release-other comm other value v Idle apart = refl
look_release-other comm other value v (Drafting header chunk) apart = refl
look_release-other comm other value v (Sending to part message chunk) apart = refl
look_release-other comm other value v (Between from message) apart = refl
look_release-other comm other value v (Taking from message chunk) apart = refl
look_release-other comm other value v (Barrier c seen released) apart = by_comm (c == comm) refl
  where
    by_comm : (b : Bool) → (c == comm) ≡ b → bar_at other (look_release comm value v (Barrier c seen released)) ≡ bar_at other (Barrier c seen released)
    by_comm true is =
        either_bar other None ((c == comm) && (value == v)) Idle (Barrier c seen released) refl (closed_at other comm c apart is seen released)
        ∙ sym (closed_at other comm c apart is seen released)
    by_comm false is = ap (λ (b : Bool). bar_at other (if b && (value == v) then Idle else Barrier c seen released)) is

-- what a permitted release tells of the root
pub record Releases (comm place value last v : ℕ) (old new : Stage) : Type 0 where
  pub counts : Counts
  pub bar : bar_at comm old ≡ Some counts
  pub all : counts.seen ≡ last
  pub at : place ≡ suc counts.released
  pub shows : value ≡ v
  pub after : bar_at comm new ≡ released_bar last counts
  pub others : (other : ℕ) → other ≢ comm → bar_at other new ≡ bar_at other old

pub may_release_told : (comm place value last v : ℕ) (st : Stage) → may_release comm place value last v st ≡ true → Releases comm place value last v st (write_release last st)
may_release_told comm place value last v Idle may = absurd (true≢false (sym may))
may_release_told comm place value last v (Drafting header chunk) may = absurd (true≢false (sym may))
may_release_told comm place value last v (Sending to part message chunk) may = absurd (true≢false (sym may))
may_release_told comm place value last v (Between from message) may = absurd (true≢false (sym may))
may_release_told comm place value last v (Taking from message chunk) may = absurd (true≢false (sym may))
may_release_told comm place value last v (Barrier c seen released) may = record {
  counts = record { seen = seen; released = released };
  bar = ap (λ (b : Bool). if b then Some (record { seen = seen; released = released }) else None) here;
  all = grind (arith, nat_tests);
  at = grind (arith, nat_tests);
  shows = grind (arith, nat_tests);
  after = by_last (suc released == last);
  others = λ other apart.
      either_bar other None (suc released == last) Idle (Barrier c seen (suc released)) refl (closed_at other comm c apart here seen (suc released))
      ∙ sym (closed_at other comm c apart here seen released);
}
  where
    here : (c == comm) ≡ true
    here = grind (arith, nat_tests)

    by_last : (b : Bool) → bar_at comm (if b then Idle else Barrier c seen (suc released)) ≡ (if b then None else Some (record { seen = seen; released = suc released }))
    by_last true = refl
    by_last false = ap (λ (b : Bool). if b then Some (record { seen = seen; released = suc released }) else None) here

-- the barrier of a flip
pub flip_gather-bar : (comm last : ℕ) → bar_at comm (flip_gather comm last Idle) ≡ (if last == 0 then None else Some (record { seen = 0; released = 0 }))
flip_gather-bar comm last = by_last (last == 0)
  where
    here : (comm == comm) ≡ true
    here = grind (arith, nat_tests)

    by_last : (b : Bool) → bar_at comm (if b then Idle else Barrier comm 0 0) ≡ (if b then None else Some (record { seen = 0; released = 0 }))
    by_last true = refl
    by_last false = ap (λ (b : Bool). if b then Some (record { seen = 0; released = 0 }) else None) here

pub flip_gather-other : (comm other last : ℕ) → other ≢ comm → bar_at other (flip_gather comm last Idle) ≡ None
flip_gather-other comm other last apart =
    either_bar other None (last == 0) Idle (Barrier comm 0 0) refl (closed_at other comm comm apart (grind (arith, nat_tests)) 0 0)
