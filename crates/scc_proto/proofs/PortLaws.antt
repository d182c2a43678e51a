-- Runs of events that a port makes: none, one after another, and the record after them.
use Rattle.std.proofs.Common.{◌≡◌, ℕ, List, [], ◌∷◌, ◌++◌, refl, sym, ◌∙◌, ap, subst, append_assoc, append-nil}
use Rattle.scc_base.specs.Setups.{SetupView}
use Rattle.scc_base.specs.declared.events.Event.{Event}
use Rattle.scc_proto.specs.Stages.{Record, blank}
use Rattle.scc_proto.specs.Records.{record_after, record_from, record_of}
use Rattle.scc_proto.specs.Ports.{Seat, Sight, record_in, record_next, and_then, MayMakeAll, WereMade, record_on, Did}

pub record_from-append : (s : SetupView) (me : ℕ) (rec : Record) (a b : List Event) → record_from s me rec (a ++ b) ≡ record_from s me (record_from s me rec a) b
record_from-append s me rec [] b = refl
record_from-append s me rec (e ∷ a) b = record_from-append s me (record_after s me rec e) a b

pub record_of-push : (s : SetupView) (me : ℕ) (events : List Event) (e : Event) → record_of s me (events ++ e ∷ []) ≡ record_after s me (record_of s me events) e
unfolding record_of
record_of-push s me events e = record_from-append s me blank events (e ∷ [])

pub record_of-nil : (s : SetupView) (me : ℕ) → record_of s me [] ≡ blank
unfolding record_of
record_of-nil s me = refl

record_on-from : (seat : Seat) (rec : Record) (es : List Event) → record_on seat rec es ≡ record_from seat.setup seat.rank rec es
unfolding record_next
record_on-from seat rec [] = refl
record_on-from seat rec (e ∷ es) = record_on-from seat (record_next seat rec e) es

pub record_on-append : (seat : Seat) (rec : Record) (a b : List Event) → record_on seat rec (a ++ b) ≡ record_on seat (record_on seat rec a) b
record_on-append seat rec [] b = refl
record_on-append seat rec (e ∷ a) b = record_on-append seat (record_next seat rec e) a b

-- the record of a port after more events
pub record_in-and_then : (old : Sight) (es : List Event) → record_in (and_then old es) ≡ record_on old.seat (record_in old) es
unfolding record_in record_of
record_in-and_then old es = record_from-append old.seat.setup old.seat.rank blank old.events es ∙ sym (record_on-from old.seat (record_in old) es)

pub record_did : (old : Sight) (es : List Event) (new : Sight) → Did old es new → record_in new ≡ record_on old.seat (record_in old) es
record_did old es new did = ap (λ (x : Sight). record_in x) did.continues ∙ record_in-and_then old es

pub record_did_one : (old : Sight) (e : Event) (new : Sight) → Did old (e ∷ []) new → record_in new ≡ record_next old.seat (record_in old) e
record_did_one old e new did = record_did old (e ∷ []) new did

pub seat_kept : (old : Sight) (es : List Event) (new : Sight) → Did old es new → new.seat ≡ old.seat
seat_kept old es new did = ap (λ (x : Sight). x.seat) did.continues

pub events_did : (old : Sight) (es : List Event) (new : Sight) → Did old es new → new.events ≡ old.events ++ es
events_did old es new did = ap (λ (x : Sight). x.events) did.continues

pub made-append : (seat : Seat) (rec : Record) (a b : List Event) → WereMade seat rec a → WereMade seat (record_on seat rec a) b → WereMade seat rec (a ++ b)
made-append seat rec [] b first then = then
made-append seat rec (e ∷ a) b first then = (first.0, made-append seat (record_next seat rec e) a b first.1 then)

pub made_front : (seat : Seat) (rec : Record) (a b : List Event) → WereMade seat rec (a ++ b) → WereMade seat rec a
made_front seat rec [] b made = tt
made_front seat rec (e ∷ a) b made = (made.0, made_front seat (record_next seat rec e) a b made.1)

pub made_left : (seat : Seat) (rec : Record) (a b : List Event) → WereMade seat rec (a ++ b) → WereMade seat (record_on seat rec a) b
made_left seat rec [] b made = made
made_left seat rec (e ∷ a) b made = made_left seat (record_next seat rec e) a b made.1

pub may-append : (seat : Seat) (rec : Record) (a b : List Event) → MayMakeAll seat rec a → MayMakeAll seat (record_on seat rec a) b → MayMakeAll seat rec (a ++ b)
may-append seat rec [] b first then = then
may-append seat rec (e ∷ a) b first then = (first.0, may-append seat (record_next seat rec e) a b first.1 then)

pub may_front : (seat : Seat) (rec : Record) (a b : List Event) → MayMakeAll seat rec (a ++ b) → MayMakeAll seat rec a
may_front seat rec [] b may = tt
may_front seat rec (e ∷ a) b may = (may.0, may_front seat (record_next seat rec e) a b may.1)

pub may_left : (seat : Seat) (rec : Record) (a b : List Event) → MayMakeAll seat rec (a ++ b) → MayMakeAll seat (record_on seat rec a) b
may_left seat rec [] b may = may
may_left seat rec (e ∷ a) b may = may_left seat (record_next seat rec e) a b may.1

-- no call was made
pub did_nothing : (old : Sight) → Did old [] old
did_nothing old = record { continues = λ i. record old { events = sym (append-nil old.events) i }; made = tt }

-- one run of events after another
pub did_both : (old : Sight) (a : List Event) (mid : Sight) (b : List Event) (new : Sight) → Did old a mid → Did mid b new → Did old (a ++ b) new
did_both old a mid b new first then = record {
  continues = then.continues ∙ (λ i. and_then (first.continues i) b) ∙ (λ i. record old { events = append_assoc old.events a b i });
  made = made-append old.seat (record_in old) a b first.made
      (subst (λ (x : Record). WereMade old.seat x b) (record_did old a mid first) (subst (λ (x : Seat). WereMade x (record_in mid) b) (seat_kept old a mid first) then.made));
}

-- what may still be made after a part of it was
pub may_next : (old : Sight) (a b : List Event) (mid : Sight) → Did old a mid → MayMakeAll old.seat (record_in old) (a ++ b) → MayMakeAll mid.seat (record_in mid) b
may_next old a b mid first may = subst (λ (x : Seat). MayMakeAll x (record_in mid) b) (sym (seat_kept old a mid first))
    (subst (λ (x : Record). MayMakeAll old.seat x b) (sym (record_did old a mid first)) (may_left old.seat (record_in old) a b may))
