-- Events of a port that were steps of the chip's memory, one run of events after another.
use Rattle.std.proofs.Common.{◌≡◌, List, [], ◌∷◌, ◌++◌, refl, sym, ◌∙◌, ap, subst, append_assoc, append-nil}
use Rattle.std.proofs.lemmas.List.{append_cancel_left}
use Rattle.scc_base.specs.declared.events.Event.{Event}
use Rattle.scc_proto.specs.Stages.{Record}
use Rattle.scc_proto.specs.Ports.{Seat, Sight, Did, WereMade, and_then, record_in}
use Rattle.scc_proto.proofs.PortLaws.{did_nothing, did_both, events_did, made_front, made_left, record_did}
use Rattle.put_get.specs.Accesses.{WereSteps}
use Rattle.put_get.specs.Cores.{MadeSteps}

-- the events between two sights are the only ones
pub events_once : (s t : Sight) (a b : List Event) → Did s a t → Did s b t → a ≡ b
events_once s t a b x y = append_cancel_left s.events a b (sym (events_did s a t x) ∙ events_did s b t y)

pub made_steps : (stepped : Seat → List Event → Event → Type 0) (s t : Sight) (a : List Event) → Did s a t
    → WereSteps (stepped s.seat) s.events a → MadeSteps stepped s t
made_steps stepped s t a did steps = λ es x. subst (WereSteps (stepped s.seat) s.events) (events_once s t a es did x) steps

pub steps_none : (stepped : Seat → List Event → Event → Type 0) (s : Sight) → MadeSteps stepped s s
steps_none stepped s = made_steps stepped s s [] (did_nothing s) tt

pub steps_one : (stepped : Seat → List Event → Event → Type 0) (s t : Sight) (e : Event) → Did s (e ∷ []) t → stepped s.seat s.events e → MadeSteps stepped s t
steps_one stepped s t e did step = made_steps stepped s t (e ∷ []) did (step, tt)

were-append : (stepped : List Event → Event → Type 0) (before a b : List Event) → WereSteps stepped before a
    → WereSteps stepped (before ++ a) b → WereSteps stepped before (a ++ b)
were-append stepped before [] b x y = subst (λ es. WereSteps stepped es b) (append-nil before) y
were-append stepped before (e ∷ a) b x y =
    (x.0, were-append stepped (before ++ e ∷ []) a b x.1 (subst (λ es. WereSteps stepped es b) (sym (append_assoc before (e ∷ []) a)) y))

-- the seat after what a port did
seat_did : (s t : Sight) (a : List Event) → Did s a t → t.seat ≡ s.seat
seat_did s t a did = ap (λ (x : Sight). x.seat) did.continues

-- steps, and more steps behind them
pub steps_both : (stepped : Seat → List Event → Event → Type 0) (s m t : Sight) (a b : List Event) → Did s a m → Did m b t
    → MadeSteps stepped s m → MadeSteps stepped m t → MadeSteps stepped s t
steps_both stepped s m t a b x y first then =
    made_steps stepped s t (a ++ b) (did_both s a m b t x y)
    (were-append (stepped s.seat) s.events a b (first a x)
    (subst (λ (seat : Seat). WereSteps (stepped seat) (s.events ++ a) b) (seat_did s m a x)
    (subst (λ es. WereSteps (stepped m.seat) es b) (events_did s a m x) (then b y))))

-- the first part of what a port did, and the rest of it
pub did_front : (s : Sight) (a b : List Event) (t : Sight) → Did s (a ++ b) t → Did s a (and_then s a)
did_front s a b t did = record { continues = refl; made = made_front s.seat (record_in s) a b did.made }

pub did_left : (s : Sight) (a b : List Event) (t : Sight) → Did s (a ++ b) t → Did (and_then s a) b t
did_left s a b t did = record {
  continues = did.continues ∙ (λ i. record s { events = sym (append_assoc s.events a b) i });
  made = subst (λ (x : Record). WereMade s.seat x b) (sym (record_did s a (and_then s a) (did_front s a b t did))) (made_left s.seat (record_in s) a b did.made);
}
