use Rattle.std.proofs.Common.{◌≡◌, Result, Option, sym, subst}
use Rattle.scc_base.specs.declared.calls.Call.{Call}
use Rattle.scc_base.specs.declared.events.Access.{Access}
use Rattle.scc_base.specs.declared.events.Event.{Event}
use Rattle.rank_monitor.specs.Following.{Takes, event_of}
use Rattle.rank_monitor.specs.declared.monitors.RankMonitor.{RankMonitor}
use Rattle.rank_monitor.specs.declared.monitors.Refused.{Refused}
use Rattle.rank_monitor.proofs.monitors.RankMonitor.take.Goals as goal

-- what a monitor has taken by its access, it has taken as the event
taken_as : {old new : RankMonitor} {e : Event} {access : Access} {answer : Result (Option Call) Refused} → e.access ≡ access
    → Takes old (event_of access e.place e.value) new answer → Takes old e new answer
taken_as {old} {new} {e} {access} {answer} is takes = subst (λ (a : Access). Takes old (event_of a e.place e.value) new answer) (sym is) takes

pub returns-in-Load : goal.returns-in-Load
returns-in-Load c = let t = taken_as c.in-Load.is c.load.ensures.takes in
    record { same = (t.setup, t.rank); permitted = t.permitted; follows = t.follows; finishes = t.finishes; unchanged = c.load.ensures.unchanged }

pub returns-in-Store : goal.returns-in-Store
returns-in-Store c = let t = taken_as c.in-Store.is c.store.ensures.takes in
    record { same = (t.setup, t.rank); permitted = t.permitted; follows = t.follows; finishes = t.finishes; unchanged = c.store.ensures.unchanged }

pub returns-in-Take : goal.returns-in-Take
returns-in-Take c = let t = taken_as c.in-Take.is c.hold.ensures.takes in
    record { same = (t.setup, t.rank); permitted = t.permitted; follows = t.follows; finishes = t.finishes; unchanged = c.hold.ensures.unchanged }

pub returns-in-Free : goal.returns-in-Free
returns-in-Free c = let t = taken_as c.in-Free.is c.free.ensures.takes in
    record { same = (t.setup, t.rank); permitted = t.permitted; follows = t.follows; finishes = t.finishes; unchanged = c.free.ensures.unchanged }
