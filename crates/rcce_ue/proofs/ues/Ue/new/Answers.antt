use Rattle.std.proofs.Common.{◌≡◌, ◌≤◌, ◌<◌, ◌+◌, ℕ, None, refl, sym, ap, ◌∙◌, subst, arith}
use Rattle.put_get.specs.Cores.{Private}
use Rattle.script_machine.specs.Local.{local_next, local_start}
use Rattle.script_machine.specs.Machine.{MachineView}
use Rattle.script_machine.specs.Next.{call_next}
use Rattle.rcce_ue.specs.Bounds.{bounds_of, visits}
use Rattle.rcce_ue.specs.Left.{ue_left}
use Rattle.rcce_ue.specs.Standing.{Tied}
use Rattle.rcce_ue.specs.Ues.{IsBegun, UeView, open_for}
use Rattle.rcce_ue.proofs.StartLemmas.{IsFresh, start_left, start_tied}
use Rattle.rcce_ue.proofs.ues.Ue.new.Goals as goal

pub returns-clause-tied : goal.returns-clause-tied
returns-clause-tied g c =
    let m : MachineView = record { script = c.args.scripts.now; setup = c.args.setup; rank = c.args.rank; local = local_start c.args.scripts.now c.args.rank } in
    let b : UeView = record { machine = m; core = c.new-2.result; slot = c.new-3.result; parity = c.new-4.result; op = c.begin-op.result; inbox = c.in_ok-inbox.inbox.items; posted = None; sent = 0; sent_bytes = 0 } in
    let begun : IsBegun m = record { whole = c.acceptance_law.ensures.whole; ranks = c.requires.ranks; comms = c.requires.communicators; within = subst (λ (n : ℕ). c.args.rank < n) c.requires.ranks c.requires.within } in
    let fresh : IsFresh b = record { begun = begun; start = refl; empty = ap (λ (x : Private). x.out) c.new-2.ensures; slot = c.new-3.ensures.empty; unset = c.new-4.ensures.unset; room = omega (arith, c.in_ok-inbox.ensures.len, c.in_ok-inbox.inbox.ok.0); posted = refl; sent = refl; bytes = refl } in
    let made : m ≡ c.in_ok-machine.machine = sym c.in_ok-machine.ensures in
    let opens : open_for (call_next (local_next m.local)) ≡ c.begin-op.result = sym (c.begin-op.ensures ∙ ap open_for (c.call.ensures ∙ ap (λ (x : MachineView). call_next (local_next x.local)) c.in_ok-machine.ensures)) in
    λ s setup rank none. subst (λ (x : UeView). Tied x s) (λ i. record b { machine = made i; op = opens i }) (start_tied b fresh s none setup rank)

pub returns-clause-left : goal.returns-clause-left
returns-clause-left g c =
    let m : MachineView = record { script = c.args.scripts.now; setup = c.args.setup; rank = c.args.rank; local = local_start c.args.scripts.now c.args.rank } in
    let b : UeView = record { machine = m; core = c.new-2.result; slot = c.new-3.result; parity = c.new-4.result; op = c.begin-op.result; inbox = c.in_ok-inbox.inbox.items; posted = None; sent = 0; sent_bytes = 0 } in
    let begun : IsBegun m = record { whole = c.acceptance_law.ensures.whole; ranks = c.requires.ranks; comms = c.requires.communicators; within = subst (λ (n : ℕ). c.args.rank < n) c.requires.ranks c.requires.within } in
    let fresh : IsFresh b = record { begun = begun; start = refl; empty = ap (λ (x : Private). x.out) c.new-2.ensures; slot = c.new-3.ensures.empty; unset = c.new-4.ensures.unset; room = omega (arith, c.in_ok-inbox.ensures.len, c.in_ok-inbox.inbox.ok.0); posted = refl; sent = refl; bytes = refl } in
    let made : m ≡ c.in_ok-machine.machine = sym c.in_ok-machine.ensures in
    let opens : open_for (call_next (local_next m.local)) ≡ c.begin-op.result = sym (c.begin-op.ensures ∙ ap open_for (c.call.ensures ∙ ap (λ (x : MachineView). call_next (local_next x.local)) c.in_ok-machine.ensures)) in
    subst (λ (x : UeView). ue_left x ≤ visits m.script m.rank + bounds_of m.setup m.script m.rank) (λ i. record b { machine = made i; op = opens i }) (start_left b fresh)

pub returns-clause-evictor : goal.returns-clause-evictor
returns-clause-evictor g c = ap (λ (x : Private). x.answers) c.new-2.ensures
