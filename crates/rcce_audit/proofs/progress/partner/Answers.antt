use Rattle.std.proofs.Common.{◌∙◌, ◌∷◌, ◌+◌, ℕ, ap, option_map, sym, drop, slice_index}
use Rattle.scc_base.specs.Groups.{root_in}
use Rattle.scc_base.specs.Setups.{setup_key}
use Rattle.rcce_audit.specs.declared.logs.LogCall.{LogCall}
use Rattle.rcce_audit.specs.Logs.{calls_at_rank}
use Rattle.rcce_audit.specs.Standings.{partner_of}
use Rattle.rcce_audit.specs.Views.{data_lists, data_of}
use Rattle.rcce_audit.proofs.StandingLemmas.{partner_at, partner_none}
use Rattle.rcce_audit.proofs.progress.partner.Goals as goal

pub returns-in-Some-Send-clause-gives : goal.returns-in-Some-Send-clause-gives
returns-in-Some-Send-clause-gives c =
    let keys = setup_key c.args.setup.now in
    let calls = calls_at_rank (data_lists c.args.lists.now) c.args.rank in
    let n = slice_index c.args.progress.now.next c.args.rank in
    sym (partner_at keys c.args.rank calls n _ (sym c.in-Some-Send.ensures) ∙ ap (λ (x : LogCall). partner_of keys c.args.rank (data_of x ∷ drop (n + 1) calls)) c.in-Some-Send.field-0-is)

pub returns-in-Some-Recv-clause-gives : goal.returns-in-Some-Recv-clause-gives
returns-in-Some-Recv-clause-gives c =
    let keys = setup_key c.args.setup.now in
    let calls = calls_at_rank (data_lists c.args.lists.now) c.args.rank in
    let n = slice_index c.args.progress.now.next c.args.rank in
    c.number.ensures.gives ∙ sym (partner_at keys c.args.rank calls n _ (sym c.in-Some-Recv.ensures) ∙ ap (λ (x : LogCall). partner_of keys c.args.rank (data_of x ∷ drop (n + 1) calls)) c.in-Some-Recv.field-0-is)

pub returns-in-Some-Post-clause-gives : goal.returns-in-Some-Post-clause-gives
returns-in-Some-Post-clause-gives c =
    let keys = setup_key c.args.setup.now in
    let calls = calls_at_rank (data_lists c.args.lists.now) c.args.rank in
    let n = slice_index c.args.progress.now.next c.args.rank in
    sym (partner_at keys c.args.rank calls n _ (sym c.in-Some-Post.ensures) ∙ ap (λ (x : LogCall). partner_of keys c.args.rank (data_of x ∷ drop (n + 1) calls)) c.in-Some-Post.field-0-is)

pub returns-in-Some-Bar-clause-gives : goal.returns-in-Some-Bar-clause-gives
returns-in-Some-Bar-clause-gives c =
    let keys = setup_key c.args.setup.now in
    let calls = calls_at_rank (data_lists c.args.lists.now) c.args.rank in
    let n = slice_index c.args.progress.now.next c.args.rank in
    c.number-in-Some-Bar.ensures.gives ∙ c.root.ensures.gives ∙ ap (λ (r : ℕ). root_in (keys c.in-Some-Bar.comm) r) c.of.ensures.gives ∙ sym (partner_at keys c.args.rank calls n _ (sym c.in-Some-Bar.ensures) ∙ ap (λ (x : LogCall). partner_of keys c.args.rank (data_of x ∷ drop (n + 1) calls)) c.in-Some-Bar.field-0-is)

pub returns-in-None-clause-gives : goal.returns-in-None-clause-gives
returns-in-None-clause-gives c =
    let none = sym (ap (option_map (λ call. data_of call.now)) c.in-None.is) ∙ c.first.ensures in
    sym (partner_none (setup_key c.args.setup.now) c.args.rank (calls_at_rank (data_lists c.args.lists.now) c.args.rank) (slice_index c.args.progress.now.next c.args.rank) (sym none))
