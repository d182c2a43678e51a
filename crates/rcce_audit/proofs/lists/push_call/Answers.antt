use Rattle.std.proofs.Common.{◌≡◌, ◌∙◌, ◌∷◌, ◌++◌, ◌<◌, [], List, length, ap, sym, arith, set}
use Rattle.std.proofs.lemmas.List.{map-append}
use Rattle.scc_base.specs.Calls.{DataCall}
use Rattle.rcce_audit.specs.Views.{data_list, data_lists, data_of}
use Rattle.rcce_audit.proofs.ListLemmas.{get_or-map_within, map-set_one}
use Rattle.rcce_audit.proofs.lists.push_call.Goals as goal

pub returns-clause-gives : goal.returns-clause-gives
returns-clause-gives c =
    let items = c.args.lists.now.items in
    let grown : data_list c.push.new.self.items ≡ data_list c.index_mut-list.result.now.items ++ data_of c.args.call ∷ [] = ap data_list c.in_ok-push.ensures.items ∙ map-append data_of c.index_mut-list.result.now.items (c.args.call ∷ []) in
    let within : c.args.rank < length items = omega (arith, c.args.lists.now.ok.0) in
    let was = c.index_mut-list.ensures.value in
    let here = get_or-map_within (λ list. data_list list.items) items c.args.rank c.index_mut-list.result.now [] within in
    map-set_one (λ list. data_list list.items) items c.args.rank c.push.new.self
    ∙ ap (λ (l : List DataCall). set (data_lists items) c.args.rank l) (grown ∙ ap (λ (l : List DataCall). l ++ data_of c.args.call ∷ []) (ap (λ list. data_list list.items) was ∙ sym here))
