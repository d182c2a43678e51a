use Rattle.std.proofs.Common.{◌≡◌, ◌∙◌, List, Option, None, ap, length, replicate, sum_by}
use Rattle.scc_base.specs.Communicators.{key_of}
use Rattle.scc_base.specs.declared.communicators.CommRule.{CommRule}
use Rattle.script_plain.specs.Code.{config}
use Rattle.script_machine.specs.Local.{Local, most_steps_left, local_next, statement_line}
use Rattle.script_plain.specs.Matches.{matches_on}
use Rattle.plain_meaning.specs.Meaning.{ends_at, keys_of, locals_of, plain_end, seen_of, start_of}
use Rattle.script_machine.specs.declared.posts.Posted.{Posted}
use Rattle.script_plain.proofs.MatchLaws.{seen_matches}
use Rattle.plain_meaning.proofs.Messages.RestLaws.{ends_length}
use Rattle.plain_meaning.proofs.Runs.PlainLaws.{length-plain_end}
use Rattle.script_plain.proofs.StartLaws.{run_from_start}
use Rattle.script_plain.proofs.matches.plain_history.Goals as goal

pub history_of-requires : goal.history_of-requires
history_of-requires c =
    record {
      run = record {
        ranks = ap length c.deref_mut.ensures.value ∙ c.in_ok-ues.ensures.run.ranks;
        slotted = ap length c.deref_mut-2.ensures.value ∙ c.in_ok-ues.ensures.run.slotted;
        sixteen = c.in_ok-ues.ensures.run.sixteen;
      };
    }

pub returns-clause-matches : goal.returns-clause-matches
returns-clause-matches c =
    let script = c.args.scripts.now in
    let start = locals_of (start_of script) in
    let slots : c.deref_mut-2.result.now ≡ replicate script.nue None = c.deref_mut-2.ensures.value ∙ c.in_ok-ues.ensures.slots in
    c.in_ok-history.ensures.matches
    ∙ ap (λ (comms : List CommRule). matches_on (key_of comms) local_next statement_line (sum_by most_steps_left c.deref_mut.result.now) (config c.deref_mut.result.now c.deref_mut-2.result.now)) c.setup_of-setup.ensures.communicators
    ∙ ap (λ (us : List Local). matches_on (keys_of script) local_next statement_line (sum_by most_steps_left us) (config us c.deref_mut-2.result.now)) (c.deref_mut.ensures.value ∙ c.in_ok-ues.ensures.cells)
    ∙ ap (λ (ss : List (Option Posted)). matches_on (keys_of script) local_next statement_line (sum_by most_steps_left start) (config start ss)) slots
    ∙ seen_matches script

pub returns-clause-end : goal.returns-clause-end
returns-clause-end c =
    c.in_ok-history.ensures.end
    ∙ ap ends_at (run_from_start c.args.scripts.now _ c.deref_mut.result.now c.deref_mut-2.result.now c.setup_of-setup.ensures.communicators
    (c.deref_mut.ensures.value ∙ c.in_ok-ues.ensures.cells) (c.deref_mut-2.ensures.value ∙ c.in_ok-ues.ensures.slots))

pub returns-clause-ranks : goal.returns-clause-ranks
returns-clause-ranks c = ap length (returns-clause-end c) ∙ ends_length (seen_of (plain_end c.args.scripts.now)) ∙ length-plain_end c.args.scripts.now
