-- A run of the code from the start comes to the plain end.
use Rattle.std.proofs.Common.{◌≡◌, List, Option, None, replicate, ap, ◌∙◌, sum_by}
use Rattle.scc_base.specs.Communicators.{key_of}
use Rattle.scc_base.specs.declared.communicators.CommRule.{CommRule}
use Rattle.script_rules.specs.Script.{Script, rules_of}
use Rattle.script_plain.specs.Code.{config}
use Rattle.script_machine.specs.declared.posts.Posted.{Posted}
use Rattle.script_machine.specs.Local.{Local, local_next, most_steps_left}
use Rattle.plain_meaning.specs.Step.{run_on}
use Rattle.plain_meaning.specs.Meaning.{keys_of, plain_end, start_of, locals_of, seen_of}
use Rattle.plain_meaning.proofs.Runs.PlainLaws.{seen_of-plain_end}

-- what the ranks hold at the end comes of a run whose groups, ranks and slots are those of the start
pub run_from_start : (script : Script) (comms : List CommRule) (us : List Local) (slots : List (Option Posted)) → comms ≡ rules_of script.items → us ≡ locals_of (start_of script) → slots ≡ replicate script.nue None
    → run_on (key_of comms) local_next (sum_by most_steps_left us) (config us slots) ≡ seen_of (plain_end script)
run_from_start script comms us slots rules cells empty =
    let start = locals_of (start_of script) in
    ap (λ (cs : List CommRule). run_on (key_of cs) local_next (sum_by most_steps_left us) (config us slots)) rules
    ∙ ap (λ (ls : List Local). run_on (keys_of script) local_next (sum_by most_steps_left ls) (config ls slots)) cells
    ∙ ap (λ (ss : List (Option Posted)). run_on (keys_of script) local_next (sum_by most_steps_left start) (config start ss)) empty
    ∙ seen_of-plain_end script
