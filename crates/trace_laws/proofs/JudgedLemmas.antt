-- What a legal run has written is judged legal.
use Rattle.std.proofs.Common.{◌≡◌, ◌-◌, List, replicate, Result, Ok, Err, refl, ap, ◌∙◌, arith}
use Rattle.std.specs.Prelude.{IsOk}
use Rattle.std.proofs.lemmas.List.FromFn.{get_or-map-range_with_len, length-map-range_with_len}
use Rattle.scc_base.specs.Setups.{SetupView, host_of}
use Rattle.scc_proto.specs.Stages.{blank}
use Rattle.scc_proto.specs.Words.{RankEvent, zeros}
use Rattle.trace_judge.specs.Judged.{Judged, judged_by, new_judged}
use Rattle.trace_judge.specs.Rulings.{RefusedAt, ruling_from}
use Rattle.trace_judge.proofs.LegalLists.{chip_told, legal_from}
use Rattle.trace_writer.specs.Desks.{IsLegalRun}
use Rattle.trace_laws.specs.Told.{told_hosts, told_setup}
use Rattle.trace_laws.proofs.HeadLemmas.{cores_from, table_front}
use Rattle.trace_laws.proofs.LegalLemmas.{AreSame, permitted_same, records_same}

-- the cores that a trace tells are those of the ranks
told_same : (s : SetupView) → AreSame s (told_hosts s)
told_same s r below =
    let long = length-map-range_with_len (host_of s.hosts) 0 s.nue in
    table_front (cores_from s 0 s.nue) (replicate (48 - s.nue) 0) r (omega (arith, below, long))
    ∙ get_or-map-range_with_len (host_of s.hosts) 0 s.nue r r 0 below (omega arith)

pub legal_again : (s : SetupView) (run : List RankEvent) → IsLegalRun s run → IsLegalRun (told_setup s) run
legal_again s run legal = record { steps = legal.steps; permitted = permitted_same s (told_hosts s) (λ r. blank) run (told_same s) legal.permitted }

pub records_again : (s : SetupView) (run : List RankEvent) → (judged_by (told_setup s) run).records ≡ (judged_by s run).records
records_again s run = records_same s (told_hosts s) (λ r. blank) run (told_same s)

-- a list that is taken as a whole leaves the chip of the list
ruled : (s : SetupView) (run : List RankEvent) (ruling : Result Judged RefusedAt) → ruling_from 0 (new_judged s) run ≡ ruling → IsOk ruling → ruling_from 0 (new_judged s) run ≡ Ok (judged_by s run)
ruled s run (Ok j) is ok = is ∙ ap Ok (chip_told 0 s zeros (λ r. blank) run j is)
ruled s run (Err at) is ok = absurd (cc)

pub judged_again : (s : SetupView) (run : List RankEvent) → IsLegalRun s run → ruling_from 0 (new_judged (told_setup s)) run ≡ Ok (judged_by (told_setup s) run)
judged_again s run legal =
    let t = told_setup s in
    let again = legal_again s run legal in
    ruled t run (ruling_from 0 (new_judged t) run) refl (legal_from 0 t zeros (λ r. blank) run again.steps again.permitted)
