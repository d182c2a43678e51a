-- The units of execution of a run at its end.
use Rattle.std.proofs.Common.{◌≡◌, ℕ, ◌<◌, List, length, refl, sym, subst, ap, ◌∙◌, arith, slice_index_or, Option, Some, None}
use Rattle.script_rules.specs.Script.{Script}
use Rattle.plain_meaning.specs.Ends.{all_finished, ended_at}
use Rattle.plain_meaning.specs.Meaning.{plain_ends}
use Rattle.rcce_run.specs.Crews.{EndsAs}
use Rattle.rcce_ue.specs.Ues.{UeView}
use Rattle.run_program.specs.Reports.{lines_by_rank, ran_by, unfinished_text}
use Rattle.rcce_run.proofs.FinishedLaws.{plain_count}
use Rattle.chip_run.specs.Waiting.{NoneDrafts}
use Rattle.rcce_run.specs.Sent.{CountsSends}
use Rattle.rcce_run.specs.UeRuns.{AreHome, HasPlainCalls, IsSameChip, ShowsEnd, WaitsOpen}
use Rattle.chip_run.specs.declared.ends.RunEnd.{RunEnd}
use Rattle.scc_base.specs.Calls.{DataCall}
use Rattle.scc_proto.specs.Passed.{open_call}
use Rattle.chip_run.specs.declared.members.Member.{Member}
use Rattle.scc_mesh.specs.Scenes.{ChipView, IsNew, about_in, records_in}
use Rattle.run_program.specs.History.{Asked, WasRun}
use Rattle.run_program.specs.Runs.{HaveEnded, IsOver}
use Rattle.run_program.proofs.SentLemmas.{counts_plain}

module _ (script view : Script) (same : script ≡ view) (crew : List (Member UeView)) (ended : HaveEnded script crew) where
  -- as many units of execution as ends
  pub crew_count : length crew ≡ length (plain_ends view)
  crew_count = ended.count ∙ ap (λ (s : Script). s.nue) same ∙ sym (plain_count view)

  -- the unit of execution of a rank has come to what the plain meaning leaves of it
  pub ue_ended : (rank number : ℕ) (member : Member UeView) → number ≡ rank → rank < length (plain_ends view) → member ≡ slice_index_or crew number member
      → ShowsEnd (ended_at (plain_ends view) rank) member.worker
  ue_ended rank number member named below is =
      let low : number < script.nue = omega (arith, ended.count, crew_count, named, below) in
      let here : ShowsEnd (ended_at (plain_ends script) number) member.worker =
      subst (λ (m : Member UeView). ShowsEnd (ended_at (plain_ends script) number) m.worker) (sym is) (ended.each number member low) in
      subst (λ (s : Script). ShowsEnd (ended_at (plain_ends s) rank) member.worker) same (subst (λ (r : ℕ). ShowsEnd (ended_at (plain_ends script) r) member.worker) named here)

-- however the script came, the run finished where all ranks have, and tells where those stand that have not
pub ran_finished : (script : Script) (seed : Option ℕ) → (ran_by script seed).finished ≡ all_finished (plain_ends script)
ran_finished script None = refl
ran_finished script (Some seed) = refl

pub ran_err : (script : Script) (seed : Option ℕ) → (ran_by script seed).err ≡ lines_by_rank unfinished_text 0 (plain_ends script)
ran_err script None = refl
ran_err script (Some seed) = refl

-- what a run of such a crew leaves
pub run_over : (asked : Asked) (chip now : ChipView) (crew later : List (Member UeView)) (end : RunEnd) → asked.setup.nue ≡ asked.script.nue → IsNew asked.setup chip → length crew ≡ asked.setup.nue
    → IsSameChip chip now → AreHome crew later → EndsAs end asked.script
    → ((k : ℕ) (d : Member UeView) → k < asked.script.nue → ShowsEnd (ended_at (plain_ends asked.script) k) (slice_index_or later k d).worker)
    → ((k : ℕ) → k < asked.script.nue → HasPlainCalls asked.script k (records_in now k))
    → ((k : ℕ) (d : Member UeView) → k < asked.script.nue → CountsSends asked.script k (records_in now k) (slice_index_or later k d).worker)
    → ((k : ℕ) (call : DataCall) → k < asked.script.nue → open_call (about_in now) (records_in now k) ≡ Some call → WaitsOpen asked.script k call)
    → NoneDrafts (about_in now) (records_in now) → WasRun asked now
    → IsOver asked now later end
run_over asked chip now crew later end ranks new each stands home answer ends calls sent opened no_draft turns = record {
  ended = record { count = home.count ∙ each ∙ ranks; each = ends };
  sent = record {
    count = home.count ∙ each ∙ ranks;
    each = λ k d low. counts_plain asked.script k (records_in now k) (slice_index_or later k d).worker (calls k low) (sent k d low);
  };
  answer = answer;
  history = record { setup = stands.about ∙ new.about; whole = stands.whole; finished = calls; opened = opened; no_draft = no_draft; turns = turns };
}
