-- What an audit says of a log (this project's profile).
use Rattle.std.specs.Prelude.{◌≡◌, ◌≢◌, ℕ, ◌+◌, ◌<◌, List, [], ◌++◌, length, Option}
use Rattle.scc_base.specs.Calls.{DataCall}
use Rattle.scc_base.specs.Communicators.{key_of}
use Rattle.scc_base.specs.Runs.{Runs, EndsAt}
use Rattle.scc_proto.specs.Legality.{Outgoing, Standing, OwnStep, IsLegal, no_slots}
use Rattle.rcce_audit.specs.declared.verdicts.Verdict.{Verdict}
use Rattle.rcce_audit.specs.declared.verdicts.Verdict.TheVariants as verdict
use Rattle.rcce_audit.specs.Logs.{LogView, calls_at_rank}
use Rattle.rcce_audit.specs.Texts.{IsFileLog}

-- the calls of a log are legal: from empty slots the steps of legality use them up wholly. Slots may be full at the end
abbrev pub IsLegalLog : LogView → Type 0
IsLegalLog log = (slots : ℕ → Option Outgoing) × IsLegal log.nue (key_of log.comms) (calls_at_rank log.lists) slots

-- the steps of legality, taken from empty slots until nobody has one, come to this standing
abbrev pub EndsIn : LogView → Standing → Type 0
EndsIn log e =
    (n : ℕ) × Runs (OwnStep log.nue (key_of log.comms)) (EndsAt (OwnStep log.nue (key_of log.comms)) e) n (record {
      calls = calls_at_rank log.lists;
      slots = no_slots;
    })

-- at a standing, the lowest rank whose list is not used up, and its first call left, counted from 1
pub record IsFirstLeft (calls : ℕ → List DataCall) (e : Standing) (rank call : ℕ) : Type 0 where
  pub lower : (k : ℕ) → k < rank → e.calls k ≡ []
  pub left : e.calls rank ≢ []
  pub used : List DataCall
  pub whole : calls rank ≡ used ++ e.calls rank
  pub counted : call ≡ length used + 1

-- what a verdict tells of lists and of the standing at which their steps end
abbrev pub VerdictTells : (ℕ → List DataCall) → Verdict → Standing → Type 0
VerdictTells calls verdict.Yes e = (k : ℕ) → e.calls k ≡ []
VerdictTells calls (verdict.No rank call) e = IsFirstLeft calls e rank call

-- the verdict of a log: what the standing tells at which its steps end
abbrev pub IsVerdict : LogView → Verdict → Type 0
IsVerdict log v = (e : Standing) × EndsIn log e × VerdictTells (calls_at_rank log.lists) v e

-- a function that tells the verdict of each log that a file may have
abbrev pub IsJudge : (LogView → Verdict) → Type 0
IsJudge judge = (log : LogView) → IsFileLog log → IsVerdict log (judge log)
