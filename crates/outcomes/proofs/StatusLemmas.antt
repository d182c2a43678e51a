-- With which outcomes texts may stand on out.
use Rattle.std.proofs.Common.{◌≡◌, ℕ, Bool, true, false, List, refl}
use Rattle.outcomes.specs.declared.complaint.Complaint.{Complaint}
use Rattle.outcomes.specs.declared.complaint.Complaint.TheVariants as complaint
use Rattle.outcomes.specs.Statuses.{is_quiet}
use Rattle.outcomes.specs.Outcomes.{Ran, run_outcome}
use Rattle.outcomes.specs.Complaints.{complaint_outcome}

loud_by : (finished : Bool) (out err : List ℕ) → is_quiet (run_outcome (record { finished = finished; out = out; err = err })).status ≡ false
loud_by true out err = refl
loud_by false out err = refl

-- what has run has a status with which texts stand on out
pub run_loud : (ran : Ran) → is_quiet (run_outcome ran).status ≡ false
run_loud ran = loud_by ran.finished ran.out ran.err

-- and a complaint has not
pub complaint_quiet : (program : List ℕ) (why : Complaint) → is_quiet (complaint_outcome program why).status ≡ true
complaint_quiet program (complaint.Words fault word afterwards value) = refl
complaint_quiet program complaint.Memory = refl
complaint_quiet program (complaint.Absent file) = refl
complaint_quiet program (complaint.ReadFault file) = refl
complaint_quiet program (complaint.Refused file line kind) = refl
