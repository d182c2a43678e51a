use Rattle.std.proofs.Common.{ap, sym}
use Rattle.outcomes.specs.Complaints.{complaint_outcome}
use Rattle.outcomes.specs.declared.complaint.Complaint.{Complaint}
use Rattle.outcomes.proofs.complaint.Complaint.status.Goals as goal

pub returns-in-Memory : goal.returns-in-Memory
returns-in-Memory c = λ program. ap (λ (why : Complaint). (complaint_outcome program why).status) (sym c.in-Memory.is)
