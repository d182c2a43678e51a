use Rattle.std.proofs.Common.{◌∙◌, ap, arith}
use Rattle.scc_base.specs.declared.events.Event.{Event}
use Rattle.scc_rows.specs.Quiet.{is_quiet_access}
use Rattle.scc_proto.proofs.Layouts.Roles.{le_yes}
use Rattle.scc_rows.proofs.QuietLemmas.{quiet_sound}
use Rattle.scc_rows.proofs.listed_ports.ListedPortPort.store.Goals as goal

pub keep-requires-clause-event : goal.keep-requires-clause-event
keep-requires-clause-event g c = ap (λ (e : Event). is_quiet_access e.access e.place) c.store.ensures.gives ∙ le_yes 225 c.args.p.line (omega arith)

pub returns-clause-sound : goal.returns-clause-sound
returns-clause-sound g c = quiet_sound _ c.keep.ensures.quiet
