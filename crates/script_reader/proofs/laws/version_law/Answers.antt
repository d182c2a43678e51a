use Rattle.std.proofs.Common.{ap, subst, sym}
use Rattle.std.specs.Prelude.{IfOk}
use Rattle.script_rules.specs.declared.version.Version.{Version}
use Rattle.script_reader.specs.Reading.{read_as}
use Rattle.script_rules.specs.Settled.{SplitsWorldAlone}
use Rattle.script_reader.proofs.CommLemmas.{names-low}
use Rattle.script_reader.proofs.VersionLemmas.{first-flat}
use Rattle.script_reader.proofs.laws.version_law.Goals as goal

pub returns-clause-first : goal.returns-clause-first
returns-clause-first c = λ bytes nue is. ap (λ (version : Version). read_as version bytes nue) is

pub returns-clause-second : goal.returns-clause-second
returns-clause-second c = λ bytes nue is. ap (λ (version : Version). read_as version bytes nue) is

pub returns-clause-flat : goal.returns-clause-flat
returns-clause-flat c = λ bytes nue is. subst (λ (version : Version). IfOk (read_as version bytes nue) SplitsWorldAlone) (sym is) (first-flat bytes nue)

pub returns-clause-named : goal.returns-clause-named
returns-clause-named c = names-low
