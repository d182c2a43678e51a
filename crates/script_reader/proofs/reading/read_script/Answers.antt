use Rattle.std.proofs.Common.{◌≡◌, subst, sym}
use Rattle.std.specs.Prelude.{IfOk}
use Rattle.script_rules.specs.declared.version.Version.{Version}
use Rattle.script_reader.specs.Reading.{read_as, version_of}
use Rattle.script_rules.specs.Settled.{NamesCommsTo, SplitsWorldAlone}
use Rattle.script_rules.specs.Checks.{last_comm}
use Rattle.texts.specs.Cuts.{lines_of}
use Rattle.script_reader.proofs.CommLemmas.{names-low}
use Rattle.script_reader.proofs.RankLemmas.{parse_has}
use Rattle.script_reader.proofs.VersionLemmas.{IfOk-given, first-flat}
use Rattle.script_reader.proofs.reading.read_script.Goals as goal

-- what is true of the script that the grammar gives
pub returns-clause-flat : goal.returns-clause-flat
returns-clause-flat c = λ is.
    let bytes = c.args.bytes.now in
    IfOk-given SplitsWorldAlone c.read_file.result _ c.read_file.ensures.gives
    (subst (λ (version : Version). IfOk (read_as version bytes c.args.nue) SplitsWorldAlone) (sym is) (first-flat bytes c.args.nue))

pub returns-clause-ranks : goal.returns-clause-ranks
returns-clause-ranks c = IfOk-given (λ script. script.nue ≡ c.args.nue) c.read_file.result _ c.read_file.ensures.gives (parse_has c.args.bytes.now c.args.nue)

pub returns-clause-named : goal.returns-clause-named
returns-clause-named c =
    IfOk-given (NamesCommsTo (last_comm (version_of (lines_of c.args.bytes.now)))) c.read_file.result _ c.read_file.ensures.gives (names-low c.args.bytes.now c.args.nue)
