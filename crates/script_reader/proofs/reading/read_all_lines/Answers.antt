use Rattle.std.proofs.Common.{◌≡◌, ◌∙◌, ◌==◌, ◌+◌, ℕ, Bool, false, true, List, Err, Ok, Result, ap, cond, length, map, subst, sym}
use Rattle.script_rules.specs.declared.fault.FaultKind.TheVariants as kind
use Rattle.script_rules.specs.declared.version.Version.{Version}
use Rattle.script_rules.specs.Checks.{last_comm, open_of}
use Rattle.script_reader.specs.declared.fault.ReadFault.{ReadFault}
use Rattle.script_reader.specs.Faults.{◌>>=◌, Gives}
use Rattle.script_reader.specs.Progress.{ReadingSoFar, past, start}
use Rattle.script_reader.specs.Reading.{at_end, read_all_lines, read_lines, script_of}
use Rattle.script_rules.specs.Settled.{HasCommsTo}
use Rattle.texts.specs.Cuts.{line_count}
use Rattle.script_reader.proofs.StopLemmas.{file-starved, file-stops, none-given}
use Rattle.script_reader.proofs.reading.read_all_lines.Goals as goal

-- a file by what its lines give, where this is whether each repeat is closed
at-end : (version : Version) (lines : List (List ℕ)) (nue : ℕ) (p q : ReadingSoFar) (closed : Bool) → p ≡ start version nue → read_lines 0 p lines ≡ Ok q → closed ≡ (length (open_of (past q)) == 0)
    → read_all_lines version lines nue ≡ cond closed (Ok (script_of q)) (Err (record { line = line_count lines + 1; kind = kind.UnclosedRepeat }))
at-end version lines nue p q closed begun gives is =
    sym (ap (λ (p : ReadingSoFar). read_lines 0 p lines >>= at_end (line_count lines)) begun)
    ∙ ap (λ (r : Result ReadingSoFar ReadFault). r >>= at_end (line_count lines)) gives
    ∙ sym (ap (λ (b : Bool). cond b (Ok (script_of q)) (Err (record { line = line_count lines + 1; kind = kind.UnclosedRepeat }))) is)

pub returns-in_err-reader-clause-gives : goal.returns-in_err-reader-clause-gives
returns-in_err-reader-clause-gives c = file-starved (λ script. script) c.from_residual.result _ c.from_residual.ensures.1

pub returns-in_err-reader-clause-low : goal.returns-in_err-reader-clause-low
returns-in_err-reader-clause-low c = none-given c.from_residual.result _ c.from_residual.ensures.0

pub returns-in_err-read_lines-clause-gives : goal.returns-in_err-read_lines-clause-gives
returns-in_err-read_lines-clause-gives c =
    let lines = map (λ line. line.now) c.args.lines.now in
    let r = c.from_residual-in_err-read_lines.result in
    subst (λ (p : ReadingSoFar). Gives (λ script. script) r (read_lines 0 p lines >>= at_end (line_count lines))) c.in_ok-reader.ensures
    (file-stops (λ script. script) _ r _ (at_end (line_count lines)) c.from_residual-in_err-read_lines.ensures.1 c.in_err-read_lines.ensures.gives)

pub returns-in_err-read_lines-clause-low : goal.returns-in_err-read_lines-clause-low
returns-in_err-read_lines-clause-low c = none-given c.from_residual-in_err-read_lines.result _ c.from_residual-in_err-read_lines.ensures.0

pub returns-then-not-is_closed-clause-gives : goal.returns-then-not-is_closed-clause-gives
returns-then-not-is_closed-clause-gives c =
    at-end c.args.version (map (λ line. line.now) c.args.lines.now) c.args.nue c.in_ok-reader.reader c.read_lines.new.reader false c.in_ok-reader.ensures c.in_ok-read_lines.ensures.gives
    (sym c.if-not-is_closed.true ∙ c.is_closed.ensures)
    ∙ ap (λ (n : ℕ). Err (record { line = n + 1; kind = kind.UnclosedRepeat })) (sym c.line_count.ensures.same)

pub returns-clause-gives : goal.returns-clause-gives
returns-clause-gives c =
    at-end c.args.version (map (λ line. line.now) c.args.lines.now) c.args.nue c.in_ok-reader.reader c.read_lines.new.reader true c.in_ok-reader.ensures c.in_ok-read_lines.ensures.gives
    (sym c.if-not-is_closed.false ∙ c.is_closed.ensures)
    ∙ ap Ok (sym c.finish.ensures.same)

-- the reader still has the version that it began with
pub returns-clause-low : goal.returns-clause-low
returns-clause-low c =
    let same = c.in_ok-read_lines.ensures.version ∙ ap (λ (p : ReadingSoFar). p.version) c.in_ok-reader.ensures in
    subst (λ (version : Version). HasCommsTo (last_comm version) c.finish.result) same c.finish.ensures.low
