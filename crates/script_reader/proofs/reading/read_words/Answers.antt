use Rattle.std.proofs.Common.{◌≡◌, ◌∙◌, ◌<◌, ◌≤◌, ◌-◌, ◌∷◌, ℕ, [], Bool, List, Ok, OnOk, Result, ap, arith, drop, get_or, length, map, refl, subst, sym, take}
use Rattle.std.proofs.lemmas.List.{take_all}
use Rattle.script_rules.specs.declared.fault.FaultKind.{FaultKind}
use Rattle.script_rules.specs.declared.version.Version.{Version}
use Rattle.script_rules.specs.Limits.{most_names}
use Rattle.script_reader.specs.declared.said.Said.{Said}
use Rattle.script_reader.specs.Faults.{◌>>=◌, LineGives}
use Rattle.script_reader.specs.Kept.{IsUpTo}
use Rattle.script_reader.specs.Progress.{ReadingSoFar, after_script_line}
use Rattle.script_reader.specs.Reading.{past_opening, read_words}
use Rattle.script_reader.specs.Said.{said_of}
use Rattle.script_reader.proofs.StopLemmas.{none-kept, stops}
use Rattle.script_reader.proofs.reading.read_words.Goals.{After-is_opening}
use Rattle.script_reader.proofs.reading.read_words.Goals as goal

-- a line without words
no-words : {A : Type 0} (number : ℕ) (p : ReadingSoFar) (seen : A → List ℕ) (words : List A) → length words < 1 → read_words number p (map seen words) ≡ Ok p
no-words number p seen [] none = refl
no-words number p seen (first ∷ rest) none = absurd (omega (arith, none))

-- a line by its first word and the words after it
some-words : {A : Type 0} (number : ℕ) (p : ReadingSoFar) (seen : A → List ℕ) (words : List A) (d : A) → 1 ≤ length words
    → read_words number p (map seen words) ≡ (said_of p.version p.opening (seen (get_or words 0 d)) (map seen (take (length words - 1) (drop 1 words))) >>= after_script_line number (past_opening p))
some-words number p seen [] d some = absurd (omega (arith, some))
some-words number p seen (first ∷ rest) d some =
    ap (λ (left : List _). said_of p.version p.opening (seen first) (map seen left) >>= after_script_line number (past_opening p))
    (sym (take_all (length (first ∷ rest) - 1) rest (omega arith)))

-- the same of the line that is read, by what was asked of the reader
said : (c : After-is_opening) → read_words c.args.number c.args.reader.now (map (λ word. word.now) c.args.words.now)
    ≡ (said_of c.version.result c.is_opening.result (get_or c.args.words.now 0 (record { ref_ptr = (0, 0); now = [] })).now (map (λ word. word.now) (take (length c.args.words.now - 1) (drop 1 c.args.words.now)))
    >>= after_script_line c.args.number (past_opening c.args.reader.now))
said c =
    let p = c.args.reader.now in
    let words = c.args.words.now in
    let first = (get_or words 0 (record { ref_ptr = (0, 0); now = [] })).now in
    let rest = map (λ word. word.now) (take (length words - 1) (drop 1 words)) in
    some-words c.args.number p (λ word. word.now) words (record { ref_ptr = (0, 0); now = [] }) c.in-len1-up.len_at_least
    ∙ ap (λ (v : Version). said_of v p.opening first rest >>= after_script_line c.args.number (past_opening p)) (sym c.version.ensures)
    ∙ ap (λ (opening : Bool). said_of c.version.result opening first rest >>= after_script_line c.args.number (past_opening p)) (sym c.is_opening.ensures)

pub returns-in-empty-clause-gives : goal.returns-in-empty-clause-gives
returns-in-empty-clause-gives c = no-words c.args.number c.args.reader.now (λ word. word.now) c.args.words.now c.in-empty.len_below

pub returns-in-empty-clause-kept : goal.returns-in-empty-clause-kept
returns-in-empty-clause-kept c = record { same = refl; named = c.requires.few; counted = omega (arith, c.requires.counted) }

pub returns-in_err-said-in-len1-up-clause-gives : goal.returns-in_err-said-in-len1-up-clause-gives
returns-in_err-said-in-len1-up-clause-gives c =
    subst (λ (meant : Result ReadingSoFar FaultKind). LineGives (λ _. c.args.reader.now) c.from_residual.result meant) (sym (said (goal.at.returns-in_err-said-in-len1-up-clause-gives c).After-is_opening))
    (stops (λ _. c.args.reader.now) _ c.from_residual.result _ (after_script_line c.args.number (past_opening c.args.reader.now)) c.from_residual.ensures.1 c.in_err-said-in-len1-up.ensures)

pub returns-in_err-said-in-len1-up-clause-kept : goal.returns-in_err-said-in-len1-up-clause-kept
returns-in_err-said-in-len1-up-clause-kept c = none-kept c.from_residual.result _ c.from_residual.ensures.0

pub take-requires-clause-few : goal.take-requires-clause-few
take-requires-clause-few c = subst (λ (p : ReadingSoFar). length p.names ≤ most_names) (sym c.begin.ensures) c.requires.few

pub take-requires-clause-counted : goal.take-requires-clause-counted
take-requires-clause-counted c = subst (λ (p : ReadingSoFar). length p.items < c.args.number) (sym c.begin.ensures) c.requires.counted

pub returns-in_ok-said-in-len1-up-clause-gives : goal.returns-in_ok-said-in-len1-up-clause-gives
returns-in_ok-said-in-len1-up-clause-gives c =
    let taken = said (goal.at.returns-in_ok-said-in-len1-up-clause-gives c).After-is_opening
    ∙ ap (λ (r : Result Said FaultKind). r >>= after_script_line c.args.number (past_opening c.args.reader.now)) c.in_ok-said-in-len1-up.ensures
    ∙ ap (λ (p : ReadingSoFar). after_script_line c.args.number p c.in_ok-said-in-len1-up.said) (sym c.begin.ensures) in
    subst (λ (meant : Result ReadingSoFar FaultKind). LineGives (λ _. c.take.new.reader) c.take.result meant) (sym taken) c.take.ensures.gives

pub returns-in_ok-said-in-len1-up-clause-kept : goal.returns-in_ok-said-in-len1-up-clause-kept
returns-in_ok-said-in-len1-up-clause-kept c =
    subst (λ (version : Version). OnOk c.take.result (IsUpTo version c.args.number c.take.new.reader)) (ap (λ (p : ReadingSoFar). p.version) c.begin.ensures) c.take.ensures.kept
