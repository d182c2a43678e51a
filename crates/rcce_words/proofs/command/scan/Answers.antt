use Rattle.std.proofs.Common.{◌∙◌, ap, string_bytes, subst, sym}
use Rattle.rcce_words.specs.CommandLine.{IsSaidInRange, option_named, takes_value}
use Rattle.rcce_words.specs.declared.said.Said.{Said}
use Rattle.rcce_words.proofs.ScanLemmas.{count_on, passed_on, scan_end, scan_fault, scan_value, scan_word}
use Rattle.rcce_words.proofs.command.scan.Goals as goal
use Rattle.rcce_words.proofs.command.scan.Goals.{then-is_value, else-is_value+in_ok-said}

pub returns-in_err-said-clause-gives : goal.returns-in_err-said-clause-gives
returns-in_err-said-clause-gives c =
    passed_on c.from_residual.result c.in_err-said.field-0.0 c.from_residual.ensures.1
    ∙ scan_fault string_bytes c.words.at c.words.is_value c.words.said _ c.words.left.now c.word-item.result c.as_str.result.now _ _ c.in-len1-up.len_at_least
    c.if-is_value.false c.word-item.is c.as_str.ensures.value c.first_of.ensures c.in_err-said.ensures.gives c.words.invariant.same

pub words-preserved : goal.words-preserved
words-preserved c =
    let at = c.words.at in
    let left = c.words.left.now in
    let counted = count_on at left _ c.in-len1-up.len_at_least c.words.invariant.counted in
    elim c.if-is_value.branch [
      | then-is_value w ↦ record {
        counted = counted;
        within = subst (λ (s : Said). IsSaidInRange s) (sym w.said-is) c.words.invariant.within;
        same = scan_value string_bytes at _ c.if-is_value.is_value c.words.said c.if-is_value.said left _ c.in-len1-up.len_at_least w.if-is_value.true w.said-is w.is_value-is c.words.invariant.same;
      }
      | else-is_value+in_ok-said w ↦ record {
        counted = counted;
        within = subst (λ (s : Said). IsSaidInRange s) (sym w.said-is) w.in_ok-said.ensures.within;
        same = scan_word string_bytes at _ c.if-is_value.is_value c.words.said w.in_ok-said.said c.if-is_value.said left c.word-item.result w.as_str.result.now _ _
            c.in-len1-up.len_at_least w.if-is_value.false c.word-item.is w.as_str.ensures.value w.first_of.ensures w.in_ok-said.ensures.gives w.said-is
            (w.is_value-is ∙ w.takes_value-is_value.ensures ∙ ap (λ t. takes_value (option_named t)) w.as_str-else-is_value.ensures.value) c.words.invariant.same;
      }
    ]

pub returns-clause-gives : goal.returns-clause-gives
returns-clause-gives c = scan_end string_bytes c.words.at c.words.is_value c.words.said c.words.left.now _ c.in_default.len_below c.words.invariant.same
