use Rattle.std.proofs.Common.{◌≡◌, Bool, true, false, List, ℕ, Result, Ok, Err, Some, None, IfOk, map, sym, ◌∙◌, ap}
use Rattle.std.specs.Bool.{MatchBool}
use Rattle.std.specs.Result.{IsErr}
use Rattle.std.specs.declared.alloc.AllocError.{AllocError}
use Rattle.std.proofs.lemmas.Bool.{cond-true, cond-false, false≢true}
use Rattle.rcce_audit.specs.Grammar.{Reading, TakesLine, begins_comm, take_call, take_comm}
use Rattle.rcce_audit.specs.Words.{log_words_of}
use Rattle.rcce_audit.proofs.reader.Reader.read_line.Goals as goal

-- of a call that failed nothing is asked
failed : (r : Result Bool AllocError) (P : Bool → Type 0) → IsErr r → IfOk r P
failed (Ok taken) P is = absurd (false≢true is)
failed (Err error) P is = tt

module _ (reading next : Reading) (line : List ℕ) (words : List (List ℕ)) (begins : Bool) (same : words ≡ log_words_of line) (told : begins ≡ begins_comm line) where
  comm_taken : (taken : Bool) → begins ≡ true → MatchBool taken (take_comm reading words ≡ Some next) (take_comm reading words ≡ None) → TakesLine reading line next taken
  comm_taken true is took = cond-true _ _ _ (sym told ∙ is) ∙ ap (take_comm reading) (sym same) ∙ took
  comm_taken false is took = cond-true _ _ _ (sym told ∙ is) ∙ ap (take_comm reading) (sym same) ∙ took

  call_taken : (r : Result Bool AllocError) → begins ≡ false → IfOk r (λ taken. MatchBool taken (take_call reading words ≡ Some next) (take_call reading words ≡ None))
      → IfOk r (λ taken. TakesLine reading line next taken)
  call_taken (Ok true) is took = cond-false _ _ _ (sym told ∙ is) ∙ ap (take_call reading) (sym same) ∙ took
  call_taken (Ok false) is took = cond-false _ _ _ (sym told ∙ is) ∙ ap (take_call reading) (sym same) ∙ took
  call_taken (Err error) is took = tt

pub returns-in_err-words : goal.returns-in_err-words
returns-in_err-words c = failed c.from_residual.result _ c.from_residual.ensures.0

pub returns-then-begins_comm : goal.returns-then-begins_comm
returns-then-begins_comm c =
    comm_taken _ _ c.args.line.now _ c.begins_comm.result (ap (map (λ word. word.now)) c.as_slice.ensures.value ∙ c.in_ok-words.ensures) c.begins_comm.ensures c.read_comm.result c.if-begins_comm.true
    c.read_comm.ensures

pub returns : goal.returns
returns c =
    call_taken _ _ c.args.line.now _ c.begins_comm.result (ap (map (λ word. word.now)) c.as_slice-else-begins_comm.ensures.value ∙ c.in_ok-words.ensures) c.begins_comm.ensures c.read_call.result c.if-begins_comm.false
    c.read_call.ensures
