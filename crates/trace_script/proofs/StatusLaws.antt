-- No two ends of a run whose trace is written have one number.
use Rattle.std.proofs.Common.{◌≡◌, ◌≢◌, ℕ, List, [], ◌∷◌, Option, Some, slice_get, refl, sym, ◌∙◌, ap}
use Rattle.outcomes.specs.declared.status.Status.{Status}
use Rattle.outcomes.specs.declared.status.Status.TheVariants as status
use Rattle.trace_script.specs.declared.endings.TraceEnd.{TraceEnd}
use Rattle.trace_script.specs.declared.endings.TraceEnd.TheVariants as end_of
use Rattle.trace_script.specs.Ends.{trace_status_number}

-- the ends by their numbers
abbrev ends : List TraceEnd
ends =
    end_of.Ended status.Finished ∷ end_of.Ended status.Words ∷ end_of.Ended status.Script ∷ end_of.Ended status.Stuck ∷ end_of.Ended status.Memory ∷ end_of.Ended status.Files
    ∷ end_of.Ended status.Write ∷ end_of.Refused ∷ []

there : (e : TraceEnd) → slice_get ends (trace_status_number e) ≡ Some e
there (end_of.Ended status.Finished) = refl
there (end_of.Ended status.Words) = refl
there (end_of.Ended status.Script) = refl
there (end_of.Ended status.Stuck) = refl
there (end_of.Ended status.Memory) = refl
there (end_of.Ended status.Files) = refl
there (end_of.Ended status.Write) = refl
there end_of.Refused = refl

same_end : (one other : TraceEnd) → Some one ≡ Some other → one ≡ other
same_end one other is = cc

pub ends_apart : (one other : TraceEnd) → trace_status_number one ≡ trace_status_number other → one ≡ other
ends_apart one other is = same_end one other (sym (there one) ∙ ap (λ (n : ℕ). slice_get ends n) is ∙ there other)

pub alone_refused : (s : Status) → trace_status_number (end_of.Ended s) ≢ 7
alone_refused s is = let e : end_of.Ended s ≡ end_of.Refused = ends_apart (end_of.Ended s) end_of.Refused is in absurd (cc)
