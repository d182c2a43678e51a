use Rattle.std.proofs.Common.{◌+◌, ◌<◌, ◌∙◌, ℕ, ap, length, refl, rules, slice_index, slice_set}
use Rattle.rcce_audit.specs.Grammar.{with_call}
use Rattle.rcce_audit.specs.Views.{data_lists, data_of}
use Rattle.trace_program.proofs.HearingLemmas.{held_more, lists_none, lists_some}
use Rattle.trace_program.proofs.finished.FinishedCalls.keep.Goals as goal

pub returns-in_ok-push_call : goal.returns-in_ok-push_call
returns-in_ok-push_call c = record {
  keeps = λ asked number calls done is moved held.
      let f = c.args.self.now in
      let made = data_of c.in_ok-call.call in
      let within : c.args.rank < length f.counts = search rules in
      let gives = c.in_ok-push_call.ensures.gives ∙ ap (λ (k : ℕ). with_call (data_lists c.in-Some.lists.items) (record { rank = k; call = made })) c.number-at.ensures.gives in
      held_more asked f _ number c.args.rank calls done within (ap (λ (k : ℕ). slice_set f.counts k (slice_index f.counts k + 1)) c.number-at.ensures.gives)
      (lists_some asked f.lists _ c.in-Some.lists c.push_call.new.lists calls c.args.rank made done c.in-Some.is refl gives (c.in_ok-call.ensures done is moved)) held;
}

pub returns-in_default : goal.returns-in_default
returns-in_default c = record {
  keeps = λ asked number calls done is moved held.
      let f = c.args.self.now in
      let within : c.args.rank < length f.counts = search rules in
      held_more asked f _ number c.args.rank calls done within (ap (λ (k : ℕ). slice_set f.counts k (slice_index f.counts k + 1)) c.number-at.ensures.gives)
      (lists_none asked f.lists _ calls _ c.in_default.is c.in_default.is) held;
}
