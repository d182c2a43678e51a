use Rattle.std.proofs.Common.{◌≡◌, ℕ, Option, option_and_then, option_map, sym, ◌∙◌, ap}
use Rattle.scc_base.specs.Setups.{SetupView}
use Rattle.scc_base.specs.declared.signals.Signal.{Signal}
use Rattle.scc_proto.specs.Moves.{LowerSignal, RaiseSignal}
use Rattle.scc_proto.specs.Records.{change_at, flags_in}
use Rattle.scc_proto.specs.Stages.{FlagWords}
use Rattle.rank_monitor.specs.Held.{flag_words}
use Rattle.rank_monitor.specs.declared.held.NotedFlags.{NotedFlags}
use Rattle.rank_monitor.proofs.steps.flags_change.Goals as goal

-- the word that is noted is the record's
noted_there : (s : SetupView) (me owner value : ℕ) (signal : Signal) (flags : Option NotedFlags) (held : Option FlagWords) (noted : Option ℕ)
    → noted ≡ option_and_then (λ (f : FlagWords). flags_in signal f) (option_map flag_words flags) → held ≡ option_map flag_words flags
    → change_at (LowerSignal signal) (RaiseSignal signal) s me owner value noted
    ≡ change_at (LowerSignal signal) (RaiseSignal signal) s me owner value (option_and_then (λ (f : FlagWords). flags_in signal f) held)
noted_there s me owner value signal flags held noted gives same =
    ap (change_at (LowerSignal signal) (RaiseSignal signal) s me owner value) (gives ∙ ap (option_and_then (λ (f : FlagWords). flags_in signal f)) (sym same))

pub returns-in-Lowered-clause-gives : goal.returns-in-Lowered-clause-gives
returns-in-Lowered-clause-gives c = λ rec place same.
    let signal = c.args.signal in
    c.in-Lowered.ensures.gives (LowerSignal signal) (RaiseSignal signal)
    ∙ noted_there c.args.setup.now c.args.rank c.args.owner c.args.value signal c.args.flags (rec.held place.core) c.noted_of-noted.result c.noted_of-noted.ensures.gives same

pub returns-in-Raised-clause-gives : goal.returns-in-Raised-clause-gives
returns-in-Raised-clause-gives c = λ rec place same.
    let signal = c.args.signal in
    c.in-Raised.ensures.gives (LowerSignal signal) (RaiseSignal signal)
    ∙ noted_there c.args.setup.now c.args.rank c.args.owner c.args.value signal c.args.flags (rec.held place.core) c.noted_of-noted.result c.noted_of-noted.ensures.gives same

pub returns-in-Misplaced-clause-gives : goal.returns-in-Misplaced-clause-gives
returns-in-Misplaced-clause-gives c = λ rec place same.
    let signal = c.args.signal in
    c.in-Misplaced.ensures.gives (LowerSignal signal) (RaiseSignal signal)
    ∙ noted_there c.args.setup.now c.args.rank c.args.owner c.args.value signal c.args.flags (rec.held place.core) c.noted_of-noted.result c.noted_of-noted.ensures.gives same
