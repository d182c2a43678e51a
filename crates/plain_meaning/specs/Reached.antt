-- The configurations that a run of a script can reach, by any of its steps.
use Rattle.std.specs.Prelude.{◌≡◌, ℕ}
use Rattle.scc_base.specs.Runs.{Runs}
use Rattle.script_rules.specs.Script.{Script}
use Rattle.plain_meaning.specs.Meaning.{IsPlainStep, State, keys_of, start_of}
use Rattle.plain_meaning.specs.Step.{Configuration}

-- some number n of steps leads from the start to this configuration
abbrev pub IsReached : Script → Configuration State → Type 0
IsReached script c = (n : ℕ) × Runs (IsPlainStep (keys_of script)) (λ e. e ≡ c) n (start_of script)
