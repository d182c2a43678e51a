-- What the text of a trace tells of its setup (this project's profile).
use Rattle.std.specs.Prelude.{◌≡◌, ◌==◌, ℕ, ◌-◌, ◌<◌, List, ◌++◌, count_by, length, map, replicate}
use Rattle.std.specs.List.{range_with_len}
use Rattle.scc_base.specs.Setups.{IsSetup, SetupView, host_of}

-- the cores as a trace tells them: those of the ranks of the run, and 0 for the ranks that it has not
abbrev pub told_hosts : SetupView → List ℕ
told_hosts s = map (host_of s.hosts) (range_with_len 0 s.nue) ++ replicate (48 - s.nue) 0

-- the setup as a trace tells it
abbrev pub told_setup : SetupView → SetupView
told_setup s = record s { hosts = told_hosts s }

-- a setup whose trace can be written: its ranks are on cores of the chip, and each of sixteen communicators has a rule
pub record IsWritable (s : SetupView) : Type 0 where
  pub valid : IsSetup s
  pub on_chip : (r : ℕ) → r < s.nue → host_of s.hosts r < 48
  pub sixteen : length s.comms ≡ 16

-- how many lines a text has, each with its line feed
abbrev pub text_lines : List ℕ → ℕ
text_lines text = count_by (λ b. b == 10) text
