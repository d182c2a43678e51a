-- The setup of a run.
use Rattle.std.specs.Prelude.{◌≡◌, ℕ, ◌<◌, ◌≤◌, List, slice_index}
use Rattle.scc_base.specs.Communicators.{AreRules, key_of}
use Rattle.scc_base.specs.Groups.{size_in, members_in, place_in, root_in}
use Rattle.scc_base.specs.declared.communicators.CommRule.{CommRule}
use Rattle.scc_base.specs.declared.layouts.Layout.{Layout}

-- the number of ranks, the layout, the core of each rank, and the rule of each communicator
pub record SetupView : Type 0 where
  pub nue : ℕ
  pub layout : Layout
  pub hosts : List ℕ
  pub comms : List CommRule

-- the core of a rank
abbrev pub host_of : List ℕ → ℕ → ℕ
host_of hosts r = slice_index hosts r

-- the first n ranks have cores of their own
abbrev pub AreApart : ℕ → List ℕ → Type 0
AreApart nue hosts = (r q : ℕ) → r < q → q < nue → host_of hosts r ≡ host_of hosts q → ⊥

-- a setup that a run may have
pub record IsSetup (s : SetupView) : Type 0 where
  pub some_ranks : 1 ≤ s.nue
  pub ranks_within : s.nue ≤ 48
  pub apart : AreApart s.nue s.hosts
  pub rules : AreRules s.comms

-- the key of a rank in a communicator of the setup
abbrev pub setup_key : SetupView → ℕ → ℕ → ℕ
setup_key s comm r = key_of s.comms comm r

-- the members of the group of rank r in a communicator, in rank order
abbrev pub members_of : SetupView → ℕ → ℕ → List ℕ
members_of s comm r = members_in s.nue (setup_key s comm) r

-- how many members the group of rank r in a communicator has
abbrev pub size_of : SetupView → ℕ → ℕ → ℕ
size_of s comm r = size_in s.nue (setup_key s comm) r

-- the place of rank r in its group of a communicator, counted from 0
abbrev pub place_of : SetupView → ℕ → ℕ → ℕ
place_of s comm r = place_in (setup_key s comm) r

-- the lowest rank of the group of rank r
abbrev pub root_of : SetupView → ℕ → ℕ → ℕ
root_of s comm r = root_in (setup_key s comm) r

-- m is the member at place i of the group of rank r
pub record IsMemberAt (s : SetupView) (comm r i m : ℕ) : Type 0 where
  pub below : m < s.nue
  pub grouped : setup_key s comm m ≡ setup_key s comm r
  pub placed : place_of s comm m ≡ i
