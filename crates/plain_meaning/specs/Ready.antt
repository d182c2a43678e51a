-- A call that a rank can make (RCCE specification 2.0: a message is one between two ranks of the run; heads, posts of one
-- chunk and communicators with rules are this project's profile).
use Rattle.std.specs.Prelude.{◌≡◌, ◌≢◌, ◌<◌, ℕ, length}
use Rattle.groups.specs.Peers.{IsPeer}
use Rattle.scc_base.specs.Communicators.{rule_of}
use Rattle.scc_base.specs.Heads.{IsHead, IsPostHead}
use Rattle.scc_base.specs.declared.communicators.CommRule.TheVariants.{Absent}
use Rattle.script_rules.specs.Script.{Script, rules_of}
use Rattle.script_machine.specs.Next.{Next}
use Rattle.script_machine.specs.Next.Next.{Ends, Goes, Posts, Sends, Recvs, Bars}

-- a rank's next action is no call, or one that it can make: a message with another rank of the run, with a valid head and as
-- many bytes as it states; a post of at most one chunk; a barrier of a communicator with a rule
abbrev pub CanMakeNext : {U : Type 0} → Script → ℕ → Next U → Type 0
CanMakeNext script rank Ends = Unit {0}
CanMakeNext script rank (Goes after) = Unit {0}
CanMakeNext script rank (Posts message after) =
    IsPeer script.nue rank message.to × IsPostHead message.head × (length message.bytes ≡ message.head.len)
CanMakeNext script rank (Sends to head bytes after) = IsPeer script.nue rank to × IsHead head × (length bytes ≡ head.len)
CanMakeNext script rank (Recvs from head take refuse) = IsPeer script.nue rank from × IsHead head
CanMakeNext script rank (Bars comm after) = (comm < 16) × (rule_of (rules_of script.items) comm ≢ Absent)
