-- Records that are alike but for what looks note: the flags of other ranks that were seen, and whether the `ready` of a
-- posted message was (this project's profile).
use Rattle.std.specs.Prelude.{◌≡◌, ℕ, false, option_map}
use Rattle.scc_proto.specs.Stages.{InFlight, Record}

-- a posted message on its way, as it is before its `ready` is seen
abbrev pub as_unanswered : InFlight → InFlight
as_unanswered post = record post { is_answered = false }

-- two records of one rank that are alike up to looks and the answer to a posted message
pub record Like (rec other : Record) : Type 0 where
  pub stage : rec.stage ≡ other.stage
  pub post : option_map as_unanswered rec.post ≡ option_map as_unanswered other.post
  pub flips : (comm : ℕ) → rec.flips comm ≡ other.flips comm
  pub calls : rec.calls ≡ other.calls
