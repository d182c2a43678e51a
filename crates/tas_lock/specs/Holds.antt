-- Who holds a core's test-and-set register (SCC External Architecture Specification: a read of a free
-- register takes it, a write frees it; RCCE specification 2.0 locks with it).
use Rattle.std.specs.Prelude.{ℕ, Bool, IsTrue, if◌then◌else◌, Some, None, is_some, is_none}
use Rattle.scc_proto.specs.Tables.{table_with}
use Rattle.scc_proto.specs.Stages.{Record}

-- the rank whose record this is holds the register of a core
abbrev pub IsHolding : Record → ℕ → Type 0
IsHolding rec core = IsTrue (is_some (rec.held core))

-- it does not
abbrev pub IsNotHolding : Record → ℕ → Type 0
IsNotHolding rec core = IsTrue (is_none (rec.held core))

-- the record after a try: where the register was taken, this rank holds it and has noted no flag under it
abbrev pub after_try : ℕ → Bool → Record → Record
after_try core taken rec =
    if taken then record rec { held = table_with rec.held core (Some (record { sent = None; ready = None })) } else rec

-- the record after the register was freed
abbrev pub record_after_release : ℕ → Record → Record
record_after_release core rec = record rec { held = table_with rec.held core None }
