-- What a lab means: its steps run one after the other, until one stops it (this project's profile).
use Rattle.std.specs.Prelude.{ℕ, ◌==◌, Bool, true, false, not, if◌then◌else◌, List, [], ◌∷◌, ◌++◌, replicate, slice_index, slice_index_or, slice_set, Option, Some, None, is_none}
use Rattle.scc_base.specs.Places.{LineAt, WordAt, word_of_line}
use Rattle.scc_base.specs.Events.{take_of, free_of}
use Rattle.scc_proto.specs.Words.{Memory, zeros, memory_after, word_at}
use Rattle.line_cache.specs.declared.cache.Entry.{Entry}
use Rattle.write_combine.specs.declared.combiner.Out.{Out}
use Rattle.lab_reader.specs.declared.steps.Action.{Action}
use Rattle.lab_reader.specs.declared.steps.Action.TheVariants as action
use Rattle.lab_reader.specs.declared.steps.Step.{Step}
use Rattle.lab_plain.specs.declared.said.Said.{Said}
use Rattle.lab_plain.specs.declared.said.Said.TheVariants as said
use Rattle.lab_plain.specs.declared.said.Stopped.{Stopped}
use Rattle.lab_plain.specs.declared.said.Stopped.TheVariants as stopped
use Rattle.lab_plain.specs.Scenes.{CoreScene, after_flushing, word_written, line_written, line_put, word_read, line_read, line_got, after_load, after_store, after_invalidate, after_print, answer, line_answer, line_in}

-- what a core holds: its cached lines, and the line in its write-combining buffer
pub record CoreHolds : Type 0 where
  pub lines : List Entry
  pub out : Option Out

-- the state of a lab: the shared words, what each core holds, which core has each register, and what was printed
pub record Stand : Type 0 where
  pub memory : Memory
  pub cores : List CoreHolds
  pub holders : List (Option ℕ)
  pub said : List Said

-- the result of a step: the state after it, and why the lab stops there, if it does
pub record Done : Type 0 where
  pub stand : Stand
  pub stop : Option Stopped

-- a core with no cached line and an empty buffer
abbrev pub holds_nothing : CoreHolds
holds_nothing = record { lines = []; out = None }

-- what the core of this number holds
abbrev pub core_at : List CoreHolds → ℕ → CoreHolds
core_at cores me = slice_index_or cores me holds_nothing

-- one core and the shared words, taken from the state of a lab
abbrev pub scene_at : ℕ → Stand → CoreScene
scene_at me t = record { memory = t.memory; lines = (core_at t.cores me).lines; out = (core_at t.cores me).out; said = t.said }

-- the state of a lab, with one core and the shared words replaced
abbrev pub with_scene : ℕ → Stand → CoreScene → Stand
with_scene me t s =
    record { memory = s.memory; cores = slice_set t.cores me (record { lines = s.lines; out = s.out }); holders = t.holders; said = s.said }

-- a core after one of its actions; takes and frees change nothing here
abbrev pub after_action : ℕ → Action → CoreScene → CoreScene
after_action me (action.WriteWord at value) s = word_written me at value s
after_action me (action.WriteLine at words) s = line_written me at words s
after_action me (action.ReadWord at evict expect) s = word_read me at evict s
after_action me (action.ReadLine at evict expect) s = line_read me at evict s
after_action me action.Flush s = after_flushing me s
after_action me action.Invalidate s = after_invalidate s
after_action me (action.Put at words) s = line_put me at words s
after_action me (action.Get at expect) s = line_got me at s
after_action me (action.Load at expect) s = after_load me at s
after_action me (action.Store at value) s = after_store me at value s
after_action me (action.Take register expect) s = s
after_action me (action.Free register) s = s
after_action me action.Print s = after_print me s

-- why a lab stops at a read of a word: it returned another value than the expected one
abbrev pub unmet_word : ℕ → WordAt → ℕ → Option ℕ → Option Stopped
unmet_word line at came None = None
unmet_word line at came (Some expected) = if came == expected then None else Some (stopped.Value line at came expected)

-- the first value if there is one, or else the second
abbrev pub or_else : {A : Type 0} → Option A → Option A → Option A
or_else (Some x) other = Some x
or_else None other = other

-- why a lab stops at a read of a line: its first word that differs from the expected one
abbrev pub unmet_line : ℕ → LineAt → List ℕ → Option (List ℕ) → Option Stopped
unmet_line line at came None = None
unmet_line line at came (Some expected) =
    or_else (unmet_word line (word_of_line at 0) (slice_index came 0) (Some (slice_index expected 0)))
    (or_else (unmet_word line (word_of_line at 1) (slice_index came 1) (Some (slice_index expected 1)))
    (or_else (unmet_word line (word_of_line at 2) (slice_index came 2) (Some (slice_index expected 2)))
    (unmet_word line (word_of_line at 3) (slice_index came 3) (Some (slice_index expected 3)))))

-- why a lab stops at a core's action, if it does; takes and frees never stop it here
abbrev pub act_stop : ℕ → ℕ → Action → CoreScene → Option Stopped
act_stop line me (action.WriteWord at value) s = None
act_stop line me (action.WriteLine at words) s = None
act_stop line me (action.ReadWord at evict expect) s = unmet_word line at (answer at s) expect
act_stop line me (action.ReadLine at evict expect) s = unmet_line line at (line_answer me at evict s) expect
act_stop line me action.Flush s = None
act_stop line me action.Invalidate s = None
act_stop line me (action.Put at words) s = None
act_stop line me (action.Get at expect) s = unmet_line line at (line_in (after_flushing me s).memory at) expect
act_stop line me (action.Load at expect) s = unmet_word line at (word_at s.memory at) expect
act_stop line me (action.Store at value) s = None
act_stop line me (action.Take register expect) s = None
act_stop line me (action.Free register) s = None
act_stop line me action.Print s = None

-- which core has a register, if any
abbrev pub holder_of : List (Option ℕ) → ℕ → Option ℕ
holder_of holders register = slice_index_or holders register None

-- whether the register's holder is this core
abbrev pub is_holder : ℕ → Option ℕ → Bool
is_holder me None = false
is_holder me (Some core) = core == me

-- whether a take returned the expected answer
abbrev pub is_same : Bool → Bool → Bool
is_same true expected = expected
is_same false expected = not expected

-- why a lab stops at a take: it returned another answer than the expected one
abbrev pub unmet_take : ℕ → Bool → Option Bool → Option Stopped
unmet_take line took None = None
unmet_take line took (Some expected) = if is_same took expected then None else Some (stopped.Take line took)

-- the state after a read of a register, which took it or found it taken
abbrev pub register_read : ℕ → ℕ → Bool → Stand → Stand
register_read me register took t = record {
  memory = memory_after t.memory (take_of register took);
  cores = t.cores;
  holders = if took then slice_set t.holders register (Some me) else t.holders;
  said = t.said ++ said.Takes me register took ∷ [];
}

-- a take: it takes a free register, finds a register of another core taken, and stops the lab at a register that its own core has
abbrev pub take_made : ℕ → ℕ → ℕ → Option Bool → Stand → Option ℕ → Done
take_made line me register expect t holder =
    if is_holder me holder then (record { stand = t; stop = Some (stopped.Holds line me register) })
    else (record { stand = register_read me register (is_none holder) t; stop = unmet_take line (is_none holder) expect })

-- the state after a register was freed
abbrev pub register_freed : ℕ → ℕ → Stand → Stand
register_freed me register t = record {
  memory = memory_after t.memory (free_of register);
  cores = t.cores;
  holders = slice_set t.holders register None;
  said = t.said ++ said.Frees me register ∷ [];
}

-- a free: it frees a register that its own core has, and stops the lab at any other
abbrev pub free_made : ℕ → ℕ → ℕ → Stand → Option ℕ → Done
free_made line me register t holder =
    if is_holder me holder then (record { stand = register_freed me register t; stop = None })
    else (record { stand = t; stop = Some (stopped.HoldsNot line me register) })

-- the result of an action that needs no register
abbrev pub core_done : ℕ → ℕ → Action → Stand → Done
core_done line me act t =
    record { stand = with_scene me t (after_action me act (scene_at me t)); stop = act_stop line me act (scene_at me t) }

-- the result of any action: takes and frees depend on who holds the register, all others only on the core
abbrev pub action_done : ℕ → ℕ → Action → Stand → Done
action_done line me (action.Take register expect) t = take_made line me register expect t (holder_of t.holders register)
action_done line me (action.Free register) t = free_made line me register t (holder_of t.holders register)
action_done line me (action.WriteWord at value) t = core_done line me (action.WriteWord at value) t
action_done line me (action.WriteLine at words) t = core_done line me (action.WriteLine at words) t
action_done line me (action.ReadWord at evict expect) t = core_done line me (action.ReadWord at evict expect) t
action_done line me (action.ReadLine at evict expect) t = core_done line me (action.ReadLine at evict expect) t
action_done line me action.Flush t = core_done line me action.Flush t
action_done line me action.Invalidate t = core_done line me action.Invalidate t
action_done line me (action.Put at words) t = core_done line me (action.Put at words) t
action_done line me (action.Get at expect) t = core_done line me (action.Get at expect) t
action_done line me (action.Load at expect) t = core_done line me (action.Load at expect) t
action_done line me (action.Store at value) t = core_done line me (action.Store at value) t
action_done line me action.Print t = core_done line me action.Print t

-- the state after the line of a step is printed
abbrev pub with_line_begun : Step → Stand → Stand
with_line_begun step t = record t { said = t.said ++ said.Begins step.line step.text ∷ [] }

-- the result of a step
abbrev pub step_done : Step → Stand → Done
step_done step t = action_done step.line step.core step.action (with_line_begun step t)

-- the result of what follows a step, or of the step itself if it stopped the lab
abbrev pub unless_stopped : Stand → Option Stopped → (Stand → Done) → Done
unless_stopped t (Some why) next = record { stand = t; stop = Some why }
unless_stopped t None next = next t

-- the result of steps, one after the other
abbrev pub steps_done : List Step → Stand → Done
steps_done [] t = record { stand = t; stop = None }
steps_done (step ∷ steps) t = unless_stopped (step_done step t).stand (step_done step t).stop (steps_done steps)

-- the first state: all words are 0, all registers are free, and no core holds anything
unfoldable pub lab_start : Stand
lab_start = record { memory = zeros; cores = replicate 48 holds_nothing; holders = replicate 48 None; said = [] }

-- the result of a lab
abbrev pub lab_done : List Step → Done
lab_done steps = steps_done steps lab_start
