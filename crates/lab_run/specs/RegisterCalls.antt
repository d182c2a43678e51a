-- The calls of tas_lock, as steps on a lab's registers (RCCE specification 2.0: locks over the test-and-set registers).
use Rattle.std.specs.Prelude.{◌≡◌, ℕ, Bool, true, false, List, [], ◌∷◌, Option, None, is_some}
use Rattle.scc_base.specs.Events.{take_of, free_of}
use Rattle.scc_base.specs.declared.events.Event.{Event}
use Rattle.scc_proto.specs.Ports.{Sight, Did}
use Rattle.scc_proto.specs.Words.{IsStep}
use Rattle.chip_memory.specs.Chips.{of_rank_all}
use Rattle.lab_plain.specs.declared.said.Said.{Said}
use Rattle.lab_plain.specs.declared.said.Said.TheVariants as said
use Rattle.lab_plain.specs.Meaning.{Done, Stand, free_made, holder_of, is_holder, register_freed, register_read, take_made, unmet_take}
use Rattle.lab_run.specs.Accesses.{accesses_told}
use Rattle.lab_run.specs.Stands.{held_word}

-- A call on a register: its port made the access that a lab prints, and the lab's step has this result.
pub record IsRegisterCall (me : ℕ) (said : Said) (old new : Sight) (done comes : Done) : Type 0 where
  pub events : List Event
  pub did : Did old events new
  pub access : accesses_told said ≡ of_rank_all me events
  pub same : done ≡ comes

-- Each call of tas_lock, by its relation and over any port, is a step of a lab's core. `try_acquire` makes one take, which was a step of
-- the shared words (`takes`, `step`). If the register's word is 1 exactly when some core has it, a lab's take has the same answer.
-- `release` makes one free (`frees`).
pub record RegisterCallsLaw : Type 0 where
  pub take : (line me k : ℕ) (expect : Option Bool) (t : Stand) (old new : Sight) (held : Option ℕ)
      → is_holder me (holder_of t.holders k) ≡ false → t.memory.register k ≡ held_word (holder_of t.holders k)
      → Did old (take_of k (is_some held) ∷ []) new → IsStep t.memory (take_of k (is_some held))
      → IsRegisterCall me (said.Takes me k (is_some held)) old new (take_made line me k expect t (holder_of t.holders k))
      (record { stand = register_read me k (is_some held) t; stop = unmet_take line (is_some held) expect })
  pub free : (line me k : ℕ) (t : Stand) (old new : Sight) → is_holder me (holder_of t.holders k) ≡ true → Did old (free_of k ∷ []) new
      → IsRegisterCall me (said.Frees me k) old new (free_made line me k t (holder_of t.holders k))
      (record { stand = register_freed me k t; stop = None })
