-- A single load or store of a core, as a change of its scene.
use Rattle.std.proofs.Common.{◌≡◌, ℕ, List, [], ◌∷◌, ◌++◌, refl, sym, ◌∙◌, ap, subst}
use Rattle.scc_base.specs.Places.{WordAt, line_of_word}
use Rattle.scc_base.specs.Events.{load_of, store_of}
use Rattle.scc_proto.specs.Permission.{leaves_heap}
use Rattle.scc_proto.specs.Words.{IsRun, RankEvent, word_at, zeros}
use Rattle.scc_proto.specs.Ports.{Did, MayMake, record_in}
use Rattle.put_get.specs.Cores.{Private}
use Rattle.chip_memory.proofs.ListLaws.{run_left}
use Rattle.chip_memory.specs.Chips.{TurnChipView, all_events, of_rank_all, turn_sight}
use Rattle.lab_reader.specs.Places.{IsInHeap}
use Rattle.lab_plain.specs.declared.said.Said.{Said}
use Rattle.lab_plain.specs.declared.said.Said.TheVariants.{Answers, LoadsWord, StoresWord}
use Rattle.lab_plain.specs.declared.said.Source.TheVariants.{Words}
use Rattle.lab_plain.specs.Scenes.{after_load, after_store}
use Rattle.lab_run.specs.Turns.{MayGoOn, CoreTurned, memory_in}
use Rattle.lab_run.proofs.HeapEvents.{all_did, quiet, went}
use Rattle.lab_run.proofs.ToldLaws.{told_by}
use Rattle.lab_run.proofs.TurnLaws.{in_heap, ready_after}

pub may_store : (c : Private) (s : TurnChipView) (p : WordAt) (v : ℕ) → MayGoOn c s → IsInHeap (line_of_word p)
    → MayMake (turn_sight s).seat (record_in (turn_sight s)) (store_of p v)
may_store c s p v ready heap =
    (quiet (turn_sight s).seat ready.setup.valid (record_in (turn_sight s)) (store_of p v ∷ []) (ap leaves_heap ready.idle)
    (in_heap s.setup (line_of_word p) ready.setup heap, tt)).may.0

pub stored_turn : (c : Private) (s t : TurnChipView) (p : WordAt) (v : ℕ) (said told : List Said) → MayGoOn c s → IsInHeap (line_of_word p)
    → Did (turn_sight s) (store_of p v ∷ []) (turn_sight t) → told ≡ said ++ StoresWord s.rank p v ∷ [] → CoreTurned (after_store s.rank p v) c s said c t told
stored_turn c s t p v said told ready heap did prints =
    let w = went s t (store_of p v ∷ []) ready.setup.valid ready.idle (in_heap s.setup (line_of_word p) ready.setup heap, tt) did in
    record {
      scene = λ i. record { memory = w.memory i; lines = c.lines; out = c.out; said = prints i };
      ready = ready_after c c s t ready w.kept ready.awaits;
      kept = w.kept;
      tells = told_by s t (store_of p v ∷ []) said (StoresWord s.rank p v ∷ []) told did prints refl;
    }

-- the loaded word is the shared one
pub word_loaded : (old new : TurnChipView) (p : WordAt) (v : ℕ) → Did (turn_sight old) (load_of p v ∷ []) (turn_sight new) → IsRun zeros (all_events new) → v ≡ word_at (memory_in old) p
unfolding memory_in
word_loaded old new p v did run =
    sym (run_left zeros (all_events old) (of_rank_all old.rank (load_of p v ∷ [])) (subst (λ (l : List RankEvent). IsRun zeros l) (all_did old new (load_of p v ∷ []) did) run)).0

pub read_alone : (c : Private) (s t : TurnChipView) (p : WordAt) (v : ℕ) (said told : List Said) → MayGoOn c s → IsInHeap (line_of_word p)
    → Did (turn_sight s) (load_of p v ∷ []) (turn_sight t) → v ≡ word_at (memory_in s) p → told ≡ said ++ LoadsWord s.rank p v ∷ Answers p v Words ∷ []
    → CoreTurned (after_load s.rank p) c s said c t told
read_alone c s t p v said told ready heap did value prints =
    let w = went s t (load_of p v ∷ []) ready.setup.valid ready.idle (in_heap s.setup (line_of_word p) ready.setup heap, tt) did in
    record {
      scene = λ i. record { memory = w.memory i; lines = c.lines; out = c.out; said = (prints ∙ (λ j. said ++ LoadsWord s.rank p (value j) ∷ Answers p (value j) Words ∷ [])) i };
      ready = ready_after c c s t ready w.kept ready.awaits;
      kept = w.kept;
      tells = told_by s t (load_of p v ∷ []) said (LoadsWord s.rank p v ∷ Answers p v Words ∷ []) told did prints refl;
    }
