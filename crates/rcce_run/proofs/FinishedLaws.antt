-- Whether all ranks of a script finish, by the answer of its run.
use Rattle.std.proofs.Common.{◌≡◌, ◌≢◌, ℕ, ◌<◌, Bool, true, false, ◌&&◌, List, [], ◌∷◌, length, slice_index_or, suc, refl, ap, ◌∙◌, arith}
use Rattle.std.specs.List.{list_all, range_with_len}
use Rattle.std.proofs.lemmas.List.{get_or_default, length-map}
use Rattle.std.proofs.lemmas.List.Folds.{list_all_at}
use Rattle.std.proofs.lemmas.List.FromFn.{length-range_with_len}
use Rattle.script_rules.specs.Script.{Script}
use Rattle.script_machine.specs.declared.ends.UeEnd.{UeEnd}
use Rattle.script_machine.specs.declared.ends.UeEnd.TheVariants as ue_end
use Rattle.plain_meaning.specs.Ends.{Ended, all_finished, ended_at, is_rank_finished, nothing_ended}
use Rattle.plain_meaning.specs.Meaning.{locals_of, plain_end, plain_ends}
use Rattle.plain_meaning.proofs.Runs.PlainLaws.{length-plain_end}
use Rattle.rcce_run.specs.Crews.{EndsAs}
use Rattle.chip_run.specs.declared.ends.RunEnd.TheVariants as run_end

-- one end for each rank
pub plain_count : (script : Script) → length (plain_ends script) ≡ script.nue
plain_count script =
    length-map (range_with_len 0 (length (locals_of (plain_end script)))) _
    ∙ length-range_with_len 0 (length (locals_of (plain_end script))) ∙ length-plain_end script

-- all pass where each does
all_by : {X : Type 0} (p : X → Bool) (xs : List X) → ((i : ℕ) (d : X) → i < length xs → p (slice_index_or xs i d) ≡ true) → list_all p xs ≡ true
all_by p [] each = refl
all_by p (x ∷ xs) each = ap (λ (b : Bool). b && list_all p xs) (each 0 x (omega arith)) ∙ all_by p xs (λ i d low. each (suc i) d (omega (arith, low)))

unfinished : (end : UeEnd) → end ≢ ue_end.Finished → is_rank_finished end ≡ false
unfinished ue_end.Finished not = absurd (not refl)
unfinished (ue_end.Waits line call) not = refl
unfinished (ue_end.Mismatch line from sent asked) not = refl

-- a run that finished
pub finished_all : (script : Script) → EndsAs run_end.Finished script → all_finished (plain_ends script) ≡ true
finished_all script ends =
    all_by (λ (ue : Ended). is_rank_finished ue.end) (plain_ends script) (λ i d low.
    ap is_rank_finished (ap (λ (ue : Ended). ue.end) (get_or_default (plain_ends script) i d nothing_ended low) ∙ ends i (omega (arith, low, plain_count script))))

-- and one that did not
pub stuck_one : (script : Script) → EndsAs run_end.Stuck script → all_finished (plain_ends script) ≡ false
stuck_one script ends =
    list_all_at (λ (ue : Ended). is_rank_finished ue.end) (plain_ends script) ends.0 nothing_ended
    (let few = ends.1 in omega (arith, few, plain_count script)) (unfinished (ended_at (plain_ends script) ends.0).end ends.2)
