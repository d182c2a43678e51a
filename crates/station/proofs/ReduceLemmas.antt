-- What the steps of a broadcast and of a reduction come to.
use Rattle.std.proofs.Common.{◌≡◌, ℕ, suc, Bool, true, false, List, [], ◌∷◌, ◌++◌, length, Option, Some, None, refl, sym, ap, ◌∙◌, subst, append_assoc, append-nil}
use Rattle.std.specs.Prelude.{cond}
use Rattle.scc_base.specs.Calls.{DataCall}
use Rattle.scc_base.specs.Calls.DataCall.{Send as CallSend, Recv as CallRecv}
use Rattle.scc_base.specs.Heads.{MessageHead}
use Rattle.scc_base.specs.declared.kinds.Kind.TheVariants as kind
use Rattle.scc_proto.specs.Ports.{Seat, Sight, record_in}
use Rattle.groups.specs.Collectives.{fold_each, head_of_kind, other_steps, root_steps, send_each}
use Rattle.groups.specs.Folds.{fold_of, fold_values}
use Rattle.groups.specs.declared.collectives.Coll.{Coll}
use Rattle.groups.specs.declared.collectives.Coll.TheVariants.{Bcast, Reduce, Allreduce}
use Rattle.groups.specs.declared.collectives.Step.{Step}
use Rattle.groups.specs.declared.collectives.Step.TheVariants.{Begin, Finish}
use Rattle.station.specs.Groups.{GroupRank, GroupStart, HasRunGroup, IsSameCall, in_group_call, new_group, part_in, start_at, steps_at}
use Rattle.station.specs.Stations.{StationAt}
use Rattle.station.specs.declared.steps.GroupOp.{GroupOp}
use Rattle.station.specs.Reductions.{AllreduceBy, AllreduceDoes, GainsCalls, GainsSince, GroupCall, ReduceBy, ReduceDoes, bcast_by, bcast_calls, group_call, is_root_of, other_ranks, receives_from, root_rank, sends_to}
use Rattle.station.specs.Steps.{Held, GroupPart, StepsDo, part_by}
use Rattle.station.specs.declared.steps.Folding.{Folding}

-- steps in two parts
pub record InTwo (p : GroupPart) (xs ys : List Step) (old new : Held) (calls : List DataCall) : Type 0 where
  pub mid : Held
  pub first : List DataCall
  pub rest : List DataCall
  pub one : StepsDo p xs old mid first
  pub two : StepsDo p ys mid new rest
  pub all : calls ≡ first ++ rest

in_two : (p : GroupPart) (xs ys : List Step) (old new : Held) (calls : List DataCall) → StepsDo p (xs ++ ys) old new calls → InTwo p xs ys old new calls
in_two p [] ys old new calls did = record { mid = old; first = []; rest = calls; one = (refl, refl); two = did; all = refl }
in_two p (x ∷ xs) ys old new calls did =
    let later = in_two p xs ys did.0 new did.2 did.4 in
    record {
      mid = later.mid;
      first = did.1 ++ later.first;
      rest = later.rest;
      one = (did.0, did.1, later.first, did.3, later.one, refl);
      two = later.two;
      all = did.5 ∙ ap (λ (l : List DataCall). did.1 ++ l) later.all ∙ sym (append_assoc did.1 later.first later.rest);
    }

-- sends of the root leave its buffers
sends_do : (folding : Option Folding) (input : List ℕ) (head : MessageHead) (xs : List ℕ) (old new : Held) (calls : List DataCall)
    → StepsDo (part_by true folding input) (send_each head xs) old new calls → (new ≡ old) × (calls ≡ sends_to head old.output xs)
sends_do folding input head [] old new calls did = did
sends_do folding input head (x ∷ xs) old new calls did =
    let rest = sends_do folding input head xs did.0 new did.2 did.4 in
    (rest.0 ∙ did.3.0, did.5 ∙ (λ i. did.3.1 i ++ rest.1 i) ∙ ap (λ (h : Held). CallSend x head old.output ∷ sends_to head h.output xs) did.3.0)

-- what folds come to
pub record Folds (how : Folding) (head : MessageHead) (xs : List ℕ) (first result : List ℕ) (calls : List DataCall) : Type 0 where
  pub pieces : List (List ℕ)
  pub each : length pieces ≡ length xs
  pub calls_are : calls ≡ receives_from head xs pieces
  pub result_is : result ≡ fold_of how.op how.ty first pieces

folds_do : (how : Folding) (input : List ℕ) (head : MessageHead) (xs : List ℕ) (old new : Held) (calls : List DataCall)
    → StepsDo (part_by true (Some how) input) (fold_each head xs) old new calls → Folds how head xs old.output new.output calls
folds_do how input head [] old new calls did =
    record { pieces = []; each = refl; calls_are = did.1; result_is = ap (λ (h : Held). h.output) did.0 }
folds_do how input head (x ∷ xs) old new calls did =
    let got = did.3 in
    let more = did.4 in
    let later = folds_do how input head xs more.0 new more.2 more.4 in
    let bytes : List ℕ = got.0 in
    let folded_is : more.0 ≡ record { output = fold_values how.op how.ty old.output bytes; work = bytes } =
    more.3.0 ∙ ap (λ (h : Held). record h { output = fold_values how.op how.ty h.output h.work }) got.1 in
    record {
      pieces = bytes ∷ later.pieces;
      each = ap suc later.each;
      calls_are = did.5 ∙ (λ i. got.2 i ++ more.5 i) ∙ (λ i. CallRecv x head bytes ∷ (more.3.1 i ++ later.calls_are i));
      result_is = later.result_is ∙ ap (λ (h : Held). fold_of how.op how.ty h.output later.pieces) folded_is;
    }

-- ---- whole calls

abbrev steps_by : Bool → GroupCall → List Step
steps_by root c = cond root (root_steps c.coll (other_ranks c)) (other_steps c.coll (root_rank c))

pub bcast_does : (root : Bool) (input : List ℕ) (seat : Seat) (comm place len : ℕ) (old new : Held) (calls : List DataCall)
    → StepsDo (part_by root None input) (steps_by root (group_call seat (Bcast comm place len) [])) old new calls
    → (calls ≡ bcast_by root (group_call seat (Bcast comm place len) []) new.output) × (root ≡ true → new ≡ old)
bcast_does true input seat comm place len old new calls did =
    let c = group_call seat (Bcast comm place len) [] in
    let head = head_of_kind kind.Bcast comm len in
    let done = sends_do None input head (other_ranks c) old new calls did in
    (done.1 ∙ ap (λ (h : Held). sends_to head h.output (other_ranks c)) (sym done.0), λ is. done.0)
bcast_does false input seat comm place len old new calls did =
    let c = group_call seat (Bcast comm place len) [] in
    let head = head_of_kind kind.Bcast comm len in
    let got = did.3 in
    let more = did.4 in
    let kept : new ≡ did.0 = more.4.0 ∙ more.3.0 in
    let rest : did.2 ≡ [] = more.5 ∙ (λ i. more.3.1 i ++ more.4.1 i) in
    let bytes : new.output ≡ got.0 = ap (λ (h : Held). h.output) (kept ∙ got.1) in
    (did.5 ∙ (λ i. got.2 i ++ rest i) ∙ ap (λ (b : List ℕ). CallRecv (root_rank c) head b ∷ []) (sym bytes), λ is. absurd (cc))

-- the root's begin and its folds
begins_folds : (how : Folding) (input : List ℕ) (head : MessageHead) (xs : List ℕ) (old new : Held) (calls : List DataCall)
    → StepsDo (part_by true (Some how) input) (Begin ∷ fold_each head xs) old new calls → Folds how head xs input new.output calls
begins_folds how input head xs old new calls did =
    let later = folds_do how input head xs did.0 new did.2 did.4 in
    record {
      pieces = later.pieces;
      each = later.each;
      calls_are = did.5 ∙ (λ i. did.3.1 i ++ later.calls_are i);
      result_is = later.result_is ∙ ap (λ (h : Held). fold_of how.op how.ty h.output later.pieces) did.3.0;
    }

-- the last step of the root does nothing
ends : (p : GroupPart) (old new : Held) (calls : List DataCall) → StepsDo p (Finish ∷ []) old new calls → (new ≡ old) × (calls ≡ [])
ends p old new calls did = (did.4.0 ∙ did.3.0, did.5 ∙ (λ i. did.3.1 i ++ did.4.1 i))

pub reduce_does : (root : Bool) (how : Folding) (seat : Seat) (comm place len : ℕ) (input : List ℕ) (old new : Held) (calls : List DataCall)
    → StepsDo (part_by root (Some how) input) (steps_by root (group_call seat (Reduce comm place len) input)) old new calls
    → ReduceBy root how (group_call seat (Reduce comm place len) input) old new calls
reduce_does true how seat comm place len input old new calls did =
    let c = group_call seat (Reduce comm place len) input in
    let head = head_of_kind kind.Reduce comm len in
    let two = in_two (part_by true (Some how) input) (Begin ∷ fold_each head (other_ranks c)) (Finish ∷ []) old new calls did in
    let folds = begins_folds how input head (other_ranks c) old two.mid two.first two.one in
    let end = ends (part_by true (Some how) input) two.mid new two.rest two.two in
    record {
      pieces = folds.pieces;
      each = folds.each;
      calls_are = two.all ∙ (λ i. two.first ++ end.1 i) ∙ append-nil two.first ∙ folds.calls_are;
      result_is = ap (λ (h : Held). h.output) end.0 ∙ folds.result_is;
    }
reduce_does false how seat comm place len input old new calls did =
    (did.4.0 ∙ did.3.0, did.5 ∙ (λ i. did.3.1 i ++ did.4.1 i))

pub allreduce_does : (root : Bool) (how : Folding) (seat : Seat) (comm len : ℕ) (input : List ℕ) (old new : Held) (calls : List DataCall)
    → StepsDo (part_by root (Some how) input) (steps_by root (group_call seat (Allreduce comm len) input)) old new calls
    → AllreduceBy root how (group_call seat (Allreduce comm len) input) old new calls
allreduce_does true how seat comm len input old new calls did =
    let c = group_call seat (Allreduce comm len) input in
    let p = part_by true (Some how) input in
    let up = head_of_kind kind.AllUp comm len in
    let down = head_of_kind kind.AllDown comm len in
    let both = in_two p (Begin ∷ fold_each up (other_ranks c) ++ send_each down (other_ranks c)) (Finish ∷ []) old new calls did in
    let parts = in_two p (Begin ∷ fold_each up (other_ranks c)) (send_each down (other_ranks c)) old both.mid both.first both.one in
    let folds = begins_folds how input up (other_ranks c) old parts.mid parts.first parts.one in
    let shares = sends_do (Some how) input down (other_ranks c) parts.mid both.mid parts.rest parts.two in
    let end = ends p both.mid new both.rest both.two in
    let same : new ≡ parts.mid = end.0 ∙ shares.0 in
    record {
      up = parts.first;
      gathers = record {
        pieces = folds.pieces;
        each = folds.each;
        calls_are = folds.calls_are;
        result_is = ap (λ (h : Held). h.output) same ∙ folds.result_is;
      };
      calls_are = both.all ∙ (λ i. both.first ++ end.1 i) ∙ append-nil both.first ∙ parts.all ∙ ap (λ (l : List DataCall). parts.first ++ l) shares.1
          ∙ ap (λ (h : Held). parts.first ++ sends_to down h.output (other_ranks c)) (sym same);
    }
allreduce_does false how seat comm len input old new calls did =
    let c = group_call seat (Allreduce comm len) input in
    let down = head_of_kind kind.AllDown comm len in
    let sent = did.3 in
    let more = did.4 in
    let got = more.3 in
    let left = more.4 in
    let kept : new ≡ more.0 = left.4.0 ∙ left.3.0 in
    let rest : more.2 ≡ [] = left.5 ∙ (λ i. left.3.1 i ++ left.4.1 i) in
    let bytes : new.output ≡ got.0 = ap (λ (h : Held). h.output) (kept ∙ got.1) in (
      ap (λ (h : Held). h.work) (kept ∙ got.1 ∙ ap (λ (h : Held). record h { output = got.0 }) sent.0),
      did.5 ∙ (λ i. sent.1 i ++ (more.5 ∙ (λ j. got.2 j ++ rest j)) i)
          ∙ ap (λ (b : List ℕ). CallSend (root_rank c) (head_of_kind kind.AllUp comm len) input ∷ CallRecv (root_rank c) down b ∷ []) (sym bytes),
    )

-- ---- at a rank

module _ (start : GroupStart) (r : GroupRank) where
  run_by : (coll : Coll) (folding : Option Folding) → IsSameCall (new_group coll folding) r.op → (run : HasRunGroup start r)
      → StepsDo (part_in r.sight.seat (new_group coll folding) r.input) (steps_at r.sight.seat (new_group coll folding)) start.held r.held run.run.calls
  run_by coll folding same run =
      let seat = r.sight.seat in
      subst (λ (f : Option Folding). StepsDo (part_in seat (new_group coll f) r.input) (steps_at seat (new_group coll f)) start.held r.held run.run.calls) same.folding
      (subst (λ (x : Coll). StepsDo (part_in seat (new_group x r.op.folding) r.input) (steps_at seat (new_group x r.op.folding)) start.held r.held run.run.calls) same.coll run.run.did)

  pub same_run : (op : GroupOp) → IsSameCall op r.op → HasRunGroup start r → HasRunGroup start (record r { op = op })
  same_run op same run = record {
    run = record {
      calls = run.run.calls;
      did = run_by op.coll op.folding (record { coll = same.coll; folding = same.folding }) run;
      made = run.run.made;
    };
    free = run.free;
  }

  pub reduced_run : (how : Folding) (comm place len : ℕ) → IsSameCall (new_group (Reduce comm place len) (Some how)) r.op → HasRunGroup start r
      → GainsSince start r.sight (λ calls. ReduceDoes how (group_call r.sight.seat (Reduce comm place len) r.input) start.held r.held calls)
  reduced_run how comm place len same run = (
    run.run.calls,
    run.run.made,
    reduce_does (is_root_of (group_call r.sight.seat (Reduce comm place len) r.input)) how r.sight.seat comm place len r.input start.held r.held run.run.calls
        (run_by (Reduce comm place len) (Some how) same run),
  )

  pub allreduced_run : (how : Folding) (comm len : ℕ) → IsSameCall (new_group (Allreduce comm len) (Some how)) r.op → HasRunGroup start r
      → GainsSince start r.sight (λ calls. AllreduceDoes how (group_call r.sight.seat (Allreduce comm len) r.input) start.held r.held calls)
  allreduced_run how comm len same run = (
    run.run.calls,
    run.run.made,
    allreduce_does (is_root_of (group_call r.sight.seat (Allreduce comm len) r.input)) how r.sight.seat comm len r.input start.held r.held run.run.calls
        (run_by (Allreduce comm len) (Some how) same run),
  )

  module _ (comm place len : ℕ) (same : IsSameCall (new_group (Bcast comm place len) None) r.op) (run : HasRunGroup start r) where
    bcast_run : (run.run.calls ≡ bcast_calls (group_call r.sight.seat (Bcast comm place len) []) r.held.output)
        × (is_root_of (group_call r.sight.seat (Bcast comm place len) []) ≡ true → r.held ≡ start.held)
    bcast_run = bcast_does (is_root_of (group_call r.sight.seat (Bcast comm place len) [])) r.input r.sight.seat comm place len start.held r.held run.run.calls
        (run_by (Bcast comm place len) None same run)

    pub bcast_calls_run : (record_in r.sight).calls ≡ start.calls ++ bcast_calls (group_call r.sight.seat (Bcast comm place len) []) r.held.output
    bcast_calls_run = run.run.made ∙ ap (λ (l : List DataCall). start.calls ++ l) bcast_run.0

    pub bcast_kept_run : is_root_of (group_call r.sight.seat (Bcast comm place len) []) ≡ true → r.held ≡ start.held
    bcast_kept_run is = bcast_run.1 is

-- ---- at a rank whose call ended at once

module _ (s t : Sight) (b : StationAt) (old new : Held) (seat : t.seat ≡ s.seat) where
  pub reduced_at : (input : List ℕ) (how : Folding) (comm place len : ℕ)
      → HasRunGroup (start_at s old) (in_group_call t b (new_group (Reduce comm place len) (Some how)) input new)
      → GainsCalls s t (λ calls. ReduceDoes how (group_call s.seat (Reduce comm place len) input) old new calls)
  reduced_at input how comm place len run =
      subst (λ (x : Seat). GainsCalls s t (λ calls. ReduceDoes how (group_call x (Reduce comm place len) input) old new calls)) seat
      (reduced_run (start_at s old) _ how comm place len (record { coll = refl; folding = refl }) run)

  pub allreduced_at : (input : List ℕ) (how : Folding) (comm len : ℕ)
      → HasRunGroup (start_at s old) (in_group_call t b (new_group (Allreduce comm len) (Some how)) input new)
      → GainsCalls s t (λ calls. AllreduceDoes how (group_call s.seat (Allreduce comm len) input) old new calls)
  allreduced_at input how comm len run =
      subst (λ (x : Seat). GainsCalls s t (λ calls. AllreduceDoes how (group_call x (Allreduce comm len) input) old new calls)) seat
      (allreduced_run (start_at s old) _ how comm len (record { coll = refl; folding = refl }) run)

  module _ (comm place len : ℕ) (run : HasRunGroup (start_at s old) (in_group_call t b (new_group (Bcast comm place len) None) [] new)) where
    pub bcast_made : (record_in t).calls ≡ (record_in s).calls ++ bcast_calls (group_call s.seat (Bcast comm place len) []) new.output
    bcast_made = subst (λ (x : Seat). (record_in t).calls ≡ (record_in s).calls ++ bcast_calls (group_call x (Bcast comm place len) []) new.output) seat
        (bcast_calls_run (start_at s old) _ comm place len (record { coll = refl; folding = refl }) run)

    pub bcast_kept : is_root_of (group_call s.seat (Bcast comm place len) []) ≡ true → new.output ≡ old.output
    bcast_kept = subst (λ (x : Seat). is_root_of (group_call x (Bcast comm place len) []) ≡ true → new.output ≡ old.output) seat
        (λ is. ap (λ (h : Held). h.output) (bcast_kept_run (start_at s old) _ comm place len (record { coll = refl; folding = refl }) run is))
