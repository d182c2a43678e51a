-- A collective call over a communicator, step after step.
use Rattle.std.proofs.Common.{◌≡◌, ℕ, zero, suc, ◌+◌, ◌≤◌, ◌==◌, ◌%◌, Bool, true, false, List, [], ◌∷◌, ◌++◌, length, take, Option, Some, None, slice_get, refl, sym, ap, ◌∙◌, subst, arith, append_assoc, append-nil}
use Rattle.std.proofs.lemmas.List.{take_all}
use Rattle.std.proofs.lemmas.Option.{same_Some, slice_get_within}
use Rattle.scc_base.specs.Calls.{DataCall}
use Rattle.scc_base.specs.Heads.{MessageHead}
use Rattle.scc_base.specs.Setups.{SetupView, members_of, place_of}
use Rattle.scc_base.specs.declared.kinds.Kind.TheVariants as kind
use Rattle.scc_proto.specs.Ports.{Seat, Sight, record_in}
use Rattle.scc_proto.proofs.PortLaws.{did_both, did_nothing}
use Rattle.sync_flags.specs.Tries.{TryFailed}
use Rattle.send_recv.specs.Sights.{layout_at}
use Rattle.send_recv.specs.Tries.{aim_of}
use Rattle.send_recv.proofs.Loops.RecvLoop.{rest_both, rest_itself}
use Rattle.groups.specs.Collectives.{IsCallable, comm_of, fold_each, head_of_kind, other_steps, others_of, root_place, root_steps, send_each, steps_of}
use Rattle.groups.specs.Folds.{bytes_in as value_bytes}
use Rattle.groups.specs.declared.collectives.Coll.{Coll}
use Rattle.groups.specs.declared.collectives.Coll.TheVariants.{Bcast, Reduce, Allreduce}
use Rattle.groups.specs.declared.collectives.Step.{Step}
use Rattle.groups.specs.declared.collectives.Step.TheVariants.{Begin, Send, Recv, Fold, Finish}
use Rattle.std.specs.Prelude.{cond, slice_index}
use Rattle.station.specs.Calls.{OnlyMessages}
use Rattle.station.specs.Groups.{AreFit, FoldFits, GroupStart, HasStepped, HasRunGroup, HaveRun, IsFoldable, IsInGroup, SaysWhyGroup, SaysWhyStep, StandsInStep, StepFits, StepLeaves, group_stop_of, in_group_call, in_step, new_group, op_in, part_in, start_at, steps_at}
use Rattle.station.specs.Stations.{NoCallOpen, StationAt}
use Rattle.station.specs.Steps.{Held, GroupPart, StepDoes, StepsDo, part_by}
use Rattle.station.specs.declared.steps.Folding.{Folding}
use Rattle.station.specs.declared.steps.GroupOp.{GroupOp}
use Rattle.station.specs.declared.steps.Hand.{Hand}
use Rattle.station.specs.declared.steps.Hand.TheVariants.{Between, Sending, Receiving}
use Rattle.station.specs.declared.steps.StepStop.{StepStop}
use Rattle.station.specs.declared.steps.StepStop.TheVariants.{Stalled, Mismatch}

-- ---- messages alone, one part after the other

pub only_none : (s : Sight) → OnlyMessages s s
only_none s = record { events = []; did = did_nothing s; rest = rest_itself (record_in s) }

pub only_both : {s m t : Sight} → OnlyMessages s m → OnlyMessages m t → OnlyMessages s t
only_both {s} {m} {t} one two = record {
  events = one.events ++ two.events;
  did = did_both s one.events m two.events t one.did two.did;
  rest = rest_both (record_in s) (record_in m) (record_in t) one.rest two.rest;
}

-- ---- what each step asks of the buffers

module _ (p : GroupPart) (held : Held) where
  abbrev AllFit : List Step → Type 0
  AllFit [] = Unit {0}
  AllFit (x ∷ xs) = StepFits p held x × AllFit xs

  fit_both : (xs ys : List Step) → AllFit xs → AllFit ys → AllFit (xs ++ ys)
  fit_both [] ys one two = two
  fit_both (x ∷ xs) ys one two = (one.0, fit_both xs ys one.1 two)

  fit_sends : (head : MessageHead) (xs : List ℕ) → ((to : ℕ) → StepFits p held (Send to head)) → AllFit (send_each head xs)
  fit_sends head [] each = tt
  fit_sends head (x ∷ xs) each = (each x, fit_sends head xs each)

  fit_folds : (head : MessageHead) (xs : List ℕ) → ((from : ℕ) → StepFits p held (Recv from head)) → StepFits p held Fold → AllFit (fold_each head xs)
  fit_folds head [] each fold = tt
  fit_folds head (x ∷ xs) each fold = (each x, (fold, fit_folds head xs each fold))

  fit_at : (xs : List Step) (k : ℕ) (x : Step) → AllFit xs → slice_get xs k ≡ Some x → StepFits p held x
  fit_at [] k x all found = absurd (cc)
  fit_at (y ∷ xs) zero x all found = subst (λ (z : Step). StepFits p held z) (same_Some y x found) all.0
  fit_at (y ∷ xs) (suc k) x all found = fit_at xs k x all.1 found

folds_fit : (how : Folding) (len : ℕ) (input : List ℕ) (held : Held) → IsFoldable how len input held → FoldFits (Some how) held.output held.work
folds_fit how len input held fit = record { same = fit.output_is ∙ sym fit.work_is; whole = ap (λ (n : ℕ). n % value_bytes how.ty) fit.output_is ∙ fit.whole }

root_fit : (c : Coll) (folding : Option Folding) (input : List ℕ) (held : Held) (others : List ℕ) → AreFit c folding input held
    → AllFit (part_by true folding input) held (root_steps c others)
root_fit (Bcast comm root len) folding input held others fit = fit_sends (part_by true folding input) held (head_of_kind kind.Bcast comm len) others (λ to. fit)
root_fit (Reduce comm root len) (Some how) input held others fit =
    let p = part_by true (Some how) input in (
      fit.input_is ∙ sym fit.output_is,
      fit_both p held (fold_each (head_of_kind kind.Reduce comm len) others) (Finish ∷ [])
          (fit_folds p held (head_of_kind kind.Reduce comm len) others (λ from. fit.work_is) (folds_fit how len input held fit)) (tt, tt),
    )
root_fit (Reduce comm root len) None input held others fit = absurd fit
root_fit (Allreduce comm len) (Some how) input held others fit =
    let p = part_by true (Some how) input in
    let up = head_of_kind kind.AllUp comm len in
    let down = head_of_kind kind.AllDown comm len in
    fit_both p held (Begin ∷ fold_each up others ++ send_each down others) (Finish ∷ [])
    (fit_both p held (Begin ∷ fold_each up others) (send_each down others)
    (fit.input_is ∙ sym fit.output_is, fit_folds p held up others (λ from. fit.work_is) (folds_fit how len input held fit))
    (fit_sends p held down others (λ to. fit.output_is)))
    (tt, tt)
root_fit (Allreduce comm len) None input held others fit = absurd fit

other_fit : (c : Coll) (folding : Option Folding) (input : List ℕ) (held : Held) (root : ℕ) → AreFit c folding input held
    → AllFit (part_by false folding input) held (other_steps c root)
other_fit (Bcast comm place len) folding input held root fit = (fit, (tt, tt))
other_fit (Reduce comm place len) (Some how) input held root fit = (fit.input_is, tt)
other_fit (Reduce comm place len) None input held root fit = absurd fit
other_fit (Allreduce comm len) (Some how) input held root fit = (fit.input_is, (fit.output_is, (tt, tt)))
other_fit (Allreduce comm len) None input held root fit = absurd fit

-- each step of a call asks what its buffers are
pub step_fits : (seat : Seat) (op : GroupOp) (input : List ℕ) (held : Held) (k : ℕ) (next : Step) → AreFit op.coll op.folding input held
    → slice_get (steps_at seat op) k ≡ Some next → StepFits (part_in seat op input) held next
step_fits seat op input held k next fit found =
    fit_at (part_in seat op input) held (steps_at seat op) k next (by (place_of seat.setup (comm_of op.coll) seat.rank == root_place op.coll)) found
  where
    by : (b : Bool) → AllFit (part_by b op.folding input) held
        (cond b (root_steps op.coll (others_of seat.setup (comm_of op.coll) seat.rank (root_place op.coll)))
        (other_steps op.coll (slice_index (members_of seat.setup (comm_of op.coll) seat.rank) (root_place op.coll))))
    by true = root_fit op.coll op.folding input held (others_of seat.setup (comm_of op.coll) seat.rank (root_place op.coll)) fit
    by false = other_fit op.coll op.folding input held (slice_index (members_of seat.setup (comm_of op.coll) seat.rank) (root_place op.coll)) fit

-- buffers of the same lengths fit as well
pub still_fit : (c : Coll) (folding : Option Folding) (input : List ℕ) (held later : Held) → length later.output ≡ length held.output → length later.work ≡ length held.work
    → AreFit c folding input held → AreFit c folding input later
still_fit (Bcast comm root len) folding input held later one two fit = one ∙ fit
still_fit (Reduce comm root len) (Some how) input held later one two fit =
    record { whole = fit.whole; input_is = fit.input_is; output_is = one ∙ fit.output_is; work_is = two ∙ fit.work_is }
still_fit (Reduce comm root len) None input held later one two fit = absurd fit
still_fit (Allreduce comm len) (Some how) input held later one two fit =
    record { whole = fit.whole; input_is = fit.input_is; output_is = one ∙ fit.output_is; work_is = two ∙ fit.work_is }
still_fit (Allreduce comm len) None input held later one two fit = absurd fit

-- ---- one step more

next_taken : (xs : List Step) (k : ℕ) (x : Step) → slice_get xs k ≡ Some x → take (k + 1) xs ≡ take k xs ++ x ∷ []
next_taken [] k x at = absurd (cc)
next_taken (y ∷ ys) zero x at = ap (λ (z : Step). z ∷ []) (same_Some y x at)
next_taken (y ∷ ys) (suc k) x at =
    let more : suc k + 1 ≡ suc (k + 1) = omega arith in
    ap (λ (n : ℕ). take n (y ∷ ys)) more ∙ ap (λ (l : List Step). y ∷ l) (next_taken ys k x at)

steps_more : (p : GroupPart) (xs : List Step) (x : Step) (old mid new : Held) (a b : List DataCall) → StepsDo p xs old mid a → StepDoes p x mid new b → StepsDo p (xs ++ x ∷ []) old new (a ++ b)
steps_more p [] x old mid new a b none does =
    (new, b, [], subst (λ (h : Held). StepDoes p x h new b) none.0 does, (refl, refl), ap (λ (l : List DataCall). l ++ b) none.1 ∙ sym (append-nil b))
steps_more p (y ∷ ys) x old mid new a b did does =
    (did.0, did.1, did.2 ++ b, did.3, steps_more p ys x did.0 mid new did.2 b did.4 does, ap (λ (l : List DataCall). l ++ b) did.5 ∙ append_assoc did.1 did.2 b)

module _ (s t : Sight) (a b : StationAt) (coll : Coll) (folding : Option Folding) (at : ℕ) (hand : Hand) (root : Bool) (input : List ℕ) (held later : Held)
    (root_is : root ≡ (place_of s.seat.setup (comm_of coll) s.seat.rank == root_place coll)) (seat : t.seat ≡ s.seat) where
  abbrev op : GroupOp
  op = record { coll = coll; folding = folding; at = at; hand = hand }

  abbrev part : GroupPart
  part = part_by root folding input

  abbrev steps : List Step
  steps = steps_of s.seat.setup s.seat.rank coll

  part_is : part ≡ part_in s.seat op input
  part_is = ap (λ (x : Bool). part_by x folding input) root_is

  part_there : part ≡ part_in t.seat op input
  part_there = part_is ∙ ap (λ (x : Seat). part_in x op input) (sym seat)

  -- what a step asks for
  pub fits_here : (next : Step) → slice_get (steps_of s.seat.setup s.seat.rank coll) at ≡ Some next → AreFit coll folding input held → StepFits part held next
  fits_here next found fit = subst (λ (x : GroupPart). StepFits x held next) (sym part_is) (step_fits s.seat op input held at next fit found)

  module _ (start : GroupStart) (is : IsInGroup start (in_group_call s a op input held)) where
    pub stands_here : (next : Step) → slice_get (steps_of s.seat.setup s.seat.rank coll) at ≡ Some next → StandsInStep is.before (in_step s a part held) (Some next) hand
    stands_here next found =
        subst (λ (x : Option Step). StandsInStep is.before (in_step s a part held) x hand) found
        (subst (λ (x : GroupPart). StandsInStep is.before (in_step s a x held) (slice_get (steps_of s.seat.setup s.seat.rank coll) at) hand) (sym part_is) is.stands)

    fit_later : length later.output ≡ length held.output → length later.work ≡ length held.work → AreFit coll folding input later
    fit_later one two = still_fit coll folding input held later one two is.fits

    callable_there : IsCallable t.seat.setup t.seat.rank coll
    callable_there = subst (λ (x : Seat). IsCallable x.setup x.rank coll) (sym seat) is.callable

    -- the next step is done
    pub done_there : (next : Step) → slice_get (steps_of s.seat.setup s.seat.rank coll) at ≡ Some next → length later.output ≡ length held.output → length later.work ≡ length held.work
        → HasStepped is.before next s (in_step t b part later)
        → IsInGroup start (in_group_call t b (record { coll = coll; folding = folding; at = at + 1; hand = Between }) input later)
    done_there next found one two done =
        let all = steps_of s.seat.setup s.seat.rank coll in
        let run : StepsDo (part_in s.seat op input) (take at all ++ next ∷ []) start.held later (is.run.calls ++ done.calls) =
        steps_more (part_in s.seat op input) (take at all) next start.held is.before later is.run.calls done.calls is.run.did
        (subst (λ (x : GroupPart). StepDoes x next is.before later done.calls) part_is done.does) in
        record {
          callable = callable_there;
          fits = fit_later one two;
          before = later;
          run = record {
            calls = is.run.calls ++ done.calls;
            did = subst (λ (x : Seat). StepsDo (part_in x op input) (take (at + 1) (steps_at x op)) start.held later (is.run.calls ++ done.calls)) (sym seat)
                (subst (λ (l : List Step). StepsDo (part_in s.seat op input) l start.held later (is.run.calls ++ done.calls)) (sym (next_taken all at next found)) run);
            made = done.made ∙ ap (λ (l : List DataCall). l ++ done.calls) is.run.made ∙ append_assoc start.calls is.run.calls done.calls;
          };
          stands = record { held_is = refl; free = done.free };
        }

    module _ (next : Step) (found : slice_get (steps_of s.seat.setup s.seat.rank coll) at ≡ Some next) (none : (record_in t).calls ≡ (record_in s).calls) where
      found_there : Some next ≡ slice_get (steps_of t.seat.setup t.seat.rank coll) at
      found_there = sym found ∙ ap (λ (x : Seat). slice_get (steps_of x.setup x.rank coll) at) (sym seat)

      run_there : (then : Hand) → HaveRun start (take at (steps_of t.seat.setup t.seat.rank coll)) (in_group_call t b (record { coll = coll; folding = folding; at = at; hand = then }) input later) is.before
      run_there then = record {
        calls = is.run.calls;
        did = subst (λ (x : Seat). StepsDo (part_in x op input) (take at (steps_at x op)) start.held is.before is.run.calls) (sym seat) is.run.did;
        made = none ∙ is.run.made;
      }

      -- the next step stopped
      pub stopped_there : (stop : StepStop) → length later.output ≡ length held.output → length later.work ≡ length held.work
          → StepLeaves is.before (Some next) (in_step t b part later) stop → IsInGroup start (in_group_call t b (op_in (group_stop_of coll folding at stop)) input later)
      stopped_there (Stalled then spot polls) one two left = record {
        callable = callable_there;
        fits = fit_later one two;
        before = is.before;
        run = run_there then;
        stands = subst (λ (x : Option Step). StandsInStep is.before (in_step t b (part_in t.seat op input) later) x then) found_there
            (subst (λ (x : GroupPart). StandsInStep is.before (in_step t b x later) (Some next) then) part_there left);
      }
      stopped_there (Mismatch sent asked) one two left = record {
        callable = callable_there;
        fits = fit_later one two;
        before = is.before;
        run = run_there Between;
        stands = record { held_is = left.held_is; free = left.free };
      }

    -- nothing is left
    pub all_done : length (steps_of s.seat.setup s.seat.rank coll) ≤ at → HasRunGroup start (in_group_call s a op input held)
    all_done past = by hand is.stands
      where
        none_left : {A : Type 0} (x : Step) → slice_get steps at ≡ Some x → A
        none_left x found = let within = slice_get_within steps at x found in absurd (omega (arith, within, past))

        by : (h : Hand) → StandsInStep is.before (in_step s a (part_in s.seat op input) held) (slice_get steps at) h → HasRunGroup start (in_group_call s a op input held)
        by Between at_start = record {
          run = record {
            calls = is.run.calls;
            did = subst (λ (h : Held). StepsDo (part_in s.seat op input) steps start.held h is.run.calls) (sym at_start.held_is)
                (subst (λ (l : List Step). StepsDo (part_in s.seat op input) l start.held is.before is.run.calls) (take_all at steps past) is.run.did);
            made = is.run.made;
          };
          free = at_start.free;
        }
        by (Sending op) at_send = none_left (Send op.to op.head) at_send.next_is
        by (Receiving op) at_receive = none_left (Recv op.from op.head) at_receive.next_is

  -- why the next step stopped is why the call did
  pub why_there : (old : Sight) (polls : ℕ) (next : Step) (stop : StepStop) → slice_get (steps_of s.seat.setup s.seat.rank coll) at ≡ Some next → a.polls ≡ polls → OnlyMessages old s
      → SaysWhyStep (Some next) s a.polls (in_step t b part later) stop
      → SaysWhyGroup old polls (in_group_call t b (op_in (group_stop_of coll folding at stop)) input later) (group_stop_of coll folding at stop)
  why_there old polls next (Stalled then spot count) found same only why = (
    why.0 ∙ same,
    s,
    only,
    record {
      events = why.1.events;
      did = why.1.did;
      tried = subst (λ (n : ℕ). TryFailed (aim_of (layout_at s) spot) n why.1.events) same why.1.tried;
      looks = why.1.looks;
    },
  )
  why_there old polls next (Mismatch sent asked) found same only why = (
    refl,
    record {
      from = why.from;
      next_is = ap (λ (x : Seat). slice_get (steps_of x.setup x.rank coll) at) seat ∙ found ∙ why.next_is;
      other = why.other;
      header = why.header;
      noted = why.noted;
      says = why.says;
    },
  )

-- ---- a whole call

-- where no call is open any call can begin
pub group_begins : (s : Sight) (a : StationAt) (coll : Coll) (folding : Option Folding) (input : List ℕ) (held : Held) → NoCallOpen s a → IsCallable s.seat.setup s.seat.rank coll
    → AreFit coll folding input held → IsInGroup (start_at s held) (in_group_call s a (new_group coll folding) input held)
group_begins s a coll folding input held free may fit = record {
  callable = may;
  fits = fit;
  before = held;
  run = record { calls = []; did = (refl, refl); made = sym (append-nil (record_in s).calls) };
  stands = record { held_is = refl; free = free };
}

-- ---- what the functions of a call answer, at a seat that is spelled in another way

pub root_at : (old now : Seat) (coll : Coll) (root : Bool) → now ≡ old → root ≡ (place_of old.setup (comm_of coll) old.rank == root_place coll)
    → root ≡ (place_of now.setup (comm_of coll) now.rank == root_place coll)
root_at old now coll root same tells = tells ∙ ap (λ (x : Seat). place_of x.setup (comm_of coll) x.rank == root_place coll) (sym same)

pub found_at : (setup : SetupView) (rank : ℕ) (given : SetupView) (number : ℕ) (coll : Coll) (at : ℕ) (next : Step) → given ≡ setup → number ≡ rank
    → slice_get (steps_of given number coll) at ≡ Some next → slice_get (steps_of setup rank coll) at ≡ Some next
found_at setup rank given number coll at next one two found = subst (λ (x : SetupView). slice_get (steps_of x rank coll) at ≡ Some next) one
    (subst (λ (x : ℕ). slice_get (steps_of given x coll) at ≡ Some next) two found)

pub count_at : (old now : Seat) (given : SetupView) (number : ℕ) (coll : Coll) (count : ℕ) → now ≡ old → given ≡ old.setup → number ≡ old.rank
    → count ≡ length (steps_of given number coll) → count ≡ length (steps_of now.setup now.rank coll)
count_at old now given number coll count same one two many =
    many ∙ (λ i. length (steps_of (one i) (two i) coll)) ∙ ap (λ (x : Seat). length (steps_of x.setup x.rank coll)) (sym same)
