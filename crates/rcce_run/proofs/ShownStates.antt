-- What collective calls give asks for the states of ranks alone, and not for the messages in their slots.
use Rattle.std.proofs.Common.{ℕ, List, Option}
use Rattle.scc_base.specs.declared.kinds.Kind.{Kind}
use Rattle.scc_base.specs.declared.kinds.Kind.TheVariants as kind
use Rattle.groups.specs.declared.operations.Op.{Op}
use Rattle.groups.specs.declared.operations.Ty.{Ty}
use Rattle.script_rules.specs.Script.{Script}
use Rattle.script_rules.specs.declared.script.Stmt.{Stmt}
use Rattle.script_rules.specs.declared.script.Stmt.TheVariants as stmt
use Rattle.script_machine.specs.declared.posts.Posted.{Posted}
use Rattle.plain_meaning.specs.Collectives.{AllGive, Casts, CollectivesHold, GivesPart, TellsFold}
use Rattle.script_machine.specs.Local.{register_at}
use Rattle.plain_meaning.specs.Meaning.{State}
use Rattle.plain_meaning.specs.Step.{Configuration}

module _ (script : Script) (cells : List State) where
  abbrev with_slots : List (Option Posted) → Configuration State
  with_slots slots = record { cells = cells; slots = slots }

  module _ (one other : List (Option Posted)) where
    casts : (comm place root rank : ℕ) (before : State) (bytes : List ℕ) → Casts script (with_slots one) comm place root rank before bytes → Casts script (with_slots other) comm place root rank before bytes
    casts comm place root rank before bytes at = record { reg = at.reg; len = at.len; now = at.now; begun = at.begun; there = at.there; came = at.came; same = at.same; given = at.given }

    gives : (call : Op → Ty → ℕ → ℕ → Stmt) (k : Kind) (comm root : ℕ) (begun : State) (rank : ℕ) (bytes : List ℕ)
        → GivesPart script (with_slots one) call k comm root begun rank bytes → GivesPart script (with_slots other) call k comm root begun rank bytes
    gives call k comm root begun rank bytes at =
        record { op = at.op; ty = at.ty; dst = at.dst; src = at.src; now = at.now; before = at.before; there = at.there; came = at.came; same = at.same; given = at.given }

    all_give : (call : Op → Ty → ℕ → ℕ → Stmt) (k : Kind) (comm place root : ℕ) (begun : State) (bytes : ℕ → List ℕ)
        → AllGive script (with_slots one) call k comm place root begun bytes → AllGive script (with_slots other) call k comm place root begun bytes
    all_give call k comm place root begun bytes all rank apart = gives call k comm root begun rank (bytes rank) (all rank apart)

    tells : (comm root rank : ℕ) (before : State) (own told : List ℕ) → TellsFold script (with_slots one) comm root rank before own told → TellsFold script (with_slots other) comm root rank before own told
    tells comm root rank before own told at = record {
      op = at.op;
      ty = at.ty;
      dst = at.dst;
      src = at.src;
      now = at.now;
      begun = at.begun;
      bytes = at.bytes;
      there = at.there;
      came = at.came;
      same = at.same;
      given = all_give (stmt.Allreduce comm) kind.AllUp comm 0 root at.begun at.bytes at.given;
      mine = at.mine;
      result = at.result;
    }

  pub any_slots : (one other : List (Option Posted)) → CollectivesHold script (with_slots one) → CollectivesHold script (with_slots other)
  any_slots one other holds = record {
    messages = holds.messages;
    broadcasts = holds.broadcasts;
    reductions = λ comm place dst src root op ty u begun after bytes there placed done all.
        holds.reductions comm place dst src root op ty u begun after bytes there placed done (all_give other one (stmt.Reduce comm place) kind.Reduce comm place root begun bytes all);
    reductions_to_all = λ comm dst src root op ty u begun after bytes there placed done all.
        holds.reductions_to_all comm dst src root op ty u begun after bytes there placed done (all_give other one (stmt.Allreduce comm) kind.AllUp comm 0 root begun bytes all);
    told = λ comm dst src root to from rank op another ty width u v begun before after bytes here there apart came all.
        holds.told comm dst src root to from rank op another ty width u v begun before after bytes here there apart came (all_give other one (stmt.Allreduce comm) kind.AllUp comm 0 root begun bytes all);
    root_came = λ comm place size dst root rank v before after there apart done.
        let (bytes, cast, gone) = holds.root_came comm place size dst root rank v before after there apart done in
        (bytes, casts one other comm place root rank before bytes cast, gone);
    others_gave = λ comm place dst src root op ty u begun after there placed done.
        let (bytes, all, gone) = holds.others_gave comm place dst src root op ty u begun after there placed done in
        (bytes, all_give one other (stmt.Reduce comm place) kind.Reduce comm place root begun bytes all, gone);
    others_gave_to_all = λ comm dst src root op ty u begun after there placed done.
        let (bytes, all, gone) = holds.others_gave_to_all comm dst src root op ty u begun after there placed done in
        (bytes, all_give one other (stmt.Allreduce comm) kind.AllUp comm 0 root begun bytes all, gone);
    all_came = λ comm root to from rank op ty v before after there apart done.
        let (told, tell, gone) = holds.all_came comm root to from rank op ty v before after there apart done in
        (told, tells one other comm root rank before (register_at before.local from) told tell, gone);
    counted = holds.counted;
    untouched = holds.untouched;
  }
