use Rattle.std.proofs.Common.{ℕ, List, length, sym, ap, ◌∙◌, subst}
use Rattle.scc_mesh.specs.Scenes.{about_in}
use Rattle.coll_run.specs.Teams.{AreFreshMembers, MemberView}
use Rattle.run_rows.proofs.coll_runs.ends_right.Goals as goal

pub run-requires : goal.run-requires
run-requires g c =
    let chip = c.in_ok-chip.ensures in
    let value = c.as_mut_slice.ensures.value in
    record {
      fresh = (
        c.args.more,
        c.args.len,
        record {
          whole = chip.new.whole;
          empty = λ r low. chip.new.empty r;
          each = ap length value ∙ c.in_ok-team.ensures.each ∙ sym chip.ranks;
          fresh = subst (λ (team : List MemberView). AreFreshMembers c.args.more c.args.len (about_in c.in_ok-chip.chip).nue team) (sym value)
              (subst (λ (n : ℕ). AreFreshMembers c.args.more c.args.len n c.in_ok-team.team.items) (sym chip.ranks) c.in_ok-team.ensures.fresh);
        },
      );
    }
