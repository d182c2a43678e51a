-- A crew of fresh UEs, which grows by one member after the other.
use Rattle.std.proofs.Common.{◌≡◌, ℕ, ◌+◌, List, [], ◌∷◌, ◌++◌, None, sym, subst, arith}
use Rattle.std.proofs.lemmas.List.{length_push}
use Rattle.scc_base.specs.Setups.{SetupView}
use Rattle.scc_mesh.specs.Scenes.{ChipView, IsNew}
use Rattle.script_rules.specs.Script.{Script}
use Rattle.rcce_ue.specs.Ues.{UeView}
use Rattle.rcce_run.specs.UeRuns.{AreFresh, IsFreshCrew, IsFreshUeMember, IsFreshUe}
use Rattle.chip_run.specs.declared.members.Member.{Member}
use Rattle.chip_run.proofs.CrewGrowth.{each_more}

-- fresh members of the ranks below n, and one more: with no token, and with a UE that was made for rank n
pub fresh_more : (script : Script) (s t : SetupView) (n r : ℕ) (crew later : List (Member UeView)) (ue : UeView) (member : Member UeView) → AreFresh script s n crew
    → t ≡ s → r ≡ n → IsFreshUe script t r ue → member.worker ≡ ue → member.token ≡ None → later ≡ crew ++ member ∷ [] → AreFresh script s (n + 1) later
fresh_more script s t n r crew later ue member are setup rank made worker empty is =
    let here : IsFreshUe script s n ue = subst (λ (x : SetupView). IsFreshUe script x n ue) setup (subst (λ (k : ℕ). IsFreshUe script t k ue) rank made) in
    let last : IsFreshUeMember script s n member = record { fresh = subst (λ (u : UeView). IsFreshUe script s n u) (sym worker) here; home = empty } in
    subst (λ (x : List (Member UeView)). AreFresh script s (n + 1) x) (sym is)
    (record {
      count = omega (arith, length_push crew member, are.count);
      each = each_more (IsFreshUeMember script s) n crew member are.count are.each last;
    })

-- with one for each rank it is a crew of every new chip of this setup
pub crew_fresh : (script : Script) (s : SetupView) (crew : List (Member UeView)) → AreFresh script s s.nue crew
    → (chip : ChipView) → IsNew s chip → IsFreshCrew script chip crew
crew_fresh script s crew are chip new = record {
  whole = new.whole;
  empty = λ r low. new.empty r;
  members = subst (λ (x : SetupView). AreFresh script x x.nue crew) (sym new.about) are;
}
