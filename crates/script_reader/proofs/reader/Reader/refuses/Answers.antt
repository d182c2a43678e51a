use Rattle.std.proofs.Common.{◌≡◌, ℕ, ◌<◌, ◌∙◌, ap, get_or, refl, reverse, subst}
use Rattle.scc_base.specs.Setups.{SetupView}
use Rattle.script_rules.specs.declared.tally.Tally.{Tally}
use Rattle.script_rules.specs.Checks.{open_of, refuses, run_of, turns_in}
use Rattle.script_reader.specs.Progress.{ReadingSoFar, past}
use Rattle.script_rules.specs.Tally.{refuses_by}
use Rattle.script_rules.proofs.TallyLemmas.{refuses-same}
use Rattle.script_reader.proofs.reader.Reader.refuses.Goals as goal

pub returns : goal.returns
returns c =
    let inside = c.self.inside in
    let before = reverse inside.items.items in
    let e = c.args.effect.now in
    let tally = c.index.result.now in
    let same = subst (λ (p : ReadingSoFar). c.args.rank < p.nue → refuses c.args.kind inside.nue before e c.args.rank ≡ refuses c.args.kind p.nue (past p) e c.args.rank) c.self.view_is (λ _. refl) in
    let below = subst (λ (p : ReadingSoFar). c.args.rank < p.nue → c.args.rank < inside.nue) c.self.view_is (λ h. h) c.requires in
    c.refuses_by.ensures
    ∙ ap (λ (run : SetupView). refuses_by c.args.kind run tally c.turns_in-turns.result e c.args.rank) c.self.invariant.run_is
    ∙ ap (λ (turns : ℕ). refuses_by c.args.kind (run_of inside.nue before) tally turns e c.args.rank) (c.turns_in-turns.ensures ∙ ap turns_in (c.as_slice.ensures.value ∙ c.self.invariant.repeats_are))
    ∙ ap (λ (t : Tally). refuses_by c.args.kind (run_of inside.nue before) t (turns_in (open_of before)) e c.args.rank) c.index.ensures
    ∙ refuses-same c.args.kind (get_or inside.tallies.items c.args.rank tally) inside.nue before e c.args.rank (c.self.invariant.tallied c.args.rank tally below)
    ∙ same c.requires
