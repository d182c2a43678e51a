use Rattle.std.proofs.Common.{length, refl, subst, sym}
use Rattle.std.proofs.lemmas.Option.{slice_get_read}
use Rattle.scc_base.specs.Setups.{setup_key}
use Rattle.script_plain.specs.Code.{HasPosted, IsAtPost}
use Rattle.script_machine.specs.Local.{Local, local_next}
use Rattle.script_plain.proofs.CodeSteps.StandLaws.{post_stands, poster_there, posts_step}
use Rattle.script_plain.proofs.steps.leave.Goals as goal

pub bounds-ues-i : goal.bounds-ues-i
bounds-ues-i c = poster_there (setup_key c.args.setup.now) c.args.ues.now c.args.slots.now c.args.i c.requires.step

pub post-requires : goal.post-requires
post-requires c =
    let keys = setup_key c.args.setup.now in
    let ues = c.args.ues.now in
    let slots = c.args.slots.now in
    let here = slice_get_read ues (length ues) c.args.i c.index-ues-i.result refl (poster_there keys ues slots c.args.i c.requires.step) c.index-ues-i.is in
    subst (λ (u : Local). IsAtPost (local_next u)) c.index-ues-i.is (post_stands keys ues slots c.args.i c.index-ues-i.result c.requires.step here)

pub returns : goal.returns
returns c =
    let keys = setup_key c.args.setup.now in
    let ues = c.args.ues.now in
    let slots = c.args.slots.now in
    let here = slice_get_read ues (length ues) c.args.i c.index-ues-i.result refl (poster_there keys ues slots c.args.i c.requires.step) c.index-ues-i.is in
    let posted = subst (λ (u : Local). HasPosted (local_next u) c.in_ok-post.field-0 c.post.new.self) (sym c.index-ues-i.is) c.in_ok-post.ensures in
    posts_step keys ues slots c.args.i c.index-ues-i.result c.post.new.self c.in_ok-post.field-0 c.requires.step here posted
