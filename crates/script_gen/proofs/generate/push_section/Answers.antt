use Rattle.std.proofs.Common.{map}
use Rattle.rcce_io.specs.Pieces.{piece_text}
use Rattle.rcce_io.specs.Sending.{joined_texts}
use Rattle.script_gen.proofs.Sections.{section_put}
use Rattle.script_gen.proofs.generate.push_section.Goals as goal

pub returns : goal.returns
returns c =
    section_put c.args.ranks.now c.args.s (joined_texts (map piece_text c.args.exchange.now)) c.args.shown.now c.args.text.now _ _ _ c.push-2.result
    c.in_ok-push_front.ensures c.in_ok-push.ensures c.push-2.ensures
