use Rattle.std.proofs.Common.{◌≡◌, ◌++◌, [], codes, refl, ◌∙◌}
use Rattle.script_gen.specs.Texts.{section_text}
use Rattle.script_gen.proofs.Sections.{alone_text}
use Rattle.script_gen.proofs.generate.write_lone.Goals as goal

pub returns : goal.returns
returns c =
    let s = c.args.s in
    let written : c.into_bytes.result ≡ section_text (codes "even") s [] [] ++ section_text (codes "odd") s [] [] =
    simp (c.into_bytes.ensures, c.in_ok-push_section-2.ensures, c.in_ok-push_section.ensures, c.new-text.ensures) in
    written ∙ alone_text 1 s refl
