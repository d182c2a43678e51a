use Rattle.std.proofs.Common.{◌≡◌, ◌++◌, codes, decimal, ◌∙◌}
use Rattle.script_gen.specs.Texts.{section_text}
use Rattle.script_gen.proofs.Sections.{even_pieces, odd_pieces, ring_text}
use Rattle.script_gen.proofs.generate.write_ring.Goals as goal

pub returns : goal.returns
returns c = λ nue is.
    let s = c.args.s in
    let written : c.into_bytes.result ≡ section_text (codes "even") s (even_pieces (decimal s)) (codes "print g\n") ++ section_text (codes "odd") s (odd_pieces (decimal s)) (codes "print g\n") =
    simp (c.into_bytes.ensures, c.in_ok-push_section-2.ensures, c.in_ok-push_section.ensures, c.new-text.ensures) in
    written ∙ ring_text nue s is
