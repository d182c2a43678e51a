use Rattle.std.proofs.Common.{◌==◌, ◌∙◌, ap, length, unwrap_or}
use Rattle.std.proofs.lemmas.List.Sums.{prefix_len-le-length}
use Rattle.texts.proofs.PlaceLemmas.{unwrapped_position}
use Rattle.texts.proofs.cuts.place_or_end.Goals as goal

pub returns : goal.returns
returns c =
    let text = c.args.text.now in
    let same = c.unwrap_or.ensures ∙ ap (λ o. unwrap_or o (length text)) c.place_of.ensures.found ∙ unwrapped_position (λ b. b == c.args.mark) text in
    record { same = same; within = rw same (prefix_len-le-length _ text) }
