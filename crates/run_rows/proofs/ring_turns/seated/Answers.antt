use Rattle.std.proofs.Common.{not, length, sym, ap, ◌∙◌}
use Rattle.put_get.specs.Cores.{Private}
use Rattle.scc_proto.specs.Words.{are_peers}
use Rattle.run_rows.specs.Rings.{message_to_begin}
use Rattle.run_rows.specs.declared.rings.Passer.{Passer}
use Rattle.run_rows.proofs.RingLemmas.{starts}
use Rattle.run_rows.proofs.ring_turns.seated.Goals as goal

pub returns : goal.returns
returns c =
    let w = c.new-3.ensures.worker in
    record {
      seated = record {
        ready = λ s rank before next. starts c.new-3.result.worker s rank (ap (λ (p : Passer). p.core.out) w ∙ ap (λ (x : Private). x.out) c.new.ensures) (ap (λ (p : Passer). p.slot) w ∙ c.new-2.ensures.empty)
            (ap (λ (p : Passer). length p.number) w) (ap (λ (p : Passer). p.head) w ∙ c.one_byte-head.ensures.gives)
            (ap (λ (p : Passer). p.message) w ∙ c.begun.ensures ∙ sym (ap (λ (p : Passer). message_to_begin p.is_first (not p.is_first) p.head p.from p.to) w))
            (ap (λ (p : Passer). are_peers s rank p.from) w ∙ ap (are_peers s rank) c.of-from.ensures.gives ∙ before)
            (ap (λ (p : Passer). are_peers s rank p.to) w ∙ ap (are_peers s rank) c.of-to.ensures.gives ∙ next);
        home = c.new-3.ensures.empty;
      };
    }
