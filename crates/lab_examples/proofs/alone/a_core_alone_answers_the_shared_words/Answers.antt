use Rattle.std.proofs.Common.{refl}
use Rattle.lab_examples.specs.Alone.{blank_scene}
use Rattle.lab_examples.proofs.LoneLemmas.{calls_done}
use Rattle.lab_examples.proofs.alone.a_core_alone_answers_the_shared_words.Goals as goal

pub returns : goal.returns
returns c = record {
  law = record {
    answers = λ me calls memory words. (calls_done me calls (blank_scene memory) (record { out = refl; copies = tt }) words).answers;
    words = λ me calls memory words. (calls_done me calls (blank_scene memory) (record { out = refl; copies = tt }) words).memory;
  };
}
