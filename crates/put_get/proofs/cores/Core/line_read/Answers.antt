use Rattle.std.proofs.Common.{◌≡◌, ◌∙◌, None, Some, sym, subst, arith}
use Rattle.scc_base.specs.Places.{WordAt}
use Rattle.line_cache.specs.Lines.{cached_words}
use Rattle.put_get.specs.Cores.{Private, ReadsWord}
use Rattle.put_get.proofs.CoreLemmas.{made_by, steps_four, word_made}
use Rattle.put_get.proofs.ReadLemmas.{line_held, first_loaded, line_kept}
use Rattle.put_get.proofs.StepLemmas.{steps_none}
use Rattle.put_get.proofs.cores.Core.line_read.Goals as goal

pub returns-in-Some-clause-reads : goal.returns-in-Some-clause-reads
returns-in-Some-clause-reads g c =
    line_held (g.P.Port.sight c.args.port.now) c.args.self.now c.args.line c.in-Some.words
    (subst (λ (x : Private). cached_words x.lines c.args.line ≡ Some c.in-Some.words) c.self.view_is (sym c.look.ensures ∙ c.in-Some.is))

pub returns-in-Some-clause-steps : goal.returns-in-Some-clause-steps
returns-in-Some-clause-steps g c = steps_none g.P.Port.stepped (g.P.Port.sight c.args.port.now)

pub returns-then-kept-clause-reads : goal.returns-then-kept-clause-reads
returns-then-kept-clause-reads g c =
    line_kept _ _ _ _ _ _
    (subst (λ (x : Private). cached_words x.lines c.args.line ≡ None) c.self.view_is (sym c.look.ensures ∙ c.in_default.is)) (omega arith) c.load_line-words.ensures.did
    c.bring-kept.ensures.fills (c.bring-kept.ensures.kept c.if-kept.true)

pub returns-clause-reads : goal.returns-clause-reads
returns-clause-reads g c = record {
  s1 = g.P.Port.sight c.load_line-words.new.port;
  c1 = c.bring-kept.new.self;
  word0 = first_loaded _ _ _ _ _ _
      (subst (λ (x : Private). cached_words x.lines c.args.line ≡ None) c.self.view_is (sym c.look.ensures ∙ c.in_default.is)) (omega arith) c.load_line-words.ensures.did
      c.bring-kept.ensures.fills;
  s2 = g.P.Port.sight c.word_read-second.new.port;
  c2 = c.word_read-second.new.self;
  word1 = subst (λ (p : WordAt). ReadsWord (g.P.Port.sight c.load_line-words.new.port) c.bring-kept.new.self p c.word_read-second.result (g.P.Port.sight c.word_read-second.new.port) c.word_read-second.new.self) c.word.ensures.gives c.word_read-second.ensures.reads;
  s3 = g.P.Port.sight c.word_read-third.new.port;
  c3 = c.word_read-third.new.self;
  word2 = subst (λ (p : WordAt). ReadsWord (g.P.Port.sight c.word_read-second.new.port) c.word_read-second.new.self p c.word_read-third.result (g.P.Port.sight c.word_read-third.new.port) c.word_read-third.new.self) c.word-2.ensures.gives c.word_read-third.ensures.reads;
  word3 = subst (λ (p : WordAt). ReadsWord (g.P.Port.sight c.word_read-third.new.port) c.word_read-third.new.self p c.word_read-fourth.result (g.P.Port.sight c.word_read-fourth.new.port) c.word_read-fourth.new.self) c.word-3.ensures.gives c.word_read-fourth.ensures.reads;
}

pub returns-clause-steps : goal.returns-clause-steps
returns-clause-steps g c =
    steps_four g.P.Port.stepped _ _ _ _ _ (made_by c.load_line-words.ensures.did) (word_made c.word_read-second.ensures.reads)
    (word_made c.word_read-third.ensures.reads) (word_made c.word_read-fourth.ensures.reads)
    c.load_line-words.ensures.steps c.word_read-second.ensures.steps c.word_read-third.ensures.steps c.word_read-fourth.ensures.steps
