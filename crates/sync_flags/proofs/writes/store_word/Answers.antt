use Rattle.scc_base.specs.Places.{line_of_word}
use Rattle.put_get.proofs.TransferLemmas.{may_differ}
use Rattle.sync_flags.proofs.WriteLemmas.{may_through, through_stores, through_empties}
use Rattle.sync_flags.proofs.writes.store_word.Goals as goal

pub word_write_through-requires : goal.word_write_through-requires
word_write_through-requires g c = record {
  other = may_differ c.args.core.now (line_of_word c.args.place) c.requires.empty;
  permitted = may_through _ _ c.args.core.now.out c.args.place c.args.value c.requires.empty c.requires.permitted;
}

pub returns-clause-stores : goal.returns-clause-stores
returns-clause-stores g c = search through_stores depth 2 fits 100 parts 0

pub returns-clause-empty : goal.returns-clause-empty
returns-clause-empty g c = search through_empties depth 2 fits 100 parts 0
