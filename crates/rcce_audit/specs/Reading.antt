-- How a reading is held.
use Rattle.rcce_audit.specs.declared.reader.Reader.{Reader}
use Rattle.rcce_audit.specs.Grammar.{Reading}
use Rattle.rcce_audit.specs.Views.{data_lists}

-- how far the reader has come
abbrev pub reading_of : Reader → Reading
reading_of reader = record {
  log = record { nue = reader.nue; comms = reader.comms; lists = data_lists reader.lists.items };
  comm = reader.comm;
  rank = reader.rank;
}
