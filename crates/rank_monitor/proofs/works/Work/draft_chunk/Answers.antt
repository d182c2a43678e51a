use Rattle.std.proofs.Common.{is_none, refl}
use Rattle.scc_proto.specs.Permission.{drafts_chunk}
use Rattle.scc_proto.proofs.Tests.{both_second}
use Rattle.rank_monitor.proofs.SendLaws.{chunk_drafted}
use Rattle.rank_monitor.proofs.works.Work.draft_chunk.Goals as goal

pub returns-clause-moves : goal.returns-clause-moves
returns-clause-moves c = λ rec f may.
    let w = c.begin_draft.new.self in
    let o = c.begin_draft.ensures.opens rec f in
    record {
      stands = record {
        keeps = chunk_drafted w.size w.header w.chunk w.bytes.items w.standing rec.stage o.keeps (both_second (is_none rec.post) (drafts_chunk rec.stage) may) c.args.word c.args.value c.note.new.self c.note.ensures.notes;
        post = o.post;
        said = o.said;
        flags = o.flags;
      };
      adds = refl;
    }
