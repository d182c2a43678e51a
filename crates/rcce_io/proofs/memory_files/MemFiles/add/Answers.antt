use Rattle.std.proofs.Common.{refl}
use Rattle.rcce_io.proofs.FileLemmas.{places_kept, view_added}
use Rattle.rcce_io.proofs.memory_files.MemFiles.add.Goals as goal

pub invariant_of-self-2 : goal.invariant_of-self-2
invariant_of-self-2 c = (places_kept c.self.inside.files.items c.push.new.self.items _ c.in_ok-push.ensures.items c.self.inside.place c.self.invariant.0, c.self.invariant.1)

pub returns-clause-ok : goal.returns-clause-ok
returns-clause-ok c =
    view_added c.self.inside (record c.self.inside { files = c.push.new.self }) _ c.args.self.now c.args.name.now c.args.contents.now c.self.invariant.0
    c.in_ok-push.ensures.items refl refl refl c.in_ok-from_str.ensures.ok c.in_ok-from_slice.ensures.items c.self.view_is
