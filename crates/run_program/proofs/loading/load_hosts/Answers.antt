use Rattle.std.proofs.Common.{List, ℕ, subst, sym, Option}
use Rattle.rcce_io.specs.Files.{NamedFile}
use Rattle.outcomes.specs.Coming.{FileHolds}
use Rattle.run_program.specs.Loading.{AsksListed, LoadsPlan}
use Rattle.run_program.specs.Program.{file_plan, hosts_plan, rccerun}
use Rattle.run_program.proofs.LoadLemmas.{loads_read}
use Rattle.run_program.proofs.loading.load_hosts.Goals as goal

pub returns-in-Ok : goal.returns-in-Ok
returns-in-Ok g c =
    let list = c.args.list.now in
    let script = c.args.script.now in
    let job = c.args.job in
    let next = hosts_plan list job.nue (file_plan script job.nue) in
    let before = g.F.Files.seen c.args.files.now in
    let between = g.F.Files.seen c.read_file.new.files in
    let after = g.F.Files.seen c.load_listed.new.files in
    let holds = subst (λ (told : Option (List NamedFile)). FileHolds told list c.in-Ok.bytes) (sym c.in-Ok.ensures.told) c.in-Ok.ensures.holds in
    let leads = rw c.as_slice.ensures at (c.load_listed.ensures (subst (λ (b : List ℕ). FileHolds between.told list b) (sym c.as_slice.ensures) holds)) in
    loads_read list 65536 next (AsksListed list script before.told job) before between after _ _ c.in-Ok.ensures.reads
    (subst (λ (told : Option (List NamedFile)). LoadsPlan (next c.in-Ok.bytes) (AsksListed list script told job) between after c.load_listed.result) c.in-Ok.ensures.told leads)

pub returns-in-Err : goal.returns-in-Err
returns-in-Err g c = c.in-Err.ensures.reads rccerun.name (hosts_plan c.args.list.now c.args.job.nue (file_plan c.args.script.now c.args.job.nue))
