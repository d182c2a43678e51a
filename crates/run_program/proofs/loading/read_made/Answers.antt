use Rattle.std.proofs.Common.{◌≡◌, Err, List, Ok, Result, ℕ, ap, refl, subst, ◌∙◌}
use Rattle.script_gen.specs.Scripts.{gen_script_of}
use Rattle.script_gen.proofs.GenLaws.{gen_read}
use Rattle.script_reader.specs.Faults.{Gives}
use Rattle.script_reader.specs.Reading.{parse_script}
use Rattle.script_rules.specs.Script.{Script}
use Rattle.script_reader.specs.declared.fault.ReadFault.{ReadFault}
use Rattle.script_reader.specs.declared.fault.ReadStop.{ReadStop}
use Rattle.script_reader.specs.declared.fault.ReadStop.TheVariants as stops
use Rattle.outcomes.specs.declared.complaint.Complaint.TheVariants as complaint
use Rattle.run_program.specs.Asking.{setup_by}
use Rattle.run_program.proofs.LoadLemmas.{is_made, loads_read_made, loads_unmade}
use Rattle.run_program.proofs.loading.read_made.Goals as goal

-- the reader refuses no script that the grammar accepts
no_fault : {X : Type 0} (view : X → Script) (stop : ReadStop) (fault : ReadFault) (parsed : Result Script ReadFault) (script : Script)
    → Gives view (Err stop) parsed → stop ≡ stops.Fault fault → parsed ≡ Ok script → ⊥
no_fault view stop fault parsed script gives is accepted =
    let refused : parsed ≡ Err fault = subst (λ (s : ReadStop). Gives view (Err s) parsed) is gives in
    cc

pub unreachable-requires : goal.unreachable-requires
unreachable-requires c =
    no_fault (λ script. script) c.in-Err-Fault.field-0 c.in-Err-Fault.field-0-0 (parse_script c.args.text.now c.args.job.nue) (gen_script_of c.args.job.nue c.args.seed) c.in-Err-Fault.ensures.gives c.in-Err-Fault.field-0-is
    (ap (λ (text : List ℕ). parse_script text c.args.job.nue) c.requires.made ∙ gen_read c.args.job.nue c.args.seed c.requires.some c.requires.most c.requires.short)

pub returns-in-Ok : goal.returns-in-Ok
returns-in-Ok c = λ files.
    loads_read_made c.args.job c.args.seed files c.in-Ok.script c.with_setup.result
    (is_made c.args.job.nue c.args.seed c.args.text.now c.in-Ok.script c.requires.made (gen_read c.args.job.nue c.args.seed c.requires.some c.requires.most c.requires.short) c.in-Ok.ensures.gives)
    c.with_setup.ensures.job c.with_setup.ensures.script (c.with_setup.ensures.setup ∙ ap (λ (hosts : List ℕ). setup_by c.args.job hosts c.in-Ok.script) c.default_hosts.ensures.gives) c.with_setup.ensures.seed

pub returns-in-Err-Memory : goal.returns-in-Err-Memory
returns-in-Err-Memory c = λ files. loads_unmade c.args.job c.args.seed files complaint.Memory refl
