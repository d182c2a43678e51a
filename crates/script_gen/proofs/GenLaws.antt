-- The reader reads in a generated text the script that is stated.
use Rattle.std.proofs.Common.{◌≡◌, ℕ, ◌<◌, ◌≤◌, Bool, false, cond, List, Result, Ok, refl, sym, ◌∙◌, ap, subst, arith, ◌⊎◌, inl, inr}
use Rattle.std.specs.Prelude.{◌==◌}
use Rattle.std.proofs.lemmas.Bool.{cases_lt, ne_eqb}
use Rattle.script_reader.specs.declared.fault.ReadFault.{ReadFault}
use Rattle.script_reader.specs.Reading.{parse_script}
use Rattle.script_rules.specs.Script.{Script}
use Rattle.script_gen.specs.Scripts.{gen_script_of, lone_script, ring_script}
use Rattle.script_gen.specs.Texts.{gen_text}
use Rattle.script_gen.proofs.Lone.{lone_law}
use Rattle.script_gen.proofs.Ring.{ring_law}
use Rattle.script_gen.proofs.Sections.{gen_alone, gen_ring}

abbrev said : Script → Result Script ReadFault
said script = Ok script

alone_read : (nue s : ℕ) → nue ≡ 1 → s ≤ 65535 → parse_script (gen_text nue s) nue ≡ Ok (gen_script_of nue s)
alone_read nue s one small =
    subst (λ (n : ℕ). parse_script (gen_text n s) n ≡ Ok (gen_script_of n s)) (sym one)
    (ap (λ (text : List ℕ). parse_script text 1) (gen_alone 1 s refl) ∙ lone_law s small)

ring_read : (nue s : ℕ) → 2 ≤ nue → nue ≤ 48 → s ≤ 65535 → parse_script (gen_text nue s) nue ≡ Ok (gen_script_of nue s)
ring_read nue s some most small =
    let other : nue ≡ 1 → ⊥ = λ one. absurd (omega (arith, one, some)) in
    ap (λ (text : List ℕ). parse_script text nue) (gen_ring nue s other) ∙ ring_law nue s some most small ∙ sym (chosen (ne_eqb nue 1 other))
  where
    chosen : (nue == 1) ≡ false → said (gen_script_of nue s) ≡ said (ring_script nue s)
    chosen is = ap (λ (b : Bool). said (cond b (lone_script s) (ring_script nue s))) is

pub gen_read : (nue s : ℕ) → 1 ≤ nue → nue ≤ 48 → s ≤ 65535 → parse_script (gen_text nue s) nue ≡ Ok (gen_script_of nue s)
gen_read nue s some most small =
    by (cases_lt 1 nue)
  where
    by : (1 < nue) ⊎ (nue ≤ 1) → parse_script (gen_text nue s) nue ≡ Ok (gen_script_of nue s)
    by (inl more) = ring_read nue s (omega (arith, more)) most small
    by (inr one) = alone_read nue s (omega (arith, one, some)) small
