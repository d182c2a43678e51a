-- The grammars of the words and of the host file, computed.
use Rattle.std.proofs.Common.{◌≡◌, ℕ, [], ◌∷◌, ◌++◌, replicate, refl}
use Rattle.std.specs.Prelude.{codes, true, false, Some, None, Ok, Err}
use Rattle.rcce_words.specs.declared.command.Job.{Job}
use Rattle.rcce_words.specs.declared.command.Work.TheVariants as work
use Rattle.rcce_words.specs.declared.command.WordFault.TheVariants as fault
use Rattle.texts.specs.Numbers.{number_in, number_of}
use Rattle.rcce_words.specs.CommandLine.{parse_command}
use Rattle.rcce_words.specs.FaultTexts.{fault_text}
use Rattle.rcce_words.specs.HostFile.{parse_hosts}
use Rattle.rcce_words.specs.declared.host_file.HostKind.TheVariants as kind

abbrev of_two : ℕ → Job
of_two script = record { nue = 2; hosts = None; evict = None; serial = None; bits = false; work = work.Script script }

a_script : parse_command (codes "-nue" ∷ codes "2" ∷ codes "s.rcce" ∷ []) ≡ Ok (of_two 2)
unfolding number_in
a_script = refl

leading_zeros : parse_command (codes "-nue" ∷ codes "0000000002" ∷ codes "s" ∷ []) ≡ Ok (of_two 2)
unfolding number_in
leading_zeros = refl

hosts : parse_command (codes "-nue" ∷ codes "2" ∷ codes "-f" ∷ codes "h" ∷ codes "s" ∷ []) ≡ Ok (record (of_two 4) { hosts = Some 3 })
unfolding number_in
hosts = refl

-- the value of `-f` is taken as it stands, and the options come in any order
in_any_order : parse_command (codes "-bits" ∷ codes "-f" ∷ codes "-gen" ∷ codes "-evict" ∷ codes "4294967295" ∷ codes "-nue" ∷ codes "2" ∷ codes "-serial" ∷ codes "0" ∷ codes "s" ∷ [])
    ≡ Ok (record (of_two 9) { hosts = Some 2; evict = Some 4294967295; serial = Some 0; bits = true })
unfolding number_in
in_any_order = refl

made : parse_command (codes "-gen" ∷ codes "007" ∷ codes "-nue" ∷ codes "2" ∷ []) ≡ Ok (record (of_two 0) { work = work.Gen 7 })
unfolding number_in
made = refl

no_words : parse_command [] ≡ Err fault.NoNue
unfolding number_in
no_words = refl

no_script : parse_command (codes "-nue" ∷ codes "2" ∷ []) ≡ Err fault.NoScript
unfolding number_in
no_script = refl

a_script_alone : parse_command (codes "s" ∷ []) ≡ Err fault.NoNue
unfolding number_in
a_script_alone = refl

past_the_cores : parse_command (codes "-nue" ∷ codes "49" ∷ codes "s.rcce" ∷ []) ≡ Err (fault.BadNumber 0)
unfolding number_in
past_the_cores = refl

an_option_for_a_number : parse_command (codes "-nue" ∷ codes "-nue" ∷ codes "2" ∷ []) ≡ Err (fault.BadNumber 0)
unfolding number_in
an_option_for_a_number = refl

an_unknown_word : parse_command (codes "-nue" ∷ codes "2" ∷ codes "-fast" ∷ codes "s.rcce" ∷ []) ≡ Err (fault.Unknown 2)
unfolding number_in
an_unknown_word = refl

twice : parse_command (codes "-nue" ∷ codes "2" ∷ codes "-nue" ∷ codes "2" ∷ codes "s.rcce" ∷ []) ≡ Err (fault.Twice 2)
unfolding number_in
twice = refl

no_value : parse_command (codes "-nue" ∷ []) ≡ Err (fault.NoValue 0)
unfolding number_in
no_value = refl

after_the_script : parse_command (codes "-nue" ∷ codes "2" ∷ codes "s.rcce" ∷ codes "-bits" ∷ []) ≡ Err (fault.Extra 3)
unfolding number_in
after_the_script = refl

-- behind the script's name the other checks come first
twice_after : parse_command (codes "-nue" ∷ codes "2" ∷ codes "s" ∷ codes "-nue" ∷ []) ≡ Err (fault.Twice 3)
unfolding number_in
twice_after = refl

no_value_after : parse_command (codes "-nue" ∷ codes "2" ∷ codes "s" ∷ codes "-evict" ∷ []) ≡ Err (fault.NoValue 3)
unfolding number_in
no_value_after = refl

bad_number_after : parse_command (codes "-nue" ∷ codes "2" ∷ codes "s" ∷ codes "-evict" ∷ codes "x" ∷ []) ≡ Err (fault.BadNumber 3)
unfolding number_in
bad_number_after = refl

extra_after : parse_command (codes "-nue" ∷ codes "2" ∷ codes "s" ∷ codes "-evict" ∷ codes "3" ∷ []) ≡ Err (fault.Extra 3)
unfolding number_in
extra_after = refl

-- beside `-gen`
before_its_value : parse_command (codes "-evict" ∷ codes "1" ∷ codes "-gen" ∷ []) ≡ Err (fault.Extra 2)
unfolding number_in
before_its_value = refl

hosts_beside_gen : parse_command (codes "-gen" ∷ codes "3" ∷ codes "-f" ∷ codes "h" ∷ []) ≡ Err (fault.Extra 2)
unfolding number_in
hosts_beside_gen = refl

a_script_beside_gen : parse_command (codes "-nue" ∷ codes "2" ∷ codes "-gen" ∷ codes "3" ∷ codes "s" ∷ []) ≡ Err (fault.Extra 4)
unfolding number_in
a_script_beside_gen = refl

a_seed_too_great : parse_command (codes "-nue" ∷ codes "2" ∷ codes "-gen" ∷ codes "65536" ∷ []) ≡ Err (fault.BadNumber 2)
unfolding number_in
a_seed_too_great = refl

a_text : fault_text (codes "-nue" ∷ codes "49" ∷ codes "s.rcce" ∷ []) (fault.BadNumber 0) ≡ codes "bad number after -nue: 49"
a_text = refl

-- host files
two_hosts : parse_hosts (codes "5\nrck07\n") 2 ≡ Ok (5 ∷ 7 ∷ replicate 46 5)
unfolding number_of
two_hosts = refl

blanks_and_comments : parse_hosts (codes "\t 5 \n\n # none\n0000000047# x\n3") 2 ≡ Ok (5 ∷ 47 ∷ replicate 46 5)
unfolding number_of
blanks_and_comments = refl

the_core_twice : parse_hosts (codes "5\n5\n") 2 ≡ Err (record { line = 2; kind = kind.TwiceCore })
unfolding number_of
the_core_twice = refl

one_core_for_two : parse_hosts (codes "5\n") 2 ≡ Err (record { line = 2; kind = kind.TooFew })
unfolding number_of
one_core_for_two = refl

one_core_with_no_line_feed : parse_hosts (codes "5") 2 ≡ Err (record { line = 2; kind = kind.TooFew })
unfolding number_of
one_core_with_no_line_feed = refl

no_lines : parse_hosts [] 1 ≡ Err (record { line = 1; kind = kind.TooFew })
unfolding number_of
no_lines = refl

two_words : parse_hosts (codes "5 6\n") 1 ≡ Err (record { line = 1; kind = kind.BadCore })
unfolding number_of
two_words = refl

past_the_last_core : parse_hosts (codes "48") 1 ≡ Err (record { line = 1; kind = kind.BadCore })
unfolding number_of
past_the_last_core = refl

no_text : parse_hosts (codes "5\n" ++ 127 ∷ []) 1 ≡ Err (record { line = 2; kind = kind.NotText })
unfolding number_of
no_text = refl
