-- The script of a number for two ranks and more: what the reader reads in its text.
use Rattle.std.proofs.Common.{◌≡◌, ℕ, ◌≤◌, false, [], ◌∷◌, length, map, take, codes, decimal, Ok, refl, arith}
use Rattle.std.specs.Prelude.{nat_lt}
use Rattle.std.proofs.lemmas.Fmt.{length-decimal-le}
use Rattle.groups.specs.declared.operations.Ty.TheVariants as ty
use Rattle.script_rules.specs.declared.script.Form.TheVariants as form
use Rattle.script_rules.specs.declared.script.OwnStmt.TheVariants as own
use Rattle.script_rules.specs.declared.script.Stmt.TheVariants as stmt
use Rattle.script_rules.specs.declared.script.Who.TheVariants as who
use Rattle.script_rules.specs.declared.version.Version.TheVariants as version
use Rattle.script_reader.specs.Progress.{start}
use Rattle.script_reader.specs.Reading.{at_end, most_script_bytes, parse_script, read_lines}
use Rattle.texts.specs.Cuts.{line_count}
use Rattle.script_gen.specs.Scripts.{recv_last, ring_script, send_next}
use Rattle.script_gen.specs.Texts.{text_of_lines, turns_of}
use Rattle.script_gen.proofs.Checks.{not_above, stage}
use Rattle.script_gen.proofs.Lines.{AreLines, AreWords, decimal_word, line_of}
use Rattle.script_gen.proofs.BothScripts.{end_are, even_are, fill_are, names_1, names_2, odd_are, printme_are, rank_are, repeat_are, sum_are}
use Rattle.script_gen.proofs.Reading.{allreduce_is, fill_is, go, recv_is, send_is, text_read, text_short}
use Rattle.script_gen.proofs.SectionReads.{head_reads, next, tail_reads}
use Rattle.script_gen.proofs.RingSaid.{at, names_3, rest, ring_said, ring_words}
use Rattle.script_gen.proofs.RingPasses.{pass_0, pass_1, pass_2, pass_3, pass_4, pass_5, pass_6, pass_7, pass_8, pass_9, pass_10, pass_11, pass_12, pass_13, pass_14, pass_15, pass_16, pass_17}

module _ (nue s t : ℕ) (some : 2 ≤ nue) (most : nue ≤ 48) (small : s ≤ 65535) (least : 1 ≤ t) (few : t ≤ 10) where
  send_are : AreWords (codes "send" ∷ codes "+1" ∷ codes "h" ∷ [])
  send_are = ((refl, refl), ((refl, refl), ((refl, refl), tt)))

  recv_are : AreWords (codes "recv" ∷ codes "-1" ∷ codes "g" ∷ decimal s ∷ [])
  recv_are = ((refl, refl), ((refl, refl), ((refl, refl), (decimal_word s small, tt))))

  printg_are : AreWords (codes "print" ∷ codes "g" ∷ [])
  printg_are = ((refl, refl), ((refl, refl), tt))

  are : AreLines (ring_words s t)
  are = (
    even_are,
    (
      fill_are s small,
      (
        rank_are,
        (
          repeat_are t few,
          (
            send_are,
            (
              recv_are,
              (
                sum_are,
                (
                  end_are,
                  (
                    printg_are,
                    (
                      printme_are,
                      (odd_are, (fill_are s small, (rank_are, (repeat_are t few, (recv_are, (send_are, (sum_are, (end_are, (printg_are, (printme_are, tt)))))))))),
                    ),
                  ),
                ),
              ),
            ),
          ),
        ),
      ),
    ),
  )

  reading : read_lines 0 (start version.One nue) (rest s t 0) ≡ Ok (stage nue (ring_said s t) names_3 who.Odd)
  reading =
      (go 0 (start version.One nue) (at nue s t 0 [] who.Even) (codes "even") []
      (rest s t 1) _ even_are
      refl
      (head_reads nue 1 (take 0 (ring_said s t)) who.Even s t [] names_1 names_2 (rest s t 4) _ small least few
      (fill_is 2 (at nue s t 0 [] who.Even) s small) refl (pass_0 nue s t some most small least few) (pass_1 nue s t some most small least few) (pass_2 nue s t some most small least few) refl refl
      (next nue 4 (take 3 (ring_said s t)) names_2 names_2 who.Even send_next (codes "send") (codes "+1" ∷ codes "h" ∷ [])
      (rest s t 5) _ send_are (send_is 5 (at nue s t 3 names_2 who.Even)) (pass_3 nue s t some most small least few) refl
      (next nue 5 (take 4 (ring_said s t)) names_2 names_3 who.Even (recv_last s) (codes "recv") (codes "-1" ∷ codes "g" ∷ decimal s ∷ [])
      (rest s t 6) _ recv_are (recv_is 6 (at nue s t 4 names_2 who.Even) s small) (pass_4 nue s t some most small least few) refl
      (tail_reads nue 6 (take 5 (ring_said s t)) who.Even names_3 2 (rest s t 8) _
      (allreduce_is 7 (at nue s t 5 names_3 who.Even)) refl (pass_5 nue s t some most small least few) (pass_6 nue s t some most small least few) refl
      (next nue 8 (take 7 (ring_said s t)) names_3 names_3 who.Even (stmt.Own (own.Print 2 form.Hex)) (codes "print") (codes "g" ∷ [])
      (rest s t 9) _ printg_are refl (pass_7 nue s t some most small least few) refl
      (next nue 9 (take 8 (ring_said s t)) names_3 names_3 who.Even (stmt.Own (own.Print 1 (form.Decimal ty.Long))) (codes "print") (codes "long" ∷ codes "me" ∷ [])
      (rest s t 10) _ printme_are refl (pass_8 nue s t some most small least few) refl
      (go 10 (at nue s t 9 names_3 who.Even) (at nue s t 9 names_3 who.Odd) (codes "odd") []
      (rest s t 11) _ odd_are
      refl
      (head_reads nue 11 (take 9 (ring_said s t)) who.Odd s t names_3 names_3 names_3 (rest s t 14) _ small least few
      (fill_is 12 (at nue s t 9 names_3 who.Odd) s small) refl (pass_9 nue s t some most small least few) (pass_10 nue s t some most small least few) (pass_11 nue s t some most small least few) refl refl
      (next nue 14 (take 12 (ring_said s t)) names_3 names_3 who.Odd (recv_last s) (codes "recv") (codes "-1" ∷ codes "g" ∷ decimal s ∷ [])
      (rest s t 15) _ recv_are (recv_is 15 (at nue s t 12 names_3 who.Odd) s small) (pass_12 nue s t some most small least few) refl
      (next nue 15 (take 13 (ring_said s t)) names_3 names_3 who.Odd send_next (codes "send") (codes "+1" ∷ codes "h" ∷ [])
      (rest s t 16) _ send_are (send_is 16 (at nue s t 13 names_3 who.Odd)) (pass_13 nue s t some most small least few) refl
      (tail_reads nue 16 (take 14 (ring_said s t)) who.Odd names_3 11 (rest s t 18) _
      (allreduce_is 17 (at nue s t 14 names_3 who.Odd)) refl (pass_14 nue s t some most small least few) (pass_15 nue s t some most small least few) refl
      (next nue 18 (take 16 (ring_said s t)) names_3 names_3 who.Odd (stmt.Own (own.Print 2 form.Hex)) (codes "print") (codes "g" ∷ [])
      (rest s t 19) _ printg_are refl (pass_16 nue s t some most small least few) refl
      (next nue 19 (take 17 (ring_said s t)) names_3 names_3 who.Odd (stmt.Own (own.Print 1 (form.Decimal ty.Long))) (codes "print") (codes "long" ∷ codes "me" ∷ [])
      (rest s t 20) _ printme_are refl (pass_17 nue s t some most small least few) refl
      refl))))))))))))))

  fits : nat_lt most_script_bytes (length (text_of_lines (map line_of (ring_words s t)))) ≡ false
  fits =
      let s_short : length (decimal s) ≤ 10 = length-decimal-le 10 s (omega arith) (omega (arith, small)) (omega (arith, small)) in
      let t_short : length (decimal t) ≤ 10 = length-decimal-le 10 t (omega arith) (omega (arith, few)) (omega (arith, few)) in
      let size = text_short (ring_words s t) in
      not_above most_script_bytes _ (omega (arith, size, s_short, t_short))

  pub ring_read : parse_script (text_of_lines (map line_of (ring_words s t))) nue ≡ at_end (line_count (rest s t 0)) (stage nue (ring_said s t) names_3 who.Odd)
  ring_read = text_read nue (ring_words s t) (stage nue (ring_said s t) names_3 who.Odd) are fits refl reading

-- the script that the text says
pub ring_law : (nue s : ℕ) → 2 ≤ nue → nue ≤ 48 → s ≤ 65535
    → parse_script (text_of_lines (map line_of (ring_words s (turns_of s)))) nue ≡ Ok (ring_script nue s)
ring_law nue s some most small = ring_read nue s (turns_of s) some most small (omega arith) (omega arith)
