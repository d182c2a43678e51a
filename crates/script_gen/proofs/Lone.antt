-- The script of a number for one rank: what the reader reads in its text.
use Rattle.std.proofs.Common.{◌≡◌, ℕ, ◌+◌, ◌*◌, ◌%◌, ◌≤◌, true, false, List, [], ◌∷◌, ◌++◌, length, map, reverse, take, drop, codes, decimal, Ok, refl, arith}
use Rattle.std.specs.Prelude.{◌==◌, nat_lt}
use Rattle.std.proofs.lemmas.Fmt.{length-decimal-le}
use Rattle.groups.specs.declared.operations.Op.TheVariants as op
use Rattle.groups.specs.declared.operations.Ty.TheVariants as ty
use Rattle.script_rules.specs.declared.script.Form.TheVariants as form
use Rattle.script_rules.specs.declared.script.Item.{Item}
use Rattle.script_rules.specs.declared.script.OwnStmt.TheVariants as own
use Rattle.script_rules.specs.declared.script.Stmt.TheVariants as stmt
use Rattle.script_rules.specs.declared.script.Who.{Who}
use Rattle.script_rules.specs.declared.script.Who.TheVariants as who
use Rattle.script_rules.specs.declared.version.Version.TheVariants as version
use Rattle.script_rules.specs.Checks.{cost_of, open_of, operations, run_of, turns_in}
use Rattle.script_rules.specs.Effects.{effect_of}
use Rattle.script_rules.specs.Limits.{most_operations}
use Rattle.script_reader.specs.Progress.{ReadingSoFar, start}
use Rattle.script_reader.specs.Reading.{at_end, most_script_bytes, parse_script, read_lines}
use Rattle.texts.specs.Cuts.{line_count}
use Rattle.script_gen.specs.Scripts.{item_of, lone_script}
use Rattle.script_gen.specs.Texts.{text_of_lines, turns_of}
use Rattle.script_gen.proofs.Checks.{AreLight, Passes, clears, not_above, passing, stage}
use Rattle.script_gen.proofs.Facts.{light_sum, none_odd, work}
use Rattle.script_gen.proofs.Lines.{AreLines, line_of}
use Rattle.script_gen.proofs.BothScripts.{end_are, even_are, fill_are, names_1, names_2, odd_are, printme_are, rank_are, repeat_are, sum_are}
use Rattle.script_gen.proofs.Reading.{allreduce_is, fill_is, go, text_read, text_short}
use Rattle.script_gen.proofs.SectionReads.{head_reads, next, tail_reads}

-- its lines, as words
abbrev pub lone_words : ℕ → ℕ → List (List (List ℕ))
lone_words s t =
    (codes "even" ∷ []) ∷
    (codes "fill" ∷ codes "h" ∷ decimal s ∷ decimal s ∷ []) ∷
    (codes "rank" ∷ codes "me" ∷ codes "long" ∷ []) ∷
    (codes "repeat" ∷ decimal t ∷ []) ∷
    (codes "allreduce" ∷ codes "0" ∷ codes "sum" ∷ codes "long" ∷ codes "me" ∷ codes "me" ∷ []) ∷
    (codes "end" ∷ []) ∷
    (codes "print" ∷ codes "long" ∷ codes "me" ∷ []) ∷
    (codes "odd" ∷ []) ∷
    (codes "fill" ∷ codes "h" ∷ decimal s ∷ decimal s ∷ []) ∷
    (codes "rank" ∷ codes "me" ∷ codes "long" ∷ []) ∷
    (codes "repeat" ∷ decimal t ∷ []) ∷
    (codes "allreduce" ∷ codes "0" ∷ codes "sum" ∷ codes "long" ∷ codes "me" ∷ codes "me" ∷ []) ∷
    (codes "end" ∷ []) ∷
    (codes "print" ∷ codes "long" ∷ codes "me" ∷ []) ∷
    []

-- its statements, before the repeats are told their ends
abbrev lone_said : ℕ → ℕ → List Item
lone_said s t =
    item_of 2 who.Even (stmt.Fill 0 s s) ∷
    item_of 3 who.Even (stmt.RankOf 1 ty.Long) ∷
    item_of 4 who.Even (stmt.Repeat t 0) ∷
    item_of 5 who.Even (stmt.Allreduce 0 op.Sum ty.Long 1 1) ∷
    item_of 6 who.Even (stmt.End 2) ∷
    item_of 7 who.Even (stmt.Own (own.Print 1 (form.Decimal ty.Long))) ∷
    item_of 9 who.Odd (stmt.Fill 0 s s) ∷
    item_of 10 who.Odd (stmt.RankOf 1 ty.Long) ∷
    item_of 11 who.Odd (stmt.Repeat t 0) ∷
    item_of 12 who.Odd (stmt.Allreduce 0 op.Sum ty.Long 1 1) ∷
    item_of 13 who.Odd (stmt.End 8) ∷
    item_of 14 who.Odd (stmt.Own (own.Print 1 (form.Decimal ty.Long))) ∷
    []

-- the statements before one, and those behind it; the lines behind one; and where the reader stands then
abbrev past : ℕ → ℕ → ℕ → List Item
past s t n = reverse (take n (lone_said s t))

abbrev more : ℕ → ℕ → ℕ → List Item
more s t n = reverse (drop n (lone_said s t))

abbrev rest : ℕ → ℕ → ℕ → List (List ℕ)
rest s t n = map line_of (drop n (lone_words s t)) ++ [] ∷ []

abbrev at : ℕ → ℕ → ℕ → ℕ → List (List ℕ) → Who → ReadingSoFar
at nue s t n names who = stage nue (take n (lone_said s t)) names who

module _ (s t : ℕ) (small : s ≤ 65535) (least : 1 ≤ t) (few : t ≤ 10) where
  light : (rank : ℕ) → AreLight 1 rank (reverse (lone_said s t))
  light rank = (
    (
      (
        (
          (
            (
              (
                (
                  (
                    (((tt, omega (arith, few)), omega (arith, few)), omega (arith, few)),
                    light_sum 1 rank (past s t 3) (omega (arith, few)) (omega arith),
                  ),
                  omega (arith, few),
                ),
                omega (arith, few),
              ),
              omega (arith, few),
            ),
            omega (arith, few),
          ),
          omega (arith, few),
        ),
        light_sum 1 rank (past s t 9) (omega (arith, few)) (omega arith),
      ),
      omega (arith, few),
    ),
    omega (arith, few),
  )

  spent : (rank : ℕ) (ahead back : List Item) (item : Item) → ahead ++ item ∷ back ≡ reverse (lone_said s t) → length back ≤ 60
      → operations 1 back rank + turns_in (open_of back) * cost_of (run_of 1 back) (effect_of item.stmt).cost rank ≤ most_operations
  spent rank ahead back item is short = work 1 rank (reverse (lone_said s t)) ahead back item (light rank) is short

  pass_0 : Passes 1 (past s t 0) who.Even (stmt.Fill 0 s s)
  pass_0 =
      passing 1 (past s t 0) who.Even (stmt.Fill 0 s s) refl refl refl refl refl (not_above 65536 s (omega (arith, small))) (λ check rank below has.
      let even : (rank % 2 == 0) ≡ true = has in
      clears 1 (past s t 0) (stmt.Fill 0 s s) rank refl refl refl refl refl refl
      (spent rank (more s t 1) (past s t 0) (item_of 2 who.Even (stmt.Fill 0 s s)) refl (omega arith))
      (omega (arith, small)) check)

  pass_1 : Passes 1 (past s t 1) who.Even (stmt.RankOf 1 ty.Long)
  pass_1 =
      passing 1 (past s t 1) who.Even (stmt.RankOf 1 ty.Long) refl refl refl refl refl refl (λ check rank below has.
      let even : (rank % 2 == 0) ≡ true = has in
      clears 1 (past s t 1) (stmt.RankOf 1 ty.Long) rank refl refl refl refl (simp even) refl
      (spent rank (more s t 2) (past s t 1) (item_of 3 who.Even (stmt.RankOf 1 ty.Long)) refl (omega arith))
      (simp even (omega (arith, small))) check)

  pass_2 : Passes 1 (past s t 2) who.Even (stmt.Repeat t 0)
  pass_2 =
      passing 1 (past s t 2) who.Even (stmt.Repeat t 0) refl refl refl refl (not_above most_operations (1 * t) (omega (arith, few))) refl (λ check rank below has.
      let even : (rank % 2 == 0) ≡ true = has in
      clears 1 (past s t 2) (stmt.Repeat t 0) rank refl refl refl refl refl refl
      (spent rank (more s t 3) (past s t 2) (item_of 4 who.Even (stmt.Repeat t 0)) refl (omega arith))
      (simp even (omega (arith, small))) check)

  pass_3 : Passes 1 (past s t 3) who.Even (stmt.Allreduce 0 op.Sum ty.Long 1 1)
  pass_3 =
      passing 1 (past s t 3) who.Even (stmt.Allreduce 0 op.Sum ty.Long 1 1) refl refl refl refl refl refl (λ check rank below has.
      let even : (rank % 2 == 0) ≡ true = has in
      clears 1 (past s t 3) (stmt.Allreduce 0 op.Sum ty.Long 1 1) rank refl refl refl (simp even) (simp even) refl
      (spent rank (more s t 4) (past s t 3) (item_of 5 who.Even (stmt.Allreduce 0 op.Sum ty.Long 1 1)) refl (omega arith))
      (simp even (omega (arith, small))) check)

  pass_4 : Passes 1 (past s t 4) who.Even (stmt.End 2)
  pass_4 =
      passing 1 (past s t 4) who.Even (stmt.End 2) refl refl refl refl refl refl (λ check rank below has.
      let even : (rank % 2 == 0) ≡ true = has in
      clears 1 (past s t 4) (stmt.End 2) rank refl refl refl refl refl refl
      (spent rank (more s t 5) (past s t 4) (item_of 6 who.Even (stmt.End 2)) refl (omega arith))
      (simp even (omega (arith, small))) check)

  pass_5 : Passes 1 (past s t 5) who.Even (stmt.Own (own.Print 1 (form.Decimal ty.Long)))
  pass_5 =
      passing 1 (past s t 5) who.Even (stmt.Own (own.Print 1 (form.Decimal ty.Long))) refl refl refl refl refl refl (λ check rank below has.
      let even : (rank % 2 == 0) ≡ true = has in
      clears 1 (past s t 5) (stmt.Own (own.Print 1 (form.Decimal ty.Long))) rank refl refl refl (simp even) (simp even) refl
      (spent rank (more s t 6) (past s t 5) (item_of 7 who.Even (stmt.Own (own.Print 1 (form.Decimal ty.Long)))) refl (omega arith))
      (simp even (omega (arith, small))) check)

  pass_6 : Passes 1 (past s t 6) who.Odd (stmt.Fill 0 s s)
  pass_6 = passing 1 (past s t 6) who.Odd (stmt.Fill 0 s s) refl refl refl refl refl (not_above 65536 s (omega (arith, small))) (λ check rank below has. absurd (none_odd rank below has))

  pass_7 : Passes 1 (past s t 7) who.Odd (stmt.RankOf 1 ty.Long)
  pass_7 = passing 1 (past s t 7) who.Odd (stmt.RankOf 1 ty.Long) refl refl refl refl refl refl (λ check rank below has. absurd (none_odd rank below has))

  pass_8 : Passes 1 (past s t 8) who.Odd (stmt.Repeat t 0)
  pass_8 = passing 1 (past s t 8) who.Odd (stmt.Repeat t 0) refl refl refl refl (not_above most_operations (1 * t) (omega (arith, few))) refl (λ check rank below has. absurd (none_odd rank below has))

  pass_9 : Passes 1 (past s t 9) who.Odd (stmt.Allreduce 0 op.Sum ty.Long 1 1)
  pass_9 = passing 1 (past s t 9) who.Odd (stmt.Allreduce 0 op.Sum ty.Long 1 1) refl refl refl refl refl refl (λ check rank below has. absurd (none_odd rank below has))

  pass_10 : Passes 1 (past s t 10) who.Odd (stmt.End 8)
  pass_10 = passing 1 (past s t 10) who.Odd (stmt.End 8) refl refl refl refl refl refl (λ check rank below has. absurd (none_odd rank below has))

  pass_11 : Passes 1 (past s t 11) who.Odd (stmt.Own (own.Print 1 (form.Decimal ty.Long)))
  pass_11 = passing 1 (past s t 11) who.Odd (stmt.Own (own.Print 1 (form.Decimal ty.Long))) refl refl refl refl refl refl (λ check rank below has. absurd (none_odd rank below has))

  are : AreLines (lone_words s t)
  are = (
    even_are,
    (
      fill_are s small,
      (
        rank_are,
        (
          repeat_are t few,
          (
            sum_are,
            (
              end_are,
              (
                printme_are,
                (
                  odd_are,
                  (
                    fill_are s small,
                    (
                      rank_are,
                      (repeat_are t few, (sum_are, (end_are, (printme_are, tt)))),
                    ),
                  ),
                ),
              ),
            ),
          ),
        ),
      ),
    ),
  )

  reading : read_lines 0 (start version.One 1) (rest s t 0) ≡ Ok (stage 1 (lone_said s t) names_2 who.Odd)
  reading =
      (go 0 (start version.One 1) (at 1 s t 0 [] who.Even) (codes "even") []
      (rest s t 1) _ even_are
      refl
      (head_reads 1 1 (take 0 (lone_said s t)) who.Even s t [] names_1 names_2 (rest s t 4) _ small least few
      (fill_is 2 (at 1 s t 0 [] who.Even) s small) refl pass_0 pass_1 pass_2 refl refl
      (tail_reads 1 4 (take 3 (lone_said s t)) who.Even names_2 2 (rest s t 6) _
      (allreduce_is 5 (at 1 s t 3 names_2 who.Even)) refl pass_3 pass_4 refl
      (next 1 6 (take 5 (lone_said s t)) names_2 names_2 who.Even (stmt.Own (own.Print 1 (form.Decimal ty.Long))) (codes "print") (codes "long" ∷ codes "me" ∷ [])
      (rest s t 7) _ printme_are refl pass_5 refl
      (go 7 (at 1 s t 6 names_2 who.Even) (at 1 s t 6 names_2 who.Odd) (codes "odd") []
      (rest s t 8) _ odd_are
      refl
      (head_reads 1 8 (take 6 (lone_said s t)) who.Odd s t names_2 names_2 names_2 (rest s t 11) _ small least few
      (fill_is 9 (at 1 s t 6 names_2 who.Odd) s small) refl pass_6 pass_7 pass_8 refl refl
      (tail_reads 1 11 (take 9 (lone_said s t)) who.Odd names_2 8 (rest s t 13) _
      (allreduce_is 12 (at 1 s t 9 names_2 who.Odd)) refl pass_9 pass_10 refl
      (next 1 13 (take 11 (lone_said s t)) names_2 names_2 who.Odd (stmt.Own (own.Print 1 (form.Decimal ty.Long))) (codes "print") (codes "long" ∷ codes "me" ∷ [])
      (rest s t 14) _ printme_are refl pass_11 refl
      refl))))))))

  fits : nat_lt most_script_bytes (length (text_of_lines (map line_of (lone_words s t)))) ≡ false
  fits =
      let s_short : length (decimal s) ≤ 10 = length-decimal-le 10 s (omega arith) (omega (arith, small)) (omega (arith, small)) in
      let t_short : length (decimal t) ≤ 10 = length-decimal-le 10 t (omega arith) (omega (arith, few)) (omega (arith, few)) in
      let size = text_short (lone_words s t) in
      not_above most_script_bytes _ (omega (arith, size, s_short, t_short))

  pub lone_read : parse_script (text_of_lines (map line_of (lone_words s t))) 1 ≡ at_end (line_count (rest s t 0)) (stage 1 (lone_said s t) names_2 who.Odd)
  lone_read = text_read 1 (lone_words s t) (stage 1 (lone_said s t) names_2 who.Odd) are fits refl reading

-- the script that the text says
pub lone_law : (s : ℕ) → s ≤ 65535 → parse_script (text_of_lines (map line_of (lone_words s (turns_of s)))) 1 ≡ Ok (lone_script s)
lone_law s small = lone_read s (turns_of s) small (omega arith) (omega arith)
