-- No check refuses a statement of the ring.
use Rattle.std.proofs.Common.{◌≡◌, ℕ, ◌+◌, ◌*◌, ◌%◌, ◌≤◌, ◌||◌, true, false, List, ◌∷◌, ◌++◌, length, reverse, Option, None, unwrap_or, refl, ◌∙◌, ap, arith}
use Rattle.std.specs.Prelude.{◌==◌, is_none}
use Rattle.groups.specs.declared.operations.Op.TheVariants as op
use Rattle.groups.specs.declared.operations.Ty.TheVariants as ty
use Rattle.script_rules.specs.declared.script.Form.TheVariants as form
use Rattle.script_rules.specs.declared.script.Item.{Item}
use Rattle.script_rules.specs.declared.script.OwnStmt.TheVariants as own
use Rattle.script_rules.specs.declared.script.Stmt.TheVariants as stmt
use Rattle.script_rules.specs.declared.script.Who.TheVariants as who
use Rattle.script_rules.specs.Checks.{cost_of, differs, is_ragged, length_at, open_of, operations, bytes_printed, run_of, turns_in}
use Rattle.script_rules.specs.Effects.{effect_of}
use Rattle.script_rules.specs.Limits.{most_operations}
use Rattle.script_gen.specs.Scripts.{item_of, recv_last, send_next}
use Rattle.script_gen.proofs.Checks.{AreLight, Passes, clears, not_above, passing}
use Rattle.script_gen.proofs.Facts.{light_sum, odd_other, recv_other, send_other, work}
use Rattle.script_gen.proofs.Others.{AreOthers, others_none, others_shown, print_more, print_within, silent, still_within}
use Rattle.script_gen.proofs.RingSaid.{length_10, length_12, length_13, length_14, length_16, length_17, more, past, ring_said}

module _ (nue s t : ℕ) (some : 2 ≤ nue) (most : nue ≤ 48) (small : s ≤ 65535) (least : 1 ≤ t) (few : t ≤ 10) where
  light : (rank : ℕ) → AreLight nue rank (reverse (ring_said s t))
  light rank = (
    (
      (
        (
          (
            (
              (
                (
                  (
                    (
                      (
                        (
                          (
                            (((((tt, omega (arith, few)), omega (arith, few)), omega (arith, few)), omega (arith, few)), omega (arith, few)),
                            light_sum nue rank (past s t 5) (omega (arith, few)) most,
                          ),
                          omega (arith, few),
                        ),
                        omega (arith, few),
                      ),
                      omega (arith, few),
                    ),
                    omega (arith, few),
                  ),
                  omega (arith, few),
                ),
                omega (arith, few),
              ),
              omega (arith, few),
            ),
            omega (arith, few),
          ),
          light_sum nue rank (past s t 14) (omega (arith, few)) most,
        ),
        omega (arith, few),
      ),
      omega (arith, few),
    ),
    omega (arith, few),
  )

  spent : (rank : ℕ) (ahead back : List Item) (item : Item) → ahead ++ item ∷ back ≡ reverse (ring_said s t) → length back ≤ 60
      → operations nue back rank + turns_in (open_of back) * cost_of (run_of nue back) (effect_of item.stmt).cost rank ≤ most_operations
  spent rank ahead back item is short = work nue rank (reverse (ring_said s t)) ahead back item (light rank) is short

  others : (rank : ℕ) → (rank % 2 == 1) ≡ true → AreOthers rank (past s t 9)
  others rank odd =
      let other : (rank % 2 == 0) ≡ false = odd_other rank odd in
      (((((((((tt, other), other), other), other), other), other), other), other), other)

  none_of : (rank : ℕ) → (rank % 2 == 1) ≡ true → (reg : ℕ) → length_at nue (past s t 9) rank reg ≡ None
  none_of rank odd = others_none nue rank (past s t 9) (others rank odd)

  quiet_9 : (rank : ℕ) → (rank % 2 == 1) ≡ true → bytes_printed nue (past s t 9) rank ≡ 0
  quiet_9 rank odd = others_shown nue rank (past s t 9) (others rank odd)

  quiet_10 : (rank : ℕ) → (rank % 2 == 1) ≡ true → bytes_printed nue (past s t 10) rank ≡ 0
  quiet_10 rank odd = silent nue rank (past s t 9) (item_of 12 who.Odd (stmt.Fill 0 s s)) refl ∙ quiet_9 rank odd

  quiet_11 : (rank : ℕ) → (rank % 2 == 1) ≡ true → bytes_printed nue (past s t 11) rank ≡ 0
  quiet_11 rank odd = silent nue rank (past s t 10) (item_of 13 who.Odd (stmt.RankOf 1 ty.Long)) refl ∙ quiet_10 rank odd

  quiet_12 : (rank : ℕ) → (rank % 2 == 1) ≡ true → bytes_printed nue (past s t 12) rank ≡ 0
  quiet_12 rank odd = silent nue rank (past s t 11) (item_of 14 who.Odd (stmt.Repeat t 0)) refl ∙ quiet_11 rank odd

  quiet_13 : (rank : ℕ) → (rank % 2 == 1) ≡ true → bytes_printed nue (past s t 13) rank ≡ 0
  quiet_13 rank odd = silent nue rank (past s t 12) (item_of 15 who.Odd (recv_last s)) refl ∙ quiet_12 rank odd

  quiet_14 : (rank : ℕ) → (rank % 2 == 1) ≡ true → bytes_printed nue (past s t 14) rank ≡ 0
  quiet_14 rank odd = silent nue rank (past s t 13) (item_of 16 who.Odd send_next) refl ∙ quiet_13 rank odd

  quiet_15 : (rank : ℕ) → (rank % 2 == 1) ≡ true → bytes_printed nue (past s t 15) rank ≡ 0
  quiet_15 rank odd = silent nue rank (past s t 14) (item_of 17 who.Odd (stmt.Allreduce 0 op.Sum ty.Long 1 1)) refl ∙ quiet_14 rank odd

  quiet_16 : (rank : ℕ) → (rank % 2 == 1) ≡ true → bytes_printed nue (past s t 16) rank ≡ 0
  quiet_16 rank odd = silent nue rank (past s t 15) (item_of 18 who.Odd (stmt.End 11)) refl ∙ quiet_15 rank odd

  shown_17 : (rank : ℕ) → (rank % 2 == 1) ≡ true → bytes_printed nue (past s t 17) rank ≤ s
  shown_17 rank odd =
      print_more (rank % 2 == 1) (bytes_printed nue (past s t 16) rank) 1 (length_at nue (past s t 16) rank 2) 0 s s
      (omega (arith, quiet_16 rank odd)) refl (length_16 nue s t rank (past s t 9) odd (none_of rank odd)) (omega arith)

  pub pass_0 : Passes nue (past s t 0) who.Even (stmt.Fill 0 s s)
  pass_0 =
      passing nue (past s t 0) who.Even (stmt.Fill 0 s s) refl refl refl refl refl (not_above 65536 s (omega (arith, small))) (λ check rank below has.
      let even : (rank % 2 == 0) ≡ true = has in
      clears nue (past s t 0) (stmt.Fill 0 s s) rank refl refl refl refl refl refl
      (spent rank (more s t 1) (past s t 0) (item_of 2 who.Even (stmt.Fill 0 s s)) refl (omega arith))
      (omega (arith, small)) check)

  pub pass_1 : Passes nue (past s t 1) who.Even (stmt.RankOf 1 ty.Long)
  pass_1 =
      passing nue (past s t 1) who.Even (stmt.RankOf 1 ty.Long) refl refl refl refl refl refl (λ check rank below has.
      let even : (rank % 2 == 0) ≡ true = has in
      clears nue (past s t 1) (stmt.RankOf 1 ty.Long) rank refl refl refl refl (simp even) refl
      (spent rank (more s t 2) (past s t 1) (item_of 3 who.Even (stmt.RankOf 1 ty.Long)) refl (omega arith))
      (simp even (omega (arith, small))) check)

  pub pass_2 : Passes nue (past s t 2) who.Even (stmt.Repeat t 0)
  pass_2 =
      passing nue (past s t 2) who.Even (stmt.Repeat t 0) refl refl refl refl (not_above most_operations (1 * t) (omega (arith, few))) refl (λ check rank below has.
      let even : (rank % 2 == 0) ≡ true = has in
      clears nue (past s t 2) (stmt.Repeat t 0) rank refl refl refl refl refl refl
      (spent rank (more s t 3) (past s t 2) (item_of 4 who.Even (stmt.Repeat t 0)) refl (omega arith))
      (simp even (omega (arith, small))) check)

  pub pass_3 : Passes nue (past s t 3) who.Even send_next
  pass_3 =
      passing nue (past s t 3) who.Even send_next refl refl refl refl refl refl (λ check rank below has.
      let even : (rank % 2 == 0) ≡ true = has in
      clears nue (past s t 3) send_next rank refl (send_other nue rank some below) refl (simp even) refl refl
      (spent rank (more s t 4) (past s t 3) (item_of 5 who.Even send_next) refl (omega arith))
      (simp even (omega (arith, small))) check)

  pub pass_4 : Passes nue (past s t 4) who.Even (recv_last s)
  pass_4 =
      passing nue (past s t 4) who.Even (recv_last s) refl refl refl refl refl (not_above 65536 s (omega (arith, small))) (λ check rank below has.
      let even : (rank % 2 == 0) ≡ true = has in
      clears nue (past s t 4) (recv_last s) rank refl (recv_other nue s rank some below) refl refl (simp even) refl
      (spent rank (more s t 5) (past s t 4) (item_of 6 who.Even (recv_last s)) refl (omega arith))
      (simp even (omega (arith, small))) check)

  pub pass_5 : Passes nue (past s t 5) who.Even (stmt.Allreduce 0 op.Sum ty.Long 1 1)
  pass_5 =
      passing nue (past s t 5) who.Even (stmt.Allreduce 0 op.Sum ty.Long 1 1) refl refl refl refl refl refl (λ check rank below has.
      let even : (rank % 2 == 0) ≡ true = has in
      clears nue (past s t 5) (stmt.Allreduce 0 op.Sum ty.Long 1 1) rank refl refl refl (simp even) (simp even) refl
      (spent rank (more s t 6) (past s t 5) (item_of 7 who.Even (stmt.Allreduce 0 op.Sum ty.Long 1 1)) refl (omega arith))
      (simp even (omega (arith, small))) check)

  pub pass_6 : Passes nue (past s t 6) who.Even (stmt.End 2)
  pass_6 =
      passing nue (past s t 6) who.Even (stmt.End 2) refl refl refl refl refl refl (λ check rank below has.
      let even : (rank % 2 == 0) ≡ true = has in
      clears nue (past s t 6) (stmt.End 2) rank refl refl refl refl refl refl
      (spent rank (more s t 7) (past s t 6) (item_of 8 who.Even (stmt.End 2)) refl (omega arith))
      (simp even (omega (arith, small))) check)

  pub pass_7 : Passes nue (past s t 7) who.Even (stmt.Own (own.Print 2 form.Hex))
  pass_7 =
      passing nue (past s t 7) who.Even (stmt.Own (own.Print 2 form.Hex)) refl refl refl refl refl refl (λ check rank below has.
      let even : (rank % 2 == 0) ≡ true = has in
      clears nue (past s t 7) (stmt.Own (own.Print 2 form.Hex)) rank refl refl refl (simp even) refl refl
      (spent rank (more s t 8) (past s t 7) (item_of 9 who.Even (stmt.Own (own.Print 2 form.Hex))) refl (omega arith))
      (simp even (omega (arith, small))) check)

  pub pass_8 : Passes nue (past s t 8) who.Even (stmt.Own (own.Print 1 (form.Decimal ty.Long)))
  pass_8 =
      passing nue (past s t 8) who.Even (stmt.Own (own.Print 1 (form.Decimal ty.Long))) refl refl refl refl refl refl (λ check rank below has.
      let even : (rank % 2 == 0) ≡ true = has in
      clears nue (past s t 8) (stmt.Own (own.Print 1 (form.Decimal ty.Long))) rank refl refl refl (simp even) (simp even) refl
      (spent rank (more s t 9) (past s t 8) (item_of 10 who.Even (stmt.Own (own.Print 1 (form.Decimal ty.Long)))) refl (omega arith))
      (simp even (omega (arith, small))) check)

  pub pass_9 : Passes nue (past s t 9) who.Odd (stmt.Fill 0 s s)
  pass_9 =
      passing nue (past s t 9) who.Odd (stmt.Fill 0 s s) refl refl refl refl refl (not_above 65536 s (omega (arith, small))) (λ check rank below has.
      clears nue (past s t 9) (stmt.Fill 0 s s) rank refl refl refl refl (ap (λ (o : Option ℕ). differs o s || false) (none_of rank has 0)) refl
      (spent rank (more s t 10) (past s t 9) (item_of 12 who.Odd (stmt.Fill 0 s s)) refl (omega arith))
      (still_within (bytes_printed nue (past s t 9) rank) (turns_in (open_of (past s t 9))) (quiet_9 rank has)) check)

  pub pass_10 : Passes nue (past s t 10) who.Odd (stmt.RankOf 1 ty.Long)
  pass_10 =
      passing nue (past s t 10) who.Odd (stmt.RankOf 1 ty.Long) refl refl refl refl refl refl (λ check rank below has.
      clears nue (past s t 10) (stmt.RankOf 1 ty.Long) rank refl refl refl refl (ap (λ (o : Option ℕ). differs o 8 || false) (length_10 nue s t rank (past s t 9) has (none_of rank has))) refl
      (spent rank (more s t 11) (past s t 10) (item_of 13 who.Odd (stmt.RankOf 1 ty.Long)) refl (omega arith))
      (still_within (bytes_printed nue (past s t 10) rank) (turns_in (open_of (past s t 10))) (quiet_10 rank has)) check)

  pub pass_11 : Passes nue (past s t 11) who.Odd (stmt.Repeat t 0)
  pass_11 =
      passing nue (past s t 11) who.Odd (stmt.Repeat t 0) refl refl refl refl (not_above most_operations (1 * t) (omega (arith, few))) refl (λ check rank below has.
      clears nue (past s t 11) (stmt.Repeat t 0) rank refl refl refl refl refl refl
      (spent rank (more s t 12) (past s t 11) (item_of 14 who.Odd (stmt.Repeat t 0)) refl (omega arith))
      (still_within (bytes_printed nue (past s t 11) rank) (turns_in (open_of (past s t 11))) (quiet_11 rank has)) check)

  pub pass_12 : Passes nue (past s t 12) who.Odd (recv_last s)
  pass_12 =
      passing nue (past s t 12) who.Odd (recv_last s) refl refl refl refl refl (not_above 65536 s (omega (arith, small))) (λ check rank below has.
      clears nue (past s t 12) (recv_last s) rank refl (recv_other nue s rank some below) refl refl (ap (λ (o : Option ℕ). differs o s || false) (length_12 nue s t rank (past s t 9) has (none_of rank has))) refl
      (spent rank (more s t 13) (past s t 12) (item_of 15 who.Odd (recv_last s)) refl (omega arith))
      (still_within (bytes_printed nue (past s t 12) rank) (turns_in (open_of (past s t 12))) (quiet_12 rank has)) check)

  pub pass_13 : Passes nue (past s t 13) who.Odd send_next
  pass_13 =
      passing nue (past s t 13) who.Odd send_next refl refl refl refl refl refl (λ check rank below has.
      clears nue (past s t 13) send_next rank refl (send_other nue rank some below) refl (ap is_none (length_13 nue s t rank (past s t 9) has (none_of rank has))) refl refl
      (spent rank (more s t 14) (past s t 13) (item_of 16 who.Odd send_next) refl (omega arith))
      (still_within (bytes_printed nue (past s t 13) rank) (turns_in (open_of (past s t 13))) (quiet_13 rank has)) check)

  pub pass_14 : Passes nue (past s t 14) who.Odd (stmt.Allreduce 0 op.Sum ty.Long 1 1)
  pass_14 =
      passing nue (past s t 14) who.Odd (stmt.Allreduce 0 op.Sum ty.Long 1 1) refl refl refl refl refl refl (λ check rank below has.
      clears nue (past s t 14) (stmt.Allreduce 0 op.Sum ty.Long 1 1) rank refl refl refl (ap is_none (length_14 nue s t rank (past s t 9) has (none_of rank has))) (ap (λ (o : Option ℕ). differs o (unwrap_or o 0) || is_ragged ty.Long o) (length_14 nue s t rank (past s t 9) has (none_of rank has))) refl
      (spent rank (more s t 15) (past s t 14) (item_of 17 who.Odd (stmt.Allreduce 0 op.Sum ty.Long 1 1)) refl (omega arith))
      (still_within (bytes_printed nue (past s t 14) rank) (turns_in (open_of (past s t 14))) (quiet_14 rank has)) check)

  pub pass_15 : Passes nue (past s t 15) who.Odd (stmt.End 11)
  pass_15 =
      passing nue (past s t 15) who.Odd (stmt.End 11) refl refl refl refl refl refl (λ check rank below has.
      clears nue (past s t 15) (stmt.End 11) rank refl refl refl refl refl refl
      (spent rank (more s t 16) (past s t 15) (item_of 18 who.Odd (stmt.End 11)) refl (omega arith))
      (still_within (bytes_printed nue (past s t 15) rank) (turns_in (open_of (past s t 15))) (quiet_15 rank has)) check)

  pub pass_16 : Passes nue (past s t 16) who.Odd (stmt.Own (own.Print 2 form.Hex))
  pass_16 =
      passing nue (past s t 16) who.Odd (stmt.Own (own.Print 2 form.Hex)) refl refl refl refl refl refl (λ check rank below has.
      clears nue (past s t 16) (stmt.Own (own.Print 2 form.Hex)) rank refl refl refl (ap is_none (length_16 nue s t rank (past s t 9) has (none_of rank has))) refl refl
      (spent rank (more s t 17) (past s t 16) (item_of 19 who.Odd (stmt.Own (own.Print 2 form.Hex))) refl (omega arith))
      (print_within (bytes_printed nue (past s t 16) rank) (turns_in (open_of (past s t 16))) (length_at nue (past s t 16) rank 2) 0 s
      (omega (arith, quiet_16 rank has)) refl (length_16 nue s t rank (past s t 9) has (none_of rank has)) (omega (arith, small))) check)

  pub pass_17 : Passes nue (past s t 17) who.Odd (stmt.Own (own.Print 1 (form.Decimal ty.Long)))
  pass_17 =
      passing nue (past s t 17) who.Odd (stmt.Own (own.Print 1 (form.Decimal ty.Long))) refl refl refl refl refl refl (λ check rank below has.
      clears nue (past s t 17) (stmt.Own (own.Print 1 (form.Decimal ty.Long))) rank refl refl refl (ap is_none (length_17 nue s t rank (past s t 9) has (none_of rank has))) (ap (λ (o : Option ℕ). false || is_ragged ty.Long o) (length_17 nue s t rank (past s t 9) has (none_of rank has))) refl
      (spent rank (more s t 18) (past s t 17) (item_of 20 who.Odd (stmt.Own (own.Print 1 (form.Decimal ty.Long)))) refl (omega arith))
      (print_within (bytes_printed nue (past s t 17) rank) (turns_in (open_of (past s t 17))) (length_at nue (past s t 17) rank 1) s 8
      (shown_17 rank has) refl (length_17 nue s t rank (past s t 9) has (none_of rank has)) (omega (arith, small))) check)
