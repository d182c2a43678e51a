-- The ring as the reader takes it: its lines, the statements that they say, and the lengths of its registers.
use Rattle.std.proofs.Common.{◌≡◌, ℕ, ◌%◌, true, List, [], ◌∷◌, ◌++◌, map, reverse, take, drop, codes, decimal, Some, None}
use Rattle.std.specs.Prelude.{◌==◌}
use Rattle.groups.specs.declared.operations.Op.TheVariants as op
use Rattle.groups.specs.declared.operations.Ty.TheVariants as ty
use Rattle.script_rules.specs.declared.script.Form.TheVariants as form
use Rattle.script_rules.specs.declared.script.Item.{Item}
use Rattle.script_rules.specs.declared.script.OwnStmt.TheVariants as own
use Rattle.script_rules.specs.declared.script.Stmt.TheVariants as stmt
use Rattle.script_rules.specs.declared.script.Who.{Who}
use Rattle.script_rules.specs.declared.script.Who.TheVariants as who
use Rattle.script_rules.specs.Checks.{length_at}
use Rattle.script_reader.specs.Progress.{ReadingSoFar}
use Rattle.script_gen.specs.Scripts.{item_of, recv_last, send_next}
use Rattle.script_gen.proofs.Checks.{stage}
use Rattle.script_gen.proofs.Lines.{line_of}

-- the names of the registers, once the third has come
abbrev pub names_3 : List (List ℕ)
names_3 = codes "h" ∷ codes "me" ∷ codes "g" ∷ []

-- its lines, as words
abbrev pub ring_words : ℕ → ℕ → List (List (List ℕ))
ring_words s t =
    (codes "even" ∷ []) ∷
    (codes "fill" ∷ codes "h" ∷ decimal s ∷ decimal s ∷ []) ∷
    (codes "rank" ∷ codes "me" ∷ codes "long" ∷ []) ∷
    (codes "repeat" ∷ decimal t ∷ []) ∷
    (codes "send" ∷ codes "+1" ∷ codes "h" ∷ []) ∷
    (codes "recv" ∷ codes "-1" ∷ codes "g" ∷ decimal s ∷ []) ∷
    (codes "allreduce" ∷ codes "0" ∷ codes "sum" ∷ codes "long" ∷ codes "me" ∷ codes "me" ∷ []) ∷
    (codes "end" ∷ []) ∷
    (codes "print" ∷ codes "g" ∷ []) ∷
    (codes "print" ∷ codes "long" ∷ codes "me" ∷ []) ∷
    (codes "odd" ∷ []) ∷
    (codes "fill" ∷ codes "h" ∷ decimal s ∷ decimal s ∷ []) ∷
    (codes "rank" ∷ codes "me" ∷ codes "long" ∷ []) ∷
    (codes "repeat" ∷ decimal t ∷ []) ∷
    (codes "recv" ∷ codes "-1" ∷ codes "g" ∷ decimal s ∷ []) ∷
    (codes "send" ∷ codes "+1" ∷ codes "h" ∷ []) ∷
    (codes "allreduce" ∷ codes "0" ∷ codes "sum" ∷ codes "long" ∷ codes "me" ∷ codes "me" ∷ []) ∷
    (codes "end" ∷ []) ∷
    (codes "print" ∷ codes "g" ∷ []) ∷
    (codes "print" ∷ codes "long" ∷ codes "me" ∷ []) ∷
    []

-- its statements, before the repeats are told their ends
abbrev pub ring_said : ℕ → ℕ → List Item
ring_said s t =
    item_of 2 who.Even (stmt.Fill 0 s s) ∷
    item_of 3 who.Even (stmt.RankOf 1 ty.Long) ∷
    item_of 4 who.Even (stmt.Repeat t 0) ∷
    item_of 5 who.Even send_next ∷
    item_of 6 who.Even (recv_last s) ∷
    item_of 7 who.Even (stmt.Allreduce 0 op.Sum ty.Long 1 1) ∷
    item_of 8 who.Even (stmt.End 2) ∷
    item_of 9 who.Even (stmt.Own (own.Print 2 form.Hex)) ∷
    item_of 10 who.Even (stmt.Own (own.Print 1 (form.Decimal ty.Long))) ∷
    item_of 12 who.Odd (stmt.Fill 0 s s) ∷
    item_of 13 who.Odd (stmt.RankOf 1 ty.Long) ∷
    item_of 14 who.Odd (stmt.Repeat t 0) ∷
    item_of 15 who.Odd (recv_last s) ∷
    item_of 16 who.Odd send_next ∷
    item_of 17 who.Odd (stmt.Allreduce 0 op.Sum ty.Long 1 1) ∷
    item_of 18 who.Odd (stmt.End 11) ∷
    item_of 19 who.Odd (stmt.Own (own.Print 2 form.Hex)) ∷
    item_of 20 who.Odd (stmt.Own (own.Print 1 (form.Decimal ty.Long))) ∷
    []

-- the statements before one, and those behind it; the lines behind one; and where the reader stands then
abbrev pub past : ℕ → ℕ → ℕ → List Item
past s t n = reverse (take n (ring_said s t))

abbrev pub more : ℕ → ℕ → ℕ → List Item
more s t n = reverse (drop n (ring_said s t))

abbrev pub rest : ℕ → ℕ → ℕ → List (List ℕ)
rest s t n = map line_of (drop n (ring_words s t)) ++ [] ∷ []

abbrev pub at : ℕ → ℕ → ℕ → ℕ → List (List ℕ) → Who → ReadingSoFar
at nue s t n names who = stage nue (take n (ring_said s t)) names who

-- the lengths of the registers of an odd rank, behind statements of other ranks
module _ (nue s t rank : ℕ) (base : List Item) (odd : (rank % 2 == 1) ≡ true) (none : (reg : ℕ) → length_at nue base rank reg ≡ None) where
  pub length_10 : length_at nue (item_of 12 who.Odd (stmt.Fill 0 s s) ∷ base) rank 1 ≡ None
  length_10 = simp (odd, none)

  pub length_12 : length_at nue (item_of 14 who.Odd (stmt.Repeat t 0) ∷ item_of 13 who.Odd (stmt.RankOf 1 ty.Long) ∷ item_of 12 who.Odd (stmt.Fill 0 s s) ∷ base) rank 2 ≡ None
  length_12 = simp (odd, none)

  pub length_13 : length_at nue (item_of 15 who.Odd (recv_last s) ∷ item_of 14 who.Odd (stmt.Repeat t 0) ∷ item_of 13 who.Odd (stmt.RankOf 1 ty.Long) ∷ item_of 12 who.Odd (stmt.Fill 0 s s) ∷ base) rank 0 ≡ Some s
  length_13 = simp (odd, none)

  pub length_14 : length_at nue (item_of 16 who.Odd send_next ∷ item_of 15 who.Odd (recv_last s) ∷ item_of 14 who.Odd (stmt.Repeat t 0) ∷ item_of 13 who.Odd (stmt.RankOf 1 ty.Long) ∷ item_of 12 who.Odd (stmt.Fill 0 s s) ∷ base) rank 1 ≡ Some 8
  length_14 = simp (odd, none)

  pub length_16 : length_at nue (item_of 18 who.Odd (stmt.End 11) ∷ item_of 17 who.Odd (stmt.Allreduce 0 op.Sum ty.Long 1 1) ∷ item_of 16 who.Odd send_next ∷ item_of 15 who.Odd (recv_last s) ∷ item_of 14 who.Odd (stmt.Repeat t 0) ∷ item_of 13 who.Odd (stmt.RankOf 1 ty.Long) ∷ item_of 12 who.Odd (stmt.Fill 0 s s) ∷ base) rank 2 ≡ Some s
  length_16 = simp (odd, none)

  pub length_17 : length_at nue (item_of 19 who.Odd (stmt.Own (own.Print 2 form.Hex)) ∷ item_of 18 who.Odd (stmt.End 11) ∷ item_of 17 who.Odd (stmt.Allreduce 0 op.Sum ty.Long 1 1) ∷ item_of 16 who.Odd send_next ∷ item_of 15 who.Odd (recv_last s) ∷ item_of 14 who.Odd (stmt.Repeat t 0) ∷ item_of 13 who.Odd (stmt.RankOf 1 ty.Long) ∷ item_of 12 who.Odd (stmt.Fill 0 s s) ∷ base) rank 1 ≡ Some 8
  length_17 = simp (odd, none)
