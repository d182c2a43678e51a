-- What the reader makes of a line of a section, of the lines that begin each section, and of those that end its repeat.
use Rattle.std.proofs.Common.{◌≡◌, ℕ, ◌+◌, ◌≤◌, false, List, [], ◌∷◌, ◌++◌, length, reverse, codes, decimal, Result, ◌∙◌}
use Rattle.std.specs.Prelude.{nat_lt}
use Rattle.groups.specs.declared.operations.Op.TheVariants as op
use Rattle.groups.specs.declared.operations.Ty.TheVariants as ty
use Rattle.script_reader.specs.declared.fault.ReadFault.{ReadFault}
use Rattle.script_rules.specs.declared.script.Item.{Item}
use Rattle.script_rules.specs.declared.script.Stmt.{Stmt}
use Rattle.script_rules.specs.declared.script.Stmt.TheVariants as stmt
use Rattle.script_rules.specs.declared.script.Who.{Who}
use Rattle.script_rules.specs.Limits.{most_names}
use Rattle.script_reader.specs.Progress.{ReadingSoFar, place}
use Rattle.script_reader.specs.Reading.{read_lines, read_words}
use Rattle.script_gen.specs.Scripts.{item_of}
use Rattle.script_gen.proofs.Checks.{Passes, placed, stage}
use Rattle.script_gen.proofs.Lines.{AreWords, line_of}
use Rattle.script_gen.proofs.BothScripts.{end_are, fill_are, rank_are, repeat_are, sum_are}
use Rattle.script_gen.proofs.Reading.{go, repeat_is}

-- a line that says a statement which no check refuses, and the lines behind it
pub next : (nue n : ℕ) (items : List Item) (names after : List (List ℕ)) (who : Who) (s : Stmt) (w : List ℕ) (ws : List (List ℕ)) (lines : List (List ℕ)) (r : Result ReadingSoFar ReadFault)
    → AreWords (w ∷ ws) → read_words (n + 1) (stage nue items names who) (w ∷ ws) ≡ place (n + 1) (stage nue items after who) s
    → Passes nue (reverse items) who s → nat_lt most_names (length after) ≡ false
    → read_lines (n + 1) (stage nue (items ++ item_of (n + 1) who s ∷ []) after who) lines ≡ r
    → read_lines n (stage nue items names who) (line_of (w ∷ ws) ∷ lines) ≡ r
next nue n items names after who s w ws lines r are says passes few rest =
    go n (stage nue items names who) (stage nue (items ++ item_of (n + 1) who s ∷ []) after who) w ws lines r are (says ∙ placed nue items after who s passes (n + 1) few) rest

-- the words of the lines that both sections have
abbrev pub fill_words : ℕ → List (List ℕ)
fill_words s = codes "fill" ∷ codes "h" ∷ decimal s ∷ decimal s ∷ []

abbrev pub rank_words : List (List ℕ)
rank_words = codes "rank" ∷ codes "me" ∷ codes "long" ∷ []

abbrev pub repeat_words : ℕ → List (List ℕ)
repeat_words t = codes "repeat" ∷ decimal t ∷ []

abbrev pub sum_words : List (List ℕ)
sum_words = codes "allreduce" ∷ codes "0" ∷ codes "sum" ∷ codes "long" ∷ codes "me" ∷ codes "me" ∷ []

abbrev pub end_words : List (List ℕ)
end_words = codes "end" ∷ []

-- statements, with one behind them that the next line says
abbrev pub with_line : ℕ → List Item → Who → Stmt → List Item
with_line n items who s = items ++ item_of (n + 1) who s ∷ []

module _ (nue n : ℕ) (items : List Item) (who : Who) where
  -- the lines that fill a register, note the rank and begin the repeat
  pub head_reads : (s t : ℕ) (names filled named : List (List ℕ)) (lines : List (List ℕ)) (r : Result ReadingSoFar ReadFault) → s ≤ 65535 → 1 ≤ t → t ≤ 10
      → read_words (n + 1) (stage nue items names who) (fill_words s) ≡ place (n + 1) (stage nue items filled who) (stmt.Fill 0 s s)
      → read_words (n + 1 + 1) (stage nue (with_line n items who (stmt.Fill 0 s s)) filled who) rank_words
      ≡ place (n + 1 + 1) (stage nue (with_line n items who (stmt.Fill 0 s s)) named who) (stmt.RankOf 1 ty.Long)
      → Passes nue (reverse items) who (stmt.Fill 0 s s) → Passes nue (reverse (with_line n items who (stmt.Fill 0 s s))) who (stmt.RankOf 1 ty.Long)
      → Passes nue (reverse (with_line (n + 1) (with_line n items who (stmt.Fill 0 s s)) who (stmt.RankOf 1 ty.Long))) who (stmt.Repeat t 0)
      → nat_lt most_names (length filled) ≡ false → nat_lt most_names (length named) ≡ false
      → read_lines (n + 1 + 1 + 1)
      (stage nue (with_line (n + 1 + 1) (with_line (n + 1) (with_line n items who (stmt.Fill 0 s s)) who (stmt.RankOf 1 ty.Long)) who (stmt.Repeat t 0)) named who) lines
      ≡ r
      → read_lines n (stage nue items names who) (line_of (fill_words s) ∷ line_of rank_words ∷ line_of (repeat_words t) ∷ lines) ≡ r
  head_reads s t names filled named lines r small least few fills ranks pass_fill pass_rank pass_repeat room_filled room_named rest =
      let first = with_line n items who (stmt.Fill 0 s s) in
      let second = with_line (n + 1) first who (stmt.RankOf 1 ty.Long) in
      next nue n items names filled who (stmt.Fill 0 s s) (codes "fill") (codes "h" ∷ decimal s ∷ decimal s ∷ []) (line_of rank_words ∷ line_of (repeat_words t) ∷ lines) r
      (fill_are s small) fills pass_fill room_filled
      (next nue (n + 1) first filled named who (stmt.RankOf 1 ty.Long) (codes "rank") (codes "me" ∷ codes "long" ∷ []) (line_of (repeat_words t) ∷ lines) r
      rank_are ranks pass_rank room_named
      (next nue (n + 1 + 1) second named named who (stmt.Repeat t 0) (codes "repeat") (decimal t ∷ []) lines r
      (repeat_are t few) (repeat_is (n + 1 + 1 + 1) (stage nue second named who) t least few) pass_repeat room_named rest))

  -- the lines that sum over all ranks and end the repeat
  pub tail_reads : (names : List (List ℕ)) (begun : ℕ) (lines : List (List ℕ)) (r : Result ReadingSoFar ReadFault)
      → read_words (n + 1) (stage nue items names who) sum_words ≡ place (n + 1) (stage nue items names who) (stmt.Allreduce 0 op.Sum ty.Long 1 1)
      → read_words (n + 1 + 1) (stage nue (with_line n items who (stmt.Allreduce 0 op.Sum ty.Long 1 1)) names who) end_words
      ≡ place (n + 1 + 1) (stage nue (with_line n items who (stmt.Allreduce 0 op.Sum ty.Long 1 1)) names who) (stmt.End begun)
      → Passes nue (reverse items) who (stmt.Allreduce 0 op.Sum ty.Long 1 1)
      → Passes nue (reverse (with_line n items who (stmt.Allreduce 0 op.Sum ty.Long 1 1))) who (stmt.End begun)
      → nat_lt most_names (length names) ≡ false
      → read_lines (n + 1 + 1) (stage nue (with_line (n + 1) (with_line n items who (stmt.Allreduce 0 op.Sum ty.Long 1 1)) who (stmt.End begun)) names who) lines ≡ r
      → read_lines n (stage nue items names who) (line_of sum_words ∷ line_of end_words ∷ lines) ≡ r
  tail_reads names begun lines r sums ends pass_sum pass_end room rest =
      next nue n items names names who (stmt.Allreduce 0 op.Sum ty.Long 1 1) (codes "allreduce") (codes "0" ∷ codes "sum" ∷ codes "long" ∷ codes "me" ∷ codes "me" ∷ []) (line_of end_words ∷ lines) r
      sum_are sums pass_sum room
      (next nue (n + 1) (with_line n items who (stmt.Allreduce 0 op.Sum ty.Long 1 1)) names names who (stmt.End begun) (codes "end") [] lines r
      end_are ends pass_end room rest)
