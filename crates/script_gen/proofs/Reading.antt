-- Lines of words, one after another, as the reader takes them.
use Rattle.std.proofs.Common.{◌≡◌, ℕ, ◌+◌, ◌≤◌, Bool, true, false, cond, ◌&&◌, List, [], ◌∷◌, ◌++◌, length, map, codes, decimal, Some, Result, Ok, Err, refl, ◌∙◌, ap, arith, length-append}
use Rattle.std.specs.Prelude.{nat_le, nat_lt}
use Rattle.std.proofs.lemmas.Bool.{and_from, cond-true, le-leb}
use Rattle.groups.specs.declared.operations.Op.TheVariants as op
use Rattle.groups.specs.declared.operations.Ty.TheVariants as ty
use Rattle.script_rules.specs.declared.fault.FaultKind.{FaultKind}
use Rattle.script_rules.specs.declared.fault.FaultKind.TheVariants as kind
use Rattle.script_reader.specs.declared.fault.ReadFault.{ReadFault}
use Rattle.script_rules.specs.declared.script.Peer.TheVariants as peer
use Rattle.script_rules.specs.declared.script.Stmt.TheVariants as stmt
use Rattle.script_rules.specs.declared.version.Version.{Version}
use Rattle.script_rules.specs.declared.version.Version.TheVariants as version
use Rattle.script_reader.specs.Faults.{◌>>=◌}
use Rattle.script_rules.specs.Limits.{most_operations}
use Rattle.script_reader.specs.Progress.{ReadingSoFar, after_script_line, with_known_name, place, register_of, start}
use Rattle.script_reader.specs.Reading.{at_end, at_line, past_opening, most_script_bytes, parse_script, read_all_lines, read_line, read_lines, read_words, version_of}
use Rattle.script_reader.specs.Said.{said_of}
use Rattle.script_rules.specs.Script.{Script}
use Rattle.texts.specs.Cuts.{line_count, lines_of}
use Rattle.texts.specs.Numbers.{number_of}
use Rattle.texts.proofs.DecimalLemmas.{number_of-decimal}
use Rattle.script_gen.specs.Texts.{text_of_lines}
use Rattle.script_gen.proofs.Lines.{AreLines, AreWords, line_of, lines_of_text, text_line, words_of_line}

-- a line of words
one_line : (n : ℕ) (p q : ReadingSoFar) (w : List ℕ) (ws : List (List ℕ)) → AreWords (w ∷ ws) → (said_of p.version p.opening w ws >>= after_script_line n (past_opening p)) ≡ Ok q → read_line n p (line_of (w ∷ ws)) ≡ Ok q
one_line n p q w ws are then =
    cond-true _ _ _ (text_line (w ∷ ws) are)
    ∙ ap (read_words n p) (words_of_line w ws are)
    ∙ then

-- and the lines behind it
pub go : (n : ℕ) (p q : ReadingSoFar) (w : List ℕ) (ws : List (List ℕ)) (lines : List (List ℕ)) (r : Result ReadingSoFar ReadFault)
    → AreWords (w ∷ ws) → (said_of p.version p.opening w ws >>= after_script_line (n + 1) (past_opening p)) ≡ Ok q → read_lines (n + 1) q lines ≡ r
    → read_lines n p (line_of (w ∷ ws) ∷ lines) ≡ r
go n p q w ws lines r are then rest =
    ap (λ (o : Result ReadingSoFar FaultKind). at_line (n + 1) o >>= λ q. read_lines (n + 1) q lines) (one_line (n + 1) p q w ws are then) ∙ rest

zero_is : number_of (codes "0") ≡ Some 0
unfolding number_of
zero_is = refl

one_is : number_of (codes "1") ≡ Some 1
unfolding number_of
one_is = refl

from_one : (t : ℕ) → 1 ≤ t → t ≤ 10 → (nat_le 1 t && nat_le t most_operations) ≡ true
from_one t some few = and_from _ _ (le-leb 1 t some) (le-leb t most_operations (omega arith))

from_zero : (s : ℕ) → s ≤ 65535 → (nat_le 0 s && nat_le s 65535) ≡ true
from_zero s small = and_from _ _ (le-leb 0 s (omega arith)) (le-leb s 65535 small)

-- what the lines with numbers come to
pub fill_is : (n : ℕ) (p : ReadingSoFar) (s : ℕ) → s ≤ 65535
    → (said_of version.One false (codes "fill") (codes "h" ∷ decimal s ∷ decimal s ∷ []) >>= after_script_line n p)
    ≡ place n (with_known_name p (codes "h")) (stmt.Fill (register_of p.names (codes "h")) s s)
fill_is n p s small = simp (number_of-decimal s (omega (arith, small)), from_zero s small)

pub recv_is : (n : ℕ) (p : ReadingSoFar) (s : ℕ) → s ≤ 65535
    → (said_of version.One false (codes "recv") (codes "-1" ∷ codes "g" ∷ decimal s ∷ []) >>= after_script_line n p)
    ≡ place n (with_known_name p (codes "g")) (stmt.Recv (peer.Minus 1) (register_of p.names (codes "g")) s)
recv_is n p s small = simp (one_is, number_of-decimal s (omega (arith, small)))

pub repeat_is : (n : ℕ) (p : ReadingSoFar) (t : ℕ) → 1 ≤ t → t ≤ 10
    → (said_of version.One false (codes "repeat") (decimal t ∷ []) >>= after_script_line n p) ≡ place n p (stmt.Repeat t 0)
repeat_is n p t some few = simp (number_of-decimal t (omega (arith, few)), from_one t some few)

pub send_is : (n : ℕ) (p : ReadingSoFar)
    → (said_of version.One false (codes "send") (codes "+1" ∷ codes "h" ∷ []) >>= after_script_line n p)
    ≡ place n (with_known_name p (codes "h")) (stmt.Send (peer.Plus 1) (register_of p.names (codes "h")))
send_is n p = simp one_is

pub allreduce_is : (n : ℕ) (p : ReadingSoFar)
    → (said_of version.One false (codes "allreduce") (codes "0" ∷ codes "sum" ∷ codes "long" ∷ codes "me" ∷ codes "me" ∷ []) >>= after_script_line n p)
    ≡ place n (with_known_name (with_known_name p (codes "me")) (codes "me")) (stmt.Allreduce 0 op.Sum ty.Long (register_of p.names (codes "me")) (register_of (with_known_name p (codes "me")).names (codes "me")))
allreduce_is n p = simp zero_is

-- a file that is too long
abbrev too_long : Result Script ReadFault
too_long = Err (record { line = 0; kind = kind.TooLong })

-- a text of version 1 that is not too long is read as its lines are
pub text_read : (nue : ℕ) (words : List (List (List ℕ))) (p : ReadingSoFar) → AreLines words → nat_lt most_script_bytes (length (text_of_lines (map line_of words))) ≡ false
    → version_of (map line_of words ++ [] ∷ []) ≡ version.One → read_lines 0 (start version.One nue) (map line_of words ++ [] ∷ []) ≡ Ok p
    → parse_script (text_of_lines (map line_of words)) nue ≡ at_end (line_count (map line_of words ++ [] ∷ [])) p
text_read nue words p are short first read =
    let text = text_of_lines (map line_of words) in
    let lines : List (List ℕ) = map line_of words ++ [] ∷ [] in
    ap (λ (b : Bool). cond b too_long (read_all_lines (version_of (lines_of text)) (lines_of text) nue)) short
    ∙ ap (λ (ls : List (List ℕ)). read_all_lines (version_of ls) ls nue) (lines_of_text words are)
    ∙ ap (λ (v : Version). read_all_lines v lines nue) first
    ∙ ap (λ (r : Result ReadingSoFar ReadFault). r >>= at_end (line_count lines)) read

-- how long a text of such lines is at most
abbrev words_size : List (List ℕ) → ℕ
words_size [] = 0
words_size (w ∷ ws) = length w + 1 + words_size ws

abbrev pub lines_size : List (List (List ℕ)) → ℕ
lines_size [] = 0
lines_size (ws ∷ lines) = words_size ws + 1 + lines_size lines

line_short : (ws : List (List ℕ)) → length (line_of ws) ≤ words_size ws
line_short [] = omega arith
line_short (w ∷ []) = omega arith
line_short (w ∷ v ∷ vs) = let rest = line_short (v ∷ vs) in omega (arith, rest, length-append w (32 ∷ line_of (v ∷ vs)))

pub text_short : (lines : List (List (List ℕ))) → length (text_of_lines (map line_of lines)) ≤ lines_size lines
text_short [] = omega arith
text_short (ws ∷ lines) =
    let rest = text_short lines in
    omega (arith, rest, line_short ws, length-append (line_of ws ++ 10 ∷ []) (text_of_lines (map line_of lines)), length-append (line_of ws) (10 ∷ []))
