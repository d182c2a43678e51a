-- What is true of a log while it is read: it can be written, and its lines are those that were read.
use Rattle.std.proofs.Common.{◌≡◌, ◌≢◌, ℕ, zero, suc, ◌+◌, ◌-◌, ◌<◌, ◌≤◌, Bool, true, false, cond, eqb, List, [], ◌∷◌, ◌++◌, length, get_or, set, drop, take, Option, Some, None, option_map, Result, Ok, Err, ⊎_elim, refl, sym, ◌∙◌, ap, subst, append_assoc, arith}
use Rattle.std.specs.Prelude.{◌==◌, All, nat_lt}
use Rattle.std.specs.List.{join_with_byte, slice_split}
use Rattle.std.specs.Option.{ok_or}
use Rattle.std.proofs.lemmas.Bool.{cases_eq, cases_lt, cond-false, le-ltb, leb-true, ltb-false}
use Rattle.std.proofs.lemmas.List.{append-nil, get_or-set_other, get_or-set_same, length-set, map-append, take-append-drop, drop_more, at_drop_all}
use Rattle.std.proofs.lemmas.List.Elements.{All-nil, All-push}
use Rattle.std.proofs.lemmas.List.Splits.{join_with_byte-slice_split, length-slice_split}
use Rattle.std.proofs.lemmas.List.Sums.{count_by-le-length}
use Rattle.scc_proto.specs.Words.{is_present_rule}
use Rattle.scc_base.specs.Calls.{DataCall}
use Rattle.scc_base.specs.Communicators.{AreRules, IsRule, rule_of}
use Rattle.scc_base.specs.declared.communicators.CommRule.{CommRule}
use Rattle.scc_base.specs.declared.communicators.CommRule.TheVariants.{Absent, World, Mod, Div}
use Rattle.scc_base.proofs.WorldRules as world
use Rattle.scc_base.specs.Worlds.{world_alone}
use Rattle.rcce_audit.specs.declared.faults.LogFault.{LogFault}
use Rattle.rcce_audit.specs.declared.faults.LogKind.TheVariants as kind
use Rattle.rcce_audit.specs.declared.lines.CommSplit.{CommSplit}
use Rattle.rcce_audit.specs.Grammar.{Reading, RankedCall, with_comm, with_call, is_in_order, add_call, begins_comm, comm_said, call_said, line_said, kind_of, lines_said, end_said, nue_of, no_calls, reading_start, first_said, all_said, parts_said, log_of, ◌>=>◌}
use Rattle.rcce_audit.specs.Logs.{LogView, IsLogCall, IsLog, most_log_bytes, calls_at_rank}
use Rattle.rcce_audit.specs.Texts.{head_words, line_of, rule_lines, call_words, call_lines, table_lines, log_lines, text_of, log_text, IsFileLog}
use Rattle.rcce_audit.specs.Words.{◌>>=◌, log_words_of}
use Rattle.texts.specs.Cuts.{lines_of}
use Rattle.rcce_audit.proofs.ListLemmas.{get_or-replicate_same}
use Rattle.rcce_audit.proofs.TableLemmas.{table_none, table_set}
use Rattle.rcce_audit.proofs.WordLemmas.{then_some, only_some}
use Rattle.rcce_audit.proofs.LineLemmas.{line_of-words_of, IsRankedWords, call_line, IsSplitRule, ByMod, ByDiv, IsSplitWords, comm_line, head_line}

-- what is true of a reading
pub record IsReading (r : Reading) : Type 0 where
  pub written : IsLog r.log
  pub last_below : r.comm < 16
  pub later : (c : ℕ) → r.comm < c → rule_of r.log.comms c ≡ Absent
  pub unbegun : r.rank ≡ None → (q : ℕ) → calls_at_rank r.log.lists q ≡ []
  pub begun : (last : ℕ) → r.rank ≡ Some last → (q : ℕ) → last < q → calls_at_rank r.log.lists q ≡ []

pub no_rules : (c : ℕ) → rule_of world_alone (suc c) ≡ Absent
no_rules c = world.absent_after c

pub world_rules : AreRules world_alone
world_rules = world.world_alone world_alone refl

no_lists : (q : ℕ) → get_or no_calls q [] ≡ []
unfolding no_calls
no_lists q = get_or-replicate_same 48 q []

no_lists_length : length no_calls ≡ 48
unfolding no_calls
no_lists_length = refl

pub start_reads : (nue : ℕ) → 1 ≤ nue → nue ≤ 48 → IsReading (reading_start nue)
start_reads nue some most = record {
  written = record {
    some_ranks = some;
    ranks_within = most;
    sixteen = refl;
    rules = world_rules;
    ranks = no_lists_length;
    no_others = λ r above. no_lists r;
    calls = λ r. subst (All (IsLogCall nue world_alone r)) (sym (no_lists r)) (All-nil (IsLogCall nue world_alone r));
  };
  last_below = omega arith;
  later = λ c above. later_of c above;
  unbegun = λ is q. no_lists q;
  begun = λ last is q above. no_lists q;
}
  where
    later_of : (c : ℕ) → 0 < c → rule_of world_alone c ≡ Absent
    later_of zero above = absurd (omega arith)
    later_of (suc c) above = no_rules c

no_call_lines : (lists : List (List DataCall)) → ((q : ℕ) → get_or lists q [] ≡ []) → table_lines call_lines 0 lists ≡ []
no_call_lines lists none = table_none call_lines 0 lists [] (λ k below. ap (call_lines (0 + k)) (none k))

pub start_lines : (nue : ℕ) → log_lines (reading_start nue).log ≡ line_of (head_words nue) ∷ []
start_lines nue = ap (λ (t : List (List ℕ)). line_of (head_words nue) ∷ t) (no_call_lines no_calls no_lists)

-- one more communicator
module _ (comms : List CommRule) (c : ℕ) (rule : CommRule) (sixteen : length comms ≡ 16) (below : c < 16) (stands : rule ≢ Absent) (was : rule_of comms c ≡ Absent) where
  abbrev more_comms : List CommRule
  more_comms = set comms c rule

  here : rule_of more_comms c ≡ rule
  here = get_or-set_same comms c rule Absent (omega arith)

  there : (k : ℕ) → k ≢ c → rule_of more_comms k ≡ rule_of comms k
  there k other = get_or-set_other comms c k rule Absent other

  stays : (p : ℕ) → rule_of comms p ≢ Absent → rule_of more_comms p ≢ Absent
  stays p had is =
      ⊎_elim
      (λ (at : p ≡ c). stands (sym here ∙ ap (rule_of more_comms) (sym at) ∙ is))
      (λ (other : p ≢ c). had (sym (there p other) ∙ is))
      (cases_eq p c)

  rule_stays : (k : ℕ) (r : CommRule) → IsRule comms k r → IsRule more_comms k r
  rule_stays k Absent is = is
  rule_stays k World is = is
  rule_stays k (Mod parent parts) (low, had, some, most) = (low, stays parent had, some, most)
  rule_stays k (Div parent parts) (low, had, some, most) = (low, stays parent had, some, most)

  pub rules_more : AreRules comms → IsRule comms c rule → AreRules more_comms
  rules_more rules new k under =
      ⊎_elim
      (λ (at : k ≡ c). subst (λ (x : ℕ). IsRule more_comms x (rule_of more_comms x)) (sym at) (subst (IsRule more_comms c) (sym here) (rule_stays c rule new)))
      (λ (other : k ≢ c). subst (IsRule more_comms k) (sym (there k other)) (rule_stays k (rule_of comms k) (rules k under)))
      (cases_eq k c)

pub split_stands : (comms : List CommRule) (rule : CommRule) → IsSplitRule comms rule → rule ≢ Absent
split_stands comms rule (ByMod parent k had some most) is = absurd cc
split_stands comms rule (ByDiv parent k had some most) is = absurd cc

had_rule : (rule : CommRule) → is_present_rule rule ≡ true → rule ≢ Absent
had_rule Absent test is = absurd cc
had_rule World test is = absurd cc
had_rule (Mod parent k) test is = absurd cc
had_rule (Div parent k) test is = absurd cc

pub split_rule_is : (last c : ℕ) (comms : List CommRule) (rule : CommRule) → last < c → ((k : ℕ) → last < k → rule_of comms k ≡ Absent) → IsSplitRule comms rule → IsRule comms c rule
split_rule_is last c comms rule above later (ByMod parent k had some most) =
    (⊎_elim (λ (low : parent < c). low) (λ (high : c ≤ parent). absurd (had_rule (rule_of comms parent) had (later parent (omega arith)))) (cases_lt parent c), had_rule (rule_of comms parent) had, some, most)
split_rule_is last c comms rule above later (ByDiv parent k had some most) =
    (⊎_elim (λ (low : parent < c). low) (λ (high : c ≤ parent). absurd (had_rule (rule_of comms parent) had (later parent (omega arith)))) (cases_lt parent c), had_rule (rule_of comms parent) had, some, most)

-- what one more line does
pub record Grows (r next : Reading) (line : List ℕ) : Type 0 where
  pub reads : IsReading next
  pub lines : log_lines next.log ≡ log_lines r.log ++ line ∷ []

comm_grows : (r : Reading) (split : CommSplit) (line : List ℕ) → IsReading r → r.rank ≡ None → IsSplitWords r.comm r.log.comms split (log_words_of line)
    → Grows r (record r { log = record r.log { comms = set r.log.comms split.comm split.rule }; comm = split.comm }) line
comm_grows r split line is none words = record { reads = reads; lines = lines }
  where
    comms : List CommRule
    comms = r.log.comms

    empty : (q : ℕ) → calls_at_rank r.log.lists q ≡ []
    empty = is.unbegun none

    was : rule_of comms split.comm ≡ Absent
    was = is.later split.comm words.above

    stands : split.rule ≢ Absent
    stands = split_stands comms split.rule words.rule

    reads : IsReading (record r { log = record r.log { comms = set comms split.comm split.rule }; comm = split.comm })
    reads = record {
      written = record {
        some_ranks = is.written.some_ranks;
        ranks_within = is.written.ranks_within;
        sixteen = length-set comms split.comm split.rule ∙ is.written.sixteen;
        rules = rules_more comms split.comm split.rule is.written.sixteen words.below stands was is.written.rules (split_rule_is r.comm split.comm comms split.rule words.above is.later words.rule);
        ranks = is.written.ranks;
        no_others = is.written.no_others;
        calls = λ q. subst (All (IsLogCall r.log.nue (set comms split.comm split.rule) q)) (sym (empty q)) (All-nil (IsLogCall r.log.nue (set comms split.comm split.rule) q));
      };
      last_below = words.below;
      later = λ c above. get_or-set_other comms split.comm c split.rule Absent (λ at. omega (arith, at)) ∙ is.later c (omega (arith, words.above));
      unbegun = λ same. empty;
      begun = λ last same q above. empty q;
    }

    old_lines : rule_lines (0 + split.comm) (rule_of comms split.comm) ≡ []
    old_lines = ap (rule_lines (0 + split.comm)) was

    grown : rule_lines (0 + split.comm) split.rule ≡ rule_lines (0 + split.comm) (rule_of comms split.comm) ++ line ∷ []
    grown =
        ap (λ (n : ℕ). rule_lines n split.rule) (omega arith) ∙ words.text ∙ ap (λ (l : List ℕ). l ∷ []) (line_of-words_of line)
        ∙ ap (λ (t : List (List ℕ)). t ++ line ∷ []) (sym old_lines)

    table : table_lines rule_lines 0 (set comms split.comm split.rule) ≡ table_lines rule_lines 0 comms ++ line ∷ []
    table = table_set rule_lines 0 comms split.comm split.rule Absent (line ∷ []) (omega (arith, words.below, is.written.sixteen)) (λ k above under. ap (rule_lines (0 + k)) (is.later k (omega (arith, words.above)))) grown

    lines : log_lines (record r.log { comms = set comms split.comm split.rule }) ≡ log_lines r.log ++ line ∷ []
    lines =
        let none_called : table_lines call_lines 0 r.log.lists ≡ [] = no_call_lines r.log.lists empty in
        let P : List (List ℕ) → Type 0 = λ t. line_of (head_words r.log.nue) ∷ (table_lines rule_lines 0 (set comms split.comm split.rule) ++ t) ≡ (line_of (head_words r.log.nue) ∷ (table_lines rule_lines 0 comms ++ t)) ++ line ∷ [] in
        subst P (sym none_called)
        (ap (λ (t : List (List ℕ)). line_of (head_words r.log.nue) ∷ t)
        (append-nil (table_lines rule_lines 0 (set comms split.comm split.rule)) ∙ table ∙ ap (λ (t : List (List ℕ)). t ++ line ∷ []) (sym (append-nil (table_lines rule_lines 0 comms)))))

call_grows : (r : Reading) (ranked : RankedCall) (line : List ℕ) → IsReading r → is_in_order r.rank ranked.rank ≡ true → IsRankedWords r.log.nue r.log.comms ranked (log_words_of line)
    → Grows r (record r { log = record r.log { lists = with_call r.log.lists ranked }; rank = Some ranked.rank }) line
call_grows r ranked line is ordered words = record { reads = reads; lines = lines }
  where
    lists : List (List DataCall)
    lists = r.log.lists

    grown : List DataCall
    grown = get_or lists ranked.rank [] ++ ranked.call ∷ []

    within : ranked.rank < length lists
    within = omega (arith, words.rank_below, is.written.ranks_within, is.written.ranks)

    later_of : (o : Option ℕ) → r.rank ≡ o → is_in_order o ranked.rank ≡ true → (q : ℕ) → ranked.rank < q → get_or lists q [] ≡ []
    later_of None same test q above = is.unbegun same q
    later_of (Some last) same test q above = is.begun last same q (omega (arith, leb-true last ranked.rank test))

    later : (q : ℕ) → ranked.rank < q → get_or lists q [] ≡ []
    later = later_of r.rank refl ordered

    there : (q : ℕ) → q ≢ ranked.rank → get_or (set lists ranked.rank grown) q [] ≡ get_or lists q []
    there q other = get_or-set_other lists ranked.rank q grown [] other

    here : get_or (set lists ranked.rank grown) ranked.rank [] ≡ grown
    here = get_or-set_same lists ranked.rank grown [] within

    calls : (q : ℕ) → All (IsLogCall r.log.nue r.log.comms q) (get_or (set lists ranked.rank grown) q [])
    calls q =
        ⊎_elim
        (λ (at : q ≡ ranked.rank).
        subst (λ (x : ℕ). All (IsLogCall r.log.nue r.log.comms x) (get_or (set lists ranked.rank grown) x [])) (sym at)
        (subst (All (IsLogCall r.log.nue r.log.comms ranked.rank)) (sym here)
        (All-push (IsLogCall r.log.nue r.log.comms ranked.rank) (get_or lists ranked.rank []) ranked.call (is.written.calls ranked.rank) words.valid)))
        (λ (other : q ≢ ranked.rank). subst (All (IsLogCall r.log.nue r.log.comms q)) (sym (there q other)) (is.written.calls q))
        (cases_eq q ranked.rank)

    reads : IsReading (record r { log = record r.log { lists = with_call r.log.lists ranked }; rank = Some ranked.rank })
    reads = record {
      written = record {
        some_ranks = is.written.some_ranks;
        ranks_within = is.written.ranks_within;
        sixteen = is.written.sixteen;
        rules = is.written.rules;
        ranks = length-set lists ranked.rank grown ∙ is.written.ranks;
        no_others = λ q above. there q (λ at. omega (arith, at, words.rank_below)) ∙ is.written.no_others q above;
        calls = calls;
      };
      last_below = is.last_below;
      later = is.later;
      unbegun = λ same. absurd cc;
      begun = λ last same q above.
          let at : ranked.rank ≡ last = cc in
          there q (λ under. omega (arith, under, at)) ∙ later q (omega (arith, at));
    }

    more : call_lines (0 + ranked.rank) grown ≡ call_lines (0 + ranked.rank) (get_or lists ranked.rank []) ++ line ∷ []
    more =
        map-append (λ call. line_of (call_words (0 + ranked.rank) call)) (get_or lists ranked.rank []) (ranked.call ∷ [])
        ∙ ap (λ (l : List ℕ). call_lines (0 + ranked.rank) (get_or lists ranked.rank []) ++ l ∷ [])
        (ap (λ (n : ℕ). line_of (call_words n ranked.call)) (omega arith) ∙ ap line_of words.text ∙ line_of-words_of line)

    table : table_lines call_lines 0 (set lists ranked.rank grown) ≡ table_lines call_lines 0 lists ++ line ∷ []
    table = table_set call_lines 0 lists ranked.rank grown [] (line ∷ []) within (λ k above under. ap (call_lines (0 + k)) (later k above)) more

    lines : log_lines (record r.log { lists = with_call r.log.lists ranked }) ≡ log_lines r.log ++ line ∷ []
    lines =
        ap (λ (t : List (List ℕ)). line_of (head_words r.log.nue) ∷ (table_lines rule_lines 0 r.log.comms ++ t)) table
        ∙ ap (λ (t : List (List ℕ)). line_of (head_words r.log.nue) ∷ t) (sym (append_assoc (table_lines rule_lines 0 r.log.comms) (table_lines call_lines 0 lists) (line ∷ [])))

-- a line that is taken
line_grows : (r next : Reading) (line : List ℕ) → IsReading r → line_said r line ≡ Some next → Grows r next line
line_grows r next line is said = by_kind (begins_comm line) said
  where
    take_comm : (o : Option ℕ) → r.rank ≡ o → (split : CommSplit) → IsSplitWords r.comm r.log.comms split (log_words_of line) → with_comm r o split ≡ Some next → Grows r next line
    take_comm None none split words taken =
        let value : record r { log = record r.log { comms = set r.log.comms split.comm split.rule }; comm = split.comm } ≡ next = cc in
        subst (λ (x : Reading). Grows r x line) value (comm_grows r split line is none words)
    take_comm (Some rank) none split words taken = absurd cc

    by_kind : (t : Bool) → cond t (comm_said r.comm r.log.comms (log_words_of line) >>= with_comm r r.rank) (call_said r.log.nue r.log.comms (log_words_of line) >>= add_call r) ≡ Some next → Grows r next line
    by_kind true taken =
        let (split, is_split, gives) = then_some (comm_said r.comm r.log.comms (log_words_of line)) (with_comm r r.rank) next taken in
        take_comm r.rank refl split (comm_line r.comm r.log.comms (log_words_of line) split is_split) gives
    by_kind false taken =
        let (ranked, is_ranked, gives) = then_some (call_said r.log.nue r.log.comms (log_words_of line)) (add_call r) next taken in
        let (ordered, value) = only_some (is_in_order r.rank ranked.rank) (record r { log = record r.log { lists = with_call r.log.lists ranked }; rank = Some ranked.rank }) next gives in
        subst (λ (x : Reading). Grows r x line) value
        (call_grows r ranked line is ordered (call_line r.log.nue r.log.comms (log_words_of line) ranked is.written.some_ranks is_ranked))

-- and lines
pub record GrowsBy (r next : Reading) (more : List (List ℕ)) : Type 0 where
  pub reads : IsReading next
  pub lines : log_lines next.log ≡ log_lines r.log ++ more

then_ok : {A B : Type 0} (r : Result A LogFault) (next : A → Result B LogFault) (y : B) → (r >=> next) ≡ Ok y → (x : A) × (r ≡ Ok x) × (next x ≡ Ok y)
then_ok (Ok x) next y is = (x, refl, is)
then_ok (Err fault) next y is = absurd cc

some_ok_or : {A : Type 0} (o : Option A) (fault : LogFault) (x : A) → ok_or o fault ≡ Ok x → o ≡ Some x
some_ok_or (Some y) fault x is = cc
some_ok_or None fault x is = absurd cc

lines_grow : (number : ℕ) (r next : Reading) (lines : List (List ℕ)) → IsReading r → lines_said number r lines ≡ Ok next → GrowsBy r next lines
lines_grow number r next [] is said =
    let value : r ≡ next = cc in
    subst (λ (x : Reading). GrowsBy r x []) value (record { reads = is; lines = sym (append-nil (log_lines r.log)) })
lines_grow number r next (line ∷ lines) is said =
    let (middle, taken, rest) = then_ok (ok_or (line_said r line) (record { line = number; kind = kind_of line })) (λ m. lines_said (number + 1) m lines) next said in
    let first = line_grows r middle line is (some_ok_or (line_said r line) (record { line = number; kind = kind_of line }) middle taken) in
    let later = lines_grow (number + 1) middle next lines first.reads rest in
    record {
      reads = later.reads;
      lines = later.lines ∙ ap (λ (t : List (List ℕ)). t ++ lines) first.lines ∙ append_assoc (log_lines r.log) (line ∷ []) lines;
    }

-- what the grammar accepts: a log that can be written, whose lines these are, and nothing behind the last line feed
pub record IsAccepted (log : LogView) (read : List (List ℕ)) (last : List ℕ) : Type 0 where
  pub written : IsLog log
  pub lines : log_lines log ≡ read
  pub ended : last ≡ []

end_accepts : (number : ℕ) (last : List ℕ) (r : Reading) (log : LogView) → end_said number last r ≡ Ok log → (last ≡ []) × (r.log ≡ log)
end_accepts number [] r log said = (refl, cc)
end_accepts number (b ∷ last) r log said = absurd cc

start_of_first : (line : List ℕ) (o : Option ℕ) (r : Reading) → nue_of (log_words_of line) ≡ o → ok_or {E = LogFault} (option_map reading_start o) (record { line = 1; kind = kind.BadHead }) ≡ Ok r
    → IsReading r × (log_lines r.log ≡ line ∷ [])
start_of_first line (Some nue) r is taken =
    let (words, some, most) = head_line (log_words_of line) nue is in
    let value : reading_start nue ≡ r = cc in
    let P : Reading → Type 0 = λ x. IsReading x × (log_lines x.log ≡ line ∷ []) in
    subst P value (start_reads nue some most, start_lines nue ∙ ap (λ (l : List ℕ). l ∷ []) (ap line_of words ∙ line_of-words_of line))
start_of_first line None r is taken = absurd cc

accepts : (lines : List (List ℕ)) (last : List ℕ) (log : LogView) → all_said lines last ≡ Ok log → IsAccepted log lines last
accepts [] last log said = absurd cc
accepts (first ∷ lines) last log said =
    let (start, starts, rest) = then_ok (first_said first) (λ r. lines_said 2 r lines >=> end_said (length lines + 2) last) log said in
    let (read, reads, ended) = then_ok (lines_said 2 start lines) (end_said (length lines + 2) last) log rest in
    let (is, first_lines) = start_of_first first (nue_of (log_words_of first)) start refl starts in
    let grown = lines_grow 2 start read lines is reads in
    let (empty, value) = end_accepts (length lines + 2) last read log ended in
    let P : LogView → Type 0 = λ x. IsAccepted x (first ∷ lines) last in
    subst P value (record {
      written = grown.reads.written;
      lines = grown.lines ∙ ap (λ (t : List (List ℕ)). t ++ lines) first_lines;
      ended = empty;
    })

-- lines with their line feeds are the parts of a text, behind which nothing stands
text_joined : (lines : List (List ℕ)) → text_of lines ≡ join_with_byte 10 (lines ++ [] ∷ [])
text_joined [] = refl
text_joined (line ∷ []) = append-nil (line ++ 10 ∷ [])
text_joined (line ∷ next ∷ lines) = append_assoc line (10 ∷ []) (text_of (next ∷ lines)) ∙ ap (λ (t : List ℕ). line ++ (10 ∷ t)) (text_joined (next ∷ lines))

last_part : {X : Type 0} (parts : List X) (d : X) → 0 < length parts → take (length parts - 1) parts ++ get_or parts (length parts - 1) d ∷ [] ≡ parts
last_part {X} parts d some =
    let n : ℕ = length parts - 1 in
    let within : n < length parts = omega arith in
    let rest : drop n parts ≡ get_or parts n d ∷ drop (n + 1) parts = drop_more parts n d within in
    let none : drop (n + 1) parts ≡ [] = at_drop_all (λ (l : List X). l) parts (n + 1) (omega arith) in
    ap (λ (t : List X). take n parts ++ get_or parts n d ∷ t) (sym none) ∙ ap (λ (t : List X). take n parts ++ t) (sym rest) ∙ take-append-drop n parts

-- what the parts of a text say, the text says
pub log_told : (bytes : List ℕ) (parts : List (List ℕ)) (said : Result LogView LogFault) → length bytes ≤ most_log_bytes → parts ≡ lines_of bytes → parts_said parts ≡ said → log_of bytes ≡ said
log_told bytes parts said within same is = cond-false (nat_lt most_log_bytes (length bytes)) _ _ (le-ltb most_log_bytes (length bytes) within) ∙ ap parts_said (sym same) ∙ is

-- a text has at most one part more than bytes
pub few_parts : (bytes : List ℕ) (parts : List (List ℕ)) → parts ≡ lines_of bytes → length parts ≤ length bytes + 1
few_parts bytes parts same = omega (arith, ap length same, length-slice_split (λ b. b == 10) bytes, count_by-le-length (λ b. b == 10) bytes)

pub some_part : (bytes : List ℕ) (parts : List (List ℕ)) → parts ≡ lines_of bytes → 0 < length parts
some_part bytes parts same = omega (arith, ap length same, length-slice_split (λ b. b == 10) bytes)

-- a text that says a log is the log's text
pub text_back : (bytes : List ℕ) (log : LogView) → log_of bytes ≡ Ok log → (log_text log ≡ bytes) × IsFileLog log
text_back bytes log said = within (nat_lt most_log_bytes (length bytes)) refl said
  where
    parts : List (List ℕ)
    parts = slice_split (λ b. eqb b 10) bytes

    back : parts_said parts ≡ Ok log → (log_text log ≡ bytes) × IsLog log
    back accepted =
        let some : 0 < length parts = omega (arith, length-slice_split (λ b. eqb b 10) bytes) in
        let is = accepts (take (length parts - 1) parts) (get_or parts (length parts - 1) []) log accepted in
        let lines = take (length parts - 1) parts in
        let whole : lines ++ [] ∷ [] ≡ parts = ap (λ (l : List ℕ). lines ++ l ∷ []) (sym is.ended) ∙ last_part parts [] some in
        (ap text_of is.lines ∙ text_joined lines ∙ ap (join_with_byte 10) whole ∙ join_with_byte-slice_split 10 bytes, is.written)

    within : (t : Bool) → nat_lt most_log_bytes (length bytes) ≡ t → cond t (Err (record { line = 0; kind = kind.TooLong })) (parts_said parts) ≡ Ok log → (log_text log ≡ bytes) × IsFileLog log
    within true long accepted = absurd cc
    within false long accepted =
        let (text, written) = back accepted in
        (text, record { written = written; fits = omega (arith, ap length text, ltb-false most_log_bytes (length bytes) long) })
