-- The text of a log says the log.
use Rattle.std.proofs.Common.{◌≡◌, ◌≢◌, ◌⊎◌, ℕ, zero, suc, ◌+◌, ◌-◌, ◌<◌, ◌≤◌, true, ◌&&◌, List, [], ◌∷◌, ◌++◌, length, get_or, set, take, replicate, Option, Some, None, option_map, Result, Ok, codes, decimal, inl, inr, ⊎_elim, refl, sym, ◌∙◌, ap, subst, append_assoc, length-append, arith}
use Rattle.std.specs.Prelude.{All, nat_lt}
use Rattle.std.specs.Option.{ok_or}
use Rattle.std.specs.Str.{bytes_eq}
use Rattle.std.proofs.lemmas.Bool.{cases_lt, cond-true, cond-false, le-leb, le-ltb, leb-true}
use Rattle.std.proofs.lemmas.List.{append-nil}
use Rattle.std.proofs.lemmas.List.Elements.{All-head, All-tail}
use Rattle.scc_proto.specs.Words.{is_present_rule}
use Rattle.scc_base.specs.Calls.{DataCall}
use Rattle.scc_base.specs.Communicators.{IsRule, rule_of}
use Rattle.scc_base.specs.declared.communicators.CommRule.{CommRule}
use Rattle.scc_base.specs.declared.communicators.CommRule.TheVariants.{Absent, World, Mod, Div}
use Rattle.rcce_audit.specs.declared.faults.LogFault.{LogFault}
use Rattle.rcce_audit.specs.declared.faults.LogKind.TheVariants as kind
use Rattle.rcce_audit.specs.declared.lines.CommSplit.{CommSplit}
use Rattle.rcce_audit.specs.Grammar.{Reading, rule_named, comm_said, nue_of, with_comm, with_call, is_in_order, line_said, kind_of, lines_said, end_said, no_calls, reading_start, first_said, all_said, parts_said, log_of, ◌>=>◌}
use Rattle.rcce_audit.specs.Logs.{LogView, IsLogCall, IsLog, most_log_bytes}
use Rattle.rcce_audit.specs.Texts.{head_words, split_words, call_words, line_of, rule_lines, call_lines, table_lines, log_lines, log_text, IsFileLog}
use Rattle.rcce_audit.specs.Words.{◌>>=◌, only_if, log_words_of, exact_range_said}
use Rattle.rcce_audit.proofs.WordLemmas.{range_said-decimal}
use Rattle.rcce_audit.proofs.CallTexts.{IsWord, AreWords, words_of-line_of, line_is, AreLines, are_lines-append, lines_of-text_of, small_word, call_are, present_is, line_told}

-- lines that lead from one reading to another
abbrev LeadsTo : Reading → List (List ℕ) → Reading → Type 0
LeadsTo r [] next = r ≡ next
LeadsTo r (line ∷ lines) next = (m : Reading) × (line_said r line ≡ Some m) × LeadsTo m lines next

leads_append : (r middle next : Reading) (xs ys : List (List ℕ)) → LeadsTo r xs middle → LeadsTo middle ys next → LeadsTo r (xs ++ ys) next
leads_append r middle next [] ys is second = subst (λ (x : Reading). LeadsTo x ys next) (sym is) second
leads_append r middle next (x ∷ xs) ys (m, is, rest) second = (m, is, leads_append m middle next xs ys rest second)

leads_said : (n : ℕ) (r next : Reading) (lines : List (List ℕ)) → LeadsTo r lines next → lines_said n r lines ≡ Ok next
leads_said n r next [] is = ap Ok is
leads_said n r next (line ∷ lines) (m, is, rest) =
    ap (λ (o : Option Reading). ok_or {E = LogFault} o (record { line = n; kind = kind_of line }) >=> λ x. lines_said (n + 1) x lines) is ∙ leads_said (n + 1) m next lines rest

-- a list in the middle of a table
get_or-middle : {X : Type 0} (front : List X) (x : X) (back : List X) (d : X) → get_or (front ++ x ∷ back) (length front) d ≡ x
get_or-middle [] x back d = refl
get_or-middle (y ∷ front) x back d = get_or-middle front x back d

pub set-middle : {X : Type 0} (front : List X) (x y : X) (back : List X) → set (front ++ x ∷ back) (length front) y ≡ front ++ y ∷ back
set-middle [] x y back = refl
set-middle {X} (z ∷ front) x y back = ap (λ (l : List X). z ∷ l) (set-middle front x y back)

pub get_or-front : {X : Type 0} (front back : List X) (k : ℕ) (d : X) → k < length front → get_or (front ++ back) k d ≡ get_or front k d
get_or-front [] back k d below = absurd (omega arith)
get_or-front (x ∷ front) back zero d below = refl
get_or-front (x ∷ front) back (suc k) d below = let within : k < length front = omega arith in get_or-front front back k d within

-- a reading with other lists and another last rank
abbrev at_lists : Reading → List (List DataCall) → Option ℕ → Reading
at_lists r lists rank = record r { log = record r.log { lists = lists }; rank = rank }

in_order_now : (n : ℕ) → is_in_order (Some n) n ≡ true
in_order_now n = le-leb n n (omega arith)

in_order_next : (o : Option ℕ) (n : ℕ) → is_in_order o n ≡ true → is_in_order o (n + 1) ≡ true
in_order_next None n is = refl
in_order_next (Some last) n is = le-leb last (n + 1) (omega (arith, leb-true last n is))

-- the lines of a rank's calls lead to the list with these calls
list_leads : (r : Reading) (front : List (List DataCall)) (p l : List DataCall) (back : List (List DataCall)) (n : ℕ) (o : Option ℕ) → r.log.nue ≤ 48 → n ≡ length front → is_in_order o n ≡ true → All (IsLogCall r.log.nue r.log.comms n) l → (n < r.log.nue) ⊎ (l ≡ [])
    → (next : Option ℕ) × (is_in_order next n ≡ true) × LeadsTo (at_lists r (front ++ p ∷ back) o) (call_lines n l) (at_lists r (front ++ (p ++ l) ∷ back) next)
list_leads r front p [] back n o ranks at ordered valid below =
    (o, ordered, ap (λ (x : List DataCall). at_lists r (front ++ x ∷ back) o) (sym (append-nil p)))
list_leads r front p (c ∷ l) back n o ranks at ordered valid below =
    let within : n < r.log.nue = ⊎_elim (λ (yes : n < r.log.nue). yes) (λ (no : c ∷ l ≡ []). absurd cc) below in
    let here : get_or (front ++ p ∷ back) n [] ≡ p = ap (λ (k : ℕ). get_or (front ++ p ∷ back) k []) at ∙ get_or-middle front p back [] in
    let grown : with_call (front ++ p ∷ back) (record { rank = n; call = c }) ≡ front ++ (p ++ c ∷ []) ∷ back =
    ap (λ (k : ℕ). set (front ++ p ∷ back) k (get_or (front ++ p ∷ back) n [] ++ c ∷ [])) at
    ∙ set-middle front p (get_or (front ++ p ∷ back) n [] ++ c ∷ []) back ∙ ap (λ (x : List DataCall). front ++ (x ++ c ∷ []) ∷ back) here in
    let told = line_told (at_lists r (front ++ p ∷ back) o) n c ranks within (All-head (IsLogCall r.log.nue r.log.comms n) c l valid) ordered in
    let rest = list_leads r front (p ++ c ∷ []) l back n (Some n) ranks at (in_order_now n) (All-tail (IsLogCall r.log.nue r.log.comms n) c l valid) (inl within) in
    let whole : LeadsTo (at_lists r (front ++ (p ++ c ∷ []) ∷ back) (Some n)) (call_lines n l) (at_lists r (front ++ (p ++ c ∷ l) ∷ back) rest.0) =
    subst (λ (x : List DataCall). LeadsTo (at_lists r (front ++ (p ++ c ∷ []) ∷ back) (Some n)) (call_lines n l) (at_lists r (front ++ x ∷ back) rest.0)) (append_assoc p (c ∷ []) l) rest.2 in
    (rest.0, rest.1, (at_lists r (front ++ (p ++ c ∷ []) ∷ back) (Some n), told ∙ ap (λ (x : List (List DataCall)). Some (at_lists r x (Some n))) grown, whole))

-- and the lines of all ranks to all lists
lists_lead : (r : Reading) (front ls : List (List DataCall)) (n : ℕ) (o : Option ℕ) → r.log.nue ≤ 48 → n ≡ length front → is_in_order o n ≡ true
    → ((k : ℕ) → All (IsLogCall r.log.nue r.log.comms (n + k)) (get_or ls k [])) → ((k : ℕ) → r.log.nue ≤ n + k → get_or ls k [] ≡ [])
    → (next : Option ℕ) × LeadsTo (at_lists r (front ++ replicate (length ls) []) o) (table_lines call_lines n ls) (at_lists r (front ++ ls) next)
lists_lead r front [] n o ranks at ordered valid none = (o, refl)
lists_lead r front (l ∷ ls) n o ranks at ordered valid none =
    let valid_here : All (IsLogCall r.log.nue r.log.comms n) l = subst (λ (m : ℕ). All (IsLogCall r.log.nue r.log.comms m) l) (omega arith) (valid 0) in
    let below : (n < r.log.nue) ⊎ (l ≡ []) = ⊎_elim (λ (yes : n < r.log.nue). inl yes) (λ (no : r.log.nue ≤ n). inr (none 0 (omega (arith, no)))) (cases_lt n r.log.nue) in
    let first = list_leads r front [] l (replicate (length ls) []) n o ranks at ordered valid_here below in
    let count : n + 1 ≡ length (front ++ l ∷ []) = omega (arith, at, length-append front (l ∷ [])) in
    let rest = lists_lead r (front ++ l ∷ []) ls (n + 1) first.0 ranks count (in_order_next first.0 n first.1)
    (λ k. subst (λ (m : ℕ). All (IsLogCall r.log.nue r.log.comms m) (get_or ls k [])) (omega arith) (valid (suc k)))
    (λ k above. none (suc k) (omega arith)) in
    let joined : LeadsTo (at_lists r (front ++ l ∷ replicate (length ls) []) first.0) (table_lines call_lines (n + 1) ls) (at_lists r (front ++ l ∷ ls) rest.0) =
    subst (λ (x : List (List DataCall)). LeadsTo (at_lists r (front ++ l ∷ replicate (length ls) []) first.0) (table_lines call_lines (n + 1) ls) (at_lists r x rest.0)) (append_assoc front (l ∷ []) ls)
    (subst (λ (x : List (List DataCall)). LeadsTo (at_lists r x first.0) (table_lines call_lines (n + 1) ls) (at_lists r ((front ++ l ∷ []) ++ ls) rest.0)) (append_assoc front (l ∷ []) (replicate (length ls) [])) rest.1) in
    (rest.0, leads_append (at_lists r (front ++ [] ∷ replicate (length ls) []) o) (at_lists r (front ++ l ∷ replicate (length ls) []) first.0) (at_lists r (front ++ l ∷ ls) rest.0) (call_lines n l) (table_lines call_lines (n + 1) ls) first.2 joined)

-- the line of a communicator says it
pub split_told : (last : ℕ) (comms : List CommRule) (c p k : ℕ) (how : List ℕ) (rule : CommRule) → last < c → c < 16 → p < c → is_present_rule (rule_of comms p) ≡ true → 1 ≤ k → k ≤ 48 → rule_named how p k ≡ Some rule
    → comm_said last comms (split_words c p how k) ≡ Some (record { comm = c; rule = rule })
split_told last comms c p k how rule above below low stands some most named =
    ap (λ (o : Option ℕ). o >>= λ x. exact_range_said 0 15 (decimal p) >>= λ y. exact_range_said 1 48 (decimal k) >>= λ z. rule_named how y z >>= λ w. only_if (bytes_eq (codes "comm") (codes "comm") && is_present_rule (rule_of comms y)) (record { comm = x; rule = w }))
    (range_said-decimal (last + 1) 15 c (omega arith) (omega arith) (omega arith))
    ∙ ap (λ (o : Option ℕ). o >>= λ y. exact_range_said 1 48 (decimal k) >>= λ z. rule_named how y z >>= λ w. only_if (bytes_eq (codes "comm") (codes "comm") && is_present_rule (rule_of comms y)) (record { comm = c; rule = w }))
    (range_said-decimal 0 15 p (omega arith) (omega arith) (omega arith))
    ∙ ap (λ (o : Option ℕ). o >>= λ z. rule_named how p z >>= λ w. only_if (bytes_eq (codes "comm") (codes "comm") && is_present_rule (rule_of comms p)) (record { comm = c; rule = w }))
    (range_said-decimal 1 48 k some most (omega arith))
    ∙ ap (λ (o : Option CommRule). o >>= λ w. only_if (bytes_eq (codes "comm") (codes "comm") && is_present_rule (rule_of comms p)) (record { comm = c; rule = w })) named
    ∙ cond-true (is_present_rule (rule_of comms p)) (Some (record { comm = c; rule = rule })) None stands

split_are : (c p k : ℕ) (how : List ℕ) → c < 16 → p < c → k ≤ 48 → IsWord how → AreWords (split_words c p how k)
split_are c p k how below low most is = (refl, (small_word c (omega arith), (small_word p (omega arith), (is, (small_word k (omega arith), tt)))))

-- a reading with other rules and another last communicator
abbrev at_comms : Reading → List CommRule → ℕ → Reading
at_comms r comms last = record r { log = record r.log { comms = comms }; comm = last }

split_leads : (r : Reading) (front back : List CommRule) (c p k : ℕ) (how : List ℕ) (rule : CommRule) (last : ℕ) → r.rank ≡ None → c ≡ length front → last < c → c < 16 → p < c → is_present_rule (rule_of (front ++ Absent ∷ back) p) ≡ true → 1 ≤ k → k ≤ 48 → rule_named how p k ≡ Some rule → IsWord how
    → LeadsTo (at_comms r (front ++ Absent ∷ back) last) (line_of (split_words c p how k) ∷ []) (at_comms r (front ++ rule ∷ back) c)
split_leads r front back c p k how rule last none at above below low stands some most named is =
    let comms = front ++ Absent ∷ back in
    let words : log_words_of (line_of (split_words c p how k)) ≡ split_words c p how k = words_of-line_of _ _ (split_are c p k how below low most is) in
    let placed : set comms c rule ≡ front ++ rule ∷ back = ap (λ (x : ℕ). set comms x rule) at ∙ set-middle front Absent rule back in (
      at_comms r (front ++ rule ∷ back) c,
      ap (λ (w : List (List ℕ)). comm_said last comms w >>= with_comm (at_comms r comms last) r.rank) words
          ∙ ap (λ (o : Option CommSplit). o >>= with_comm (at_comms r comms last) r.rank) (split_told last comms c p k how rule above below low stands some most named)
          ∙ ap (λ (o : Option ℕ). with_comm (at_comms r comms last) o (record { comm = c; rule = rule })) none
          ∙ ap (λ (x : List CommRule). Some (at_comms r x c)) placed,
      refl,
    )

pub present_before : (front back rs : List CommRule) (p : ℕ) → p < length front → rule_of (front ++ rs) p ≢ Absent → is_present_rule (rule_of (front ++ back) p) ≡ true
present_before front back rs p below stands =
    present_is (rule_of (front ++ back) p) (λ is. stands (get_or-front front rs p Absent below ∙ sym (get_or-front front back p Absent below) ∙ is))

-- the lines of the rules lead to the rules
rules_lead : (r : Reading) (front rs : List CommRule) (c last : ℕ) → r.rank ≡ None → c ≡ length front → 1 ≤ c → last < c → c + length rs ≡ 16 → ((k : ℕ) → k < length rs → IsRule (front ++ rs) (c + k) (get_or rs k Absent))
    → (next : ℕ) × LeadsTo (at_comms r (front ++ replicate (length rs) Absent) last) (table_lines rule_lines c rs) (at_comms r (front ++ rs) next)
rules_lead r front [] c last none at some above full rules = (last, refl)
rules_lead r front (rule ∷ rs) c last none at some above full rules =
    let here : IsRule (front ++ rule ∷ rs) c rule = subst (λ (m : ℕ). IsRule (front ++ rule ∷ rs) m rule) (omega arith) (rules 0 (omega arith)) in
    let first = by_rule rule here in
    let count : c + 1 ≡ length (front ++ rule ∷ []) = omega (arith, at, length-append front (rule ∷ [])) in
    let rest = rules_lead r (front ++ rule ∷ []) rs (c + 1) first.0 none count (omega arith) (omega (arith, first.1)) (omega (arith, full))
    (λ k below. subst (λ (m : ℕ). IsRule ((front ++ rule ∷ []) ++ rs) m (get_or rs k Absent)) (omega arith) (subst (λ (x : List CommRule). IsRule x (c + suc k) (get_or rs k Absent)) (sym (append_assoc front (rule ∷ []) rs)) (rules (suc k) (omega arith)))) in
    let joined : LeadsTo (at_comms r (front ++ rule ∷ replicate (length rs) Absent) first.0) (table_lines rule_lines (c + 1) rs) (at_comms r (front ++ rule ∷ rs) rest.0) =
    subst (λ (x : List CommRule). LeadsTo (at_comms r (front ++ rule ∷ replicate (length rs) Absent) first.0) (table_lines rule_lines (c + 1) rs) (at_comms r x rest.0)) (append_assoc front (rule ∷ []) rs)
    (subst (λ (x : List CommRule). LeadsTo (at_comms r x first.0) (table_lines rule_lines (c + 1) rs) (at_comms r ((front ++ rule ∷ []) ++ rs) rest.0)) (append_assoc front (rule ∷ []) (replicate (length rs) Absent)) rest.1) in
    (rest.0, leads_append (at_comms r (front ++ Absent ∷ replicate (length rs) Absent) last) (at_comms r (front ++ rule ∷ replicate (length rs) Absent) first.0) (at_comms r (front ++ rule ∷ rs) rest.0) (rule_lines c rule) (table_lines rule_lines (c + 1) rs) first.2 joined)
  where
    by_rule : (x : CommRule) → IsRule (front ++ rule ∷ rs) c x → (next : ℕ) × (next ≤ c) × LeadsTo (at_comms r (front ++ Absent ∷ replicate (length rs) Absent) last) (rule_lines c x) (at_comms r (front ++ x ∷ replicate (length rs) Absent) next)
    by_rule Absent is = (last, omega (arith, above), refl)
    by_rule World is = absurd (omega (arith, is, some))
    by_rule (Mod p k) (low, stands, least, most) =
        (c, omega arith, split_leads r front (replicate (length rs) Absent) c p k (codes "mod") (Mod p k) last none at above (omega (arith, full)) low (present_before front (Absent ∷ replicate (length rs) Absent) (rule ∷ rs) p (omega (arith, at, low)) stands) least most refl refl)
    by_rule (Div p k) (low, stands, least, most) =
        (c, omega arith, split_leads r front (replicate (length rs) Absent) c p k (codes "div") (Div p k) last none at above (omega (arith, full)) low (present_before front (Absent ∷ replicate (length rs) Absent) (rule ∷ rs) p (omega (arith, at, low)) stands) least most refl refl)

-- the first line
head_told_nue : (nue : ℕ) → 1 ≤ nue → nue ≤ 48 → nue_of (head_words nue) ≡ Some nue
head_told_nue nue some most =
    ap (λ (o : Option ℕ). o >>= λ n. only_if (bytes_eq (codes "rcce") (codes "rcce") && bytes_eq (codes "log") (codes "log")) n) (range_said-decimal 1 48 nue some most (omega arith))

first_told : (nue : ℕ) → 1 ≤ nue → nue ≤ 48 → first_said (line_of (head_words nue)) ≡ Ok (reading_start nue)
first_told nue some most =
    ap (λ (w : List (List ℕ)). ok_or {E = LogFault} (option_map reading_start (nue_of w)) (record { line = 1; kind = kind.BadHead }))
    (words_of-line_of (codes "rcce") (codes "log" ∷ decimal nue ∷ []) (refl, (refl, (small_word nue (omega arith), tt))))
    ∙ ap (λ (o : Option ℕ). ok_or {E = LogFault} (option_map reading_start o) (record { line = 1; kind = kind.BadHead })) (head_told_nue nue some most)

-- the lines of a log have no line feeds
rule_are_lines : (comms : List CommRule) (c : ℕ) (rule : CommRule) → c < 16 → IsRule comms c rule → AreLines (rule_lines c rule)
rule_are_lines comms c Absent below is = tt
rule_are_lines comms c World below is = tt
rule_are_lines comms c (Mod p k) below (low, stands, some, most) = (line_is (split_words c p (codes "mod") k) (split_are c p k (codes "mod") below low most refl), tt)
rule_are_lines comms c (Div p k) below (low, stands, some, most) = (line_is (split_words c p (codes "div") k) (split_are c p k (codes "div") below low most refl), tt)

rules_are_lines : (comms rs : List CommRule) (c : ℕ) → c + length rs ≡ 16 → ((k : ℕ) → k < length rs → IsRule comms (c + k) (get_or rs k Absent)) → AreLines (table_lines rule_lines c rs)
rules_are_lines comms [] c full rules = tt
rules_are_lines comms (rule ∷ rs) c full rules =
    let here : IsRule comms c rule = subst (λ (m : ℕ). IsRule comms m rule) (omega arith) (rules 0 (omega arith)) in
    are_lines-append (rule_lines c rule) (table_lines rule_lines (c + 1) rs) (rule_are_lines comms c rule (omega (arith, full)) here)
    (rules_are_lines comms rs (c + 1) (omega (arith, full)) (λ k below. subst (λ (m : ℕ). IsRule comms m (get_or rs k Absent)) (omega arith) (rules (suc k) (omega arith))))

calls_are_lines : (nue : ℕ) (comms : List CommRule) (r : ℕ) (calls : List DataCall) → nue ≤ 48 → (r < nue) ⊎ (calls ≡ []) → All (IsLogCall nue comms r) calls → AreLines (call_lines r calls)
calls_are_lines nue comms r [] ranks below valid = tt
calls_are_lines nue comms r (c ∷ calls) ranks below valid =
    let within : r < nue = ⊎_elim (λ (yes : r < nue). yes) (λ (no : c ∷ calls ≡ []). absurd cc) below in
    (line_is (call_words r c) (call_are nue comms r c ranks within (All-head (IsLogCall nue comms r) c calls valid)), calls_are_lines nue comms r calls ranks (inl within) (All-tail (IsLogCall nue comms r) c calls valid))

lists_are_lines : (nue : ℕ) (comms : List CommRule) (ls : List (List DataCall)) (n : ℕ) → nue ≤ 48 → ((k : ℕ) → All (IsLogCall nue comms (n + k)) (get_or ls k [])) → ((k : ℕ) → nue ≤ n + k → get_or ls k [] ≡ []) → AreLines (table_lines call_lines n ls)
lists_are_lines nue comms [] n ranks valid none = tt
lists_are_lines nue comms (l ∷ ls) n ranks valid none =
    let valid_here : All (IsLogCall nue comms n) l = subst (λ (m : ℕ). All (IsLogCall nue comms m) l) (omega arith) (valid 0) in
    let below : (n < nue) ⊎ (l ≡ []) = ⊎_elim (λ (yes : n < nue). inl yes) (λ (no : nue ≤ n). inr (none 0 (omega (arith, no)))) (cases_lt n nue) in
    are_lines-append (call_lines n l) (table_lines call_lines (n + 1) ls) (calls_are_lines nue comms n l ranks below valid_here)
    (lists_are_lines nue comms ls (n + 1) ranks (λ k. subst (λ (m : ℕ). All (IsLogCall nue comms m) (get_or ls k [])) (omega arith) (valid (suc k))) (λ k above. none (suc k) (omega arith)))

-- no rank has a call yet
no_lists_yet : (m : Reading) (n : ℕ) → n ≡ 48 → m.log.lists ≡ no_calls → at_lists m ([] ++ replicate n []) None ≡ at_lists m m.log.lists None
unfolding no_calls
no_lists_yet m n is none_yet = ap (λ (k : ℕ). at_lists m (replicate k []) None) is ∙ ap (λ (l : List (List DataCall)). at_lists m l None) (sym none_yet)

-- the text of a log says the log
at_zero : (n : ℕ) → n ≡ 0 + n
at_zero n = omega arith

pub text_told : (log : LogView) → IsFileLog log → log_of (log_text log) ≡ Ok log
text_told log is =
    cond-false (nat_lt most_log_bytes (length (log_text log))) _ _ (le-ltb most_log_bytes (length (log_text log)) is.fits)
    ∙ ap parts_said (lines_of-text_of (log_lines log) lines_are) ∙ parts_told (log_lines log) ∙ all_told log.comms refl
  where
    written : IsLog log
    written = is.written

    valid : (k : ℕ) → All (IsLogCall log.nue log.comms (0 + k)) (get_or log.lists k [])
    valid k = subst (λ (m : ℕ). All (IsLogCall log.nue log.comms m) (get_or log.lists k [])) (at_zero k) (written.calls k)

    none : (k : ℕ) → log.nue ≤ 0 + k → get_or log.lists k [] ≡ []
    none k above = written.no_others k (omega arith)

    rule_at : (k : ℕ) → k < length log.comms → IsRule log.comms (0 + k) (get_or log.comms k Absent)
    rule_at k below = subst (λ (m : ℕ). IsRule log.comms m (get_or log.comms k Absent)) (at_zero k) (written.rules k (omega (arith, below, written.sixteen)))

    lines_are : AreLines (log_lines log)
    lines_are = (
      line_is (head_words log.nue) (refl, (refl, (small_word log.nue (omega (arith, written.ranks_within)), tt))),
      are_lines-append (table_lines rule_lines 0 log.comms) (table_lines call_lines 0 log.lists) (rules_are_lines log.comms log.comms 0 (omega (arith, written.sixteen)) rule_at)
          (lists_are_lines log.nue log.comms log.lists 0 written.ranks_within valid none),
    )

    parts_told : (lines : List (List ℕ)) → parts_said (lines ++ [] ∷ []) ≡ all_said lines []
    parts_told lines =
        let count : length (lines ++ [] ∷ []) - 1 ≡ length lines = omega (arith, length-append lines ([] ∷ [])) in
        ap (λ (n : ℕ). all_said (take n (lines ++ [] ∷ [])) (get_or (lines ++ [] ∷ []) n [])) count
        ∙ ap (λ (front : List (List ℕ)). all_said front (get_or (lines ++ [] ∷ []) (length lines) [])) (take-front lines)
        ∙ ap (all_said lines) (get_or-middle lines [] [] [])
      where
        take-front : (xs : List (List ℕ)) → take (length xs) (xs ++ [] ∷ []) ≡ xs
        take-front [] = refl
        take-front (x ∷ xs) = ap (λ (l : List (List ℕ)). x ∷ l) (take-front xs)

    all_told : (comms : List CommRule) → log.comms ≡ comms → all_said (log_lines log) [] ≡ Ok log
    all_told [] same = absurd (omega (arith, ap length same, written.sixteen))
    all_told (World ∷ rs) same =
        let r = reading_start log.nue in
        let count : 1 + length rs ≡ 16 = omega (arith, ap length same, written.sixteen) in
        let fifteen : length rs ≡ 15 = omega (arith, count) in
        let rules : (k : ℕ) → k < length rs → IsRule ((World ∷ []) ++ rs) (1 + k) (get_or rs k Absent) =
        λ k below. subst (λ (m : ℕ). IsRule (World ∷ rs) m (get_or rs k Absent)) (omega arith) (subst (λ (x : List CommRule). IsRule x (suc k) (get_or x (suc k) Absent)) same (written.rules (suc k) (omega (arith, below, count)))) in
        let splits = rules_lead r (World ∷ []) rs 1 0 refl refl (omega arith) (omega arith) count rules in
        let middle : Reading = at_comms r (World ∷ rs) splits.0 in
        let calls = lists_lead middle [] log.lists 0 None written.ranks_within refl refl
        (λ k. subst (λ (x : List CommRule). All (IsLogCall log.nue x (0 + k)) (get_or log.lists k [])) same (valid k)) none in
        let begin : at_comms r ((World ∷ []) ++ replicate (length rs) Absent) 0 ≡ r = ap (λ (n : ℕ). at_comms r (World ∷ replicate n Absent) 0) fifteen in
        let begin_calls : at_lists middle ([] ++ replicate (length log.lists) []) None ≡ middle = no_lists_yet middle (length log.lists) written.ranks refl in
        let lead : LeadsTo r (table_lines rule_lines 0 (World ∷ rs) ++ table_lines call_lines 0 log.lists) (at_lists middle log.lists calls.0) =
        leads_append r middle (at_lists middle log.lists calls.0) (table_lines rule_lines 1 rs) (table_lines call_lines 0 log.lists)
        (subst (λ (x : Reading). LeadsTo x (table_lines rule_lines 1 rs) middle) begin splits.1)
        (subst (λ (x : Reading). LeadsTo x (table_lines call_lines 0 log.lists) (at_lists middle log.lists calls.0)) begin_calls calls.1) in
        let lines = table_lines rule_lines 0 (World ∷ rs) ++ table_lines call_lines 0 log.lists in
        ap (λ (x : List CommRule). all_said (line_of (head_words log.nue) ∷ (table_lines rule_lines 0 x ++ table_lines call_lines 0 log.lists)) []) same
        ∙ ap (λ (o : Result Reading LogFault). o >=> λ x. lines_said 2 x lines >=> end_said (length lines + 2) []) (first_told log.nue written.some_ranks written.ranks_within)
        ∙ ap (λ (o : Result Reading LogFault). o >=> end_said (length lines + 2) []) (leads_said 2 r (at_lists middle log.lists calls.0) lines lead)
        ∙ ap (λ (x : List CommRule). Ok (record log { comms = x })) (sym same)
    all_told (Absent ∷ rs) same = absurd (subst (λ (x : List CommRule). IsRule x 0 (rule_of x 0)) same (written.rules 0 (omega arith)) refl)
    all_told (Mod p k ∷ rs) same = let is = subst (λ (x : List CommRule). IsRule x 0 (rule_of x 0)) same (written.rules 0 (omega arith)) in absurd (omega (arith, is.0))
    all_told (Div p k ∷ rs) same = let is = subst (λ (x : List CommRule). IsRule x 0 (rule_of x 0)) same (written.rules 0 (omega arith)) in absurd (omega (arith, is.0))
