-- What a root has gathered in its barrier, and what a move of barriers leaves of the passed calls of others.
use Rattle.std.proofs.Common.{◌≡◌, ◌≢◌, ◌⊎◌, ℕ, suc, ◌-◌, ◌<◌, ◌≤◌, ◌==◌, Bool, true, false, true≢false, ◌&&◌, nat_lt, nat_le, if◌then◌else◌, List, [], ◌∷◌, ◌++◌, length, Option, Some, None, ⊎_elim, refl, sym, ◌∙◌, ap, ap₂, subst, append-nil, arith}
use Rattle.std.proofs.lemmas.Bool.Decides.{nat_tests}
use Rattle.scc_base.specs.Calls.{DataCall, Bar, Message}
use Rattle.scc_base.specs.Setups.{SetupView, setup_key, root_of, place_of}
use Rattle.scc_base.proofs.Confluence.{equal_or_not}
use Rattle.scc_base.proofs.ChangeLaws.{true_or_false}
use Rattle.scc_proto.specs.Tables.{table_with}
use Rattle.scc_proto.specs.Messages.{fresh_message, with_chunk, sent_messages, received_messages, send_to, message_of}
use Rattle.scc_proto.specs.Stages.{Stage, Idle, Drafting, Sending, Between, Taking, Barrier, InFlight, Record}
use Rattle.scc_proto.specs.Moves.{finished_if, calls_released, calls_let_go, look_gather, look_release}
use Rattle.scc_proto.specs.Records.{chunk_of, last_of}
use Rattle.scc_proto.specs.Groups.{is_open}
use Rattle.scc_proto.specs.Passed.{in_hand, gathered_barriers, is_gathered, passed_open, passed_calls, slot_by, slot_of}
use Rattle.scc_proto.specs.Legality.{Grows, ByNothing, in_group}
use Rattle.scc_proto.proofs.Messages.MessageLaw.{sent_messages-append, received_messages-append}
use Rattle.scc_proto.proofs.Barriers.BarrierFacts.{Counts, bar_at, gathered_in, releases_in, released_bar, Level}
use Rattle.scc_proto.proofs.Barriers.GroupRanks.{put_here, put_there, put_same, at_rank, last_same}
use Rattle.scc_base.proofs.GroupFacts.{root_with, root_is}
use Rattle.scc_proto.specs.Words.{is_present}
use Rattle.scc_proto.specs.Views.{View}
use Rattle.scc_proto.specs.Agreement.{RecordsAgree, GroupsAgree}

-- an open call that is passed, where the lists of messages and what the roots have gathered are the same
pub open_same : (s : SetupView) (k : ℕ) (st : Stage) (old new : ℕ → Record) → ((i j : ℕ) → received_messages i (new j).calls ≡ received_messages i (old j).calls) → ((i j : ℕ) → sent_messages i (new j).calls ≡ sent_messages i (old j).calls)
    → ((comm : ℕ) → is_open comm st ≡ true → is_gathered s comm k new ≡ is_gathered s comm k old) → passed_open s k st new ≡ passed_open s k st old
open_same s k Idle old new received sent gathers = refl
open_same s k (Drafting header chunk) old new received sent gathers = refl
open_same s k (Sending to part message chunk) old new received sent gathers =
    ap₂ (λ (a b : List Message). if length a == suc (length b) then send_to to (message_of (in_hand (chunk_of s) part message chunk)) ∷ [] else []) (received k to) (sent to k)
open_same s k (Between from message) old new received sent gathers = refl
open_same s k (Taking from message chunk) old new received sent gathers = refl
open_same s k (Barrier c seen released) old new received sent gathers = ap (λ (b : Bool). if b then Bar c ∷ [] else []) (gathers c (grind (arith, nat_tests)))

-- an open barrier is passed where the root has gathered all members
pub open_bar : (s : SetupView) (comm k : ℕ) (st : Stage) (records : ℕ → Record) → is_open comm st ≡ true → passed_open s k st records ≡ (if is_gathered s comm k records then Bar comm ∷ [] else [])
open_bar s comm k Idle records is = absurd (true≢false (sym is))
open_bar s comm k (Drafting header chunk) records is = absurd (true≢false (sym is))
open_bar s comm k (Sending to part message chunk) records is = absurd (true≢false (sym is))
open_bar s comm k (Between from message) records is = absurd (true≢false (sym is))
open_bar s comm k (Taking from message chunk) records is = absurd (true≢false (sym is))
open_bar s comm k (Barrier c seen released) records is =
    let same : c ≡ comm = grind (arith, nat_tests) in ap (λ (x : ℕ). if is_gathered s x k records then Bar x ∷ [] else []) same

-- a posted message is received or not, where the lists of messages are the same
pub slot_same : (s : SetupView) (k : ℕ) (post : Option InFlight) (old new : ℕ → Record) → ((i j : ℕ) → received_messages i (new j).calls ≡ received_messages i (old j).calls) → ((i j : ℕ) → sent_messages i (new j).calls ≡ sent_messages i (old j).calls)
    → slot_by (chunk_of s) k post new ≡ slot_by (chunk_of s) k post old
slot_same s k None old new received sent = refl
slot_same s k (Some post) old new received sent =
    ap₂ (λ (a b : List Message). if length a == length b then None else Some (record { to = post.to; head = post.head; bytes = (with_chunk (chunk_of s) (fresh_message post.head) post.chunk).bytes })) (received k post.to) (sent post.to k)

-- a rank with an open barrier is a rank of the run
pub open_low : (s : SetupView) (records : ℕ → Record) → RecordsAgree s records → (comm k : ℕ) → is_open comm (records k).stage ≡ true → k < s.nue
open_low s records consistent comm k is =
    ⊎_elim
    (λ (below : k < s.nue). below)
    (λ (above : s.nue ≤ k). absurd (true≢false (sym is ∙ ap (λ (rec : Record). is_open comm rec.stage) (consistent.1 k above))))
    (low_or_not k s.nue)
  where
    low_or_not : (a b : ℕ) → (a < b) ⊎ (b ≤ a)
    low_or_not a b = grind arith

-- the ranks of a root's group have its last place, and a root is its own
pub mine_last : (s : SetupView) (me comm k : ℕ) → root_of s comm k ≡ me → last_of s comm k ≡ last_of s comm me
mine_last s me comm k mine = last_same s comm k me (sym (root_with (setup_key s comm) k) ∙ ap (setup_key s comm) mine)

pub own_root : (s : SetupView) (me comm : ℕ) → place_of s comm me ≡ 0 → root_of s comm me ≡ me
own_root s me comm zeroth = sym (root_is (setup_key s comm) me me refl zeroth)

-- how a member and its root stand to each other
pub at_member : (s : SetupView) (view : View) (records : ℕ → Record) → GroupsAgree s view records → (c r : ℕ) → is_present s c ≡ true → r < s.nue → place_of s c r ≢ 0
    → Level (place_of s c r) (view.release c r) ((records (root_of s c r)).flips c) (bar_at c (records (root_of s c r)).stage) ((records r).flips c) (bar_at c (records r).stage)
at_member s view records groups c r present low_r member = (at_rank s view c r records (groups c r present low_r)).member member

-- a member of the group of a rank, by its key
pub group_told : (s : SetupView) (c root k : ℕ) → in_group s.nue (setup_key s) c root k ≡ true → (k < s.nue) × (setup_key s c k ≡ setup_key s c root)
group_told s c root k is = (grind (arith, nat_tests), grind (arith, nat_tests))

pub group_test : (s : SetupView) (c root k : ℕ) → k < s.nue → setup_key s c k ≡ setup_key s c root → in_group s.nue (setup_key s) c root k ≡ true
group_test s c root k below same = grind (arith, nat_tests)

-- what a root has gathered, by its open barrier
pub gathered_full : (last flips : ℕ) (x : Counts) → x.seen ≡ last → gathered_in last flips (Some x) ≡ flips
gathered_full last flips x all = let full : nat_lt x.seen last ≡ false = grind (arith, nat_tests) in ap (λ (b : Bool). if b then flips - 1 else flips) full

pub gathered_more : (last flips : ℕ) (x : Counts) → x.seen < last → gathered_in last flips (Some x) ≡ flips - 1
gathered_more last flips x some = let more : nat_lt x.seen last ≡ true = grind (arith, nat_tests) in ap (λ (b : Bool). if b then flips - 1 else flips) more

pub gathered_released : (last flips : ℕ) (x : Counts) → x.seen ≡ last → gathered_in last flips (released_bar last x) ≡ flips
gathered_released last flips x all = by_last (suc x.released == last)
  where
    by_last : (b : Bool) → gathered_in last flips (if b then None else Some (record { seen = x.seen; released = suc x.released })) ≡ flips
    by_last true = refl
    by_last false = gathered_full last flips (record { seen = x.seen; released = suc x.released }) all

pub le_test : (a b : ℕ) → a ≤ b → nat_le a b ≡ true
le_test a b le = grind (arith, nat_tests)

pub positive : (a : ℕ) → a ≢ 0 → 0 < a
positive a other = grind arith

pub held_test : (released place : ℕ) → 0 < place → released ≡ 0 → nat_lt released place ≡ true
held_test released place above none = grind (arith, nat_tests)

pub up_one : (a : ℕ) → 1 ≤ a → a ≡ suc (a - 1)
up_one a some = omega (arith, some)

pub never : (b : Bool) → (b && false) ≡ false
never true = refl
never false = refl

pub same_nat : (n : ℕ) → nat_le n n ≡ true
same_nat n = grind (arith, nat_tests)

-- a member has entered each barrier that its root has gathered
pub gathered_entered : (place last release root_flips flips : ℕ) (root own : Option Counts) → place ≤ last → Level place release root_flips root flips own → gathered_in last root_flips root ≤ flips
gathered_entered place last release root_flips flips None own within level = level.entered
gathered_entered place last release root_flips flips (Some x) own within level =
    ⊎_elim
    (λ (some : nat_lt x.seen last ≡ true).
    subst (λ (n : ℕ). n ≤ flips) (sym (ap (λ (b : Bool). if b then root_flips - 1 else root_flips) some)) low)
    (λ (full : nat_lt x.seen last ≡ false).
    let seen : nat_le place x.seen ≡ true = grind (arith, nat_tests) in
    subst (λ (n : ℕ). n ≤ flips) (sym (ap (λ (b : Bool). if b then root_flips - 1 else root_flips) full)) (level.seen seen))
    (true_or_false (nat_lt x.seen last))
  where
    either : (b : Bool) → (if b then root_flips - 1 else root_flips) ≤ flips → root_flips - 1 ≤ flips
    either true low = low
    either false low = omega (arith, low)

    low : root_flips - 1 ≤ flips
    low = either (nat_lt x.released place) level.entered

-- a root has gathered each barrier from which it has released a member
pub released_gathered : (place last root_flips : ℕ) (root : Option Counts) → place ≢ 0 → ((x : Counts) → root ≡ Some x → (x.released ≡ 0) ⊎ (x.seen ≡ last)) → releases_in place root_flips root ≤ gathered_in last root_flips root
released_gathered place last root_flips None member all = omega arith
released_gathered place last root_flips (Some x) member all =
    ⊎_elim
    (λ (none : x.released ≡ 0).
    let held : nat_lt x.released place ≡ true = grind (arith, nat_tests) in
    subst (λ (n : ℕ). n ≤ gathered_in last root_flips (Some x)) (sym (ap (λ (b : Bool). if b then root_flips - 1 else root_flips) held)) (least (nat_lt x.seen last)))
    (λ (full : x.seen ≡ last). subst (λ (n : ℕ). releases_in place root_flips (Some x) ≤ n) (sym (gathered_full last root_flips x full)) (most (nat_lt x.released place)))
    (all x refl)
  where
    least : (b : Bool) → root_flips - 1 ≤ (if b then root_flips - 1 else root_flips)
    least true = omega arith
    least false = omega arith

    most : (b : Bool) → (if b then root_flips - 1 else root_flips) ≤ root_flips
    most true = omega arith
    most false = omega arith

module _ (s : SetupView) (me : ℕ) (records : ℕ → Record) (new : Record) where
  pub received_next : ((i : ℕ) → received_messages i new.calls ≡ received_messages i (records me).calls) → (i j : ℕ) → received_messages i (table_with records me new j).calls ≡ received_messages i (records j).calls
  received_next same i j =
      ⊎_elim
      (λ (is : j ≡ me). ap (λ (rec : Record). received_messages i rec.calls) (put_here records me j new is) ∙ same i ∙ ap (λ (k : ℕ). received_messages i (records k).calls) (sym is))
      (λ (other : j ≢ me). ap (λ (rec : Record). received_messages i rec.calls) (put_there records me j new other))
      (equal_or_not j me)

  pub sent_next : ((i : ℕ) → sent_messages i new.calls ≡ sent_messages i (records me).calls) → (i j : ℕ) → sent_messages i (table_with records me new j).calls ≡ sent_messages i (records j).calls
  sent_next same i j =
      ⊎_elim
      (λ (is : j ≡ me). ap (λ (rec : Record). sent_messages i rec.calls) (put_here records me j new is) ∙ same i ∙ ap (λ (k : ℕ). sent_messages i (records k).calls) (sym is))
      (λ (other : j ≢ me). ap (λ (rec : Record). sent_messages i rec.calls) (put_there records me j new other))
      (equal_or_not j me)

  -- what another rank has passed stays, where what this one has gathered stays for its members
  pub passed_else : ((i : ℕ) → received_messages i new.calls ≡ received_messages i (records me).calls) → ((i : ℕ) → sent_messages i new.calls ≡ sent_messages i (records me).calls)
      → (k : ℕ) → k ≢ me → ((comm : ℕ) → root_of s comm k ≡ me → is_open comm (records k).stage ≡ true → gathered_barriers comm (last_of s comm k) new ≡ gathered_barriers comm (last_of s comm k) (records me))
      → passed_calls s (table_with records me new) k ≡ passed_calls s records k
  passed_else received sent k other gathers =
      ap (λ (rec : Record). rec.calls ++ passed_open s k rec.stage (table_with records me new)) (put_there records me k new other)
      ∙ ap (λ (l : List DataCall). (records k).calls ++ l) (open_same s k (records k).stage records (table_with records me new) (received_next received) (sent_next sent) same)
    where
      same : (comm : ℕ) → is_open comm (records k).stage ≡ true → is_gathered s comm k (table_with records me new) ≡ is_gathered s comm k records
      same comm is =
          ap₂ nat_le (ap (λ (rec : Record). rec.flips comm) (put_there records me k new other))
          (⊎_elim
          (λ (mine : root_of s comm k ≡ me). ap (gathered_barriers comm (last_of s comm k)) (put_here records me (root_of s comm k) new mine) ∙ gathers comm mine is ∙ ap (λ (r : ℕ). gathered_barriers comm (last_of s comm k) (records r)) (sym mine))
          (λ (away : root_of s comm k ≢ me). ap (gathered_barriers comm (last_of s comm k)) (put_there records me (root_of s comm k) new away))
          (equal_or_not (root_of s comm k) me))

  pub passed_here : passed_calls s (table_with records me new) me ≡ new.calls ++ passed_open s me new.stage (table_with records me new)
  passed_here = ap (λ (rec : Record). rec.calls ++ passed_open s me rec.stage (table_with records me new)) (put_here records me me new refl)

  -- where a rank's own flips are what its root has gathered, its open barrier is passed
  pub gathered_here : (comm : ℕ) → is_gathered s comm me (table_with records me new) ≡ nat_le (new.flips comm) (gathered_barriers comm (last_of s comm me) (table_with records me new (root_of s comm me)))
  gathered_here comm = ap (λ (rec : Record). nat_le (rec.flips comm) (gathered_barriers comm (last_of s comm me) (table_with records me new (root_of s comm me)))) (put_here records me me new refl)

  pub slots_stay : ((i : ℕ) → received_messages i new.calls ≡ received_messages i (records me).calls) → ((i : ℕ) → sent_messages i new.calls ≡ sent_messages i (records me).calls) → new.post ≡ (records me).post
      → (k : ℕ) → slot_of s (table_with records me new) k ≡ slot_of s records k
  slots_stay received sent post k =
      ap (λ (p : Option InFlight). slot_by (chunk_of s) k p (table_with records me new)) same
      ∙ slot_same s k (records k).post records (table_with records me new) (received_next received) (sent_next sent)
    where
      same : (table_with records me new k).post ≡ (records k).post
      same =
          ⊎_elim
          (λ (is : k ≡ me). ap (λ (rec : Record). rec.post) (put_here records me k new is) ∙ post ∙ ap (λ (j : ℕ). (records j).post) (sym is))
          (λ (other : k ≢ me). ap (λ (rec : Record). rec.post) (put_there records me k new other))
          (equal_or_not k me)

  -- a move changes what this rank has gathered in at most one communicator: then it suffices to compare that one and the others
  pub gathers_by : (c : ℕ) → gathered_barriers c (last_of s c me) new ≡ gathered_barriers c (last_of s c me) (records me) → ((n comm : ℕ) → comm ≢ c → gathered_barriers comm n new ≡ gathered_barriers comm n (records me))
      → (k comm : ℕ) → root_of s comm k ≡ me → gathered_barriers comm (last_of s comm k) new ≡ gathered_barriers comm (last_of s comm k) (records me)
  gathers_by c here others k comm mine =
      ⊎_elim
      (λ (is : comm ≡ c).
      subst (λ (n : ℕ). gathered_barriers comm n new ≡ gathered_barriers comm n (records me)) (sym (mine_last s me comm k mine))
      (subst (λ (x : ℕ). gathered_barriers x (last_of s x me) new ≡ gathered_barriers x (last_of s x me) (records me)) (sym is) here))
      (λ (apart : comm ≢ c). others (last_of s comm k) comm apart)
      (equal_or_not comm c)

  -- a move in a barrier passes nothing if it keeps the messages, the post, this rank's passed calls, and what this rank has gathered
  pub quiet_barrier : ((i : ℕ) → received_messages i new.calls ≡ received_messages i (records me).calls) → ((i : ℕ) → sent_messages i new.calls ≡ sent_messages i (records me).calls) → new.post ≡ (records me).post
      → passed_calls s (table_with records me new) me ≡ passed_calls s records me → ((k comm : ℕ) → root_of s comm k ≡ me → gathered_barriers comm (last_of s comm k) new ≡ gathered_barriers comm (last_of s comm k) (records me))
      → Grows s.nue (setup_key s) (passed_calls s records) (slot_of s records) (passed_calls s (table_with records me new)) (slot_of s (table_with records me new))
  quiet_barrier received sent post own gathers = ByNothing calls (slots_stay received sent post)
    where
      calls : (k : ℕ) → passed_calls s (table_with records me new) k ≡ passed_calls s records k
      calls k =
          ⊎_elim
          (λ (is : k ≡ me). subst (λ (x : ℕ). passed_calls s (table_with records me new) x ≡ passed_calls s records x) (sym is) own)
          (λ (other : k ≢ me). passed_else received sent k other (λ comm mine open_at. gathers k comm mine))
          (equal_or_not k me)

  -- a record that stays as it is
  pub unmoved : new ≡ records me → Grows s.nue (setup_key s) (passed_calls s records) (slot_of s records) (passed_calls s (table_with records me new)) (slot_of s (table_with records me new))
  unmoved same =
      let all : table_with records me new ≡ records = put_same records me new same in
      ByNothing (λ k. ap (λ (r : ℕ → Record). passed_calls s r k) all) (λ k. ap (λ (r : ℕ → Record). slot_of s r k) all)

-- a barrier among finished calls is no message
pub no_message_received : (i c : ℕ) (b : Bool) (calls : List DataCall) → received_messages i (finished_if b (Bar c) calls) ≡ received_messages i calls
no_message_received i c true calls = received_messages-append i calls (Bar c ∷ []) ∙ append-nil (received_messages i calls)
no_message_received i c false calls = refl

pub no_message_sent : (i c : ℕ) (b : Bool) (calls : List DataCall) → sent_messages i (finished_if b (Bar c) calls) ≡ sent_messages i calls
no_message_sent i c true calls = sent_messages-append i calls (Bar c ∷ []) ∙ append-nil (sent_messages i calls)
no_message_sent i c false calls = refl

-- the stage of an open barrier
pub barrier_is : (c : ℕ) (st : Stage) (x : Counts) → bar_at c st ≡ Some x → st ≡ Barrier c x.seen x.released
barrier_is c (Barrier d seen released) x is = by_comm (d == c) refl
  where
    by_comm : (b : Bool) → (d == c) ≡ b → Barrier d seen released ≡ Barrier c x.seen x.released
    by_comm true at =
        let same : d ≡ c = grind (arith, nat_tests) in
        let counts : Some (record { seen = seen; released = released }) ≡ Some x = sym (ap (λ (b : Bool). if b then Some (record { seen = seen; released = released }) else None) at) ∙ is in
        let equal : record { seen = seen; released = released } ≡ x = cc in
        ap (λ (n : ℕ). Barrier n seen released) same ∙ ap (λ (y : Counts). Barrier c y.seen y.released) equal
    by_comm false at =
        let none : None ≡ Some x = sym (ap (λ (b : Bool). if b then Some (record { seen = seen; released = released }) else None) at) ∙ is in
        absurd cc
barrier_is c Idle x is = absurd cc
barrier_is c (Drafting header chunk) x is = absurd cc
barrier_is c (Sending to part message chunk) x is = absurd cc
barrier_is c (Between from message) x is = absurd cc
barrier_is c (Taking from message chunk) x is = absurd cc

-- where no barrier of the communicator is open the looks of its barrier change nothing
pub no_barrier_here : (c d seen released : ℕ) → bar_at c (Barrier d seen released) ≡ None → (d == c) ≡ false
no_barrier_here c d seen released none = by_comm (d == c) none
  where
    by_comm : (b : Bool) → ◌≡◌ {A = Option Counts} (if b then Some (record { seen = seen; released = released }) else None) None → b ≡ false
    by_comm true none = absurd cc
    by_comm false none = refl

pub look_gather_none : (c place value v : ℕ) (st : Stage) → bar_at c st ≡ None → look_gather c place value v st ≡ st
look_gather_none c place value v (Barrier d seen released) none =
    ap (λ (b : Bool). if b && ((place == suc seen) && (value == v)) then Barrier d (suc seen) released else Barrier d seen released) (no_barrier_here c d seen released none)
look_gather_none c place value v Idle none = refl
look_gather_none c place value v (Drafting header chunk) none = refl
look_gather_none c place value v (Sending to part message chunk) none = refl
look_gather_none c place value v (Between from message) none = refl
look_gather_none c place value v (Taking from message chunk) none = refl

pub look_release_none : (c value v : ℕ) (st : Stage) (calls : List DataCall) → bar_at c st ≡ None → (look_release c value v st ≡ st) × (calls_let_go c value v st calls ≡ calls)
look_release_none c value v (Barrier d seen released) calls none = (
  ap (λ (b : Bool). if b && (value == v) then Idle else Barrier d seen released) (no_barrier_here c d seen released none),
  ap (λ (b : Bool). finished_if (b && (value == v)) (Bar d) calls) (no_barrier_here c d seen released none),
)
look_release_none c value v Idle calls none = (refl, refl)
look_release_none c value v (Drafting header chunk) calls none = (refl, refl)
look_release_none c value v (Sending to part message chunk) calls none = (refl, refl)
look_release_none c value v (Between from message) calls none = (refl, refl)
look_release_none c value v (Taking from message chunk) calls none = (refl, refl)

pub released_no_message : (last : ℕ) (st : Stage) (calls : List DataCall) → ((i : ℕ) → received_messages i (calls_released last st calls) ≡ received_messages i calls) × ((i : ℕ) → sent_messages i (calls_released last st calls) ≡ sent_messages i calls)
released_no_message last (Barrier c seen released) calls = (λ i. no_message_received i c (suc released == last) calls, λ i. no_message_sent i c (suc released == last) calls)
released_no_message last Idle calls = (λ i. refl, λ i. refl)
released_no_message last (Drafting header chunk) calls = (λ i. refl, λ i. refl)
released_no_message last (Sending to part message chunk) calls = (λ i. refl, λ i. refl)
released_no_message last (Between from message) calls = (λ i. refl, λ i. refl)
released_no_message last (Taking from message chunk) calls = (λ i. refl, λ i. refl)

pub let_go_no_message : (c value v : ℕ) (st : Stage) (calls : List DataCall) → ((i : ℕ) → received_messages i (calls_let_go c value v st calls) ≡ received_messages i calls) × ((i : ℕ) → sent_messages i (calls_let_go c value v st calls) ≡ sent_messages i calls)
let_go_no_message c value v (Barrier d seen released) calls = (λ i. no_message_received i d ((d == c) && (value == v)) calls, λ i. no_message_sent i d ((d == c) && (value == v)) calls)
let_go_no_message c value v Idle calls = (λ i. refl, λ i. refl)
let_go_no_message c value v (Drafting header chunk) calls = (λ i. refl, λ i. refl)
let_go_no_message c value v (Sending to part message chunk) calls = (λ i. refl, λ i. refl)
let_go_no_message c value v (Between from message) calls = (λ i. refl, λ i. refl)
let_go_no_message c value v (Taking from message chunk) calls = (λ i. refl, λ i. refl)
