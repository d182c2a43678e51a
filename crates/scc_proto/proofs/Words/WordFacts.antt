-- What the open call adds to the finished ones, what the tests of heads say, and what agreement says of single words and
-- registers.
use Rattle.std.proofs.Common.{◌≡◌, ◌⊎◌, ℕ, ◌<◌, Bool, true, false, if◌then◌else◌, List, [], ◌∷◌, ◌++◌, Some, None, is_some, inl, inr, refl, ap, subst, append-nil, arith}
use Rattle.std.proofs.lemmas.Bool.Decides.{nat_tests}
use Rattle.scc_base.specs.Calls.{DataCall, Bar}
use Rattle.scc_base.specs.Heads.{MessageHead, IsHead, IsPostHead}
use Rattle.scc_base.specs.Places.{WordAt, IsPlace}
use Rattle.scc_base.specs.Setups.{SetupView}
use Rattle.scc_proto.specs.Messages.{is_head, is_post_head, message_of, send_to}
use Rattle.scc_proto.specs.Stages.{Stage, Idle, Drafting, Sending, Between, Taking, Barrier, Record}
use Rattle.scc_proto.specs.Words.{Memory, Role, role_of, word_at}
use Rattle.scc_proto.specs.Records.{chunk_of}
use Rattle.scc_proto.specs.Passed.{IsPassed, in_hand, call_in_stage, open_call, is_received_ahead, is_gathered, passed_open, passed_calls}
use Rattle.scc_proto.specs.Registers.{Holder, Nobody, HeldBy}
use Rattle.scc_proto.specs.Agreement.{Agrees, WordAgrees}

-- the open call is passed or it is not
passed_if : (calls : List DataCall) (call : DataCall) (test : Bool) → IsPassed calls (Some call) (calls ++ (if test then call ∷ [] else []))
passed_if calls call true = inr (call, refl, refl)
passed_if calls call false = inl (append-nil calls)

passed_by : (s : SetupView) (records : ℕ → Record) (me : ℕ) (calls : List DataCall) (stage : Stage) → IsPassed calls (call_in_stage (chunk_of s) stage) (calls ++ passed_open s me stage records)
passed_by s records me calls Idle = inl (append-nil calls)
passed_by s records me calls (Drafting header chunk) = inl (append-nil calls)
passed_by s records me calls (Sending to part message chunk) = passed_if calls (send_to to (message_of (in_hand (chunk_of s) part message chunk))) (is_received_ahead me to records)
passed_by s records me calls (Between from message) = inl (append-nil calls)
passed_by s records me calls (Taking from message chunk) = inl (append-nil calls)
passed_by s records me calls (Barrier comm seen released) = passed_if calls (Bar comm) (is_gathered s comm me records)

pub passed_is : (s : SetupView) (records : ℕ → Record) (me : ℕ) → IsPassed (records me).calls (open_call s (records me)) (passed_calls s records me)
passed_is s records me = passed_by s records me (records me).calls (records me).stage

pub idle_opens_nothing : (s : SetupView) (rec : Record) → rec.stage ≡ Idle → open_call s rec ≡ None
idle_opens_nothing s rec idle = ap (call_in_stage (chunk_of s)) idle

-- ---- heads

pub head_is : (head : MessageHead) → is_head head ≡ true → IsHead head
head_is head t = record { kind_below = grind (arith, nat_tests); comm_below = grind (arith, nat_tests); len_within = grind (arith, nat_tests); plain_in_world = λ e. grind (arith, nat_tests) }

pub is_head_of : (head : MessageHead) → IsHead head → is_head head ≡ true
is_head_of head is = grind (arith, nat_tests)

pub post_head_is : (head : MessageHead) → is_post_head head ≡ true → IsPostHead head
post_head_is head t = record { plain = grind (arith, nat_tests); in_world = grind (arith, nat_tests); len_within = grind (arith, nat_tests) }

pub is_post_head_of : (head : MessageHead) → IsPostHead head → is_post_head head ≡ true
is_post_head_of head is = grind (arith, nat_tests)

-- ---- registers

pub holder_is : (nue register core : ℕ) (records : ℕ → Record) → Holder nue register core records → register ≡ 1
    → (holder : ℕ) × (holder < nue) × (is_some ((records holder).held core) ≡ true)
holder_is nue register core records (Nobody is nobody) taken = absurd (cc (is, taken))
holder_is nue register core records (HeldBy holder below is held others) taken = (holder, below, held)

pub nobody_holds : (nue register core : ℕ) (records : ℕ → Record) → Holder nue register core records → register ≡ 0 → (k : ℕ) → k < nue → (records k).held core ≡ None
nobody_holds nue register core records (Nobody is nobody) free = nobody
nobody_holds nue register core records (HeldBy holder below is held others) free = absurd (cc (is, free))

pub taken_is : (register : ℕ) → ((◌≡◌ {A = ℕ} 0 1) × (register ≡ 0)) ⊎ ((◌≡◌ {A = ℕ} 0 0) × (register ≡ 1)) → register ≡ 1
taken_is register (inl no_case) = absurd (cc no_case.0)
taken_is register (inr is) = is.1

pub free_is : (register : ℕ) → ((◌≡◌ {A = ℕ} 1 1) × (register ≡ 0)) ⊎ ((◌≡◌ {A = ℕ} 1 0) × (register ≡ 1)) → register ≡ 0
free_is register (inl is) = is.1
free_is register (inr no_case) = absurd (cc no_case.0)

-- ---- words that are nobody's

pub word_by_role : (s : SetupView) (memory : Memory) (records : ℕ → Record) (place : WordAt) (role : Role) → Agrees s memory records → IsPlace place → role_of s place ≡ role
    → WordAgrees s place (word_at memory place) records role
word_by_role s memory records place role agrees is e = subst (λ (r : Role). WordAgrees s place (word_at memory place) records r) e (agrees.words place is)
