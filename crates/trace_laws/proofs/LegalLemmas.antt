-- A legal run stays so with other cores for ranks that it has not.
use Rattle.std.proofs.Common.{◌≡◌, ℕ, zero, suc, ◌+◌, ◌-◌, ◌*◌, ◌<◌, cond, ◌==◌, List, [], ◌∷◌, Option, Some, None, refl, sym, ap, subst, ◌∙◌, arith}
use Rattle.std.specs.Prelude.{nat_lt}
use Rattle.scc_base.specs.Layouts.{first_chunk, first_gather}
use Rattle.scc_base.specs.Places.{first_heap, WordAt}
use Rattle.scc_base.specs.Setups.{SetupView, host_of}
use Rattle.scc_base.specs.declared.events.Access.{Access}
use Rattle.scc_base.specs.declared.events.Access.TheVariants.{Load, Store, Take, Free}
use Rattle.scc_base.specs.declared.events.Event.{Event}
use Rattle.scc_base.specs.declared.layouts.Layout.{Layout}
use Rattle.scc_base.specs.declared.layouts.Layout.TheVariants.{LineFlags, BitFlags}
use Rattle.scc_proto.specs.Histories.{IsPermittedRun, records_from}
use Rattle.scc_proto.specs.Moves.{Move, LowerSignal, RaiseSignal}
use Rattle.scc_proto.specs.Records.{EventAct, ChangingSignal, act_by, act_of, after_act, change_at, chunk_of, load_act, permits_by, permits_act, flags_noted, record_after, store_act}
use Rattle.scc_proto.specs.Stages.{Record}
use Rattle.scc_proto.specs.Tables.{table_with}
use Rattle.scc_proto.specs.Words.{RankEvent, Role, HeaderWord, ChunkWord, SignalFlag, SignalFlags, GatherFlag, ReleaseFlag, HeapWord, IdleWord, barrier_role, flag_role, rank_below, rank_on, role_at, role_of, role_where}

-- the setup with other cores
abbrev pub on_hosts : SetupView → List ℕ → SetupView
on_hosts s hosts = record s { hosts = hosts }

-- the cores are the same for its ranks
abbrev pub AreSame : SetupView → List ℕ → Type 0
AreSame s hosts = (r : ℕ) → r < s.nue → host_of hosts r ≡ host_of s.hosts r

-- ---- the roles of words

rank_same : (n : ℕ) (one other : List ℕ) (core : ℕ) → ((r : ℕ) → r < n → host_of one r ≡ host_of other r) → rank_below n one core ≡ rank_below n other core
rank_same zero one other core same = refl
rank_same (suc n) one other core same =
    ap (λ (host : ℕ). cond (host == core) (Some n) (rank_below n one core)) (same n (omega arith))
    ∙ ap (λ (o : Option ℕ). cond (host_of other n == core) (Some n) o) (rank_same n one other core (λ r below. same r (omega (arith, below))))

flag_same : (l : Layout) (s : SetupView) (hosts : List ℕ) (owner line word : ℕ) → flag_role l (on_hosts s hosts) owner line word ≡ flag_role l s owner line word
flag_same LineFlags s hosts owner line word = refl
flag_same BitFlags s hosts owner line word = refl

role_same_at : (s : SetupView) (hosts : List ℕ) (owner line word : ℕ) → role_at (on_hosts s hosts) owner line word ≡ role_at s owner line word
role_same_at s hosts owner line word =
    ap (λ (role : Role). cond (line == 0) (HeaderWord owner word) (cond (nat_lt line (first_gather s.layout)) role (cond (nat_lt line (first_chunk s.layout)) (barrier_role s owner line word)
    (cond (nat_lt line first_heap) (ChunkWord owner (4 * (line - first_chunk s.layout) + word)) HeapWord)))) (flag_same s.layout s hosts owner line word)

where_same : (s : SetupView) (hosts : List ℕ) (o : Option ℕ) (line word : ℕ) → role_where (on_hosts s hosts) o line word ≡ role_where s o line word
where_same s hosts None line word = refl
where_same s hosts (Some owner) line word = role_same_at s hosts owner line word

pub role_same : (s : SetupView) (hosts : List ℕ) (p : WordAt) → AreSame s hosts → role_of (on_hosts s hosts) p ≡ role_of s p
role_same s hosts p same =
    ap (λ (o : Option ℕ). role_where (on_hosts s hosts) o p.line p.word) (rank_same s.nue hosts s.hosts p.core same) ∙ where_same s hosts (rank_on s p.core) p.line p.word

-- ---- what an event is to a record

load_same : (s : SetupView) (hosts : List ℕ) (me : ℕ) (rec : Record) (p : WordAt) (v : ℕ) (role : Role) → load_act (on_hosts s hosts) me rec p v role ≡ load_act s me rec p v role
load_same s hosts me rec p v (HeaderWord owner k) = refl
load_same s hosts me rec p v (ChunkWord owner k) = refl
load_same s hosts me rec p v (SignalFlag signal by at) = refl
load_same s hosts me rec p v (SignalFlags signal at) = refl
load_same s hosts me rec p v (GatherFlag comm owner) = refl
load_same s hosts me rec p v (ReleaseFlag comm owner) = refl
load_same s hosts me rec p v HeapWord = refl
load_same s hosts me rec p v IdleWord = refl

change_same : (lower raise : ℕ → Move) (s : SetupView) (hosts : List ℕ) (me owner new : ℕ) (o : Option ℕ) → change_at lower raise (on_hosts s hosts) me owner new o ≡ change_at lower raise s me owner new o
change_same lower raise s hosts me owner new None = refl
change_same lower raise s hosts me owner new (Some old) = refl

store_same : (s : SetupView) (hosts : List ℕ) (me : ℕ) (rec : Record) (p : WordAt) (v : ℕ) (role : Role) → store_act (on_hosts s hosts) me rec p v role ≡ store_act s me rec p v role
store_same s hosts me rec p v (HeaderWord owner k) = refl
store_same s hosts me rec p v (ChunkWord owner k) = refl
store_same s hosts me rec p v (SignalFlag signal by at) = refl
store_same s hosts me rec p v (SignalFlags signal at) = ap (ChangingSignal signal p.core) (change_same (LowerSignal signal) (RaiseSignal signal) s hosts me at v (flags_noted signal rec p.core))
store_same s hosts me rec p v (GatherFlag comm owner) = refl
store_same s hosts me rec p v (ReleaseFlag comm owner) = refl
store_same s hosts me rec p v HeapWord = refl
store_same s hosts me rec p v IdleWord = refl

act_same : (s : SetupView) (hosts : List ℕ) (me : ℕ) (rec : Record) (a : Access) (p : WordAt) (v : ℕ) → AreSame s hosts → act_by (on_hosts s hosts) me rec a p v ≡ act_by s me rec a p v
act_same s hosts me rec Load p v same = ap (load_act (on_hosts s hosts) me rec p v) (role_same s hosts p same) ∙ load_same s hosts me rec p v (role_of s p)
act_same s hosts me rec Store p v same = ap (store_act (on_hosts s hosts) me rec p v) (role_same s hosts p same) ∙ store_same s hosts me rec p v (role_of s p)
act_same s hosts me rec Take p v same = refl
act_same s hosts me rec Free p v same = refl

permits_same : (s : SetupView) (hosts : List ℕ) (me : ℕ) (rec : Record) (a : Access) (p : WordAt) (v : ℕ) → AreSame s hosts → permits_by (on_hosts s hosts) me rec a p v ≡ permits_by s me rec a p v
permits_same s hosts me rec Load p v same = refl
permits_same s hosts me rec Store p v same = ap (λ (act : EventAct). permits_act (chunk_of s) act rec) (act_same s hosts me rec Store p v same)
permits_same s hosts me rec Take p v same = refl
permits_same s hosts me rec Free p v same = refl

after_same : (s : SetupView) (hosts : List ℕ) (me : ℕ) (rec : Record) (e : Event) → AreSame s hosts → record_after (on_hosts s hosts) me rec e ≡ record_after s me rec e
unfolding act_of
after_same s hosts me rec e same =
    let act = act_same s hosts me rec e.access e.place e.value same in
    let may = permits_same s hosts me rec e.access e.place e.value same in
    λ i. cond (may i) (after_act (chunk_of s) (act i) rec) rec

-- ---- runs

pub permitted_same : (s : SetupView) (hosts : List ℕ) (records : ℕ → Record) (run : List RankEvent) → AreSame s hosts → IsPermittedRun s records run → IsPermittedRun (on_hosts s hosts) records run
permitted_same s hosts records [] same legal = tt
permitted_same s hosts records (e ∷ run) same (below, made, may, rest) =
    let now = permits_same s hosts e.rank (records e.rank) e.event.access e.event.place e.event.value same in
    let next = after_same s hosts e.rank (records e.rank) e.event same in (
      below,
      made,
      now ∙ may,
      subst (λ (rec : Record). IsPermittedRun (on_hosts s hosts) (table_with records e.rank rec) run) (sym next)
          (permitted_same s hosts (table_with records e.rank (record_after s e.rank (records e.rank) e.event)) run same rest),
    )

pub records_same : (s : SetupView) (hosts : List ℕ) (records : ℕ → Record) (run : List RankEvent) → AreSame s hosts → records_from (on_hosts s hosts) records run ≡ records_from s records run
records_same s hosts records [] same = refl
records_same s hosts records (e ∷ run) same =
    let next = after_same s hosts e.rank (records e.rank) e.event same in
    ap (λ (rec : Record). records_from (on_hosts s hosts) (table_with records e.rank rec) run) next
    ∙ records_same s hosts (table_with records e.rank (record_after s e.rank (records e.rank) e.event)) run same
