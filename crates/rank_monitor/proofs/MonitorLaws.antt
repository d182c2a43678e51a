-- What each event makes of the record, by the use of its word.
use Rattle.std.proofs.Common.{◌≡◌, ℕ, ◌<◌, Bool, true, false, not, ◌&&◌, ◌==◌, if◌then◌else◌, List, length, Option, Some, None, Ok, Err, is_none, is_some, option_map, slice_index_or, slice_set, get_or-set_other, get_or-set_same, refl, sym, ◌∙◌, ap, subst}
use Rattle.scc_base.specs.Places.{WordAt}
use Rattle.scc_base.specs.Setups.{SetupView}
use Rattle.scc_base.specs.declared.events.Access.TheVariants.{Load, Store, Take, Free}
use Rattle.scc_base.specs.declared.events.Event.{Event}
use Rattle.scc_proto.specs.Moves.{Move, after}
use Rattle.scc_proto.specs.Permission.{permits}
use Rattle.scc_proto.specs.Records.{act_by, act_of, after_act, change_held, chunk_of, is_permitted, leads, load_act, load_by, permits_act, record_after, store_act, store_by}
use Rattle.scc_proto.specs.Stages.{FlagWords, Record}
use Rattle.scc_proto.specs.Tables.{table_with}
use Rattle.scc_proto.specs.Words.{Role, role_of}
use Rattle.scc_proto.proofs.Tests.{same_or_other, put_here, put_there, true_not_false}
use Rattle.rank_monitor.specs.Following.{Adds, FollowsRecord, Takes, event_of}
use Rattle.rank_monitor.specs.Standing.{StandsFor}
use Rattle.rank_monitor.specs.declared.monitors.RankMonitor.{RankMonitor}
use Rattle.rank_monitor.specs.declared.monitors.Refused.{Refused}
use Rattle.rank_monitor.specs.declared.works.Work.{Work}
use Rattle.scc_base.specs.declared.calls.Call.{Call}
use Rattle.rank_monitor.specs.Held.{KeepsHeld, flag_words}
use Rattle.rank_monitor.specs.Uses.{forget_by, is_flags_use, note_by, role_meant}
use Rattle.rank_monitor.specs.declared.held.NotedFlags.{NotedFlags}
use Rattle.rank_monitor.specs.declared.uses.Use.{Use}
use Rattle.rank_monitor.specs.declared.uses.Use.TheVariants as word_use

-- ---- the registers that are held

pub held_put : (held : List (Option NotedFlags)) (records : ℕ → Option FlagWords) (core : ℕ) (slot : Option NotedFlags) (now : Option FlagWords) → core < length held → option_map flag_words slot ≡ now
    → KeepsHeld held records → KeepsHeld (slice_set held core slot) (table_with records core now)
held_put held records core slot now within is are k below = same_or_other (option_map flag_words (slice_index_or (slice_set held core slot) k None) ≡ table_with records core now k) k core
    (λ t e. ap (λ (i : ℕ). option_map flag_words (slice_index_or (slice_set held core slot) i None)) e ∙ ap (option_map flag_words) (get_or-set_same held core slot None within) ∙ is
    ∙ sym (ap (table_with records core now) e ∙ put_here records core now))
    (λ t ne. ap (option_map flag_words) (get_or-set_other held core k slot None ne) ∙ are k below ∙ sym (put_there records core now k ne))

pub held_stays : (held : List (Option NotedFlags)) (records : ℕ → Option FlagWords) (core : ℕ) (now : Option FlagWords) → now ≡ records core → KeepsHeld held records → KeepsHeld held (table_with records core now)
held_stays held records core now same are k below = same_or_other (option_map flag_words (slice_index_or held k None) ≡ table_with records core now k) k core
    (λ t e. are k below ∙ sym (ap (table_with records core now) e ∙ put_here records core now ∙ same ∙ ap records (sym e)))
    (λ t ne. are k below ∙ sym (put_there records core now k ne))

put_same : (records : ℕ → Option FlagWords) (core : ℕ) (now : Option FlagWords) → now ≡ records core → (k : ℕ) → table_with records core now k ≡ records k
put_same records core now same k = same_or_other (table_with records core now k ≡ records k) k core
    (λ t e. ap (table_with records core now) e ∙ put_here records core now ∙ same ∙ ap records (sym e)) (λ t ne. put_there records core now k ne)

kept_same : (flags : Option FlagWords) → option_map (λ (f : FlagWords). f) flags ≡ flags
kept_same None = refl
kept_same (Some f) = refl

-- a change that changes nothing
same_held : (rec : Record) (core : ℕ) → change_held (λ (f : FlagWords). f) core rec ≡ rec
same_held rec core = λ i. record rec { held = λ k. put_same rec.held core (option_map (λ (f : FlagWords). f) (rec.held core)) (kept_same (rec.held core)) k i }

if_true : {A : Type 0} (b : Bool) (x y : A) → b ≡ true → (if b then x else y) ≡ x
if_true true x y t = refl
if_true false x y t = absurd (cc)

if_false : {A : Type 0} (b : Bool) (x y : A) → b ≡ false → (if b then x else y) ≡ y
if_false true x y t = absurd (cc)
if_false false x y t = refl

-- ---- loads

loaded : (s : SetupView) (me : ℕ) (rec : Record) (place : WordAt) (value : ℕ) (role : Role) → role ≡ role_of s place
    → record_after s me rec (event_of Load place value) ≡ after_act (chunk_of s) (load_act s me rec place value role) rec
unfolding act_of
loaded s me rec place value role is = ap (λ (r : Role). after_act (chunk_of s) (load_act s me rec place value r) rec) (sym is)

pub load_notes : (s : SetupView) (me : ℕ) (rec : Record) (place : WordAt) (value : ℕ) (of : Use) → role_meant of ≡ role_of s place → (is_flags_use of && is_some (rec.held place.core)) ≡ true
    → record_after s me rec (event_of Load place value) ≡ change_held (note_by of value) place.core rec
load_notes s me rec place value of is noted = loaded s me rec place value (role_meant of) is ∙ by of noted
  where
    by : (u : Use) → (is_flags_use u && is_some (rec.held place.core)) ≡ true → after_act (chunk_of s) (load_act s me rec place value (role_meant u)) rec ≡ change_held (note_by u value) place.core rec
    by (word_use.SignalFlags signal at) so = ap (λ a. after_act (chunk_of s) a rec) (if_true (is_some (rec.held place.core)) _ _ so)
    by (word_use.Header owner word) so = absurd (cc)
    by (word_use.Chunk owner word) so = absurd (cc)
    by (word_use.SignalFlag signal from at) so = absurd (cc)
    by (word_use.Gather comm owner) so = absurd (cc)
    by (word_use.Release comm owner) so = absurd (cc)
    by word_use.Heap so = absurd (cc)
    by word_use.Idle so = absurd (cc)

pub load_moves : (s : SetupView) (me : ℕ) (rec : Record) (place : WordAt) (value : ℕ) (of : Use) → role_meant of ≡ role_of s place → (is_flags_use of && is_some (rec.held place.core)) ≡ false
    → record_after s me rec (event_of Load place value) ≡ after (chunk_of s) (load_by s me value (role_meant of)) rec
load_moves s me rec place value of is other = loaded s me rec place value (role_meant of) is ∙ by of other
  where
    by : (u : Use) → (is_flags_use u && is_some (rec.held place.core)) ≡ false → after_act (chunk_of s) (load_act s me rec place value (role_meant u)) rec ≡ after (chunk_of s) (load_by s me value (role_meant u)) rec
    by (word_use.SignalFlags signal at) not_so = ap (λ a. after_act (chunk_of s) a rec) (if_false (is_some (rec.held place.core)) _ _ not_so)
    by (word_use.Header owner word) not_so = refl
    by (word_use.Chunk owner word) not_so = refl
    by (word_use.SignalFlag signal from at) not_so = refl
    by (word_use.Gather comm owner) not_so = refl
    by (word_use.Release comm owner) not_so = refl
    by word_use.Heap not_so = refl
    by word_use.Idle not_so = refl

one_permitted : (size : ℕ) (rec : Record) (b : Bool) (x y : Move) → permits size x rec ≡ true → permits size y rec ≡ true → permits size (if b then x else y) rec ≡ true
one_permitted size rec true x y one two = one
one_permitted size rec false x y one two = two

pub load_permitted : (s : SetupView) (me : ℕ) (rec : Record) (value : ℕ) (of : Use) → permits (chunk_of s) (load_by s me value (role_meant of)) rec ≡ true
load_permitted s me rec value (word_use.Header owner k) = refl
load_permitted s me rec value (word_use.Chunk owner k) = refl
load_permitted s me rec value (word_use.SignalFlag signal by at) = one_permitted (chunk_of s) rec (at == me) _ _ refl refl
load_permitted s me rec value (word_use.SignalFlags signal at) = one_permitted (chunk_of s) rec (at == me) _ _ refl refl
load_permitted s me rec value (word_use.Gather comm owner) = one_permitted (chunk_of s) rec (leads s comm me owner) _ _ refl refl
load_permitted s me rec value (word_use.Release comm owner) = one_permitted (chunk_of s) rec ((owner == me) && not (leads s comm me me)) _ _ refl refl
load_permitted s me rec value word_use.Heap = refl
load_permitted s me rec value word_use.Idle = refl

-- ---- stores

stored : (s : SetupView) (me : ℕ) (rec : Record) (place : WordAt) (value : ℕ) (of : Use) → permits_act (chunk_of s) (store_act s me rec place value (role_meant of)) rec ≡ permits (chunk_of s) (store_by s me rec place value (role_meant of)) rec
stored s me rec place value (word_use.SignalFlags signal at) = refl
stored s me rec place value (word_use.Header owner word) = refl
stored s me rec place value (word_use.Chunk owner word) = refl
stored s me rec place value (word_use.SignalFlag signal by at) = refl
stored s me rec place value (word_use.Gather comm owner) = refl
stored s me rec place value (word_use.Release comm owner) = refl
stored s me rec place value word_use.Heap = refl
stored s me rec place value word_use.Idle = refl

pub store_permitted : (s : SetupView) (me : ℕ) (rec : Record) (place : WordAt) (value : ℕ) (of : Use) → role_meant of ≡ role_of s place
    → is_permitted s me rec (event_of Store place value) ≡ permits (chunk_of s) (store_by s me rec place value (role_meant of)) rec
store_permitted s me rec place value of is = ap (λ (r : Role). permits_act (chunk_of s) (store_act s me rec place value r) rec) (sym is) ∙ stored s me rec place value of

store_acts : (s : SetupView) (me : ℕ) (rec : Record) (place : WordAt) (value : ℕ) (of : Use)
    → after_act (chunk_of s) (store_act s me rec place value (role_meant of)) rec ≡ change_held (forget_by of) place.core (after (chunk_of s) (store_by s me rec place value (role_meant of)) rec)
store_acts s me rec place value (word_use.SignalFlags signal at) = refl
store_acts s me rec place value (word_use.Header owner word) = sym (same_held _ place.core)
store_acts s me rec place value (word_use.Chunk owner word) = sym (same_held _ place.core)
store_acts s me rec place value (word_use.SignalFlag signal by at) = sym (same_held _ place.core)
store_acts s me rec place value (word_use.Gather comm owner) = sym (same_held _ place.core)
store_acts s me rec place value (word_use.Release comm owner) = sym (same_held _ place.core)
store_acts s me rec place value word_use.Heap = sym (same_held _ place.core)
store_acts s me rec place value word_use.Idle = sym (same_held _ place.core)

pub store_moves : (s : SetupView) (me : ℕ) (rec : Record) (place : WordAt) (value : ℕ) (of : Use) → role_meant of ≡ role_of s place → is_permitted s me rec (event_of Store place value) ≡ true
    → record_after s me rec (event_of Store place value) ≡ change_held (forget_by of) place.core (after (chunk_of s) (store_by s me rec place value (role_meant of)) rec)
unfolding act_of
store_moves s me rec place value of is may =
    if_true (is_permitted s me rec (event_of Store place value)) (after_act (chunk_of s) (act_of s me rec (event_of Store place value)) rec) rec may
    ∙ ap (λ (r : Role). after_act (chunk_of s) (store_act s me rec place value r) rec) (sym is) ∙ store_acts s me rec place value of

pub refused_stays : (s : SetupView) (me : ℕ) (rec : Record) (e : Event) → is_permitted s me rec e ≡ false → record_after s me rec e ≡ rec
refused_stays s me rec e not_so = if_false (is_permitted s me rec e) (after_act (chunk_of s) (act_of s me rec e) rec) rec not_so

-- ---- registers

pub take_holds : (s : SetupView) (me : ℕ) (rec : Record) (place : WordAt) (value : ℕ) → is_none (rec.held place.core) ≡ true → (value == 1) ≡ true
    → record_after s me rec (event_of Take place value) ≡ record rec { held = table_with rec.held place.core (Some (record { sent = None; ready = None })) }
unfolding act_of
take_holds s me rec place value may one =
    if_true (is_none (rec.held place.core)) (after_act (chunk_of s) (act_by s me rec Take place value) rec) rec may ∙ ap (λ a. after_act (chunk_of s) a rec) (if_true (value == 1) _ _ one)

pub take_fails : (s : SetupView) (me : ℕ) (rec : Record) (place : WordAt) (value : ℕ) → is_none (rec.held place.core) ≡ true → (value == 1) ≡ false → record_after s me rec (event_of Take place value) ≡ rec
unfolding act_of
take_fails s me rec place value may other =
    if_true (is_none (rec.held place.core)) (after_act (chunk_of s) (act_by s me rec Take place value) rec) rec may ∙ ap (λ a. after_act (chunk_of s) a rec) (if_false (value == 1) _ _ other)

pub free_frees : (s : SetupView) (me : ℕ) (rec : Record) (place : WordAt) (value : ℕ) → is_some (rec.held place.core) ≡ true → record_after s me rec (event_of Free place value) ≡ record rec { held = table_with rec.held place.core None }
unfolding act_of
free_frees s me rec place value may = if_true (is_some (rec.held place.core)) (after_act (chunk_of s) (act_by s me rec Free place value) rec) rec may

-- ---- whole monitors

-- what a record holds of registers says nothing to a monitor's work
pub stands_held : (w : Work) (rec : Record) (held : ℕ → Option FlagWords) → StandsFor w rec → StandsFor w (record rec { held = held })
stands_held w rec held f = record { keeps = f.keeps; post = f.post; said = f.said; flags = f.flags }

-- an event that is taken, and changes the record to this one
pub took : (old new : RankMonitor) (e : Event) (call : Option Call) → new.setup ≡ old.setup → new.rank ≡ old.rank
    → ((rec : Record) → FollowsRecord old rec → (is_permitted old.setup old.rank rec e ≡ true)
    × ((now : Record) × (record_after old.setup old.rank rec e ≡ now) × FollowsRecord new now × Adds call new.work.bytes.items rec.calls now.calls))
    → Takes old e new (Ok call)
took old new e call setup rank goes = record {
  setup = setup;
  rank = rank;
  permitted = λ rec f. (λ _. (goes rec f).0, λ _. refl);
  follows = λ rec f. let x = (goes rec f).1 in subst (λ (r : Record). FollowsRecord new r) (sym x.1) x.2;
  finishes = λ rec f. let x = (goes rec f).1 in subst (λ (r : Record). Adds call new.work.bytes.items rec.calls r.calls) (sym x.1) x.3;
}

-- an event that is refused
pub refused : (old new : RankMonitor) (e : Event) (r : Refused) → new.setup ≡ old.setup → new.rank ≡ old.rank
    → ((rec : Record) → FollowsRecord old rec → (is_permitted old.setup old.rank rec e ≡ false) × FollowsRecord new rec) → Takes old e new (Err r)
refused old new e r setup rank stays = record {
  setup = setup;
  rank = rank;
  permitted = λ rec f. (λ ok. true_not_false (sym ok), λ may. true_not_false (sym may ∙ (stays rec f).0));
  follows = λ rec f. subst (λ (x : Record). FollowsRecord new x) (sym (refused_stays old.setup old.rank rec e (stays rec f).0)) (stays rec f).1;
  finishes = λ rec f. ap (λ (x : Record). x.calls) (refused_stays old.setup old.rank rec e (stays rec f).0);
}

-- the slot of a register states whether the rank holds it
held_told : (slot : Option NotedFlags) → is_some (option_map flag_words slot) ≡ is_some slot
held_told None = refl
held_told (Some flags) = refl

none_told : (o : Option FlagWords) → is_some o ≡ false → is_none o ≡ true
none_told None t = refl
none_told (Some f) t = absurd (cc)

pub not_held : (held : List (Option NotedFlags)) (records : ℕ → Option FlagWords) (at core : ℕ) → at ≡ core → at < 48 → is_some (slice_index_or held at None) ≡ false → KeepsHeld held records → is_none (records core) ≡ true
not_held held records at core same below free are = none_told (records core)
    (ap (λ (k : ℕ). is_some (records k)) (sym same) ∙ ap (λ (o : Option FlagWords). is_some o) (sym (are at below)) ∙ held_told (slice_index_or held at None) ∙ free)

pub is_held : (held : List (Option NotedFlags)) (records : ℕ → Option FlagWords) (at core : ℕ) → at ≡ core → at < 48 → is_some (slice_index_or held at None) ≡ true → KeepsHeld held records → is_some (records core) ≡ true
is_held held records at core same below taken are =
    ap (λ (k : ℕ). is_some (records k)) (sym same) ∙ ap (λ (o : Option FlagWords). is_some o) (sym (are at below)) ∙ held_told (slice_index_or held at None) ∙ taken
