-- The registers agree with what the ranks hold, after each permitted event that is a step.
use Rattle.std.proofs.Common.{◌≡◌, ◌≢◌, ℕ, ◌<◌, ◌≤◌, Bool, true, false, ◌==◌, if◌then◌else◌, ◌⊎◌, ⊎_elim, Option, Some, None, is_some, is_none, option_map, option_and_then, refl, sym, ◌∙◌, ap, subst, arith, inl, inr}
use Rattle.std.specs.Prelude.{IsTrue}
use Rattle.scc_base.specs.Places.{WordAt}
use Rattle.scc_base.specs.Layouts.{signal_word}
use Rattle.scc_base.specs.Setups.{SetupView, IsSetup}
use Rattle.scc_base.specs.Events.{IsAccess, IsEvent}
use Rattle.scc_base.specs.declared.layouts.Layout.{Layout}
use Rattle.scc_base.specs.declared.layouts.Layout.TheVariants.{LineFlags, BitFlags}
use Rattle.scc_base.specs.declared.events.Access.{Access}
use Rattle.scc_base.specs.declared.events.Access.TheVariants.{Load, Store, Take, Free}
use Rattle.scc_base.specs.declared.events.Event.{Event}
use Rattle.scc_base.specs.declared.signals.Signal.{Signal}
use Rattle.scc_base.specs.declared.signals.Signal.TheVariants.{Sent, Ready}
use Rattle.scc_proto.specs.Tables.{table_with}
use Rattle.scc_proto.specs.Stages.{FlagWords, Record}
use Rattle.scc_proto.specs.Moves.{Move, LowerSignal, RaiseSignal, NoMove}
use Rattle.scc_proto.specs.Permission.{permits}
use Rattle.scc_proto.specs.Words.{Memory, word_at, IsStep, IsStepBy, memory_by, memory_after, Role, HeaderWord, ChunkWord, SignalFlag, SignalFlags, GatherFlag, ReleaseFlag, HeapWord, IdleWord, role_of}
use Rattle.scc_proto.specs.Records.{Moving, Holding, NotingSignal, act_of, load_act, store_act, change_at, flags_in, set_flags, note_flags, forget_flags, chunk_of, after_act, permits_act, permits_by, IsPermitted, record_after}
use Rattle.scc_proto.specs.Registers.{Holder, Nobody, HeldBy, IsNotedWord, NotedFlags, RegisterAgrees}
use Rattle.scc_proto.specs.Agreement.{RegistersAgree}
use Rattle.scc_proto.proofs.Tests.{same_or_other, put_here, put_there, true_not_false}
use Rattle.scc_proto.proofs.Layouts.Roles.{if_yes, eq_is, first_gather-above, first_release-is, first_chunk-is, IsOwn, Stands, role_stands}
use Rattle.scc_proto.proofs.Layouts.ViewStores.{stored_there}

-- ---- a register stays held by whoever holds it

-- held before and after, or neither
record Keeps (old new : Option FlagWords) : Type 0 where
  pub none : old ≡ None → new ≡ None
  pub some : is_some old ≡ true → is_some new ≡ true

keeps_same : (old new : Option FlagWords) → new ≡ old → Keeps old new
keeps_same old new e = record { none = λ is. e ∙ is; some = λ is. ap is_some e ∙ is }

keeps_map : (change : FlagWords → FlagWords) (o : Option FlagWords) → Keeps o (option_map change o)
keeps_map change None = record { none = λ is. refl; some = λ is. is }
keeps_map change (Some flags) = record { none = λ is. absurd (cc); some = λ is. refl }

-- at one core alone the flags are changed
changed_here : (change : FlagWords → FlagWords) (held : ℕ → Option FlagWords) (c core : ℕ) → Keeps (held core) (table_with held c (option_map change (held c)) core)
changed_here change held c core = same_or_other (Keeps (held core) (table_with held c (option_map change (held c)) core)) core c
    (λ t e. subst (λ (x : ℕ). Keeps (held x) (table_with held c (option_map change (held c)) x)) (sym e) (subst (λ (o : Option FlagWords). Keeps (held c) o) (sym (put_here held c (option_map change (held c)))) (keeps_map change (held c))))
    (λ t ne. keeps_same (held core) _ (put_there held c (option_map change (held c)) core ne))

holder_kept : (nue register late core : ℕ) (records new : ℕ → Record) → late ≡ register → ((k : ℕ) → Keeps ((records k).held core) ((new k).held core)) → Holder nue register core records → Holder nue late core new
holder_kept nue register late core records new e keeps (Nobody is nobody) = Nobody (e ∙ is) (λ k lt. (keeps k).none (nobody k lt))
holder_kept nue register late core records new e keeps (HeldBy holder lt is held others) = HeldBy holder lt (e ∙ is) ((keeps holder).some held) (λ k low ne. (keeps k).none (others k low ne))

none_some : {P : Type 0} (o : Option FlagWords) → o ≡ None → is_some o ≡ true → P
none_some o is t = true_not_false (sym t ∙ ap is_some is)

-- nobody else holds a register that one holds
alone : (nue register core : ℕ) (records : ℕ → Record) (me k : ℕ) → Holder nue register core records → me < nue → is_some ((records me).held core) ≡ true → k < nue → k ≢ me → (records k).held core ≡ None
alone nue register core records me k (Nobody is nobody) below t lt ne = none_some ((records me).held core) (nobody me below) t
alone nue register core records me k (HeldBy holder low is held others) below t lt ne = same_or_other ((records k).held core ≡ None) me holder
    (λ u e. others k lt (λ x. ne (x ∙ sym e)))
    (λ u other. none_some ((records me).held core) (others me below other) t)

-- ---- noted words stay

word_same : (n : Option ℕ) {x y : ℕ} → y ≡ x → IsNotedWord n x → IsNotedWord n y
word_same None e is = tt
word_same (Some v) e is = e ∙ is

noted_same : (layout : Layout) (o : Option FlagWords) (words late : ℕ → ℕ) → ((signal : Signal) → late (signal_word signal) ≡ words (signal_word signal)) → NotedFlags layout o words → NotedFlags layout o late
noted_same layout None words late same noted = tt
noted_same LineFlags (Some flags) words late same noted = noted
noted_same BitFlags (Some flags) words late same noted = λ signal. word_same (flags_in signal flags) (same signal) (noted signal)

noted_lines : (layout : Layout) → layout ≡ LineFlags → (o : Option FlagWords) (words late : ℕ → ℕ) → NotedFlags layout o words → NotedFlags layout o late
noted_lines layout e None words late noted = tt
noted_lines LineFlags e (Some flags) words late noted = noted
noted_lines BitFlags e (Some flags) words late noted = absurd (cc)

-- ---- an event that takes and frees no register

record IsQuiet (s : SetupView) (memory late : Memory) (held new : ℕ → Option FlagWords) : Type 0 where
  pub register : (core : ℕ) → late.register core ≡ memory.register core
  pub keeps : (core : ℕ) → Keeps (held core) (new core)
  pub mine : (core : ℕ) → NotedFlags s.layout (new core) (late.word core 1)
  pub others : (core : ℕ) (o : Option FlagWords) → (is_some (held core) ≡ true → o ≡ None) → NotedFlags s.layout o (memory.word core 1) → NotedFlags s.layout o (late.word core 1)

module _ (s : SetupView) (memory late : Memory) (records : ℕ → Record) (me : ℕ) (below : me < s.nue) (new : Record) where
  quiet_keeps : IsQuiet s memory late (records me).held new.held → (core k : ℕ) → Keeps ((records k).held core) ((table_with records me new k).held core)
  quiet_keeps quiet core k = same_or_other (Keeps ((records k).held core) ((table_with records me new k).held core)) k me
      (λ t e. subst (λ (x : ℕ). Keeps ((records x).held core) ((table_with records me new x).held core)) (sym e)
      (subst (λ (r : Record). Keeps ((records me).held core) (r.held core)) (sym (put_here records me new)) (quiet.keeps core)))
      (λ t ne. keeps_same _ _ (ap (λ (r : Record). r.held core) (put_there records me new k ne)))

  quiet_noted : IsQuiet s memory late (records me).held new.held → (core : ℕ) → RegisterAgrees s memory core records → (k : ℕ) → k < s.nue → NotedFlags s.layout ((table_with records me new k).held core) (late.word core 1)
  quiet_noted quiet core agrees k lt = same_or_other (NotedFlags s.layout ((table_with records me new k).held core) (late.word core 1)) k me
      (λ t e. subst (λ (x : ℕ). NotedFlags s.layout ((table_with records me new x).held core) (late.word core 1)) (sym e)
      (subst (λ (r : Record). NotedFlags s.layout (r.held core) (late.word core 1)) (sym (put_here records me new)) (quiet.mine core)))
      (λ t ne. subst (λ (r : Record). NotedFlags s.layout (r.held core) (late.word core 1)) (sym (put_there records me new k ne))
      (quiet.others core ((records k).held core) (λ held. alone s.nue (memory.register core) core records me k agrees.holder below held lt ne) (agrees.noted k lt)))

  quiet_kept : IsQuiet s memory late (records me).held new.held → RegistersAgree s memory records → RegistersAgree s late (table_with records me new)
  quiet_kept quiet agrees core = record {
    holder = holder_kept s.nue (memory.register core) (late.register core) core records (table_with records me new) (quiet.register core) (quiet_keeps quiet core) (agrees core).holder;
    noted = quiet_noted quiet core (agrees core);
  }

same_quiet : (s : SetupView) (memory : Memory) (held : ℕ → Option FlagWords) → ((core : ℕ) → NotedFlags s.layout (held core) (memory.word core 1)) → IsQuiet s memory memory held held
same_quiet s memory held noted = record { register = λ core. refl; keeps = λ core. keeps_same (held core) (held core) refl; mine = noted; others = λ core o none is. is }

-- ---- a load notes a word of flags under a register

-- what is noted of a signal's word, where that of a signal was set
set_noted : (signal other : Signal) (word : Option ℕ) (flags : FlagWords) (n : ℕ) → (signal ≡ other → IsNotedWord word n) → (signal ≢ other → IsNotedWord (flags_in other flags) n)
    → IsNotedWord (flags_in other (set_flags signal word flags)) n
set_noted Sent Sent word flags n here there = here refl
set_noted Sent Ready word flags n here there = there (λ e. absurd (cc (e)))
set_noted Ready Sent word flags n here there = there (λ e. absurd (cc (e)))
set_noted Ready Ready word flags n here there = here refl

noting : (layout : Layout) → layout ≡ BitFlags → (signal : Signal) (o : Option FlagWords) (words : ℕ → ℕ) (value : ℕ) → words (signal_word signal) ≡ value → NotedFlags layout o words → NotedFlags layout (option_map (note_flags signal value) o) words
noting layout e signal None words value is noted = tt
noting LineFlags e signal (Some flags) words value is noted = absurd (cc)
noting BitFlags e signal (Some flags) words value is noted = λ other.
    set_noted signal other (Some value) flags (words (signal_word other)) (λ same. subst (λ (x : Signal). words (signal_word x) ≡ value) same is) (λ apart. noted other)

-- the flags under one register are changed, and those under the others are as they were
at_core : (P : ℕ → Option FlagWords → Type 0) (held : ℕ → Option FlagWords) (c : ℕ) (x : Option FlagWords) (core : ℕ) → P c x → (core ≢ c → P core (held core)) → P core (table_with held c x core)
at_core P held c x core here there = same_or_other (P core (table_with held c x core)) core c
    (λ t e. subst (λ (k : ℕ). P k (table_with held c x k)) (sym e) (subst (P c) (sym (put_here held c x)) here))
    (λ t ne. subst (P core) (sym (put_there held c x core ne)) (there ne))

module _ (s : SetupView) (memory : Memory) (rec : Record) (me : ℕ) (place : WordAt) (value : ℕ) (tells : word_at memory place ≡ value) (noted : (core : ℕ) → NotedFlags s.layout (rec.held core) (memory.word core 1)) where
  word_read : (owner word : ℕ) → IsOwn s place owner 1 word → memory.word place.core 1 word ≡ value
  word_read owner word own = (λ i. memory.word place.core (sym own.at_line i) (sym own.at_word i)) ∙ tells

  notes_quiet : (change : FlagWords → FlagWords) → NotedFlags s.layout (option_map change (rec.held place.core)) (memory.word place.core 1)
      → IsQuiet s memory memory rec.held (table_with rec.held place.core (option_map change (rec.held place.core)))
  notes_quiet change is = record {
    register = λ core. refl;
    keeps = changed_here change rec.held place.core;
    mine = λ core. at_core (λ (k : ℕ) (o : Option FlagWords). NotedFlags s.layout o (memory.word k 1)) rec.held place.core (option_map change (rec.held place.core)) core is (λ ne. noted core);
    others = λ core o none is. is;
  }

  load_flags : (signal : Signal) (b : Bool) (move : Move) (at : ℕ) → Stands s place (SignalFlags signal at) → IsQuiet s memory memory rec.held (after_act (chunk_of s) (if b then NotingSignal signal place.core value else Moving move) rec).held
  load_flags signal true move at st = notes_quiet (note_flags signal value) (noting s.layout st.1 signal (rec.held place.core) (memory.word place.core 1) value (word_read at (signal_word signal) st.0) (noted place.core))
  load_flags signal false move at st = same_quiet s memory rec.held noted

  load_quiet : (role : Role) → Stands s place role → IsQuiet s memory memory rec.held (after_act (chunk_of s) (load_act s me rec place value role) rec).held
  load_quiet (SignalFlags signal at) st = load_flags signal (is_some (rec.held place.core)) _ at st
  load_quiet role st = same_quiet s memory rec.held noted

-- ---- a store of a word of flags forgets what was noted of it

-- a word of flags is one signal's alone
word_tells : (one other : Signal) → signal_word one ≡ signal_word other → one ≡ other
word_tells Sent Sent e = refl
word_tells Sent Ready e = absurd (omega (arith, e))
word_tells Ready Sent e = absurd (omega (arith, e))
word_tells Ready Ready e = refl

forgetting : (layout : Layout) → layout ≡ BitFlags → (signal : Signal) (o : Option FlagWords) (words late : ℕ → ℕ) → ((other : Signal) → signal ≢ other → late (signal_word other) ≡ words (signal_word other))
    → NotedFlags layout o words → NotedFlags layout (option_map (forget_flags signal) o) late
forgetting layout e signal None words late same noted = tt
forgetting LineFlags e signal (Some flags) words late same noted = absurd (cc)
forgetting BitFlags e signal (Some flags) words late same noted = λ other.
    set_noted signal other None flags (late (signal_word other)) (λ here. tt) (λ apart. word_same (flags_in other flags) (same other apart) (noted other))

module _ (s : SetupView) (memory : Memory) (rec : Record) (me : ℕ) (place : WordAt) (value : ℕ) (noted : (core : ℕ) → NotedFlags s.layout (rec.held core) (memory.word core 1)) where
  abbrev stored : Memory
  stored = memory_by Store place value memory

  -- a word of line 1 that is not stored
  left : (core word : ℕ) → (place.core ≡ core → place.line ≡ 1 → place.word ≡ word → ⊥) → stored.word core 1 word ≡ memory.word core 1 word
  left core word apart = stored_there place value memory (record { core = core; line = 1; word = word })
      (λ e. apart (ap (λ (p : WordAt). p.core) e) (ap (λ (p : WordAt). p.line) e) (ap (λ (p : WordAt). p.word) e))

  plain_noted : (s.layout ≡ LineFlags) ⊎ (place.line ≢ 1) → (core : ℕ) (o : Option FlagWords) → NotedFlags s.layout o (memory.word core 1) → NotedFlags s.layout o (stored.word core 1)
  plain_noted apart core o is = ⊎_elim
      (λ (lines : s.layout ≡ LineFlags). noted_lines s.layout lines o (memory.word core 1) (stored.word core 1) is)
      (λ (ne : place.line ≢ 1). noted_same s.layout o (memory.word core 1) (stored.word core 1) (λ signal. left core (signal_word signal) (λ a b c. ne b)) is)
      apart

  plain_quiet : (s.layout ≡ LineFlags) ⊎ (place.line ≢ 1) → IsQuiet s memory stored rec.held rec.held
  plain_quiet apart = record { register = λ core. refl; keeps = λ core. keeps_same (rec.held core) (rec.held core) refl; mine = λ core. plain_noted apart core (rec.held core) (noted core); others = λ core o none is. plain_noted apart core o is }

  flag_quiet : (change : FlagWords → FlagWords) → is_some (rec.held place.core) ≡ true → NotedFlags s.layout (option_map change (rec.held place.core)) (stored.word place.core 1)
      → IsQuiet s memory stored rec.held (table_with rec.held place.core (option_map change (rec.held place.core)))
  flag_quiet change held is = record {
    register = λ core. refl;
    keeps = changed_here change rec.held place.core;
    mine = λ core. at_core (λ (k : ℕ) (o : Option FlagWords). NotedFlags s.layout o (stored.word k 1)) rec.held place.core (option_map change (rec.held place.core)) core is
        (λ ne. noted_same s.layout (rec.held core) (memory.word core 1) (stored.word core 1) (λ signal. left core (signal_word signal) (λ a b c. ne (sym a))) (noted core));
    others = λ core o none was. same_or_other (NotedFlags s.layout o (stored.word core 1)) core place.core
        (λ t e. subst (λ (x : Option FlagWords). NotedFlags s.layout x (stored.word core 1)) (sym (none (ap (λ (k : ℕ). is_some (rec.held k)) e ∙ held))) tt)
        (λ t ne. noted_same s.layout o (memory.word core 1) (stored.word core 1) (λ signal. left core (signal_word signal) (λ a b c. ne (sym a))) was);
  }

  -- a change of a word of flags is a move only where the word was noted under its register
  flags_held : (signal : Signal) (at : ℕ) (o : Option FlagWords) → permits (chunk_of s) (change_at (LowerSignal signal) (RaiseSignal signal) s me at value (option_and_then (λ (flags : FlagWords). flags_in signal flags) o)) rec ≡ true
      → is_some o ≡ true
  flags_held signal at None may = absurd (cc)
  flags_held signal at (Some flags) may = refl

  apart_line : (line : ℕ) → place.line ≡ line → 2 ≤ line → place.line ≢ 1
  apart_line line e high = λ is. absurd (omega (arith, e, high, is))

  store_quiet : (role : Role) → Stands s place role → permits_act (chunk_of s) (store_act s me rec place value role) rec ≡ true → IsQuiet s memory stored rec.held (after_act (chunk_of s) (store_act s me rec place value role) rec).held
  store_quiet (HeaderWord owner k) st may = let line = st.at_line in plain_quiet (inr (λ e. absurd (omega (arith, line, e))))
  store_quiet (ChunkWord owner k) st may = let a = first_chunk-is s.layout in let b = first_gather-above s.layout in plain_quiet (inr (apart_line _ st.0.at_line (omega (arith, a, b))))
  store_quiet (SignalFlag signal by at) st may = plain_quiet (inl st.2)
  store_quiet (SignalFlags signal at) st may =
      flag_quiet (forget_flags signal) (flags_held signal at (rec.held place.core) may)
      (forgetting s.layout st.1 signal (rec.held place.core) (memory.word place.core 1) (stored.word place.core 1)
      (λ other apart. left place.core (signal_word other) (λ a b c. apart (word_tells signal other (sym st.0.at_word ∙ c)))) (noted place.core))
  store_quiet (GatherFlag comm owner) st may = let b = first_gather-above s.layout in plain_quiet (inr (apart_line _ st.0.at_line (omega (arith, b))))
  store_quiet (ReleaseFlag comm owner) st may = let a = first_release-is s.layout in let b = first_gather-above s.layout in plain_quiet (inr (apart_line _ st.0.at_line (omega (arith, a, b))))
  store_quiet HeapWord st may = plain_quiet (inr (λ e. absurd (omega (arith, st, e))))
  store_quiet IdleWord st may = absurd (cc)

-- ---- registers are taken and freed

-- the records with other flags under one rank's registers
module _ (s : SetupView) (memory : Memory) (records : ℕ → Record) (me : ℕ) (below : me < s.nue) (c : ℕ) (x : Option FlagWords) where
  abbrev holds : ℕ → Record
  holds = table_with records me (record (records me) { held = table_with (records me).held c x })

  mine_there : (core : ℕ) → core ≢ c → (k : ℕ) → (holds k).held core ≡ (records k).held core
  mine_there core ne k = same_or_other ((holds k).held core ≡ (records k).held core) k me
      (λ t e. ap (λ (i : ℕ). (holds i).held core) e ∙ ap (λ (r : Record). r.held core) (put_here records me (record (records me) { held = table_with (records me).held c x }))
      ∙ put_there (records me).held c x core ne ∙ ap (λ (i : ℕ). (records i).held core) (sym e))
      (λ t other. ap (λ (r : Record). r.held core) (put_there records me (record (records me) { held = table_with (records me).held c x }) k other))

  mine_here : (holds me).held c ≡ x
  mine_here = ap (λ (r : Record). r.held c) (put_here records me (record (records me) { held = table_with (records me).held c x })) ∙ put_here (records me).held c x

  others_here : (k : ℕ) → k ≢ me → (holds k).held c ≡ (records k).held c
  others_here k ne = ap (λ (r : Record). r.held c) (put_there records me (record (records me) { held = table_with (records me).held c x }) k ne)

  -- the other registers are as they were
  agrees_there : (register : ℕ) (core : ℕ) → core ≢ c → RegisterAgrees s memory core records → RegisterAgrees s (record memory { register = table_with memory.register c register }) core holds
  agrees_there register core ne agrees = record {
    holder = holder_kept s.nue (memory.register core) (table_with memory.register c register core) core records holds (put_there memory.register c register core ne) (λ k. keeps_same _ _ (mine_there core ne k)) agrees.holder;
    noted = λ k lt. subst (λ (o : Option FlagWords). NotedFlags s.layout o (memory.word core 1)) (sym (mine_there core ne k)) (agrees.noted k lt);
  }

  noted_here : NotedFlags s.layout x (memory.word c 1) → ((k : ℕ) → k < s.nue → NotedFlags s.layout ((records k).held c) (memory.word c 1)) → (k : ℕ) → k < s.nue → NotedFlags s.layout ((holds k).held c) (memory.word c 1)
  noted_here is noted k lt = same_or_other (NotedFlags s.layout ((holds k).held c) (memory.word c 1)) k me
      (λ t e. subst (λ (o : Option FlagWords). NotedFlags s.layout o (memory.word c 1)) (sym (ap (λ (i : ℕ). (holds i).held c) e ∙ mine_here)) is)
      (λ t ne. subst (λ (o : Option FlagWords). NotedFlags s.layout o (memory.word c 1)) (sym (others_here k ne)) (noted k lt))

  agrees_at : (register : ℕ) → RegisterAgrees s (record memory { register = table_with memory.register c register }) c holds → RegistersAgree s memory records → RegistersAgree s (record memory { register = table_with memory.register c register }) holds
  agrees_at register here agrees core = same_or_other (RegisterAgrees s (record memory { register = table_with memory.register c register }) core holds) core c
      (λ t e. subst (λ (i : ℕ). RegisterAgrees s (record memory { register = table_with memory.register c register }) i holds) (sym e) here)
      (λ t ne. agrees_there register core ne (agrees core))

none_in : (signal : Signal) → flags_in signal (record { sent = None; ready = None }) ≡ None
none_in Sent = refl
none_in Ready = refl

blank_noted : (layout : Layout) (words : ℕ → ℕ) → NotedFlags layout (Some (record { sent = None; ready = None })) words
blank_noted LineFlags words = λ signal. none_in signal
blank_noted BitFlags words = λ signal. subst (λ (o : Option ℕ). IsNotedWord o (words (signal_word signal))) (sym (none_in signal)) tt

-- a free register is held by nobody
nobody_holds : (nue register core : ℕ) (records : ℕ → Record) → register ≡ 0 → Holder nue register core records → (k : ℕ) → k < nue → (records k).held core ≡ None
nobody_holds nue register core records free (Nobody is nobody) k lt = nobody k lt
nobody_holds nue register core records free (HeldBy holder low is held others) k lt = absurd (omega (arith, free, is))

taken_kept : (s : SetupView) (memory : Memory) (records : ℕ → Record) (me : ℕ) → me < s.nue → (c : ℕ) → memory.register c ≡ 0 → RegistersAgree s memory records
    → RegistersAgree s (record memory { register = table_with memory.register c 1 }) (table_with records me (record (records me) { held = table_with (records me).held c (Some (record { sent = None; ready = None })) }))
taken_kept s memory records me below c free agrees =
    let x : Option FlagWords = Some (record { sent = None; ready = None }) in
    agrees_at s memory records me below c x 1 (record {
      holder = HeldBy me below (put_here memory.register c 1) (ap is_some (mine_here s memory records me below c x))
          (λ k lt ne. others_here s memory records me below c x k ne ∙ nobody_holds s.nue (memory.register c) c records free (agrees c).holder k lt);
      noted = noted_here s memory records me below c x (blank_noted s.layout (memory.word c 1)) (agrees c).noted;
    }) agrees

freed_kept : (s : SetupView) (memory : Memory) (records : ℕ → Record) (me : ℕ) → me < s.nue → (c : ℕ) → is_some ((records me).held c) ≡ true → RegistersAgree s memory records
    → RegistersAgree s (record memory { register = table_with memory.register c 0 }) (table_with records me (record (records me) { held = table_with (records me).held c None }))
freed_kept s memory records me below c held agrees =
    agrees_at s memory records me below c None 0 (record {
      holder = Nobody (put_here memory.register c 0) (λ k lt. same_or_other ((holds s memory records me below c None k).held c ≡ None) k me
          (λ t e. ap (λ (i : ℕ). (holds s memory records me below c None i).held c) e ∙ mine_here s memory records me below c None)
          (λ t ne. others_here s memory records me below c None k ne ∙ alone s.nue (memory.register c) c records me k (agrees c).holder below held lt ne));
      noted = noted_here s memory records me below c None tt (agrees c).noted;
    }) agrees

-- ---- one event

module _ (s : SetupView) (memory : Memory) (records : ℕ → Record) (me : ℕ) (below : me < s.nue) (place : WordAt) (value : ℕ) (agrees : RegistersAgree s memory records) where
  abbrev Kept : Access → Type 0
  Kept access = RegistersAgree s (memory_by access place value memory) (table_with records me (record_after s me (records me) (record { access = access; place = place; value = value })))

  load_kept : place.word < 4 → word_at memory place ≡ value → Kept Load
  unfolding act_of
  load_kept word tells = quiet_kept s memory memory records me below (after_act (chunk_of s) (load_act s me (records me) place value (role_of s place)) (records me))
      (load_quiet s memory (records me) me place value tells (λ core. (agrees core).noted me below) (role_of s place) (role_stands s place word)) agrees

  store_kept : place.word < 4 → permits_act (chunk_of s) (store_act s me (records me) place value (role_of s place)) (records me) ≡ true → Kept Store
  unfolding act_of
  store_kept word may = subst (λ (r : Record). RegistersAgree s (memory_by Store place value memory) (table_with records me r)) (sym (if_yes _ _ (records me) may))
      (quiet_kept s memory (memory_by Store place value memory) records me below (after_act (chunk_of s) (store_act s me (records me) place value (role_of s place)) (records me))
      (store_quiet s memory (records me) me place value (λ core. (agrees core).noted me below) (role_of s place) (role_stands s place word) may) agrees)

  take_by : (b : Bool) → (b ≡ true → memory.register place.core ≡ 0)
      → RegistersAgree s (record memory { register = if b then table_with memory.register place.core 1 else memory.register }) (table_with records me (after_act (chunk_of s) (if b then Holding place.core else Moving NoMove) (records me)))
  take_by true free = taken_kept s memory records me below place.core (free refl) agrees
  take_by false free = quiet_kept s memory memory records me below (records me) (same_quiet s memory (records me).held (λ core. (agrees core).noted me below)) agrees

  take_kept : ((value ≡ 1) × (memory.register place.core ≡ 0)) ⊎ ((value ≡ 0) × (memory.register place.core ≡ 1)) → is_none ((records me).held place.core) ≡ true → Kept Take
  unfolding act_of
  take_kept found may = subst (λ (r : Record). RegistersAgree s (memory_by Take place value memory) (table_with records me r)) (sym (if_yes _ _ (records me) may))
      (take_by (value == 1) (λ t. ⊎_elim (λ (a : (value ≡ 1) × (memory.register place.core ≡ 0)). a.1)
      (λ (a : (value ≡ 0) × (memory.register place.core ≡ 1)). let one = eq_is value 1 t in absurd (omega (arith, a.0, one))) found))

  free_kept : is_some ((records me).held place.core) ≡ true → Kept Free
  unfolding act_of
  free_kept may = subst (λ (r : Record). RegistersAgree s (memory_by Free place value memory) (table_with records me r)) (sym (if_yes _ _ (records me) may)) (freed_kept s memory records me below place.core may agrees)

-- the registers agree with what the ranks hold, after each permitted event that is a step
pub registers_kept : (s : SetupView) (me : ℕ) (memory : Memory) (records : ℕ → Record) (e : Event) → IsSetup s → me < s.nue → IsEvent e → IsStep memory e → IsPermitted s me (records me) e → RegistersAgree s memory records
    → RegistersAgree s (memory_after memory e) (table_with records me (record_after s me (records me) e))
registers_kept s me memory records e valid below is step may agrees = by e.access e.place e.value is step may
  where
    by : (access : Access) (place : WordAt) (value : ℕ) → IsAccess access place value → IsStepBy access place value memory → IsTrue (permits_by s me (records me) access place value)
        → RegistersAgree s (memory_by access place value memory) (table_with records me (record_after s me (records me) (record { access = access; place = place; value = value })))
    by Load place value is step may = load_kept s memory records me below place value agrees is.0.word_below step
    by Store place value is step may = store_kept s memory records me below place value agrees is.0.word_below may
    by Take place value is step may = take_kept s memory records me below place value agrees step may
    by Free place value is step may = free_kept s memory records me below place value agrees may
