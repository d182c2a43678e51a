-- The events of a flag's change in one turn: the try at the register, the loads, and what stands in the cache.
use Rattle.std.proofs.Common.{◌≡◌, ◌≢◌, ℕ, suc, ◌+◌, ◌*◌, ◌≤◌, Bool, true, false, not, ◌==◌, ◌&&◌, ◌||◌, if◌then◌else◌, List, [], ◌∷◌, ◌++◌, Option, Some, None, refl, sym, ◌∙◌, ap, subst, arith, slice_index, slice_set}
use Rattle.std.specs.List.{list_all}
use Rattle.scc_base.specs.Places.{LineAt, WordAt, FlagPlace, flag_word, line_of_word, same_line}
use Rattle.scc_base.specs.Layouts.{signal_at}
use Rattle.scc_base.specs.declared.signals.Signal.{Signal}
use Rattle.scc_base.specs.Events.{store_of, take_of, free_of}
use Rattle.scc_base.specs.declared.events.Event.{Event}
use Rattle.scc_base.specs.declared.events.Spot.{Spot}
use Rattle.scc_base.specs.declared.events.Spot.TheVariants.{Flag, Register}
use Rattle.scc_base.specs.declared.layouts.Layout.{Layout}
use Rattle.scc_base.specs.declared.layouts.Layout.TheVariants.{LineFlags, BitFlags}
use Rattle.scc_proto.specs.Resting.{is_resting}
use Rattle.scc_proto.specs.Ports.{Sight, Did}
use Rattle.scc_proto.proofs.Tests.{eqb_same, eqb_other}
use Rattle.line_cache.specs.Lines.{cached_words, lines_with_word}
use Rattle.write_combine.specs.declared.combiner.Out.{Out}
use Rattle.put_get.specs.Accesses.{stores_of}
use Rattle.put_get.specs.Cores.{Private, Fills, Kept, Dropped, WritesThrough}
use Rattle.put_get.specs.Transfers.{load_count}
use Rattle.sync_flags.specs.Flags.{with_bit}
use Rattle.sync_flags.specs.Writes.{change_events, TriesChange, RegisterTaken, BitChanged}
use Rattle.send_recv.proofs.Looks.SignalFlags.{ChangesBy}
use Rattle.send_recv.specs.Receiving.{flag_lines}
use Rattle.sync_flags.specs.Tries.{Aim, AtFlag, AtWord, AtRegister, tries_at, failed_from, all_failed, changing_after}
use Rattle.send_recv.specs.Tries.{aim_of}
use Rattle.send_recv.specs.Turns.{LastHeld, NoLoad, Last, IsOneTry, stored_since}
use Rattle.put_get.proofs.FillLemmas.{fills_out, fills_evictions}

-- a line that is alone in the cache, with one word written
abbrev pub Alone : Private → LineAt → List ℕ → Type 0
Alone m line words = m.lines ≡ (record { line = line; words = words }) ∷ []

line_itself : (line : LineAt) → same_line line line ≡ true
line_itself line = λ i. eqb_same line.core i && eqb_same line.line i

written_here : (b : Bool) (line : LineAt) (words : List ℕ) (word v : ℕ) → b ≡ true → cached_words ((if b then (record { line = line; words = slice_set words word v }) else (record { line = line; words = words })) ∷ []) line ≡ Some (slice_set words word v)
written_here true line words word v h = ap (λ b. if b then Some (slice_set words word v) else None) (line_itself line)
written_here false line words word v h = absurd (cc)

held_written : (line : LineAt) (words : List ℕ) (p : WordAt) (v : ℕ) → same_line line (line_of_word p) ≡ true → cached_words (lines_with_word ((record { line = line; words = words }) ∷ []) p v) line ≡ Some (slice_set words p.word v)
held_written line words p v h = written_here (same_line line (line_of_word p)) line words p.word v h

-- what a change that is one turn leaves, besides the record
pub record ChangeFacts (layout : Layout) (s : Sight) (c : Private) (core : ℕ) (done : Bool) (t : Sight) (d : Private) : Type 0 where
  pub events : List Event
  pub did : Did s events t
  pub held : LastHeld events c.evictions d
  pub work : load_count events + 4 * c.evictions ≤ 4 * d.evictions + 4 * (if done then flag_lines layout else 0)
  pub out : d.out ≡ None
  pub tries : layout ≡ BitFlags → tries_at (AtRegister core) events ≡ 1
  pub failed : layout ≡ BitFlags → all_failed (AtRegister core) false events ≡ not done
  pub freed : changing_after false events ≡ false
  pub elsewhere : (at : Spot) → (layout ≡ BitFlags → at ≢ Register core) → tries_at (aim_of layout at) events ≡ 0
  pub ends : done ≡ true → (aim : Aim) (n : ℕ) → failed_from aim false n events ≡ 0
  pub lines : layout ≡ LineFlags → done ≡ true
  pub rests : done ≡ false → list_all is_resting events ≡ true
  pub only : done ≡ false → IsOneTry (AtRegister core) events

-- a line flag's store is no try
store_elsewhere : (p : WordAt) (v : ℕ) (at : Spot) → tries_at (aim_of LineFlags at) (store_of p v ∷ []) ≡ 0
store_elsewhere p v (Flag place bit) = refl
store_elsewhere p v (Register core) = refl

pub store_ends : (p : WordAt) (v : ℕ) (aim : Aim) (changing : Bool) (n : ℕ) → failed_from aim changing n (store_of p v ∷ []) ≡ 0
store_ends p v (AtFlag place bit want) true n = refl
store_ends p v (AtFlag place bit want) false n = refl
store_ends p v (AtWord place value) true n = refl
store_ends p v (AtWord place value) false n = refl
store_ends p v (AtRegister core) changing n = refl

-- a change under a register is a try at this register alone
other_register : (core other : ℕ) → Register other ≢ Register core → (core == other) ≡ false
other_register core other ne = let apart : core ≢ other = λ e. ne (ap (λ n. Register n) (sym e)) in eqb_other core other apart

missed_elsewhere : (core : ℕ) (at : Spot) → at ≢ Register core → tries_at (aim_of BitFlags at) (take_of core false ∷ []) ≡ 0
missed_elsewhere core (Flag place bit) ne = refl
missed_elsewhere core (Register other) ne = λ i. if other_register core other ne i then 1 else 0

changed_elsewhere : (core : ℕ) (flag : FlagPlace) (b : ℕ) (set : Bool) (words : List ℕ) (at : Spot) → at ≢ Register core → tries_at (aim_of BitFlags at) (change_events (flag_word core flag) b set words) ≡ 0
changed_elsewhere core flag b set words (Flag place bit) ne = refl
changed_elsewhere core flag b set words (Register other) ne = λ i. if other_register core other ne i then 1 else 0

changed_ends : (core : ℕ) (flag : FlagPlace) (b : ℕ) (set : Bool) (words : List ℕ) (aim : Aim) (n : ℕ) → failed_from aim false n (change_events (flag_word core flag) b set words) ≡ 0
changed_ends core flag b set words (AtFlag place bit want) n = refl
changed_ends core flag b set words (AtWord place value) n = refl
changed_ends core flag b set words (AtRegister other) n = refl

flag_facts : (s t : Sight) (c d : Private) (core : ℕ) (flag : FlagPlace) (set : Bool) → c.out ≡ None → WritesThrough s c (flag_word core flag) (if set then 1 else 0) t d → ChangeFacts LineFlags s c core true t d
flag_facts s t c d core flag set empty w =
    let same : d.evictions ≡ c.evictions = ap (λ (x : Private). x.evictions) w.is in
    record {
      events = store_of (flag_word core flag) (if set then 1 else 0) ∷ [];
      did = subst (λ (o : Option Out). Did s (stores_of o ++ (store_of (flag_word core flag) (if set then 1 else 0)) ∷ []) t) empty w.did;
      held = NoLoad refl;
      work = omega (arith, same);
      out = ap (λ (x : Private). x.out) w.is;
      tries = λ e. absurd (cc);
      failed = λ e. absurd (cc);
      freed = refl;
      elsewhere = λ at ne. store_elsewhere (flag_word core flag) (if set then 1 else 0) at;
      ends = λ made aim n. store_ends (flag_word core flag) (if set then 1 else 0) aim false n;
      lines = λ e. refl;
      rests = λ e. absurd (cc);
      only = λ e. absurd (cc);
    }

missed_tries : (core : ℕ) → tries_at (AtRegister core) (take_of core false ∷ []) ≡ 1
missed_tries core = λ i. if eqb_same core i then 1 else 0

missed_failed : (core : ℕ) → all_failed (AtRegister core) false (take_of core false ∷ []) ≡ true
missed_failed core = λ i. (not (eqb_same core i) || true) && true

changed_failed : (core : ℕ) (flag : FlagPlace) (b : ℕ) (set : Bool) (words : List ℕ) → all_failed (AtRegister core) false (change_events (flag_word core flag) b set words) ≡ false
changed_failed core flag b set words = λ i. (not (eqb_same core i) || false) && true

changed_tries : (core : ℕ) (flag : FlagPlace) (b : ℕ) (set : Bool) (words : List ℕ) → tries_at (AtRegister core) (change_events (flag_word core flag) b set words) ≡ 1
changed_tries core flag b set words = λ i. if eqb_same core i then 1 else 0

changed_held : (c m d : Private) (core : ℕ) (flag : FlagPlace) (set : Bool) (words : List ℕ) (v : ℕ) → Fills (record c { lines = [] }) (line_of_word (flag_word core flag)) words m
    → d ≡ record m { lines = lines_with_word m.lines (flag_word core flag) v } → d.evictions ≡ c.evictions → cached_words d.lines (line_of_word (flag_word core flag)) ≡ Some (slice_set words flag.word v)
changed_held c m d core flag set words v (Kept given e) is same =
    ap (λ (x : Private). cached_words x.lines (line_of_word (flag_word core flag))) is
    ∙ ap (λ (x : Private). cached_words (lines_with_word x.lines (flag_word core flag) v) (line_of_word (flag_word core flag))) e
    ∙ held_written (line_of_word (flag_word core flag)) words (flag_word core flag) v (line_itself (line_of_word (flag_word core flag)))
changed_held c m d core flag set words v (Dropped at low given e) is same =
    let a : d.evictions ≡ m.evictions = ap (λ (x : Private). x.evictions) is in
    let b : m.evictions ≡ suc c.evictions = ap (λ (x : Private). x.evictions) e in
    absurd (omega (arith, a, b, same))

-- the stores that follow the loads are one at their line
since_stored : (line : LineAt) (words : List ℕ) (p : WordAt) (v core : ℕ) → same_line line (line_of_word p) ≡ true → stored_since line words (store_of p v ∷ free_of core ∷ []) ≡ slice_set words p.word v
since_stored line words p v core h = ap (λ b. if b then slice_set words p.word v else words) h

bit_facts : (s t : Sight) (c d : Private) (core : ℕ) (flag : FlagPlace) (b : ℕ) (set done : Bool) → c.out ≡ None → TriesChange s c (flag_word core flag) b set done t d → ChangeFacts BitFlags s c core done t d
bit_facts s t c d core flag b set done empty (RegisterTaken missed did e) =
    let same : d.evictions ≡ c.evictions = ap (λ (x : Private). x.evictions) e in
    record {
      events = take_of core false ∷ [];
      did = did;
      held = NoLoad refl;
      work = subst (λ x. 0 + 4 * c.evictions ≤ 4 * d.evictions + 4 * (if x then 1 else 0)) (sym missed) (omega (arith, same));
      out = ap (λ (x : Private). x.out) e ∙ empty;
      tries = λ x. missed_tries core;
      failed = λ x. missed_failed core ∙ ap (λ (y : Bool). not y) (sym missed);
      freed = refl;
      elsewhere = λ at ne. missed_elsewhere core at (ne refl);
      ends = λ made. absurd (let e : false ≡ true = sym missed ∙ made in cc);
      lines = λ x. absurd (cc);
      rests = λ x. refl;
      only = λ x. refl;
    }
bit_facts s t c d core flag b set done empty (BitChanged made words loaded did m fills e) =
    let line = line_of_word (flag_word core flag) in
    let new = with_bit b set (slice_index words flag.word) in
    let grown = fills_evictions fills in
    let same : d.evictions ≡ m.evictions = ap (λ (x : Private). x.evictions) e in
    record {
      events = change_events (flag_word core flag) b set words;
      did = did;
      held = Last (take_of core true ∷ []) line words (store_of (flag_word core flag) new ∷ free_of core ∷ []) refl refl
          (λ kept. changed_held c m d core flag set words new fills e kept ∙ ap Some (sym (since_stored line words (flag_word core flag) new core (line_itself line))));
      work = subst (λ x. 4 + 4 * c.evictions ≤ 4 * d.evictions + 4 * (if x then 1 else 0)) (sym made) (omega (arith, grown, same));
      out = ap (λ (x : Private). x.out) e ∙ fills_out fills ∙ empty;
      tries = λ x. changed_tries core flag b set words;
      failed = λ x. changed_failed core flag b set words ∙ ap (λ (y : Bool). not y) (sym made);
      freed = refl;
      elsewhere = λ at ne. changed_elsewhere core flag b set words at (ne refl);
      ends = λ done aim n. changed_ends core flag b set words aim n;
      lines = λ x. absurd (cc);
      rests = λ x. absurd (cc);
      only = λ x. absurd (let e : true ≡ false = sym made ∙ x in cc);
    }

pub change_facts : (layout : Layout) (s t : Sight) (c d : Private) (core : ℕ) (signal : Signal) (by : ℕ) (set done : Bool) → c.out ≡ None → ChangesBy layout s c core signal by set done t d → ChangeFacts layout s c core done t d
change_facts LineFlags s t c d core signal by set done empty (is, writes) =
    subst (λ x. ChangeFacts LineFlags s c core x t d) (sym is) (flag_facts s t c d core (signal_at LineFlags signal by) set empty writes)
change_facts BitFlags s t c d core signal by set done empty (tries, turns) = bit_facts s t c d core (signal_at BitFlags signal by) by set done empty tries
