-- Each register of a rank has no bytes, or as many as the statements say, whatever the rank does next.
use Rattle.std.proofs.Common.{◌≡◌, ◌≢◌, ℕ, ◌<◌, ◌≤◌, min, List, [], ◌∷◌, ◌++◌, length, drop, get_or, set, Option, Some, None, refl, sym, ap, ◌∙◌, subst, arith, slice_get, inl, inr, ⊎_elim}
use Rattle.std.proofs.lemmas.Bool.{cases_eq, cases_lt}
use Rattle.std.proofs.lemmas.List.{get_or-set_same, get_or-set_other, get_or_past, length-set}
use Rattle.std.proofs.lemmas.Option.{same_Some}
use Rattle.scc_base.specs.Calls.{DataCall}
use Rattle.scc_base.specs.Calls.DataCall.{Send, Recv, Post, Bar}
use Rattle.scc_base.specs.Heads.{MessageHead}
use Rattle.script_machine.specs.declared.prims.Standing.{Standing}
use Rattle.script_machine.specs.declared.prims.Standing.TheVariants as standing
use Rattle.plain_meaning.specs.Collectives.{gone_by, gone_through}
use Rattle.plain_meaning.specs.Kept.{Fits, FitsNext, HoldsLength, Keeps, Sets, folding, gathering, sized_by}
use Rattle.script_machine.specs.Lengths.{Lengths}
use Rattle.script_machine.specs.Local.{Local, asked_head, gone_on_alone, local_next, next_by_act, next_by_prim, prim_by_standing, register_at}
use Rattle.plain_meaning.specs.Meaning.{State, next_of, next_with_calls}
use Rattle.script_machine.specs.Next.{Next}
use Rattle.script_machine.specs.Next.Next.{Ends, Goes, Posts, Sends, Recvs, Bars}
use Rattle.script_machine.specs.Program.{Act, Prim}
use Rattle.plain_meaning.proofs.Collectives.CollectivePaths.{grows}
use Rattle.plain_meaning.proofs.Messages.MessageLaws.{Logs, logs}
use Rattle.script_machine.proofs.ProgramLengths.NextLengths.{after, length_same, lengths_next, own_even}

-- a register is written
holds_set : (had : ℕ → Option ℕ) (registers : List (List ℕ)) (reg : ℕ) (bytes : List ℕ) → HoldsLength (had reg) (length bytes) → ((r : ℕ) → HoldsLength (had r) (length (get_or registers r []))) → (r : ℕ) → HoldsLength (had r) (length (get_or (set registers reg bytes) r []))
holds_set had registers reg bytes new all r =
    ⊎_elim
    (λ (same : r ≡ reg). subst (λ (x : ℕ). HoldsLength (had x) (length (get_or (set registers reg bytes) x []))) (sym same) here)
    (λ (apart : r ≢ reg). subst (λ (b : List ℕ). HoldsLength (had r) (length b)) (sym (get_or-set_other registers reg r bytes [] apart)) (all r))
    (cases_eq r reg)
  where
    here : HoldsLength (had reg) (length (get_or (set registers reg bytes) reg []))
    here =
        ⊎_elim
        (λ (within : reg < length registers). subst (λ (b : List ℕ). HoldsLength (had reg) (length b)) (sym (get_or-set_same registers reg bytes [] within)) new)
        (λ (past : length registers ≤ reg). inl (ap length (get_or_past (set registers reg bytes) reg [] (omega (arith, past, length-set registers reg bytes)))))
        (cases_lt reg (length registers))

-- a posted register has one chunk at most, so that its head has its length
post_even : (o : Option ℕ) (n m : ℕ) → HoldsLength o n → o ≡ Some m → m ≤ 3584 → n ≡ min n 3584
post_even o n m (inl none) is low = omega (arith, none)
post_even o n m (inr same) is low = let even : n ≡ m = same_Some n m (sym same ∙ is) in omega (arith, even, low)

module _ (had : ℕ → Option ℕ) (u : Local) (line : ℕ) (acc got : Option ℕ)
    (registers : (reg : ℕ) → HoldsLength (had reg) (length (register_at u reg))) (accumulator : HoldsLength acc (length u.accumulator)) (received : HoldsLength got (length u.received))
    (all : Keeps had acc got u.left) where
  fits_act : (a : Act) → Sets had acc got a → Keeps had (folding had acc a) (gathering had got a) (drop 1 u.left) → FitsNext had (next_by_act u line a)
  fits_act (Act.Set reg content) sets on = record { acc = acc; got = got; registers = holds_set had u.registers reg content (inr sets) registers; accumulator = accumulator; received = received; keeps = on }
  fits_act (Act.Own own) sets on = record {
    acc = acc;
    got = got;
    registers = λ reg. subst (λ (n : ℕ). HoldsLength (had reg) n) (sym (length_same u (gone_on_alone u own) (own_even u own) reg)) (registers reg);
    accumulator = accumulator;
    received = received;
    keeps = on;
  }
  fits_act (Act.Send to head source) sets on = (record { acc = acc; got = got; registers = registers; accumulator = accumulator; received = received; keeps = on }, refl)
  fits_act (Act.Post to reg) sets on = (
    record { acc = acc; got = got; registers = registers; accumulator = accumulator; received = received; keeps = on },
    post_even (had reg) (length (register_at u reg)) sets.0 (registers reg) sets.1 sets.2,
  )
  fits_act (Act.Recv from reg head) sets on = (
    λ bytes even. record { acc = acc; got = got; registers = holds_set had u.registers reg bytes (inr (sets ∙ ap Some (sym even))) registers; accumulator = accumulator; received = received; keeps = on },
    λ sent. record { acc = acc; got = got; registers = registers; accumulator = accumulator; received = received; keeps = all },
  )
  fits_act (Act.Gather from head sized) sets on = (
    λ bytes even. record { acc = acc; got = sized_by had head sized; registers = registers; accumulator = accumulator; received = gathered bytes sized even; keeps = on },
    λ sent. record { acc = acc; got = got; registers = registers; accumulator = accumulator; received = received; keeps = all },
  )
    where
      gathered : (bytes : List ℕ) (o : Option ℕ) → length bytes ≡ (asked_head u head o).len → HoldsLength (sized_by had head o) (length bytes)
      gathered bytes None even = inr (ap Some (sym even))
      gathered bytes (Some reg) even = subst (λ (n : ℕ). HoldsLength (had reg) n) (sym even) (registers reg)
  fits_act (Act.Begin reg) sets on = record { acc = had reg; got = got; registers = registers; accumulator = registers reg; received = received; keeps = on }
  fits_act (Act.Accept reg) sets on = record {
    acc = acc;
    got = got;
    registers = holds_set had u.registers reg u.received (subst (λ (o : Option ℕ). HoldsLength o (length u.received)) (sym sets) received) registers;
    accumulator = accumulator;
    received = received;
    keeps = on;
  }
  fits_act (Act.Finish reg) sets on = record {
    acc = acc;
    got = got;
    registers = holds_set had u.registers reg u.accumulator (subst (λ (o : Option ℕ). HoldsLength o (length u.accumulator)) (sym sets) accumulator) registers;
    accumulator = accumulator;
    received = received;
    keeps = on;
  }
  fits_act a sets on =
      let same = lengths_next u line a [] refl in
      record {
        acc = acc;
        got = got;
        registers = λ reg. subst (λ (n : ℕ). HoldsLength (had reg) n) (sym (length_same u (after (next_by_act u line a) [] u) (ap (λ (l : Lengths). l.registers) same) reg)) (registers reg);
        accumulator = subst (λ (n : ℕ). HoldsLength acc n) (sym (ap (λ (l : Lengths). l.accumulator) same)) accumulator;
        received = subst (λ (n : ℕ). HoldsLength got n) (sym (ap (λ (l : Lengths). l.received) same)) received;
        keeps = on;
      }

module _ (had : ℕ → Option ℕ) (u : Local) (fits : Fits had u) where
  fits_left : (l : List Prim) → u.left ≡ l → FitsNext had (next_by_prim u (slice_get l 0))
  fits_left [] is = tt
  fits_left (prim ∷ rest) is =
      let both = subst (Keeps had fits.acc fits.got) is fits.keeps in
      fits_act had u prim.line fits.acc fits.got fits.registers fits.accumulator fits.received fits.keeps prim.act both.0
      (subst (λ (l : List Prim). Keeps had (folding had fits.acc prim.act) (gathering had fits.got prim.act) (drop 1 l)) (sym is) both.1)

  fits_standing : (s : Standing) → FitsNext had (next_by_prim u (prim_by_standing s u.left))
  fits_standing standing.Running = fits_left u.left refl
  fits_standing (standing.Mismatched line from sent asked) = tt

  pub fits_next : FitsNext had (local_next u)
  unfolding local_next
  fits_next = fits_standing u.standing

-- a call that received bytes received as many as its head says
abbrev pub IsFitting : DataCall → Type 0
IsFitting (Recv from head bytes) = length bytes ≡ head.len
IsFitting _ = Unit {0}

abbrev pub AreFitting : List DataCall → Type 0
AreFitting [] = Unit {0}
AreFitting (call ∷ calls) = IsFitting call × AreFitting calls

pub fitting_more : (calls : List DataCall) (call : DataCall) → AreFitting calls → IsFitting call → AreFitting (calls ++ call ∷ [])
fitting_more [] call all new = (new, tt)
fitting_more (first ∷ calls) call all new = (all.0, fitting_more calls call all.1 new)

fitting_parts : (calls more : List DataCall) → AreFitting (calls ++ more) → AreFitting calls × AreFitting more
fitting_parts [] more all = (tt, all)
fitting_parts (call ∷ calls) more all = let rest = fitting_parts calls more all.1 in ((all.0, rest.0), rest.1)

-- what a rank holds has these lengths, and so have the bytes that it received
pub record IsSound (had : ℕ → Option ℕ) (u : State) : Type 0 where
  pub fits : Fits had u.local
  pub calls : AreFitting u.matched

abbrev pub SoundNext : (ℕ → Option ℕ) → Next State → Type 0
SoundNext had Ends = Unit {0}
SoundNext had (Goes after) = IsSound had after
SoundNext had (Posts message after) = IsSound had after × (length message.bytes ≡ message.head.len)
SoundNext had (Sends to head bytes after) = IsSound had after × (length bytes ≡ head.len)
SoundNext had (Recvs from head take refuse) = ((bytes : List ℕ) → length bytes ≡ head.len → IsSound had (take bytes)) × ((sent : MessageHead) → IsSound had (refuse sent))
SoundNext had (Bars comm after) = IsSound had after

recorded_sound : (had : ℕ → Option ℕ) (calls : List DataCall) (n : Next Local) → AreFitting calls → FitsNext had n → SoundNext had (next_with_calls calls n)
recorded_sound had calls Ends all fits = tt
recorded_sound had calls (Goes after) all fits = record { fits = fits; calls = all }
recorded_sound had calls (Posts message after) all fits = (record { fits = fits.0; calls = fitting_more calls (Post message.to message.head message.bytes) all tt }, fits.1)
recorded_sound had calls (Sends to head bytes after) all fits = (record { fits = fits.0; calls = fitting_more calls (Send to head bytes) all tt }, fits.1)
recorded_sound had calls (Recvs from head take refuse) all fits = (
  λ bytes even. record { fits = fits.0 bytes even; calls = fitting_more calls (Recv from head bytes) all even },
  λ sent. record { fits = fits.1 sent; calls = all },
)
recorded_sound had calls (Bars comm after) all fits = record { fits = fits; calls = fitting_more calls (Bar comm) all tt }

pub sound_next : (had : ℕ → Option ℕ) (u : State) → IsSound had u → SoundNext had (next_of u)
sound_next had u sound = recorded_sound had u.matched (local_next u.local) sound.calls (fits_next had u.local sound.fits)

-- on a rank's own way, as far as the bytes that it received have the lengths that it asked for
sound_by : (had : ℕ → Option ℕ) (bytes : List ℕ) (u : State) (n : Next State) → Logs u.matched n → IsSound had u → SoundNext had n → AreFitting (gone_by bytes u n).matched → IsSound had (gone_by bytes u n)
sound_by had bytes u Ends log sound next all = sound
sound_by had bytes u (Goes after) log sound next all = next
sound_by had bytes u (Posts message after) log sound next all = next.0
sound_by had bytes u (Sends to head sent after) log sound next all = next.0
sound_by had bytes u (Recvs from head take refuse) log sound next all =
    next.0 bytes (fitting_parts u.matched (Recv from head bytes ∷ []) (subst AreFitting (log.0 bytes) all)).1.0
sound_by had bytes u (Bars comm after) log sound next all = next

-- the calls of a way are among those further on
pub fitting_before : (path : List (List ℕ)) (u : State) → AreFitting (gone_through path u).matched → AreFitting u.matched
fitting_before path u all = let more = grows path u in (fitting_parts u.matched more.0 (subst AreFitting more.1 all)).0

pub sound_through : (had : ℕ → Option ℕ) (path : List (List ℕ)) (u : State) → IsSound had u → AreFitting (gone_through path u).matched → IsSound had (gone_through path u)
sound_through had [] u sound all = sound
sound_through had (bytes ∷ path) u sound all =
    sound_through had path (gone_by bytes u (next_of u))
    (sound_by had bytes u (next_of u) (logs u.matched (local_next u.local)) sound (sound_next had u sound) (fitting_before path (gone_by bytes u (next_of u)) all)) all
