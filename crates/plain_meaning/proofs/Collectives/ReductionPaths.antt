-- How receives and folds of a reduction go.
use Rattle.std.proofs.Common.{◌≡◌, ◌≢◌, ℕ, zero, suc, ◌*◌, ◌%◌, ◌≤◌, ◌==◌, true, ◌&&◌, List, [], ◌∷◌, ◌++◌, length, map, Some, refl, sym, ap, ◌∙◌, subst, arith, slice_get, slice_index_or}
use Rattle.std.proofs.lemmas.Bool.{eq-eqb}
use Rattle.scc_base.specs.Calls.{DataCall, Message}
use Rattle.scc_base.specs.Calls.DataCall.{Recv}
use Rattle.scc_base.specs.Heads.{MessageHead}
use Rattle.groups.specs.Folds.{bytes_in, fold_of, fold_values}
use Rattle.groups.specs.declared.operations.Op.{Op}
use Rattle.groups.specs.declared.operations.Ty.{Ty}
use Rattle.groups.proofs.FoldLemmas.{fold_length}
use Rattle.script_machine.specs.declared.prims.Operands.{Operands}
use Rattle.plain_meaning.specs.Collectives.{gone_by, gone_through}
use Rattle.script_machine.specs.Local.{fold_if_fits, gone_on_folding, gone_on_gathering, register_at, head_with_length}
use Rattle.plain_meaning.specs.Meaning.{State, next_of}
use Rattle.plain_meaning.specs.Messages.{is_of, received_by}
use Rattle.script_machine.specs.Program.{Act, Prim}
use Rattle.script_machine.specs.Program.Act.{Gather, Begin, Fold}
use Rattle.plain_meaning.proofs.Collectives.CollectiveGroups.{AreApart, Each, each_both, each_on, gathers}
use Rattle.plain_meaning.proofs.Collectives.CollectivePaths.{Facing, chosen, chosen_none, chosen_one, faced, get_last, keeps, past}
use Rattle.plain_meaning.proofs.Orders.OrderLaws.{different}
use Rattle.script_machine.proofs.Choices as choices

-- what a fold is given: the messages of the others are as long as the source
abbrev pub fold_operands : Op → Ty → ℕ → ℕ → Operands
fold_operands op ty dst src = record { op = op; ty = ty; dst = dst; src = src; sized = Some src }

-- a list in two parts
pub split_at : (n : ℕ) (l : List (List ℕ)) → n ≤ length l → (a : List (List ℕ)) × (b : List (List ℕ)) × (l ≡ a ++ b) × (length a ≡ n)
split_at zero l low = ([], l, refl, refl)
split_at (suc n) [] low = absurd (omega (arith, low))
split_at (suc n) (x ∷ l) low =
    let (a, b, is, even) = split_at n l (omega (arith, low)) in
    (x ∷ a, b, ap (λ (k : List (List ℕ)). x ∷ k) is, ap suc even)

pub gathers_length : (o : Operands) (head : MessageHead) (list : List ℕ) → length (gathers o head list) ≡ 2 * length list
gathers_length o head [] = refl
gathers_length o head (x ∷ list) = let rest : length (gathers o head list) ≡ 2 * length list = gathers_length o head list in omega (arith, rest)

-- past a receive and a fold for each of a list
pub record Folded (line : ℕ) (tail : List Act) (rest : List Prim) (total : List ℕ) (u w : State) : Type 0 where
  pub facing : Facing line tail rest w
  pub registers : w.local.registers ≡ u.local.registers
  pub accumulator : w.local.accumulator ≡ total

-- the message of one of the others, at its number
abbrev pub Comes : ℕ → ℕ → State → (ℕ → ℕ) → (ℕ → List ℕ) → ℕ → Type 0
Comes kind comm final count X j =
    (m : Message) → slice_get (chosen (is_of kind comm) (received_by j) final.matched) (count j) ≡ Some m → (m.bytes ≡ X j) × (m.head.len ≡ length (X j))

abbrev pub Counted : ℕ → ℕ → State → (ℕ → ℕ) → ℕ → Type 0
Counted kind comm u count j = length (chosen (is_of kind comm) (received_by j) u.matched) ≡ count j

module _ (kind comm line dst src : ℕ) (op : Op) (ty : Ty) (head : MessageHead) (tail : List Act) (rest : List Prim) (count : ℕ → ℕ) (X : ℕ → List ℕ) (final : State)
    (mine : ((head.kind == kind) && (head.comm == comm)) ≡ true) where
  -- one receive and one fold
  record OneFold (list : List ℕ) (j : ℕ) (path later : List (List ℕ)) (one two : List ℕ) (u : State) : Type 0 where
    w : State
    moved : gone_through (one ∷ two ∷ path) u ≡ gone_through path w
    facing : Facing line (gathers (fold_operands op ty dst src) head list ++ tail) rest w
    registers : w.local.registers ≡ u.local.registers
    accumulator : w.local.accumulator ≡ fold_values op ty u.local.accumulator (X j)
    long : length w.local.accumulator ≡ length u.local.accumulator
    others : (k : ℕ) → j ≢ k → length (chosen (is_of kind comm) (received_by k) w.matched) ≡ length (chosen (is_of kind comm) (received_by k) u.matched)

  one_fold : (list : List ℕ) (j : ℕ) (u : State) (one two : List ℕ) (path later : List (List ℕ))
      → final.matched ≡ (gone_through later (gone_through (one ∷ two ∷ path) u)).matched
      → Counted kind comm u count j → Comes kind comm final count X j
      → length u.local.accumulator ≡ length (register_at u.local src) → length (register_at u.local src) % bytes_in ty ≡ 0
      → Facing line (gathers (fold_operands op ty dst src) head (j ∷ list) ++ tail) rest u → OneFold list j path later one two u
  one_fold list j u one two path later since counted comes even whole facing = record {
    w = w;
    moved = both;
    facing = past line rest (gathers (fold_operands op ty dst src) head list ++ tail) v (Fold op ty) faces w refl refl;
    registers = refl;
    accumulator = is_folded ∙ ap (fold_values op ty u.local.accumulator) given.0;
    long = ap length is_folded ∙ fold_length op ty u.local.accumulator one (record { same = even_one; whole = whole_acc });
    others = λ k apart. ap length (chosen_none (is_of kind comm) (received_by k) u.matched (Recv j asked one) (choices.other (j == k) (m ∷ []) [] (different j k apart)));
  }
    where
      asked : MessageHead
      asked = head_with_length head (length (register_at u.local src))

      m : Message
      m = record { head = asked; bytes = one }

      v : State
      v = record { local = gone_on_gathering u.local one; matched = u.matched ++ Recv j asked one ∷ [] }

      w : State
      w = record { local = gone_on_folding (gone_on_gathering u.local one) (fold_if_fits op ty u.local.accumulator one); matched = u.matched ++ Recv j asked one ∷ [] }

      first : gone_by one u (next_of u) ≡ v
      first = ap (gone_by one u) (faced line rest (Fold op ty ∷ gathers (fold_operands op ty dst src) head list ++ tail) u (Gather j head (Some src)) facing)

      faces : Facing line (Fold op ty ∷ gathers (fold_operands op ty dst src) head list ++ tail) rest v
      faces = past line rest (Fold op ty ∷ gathers (fold_operands op ty dst src) head list ++ tail) u (Gather j head (Some src)) facing v refl refl

      second : gone_by two v (next_of v) ≡ w
      second = ap (gone_by two v) (faced line rest (gathers (fold_operands op ty dst src) head list ++ tail) v (Fold op ty) faces)

      both : gone_through (one ∷ two ∷ path) u ≡ gone_through path w
      both = ap (gone_through path) (ap (λ (x : State). gone_by two x (next_of x)) first ∙ second)

      there : slice_get (chosen (is_of kind comm) (received_by j) w.matched) (length (chosen (is_of kind comm) (received_by j) u.matched)) ≡ Some m
      there =
          ap (λ (l : List Message). slice_get l (length (chosen (is_of kind comm) (received_by j) u.matched)))
          (chosen_one (is_of kind comm) (received_by j) u.matched (Recv j asked one) m (choices.chosen (j == j) (m ∷ []) [] (eq-eqb j j refl)) mine)
          ∙ get_last (chosen (is_of kind comm) (received_by j) u.matched) m

      found : slice_get (chosen (is_of kind comm) (received_by j) final.matched) (count j) ≡ Some m
      found =
          ap (λ (n : ℕ). slice_get (chosen (is_of kind comm) (received_by j) final.matched) n) (sym counted)
          ∙ ap (λ (l : List DataCall). slice_get (chosen (is_of kind comm) (received_by j) l) (length (chosen (is_of kind comm) (received_by j) u.matched))) (since ∙ ap (λ (x : State). (gone_through later x).matched) both)
          ∙ keeps (is_of kind comm) (received_by j) later (gone_through path w) (length (chosen (is_of kind comm) (received_by j) u.matched)) m
          (keeps (is_of kind comm) (received_by j) path w (length (chosen (is_of kind comm) (received_by j) u.matched)) m there)

      given : (one ≡ X j) × (length (register_at u.local src) ≡ length (X j))
      given = comes m found

      even_one : length u.local.accumulator ≡ length one
      even_one = even ∙ given.1 ∙ ap length (sym given.0)

      whole_acc : length u.local.accumulator % bytes_in ty ≡ 0
      whole_acc = ap (λ (n : ℕ). n % bytes_in ty) even ∙ whole

      is_folded : fold_if_fits op ty u.local.accumulator one ≡ fold_values op ty u.local.accumulator one
      is_folded =
          choices.chosen ((length u.local.accumulator == length one) && (length u.local.accumulator % bytes_in ty == 0)) _ _
          (choices.and_of (length u.local.accumulator == length one) (length u.local.accumulator % bytes_in ty == 0)
          (eq-eqb (length u.local.accumulator) (length one) even_one) (eq-eqb (length u.local.accumulator % bytes_in ty) 0 whole_acc))

  pub past_folds : (list : List ℕ) (u : State) (path later : List (List ℕ))
      → length path ≡ 2 * length list → final.matched ≡ (gone_through later (gone_through path u)).matched
      → AreApart list → Each (Counted kind comm u count) list → Each (Comes kind comm final count X) list
      → length u.local.accumulator ≡ length (register_at u.local src) → length (register_at u.local src) % bytes_in ty ≡ 0
      → Facing line (gathers (fold_operands op ty dst src) head list ++ tail) rest u
      → Folded line tail rest (fold_of op ty u.local.accumulator (map X list)) u (gone_through path u)
  past_folds [] u [] later even since apart counted comes long whole facing = record { facing = facing; registers = refl; accumulator = refl }
  past_folds [] u (one ∷ path) later even since apart counted comes long whole facing = absurd (omega (arith, even))
  past_folds (j ∷ list) u [] later even since apart counted comes long whole facing = absurd (omega (arith, even))
  past_folds (j ∷ list) u (one ∷ []) later even since apart counted comes long whole facing = absurd (omega (arith, even))
  past_folds (j ∷ list) u (one ∷ two ∷ path) later even since apart counted comes long whole facing =
      let f = one_fold list j u one two path later since counted.0 comes.0 long whole facing in
      let same : length (register_at f.w.local src) ≡ length (register_at u.local src) = ap (λ (rs : List (List ℕ)). length (slice_index_or rs src [])) f.registers in
      let more = past_folds list f.w path later (omega (arith, even)) (since ∙ ap (λ (x : State). (gone_through later x).matched) f.moved) apart.1
      (each_on (λ k. (j ≢ k) × Counted kind comm u count k) (Counted kind comm f.w count) (λ k both. f.others k both.0 ∙ both.1) list (each_both (λ k. j ≢ k) (Counted kind comm u count) list apart.0 counted.1))
      comes.1 (f.long ∙ long ∙ sym same) (ap (λ (n : ℕ). n % bytes_in ty) same ∙ whole) f.facing in
      subst (Folded line tail rest (fold_of op ty u.local.accumulator (map X (j ∷ list))) u) (sym f.moved)
      (record {
        facing = more.facing;
        registers = more.registers ∙ f.registers;
        accumulator = more.accumulator ∙ ap (λ (a : List ℕ). fold_of op ty a (map X list)) f.accumulator;
      })

-- acts that send nothing
abbrev pub IsQuiet : Act → Type 0
IsQuiet (Begin reg) = Unit {0}
IsQuiet (Gather from head sized) = Unit {0}
IsQuiet (Fold op ty) = Unit {0}
IsQuiet _ = ⊥

abbrev pub AreQuiet : List Act → Type 0
AreQuiet [] = Unit {0}
AreQuiet (a ∷ acts) = IsQuiet a × AreQuiet acts

pub gathers_quiet : (o : Operands) (head : MessageHead) (list : List ℕ) → AreQuiet (gathers o head list)
gathers_quiet o head [] = tt
gathers_quiet o head (x ∷ list) = (tt, (tt, gathers_quiet o head list))
