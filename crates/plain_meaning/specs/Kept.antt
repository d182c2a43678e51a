-- What a rank holds has the lengths that the reader of the script computed, and the rest of its program keeps them.
use Rattle.std.specs.Prelude.{◌≡◌, ℕ, ◌≤◌, List, [], ◌∷◌, length, reverse, Option, Some, None}
use Rattle.std.specs.Prelude.{◌⊎◌}
use Rattle.scc_base.specs.Heads.{MessageHead, most_post}
use Rattle.script_rules.specs.Checks.{length_at}
use Rattle.script_rules.specs.Script.{Script}
use Rattle.script_machine.specs.Local.{Local, register_at}
use Rattle.script_machine.specs.Next.{Next}
use Rattle.script_machine.specs.Next.Next.{Ends, Goes, Posts, Sends, Recvs, Bars}
use Rattle.script_machine.specs.Program.{Act, Prim}

-- the length of each register of a rank, if it is set
abbrev pub reckoned_at : Script → ℕ → ℕ → Option ℕ
reckoned_at script rank reg = length_at script.nue (reverse script.items) rank reg

-- a length is 0 or this one
abbrev pub HoldsLength : Option ℕ → ℕ → Type 0
HoldsLength o n = (n ≡ 0) ⊎ (o ≡ Some n)

-- the length of the accumulator and the received bytes after an act, or none
abbrev pub folding : (ℕ → Option ℕ) → Option ℕ → Act → Option ℕ
folding had acc (Act.Set reg content) = acc
folding had acc (Act.Own own) = acc
folding had acc (Act.Send to head source) = acc
folding had acc (Act.Post to reg) = acc
folding had acc (Act.Recv from reg head) = acc
folding had acc (Act.Gather from head sized) = acc
folding had acc (Act.Bar comm) = acc
folding had acc (Act.Begin reg) = had reg
folding had acc (Act.Fold op ty) = acc
folding had acc (Act.Accept reg) = acc
folding had acc (Act.Finish reg) = acc

-- how many bytes a message has: as its head states, or as many as the named register has
abbrev pub sized_by : (ℕ → Option ℕ) → MessageHead → Option ℕ → Option ℕ
sized_by had head None = Some head.len
sized_by had head (Some reg) = had reg

-- the length of the received bytes after an act, or none
abbrev pub gathering : (ℕ → Option ℕ) → Option ℕ → Act → Option ℕ
gathering had got (Act.Set reg content) = got
gathering had got (Act.Own own) = got
gathering had got (Act.Send to head source) = got
gathering had got (Act.Post to reg) = got
gathering had got (Act.Recv from reg head) = got
gathering had got (Act.Gather from head sized) = sized_by had head sized
gathering had got (Act.Bar comm) = got
gathering had got (Act.Begin reg) = got
gathering had got (Act.Fold op ty) = got
gathering had got (Act.Accept reg) = got
gathering had got (Act.Finish reg) = got

-- an act sets a register to its length, and posts at most one chunk
abbrev pub Sets : (ℕ → Option ℕ) → Option ℕ → Option ℕ → Act → Type 0
Sets had acc got (Act.Set reg content) = had reg ≡ Some (length content)
Sets had acc got (Act.Own own) = Unit {0}
Sets had acc got (Act.Send to head source) = Unit {0}
Sets had acc got (Act.Post to reg) = (n : ℕ) × (had reg ≡ Some n) × (n ≤ most_post)
Sets had acc got (Act.Recv from reg head) = had reg ≡ Some head.len
Sets had acc got (Act.Gather from head sized) = Unit {0}
Sets had acc got (Act.Bar comm) = Unit {0}
Sets had acc got (Act.Begin reg) = Unit {0}
Sets had acc got (Act.Fold op ty) = Unit {0}
Sets had acc got (Act.Accept reg) = had reg ≡ got
Sets had acc got (Act.Finish reg) = had reg ≡ acc

-- each primitive that is left keeps the lengths that the reader of the script computed
abbrev pub Keeps : (ℕ → Option ℕ) → Option ℕ → Option ℕ → List Prim → Type 0
Keeps had acc got [] = Unit {0}
Keeps had acc got (prim ∷ left) = Sets had acc got prim.act × Keeps had (folding had acc prim.act) (gathering had got prim.act) left

-- what a rank holds has these lengths, and what is left keeps them
pub record Fits (had : ℕ → Option ℕ) (u : Local) : Type 0 where
  pub acc : Option ℕ
  pub got : Option ℕ
  pub registers : (reg : ℕ) → HoldsLength (had reg) (length (register_at u reg))
  pub accumulator : HoldsLength acc (length u.accumulator)
  pub received : HoldsLength got (length u.received)
  pub keeps : Keeps had acc got u.left

-- after a rank's next action it still holds these lengths, and a message has the length of its head
abbrev pub FitsNext : (ℕ → Option ℕ) → Next Local → Type 0
FitsNext had Ends = Unit {0}
FitsNext had (Goes after) = Fits had after
FitsNext had (Posts message after) = Fits had after × (length message.bytes ≡ message.head.len)
FitsNext had (Sends to head bytes after) = Fits had after × (length bytes ≡ head.len)
FitsNext had (Recvs from head take refuse) =
    ((bytes : List ℕ) → length bytes ≡ head.len → Fits had (take bytes)) × ((sent : MessageHead) → Fits had (refuse sent))
FitsNext had (Bars comm after) = Fits had after
