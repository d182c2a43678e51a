-- Why every run ends: each step lowers what is left to do.
use Rattle.std.specs.Prelude.{ℕ, ◌<◌, List}
use Rattle.scc_base.specs.Heads.{MessageHead}
use Rattle.script_machine.specs.Next.{Next}
use Rattle.script_machine.specs.Next.Next.{Ends, Goes, Posts, Sends, Recvs, Bars}

-- whatever comes next, less than n is left after it
abbrev pub Lowers : {U : Type 0} → (U → ℕ) → ℕ → Next U → Type 0
Lowers cost n Ends = Unit {0}
Lowers cost n (Goes after) = cost after < n
Lowers cost n (Posts message after) = cost after < n
Lowers cost n (Sends to head bytes after) = cost after < n
Lowers cost n (Recvs from head take refuse) = ((bytes : List ℕ) → cost (take bytes) < n) × ((sent : MessageHead) → cost (refuse sent) < n)
Lowers cost n (Bars comm after) = cost after < n

-- another view of a state, where what comes next is seen through it
abbrev pub next_map : {U V : Type 0} → (U → V) → Next U → Next V
next_map f Ends = Ends
next_map f (Goes after) = Goes (f after)
next_map f (Posts message after) = Posts message (f after)
next_map f (Sends to head bytes after) = Sends to head bytes (f after)
next_map f (Recvs from head take refuse) = Recvs from head (λ bytes. f (take bytes)) (λ sent. f (refuse sent))
next_map f (Bars comm after) = Bars comm (f after)
