-- What the head of a message says, as numbers (this project's profile: RCCE itself sends no head).
use Rattle.std.specs.Prelude.{◌≡◌, refl, ℕ, zero, suc, ◌<◌, ◌≤◌, List, codes}
use Rattle.scc_base.specs.Layouts.{chunk_size}
use Rattle.scc_base.specs.declared.kinds.Kind.{Kind}
use Rattle.scc_base.specs.declared.kinds.Kind.TheVariants.{Plain, Bcast, Reduce, AllUp, AllDown}
use Rattle.scc_base.specs.declared.layouts.Layout.TheVariants.{LineFlags}

-- a message's kind by its number, its communicator, and its length in bytes
pub record MessageHead : Type 0 where
  pub kind : ℕ
  pub comm : ℕ
  pub len : ℕ

-- the number of a kind in a header
abbrev pub kind_number : Kind → ℕ
kind_number Plain = 0
kind_number Bcast = 1
kind_number Reduce = 2
kind_number AllUp = 3
kind_number AllDown = 4

-- the kind that has a number, and a plain kind for a number that no kind has
abbrev pub kind_at : ℕ → Kind
kind_at zero = Plain
kind_at (suc zero) = Bcast
kind_at (suc (suc zero)) = Reduce
kind_at (suc (suc (suc zero))) = AllUp
kind_at (suc (suc (suc (suc _)))) = AllDown

-- a kind is the kind that has its number
pub kind_at-kind_number : (k : Kind) → kind_at (kind_number k) ≡ k
kind_at-kind_number Plain = refl
kind_at-kind_number Bcast = refl
kind_at-kind_number Reduce = refl
kind_at-kind_number AllUp = refl
kind_at-kind_number AllDown = refl

-- the name of a kind, as scripts' lines and logs write it
abbrev pub kind_text : Kind → List ℕ
kind_text Plain = codes "plain"
kind_text Bcast = codes "bcast"
kind_text Reduce = codes "reduce"
kind_text AllUp = codes "allup"
kind_text AllDown = codes "alldown"

-- the most bytes of a message and of a register (this project's profile)
abbrev pub most_message : ℕ
most_message = 65536

-- the most bytes of a post: one chunk in either layout
abbrev pub most_post : ℕ
most_post = chunk_size LineFlags

-- a head that a message may have: one of five kinds, one of sixteen communicators, at most 65,536 bytes,
-- and the world where the message is plain
pub record IsHead (head : MessageHead) : Type 0 where
  pub kind_below : head.kind < 5
  pub comm_below : head.comm < 16
  pub len_within : head.len ≤ most_message
  pub plain_in_world : head.kind ≡ 0 → head.comm ≡ 0

-- a head that a posted message may have: plain, with at most 3,584 bytes, so that it goes as one chunk
-- in either layout
pub record IsPostHead (head : MessageHead) : Type 0 where
  pub plain : head.kind ≡ 0
  pub in_world : head.comm ≡ 0
  pub len_within : head.len ≤ most_post

-- the head of a plain message
abbrev pub plain_head : ℕ → MessageHead
plain_head len = record { kind = 0; comm = 0; len = len }
