-- What collective calls bring, once each rank has made one.
use Rattle.std.specs.Prelude.{◌≡◌, ℕ, zero, suc, ◌*◌, ◌<◌, List, [], length}
use Rattle.std.specs.List.{flat_map, range_with_len}
use Rattle.scc_base.specs.Calls.{DataCall}
use Rattle.coll_more.specs.Ops.{HasOwn, data_calls, window}
use Rattle.coll_more.specs.Tables.{dst_len_of, src_len_of}
use Rattle.coll_more.specs.declared.kinds.More.{More}
use Rattle.coll_more.specs.declared.kinds.More.TheVariants.{Gather, Scatter, Allgather, Alltoall}

-- the pieces of all ranks, in rank order
abbrev pub all_of : (nue : ℕ) → (ℕ → List ℕ) → List ℕ
all_of nue pieces = flat_map pieces (range_with_len 0 nue)

-- what the bytes of all ranks are at the root alone
abbrev pub root_has : (rank : ℕ) → List ℕ → List ℕ
root_has zero bytes = bytes
root_has (suc r) bytes = []

-- what a rank gets of what the ranks hand in: all of it, its piece of the root's, or its piece of every rank's
abbrev pub pieces_for : More → (nue len : ℕ) → (srcs : ℕ → List ℕ) → (rank : ℕ) → List ℕ
pieces_for Gather nue len srcs rank = root_has rank (all_of nue srcs)
pieces_for Scatter nue len srcs rank = window (rank * len) len (srcs 0)
pieces_for Allgather nue len srcs rank = all_of nue srcs
pieces_for Alltoall nue len srcs rank = all_of nue (λ k. window (rank * len) len (srcs k))

-- a rank has made one such call, and nothing else: with src and dst of their lengths, and its own piece copied. Seven
-- parameters: the call (which one, of how many ranks, of pieces of what length), the rank, the bytes that it gave and those
-- that it got, and its calls.
pub record HasMadeCall (more : More) (nue len rank : ℕ) (src dst : List ℕ) (calls : List DataCall) : Type 0 where
  pub calls_are : calls ≡ data_calls more rank nue len src dst
  pub src_is : length src ≡ src_len_of more rank nue len
  pub dst_is : length dst ≡ dst_len_of more rank nue len
  pub own : HasOwn more rank len src dst

-- each rank has made one such call, and holds what its messages brought
abbrev pub HaveMadeCall : More → (nue len : ℕ) → (srcs dsts : ℕ → List ℕ) → (ℕ → List DataCall) → Type 0
HaveMadeCall more nue len srcs dsts calls = (rank : ℕ) → rank < nue → HasMadeCall more nue len rank (srcs rank) (dsts rank) (calls rank)
