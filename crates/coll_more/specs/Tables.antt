-- Which messages a gather, a scatter, an allgather and an alltoall are made of, at each rank (this project's profile: over the
-- world, with root 0 and pieces of one length).
use Rattle.std.specs.Prelude.{ℕ, zero, suc, ◌+◌, ◌-◌, ◌*◌, Bool, true, ◌==◌, List, [], ◌∷◌, ◌++◌}
use Rattle.coll_more.specs.declared.kinds.More.{More}
use Rattle.coll_more.specs.declared.kinds.More.TheVariants.{Gather, Scatter, Allgather, Alltoall}
use Rattle.coll_more.specs.declared.kinds.PieceCall.{PieceCall}
use Rattle.coll_more.specs.declared.kinds.Way.TheVariants.{Gives, Shares, Takes}

-- a send of a piece of src, by its first byte and its length
abbrev pub gives : (to first len : ℕ) → PieceCall
gives to first len = record { peer = to; way = Gives; first = first; len = len }

-- a send of a part of dst
abbrev pub shares : (to first len : ℕ) → PieceCall
shares to first len = record { peer = to; way = Shares; first = first; len = len }

-- a receive into a part of dst
abbrev pub takes : (from first len : ℕ) → PieceCall
takes from first len = record { peer = from; way = Takes; first = first; len = len }

-- the messages with each of `count` ranks, from rank `from` on, in order
abbrev pub for_each : (ℕ → List PieceCall) → (from count : ℕ) → List PieceCall
for_each calls from zero = []
for_each calls from (suc count) = calls from ++ for_each calls (from + 1) count

-- piece p of src goes to rank p
abbrev pub gives_piece : (len p : ℕ) → List PieceCall
gives_piece len p = gives p (p * len) len ∷ []

-- piece p of dst comes from rank p
abbrev pub takes_piece : (len p : ℕ) → List PieceCall
takes_piece len p = takes p (p * len) len ∷ []

-- what the root does, and the one message of each other rank
abbrev pub rooted_calls : (rank : ℕ) → List PieceCall → PieceCall → List PieceCall
rooted_calls zero calls call = calls
rooted_calls (suc r) calls call = call ∷ []

-- gather: the root receives from each other rank in order, which sends its piece
abbrev pub gather_calls : (rank nue len : ℕ) → List PieceCall
gather_calls rank nue len = rooted_calls rank (for_each (takes_piece len) 1 (nue - 1)) (gives 0 0 len)

-- scatter: the root sends each other rank its piece in order
abbrev pub scatter_calls : (rank nue len : ℕ) → List PieceCall
scatter_calls rank nue len = rooted_calls rank (for_each (gives_piece len) 1 (nue - 1)) (takes 0 0 len)

-- what comes behind the gather of an allgather: the root sends all its pieces to each other rank in order
abbrev pub spread_calls : (rank nue len : ℕ) → List PieceCall
spread_calls rank nue len = rooted_calls rank (for_each (λ p. shares p 0 (nue * len) ∷ []) 1 (nue - 1)) (takes 0 0 (nue * len))

-- the two messages with rank p, of which the one from p comes first
abbrev pub takes_then_gives : (len p : ℕ) → List PieceCall
takes_then_gives len p = takes p (p * len) len ∷ gives p (p * len) len ∷ []

-- the two messages with rank p, of which the one to p comes first
abbrev pub gives_then_takes : (len p : ℕ) → List PieceCall
gives_then_takes len p = gives p (p * len) len ∷ takes p (p * len) len ∷ []

-- alltoall: a rank receives from each rank below it and then sends to it, and sends to each rank above it and then receives
abbrev pub alltoall_calls : (rank nue len : ℕ) → List PieceCall
alltoall_calls rank nue len = for_each (takes_then_gives len) 0 rank ++ for_each (gives_then_takes len) (rank + 1) (nue - (rank + 1))

-- the messages of a collective call at a rank, in order
abbrev pub piece_calls : More → (rank nue len : ℕ) → List PieceCall
piece_calls Gather rank nue len = gather_calls rank nue len
piece_calls Scatter rank nue len = scatter_calls rank nue len
piece_calls Allgather rank nue len = gather_calls rank nue len ++ spread_calls rank nue len
piece_calls Alltoall rank nue len = alltoall_calls rank nue len

-- `len` bytes at the root, which is rank 0, and none at the others
abbrev pub at_root : (rank len : ℕ) → ℕ
at_root zero len = len
at_root (suc r) len = 0

-- how many bytes a rank hands in
abbrev pub src_len_of : More → (rank nue len : ℕ) → ℕ
src_len_of Gather rank nue len = len
src_len_of Scatter rank nue len = at_root rank (nue * len)
src_len_of Allgather rank nue len = len
src_len_of Alltoall rank nue len = nue * len

-- how many bytes a rank gets
abbrev pub dst_len_of : More → (rank nue len : ℕ) → ℕ
dst_len_of Gather rank nue len = at_root rank (nue * len)
dst_len_of Scatter rank nue len = len
dst_len_of Allgather rank nue len = nue * len
dst_len_of Alltoall rank nue len = nue * len

-- whether a rank copies a piece of its own: its piece of an alltoall, and the root's of the others
abbrev pub has_own : More → ℕ → Bool
has_own Alltoall rank = true
has_own more rank = rank == 0
