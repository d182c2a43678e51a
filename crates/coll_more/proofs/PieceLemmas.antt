-- The messages of a table with one rank, and a list made of pieces.
use Rattle.std.proofs.Common.{◌≡◌, ◌≢◌, ◌⊎◌, ℕ, zero, suc, ◌+◌, ◌-◌, ◌*◌, ◌<◌, ◌≤◌, ◌==◌, Bool, if◌then◌else◌, List, [], ◌∷◌, ◌++◌, length, get_or, map, drop, flat_map, Option, refl, sym, ap, ◌∙◌, subst, arith, inl, inr, append-nil, take-append-drop}
use Rattle.std.specs.List.{range_with_len}
use Rattle.std.proofs.lemmas.List.{drop-drop, drop_all, map-append, nil_from_length, take_all}
use Rattle.scc_base.specs.Calls.{DataCall}
use Rattle.scc_base.specs.Heads.{plain_head}
use Rattle.scc_proto.specs.Legality.{IsLegal, Outgoing, slot_message}
use Rattle.scc_proto.specs.Messages.{Message, received_messages, sent_messages}
use Rattle.scc_proto.proofs.Legality.LegalMessages.{legal_messages}
use Rattle.scc_proto.proofs.Messages.MessageLists.{received_messages-append, sent_messages-append}
use Rattle.scc_proto.proofs.Tests.{eqb_other, eqb_same, same_or_other}
use Rattle.coll_more.specs.Ops.{data_call_of, window}
use Rattle.coll_more.specs.Pieces.{HaveMadeCall, all_of, pieces_for}
use Rattle.coll_more.specs.Tables.{alltoall_calls, for_each, gives_piece, gives_then_takes, shares, takes_piece, takes_then_gives}
use Rattle.coll_more.specs.declared.kinds.More.{More}
use Rattle.coll_more.specs.declared.kinds.More.TheVariants.{Gather, Scatter, Allgather, Alltoall}
use Rattle.coll_more.specs.declared.kinds.PieceCall.{PieceCall}
use Rattle.coll_more.proofs.GoodLemmas.{next_piece}

-- ---- the messages with one rank

-- of messages that are counted one list after the other
module _ (F : List PieceCall → List Message) (nothing : F [] ≡ []) (both : (xs ys : List PieceCall) → F (xs ++ ys) ≡ F xs ++ F ys) (calls : ℕ → List PieceCall) where
  none_of : (a n : ℕ) → ((q : ℕ) → a ≤ q → q < a + n → F (calls q) ≡ []) → F (for_each calls a n) ≡ []
  none_of a zero none = nothing
  none_of a (suc n) none =
      both (calls a) (for_each calls (a + 1) n)
      ∙ (λ i. none a (omega arith) (omega arith) i ++ none_of (a + 1) n (λ q low less. none q (omega (arith, low)) (omega (arith, less))) i)

  one_of : (a n p : ℕ) → a ≤ p → p < a + n → ((q : ℕ) → q ≢ p → F (calls q) ≡ []) → F (for_each calls a n) ≡ F (calls p)
  one_of a zero p low less none = absurd (omega (arith, low, less))
  one_of a (suc n) p low less none =
      both (calls a) (for_each calls (a + 1) n)
      ∙ same_or_other (F (calls a) ++ F (for_each calls (a + 1) n) ≡ F (calls p)) a p
      (λ test same.
      (λ i. F (calls (same i)) ++ none_of (a + 1) n (λ q up under. none q (λ e. absurd (omega (arith, e, same, up)))) i) ∙ append-nil (F (calls p)))
      (λ test other. (λ i. none a other i ++ one_of (a + 1) n p (above other) (omega (arith, less)) none i))
    where
      above : a ≢ p → a + 1 ≤ p
      above other = omega (arith, low, other)

module _ (p : ℕ) (src dst : List ℕ) where
  abbrev sent : List PieceCall → List Message
  sent xs = sent_messages p (map (data_call_of src dst) xs)

  abbrev got : List PieceCall → List Message
  got xs = received_messages p (map (data_call_of src dst) xs)

  sent_both : (xs ys : List PieceCall) → sent (xs ++ ys) ≡ sent xs ++ sent ys
  sent_both xs ys = ap (sent_messages p) (map-append (data_call_of src dst) xs ys) ∙ sent_messages-append p (map (data_call_of src dst) xs) (map (data_call_of src dst) ys)

  got_both : (xs ys : List PieceCall) → got (xs ++ ys) ≡ got xs ++ got ys
  got_both xs ys = ap (received_messages p) (map-append (data_call_of src dst) xs ys) ∙ received_messages-append p (map (data_call_of src dst) xs) (map (data_call_of src dst) ys)

  abbrev message : ℕ → List ℕ → Message
  message len bytes = record { head = plain_head len; bytes = bytes }

  -- one call with this rank, or with another one
  if_here : (x : Message) → (if p == p then x ∷ [] else []) ≡ x ∷ []
  if_here x = ap (λ (b : Bool). if b then x ∷ [] else []) (eqb_same p)

  if_other : (q : ℕ) (x : Message) → q ≢ p → (if q == p then x ∷ [] else []) ≡ []
  if_other q x other = ap (λ (b : Bool). if b then x ∷ [] else []) (eqb_other q p other)

  module _ (len : ℕ) where
    pub sent_pieces : (n : ℕ) → 1 ≤ p → p < 1 + n → sent (for_each (gives_piece len) 1 n) ≡ message len (window (p * len) len src) ∷ []
    sent_pieces n low less = one_of sent refl sent_both (gives_piece len) 1 n p low less (λ q other. if_other q _ other) ∙ if_here (message len (window (p * len) len src))

    pub got_pieces : (n : ℕ) → 1 ≤ p → p < 1 + n → got (for_each (takes_piece len) 1 n) ≡ message len (window (p * len) len dst) ∷ []
    got_pieces n low less = one_of got refl got_both (takes_piece len) 1 n p low less (λ q other. if_other q _ other) ∙ if_here (message len (window (p * len) len dst))

    pub sent_shares : (all n : ℕ) → 1 ≤ p → p < 1 + n → sent (for_each (takes_piece len) 1 n ++ for_each (λ q. shares q 0 all ∷ []) 1 n) ≡ message all (window 0 all dst) ∷ []
    sent_shares all n low less =
        sent_both (for_each (takes_piece len) 1 n) (for_each (λ q. shares q 0 all ∷ []) 1 n)
        ∙ (λ i. none_of sent refl sent_both (takes_piece len) 1 n (λ q up under. refl) i ++ (one_of sent refl sent_both (λ q. shares q 0 all ∷ []) 1 n p low less (λ q other. if_other q _ other) ∙ if_here (message all (window 0 all dst))) i)

    pub got_gathered : (all n : ℕ) → 1 ≤ p → p < 1 + n → got (for_each (takes_piece len) 1 n ++ for_each (λ q. shares q 0 all ∷ []) 1 n) ≡ message len (window (p * len) len dst) ∷ []
    got_gathered all n low less =
        got_both (for_each (takes_piece len) 1 n) (for_each (λ q. shares q 0 all ∷ []) 1 n)
        ∙ (λ i. got_pieces n low less i ++ none_of got refl got_both (λ q. shares q 0 all ∷ []) 1 n (λ q up under. refl) i)

    module _ (rank nue : ℕ) (low : p < nue) where
      -- two parts of an alltoall, of which one is with this rank
      in_parts : (F : List PieceCall → List Message) → F [] ≡ [] → ((xs ys : List PieceCall) → F (xs ++ ys) ≡ F xs ++ F ys) → (x : Message)
          → ((q : ℕ) → q ≢ p → F (takes_then_gives len q) ≡ []) → ((q : ℕ) → q ≢ p → F (gives_then_takes len q) ≡ []) → F (takes_then_gives len p) ≡ x ∷ [] → F (gives_then_takes len p) ≡ x ∷ []
          → (p < rank) ⊎ (rank < p) → F (alltoall_calls rank nue len) ≡ x ∷ []
      in_parts F nothing both x one two first second (inl under) =
          both (for_each (takes_then_gives len) 0 rank) (for_each (gives_then_takes len) (rank + 1) (nue - (rank + 1)))
          ∙ (λ i. (one_of F nothing both (takes_then_gives len) 0 rank p (omega arith) (omega (arith, under)) one ∙ first) i
          ++ none_of F nothing both (gives_then_takes len) (rank + 1) (nue - (rank + 1)) (λ q up less. two q (λ e. absurd (omega (arith, e, up, under)))) i)
      in_parts F nothing both x one two first second (inr over) =
          both (for_each (takes_then_gives len) 0 rank) (for_each (gives_then_takes len) (rank + 1) (nue - (rank + 1)))
          ∙ (λ i. none_of F nothing both (takes_then_gives len) 0 rank (λ q up less. one q (λ e. absurd (omega (arith, e, less, over)))) i
          ++ (one_of F nothing both (gives_then_takes len) (rank + 1) (nue - (rank + 1)) p (omega (arith, over)) (omega (arith, over, low)) two ∙ second) i)

      pub sent_pair : (p < rank) ⊎ (rank < p) → sent (alltoall_calls rank nue len) ≡ message len (window (p * len) len src) ∷ []
      sent_pair side = in_parts sent refl sent_both (message len (window (p * len) len src)) (λ q other. if_other q _ other) (λ q other. if_other q _ other) (if_here _) (if_here _) side

      pub got_pair : (p < rank) ⊎ (rank < p) → got (alltoall_calls rank nue len) ≡ message len (window (p * len) len dst) ∷ []
      got_pair side = in_parts got refl got_both (message len (window (p * len) len dst)) (λ q other. if_other q _ other) (λ q other. if_other q _ other) (if_here _) (if_here _) side

-- ---- a list made of pieces

module _ (len : ℕ) (bytes : List ℕ) (pieces : ℕ → List ℕ) where
  joined_from : (a n : ℕ) → length bytes ≡ (a + n) * len → ((q : ℕ) → q < a + n → window (q * len) len bytes ≡ pieces q) → drop (a * len) bytes ≡ flat_map pieces (range_with_len a n)
  joined_from a zero long each = drop_all (a * len) bytes (let sum : a + 0 ≡ a = omega arith in let same : (a + 0) * len ≡ a * len = ap (λ (x : ℕ). x * len) sum in omega (arith, long, same))
  joined_from a (suc n) long each =
      sym (take-append-drop len (drop (a * len) bytes))
      ∙ (λ i. each a (omega arith) i
      ++ (drop-drop len (a * len) bytes ∙ ap (λ (x : ℕ). drop x bytes) (sym (next_piece a len))
      ∙ joined_from (a + 1) n (let sum : a + suc n ≡ a + 1 + n = omega arith in long ∙ ap (λ (x : ℕ). x * len) sum) (λ q less. each q (omega (arith, less)))) i)

  pub joined : (nue : ℕ) → length bytes ≡ nue * len → ((q : ℕ) → q < nue → window (q * len) len bytes ≡ pieces q) → bytes ≡ all_of nue pieces
  joined nue long each =
      let none : 0 ≡ 0 * len = omega arith in
      let sum : nue ≡ 0 + nue = omega arith in
      ap (λ (n : ℕ). drop n bytes) none ∙ joined_from 0 nue (long ∙ ap (λ (x : ℕ). x * len) sum) (λ q less. each q (omega (arith, less)))

-- all bytes of a list
whole : (len : ℕ) (bytes : List ℕ) → length bytes ≡ len → window 0 len bytes ≡ bytes
whole len bytes long = take_all len bytes (omega (arith, long))

-- ---- legal lists

-- of two ranks one is the lower
side_of : (p q : ℕ) → p ≢ q → (p < q) ⊎ (q < p)
side_of zero zero other = absurd (other refl)
side_of zero (suc q) other = inl (omega arith)
side_of (suc p) zero other = inr (omega arith)
side_of (suc p) (suc q) other = by (side_of p q (λ e. other (ap suc e)))
  where
    by : (p < q) ⊎ (q < p) → (suc p < suc q) ⊎ (suc q < suc p)
    by (inl less) = inl (omega (arith, less))
    by (inr more) = inr (omega (arith, more))

-- one message was sent, and one was received
same_message : (x y : Message) (rest : List Message) → x ∷ [] ≡ (y ∷ []) ++ rest → y.bytes ≡ x.bytes
same_message x y rest same = ap (λ (m : Message). m.bytes) (sym (ap (λ (l : List Message). get_or l 0 y) same))

module _ (nue len : ℕ) (keys : ℕ → ℕ → ℕ) (calls : ℕ → List DataCall) (slots : ℕ → Option Outgoing) (srcs dsts : ℕ → List ℕ) (legal : IsLegal nue keys calls slots) where
  -- what was received of a rank is what that one has sent
  met : (from to : ℕ) (x y : Message) → sent_messages to (calls from) ≡ x ∷ [] → received_messages from (calls to) ≡ y ∷ [] → y.bytes ≡ x.bytes
  met from to x y one two =
      same_message x y (slot_message to (slots from)) (sym one ∙ legal_messages nue keys calls slots legal from to ∙ ap (λ (l : List Message). l ++ slot_message to (slots from)) two)

  -- the bytes of the root's own piece are the first ones
  first_piece : (bytes : List ℕ) → window (0 * len) len bytes ≡ window 0 len bytes
  first_piece bytes = let none : 0 * len ≡ 0 = omega arith in ap (λ (n : ℕ). window n len bytes) none

  gather_at : HaveMadeCall Gather nue len srcs dsts calls → (low : 0 < nue) (q : ℕ) → q < nue → window (q * len) len (dsts 0) ≡ srcs q
  gather_at made low zero less = (made 0 low).own refl ∙ first_piece (srcs 0) ∙ whole len (srcs 0) (made 0 low).src_is
  gather_at made low (suc q) less =
      met (suc q) 0 (message 0 [] [] len (window 0 len (srcs (suc q)))) (message 0 [] [] len (window (suc q * len) len (dsts 0)))
      (ap (sent_messages 0) (made (suc q) less).calls_are)
      (ap (received_messages (suc q)) (made 0 low).calls_are ∙ got_pieces (suc q) (srcs 0) (dsts 0) len (nue - 1) (omega arith) (omega (arith, less)))
      ∙ whole len (srcs (suc q)) (made (suc q) less).src_is

  gather_pieces : HaveMadeCall Gather nue len srcs dsts calls → (rank : ℕ) → rank < nue → dsts rank ≡ pieces_for Gather nue len srcs rank
  gather_pieces made zero low = joined len (dsts 0) srcs nue (made 0 low).dst_is (gather_at made low)
  gather_pieces made (suc r) low = nil_from_length (dsts (suc r)) (made (suc r) low).dst_is

  scatter_pieces : HaveMadeCall Scatter nue len srcs dsts calls → (rank : ℕ) → rank < nue → dsts rank ≡ pieces_for Scatter nue len srcs rank
  scatter_pieces made zero low = sym (first_piece (dsts 0) ∙ whole len (dsts 0) (made 0 low).dst_is) ∙ (made 0 low).own refl
  scatter_pieces made (suc r) low =
      sym (whole len (dsts (suc r)) (made (suc r) low).dst_is)
      ∙ met 0 (suc r) (message 0 [] [] len (window (suc r * len) len (srcs 0))) (message 0 [] [] len (window 0 len (dsts (suc r))))
      (ap (sent_messages (suc r)) (made 0 (omega (arith, low))).calls_are ∙ sent_pieces (suc r) (srcs 0) (dsts 0) len (nue - 1) (omega arith) (omega (arith, low)))
      (ap (received_messages 0) (made (suc r) low).calls_are)

  allgather_at : HaveMadeCall Allgather nue len srcs dsts calls → (low : 0 < nue) (q : ℕ) → q < nue → window (q * len) len (dsts 0) ≡ srcs q
  allgather_at made low zero less = (made 0 low).own refl ∙ first_piece (srcs 0) ∙ whole len (srcs 0) (made 0 low).src_is
  allgather_at made low (suc q) less =
      met (suc q) 0 (message 0 [] [] len (window 0 len (srcs (suc q)))) (message 0 [] [] len (window (suc q * len) len (dsts 0)))
      (ap (sent_messages 0) (made (suc q) less).calls_are)
      (ap (received_messages (suc q)) (made 0 low).calls_are ∙ got_gathered (suc q) (srcs 0) (dsts 0) len (nue * len) (nue - 1) (omega arith) (omega (arith, less)))
      ∙ whole len (srcs (suc q)) (made (suc q) less).src_is

  allgather_root : HaveMadeCall Allgather nue len srcs dsts calls → (low : 0 < nue) → dsts 0 ≡ all_of nue srcs
  allgather_root made low = joined len (dsts 0) srcs nue (made 0 low).dst_is (allgather_at made low)

  allgather_pieces : HaveMadeCall Allgather nue len srcs dsts calls → (rank : ℕ) → rank < nue → dsts rank ≡ pieces_for Allgather nue len srcs rank
  allgather_pieces made zero low = allgather_root made low
  allgather_pieces made (suc r) low =
      let root : 0 < nue = omega (arith, low) in
      sym (whole (nue * len) (dsts (suc r)) (made (suc r) low).dst_is)
      ∙ met 0 (suc r) (message 0 [] [] (nue * len) (window 0 (nue * len) (dsts 0))) (message 0 [] [] (nue * len) (window 0 (nue * len) (dsts (suc r))))
      (ap (sent_messages (suc r)) (made 0 root).calls_are ∙ sent_shares (suc r) (srcs 0) (dsts 0) len (nue * len) (nue - 1) (omega arith) (omega (arith, low)))
      (ap (received_messages 0) (made (suc r) low).calls_are)
      ∙ whole (nue * len) (dsts 0) (made 0 root).dst_is
      ∙ allgather_root made root

  alltoall_pieces : HaveMadeCall Alltoall nue len srcs dsts calls → (rank : ℕ) → rank < nue → dsts rank ≡ pieces_for Alltoall nue len srcs rank
  alltoall_pieces made rank low = joined len (dsts rank) (λ k. window (rank * len) len (srcs k)) nue (made rank low).dst_is (λ q less.
      same_or_other (window (q * len) len (dsts rank) ≡ window (rank * len) len (srcs q)) q rank
      (λ test same. subst (λ (k : ℕ). window (k * len) len (dsts rank) ≡ window (rank * len) len (srcs k)) (sym same) ((made rank low).own refl))
      (λ test other.
      met q rank (message 0 [] [] len (window (rank * len) len (srcs q))) (message 0 [] [] len (window (q * len) len (dsts rank)))
      (ap (sent_messages rank) (made q less).calls_are ∙ sent_pair rank (srcs q) (dsts q) len q nue low (side_of rank q (λ e. other (sym e))))
      (ap (received_messages q) (made rank low).calls_are ∙ got_pair q (srcs rank) (dsts rank) len rank nue less (side_of q rank other))))

  pub pieces_there : (more : More) → HaveMadeCall more nue len srcs dsts calls → (rank : ℕ) → rank < nue → dsts rank ≡ pieces_for more nue len srcs rank
  pieces_there Gather made = gather_pieces made
  pieces_there Scatter made = scatter_pieces made
  pieces_there Allgather made = allgather_pieces made
  pieces_there Alltoall made = alltoall_pieces made
