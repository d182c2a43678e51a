-- Each member of a group that has made a broadcast holds the bytes of the root.
use Rattle.std.proofs.Common.{◌≡◌, ℕ, ◌<◌, ◌==◌, Bool, true, false, List, [], ◌∷◌, ◌++◌, Option, Some, slice_get, refl, sym, ap, ◌∙◌, subst}
use Rattle.std.specs.Prelude.{cond, slice_index}
use Rattle.std.proofs.lemmas.Bool.{eqb-true}
use Rattle.std.proofs.lemmas.Option.{get_or_from_slice_get}
use Rattle.scc_base.specs.Calls.{DataCall, Message}
use Rattle.scc_base.specs.Groups.{members_in, place_in}
use Rattle.scc_base.specs.Heads.{MessageHead}
use Rattle.scc_base.specs.Setups.{place_of, setup_key, size_of}
use Rattle.scc_base.specs.declared.kinds.Kind.TheVariants as kind
use Rattle.scc_base.proofs.GroupFacts.{member_at_place, place_found}
use Rattle.scc_proto.specs.Legality.{IsLegal, Outgoing, slot_message}
use Rattle.scc_proto.specs.Messages.{received_messages, sent_messages}
use Rattle.scc_proto.specs.Ports.{Seat}
use Rattle.scc_proto.proofs.Legality.LegalMessages.{legal_messages}
use Rattle.scc_proto.proofs.Tests.{eqb_same}
use Rattle.groups.specs.Collectives.{head_of_kind}
use Rattle.groups.specs.declared.collectives.Coll.TheVariants.{Bcast}
use Rattle.station.specs.Reductions.{HaveTold, bcast_by, call_at_rank, is_root_of, other_ranks, root_rank, sends_to}

abbrev message : MessageHead → List ℕ → Message
message head bytes = record { head = head; bytes = bytes }

abbrev first_bytes : List Message → List ℕ
first_bytes [] = []
first_bytes (x ∷ xs) = x.bytes

-- messages that are all of the same bytes
one_more : (b : Bool) (x y : Message) (rest later : List Message) → (later ≡ y ∷ rest → y.bytes ≡ x.bytes) → cond b (x ∷ later) later ≡ y ∷ rest → y.bytes ≡ x.bytes
one_more true x y rest later next same = ap first_bytes (sym same)
one_more false x y rest later next same = next same

sends_same : (head : MessageHead) (bytes : List ℕ) (xs : List ℕ) (to : ℕ) (y : Message) (rest : List Message) → sent_messages to (sends_to head bytes xs) ≡ y ∷ rest → y.bytes ≡ bytes
sends_same head bytes [] to y rest same = absurd (cc)
sends_same head bytes (x ∷ xs) to y rest same =
    one_more (x == to) (message head bytes) y rest (sent_messages to (sends_to head bytes xs)) (sends_same head bytes xs to y rest) same

-- the member at a place
member_is : (nue : ℕ) (key : ℕ → ℕ) (r x place : ℕ) → key x ≡ key r → x < nue → place_in key x ≡ place → slice_index (members_in nue key r) place ≡ x
member_is nue key r x place same low at =
    get_or_from_slice_get (members_in nue key r) place x 0 (subst (λ (k : ℕ). slice_get (members_in nue key r) k ≡ Some x) at (member_at_place nue key r x same low))

module _ (seat : Seat) (comm place len : ℕ) (keys : ℕ → ℕ → ℕ) (calls : ℕ → List DataCall) (slots : ℕ → Option Outgoing) (held : ℕ → List ℕ)
    (legal : IsLegal seat.setup.nue keys calls slots) (told : HaveTold seat (Bcast comm place len) held calls) where
  abbrev head : MessageHead
  head = head_of_kind kind.Bcast comm len

  -- whoever received from a root holds its bytes
  from_root : (r x : ℕ) → r < seat.setup.nue → x < seat.setup.nue → root_rank (call_at_rank seat (Bcast comm place len) r) ≡ x
      → is_root_of (call_at_rank seat (Bcast comm place len) r) ≡ false → is_root_of (call_at_rank seat (Bcast comm place len) x) ≡ true → held r ≡ held x
  from_root r x low under root other is_root =
      let sent : calls x ≡ sends_to head (held x) (other_ranks (call_at_rank seat (Bcast comm place len) x)) =
      told x under ∙ ap (λ (b : Bool). bcast_by b (call_at_rank seat (Bcast comm place len) x) (held x)) is_root in
      let got = told r low ∙ ap (λ (b : Bool). bcast_by b (call_at_rank seat (Bcast comm place len) r) (held r)) other in
      let one : received_messages x (calls r) ≡ message head (held r) ∷ [] =
      ap (received_messages x) got ∙ ap (λ (k : ℕ). cond (k == x) (message head (held r) ∷ []) []) root ∙ ap (λ (b : Bool). cond b (message head (held r) ∷ []) []) (eqb_same x) in
      sends_same head (held x) (other_ranks (call_at_rank seat (Bcast comm place len) x)) r (message head (held r)) (slot_message r (slots x))
      (ap (sent_messages r) (sym sent) ∙ legal_messages seat.setup.nue keys calls slots legal x r ∙ ap (λ (l : List Message). l ++ slot_message r (slots x)) one)

  pub told_bytes : (r : ℕ) → r < seat.setup.nue → place < size_of seat.setup comm r → held r ≡ held (root_rank (call_at_rank seat (Bcast comm place len) r))
  told_bytes r low below = by (place_of seat.setup comm r == place) refl
    where
      by : (b : Bool) → (place_of seat.setup comm r == place) ≡ b → held r ≡ held (root_rank (call_at_rank seat (Bcast comm place len) r))
      by true is = ap held (sym (member_is seat.setup.nue (setup_key seat.setup comm) r r place refl low (eqb-true (place_of seat.setup comm r) place is)))
      by false is =
          let one = place_found seat.setup.nue (setup_key seat.setup comm) r place below in
          let root = member_is seat.setup.nue (setup_key seat.setup comm) r one.0 place one.2 one.1 one.3 in
          from_root r one.0 low one.1 root is (ap (λ (k : ℕ). k == place) one.3 ∙ eqb_same place) ∙ ap held (sym root)
