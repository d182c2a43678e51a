-- What a monitor keeps of a stage decides which moves the stage permits, and what it keeps of a chunk that is through.
use Rattle.std.proofs.Common.{◌≡◌, ◌≢◌, ℕ, suc, ◌+◌, ◌-◌, ◌*◌, ◌≤◌, min, Bool, true, false, not, ◌&&◌, ◌==◌, nat_le, List, [], ◌++◌, length, length-append, Option, Some, refl, sym, ◌∙◌, ap, subst, arith}
use Rattle.std.proofs.Math.Nat.{mul-suc}
use Rattle.scc_base.specs.Heads.{MessageHead, IsHead}
use Rattle.scc_proto.specs.Messages.{Notes, bytes_from, head_of, has_all, is_head, Progress, fresh_message, chunk_bytes, is_last, is_whole, with_chunk}
use Rattle.scc_proto.specs.Permission.{drafts_header, drafts_chunk, is_answered_by, is_drafted, is_empty, is_idle, is_whole_header, leaves_heap, has_taken, may_go_on, may_raise, may_release, may_take, says_head}
use Rattle.scc_proto.specs.Stages.{Stage, InFlight}
use Rattle.scc_proto.proofs.Words.NoteFacts.{length-bytes_from}
use Rattle.scc_proto.proofs.Layouts.Roles.{le_is, le_not}
use Rattle.scc_proto.proofs.Tests.{both_second}
use Rattle.scc_proto.proofs.Words.WordFacts.{head_is}
use Rattle.rank_monitor.specs.Noted.{IsChunkOf, IsLineOf, TellsHead}
use Rattle.rank_monitor.specs.Standing.{IsInHand, KeepsStage, is_at_rest, is_sending, leaves_words, opens_chunk, opens_header}
use Rattle.rank_monitor.specs.Standing.KeepsStage.{AtIdle, AtDraft, AtFill, AtRaised, AtAnswered, AtPause, AtTake, AtMeet}
use Rattle.rank_monitor.specs.declared.chunks.NotedChunk.{NotedChunk}
use Rattle.rank_monitor.specs.declared.lines.NotedLine.{NotedLine}
use Rattle.rank_monitor.specs.declared.works.Standing.{Standing}
use Rattle.rank_monitor.specs.declared.works.Standing.TheVariants as standing

-- ---- chunks

same_le : (a b c d : ℕ) → (a ≤ b → c ≤ d) → (c ≤ d → a ≤ b) → nat_le a b ≡ nat_le c d
same_le a b c d one two = by (nat_le a b) (nat_le c d) refl refl
  where
    by : (x y : Bool) → nat_le a b ≡ x → nat_le c d ≡ y → x ≡ y
    by true true t u = refl
    by false false t u = refl
    by true false t u = let low = one (le_is a b t) in let high = le_not c d u in absurd (omega arith)
    by false true t u = let low = two (le_is c d u) in let high = le_not a b t in absurd (omega arith)

-- the bytes of the chunk in hand, and whether it is the last one
pub bytes_left : (size : ℕ) (head : MessageHead) (bytes : List ℕ) (message : Progress) → IsInHand size head bytes message → min (head.len - length bytes) size ≡ chunk_bytes size message
bytes_left size head bytes message o =
    let len : message.head.len ≡ head.len = ap (λ (h : MessageHead). h.len) o.head_is in
    let filled = o.filled in
    omega (arith, len, filled)

pub last_left : (size : ℕ) (head : MessageHead) (bytes : List ℕ) (message : Progress) → IsInHand size head bytes message → nat_le (head.len - length bytes) size ≡ is_last size message
last_left size head bytes message o =
    let len : message.head.len ≡ head.len = ap (λ (h : MessageHead). h.len) o.head_is in
    let filled = o.filled in
    let within = o.within in
    let step : size * suc message.chunks ≡ size * message.chunks + size = mul-suc size message.chunks in
    same_le (head.len - length bytes) size message.head.len (size * suc message.chunks) (λ a. omega (arith, a, len, filled, step, within)) (λ a. omega (arith, a, len, filled, step, within))

-- a message can hold a chunk after the bytes that are through
pub chunk_fits : (size : ℕ) (head : MessageHead) (bytes : List ℕ) (message : Progress) → IsInHand size head bytes message → length bytes + chunk_bytes size message ≤ 65536
chunk_fits size head bytes message o =
    let len : message.head.len ≡ head.len = ap (λ (h : MessageHead). h.len) o.head_is in
    let filled = o.filled in
    let within = o.within in
    let most = o.valid.len_within in
    omega (arith, len, filled, within, most)

-- a chunk that is through
pub record IsThrough (size : ℕ) (head : MessageHead) (message : Progress) (words : Notes) (bytes : List ℕ) : Type 0 where
  pub bytes_are : (with_chunk size message words).bytes ≡ bytes
  pub goes_on : is_last size message ≡ false → IsInHand size head bytes (with_chunk size message words)

pub chunk_through : (size : ℕ) (head : MessageHead) (bytes : List ℕ) (message : Progress) (words : Notes) (now : List ℕ) → IsInHand size head bytes message → now ≡ bytes ++ bytes_from words 0 (chunk_bytes size message)
    → IsThrough size head message words now
chunk_through size head bytes message words now o now_is = record {
  bytes_are = are;
  goes_on = λ more. let over = le_not message.head.len (size * suc message.chunks) more in record {
    head_is = o.head_is;
    bytes_are = are;
    filled = ap length now_is ∙ length-append bytes (bytes_from words 0 (chunk_bytes size message)) ∙ ap (λ (n : ℕ). length bytes + n) (length-bytes_from words 0 (chunk_bytes size message)) ∙ omega (arith, over, step, filled);
    within = omega (arith, over, step, len);
    valid = o.valid;
  };
}
  where
    len : message.head.len ≡ head.len
    len = ap (λ (h : MessageHead). h.len) o.head_is

    filled : length bytes ≡ size * message.chunks
    filled = o.filled

    step : size * suc message.chunks ≡ size * message.chunks + size
    step = mul-suc size message.chunks

    are : (with_chunk size message words).bytes ≡ now
    are = ap (λ (b : List ℕ). b ++ bytes_from words 0 (chunk_bytes size message)) o.bytes_are ∙ sym now_is

-- the bytes of a first chunk
pub count_first : (size : ℕ) (head : MessageHead) (words : Notes) → head_of words ≡ head → min head.len size ≡ chunk_bytes size (fresh_message (head_of words))
count_first size head words is =
    let len : (head_of words).len ≡ head.len = ap (λ (h : MessageHead). h.len) is in
    omega (arith, len)

-- the bytes of the chunk in hand, appended
pub pushed : (size : ℕ) (head : MessageHead) (chunk : NotedChunk) (old now : List ℕ) (count : ℕ) → ((m : Progress) → IsInHand size head old m → count ≡ chunk_bytes size m)
    → ((c : Notes) → IsChunkOf chunk c → length old + count ≤ 65536 → now ≡ old ++ bytes_from c 0 count) → (m : Progress) (c : Notes) → IsInHand size head old m → IsChunkOf chunk c → IsThrough size head m c now
pushed size head chunk old now count counts pushes m c o w =
    let is = counts m o in
    chunk_through size head old m c now o (pushes c w (subst (λ (n : ℕ). length old + n ≤ 65536) (sym is) (chunk_fits size head old m o)) ∙ ap (λ (n : ℕ). old ++ bytes_from c 0 n) is)

pub begun_in_hand : (size : ℕ) (head : MessageHead) → IsHead head → (h : MessageHead) → h ≡ head → IsInHand size head [] (fresh_message h)
begun_in_hand size head valid h is = record { head_is = is; bytes_are = refl; filled = omega arith; within = omega arith; valid = valid }

pub said_valid : (words : Notes) (head : MessageHead) → TellsHead words (Some head) → IsHead head
said_valid words head says = subst IsHead says.1 (head_is (head_of words) (both_second (has_all words 3) (is_head (head_of words)) says.0))

-- ---- which moves a stage permits

not_same : (mid : Standing) → mid ≡ standing.Idle → is_at_rest mid ≡ true
not_same mid is = ap is_at_rest is

module _ (size : ℕ) (header : NotedLine) (chunk : NotedChunk) (bytes : List ℕ) where
  pub header_open : (mid : Standing) (st : Stage) → KeepsStage size header chunk bytes mid st → opens_header mid ≡ drafts_header st
  header_open mid st AtIdle = refl
  header_open mid st (AtDraft line words a b) = refl
  header_open mid st (AtFill to head m c o w) = refl
  header_open mid st (AtRaised to head m c o w u) = refl
  header_open mid st (AtAnswered to head m c o w u) = refl
  header_open mid st (AtPause from head m o) = refl
  header_open mid st (AtTake from head m c o w) = refl
  header_open mid st (AtMeet comm seen released) = refl

  pub chunk_open : (mid : Standing) (st : Stage) → KeepsStage size header chunk bytes mid st → opens_chunk mid ≡ drafts_chunk st
  chunk_open mid st AtIdle = refl
  chunk_open mid st (AtDraft line words a b) = refl
  chunk_open mid st (AtFill to head m c o w) = refl
  chunk_open mid st (AtRaised to head m c o w u) = refl
  chunk_open mid st (AtAnswered to head m c o w u) = refl
  chunk_open mid st (AtPause from head m o) = refl
  chunk_open mid st (AtTake from head m c o w) = refl
  chunk_open mid st (AtMeet comm seen released) = refl

  pub rest_open : (mid : Standing) (st : Stage) → KeepsStage size header chunk bytes mid st → is_at_rest mid ≡ is_idle st
  rest_open mid st AtIdle = refl
  rest_open mid st (AtDraft line words a b) = refl
  rest_open mid st (AtFill to head m c o w) = refl
  rest_open mid st (AtRaised to head m c o w u) = refl
  rest_open mid st (AtAnswered to head m c o w u) = refl
  rest_open mid st (AtPause from head m o) = refl
  rest_open mid st (AtTake from head m c o w) = refl
  rest_open mid st (AtMeet comm seen released) = refl

  -- a first chunk
  pub raise_first : (st : Stage) → KeepsStage size header chunk bytes standing.Drafting st → (to : ℕ) (line drafted : Bool) → ((words : Notes) → IsLineOf header words → line ≡ is_whole_header words)
      → ((h c : Notes) → IsLineOf header h → IsChunkOf chunk c → drafted ≡ is_drafted size (fresh_message (head_of h)) c) → (line && drafted) ≡ may_raise size to st
  raise_first st (AtDraft h c a b) to line drafted lines chunks = λ i. lines h a i && chunks h c a b i

  -- a header line that says no head
  pub raise_unsaid : (st : Stage) → KeepsStage size header chunk bytes standing.Drafting st → (to : ℕ) → ((words : Notes) → IsLineOf header words → is_whole_header words ≡ false) → false ≡ may_raise size to st
  raise_unsaid st (AtDraft h c a b) to none = sym (ap (λ (x : Bool). x && is_drafted size (fresh_message (head_of h)) c) (none h a))

  -- a later chunk
  pub raise_later : (j : ℕ) (head : MessageHead) (st : Stage) → KeepsStage size header chunk bytes (standing.Filling j head) st → (to : ℕ) (drafted : Bool)
      → ((m : Progress) (c : Notes) → IsInHand size head bytes m → IsChunkOf chunk c → drafted ≡ is_drafted size m c) → ((j == to) && drafted) ≡ may_raise size to st
  raise_later j head st (AtFill i asked m c o w) to drafted chunks = ap (λ (x : Bool). (i == to) && x) (chunks m c o w)

  pub goes_answered : (j : ℕ) (head : MessageHead) (st : Stage) → KeepsStage size header chunk bytes (standing.Answered j head) st → (by : ℕ) (post : Option InFlight) → (j == by) ≡ may_go_on by st post
  goes_answered j head st (AtAnswered i asked m c o w u) by post = refl

  pub takes_first : (st : Stage) → KeepsStage size header chunk bytes standing.Idle st → (from : ℕ) (words : Notes) → says_head words ≡ may_take from (Some words) st
  takes_first st AtIdle from words = refl

  pub takes_later : (i : ℕ) (head : MessageHead) (st : Stage) → KeepsStage size header chunk bytes (standing.Between i head) st → (from : ℕ) (words : Notes) → (i == from) ≡ may_take from (Some words) st
  takes_later i head st (AtPause j asked m o) from words = refl

  pub taken_whole : (i : ℕ) (head : MessageHead) (st : Stage) → KeepsStage size header chunk bytes (standing.Taking i head) st → (to : ℕ) (whole : Bool)
      → ((m : Progress) (c : Notes) → IsInHand size head bytes m → IsChunkOf chunk c → whole ≡ is_whole size m c) → ((i == to) && whole) ≡ has_taken size to st
  taken_whole i head st (AtTake j asked m c o w) to whole tells = ap (λ (x : Bool). (j == to) && x) (tells m c o w)

  pub heap_filling : (j : ℕ) (head : MessageHead) (st : Stage) → KeepsStage size header chunk bytes (standing.Filling j head) st → not chunk.some ≡ leaves_heap st
  heap_filling j head st (AtFill i asked m c o w) = ap not w.some ∙ twice (is_empty c)
    where
      twice : (b : Bool) → not (not b) ≡ b
      twice true = refl
      twice false = refl

  pub released_next : (c seen released : ℕ) (st : Stage) → KeepsStage size header chunk bytes (standing.Meeting c seen released) st → (comm place value last v : ℕ)
      → ((c == comm) && ((seen == last) && ((place == suc released) && (value == v)))) ≡ may_release comm place value last v st
  released_next c seen released st (AtMeet d s r) comm place value last v = refl

  -- what no other stage permits
  pub raise_other : (mid : Standing) (st : Stage) → KeepsStage size header chunk bytes mid st → mid ≢ standing.Drafting → ((j : ℕ) (head : MessageHead) → mid ≢ standing.Filling j head) → (to : ℕ) → false ≡ may_raise size to st
  raise_other mid st AtIdle draft fill to = refl
  raise_other mid st (AtDraft h c a b) draft fill to = absurd (draft refl)
  raise_other mid st (AtFill j head m c o w) draft fill to = absurd (fill j head refl)
  raise_other mid st (AtRaised j head m c o w u) draft fill to = refl
  raise_other mid st (AtAnswered j head m c o w u) draft fill to = refl
  raise_other mid st (AtPause i head m o) draft fill to = refl
  raise_other mid st (AtTake i head m c o w) draft fill to = refl
  raise_other mid st (AtMeet comm seen released) draft fill to = refl

  pub goes_sending : (mid : Standing) (st : Stage) → KeepsStage size header chunk bytes mid st → ((j : ℕ) (head : MessageHead) → mid ≢ standing.Answered j head) → is_sending mid ≡ true → (by : ℕ) (post : Option InFlight) → false ≡ may_go_on by st post
  goes_sending mid st AtIdle other so by post = absurd (cc)
  goes_sending mid st (AtDraft h c a b) other so by post = absurd (cc)
  goes_sending mid st (AtFill j head m c o w) other so by post = refl
  goes_sending mid st (AtRaised j head m c o w u) other so by post = refl
  goes_sending mid st (AtAnswered j head m c o w u) other so by post = absurd (other j head refl)
  goes_sending mid st (AtPause i head m o) other so by post = absurd (cc)
  goes_sending mid st (AtTake i head m c o w) other so by post = absurd (cc)
  goes_sending mid st (AtMeet comm seen released) other so by post = absurd (cc)

  pub goes_posted : (mid : Standing) (st : Stage) → KeepsStage size header chunk bytes mid st → is_sending mid ≡ false → (by : ℕ) (post : Option InFlight) → is_answered_by by post ≡ may_go_on by st post
  goes_posted mid st AtIdle not_so by post = refl
  goes_posted mid st (AtDraft h c a b) not_so by post = refl
  goes_posted mid st (AtFill j head m c o w) not_so by post = absurd (cc)
  goes_posted mid st (AtRaised j head m c o w u) not_so by post = absurd (cc)
  goes_posted mid st (AtAnswered j head m c o w u) not_so by post = absurd (cc)
  goes_posted mid st (AtPause i head m o) not_so by post = refl
  goes_posted mid st (AtTake i head m c o w) not_so by post = refl
  goes_posted mid st (AtMeet comm seen released) not_so by post = refl

  pub heap_other : (mid : Standing) (st : Stage) → KeepsStage size header chunk bytes mid st → ((j : ℕ) (head : MessageHead) → mid ≢ standing.Filling j head) → leaves_words mid ≡ leaves_heap st
  heap_other mid st AtIdle other = refl
  heap_other mid st (AtDraft h c a b) other = refl
  heap_other mid st (AtFill j head m c o w) other = absurd (other j head refl)
  heap_other mid st (AtRaised j head m c o w u) other = refl
  heap_other mid st (AtAnswered j head m c o w u) other = refl
  heap_other mid st (AtPause i head m o) other = refl
  heap_other mid st (AtTake i head m c o w) other = refl
  heap_other mid st (AtMeet comm seen released) other = refl

  pub take_other : (mid : Standing) (st : Stage) → KeepsStage size header chunk bytes mid st → ((i : ℕ) (head : MessageHead) → mid ≢ standing.Between i head) → is_at_rest mid ≡ false → (from : ℕ) (words : Notes) → false ≡ may_take from (Some words) st
  take_other mid st AtIdle other not_so from words = absurd (cc)
  take_other mid st (AtDraft h c a b) other not_so from words = refl
  take_other mid st (AtFill j head m c o w) other not_so from words = refl
  take_other mid st (AtRaised j head m c o w u) other not_so from words = refl
  take_other mid st (AtAnswered j head m c o w u) other not_so from words = refl
  take_other mid st (AtPause i head m o) other not_so from words = absurd (other i head refl)
  take_other mid st (AtTake i head m c o w) other not_so from words = refl
  take_other mid st (AtMeet comm seen released) other not_so from words = refl

  pub take_rest : (mid : Standing) (st : Stage) → KeepsStage size header chunk bytes mid st → is_at_rest mid ≡ true → (from : ℕ) (words : Notes) → says_head words ≡ may_take from (Some words) st
  take_rest mid st AtIdle so from words = refl
  take_rest mid st (AtDraft h c a b) so from words = absurd (cc)
  take_rest mid st (AtFill j head m c o w) so from words = absurd (cc)
  take_rest mid st (AtRaised j head m c o w u) so from words = absurd (cc)
  take_rest mid st (AtAnswered j head m c o w u) so from words = absurd (cc)
  take_rest mid st (AtPause i head m o) so from words = absurd (cc)
  take_rest mid st (AtTake i head m c o w) so from words = absurd (cc)
  take_rest mid st (AtMeet comm seen released) so from words = absurd (cc)

  pub taken_other : (mid : Standing) (st : Stage) → KeepsStage size header chunk bytes mid st → ((i : ℕ) (head : MessageHead) → mid ≢ standing.Taking i head) → (to : ℕ) → false ≡ has_taken size to st
  taken_other mid st AtIdle other to = refl
  taken_other mid st (AtDraft h c a b) other to = refl
  taken_other mid st (AtFill j head m c o w) other to = refl
  taken_other mid st (AtRaised j head m c o w u) other to = refl
  taken_other mid st (AtAnswered j head m c o w u) other to = refl
  taken_other mid st (AtPause i head m o) other to = refl
  taken_other mid st (AtTake i head m c o w) other to = absurd (other i head refl)
  taken_other mid st (AtMeet comm seen released) other to = refl

  pub release_none : (mid : Standing) (st : Stage) → KeepsStage size header chunk bytes mid st → ((c s r : ℕ) → mid ≢ standing.Meeting c s r) → (comm place value last v : ℕ) → false ≡ may_release comm place value last v st
  release_none mid st AtIdle other asked place value last v = refl
  release_none mid st (AtDraft h c a b) other asked place value last v = refl
  release_none mid st (AtFill j head m c o w) other asked place value last v = refl
  release_none mid st (AtRaised j head m c o w u) other asked place value last v = refl
  release_none mid st (AtAnswered j head m c o w u) other asked place value last v = refl
  release_none mid st (AtPause i head m o) other asked place value last v = refl
  release_none mid st (AtTake i head m c o w) other asked place value last v = refl
  release_none mid st (AtMeet comm seen released) other asked place value last v = absurd (other comm seen released refl)

  pub ready_not_taking : (mid : Standing) (st : Stage) → KeepsStage size header chunk bytes mid st → ((i : ℕ) (head : MessageHead) → mid ≢ standing.Taking i head) → (to : ℕ) → has_taken size to st ≡ true → ⊥
  ready_not_taking mid st AtIdle other to may = absurd (cc)
  ready_not_taking mid st (AtDraft h c a b) other to may = absurd (cc)
  ready_not_taking mid st (AtFill j head m c o w) other to may = absurd (cc)
  ready_not_taking mid st (AtRaised j head m c o w u) other to may = absurd (cc)
  ready_not_taking mid st (AtAnswered j head m c o w u) other to may = absurd (cc)
  ready_not_taking mid st (AtPause i head m o) other to may = absurd (cc)
  ready_not_taking mid st (AtTake i head m c o w) other to may = absurd (other i head refl)
  ready_not_taking mid st (AtMeet comm seen released) other to may = absurd (cc)
