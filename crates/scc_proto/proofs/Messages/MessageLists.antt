-- The messages and the barriers of lists of calls.
use Rattle.std.proofs.Common.{◌≡◌, ℕ, suc, ◌+◌, Bool, true, false, ◌==◌, if◌then◌else◌, List, [], ◌∷◌, ◌++◌, refl, ◌∙◌, ap, arith, append-nil}
use Rattle.scc_base.specs.Calls.{DataCall, Send, Recv, Post, Bar, Message}
use Rattle.scc_proto.specs.Messages.{sent_messages, received_messages, barriers_of, send_to, recv_from, post_to}

-- a message that a test lets in
abbrev pub message_if : Bool → Message → List Message
message_if b message = if b then message ∷ [] else []

module _ (r : ℕ) where
  front : (b : Bool) (x : Message) (l m : List Message) → l ≡ m → (if b then x ∷ l else l) ≡ (if b then x ∷ m else m)
  front b x l m e = ap (λ (n : List Message). if b then x ∷ n else n) e

  shift : (b : Bool) (x : Message) (l m : List Message) → (if b then x ∷ (l ++ m) else (l ++ m)) ≡ (if b then x ∷ l else l) ++ m
  shift true x l m = refl
  shift false x l m = refl

  pub sent_messages-append : (a b : List DataCall) → sent_messages r (a ++ b) ≡ sent_messages r a ++ sent_messages r b
  sent_messages-append [] b = refl
  sent_messages-append (Send to head bytes ∷ a) b = front (to == r) (record { head = head; bytes = bytes }) _ _ (sent_messages-append a b) ∙ shift (to == r) (record { head = head; bytes = bytes }) (sent_messages r a) (sent_messages r b)
  sent_messages-append (Post to head bytes ∷ a) b = front (to == r) (record { head = head; bytes = bytes }) _ _ (sent_messages-append a b) ∙ shift (to == r) (record { head = head; bytes = bytes }) (sent_messages r a) (sent_messages r b)
  sent_messages-append (Recv from head bytes ∷ a) b = sent_messages-append a b
  sent_messages-append (Bar comm ∷ a) b = sent_messages-append a b

  pub received_messages-append : (a b : List DataCall) → received_messages r (a ++ b) ≡ received_messages r a ++ received_messages r b
  received_messages-append [] b = refl
  received_messages-append (Send to head bytes ∷ a) b = received_messages-append a b
  received_messages-append (Post to head bytes ∷ a) b = received_messages-append a b
  received_messages-append (Recv from head bytes ∷ a) b = front (from == r) (record { head = head; bytes = bytes }) _ _ (received_messages-append a b) ∙ shift (from == r) (record { head = head; bytes = bytes }) (received_messages r a) (received_messages r b)
  received_messages-append (Bar comm ∷ a) b = received_messages-append a b

  counted : (b : Bool) (n m k : ℕ) → n ≡ m + k → (if b then suc n else n) ≡ (if b then suc m else m) + k
  counted true n m k e = omega arith
  counted false n m k e = e

  pub barriers_of-append : (a b : List DataCall) → barriers_of r (a ++ b) ≡ barriers_of r a + barriers_of r b
  barriers_of-append [] b = omega arith
  barriers_of-append (Send to head bytes ∷ a) b = barriers_of-append a b
  barriers_of-append (Post to head bytes ∷ a) b = barriers_of-append a b
  barriers_of-append (Recv from head bytes ∷ a) b = barriers_of-append a b
  barriers_of-append (Bar comm ∷ a) b = counted (comm == r) _ _ _ (barriers_of-append a b)

  -- one more call at the end
  pub sent_messages-send : (calls : List DataCall) (to : ℕ) (message : Message) → sent_messages r (calls ++ send_to to message ∷ []) ≡ sent_messages r calls ++ message_if (to == r) message
  sent_messages-send calls to message = sent_messages-append calls (send_to to message ∷ [])

  pub sent_messages-post : (calls : List DataCall) (to : ℕ) (message : Message) → sent_messages r (calls ++ post_to to message ∷ []) ≡ sent_messages r calls ++ message_if (to == r) message
  sent_messages-post calls to message = sent_messages-append calls (post_to to message ∷ [])

  pub sent_messages-recv : (calls : List DataCall) (from : ℕ) (message : Message) → sent_messages r (calls ++ recv_from from message ∷ []) ≡ sent_messages r calls
  sent_messages-recv calls from message = sent_messages-append calls (recv_from from message ∷ []) ∙ append-nil (sent_messages r calls)

  pub sent_messages-bar : (calls : List DataCall) (comm : ℕ) → sent_messages r (calls ++ Bar comm ∷ []) ≡ sent_messages r calls
  sent_messages-bar calls comm = sent_messages-append calls (Bar comm ∷ []) ∙ append-nil (sent_messages r calls)

  pub received_messages-recv : (calls : List DataCall) (from : ℕ) (message : Message) → received_messages r (calls ++ recv_from from message ∷ []) ≡ received_messages r calls ++ message_if (from == r) message
  received_messages-recv calls from message = received_messages-append calls (recv_from from message ∷ [])

  pub received_messages-send : (calls : List DataCall) (to : ℕ) (message : Message) → received_messages r (calls ++ send_to to message ∷ []) ≡ received_messages r calls
  received_messages-send calls to message = received_messages-append calls (send_to to message ∷ []) ∙ append-nil (received_messages r calls)

  pub received_messages-post : (calls : List DataCall) (to : ℕ) (message : Message) → received_messages r (calls ++ post_to to message ∷ []) ≡ received_messages r calls
  received_messages-post calls to message = received_messages-append calls (post_to to message ∷ []) ∙ append-nil (received_messages r calls)

  pub received_messages-bar : (calls : List DataCall) (comm : ℕ) → received_messages r (calls ++ Bar comm ∷ []) ≡ received_messages r calls
  received_messages-bar calls comm = received_messages-append calls (Bar comm ∷ []) ∙ append-nil (received_messages r calls)

-- the message goes to this rank, or to another one
pub message_here : (l : List Message) (a r : ℕ) (message : Message) → (a == r) ≡ true → l ++ message_if (a == r) message ≡ l ++ message ∷ []
message_here l a r message t = ap (λ b. l ++ message_if b message) t

pub message_there : (l : List Message) (a r : ℕ) (message : Message) → (a == r) ≡ false → l ++ message_if (a == r) message ≡ l
message_there l a r message t = ap (λ b. l ++ message_if b message) t ∙ append-nil l
