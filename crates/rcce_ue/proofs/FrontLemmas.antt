-- The front of the inbox, which a receive fills.
use Rattle.std.proofs.Common.{◌≡◌, ℕ, List, ◌++◌, length, take, take_at, sym, ap, ◌∙◌, subst}
use Rattle.scc_proto.specs.Ports.{Sight}
use Rattle.put_get.specs.Cores.{Private}
use Rattle.send_recv.specs.Ops.{RecvAt}
use Rattle.send_recv.specs.Receiving.{RecvStands}

-- the front of the inbox is as long as the message, before the turn and after it
module _ (op now : RecvAt) (len : ℕ) (kept : len ≡ op.head.len) (seen : op ≡ now) where
  pub asked : len ≡ now.head.len
  asked = kept ∙ ap (λ (x : RecvAt). x.head.len) seen

  pub front_is : (inbox front : List ℕ) → front ≡ take len inbox → front ≡ take now.head.len inbox
  front_is inbox front is = is ∙ ap (λ (n : ℕ). take n inbox) asked

  pub stands_in : (s : Sight) (c : Private) (inbox front : List ℕ) → front ≡ take len inbox → RecvStands s c now (take now.head.len inbox) → RecvStands s c op front
  stands_in s c inbox front is stands =
      subst (λ (x : RecvAt). RecvStands s c x front) (sym seen) (subst (λ (l : List ℕ). RecvStands s c now l) (sym (front_is inbox front is)) stands)

  pub back_is : (after rest front : List ℕ) → length front ≡ len → length after ≡ length front → after ≡ take now.head.len (after ++ rest)
  back_is after rest front long same = sym (take_at after rest now.head.len (same ∙ long ∙ asked))
