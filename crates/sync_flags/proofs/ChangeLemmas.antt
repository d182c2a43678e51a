-- The change of a flag in one turn, from the write of its word or the try at its bit.
use Rattle.std.proofs.Common.{◌≡◌, ℕ, Bool, true, Option, Some, None, refl, sym, ap, subst}
use Rattle.scc_base.specs.Places.{WordAt}
use Rattle.scc_proto.specs.Ports.{Sight}
use Rattle.put_get.specs.Cores.{Private, WritesThrough}
use Rattle.sync_flags.specs.Flags.{flag_value}
use Rattle.sync_flags.specs.Writes.{MayWriteThrough, MayTurn, MayChangeFlag, TriesChange, ChangesFlag}

-- what is asked of a flag that is a whole word
pub word_may : (s : Sight) (c : Private) (place : WordAt) (bit : Option ℕ) (set : Bool) (value : ℕ) → MayChangeFlag s c place bit set → bit ≡ None
    → value ≡ flag_value set → MayWriteThrough s c place value
word_may s c place bit set value may none is =
    subst (λ v. MayWriteThrough s c place v) (sym is) (subst (λ (o : Option ℕ). MayChangeFlag s c place o set) none may)

-- what is asked of a flag that is a bit
pub bit_may : (s : Sight) (c : Private) (place : WordAt) (bit : Option ℕ) (set : Bool) (b : ℕ) → MayChangeFlag s c place bit set → bit ≡ Some b
    → MayTurn s c place b set
bit_may s c place bit set b may some = subst (λ (o : Option ℕ). MayChangeFlag s c place o set) some may

pub word_changes : (s t : Sight) (c d : Private) (place : WordAt) (bit : Option ℕ) (set : Bool) (value : ℕ) → bit ≡ None → value ≡ flag_value set
    → WritesThrough s c place value t d → ChangesFlag s c place bit set true t d
word_changes s t c d place bit set value none is writes =
    subst (λ (o : Option ℕ). ChangesFlag s c place o set true t d) (sym none) (refl, subst (λ v. WritesThrough s c place v t d) is writes)

pub bit_changes : (s t : Sight) (c d : Private) (place : WordAt) (bit : Option ℕ) (set : Bool) (b : ℕ) (done : Bool) → bit ≡ Some b
    → MayChangeFlag s c place bit set → TriesChange s c place b set done t d → ChangesFlag s c place bit set done t d
bit_changes s t c d place bit set b done some may tries =
    subst (λ (o : Option ℕ). ChangesFlag s c place o set done t d) (sym some) (tries, (bit_may s c place bit set b may some).turns)

-- nothing waits in the write-combining buffer after a word was written through
pub through_empty : {s t : Sight} {c d : Private} {place : WordAt} {value : ℕ} → WritesThrough s c place value t d → d.out ≡ None
through_empty writes = ap (λ (x : Private). x.out) writes.is
