-- What the statements of a script that was read say of the lengths of a rank's registers.
use Rattle.std.proofs.Common.{◌≡◌, ◌≢◌, ℕ, ◌<◌, ◌≤◌, ◌%◌, true, List, All, length, slice_get, Option, Some, None, IfSome, IsSome, refl, subst}
use Rattle.std.proofs.lemmas.Option.{get_or_from_slice_get, slice_get_within}
use Rattle.groups.specs.Folds.{bytes_in}
use Rattle.groups.specs.declared.operations.Ty.{Ty}
use Rattle.scc_base.specs.Communicators.{key_of}
use Rattle.scc_base.specs.Groups.{place_in}
use Rattle.scc_base.specs.declared.communicators.CommRule.{CommRule}
use Rattle.script_rules.specs.Acceptance.{IsFitting, IsPostable, IsReadable, IsWholeOf, length_before, length_of}
use Rattle.script_rules.specs.Effects.{effect_of}
use Rattle.script_rules.specs.Script.{Script, has_rank, rules_of}
use Rattle.script_rules.specs.Settled.{IsWholeScript, run_with}
use Rattle.script_rules.specs.declared.script.Item.{Item}
use Rattle.script_rules.specs.declared.script.Stmt.{Stmt}
use Rattle.script_rules.specs.declared.script.Stmt.TheVariants as stmt
use Rattle.script_rules.proofs.AcceptanceLemmas.{fitting-law, postable-law, set-law, stays-law}

-- a length that is there, and a multiple of the type's width
abbrev pub IsEven : Ty → Option ℕ → Type 0
IsEven ty had = (n : ℕ) × (had ≡ Some n) × (n % bytes_in ty ≡ 0)

-- what a statement of a rank says of the lengths of its registers
abbrev pub Reckons : List CommRule → (ℕ → Option ℕ) → ℕ → Stmt → Type 0
Reckons comms had rank (stmt.Bytes reg bytes) = had reg ≡ Some (length bytes)
Reckons comms had rank (stmt.Fill reg len start) = had reg ≡ Some len
Reckons comms had rank (stmt.RankOf reg ty) = had reg ≡ Some (bytes_in ty)
Reckons comms had rank (stmt.Post peer reg) = (n : ℕ) × (had reg ≡ Some n) × (n ≤ 3584)
Reckons comms had rank (stmt.Recv peer reg len) = had reg ≡ Some len
Reckons comms had rank (stmt.Bcast comm root reg len) = place_in (key_of comms comm) rank ≢ root → had reg ≡ Some len
Reckons comms had rank (stmt.Reduce comm root op ty dst src) = IsEven ty (had src) × (place_in (key_of comms comm) rank ≡ root → had dst ≡ had src)
Reckons comms had rank (stmt.Allreduce comm op ty dst src) = IsEven ty (had src) × (had dst ≡ had src)
Reckons comms had rank _ = Unit {0}

there_by : (o : Option ℕ) → IsSome o → (n : ℕ) × (o ≡ Some n)
there_by None is = absurd (cc)
there_by (Some n) is = (n, refl)

-- a register that was read has its length in the whole script too
module _ (nue : ℕ) (comms : List CommRule) (before had : ℕ → Option ℕ) (rank : ℕ) (stays : (reg n : ℕ) → before reg ≡ Some n → had reg ≡ Some n) where
  even : (ty : Ty) (src : ℕ) → IsSome (before src) → IsWholeOf ty (had src) → IsEven ty (had src)
  even ty src there whole =
      let here = there_by (before src) there in
      let is = stays src here.0 here.1 in
      (here.0, is, subst (λ (o : Option ℕ). IfSome o (λ size. size % bytes_in ty ≡ 0)) is whole)

  reckons : (s : Stmt) → IsReadable (run_with nue comms) before (effect_of s) rank → IsFitting (run_with nue comms) had (effect_of s) rank → IsPostable had (effect_of s) → Reckons comms had rank s
  reckons (stmt.Bytes reg bytes) reads fits posts = fits.given
  reckons (stmt.Fill reg len start) reads fits posts = fits.given
  reckons (stmt.RankOf reg ty) reads fits posts = fits.given
  reckons (stmt.Post peer reg) reads fits posts =
      let here = there_by (before reg) reads in
      let is = stays reg here.0 here.1 in
      (here.0, is, subst (λ (o : Option ℕ). IfSome o (λ size. size ≤ 3584)) is posts)
  reckons (stmt.Recv peer reg len) reads fits posts = fits.given
  reckons (stmt.Bcast comm root reg len) reads fits posts = fits.given
  reckons (stmt.Reduce comm root op ty dst src) reads fits posts = (even ty src reads fits.needed, fits.given)
  reckons (stmt.Allreduce comm op ty dst src) reads fits posts = (even ty src reads fits.needed, fits.given)
  reckons _ reads fits posts = tt

-- what is true of each item is true of the one at a place
pub at-found : (P : Item → Type 0) (items : List Item) (k : ℕ) (item : Item) → All P items → slice_get items k ≡ Some item → P item
at-found P items k item all found = subst P (get_or_from_slice_get items k item item found) (all k item (slice_get_within items k item found))

-- what each statement of a script that was read says of the lengths of a rank's registers
pub reckoned : (script : Script) → IsWholeScript script.nue script.items → (k : ℕ) (item : Item) (rank : ℕ) → slice_get script.items k ≡ Some item → rank < script.nue → has_rank item.who rank ≡ true
    → Reckons (rules_of script.items) (length_of script rank) rank item.stmt
reckoned script whole k item rank found below has =
    reckons script.nue (rules_of script.items) (length_before script k rank) (length_of script rank) rank (λ reg n is. stays-law script k rank reg n is) item.stmt
    (set-law script whole k item found rank below has) (fitting-law script whole k item found rank below has) (postable-law script whole k item found rank below has)
