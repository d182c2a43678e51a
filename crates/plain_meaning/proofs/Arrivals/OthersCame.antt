-- That the others of a group came to a collective call: who has received a message of it, received it from a rank that was
-- there.
use Rattle.std.proofs.Common.{◌≡◌, ℕ, suc, ◌+◌, ◌*◌, ◌<◌, ◌≤◌, ◌==◌, true, false, List, [], ◌∷◌, ◌++◌, length, Option, Some, None, refl, sym, ap, ◌∙◌, subst, arith, slice_get, slice_set, length-append, ⊎_elim}
use Rattle.std.proofs.lemmas.Bool.{cases_lt}
use Rattle.std.proofs.lemmas.Option.{slice_get_within}
use Rattle.scc_base.specs.Calls.{DataCall, Message}
use Rattle.scc_base.specs.Heads.{kind_number}
use Rattle.scc_base.specs.Setups.{SetupView}
use Rattle.scc_base.specs.declared.kinds.Kind.{Kind}
use Rattle.scc_base.specs.declared.kinds.Kind.TheVariants as kind_of
use Rattle.groups.specs.Collectives.{head_of_kind, others_of}
use Rattle.groups.specs.declared.collectives.Coll.{Coll}
use Rattle.groups.specs.declared.collectives.Coll.TheVariants as coll
use Rattle.groups.specs.declared.operations.Op.{Op}
use Rattle.groups.specs.declared.operations.Ty.{Ty}
use Rattle.script_rules.specs.Script.{Script}
use Rattle.script_rules.specs.declared.script.Stmt.{Stmt}
use Rattle.script_rules.specs.declared.script.Stmt.TheVariants as stmt
use Rattle.script_machine.specs.declared.prims.Operands.{Operands}
use Rattle.script_machine.specs.declared.prims.Source.TheVariants as source_of
use Rattle.plain_meaning.specs.Collectives.{AllCame, AllGive, AreOwnWays, CameTo, Casts, GivesPart, IsOther, OthersGave, OthersGaveToAll, RootCame, TellsFold, gone_through}
use Rattle.script_machine.specs.Local.{register_at}
use Rattle.plain_meaning.specs.Meaning.{State}
use Rattle.plain_meaning.specs.Messages.{AreDelivered, is_of, received_by, sent_by}
use Rattle.script_machine.specs.Program.{Act, Prim, acts_of, can_call, setup_of}
use Rattle.script_machine.specs.Program.Act.{Begin, Finish, Gather, Accept, Send}
use Rattle.plain_meaning.specs.Step.{Configuration}
use Rattle.plain_meaning.proofs.Collectives.BroadcastLaws.{bcast_accepts, broadcast, faces, own_kind}
use Rattle.plain_meaning.proofs.Collectives.CollectiveFits.{AreFit}
use Rattle.plain_meaning.proofs.Collectives.CollectiveGroups.{gathers, is_in_others}
use Rattle.plain_meaning.proofs.Collectives.CollectivePaths.{Facing, chosen, through_both}
use Rattle.plain_meaning.proofs.Arrivals.CountLaws.{counted}
use Rattle.plain_meaning.proofs.Arrivals.FoundCalls.{CameToSend, sender_came}
use Rattle.plain_meaning.proofs.Arrivals.MessageCounts.{got_so_far, sent_in, sent_so_far, total_of}
use Rattle.plain_meaning.proofs.Messages.MessageLaws.{received_as_sent}
use Rattle.plain_meaning.proofs.Collectives.ReductionLaws.{all_reduced, allreduce_at_other, allreduce_at_root, comes_in, down_sends, reduce_at_other, reduce_at_root, reduced, tells, told_accepts}
use Rattle.plain_meaning.proofs.Collectives.ReductionPaths.{fold_operands, gathers_length}
use Rattle.plain_meaning.proofs.Arrivals.StatementSends.{IsBcastOf, IsCallOf, MakesOne, all_down_makes, all_up_makes, bcast_makes, reduce_makes}
use Rattle.plain_meaning.proofs.Arrivals.CameLemmas.{cell_at, gets_each, makes_such, message_at, reduce_is, sends_none, still_got}

module _ (script : Script) (c : Configuration State) (delivered : AreDelivered c) (fit : AreFit script c) (own : AreOwnWays script c) (even : length c.cells ≡ script.nue) where
  -- each of the others gave the bytes that came to the root
  module _ (call : Op → Ty → ℕ → ℕ → Stmt) (coll : Coll) (kind : Kind) (comm place root : ℕ) (u begun : State) (at_root : slice_get c.cells root ≡ Some u) (apart : (0 == kind_number kind) ≡ false)
      (tail : ℕ → ℕ → List Act)
      (gives : (rank : ℕ) (op : Op) (ty : Ty) (dst src : ℕ) → can_call (setup_of script) rank coll ≡ true → IsOther (setup_of script) comm place root rank → acts_of (setup_of script) rank (call op ty dst src) ≡ Send root (head_of_kind kind comm 0) (source_of.Own src) ∷ tail dst src)
      (makes : (rank : ℕ) → IsOther (setup_of script) comm place root rank → (statement : Stmt) → MakesOne (total_of (sent_in (kind_number kind) comm root) (acts_of (setup_of script) rank statement)) (IsCallOf (setup_of script) rank call coll statement))
      (may : (rank : ℕ) (op : Op) (ty : Ty) (dst src : ℕ) (now before : State) → slice_get c.cells rank ≡ Some now → CameTo script rank (call op ty dst src) now before → can_call (setup_of script) rank coll ≡ true) where
    abbrev bytes_in_message : Option Message → List ℕ
    bytes_in_message (Some m) = m.bytes
    bytes_in_message None = []

    abbrev bytes_from : ℕ → List ℕ
    bytes_from rank = bytes_in_message (slice_get (chosen (is_of (kind_number kind) comm) (received_by rank) u.matched) (got_so_far (kind_number kind) comm rank begun))

    gave : ((rank : ℕ) → IsOther (setup_of script) comm place root rank → got_so_far (kind_number kind) comm rank begun < got_so_far (kind_number kind) comm rank u) → AllGive script c call kind comm place root begun bytes_from
    gave got rank is = by (slice_get (chosen (is_of K comm) (received_by rank) u.matched) n) refl
      where
        K : ℕ
        K = kind_number kind

        n : ℕ
        n = got_so_far K comm rank begun

        by : (o : Option Message) → slice_get (chosen (is_of K comm) (received_by rank) u.matched) n ≡ o → GivesPart script c call kind comm root begun rank (bytes_in_message o)
        by None none = absurd (message_at (chosen (is_of K comm) (received_by rank) u.matched) n (got rank is) none)
        by (Some m) found = record {
          op = f.such.op;
          ty = f.such.ty;
          dst = f.such.dst;
          src = f.such.src;
          now = v.0;
          before = f.begun;
          there = v.1;
          came = came;
          same = f.number;
          given = sym comes;
        }
          where
            v : (w : State) × (slice_get c.cells rank ≡ Some w)
            v = cell_at script c rank even is.below

            f : CameToSend script K comm root rank n (IsCallOf (setup_of script) rank call coll) v.0
            f = sender_came script c K comm root rank n (IsCallOf (setup_of script) rank call coll) v.0 m apart (makes rank is) own v.1
                (received_as_sent c delivered K comm n rank root v.0 u m v.1 at_root found)

            came : CameTo script rank (call f.such.op f.such.ty f.such.dst f.such.src) v.0 f.begun
            came = subst (λ (x : Stmt). CameTo script rank x v.0 f.begun) f.such.is f.came

            comes : m.bytes ≡ register_at f.begun.local f.such.src
            comes =
                (comes_in script c delivered call coll kind comm place root u begun at_root tail gives may rank (λ j. register_at f.begun.local f.such.src) is
                (record {
                  op = f.such.op;
                  ty = f.such.ty;
                  dst = f.such.dst;
                  src = f.such.src;
                  now = v.0;
                  before = f.begun;
                  there = v.1;
                  came = came;
                  same = f.number;
                  given = refl;
                }) m found).0

    -- what one of them gave is what came to the root
    gives_once : (rank : ℕ) (x y : List ℕ) → IsOther (setup_of script) comm place root rank → got_so_far (kind_number kind) comm rank begun < got_so_far (kind_number kind) comm rank u
        → GivesPart script c call kind comm root begun rank x → GivesPart script c call kind comm root begun rank y → x ≡ y
    gives_once rank x y is got one two = by (slice_get (chosen (is_of (kind_number kind) comm) (received_by rank) u.matched) (got_so_far (kind_number kind) comm rank begun)) refl
      where
        by : (o : Option Message) → slice_get (chosen (is_of (kind_number kind) comm) (received_by rank) u.matched) (got_so_far (kind_number kind) comm rank begun) ≡ o → x ≡ y
        by None none = absurd (message_at (chosen (is_of (kind_number kind) comm) (received_by rank) u.matched) (got_so_far (kind_number kind) comm rank begun) got none)
        by (Some m) found =
            sym (comes_in script c delivered call coll kind comm place root u begun at_root tail gives may rank (λ j. x) is one m found).0
            ∙ (comes_in script c delivered call coll kind comm place root u begun at_root tail gives may rank (λ j. y) is two m found).0

  -- the root came to the broadcast that another has done
  pub root_came : RootCame script c
  root_came comm place size dst root rank v before after at_rank other done =
      (register_at f.begun.local f.such.reg, casts, broadcast script c delivered fit comm place f.such.len size f.such.reg dst root rank u.0 v f.begun before after u.1 at_rank other casts.came done f.number)
    where
      s : SetupView
      s = setup_of script

      K : ℕ
      K = kind_number kind_of.Bcast

      accepted : (m : Message) × (after.local.registers ≡ slice_set before.local.registers dst m.bytes)
          × (slice_get (chosen (is_of K comm) (received_by root) v.matched) (length (chosen (is_of K comm) (received_by root) before.matched)) ≡ Some m)
      accepted = bcast_accepts script comm place size dst root rank v before after other (fit.casts rank v before comm place dst size at_rank done.stood) done

      u : (w : State) × (slice_get c.cells root ≡ Some w)
      u = cell_at script c root even other.placed.below

      f : CameToSend script K comm rank root (got_so_far K comm root before) (IsBcastOf s root comm) u.0
      f = sender_came script c K comm rank root (got_so_far K comm root before) (IsBcastOf s root comm) u.0 accepted.0 refl (bcast_makes s root comm rank) own u.1
          (received_as_sent c delivered K comm (got_so_far K comm root before) root rank u.0 v accepted.0 u.1 at_rank accepted.2)

      same : f.such.place ≡ place
      same = sym f.such.at ∙ other.placed.placed

      casts : Casts script c comm place root rank before (register_at f.begun.local f.such.reg)
      casts = record {
        reg = f.such.reg;
        len = f.such.len;
        now = u.0;
        begun = f.begun;
        there = u.1;
        came = subst (λ (x : Stmt). CameTo script root x u.0 f.begun) (f.such.is ∙ ap (λ (p : ℕ). stmt.Bcast comm p f.such.reg f.such.len) same) f.came;
        same = f.number;
        given = refl;
      }

  -- the others came to the reduction that the root has done
  pub others_gave : OthersGave script c
  others_gave comm place dst src root op ty u begun after at_root at done =
      (bytes, given, reduced script c delivered fit comm place dst src root op ty u begun after bytes at_root at done given)
    where
      s : SetupView
      s = setup_of script

      K : ℕ
      K = kind_number kind_of.Reduce

      others : List ℕ
      others = others_of s comm root place

      o : Operands
      o = fold_operands op ty dst src

      acts : acts_of s root (stmt.Reduce comm place op ty dst src) ≡ Begin src ∷ gathers o (head_of_kind kind_of.Reduce comm 0) others ++ Finish dst ∷ []
      acts = reduce_at_root s comm place root dst src op ty (fit.reduces root u begun comm place dst src op ty at_root done.stood) at

      count : length done.taken ≡ suc (2 * length others + 1)
      count = done.each ∙ ap length acts
          ∙ ap suc (length-append (gathers o (head_of_kind kind_of.Reduce comm 0) others) (Finish dst ∷ [])
          ∙ ap (λ (n : ℕ). n + 1) (gathers_length o (head_of_kind kind_of.Reduce comm 0) others))

      got : (rank : ℕ) → IsOther s comm place root rank → got_so_far K comm rank begun < got_so_far K comm rank u
      got rank is =
          let more = gets_each K comm done.stood.item.line src o (head_of_kind kind_of.Reduce comm 0) (Finish dst ∷ []) done.stood.rest others begun (faces script root (stmt.Reduce comm place op ty dst src) begun done.stood _ acts)
          rank done.taken (own_kind kind_of.Reduce comm 0) (is_in_others s comm place root rank is) (omega (arith, count)) in
          let kept = still_got K comm rank done.later after in
          let here : got_so_far K comm rank after ≡ got_so_far K comm rank (gone_through done.taken begun) = ap (got_so_far K comm rank) done.came in
          let now : got_so_far K comm rank u ≡ got_so_far K comm rank (gone_through done.later after) = ap (λ (l : List DataCall). length (chosen (is_of K comm) (received_by rank) l)) done.since in
          omega (arith, more, kept, here, now)

      makes : (rank : ℕ) → IsOther s comm place root rank → (statement : Stmt) → MakesOne (total_of (sent_in K comm root) (acts_of s rank statement)) (IsCallOf s rank (stmt.Reduce comm place) (coll.Reduce comm place 0) statement)
      makes rank is statement = makes_such _ _ _ (reduce_is s comm place root rank is statement) (reduce_makes s rank comm root statement)

      may : (rank : ℕ) (p : Op) (t : Ty) (d r : ℕ) (now before : State) → slice_get c.cells rank ≡ Some now → CameTo script rank (stmt.Reduce comm place p t d r) now before → can_call s rank (coll.Reduce comm place 0) ≡ true
      may rank p t d r now before there came = fit.reduces rank now before comm place d r p t there came.stood

      bytes : ℕ → List ℕ
      bytes = bytes_from (stmt.Reduce comm place) (coll.Reduce comm place 0) kind_of.Reduce comm place root u begun at_root refl (λ d r. []) (λ j p t d r can is. reduce_at_other s comm place root j d r p t can is) makes may

      given : AllGive script c (stmt.Reduce comm place) kind_of.Reduce comm place root begun bytes
      given = gave (stmt.Reduce comm place) (coll.Reduce comm place 0) kind_of.Reduce comm place root u begun at_root refl (λ d r. []) (λ j p t d r can is. reduce_at_other s comm place root j d r p t can is) makes may got

  -- a reduction to all: wherever member 0 has all messages, the others came to it
  module _ (comm root : ℕ) (u begun : State) (at_root : slice_get c.cells root ≡ Some u) where
    may_up : (rank : ℕ) (p : Op) (t : Ty) (d r : ℕ) (now before : State) → slice_get c.cells rank ≡ Some now → CameTo script rank (stmt.Allreduce comm p t d r) now before → can_call (setup_of script) rank (coll.Allreduce comm 0) ≡ true
    may_up rank p t d r now before there came = fit.reduces_to_all rank now before comm d r p t there came.stood

    abbrev bytes_up : ℕ → List ℕ
    bytes_up = bytes_from (stmt.Allreduce comm) (coll.Allreduce comm 0) kind_of.AllUp comm 0 root u begun at_root refl (λ d r. Gather root (head_of_kind kind_of.AllDown comm 0) (Some r) ∷ Accept d ∷ [])
        (λ j p t d r can is. allreduce_at_other (setup_of script) comm root j d r p t can is) (λ j is. all_up_makes (setup_of script) j comm root) may_up

    gave_up : ((rank : ℕ) → IsOther (setup_of script) comm 0 root rank → got_so_far (kind_number kind_of.AllUp) comm rank begun < got_so_far (kind_number kind_of.AllUp) comm rank u)
        → AllGive script c (stmt.Allreduce comm) kind_of.AllUp comm 0 root begun bytes_up
    gave_up got = gave (stmt.Allreduce comm) (coll.Allreduce comm 0) kind_of.AllUp comm 0 root u begun at_root refl (λ d r. Gather root (head_of_kind kind_of.AllDown comm 0) (Some r) ∷ Accept d ∷ [])
        (λ j p t d r can is. allreduce_at_other (setup_of script) comm root j d r p t can is) (λ j is. all_up_makes (setup_of script) j comm root) may_up got

    up_once : (rank : ℕ) (x y : List ℕ) → IsOther (setup_of script) comm 0 root rank → got_so_far (kind_number kind_of.AllUp) comm rank begun < got_so_far (kind_number kind_of.AllUp) comm rank u
        → GivesPart script c (stmt.Allreduce comm) kind_of.AllUp comm root begun rank x → GivesPart script c (stmt.Allreduce comm) kind_of.AllUp comm root begun rank y → x ≡ y
    up_once = gives_once (stmt.Allreduce comm) (coll.Allreduce comm 0) kind_of.AllUp comm 0 root u begun at_root refl (λ d r. Gather root (head_of_kind kind_of.AllDown comm 0) (Some r) ∷ Accept d ∷ [])
        (λ j p t d r can is. allreduce_at_other (setup_of script) comm root j d r p t can is) (λ j is. all_up_makes (setup_of script) j comm root) may_up

    module _ (dst src : ℕ) (op : Op) (ty : Ty) (line : ℕ) (rest : List Prim)
        (facing : Facing line (Begin src ∷ gathers (fold_operands op ty dst src) (head_of_kind kind_of.AllUp comm 0) (others_of (setup_of script) comm root 0) ++ down_sends comm dst (others_of (setup_of script) comm root 0)) rest begun) where
      -- a member 0 that has gone past its folds
      past_got : (path : List (List ℕ)) → u.matched ≡ (gone_through path begun).matched → suc (2 * length (others_of (setup_of script) comm root 0)) ≤ length path
          → (rank : ℕ) → IsOther (setup_of script) comm 0 root rank → got_so_far (kind_number kind_of.AllUp) comm rank begun < got_so_far (kind_number kind_of.AllUp) comm rank u
      past_got path since low rank is =
          let U = kind_number kind_of.AllUp in
          let more = gets_each U comm line src (fold_operands op ty dst src) (head_of_kind kind_of.AllUp comm 0) (down_sends comm dst (others_of (setup_of script) comm root 0)) rest (others_of (setup_of script) comm root 0) begun facing
          rank path (own_kind kind_of.AllUp comm 0) (is_in_others (setup_of script) comm 0 root rank is) low in
          let now : got_so_far U comm rank u ≡ got_so_far U comm rank (gone_through path begun) = ap (λ (l : List DataCall). length (chosen (is_of U comm) (received_by rank) l)) since in
          omega (arith, more, now)

      -- has done so where it has sent one of the others its fold
      past_folds_by : (rank : ℕ) (path : List (List ℕ)) → sent_so_far (kind_number kind_of.AllDown) comm rank begun < sent_so_far (kind_number kind_of.AllDown) comm rank (gone_through path begun)
          → suc (2 * length (others_of (setup_of script) comm root 0)) ≤ length path
      past_folds_by rank path sent =
          ⊎_elim
          (λ (short : length path < suc (2 * length (others_of (setup_of script) comm root 0))).
          let none = sends_none (kind_number kind_of.AllDown) comm line src (fold_operands op ty dst src) (head_of_kind kind_of.AllUp comm 0) (down_sends comm dst (others_of (setup_of script) comm root 0)) rest (others_of (setup_of script) comm root 0) begun facing
          rank path refl (omega (arith, short)) in
          absurd (omega (arith, none, sent)))
          (λ (long : suc (2 * length (others_of (setup_of script) comm root 0)) ≤ length path). long)
          (cases_lt (length path) (suc (2 * length (others_of (setup_of script) comm root 0))))

  -- the others came to the reduction to all that member 0 has done
  pub others_gave_to_all : OthersGaveToAll script c
  others_gave_to_all comm dst src root op ty u begun after at_root at done =
      (bytes_up comm root u begun at_root, given, all_reduced script c delivered fit comm dst src root op ty u begun after (bytes_up comm root u begun at_root) at_root at done given)
    where
      s : SetupView
      s = setup_of script

      others : List ℕ
      others = others_of s comm root 0

      o : Operands
      o = fold_operands op ty dst src

      acts : acts_of s root (stmt.Allreduce comm op ty dst src) ≡ Begin src ∷ gathers o (head_of_kind kind_of.AllUp comm 0) others ++ down_sends comm dst others
      acts = allreduce_at_root s comm root dst src op ty (fit.reduces_to_all root u begun comm dst src op ty at_root done.stood) at

      long : suc (2 * length others) ≤ length (done.taken ++ done.later)
      long =
          let all = done.each ∙ ap length acts ∙ ap suc (length-append (gathers o (head_of_kind kind_of.AllUp comm 0) others) (down_sends comm dst others)) in
          let folds = gathers_length o (head_of_kind kind_of.AllUp comm 0) others in
          let both = length-append done.taken done.later in
          omega (arith, all, folds, both)

      given : AllGive script c (stmt.Allreduce comm) kind_of.AllUp comm 0 root begun (bytes_up comm root u begun at_root)
      given = gave_up comm root u begun at_root (past_got comm root u begun at_root dst src op ty done.stood.item.line done.stood.rest (faces script root (stmt.Allreduce comm op ty dst src) begun done.stood _ acts) (done.taken ++ done.later)
          (done.since ∙ ap (λ (x : State). (gone_through done.later x).matched) done.came ∙ ap (λ (x : State). x.matched) (sym (through_both done.taken done.later begun))) long)

  -- member 0 and all the others came to the reduction to all that one of the others has done
  pub all_came : AllCame script c
  all_came comm root to from rank named width v before after at_rank other done = (accepted.0.bytes, told, accepted.1)
    where
      s : SetupView
      s = setup_of script

      D : ℕ
      D = kind_number kind_of.AllDown

      accepted : (m : Message) × (after.local.registers ≡ slice_set before.local.registers to m.bytes)
          × (slice_get (chosen (is_of D comm) (received_by root) v.matched) (length (chosen (is_of D comm) (received_by root) before.matched)) ≡ Some m)
      accepted = told_accepts script comm root rank to from named width v before after other (fit.reduces_to_all rank v before comm to from named width at_rank done.stood) done

      u : (w : State) × (slice_get c.cells root ≡ Some w)
      u = cell_at script c root even other.placed.below

      sent : slice_get (chosen (is_of D comm) (sent_by rank) u.0.matched) (got_so_far D comm root before) ≡ Some accepted.0
      sent = received_as_sent c delivered D comm (got_so_far D comm root before) root rank u.0 v accepted.0 u.1 at_rank accepted.2

      f : CameToSend script D comm rank root (got_so_far D comm root before) (IsCallOf s root (stmt.Allreduce comm) (coll.Allreduce comm 0)) u.0
      f = sender_came script c D comm rank root (got_so_far D comm root before) (IsCallOf s root (stmt.Allreduce comm) (coll.Allreduce comm 0)) u.0 accepted.0 refl (all_down_makes s root comm rank) own u.1 sent

      came : CameTo script root (stmt.Allreduce comm f.such.op f.such.ty f.such.dst f.such.src) u.0 f.begun
      came = subst (λ (x : Stmt). CameTo script root x u.0 f.begun) f.such.is f.came

      facing : Facing came.stood.item.line (Begin f.such.src ∷ gathers (fold_operands f.such.op f.such.ty f.such.dst f.such.src) (head_of_kind kind_of.AllUp comm 0) (others_of s comm root 0) ++ down_sends comm f.such.dst (others_of s comm root 0)) came.stood.rest f.begun
      facing = faces script root (stmt.Allreduce comm f.such.op f.such.ty f.such.dst f.such.src) f.begun came.stood _ (allreduce_at_root s comm root f.such.dst f.such.src f.such.op f.such.ty f.such.callable other.placed.placed)

      more : sent_so_far D comm rank f.begun < sent_so_far D comm rank (gone_through came.later f.begun)
      more =
          let there = slice_get_within (chosen (is_of D comm) (sent_by rank) u.0.matched) (got_so_far D comm root before) accepted.0 sent in
          let now : sent_so_far D comm rank u.0 ≡ sent_so_far D comm rank (gone_through came.later f.begun) = ap (λ (l : List DataCall). length (chosen (is_of D comm) (sent_by rank) l)) came.since in
          omega (arith, there, now, f.number)

      got : (j : ℕ) → IsOther s comm 0 root j → got_so_far (kind_number kind_of.AllUp) comm j f.begun < got_so_far (kind_number kind_of.AllUp) comm j u.0
      got = past_got comm root u.0 f.begun u.1 f.such.dst f.such.src f.such.op f.such.ty came.stood.item.line came.stood.rest facing came.later came.since
          (past_folds_by comm root u.0 f.begun u.1 f.such.dst f.such.src f.such.op f.such.ty came.stood.item.line came.stood.rest facing rank came.later more)

      given : AllGive script c (stmt.Allreduce comm) kind_of.AllUp comm 0 root f.begun (bytes_up comm root u.0 f.begun u.1)
      given = gave_up comm root u.0 f.begun u.1 got

      -- this call of the rank is the one that is counted
      number : sent_so_far (kind_number kind_of.AllUp) comm root before ≡ got_so_far (kind_number kind_of.AllUp) comm rank f.begun
      number =
          (counted script).told comm root rank (stmt.Allreduce comm named width to from) before other done.stood ∙ sym f.number
          ∙ sym ((counted script).reductions_to_all comm root rank rank (stmt.Allreduce comm f.such.op f.such.ty f.such.dst f.such.src) f.begun other other came.stood)

      mine : bytes_up comm root u.0 f.begun u.1 rank ≡ register_at before.local from
      mine = up_once comm root u.0 f.begun u.1 rank (bytes_up comm root u.0 f.begun u.1 rank) (register_at before.local from) other (got rank other) (given rank other)
          (record {
            op = named;
            ty = width;
            dst = to;
            src = from;
            now = v;
            before = before;
            there = at_rank;
            came = record {
              stood = done.stood;
              later = done.taken ++ done.later;
              since = done.since ∙ ap (λ (x : State). (gone_through done.later x).matched) done.came ∙ ap (λ (x : State). x.matched) (sym (through_both done.taken done.later before));
            };
            same = number;
            given = refl;
          })

      told : TellsFold script c comm root rank before (register_at before.local from) accepted.0.bytes
      told = record {
        op = f.such.op;
        ty = f.such.ty;
        dst = f.such.dst;
        src = f.such.src;
        now = u.0;
        begun = f.begun;
        bytes = bytes_up comm root u.0 f.begun u.1;
        there = u.1;
        came = came;
        same = f.number;
        given = given;
        mine = mine;
        result = sym (tells script c delivered fit comm f.such.dst f.such.src root f.such.op f.such.ty u.0 f.begun (bytes_up comm root u.0 f.begun u.1) u.1 other.placed.placed f.such.callable
            (fit.width_to_all root u.0 f.begun comm f.such.dst f.such.src f.such.op f.such.ty u.1 came) given came rank other accepted.0
            (ap (slice_get (chosen (is_of D comm) (sent_by rank) u.0.matched)) f.number ∙ sent));
      }
