-- The call that made the n-th message of a kind in a communicator: the rank came to it on its own way.
use Rattle.std.proofs.Common.{◌≡◌, ℕ, ◌+◌, ◌<◌, ◌≤◌, ◌==◌, false, List, [], ◌++◌, length, Some, refl, sym, ap, ◌∙◌, subst, arith, slice_get, ◌⊎◌, inl, inr, ⊎_elim}
use Rattle.std.proofs.lemmas.Bool.{cases_lt}
use Rattle.std.proofs.lemmas.List.{append-nil}
use Rattle.std.proofs.lemmas.Option.{slice_get_within}
use Rattle.scc_base.specs.Calls.{DataCall, Message}
use Rattle.script_rules.specs.declared.script.Item.{Item}
use Rattle.script_rules.specs.declared.script.Stmt.{Stmt}
use Rattle.script_rules.specs.Script.{Script}
use Rattle.plain_meaning.specs.Collectives.{AreOwnWays, CameTo, IsOfRank, MadeByItems, StandsAtStatement, gone_through, start_of_rank}
use Rattle.plain_meaning.specs.Meaning.{State}
use Rattle.plain_meaning.specs.Messages.{is_of, sent_by}
use Rattle.script_machine.specs.Program.{Act, Prim, acts_of, setup_of}
use Rattle.plain_meaning.specs.Step.{Configuration}
use Rattle.plain_meaning.proofs.Collectives.CollectivePaths.{Facing, chosen, through_both}
use Rattle.plain_meaning.proofs.Arrivals.MessageCounts.{Counts, sends_counted, sent_in, sent_so_far, some_counted, total_of}
use Rattle.plain_meaning.proofs.OwnWays.ProgramLaws.{along_made_way}
use Rattle.plain_meaning.proofs.Arrivals.StatementSends.{MakesOne}

module _ (script : Script) (rank : ℕ) (measure : State → ℕ) (adds : Act → ℕ) (counts : Counts measure adds) (Such : Stmt → Type 0)
    (makes : (statement : Stmt) → MakesOne (total_of adds (acts_of (setup_of script) rank statement)) (Such statement)) (n : ℕ) where
  -- a rank came to such a statement when the count was n
  pub record Found (now : State) : Type 0 where
    pub statement : Stmt
    pub such : Such statement
    pub begun : State
    pub stood : StandsAtStatement script rank statement begun
    pub later : List (List ℕ)
    pub since : now ≡ gone_through later begun
    pub number : measure begun ≡ n

  -- it is on its own way, and has either not come so far or has come there
  record Sought (now : State) : Type 0 where
    way : List (List ℕ)
    reached : now ≡ gone_through way (start_of_rank script rank)
    found : (measure now ≤ n) ⊎ Found now

  goes_on : (item : Item) (rest : List Prim) (u : State) (path : List (List ℕ)) → IsOfRank script.items rank item → MadeByItems (setup_of script) rank script.items rest → Facing item.line (acts_of (setup_of script) rank item.stmt) rest u
      → length path ≤ length (acts_of (setup_of script) rank item.stmt) → Sought u → Sought (gone_through path u)
  goes_on item rest u path is afterwards facing low sought = record {
    way = sought.way ++ path;
    reached = ap (gone_through path) sought.reached ∙ sym (through_both sought.way path (start_of_rank script rank));
    found = ⊎_elim (λ (few : measure u ≤ n). by few (makes item.stmt)) (λ (f : Found u). inr (more f)) sought.found;
  }
    where
      more : Found u → Found (gone_through path u)
      more f = record {
        statement = f.statement;
        such = f.such;
        begun = f.begun;
        stood = f.stood;
        later = f.later ++ path;
        since = ap (gone_through path) f.since ∙ sym (through_both f.later path f.begun);
        number = f.number;
      }

      most : measure (gone_through path u) ≤ measure u + total_of adds (acts_of (setup_of script) rank item.stmt)
      most =
          some_counted measure adds counts item.line [] rest (acts_of (setup_of script) rank item.stmt) path u low
          (subst (λ (acts : List Act). Facing item.line acts rest u) (sym (append-nil (acts_of (setup_of script) rank item.stmt))) facing)

      here : measure u ≡ n → Such item.stmt → Found (gone_through path u)
      here number such = record {
        statement = item.stmt;
        such = such;
        begun = u;
        stood = record { way = sought.way; reached = sought.reached; item = item; listed = is; says = refl; rest = rest; afterwards = afterwards; running = facing.running; next = facing.left };
        later = path;
        since = refl;
        number = number;
      }

      by : measure u ≤ n → MakesOne (total_of adds (acts_of (setup_of script) rank item.stmt)) (Such item.stmt) → (measure (gone_through path u) ≤ n) ⊎ Found (gone_through path u)
      by few (inl none) = inl (omega (arith, few, none, most))
      by few (inr one) =
          ⊎_elim
          (λ (past : n < measure (gone_through path u)). inr (here (omega (arith, few, past, one.0, most)) one.1))
          (λ (still : measure (gone_through path u) ≤ n). inl still)
          (cases_lt n (measure (gone_through path u)))

  pub finds : (path : List (List ℕ)) → measure (start_of_rank script rank) ≤ n → n < measure (gone_through path (start_of_rank script rank)) → Found (gone_through path (start_of_rank script rank))
  finds path none past =
      let sought = along_made_way script rank Sought goes_on (record { way = []; reached = refl; found = inl none }) path in
      ⊎_elim (λ (few : measure (gone_through path (start_of_rank script rank)) ≤ n). absurd (omega (arith, few, past))) (λ (f : Found (gone_through path (start_of_rank script rank))). f) sought.found

-- the rank made the n-th message of a kind in a communicator to another at such a statement
pub record CameToSend (script : Script) (kind comm to rank n : ℕ) (Such : Stmt → Type 0) (now : State) : Type 0 where
  pub statement : Stmt
  pub such : Such statement
  pub begun : State
  pub came : CameTo script rank statement now begun
  pub number : sent_so_far kind comm to begun ≡ n

pub sender_came : (script : Script) (c : Configuration State) (kind comm to rank n : ℕ) (Such : Stmt → Type 0) (now : State) (m : Message)
    → (0 == kind) ≡ false → ((statement : Stmt) → MakesOne (total_of (sent_in kind comm to) (acts_of (setup_of script) rank statement)) (Such statement))
    → AreOwnWays script c → slice_get c.cells rank ≡ Some now
    → slice_get (chosen (is_of kind comm) (sent_by to) now.matched) n ≡ Some m → CameToSend script kind comm to rank n Such now
sender_came script c kind comm to rank n Such now m apart makes own at found =
    let (path, same) = own rank now at in
    let there = slice_get_within (chosen (is_of kind comm) (sent_by to) now.matched) n m found in
    let even : sent_so_far kind comm to now ≡ sent_so_far kind comm to (gone_through path (start_of_rank script rank)) = ap (λ (l : List DataCall). length (chosen (is_of kind comm) (sent_by to) l)) same in
    let f = finds script rank (sent_so_far kind comm to) (sent_in kind comm to) (sends_counted kind comm to apart) Such makes n path (omega arith) (omega (arith, there, even)) in
    record {
      statement = f.statement;
      such = f.such;
      begun = f.begun;
      came = record { stood = f.stood; later = f.later; since = same ∙ ap (λ (x : State). x.matched) f.since };
      number = f.number;
    }
