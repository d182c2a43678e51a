use Rattle.std.proofs.Common.{◌≡◌, refl, sym, subst}
use Rattle.scc_base.specs.declared.events.Turn.{Turn}
use Rattle.scc_proto.specs.Ports.{Sight}
use Rattle.chip_run.specs.Turns.{TookBatch}
use Rattle.rcce_ue.specs.Standing.{Tied}
use Rattle.rcce_ue.specs.Ues.{UeView}
use Rattle.rcce_ue.specs.Workers.{ue_behaviour}
use Rattle.rcce_ue.proofs.SureTurns.{moved_once}
use Rattle.rcce_ue.proofs.WorkerTurns.{stands_there, ue_in_a_row, ue_once}
use Rattle.rcce_ue.proofs.workers.UeWorker.batch.Goals as goal

-- a UE that stands as it stood fits the port as before
tied_same : (x mid : UeView) (s m : Sight) → mid ≡ x → m ≡ s → Tied x s → Tied mid m
tied_same x mid s m same there tied = subst (λ (y : UeView). Tied y m) (sym same) (subst (λ (y : Sight). Tied x y) (sym there) tied)

pub move_lines-requires : goal.move_lines-requires
move_lines-requires g c = record { tied = c.requires.ties.tied (g.P.Port.sight c.args.port) refl refl refl }

pub go_on-requires : goal.go_on-requires
go_on-requires g c = record { tied = (c.move_lines.ensures.moves c.if-move_lines.true).tied }

pub returns-then-move_lines : goal.returns-then-move_lines
returns-then-move_lines g c =
    let moves = c.go_on.ensures.moves c.args.self.now (g.P.Port.sight c.args.port) (c.move_lines.ensures.moves c.if-move_lines.true).moves in
    record {
      ties = stands_there c.go_on.new.self (g.P.Port.sight c.go_on.new.port) c.go_on.ensures.tied;
      took_batch = ue_in_a_row (g.P.Port.stepped (g.P.Port.sight c.args.port).seat) c.args.self.now (g.P.Port.sight c.args.port) (g.P.Port.sight c.go_on.new.port) c.go_on.new.self moves;
    }

pub turn-requires : goal.turn-requires
turn-requires g c =
    let stays = c.move_lines.ensures.stays c.if-move_lines.false in
    record {
      tied = tied_same c.args.self.now c.move_lines.new.self (g.P.Port.sight c.args.port) (g.P.Port.sight c.move_lines.new.port) stays.0 stays.1
          (c.requires.ties.tied (g.P.Port.sight c.args.port) refl refl refl);
    }

pub go_on-requires-in-Moved : goal.go_on-requires-in-Moved
go_on-requires-in-Moved g c = record { tied = c.turn.ensures.tied }

pub returns-in-Moved : goal.returns-in-Moved
returns-in-Moved g c =
    let stays = c.move_lines.ensures.stays c.if-move_lines.false in
    let one = moved_once c.args.self.now c.move_lines.new.self c.turn.new.self (g.P.Port.sight c.args.port) (g.P.Port.sight c.move_lines.new.port) (g.P.Port.sight c.turn.new.port) c.turn.result
    stays.0 stays.1 c.turn.ensures.turned c.in-Moved.is in
    let moves = c.go_on-in-Moved.ensures.moves c.args.self.now (g.P.Port.sight c.args.port) one in
    record {
      ties = stands_there c.go_on-in-Moved.new.self (g.P.Port.sight c.go_on-in-Moved.new.port) c.go_on-in-Moved.ensures.tied;
      took_batch = ue_in_a_row (g.P.Port.stepped (g.P.Port.sight c.args.port).seat) c.args.self.now (g.P.Port.sight c.args.port) (g.P.Port.sight c.go_on-in-Moved.new.port) c.go_on-in-Moved.new.self moves;
    }

pub returns-in-Waiting : goal.returns-in-Waiting
returns-in-Waiting g c =
    let stays = c.move_lines.ensures.stays c.if-move_lines.false in
    let before = tied_same c.args.self.now c.move_lines.new.self (g.P.Port.sight c.args.port) (g.P.Port.sight c.move_lines.new.port) stays.0 stays.1
    (c.requires.ties.tied (g.P.Port.sight c.args.port) refl refl refl) in
    record {
      ties = stands_there c.turn.new.self (g.P.Port.sight c.turn.new.port) c.turn.ensures.tied;
      took_batch = subst (λ (a : Turn). TookBatch ue_behaviour (g.P.Port.stepped (g.P.Port.sight c.args.port).seat) c.args.self.now (g.P.Port.sight c.args.port) c.turn.new.self (g.P.Port.sight c.turn.new.port) a) c.in-Waiting.is
          (ue_once g.P.Port.stepped c.args.self.now c.move_lines.new.self c.turn.new.self (g.P.Port.sight c.args.port) (g.P.Port.sight c.move_lines.new.port) (g.P.Port.sight c.turn.new.port)
          c.turn.result stays.0 stays.1 before c.turn.ensures.tied c.turn.ensures.turned c.turn.ensures.steps);
    }

pub returns-in-Done : goal.returns-in-Done
returns-in-Done g c =
    let stays = c.move_lines.ensures.stays c.if-move_lines.false in
    let before = tied_same c.args.self.now c.move_lines.new.self (g.P.Port.sight c.args.port) (g.P.Port.sight c.move_lines.new.port) stays.0 stays.1
    (c.requires.ties.tied (g.P.Port.sight c.args.port) refl refl refl) in
    record {
      ties = stands_there c.turn.new.self (g.P.Port.sight c.turn.new.port) c.turn.ensures.tied;
      took_batch = subst (λ (a : Turn). TookBatch ue_behaviour (g.P.Port.stepped (g.P.Port.sight c.args.port).seat) c.args.self.now (g.P.Port.sight c.args.port) c.turn.new.self (g.P.Port.sight c.turn.new.port) a) c.in-Done.is
          (ue_once g.P.Port.stepped c.args.self.now c.move_lines.new.self c.turn.new.self (g.P.Port.sight c.args.port) (g.P.Port.sight c.move_lines.new.port) (g.P.Port.sight c.turn.new.port)
          c.turn.result stays.0 stays.1 before c.turn.ensures.tied c.turn.ensures.turned c.turn.ensures.steps);
    }
