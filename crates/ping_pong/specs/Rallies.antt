-- The calls of two players who pass balls.
use Rattle.std.specs.Prelude.{◌≡◌, ℕ, List, [], ◌∷◌}
use Rattle.scc_base.specs.Calls.{DataCall, Recv, Send}
use Rattle.scc_base.specs.Heads.{plain_head}
use Rattle.scc_proto.specs.Ports.{Sight}
use Rattle.station.specs.Stations.{NoCallOpen, StationAt}

-- a ball is a message of four bytes
abbrev pub Ball : Type 0
Ball = List ℕ

-- the player at rank 0 sends each ball to rank 1 and receives what comes back
abbrev pub serves : (balls back : List Ball) → List DataCall
serves [] back = []
serves (ball ∷ balls) [] = []
serves (ball ∷ balls) (came ∷ back) = Send 1 (plain_head 4) ball ∷ Recv 1 (plain_head 4) came ∷ serves balls back

-- the player at rank 1 receives each ball from rank 0 and sends it back
abbrev pub hits : (seen : List Ball) → List DataCall
hits [] = []
hits (ball ∷ seen) = Recv 0 (plain_head 4) ball ∷ Send 0 (plain_head 4) ball ∷ hits seen

-- a station that has made no call
abbrev pub IsFreshStation : StationAt → Type 0
IsFreshStation station = (s : Sight) → s.events ≡ [] → NoCallOpen s station
