-- What contracts see of who can take the lock of a flow.
use Rattle.std.specs.Prelude.{ℕ, Option, Some, None, List, [], ◌∷◌, ◌++◌}
use Rattle.atomic_table.specs.Seated.{TableId}
use Rattle.round_lock.specs.Locking.{Locking}
use Rattle.round_lock.specs.declared.log.TakenOwner.{TakenOwner}
use Rattle.shared_rounds.specs.declared.round.Round.{Round}
use Rattle.shared_rounds.specs.Names.{FlowName, SharedSeen}

-- the one list of rounds: who made each, which it was, and what it left
abbrev pub Rounds : Type 0
Rounds = List (ℕ × Round × SharedSeen)

-- which lock it is, the flow under it, what the owner holds while it has the lock, the owner's number, how often its share of the
-- lock was halved, the owners that it took in, its own rounds, and the one list of rounds as far as it has seen it
pub record Reach : Type 0 where
  pub lock : TableId
  pub flow : Option FlowName
  pub held : Option SharedSeen
  pub pass : ℕ
  pub halved : ℕ
  pub taken : List (TakenOwner Round)
  pub rounds : List Round
  pub seen : Rounds

-- an owner between two calls
pub record Party : Type 0 where
  pub lock : TableId
  pub flow : Option FlowName
  pub pass : ℕ
  pub halved : ℕ
  pub taken : List (TakenOwner Round)
  pub rounds : List Round
  pub seen : Rounds

abbrev pub party_of : Reach → Party
party_of r = record { lock = r.lock; flow = r.flow; pass = r.pass; halved = r.halved; taken = r.taken; rounds = r.rounds; seen = r.seen }

-- the party's rounds grew by this one, and it has seen this list
abbrev pub with_round : Round → Rounds → Party → Party
with_round r seen p = record p { rounds = p.rounds ++ r ∷ []; seen = seen }

-- those that an owner took in, and now this one, with its rounds and its share, and those that it had taken in
abbrev pub with_taken : Party → List (TakenOwner Round) → List (TakenOwner Round)
with_taken other parts = parts ++ record { pass = other.pass; halved = other.halved; own = other.rounds } ∷ other.taken

module _ {S : Type 0} (value : S → SharedSeen) where
  abbrev pub seen_in : Option S → Option SharedSeen
  seen_in None = None
  seen_in (Some state) = Some (value state)

  abbrev pub name_in : Option S → Option FlowName
  name_in None = None
  name_in (Some state) = Some (value state).name

  -- the one list of rounds, where what they left lies in a box
  abbrev pub rounds_in : List (ℕ × Round × S) → Rounds
  rounds_in [] = []
  rounds_in (t ∷ log) = (t.0, t.1, value t.2) ∷ rounds_in log

  abbrev pub reach_of : Locking S Round → Reach
  reach_of l = record { lock = l.place; flow = name_in l.log.made; held = seen_in l.log.held; pass = l.pass; halved = l.log.halved; taken = l.log.taken; rounds = l.log.own; seen = rounds_in l.log.seen }
