-- The commands, from their words.
use Rattle.std.specs.Prelude.{ℕ, List, [], ◌∷◌, Option, Some, None, bytes_eq, codes, if◌then◌else◌}
use Rattle.std.specs.Option.{option_map}
use Rattle.flow_terms.specs.declared.policy.Policy.{Policy}
use Rattle.script_commands.specs.declared.command.Command.{Command}
use Rattle.script_commands.specs.declared.command.Command.TheVariants as commands
use Rattle.script_commands.specs.declared.making.Making.{Making}
use Rattle.script_commands.specs.declared.making.Making.TheVariants as makings
use Rattle.script_commands.specs.declared.request.Request.{Request}
use Rattle.script_commands.specs.declared.request.Request.TheVariants as requested
use Rattle.script_commands.specs.declared.request.Joiner.{Joiner}
use Rattle.script_commands.specs.declared.request.Joiner.TheVariants as parties_of
use Rattle.script_commands.specs.Pipes.{Pipe, pipe_in, pipe_of}
use Rattle.script_commands.specs.Sources.{Origin, origin_in, origin_of}
use Rattle.script_words.specs.Numbers.{written, list_at}
use Rattle.script_words.specs.Starts.{Starting, starting_in, starting_at}
use Rattle.script_words.specs.Words.{◌>>=◌, name_at, number_at, policy_at, ended}

-- what is made
pub data Made : Type 0 where
  shared : ℕ → ℕ → Policy → Made
  state : ℕ → Made
  buffer : ℕ → Policy → Origin → Made
  share : ℕ → ℕ → Policy → Starting → Origin → Made
  stated : ℕ → Starting → Origin → Made

-- who joins
pub data Joining : Type 0 where
  -- with a prelude of these numbers
  subscription : List ℕ → Joining
  collector : Joining
  emission : ℕ → Joining

-- what a command asks for, its names as bytes
pub data Order : Type 0 where
  make : List ℕ → Made → Order
  join : List ℕ → List ℕ → Joining → Order
  ask : List ℕ → Request → Order
  cold : Pipe → Order

abbrev pub made_in : Making → Made
made_in (makings.Shared replay extra policy) = shared replay extra policy
made_in (makings.State value) = state value
made_in (makings.Buffer capacity policy source) = buffer capacity policy (origin_in source)
made_in (makings.Share replay extra policy start source) = share replay extra policy (starting_in start) (origin_in source)
made_in (makings.Stated value start source) = stated value (starting_in start) (origin_in source)

abbrev pub joining_in : Joiner → Joining
joining_in (parties_of.Subscription numbers) = subscription (written numbers)
joining_in parties_of.Collector = collector
joining_in (parties_of.Emission value) = emission value

abbrev pub order_of : Command → Order
order_of (commands.Make name making) = make name.now (made_in making)
order_of (commands.Join host name joiner) = join host.now name.now (joining_in joiner)
order_of (commands.Ask name request) = ask name.now request
order_of (commands.Cold pipe) = cold (pipe_in pipe)

-- ---- what stands after a keyword

-- the order, where no word is left
abbrev pub and_end : Order → List (List ℕ) → Option Order
and_end order words = option_map (λ _. order) (ended words)

-- NAME
unfoldable pub asks : Request → List (List ℕ) → Option Order
asks request words = do
  name ← name_at words
  and_end (ask name.0 request) name.1

-- NAME NUMBER
unfoldable pub asks_with : (ℕ → Request) → List (List ℕ) → Option Order
asks_with request words = do
  name ← name_at words
  number ← number_at name.1
  and_end (ask name.0 (request number.0)) number.1

-- NAME NUMBER NUMBER
unfoldable pub asks_with_two : (ℕ → ℕ → Request) → List (List ℕ) → Option Order
asks_with_two request words = do
  name ← name_at words
  one ← number_at name.1
  other ← number_at one.1
  and_end (ask name.0 (request one.0 other.0)) other.1

-- NAME NAME
unfoldable pub joins : Joining → List (List ℕ) → Option Order
joins joining words = do
  host ← name_at words
  name ← name_at host.1
  and_end (join host.0 name.0 joining) name.1

-- NAME NAME NUMBER
unfoldable pub joins_with : (ℕ → Joining) → List (List ℕ) → Option Order
joins_with joining words = do
  host ← name_at words
  name ← name_at host.1
  number ← number_at name.1
  and_end (join host.0 name.0 (joining number.0)) number.1

-- the numbers of a prelude, after `with`
abbrev pub handed : List (List ℕ) → Option Joining
handed words = do
  numbers ← list_at words
  option_map (λ _. subscription numbers.0) (ended numbers.1)

-- nothing, or `with` and the numbers of a prelude
unfoldable pub subscribing : List (List ℕ) → Option Joining
subscribing [] = Some (subscription [])
subscribing (word ∷ words) = if bytes_eq word (codes "with") then handed words else None

-- NAME NAME, or NAME NAME with NUMBERS
unfoldable pub subscribes : List (List ℕ) → Option Order
subscribes words = do
  host ← name_at words
  name ← name_at host.1
  joining ← subscribing name.1
  Some (join host.0 name.0 joining)

unfoldable pub shared_of : List (List ℕ) → Option Order
shared_of words = do
  name ← name_at words
  replay ← number_at name.1
  extra ← number_at replay.1
  policy ← policy_at extra.1
  and_end (make name.0 (shared replay.0 extra.0 policy.0)) policy.1

unfoldable pub state_of : List (List ℕ) → Option Order
state_of words = do
  name ← name_at words
  value ← number_at name.1
  and_end (make name.0 (state value.0)) value.1

unfoldable pub buffer_of : List (List ℕ) → Option Order
buffer_of words = do
  name ← name_at words
  capacity ← number_at name.1
  policy ← policy_at capacity.1
  origin ← origin_of policy.1
  Some (make name.0 (buffer capacity.0 policy.0 origin))

unfoldable pub share_of : List (List ℕ) → Option Order
share_of words = do
  name ← name_at words
  replay ← number_at name.1
  extra ← number_at replay.1
  policy ← policy_at extra.1
  starting ← starting_at policy.1
  origin ← origin_of starting.1
  Some (make name.0 (share replay.0 extra.0 policy.0 starting.0 origin))

unfoldable pub stated_of : List (List ℕ) → Option Order
stated_of words = do
  name ← name_at words
  value ← number_at name.1
  starting ← starting_at value.1
  origin ← origin_of starting.1
  Some (make name.0 (stated value.0 starting.0 origin))

unfoldable pub cold_of : List (List ℕ) → Option Order
cold_of words = do
  pipe ← pipe_of words
  Some (cold pipe)

-- ---- the table of commands: a keyword, and what stands after it

abbrev pub Form : Type 0
Form = List ℕ × (List (List ℕ) → Option Order)

abbrev pub requests : List Form
requests =
    (codes "next", asks requested.Next)
    ∷ (codes "cancel", asks requested.Cancel)
    ∷ (codes "count", asks requested.Count)
    ∷ (codes "cache", asks requested.Cache)
    ∷ (codes "reset", asks requested.Reset)
    ∷ (codes "fill", asks requested.Fill)
    ∷ (codes "poll", asks requested.Poll)
    ∷ (codes "withdraw", asks requested.Withdraw)
    ∷ (codes "value", asks requested.Value)
    ∷ (codes "try", asks_with requested.Try)
    ∷ (codes "set", asks_with requested.Set)
    ∷ (codes "cas", asks_with_two requested.CompareAndSet)
    ∷ (codes "tick", asks_with requested.Tick)
    ∷ []

abbrev pub parties : List Form
parties =
    (codes "sub", subscribes)
    ∷ (codes "collect", joins collector)
    ∷ (codes "emit", joins_with emission)
    ∷ requests

abbrev pub forms : List Form
forms =
    (codes "shared", shared_of)
    ∷ (codes "state", state_of)
    ∷ (codes "buffer", buffer_of)
    ∷ (codes "share", share_of)
    ∷ (codes "stated", stated_of)
    ∷ (codes "cold", cold_of)
    ∷ parties

-- what these words say after this keyword
abbrev pub form_in : List Form → List ℕ → List (List ℕ) → Option Order
form_in [] first words = None
form_in (form ∷ rest) first words = if bytes_eq first form.0 then form.1 words else form_in rest first words

-- THE COMMAND that a line says
unfoldable pub command_of : List ℕ → List (List ℕ) → Option Order
command_of first words = form_in forms first words
