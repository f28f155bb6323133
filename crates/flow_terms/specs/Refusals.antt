use Rattle.std.specs.Prelude.{ℕ}
use Rattle.flow_terms.specs.declared.refusal.Refusal.{Refusal}
use Rattle.flow_terms.specs.declared.refusal.Refusal.TheVariants.{TooLarge, PolicyNeedsBuffer, BadLimit, NoMemory, SubscribersFull, EmitsFull, Spent, NotPositive, TooManyWorkers, PreludeTooLong, BadPlan}

-- the number under which a refusal is printed
abbrev pub number_of : Refusal → ℕ
number_of TooLarge = 1
number_of PolicyNeedsBuffer = 2
number_of BadLimit = 3
number_of NoMemory = 4
number_of SubscribersFull = 5
number_of EmitsFull = 6
number_of Spent = 7
number_of NotPositive = 8
number_of TooManyWorkers = 9
number_of PreludeTooLong = 10
number_of BadPlan = 11
