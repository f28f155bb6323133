-- What a strategy does with what it keeps, at one poll.
use Rattle.std.specs.Prelude.{ℕ, ◌-◌, Bool, true, false, ◌||◌, nat_lt, Option}
use Rattle.flow_terms.specs.declared.started.Started.{Started}
use Rattle.flow_terms.specs.declared.started.Started.TheVariants.{Eagerly, Lazily, WhileSubscribed, Custom}
use Rattle.flow_terms.specs.declared.plan.Entry.{Entry}
use Rattle.sharing_upstream.specs.declared.strategy.Audience.{Audience}
use Rattle.sharing_upstream.specs.declared.strategy.Audience.TheVariants.{Awaited, Present, Gone}
use Rattle.sharing_upstream.specs.declared.strategy.Progress.{Progress}
use Rattle.sharing_upstream.specs.Strategies.{expires, starts, taken_after, last_after}

-- one more poll at this moment, with count 0 or not
abbrev pub counted : Audience → Bool → ℕ → Audience
counted audience false latest = Present
counted Awaited true latest = Awaited
counted Present true latest = Gone latest false
counted (Gone since expired) true latest = Gone since expired

abbrev pub is_past : Started → Audience → ℕ → Bool
is_past started Awaited latest = false
is_past started Present latest = false
is_past started (Gone since expired) latest = expires started (latest - since)

abbrev pub is_expired : Audience → Bool
is_expired Awaited = false
is_expired Present = false
is_expired (Gone since expired) = expired

abbrev pub marked : Bool → Audience → Audience
marked past Awaited = Awaited
marked past Present = Present
marked past (Gone since expired) = Gone since (past || expired)

-- how far a plan is done after one more poll, the next entry being this or none
abbrev pub advanced : Option Entry → ℕ → ℕ → Progress → Progress
advanced next latest count progress = record {
  taken = taken_after next latest count progress.taken;
  last = last_after next latest count progress.last;
}

abbrev pub on_by : Started → Audience → Progress → ℕ → Bool
on_by Eagerly audience progress latest = true
on_by Lazily Awaited progress latest = false
on_by Lazily Present progress latest = true
on_by Lazily (Gone since expired) progress latest = true
on_by (WhileSubscribed stop expire) Awaited progress latest = false
on_by (WhileSubscribed stop expire) Present progress latest = true
on_by (WhileSubscribed stop expire) (Gone since expired) progress latest = nat_lt (latest - since) stop
on_by (Custom plan) audience progress latest = starts progress.last
