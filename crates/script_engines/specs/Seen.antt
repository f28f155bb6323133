-- What contracts see of a flow of a script.
use Rattle.std.specs.Prelude.{ℕ}
use Rattle.shared_core.specs.Shown.{Seen}
use Rattle.script_engines.specs.declared.for_threads.ForThreads.{ForThreads}
use Rattle.script_engines.specs.declared.one_thread.OneThread.{OneThread}
use Rattle.script_engines.specs.Parties.{Parties}
use Rattle.script_engines.specs.Subscribing.{subscribing_of}

-- on one thread: what is seen of the shared flow itself
abbrev pub state_of : OneThread → Seen ℕ
state_of it = it.state

-- for threads: all parties that were made of it
abbrev pub parties_of : {W : Type 0} → ForThreads W → Parties
parties_of it = record { subscriptions = subscribing_of it.subscriptions; emitter = it.emitter; spare = it.spare; emissions = it.emissions.items }
