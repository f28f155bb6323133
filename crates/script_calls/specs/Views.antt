-- The same calls, by what contracts see of who makes them.
use Rattle.script_calls.specs.Calls.{Receipts, Emissions, Readings, Settings, Turns}

module _ {X S : Type 0} (seen : X → S) where
  abbrev pub receipts_of : Receipts S → Receipts X
  receipts_of calls = record {
    Subscribes = λ old prelude reply new. calls.Subscribes (seen old) prelude reply (seen new);
    Nexts = λ old id reply new. calls.Nexts (seen old) id reply (seen new);
    Cancels = λ old id reply new. calls.Cancels (seen old) id reply (seen new);
    Caches = λ old reply new. calls.Caches (seen old) reply (seen new);
    Counts = λ old reply new. calls.Counts (seen old) reply (seen new);
  }

  abbrev pub emissions_of : Emissions S → Emissions X
  emissions_of calls = record {
    Tries = λ old value reply new. calls.Tries (seen old) value reply (seen new);
    Begins = λ old value reply new. calls.Begins (seen old) value reply (seen new);
    Polls = λ old ticket reply new. calls.Polls (seen old) ticket reply (seen new);
    Withdraws = λ old ticket reply new. calls.Withdraws (seen old) ticket reply (seen new);
    Resets = λ old new. calls.Resets (seen old) (seen new);
  }

  abbrev pub readings_of : Readings S → Readings X
  readings_of calls = record {
    Reads = λ old value new. calls.Reads (seen old) value (seen new);
    Collects = λ old reply new. calls.Collects (seen old) reply (seen new);
    Nexts = λ old id reply new. calls.Nexts (seen old) id reply (seen new);
    Cancels = λ old id reply new. calls.Cancels (seen old) id reply (seen new);
    Counts = λ old reply new. calls.Counts (seen old) reply (seen new);
  }

  abbrev pub settings_of : Settings S → Settings X
  settings_of calls = record {
    Sets = λ old value new. calls.Sets (seen old) value (seen new);
    Compares = λ old expect update reply new. calls.Compares (seen old) expect update reply (seen new);
  }

  abbrev pub turns_of : Turns S → Turns X
  turns_of calls = record { Ticks = λ old now reply new. calls.Ticks (seen old) now reply (seen new) }
