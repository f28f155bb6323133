-- What a buffer in one task shows and gives that holds nothing yet.
use Rattle.std.proofs.Common.{◌≡◌, ℕ, [], refl, sym, subst, arith}
use Rattle.circular_buffer.specs.Buffer.{buffer}
use Rattle.cold_flow.specs.Poll.{Traces, Within}
use Rattle.flow_terms.specs.declared.policy.Policy.{Policy}
use Rattle.flow_buffer.specs.declared.ending.Ending.TheVariants.{Going}
use Rattle.flow_buffer.specs.declared.store.Store.{Store}
use Rattle.flow_buffer.specs.Contents.{nothing}
use Rattle.flow_buffer.specs.Delivery.{Delivered, StoreGives}
use Rattle.flow_buffer.specs.Stored.{Shows}

module _ {T E : Type 0} (capacity : ℕ) (policy : Policy) where
  abbrev empty : Store T E
  empty = record { held = buffer [] capacity; policy = policy; taken = 0; dropped = 0; ending = Going }

  pub starts_shown : (s : Store T E) → s ≡ empty → Shows s (nothing capacity policy)
  starts_shown s is = subst (λ (e : Store T E). Shows e (nothing capacity policy)) (sym is) record {
    capacity = refl;
    policy = refl;
    values = refl;
    taken = refl;
    dropped = refl;
    rising = (tt, tt, tt);
    within = omega arith;
    ordered = tt;
    gave_up = λ gave. cc;
  }

  pub starts_giving : (s : Store T E) → s ≡ empty → (source running : Traces T E) → Within source running
      → Within (Delivered capacity policy [] source) (StoreGives s running)
  starts_giving s is source running within t h =
      let d = subst (λ (e : Store T E). StoreGives e running t) is h in
      record { produced = d.produced; came = within d.produced d.came; delivers = d.delivers }
