-- Whether a poll would answer that an emission is done, found without that poll.
use Rattle.std.proofs.Common.{◌≡◌, ℕ, suc, ◌+◌, ◌<◌, Bool, true, false, ◌||◌, eqb, List, [], ◌∷◌, length, Some, slice_get, refl, sym, ap, ◌∙◌}
use Rattle.std.proofs.lemmas.Bool.{eqb-true}
use Rattle.std.specs.List.{list_any}
use Rattle.flow_terms.specs.declared.answers.Emit.{Emit}
use Rattle.flow_terms.specs.declared.answers.Emit.TheVariants as emit
use Rattle.shared_core.specs.declared.tickets.OutTicket.{OutTicket}
use Rattle.shared_core.specs.declared.tickets.Accepted.{Accepted}
use Rattle.shared_core.specs.declared.tickets.Waiting.{Waiting}
use Rattle.shared_core.specs.Flow.{stands}
use Rattle.shared_core.specs.Calls.{poll_emit, says_done, would_be_done}
use Rattle.shared_core.specs.Shown.{Seen, Follows, Reads}
use Rattle.shared_core.specs.Accepting.{finished_in}
use Rattle.shared_core.proofs.Ticketing.{shown_out, held_nowhere, held_waiting, poll_missing, poll_waiting, poll_unfinished, poll_done}

-- where a ticket is that is out
there : {E : Type 0} (n : ℕ) (hs : List (OutTicket E)) → list_any (λ h. eqb h.ticket n) hs ≡ true → (at : ℕ) × (h : OutTicket E) × (slice_get hs at ≡ Some h) × (h.ticket ≡ n)
there n [] some = absurd (cc)
there n (h ∷ hs) some = elim (eqb h.ticket n) as (λ b. eqb h.ticket n ≡ b → (at : ℕ) × (x : OutTicket _) × (slice_get (h ∷ hs) at ≡ Some x) × (x.ticket ≡ n)) [
  | true ↦ λ e. (0, h, refl, eqb-true h.ticket n e)
  | false ↦ λ e.
      let rest = there n hs (ap (λ b. b || list_any (λ h. eqb h.ticket n) hs) (sym e) ∙ some) in
      (suc rest.0, rest.1, rest.2, rest.3)
] refl

module _ {T : Type 0} (now : Seen T) (n : ℕ) where
  -- what a poll answers tells whether it is done
  told : (answer : Emit) (new : Seen T) → Follows (poll_emit n) now answer new → Reads (would_be_done n) now (says_done answer)
  told answer new follows M shows = ap says_done (follows M shows).0

  pub done_where : (at i : ℕ) → slice_get now.out at ≡ Some (n, stands i) → now.parameters.first + i < now.next_number → (b : Bool) → finished_in i now ≡ b → Reads (would_be_done n) now b
  done_where at i gets accepted true finished = told (emit.Done (now.parameters.first + i)) _ (poll_done now at n i gets accepted finished)
  done_where at i gets accepted false unfinished = told emit.Waiting now (poll_unfinished now at n i gets accepted unfinished)

  pub done_nowhere : (us : List (OutTicket Accepted)) (ws : List (OutTicket (Waiting T))) → now.out ≡ shown_out us ws → list_any (λ h. eqb h.ticket n) us ≡ false → Reads (would_be_done n) now false
  done_nowhere us ws out none = elim (list_any (λ (h : OutTicket (Waiting T)). eqb h.ticket n) ws) as (λ b. list_any (λ (h : OutTicket (Waiting T)). eqb h.ticket n) ws ≡ b → Reads (would_be_done n) now false) [
    | true ↦ λ some.
        let found = there n ws some in
        told emit.Waiting now (poll_waiting now (length us + found.0) n found.1.emission.emitter found.1.emission.value (held_waiting now us ws out found.0 n (found.1, found.2, found.3)))
    | false ↦ λ no. told emit.Gone now (poll_missing now n (held_nowhere now us ws out n none no))
  ] refl
