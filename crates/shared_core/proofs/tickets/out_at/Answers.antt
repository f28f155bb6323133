use Rattle.std.proofs.Common.{List, ◌≡◌, Bool, false, ◌||◌, eqb, length, Some, slice_get, sym, ap, ◌∙◌, refl, arith, [], ◌∷◌}
use Rattle.std.proofs.lemmas.Bool.{ne_eqb}
use Rattle.std.proofs.lemmas.Option.{same_Some}
use Rattle.std.specs.List.{list_any}
use Rattle.shared_core.specs.declared.tickets.OutTicket.{OutTicket}
use Rattle.shared_core.proofs.tickets.out_at.Goals as goal

-- the only one fails the test
none_of_one : {X : Type 0} (test : X → Bool) (xs : List X) (x : X) → length xs ≡ 1 → slice_get xs 0 ≡ Some x → test x ≡ false → list_any test xs ≡ false
none_of_one test [] x one gets fails = refl
none_of_one test (y ∷ []) x one gets fails = ap (λ b. b || false) (ap test (same_Some y x gets) ∙ fails)
none_of_one test (y ∷ z ∷ rest) x one gets fails = absurd (omega (arith, one))

pub returns-then-len-eq1-clause-none : goal.returns-then-len-eq1-clause-none
returns-then-len-eq1-clause-none g c _ =
    none_of_one (λ (h : OutTicket _). eqb h.ticket c.args.ticket) c.args.out.now.values c.get.result (sym c.len-2.ensures.count ∙ c.if-len-eq1.true) c.get.ensures
    (ne_eqb c.get.result.ticket c.args.ticket c.if-get-ticket.false)
