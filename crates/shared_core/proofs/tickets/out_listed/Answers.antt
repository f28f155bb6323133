use Rattle.std.proofs.Common.{ℕ, List, ◌≡◌, ◌<◌, ◌+◌, ◌||◌, Bool, false, eqb, length, take, Some, slice_get, ap, ◌∙◌, arith, [], ◌∷◌, ◌++◌}
use Rattle.std.proofs.lemmas.List.{take_more}
use Rattle.std.proofs.lemmas.List.Folds.{list_any-append}
use Rattle.std.proofs.lemmas.Bool.{ne_eqb}
use Rattle.std.proofs.lemmas.Option.{get_or_from_slice_get}
use Rattle.std.specs.List.{list_any}
use Rattle.shared_core.specs.declared.tickets.OutTicket.{OutTicket}
use Rattle.shared_core.proofs.tickets.out_listed.Goals as goal

-- one more that fails the test
none_more : {X : Type 0} (test : X → Bool) (xs : List X) (i : ℕ) (x : X) → i < length xs → slice_get xs i ≡ Some x → list_any test (take i xs) ≡ false → test x ≡ false → list_any test (take (i + 1) xs) ≡ false
none_more test xs i x within gets none fails =
    ap (list_any test) (take_more xs i x within ∙ ap (λ y. take i xs ++ y ∷ []) (get_or_from_slice_get xs i x x gets))
    ∙ list_any-append test (take i xs) (x ∷ []) ∙ ap (λ b. b || (test x || false)) none ∙ ap (λ b. b || false) fails

pub loop-i-preserved : goal.loop-i-preserved
loop-i-preserved g c =
    none_more (λ (h : OutTicket _). eqb h.ticket c.args.ticket) c.args.out.now.values c.loop-i.i c.get.result (omega (arith, c.len-i-end.ensures.count)) c.get.ensures c.loop-i.invariant
    (ne_eqb c.get.result.ticket c.args.ticket c.if-get-ticket.false)
