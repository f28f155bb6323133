-- The one list of rounds, where what they left lies in boxes.
use Rattle.std.proofs.Common.{◌≡◌, ◌⊎◌, ◌==◌, ℕ, zero, suc, cond, Some, None, List, [], ◌∷◌, ◌++◌, length, refl, sym, ap, ◌∙◌, subst}
use mathlib.Core.Option.{some, some-injective, some-ne-none}
use lib.ListN.{get_elem?}
use Rattle.round_lock.specs.declared.log.TakenOwner.{TakenOwner}
use Rattle.flow_terms.specs.Lists.{IsPrefix}
use Rattle.round_lock.specs.History.{HasAll, KnowsTaken, MadeEach, Parts, Saw, TakenIn, called, own_of}
use Rattle.round_lock.specs.History.After.{new, more}
use Rattle.round_lock.specs.Locking.{Locking}
use Rattle.shared_rounds.specs.declared.round.Round.{Round}
use Rattle.shared_rounds.specs.Entering.{IsLeftBy, Found, left_with}
use Rattle.shared_rounds.specs.Names.{SharedSeen, IsNew}
use Rattle.shared_rounds.specs.Reach.{Rounds, name_in, party_of, reach_of, rounds_in}
use Rattle.shared_rounds.specs.Rounds.{Does}
use Rattle.shared_rounds.proofs.Numbers.{Left}

module _ {S : Type 0} (value : S → SharedSeen) where
  in_append : (log end : List (ℕ × Round × S)) → rounds_in value (log ++ end) ≡ rounds_in value log ++ rounds_in value end
  in_append [] end = refl
  in_append (t ∷ log) end = ap (λ (l : Rounds). (t.0, t.1, value t.2) ∷ l) (in_append log end)

  -- one round more
  pub in_more : (log : List (ℕ × Round × S)) (pass : ℕ) (r : Round) (left : S) → rounds_in value (log ++ (pass, r, left) ∷ []) ≡ rounds_in value log ++ (pass, r, value left) ∷ []
  in_more log pass r left = in_append log ((pass, r, left) ∷ [])

  pub in_prefix : (log start : List (ℕ × Round × S)) → IsPrefix start log → IsPrefix (rounds_in value start) (rounds_in value log)
  in_prefix log start b = (rounds_in value b.0, ap (rounds_in value) b.1 ∙ in_append start b.0)

  -- an owner's rounds say nothing of what they left
  pub same_own : (pass : ℕ) (log : List (ℕ × Round × S)) → own_of pass log ≡ own_of pass (rounds_in value log)
  same_own pass [] = refl
  same_own pass (t ∷ log) = ap (λ (l : List Round). cond (t.0 == pass) (t.1 ∷ l) l) (same_own pass log)

  -- nor do those of the owners that one took in
  pub same_parts : (log : List (ℕ × Round × S)) (parts : List (TakenOwner Round)) → Parts log parts → Parts (rounds_in value log) parts
  same_parts log [] are = tt
  same_parts log (p ∷ parts) are = (are.0 ∙ same_own p.pass log, same_parts log parts are.1)

  in_place : (log : List (ℕ × Round × S)) (i : ℕ) (t : ℕ × Round × SharedSeen) → get_elem? (rounds_in value log) i ≡ some t → (u : ℕ × Round × S) × (get_elem? log i ≡ some u) × (u.0 ≡ t.0)
  in_place [] i t at = absurd (some-ne-none t (sym at))
  in_place (x ∷ log) zero t at = (x, refl, ap (λ (u : ℕ × Round × SharedSeen). u.0) (some-injective (x.0, x.1, value x.2) t at))
  in_place (x ∷ log) (suc i) t at = in_place log i t at

  as_long : (log : List (ℕ × Round × S)) → length (rounds_in value log) ≡ length log
  as_long [] = refl
  as_long (x ∷ log) = ap suc (as_long log)

  pub same_taken : (pass : ℕ) (own : List Round) (halved : ℕ) (parts : List (TakenOwner Round)) (log : List (ℕ × Round × S)) → KnowsTaken pass own halved parts log → KnowsTaken pass own halved parts (rounds_in value log)
  same_taken pass own halved parts log knows = record {
    parts_are = same_parts log parts knows.parts_are;
    apart = knows.apart;
    all = λ has. let each = knows.all has in record {
      callers = λ i t at. let u = in_place log i t at in subst (λ n. (pass ≡ n) ⊎ TakenIn parts n) u.2 (each.callers i u.0 u.1);
      number = as_long log ∙ each.number;
    };
  }

  -- what lies in a box, without it
  pub unboxed : (made : S) (log : List (ℕ × Round × S)) (s : S) → Left value made log s → IsLeftBy (value made) (rounds_in value log) (value s)
  unboxed _ _ _ (new s fresh) = new (value s) fresh
  unboxed _ _ _ (more made log s pass r t before does) = subst (λ (l : Rounds). IsLeftBy (value made) l (value t)) (sym (in_more log pass r t))
      (more (value made) (rounds_in value log) (value s) pass r (value t) (unboxed made log s before) does)

  -- what an owner of the lock saw is what the owner of the flow found
  pub found_by : (l m : Locking S Round) (state : S) → Saw (λ (s : S). IsNew (value s)) (λ (s : S) (r : Round) (t : S). Does (value s) r (value t)) l.pass l.log state m.log.seen
      → Found (party_of (reach_of value l)) (value state) (reach_of value m).seen
  found_by l m state saw = record {
    made = value saw.made;
    flow_is = ap (name_in value) saw.made_is;
    after = unboxed saw.made m.log.seen state saw.after;
    rounds_are = saw.own_is ∙ same_own l.pass m.log.seen;
    seen_on = in_prefix m.log.seen l.log.seen saw.seen_on;
    taken_in = same_taken l.pass l.log.own l.log.halved l.log.taken m.log.seen saw.taken_in;
  }

  -- what an owner of the lock is after a call is what the owner of the flow is after the round
  pub gave_back : (l m : Locking S Round) (r : Round) (state : S) → m ≡ record l { log = called l.log (Some (l.pass, r, state)) } → reach_of value m ≡ left_with r (value state) (reach_of value l)
  gave_back l m r state given = ap (reach_of value) given ∙ ap (λ (seen : Rounds). record (reach_of value l) { held = None; rounds = l.log.own ++ r ∷ []; seen = seen }) (in_more l.log.seen l.pass r state)
