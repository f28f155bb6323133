-- A party's round, put together from what it found and how it left.
use Rattle.std.proofs.Common.{◌≡◌, ◌+◌, ◌≤◌, ◌++◌, ◌∷◌, [], ℕ, length, inl, Ok, Some, refl, sym, ap, ◌∙◌, subst}
use Rattle.flow_terms.specs.Lists.{IsPrefix}
use Rattle.round_lock.specs.History.{KnowsTaken, own_of}
use Rattle.std.proofs.lemmas.List.{append-nil}
use Rattle.std.proofs.lemmas.Option.{same_Some}
use Rattle.shared_lane.specs.declared.reader.Met.{Met}
use Rattle.shared_lane.specs.declared.reader.Taken.TheVariants.{Nothing}
use Rattle.shared_lane.specs.Readers.{at}
use Rattle.shared_lane.specs.Sequencers.{next}
use Rattle.shared_lane.specs.Views.{ReaderSeen}
use Rattle.shared_lane.proofs.Sameness.{loaded_twice}
use Rattle.shared_rounds.specs.declared.round.Round.{Round}
use Rattle.shared_rounds.specs.declared.round.Round.TheVariants as round
use Rattle.shared_rounds.specs.Entering.{Found, Left, Made, MadeOf}
use Rattle.shared_flow.specs.Looks.{MissedUnder, WasEnded, WasAdmittedBy, WasMadeWithin}
use Rattle.shared_rounds.specs.Names.{SharedSeen}
use Rattle.shared_rounds.specs.Meeting.{HasMet, Looked}
use Rattle.shared_flow.specs.Owners.{HasHeard, Keeping, Meets}
use Rattle.shared_rounds.specs.Reach.{with_round, Party, Reach, Rounds, party_of}
use Rattle.shared_flow.specs.Parties.{Subscribed}
use Rattle.shared_rounds.specs.Rounds.{HasClosed, HasFreed, IsAdmitted, WasAdmitted}

-- the owner took the lock, and gave it back with a round
pub made : {called : SharedSeen} (r : Round) (p q t : Reach) (found : SharedSeen) → q ≡ record p { held = Some found; seen = q.seen } → Found (party_of p) found q.seen → Left r called q t → Made r (party_of p) (party_of t)
made r p q t found taken saw went = record {
  found = went.found;
  left = went.left;
  before = q.seen;
  saw = subst (λ (s : SharedSeen). Found (party_of p) s q.seen) (same_Some _ _ (sym (ap (λ (x : Reach). x.held) taken) ∙ went.held)) saw;
  does = went.does;
  after = ap party_of went.after ∙ ap (λ (x : Reach). with_round r (q.seen ++ (x.pass, r, went.left) ∷ []) (party_of x)) taken;
}

-- so it did, and admitted a reader
pub was_admitted : (number : ℕ) (p q t : Reach) (found called : SharedSeen) (reader : ReaderSeen) → q ≡ record p { held = Some found; seen = q.seen }
    → Found (party_of p) found q.seen → p.flow ≡ Some found.name → Left (round.Subscribe (Ok number)) called q t → IsAdmitted found number reader called
    → WasAdmittedBy number reader (party_of p) (party_of t)
unfolding made
was_admitted number p q t found called reader taken saw named went admission =
    let same : found ≡ went.found = same_Some _ _ (sym (ap (λ (x : Reach). x.held) taken) ∙ went.held) in record {
      made = made (round.Subscribe (Ok number)) p q t found taken saw went;
      flow_is = named ∙ ap (λ (s : SharedSeen). Some s.name) same;
      admitted = subst (λ (s : SharedSeen). WasAdmitted s reader went.left) same (admission.0, admission.1, admission.2, admission.3, admission.4, (called.sequencer, admission.5.1, went.only));
    }

-- so it did, and ended a reader
pub was_ended : (number : ℕ) (p q t : Reach) (found called : SharedSeen) (reader : ReaderSeen) (met : Met) → q ≡ record p { held = Some found; seen = q.seen }
    → Found (party_of p) found q.seen → p.flow ≡ Some found.name → Left (round.Cancel number) called q t → HasClosed found reader met called
    → WasEnded number reader met (party_of p) (party_of t)
unfolding made
was_ended number p q t found called reader met taken saw named went closed =
    let same : found ≡ went.found = same_Some _ _ (sym (ap (λ (x : Reach). x.held) taken) ∙ went.held) in record {
      made = made (round.Cancel number) p q t found taken saw went;
      flow_is = named ∙ ap (λ (s : SharedSeen). Some s.name) same;
      closed = subst (λ (s : SharedSeen). HasClosed s reader met went.left) same
          (closed.0, closed.1, closed.2, closed.3, closed.4, (closed.5.0, closed.5.1, closed.5.2, closed.5.3, closed.5.4, closed.5.5, loaded_twice closed.5.2 called.sequencer went.left.sequencer closed.5.6 went.only));
    }

-- so it did, after a look that found nothing of all that it had accepted
pub missed_all : (number : ℕ) (p q t : Reach) (found called : SharedSeen) (r m : ReaderSeen) → q ≡ record p { held = Some found; seen = q.seen } → Found (party_of p) found q.seen
    → Left (round.Pending number) called q t → Looked r Nothing m → next called.sequencer ≤ at m → MissedUnder number r m (party_of p) (party_of t)
unfolding made
missed_all number p q t found called r m taken saw went looked all = record {
  made = made (round.Pending number) p q t found taken saw went;
  missed = inl (looked, subst (λ (n : ℕ). n ≤ at m) (λ i. (sym went.only.1 i).first + length (sym went.only.2 i)) all);
}

-- so it did, of which a receipt was a part
pub was_made_within : (number : ℕ) (p q t : Reach) (found called : SharedSeen) → q ≡ record p { held = Some found; seen = q.seen }
    → Found (party_of p) found q.seen → Left (round.Next number) called q t → HasFreed found called → WasMadeWithin number (party_of p) (party_of t)
unfolding made
was_made_within number p q t found called taken saw went freed =
    let same : found ≡ went.found = same_Some _ _ (sym (ap (λ (x : Reach). x.held) taken) ∙ went.held) in record {
      made = made (round.Next number) p q t found taken saw went;
      freed = subst (λ (s : SharedSeen). HasFreed s went.left) same
          (freed.0, freed.1, freed.2, freed.3, freed.4, (freed.5.0, freed.5.1, loaded_twice freed.5.0 called.sequencer went.left.sequencer freed.5.2 went.only));
    }

-- the owner that kept the lock gave it back with a round
pub made_of : {called : SharedSeen} (r : Round) (p t : Reach) (found : SharedSeen) → p.held ≡ Some found → Found (party_of p) found p.seen → Left r called p t
    → MadeOf called r (party_of p) (party_of t)
made_of r p t found held saw went = record {
  made = record {
    found = went.found;
    left = went.left;
    before = p.seen;
    saw = subst (λ (s : SharedSeen). Found (party_of p) s p.seen) (same_Some _ _ (sym held ∙ went.held)) saw;
    does = went.does;
    after = ap party_of went.after;
  };
  before_is = refl;
  only = went.only;
}

-- what a party made that had the lock, it made of what it was before it had taken that
abbrev pub made_since : {called : SharedSeen} (r : Round) (p q t : Party) → q ≡ record p { seen = q.seen } → IsPrefix p.seen q.seen → MadeOf called r q t → Made r p t
made_since r p q t same on it = record {
  found = it.made.found;
  left = it.made.left;
  before = it.made.before;
  saw = record {
    made = it.made.saw.made;
    flow_is = sym (ap (λ (x : Party). x.flow) same) ∙ it.made.saw.flow_is;
    after = it.made.saw.after;
    rounds_are = sym (ap (λ (x : Party). x.rounds) same) ∙ it.made.saw.rounds_are ∙ ap (λ pass. own_of pass it.made.before) (ap (λ (x : Party). x.pass) same);
    seen_on = subst (λ (l : Rounds). IsPrefix p.seen l) (sym it.before_is) on;
    taken_in = subst (λ (x : Party). KnowsTaken x.pass x.rounds x.halved x.taken it.made.before) same it.made.saw.taken_in;
  };
  does = it.made.does;
  after = it.made.after ∙ ap (λ (x : Party). with_round r (it.made.before ++ (x.pass, r, it.made.left) ∷ []) x) same;
}

-- An owner told a subscription of all rounds while it kept the lock, and met it, before it made its round.
abbrev pub meets : {T : Type 0} (p q r : Party) (s m t : Subscribed T) (met : Met) (kept : Keeping) → q ≡ record p { seen = q.seen } → IsPrefix p.seen q.seen
    → HasHeard q.seen s.party m.party → m ≡ record s { party = m.party } → (t.party ≡ m.party) × (t.number ≡ m.number) → t.rest ≡ m.rest
    → HasMet kept.shared.sequencer m.reader t.reader met → MadeOf kept.shared (round.Hold kept.count) q r → Meets p r s t met
meets {T} p q r s m t met kept owner on told only same rest has_met it = record {
  count = kept.count;
  made = made_since (round.Hold kept.count) p q r owner on it;
  heard = subst (λ (x : Party). HasHeard it.made.before s.party x) (sym same.0) (subst (λ (l : Rounds). HasHeard l s.party m.party) (sym it.before_is) told);
  same = (same.1 ∙ ap (λ (x : Subscribed T). x.number) only, rest ∙ ap (λ (x : Subscribed T). x.rest) only);
  kept = kept.shared;
  only = it.only;
  has_met = subst (λ (x : ReaderSeen). HasMet kept.shared.sequencer x t.reader met) (ap (λ (x : Subscribed T). x.reader) only) has_met;
}

-- who has taken the lock, and has seen all of the list, found it so
pub found_again : (p q : Party) (found : SharedSeen) → Found p found q.seen → q ≡ record p { seen = q.seen } → Found q found q.seen
found_again p q found saw same = subst (λ (x : Party). Found x found q.seen) (sym same) (record {
  made = saw.made;
  flow_is = saw.flow_is;
  after = saw.after;
  rounds_are = saw.rounds_are;
  seen_on = ([], sym (append-nil q.seen));
  taken_in = saw.taken_in;
})

-- a party after its round is what it was, but for this round and what it has seen now
pub round_is : (r : Round) (p q : Party) → Made r p q → q ≡ with_round r q.seen p
round_is r p q it = it.after ∙ ap (λ (l : Rounds). with_round r l p) (sym (ap (λ (x : Party). x.seen) it.after))
