-- What holds of every list of rounds.
use Rattle.std.proofs.Common.{◌≡◌, ℕ, ◌+◌, ◌-◌, ◌≤◌, List, [], ◌∷◌, ◌++◌, length, replicate, false, Option, None, refl, sym, ap, ◌∙◌, subst, arith, length-append}
use Rattle.std.proofs.lemmas.List.{append-nil}
use Rattle.round_lock.specs.declared.log.Log.{Log}
use Rattle.round_lock.proofs.Readings.{reads}
use Rattle.flow_terms.specs.Lists.{IsPrefix}
use Rattle.shared_lane.specs.Headline.{Lived, Went, StartsAtCache, given, ReceivesCacheThenLater}
use Rattle.shared_lane.specs.Readers.{at, IsSameReader}
use Rattle.shared_lane.specs.Sequencers.{seen}
use Rattle.shared_lane.specs.Views.{ReaderSeen, SequencerSeen}
use Rattle.shared_lane.proofs.Lives.{receives, lived_more, given_one}
use Rattle.shared_rounds.specs.declared.round.Round.{Round}
use Rattle.shared_rounds.specs.Names.{SharedSeen, IsNew}
use Rattle.shared_flow.specs.Queue.{progress_of}
use Rattle.shared_rounds.specs.Entering.{IsLeftBy}
use Rattle.shared_rounds.specs.Reach.{Rounds, rounds_in}
use Rattle.shared_rounds.specs.Rounds.{Does, WasAdmitted}
use Rattle.shared_flow.specs.Laws.{IsOneFlow, IsRuled, HasOneList, EachSubscriptionLaw, knowing}
use Rattle.shared_flow.proofs.Lives.{looks, reader_lived, with_prelude}
use Rattle.shared_rounds.proofs.Boxes.{in_prefix, same_own, same_parts, unboxed}
use Rattle.shared_rounds.proofs.Numbers.{same_name}
use Rattle.shared_flow.proofs.Ordering.{each_in_its_own_order}
use Rattle.shared_flow.proofs.Queueing.{comes_to}

pub one_flow : (made now : SharedSeen) (log : Rounds) → IsLeftBy made log now → IsOneFlow made log now
one_flow made now log left = let comes = comes_to made log now left in record {
  same_flow = same_name (λ s. s) made log now left;
  accepted_in_turn = comes;
  each_in_its_own_order = each_in_its_own_order log (progress_of now.sequencer) comes;
}

module _ {S : Type 0} (value : S → SharedSeen) where
  pub one_list : (items : List S) (views : List (Log S Round)) → IsRuled value items views → HasOneList value items views
  one_list items views ruled = let one = reads (λ (s : S). IsNew (value s)) (λ (s : S) (r : Round) (t : S). Does (value s) r (value t)) items views ruled in record {
    log = rounds_in value one.log;
    parts = λ pass v at here. one.parts pass v at here ∙ same_own value pass one.log;
    parts_taken = λ pass v at. same_parts value one.log v.taken (one.parts_taken pass v at);
    seen_by = λ pass v at. in_prefix value one.log v.seen (one.seen_by pass v at);
    under = λ now is. (value one.made, unboxed value one.made one.log now (one.under now is));
    taken = λ pass v now at is. (value one.made, unboxed value one.made one.log now (one.taken pass v now at is).0);
  }

-- a reader that hears of what was accepted stays where it is
heard : (now : SharedSeen) (r : ReaderSeen) → Went r None (knowing now r)
heard now r = let none : 0 ≡ at r - at r = omega arith in (at r, (omega arith, (λ kept. refl), sym (append-nil r.story) ∙ ap (λ k. r.story ++ replicate k false) none))

-- what its reader received
each_reader : (now : SharedSeen) (cache : List ℕ) (start reader : ReaderSeen) (calls : List (Option ℕ))
    → StartsAtCache cache start → Lived start calls reader → at reader ≤ reader.shape.first + length reader.seen → IsPrefix reader.seen (seen now.sequencer)
    → ReceivesCacheThenLater cache start (knowing now reader) (given calls)
each_reader now cache start reader calls begun lived far begins =
    let same : IsSameReader reader (knowing now reader) = (refl, refl, refl, begins, refl, refl) in
    let told = lived_more start reader (knowing now reader) calls None lived (heard now reader) same in
    let none : given (calls ++ None ∷ []) ≡ given calls = given_one calls None ∙ append-nil (given calls) in
    let longer : at reader ≤ reader.shape.first + length (seen now.sequencer) = let more = ap length begins.1 ∙ length-append reader.seen begins.0 in omega (arith, far, more) in
    subst (ReceivesCacheThenLater cache start (knowing now reader)) none (receives cache start (knowing now reader) (calls ++ None ∷ []) begun told longer)

-- who was admitted by a round starts at the replay cache that this round left
starts_at_cache : (found left_after : SharedSeen) (start : ReaderSeen) → WasAdmitted found start left_after → StartsAtCache left_after.sequencer.cache start
starts_at_cache found left_after start was =
    let same : left_after.sequencer.cache ≡ was.0.cache = ap (λ (q : SequencerSeen). q.cache) was.5.2.0 ∙ ap (λ (q : SequencerSeen). q.cache) was.5.1.counted in
    subst (λ (cache : List ℕ). StartsAtCache cache start) (sym same) was.5.1.begins

pub each_subscription : {T : Type 0} (read_as : ℕ → T) → EachSubscriptionLaw read_as
each_subscription read_as = λ made now log life it.
    let began = subst (λ (cache : List ℕ). StartsAtCache cache life.start) (sym it.began.cache_is) (starts_at_cache it.began.found it.began.left_after life.start it.began.admitted) in
    let lived = reader_lived life.prelude life.start life.life_steps life.left life.reader it.lived in (
      one_flow made now log it.left_by,
      with_prelude read_as life (knowing now life.reader) it.lived
          (each_reader now life.cache life.start life.reader (looks life.life_steps) began lived it.has_seen_so_far it.has_seen_this),
    )
