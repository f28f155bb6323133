-- What an emitter's and a subscription's calls leave of their parties: their shares of the lock, and whom they took in.
use Rattle.std.proofs.Common.{◌≡◌, ⊎_elim, ℕ, suc, ◌+◌, Option, Some, None, Ok, Err, Result, List, [], ◌∷◌, ◌++◌, refl, sym, ap, ◌∙◌, subst}
use Rattle.std.specs.Prelude.{IfOk, IfErr}
use Rattle.round_lock.specs.History.{halves}
use Rattle.flow_terms.specs.declared.refusal.Refusal.{Refusal}
use Rattle.shared_lane.specs.Views.{ReceiptSeen}
use Rattle.shared_rounds.specs.declared.round.Emission.{Emission}
use Rattle.shared_rounds.specs.declared.round.Round.{Round}
use Rattle.shared_rounds.specs.declared.round.Round.TheVariants as round
use Rattle.shared_rounds.specs.Entering.{Made}
use Rattle.shared_rounds.specs.Reach.{Party, Rounds, with_round}
use Rattle.shared_flow.specs.declared.emitter.blocks.CutShort.{CutShort}
use Rattle.shared_flow.specs.Blocks.{EmitsOn, IsCutShort, TriedAll, none_yet, one_dropped, one_more, tried_more}
use Rattle.shared_flow.specs.Emitters.{Emits, EndsAs, Waited, WasFinished, WasLeft, emission_by, not_yet, once_more}
use Rattle.shared_flow.specs.Looks.{OnlyNext, by_none, by_one, by_pending}
use Rattle.shared_flow.specs.Parties.{Emitting, Subscribed, newcomer_of, sharing_of}
use Rattle.shared_flow.specs.Queue.{taken_up}
use Rattle.hot_callers.specs.Alone.{HaveWholeLock, NothingEmitted, OnlyReceives, OnlyTakes}
use Rattle.hot_callers.specs.Exchanges.{IsSameParty}
use Rattle.hot_callers.proofs.Speaking.{nothing_more}

-- what a party has become, of what it had become
then_same : (p q r : Party) → IsSameParty p q → IsSameParty q r → IsSameParty p r
then_same p q r was now = now ∙ ap (λ (x : Party). record x { rounds = r.rounds; seen = r.seen }) was

-- it is another in rounds and in what it has seen alone
same_by : (p q : Party) {x : Party} → q ≡ x → x ≡ record p { rounds = x.rounds; seen = x.seen } → IsSameParty p q
same_by p q is only = is ∙ only ∙ ap (λ (y : Party). record p { rounds = y.rounds; seen = y.seen }) (sym is)

-- ---- an emitter's calls

waited_same : (e f : Emitting) → Waited e f → IsSameParty e.party f.party
waited_same _ _ (not_yet e) = refl
waited_same _ _ (once_more e f g was now) =
    then_same e.party f.party g.party (waited_same e f was) (same_by f.party g.party (ap (λ (x : Emitting). x.party) now.3) refl)

ends_same : (e f : Emitting) (answer : Result (Option ReceiptSeen) Refusal) → EndsAs e answer f → IsSameParty e.party f.party
ends_same e f (Ok (Some receipt)) ends = ⊎_elim
    (λ (polled : (m : Emitting) × Waited e m × WasFinished m receipt f). then_same e.party polled.0.party f.party (waited_same e polled.0 polled.1)
    (same_by polled.0.party f.party (ap (λ (x : Emitting). x.party) polled.2.2) refl))
    (λ (was_left : WasLeft e receipt f). same_by e.party f.party (ap (λ (x : Emitting). x.party) was_left.2) refl)
    ends
ends_same e f (Ok None) ends = absurd ends
ends_same e f (Err refusal) ends = same_by e.party f.party (ap (λ (x : Emitting). x.party) ends.1.2) refl

emits_same : (e f : Emitting) (emission : Emission) (answer : Result (Option ReceiptSeen) Refusal) → Emits e emission answer f → IsSameParty e.party f.party
emits_same e f emission answer emits = ⊎_elim
    (λ at_once. same_by e.party f.party (ap (λ (x : Emitting). x.party) at_once.2) refl)
    (λ later. then_same e.party later.0.party f.party (same_by e.party later.0.party (ap (λ (x : Emitting). x.party) later.1.2) refl) (ends_same later.0 f answer later.2))
    emits

block_same : (e f : Emitting) (words : List ℕ) (answer : Result ℕ Refusal) → TriedAll e words answer f → IsSameParty e.party f.party
block_same e f words answer tried = same_by e.party f.party (ap (λ (x : Emitting). x.party) tried.0) refl

on_same : (e f : Emitting) (words : List ℕ) (n : ℕ) → EmitsOn e words n f → IsSameParty e.party f.party
on_same _ _ _ _ (none_yet e) = refl
on_same _ _ _ _ (tried_more e f g words more n k was now) = then_same e.party f.party g.party (on_same e f words n was) (block_same f g more (Ok k) now)
on_same _ _ _ _ (one_more e f g words word n receipt was now) = then_same e.party f.party g.party (on_same e f words n was) (emits_same f g (emission_by f word) (Ok (Some receipt)) now)
on_same _ _ _ _ (one_dropped e f g words word n was now) = then_same e.party f.party g.party (on_same e f words n was) (emits_same f g (emission_by f word) (Ok None) now)

cut_same : (e f : Emitting) (words : List ℕ) (cut : CutShort) → IsCutShort e words cut f → IsSameParty e.party f.party
cut_same e f words cut short = then_same e.party short.then.party f.party (on_same e short.then short.before cut.accepted short.accepted) (⊎_elim
    (λ (tried : TriedAll short.then (short.word ∷ short.later) (Err cut.refusal) f). block_same short.then f (short.word ∷ short.later) (Err cut.refusal) tried)
    (λ (emits : Emits short.then (emission_by short.then short.word) (Err cut.refusal) f). emits_same short.then f (emission_by short.then short.word) (Err cut.refusal) emits)
    short.refused)

pub all_same : (e f : Emitting) (words : List ℕ) (answer : Result ℕ CutShort) → IfOk answer (λ n. EmitsOn e words n f) → IfErr answer (λ cut. IsCutShort e words cut f)
    → IsSameParty e.party f.party
all_same e f words (Ok n) emitted cut = on_same e f words n emitted
all_same e f words (Err short) emitted cut = cut_same e f words short cut

-- ---- a subscription's calls

pub quiet_round : (p q : Party) (r : Round) → ((id : ℕ) → taken_up id r ≡ []) → Made r p q → OnlyReceives p q
quiet_round p q r nothing made = (
  same_by p q made.after refl,
  λ quiet. λ id. subst (λ (x : Party). NothingEmitted x.rounds) (sym made.after) (λ e. nothing_more e p.rounds r (quiet e) (nothing e)) id,
)

pub receives_then : (p q r : Party) → OnlyReceives p q → OnlyReceives q r → OnlyReceives p r
receives_then p q r was now = (then_same p q r was.0 now.0, λ quiet. now.1 (was.1 quiet))

pub receives_nothing : (p : Party) → OnlyReceives p p
receives_nothing p = (refl, λ quiet. quiet)

pub only_receives : (number : ℕ) (p q : Party) → OnlyNext number p q → OnlyReceives p q
only_receives number _ _ (by_none p) = receives_nothing p
only_receives number _ _ (by_one p q r was made) = receives_then p q r (only_receives number p q was) (quiet_round q r (round.Next number) (λ id. refl) made)
only_receives number _ _ (by_pending p q r was made) = receives_then p q r (only_receives number p q was) (quiet_round q r (round.Pending number) (λ id. refl) made)

-- it heard of rounds
pub heard_only : (p q : Party) (list : Rounds) → q ≡ record p { seen = list } → OnlyReceives p q
heard_only p q list same = (same_by p q same refl, λ quiet. λ id. subst (λ (x : Party). NothingEmitted x.rounds) (sym same) quiet id)

pub takes_only : (s : Subscribed ℕ) → OnlyTakes s s
takes_only s = (refl, receives_nothing s.party)

pub takes_only_more : (s m t : Subscribed ℕ) → OnlyTakes s m → OnlyTakes m t → OnlyTakes s t
takes_only_more s m t was now = (now.0 ∙ was.0, receives_then s.party m.party t.party was.1 now.1)

-- ---- an owner

-- it is the owner that it was, but for whom it took in, its rounds, and what it has seen
abbrev pub IsSameOwner : Party → Party → Type 0
IsSameOwner p q = q ≡ record p { taken = q.taken; rounds = q.rounds; seen = q.seen }

pub same_owner : (p q : Party) {x : Party} → q ≡ x → x ≡ record p { taken = x.taken; rounds = x.rounds; seen = x.seen } → IsSameOwner p q
same_owner p q is only = is ∙ only ∙ ap (λ (y : Party). record p { taken = y.taken; rounds = y.rounds; seen = y.seen }) (sym is)

pub owner_then : (p q r : Party) → IsSameOwner p q → IsSameOwner q r → IsSameOwner p r
owner_then p q r was now = now ∙ ap (λ (x : Party). record x { taken = r.taken; rounds = r.rounds; seen = r.seen }) was

-- ---- all three

pub still_whole : (owner emitter after subscription later : Party) → HaveWholeLock owner emitter subscription → IsSameParty emitter after → OnlyReceives subscription later
    → HaveWholeLock owner after later
still_whole owner emitter after subscription later whole same only = record {
  lock = (ap (λ (x : Party). x.lock) same ∙ whole.lock.0, ap (λ (x : Party). x.lock) only.0 ∙ whole.lock.1);
  flow = ap (λ (x : Party). x.flow) only.0 ∙ whole.flow;
  nobody_taken = (whole.nobody_taken.0, ap (λ (x : Party). x.taken) same ∙ whole.nobody_taken.1, ap (λ (x : Party). x.taken) only.0 ∙ whole.nobody_taken.2);
  has_all = (
    whole.has_all.0,
    (λ i. halves whole.has_all.0 owner.halved + (halves whole.has_all.0 (ap (λ (x : Party). x.halved) same i) + (halves whole.has_all.0 (ap (λ (x : Party). x.halved) only.0 i) + 0)))
        ∙ whole.has_all.1,
  );
  quiet = (whole.quiet.0, only.1 whole.quiet.1);
}

-- those of an owner that made both, and had the whole
pub begins_whole : (o p q e s : Party) (number : ℕ) → o.rounds ≡ [] → o.halved ≡ 0 → o.taken ≡ [] → e ≡ newcomer_of e.pass o → p ≡ sharing_of o → s ≡ newcomer_of s.pass p
    → q ≡ with_round (round.Subscribe (Ok number)) q.seen (sharing_of p) → HaveWholeLock q e s
begins_whole o p q e s number none all nobody e_is p_is s_is q_is =
    let rounds : q.rounds ≡ round.Subscribe (Ok number) ∷ [] =
    ap (λ (x : Party). x.rounds) q_is ∙ ap (λ (l : List Round). l ++ round.Subscribe (Ok number) ∷ []) (ap (λ (x : Party). x.rounds) p_is ∙ none) in
    let once : p.halved ≡ 1 = ap (λ (x : Party). x.halved) p_is ∙ ap suc all in
    let twice : q.halved ≡ 2 = ap (λ (x : Party). x.halved) q_is ∙ ap suc once in
    let of_emitter : e.halved ≡ 1 = ap (λ (x : Party). x.halved) e_is ∙ ap suc all in
    let of_subscription : s.halved ≡ 2 = ap (λ (x : Party). x.halved) s_is ∙ ap suc once in record {
      lock = (
        ap (λ (x : Party). x.lock) e_is ∙ sym (ap (λ (x : Party). x.lock) q_is ∙ ap (λ (x : Party). x.lock) p_is),
        ap (λ (x : Party). x.lock) s_is ∙ sym (ap (λ (x : Party). x.lock) q_is),
      );
      flow = ap (λ (x : Party). x.flow) s_is ∙ sym (ap (λ (x : Party). x.flow) q_is);
      nobody_taken = (
        ap (λ (x : Party). x.taken) q_is ∙ ap (λ (x : Party). x.taken) p_is ∙ nobody,
        ap (λ (x : Party). x.taken) e_is,
        ap (λ (x : Party). x.taken) s_is,
      );
      has_all = (2, λ i. halves 2 (twice i) + (halves 2 (of_emitter i) + (halves 2 (of_subscription i) + 0)));
      quiet = (
        subst NothingEmitted (sym rounds) (λ id. (refl, tt)),
        subst NothingEmitted (sym (ap (λ (x : Party). x.rounds) s_is)) (λ id. tt),
      );
    }
