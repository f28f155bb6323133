-- Each emitter's emissions are accepted in its own order, but for those that it gives up.
use Rattle.std.proofs.Common.{◌≡◌, ◌==◌, ◌||◌, ◌⊎◌, ⊎_elim, inl, inr, ℕ, zero, suc, ◌+◌, ◌<◌, Bool, true, false, true≢false, cond, Option, Some, None, List, [], ◌∷◌, ◌++◌, map, take, drop, slice_get, Ok, Err, refl, sym, ap, ◌∙◌, subst, arith, append_assoc, eqb-true}
use Rattle.std.proofs.Math.Bool.{or-false}
use Rattle.std.proofs.lemmas.List.{append-nil, map-append}
use Rattle.std.proofs.lemmas.List.Recursion.{or_push}
use Rattle.std.proofs.lemmas.Option.{same_Some}
use Rattle.flow_terms.specs.declared.answers.Tried.TheVariants as tried
use Rattle.flow_terms.specs.declared.answers.Begun.TheVariants as begun
use Rattle.flow_terms.specs.declared.answers.Withdrawn.TheVariants as withdrawn
use Rattle.shared_lane.specs.Law.{Entry}
use Rattle.shared_core.specs.Story.{Interleaves}
use Rattle.shared_lane.specs.Blocks.{entries}
use Rattle.shared_lane.specs.Sequencers.{entry_of}
use Rattle.shared_lane.specs.declared.tickets.Waiting.{Waiting}
use Rattle.shared_rounds.specs.declared.round.Emission.{Emission}
use Rattle.shared_rounds.specs.declared.round.Round.{Round}
use Rattle.shared_rounds.specs.declared.round.Round.TheVariants as round
use Rattle.shared_flow.specs.Queue.{Progress, with_accepted, with_ticket, waits_in, IsAcceptedNow, AreAcceptedNow, IsWithdrawn, Goes, ComesTo, one_by, words_by, taken_up, emitted, gives_up, is_given_up, one_given_up, given_up_of, given_up, EachInItsOwnOrder}
use Rattle.shared_flow.specs.Queue.ComesTo.{begins, goes_on}
use Rattle.shared_rounds.specs.Names.{SharedSeen}
use Rattle.shared_rounds.specs.Reach.{Rounds}
use Rattle.shared_rounds.specs.Rounds.{entry}
use Rattle.shared_flow.proofs.GivingUp.{Item, entries_of, plain, entries_plain, kept, left_out, parts, kept_append, left_out-append, kept_plain, left_out-plain, kept_both, Absent, Once, once_kept, kept_others, once_plain, once_more, AllBelow, IsBelow, below_absent, below_append, below_plain, below_more, below_kept, below_at}

-- ---- the emissions of a history, with their tickets

abbrev with : ℕ → Emission → Item
with ticket m = (Some ticket, entry m)

abbrev items : Round → List Item
items (round.Try m (Ok (tried.Accepted n))) = plain (entry m ∷ [])
items (round.TryAll emitter words (Ok n)) = plain (entries emitter (take n words))
items (round.Start m (Ok (begun.Accepted n))) = plain (entry m ∷ [])
items (round.Start m (Ok (begun.Waiting ticket))) = with ticket.0 m ∷ []
items _ = []

abbrev all_items : Rounds → List Item
all_items [] = []
all_items (x ∷ log) = items x.1 ++ all_items log

all_items-snoc : (log : Rounds) (x : ℕ × Round × SharedSeen) → all_items (log ++ x ∷ []) ≡ all_items log ++ items x.1
all_items-snoc [] x = append-nil (items x.1)
all_items-snoc (y ∷ log) x = ap (λ (l : List Item). items y.1 ++ l) (all_items-snoc log x) ∙ sym (append_assoc (items y.1) (all_items log) (items x.1))

given_snoc : (k : ℕ) (log : Rounds) (x : ℕ × Round × SharedSeen) → is_given_up k (log ++ x ∷ []) ≡ (is_given_up k log || gives_up k x.1)
given_snoc k log x = or_push (is_given_up k) (λ (y : ℕ × Round × SharedSeen). gives_up k y.1) refl (λ y l. refl) log x

words_append : (e : ℕ) (xs ys : List Entry) → words_by e (xs ++ ys) ≡ words_by e xs ++ words_by e ys
words_append e [] ys = refl
words_append e (x ∷ xs) ys = ap (λ l. one_by e x ++ l) (words_append e xs ys) ∙ sym (append_assoc (one_by e x) (words_by e xs) (words_by e ys))

module _ (e : ℕ) where
  words_two : (xs ys : List Item) → words_by e (entries_of (xs ++ ys)) ≡ words_by e (entries_of xs) ++ words_by e (entries_of ys)
  words_two xs ys = ap (words_by e) (map-append (λ (i : Item). i.1) xs ys) ∙ words_append e (entries_of xs) (entries_of ys)

  -- what an emitter emitted by a round
  taken_is : (r : Round) → words_by e (entries_of (items r)) ≡ taken_up e r
  taken_is (round.Try m (Ok (tried.Accepted n))) = append-nil (one_by e (entry m))
  taken_is (round.Try m (Ok tried.Dropped)) = refl
  taken_is (round.Try m (Ok tried.Full)) = refl
  taken_is (round.Try m (Err refusal)) = refl
  taken_is (round.TryAll emitter words (Ok n)) = ap (words_by e) (entries_plain (entries emitter (take n words)))
  taken_is (round.TryAll emitter words (Err refusal)) = refl
  taken_is (round.Start m (Ok (begun.Accepted n))) = append-nil (one_by e (entry m))
  taken_is (round.Start m (Ok begun.Dropped)) = refl
  taken_is (round.Start m (Ok (begun.Waiting ticket))) = append-nil (one_by e (entry m))
  taken_is (round.Start m (Err refusal)) = refl
  taken_is (round.Poll ticket answer) = refl
  taken_is (round.StrayPoll ticket emitter last n) = refl
  taken_is (round.Withdraw ticket answer) = refl
  taken_is (round.StrayWithdraw ticket emitter last n) = refl
  taken_is (round.Subscribe answer) = refl
  taken_is (round.Next number) = refl
  taken_is (round.Pending number) = refl
  taken_is (round.Cancel number) = refl
  taken_is round.Reset = refl
  taken_is (round.Cache answer) = refl
  taken_is (round.Count count) = refl
  taken_is (round.Hold count) = refl

  emitted_is : (log : Rounds) → words_by e (entries_of (all_items log)) ≡ emitted e log
  emitted_is [] = refl
  emitted_is (x ∷ log) = words_two (items x.1) (all_items log) ∙ (λ i. taken_is x.1 i ++ emitted_is log i)

  -- what it gave up of that, by a history
  module _ (log : Rounds) where
    abbrev gone : ℕ → Bool
    gone k = is_given_up k log

    one_is : (b : Bool) (i : Item) → words_by e (entries_of (cond b (i ∷ []) [])) ≡ cond b (one_by e i.1) []
    one_is true i = append-nil (one_by e i.1)
    one_is false i = refl

    gone_is : (r : Round) → words_by e (entries_of (left_out gone (items r))) ≡ one_given_up e log r
    gone_is (round.Try m (Ok (tried.Accepted n))) = refl
    gone_is (round.Try m (Ok tried.Dropped)) = refl
    gone_is (round.Try m (Ok tried.Full)) = refl
    gone_is (round.Try m (Err refusal)) = refl
    gone_is (round.TryAll emitter words (Ok n)) = ap (λ (l : List Item). words_by e (entries_of l)) (left_out-plain gone (entries emitter (take n words)))
    gone_is (round.TryAll emitter words (Err refusal)) = refl
    gone_is (round.Start m (Ok (begun.Accepted n))) = refl
    gone_is (round.Start m (Ok begun.Dropped)) = refl
    gone_is (round.Start m (Ok (begun.Waiting ticket))) = one_is (is_given_up ticket.0 log) (with ticket.0 m)
    gone_is (round.Start m (Err refusal)) = refl
    gone_is (round.Poll ticket answer) = refl
    gone_is (round.StrayPoll ticket emitter last n) = refl
    gone_is (round.Withdraw ticket answer) = refl
    gone_is (round.StrayWithdraw ticket emitter last n) = refl
    gone_is (round.Subscribe answer) = refl
    gone_is (round.Next number) = refl
    gone_is (round.Pending number) = refl
    gone_is (round.Cancel number) = refl
    gone_is round.Reset = refl
    gone_is (round.Cache answer) = refl
    gone_is (round.Count count) = refl
    gone_is (round.Hold count) = refl

    given_is : (rounds : Rounds) → words_by e (entries_of (left_out gone (all_items rounds))) ≡ given_up_of e log rounds
    given_is [] = refl
    given_is (x ∷ rounds) = ap (λ (l : List Item). words_by e (entries_of l)) (left_out-append gone (items x.1) (all_items rounds))
        ∙ (words_two (left_out gone (items x.1)) (left_out gone (all_items rounds)) ∙ (λ i. gone_is x.1 i ++ given_is rounds i))

-- ---- the queue, and the emissions that weren't given up

abbrev item_of : Waiting → Item
item_of w = (Some w.ticket, entry_of w)

entries_waiting : (ws : List Waiting) → entries_of (map item_of ws) ≡ map entry_of ws
entries_waiting [] = refl
entries_waiting (w ∷ ws) = ap (λ (l : List Entry). entry_of w ∷ l) (entries_waiting ws)

take_drop : {A : Type 0} (k : ℕ) (l : List A) → take k l ++ drop k l ≡ l
take_drop zero l = refl
take_drop (suc k) [] = refl
take_drop (suc k) (x ∷ l) = ap (λ (t : List _). x ∷ t) (take_drop k l)

-- an element stands between those before it and those after it
parted : {A : Type 0} (l : List A) (i : ℕ) (a : A) → slice_get l i ≡ Some a → l ≡ take i l ++ a ∷ drop (suc i) l
parted [] i a e = let no : ⊥ = cc in absurd no
parted (x ∷ l) zero a e = ap (λ y. y ∷ l) (same_Some _ _ e)
parted (x ∷ l) (suc i) a e = ap (λ (t : List _). x ∷ t) (parted l i a e)

-- Of these emissions those that weren't given up are those that were accepted, and then those that wait. Each ticket is one emission's, and
-- below the next one.
record Ledger (gone : ℕ → Bool) (l : List Item) (p : Progress) : Type 0 where
  pub first : List Item
  pub kept_is : kept gone l ≡ first ++ map item_of p.waiting
  pub accepted_is : entries_of first ≡ p.accepted
  pub once : Once l
  pub below : AllBelow p.ticket l
  pub gone_below : (k : ℕ) → gone k ≡ true → k < p.ticket

-- some that wait are accepted
with_accepted_on : (k : ℕ) (gone : ℕ → Bool) (l : List Item) (p : Progress) → Ledger gone l p → Ledger gone l (with_accepted k p)
with_accepted_on k gone l p was = let us : List Waiting = take k p.waiting in let vs : List Waiting = drop k p.waiting in record {
  first = was.first ++ map item_of us;
  kept_is = was.kept_is ∙ (ap (λ (ws : List Waiting). was.first ++ map item_of ws) (sym (take_drop k p.waiting))
      ∙ (ap (λ (t : List Item). was.first ++ t) (map-append item_of us vs) ∙ sym (append_assoc was.first (map item_of us) (map item_of vs))));
  accepted_is = map-append (λ (i : Item). i.1) was.first (map item_of us) ∙ (λ i. was.accepted_is i ++ entries_waiting us i);
  once = was.once;
  below = was.below;
  gone_below = was.gone_below;
}

-- what comes last stands before those that wait, where it is nothing, or none waits
swapped : (xs es : List Item) (ws : List Waiting) → (es ≡ []) ⊎ (ws ≡ []) → (xs ++ map item_of ws) ++ es ≡ (xs ++ es) ++ map item_of ws
swapped xs es ws either = ⊎_elim
    (λ empty. subst (λ (l : List Item). (xs ++ map item_of ws) ++ l ≡ (xs ++ l) ++ map item_of ws) (sym empty) (append-nil (xs ++ map item_of ws) ∙ ap (λ (l : List Item). l ++ map item_of ws) (sym (append-nil xs))))
    (λ idle. subst (λ (l : List Waiting). (xs ++ map item_of l) ++ es ≡ (xs ++ es) ++ map item_of l) (sym idle) (ap (λ (l : List Item). l ++ es) (append-nil xs) ∙ sym (append-nil (xs ++ es))))
    either

-- some are accepted at once, without tickets
plain_on : (es : List Entry) (gone : ℕ → Bool) (l : List Item) (p p' : Progress) → AreAcceptedNow es p p' → Ledger gone l p → Ledger gone (l ++ plain es) p'
plain_on es gone l p p' now was =
    let here : (plain es ≡ []) ⊎ (p.waiting ≡ []) = ⊎_elim (λ empty. inl (ap plain empty)) (λ idle. inr idle) now.0 in
    let after : Ledger gone (l ++ plain es) (record p { accepted = p.accepted ++ es }) = record {
      first = was.first ++ plain es;
      kept_is = kept_append gone l (plain es) ∙ ((λ i. was.kept_is i ++ kept_plain gone es i) ∙ swapped was.first (plain es) p.waiting here);
      accepted_is = map-append (λ (i : Item). i.1) was.first (plain es) ∙ (λ i. was.accepted_is i ++ entries_plain es i);
      once = once_plain l es was.once;
      below = below_append p.ticket l (plain es) was.below (below_plain p.ticket es);
      gone_below = was.gone_below;
    } in
    subst (Ledger gone (l ++ plain es)) (sym now.1) after

one_on : (m : Emission) (gone : ℕ → Bool) (l : List Item) (p p' : Progress) → IsAcceptedNow m p p' → Ledger gone l p → Ledger gone (l ++ plain (entry m ∷ [])) p'
one_on m gone l p p' now was = plain_on (entry m ∷ []) gone l p p' (inr now.0, now.1) was

-- a ticket that isn't out was not given up
not_gone : (gone : ℕ → Bool) (k : ℕ) → (gone k ≡ true → k < k) → gone k ≡ false
not_gone gone k low = by (gone k) low
  where
    by : (b : Bool) → (b ≡ true → k < k) → b ≡ false
    by true h = let bad : k < k = h refl in absurd (omega (arith, bad))
    by false h = refl

-- one with the next ticket comes to those that weren't given up
ticket_kept : (m : Emission) (gone : ℕ → Bool) (l : List Item) (p : Progress) → Ledger gone l p → kept gone (l ++ with p.ticket m ∷ []) ≡ kept gone l ++ with p.ticket m ∷ []
ticket_kept m gone l p was = kept_append gone l (with p.ticket m ∷ [])
    ∙ ap (λ (b : Bool). kept gone l ++ cond b [] (with p.ticket m ∷ [])) (not_gone gone p.ticket (was.gone_below p.ticket))

ticket_below : (m : Emission) (gone : ℕ → Bool) (l : List Item) (p : Progress) → Ledger gone l p → AllBelow (p.ticket + 1) (l ++ with p.ticket m ∷ [])
ticket_below m gone l p was = below_append (p.ticket + 1) l (with p.ticket m ∷ []) (below_more p.ticket (p.ticket + 1) l (omega arith) was.below) ((let low : p.ticket < p.ticket + 1 = omega arith in low), tt)

-- it is accepted at once
stood_on : (m : Emission) (gone : ℕ → Bool) (l : List Item) (p p' : Progress) → IsAcceptedNow m (with_ticket p) p' → Ledger gone l p → Ledger gone (l ++ with p.ticket m ∷ []) p'
stood_on m gone l p p' now was =
    let it : Item = with p.ticket m in
    let after : Ledger gone (l ++ it ∷ []) (record (with_ticket p) { accepted = p.accepted ++ entry m ∷ [] }) = record {
      first = was.first ++ it ∷ [];
      kept_is = ticket_kept m gone l p was ∙ (ap (λ (t : List Item). t ++ it ∷ []) was.kept_is ∙ swapped was.first (it ∷ []) p.waiting (inr now.0));
      accepted_is = map-append (λ (i : Item). i.1) was.first (it ∷ []) ∙ ap (λ (t : List Entry). t ++ entry m ∷ []) was.accepted_is;
      once = once_more l (entry m) p.ticket was.once (below_absent p.ticket l was.below);
      below = ticket_below m gone l p was;
      gone_below = λ k is. let low = was.gone_below k is in omega (arith, low);
    } in
    subst (Ledger gone (l ++ it ∷ [])) (sym now.1) after

-- it waits
waits_on : (m : Emission) (gone : ℕ → Bool) (l : List Item) (p p' : Progress) → p' ≡ waits_in m p → Ledger gone l p → Ledger gone (l ++ with p.ticket m ∷ []) p'
waits_on m gone l p p' is was =
    let it : Item = with p.ticket m in
    let w : Waiting = record { ticket = p.ticket; emitter = m.emitter; word = m.word } in
    let after : Ledger gone (l ++ it ∷ []) (waits_in m p) = record {
      first = was.first;
      kept_is = ticket_kept m gone l p was ∙ (ap (λ (t : List Item). t ++ it ∷ []) was.kept_is ∙ (append_assoc was.first (map item_of p.waiting) (it ∷ [])
          ∙ ap (λ (t : List Item). was.first ++ t) (sym (map-append item_of p.waiting (w ∷ [])))));
      accepted_is = was.accepted_is;
      once = once_more l (entry m) p.ticket was.once (below_absent p.ticket l was.below);
      below = ticket_below m gone l p was;
      gone_below = λ k is. let low = was.gone_below k is in omega (arith, low);
    } in
    subst (Ledger gone (l ++ it ∷ [])) (sym is) after

-- a round that begins none
same_on : (gone : ℕ → Bool) (l : List Item) (p p' : Progress) → p' ≡ p → Ledger gone l p → Ledger gone (l ++ []) p'
same_on gone l p p' is was = subst (λ (z : List Item × Progress). Ledger gone z.0 z.1) (λ i. (sym (append-nil l) i, sym is i)) was

either_below : (a b : Bool) (k ticket n : ℕ) → b ≡ (ticket == k) → (a ≡ true → k < n) → ticket < n → (a || b) ≡ true → k < n
either_below true b k ticket n is low below at = low refl
either_below false b k ticket n is low below at = subst (λ (z : ℕ). z < n) (eqb-true ticket k (sym is ∙ at)) below

-- one that waits is given up
given_on : (ticket : ℕ) (gone : ℕ → Bool) (l : List Item) (p p' : Progress) → IsWithdrawn ticket p p' → Ledger gone l p → Ledger (λ k. gone k || (ticket == k)) (l ++ []) p'
given_on ticket gone l p p' out was =
    let i = out.0 in
    let w = out.1 in
    let us : List Item = was.first ++ map item_of (take i p.waiting) in
    let vs : List Item = map item_of (drop (suc i) p.waiting) in
    let cut : kept gone l ≡ us ++ item_of w ∷ vs = was.kept_is ∙ (ap (λ (ws : List Waiting). was.first ++ map item_of ws) (parted p.waiting i w out.2)
    ∙ (ap (λ (t : List Item). was.first ++ t) (map-append item_of (take i p.waiting) (w ∷ drop (suc i) p.waiting)) ∙ sym (append_assoc was.first (map item_of (take i p.waiting)) (item_of w ∷ vs)))) in
    let mine : (item_of w).0 ≡ Some ticket = ap Some out.3 in
    let once = subst Once cut (once_kept gone l was.once) in
    let low : ticket < p.ticket = subst (IsBelow p.ticket) mine (below_at p.ticket us vs (item_of w) (subst (AllBelow p.ticket) cut (below_kept gone p.ticket l was.below))) in
    let after : Ledger (λ k. gone k || (ticket == k)) l (record p { waiting = take i p.waiting ++ drop (suc i) p.waiting }) = record {
      first = was.first;
      kept_is = kept_both gone (λ k. ticket == k) l ∙ (ap (kept (λ k. ticket == k)) cut ∙ (kept_others us vs (item_of w) ticket mine once
          ∙ (append_assoc was.first (map item_of (take i p.waiting)) vs ∙ ap (λ (t : List Item). was.first ++ t) (sym (map-append item_of (take i p.waiting) (drop (suc i) p.waiting))))));
      accepted_is = was.accepted_is;
      once = was.once;
      below = was.below;
      gone_below = λ k at. either_below (gone k) (ticket == k) k ticket p.ticket refl (was.gone_below k) low at;
    } in
    subst (λ (z : List Item × Progress). Ledger (λ k. gone k || (ticket == k)) z.0 z.1) (λ j. (sym (append-nil l) j, sym out.4 j)) after

-- a round that gives up none
still : (gone : ℕ → Bool) (l : List Item) (p : Progress) → Ledger gone l p → Ledger (λ k. gone k || false) l p
still gone l p was = subst (λ (g : ℕ → Bool). Ledger g l p) (λ i k. sym (or-false (gone k)) i) was

goes_on_with : (r : Round) (gone : ℕ → Bool) (l : List Item) (p p' : Progress) → Goes r p p' → Ledger gone l p → Ledger (λ k. gone k || gives_up k r) (l ++ items r) p'
goes_on_with (round.Try m (Ok (tried.Accepted n))) gone l p p' goes was = still gone _ p' (one_on m gone l p p' goes was)
goes_on_with (round.Try m (Ok tried.Dropped)) gone l p p' goes was = still gone _ p' (same_on gone l p p' goes was)
goes_on_with (round.Try m (Ok tried.Full)) gone l p p' goes was = still gone _ p' (same_on gone l p p' goes was)
goes_on_with (round.Try m (Err refusal)) gone l p p' goes was = still gone _ p' (same_on gone l p p' goes was)
goes_on_with (round.TryAll emitter words (Ok n)) gone l p p' goes was = still gone _ p' (plain_on (entries emitter (take n words)) gone l p p' goes was)
goes_on_with (round.TryAll emitter words (Err refusal)) gone l p p' goes was = still gone _ p' (same_on gone l p p' goes was)
goes_on_with (round.Start m (Ok (begun.Accepted n))) gone l p p' goes was = still gone _ p' (one_on m gone l p p' goes was)
goes_on_with (round.Start m (Ok begun.Dropped)) gone l p p' goes was = still gone _ p' (same_on gone l p p' goes was)
goes_on_with (round.Start m (Ok (begun.Waiting ticket))) gone l p p' goes was = still gone _ p' (subst (λ (k : ℕ). Ledger gone (l ++ with k m ∷ []) p') (sym goes.0)
    (⊎_elim (λ now. stood_on m gone l p p' now was) (λ later. waits_on m gone l p p' later was) goes.1))
goes_on_with (round.Start m (Err refusal)) gone l p p' goes was = still gone _ p' (same_on gone l p p' goes was)
goes_on_with (round.Poll ticket answer) gone l p p' goes was = still gone _ p' (same_on gone l p p' goes was)
goes_on_with (round.StrayPoll ticket emitter last n) gone l p p' goes was = still gone _ p' (same_on gone l p p' goes was)
goes_on_with (round.Withdraw ticket withdrawn.Removed) gone l p p' goes was = given_on ticket.0 gone l p p' goes was
goes_on_with (round.Withdraw ticket (withdrawn.Left n)) gone l p p' goes was = still gone _ p' (same_on gone l p p' goes was)
goes_on_with (round.Withdraw ticket withdrawn.Gone) gone l p p' goes was = still gone _ p' (same_on gone l p p' goes was)
goes_on_with (round.StrayWithdraw ticket emitter last n) gone l p p' goes was = still gone _ p' (same_on gone l p p' goes was)
goes_on_with (round.Subscribe answer) gone l p p' goes was = still gone _ p' (same_on gone l p p' goes was)
goes_on_with (round.Next number) gone l p p' goes was = still gone _ p' (same_on gone l p p' goes was)
goes_on_with (round.Pending number) gone l p p' goes was = still gone _ p' (same_on gone l p p' goes was)
goes_on_with (round.Cancel number) gone l p p' goes was = still gone _ p' (same_on gone l p p' goes was)
goes_on_with round.Reset gone l p p' goes was = still gone _ p' (same_on gone l p p' goes was)
goes_on_with (round.Cache answer) gone l p p' goes was = still gone _ p' (same_on gone l p p' goes was)
goes_on_with (round.Count count) gone l p p' goes was = still gone _ p' (same_on gone l p p' goes was)
goes_on_with (round.Hold count) gone l p p' goes was = still gone _ p' (same_on gone l p p' goes was)

ledger : (log : Rounds) (p : Progress) → ComesTo log p → Ledger (λ k. is_given_up k log) (all_items log) p
ledger _ _ (begins n) = record { first = []; kept_is = refl; accepted_is = refl; once = tt; below = tt; gone_below = λ k is. absurd (true≢false (sym is)) }
ledger _ _ (goes_on log p pass r now p' before goes) =
    let was = with_accepted_on goes.0 (λ k. is_given_up k log) (all_items log) p (ledger log p before) in
    let called = goes_on_with r (λ k. is_given_up k log) (all_items log) (with_accepted goes.0 p) goes.1 goes.3 was in
    let last = with_accepted_on goes.2 (λ k. is_given_up k log || gives_up k r) (all_items log ++ items r) goes.1 called in
    let here = subst (Ledger (λ k. is_given_up k log || gives_up k r) (all_items log ++ items r)) (sym goes.4) last in
    subst (λ (z : (ℕ → Bool) × List Item). Ledger z.0 z.1 p') (λ i. ((λ k. sym (given_snoc k log (pass, r, now)) i), sym (all_items-snoc log (pass, r, now)) i)) here

pub each_in_its_own_order : (log : Rounds) (p : Progress) → ComesTo log p → EachInItsOwnOrder log p
each_in_its_own_order log p comes e =
    let book = ledger log p comes in
    let all : entries_of (kept (λ k. is_given_up k log) (all_items log)) ≡ p.accepted ++ map entry_of p.waiting =
    ap entries_of book.kept_is ∙ (map-append (λ (i : Item). i.1) book.first (map item_of p.waiting) ∙ (λ i. book.accepted_is i ++ entries_waiting p.waiting i)) in
    subst (λ (z : List ℕ × List ℕ × List ℕ). Interleaves z.0 z.1 z.2) (λ i. (words_by e (all i), given_is e log log i, emitted_is e log i)) (parts e (λ k. is_given_up k log) (all_items log))
