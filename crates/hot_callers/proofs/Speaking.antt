-- Which words were emitted and accepted, where it is known who made each round.
use Rattle.std.proofs.Common.{◌≡◌, ◌≢◌, ◌⊎◌, ⊎_elim, inl, inr, ◌==◌, ℕ, suc, Bool, true, false, cond, Ok, Err, Result, List, [], ◌∷◌, ◌++◌, map, refl, sym, ap, ◌∙◌, subst, append_assoc, eq-eqb, ne_eqb, eqb-true}
use Rattle.std.proofs.lemmas.List.{append_cancel_left}
use Rattle.std.proofs.lemmas.Bool.{eqb-false}
use Rattle.std.specs.List.{AllByRecursion}
use mathlib.Core.Option.{some}
use lib.ListN.{get_elem?}
use Rattle.flow_terms.specs.declared.refusal.Refusal.{Refusal}
use Rattle.flow_terms.specs.declared.answers.Tried.{Tried}
use Rattle.flow_terms.specs.declared.answers.Tried.TheVariants as tried
use Rattle.shared_lane.specs.Law.{Entry}
use Rattle.round_lock.specs.declared.log.TakenOwner.{TakenOwner}
use Rattle.round_lock.specs.History.{TakenIn, Parts, MadeEach, own_of}
use Rattle.shared_core.specs.Story.{Interleaves, none, left, right}
use Rattle.shared_lane.specs.Caches.{word_of}
use Rattle.shared_rounds.specs.declared.round.Round.{Round}
use Rattle.shared_rounds.specs.declared.round.Round.TheVariants as round
use Rattle.shared_rounds.specs.Names.{SharedSeen}
use Rattle.shared_rounds.specs.Reach.{Rounds}
use Rattle.shared_flow.specs.Queue.{one_by, words_by, taken_up, emitted}
use Rattle.hot_callers.specs.Exchanges.{AreTries}
use Rattle.hot_callers.proofs.Sublists.{Within, within_front}

-- ---- facts about each of a list

module _ {X : Type 0} where
  each_by_index : (P : X → Type 0) (xs : List X) → ((i : ℕ) (x : X) → get_elem? xs i ≡ some x → P x) → AllByRecursion P xs
  each_by_index P [] each = tt
  each_by_index P (x ∷ xs) each = (each 0 x refl, each_by_index P xs (λ i y at. each (suc i) y at))

  each_then : (P Q R : X → Type 0) (xs : List X) → ((x : X) → P x → Q x → R x) → AllByRecursion P xs → AllByRecursion Q xs → AllByRecursion R xs
  each_then P Q R [] then ps qs = tt
  each_then P Q R (x ∷ xs) then ps qs = (then x ps.0 qs.0, each_then P Q R xs then ps.1 qs.1)

  each_of_all : (P : X → Type 0) (xs : List X) → ((x : X) → P x) → AllByRecursion P xs
  each_of_all P [] each = tt
  each_of_all P (x ∷ xs) each = (each x, each_of_all P xs each)

  pub each_before : (P : X → Type 0) (xs ys : List X) → AllByRecursion P (xs ++ ys) → AllByRecursion P xs
  each_before P [] ys all = tt
  each_before P (x ∷ xs) ys all = (all.0, each_before P xs ys all.1)

-- ---- who emitted

-- the words that an emitter emitted by these rounds
abbrev pub words_of : ℕ → List Round → List ℕ
words_of e [] = []
words_of e (r ∷ rounds) = taken_up e r ++ words_of e rounds

-- by none of these did it emit a word
abbrev pub EmitNothing : ℕ → List Round → Type 0
EmitNothing e rounds = AllByRecursion (λ (r : Round). taken_up e r ≡ []) rounds

pub nothing_of : (e : ℕ) (rounds : List Round) → EmitNothing e rounds → words_of e rounds ≡ []
nothing_of e [] nothing = refl
nothing_of e (r ∷ rounds) nothing = λ i. nothing.0 i ++ nothing_of e rounds nothing.1 i

pub nothing_more : (e : ℕ) (rounds : List Round) (r : Round) → EmitNothing e rounds → taken_up e r ≡ [] → EmitNothing e (rounds ++ r ∷ [])
nothing_more e [] r nothing this = (this, tt)
nothing_more e (x ∷ rounds) r nothing this = (nothing.0, nothing_more e rounds r nothing.1 this)

-- the round is of this party, or the emitter emitted nothing by it
abbrev pub IsBy : ℕ → ℕ → ℕ × Round × SharedSeen → Type 0
IsBy e pass t = (t.0 ≡ pass) ⊎ (taken_up e t.1 ≡ [])

-- so is each of these
abbrev pub AreBy : ℕ → ℕ → Rounds → Type 0
AreBy e pass log = AllByRecursion (IsBy e pass) log

-- what holds of each of a party's rounds holds of each round of the list that is the party's
of_party : (P : Round → Type 0) (pass : ℕ) (log : Rounds) → AllByRecursion P (own_of pass log) → AllByRecursion (λ (t : ℕ × Round × SharedSeen). t.0 ≡ pass → P t.1) log
of_party P pass [] all = tt
of_party P pass (t ∷ log) all =
    let both = by (t.0 == pass) refl all in
    (both.0, of_party P pass log both.1)
  where
    by : (b : Bool) → (t.0 == pass) ≡ b → AllByRecursion P (cond b (t.1 ∷ own_of pass log) (own_of pass log)) → (t.0 ≡ pass → P t.1) × AllByRecursion P (own_of pass log)
    by true is these = (λ same. these.0, these.1)
    by false is these = (λ same. absurd (eqb-false t.0 pass is same), these)

-- a party is this one, or emitted nothing
abbrev pub IsPartBy : ℕ → ℕ → TakenOwner Round → Type 0
IsPartBy e pass p = (p.pass ≡ pass) ⊎ EmitNothing e p.own

by_parts : (e pass : ℕ) (parts : List (TakenOwner Round)) (log : Rounds) → Parts log parts → AllByRecursion (IsPartBy e pass) parts
    → AllByRecursion (λ (t : ℕ × Round × SharedSeen). TakenIn parts t.0 → IsBy e pass t) log
by_parts e pass [] log are each = each_of_all (λ (t : ℕ × Round × SharedSeen). ⊥ → IsBy e pass t) log (λ t no. absurd no)
by_parts e pass (p ∷ parts) log are each =
    let rest = by_parts e pass parts log are.1 each.1 in
    let this : AllByRecursion (λ (t : ℕ × Round × SharedSeen). p.pass ≡ t.0 → IsBy e pass t) log = ⊎_elim
    (λ (same : p.pass ≡ pass). each_of_all (λ (t : ℕ × Round × SharedSeen). p.pass ≡ t.0 → IsBy e pass t) log (λ t is. inl (sym is ∙ same)))
    (λ (nothing : EmitNothing e p.own). each_then
    (λ (t : ℕ × Round × SharedSeen). t.0 ≡ p.pass → taken_up e t.1 ≡ [])
    (λ (t : ℕ × Round × SharedSeen). TakenIn parts t.0 → IsBy e pass t)
    (λ (t : ℕ × Round × SharedSeen). p.pass ≡ t.0 → IsBy e pass t)
    log
    (λ t silent taken is. inr (silent (sym is)))
    (of_party (λ (r : Round). taken_up e r ≡ []) p.pass log (subst (EmitNothing e) are.0 nothing))
    rest)
    each.0 in
    each_then
    (λ (t : ℕ × Round × SharedSeen). p.pass ≡ t.0 → IsBy e pass t)
    (λ (t : ℕ × Round × SharedSeen). TakenIn parts t.0 → IsBy e pass t)
    (λ (t : ℕ × Round × SharedSeen). TakenIn (p ∷ parts) t.0 → IsBy e pass t)
    log
    (λ t here later is. ⊎_elim here later is)
    this
    rest

-- Where an owner and those that it took in made each round, and none of them but one emitted anything by this emitter, each round is of
-- that one or none of its emissions.
pub are_by : (e pass owner : ℕ) (own : List Round) (parts : List (TakenOwner Round)) (log : Rounds) → own ≡ own_of owner log → Parts log parts → MadeEach owner own parts log
    → EmitNothing e own → AllByRecursion (IsPartBy e pass) parts → AreBy e pass log
are_by e pass owner own parts log mine are each nothing others = each_then
    (λ (t : ℕ × Round × SharedSeen). (owner ≡ t.0) ⊎ TakenIn parts t.0)
    (λ (t : ℕ × Round × SharedSeen). ((owner ≡ t.0) ⊎ TakenIn parts t.0) → IsBy e pass t)
    (IsBy e pass)
    log
    (λ t is then. then is)
    (each_by_index (λ (t : ℕ × Round × SharedSeen). (owner ≡ t.0) ⊎ TakenIn parts t.0) log each.callers)
    (each_then
    (λ (t : ℕ × Round × SharedSeen). t.0 ≡ owner → taken_up e t.1 ≡ [])
    (λ (t : ℕ × Round × SharedSeen). TakenIn parts t.0 → IsBy e pass t)
    (λ (t : ℕ × Round × SharedSeen). ((owner ≡ t.0) ⊎ TakenIn parts t.0) → IsBy e pass t)
    log
    (λ t silent taken is. ⊎_elim (λ (o : owner ≡ t.0). inr (silent (sym o))) taken is)
    (of_party (λ (r : Round). taken_up e r ≡ []) owner log (subst (EmitNothing e) mine nothing))
    (by_parts e pass parts log are others))

without_own : (e : ℕ) (r : Round) (rest : List Round) (b : Bool) → taken_up e r ≡ [] → words_of e (cond b (r ∷ rest) rest) ≡ words_of e rest
without_own e r rest true nothing = ap (λ (l : List ℕ). l ++ words_of e rest) nothing
without_own e r rest false nothing = refl

-- then what was emitted by it is what that one emitted
pub emitted_by : (e pass : ℕ) (log : Rounds) → AreBy e pass log → emitted e log ≡ words_of e (own_of pass log)
emitted_by e pass [] are = refl
emitted_by e pass (t ∷ log) are = ⊎_elim
    (λ (same : t.0 ≡ pass). ap (λ (l : List ℕ). taken_up e t.1 ++ l) (emitted_by e pass log are.1)
    ∙ sym (ap (λ b. words_of e (cond b (t.1 ∷ own_of pass log) (own_of pass log))) (eq-eqb t.0 pass same)))
    (λ (nothing : taken_up e t.1 ≡ []). ap (λ (l : List ℕ). l ++ emitted e log) nothing ∙ emitted_by e pass log are.1
    ∙ sym (without_own e t.1 (own_of pass log) (t.0 == pass) nothing))
    are.0

pub emitted_more : (e : ℕ) (log more : Rounds) → emitted e (log ++ more) ≡ emitted e log ++ emitted e more
emitted_more e [] more = refl
emitted_more e (t ∷ log) more = ap (λ (l : List ℕ). taken_up e t.1 ++ l) (emitted_more e log more) ∙ sym (append_assoc (taken_up e t.1) (emitted e log) (emitted e more))

-- ---- tries

-- a try emitted its word, or nothing
one_word : (id word : ℕ) (answer : Result (Tried ℕ) Refusal)
    → (taken_up id (round.Try (record { emitter = id; word = word }) answer) ≡ word ∷ []) ⊎ (taken_up id (round.Try (record { emitter = id; word = word }) answer) ≡ [])
one_word id word (Ok (tried.Accepted n)) = inl (ap (λ b. cond b (word ∷ []) []) (eq-eqb id id refl))
one_word id word (Ok tried.Dropped) = inr refl
one_word id word (Ok tried.Full) = inr refl
one_word id word (Err refusal) = inr refl

no_word : (e id word : ℕ) (answer : Result (Tried ℕ) Refusal) → id ≢ e → taken_up e (round.Try (record { emitter = id; word = word }) answer) ≡ []
no_word e id word (Ok (tried.Accepted n)) other = ap (λ b. cond b (word ∷ []) []) (ne_eqb id e other)
no_word e id word (Ok tried.Dropped) other = refl
no_word e id word (Ok tried.Full) other = refl
no_word e id word (Err refusal) other = refl

-- the words that were emitted by tries are some of those that were tried, in their order
pub tries_within : (id : ℕ) (words : List ℕ) (rounds : List Round) → AreTries id words rounds → Within (words_of id rounds) words
tries_within id [] rounds tries = ap (words_of id) tries
tries_within id (word ∷ words) rounds tries =
    let rest = tries_within id words tries.1 tries.3 in
    let first = taken_up id (round.Try (record { emitter = id; word = word }) tries.0) in
    let is : words_of id rounds ≡ first ++ words_of id tries.1 = ap (words_of id) tries.2 in
    ⊎_elim
    (λ (one : first ≡ word ∷ []). inr (words_of id tries.1, is ∙ ap (λ (l : List ℕ). l ++ words_of id tries.1) one, rest))
    (λ (nothing : first ≡ []). inl (subst (λ (l : List ℕ). Within l words) (sym (is ∙ ap (λ (l : List ℕ). l ++ words_of id tries.1) nothing)) rest))
    (one_word id word tries.0)

-- and by another emitter nothing was emitted by them
pub tries_nothing : (e id : ℕ) (words : List ℕ) (rounds : List Round) → id ≢ e → AreTries id words rounds → EmitNothing e rounds
tries_nothing e id [] rounds other tries = subst (EmitNothing e) (sym tries) tt
tries_nothing e id (word ∷ words) rounds other tries =
    subst (EmitNothing e) (sym tries.2) (no_word e id word tries.0 other, tries_nothing e id words tries.1 other tries.3)

-- ---- acceptances

words_more : (e : ℕ) (xs ys : List Entry) → words_by e (xs ++ ys) ≡ words_by e xs ++ words_by e ys
words_more e [] ys = refl
words_more e (x ∷ xs) ys = ap (λ (l : List ℕ). one_by e x ++ l) (words_more e xs ys) ∙ sym (append_assoc (one_by e x) (words_by e xs) (words_by e ys))

-- what was accepted of an emitter is some of what was accepted and what waits
pub accepted_within : (e : ℕ) (accepted waiting : List Entry) → Within (words_by e accepted) (words_by e (accepted ++ waiting))
accepted_within e accepted waiting = subst (Within (words_by e accepted)) (sym (words_more e accepted waiting)) (within_front (words_by e accepted) (words_by e waiting))

nothing_after : (xs ys : List ℕ) → xs ++ ys ≡ [] → ys ≡ []
nothing_after [] ys is = is
nothing_after (x ∷ xs) ys is = let no : ⊥ = cc in absurd no

-- where nobody but two emitters had anything accepted, the words of both make up all that were
pub of_two : (a b : ℕ) (accepted : List Entry) → a ≢ b → ((e : ℕ) → a ≢ e → b ≢ e → words_by e accepted ≡ []) → Interleaves (words_by a accepted) (words_by b accepted) (map word_of accepted)
of_two a b [] apart nobody = none
of_two a b (x ∷ accepted) apart nobody =
    by (x.0 == a) refl (x.0 == b) refl (of_two a b accepted apart (λ e not_a not_b. nothing_after (one_by e x) (words_by e accepted) (nobody e not_a not_b)))
  where
    by : (c : Bool) → (x.0 == a) ≡ c → (d : Bool) → (x.0 == b) ≡ d → Interleaves (words_by a accepted) (words_by b accepted) (map word_of accepted)
        → Interleaves (cond c (x.1 ∷ []) [] ++ words_by a accepted) (cond d (x.1 ∷ []) [] ++ words_by b accepted) (x.1 ∷ map word_of accepted)
    by true is true same rest = absurd (apart (sym (eqb-true x.0 a is) ∙ eqb-true x.0 b same))
    by true is false same rest = left x.1 rest
    by false is true same rest = right x.1 rest
    by false is false same rest =
        let own : words_by x.0 (x ∷ accepted) ≡ x.1 ∷ words_by x.0 accepted = ap (λ c. cond c (x.1 ∷ []) [] ++ words_by x.0 accepted) (eq-eqb x.0 x.0 refl) in
        let nothing : words_by x.0 (x ∷ accepted) ≡ [] = nobody x.0 (λ at. eqb-false x.0 a is (sym at)) (λ at. eqb-false x.0 b same (sym at)) in
        let no : ⊥ = cc in absurd no

-- ---- whose the last rounds are

own_append : (pass : ℕ) (log more : Rounds) → own_of pass (log ++ more) ≡ own_of pass log ++ own_of pass more
own_append pass [] more = refl
own_append pass (t ∷ log) more = by (t.0 == pass) (own_append pass log more)
  where
    by : (b : Bool) → own_of pass (log ++ more) ≡ own_of pass log ++ own_of pass more
        → cond b (t.1 ∷ own_of pass (log ++ more)) (own_of pass (log ++ more)) ≡ cond b (t.1 ∷ own_of pass log) (own_of pass log) ++ own_of pass more
    by true is = ap (λ (l : List Round). t.1 ∷ l) is
    by false is = is

-- whose rounds are all these made these later
pub own_since : (pass : ℕ) (log more : Rounds) (before since : List Round) → own_of pass (log ++ more) ≡ before ++ since → own_of pass log ≡ before → own_of pass more ≡ since
own_since pass log more before since all was =
    append_cancel_left (own_of pass log) (own_of pass more) since (sym (own_append pass log more) ∙ all ∙ ap (λ (l : List Round). l ++ since) (sym was))

not_mine : (pass : ℕ) (t : ℕ × Round × SharedSeen) (rest : Rounds) → own_of pass (t ∷ rest) ≡ [] → (t.0 ≢ pass) × (own_of pass rest ≡ [])
not_mine pass t rest nothing = by (t.0 == pass) refl nothing
  where
    by : (b : Bool) → (t.0 == pass) ≡ b → cond b (t.1 ∷ own_of pass rest) (own_of pass rest) ≡ [] → (t.0 ≢ pass) × (own_of pass rest ≡ [])
    by true is these = let no : ⊥ = cc in absurd no
    by false is these = (eqb-false t.0 pass is, these)

-- where of three parties two made none of these rounds, all are the third's
pub all_of_third : (a b c : ℕ) (rest : Rounds) → AllByRecursion (λ (t : ℕ × Round × SharedSeen). (a ≡ t.0) ⊎ ((b ≡ t.0) ⊎ (c ≡ t.0))) rest
    → own_of a rest ≡ [] → own_of b rest ≡ [] → map (λ (t : ℕ × Round × SharedSeen). t.1) rest ≡ own_of c rest
all_of_third a b c [] each no_a no_b = refl
all_of_third a b c (t ∷ rest) each no_a no_b =
    let not_a = not_mine a t rest no_a in
    let not_b = not_mine b t rest no_b in
    let is_c : c ≡ t.0 = ⊎_elim (λ (is : a ≡ t.0). absurd (not_a.0 (sym is)))
    (λ (more : (b ≡ t.0) ⊎ (c ≡ t.0)). ⊎_elim (λ (is : b ≡ t.0). absurd (not_b.0 (sym is))) (λ (is : c ≡ t.0). is) more) each.0 in
    ap (λ (l : List Round). t.1 ∷ l) (all_of_third a b c rest each.1 not_a.1 not_b.1)
    ∙ sym (ap (λ d. cond d (t.1 ∷ own_of c rest) (own_of c rest)) (eq-eqb t.0 c (sym is_c)))

each_after : {X : Type 0} (P : X → Type 0) (xs ys : List X) → AllByRecursion P (xs ++ ys) → AllByRecursion P ys
each_after P [] ys all = all
each_after P (x ∷ xs) ys all = each_after P xs ys all.1

-- so it is of the rounds since then that an owner and two others made
pub since_then : (owner : ℕ) (own : List Round) (one two : TakenOwner Round) (log rest : Rounds) → MadeEach owner own (one ∷ two ∷ []) (log ++ rest)
    → own_of owner rest ≡ [] → own_of two.pass rest ≡ [] → map (λ (t : ℕ × Round × SharedSeen). t.1) rest ≡ own_of one.pass rest
since_then owner own one two log rest each none_of_owner none_of_two =
    let callers = each_by_index (λ (t : ℕ × Round × SharedSeen). (owner ≡ t.0) ⊎ TakenIn (one ∷ two ∷ []) t.0) (log ++ rest) each.callers in
    let those = each_after (λ (t : ℕ × Round × SharedSeen). (owner ≡ t.0) ⊎ TakenIn (one ∷ two ∷ []) t.0) log rest callers in
    all_of_third owner two.pass one.pass rest (each_then
    (λ (t : ℕ × Round × SharedSeen). (owner ≡ t.0) ⊎ TakenIn (one ∷ two ∷ []) t.0)
    (λ (t : ℕ × Round × SharedSeen). Unit {0})
    (λ (t : ℕ × Round × SharedSeen). (owner ≡ t.0) ⊎ ((two.pass ≡ t.0) ⊎ (one.pass ≡ t.0)))
    rest
    (λ t by_any _. ⊎_elim
    (λ (is : owner ≡ t.0). inl is)
    (λ (more : (one.pass ≡ t.0) ⊎ TakenIn (two ∷ []) t.0). ⊎_elim (λ (is : one.pass ≡ t.0). inr (inr is))
    (λ (last : TakenIn (two ∷ []) t.0). ⊎_elim (λ (is : two.pass ≡ t.0). inr (inl is)) (λ (no : ⊥). absurd no) last) more)
    by_any)
    those
    (each_of_all (λ (t : ℕ × Round × SharedSeen). Unit {0}) rest (λ t. tt)))
    none_of_owner none_of_two
