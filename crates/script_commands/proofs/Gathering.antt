-- What a pipe gathers, stage by stage.
use Rattle.std.proofs.Common.{◌≡◌, subst, ℕ, ◌<◌, ◌≤◌, inl, inr, Bool, true, false, List, [], ◌∷◌, ◌++◌, length, length-append, Option, Some, None, Result, Ok, Err, if◌then◌else◌, nat_lt, map, refl, sym, ap, ◌∙◌, arith}
use Rattle.std.proofs.Math.Dec.{leb}
use Rattle.std.proofs.lemmas.Bool.{lt-ltb, le-ltb, ne_eqb}
use Rattle.cold_flow.specs.declared.cause.Cause.{Cause}
use Rattle.cold_flow.specs.declared.cause.Cause.TheVariants.{Finished, Failed, Cancelled}
use Rattle.cold_flow.specs.declared.cause.Cause.TheVariants as causes
use Rattle.cold_flow.specs.declared.operators.catch_with.Caught.{Caught}
use Rattle.cold_flow.specs.declared.operators.catch_with.Caught.TheVariants.{End, Last, Fault}
use Rattle.flow_terms.specs.declared.refusal.Refusal.{Refusal}
use Rattle.cold_flow.specs.Poll.{Fixes, Beginnings}
use Rattle.flow_terms.specs.Few.{values_of}
use Rattle.cold_flow.specs.Trace.{Trace, ◌⊑◌, so_far, ended_by, cause_of, take_trace}
use Rattle.cold_flow.specs.Finale.{changed, catching, completing}
use Rattle.script_commands.specs.declared.gathered.Gathered.{Gathered}
use Rattle.script_commands.specs.declared.gathered.Stop.{Stop}
use Rattle.script_commands.specs.declared.gathered.Stop.TheVariants.{TooMany}
use Rattle.std.specs.List.{filter_map, cons_option}
use Rattle.script_commands.specs.Stages.{operation_of, Operation, add, even, twice, take_first, drop_first, distinct, catch, done, zip, combine, concat}
use Rattle.flow_merge.specs.Zip.{zip_end, zip_trace}
use Rattle.flow_merge.specs.Combine.{with_result, after_end, rest_of_left, rest_of_right, in_turn, combine_trace}
use Rattle.flow_merge.specs.Concat.{followed_by, joined}
use Rattle.script_commands.specs.Inners.{inner_flow}
use Rattle.script_commands.specs.Sources.{Origin, of, range, fail, given}
use Rattle.script_commands.specs.Piping.{sum, inner_of, made_by, bounded, stop_in, unless_stopped, after_stage, after_stages, trace_of, Comes, IsEnded}

-- more than 10,000 values, or not
pub over : (whole : Trace ℕ ℕ) → 10000 < length whole.0 → bounded whole ≡ Err TooMany
over whole many = rw (lt-ltb 10000 (length whole.0) many) refl

pub under : (whole : Trace ℕ ℕ) → length whole.0 ≤ 10000 → bounded whole ≡ Ok whole
under whole few = rw (le-ltb 10000 (length whole.0) few) refl

-- where one value more than the limit has come, the whole is over it
begun_over : (values : List ℕ) (value : ℕ) (whole : Trace ℕ ℕ) → so_far (values ++ value ∷ []) ⊑ whole → 10000 ≤ length values → 10000 < length whole.0
begun_over values value whole (inl e) many =
    let same : length (values ++ value ∷ []) ≡ length whole.0 = ap (λ (t : Trace ℕ ℕ). length t.0) e in
    omega (arith, length-append values (value ∷ []), same, many)
begun_over values value whole (inr h) many =
    let same : length ((values ++ value ∷ []) ++ h.1.0) ≡ length whole.0 = ap length h.1.1 in
    omega (arith, length-append (values ++ value ∷ []) h.1.0, length-append values (value ∷ []), same, many)

pub too_many : (values : List ℕ) (value : ℕ) (whole : Trace ℕ ℕ) → so_far (values ++ value ∷ []) ⊑ whole → 10000 ≤ length values → bounded whole ≡ Err TooMany
too_many values value whole begins many = over whole (begun_over values value whole begins many)

-- the end of what was gathered is that of the whole: no cancellation and no refusal
ended_cause : (values : List ℕ) (cause : Cause ℕ) (whole : Trace ℕ ℕ) → ended_by values cause ≡ whole → IsEnded whole → (fault : Option ℕ) × (cause ≡ cause_of fault)
ended_cause values cause whole e (fault, is) =
    let ends : Some cause ≡ Some (cause_of fault) = ap (λ (t : Trace ℕ ℕ). t.1) e ∙ is in
    (fault, (cc))

no_cancelled : (fault : Option ℕ) → cause_of fault ≡ Cancelled → ⊥
no_cancelled None e = cc
no_cancelled (Some f) e = cc

no_refused : (fault : Option ℕ) (refusal : Refusal) → cause_of fault ≡ causes.Refused refusal → ⊥
no_refused None refusal e = cc
no_refused (Some f) refusal e = cc

pub not_cancelled : (values : List ℕ) (cause : Cause ℕ) (whole : Trace ℕ ℕ) → ended_by values cause ≡ whole → IsEnded whole → cause ≡ Cancelled → ⊥
not_cancelled values cause whole same ended e = let c = ended_cause values cause whole same ended in no_cancelled c.0 (sym c.1 ∙ e)

pub not_refused : (values : List ℕ) (cause : Cause ℕ) (whole : Trace ℕ ℕ) (refusal : Refusal) → ended_by values cause ≡ whole → IsEnded whole → cause ≡ causes.Refused refusal → ⊥
not_refused values cause whole refusal same ended e = let c = ended_cause values cause whole same ended in no_refused c.0 refusal (sym c.1 ∙ e)

-- the whole was gathered
pub all_there : (values : List ℕ) (cause : Cause ℕ) (fault : Option ℕ) (whole : Trace ℕ ℕ) → ended_by values cause ≡ whole → cause ≡ cause_of fault → length values ≤ 10000 → bounded whole ≡ Ok (ended_by values (cause_of fault))
all_there values cause fault whole same e few = ap bounded (sym same ∙ ap (ended_by values) e) ∙ under (ended_by values (cause_of fault)) few

-- every stage keeps an end an end
taken_end : (b : Bool) (k : Option (Cause ℕ)) → (fault : Option ℕ) × (k ≡ Some (cause_of fault)) → (fault : Option ℕ) × ((if b then Some Finished else k) ≡ Some (cause_of fault))
taken_end true k is = (None, refl)
taken_end false k is = is

caught_end : (caught : Caught ℕ ℕ) (fault : Option ℕ) → (other : Option ℕ) × (changed {A = ℕ} (catching (λ _. caught)) (Some (cause_of fault)) ≡ Some (cause_of other))
caught_end caught None = (None, refl)
caught_end End (Some e) = (None, refl)
caught_end (Last v) (Some e) = (None, refl)
caught_end (Fault f) (Some e) = (Some f, refl)

done_end : (value : ℕ) (fault : Option ℕ) → (other : Option ℕ) × (changed {A = ℕ} (completing (λ _. Some value)) (Some (cause_of fault)) ≡ Some (cause_of other))
done_end value None = (None, refl)
done_end value (Some e) = (Some e, refl)

pub given_ends : (origin : Origin) → IsEnded (given origin)
given_ends (of items) = (None, refl)
given_ends (range from to) = (None, refl)
given_ends (fail fault items) = (Some fault, refl)

-- whether an end is one
abbrev IsEnd : Option (Cause ℕ) → Type 0
IsEnd k = (fault : Option ℕ) × (k ≡ Some (cause_of fault))

zipped_end : (xs ys : List ℕ) (k j : Option (Cause ℕ)) → IsEnd k → IsEnd j → IsEnd (zip_end xs k ys j)
zipped_end [] ys k j h g = h
zipped_end (x ∷ xs) [] k j h g = g
zipped_end (x ∷ xs) (y ∷ ys) k j h g = zipped_end xs ys k j h g

-- a result more changes no end
result_end : (latest other : Option ℕ) (t : Trace ℕ ℕ) → IsEnd t.1 → IsEnd (with_result sum latest other t).1
result_end None other t h = h
result_end (Some x) None t h = h
result_end (Some x) (Some y) t h = h

after_cause : (fault : Option ℕ) (rest : Trace ℕ ℕ) → IsEnd rest.1 → IsEnd (after_end (Some (cause_of fault)) rest).1
after_cause None rest h = h
after_cause (Some e) rest h = (Some e, refl)

rest_end : (k : Option (Cause ℕ)) (rest : Trace ℕ ℕ) → IsEnd k → IsEnd rest.1 → IsEnd (after_end k rest).1
rest_end k rest (fault, e) h = subst (λ j. IsEnd (after_end j rest).1) (sym e) (after_cause fault rest h)

right_end : (latest : Option ℕ) (t : Trace ℕ ℕ) → IsEnd t.1 → IsEnd (rest_of_right sum latest t).1
right_end None t h = h
right_end (Some x) t h = h

left_end : (latest : Option ℕ) (t : Trace ℕ ℕ) → IsEnd t.1 → IsEnd (rest_of_left sum latest t).1
left_end None t h = h
left_end (Some y) t h = h

combined_end : (l r : Option ℕ) (xs ys : List ℕ) (k j : Option (Cause ℕ)) → IsEnd k → IsEnd j → IsEnd (in_turn sum l r xs k ys j).1
combined_end l r [] ys k j h g = rest_end k (rest_of_right sum l (ys, j)) h (right_end l (ys, j) g)
combined_end l r (x ∷ xs) [] k j h g =
    result_end (Some x) r (after_end j (rest_of_left sum r (xs, k))) (rest_end j (rest_of_left sum r (xs, k)) g (left_end r (xs, k) h))
combined_end l r (x ∷ xs) (y ∷ ys) k j h g =
    let rest = in_turn sum (Some x) (Some y) xs k ys j in
    result_end (Some x) r (with_result sum (Some x) (Some y) rest) (result_end (Some x) (Some y) rest (combined_end (Some x) (Some y) xs ys k j h g))

pub zipped_ends : (t u : Trace ℕ ℕ) → IsEnded t → IsEnded u → IsEnded (zip_trace sum t u)
zipped_ends t u h g = zipped_end t.0 u.0 t.1 u.1 h g

pub combined_ends : (t u : Trace ℕ ℕ) → IsEnded t → IsEnded u → IsEnded (combine_trace sum t u)
combined_ends t u h g = combined_end None None t.0 u.0 t.1 u.1 h g

-- the flow that is held gives that trace
pub inner_fixed : (fault : Option ℕ) (x : ℕ) → Fixes (inner_of fault x) (Beginnings (ended_by (values_of (inner_flow fault x).values) (cause_of (inner_flow fault x).fault)))
inner_fixed None x t h = h
inner_fixed (Some e) x t h = h

inner_then : (fault : Option ℕ) (x : ℕ) (rest : Trace ℕ ℕ) → IsEnd rest.1 → IsEnd (followed_by (inner_of fault x) rest).1
inner_then None x rest h = h
inner_then (Some e) x rest h = (Some e, refl)

joined_end : (fault : Option ℕ) (xs : List ℕ) (k : Option (Cause ℕ)) → IsEnd k → IsEnd (joined (map (inner_of fault) xs) k).1
joined_end fault [] k h = h
joined_end fault (x ∷ xs) k h = inner_then fault x (joined (map (inner_of fault) xs) k) (joined_end fault xs k h)

pub ended_after : (operation : Operation) (t : Trace ℕ ℕ) → IsEnded t → IsEnded (made_by operation t)
ended_after (add amount) t is = is
ended_after even t is = is
ended_after twice t is = is
ended_after (take_first count) t is = taken_end (leb count (length t.0)) t.1 is
ended_after (drop_first count) t is = is
ended_after distinct t is = is
ended_after (catch caught) t (fault, e) = let c = caught_end caught fault in (c.0, ap (changed (catching (λ _. caught))) e ∙ c.1)
ended_after (done value) t (fault, e) = let c = done_end value fault in (c.0, ap (changed (completing (λ _. Some value))) e ∙ c.1)
ended_after (zip origin) t is = zipped_ends t (given origin) is (given_ends origin)
ended_after (combine origin) t is = combined_ends t (given origin) is (given_ends origin)
ended_after (concat fault) t is = joined_end fault t.0 t.1 is

pub gathered_ends : (gathered : Gathered) → IsEnded (trace_of gathered)
gathered_ends gathered = (gathered.fault, refl)

-- a stage takes a first value at least
pub taken : (count : ℕ) (t : Trace ℕ ℕ) (result : Result Gathered Stop) → 0 < count → Comes (bounded (take_trace count t)) result → Comes (after_stage (take_first count) (Ok t)) result
taken count t result positive comes = rw (ne_eqb count 0 (λ e. omega (arith, e, positive))) comes

-- what a source of its own gave a stage
second_by : (u t : Trace ℕ ℕ) (b : Bool) → nat_lt 10000 (length u.0) ≡ b → bounded u ≡ Ok t → u ≡ t
second_by u t true e is = let none : Err TooMany ≡ Ok t = sym (ap (λ c. if c then Err TooMany else Ok u) e) ∙ is in absurd (cc)
second_by u t false e is = let same : Ok u ≡ Ok t = sym (ap (λ c. if c then Err TooMany else Ok u) e) ∙ is in cc

second_is : (u t : Trace ℕ ℕ) → bounded u ≡ Ok t → u ≡ t
second_is u t is = second_by u t (nat_lt 10000 (length u.0)) refl is

-- the stage goes on with it
pub second_goes_on : (made : Trace ℕ ℕ → Trace ℕ ℕ) (origin : Origin) (second : Trace ℕ ℕ) (result : Result Gathered Stop) → bounded (given origin) ≡ Ok second → Comes (bounded (made second)) result → Comes (unless_stopped (stop_in (bounded (given origin))) (made (given origin))) result
second_goes_on made origin second result is comes =
    let same : given origin ≡ second = second_is (given origin) second is in
    subst (λ came. Comes (unless_stopped (stop_in came) (made (given origin))) result) (sym is) (subst (λ u. Comes (bounded (made u)) result) (sym same) comes)

-- a pipe that stopped stays so
pub stays : (operations : List Operation) (stop : Stop) → after_stages operations (Err stop) ≡ Err stop
stays [] stop = refl
stays (operation ∷ operations) stop = stays operations stop

-- a stage stopped
pub stops : (operation : Operation) (operations : List Operation) (came : Result (Trace ℕ ℕ) Stop) (outcome : Result (Trace ℕ ℕ) Stop) (stop : Stop) → after_stages (operation ∷ operations) came ≡ outcome → Comes (after_stage operation came) (Err stop) → Comes outcome (Err stop)
stops operation operations came outcome stop e (inl memory) = inl memory
stops operation operations came outcome stop e (inr is) = inr (sym e ∙ ap (after_stages operations) is ∙ stays operations stop)

-- a stage went on
pub goes_on : (operation : Operation) (operations : List Operation) (came outcome : Result (Trace ℕ ℕ) Stop) (gathered : Gathered) → after_stages (operation ∷ operations) came ≡ outcome → Comes (after_stage operation came) (Ok gathered) → after_stages operations (Ok (trace_of gathered)) ≡ outcome
goes_on operation operations came outcome gathered e is = ap (after_stages operations) (sym is) ∙ e

-- the source stopped
pub source_stops : (operations : List Operation) (came : Result (Trace ℕ ℕ) Stop) (stop : Stop) → Comes came (Err stop) → Comes (after_stages operations came) (Err stop)
source_stops operations came stop (inl memory) = inl memory
source_stops operations came stop (inr is) = inr (ap (after_stages operations) is ∙ stays operations stop)

-- the next segment is this stage
pub next_stage : (segments rest : List (List (List ℕ))) (words : List (List ℕ)) (operation : Operation) (came outcome : Result (Trace ℕ ℕ) Stop) → segments ≡ words ∷ rest → Some operation ≡ operation_of words → after_stages (filter_map operation_of segments) came ≡ outcome → after_stages (operation ∷ filter_map operation_of rest) came ≡ outcome
next_stage segments rest words operation came outcome first is e =
    let all : filter_map operation_of segments ≡ operation ∷ filter_map operation_of rest =
    ap (filter_map operation_of) first ∙ ap (λ o. cons_option o (filter_map operation_of rest)) (sym is) in
    ap (λ operations. after_stages operations came) (sym all) ∙ e
