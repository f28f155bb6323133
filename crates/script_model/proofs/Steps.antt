-- A command on objects that stand for things comes to what it comes to on the world.
use Rattle.std.proofs.Common.{◌≡◌, inl, inr, ℕ, Bool, true, false, List, [], ◌∷◌, ◌++◌, length, set, Option, Some, None, Result, Ok, Err, slice_get, sym, ap, subst, ◌∙◌}
use Rattle.std.specs.Option.{option_map}
use Rattle.flow_terms.specs.declared.refusal.Refusal.{Refusal}
use Rattle.script_commands.specs.declared.answer.Answer.{Answer}
use Rattle.script_commands.specs.declared.answer.Answer.TheVariants as answers
use Rattle.script_commands.specs.declared.part.Part.{Part}
use Rattle.script_commands.specs.declared.part.Part.TheVariants.{Whole}
use Rattle.script_commands.specs.declared.request.Request.{Request}
use Rattle.script_commands.specs.Commands.{Order, Made, Joining}
use Rattle.script_commands.specs.Commands as commands
use Rattle.script_commands.specs.Pipes.{Pipe}
use Rattle.script_commands.specs.Piping.{pipe_answer}
use Rattle.script_calls.specs.Makings.{RefusedFor}
use Rattle.script_run.specs.declared.binding.Binding.{Binding}
use Rattle.script_run.specs.Executing.{Joined, NoAnswer, TellsMaking, MakesFor, AsksObject, AsksOf, JoinsObject, JoinsAt, Executes, answer_in, part_in}
use Rattle.script_run.specs.Standings.{Standing, Binds, Stays, part_of}
use Rattle.script_model.specs.Findings.{Finding, plain, refused, was_refused}
use Rattle.script_model.specs.Things.{Thing, ask, join, reason_against, refusal_by, thing_of}
use Rattle.script_model.specs.Worlds.{World, binding_of, made_unless, make_for, ask_thing, ask_for, join_thing, join_for, step}
use Rattle.script_model.proofs.Picturing.{Pictures, Comes, AtEach, StandEach, stand_at, as_many, stand_set, stand_push, pictures_still, names_more}

module _ {O : Type 0} (Stands : O → Thing → Type 0) where
  -- what was made stands for the thing, where there is no reason against it; else it is refused
  abbrev pub MakesThing : Made → Result O Refusal → Type 0
  MakesThing made (Ok object) = (reason_against made ≡ None) × Stands object (thing_of made)
  MakesThing made (Err refusal) = RefusedFor (reason_against made) refusal

  module _ (makes : Made → Result O Refusal → Type 0)
      (asks : Part → Request → O → Option Answer → O → Type 0)
      (joins : Part → Joining → O → Option Joined → O → Type 0) where
    -- THE CALLS ON OBJECTS ARE THOSE ON THEIR THINGS
    pub record Meets : Type 0 where
      pub making : (made : Made) (reply : Result O Refusal) → makes made reply → MakesThing made reply
      pub asking : (part : Part) (request : Request) (old new : O) (answer : Option Answer) (thing : Thing) → asks part request old answer new → Stands old thing
          → (finding : Finding) × (answer ≡ (ask finding part request thing).0) × Stands new (ask finding part request thing).1
      pub joining : (part : Part) (joiner : Joining) (old new : O) (reply : Option Joined) (thing : Thing) → joins part joiner old reply new → Stands old thing
          → (finding : Finding) × (reply ≡ (join finding part joiner thing).0) × Stands new (join finding part joiner thing).1

    module _ (meets : Meets) (old new : Standing O) (world : World) (answer : Option Answer) (p : Pictures Stands old world) where
      -- nothing was answered
      unanswered : NoAnswer old answer new → Comes Stands (None, world) new answer
      unanswered none = record { answered = none.0; pictured = pictures_still Stands old new world p none.1 }

      -- ---- makes

      made_one : (why : Option Refusal) (name : List ℕ) (object : O) (thing : Thing) → why ≡ None → Stands object thing → TellsMaking name (Ok object) old answer new
          → Comes Stands (made_unless (refusal_by why false) name thing world) new answer
      made_one (Some refusal) name object thing unrefused stands tells = absurd cc
      made_one None name object thing unrefused stands tells = record {
        answered = tells.0;
        pictured = record {
          names = (let many : length old.objects ≡ length world.things = as_many Stands old.objects world.things p.things in
              names_more Stands old new world name (Some (part_of (length world.things) Whole)) p
              (subst (λ count. Binds old new name (Some (part_of count Whole))) many tells.1));
          things = subst (λ objects. StandEach Stands objects (world.things ++ thing ∷ [])) (sym tells.2)
              (stand_push Stands old.objects world.things object thing p.things stands);
        };
      }

      refused_one : (why : Option Refusal) (name : List ℕ) (refusal : Refusal) (thing : Thing) → RefusedFor why refusal → TellsMaking name (Err refusal) old answer new
          → (finding : Finding) × Comes Stands (made_unless (refusal_by why (was_refused finding)) name thing world) new answer
      refused_one (Some reason) name refusal thing (inl is) tells = (
        plain,
        record {
          answered = tells.0 ∙ ap (λ why. option_map (λ r. answers.Refused r) why) (sym is);
          pictured = pictures_still Stands old new world p tells.1;
        },
      )
      refused_one (Some reason) name refusal thing (inr is) tells = (let none : Some reason ≡ None = is.0 in absurd cc)
      refused_one None name refusal thing (inl is) tells = absurd cc
      refused_one None name refusal thing (inr is) tells = (
        refused,
        record {
          answered = tells.0 ∙ ap (λ r. Some (answers.Refused r)) is.1;
          pictured = pictures_still Stands old new world p tells.1;
        },
      )

      makes_reply : (name : List ℕ) (made : Made) (reply : Result O Refusal) → makes made reply → TellsMaking name reply old answer new
          → (finding : Finding) × Comes Stands (make_for finding name made None world) new answer
      makes_reply name made (Ok object) makes_it tells =
          let one = meets.making made (Ok object) makes_it in
          (plain, made_one (reason_against made) name object (thing_of made) one.0 one.1 tells)
      makes_reply name made (Err refusal) makes_it tells =
          refused_one (reason_against made) name refusal (thing_of made) (meets.making made (Err refusal) makes_it) tells

      makes_by : (name : List ℕ) (made : Made) (binding : Option Binding) → MakesFor makes asks joins name made binding old answer new
          → (finding : Finding) × Comes Stands (make_for finding name made binding world) new answer
      makes_by name made (Some binding) h = (plain, unanswered h)
      makes_by name made None h = makes_reply name made h.0 h.1 h.2

      -- ---- asks

      asks_at : (index : ℕ) (part : Part) (request : Request) (object : Option O) (thing : Option Thing) → AtEach Stands object thing
          → AsksObject makes asks joins index part request object old answer new → (finding : Finding) × Comes Stands (ask_thing finding index part request thing world) new answer
      asks_at index part request None None stands h = (plain, unanswered h)
      asks_at index part request None (Some thing) stands h = absurd stands
      asks_at index part request (Some before) None stands h = absurd stands
      asks_at index part request (Some before) (Some thing) stands h =
          let came = meets.asking part request before h.0 answer thing h.1 stands in (
            came.0,
            record {
              answered = came.1;
              pictured = record {
                names = λ name. h.2 name ∙ p.names name;
                things = subst (λ objects. StandEach Stands objects (set world.things index (ask came.0 part request thing).1)) (sym h.3)
                    (stand_set Stands old.objects world.things index h.0 (ask came.0 part request thing).1 p.things came.2);
              };
            },
          )

      asks_by : (request : Request) (binding : Option Binding) → AsksOf makes asks joins request binding old answer new
          → (finding : Finding) × Comes Stands (ask_for finding request binding world) new answer
      asks_by request None h = (plain, unanswered h)
      asks_by request (Some binding) h =
          asks_at binding.object_index binding.part request (slice_get old.objects binding.object_index) (slice_get world.things binding.object_index)
          (stand_at Stands old.objects world.things binding.object_index p.things) h

      -- ---- joins

      joins_at : (name : List ℕ) (index : ℕ) (part : Part) (joiner : Joining) (object : Option O) (thing : Option Thing) → AtEach Stands object thing
          → JoinsObject makes asks joins name index part joiner object old answer new → (finding : Finding) × Comes Stands (join_thing finding name index part joiner thing world) new answer
      joins_at name index part joiner None None stands h = (plain, unanswered h)
      joins_at name index part joiner None (Some thing) stands h = absurd stands
      joins_at name index part joiner (Some before) None stands h = absurd stands
      joins_at name index part joiner (Some before) (Some thing) stands h =
          let came = meets.joining part joiner before h.1 h.0 thing h.2 stands in (
            came.0,
            record {
              answered = h.3 ∙ ap answer_in came.1;
              pictured = record {
                names = names_more Stands old new world name (option_map (part_of index) (part_in (join came.0 part joiner thing).0)) p
                    (subst (λ reply. Binds old new name (option_map (part_of index) (part_in reply))) came.1 h.4);
                things = subst (λ objects. StandEach Stands objects (set world.things index (join came.0 part joiner thing).1)) (sym h.5)
                    (stand_set Stands old.objects world.things index h.1 (join came.0 part joiner thing).1 p.things came.2);
              };
            },
          )

      joins_by : (name : List ℕ) (joiner : Joining) (binding taken : Option Binding) → JoinsAt makes asks joins name joiner binding taken old answer new
          → (finding : Finding) × Comes Stands (join_for finding name joiner binding taken world) new answer
      joins_by name joiner None taken h = (plain, unanswered h)
      joins_by name joiner (Some binding) (Some taken) h = (plain, unanswered h)
      joins_by name joiner (Some binding) None h =
          joins_at name binding.object_index binding.part joiner (slice_get old.objects binding.object_index) (slice_get world.things binding.object_index)
          (stand_at Stands old.objects world.things binding.object_index p.things) h

      -- ---- a pipe, which changes nothing

      collects : (pipe : Pipe) (lacked : Bool) → answer ≡ Some (pipe_answer lacked pipe) → Stays old new
          → (finding : Finding) × Comes Stands (step finding (commands.cold pipe) world) new answer
      collects pipe true is stays = (refused, record { answered = is; pictured = pictures_still Stands old new world p stays })
      collects pipe false is stays = (plain, record { answered = is; pictured = pictures_still Stands old new world p stays })

      -- A COMMAND
      pub executes : (order : Order) → Executes makes asks joins order old answer new → (finding : Finding) × Comes Stands (step finding order world) new answer
      executes (commands.make name made) h =
          subst (λ binding. (finding : Finding) × Comes Stands (make_for finding name made binding world) new answer) (p.names name) (makes_by name made (old.bound name) h)
      executes (commands.join host name joiner) h =
          subst (λ binding. (finding : Finding) × Comes Stands (join_for finding name joiner binding (binding_of world.names name) world) new answer) (p.names host)
          (subst (λ taken. (finding : Finding) × Comes Stands (join_for finding name joiner (old.bound host) taken world) new answer) (p.names name)
          (joins_by name joiner (old.bound host) (old.bound name) h))
      executes (commands.ask name request) h =
          subst (λ binding. (finding : Finding) × Comes Stands (ask_for finding request binding world) new answer) (p.names name) (asks_by request (old.bound name) h)
      executes (commands.cold pipe) h = collects pipe h.0 h.1 h.2
