use Rattle.std.proofs.Common.{◌≡◌, ◌≤◌, ℕ, List, length, not, Bool, true, false, refl, sym, ap, ◌∙◌, subst}
use Rattle.shared_lane.specs.declared.view.View.{View}
use Rattle.shared_lane.specs.declared.view.Shape.{Shape}
use Rattle.shared_lane.specs.Steps.{IsRoomy, next_number}
use Rattle.flow_terms.specs.declared.policy.Policy.{Policy}
use Rattle.flow_terms.specs.declared.policy.Policy.TheVariants.{Suspend, DropOldest, DropLatest}
use Rattle.shared_lane.specs.Views.{LaneSeen, SequencerSeen, sequencer_of}
use Rattle.shared_lane.specs.Sequencers.{PassedBy}
use Rattle.shared_lane.specs.Surveys.{WholePass, FoundAt, Behind}
use Rattle.shared_lane.proofs.Passes.{roomy_cleared, roomy_found}
use Rattle.atomic_table.specs.Seated.{TableId}
use Rattle.shared_lane.proofs.Sameness.{loaded_as}
use Rattle.shared_lane.proofs.sequencer.Sequencer.find_room.Goals as goal

not_not : (b : Bool) → not (not b) ≡ b
not_not true = refl
not_not false = refl

was_false : (b : Bool) → not b ≡ true → b ≡ false
was_false true e = sym e
was_false false e = refl

calm : (p : Policy) (lag : ℕ) (q : SequencerSeen) (room : Bool) (v : View) → (p ≡ DropOldest → ⊥) → ((ns : List ℕ) × (length ns ≡ q.view.shape.places) × WholePass FoundAt q.view ns v × Behind (next_number q.view) lag ns (not room)) → PassedBy p lag q room v
calm Suspend lag q room v ne f = f
calm DropOldest lag q room v ne f = absurd (ne refl)
calm DropLatest lag q room v ne f = f

pub returns-in-DropOldest-clause-room : goal.returns-in-DropOldest-clause-room
returns-in-DropOldest-clause-room g c _ = let s = c.self.inside in let inv = c.self.invariant in let f = c.drop_oldest.ensures.found in let ns : List ℕ = f.0 in let words = c.words-words.result.now in
    let shape = ap (λ (z : SequencerSeen). z.view.shape) c.self.view_is ∙ (c.requires.lane.1 ∙ sym (ap (λ (z : LaneSeen). z.shape) c.words-words.ensures)) in let cells = ap (λ (z : Shape). z.cells) (f.2.only.shape ∙ shape) in
    subst (λ (z : ℕ). IsRoomy z c.drop_oldest.new.seat.me.0) (sym cells) (roomy_cleared s.tail words.shape.cells s.seat.me.0 c.drop_oldest.new.seat.me.0 ns words.shaped.2.0 inv.tail_is
    (f.1 ∙ ap (λ (z : Shape). z.places) (sym shape) ∙ sym inv.sound.each_place_known) f.2)

pub returns : goal.returns
returns g c = rw (← c.self.view_is) (let s = c.self.inside in let inv = c.self.invariant in let q : SequencerSeen = sequencer_of s.seat s.policy s.capacity s.cache.capacity s.emits s.cache.items s.waiting.items s.standing.items s.ticket s.subscription in let f = c.load_cursors.ensures.found in
    let ns : List ℕ = f.0 in let b : Bool = c.load_cursors.result.behind in let w : View = c.load_cursors.new.seat.me.0 in let lag = subst (λ (z : SequencerSeen). c.args.lag ≤ z.view.shape.cells) (sym c.self.view_is) c.requires.lag in
    let shape = ap (λ (z : SequencerSeen). z.view.shape) c.self.view_is ∙ (c.requires.lane.1 ∙ sym (ap (λ (z : LaneSeen). z.shape) c.words-words.ensures)) in let long = f.1 ∙ ap (λ (z : Shape). z.places) (sym shape) in record {
      only = (
        ap (λ (z : TableId). loaded_as q z w) c.load_cursors.ensures.seat.0,
        f.2.only.shape,
        f.2.only.seen,
        f.2.only.none_opened,
      );
      pass = calm s.policy c.args.lag q (not b) w c.in_default.not-DropOldest (ns, long, f.2, subst (λ (z : ℕ × Bool). Behind z.0 c.args.lag ns z.1) (λ i. (inv.tail_is i, sym (not_not b) i)) f.3);
      calm = λ _. c.in_default.not-DropOldest;
      room = λ e. subst (λ (z : ℕ). IsRoomy z w) (sym (ap (λ (z : Shape). z.cells) f.2.only.shape))
          (roomy_found s.tail c.args.lag s.seat.me.0.shape.cells s.seat.me.0 w ns lag inv.tail_is (long ∙ sym inv.sound.each_place_known) f.2 (subst (Behind s.tail c.args.lag ns) (was_false b e) f.3));
    })
