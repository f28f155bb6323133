-- Each step of an owner, and each that splits or joins seats, keeps the one list of calls and what stands for each seat.
use Rattle.std.proofs.Common.{◌≡◌, ◌≢◌, ◌⊎◌, ℕ, zero, suc, pred, ◌+◌, Option, Some, None, List, [], ◌∷◌, ◌++◌, ◌<◌, ◌≤◌, length, set, sym, refl, ap, ◌∙◌, subst, ⊎_elim, inl, inr, arith}
use Rattle.std.proofs.lemmas.List.{length-set}
use Rattle.std.proofs.lemmas.Option.{none-some}
use mathlib.Core.Option.{some}
use lib.ListN.{get_elem?}
use Rattle.atomic_table.proofs.Lists.{at_set, set_again, set_else}
use Rattle.round_lock.specs.declared.log.Log.{Log}
use Rattle.round_lock.specs.declared.log.TakenOwner.{TakenOwner}
use Rattle.round_lock.specs.History.{newcomer, sharing, another, noted, whole_again, taking, telling, spent, called, Saw, AreKept, Apart, Stands, OneList, OneHistory}
use Rattle.round_lock.proofs.Rounds as Rounds
use Rattle.round_lock.proofs.Rounds.{alone, length-snoc, Found}
use Rattle.round_lock.proofs.Standing.{not_gone, is_owner, is_there, stands_on, stands_more, stands_taking, rehomed, rehomed_else}
use Rattle.round_lock.proofs.Spreading.{parts_are, made_each}

module _ {S E : Type 0} (first : S → Type 0) (step : S → E → S → Type 0) where
  -- a seat that stands, of those that took in what they had
  changes : (items more : List S) (views : List (Log S E)) (pass : ℕ) (v w : Log S E) → (r : OneHistory first step items views) → get_elem? views pass ≡ some v → v ≢ spent → w.taken ≡ v.taken
      → OneList first step more (set r.kept pass w) → OneHistory first step more (set views pass w)
  changes items more views pass v w r at here same list =
      let s = r.stands pass v at in
      let there = is_there r.kept r.home pass v s here in
      record {
        kept = set r.kept pass w;
        list = list;
        home = r.home;
        as_many = length-set r.kept pass w ∙ r.as_many ∙ sym (length-set views pass w);
        stands = stands_on r.kept views r.home pass v w r.stands there.0 there.1 (subst (AreKept r.kept r.home pass) (sym same) s.parts) (subst (Apart pass) (sym same) s.apart);
        fresh = λ j far. let as_long = length-set views pass w in r.fresh j (omega arith);
      }

  -- another seat that took in none
  grows : (items : List S) (views : List (Log S E)) (x : Log S E) → (r : OneHistory first step items views) → x.taken ≡ [] → OneList first step items (r.kept ++ x ∷ []) → OneHistory first step items (views ++ x ∷ [])
  grows items views x r none list = record {
    kept = r.kept ++ x ∷ [];
    list = list;
    home = r.home;
    as_many = length-snoc r.kept x ∙ ap suc r.as_many ∙ sym (length-snoc views x);
    stands = stands_more r.kept views r.home x r.stands r.as_many (r.fresh (length views) (omega arith)) none;
    fresh = λ j far. let longer = length-snoc views x in r.fresh j (omega arith);
  }

  -- a seat that is joined to another
  was_there : (views : List (Log S E)) (id other : ℕ) (b w : Log S E) → ¬ (other ≡ id) → get_elem? (set views id b) other ≡ some w → get_elem? views other ≡ some w
  was_there views id other b w apart there = sym (set_else views id other b apart) ∙ there

  still_there : (views : List (Log S E)) (id other : ℕ) (b w : Log S E) → ¬ (other ≡ id) → get_elem? views other ≡ some w → get_elem? (set views id b) other ≡ some w
  still_there views id other b w apart there = set_else views id other b apart ∙ there

  pub opens : (x : S) → first x → OneHistory first step (x ∷ []) (newcomer x ∷ [])
  opens x is = record {
    kept = newcomer x ∷ [];
    list = Rounds.opens first step x is;
    home = λ n. n;
    as_many = refl;
    stands = λ pass v at. let it = (alone (newcomer x) pass pass v v at at).1 in record {
      here = inl (at, refl);
      parts = subst (λ (u : Log S E). AreKept (newcomer x ∷ []) (λ n. n) pass u.taken) it tt;
      apart = subst (λ (u : Log S E). Apart pass u.taken) it tt;
    };
    fresh = λ pass far. refl;
  }

  -- what a seat learns that sees the whole list
  sees : (items : List S) (views : List (Log S E)) (pass : ℕ) (v : Log S E) (m state : S) → v.made ≡ Some m → (r : OneHistory first step items views) → get_elem? views pass ≡ some v → Found first step pass v state r.list.log
      → Saw first step pass v state r.list.log
  sees items views pass v m state begun r at f = record {
    made = f.made;
    made_is = f.made_is;
    after = f.after;
    own_is = f.own_is;
    seen_on = f.seen_on;
    heard = f.heard;
    taken_in = record {
      parts_are = parts_are first step items views pass v r at;
      apart = (r.stands pass v at).apart;
      all = λ has. made_each first step items views pass v m begun r at has;
    };
  }

  pub takes : (x : S) (items : List S) (views : List (Log S E)) (pass : ℕ) (v : Log S E) (m : S) → v.made ≡ Some m → OneHistory first step (x ∷ items) views → get_elem? views pass ≡ some v
      → (items ≡ []) × (v.held ≡ None) × ((seen : List (ℕ × E × S)) × OneHistory first step [] (set views pass (record v { held = Some x; seen = seen })) × Saw first step pass v x seen)
  takes x items views pass v m begun r at =
      let alive = not_gone v (is_owner v m begun) in
      let there = is_there r.kept r.home pass v (r.stands pass v at) alive in
      let t = Rounds.takes first step x items r.kept pass v m begun r.list there.0 in
      (t.0, t.1, (r.list.log, changes (x ∷ items) [] views pass v (record v { held = Some x; seen = r.list.log }) r at alive refl t.2, sees (x ∷ items) views pass v m x begun r at t.3))

  -- nobody has the state that lies under the lock
  pub nobody : (x : S) (views : List (Log S E)) (v : Log S E) (pass : ℕ) → OneHistory first step (x ∷ []) views → get_elem? views pass ≡ some v → v.held ≡ None
  nobody x views v pass r at = ⊎_elim
      (λ h. Rounds.nobody first step x r.kept v pass r.list h.0)
      (λ gone. ap (λ (u : Log S E). u.held) gone)
      (r.stands pass v at).here

  pub gives : (items : List S) (views : List (Log S E)) (pass : ℕ) (v : Log S E) (x s : S) (e : E) → v.held ≡ Some s → step s e x → OneHistory first step items views → get_elem? views pass ≡ some v
      → OneHistory first step (x ∷ []) (set views pass (called v (Some (pass, e, x))))
  gives items views pass v x s e has does r at =
      let alive : v ≢ spent = λ gone. none-some s (sym (ap (λ (u : Log S E). u.held) gone) ∙ has) in
      let there = is_there r.kept r.home pass v (r.stands pass v at) alive in
      changes items (x ∷ []) views pass v (called v (Some (pass, e, x))) r at alive refl (Rounds.gives first step items r.kept pass v x s e has does r.list there.0)

  -- an owner makes another, and gives it half its share
  pub forks : (items : List S) (views : List (Log S E)) (pass : ℕ) (v : Log S E) → v.made ≢ None → OneHistory first step items views → get_elem? views pass ≡ some v
      → OneHistory first step items (set views pass (sharing v) ++ another v ∷ [])
  forks items views pass v begun r at =
      let s = r.stands pass v at in
      let there = is_there r.kept r.home pass v s (not_gone v begun) in
      let one = length-set r.kept pass (sharing v) in
      let other = length-set views pass (sharing v) in
      let as_many : length (set r.kept pass (sharing v)) ≡ length (set views pass (sharing v)) = one ∙ r.as_many ∙ sym other in
      record {
        kept = set r.kept pass (sharing v) ++ another v ∷ [];
        list = Rounds.forks first step items r.kept pass v r.list there.0;
        home = r.home;
        as_many = length-snoc (set r.kept pass (sharing v)) (another v) ∙ ap suc as_many ∙ sym (length-snoc (set views pass (sharing v)) (another v));
        stands = stands_more (set r.kept pass (sharing v)) (set views pass (sharing v)) r.home (another v)
            (stands_on r.kept views r.home pass v (sharing v) r.stands there.0 there.1 s.parts s.apart)
            as_many (r.fresh (length (set views pass (sharing v))) (omega arith)) refl;
        fresh = λ j far. let longer = length-snoc (set views pass (sharing v)) (another v) in r.fresh j (omega arith);
      }

  -- an owner makes a note
  pub notes : (items : List S) (views : List (Log S E)) (pass : ℕ) (v : Log S E) → v.made ≢ None → OneHistory first step items views → get_elem? views pass ≡ some v → OneHistory first step items (set views pass v ++ noted v ∷ [])
  notes items views pass v begun r at =
      let there = is_there r.kept r.home pass v (r.stands pass v at) (not_gone v begun) in
      let list = subst (λ (l : List (Log S E)). OneList first step items (l ++ noted v ∷ [])) (set_again r.kept pass v there.0) (Rounds.notes first step items r.kept pass v r.list there.0) in
      subst (λ (l : List (Log S E)). OneHistory first step items (l ++ noted v ∷ [])) (sym (set_again views pass v at)) (grows items views (noted v) r refl list)

  -- one hears of what another has seen, which has made no call
  pub hears : (items : List S) (views : List (Log S E)) (id other : ℕ) (v w : Log S E) → v.made ≢ None → w.made ≡ None → w.held ≡ None → w.own ≡ [] → OneHistory first step items views → get_elem? views id ≡ some v → ¬ (other ≡ id)
      → get_elem? (set views id (telling v w)) other ≡ some w → OneHistory first step items (set (set views id (telling v w)) other spent)
  hears items views id other v w begun nobody_there free idle r at apart there =
      let alive = not_gone v begun in
      let mine = is_there r.kept r.home id v (r.stands id v at) alive in
      let before = was_there views id other (telling v w) w apart there in
      ⊎_elim
      (λ h.
      let s = r.stands id v at in
      let after = still_there r.kept id other (telling v w) w apart h.0 in
      let one = length-set (set views id (telling v w)) other spent in
      let two = length-set views id (telling v w) in
      record {
        kept = set (set r.kept id (telling v w)) other spent;
        list = Rounds.hears first step items r.kept id other v w nobody_there free idle r.list mine.0 apart after;
        home = r.home;
        as_many = length-set (set r.kept id (telling v w)) other spent ∙ length-set r.kept id (telling v w) ∙ r.as_many ∙ sym two ∙ sym one;
        stands = stands_on (set r.kept id (telling v w)) (set views id (telling v w)) r.home other w spent (stands_on r.kept views r.home id v (telling v w) r.stands mine.0 mine.1 s.parts s.apart) after h.1 tt tt;
        fresh = λ j far. r.fresh j (omega arith);
      })
      (λ (gone : w ≡ spent).
      let list = Rounds.hears_of first step items r.kept id v w.seen v.taken r.list mine.0 (r.list.log, ap (λ (u : Log S E). u.seen ++ r.list.log) (sym gone)) in
      subst (OneHistory first step items) (sym (set_again (set views id (telling v w)) other spent (there ∙ ap some gone))) (changes items items views id v (telling v w) r at alive refl list))
      (r.stands other w before).here

  -- an owner takes back the half of another, which has made no call
  pub takes_back : (items : List S) (views : List (Log S E)) (id other : ℕ) (v w : Log S E) (half : ℕ) → v.made ≢ None → w.made ≢ None → v.halved ≡ suc half → w.halved ≡ suc half → w.held ≡ None → w.own ≡ []
      → OneHistory first step items views → get_elem? views id ≡ some v → ¬ (other ≡ id)
      → get_elem? (set views id (whole_again v w)) other ≡ some w → OneHistory first step items (set (set views id (whole_again v w)) other spent)
  takes_back items views id other v w half begun begun_there mine_half their_half free idle r at apart there =
      let s = r.stands id v at in
      let mine = is_there r.kept r.home id v s (not_gone v begun) in
      let theirs = is_there r.kept r.home other w (r.stands other w (was_there views id other (whole_again v w) w apart there)) (not_gone w begun_there) in
      let after = still_there r.kept id other (whole_again v w) w apart theirs.0 in
      let one = length-set (set views id (whole_again v w)) other spent in
      let two = length-set views id (whole_again v w) in
      record {
        kept = set (set r.kept id (whole_again v w)) other spent;
        list = Rounds.takes_back first step items r.kept id other v w half begun begun_there mine_half their_half free idle r.list mine.0 apart after;
        home = r.home;
        as_many = length-set (set r.kept id (whole_again v w)) other spent ∙ length-set r.kept id (whole_again v w) ∙ r.as_many ∙ sym two ∙ sym one;
        stands = stands_on (set r.kept id (whole_again v w)) (set views id (whole_again v w)) r.home other w spent (stands_on r.kept views r.home id v (whole_again v w) r.stands mine.0 mine.1 s.parts s.apart) after theirs.1 tt tt;
        fresh = λ j far. r.fresh j (omega arith);
      }

  -- an owner takes in another for good
  pub takes_in : (items : List S) (views : List (Log S E)) (id other : ℕ) (v w : Log S E) → v.made ≢ None → w.made ≢ None → OneHistory first step items views → get_elem? views id ≡ some v → ¬ (other ≡ id)
      → get_elem? (set views id (taking other v w)) other ≡ some w → OneHistory first step items (set (set views id (taking other v w)) other spent)
  takes_in items views id other v w begun begun_there r at apart there =
      let s = r.stands id v at in
      let before = was_there views id other (taking other v w) w apart there in
      let mine = is_there r.kept r.home id v s (not_gone v begun) in
      let theirs = is_there r.kept r.home other w (r.stands other w before) (not_gone w begun_there) in
      let one = length-set (set views id (taking other v w)) other spent in
      let two = length-set views id (taking other v w) in
      record {
        kept = set r.kept id (taking other v w);
        list = Rounds.hears_of first step items r.kept id v v.told (taking other v w).taken r.list mine.0 (r.list.each id v mine.0).told_is;
        home = rehomed r.home id other;
        as_many = length-set r.kept id (taking other v w) ∙ r.as_many ∙ sym two ∙ sym one;
        stands = stands_taking r.kept views r.home id other v w r.stands at before apart mine.0 mine.1 theirs.0 theirs.1 begun_there;
        fresh = λ j far. let own = r.fresh j (omega arith) in let below = Rounds.at_below views other w before in rehomed_else r.home id other j (λ is. omega arith) ∙ own;
      }

  -- one looks, and has seen the list so far
  pub looks : (items : List S) (views : List (Log S E)) (pass : ℕ) (v : Log S E) (m : S) → v.made ≡ Some m → OneHistory first step items views → get_elem? views pass ≡ some v
      → (state : S) × (seen : List (ℕ × E × S)) × OneHistory first step items (set views pass (record v { seen = seen; told = [] })) × Saw first step pass v state seen × (v.held ≢ None → seen ≡ v.seen)
  looks items views pass v m begun r at =
      let alive = not_gone v (is_owner v m begun) in
      let there = is_there r.kept r.home pass v (r.stands pass v at) alive in
      let t = Rounds.looks first step items r.kept pass v m begun r.list there.0 in
      (r.list.state, r.list.log, changes items items views pass v (record v { seen = r.list.log; told = [] }) r at alive refl t.0, sees items views pass v m r.list.state begun r at t.1, t.2)
