-- A seat that was taken in is kept as it was then, and each other as it is: what stands so goes on to stand.
use Rattle.std.proofs.Common.{◌≡◌, ◌≢◌, ◌⊎◌, ◌==◌, ℕ, Bool, true, false, cond, Option, Some, None, List, [], ◌∷◌, ◌++◌, length, set, sym, refl, ap, ◌∙◌, subst, ⊎_elim, inl, inr, eq-eqb, ne_eqb}
use Rattle.std.proofs.lemmas.Option.{none-some}
use mathlib.Core.Option.{some}
use lib.ListN.{get_elem?}
use Rattle.atomic_table.proofs.Lists.{set_here, set_else, at_longer, at_last}
use Rattle.round_lock.specs.declared.log.Log.{Log}
use Rattle.round_lock.specs.declared.log.TakenOwner.{TakenOwner}
use Rattle.round_lock.specs.History.{TakenIn, Apart, taking, spent, IsKept, AreKept, Stands}
use Rattle.round_lock.proofs.Rounds.{at_below, at_end, reviewed}

-- Who takes in another has the number of that one, and of those that it took in
abbrev pub rehomed : (ℕ → ℕ) → ℕ → ℕ → ℕ → ℕ
rehomed home id other n = cond (home n == other) id (home n)

rehomed_there : (home : ℕ → ℕ) (id other n : ℕ) → home n ≡ other → rehomed home id other n ≡ id
rehomed_there home id other n is = ap (λ b. cond b id (home n)) (eq-eqb (home n) other is)

pub rehomed_else : (home : ℕ → ℕ) (id other n : ℕ) → home n ≢ other → rehomed home id other n ≡ home n
rehomed_else home id other n ne = ap (λ b. cond b id (home n)) (ne_eqb (home n) other ne)

module _ {E : Type 0} where
  taken_by_either : (parts more : List (TakenOwner E)) (n : ℕ) → TakenIn (parts ++ more) n → TakenIn parts n ⊎ TakenIn more n
  taken_by_either [] more n is = inr is
  taken_by_either (p ∷ parts) more n is = ⊎_elim (λ here. inl (inl here)) (λ rest. ⊎_elim (λ t. inl (inr t)) (λ t. inr t) (taken_by_either parts more n rest)) is

  apart_both : (id : ℕ) (parts more : List (TakenOwner E)) → Apart id parts → Apart id more → ((n : ℕ) → TakenIn parts n → ¬ TakenIn more n) → Apart id (parts ++ more)
  apart_both id [] more apart and out = and
  apart_both id (p ∷ parts) more apart and out = (
    apart.0,
    (λ is. ⊎_elim (λ t. apart.1 t) (λ t. out p.pass (inl refl) t) (taken_by_either parts more p.pass is)),
    apart_both id parts more apart.2 and (λ n is. out n (inr is)),
  )

module _ {S E : Type 0} where
  -- an owner isn't gone
  pub not_gone : (v : Log S E) → v.made ≢ None → v ≢ spent
  not_gone v begun gone = begun (ap (λ (u : Log S E). u.made) gone)

  pub is_owner : (v : Log S E) (m : S) → v.made ≡ Some m → v.made ≢ None
  is_owner v m begun none = none-some m (sym none ∙ begun)

  -- who isn't gone is as it is kept
  pub is_there : (kept : List (Log S E)) (home : ℕ → ℕ) (pass : ℕ) (v : Log S E) → Stands kept home pass v → v ≢ spent → (get_elem? kept pass ≡ some v) × (home pass ≡ pass)
  is_there kept home pass v s here = ⊎_elim (λ t. t) (λ gone. absurd (here gone)) s.here

  -- a seat that is its own was taken in by none
  pub not_taken : (kept : List (Log S E)) (home : ℕ → ℕ) (pass j : ℕ) (parts : List (TakenOwner E)) → home pass ≡ pass → Apart j parts → AreKept kept home j parts → ¬ TakenIn parts pass
  not_taken kept home pass j [] own apart are is = is
  not_taken kept home pass j (p ∷ parts) own apart are is = ⊎_elim
      (λ (here : p.pass ≡ pass). apart.0 (here ∙ sym own ∙ ap home (sym here) ∙ are.0.home_is))
      (λ more. not_taken kept home pass j parts own apart.2 are.1 more)
      is

  -- those that were taken in are as they were, where another seat's view is another now, or there is one more
  kept_still : (kept : List (Log S E)) (home : ℕ → ℕ) (pass : ℕ) (w : Log S E) (j : ℕ) (parts : List (TakenOwner E)) → ¬ TakenIn parts pass → AreKept kept home j parts → AreKept (set kept pass w) home j parts
  kept_still kept home pass w j [] out are = tt
  kept_still kept home pass w j (p ∷ parts) out are = (
    record {
      view = are.0.view;
      there = set_else kept pass p.pass w (λ is. out (inl is)) ∙ are.0.there;
      owner = are.0.owner;
      halved_is = are.0.halved_is;
      own_is = are.0.own_is;
      home_is = are.0.home_is;
    },
    kept_still kept home pass w j parts (λ is. out (inr is)) are.1,
  )

  kept_longer : (kept : List (Log S E)) (home : ℕ → ℕ) (x : Log S E) (j : ℕ) (parts : List (TakenOwner E)) → AreKept kept home j parts → AreKept (kept ++ x ∷ []) home j parts
  kept_longer kept home x j [] are = tt
  kept_longer kept home x j (p ∷ parts) are = (
    record {
      view = are.0.view;
      there = at_longer kept (x ∷ []) p.pass are.0.view are.0.there;
      owner = are.0.owner;
      halved_is = are.0.halved_is;
      own_is = are.0.own_is;
      home_is = are.0.home_is;
    },
    kept_longer kept home x j parts are.1,
  )

  abbrev pub AllStand : List (Log S E) → (ℕ → ℕ) → List (Log S E) → Type 0
  AllStand kept home views = (pass : ℕ) (v : Log S E) → get_elem? views pass ≡ some v → Stands kept home pass v

  -- a seat's view is another now
  pub stands_on : (kept views : List (Log S E)) (home : ℕ → ℕ) (pass : ℕ) (v w : Log S E) → AllStand kept home views → get_elem? kept pass ≡ some v → home pass ≡ pass → AreKept kept home pass w.taken → Apart pass w.taken → AllStand (set kept pass w) home (set views pass w)
  stands_on kept views home pass v w stands here own are apart = reviewed (Stands (set kept pass w) home) views pass w
      (record {
        here = inl (set_here kept pass w (at_below kept pass v here), own);
        parts = kept_still kept home pass w pass w.taken (not_taken kept home pass pass w.taken own apart are) are;
        apart = apart;
      })
      (λ j u other was. let s = stands j u was in record {
        here = ⊎_elim (λ h. inl (set_else kept pass j w other ∙ h.0, h.1)) (λ gone. inr gone) s.here;
        parts = kept_still kept home pass w j u.taken (not_taken kept home pass j u.taken own s.apart s.parts) s.parts;
        apart = s.apart;
      })

  -- there is one more, which took in none
  pub stands_more : (kept views : List (Log S E)) (home : ℕ → ℕ) (x : Log S E) → AllStand kept home views → length kept ≡ length views → home (length views) ≡ length views → x.taken ≡ [] → AllStand (kept ++ x ∷ []) home (views ++ x ∷ [])
  stands_more kept views home x stands as_many own none j u here = ⊎_elim
      (λ was. let s = stands j u was in record {
        here = ⊎_elim (λ h. inl (at_longer kept (x ∷ []) j u h.0, h.1)) (λ gone. inr gone) s.here;
        parts = kept_longer kept home x j u.taken s.parts;
        apart = s.apart;
      })
      (λ (end : (j ≡ length views) × (x ≡ u)). subst (λ k. Stands (kept ++ x ∷ []) home k u) (sym end.0) (subst (Stands (kept ++ x ∷ []) home (length views)) end.1 (record {
        here = inl (at_last kept x (length views) as_many, own);
        parts = subst (AreKept (kept ++ x ∷ []) home (length views)) (sym none) tt;
        apart = subst (Apart (length views)) (sym none) tt;
      })))
      (at_end views x u j here)

  -- those that another seat took in are its own as before
  kept_else : (kept : List (Log S E)) (home : ℕ → ℕ) (id other j : ℕ) (parts : List (TakenOwner E)) → j ≢ other → AreKept kept home j parts → AreKept kept (rehomed home id other) j parts
  kept_else kept home id other j [] apart are = tt
  kept_else kept home id other j (p ∷ parts) apart are = (
    record {
      view = are.0.view;
      there = are.0.there;
      owner = are.0.owner;
      halved_is = are.0.halved_is;
      own_is = are.0.own_is;
      home_is = rehomed_else home id other p.pass (λ is. apart (sym are.0.home_is ∙ is)) ∙ are.0.home_is;
    },
    kept_else kept home id other j parts apart are.1,
  )

  kept_over : (kept : List (Log S E)) (home : ℕ → ℕ) (id other : ℕ) (parts : List (TakenOwner E)) → AreKept kept home other parts → AreKept kept (rehomed home id other) id parts
  kept_over kept home id other [] are = tt
  kept_over kept home id other (p ∷ parts) are = (
    record {
      view = are.0.view;
      there = are.0.there;
      owner = are.0.owner;
      halved_is = are.0.halved_is;
      own_is = are.0.own_is;
      home_is = rehomed_there home id other p.pass are.0.home_is;
    },
    kept_over kept home id other parts are.1,
  )

  kept_both : (kept : List (Log S E)) (home : ℕ → ℕ) (id : ℕ) (parts more : List (TakenOwner E)) → AreKept kept home id parts → AreKept kept home id more → AreKept kept home id (parts ++ more)
  kept_both kept home id [] more are and = and
  kept_both kept home id (p ∷ parts) more are and = (are.0, kept_both kept home id parts more are.1 and)

  -- who was taken in by one is the one's
  pub taken_home : (kept : List (Log S E)) (home : ℕ → ℕ) (pass n : ℕ) (parts : List (TakenOwner E)) → AreKept kept home pass parts → TakenIn parts n → home n ≡ pass
  taken_home kept home pass n [] are is = absurd is
  taken_home kept home pass n (p ∷ parts) are is = ⊎_elim (λ (here : p.pass ≡ n). ap home (sym here) ∙ are.0.home_is) (λ more. taken_home kept home pass n parts are.1 more) is

  -- those of another are none of this seat's
  apart_else : (kept : List (Log S E)) (home : ℕ → ℕ) (id other : ℕ) (parts : List (TakenOwner E)) → home id ≡ id → other ≢ id → AreKept kept home other parts → Apart other parts → Apart id parts
  apart_else kept home id other [] own apart are different = tt
  apart_else kept home id other (p ∷ parts) own apart are different = (
    (λ (is : p.pass ≡ id). apart (sym are.0.home_is ∙ ap home is ∙ own)),
    different.1,
    apart_else kept home id other parts own apart are.1 different.2,
  )

  -- one takes in another
  pub stands_taking : (kept views : List (Log S E)) (home : ℕ → ℕ) (id other : ℕ) (v w : Log S E) → AllStand kept home views → get_elem? views id ≡ some v → get_elem? views other ≡ some w → other ≢ id
      → get_elem? kept id ≡ some v → home id ≡ id → get_elem? kept other ≡ some w → home other ≡ other → w.made ≢ None
      → AllStand (set kept id (taking other v w)) (rehomed home id other) (set (set views id (taking other v w)) other spent)
  stands_taking kept views home id other v w stands at there apart here own here_other own_other begun =
      let mine = stands id v at in
      let theirs = stands other w there in
      let now = set kept id (taking other v w) in
      let part : TakenOwner E = record { pass = other; halved = w.halved; own = w.own } in
      let parts : AreKept kept (rehomed home id other) id (v.taken ++ part ∷ w.taken) = kept_both kept (rehomed home id other) id v.taken (part ∷ w.taken)
      (kept_else kept home id other id v.taken (λ is. apart (sym is)) mine.parts)
      (record { view = w; there = here_other; owner = begun; halved_is = refl; own_is = refl; home_is = rehomed_there home id other other own_other }, kept_over kept home id other w.taken theirs.parts) in
      let different : Apart id (v.taken ++ part ∷ w.taken) = apart_both id v.taken (part ∷ w.taken) mine.apart
      (apart, not_taken kept home other other w.taken own_other theirs.apart theirs.parts, apart_else kept home id other w.taken own apart theirs.parts theirs.apart)
      (λ n is also. let of_mine = taken_home kept home id n v.taken mine.parts is in ⊎_elim
      (λ (e : other ≡ n). apart (sym own_other ∙ ap home e ∙ of_mine))
      (λ more. apart (sym (taken_home kept home other n w.taken theirs.parts more) ∙ of_mine))
      also) in
      let still : rehomed home id other id ≡ id = rehomed_else home id other id (λ is. apart (sym is ∙ own)) ∙ own in
      reviewed (Stands now (rehomed home id other)) (set views id (taking other v w)) other spent
      (record { here = inr refl; parts = tt; apart = tt })
      (λ j u not_other was. reviewed (λ k x. k ≢ other → Stands now (rehomed home id other) k x) views id (taking other v w)
      (λ _. record {
        here = inl (set_here kept id (taking other v w) (at_below kept id v here), still);
        parts = kept_still kept (rehomed home id other) id (taking other v w) id (v.taken ++ part ∷ w.taken) (not_taken kept (rehomed home id other) id id (v.taken ++ part ∷ w.taken) still different parts) parts;
        apart = different;
      })
      (λ k x not_id before not_there. let s = stands k x before in let are = kept_else kept home id other k x.taken not_there s.parts in record {
        here = ⊎_elim (λ h. inl (set_else kept id k (taking other v w) not_id ∙ h.0, rehomed_else home id other k (λ is. not_there (sym h.1 ∙ is)) ∙ h.1)) (λ gone. inr gone) s.here;
        parts = kept_still kept (rehomed home id other) id (taking other v w) k x.taken (not_taken kept (rehomed home id other) id k x.taken still s.apart are) are;
        apart = s.apart;
      })
      j u was not_other)
