-- The calls made since so many octets were taken.
use Rattle.std.proofs.Common.{◌≡◌, ℕ, ◌<◌, ◌≤◌, Bool, false, cond, List, [], ◌∷◌, ◌++◌, length, Ok, Err, sym, refl, ap, ◌∙◌, subst, ⊎_elim, arith}
use Rattle.std.proofs.lemmas.Bool.{cases_lt, lt-ltb, le-ltb}
use Rattle.promise.specs.ReceiverHistory.{ReceiverCall, feed, next, show, octets_taken, since, latest_is_next}

nil_not_cons : (after : List ReceiverCall) (call : ReceiverCall) (between : List ReceiverCall) → [] ≡ after ++ (call ∷ between) → ⊥
nil_not_cons [] call between e = let z : ◌≡◌ {A = ℕ} 0 1 = cc in omega arith
nil_not_cons (x ∷ xs) call between e = let z : ◌≡◌ {A = ℕ} 0 1 = cc in omega arith

module _ (e : ℕ) where
  pub since_more : (calls : List ReceiverCall) (new : ReceiverCall) → e ≤ length (octets_taken calls) → since e (new ∷ calls) ≡ new ∷ since e calls
  unfolding since
  since_more calls new ge = ap (λ (b : Bool). cond b [] (new ∷ since e calls)) (le-ltb (length (octets_taken calls)) e ge)

  pub since_none : (calls : List ReceiverCall) (new : ReceiverCall) → length (octets_taken calls) < e → since e (new ∷ calls) ≡ []
  unfolding since
  since_none calls new lt = ap (λ (b : Bool). cond b [] (new ∷ since e calls)) (lt-ltb (length (octets_taken calls)) e lt)

  -- ---- what is said of each of them

  module _ (Holds : List ReceiverCall → ReceiverCall → Type 0) where
    abbrev pub EachSince : List ReceiverCall → Type 0
    EachSince calls = (after : List ReceiverCall) (call : ReceiverCall) (between : List ReceiverCall) → since e calls ≡ after ++ (call ∷ between) → Holds between call

    pub each_none : EachSince []
    unfolding since
    each_none after call between is = absurd (nil_not_cons after call between is)

    pub each_more : (calls : List ReceiverCall) (new : ReceiverCall) → EachSince calls → (e ≤ length (octets_taken calls) → Holds (since e calls) new) → EachSince (new ∷ calls)
    each_more calls new old now after call between is =
        ⊎_elim
        (λ (lt : length (octets_taken calls) < e). absurd (nil_not_cons after call between (sym (since_none calls new lt) ∙ is)))
        (λ (ge : e ≤ length (octets_taken calls)). at after (sym (since_more calls new ge) ∙ is) (now ge))
        (cases_lt (length (octets_taken calls)) e)
      where
        at : (after : List ReceiverCall) → new ∷ since e calls ≡ after ++ (call ∷ between) → Holds (since e calls) new → Holds between call
        at [] is here =
            let head : new ≡ call = cc in
            let tail : since e calls ≡ between = cc in
            subst (Holds between) head (subst (λ (l : List ReceiverCall). Holds l new) tail here)
        at (x ∷ xs) is here =
            let tail : since e calls ≡ xs ++ (call ∷ between) = cc in
            old xs call between tail

  -- ---- the latest of them

  kept_in : (calls : List ReceiverCall) (new : ReceiverCall) → latest_is_next (new ∷ since e calls) ≡ false → latest_is_next (since e (new ∷ calls)) ≡ false
  unfolding latest_is_next
  kept_in calls new is =
      ⊎_elim
      (λ (lt : length (octets_taken calls) < e). ap latest_is_next (since_none calls new lt))
      (λ (ge : e ≤ length (octets_taken calls)). ap latest_is_next (since_more calls new ge) ∙ is)
      (cases_lt (length (octets_taken calls)) e)

  -- where the latest accepted call of feed and next was no next, it was none of these either
  pub latest_since : (calls : List ReceiverCall) → latest_is_next calls ≡ false → latest_is_next (since e calls) ≡ false
  unfolding latest_is_next since
  latest_since [] is = refl
  latest_since (feed input (Ok answer) ∷ calls) is = kept_in calls (feed input (Ok answer)) refl
  latest_since (feed input (Err fault) ∷ calls) is = kept_in calls (feed input (Err fault)) (latest_since calls is)
  latest_since (next (Ok answer) ∷ calls) is = let z : ◌≡◌ {A = ℕ} 0 1 = cc in absurd (omega arith)
  latest_since (next (Err fault) ∷ calls) is = kept_in calls (next (Err fault)) (latest_since calls is)
  latest_since (show r ∷ calls) is = kept_in calls (show r) (latest_since calls is)
