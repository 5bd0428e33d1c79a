-- The least totals, their earliest last cuts, and the plans that these give: the earliest best ones, and how they compare.
use Rattle.std.proofs.Common.{◌≡◌, ℕ, zero, suc, ◌+◌, ◌≤◌, List, [], ◌∷◌, length, sym, refl, ap, ◌∙◌, inl, inr, eq-or-lt_of_le, arith}
use Rattle.std.proofs.lemmas.Bool.{cases_lt}
use Rattle.costs.specs.Costs.{Costs, Laws}
use Rattle.costs.specs.Limits.{largest}
use Rattle.sources.specs.Scales.{Scale, Sound}
use Rattle.plans.specs.Plans.{Plan, total, NoLater, EarliestBest, Interlaced}
use Rattle.plans.specs.Steps.{earliest, head_or}
use Rattle.costs.proofs.Weights.{W, Le, sum_weight}
use Rattle.costs.proofs.Sums.{Small, small_nil, pair, turn, nil_add, transfer, transfer_left, part_by_part, absorb}
use Rattle.plans.proofs.Earliest.{Earliest, earliest_is}
use Rattle.plans.proofs.Plans.{plan_in, no_later_cons}

module _ (K : Costs) (s : Scale K) where
  -- the least total with n cuts at the end y
  unfoldable pub S : ℕ → ℕ → K.Cost
  S zero y = s.cost 0 y
  S (suc n) y = let g : ℕ → K.Cost = λ p. K.add (S n p) (s.cost p y) in g (earliest K.le g 0 y)

  -- the least total with n cuts and then p, at the end y
  abbrev pub through : ℕ → ℕ → ℕ → K.Cost
  through n y p = K.add (S n p) (s.cost p y)

  -- the earliest last cut of a best plan with n + 1 cuts at the end y
  unfoldable pub θ : ℕ → ℕ → ℕ
  θ n y = earliest K.le (through n y) 0 y

  -- the clauses of S
  pub S_zero : (y : ℕ) → S 0 y ≡ s.cost 0 y
  unfolding S
  S_zero y = refl

  pub S_suc : (n y : ℕ) → S (suc n) y ≡ through n y (θ n y)
  unfolding S θ
  S_suc n y = refl

  -- the last k cuts of the plan with n + k cuts at the end e, each the earliest last cut before the next
  abbrev pub trail : ℕ → ℕ → ℕ → List ℕ
  trail n zero e = []
  trail n (suc k) e = let later = trail (suc n) k e in θ n (head_or e later) ∷ later

  -- it has k cuts
  pub trail_length : (n k e : ℕ) → length (trail n k e) ≡ k
  trail_length n zero e = refl
  trail_length n (suc k) e = ap suc (trail_length (suc n) k e)

  -- the first of those cuts, or the end if there are none
  abbrev pub top : ℕ → ℕ → ℕ → ℕ
  top n k e = head_or e (trail n k e)

  -- the least total with n cuts, then x and the cuts zs, at the end e
  abbrev by_way : ℕ → ℕ → List ℕ → ℕ → K.Cost
  by_way n x zs e = K.add (S n x) (total K s x zs e)

  module _ (L : Laws K) where
    -- the last cut is the earliest least place on the way to the end
    pub θ_is : (n y : ℕ) → Earliest K (through n y) 0 y (θ n y)
    unfolding θ
    θ_is n y = earliest_is K L (through n y) 0 y y (omega arith)

    pub θ_to : (n y : ℕ) → θ n y ≤ y
    θ_to n y = (θ_is n y).to

    -- the least total is at most that by way of any place
    pub S_least : (n y p : ℕ) → p ≤ y → Le K (S (suc n) y) (through n y p)
    S_least n y p h = rw (S_suc n y) ((θ_is n y).least p (omega arith) h)

    -- a place as good as the last cut is no earlier
    pub θ_first : (n y p : ℕ) → Le K (through n y p) (S (suc n) y) → θ n y ≤ p
    θ_first n y p l = elim (cases_lt p (θ n y)) [ inl m ↦ absurd ((θ_is n y).first p (omega arith) m (rw (S_suc n y) at l)) | inr m ↦ m ]

    -- the cuts lie up to the end, and are a plan
    pub top_in : (n k e : ℕ) → top n k e ≤ e
    top_in n zero e = omega arith
    top_in n (suc k) e = omega (arith, top_in (suc n) k e, θ_to n (top (suc n) k e))

    pub trail_plan : (n k e x : ℕ) → x ≤ top n k e → Plan x (trail n k e) e
    trail_plan n zero e x h = h
    trail_plan n (suc k) e x h = (h, trail_plan (suc n) k e _ (θ_to n (top (suc n) k e)))

    module _ (sound : Sound K s largest) where
      -- the least total with n cuts weighs n + 1, and a class 1
      pub S_weight : (n y : ℕ) → n ≤ 1999 → y ≤ s.last → W K (suc n) (S n y)
      S_weight zero y h i = rw (S_zero y) (omega (arith, sound.sizes 0 y))
      S_weight (suc n) y h i =
          let p = θ n y in
          rw (S_suc n y) (omega (arith, sum_weight K L (S n p) (s.cost p y) (suc n) 1 (S_weight n p (omega arith) (omega (arith, θ_to))) (omega (arith, sound.sizes p y, θ_to)) (omega arith)))

      pub small_S : (n y : ℕ) → (n ≤ 299) × (y ≤ s.last) → Small K (S n y)
      small_S n y h = omega (arith, S_weight n y)

      pub small_cost : (x y : ℕ) → (x ≤ y) × (y ≤ s.last) → Small K (s.cost x y)
      small_cost x y h = omega (arith, sound.sizes x y)

      ruleset sizes = (arith, θ_to, small_S, small_cost)

      -- ---- crossing, shift, and how the last cuts rise

      -- two classes cost no more than with their ends exchanged
      pub crossing : (p p' y y' : ℕ) → p ≤ p' → p' ≤ y → y ≤ y' → y' ≤ s.last
          → Le K (K.add (s.cost p y) (s.cost p' y')) (K.add (s.cost p' y) (s.cost p y'))
      crossing p p' y y' h i j k =
          elim (eq-or-lt_of_le h) [ inl e ↦ rw e (L.le_refl _) | inr m ↦ sound.glebov p p' y y' m i j k ]

      -- a later end, a later last cut
      pub θ_rises : (n y y' : ℕ) → n ≤ 299 → y ≤ y' → y' ≤ s.last → θ n y ≤ θ n y'
      θ_rises n y y' h i j =
          let p = θ n y' in
          let p' = θ n y in
          elim (cases_lt p p') [
            | inr m ↦ m
            | inl m ↦ θ_first n y p (rw (S_suc n y) (transfer K L ((θ_is n y').least p' (omega arith) (omega sizes)) (crossing p p' y y' (omega arith) (θ_to n y) i j) (omega sizes)))
          ]

      -- the shift, where the last class up to p' starts at b, no later than the last cut at p
      shift_crossed : (n p p' b : ℕ) (before : K.Cost) → n ≤ 298 → p ≤ p' → p' ≤ s.last → b ≤ θ n p → Small K before
          → Le K (S n p) (K.add before (s.cost b p)) → S n p' ≡ K.add before (s.cost b p')
          → Le K (K.add (S n p) (S (suc n) p')) (K.add (S (suc n) p) (S n p'))
      shift_crossed n p p' b before h i j k w l e =
          let a = θ n p in
          rw (S_suc n p, e)
          (part_by_part K L l (S_least n p' a (omega sizes)) (rw (turn K L before (S n a) (omega sizes)) (L.le_refl _)) (crossing b a p p' k (θ_to n p) i j) (omega sizes))

      -- one cut more saves no less at a later end
      pub shift : (n p p' : ℕ) → n ≤ 298 → p ≤ p' → p' ≤ s.last → Le K (K.add (S n p) (S (suc n) p')) (K.add (S (suc n) p) (S n p'))
      shift zero p p' h i j =
          let plain : (y : ℕ) → y ≤ s.last → S 0 y ≡ K.add K.nil (s.cost 0 y) = λ y k. S_zero y ∙ sym (nil_add K L (s.cost 0 y) (omega sizes)) in
          shift_crossed 0 p p' 0 K.nil h i j (omega arith) (small_nil K L) (rw (plain p (omega arith)) (L.le_refl _)) (plain p' j)
      shift (suc n) p p' h i j =
          let a = θ (suc n) p in
          let b = θ n p' in
          elim (cases_lt a b) [
            | inr m ↦ shift_crossed (suc n) p p' b (S n b) h i j m (omega sizes) (S_least n p b (omega sizes)) (S_suc n p')
            | inl m ↦ rw (S_suc (suc n) p, S_suc n p')
                (part_by_part K L (S_least n p a (omega sizes)) (S_least (suc n) p' b (omega sizes)) (shift n a b (omega arith) (omega arith) (omega sizes)) (L.le_refl _) (omega sizes))
          ]

      -- one cut more, a later last cut
      pub θ_rises_more : (n y : ℕ) → n ≤ 298 → y ≤ s.last → θ n y ≤ θ (suc n) y
      θ_rises_more n y h i =
          let p = θ (suc n) y in
          let p' = θ n y in
          elim (cases_lt p p') [
            | inr m ↦ m
            | inl m ↦ θ_first n y p (rw (S_suc n y) (transfer_left K L ((θ_is (suc n) y).least p' (omega arith) (omega sizes)) (shift n p p' h (omega arith) (omega sizes)) (omega sizes)))
          ]

      -- both together
      θ_rises_both : (n y y' : ℕ) → n ≤ 298 → y ≤ y' → y' ≤ s.last → θ n y ≤ θ (suc n) y'
      θ_rises_both n y y' h i j = omega (arith, θ_rises n y y' (omega arith) i j, θ_rises_more n y' h j)

      -- a cut saves no more than the cut before it
      pub S_convex : (n y : ℕ) → n ≤ 298 → y ≤ s.last → Le K (K.add (S (suc n) y) (S (suc n) y)) (K.add (S n y) (S (suc (suc n)) y))
      S_convex n y h i =
          let c = θ (suc n) y in
          rw (S_suc (suc n) y) (absorb K L (S_least n y c (omega sizes)) (shift n c y h (omega sizes) i) (omega sizes))

      -- ---- the earliest best plan

      -- the total of a plan weighs one more than its cuts
      total_weight : (x e : ℕ) (zs : List ℕ) → Plan x zs e → length zs ≤ 299 → e ≤ s.last → W K (suc (length zs)) (total K s x zs e)
      total_weight x e [] p h i = omega (arith, sound.sizes x e)
      total_weight x e (m ∷ zs) p h i =
          omega (
            arith,
            sum_weight K L (s.cost x m) (total K s m zs e) 1 (suc (length zs))
                (omega (arith, sound.sizes x m, plan_in m e zs p.1)) (total_weight m e zs p.1 (omega arith) i) (omega arith),
          )

      small_total : (x e : ℕ) (zs : List ℕ) → Plan x zs e → length zs ≤ 299 → e ≤ s.last → Small K (total K s x zs e)
      small_total x e zs p h i = omega (arith, total_weight x e zs p h i)

      -- the class from x to m can go with the cuts before it
      first_class : (n x m e : ℕ) (zs : List ℕ) → n ≤ 299 → length zs ≤ 299 → e ≤ s.last → Plan x (m ∷ zs) e → by_way n x (m ∷ zs) e ≡ K.add (through n m x) (total K s m zs e)
      first_class n x m e zs h i j p =
          sym (L.add_assoc (S n x) (s.cost x m) (total K s m zs e) (omega (sizes, plan_in m e zs p.1, small_total m e zs p.1)))

      -- to set the cuts before m best is no worse, and if the plan was as good, so was x
      behind : (n x m e : ℕ) (zs : List ℕ) → n ≤ 298 → length zs ≤ 299 → e ≤ s.last → Plan x (m ∷ zs) e
          → Le K (by_way (suc n) m zs e) (by_way n x (m ∷ zs) e) × (Le K (by_way n x (m ∷ zs) e) (by_way (suc n) m zs e) → Le K (through n m x) (S (suc n) m))
      behind n x m e zs h i j p =
          let best = S (suc n) m in
          let rest = total K s m zs e in
          let m≤e = plan_in m e zs p.1 in
          let w = small_total m e zs p.1 i j in
          rw (first_class n x m e zs (omega arith) i j p)
          (rw (L.add_le best (through n m x) rest (omega (sizes, pair K L))) (S_least n m x p.0), λ l. rw (L.add_le (through n m x) best rest (omega (sizes, pair K L))) at l)

      -- the least total is at most that by way of any place and any plan behind it
      least_from : (N n x e : ℕ) (zs : List ℕ) → suc n + length zs ≡ N → N ≤ 299 → e ≤ s.last → Plan x zs e → Le K (S N e) (by_way n x zs e)
      least_from N n x e [] q h i p = let r : N ≡ suc n = omega arith in rw r (S_least n e x p)
      least_from N n x e (m ∷ zs) q h i p =
          L.le_trans _ _ _ (least_from N (suc n) m e zs (omega arith) h i p.1) (behind n x m e zs (omega arith) (omega arith) i p).0

      -- where that comes to the least total, the trail has its cuts no later
      earliest_from : (N n x e : ℕ) (zs : List ℕ) → suc n + length zs ≡ N → N ≤ 299 → e ≤ s.last → Plan x zs e → Le K (by_way n x zs e) (S N e)
          → NoLater (trail n (suc (length zs)) e) (x ∷ zs)
      earliest_from N n x e [] q h i p l = let r : N ≡ suc n = omega arith in no_later_cons [] [] (θ_first n e x (rw r at l)) (λ k j. omega arith)
      earliest_from N n x e (m ∷ zs) q h i p l =
          let b = behind n x m e zs (omega arith) (omega arith) i p in
          let rest = earliest_from N (suc n) m e zs (omega arith) h i p.1 (L.le_trans _ _ _ b.0 l) in
          let x-late = θ_first n m x (b.1 (L.le_trans _ _ _ l (least_from N (suc n) m e zs (omega arith) h i p.1))) in
          let rises = θ_rises n (top (suc n) (suc (length zs)) e) m (omega arith) (rest 0 (omega arith)) (omega (arith, plan_in m e zs p.1)) in
          no_later_cons (trail (suc n) (suc (length zs)) e) (m ∷ zs) (omega arith) rest

      -- the trail comes to it
      attained : (N n k e : ℕ) → suc n + k ≡ N → N ≤ 299 → e ≤ s.last → by_way n (top n (suc k) e) (trail (suc n) k e) e ≡ S N e
      attained N n zero e q h i = let r : N ≡ suc n = omega arith in rw r (sym (S_suc n e))
      attained N n (suc k) e q h i =
          let m = top (suc n) (suc k) e in
          let zs = trail (suc (suc n)) k e in
          first_class n (θ n m) m e zs (omega arith) (omega (arith, trail_length (suc (suc n)) k e)) i (trail_plan (suc n) (suc k) e _ (θ_to n m))
          ∙ ap (λ a. K.add a (total K s m zs e)) (sym (S_suc n m)) ∙ attained N (suc n) k e (omega arith) h i

      -- the total of the trail is the least one
      pub trail_total : (n e : ℕ) → n ≤ 299 → e ≤ s.last → total K s 0 (trail 0 n e) e ≡ S n e
      unfolding S
      trail_total zero e h i = refl
      trail_total (suc n) e h i = attained (suc n) 0 n e (omega arith) h i

      -- the least total is at most that of any plan
      pub plan_least : (e : ℕ) (zs : List ℕ) → length zs ≤ 299 → e ≤ s.last → Plan 0 zs e → Le K (S (length zs) e) (total K s 0 zs e)
      unfolding S
      plan_least e [] h i p = L.le_refl (s.cost 0 e)
      plan_least e (m ∷ zs) h i p = least_from (suc (length zs)) 0 m e zs (omega arith) h i p.1

      -- a plan with the least total has no cut before that of the trail
      pub plan_later : (e : ℕ) (zs : List ℕ) → length zs ≤ 299 → e ≤ s.last → Plan 0 zs e → total K s 0 zs e ≡ S (length zs) e → NoLater (trail 0 (length zs) e) zs
      unfolding S
      plan_later e [] h i p q = λ k j. omega arith
      plan_later e (m ∷ zs) h i p q = earliest_from (suc (length zs)) 0 m e zs (omega arith) h i p.1 (rw (← q) (L.le_refl _))

      -- the trail is the earliest best plan
      pub trail_best : (n e : ℕ) → n ≤ 299 → e ≤ s.last → EarliestBest K s e (trail 0 n e)
      trail_best n e h i =
          record {
            plan = trail_plan 0 n e 0 (omega arith);
            least = λ zs q p. let r = q ∙ trail_length 0 n e in rw (trail_total n e h i, ← r) (plan_least e zs (omega arith) i p);
            earliest = λ zs q p t. let r = q ∙ trail_length 0 n e in rw (← r) (plan_later e zs (omega arith) i p (t ∙ trail_total n e h i ∙ ap (λ m. S m e) (sym r)));
          }

      -- ---- how the plans of two ends, and of two numbers of cuts, compare

      -- a further end moves no cut earlier: the first one, and so all
      top_rises : (n k e e' : ℕ) → n + k ≤ 300 → e ≤ e' → e' ≤ s.last → top n k e ≤ top n k e'
      top_rises n zero e e' h i j = i
      top_rises n (suc k) e e' h i j = θ_rises n (top (suc n) k e) (top (suc n) k e') (omega arith) (top_rises (suc n) k e e' (omega arith) i j) (omega (arith, top_in (suc n) k e'))

      pub trail_further : (n k e e' : ℕ) → n + k ≤ 300 → e ≤ e' → e' ≤ s.last → NoLater (trail n k e) (trail n k e')
      trail_further n zero e e' h i j = λ k l. omega arith
      trail_further n (suc k) e e' h i j = no_later_cons (trail (suc n) k e) (trail (suc n) k e') (top_rises n (suc k) e e' h i j) (trail_further (suc n) k e e' (omega arith) i j)

      -- the window: up to a cut of the plan, the last cut is no later than the cut before it
      pub window_to : (n k e y : ℕ) → n + k ≤ 299 → e ≤ s.last → y ≤ top (suc n) k e → θ n y ≤ top n (suc k) e
      window_to n k e y h i j = θ_rises n y (top (suc n) k e) (omega arith) j (omega (arith, top_in (suc n) k e))

      -- and from a cut of the plan on, it is no earlier than the cut before that
      pub window_from : (n k e y : ℕ) → n + k ≤ 298 → y ≤ s.last → top (suc n) k e ≤ y → top n (suc k) e ≤ θ (suc n) y
      window_from n k e y h i j = θ_rises_both n (top (suc n) k e) y (omega arith) j i

      -- with one cut more at the same end, the cut of a number is no later
      pub more_earlier : (n k e : ℕ) → n + k ≤ 299 → e ≤ s.last → top n (suc k) e ≤ top n k e
      more_earlier n zero e h i = θ_to n e
      more_earlier n (suc k) e h i = window_to n k e (top (suc n) (suc k) e) (omega arith) i (more_earlier (suc n) k e (omega arith) i)

      -- and the next cut is no earlier
      pub more_later : (n k e : ℕ) → n + k ≤ 299 → e ≤ s.last → top n k e ≤ top (suc n) k e
      more_later n zero e h i = omega arith
      more_later n (suc k) e h i = window_from n k e (top (suc (suc n)) k e) (omega arith) (omega (arith, top_in (suc (suc n)) k e)) (more_later (suc n) k e (omega arith) i)

      -- so the plan and that with one cut more interlace
      pub trail_interlaced : (n k e : ℕ) → n + k ≤ 299 → e ≤ s.last → Interlaced (trail n k e) (trail n (suc k) e)
      trail_interlaced n zero e h i j l = omega arith
      trail_interlaced n (suc k) e h i zero l = (more_earlier n (suc k) e h i, more_later n (suc k) e h i)
      trail_interlaced n (suc k) e h i (suc j) l = trail_interlaced (suc n) k e (omega arith) i j (omega arith)
