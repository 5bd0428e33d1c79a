-- Earliest best plans: there is one, it is the trail of earliest last cuts, and so such plans compare as the trails do.
use Rattle.std.proofs.Common.{◌≡◌, ℕ, suc, ◌≤◌, List, length, sym, ap, ◌∙◌, arith}
use Rattle.std.proofs.lemmas.List.{ext_get_or}
use Rattle.costs.specs.Costs.{Costs, Laws}
use Rattle.costs.specs.Limits.{largest}
use Rattle.sources.specs.Scales.{Scale, Sound}
use Rattle.plans.specs.Plans.{total, EarliestBest}
use Rattle.plans.specs.Theorems.{BestPlanExists, PlansInterlace, TotalsAreConvex, FurtherEnds}
use Rattle.plans.proofs.Least.{S, trail, trail_length, trail_total, trail_best, trail_interlaced, trail_further, S_convex}

-- two earliest best plans with as many cuts are the same
pub one_best : (K : Costs) (s : Scale K) → Laws K → (e : ℕ) (xs ys : List ℕ) → length xs ≡ length ys → EarliestBest K s e xs → EarliestBest K s e ys → xs ≡ ys
one_best K s L e xs ys q x y =
    let same = L.le_anti _ _ (x.least ys (sym q) y.plan) (y.least xs q x.plan) in
    let early = x.earliest ys (sym q) y.plan (sym same) in
    let late = y.earliest xs q x.plan same in
    ext_get_or 0 xs ys q (λ k h. omega (arith, early k h, late k))

module _ (K : Costs) (s : Scale K) (L : Laws K) (sound : Sound K s largest) where
  pub best_is_trail : (n e : ℕ) (cuts : List ℕ) → length cuts ≡ n → n ≤ 299 → e ≤ s.last → EarliestBest K s e cuts → cuts ≡ trail K s 0 n e
  best_is_trail n e cuts q h i b = one_best K s L e cuts (trail K s 0 n e) (q ∙ sym (trail_length K s 0 n e)) b (trail_best K s L sound n e h i)

  -- its total is the least one
  pub best_total : (n e : ℕ) (cuts : List ℕ) → length cuts ≡ n → n ≤ 299 → e ≤ s.last → EarliestBest K s e cuts → total K s 0 cuts e ≡ S K s n e
  best_total n e cuts q h i b = ap (λ xs. total K s 0 xs e) (best_is_trail n e cuts q h i b) ∙ trail_total K s L sound n e h i

-- ---- the theorems

pub best_plan_exists_lem : (K : Costs) → Laws K → BestPlanExists K
best_plan_exists_lem K L s sound n e h i = (
  trail K s 0 n e,
  (trail_length K s 0 n e, trail_best K s L sound n e (omega arith) i, λ other q b. best_is_trail K s L sound n e other q (omega arith) i b),
)

pub plans_interlace_lem : (K : Costs) → Laws K → PlansInterlace K
plans_interlace_lem K L s sound few more e q h i b c =
    rw (best_is_trail K s L sound (length few) e few (omega arith) (omega arith) i b, best_is_trail K s L sound (suc (length few)) e more (omega arith) (omega arith) i c)
    (trail_interlaced K s L sound 0 (length few) e (omega arith) i)

pub totals_are_convex_lem : (K : Costs) → Laws K → TotalsAreConvex K
totals_are_convex_lem K L s sound xs ys zs e q r h i a b c =
    let n = length xs in
    rw (best_total K s L sound n e xs (omega arith) (omega arith) i a, best_total K s L sound (suc n) e ys (omega arith) (omega arith) i b, best_total K s L sound (suc (suc n)) e zs (omega arith) (omega arith) i c)
    (S_convex K s L sound n e (omega arith) i)

pub further_ends_lem : (K : Costs) → Laws K → FurtherEnds K
further_ends_lem K L s sound near far e e' q h i j a b =
    rw (best_is_trail K s L sound (length near) e near (omega arith) (omega arith) (omega arith) a, best_is_trail K s L sound (length near) e' far (omega arith) (omega arith) j b)
    (trail_further K s L sound 0 (length near) e e' (omega arith) i j)
