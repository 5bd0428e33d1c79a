-- Steps lead from one earliest best plan to the next, and so stepping up leads to any of them.
use Rattle.std.proofs.Common.{◌≡◌, ℕ, zero, suc, ◌+◌, ◌-◌, ◌≤◌, List, ◌++◌, length, get_or, drop, sym, refl, ap, ◌∙◌, subst, arith}
use Rattle.std.proofs.lemmas.List.{drop-drop, drop_at}
use Rattle.costs.specs.Costs.{Costs, Laws}
use Rattle.costs.specs.Limits.{largest}
use Rattle.sources.specs.Scales.{Scale, Sound}
use Rattle.plans.specs.Limits.{longest}
use Rattle.plans.specs.Plans.{Plan, BestPlan}
use Rattle.plans.specs.Steps.{step, over, climb}
use Rattle.plans.specs.Theorems.{AStepLeadsOn, CellsAreLeast, ClimbingLeadsThere, fenced}
use Rattle.plans.proofs.Best.{best_is_trail, best_total}
use Rattle.plans.proofs.Least.{S, S_zero, trail, trail_length, trail_total, trail_best}
use Rattle.plans.proofs.Plans.{plan_under}
use Rattle.plans.proofs.Rows.{step_trail, step_least, step_cell}
use Rattle.plans.proofs.Shapes.{step_length, step_plan, step_cells}

-- ---- the cells, whatever the costs are

-- cells laid over no more of them hide those
over_over : {C : Type 0} (new old cells : List C) → length old ≤ length new → over new (over old cells) ≡ over new cells
over_over new old cells h =
    let o = length old in
    let r = length new - o in
    let split : o + r ≡ length new = omega arith in
    ap (λ xs. new ++ xs)
    (ap (λ k. drop k (over old cells)) (sym split) ∙ sym (drop-drop r o (over old cells)) ∙ ap (drop r) (drop_at old (drop o cells) o refl) ∙ drop-drop r o cells ∙ ap (λ k. drop k cells) split)

module _ (K : Costs) (s : Scale K) (e : ℕ) (cells : List K.Cost) where
  pub climb_length : (n : ℕ) → length (climb K s e n cells).cuts ≡ n
  climb_length zero = refl
  climb_length (suc n) = step_length K s (climb K s e n cells).cuts e ∙ ap suc (climb_length n)

  pub climb_plan : (n : ℕ) → Plan 0 (climb K s e n cells).cuts e
  climb_plan zero = omega arith
  climb_plan (suc n) = step_plan K s (climb K s e n cells).cuts e (climb_plan n)

  -- only the last step's rows are left
  pub climb_cells : (n : ℕ) → (climb K s e (suc n) cells).cells ≡ over (step K s (climb K s e n cells).cuts e).cells cells
  climb_cells zero = refl
  climb_cells (suc n) =
      let before = (climb K s e n cells).cuts in
      let held = (climb K s e (suc n) cells).cuts in
      ap (over (step K s held e).cells) (climb_cells n)
      ∙ over_over (step K s held e).cells (step K s before e).cells cells
      (omega (arith, step_cells K s before e (climb_plan n), step_cells K s held e (climb_plan (suc n)), climb_length n, climb_length (suc n)))

-- ---- the plans

module _ (K : Costs) (s : Scale K) (L : Laws K) (sound : Sound K s largest) (e : ℕ) (i : e ≤ s.last) (short : e ≤ longest) where
  pub climb_trail : (cells : List K.Cost) (n : ℕ) → n ≤ 299 → (climb K s e n cells).cuts ≡ trail K s 0 n e
  climb_trail cells zero h = refl
  climb_trail cells (suc n) h = ap (λ xs. (step K s xs e).cuts) (climb_trail cells n (omega arith)) ∙ step_trail K s e L sound i short n (omega arith)

  pub climb_least : (cells : List K.Cost) (n : ℕ) → n ≤ 299 → (climb K s e n cells).total ≡ S K s n e
  climb_least cells zero h = sym (S_zero K s e)
  climb_least cells (suc n) h = ap (λ xs. (step K s xs e).total) (climb_trail cells n (omega arith)) ∙ step_least K s e L sound i short n (omega arith)

-- cuts and a cost that are the trail and the least total
trail_planned : (K : Costs) (s : Scale K) (L : Laws K) (sound : Sound K s largest) (n e : ℕ) (cuts : List ℕ) (cost : K.Cost) → n ≤ 299 → e ≤ s.last → cuts ≡ trail K s 0 n e → cost ≡ S K s n e → BestPlan K s n e cuts cost
trail_planned K s L sound n e cuts cost h i p q =
    rw (p, q) (record { number = trail_length K s 0 n e; best = trail_best K s L sound n e h i; cost_is = sym (trail_total K s L sound n e h i) })

pub a_step_leads_on_lem : (K : Costs) → Laws K → AStepLeadsOn K
a_step_leads_on_lem K L s sound held e h i short b =
    let n = length held in
    let t = best_is_trail K s L sound n e held refl (omega arith) i b in
    trail_planned K s L sound (suc n) e _ _ (omega arith) i
    (ap (λ xs. (step K s xs e).cuts) t ∙ step_trail K s e L sound i short n (omega arith))
    (ap (λ xs. (step K s xs e).total) t ∙ step_least K s e L sound i short n (omega arith))

pub cells_are_least_lem : (K : Costs) → Laws K → CellsAreLeast K
cells_are_least_lem K L s sound held e h i short b j y cuts l m o q c =
    let n = length held in
    let t = best_is_trail K s L sound n e held refl (omega arith) i b in
    ap (λ xs. get_or (step K s xs e).cells (y + j) K.nil) t
    ∙ step_cell K s e L sound i short n j y (omega arith) l (subst (λ xs. get_or (fenced xs e) j 0 ≤ y) t m) (subst (λ xs. y ≤ get_or (fenced xs e) (suc j) 0) t o)
    ∙ sym (best_total K s L sound j y cuts q (omega arith) (omega (arith, plan_under 0 e held j b.plan l)) c)

pub climbing_leads_there_lem : (K : Costs) → Laws K → ClimbingLeadsThere K
climbing_leads_there_lem K L s sound n e cells h i short =
    trail_planned K s L sound n e _ _ (omega arith) i (climb_trail K s L sound e i short cells n (omega arith)) (climb_least K s L sound e i short cells n (omega arith))
