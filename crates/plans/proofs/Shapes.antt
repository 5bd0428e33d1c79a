-- The shape of a step, whatever the costs are: how many rows, cells and cuts it has, and that the new cuts are a plan again.
use Rattle.std.proofs.Common.{◌≡◌, ℕ, suc, ◌+◌, ◌-◌, ◌≤◌, List, [], ◌∷◌, ◌++◌, length, refl, ap, ◌∙◌, arith}
use Rattle.std.proofs.lemmas.List.FromFn.{length-map-range_with_len}
use Rattle.std.proofs.lemmas.List.{length-append, length_push}
use Rattle.costs.specs.Costs.{Costs}
use Rattle.sources.specs.Scales.{Scale}
use Rattle.plans.specs.Plans.{Plan}
use Rattle.plans.specs.Steps.{Row, via, next, first_row, rows_behind, rows, head_or, traced, joined_cells, step}
use Rattle.plans.specs.Theorems.{StepsKeepTheirShape}
use Rattle.plans.proofs.Earliest.{earliest_within}
use Rattle.plans.proofs.Plans.{plan_ended}

module _ (K : Costs) (s : Scale K) where
  -- ---- rows and cells

  pub length-next : (above : Row K) (c : ℕ) → length (next K s above c).cells ≡ c - above.to + 1
  length-next above c = length-map-range_with_len _ 0 (c - above.to + 1)

  pub length-first : (x : ℕ) → length (first_row K s x).cells ≡ suc x
  length-first x = length-map-range_with_len (s.cost 0) 0 (suc x)

  -- the rows behind a row, up to the cuts of a plan and its end, have a cell for each place and one more for each cut
  pub length-behind : (above : Row K) (xs : List ℕ) (e : ℕ) → Plan above.to xs e → length (joined_cells (rows_behind K s above (xs ++ e ∷ []))) + above.to ≡ e + suc (length xs)
  length-behind above [] e p = omega (arith, length-append (next K s above e).cells [], length-next above e)
  length-behind above (x ∷ xs) e p =
      let r = next K s above x in
      omega (arith, length-append r.cells (joined_cells (rows_behind K s r (xs ++ e ∷ []))), length-next above x, length-behind r xs e p.1)

  pub step_cells : (held : List ℕ) (e : ℕ) → Plan 0 held e → length (step K s held e).cells ≡ e + suc (length held)
  step_cells [] e p = omega (arith, length-append (first_row K s e).cells [], length-first e)
  step_cells (x ∷ xs) e p =
      let r = first_row K s x in
      omega (arith, length-append r.cells (joined_cells (rows_behind K s r (xs ++ e ∷ []))), length-first x, length-behind r xs e p.1)

  pub length-rows_behind : (above : Row K) (cs : List ℕ) → length (rows_behind K s above cs) ≡ length cs
  length-rows_behind above [] = refl
  length-rows_behind above (c ∷ cs) = ap suc (length-rows_behind (next K s above c) cs)

  pub length-rows : (held : List ℕ) (e : ℕ) → length (rows K s held e) ≡ suc (length held)
  length-rows [] e = refl
  length-rows (x ∷ xs) e = omega (arith, length-rows_behind (first_row K s x) (xs ++ e ∷ []), length_push xs e)

  -- ---- the new cuts

  pub length-traced : (rs : List (Row K)) (e : ℕ) → length (traced K s rs e) ≡ length rs
  length-traced [] e = refl
  length-traced (r ∷ rs) e = ap suc (length-traced rs e)

  -- one cut more
  pub step_length : (held : List ℕ) (e : ℕ) → length (step K s held e).cuts ≡ suc (length held)
  step_length held e = length-traced (rows K s held e) e ∙ length-rows held e

  -- each new cut lies in its row, so they never fall
  traced_plan : (above : Row K) (cs : List ℕ) (e x : ℕ) → x ≤ above.from → above.from ≤ above.to → Plan above.to cs e → Plan x (traced K s (above ∷ rows_behind K s above cs) e) e
  traced_plan above [] e x h i p =
      let w = earliest_within K.le (via K s above e) above.from (above.to - above.from) in
      (omega (arith, w), omega (arith, w))
  traced_plan above (c ∷ cs) e x h i p =
      let r = next K s above c in
      let later = traced K s (r ∷ rows_behind K s r cs) e in
      let w = earliest_within K.le (via K s above (head_or e later)) above.from (above.to - above.from) in
      (omega (arith, w), traced_plan r cs e _ (omega (arith, w)) p.0 p.1)

  -- so they can be held again
  pub step_plan : (held : List ℕ) (e : ℕ) → Plan 0 held e → Plan 0 (step K s held e).cuts e
  step_plan [] e p = traced_plan (first_row K s e) [] e 0 (omega arith) (omega arith) (omega arith)
  step_plan (x ∷ xs) e p = traced_plan (first_row K s x) (xs ++ e ∷ []) e 0 (omega arith) p.0 (plan_ended x e xs p.1)

pub steps_keep_their_shape_lem : (K : Costs) → StepsKeepTheirShape K
steps_keep_their_shape_lem K s held e p = record { number = step_length K s held e; plan = step_plan K s held e p; filled = step_cells K s held e p }
