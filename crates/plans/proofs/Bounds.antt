-- The reads of a step are few, whatever the costs are.
use Rattle.std.proofs.Common.{◌≡◌, ℕ, suc, ◌+◌, ◌-◌, ◌*◌, ◌^◌, ◌<◌, ◌≤◌, List, [], ◌∷◌, ◌++◌, length, ap, mul-le-mul_right, mul_comm, mul-le-mul_left, mul-add, arith}
use Rattle.std.proofs.lemmas.List.{length_push}
use Rattle.costs.specs.Costs.{Costs}
use Rattle.sources.specs.Scales.{Scale}
use Rattle.plans.specs.Limits.{longest}
use Rattle.plans.specs.Plans.{Plan}
use Rattle.plans.specs.Steps.{Row, next, next_reads, log2, first_row, rows_behind, behind_reads, traced_reads}
use Rattle.plans.specs.Theorems.{StepsReadLittle}
use Rattle.plans.proofs.Bisections.{few_reads}
use Rattle.plans.proofs.Logs.{log2_low, powers_order}
use Rattle.plans.proofs.Plans.{plan_in, plan_ended}

module _ (K : Costs) (s : Scale K) (E L : ℕ) (short : E ≤ longest) (small : E + 1 < 2 ^ suc L) where
  -- a row has at most E + 1 places, so it is finding-reads on at most L + 1 levels
  next_few : (above : Row K) (c : ℕ) → above.from ≤ above.to → above.to ≤ c → c ≤ E → next_reads K s above c ≤ c - above.to + 1 + suc L * (above.to - above.from)
  next_few above c h i j =
      let q = c - above.to + 1 in
      let levels : log2 12 q ≤ L = powers_order (log2 12 q) L q (log2_low 12 q (omega arith)) (omega arith) in
      let m : suc (log2 12 q) * (above.to - above.from) ≤ suc L * (above.to - above.from) = mul-le-mul_right (above.to - above.from) (omega arith) in
      omega (arith, few_reads K s above c (omega arith) h)

  -- the widths of the rows add up
  behind_few : (above : Row K) (cs : List ℕ) → above.from ≤ above.to → Plan above.to cs E → behind_reads K s above cs + above.to + suc L * above.from ≤ E + length cs + suc L * E
  behind_few above [] h p = let m : suc L * above.from ≤ suc L * E = mul-le-mul_left (suc L) (omega arith) in omega arith
  behind_few above (c ∷ cs) h p =
      let w = above.to - above.from in
      let wide : suc L * (w + above.from) ≡ suc L * above.to = ap (λ z. suc L * z) (omega arith) in
      omega (arith, next_few above c h p.0 (plan_in c E cs p.1), behind_few (next K s above c) cs p.0 p.1, mul-add (suc L) w above.from, wide)

-- the trace reads each cell once
traced_few : (K : Costs) (s : Scale K) (E : ℕ) (above : Row K) (cs : List ℕ) → above.from ≤ above.to → Plan above.to cs E → traced_reads (above ∷ rows_behind K s above cs) + above.from ≤ E + suc (length cs)
traced_few K s E above [] h p = omega arith
traced_few K s E above (c ∷ cs) h p = omega (arith, traced_few K s E (next K s above c) cs p.0 p.1)

pub steps_read_little_lem : (K : Costs) → StepsReadLittle K
steps_read_little_lem K s [] e L p short low high = omega arith
steps_read_little_lem K s (x ∷ xs) e L p short low high =
    let r = first_row K s x in
    let ended = plan_ended x e xs p.1 in
    omega (arith, behind_few K s e L short high r (xs ++ e ∷ []) p.0 ended, traced_few K s e r (xs ++ e ∷ []) p.0 ended, length_push xs e, mul_comm (suc L) e)
