-- There is at most one proof that cuts are a plan, so a struct may keep it.
use Rattle.std.specs.Prelude.{ℕ, List, [], ◌∷◌}
use Rattle.std.specs.Coded.{×_prop, le_prop}
use Rattle.plans.specs.Plans.{Plan}

pub plan_prop : (x : ℕ) (cuts : List ℕ) (e : ℕ) → IsProp (Plan x cuts e)
plan_prop x [] e = le_prop
plan_prop x (m ∷ ms) e = ×_prop le_prop (plan_prop m ms e)
