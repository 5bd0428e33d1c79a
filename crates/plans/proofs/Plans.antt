-- Facts on plans: where their cuts lie.
use Rattle.std.proofs.Common.{ℕ, zero, suc, ◌≤◌, List, [], ◌∷◌, ◌++◌, length, get_or, arith}
use Rattle.plans.specs.Plans.{Plan, NoLater}

-- a plan ends no earlier than it starts
pub plan_in : (x e : ℕ) (zs : List ℕ) → Plan x zs e → x ≤ e
plan_in x e [] p = p
plan_in x e (m ∷ zs) p = omega (arith, plan_in m e zs p.1)

-- its end is one cut more
pub plan_ended : (x e : ℕ) (xs : List ℕ) → Plan x xs e → Plan x (xs ++ e ∷ []) e
plan_ended x e [] p = (p, omega arith)
plan_ended x e (m ∷ xs) p = (p.0, plan_ended m e xs p.1)

-- no cut passes the end
pub plan_under : (x e : ℕ) (xs : List ℕ) (k : ℕ) → Plan x xs e → k ≤ length xs → get_or (xs ++ e ∷ []) k 0 ≤ e
plan_under x e [] zero p h = omega arith
plan_under x e [] (suc k) p h = absurd (omega arith)
plan_under x e (m ∷ xs) zero p h = plan_in m e xs p.1
plan_under x e (m ∷ xs) (suc k) p h = plan_under m e xs k p.1 (omega arith)

-- one more cut in front, no later
pub no_later_cons : {x y : ℕ} (xs ys : List ℕ) → x ≤ y → NoLater xs ys → NoLater (x ∷ xs) (y ∷ ys)
no_later_cons xs ys h rest zero i = h
no_later_cons xs ys h rest (suc k) i = rest k (omega arith)
