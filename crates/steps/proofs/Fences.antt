-- Place 0, the cuts of a plan and its end, one after another.
use Rattle.std.proofs.Common.{◌≡◌, ℕ, zero, suc, ◌+◌, ◌≤◌, List, [], ◌∷◌, ◌++◌, length, get_or, ap, arith}
use Rattle.plans.specs.Plans.{Plan}
use Rattle.plans.specs.Theorems.{fenced}
use Rattle.plans.proofs.Plans.{plan_under}

-- they never fall
pub fences_rise : (x : ℕ) (xs : List ℕ) (e k : ℕ) → Plan x xs e → k ≤ length xs → get_or (x ∷ (xs ++ e ∷ [])) k 0 ≤ get_or (xs ++ e ∷ []) k 0
fences_rise x [] e zero p h = p
fences_rise x [] e (suc k) p h = absurd (omega arith)
fences_rise x (m ∷ xs) e zero p h = p.0
fences_rise x (m ∷ xs) e (suc k) p h = fences_rise m xs e k p.1 (omega arith)

-- the next place of a fenced plan
pub fence_next : (xs : List ℕ) (e i : ℕ) → get_or (fenced xs e) (i + 1) 0 ≡ get_or (xs ++ e ∷ []) i 0
fence_next xs e i = let s : i + 1 ≡ suc i = omega arith in ap (λ z. get_or (fenced xs e) z 0) s

-- each is no later than the next, and none passes the end
pub fence_order : (held : List ℕ) (end : ℕ) → Plan 0 held end → (i : ℕ) → i ≤ length held → (get_or (fenced held end) i 0 ≤ get_or (fenced held end) (i + 1) 0) × (get_or (fenced held end) (i + 1) 0 ≤ end)
fence_order held end plan i h = (omega (arith, fences_rise 0 held end i plan h, fence_next held end i), omega (arith, plan_under 0 end held i plan h, fence_next held end i))
