-- The earliest least place of a function on a range.
use Rattle.std.proofs.Common.{◌≡◌, ℕ, zero, suc, ◌+◌, ◌-◌, ◌<◌, ◌≤◌, Bool, true, false, cond, sym, refl, ◌∙◌, subst, inl, inr, add-one, arith}
use Rattle.std.proofs.lemmas.Bool.{cases_lt, cases_order, cond-true, cond-false, cond_both}
use Rattle.costs.specs.Costs.{Costs, Laws}
use Rattle.costs.proofs.Weights.{Le}
use Rattle.plans.specs.Steps.{earliest}

-- ---- what `earliest` does, with any test in place of an order

-- it lies in the range
pub earliest_within : {C : Type 0} (le : C → C → Bool) (g : ℕ → C) (lo k : ℕ) → (lo ≤ earliest le g lo k) × (earliest le g lo k ≤ lo + k)
earliest_within le g lo zero = omega arith
earliest_within le g lo (suc k) =
    let w = earliest_within le g lo k in
    cond_both (le (g (earliest le g lo k)) (g (lo + suc k))) (earliest le g lo k) (lo + suc k) (λ r. (lo ≤ r) × (r ≤ lo + suc k)) (λ _. omega (arith, w)) (λ _. omega arith)

-- one turn of a search that holds its place so far and the cost there, with the cost v at the place p behind
module _ {C : Type 0} (le : C → C → Bool) (g : ℕ → C) (lo k at p : ℕ) (m v : C) (t : Bool) (held : (at ≡ earliest le g lo k) × (m ≡ g at)) (next : p ≡ lo + k + 1) (here : v ≡ g p) (test : t ≡ le m v) where
  after : p ≡ lo + suc k
  after = omega arith

  tested : le (g (earliest le g lo k)) (g (lo + suc k)) ≡ t
  tested = let e = held.0 in let f = held.1 in let a = after in cc

  pub stays : t ≡ true → (at ≡ earliest le g lo (k + 1)) × (m ≡ g at)
  stays e = rw add-one (held.0 ∙ sym (cond-true _ (earliest le g lo k) (lo + suc k) (tested ∙ e)), held.1)

  pub moves : t ≡ false → (p ≡ earliest le g lo (k + 1)) × (v ≡ g p)
  moves e = rw add-one (after ∙ sym (cond-false _ (earliest le g lo k) (lo + suc k) (tested ∙ e)), here)

-- ---- what it is, with the order of a kind

-- b is the earliest of the places lo to hi at which g is least
pub record Earliest (K : Costs) (g : ℕ → K.Cost) (lo hi b : ℕ) : Type 0 where
  pub from : lo ≤ b
  pub to : b ≤ hi
  pub least : (p : ℕ) → lo ≤ p → p ≤ hi → Le K (g b) (g p)
  pub first : (p : ℕ) → lo ≤ p → p < b → Le K (g p) (g b) → ⊥

-- only one place is so
earliest_one : {K : Costs} {g : ℕ → K.Cost} {lo hi b c : ℕ} → Earliest K g lo hi b → Earliest K g lo hi c → b ≡ c
earliest_one {b = b} {c = c} e f =
    elim (cases_order b c) [
      | inl m ↦ m
      | inr (inl m) ↦ absurd (f.first b e.from m (e.least c f.from f.to))
      | inr (inr m) ↦ absurd (e.first c f.from m (f.least b e.from e.to))
    ]

-- a narrower range that holds the place has it too
pub narrowed : {K : Costs} {g : ℕ → K.Cost} {lo hi b : ℕ} (lo' hi' : ℕ) → Earliest K g lo hi b → lo ≤ lo' → lo' ≤ b → b ≤ hi' → hi' ≤ hi → Earliest K g lo' hi' b
narrowed lo' hi' e h i j k = record { from = i; to = j; least = λ p l m. e.least p (omega arith) (omega arith); first = λ p l m. e.first p (omega arith) m }

-- and so has a function that agrees on the range
pub agreeing : {K : Costs} {g : ℕ → K.Cost} {lo hi b : ℕ} (h : ℕ → K.Cost) → Earliest K g lo hi b → ((p : ℕ) → lo ≤ p → p ≤ hi → g p ≡ h p) → Earliest K h lo hi b
agreeing {b = b} h e same =
    let here = same b e.from e.to in
    record {
      from = e.from;
      to = e.to;
      least = λ p i j. rw (← here, ← same p i j) (e.least p i j);
      first = λ p i j l. e.first p i j (rw (here, same p i (omega (arith, e.to))) l);
    }

module _ (K : Costs) (L : Laws K) where
  -- what a test between two costs tells
  data Told (a b : K.Cost) : Bool → Type 0 where
    under : Le K a b → Told a b true
    over : (Le K a b → ⊥) → Le K b a → Told a b false

  told : (a b : K.Cost) → Told a b (K.le a b)
  told a b = at (K.le a b) refl
    where
      at : (v : Bool) → K.le a b ≡ v → Told a b v
      at true e = under (rw e tt)
      at false e = over (λ l. rw e at l) (elim (L.le_total a b) [ inl l ↦ absurd (rw e at l) | inr l ↦ l ])

  -- `earliest` computes that place
  pub earliest_is : (g : ℕ → K.Cost) (lo k hi : ℕ) → lo + k ≡ hi → Earliest K g lo hi (earliest K.le g lo k)
  earliest_is g lo zero hi q =
      record { from = omega arith; to = omega arith; least = λ p h i. let r : p ≡ lo = omega arith in rw r (L.le_refl (g lo)); first = λ p h i. omega arith }
  earliest_is g lo (suc k) hi q = at (earliest_is g lo k (lo + k) refl) (K.le (g b) (g c)) (told (g b) (g c))
    where
      b : ℕ
      b = earliest K.le g lo k

      c : ℕ
      c = lo + suc k

      each : (P : ℕ → Type 0) → ((p : ℕ) → lo ≤ p → p ≤ lo + k → P p) → P c → (p : ℕ) → lo ≤ p → p ≤ hi → P p
      each P below here p i j = elim (cases_lt p c) [ inl m ↦ below p i (omega arith) | inr m ↦ subst P (omega arith) here ]

      at : Earliest K g lo (lo + k) b → (v : Bool) → Told (g b) (g c) v → Earliest K g lo hi (cond v b c)
      at h true (under l) = record { from = h.from; to = omega arith; least = each (λ p. Le K (g b) (g p)) h.least l; first = h.first }
      at h false (over n l) =
          record {
            from = omega arith;
            to = omega arith;
            least = each (λ p. Le K (g c) (g p)) (λ p i j. L.le_trans _ _ _ l (h.least p i j)) (L.le_refl (g c));
            first = λ p i j m. n (L.le_trans _ _ _ (h.least p i (omega arith)) m);
          }

  -- so a place that is so is the one computed
  pub earliest_finds : {g : ℕ → K.Cost} {lo hi b : ℕ} → Earliest K g lo hi b → earliest K.le g lo (hi - lo) ≡ b
  earliest_finds {g} {lo} {hi} e = earliest_one (earliest_is g lo (hi - lo) hi (omega (arith, e.from, e.to))) e
