-- A kind of cost: what may be added, compared and measured, and the laws that hold while the sizes stay small.
use Rattle.std.specs.Prelude.{◌≡◌, ℕ, ◌+◌, ◌≤◌, Bool, T, ◌⊎◌}
use Rattle.costs.specs.Limits.{room}

pub record Costs : Type 1 where
  pub Cost : Type 0
  pub nil : Cost
  pub add : Cost → Cost → Cost
  -- is the first at most the second
  pub le : Cost → Cost → Bool
  pub size : Cost → ℕ

-- "At most" is a total order. The other laws hold for costs whose sizes add up to at most `room`.
pub record Laws (K : Costs) : Type 0 where
  pub le_refl : (a : K.Cost) → T (K.le a a)
  pub le_trans : (a b c : K.Cost) → T (K.le a b) → T (K.le b c) → T (K.le a c)
  pub le_total : (a b : K.Cost) → T (K.le a b) ⊎ T (K.le b a)
  pub le_anti : (a b : K.Cost) → T (K.le a b) → T (K.le b a) → a ≡ b
  pub size_nil : K.size K.nil ≡ 0
  pub size_add : (a b : K.Cost) → K.size a + K.size b ≤ room → K.size (K.add a b) ≤ K.size a + K.size b
  pub add_comm : (a b : K.Cost) → K.size a + K.size b ≤ room → K.add a b ≡ K.add b a
  pub add_assoc : (a b c : K.Cost) → K.size a + K.size b + K.size c ≤ room → K.add (K.add a b) c ≡ K.add a (K.add b c)
  pub add_nil : (a : K.Cost) → K.size a ≤ room → K.add a K.nil ≡ a
  pub add_le : (a b c : K.Cost) → K.size a + K.size b + K.size c ≤ room → K.le (K.add a c) (K.add b c) ≡ K.le a b
