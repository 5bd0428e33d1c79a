-- Sums of costs by weight: a cost has weight k where its size is at most k times the largest.
use Rattle.std.proofs.Common.{◌≡◌, ℕ, ◌+◌, ◌*◌, ◌≤◌, T, arith}
use Rattle.costs.specs.Costs.{Costs, Laws}
use Rattle.costs.specs.Limits.{largest}

module _ (K : Costs) where
  abbrev pub W : ℕ → K.Cost → Type 0
  W k a = K.size a ≤ k * largest

  abbrev pub Le : K.Cost → K.Cost → Type 0
  Le a b = T (K.le a b)

module _ (K : Costs) (L : Laws K) where
  pub sum_weight : (a b : K.Cost) (i j : ℕ) → W K i a → W K j b → i + j ≤ 2000 → W K (i + j) (K.add a b)
  sum_weight a b i j wa wb h = let z = L.size_add a b (omega arith) in omega (arith, z)

  pub comm : (a b : K.Cost) (i j : ℕ) → W K i a → W K j b → i + j ≤ 2000 → K.add a b ≡ K.add b a
  comm a b i j wa wb h = L.add_comm a b (omega arith)

  pub assoc : (a b c : K.Cost) (i j k : ℕ) → W K i a → W K j b → W K k c → i + j + k ≤ 2000 → K.add (K.add a b) c ≡ K.add a (K.add b c)
  assoc a b c i j k wa wb wc h = L.add_assoc a b c (omega arith)

  pub add_right : (a b c : K.Cost) (i j k : ℕ) → W K i a → W K j b → W K k c → i + j + k ≤ 2000 → Le K a b → Le K (K.add a c) (K.add b c)
  add_right a b c i j k wa wb wc h l = rw (L.add_le a b c (omega arith)) l

  pub cancel_right : (a b c : K.Cost) (i j k : ℕ) → W K i a → W K j b → W K k c → i + j + k ≤ 2000 → Le K (K.add a c) (K.add b c) → Le K a b
  cancel_right a b c i j k wa wb wc h l = rw (L.add_le a b c (omega arith)) at l
