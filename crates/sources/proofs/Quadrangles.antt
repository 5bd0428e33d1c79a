-- Squares add up to Glebov's condition: along a row of squares first, and then row by row.
use Rattle.std.proofs.Common.{◌≡◌, ℕ, zero, suc, ◌+◌, ◌-◌, ◌<◌, ◌≤◌, not, T, None, sym, subst, add-zero, arith}
use Rattle.std.proofs.lemmas.Bool.{ltb-false, not-false}
use Rattle.costs.specs.Costs.{Costs, Laws}
use Rattle.costs.specs.Limits.{largest}
use Rattle.costs.proofs.Weights.{Le}
use Rattle.costs.proofs.Sums.{Small, turn, transfer_left}
use Rattle.sources.specs.Scales.{Scale, Sized, Glebov}
use Rattle.sources.specs.Squares.{holds, too_large, first_large, first_broken, Squares, SquaresDecide}
use Rattle.sources.proofs.Firsts.{clean_pairs}

module _ (K : Costs) (L : Laws K) where
  -- a + b ≤ d + c and d + p ≤ q + b give a + p ≤ q + c
  chain : {a b c d p q : K.Cost} → Le K (K.add a b) (K.add d c) → Le K (K.add d p) (K.add q b)
      → Small K a × Small K b × Small K c × Small K d × Small K p × Small K q → Le K (K.add a p) (K.add q c)
  chain {a} {b} {c} {d} {p} {q} l m w =
      rw (turn K L q c (omega arith)) (transfer_left K L (rw (turn K L b q (omega arith)) m) l (omega arith))

  module _ (s : Scale K) (sized : Sized K s largest) (squares : Squares K s) where
    small : (x y : ℕ) → x ≤ y → y ≤ s.last → Small K (s.cost x y)
    small x y h m = omega (arith, sized x y h m)

    -- the condition between x ≤ x' and the neighbours j and j + 1
    row : (n x j : ℕ) → x + n ≤ j → j < s.last → Le K (K.add (s.cost x j) (s.cost (x + n) (j + 1))) (K.add (s.cost (x + n) j) (s.cost x (j + 1)))
    row zero x j h m = rw (add-zero x) (L.le_refl (K.add (s.cost x j) (s.cost x (j + 1))))
    row (suc n) x j h m =
        let e : x + suc n ≡ x + n + 1 = omega arith in
        rw e (chain (row n x j (omega arith) m) (squares (x + n) j (omega arith) m)
        (omega (arith, small x j, small (x + n) (j + 1), small x (j + 1), small (x + n) j, small (x + n + 1) (j + 1), small (x + n + 1) j)))

    -- the condition between x ≤ x + n and y ≤ y + k
    rows : (k n x y : ℕ) → x + n ≤ y → y + k ≤ s.last → Le K (K.add (s.cost x y) (s.cost (x + n) (y + k))) (K.add (s.cost (x + n) y) (s.cost x (y + k)))
    rows zero n x y h m =
        rw (add-zero y, turn K L (s.cost x y) (s.cost (x + n) y) (omega (arith, small x y, small (x + n) y)))
        (L.le_refl (K.add (s.cost (x + n) y) (s.cost x y)))
    rows (suc k) n x y h m =
        let e : y + suc k ≡ y + k + 1 = omega arith in
        let near : Le K (K.add (s.cost x y) (s.cost (x + n) (y + k))) (K.add (s.cost x (y + k)) (s.cost (x + n) y)) =
        rw (turn K L (s.cost x (y + k)) (s.cost (x + n) y) (omega (arith, small x (y + k), small (x + n) y))) (rows k n x y h (omega arith)) in
        rw e (transfer_left K L (row n x (y + k) (omega arith) (omega arith)) near
        (omega (arith, small x y, small (x + n) (y + k), small x (y + k), small (x + n) y, small (x + n) (y + k + 1), small x (y + k + 1))))

    pub condition : Glebov K s
    condition x1 y1 y2 x2 h i j m =
        let a : y1 ≡ x1 + (y1 - x1) = omega arith in
        let b : x2 ≡ y2 + (x2 - y2) = omega arith in
        rw (a, b) (rows (x2 - y2) (y1 - x1) x1 y2 (omega arith) (omega arith))

  pub squares_decide_lem : SquaresDecide K
  squares_decide_lem s sized = (condition s sized, λ glebov i j h m. glebov i (i + 1) j (j + 1) (omega arith) (omega arith) (omega arith) (omega arith))

-- what it says that the code found nothing
module _ (K : Costs) (s : Scale K) where
  pub sized_at_none : first_large K s ≡ None → Sized K s largest
  sized_at_none e x y h m = ltb-false largest (K.size (s.cost x y)) (clean_pairs (too_large K s) (λ v. v + 1) (s.last + 1) e x y (omega arith) (omega arith))

  pub squares_at_none : first_broken K s ≡ None → Squares K s
  squares_at_none e i j h m = subst T (sym (not-false (holds K s i j) (clean_pairs (λ k l. not (holds K s k l)) (λ l. l) s.last e i j m h))) tt

  pub glebov_at_none : Laws K → first_broken K s ≡ None → Sized K s largest → Glebov K s
  glebov_at_none L e sized = (squares_decide_lem K L s sized).0 (squares_at_none e)
