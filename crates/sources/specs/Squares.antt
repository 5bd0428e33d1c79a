-- Glebov's condition, square by square, and the first cost or square of a scale that fails a test.
use Rattle.std.specs.Prelude.{◌≡◌, ℕ, zero, suc, ◌+◌, ◌<◌, ◌≤◌, Bool, true, false, cond, not, T, Some, None, Option, nat_lt}
use Rattle.costs.specs.Costs.{Costs}
use Rattle.costs.specs.Limits.{largest}
use Rattle.sources.specs.Scales.{Scale, Sized, Glebov}

-- the square (i, j): the condition between neighbouring places
abbrev pub holds : (K : Costs) → Scale K → ℕ → ℕ → Bool
holds K s i j = K.le (K.add (s.cost i j) (s.cost (i + 1) (j + 1))) (K.add (s.cost (i + 1) j) (s.cost i (j + 1)))

-- every square (i, j) with i < j < last holds
abbrev pub Squares : (K : Costs) → Scale K → Type 0
Squares K s = (i j : ℕ) → i < j → j < s.last → T (holds K s i j)

-- for costs of size up to the largest, the squares decide the condition
abbrev pub SquaresDecide : Costs → Type 0
SquaresDecide K = (s : Scale K) → Sized K s largest → (Squares K s → Glebov K s) × (Glebov K s → Squares K s)

-- the first of k numbers, from x on, that is bad
abbrev pub first_in : (ℕ → Bool) → ℕ → ℕ → Option ℕ
first_in bad zero x = None
first_in bad (suc k) x = cond (bad x) (Some x) (first_in bad k (suc x))

-- the pair of a first x and y, or else what follows
abbrev pub or_later : Option ℕ → ℕ → Option (ℕ × ℕ) → Option (ℕ × ℕ)
or_later (Some x) y later = Some (x, y)
or_later None y later = later

-- the first bad pair (x, y): the smallest y, of k from y on, and then the smallest x below the width of y
abbrev pub first_pair : (ℕ → ℕ → Bool) → (ℕ → ℕ) → ℕ → ℕ → Option (ℕ × ℕ)
first_pair bad width zero y = None
first_pair bad width (suc k) y = or_later (first_in (λ x. bad x y) (width y) 0) y (first_pair bad width k (suc y))

-- what a search of the numbers from 0 to last answers: the first bad one, or none where none is bad; `Test x b` says that the test of x may answer b, true where x is bad
abbrev pub FindsFirst : (ℕ → Bool → Type 0) → ℕ → Option ℕ → Type 0
FindsFirst Test last None = (x : ℕ) → x ≤ last → Test x false
FindsFirst Test last (Some x) = (x ≤ last) × Test x true × ((v : ℕ) → v < x → Test v false)

-- the same of the pairs (x, y) with x ≤ y ≤ last: the smallest y, and then the smallest x
pub record FindsFirstPair (Test : ℕ → ℕ → Bool → Type 0) (last : ℕ) (o : Option (ℕ × ℕ)) : Type 0 where
  pub none : o ≡ None → (y : ℕ) → y ≤ last → FindsFirst (λ x. Test x y) y None
  pub some : (x y : ℕ) → o ≡ Some (x, y) → (y ≤ last) × FindsFirst (λ v. Test v y) y (Some x) × ((w : ℕ) → w < y → FindsFirst (λ v. Test v w) w None)

-- is the cost from x to y above the largest
abbrev pub too_large : (K : Costs) → Scale K → ℕ → ℕ → Bool
too_large K s x y = nat_lt largest (K.size (s.cost x y))

-- the first class from x to y, 0 ≤ x ≤ y ≤ last, whose cost is too large: the smallest y, then the smallest x
abbrev pub first_large : (K : Costs) → Scale K → Option (ℕ × ℕ)
first_large K s = first_pair (too_large K s) (λ y. y + 1) (s.last + 1) 0

-- the first square (i, j), 0 ≤ i < j < last, that fails: the smallest j, then the smallest i
abbrev pub first_broken : (K : Costs) → Scale K → Option (ℕ × ℕ)
first_broken K s = first_pair (λ i j. not (holds K s i j)) (λ j. j) s.last 0

-- (x, y) is the first bad pair of those with y below k and x below the width of y: the smallest y, and then the smallest x
pub record FirstBadPair (bad : ℕ → ℕ → Bool) (width : ℕ → ℕ) (k x y : ℕ) : Type 0 where
  pub row : y < k
  pub place : x < width y
  pub there : bad x y ≡ true
  pub rows_before : (v w : ℕ) → w < y → v < width w → bad v w ≡ false
  pub places_before : (v : ℕ) → v < x → bad v y ≡ false

-- the first class whose cost is too large, and the first square that fails, in these words
abbrev pub FirstLarge : (K : Costs) → Scale K → ℕ → ℕ → Type 0
FirstLarge K s x y = FirstBadPair (too_large K s) (λ v. v + 1) (s.last + 1) x y

abbrev pub FirstBroken : (K : Costs) → Scale K → ℕ → ℕ → Type 0
FirstBroken K s i j = FirstBadPair (λ v w. not (holds K s v w)) (λ w. w) s.last i j

abbrev pub FirstsAreFirst : Costs → Type 0
FirstsAreFirst K = (s : Scale K) (x y : ℕ) → (first_large K s ≡ Some (x, y) → FirstLarge K s x y) × (first_broken K s ≡ Some (x, y) → FirstBroken K s x y)
