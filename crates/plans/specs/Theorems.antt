-- What holds of plans and steps, on every scale that is sound: whose costs keep to the largest size, and that meets Glebov's condition. The last two theorems hold on every scale.
use Rattle.std.specs.Prelude.{◌≡◌, ℕ, suc, ◌+◌, ◌*◌, ◌^◌, ◌<◌, ◌≤◌, T, List, [], ◌∷◌, ◌++◌, length, slice_index, slice_index_or}
use Rattle.costs.specs.Costs.{Costs}
use Rattle.costs.specs.Limits.{largest}
use Rattle.sources.specs.Scales.{Scale, Sound}
use Rattle.plans.specs.Limits.{longest, most_cuts}
use Rattle.plans.specs.Plans.{Plan, total, NoLater, EarliestBest, BestPlan, Interlaced}
use Rattle.plans.specs.Steps.{Stepped, step, climb}

-- the earliest best plan of a number of cuts and an end exists, and is the only one
abbrev pub BestPlanExists : Costs → Type 0
BestPlanExists K =
    (s : Scale K) → Sound K s largest → (n e : ℕ) → n ≤ most_cuts → e ≤ s.last
    → (cuts : List ℕ) × ((length cuts ≡ n) × EarliestBest K s e cuts × ((other : List ℕ) → length other ≡ n → EarliestBest K s e other → other ≡ cuts))

-- a step from an earliest best plan leaves the earliest best plan with one cut more, and its total
abbrev pub AStepLeadsOn : Costs → Type 0
AStepLeadsOn K =
    (s : Scale K) → Sound K s largest → (held : List ℕ) (e : ℕ) → length held < most_cuts → e ≤ s.last → e ≤ longest → EarliestBest K s e held
    → BestPlan K s (suc (length held)) e (step K s held e).cuts (step K s held e).total

-- the held cuts, with 0 before them and the end behind them: row i of a step goes from one of these places to the next
abbrev pub fenced : List ℕ → ℕ → List ℕ
fenced held e = 0 ∷ (held ++ e ∷ [])

-- the cells of such a step are least totals: the cell of the place y in row i, which is cell y + i, is the total of the earliest best plan with i cuts at the end y
abbrev pub CellsAreLeast : Costs → Type 0
CellsAreLeast K =
    (s : Scale K) → Sound K s largest → (held : List ℕ) (e : ℕ) → length held < most_cuts → e ≤ s.last → e ≤ longest → EarliestBest K s e held
    → (i y : ℕ) (cuts : List ℕ) → i ≤ length held → slice_index (fenced held e) i ≤ y → y ≤ slice_index (fenced held e) (suc i) → length cuts ≡ i → EarliestBest K s y cuts
    → slice_index_or (step K s held e).cells (y + i) K.nil ≡ total K s 0 cuts y

-- stepping up from no cuts leaves the earliest best plan with that many, and its total, whatever cells were lent
abbrev pub ClimbingLeadsThere : Costs → Type 0
ClimbingLeadsThere K =
    (s : Scale K) → Sound K s largest → (n e : ℕ) (cells : List K.Cost) → n ≤ most_cuts → e ≤ s.last → e ≤ longest
    → BestPlan K s n e (climb K s e n cells).cuts (climb K s e n cells).total

-- at one end, the earliest best plan interlaces with that of one cut more
abbrev pub PlansInterlace : Costs → Type 0
PlansInterlace K =
    (s : Scale K) → Sound K s largest → (few more : List ℕ) (e : ℕ) → suc (length few) ≡ length more → length more ≤ most_cuts → e ≤ s.last
    → EarliestBest K s e few → EarliestBest K s e more → Interlaced few more

-- at one end, a further cut saves no more than the cut before it
abbrev pub TotalsAreConvex : Costs → Type 0
TotalsAreConvex K =
    (s : Scale K) → Sound K s largest → (xs ys zs : List ℕ) (e : ℕ) → suc (length xs) ≡ length ys → suc (length ys) ≡ length zs → length zs ≤ most_cuts → e ≤ s.last
    → EarliestBest K s e xs → EarliestBest K s e ys → EarliestBest K s e zs
    → T (K.le (K.add (total K s 0 ys e) (total K s 0 ys e)) (K.add (total K s 0 xs e) (total K s 0 zs e)))

-- with as many cuts, a further end moves no cut earlier
abbrev pub FurtherEnds : Costs → Type 0
FurtherEnds K =
    (s : Scale K) → Sound K s largest → (near far : List ℕ) (e e' : ℕ) → length near ≡ length far → length far ≤ most_cuts → e ≤ e' → e' ≤ s.last
    → EarliestBest K s e near → EarliestBest K s e' far → NoLater near far

-- what a step from a plan leaves: a plan with one cut more, and a cell for each place up to the end and each new cut
pub record Shaped (K : Costs) (held : List ℕ) (e : ℕ) (t : Stepped K) : Type 0 where
  pub number : length t.cuts ≡ suc (length held)
  pub plan : Plan 0 t.cuts e
  pub filled : length t.cells ≡ e + suc (length held)

-- it does so whatever the costs are
abbrev pub StepsKeepTheirShape : Costs → Type 0
StepsKeepTheirShape K = (s : Scale K) (held : List ℕ) (e : ℕ) → Plan 0 held e → Shaped K held e (step K s held e)

-- a step from any plan to n cuts at the end e reads at most 2 * (e + n) + e * (1 + L) costs, L the largest number with 2 ^ L at most e + 1
abbrev pub StepsReadLittle : Costs → Type 0
StepsReadLittle K =
    (s : Scale K) (held : List ℕ) (e L : ℕ) → Plan 0 held e → e ≤ longest → 2 ^ L ≤ e + 1 → e + 1 < 2 ^ suc L
    → (step K s held e).reads ≤ 2 * (e + suc (length held)) + e * (1 + L)
