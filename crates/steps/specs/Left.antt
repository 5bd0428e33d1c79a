-- What the code of a step asks for and what it leaves, in the words of the definition of a step.
use Rattle.std.specs.Prelude.{◌≡◌, ℕ, ◌+◌, ◌-◌, ◌<◌, ◌≤◌, List, map, length, take, drop, slice_index}
use Rattle.costs.specs.declared.kind.Kind as kind
use Rattle.sources.specs.Scales.{Scale}
use Rattle.plans.specs.Limits.{longest, most_cuts}
use Rattle.plans.specs.Plans.{Plan}
use Rattle.plans.specs.Theorems.{fenced}
use Rattle.plans.specs.Steps as steps
use Rattle.plans.specs.Steps.{Row, rows, rows_reads, traced, traced_reads, reached, joined_cells, stepped, climb, touched}
use Rattle.sources.specs.declared.source.Source as source
use Rattle.sources.specs.Meant.{meant}
use Rattle.rows.specs.declared.above.Found.{Found}
use Rattle.rows.specs.Rows.{Least}
use Rattle.steps.specs.declared.filling.Step.{Step}
use Rattle.steps.specs.declared.stepping.Stepped.{Stepped}

-- the held cuts are a plan with room for one cut more, at an end within the scale, and the cells of its rows were lent
pub record Ready (held : List ℕ) (end last lent : ℕ) : Type 0 where
  pub plan : Plan 0 held end
  pub few : length held < most_cuts
  pub within : end ≤ last
  pub short : end ≤ longest
  pub room : end + length held + 1 ≤ lent

-- place 0, the held cuts and the end, counted from 0: row i of a step goes from place i of these to the next
abbrev pub fence : List ℕ → ℕ → ℕ → ℕ
fence held end i = slice_index (fenced held end) i

-- row i of a step, in the values that its rows fill
abbrev pub row_in : {V : Type 0} (k : kind.Ghosts V) → List ℕ → ℕ → ℕ → List V → Row k.costs
row_in k held end i vs =
    let a = fence held end i in
    let b = fence held end (i + 1) in
    record { from = a; to = b; cells = map k.means (take (b - a + 1) (drop (a + i) vs)) }

-- the values that begin with the rows of a step from the held cuts, and keep what was behind them
pub record Rows {V : Type 0} (k : kind.Ghosts V) (s : Scale k.costs) (held : List ℕ) (end : ℕ) (old new : List V) (count : ℕ) : Type 0 where
  pub cells : map k.means (take (end + length held + 1) new) ≡ joined_cells (rows k.costs s held end)
  pub reads : count ≡ rows_reads k.costs s held end
  pub behind : drop (end + length held + 1) new ≡ drop (end + length held + 1) old

-- the new cuts of a step from the held ones, with their total and the reads that find them
pub record Trace {V : Type 0} (k : kind.Ghosts V) (s : Scale k.costs) (held : List ℕ) (end : ℕ) (r : Stepped V) : Type 0 where
  pub cuts : r.cuts ≡ traced k.costs s (rows k.costs s held end) end
  pub total : k.means r.total ≡ reached k.costs s (rows k.costs s held end) end
  pub reads : r.reads ≡ traced_reads (rows k.costs s held end)

module _ {V S : Type 0} {m : source.Ghosts S V} {k : kind.Ghosts V} (step : Step S V m k) where
  -- the scale on which a step plans
  abbrev pub scale : Scale k.costs
  scale = meant k m step.source.now

  -- where row i starts, and row i - 1 ends
  abbrev pub start_of : ℕ → ℕ
  start_of i = fence step.held.now step.end i

  -- how many cells its rows fill
  abbrev pub cell_count : ℕ
  cell_count = step.end + length step.held.now + 1

  -- the earliest least place of row i of the values on the way to y
  abbrev pub LeastOfRow : List V → ℕ → ℕ → Found V → Type 0
  LeastOfRow vs i y f = Least k.costs scale (row_in k step.held.now step.end i vs) (start_of i) (start_of (i + 1)) y f.place (k.means f.cost) f.reads

  -- its rows fill the values, and its trace finds the new cuts
  abbrev pub RowsFilled : List V → List V → ℕ → Type 0
  RowsFilled old new count = Rows k scale step.held.now step.end old new count

  abbrev pub Traced : Stepped V → Type 0
  Traced r = Trace k scale step.held.now step.end r

-- what t defines, with n cuts; from the cell `filled` on the cells keep their values
pub record Left {V : Type 0} (k : kind.Ghosts V) (t : steps.Stepped k.costs) (n filled : ℕ) (old new : List V) (r : Stepped V) : Type 0 where
  pub cuts : r.cuts ≡ t.cuts
  pub number : length r.cuts ≡ n
  pub total : k.means r.total ≡ t.total
  pub reads : r.reads ≡ t.reads
  pub cells : map k.means new ≡ t.cells
  pub kept : drop filled new ≡ drop filled old

-- one step from the held cuts, its cells laid over those that were lent
abbrev pub StepLeft : {V : Type 0} (k : kind.Ghosts V) → Scale k.costs → List ℕ → ℕ → List V → List V → Stepped V → Type 0
StepLeft k s held end old new r = Left k (stepped k.costs s held end (map k.means old)) (length held + 1) (end + length held + 1) old new r

-- stepping up to n cuts; with no cuts no cell is filled
abbrev pub ClimbLeft : {V : Type 0} (k : kind.Ghosts V) → Scale k.costs → ℕ → ℕ → List V → List V → Stepped V → Type 0
ClimbLeft k s end n old new r = Left k (climb k.costs s end n (map k.means old)) n (touched end n) old new r
