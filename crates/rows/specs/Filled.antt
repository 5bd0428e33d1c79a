-- What the code that fills a row holds, in the words of the definition of a step. The q places of the row are numbered from 1.
use Rattle.std.specs.Prelude.{◌≡◌, ℕ, ◌+◌, ◌-◌, ◌*◌, ◌/◌, ◌<◌, ◌≤◌, cond, List, length, map, take, drop, ◌==◌, slice_index_or}
use Rattle.costs.specs.Costs.{Costs}
use Rattle.costs.specs.declared.kind.Kind as kind
use Rattle.sources.specs.declared.source.Source as source
use Rattle.sources.specs.Scales.{Scale}
use Rattle.plans.specs.Steps.{Rising, Row, via, refined, between_reads, next, next_reads}
use Rattle.rows.specs.declared.above.Above.{Above}
use Rattle.rows.specs.Rows.{row_of, scale_of}

-- a place and a cell for each place of a row behind `above`, all of them on the scale
pub record Room {V S : Type 0} {m : source.Ghosts S V} {k : kind.Ghosts V} (above : Above S V m k) (places : List ℕ) (cells : List V) : Type 0 where
  pub same : length places ≡ length cells
  pub some : 0 < length cells
  pub within : above.to + length cells ≤ m.last above.source.now + 1
  pub short : above.to + length cells ≤ 4097

-- the place kept for the number m, in a row above from place a to place b
abbrev pub kept_for : ℕ → ℕ → List ℕ → ℕ → ℕ
kept_for a b places m = cond (m == 0) a (slice_index_or places (m - 1) b)

-- those of the multiples of d
abbrev pub table : {K : Costs} → Row K → List ℕ → ℕ → ℕ → ℕ
table above places d k = kept_for above.from above.to places (k * d)

-- the multiples of d have their places and, in the cells, their costs
pub record Worked (K : Costs) (s : Scale K) (above : Row K) (q d : ℕ) (p : ℕ → ℕ) (cells : List K.Cost) : Type 0 where
  pub rising : Rising above.from above.to p
  pub costs : (k : ℕ) → 0 < k → k * d ≤ q → slice_index_or cells (k * d - 1) K.nil ≡ via K s above (above.to + k * d - 1) (p k)

-- what working the odd multiples of d leaves, where those of 2 * d were worked
pub record Level (K : Costs) (s : Scale K) (above : Row K) (q d : ℕ) (old new : List ℕ) (cells : List K.Cost) (count : ℕ) : Type 0 where
  pub worked : Worked K s above q d (table above new d) cells
  pub found : table above new d ≡ refined K s above q d (table above old (2 * d))
  pub reads : count ≡ between_reads K s above q (table above old (2 * d)) ((q / d + 1) / 2)
  pub few : count ≤ 8193

-- the same of the row above, its places and its cells
module _ {V S : Type 0} {m : source.Ghosts S V} {k : kind.Ghosts V} (above : Above S V m k) where
  abbrev pub MultiplesWorked : ℕ → List ℕ → List V → Type 0
  MultiplesWorked d places cells = Worked k.costs (scale_of above) (row_of above) (length cells) d (table (row_of above) places d) (map k.means cells)

  abbrev pub LevelWorked : ℕ → ℕ → List ℕ → List ℕ → List V → ℕ → Type 0
  LevelWorked q d old new cells count = Level k.costs (scale_of above) (row_of above) q d old new (map k.means cells) count

-- the costs of the row up to the place c behind `above`, and the reads that fill it
pub record Costed {K : Costs} (s : Scale K) (above : Row K) (c : ℕ) (cells : List K.Cost) (count : ℕ) : Type 0 where
  pub row : cells ≡ (next K s above c).cells
  pub reads : count ≡ next_reads K s above c

-- the values that begin with that row, and keep what was behind it
pub record Filled {V : Type 0} (k : kind.Ghosts V) (s : Scale k.costs) (above : Row k.costs) (c : ℕ) (old new : List V) (count : ℕ) : Type 0 where
  pub row : map k.means (take (c - above.to + 1) new) ≡ (next k.costs s above c).cells
  pub reads : count ≡ next_reads k.costs s above c
  pub behind : drop (c - above.to + 1) new ≡ drop (c - above.to + 1) old
