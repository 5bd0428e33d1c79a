-- Lives of a job, and what holds at every moment of one, in the words of plans.
use Rattle.std.specs.Prelude.{◌≡◌, ℕ, suc, ◌+◌, ◌*◌, ◌^◌, ◌<◌, ◌≤◌, T, List, length}
use Rattle.costs.specs.Costs.{Costs}
use Rattle.costs.specs.Limits.{largest}
use Rattle.sources.specs.Scales.{Scale, Sound}
use Rattle.plans.specs.Limits.{longest, most_cuts}
use Rattle.plans.specs.Plans.{total, EarliestBest, NoLater, Interlaced}
use Rattle.calls.specs.declared.call.Call.{Call}
use Rattle.calls.specs.declared.call.Call.TheVariants.{Add}
use Rattle.calls.specs.Calls.{State, shut, opened, Opened, counted, does}

-- The states that a job comes to over the scale s of a source that vouches for this bound: it is made shut, and lives on by any calls, each lent any cells.
-- A source that does not vouch counts as one whose bound is above the largest cost: its vouched openings are all refused.
pub data Life (K : Costs) (s : Scale K) (bound : ℕ) : State K → Type 0 where
  made : Life K s bound shut
  then : {st : State K} → Life K s bound st → (call : Call) (cells : List K.Cost) → Life K s bound (does K s bound st call cells).state

module _ (K : Costs) (s : Scale K) (bound : ℕ) where
  -- a moment of a life: the job is open
  abbrev pub Moment : Opened K → Type 0
  Moment o = Life K s bound (opened o)

  -- at every moment the end lies on the scale, so that no add or drop of a life is refused for its end
  abbrev pub EndsWithin : Type 0
  EndsWithin = (o : Opened K) → Moment o → (o.end ≤ s.last) × (o.end ≤ longest) × (length o.cuts ≤ most_cuts)

  -- every moment holds the earliest best plan of its end and number of cuts, with its total
  abbrev pub MomentsAreBest : Type 0
  MomentsAreBest = (o : Opened K) → Moment o → EarliestBest K s o.end o.cuts × (o.total ≡ total K s 0 o.cuts o.end)

  -- how any two moments compare
  pub record Compared (o p : Opened K) : Type 0 where
    -- where end and number of cuts are equal, plans and totals are
    pub same : o.end ≡ p.end → length o.cuts ≡ length p.cuts → (o.cuts ≡ p.cuts) × (o.total ≡ p.total)
    -- at one end, each cut lies between the same cut and the next of the plan with one more
    pub interlaced : o.end ≡ p.end → suc (length o.cuts) ≡ length p.cuts → Interlaced o.cuts p.cuts
    -- a further end with as many cuts moves none earlier
    pub further : o.end ≤ p.end → length o.cuts ≡ length p.cuts → NoLater o.cuts p.cuts

  abbrev pub MomentsCompare : Type 0
  MomentsCompare = (o p : Opened K) → Moment o → Moment p → Compared o p

  -- at one end, the totals for n and n + 2 cuts together are at least twice that for n + 1
  abbrev pub TotalsConvex : Type 0
  TotalsConvex =
      (o p q : Opened K) → Moment o → Moment p → Moment q
      → o.end ≡ p.end → p.end ≡ q.end → suc (length o.cuts) ≡ length p.cuts → suc (length p.cuts) ≡ length q.cuts
      → T (K.le (K.add p.total p.total) (K.add o.total q.total))

  -- an add that reaches n cuts at the end e returns at most 2 * (e + n) + e * (1 + L) reads, L the largest whole number with 2 ^ L at most e + 1
  abbrev pub AddsReadLittle : Type 0
  AddsReadLittle =
      (o p : Opened K) (cells : List K.Cost) (reads L : ℕ) → Moment o
      → (does K s bound (opened o) Add cells).answer ≡ counted reads → (does K s bound (opened o) Add cells).state ≡ opened p
      → 2 ^ L ≤ p.end + 1 → p.end + 1 < 2 ^ (L + 1)
      → reads ≤ 2 * (p.end + length p.cuts) + p.end * (1 + L)

-- what holds in every life
pub record Law (K : Costs) (s : Scale K) (bound : ℕ) : Type 0 where
  pub within : EndsWithin K s bound
  pub best : MomentsAreBest K s bound
  pub compare : MomentsCompare K s bound
  pub convex : TotalsConvex K s bound
  pub reads : AddsReadLittle K s bound

-- it follows from the laws of the kind and from what the source vouches for
abbrev pub LawOfLives : Costs → Type 0
LawOfLives K = (s : Scale K) (bound : ℕ) → (bound ≤ largest → Sound K s bound) → Law K s bound
