-- What each call does to a job and to the cells that it is lent, and what it answers, for every input.
use Rattle.std.specs.Prelude.{ℕ, ◌+◌, ◌-◌, min, cond, List, [], length, Some, None, Option, nat_le, nat_lt}
use Rattle.costs.specs.Costs.{Costs}
use Rattle.costs.specs.Limits.{largest}
use Rattle.sources.specs.Scales.{Scale}
use Rattle.sources.specs.Squares.{first_large, first_broken}
use Rattle.plans.specs.Limits.{longest, most_cuts}
use Rattle.plans.specs.Plans.{nth_cut}
use Rattle.plans.specs.Steps.{Stepped, stepped, climb, touched}
use Rattle.calls.specs.declared.call.Call.{Call}
use Rattle.calls.specs.declared.call.Call.TheVariants.{OpenChecked, OpenVouched, Add, Drop, Reach, Look}
use Rattle.calls.specs.declared.refusal.Refusal.{Refusal}
use Rattle.calls.specs.declared.refusal.Refusal.TheVariants.{TooLong, TooLarge, Broken, BoundTooLarge, AlreadyOpen, NotOpen, Full, NoCut, Beyond, TooFewCells}

-- ---- states and answers

-- an open job: the end of its plan, the cuts and their total
pub record Opened (K : Costs) : Type 0 where
  pub end : ℕ
  pub cuts : List ℕ
  pub total : K.Cost

pub data State (K : Costs) : Type 0 where
  shut : State K
  opened : Opened K → State K

-- what a look shows of an open job
pub record Shown (K : Costs) : Type 0 where
  pub end : ℕ
  pub count : ℕ
  pub total : K.Cost
  pub cut : Option ℕ

pub data Answer (K : Costs) : Type 0 where
  refused : Refusal → Answer K
  -- an opening gives no count
  accepted : Answer K
  -- the number of costs that were read
  counted : ℕ → Answer K
  -- a look at a shut job
  nothing : Answer K
  shown : Shown K → Answer K

pub record Outcome (K : Costs) : Type 0 where
  pub state : State K
  pub cells : List K.Cost
  pub answer : Answer K

-- ---- looks

abbrev pub looked : {K : Costs} → Opened K → ℕ → Shown K
looked o k = record { end = o.end; count = length o.cuts; total = o.total; cut = nth_cut o.cuts k }

-- ---- the calls, over the scale s of a source that vouches for this bound

module _ (K : Costs) (s : Scale K) where
  -- a refusal leaves job and cells as they are
  abbrev pub refuse : State K → List K.Cost → Refusal → Outcome K
  refuse st cells why = record { state = st; cells = cells; answer = refused why }

  -- an opening sets the last place, no cuts and the cost of the single class
  abbrev open_now : List K.Cost → Outcome K
  open_now cells = record { state = opened (record { end = s.last; cuts = []; total = s.cost 0 s.last }); cells = cells; answer = accepted }

  abbrev if_no_square : Option (ℕ × ℕ) → List K.Cost → Outcome K
  if_no_square None cells = open_now cells
  if_no_square (Some at) cells = refuse shut cells (Broken at)

  abbrev if_none_large : Option (ℕ × ℕ) → List K.Cost → Outcome K
  if_none_large None cells = if_no_square (first_broken K s) cells
  if_none_large (Some at) cells = refuse shut cells (TooLarge at)

  -- What t defines, with n cuts at the end e. The end may not lie beyond that of the source, nor beyond `longest`, and there must be e + n cells.
  -- In a life the end of an open job never lies beyond, so that only a reach can be refused for that.
  abbrev pub planned : Opened K → ℕ → ℕ → List K.Cost → Stepped K → Outcome K
  planned o e n cells t =
      cond (nat_le e (min s.last longest))
      (cond (nat_le (e + n) (length cells))
      (record { state = opened (record { end = e; cuts = t.cuts; total = t.total }); cells = t.cells; answer = counted t.reads })
      (refuse (opened o) cells TooFewCells))
      (refuse (opened o) cells Beyond)

  abbrev pub does : ℕ → State K → Call → List K.Cost → Outcome K
  does bound shut OpenChecked cells = cond (nat_le s.last longest) (if_none_large (first_large K s) cells) (refuse shut cells TooLong)
  does bound shut OpenVouched cells =
      cond (nat_le s.last longest) (cond (nat_le bound largest) (open_now cells) (refuse shut cells BoundTooLarge)) (refuse shut cells TooLong)
  does bound shut Add cells = refuse shut cells NotOpen
  does bound shut Drop cells = refuse shut cells NotOpen
  does bound shut (Reach e) cells = refuse shut cells NotOpen
  does bound shut (Look k) cells = record { state = shut; cells = cells; answer = nothing }
  does bound (opened o) OpenChecked cells = refuse (opened o) cells AlreadyOpen
  does bound (opened o) OpenVouched cells = refuse (opened o) cells AlreadyOpen
  does bound (opened o) Add cells =
      let n = length o.cuts in
      cond (nat_lt n most_cuts) (planned o o.end (n + 1) cells (stepped K s o.cuts o.end cells)) (refuse (opened o) cells Full)
  does bound (opened o) Drop cells =
      let n = length o.cuts in
      cond (nat_lt 0 n) (planned o o.end (n - 1) cells (climb K s o.end (n - 1) cells)) (refuse (opened o) cells NoCut)
  does bound (opened o) (Reach e) cells = let n = length o.cuts in planned o e n cells (climb K s e n cells)
  does bound (opened o) (Look k) cells = record { state = opened o; cells = cells; answer = shown (looked o k) }

-- ---- which cells a call fills

abbrev pub filled : {K : Costs} → State K → Answer K → ℕ
filled (opened o) (counted reads) = touched o.end (length o.cuts)
filled (opened o) _ = 0
filled shut _ = 0
