-- A list of calls, one after another on one job, each lent the same list of cells.
use Rattle.std.specs.Prelude.{ℕ, max, List, [], ◌∷◌}
use Rattle.costs.specs.Costs.{Costs}
use Rattle.sources.specs.Scales.{Scale}
use Rattle.calls.specs.declared.call.Call.{Call}
use Rattle.calls.specs.Calls.{State, Answer, does, filled}
use Rattle.calls.specs.Lives.{Life}

-- what is written down of a call: its answer, and the job right after it
pub record Recorded (K : Costs) : Type 0 where
  pub call : Call
  pub answer : Answer K
  pub state : State K

pub record Run (K : Costs) : Type 0 where
  pub records : List (Recorded K)
  pub state : State K
  pub cells : List K.Cost

-- the calls from the state st with these cells
abbrev pub runs : (K : Costs) → Scale K → ℕ → State K → List K.Cost → List Call → Run K
runs K s bound st cells [] = record { records = []; state = st; cells = cells }
runs K s bound st cells (call ∷ calls) =
    let out = does K s bound st call cells in
    let later = runs K s bound out.state out.cells calls in
    record { records = record { call = call; answer = out.answer; state = out.state } ∷ later.records; state = later.state; cells = later.cells }

-- each record is one of a life: the job right after a call is in a state that a life comes to
abbrev pub Lived : (K : Costs) → Scale K → ℕ → List (Recorded K) → Type 0
Lived K s bound [] = Unit {0}
Lived K s bound (r ∷ rs) = Life K s bound r.state × Lived K s bound rs

-- the first cells that any of the calls filled
abbrev pub furthest : {K : Costs} → List (Recorded K) → ℕ
furthest [] = 0
furthest (r ∷ rs) = max (filled r.state r.answer) (furthest rs)
