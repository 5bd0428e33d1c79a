-- What the values of the code stand for, and what it is for a call to do as defined.
use Rattle.std.specs.Prelude.{◌≡◌, ℕ, ◌<◌, List, [], map, drop, Some, None, Ok, Err, Option, Result, Vec}
use Rattle.std.specs.Option.{option_map_or}
use Rattle.costs.specs.Costs.{Costs}
use Rattle.costs.specs.declared.kind.Kind as kind
use Rattle.sources.specs.declared.source.Source as source
use Rattle.sources.specs.Meant.{meant}
use Rattle.calls.specs.declared.answer.Answer.{Answer}
use Rattle.calls.specs.declared.answer.Answer.TheVariants.{Accepted, Counted, Looked}
use Rattle.calls.specs.declared.answer.View.{View}
use Rattle.calls.specs.declared.call.Call.{Call}
pub use Rattle.steps.specs.Cuts.{in_use}
use Rattle.jobs.specs.declared.job.Job.{Job}
use Rattle.jobs.specs.declared.plan.Plan.{Plan}
use Rattle.jobs.specs.declared.record.Moment.{Moment}
use Rattle.jobs.specs.declared.record.Record.{Record}
use Rattle.calls.specs.declared.refusal.Refusal.{Refusal}
use Rattle.calls.specs.declared.refusal.Refusal.TheVariants.{TooLong, AlreadyOpen}
use Rattle.plans.specs.Limits.{longest}
use Rattle.plans.specs.Steps.{climb}
use Rattle.calls.specs.Runs.{Recorded, runs, Lived, furthest}
use Rattle.calls.specs.Lives.{Life, Law}
use Rattle.calls.specs.Calls as calls
use Rattle.calls.specs.Calls.{Opened, State, shut, opened, refused, accepted, counted, nothing, shown, planned, does, filled}

-- what an end, cuts and a total of the code stand for
abbrev pub opened_with : {V : Type 0} (k : kind.Ghosts V) → ℕ → List ℕ → V → Opened k.costs
opened_with k end cuts total = record { end = end; cuts = cuts; total = k.means total }

-- what the plan of a job stands for
abbrev pub held_in : {V : Type 0} (k : kind.Ghosts V) → Plan V → Opened k.costs
held_in k p = opened_with k p.end p.cuts p.total

-- a job that holds no plan is shut
abbrev pub state_of : {V S : Type 0} {m : source.Ghosts S V} (k : kind.Ghosts V) → Job S V m k → State k.costs
state_of k j = option_map_or (λ p. opened (held_in k p)) j.plan shut

-- the plan of a job; a shut job counts as one with the end 0, no cuts and the total zero
abbrev pub plan_of : {V S : Type 0} {m : source.Ghosts S V} (k : kind.Ghosts V) → Job S V m k → Opened k.costs
plan_of k j = option_map_or (held_in k) j.plan (record { end = 0; cuts = []; total = k.costs.nil })

abbrev pub view_of : {V : Type 0} (k : kind.Ghosts V) → View V → calls.Shown k.costs
view_of k v = record { end = v.end; count = v.count; total = k.means v.total; cut = v.cut }

-- what a look answers
abbrev pub looking : {V : Type 0} (k : kind.Ghosts V) → Option (View V) → calls.Answer k.costs
looking k None = nothing
looking k (Some v) = shown (view_of k v)

-- what a call answers
abbrev pub answer_of : {V : Type 0} (k : kind.Ghosts V) → Result (Answer V) Refusal → calls.Answer k.costs
answer_of k (Ok Accepted) = accepted
answer_of k (Ok (Counted reads)) = counted reads
answer_of k (Ok (Looked seen)) = looking k seen
answer_of k (Err why) = refused why

-- what an opening answers
abbrev pub opening : {V : Type 0} (k : kind.Ghosts V) → Result (Unit {0}) Refusal → calls.Answer k.costs
opening k (Ok _) = accepted
opening k (Err why) = refused why

-- what an add, a drop or a reach answers
abbrev pub counting : {V : Type 0} (k : kind.Ghosts V) → Result ℕ Refusal → calls.Answer k.costs
counting k (Ok reads) = counted reads
counting k (Err why) = refused why

-- the job right after a call
abbrev pub moment_of : {V : Type 0} (k : kind.Ghosts V) → Option (Moment V) → State k.costs
moment_of k None = shut
moment_of k (Some m) = opened (opened_with k m.end m.cuts m.total)

-- a call, what it answered, and the job right after it
abbrev pub recorded_of : {V : Type 0} (k : kind.Ghosts V) → Record V → Recorded k.costs
recorded_of k r = record { call = r.call; answer = answer_of k r.answer; state = moment_of k r.moment }

-- A call came from the job `before` and the cells `old` to `after` and `new`, with this answer, as is defined.
-- The cells that it fills are fixed by the costs that they stand for, and the others keep their values.
pub record Did {V S : Type 0} (k : kind.Ghosts V) (m : source.Ghosts S V) (bound : ℕ) (call : Call) (before after : Job S V m k) (old new : List V) (answer : calls.Answer k.costs) : Type 0 where
  pub source : after.source ≡ before.source
  pub outcome : record { state = state_of k after; cells = map k.means new; answer = answer } ≡ does k.costs (meant k m before.source) bound (state_of k before) call (map k.means old)
  pub kept : drop (filled (state_of k after) answer) new ≡ drop (filled (state_of k after) answer) old

-- why a job in this state, over a scale with this last place, does not open
abbrev pub NotOpenable : {K : Costs} → Refusal → State K → ℕ → Type 0
NotOpenable why shut last = (why ≡ TooLong) × (longest < last)
NotOpenable why (opened o) last = why ≡ AlreadyOpen

-- the call is defined, for this job and these cells, as stepping up to n cuts at the end e
abbrev pub IsClimb : {V S : Type 0} (k : kind.Ghosts V) (m : source.Ghosts S V) (bound : ℕ) (call : Call) → Job S V m k → ℕ → ℕ → List V → Type 0
IsClimb k m bound call j e n cells =
    let s = meant k m j.source in
    let costs = map k.means cells in
    does k.costs s bound (state_of k j) call costs ≡ planned k.costs s (plan_of k j) e n costs (climb k.costs s e n costs)

-- The calls ran from the job `before` and the cells `old` to `after` and `new`, as is defined, with these records; the records go on with the life of the job, and the law holds in every life over its source.
pub record Ran {V S : Type 0} (k : kind.Ghosts V) (m : source.Ghosts S V) (bound : ℕ) (made : List Call) (before after : Job S V m k) (old new : List V) (records : List (Record V)) : Type 0 where
  pub source : after.source ≡ before.source
  pub run : record { records = map (recorded_of k) records; state = state_of k after; cells = map k.means new } ≡ runs k.costs (meant k m before.source) bound (state_of k before) (map k.means old) made
  pub kept : drop (furthest (map (recorded_of k) records)) new ≡ drop (furthest (map (recorded_of k) records)) old
  pub life : Life k.costs (meant k m before.source) bound (state_of k before) → Lived k.costs (meant k m before.source) bound (map (recorded_of k) records)
  pub law : Law k.costs (meant k m before.source) bound

-- What a run leaves: the calls ran, with these records; or memory was wanting, and nothing changed.
abbrev pub RanOrKept : {V S A E : Type 0} (k : kind.Ghosts V) (m : source.Ghosts S V) (bound : ℕ) (made : List Call) (before after : Job S V m k) (old new : List V) → Result (Vec (Record V) A) E → Type 0
RanOrKept k m bound made before after old new (Ok records) = Ran k m bound made before after old new records.items
RanOrKept k m bound made before after old new (Err e) = (after ≡ before) × (new ≡ old)
