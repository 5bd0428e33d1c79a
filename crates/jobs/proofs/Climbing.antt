-- Which calls of an open job step up from no cuts, and to what.
use Rattle.std.proofs.Common.{◌≡◌, ℕ, suc, ◌-◌, List, map, length, Option, Some, sym, ap, ◌∙◌, arith}
use Rattle.std.proofs.lemmas.Bool.{cond-true, lt-ltb}
use Rattle.std.specs.Borrow.{Bor}
use Rattle.std.specs.Option.{option_copied}
use Rattle.costs.specs.declared.kind.Kind as kind
use Rattle.sources.specs.declared.source.Source as source
use Rattle.sources.specs.Meant.{meant}
use Rattle.plans.specs.Steps.{climb}
use Rattle.calls.specs.Calls.{planned}
use Rattle.calls.specs.declared.call.Call.TheVariants.{Drop, Reach}
use Rattle.jobs.specs.declared.job.Job.{Job}
use Rattle.jobs.specs.declared.plan.Plan.{Plan}
use Rattle.jobs.specs.Jobs.{held_in, IsClimb}

-- the plan to which a reference was got from a job that holds one
pub is_held : {T : Type 0} {o : Option T} {got : Option (Bor T)} {x : Bor T} → option_copied got ≡ o → got ≡ Some x → o ≡ Some x.now
is_held copied is = sym copied ∙ ap option_copied is

module _ {V S : Type 0} (k : kind.Ghosts V) (m : source.Ghosts S V) (bound : ℕ) (j : Job S V m k) (p : Plan V) (is_open : j.plan ≡ Some p) (cells : List V) where
  pub reach_climbs : (e n : ℕ) → n ≡ length p.cuts → IsClimb k m bound (Reach e) j e n cells
  reach_climbs e n number = rw (is_open, number)

  pub drop_climbs : (n : ℕ) → suc n ≡ length p.cuts → IsClimb k m bound Drop j p.end n cells
  drop_climbs n number =
      let fewer : length p.cuts - 1 ≡ n = omega arith in
      let s = meant k m j.source in
      let costs = map k.means cells in
      rw is_open (cond-true _ _ _ (lt-ltb 0 (length p.cuts) (omega arith)) ∙ ap (λ i. planned k.costs s (held_in k p) p.end i costs (climb k.costs s p.end i costs)) fewer)
