-- The checked opening decides Glebov's condition.
use Rattle.std.proofs.Common.{◌≡◌, ℕ, ◌≤◌, Bool, true, false, not, T, List, Some, None, Option, refl, ⊎_elim, arith}
use Rattle.std.proofs.lemmas.Bool.{cases_lt, le-leb, lt-leb}
use Rattle.costs.specs.Costs.{Costs, Laws}
use Rattle.costs.specs.Limits.{largest}
use Rattle.sources.specs.Scales.{Scale, Sized}
use Rattle.sources.specs.Squares.{holds, first_large, first_broken, FirstBroken}
use Rattle.sources.proofs.Firsts.{first_is}
use Rattle.sources.proofs.Quadrangles.{squares_decide_lem, sized_at_none, glebov_at_none}
use Rattle.plans.specs.Limits.{longest}
use Rattle.calls.specs.declared.call.Call.TheVariants.{OpenChecked}
use Rattle.calls.specs.declared.refusal.Refusal.TheVariants.{TooLarge, Broken}
use Rattle.calls.specs.Calls.{State, shut, opened, does}
use Rattle.calls.specs.Openings.{RefusalTells, Tells}

fails : (b : Bool) → T b → not b ≡ true → ⊥
fails true h e = cc
fails false h e = absurd h

-- what it tells where it finds a cost that is too large, or a square that fails
module _ (K : Costs) (L : Laws K) (s : Scale K) (at : ℕ × ℕ) where
  pub large_tells : first_large K s ≡ Some at → RefusalTells K s (TooLarge at)
  large_tells e = first_is _ _ _ at.0 at.1 e

  -- a square that fails is one of the condition's cases
  pub broken_tells : Sized K s largest → first_broken K s ≡ Some at → RefusalTells K s (Broken at)
  broken_tells sized e =
      let first : FirstBroken K s at.0 at.1 = first_is _ _ _ at.0 at.1 e in
      (sized, first, λ g. fails (holds K s at.0 at.1) ((squares_decide_lem K L s sized).1 g at.0 at.1 first.place first.row) first.there)

module _ (K : Costs) (L : Laws K) (s : Scale K) (bound : ℕ) (cells : List K.Cost) where
  found : (large broken : Option (ℕ × ℕ)) → first_large K s ≡ large → first_broken K s ≡ broken → s.last ≤ longest → Tells K s (does K s bound shut OpenChecked cells).answer
  found None None e f h =
      let short = le-leb s.last longest h in
      let sized = sized_at_none K s e in
      rw (short, e, f) (record { sizes = sized; glebov = glebov_at_none K s L f sized })
  found None (Some at) e f h = let short = le-leb s.last longest h in rw (short, e, f) (broken_tells K L s at (sized_at_none K s e) f)
  found (Some at) broken e f h = let short = le-leb s.last longest h in rw (short, e) (large_tells K L s at e)

  -- for every job, shut or open
  pub checked_tells : (st : State K) → Tells K s (does K s bound st OpenChecked cells).answer
  checked_tells shut = ⊎_elim (λ h. let long = lt-leb s.last longest h in rw long tt) (found (first_large K s) (first_broken K s) refl refl) (cases_lt longest s.last)
  checked_tells (opened o) = tt
