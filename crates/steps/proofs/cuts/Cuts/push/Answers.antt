use Rattle.std.proofs.Common.{◌≡◌, ℕ, ◌+◌, ◌-◌, ◌<◌, length, replicate, ap, ◌∙◌, arith}
use Rattle.std.proofs.lemmas.List.{length-set, length-take-le, drop-set-lt, drop-drop, drop-replicate}
use Rattle.steps.proofs.cuts.Cuts.push.Goals as goal

pub invariant_of-self : goal.invariant_of-self
invariant_of-self c =
    let row = c.self.inside.row in
    let used = c.self.inside.used in
    let was = c.self.invariant in
    let less : used < 255 = omega (arith, length-take-le used row (omega (arith, was.long, was.few)), ap length c.self.view_is) in
    let one_fewer : 255 - used - 1 ≡ 255 - (used + 1) = omega arith in
    record {
      long = length-set row used c.args.place ∙ was.long;
      few = omega arith;
      behind = rw (drop-set-lt (used + 1) row used c.args.place (omega arith), ← drop-drop 1 used row, was.behind, drop-replicate {X = ℕ} 1 (255 - used) 0) (ap (λ n. replicate n 0) one_fewer);
    }
