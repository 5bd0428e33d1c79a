use Rattle.std.proofs.Common.{◌≡◌, ◌+◌, arith}
use Rattle.layers.proofs.Layers.{joined_means, joined_sound}
use Rattle.layers.proofs.joined.JoinedVouching.bound.Goals as goal

pub returns-clause-sound : goal.returns-clause-sound
returns-clause-sound g c h =
    let k = g.A.Kind.Kind in
    let e : c.saturating_add.result ≡ c.bound.result + c.bound-2.result = omega arith in
    rw (joined_means k g.A.Source g.B.Source g.met.A.Kind.Kind.sums c.args.self.now, e)
    (joined_sound k.costs g.met.A.Kind.Kind.laws (omega arith) (c.bound.ensures.sound (omega arith)) (c.bound-2.ensures.sound (omega arith)))
