-- What the source of each layer replies, from what the sources below it reply.
use Rattle.std.specs.Prelude.{◌+◌, ◌-◌, min, ℤ}
use Rattle.costs.specs.declared.kind.Kind as kind
use Rattle.costs.specs.declared.ranked.Ranked.{Ranked}
use Rattle.sources.specs.declared.source.Source as source
use Rattle.layers.specs.declared.joined.Joined.{Joined}
use Rattle.layers.specs.declared.window.Window.{Window}
use Rattle.layers.specs.declared.turned.Turned.{Turned}
use Rattle.layers.specs.declared.paired.Paired.{Paired}
use Rattle.layers.specs.Layers.{opening, closing}

-- the values of both added
abbrev pub joined_replies : {V A B : Type 0} → kind.Ghosts V → source.Ghosts A V → source.Ghosts B V → source.Ghosts (Joined A B) V
joined_replies k a b = record {
  last = λ s. min (a.last s.one) (b.last s.two);
  reply = λ s x y. k.sum (a.reply s.one x y) (b.reply s.two x y);
}

-- the value below, as many places on as the window's first
abbrev pub window_replies : {V S : Type 0} → source.Ghosts S V → source.Ghosts (Window S) V
window_replies m = record {
  last = λ s. let end = m.last s.below in closing end s.from s.to - opening end s.from;
  reply = λ s x y. let o = opening (m.last s.below) s.from in m.reply s.below (o + x) (o + y);
}

-- the value below of the class counted from the end
abbrev pub turned_replies : {V S : Type 0} → source.Ghosts S V → source.Ghosts (Turned S) V
turned_replies m = record {
  last = λ s. m.last s.below;
  reply = λ s x y. let end = m.last s.below in m.reply s.below (end - y) (end - x);
}

-- the numbers of both, the first source's first
abbrev pub paired_replies : {A B : Type 0} → source.Ghosts A ℤ → source.Ghosts B ℤ → source.Ghosts (Paired A B) Ranked
paired_replies a b = record {
  last = λ s. min (a.last s.one) (b.last s.two);
  reply = λ s x y. record { first = a.reply s.one x y; second = b.reply s.two x y };
}
