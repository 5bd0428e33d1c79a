-- Ranked costs: two costs, compared by the first and, where those are equal, by the second.
use Rattle.std.specs.Prelude.{max, not, ◌&&◌, ◌||◌}
use Rattle.costs.specs.Costs.{Costs}

-- the pairs of two kinds, added part by part; the size of a pair is the larger of its parts' sizes
abbrev pub ranked : Costs → Costs → Costs
ranked A B = record {
  Cost = A.Cost × B.Cost;
  nil = (A.nil, B.nil);
  add = λ p q. (A.add p.0 q.0, B.add p.1 q.1);
  le = λ p q. A.le p.0 q.0 && (not (A.le q.0 p.0) || B.le p.1 q.1);
  size = λ p. max (A.size p.0) (B.size p.1);
}
