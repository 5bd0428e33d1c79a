-- Adding and cancelling inequalities between small costs, those of weight at most 300.
-- Each lemma takes the smallness of all its costs as one product at its end, which `omega` proves.
use Rattle.std.proofs.Common.{◌≡◌, sym, ap, ◌∙◌, arith}
use Rattle.costs.specs.Costs.{Costs, Laws}
use Rattle.costs.proofs.Weights.{W, Le, sum_weight}

abbrev pub Small : (K : Costs) → K.Cost → Type 0
Small K a = W K 300 a

module _ (K : Costs) (L : Laws K) where
  pub small_nil : Small K K.nil
  small_nil = omega (arith, L.size_nil)

  -- a sum of two has twice the weight
  pub pair : (a b : K.Cost) → Small K a → Small K b → W K 600 (K.add a b)
  pair a b wa wb = sum_weight K L a b 300 300 wa wb (omega arith)

  -- small costs, and sums of two, can change places
  pub turn : (a b : K.Cost) → W K 600 a × W K 600 b → K.add a b ≡ K.add b a
  turn a b w = L.add_comm a b (omega arith)

  -- nothing can be added in front
  pub nil_add : (a : K.Cost) → Small K a → K.add K.nil a ≡ a
  nil_add a w = turn K.nil a (omega (arith, small_nil)) ∙ L.add_nil a (omega arith)

  -- (a + b) + (c + d) is (a + c) + (b + d)
  exchange : (a b c d : K.Cost) → Small K a × Small K b × Small K c × Small K d → K.add (K.add a b) (K.add c d) ≡ K.add (K.add a c) (K.add b d)
  exchange a b c d w =
      L.add_assoc a b (K.add c d) (omega (arith, pair))
      ∙ ap (K.add a) (sym (L.add_assoc b c d (omega arith)) ∙ ap (λ e. K.add e d) (turn b c (omega arith)) ∙ L.add_assoc c b d (omega arith))
      ∙ sym (L.add_assoc a c (K.add b d) (omega (arith, pair)))

  -- two inequalities add up
  both : {a b c d : K.Cost} → Le K a b → Le K c d → W K 600 a × W K 600 b × W K 600 c × W K 600 d → Le K (K.add a c) (K.add b d)
  both {a} {b} {c} {d} l m w =
      L.le_trans (K.add a c) (K.add b c) (K.add b d)
      (rw (L.add_le a b c (omega arith)) l) (rw (turn b c (omega arith), turn b d (omega arith), L.add_le c d b (omega arith)) m)

  -- p + d ≤ q + b and a + b ≤ c + d leave p + a ≤ q + c
  pub transfer : {p q a b c d : K.Cost} → Le K (K.add p d) (K.add q b) → Le K (K.add a b) (K.add c d)
      → Small K p × Small K q × Small K a × Small K b × Small K c × Small K d → Le K (K.add p a) (K.add q c)
  transfer {p} {q} {a} {b} {c} {d} l m w =
      let sum : Le K (K.add (K.add p a) (K.add d b)) (K.add (K.add q c) (K.add d b)) =
      rw (exchange p a d b (omega arith), turn d b (omega arith), exchange q c b d (omega arith)) (both l m (omega (arith, pair))) in
      rw (L.add_le (K.add p a) (K.add q c) (K.add d b) (omega (arith, pair))) at sum

  -- the same with the sums turned
  pub transfer_left : {p q a b c d : K.Cost} → Le K (K.add d p) (K.add b q) → Le K (K.add a b) (K.add d c)
      → Small K p × Small K q × Small K a × Small K b × Small K c × Small K d → Le K (K.add a p) (K.add c q)
  transfer_left {p} {q} {a} {b} {c} {d} l m w =
      rw (turn a p (omega arith), turn c q (omega arith))
      (transfer (rw (turn p d (omega arith), turn q b (omega arith)) l) (rw (turn c d (omega arith)) m) w)

  -- u ≤ a + c and v ≤ b + d with a + b ≤ a' + b' and c + d ≤ c' + d' give u + v ≤ (a' + c') + (b' + d')
  pub part_by_part : {u v a b c d a' b' c' d' : K.Cost} → Le K u (K.add a c) → Le K v (K.add b d) → Le K (K.add a b) (K.add a' b') → Le K (K.add c d) (K.add c' d')
      → Small K u × Small K v × Small K a × Small K b × Small K c × Small K d × Small K a' × Small K b' × Small K c' × Small K d'
      → Le K (K.add u v) (K.add (K.add a' c') (K.add b' d'))
  part_by_part {u} {v} {a} {b} {c} {d} {a'} {b'} {c'} {d'} lu lv l m w =
      L.le_trans (K.add u v) (K.add (K.add a c) (K.add b d)) _ (both lu lv (omega (arith, pair)))
      (rw (exchange a c b d (omega arith), exchange a' c' b' d' (omega arith)) (both l m (omega (arith, pair))))

  -- u ≤ a + c and a + v ≤ b + w give v + u ≤ w + (b + c)
  pub absorb : {u v w a b c : K.Cost} → Le K u (K.add a c) → Le K (K.add a v) (K.add b w)
      → Small K u × Small K v × Small K w × Small K a × Small K b × Small K c → Le K (K.add v u) (K.add w (K.add b c))
  absorb {u} {v} {w} {a} {b} {c} lu l z =
      L.le_trans (K.add v u) (K.add v (K.add a c)) _ (both (L.le_refl v) lu (omega (arith, pair)))
      (rw (← (L.add_assoc v a c (omega arith)), ← (L.add_assoc w b c (omega arith)), turn v a (omega arith), turn w b (omega arith), L.add_le (K.add a v) (K.add b w) c (omega (arith, pair))) l)
