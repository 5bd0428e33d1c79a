-- A layer over sound scales is sound: for every kind of cost and every scale.
use Rattle.std.proofs.Common.{◌≡◌, ℕ, ◌+◌, ◌-◌, ◌≤◌, max, ap, ⊎_elim, arith}
use mathlib.Core.Path.{fun_ext}
use Rattle.std.proofs.lemmas.Bool.{cases_lt}
use Rattle.costs.specs.declared.kind.Kind as kind
use Rattle.costs.specs.Costs.{Costs, Laws}
use Rattle.costs.specs.Limits.{largest}
use Rattle.costs.specs.Ranked.{ranked}
use Rattle.costs.specs.Ranks.{from_parts}
use Rattle.costs.proofs.Sums.{part_by_part}
use Rattle.layers.specs.declared.joined.Joined.{Joined}
use Rattle.sources.specs.declared.source.Source as source
use Rattle.sources.specs.Scales.{Scale, Sized, Glebov, Sound}
use Rattle.layers.specs.Layers.{joined, opening, window, turned, paired}
use Rattle.sources.specs.Meant.{meant}
use Rattle.layers.specs.Replies.{joined_replies}

module _ (K : Costs) where
  -- a window asks only for classes of the scale below
  pub window_sound : (a b : ℕ) {s : Scale K} {bound : ℕ} → Sound K s bound → Sound K (window K a b s) bound
  window_sound a b {s} sound =
      let o = opening s.last a in
      record {
        sizes = λ x y h m. sound.sizes (o + x) (o + y) (omega arith) (omega arith);
        glebov = λ x1 y1 y2 x2 h i j m. sound.glebov (o + x1) (o + y1) (o + y2) (o + x2) (omega arith) (omega arith) (omega arith) (omega arith);
      }

module _ (K : Costs) (L : Laws K) where
  -- turned, the condition is itself, with the sides of its left sum exchanged; where two of its places are one, both sides are the same
  pub turned_sound : {s : Scale K} {bound : ℕ} → bound ≤ largest → Sound K s bound → Sound K (turned K s) bound
  turned_sound {s} {bound} small sound = record { sizes = λ x y h m. sound.sizes (s.last - y) (s.last - x) (omega arith) (omega arith); glebov = glebov }
    where
      swap : (x y z w : ℕ) → x ≤ y → y ≤ s.last → z ≤ w → w ≤ s.last → K.add (s.cost x y) (s.cost z w) ≡ K.add (s.cost z w) (s.cost x y)
      swap x y z w h i j k = L.add_comm (s.cost x y) (s.cost z w) (omega (arith, sound.sizes x y h i, sound.sizes z w j k))

      glebov : Glebov K (turned K s)
      glebov x1 y1 y2 x2 h i j m =
          let end = s.last in
          rw (swap (end - y2) (end - x1) (end - x2) (end - y1) (omega arith) (omega arith) (omega arith) (omega arith))
          (⊎_elim (λ l. sound.glebov (end - x2) (end - y2) (end - y1) (end - x1) (omega arith) (omega arith) (omega arith) (omega arith))
          (λ l. let e : y2 ≡ x2 = omega arith in rw e (L.le_refl (K.add (s.cost (end - x2) (end - y1)) (s.cost (end - x2) (end - x1))))) (cases_lt y2 x2))

  -- the costs of both added keep to both bounds added, and their conditions add up
  pub joined_sound : {s t : Scale K} {one two : ℕ} → one + two ≤ largest → Sound K s one → Sound K t two → Sound K (joined K s t) (one + two)
  joined_sound {s} {t} {one} {two} small a b = record { sizes = sizes; glebov = glebov }
    where
      sizes : Sized K (joined K s t) (one + two)
      sizes x y h m =
          let p = a.sizes x y h (omega arith) in
          let q = b.sizes x y h (omega arith) in
          omega (arith, L.size_add (s.cost x y) (t.cost x y) (omega arith))

      glebov : Glebov K (joined K s t)
      glebov x1 y1 y2 x2 h i j m =
          part_by_part K L (L.le_refl _) (L.le_refl _)
          (a.glebov x1 y1 y2 x2 h i j (omega arith)) (b.glebov x1 y1 y2 x2 h i j (omega arith))
          (omega (arith, a.sizes x1 y2, a.sizes y1 x2, a.sizes y1 y2, a.sizes x1 x2, b.sizes x1 y2, b.sizes y1 x2, b.sizes y1 y2, b.sizes x1 x2, sizes x1 y2, sizes y1 x2))

-- ranked costs compare by parts, so the conditions of both give that of the pairs
pub paired_sound : (A B : Costs) {s : Scale A} {t : Scale B} {one two : ℕ} → Sound A s one → Sound B t two → Sound (ranked A B) (paired A B s t) (max one two)
paired_sound A B {s} {t} {one} {two} a b =
    record {
      sizes = λ x y h m. omega (arith, a.sizes x y h (omega arith), b.sizes x y h (omega arith));
      glebov = λ x1 y1 y2 x2 h i j m. from_parts _ _ _ (a.glebov x1 y1 y2 x2 h i j (omega arith)) (λ _. b.glebov x1 y1 y2 x2 h i j (omega arith));
    }

-- the scale of a joined source: the value that it replies stands for the sum of the costs below
pub joined_means : {V A B : Type 0} (k : kind.Ghosts V) (m : source.Ghosts A V) (n : source.Ghosts B V) → ((a b : V) → k.means (k.sum a b) ≡ k.costs.add (k.means a) (k.means b))
    → (j : Joined A B) → meant k (joined_replies k m n) j ≡ joined k.costs (meant k m j.one) (meant k n j.two)
joined_means k m n sums j =
    let last = (joined_replies k m n).last j in
    ap (λ f. record { last = last; cost = f }) (fun_ext (λ x. fun_ext (λ y. sums (m.reply j.one x y) (n.reply j.two x y))))
