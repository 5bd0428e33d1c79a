-- The laws of ranked costs, from the laws of their parts.
use Rattle.std.specs.Prelude.{◌≡◌, Bool, true, false, not, ◌&&◌, ◌||◌, T, ◌⊎◌, refl}
use Rattle.std.proofs.Common.{inl, inr, ⊎_elim, arith}
use Rattle.costs.specs.Costs.{Costs, Laws}
use Rattle.costs.specs.Ranked.{ranked}

-- the test of an order by two parts, taken apart and put together
parts : (x y z : Bool) → T (x && (not y || z)) → T x × (T y → T z)
parts true true true h = (tt, λ _. tt)
parts true true false h = absurd h
parts true false z h = (tt, λ f. absurd f)
parts false y z h = absurd h

pub from_parts : (x y z : Bool) → T x → (T y → T z) → T (x && (not y || z))
from_parts true true z h f = f tt
from_parts true false z h f = tt
from_parts false y z h f = h

-- where the firsts are equal the seconds decide, and else the firsts do
decided : (x y z w : Bool) → T x ⊎ T y → T z ⊎ T w → T (x && (not y || z)) ⊎ T (y && (not x || w))
decided true true z w h k = k
decided true false z w h k = inl tt
decided false true z w h k = inr tt
decided false false z w h k = ⊎_elim absurd absurd h

module _ {A B : Costs} (L : Laws A) (M : Laws B) where
  abbrev Pair : Type 0
  Pair = (ranked A B).Cost

  abbrev Le : Pair → Pair → Type 0
  Le p q = T ((ranked A B).le p q)

  apart : (p q : Pair) → Le p q → T (A.le p.0 q.0) × (T (A.le q.0 p.0) → T (B.le p.1 q.1))
  apart p q = parts (A.le p.0 q.0) (A.le q.0 p.0) (B.le p.1 q.1)

  together : (p q : Pair) → T (A.le p.0 q.0) → (T (A.le q.0 p.0) → T (B.le p.1 q.1)) → Le p q
  together p q = from_parts (A.le p.0 q.0) (A.le q.0 p.0) (B.le p.1 q.1)

  trans : (p q r : Pair) → Le p q → Le q r → Le p r
  trans p q r l m =
      let s = apart p q l in
      let t = apart q r m in
      together p r (L.le_trans p.0 q.0 r.0 s.0 t.0)
      (λ back. M.le_trans p.1 q.1 r.1 (s.1 (L.le_trans q.0 r.0 p.0 t.0 back)) (t.1 (L.le_trans r.0 p.0 q.0 back s.0)))

  total : (p q : Pair) → Le p q ⊎ Le q p
  total p q =
      decided (A.le p.0 q.0) (A.le q.0 p.0) (B.le p.1 q.1) (B.le q.1 p.1)
      (L.le_total p.0 q.0) (M.le_total p.1 q.1)

  pair : {a b : A.Cost} {c d : B.Cost} → a ≡ b → c ≡ d → ◌≡◌ {A = Pair} (a, c) (b, d)
  pair e f = cc

  anti : (p q : Pair) → Le p q → Le q p → p ≡ q
  anti p q l m =
      let s = apart p q l in
      let t = apart q p m in
      pair (L.le_anti p.0 q.0 s.0 t.0) (M.le_anti p.1 q.1 (s.1 t.0) (t.1 s.0))

  pub ranked_laws : Laws (ranked A B)
  ranked_laws = record {
    le_refl = λ p. together p p (L.le_refl p.0) (λ _. M.le_refl p.1);
    le_trans = trans;
    le_total = total;
    le_anti = anti;
    size_nil = omega (arith, L.size_nil, M.size_nil);
    size_add = λ p q h. omega (arith, L.size_add p.0 q.0 (omega arith), M.size_add p.1 q.1 (omega arith));
    add_comm = λ p q h. pair (L.add_comm p.0 q.0 (omega arith)) (M.add_comm p.1 q.1 (omega arith));
    add_assoc = λ p q r h. pair (L.add_assoc p.0 q.0 r.0 (omega arith)) (M.add_assoc p.1 q.1 r.1 (omega arith));
    add_nil = λ p h. pair (L.add_nil p.0 (omega arith)) (M.add_nil p.1 (omega arith));
    add_le = λ p q r h.
        rw (L.add_le p.0 q.0 r.0 (omega arith), L.add_le q.0 p.0 r.0 (omega arith), M.add_le p.1 q.1 r.1 (omega arith)) refl;
  }
