-- One level: the odd multiples of d, worked upwards between the even ones.
use Rattle.std.proofs.Common.{◌≡◌, ℕ, zero, suc, ◌+◌, ◌-◌, ◌*◌, ◌/◌, ◌%◌, ◌<◌, ◌≤◌, ◌⊎◌, List, length, get_or, set, sym, refl, ap, ◌∙◌, subst, inl, inr, ⊎_elim, mul-le-mul_right, div-lt_iff_lt-mul, add-mul, mul-le-mul_left, le-div_iff_mul-le, div-le_self, arith}
use mathlib.Core.Path.{fun_ext}
use native.Mathlib.Nat.{eq_of_mul-eq-mul_right}
use Rattle.std.proofs.lemmas.Bool.{cases_lt, cases_eq}
use Rattle.std.proofs.lemmas.List.{get_or-set_same, get_or-set_other, length-set}
use Rattle.costs.specs.Costs.{Costs}
use Rattle.sources.specs.Scales.{Scale}
use Rattle.plans.specs.Steps.{Rising, Row, via, refined, between_reads}
use Rattle.plans.proofs.Tables.{by_halves, twice, starts, refined_even, refined_odd, refined_absent, refined_rising, telescoped}
use Rattle.rows.specs.Rows.{Least}
use Rattle.rows.specs.Filled.{kept_for, table, Worked, Level}
use Rattle.rows.proofs.Places.{kept_absent, kept_set_same, kept_set_other}

-- k is even, or one of the first i odd numbers
abbrev pub Done : ℕ → ℕ → Type 0
Done i k = (k % 2 ≡ 0) ⊎ (k < 2 * i)

done_more : (P : ℕ → Type 0) (i : ℕ) → P (2 * i + 1) → ((k : ℕ) → (k ≡ 2 * i + 1 → ⊥) → Done i k → P k) → (k : ℕ) → Done (suc i) k → P k
done_more P i here other k h =
    ⊎_elim
    (λ e. subst P (sym e) here)
    (λ ne. other k ne (⊎_elim inl (λ l. ⊎_elim inr (λ m. inl (omega arith)) (cases_lt k (2 * i))) h))
    (cases_eq k (2 * i + 1))

module _ (q d : ℕ) (pos : 0 < d) where
  -- past the last odd multiple, all of them are done
  turns : (i : ℕ) → q < (2 * i + 1) * d → (2 * i + 1) * d ≤ q + 2 * d → d ≤ q → (q / d + 1) / 2 ≡ i
  turns zero h l f = absurd (omega arith)
  turns (suc i) h l f =
      let e : 2 * suc i + 1 ≡ 2 * i + 1 + 2 = omega arith in
      let high : q / d < 2 * suc i + 1 = (div-lt_iff_lt-mul pos).1 h in
      let low : 2 * i + 1 ≤ q / d = (le-div_iff_mul-le pos).1 (omega (arith, add-mul (2 * i + 1) 2 d, ap (λ x. x * d) e)) in
      omega arith

  all_done : (k : ℕ) → k * d ≤ q → Done ((q / d + 1) / 2) k
  all_done k h =
      let l : k ≤ q / d = (le-div_iff_mul-le pos).1 h in
      by_halves k (λ i e. inl (omega arith)) (λ i e. inr (omega arith))

module _ (K : Costs) (s : Scale K) (above : Row K) (q d : ℕ) (old : List ℕ) where
  -- the table before the level
  abbrev was : ℕ → ℕ
  was = table above old (2 * d)

  -- and behind it
  abbrev will : ℕ → ℕ
  will = refined K s above q d was

  abbrev Placed : List ℕ → ℕ → Type 0
  Placed ps k = kept_for above.from above.to ps (k * d) ≡ will k

  abbrev Costed : List K.Cost → ℕ → Type 0
  Costed cs k = 0 < k → k * d ≤ q → get_or cs (k * d - 1) K.nil ≡ via K s above (above.to + k * d - 1) (will k)

  -- the first i odd multiples are worked, and x + 1 is the next
  pub record Turning (places : List ℕ) (cells : List K.Cost) (reads x i : ℕ) : Type 0 where
    pub number : x + 1 ≡ (2 * i + 1) * d
    pub room : length places ≡ q
    pub read : reads ≡ between_reads K s above q was i
    pub placed : (k : ℕ) → Done i k → Placed places k
    pub costed : (k : ℕ) → Done i k → Costed cells k

  -- where the search for it goes
  pub record Range (reads x i lo hi : ℕ) : Type 0 where
    pub from : above.from ≤ lo
    pub order : lo ≤ hi
    pub to : hi ≤ above.to
    pub lo_is : lo ≡ was i
    pub hi_is : hi ≡ was (suc i)
    pub few : reads + (hi - lo + 1) + above.from ≤ x + 1 + above.to

module _ {K : Costs} {s : Scale K} {above : Row K} {q d : ℕ} {old : List ℕ} where
  pub turning_first : {cells : List K.Cost} {x : ℕ} → x + 1 ≡ d → Worked K s above q (2 * d) (was K s above q d old) cells → length old ≡ q → Turning K s above q d old old cells 0 x 0
  turning_first {cells} e work room = record { number = omega arith; room = room; read = refl; placed = placed; costed = costed }
    where
      placed : (k : ℕ) → Done 0 k → Placed K s above q d old old k
      placed k h =
          by_halves k
          (λ i e. ap (kept_for above.from above.to old) (ap (λ z. z * d) e ∙ twice i d) ∙ sym (refined_even K s above q d (was K s above q d old) k i e))
          (λ i e. absurd (omega arith))

      costed : (k : ℕ) → Done 0 k → Costed K s above q d old cells k
      costed k h =
          by_halves k
          (λ i e p l.
          let f : k * d ≡ i * (2 * d) = ap (λ z. z * d) e ∙ twice i d in
          let l' : i * (2 * d) ≤ q = rw f at l in
          subst (λ z. get_or cells (z - 1) K.nil ≡ via K s above (above.to + z - 1) (was K s above q d old i)) (sym f) (work.costs i (omega arith) l') ∙ ap (via K s above (above.to + k * d - 1)) (sym (refined_even K s above q d (was K s above q d old) k i e)))
          (λ i e. absurd (omega arith))

  module _ {ps : List ℕ} {cs : List K.Cost} {reads x i : ℕ} (rising : Rising above.from above.to (was K s above q d old)) (t : Turning K s above q d old ps cs reads x i) where
    pub turning_range : {lo hi : ℕ} → 0 < d → lo ≡ kept_for above.from above.to ps (x + 1 - d) → hi ≡ kept_for above.from above.to ps (x + 1 + d) → Range K s above q d old reads x i lo hi
    turning_range {lo} {hi} pos e f =
        let p = was K s above q d old in
        let below : x + 1 - d ≡ 2 * i * d = omega (arith, t.number, add-mul (2 * i) 1 d) in
        let up : 2 * i + 1 + 1 ≡ 2 * suc i = omega arith in
        let behind : x + 1 + d ≡ 2 * suc i * d = omega (arith, t.number, add-mul (2 * i + 1) 1 d, ap (λ z. z * d) up) in
        let lo_is : lo ≡ p i = e ∙ ap (kept_for above.from above.to ps) below ∙ t.placed (2 * i) (inl (omega arith)) ∙ refined_even K s above q d p (2 * i) i refl in
        let hi_is : hi ≡ p (suc i) = f ∙ ap (kept_for above.from above.to ps) behind ∙ t.placed (2 * suc i) (inl (omega arith)) ∙ refined_even K s above q d p (2 * suc i) (suc i) refl in
        record {
          from = omega (arith, starts rising i, lo_is);
          order = omega (arith, rising.rises i, lo_is, hi_is);
          to = omega (arith, rising.within (suc i), hi_is);
          lo_is = lo_is;
          hi_is = hi_is;
          few = omega (arith, mul-le-mul_left (2 * i + 1) pos, t.number, telescoped K s above q d p i rising, t.read, rising.from, rising.rises i, rising.within (suc i), lo_is, hi_is);
        }

    pub turning_more : {lo hi at n : ℕ} {v : K.Cost} → 0 < d → x < q → length cs ≡ q → Range K s above q d old reads x i lo hi → Least K s above lo hi (above.to + x) at v n → Turning K s above q d old (set ps x at) (set cs x v) (reads + n) (x + 2 * d) (suc i)
    turning_more {lo} {hi} {at} {v = v} pos in_row room r l =
        let n = t.number in
        let p = was K s above q d old in
        let odd = 2 * i + 1 in
        let in_row' : odd * d ≤ q = omega (arith, n) in
        let x_is : odd * d - 1 ≡ x = omega (arith, n) in
        let y : above.to + x ≡ above.to + odd * d - 1 = omega (arith, n) in
        let is : at ≡ will K s above q d old odd = rw (y, r.lo_is, r.hi_is) at l.place ∙ sym (refined_odd K s above q d p odd i refl in_row') in
        let costs : v ≡ via K s above (above.to + odd * d - 1) (will K s above q d old odd) = rw y at l.value ∙ ap (via K s above (above.to + odd * d - 1)) is in
        let far : (k : ℕ) → (k ≡ odd → ⊥) → k * d ≡ x + 1 → ⊥ = λ k ne e. ne (eq_of_mul-eq-mul_right d pos k odd (e ∙ n)) in
        let up : 2 * suc i + 1 ≡ odd + 2 = omega arith in
        record {
          number = omega (arith, n, add-mul odd 2 d, ap (λ z. z * d) up);
          room = simp length-set t.room;
          read = omega (arith, t.read, r.lo_is, r.hi_is, l.reads);
          placed = done_more (Placed K s above q d old (set ps x at)) i
              (kept_set_same above.from above.to ps x (odd * d) at n (omega (arith, t.room)) ∙ is)
              (λ k ne h. kept_set_other above.from above.to ps x (k * d) at (far k ne) ∙ t.placed k h);
          costed = done_more (Costed K s above q d old (set cs x v)) i
              (λ _ _. ap (λ z. get_or (set cs x v) z K.nil) x_is ∙ get_or-set_same cs x v K.nil (omega arith) ∙ costs)
              (λ k ne h o l. get_or-set_other cs x (k * d - 1) v K.nil (λ e. far k ne (omega (arith, mul-le-mul_right d o))) ∙ t.costed k h o l);
        }

    pub turning_last : 0 < d → q ≤ x → x + 1 ≤ q + 2 * d → d ≤ q → q ≤ 4097 → above.to ≤ 4096 → length old ≡ q → Level K s above q d old ps cs reads
    turning_last pos past near some few short room =
        let p = was K s above q d old in
        let n : (q / d + 1) / 2 ≡ i = turns q d pos i (omega (arith, t.number)) (omega (arith, t.number)) some in
        let absent : (k : ℕ) → q < k * (2 * d) → p k ≡ above.to = λ k l. kept_absent above.from above.to old (k * (2 * d)) (omega arith) in
        let done : (k : ℕ) → k * d ≤ q → Done i k = λ k l. rw n at (all_done q d pos k l) in
        let found : table above ps d ≡ will K s above q d old = fun_ext (λ k. ⊎_elim
        (λ l. kept_absent above.from above.to ps (k * d) (omega (arith, t.room)) ∙ sym (refined_absent K s above q d p rising absent k l))
        (λ l. t.placed k (done k l))
        (cases_lt q (k * d))) in
        record {
          worked = subst (λ z. Worked K s above q d z cs) (sym found) (record { rising = refined_rising K s above q d p rising absent; costs = λ k o l. t.costed k (done k l) o l });
          found = found;
          reads = rw n t.read;
          few = omega (arith, t.read, telescoped K s above q d p i rising, rising.from, rising.within i, n, div-le_self q d);
        }
