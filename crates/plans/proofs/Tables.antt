-- Tables of found places: what a refined table has, that it rises, and the reads of its searches.
use Rattle.std.proofs.Common.{◌≡◌, ℕ, zero, suc, ◌+◌, ◌-◌, ◌*◌, ◌/◌, ◌%◌, ◌<◌, ◌≤◌, false, eqb, refl, ap, ◌∙◌, ⊎_elim, mul-le-mul_right, mul_assoc, mul_comm, arith}
use Rattle.std.proofs.lemmas.Bool.{cond-true, cond-false, eq-eqb, ne_eqb, le-leb, lt-leb, cases_lt}
use Rattle.costs.specs.Costs.{Costs}
use Rattle.sources.specs.Scales.{Scale}
use Rattle.plans.specs.Steps.{Rising, Row, via, earliest, refined, ends, between_reads}
use Rattle.plans.proofs.Earliest.{earliest_within}

-- a number is even or odd
pub by_halves : {P : Type 0} (k : ℕ) → ((i : ℕ) → k ≡ 2 * i → P) → ((i : ℕ) → k ≡ 2 * i + 1 → P) → P
by_halves k even odd = ⊎_elim (λ h. even (k / 2) (omega arith)) (λ h. odd (k / 2) (omega arith)) (cases_lt (k % 2) 1)

-- a multiple of 2 * d is an even one of d
pub twice : (i d : ℕ) → 2 * i * d ≡ i * (2 * d)
twice i d = ap (λ x. x * d) (mul_comm 2 i) ∙ mul_assoc i 2 d

-- ---- tables that rise

module _ {a b : ℕ} {p : ℕ → ℕ} (r : Rising a b p) where
  -- it never falls below its first place
  pub starts : (k : ℕ) → a ≤ p k
  starts zero = omega (arith, r.from)
  starts (suc k) = omega (arith, starts k, r.rises k)

-- ---- one table more

module _ (K : Costs) (s : Scale K) (above : Row K) (q d : ℕ) (p : ℕ → ℕ) where
  -- an even multiple of d is there already
  pub refined_even : (k i : ℕ) → k ≡ 2 * i → refined K s above q d p k ≡ p i
  refined_even k i e = cond-true _ _ _ (eq-eqb (k % 2) 0 (omega arith)) ∙ ap p (omega arith)

  odd_test : (k i : ℕ) → k ≡ 2 * i + 1 → eqb (k % 2) 0 ≡ false
  odd_test k i e = ne_eqb (k % 2) 0 (omega arith)

  -- an odd one up to q is finding-reads between its neighbours
  pub refined_odd : (k i : ℕ) → k ≡ 2 * i + 1 → k * d ≤ q → refined K s above q d p k ≡ earliest K.le (via K s above (above.to + k * d - 1)) (p i) (p (suc i) - p i)
  refined_odd k i e h =
      let f : k / 2 ≡ i = omega arith in
      let at : ℕ → ℕ = λ j. earliest K.le (via K s above (above.to + k * d - 1)) (p j) (p (suc j) - p j) in
      cond-false _ (p (k / 2)) _ (odd_test k i e) ∙ cond-true _ (at (k / 2)) above.to (le-leb (k * d) q h) ∙ ap at f

  -- and one past q counts as found at the last place
  pub refined_past : (k i : ℕ) → k ≡ 2 * i + 1 → q < k * d → refined K s above q d p k ≡ above.to
  refined_past k i e h = cond-false _ (p (k / 2)) _ (odd_test k i e) ∙ cond-false _ _ above.to (lt-leb (k * d) q h)

  -- the ranges of one table's searches overlap only at their ends: i searches read i places more than they span
  pub telescoped : (i : ℕ) → Rising above.from above.to p → between_reads K s above q p i + p 0 ≡ i + p i
  telescoped zero r = refl
  telescoped (suc i) r = let z = telescoped i r in omega (arith, z, r.rises i)

  module _ (r : Rising above.from above.to p) (absent : (k : ℕ) → q < k * (2 * d) → p k ≡ above.to) where
    -- past q all do
    pub refined_absent : (k : ℕ) → q < k * d → refined K s above q d p k ≡ above.to
    refined_absent k h =
        by_halves k
        (λ i e. let f : q < i * (2 * d) = rw (e, twice) at h in refined_even k i e ∙ absent i f)
        (λ i e. refined_past k i e h)

    -- an odd multiple lies between its neighbours, so no search has an empty range
    pub refined_between : (k i : ℕ) → k ≡ 2 * i + 1 → (p i ≤ refined K s above q d p k) × (refined K s above q d p k ≤ p (suc i))
    refined_between k i e =
        ⊎_elim
        (λ h.
        let l : k * d ≤ 2 * suc i * d = mul-le-mul_right d (omega arith) in
        let f : q < suc i * (2 * d) = omega (arith, twice (suc i) d) in
        omega (arith, absent (suc i) f, refined_past k i e h, r.within i))
        (λ h.
        let w = earliest_within K.le (via K s above (above.to + k * d - 1)) (p i) (p (suc i) - p i) in
        omega (arith, refined_odd k i e h, w, r.rises i))
        (cases_lt q (k * d))

    -- and the refined table rises again
    pub refined_rising : Rising above.from above.to (refined K s above q d p)
    refined_rising = record {
      from = refined_even 0 0 refl ∙ r.from;
      rises = λ k. by_halves k
          (λ i e. omega (arith, refined_even k i e, refined_between (suc k) i (omega arith)))
          (λ i e. omega (arith, refined_between k i e, refined_even (suc k) (suc i) (omega arith)));
      within = λ k. by_halves k
          (λ i e. omega (arith, refined_even k i e, r.within i))
          (λ i e. omega (arith, refined_between k i e, r.within (suc i)));
    }

-- the table before any search rises
pub ends_rising : (K : Costs) (s : Scale K) (above : Row K) (q : ℕ) → above.from ≤ above.to → Rising above.from above.to (ends K s above q)
ends_rising K s above q h = record { from = refl; rises = rises; within = within }
  where
    rises : (k : ℕ) → ends K s above q k ≤ ends K s above q (suc k)
    rises zero = h
    rises (suc k) = omega arith

    within : (k : ℕ) → ends K s above q k ≤ above.to
    within zero = h
    within (suc k) = omega arith
