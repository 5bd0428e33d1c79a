-- Where the wanted places never fall, the places found are the wanted ones; and the reads are few, wherever the places lie.
use Rattle.std.proofs.Common.{◌≡◌, ℕ, zero, suc, ◌+◌, ◌-◌, ◌*◌, ◌/◌, ◌^◌, ◌<◌, ◌≤◌, sym, refl, ap, ◌∙◌, ⊎_elim, mul-le-mul_right, suc-mul, pow-suc, zero-mul, mul-one, div-one, arith, pow_pos}
use native.Mathlib.Nat.{pow-succ', div-div-eq-div-mul}
use Rattle.std.proofs.lemmas.Bool.{cases_lt}
use Rattle.costs.specs.Costs.{Costs, Laws}
use Rattle.sources.specs.Scales.{Scale}
use Rattle.plans.specs.Steps.{Rising, Row, via, refined, found, finding_reads, ends, log2, next_reads}
use Rattle.plans.proofs.Earliest.{Earliest, narrowed, earliest_finds}
use Rattle.plans.proofs.Logs.{log2_high}
use Rattle.plans.proofs.Tables.{ends_rising, by_halves, twice, refined_even, refined_odd, refined_past, refined_rising, refined_absent, telescoped}

-- ---- the places found

module _ (K : Costs) (s : Scale K) (above : Row K) (q : ℕ) where
  -- a place for each number that never falls, and is the earliest least one of the row
  pub record Wanted (want : ℕ → ℕ) : Type 0 where
    pub first : want 0 ≡ above.from
    pub absent : (m : ℕ) → q < m → want m ≡ above.to
    pub rises : (m : ℕ) → want m ≤ want (suc m)
    pub best : (m : ℕ) → 0 < m → m ≤ q → Earliest K (via K s above (above.to + m - 1)) above.from above.to (want m)

  module _ (L : Laws K) (want : ℕ → ℕ) (w : Wanted want) where
    climbs : (m k : ℕ) → want m ≤ want (m + k)
    climbs m zero = omega (arith, ap want (add_nil m))
      where
        add_nil : (n : ℕ) → n + 0 ≡ n
        add_nil n = omega arith
    climbs m (suc k) = let e : m + suc k ≡ suc (m + k) = omega arith in omega (arith, climbs m k, w.rises (m + k), ap want e)

    never_falls : (m n : ℕ) → m ≤ n → want m ≤ want n
    never_falls m n h = let e : m + (n - m) ≡ n = omega arith in omega (arith, climbs m (n - m), ap want e)

    under : (m : ℕ) → want m ≤ above.to
    under m = omega (arith, never_falls m (m + suc q) (omega arith), w.absent (m + suc q) (omega arith))

    -- refining a table of wanted places gives one
    right_more : (d : ℕ) (p : ℕ → ℕ) → 0 < d → ((k : ℕ) → p k ≡ want (k * (2 * d))) → (k : ℕ) → refined K s above q d p k ≡ want (k * d)
    right_more d p pos right k =
        by_halves k
        (λ i e. let f : i * (2 * d) ≡ k * d = sym (ap (λ x. x * d) e ∙ twice i d) in refined_even K s above q d p k i e ∙ right i ∙ ap want f)
        (λ i e. ⊎_elim
        (λ h. refined_past K s above q d p k i e h ∙ sym (w.absent (k * d) h))
        (λ h.
        let l : 2 * i * d ≤ k * d = mul-le-mul_right d (omega arith) in
        let u : k * d ≤ 2 * suc i * d = mul-le-mul_right d (omega arith) in
        let k>0 : 1 * d ≤ k * d = mul-le-mul_right d (omega arith) in
        let lo : p i ≤ want (k * d) = omega (arith, right i, never_falls (i * (2 * d)) (k * d) (omega (arith, twice i d))) in
        let hi : want (k * d) ≤ p (suc i) = omega (arith, right (suc i), never_falls (k * d) (suc i * (2 * d)) (omega (arith, twice (suc i) d))) in
        let b = w.best (k * d) (omega arith) h in
        let from : above.from ≤ p i = omega (arith, right i, w.first, never_falls 0 (i * (2 * d)) (omega arith)) in
        let to : p (suc i) ≤ above.to = omega (arith, right (suc i), under (suc i * (2 * d))) in
        refined_odd K s above q d p k i e h ∙ earliest_finds K L (narrowed (p i) (p (suc i)) b from lo hi to))
        (cases_lt q (k * d)))

    -- so after all levels each place found is the wanted one
    found_right : (n : ℕ) (p : ℕ → ℕ) → ((k : ℕ) → p k ≡ want (k * 2 ^ n)) → (m : ℕ) → found K s above q n p m ≡ want m
    found_right zero p right m = right m ∙ ap want (mul-one m)
    found_right (suc n) p right m = found_right n (refined K s above q (2 ^ n) p) (right_more (2 ^ n) p (pow_pos n) (λ k. right k ∙ ap (λ x. want (k * x)) (pow-succ' 2 n))) m

  -- ---- the reads

  -- each level reads at most as many places as it has searches, and the width of the row; the searches of all levels are at most q
  reads_few : (n : ℕ) (p : ℕ → ℕ) → Rising above.from above.to p → ((k : ℕ) → q < k * 2 ^ n → p k ≡ above.to) → finding_reads K s above q n p + q / 2 ^ n ≤ q + n * (above.to - above.from)
  reads_few zero p r absent = omega (arith, div-one q)
  reads_few (suc n) p r absent =
      let d = 2 ^ n in
      let p' = refined K s above q d p in
      let absent' : (k : ℕ) → q < k * (2 * d) → p k ≡ above.to = λ k. rw (← pow-succ' 2 n) (absent k) in
      let c = (q / d + 1) / 2 in
      let half : q / 2 ^ suc n ≡ q / d / 2 = ap (λ x. q / x) (pow-suc 2 n) ∙ sym (div-div-eq-div-mul q d 2) in
      let t = telescoped K s above q d p c r in
      let more = reads_few n p' (refined_rising K s above q d p r absent') (refined_absent K s above q d p r absent') in
      let m : suc n * (above.to - above.from) ≡ n * (above.to - above.from) + (above.to - above.from) = suc-mul n (above.to - above.from) in
      omega (arith, half, t, more, m, r.within c, r.from)

-- ---- both, of the row behind `above`

module _ (K : Costs) (s : Scale K) (above : Row K) (c : ℕ) (short : c - above.to + 1 < 2 ^ 13) where
  abbrev q : ℕ
  q = c - above.to + 1

  -- the places found are the wanted ones
  pub places_right : Laws K → (want : ℕ → ℕ) → Wanted K s above q want → (m : ℕ) → found K s above q (suc (log2 12 q)) (ends K s above q) m ≡ want m
  places_right L want w = found_right K s above q L want w (suc (log2 12 q)) (ends K s above q) first
    where
      first : (k : ℕ) → ends K s above q k ≡ want (k * 2 ^ suc (log2 12 q))
      first zero = sym (ap want (zero-mul (2 ^ suc (log2 12 q))) ∙ w.first)
      first (suc k) = sym (w.absent _ (omega (arith, log2_high 12 q short, mul-le-mul_right {m = 1} {n = suc k} (2 ^ suc (log2 12 q)) (omega arith))))

  -- and the reads at most one for each place of the row behind, and the width of the row on each level
  pub few_reads : above.from ≤ above.to → next_reads K s above c ≤ q + suc (log2 12 q) * (above.to - above.from)
  few_reads h = omega (arith, reads_few K s above q (suc (log2 12 q)) (ends K s above q) (ends_rising K s above q h) absent)
    where
      absent : (k : ℕ) → q < k * 2 ^ suc (log2 12 q) → ends K s above q k ≡ above.to
      absent zero l = absurd (omega (arith, zero-mul (2 ^ suc (log2 12 q))))
      absent (suc k) l = refl
