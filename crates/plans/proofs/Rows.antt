-- A step from the trail of earliest last cuts: its rows hold least totals, and the cuts traced through them are the trail with one cut more.
use Rattle.std.proofs.Common.{◌≡◌, ℕ, zero, suc, ◌+◌, ◌-◌, ◌<◌, ◌≤◌, cond, ltb, List, [], ◌∷◌, ◌++◌, length, get_or, sym, refl, ap, ◌∙◌, subst, ⊎_elim, arith}
use Rattle.std.proofs.lemmas.List.FromFn.{get_or-map-range_with_len}
use Rattle.std.proofs.lemmas.List.{get_or_append_left, get_or-append_right}
use Rattle.std.proofs.lemmas.Bool.{cases_lt, cond-true, cond-false, lt-ltb, le-ltb}
use Rattle.costs.specs.Costs.{Costs, Laws}
use Rattle.costs.specs.Limits.{largest}
use Rattle.sources.specs.Scales.{Scale, Sound}
use Rattle.plans.specs.Limits.{longest}
use Rattle.plans.specs.Steps.{Row, via, earliest, found, ends, log2, next, first_row, rows_behind, rows, head_or, traced, reached, joined_cells, step}
use Rattle.plans.specs.Theorems.{fenced}
use Rattle.plans.proofs.Earliest.{Earliest, narrowed, agreeing, earliest_finds}
use Rattle.plans.proofs.Bisections.{Wanted, places_right}
use Rattle.plans.proofs.Least.{S, θ, S_zero, S_suc, trail, top, θ_is, θ_to, top_in, θ_rises, window_to, window_from, more_earlier, more_later}
use Rattle.plans.proofs.Shapes.{length-first, length-next}

module _ (K : Costs) (s : Scale K) (e : ℕ) where
  -- the cut before those of `trail n k e`, or 0
  abbrev base : ℕ → ℕ → ℕ
  base zero k = 0
  base (suc n) k = top K s n (suc k) e

  -- row n of a step from the plan with n + k cuts: it lies between two of those cuts, and holds the least totals with n cuts
  pub record RowOf (n k : ℕ) (r : Row K) : Type 0 where
    pub from_is : r.from ≡ base n k
    pub to_is : r.to ≡ top K s n k e
    pub order : r.from ≤ r.to
    pub long : length r.cells ≡ r.to - r.from + 1
    pub holds : (p : ℕ) → r.from ≤ p → p ≤ r.to → get_or r.cells (p - r.from) K.nil ≡ S K s n p

  -- the ends of the rows behind it
  abbrev further : ℕ → ℕ → List ℕ
  further n zero = []
  further n (suc k) = top K s (suc n) k e ∷ further (suc n) k

  further_is : (n k : ℕ) → trail K s (suc n) k e ++ e ∷ [] ≡ further n (suc k)
  further_is n zero = refl
  further_is n (suc k) = ap (λ cs. top K s (suc n) (suc k) e ∷ cs) (further_is (suc n) k)

  -- so the fenced cuts are these
  fenced_is : (n : ℕ) → fenced (trail K s 0 n e) e ≡ 0 ∷ top K s 0 n e ∷ further 0 n
  fenced_is zero = refl
  fenced_is (suc n) = ap (λ cs. 0 ∷ top K s 0 (suc n) e ∷ cs) (further_is 0 n)

  abbrev from_row : ℕ → ℕ → Row K → List (Row K)
  from_row n k r = r ∷ rows_behind K s r (further n k)

  -- the rows of the step
  rows_are : (n : ℕ) → rows K s (trail K s 0 n e) e ≡ from_row 0 n (first_row K s (top K s 0 n e))
  rows_are zero = refl
  rows_are (suc n) = let r = first_row K s (top K s 0 (suc n) e) in ap (λ cs. r ∷ rows_behind K s r cs) (further_is 0 n)

  first_row_of : (n : ℕ) → RowOf 0 n (first_row K s (top K s 0 n e))
  first_row_of n =
      record {
        from_is = refl;
        to_is = refl;
        order = omega arith;
        long = omega (arith, length-first K s (top K s 0 n e));
        holds = λ p h i. get_or-map-range_with_len (s.cost 0) 0 (suc (top K s 0 n e)) (p - 0) p K.nil (omega arith) (omega arith) ∙ sym (S_zero K s p);
      }

  module _ (L : Laws K) (sound : Sound K s largest) (i : e ≤ s.last) where
    base_first : (n k y : ℕ) → n + k ≤ 299 → y ≤ s.last → top K s n k e ≤ y → base n k ≤ θ K s n y
    base_first zero k y h j l = omega arith
    base_first (suc n) k y h j l = window_from K s L sound n k e y (omega arith) j l

    -- on the way to a place whose last cut lies in the row
    module _ {n k : ℕ} {r : Row K} (row : RowOf n k r) (few : n + k ≤ 299) (y : ℕ) (j : y ≤ s.last) (l : top K s n k e ≤ y) (m : θ K s n y ≤ top K s n k e) where
      from_first : r.from ≤ θ K s n y
      from_first = omega (arith, row.from_is, base_first n k y few j l)

      to_last : θ K s n y ≤ r.to
      to_last = omega (arith, row.to_is)

      -- that cut is the earliest least place of the row
      in_row : Earliest K (via K s r y) r.from r.to (θ K s n y)
      in_row =
          agreeing (via K s r y) (narrowed r.from r.to (θ_is K s L n y) (omega arith) from_first to_last (omega (arith, row.to_is)))
          (λ p a b. ap (λ c. K.add c (s.cost p y)) (sym (row.holds p a b)))

      -- and the cost by way of it the least total
      by_row : via K s r y (θ K s n y) ≡ S K s (suc n) y
      by_row = ap (λ c. K.add c (s.cost (θ K s n y) y)) (row.holds (θ K s n y) from_first to_last) ∙ sym (S_suc K s n y)

    -- ---- the row behind a row

    module _ {n k : ℕ} {r : Row K} (row : RowOf n (suc k) r) (few : n + suc k ≤ 299) (short : e ≤ longest) where
      abbrev c : ℕ
      c = top K s (suc n) k e

      abbrev q : ℕ
      q = c - r.to + 1

      -- the place wanted for each number
      abbrev want : ℕ → ℕ
      want zero = r.from
      want (suc m) = cond (ltb m q) (θ K s n (r.to + m)) r.to

      c_in : (r.to ≤ c) × (c ≤ e)
      c_in = omega (arith, row.to_is, θ_to K s L n c, top_in K s L (suc n) k e)

      -- the places of the row behind have their last cuts in the row
      reaches : (y : ℕ) → y ≤ c → θ K s n y ≤ top K s n (suc k) e
      reaches y h = window_to K s L sound n k e y (omega arith) i h

      want_at : (m : ℕ) → m < q → want (suc m) ≡ θ K s n (r.to + m)
      want_at m h = cond-true _ _ r.to (lt-ltb m q h)

      want_past : (m : ℕ) → q ≤ m → want (suc m) ≡ r.to
      want_past m h = cond-false _ (θ K s n (r.to + m)) _ (le-ltb m q h)

      best_at : (m : ℕ) → m < q → Earliest K (via K s r (r.to + m)) r.from r.to (θ K s n (r.to + m))
      best_at m h = in_row row few (r.to + m) (omega (arith, c_in)) (omega (arith, row.to_is)) (reaches (r.to + m) (omega (arith, c_in)))

      rises : (m : ℕ) → want m ≤ want (suc m)
      rises zero = omega (arith, want_at 0 (omega arith), (best_at 0 (omega arith)).from)
      rises (suc m) =
          ⊎_elim
          (λ h. omega (arith, want_at m (omega arith), want_at (suc m) h, θ_rises K s L sound n (r.to + m) (r.to + suc m) (omega arith) (omega arith) (omega (arith, c_in))))
          (λ h. ⊎_elim
          (λ g. omega (arith, want_at m g, want_past (suc m) h, (best_at m g).to))
          (λ g. omega (arith, want_past m g, want_past (suc m) h))
          (cases_lt m q))
          (cases_lt (suc m) q)

      wanted : Wanted K s r q want
      wanted = record { first = refl; absent = absent; rises = rises; best = best }
        where
          absent : (m : ℕ) → q < m → want m ≡ r.to
          absent zero h = absurd (omega arith)
          absent (suc m) h = want_past m (omega arith)

          best : (m : ℕ) → 0 < m → m ≤ q → Earliest K (via K s r (r.to + m - 1)) r.from r.to (want m)
          best zero h l = absurd (omega arith)
          best (suc m) h l =
              let y : r.to + suc m - 1 ≡ r.to + m = omega arith in
              rw (y, want_at m (omega arith)) (best_at m (omega arith))

      cell : (p : ℕ) → r.to ≤ p → p ≤ c → get_or (next K s r c).cells (p - r.to) K.nil ≡ S K s (suc n) p
      cell p h l =
          let m = p - r.to in
          let at : ℕ → ℕ = found K s r q (suc (log2 12 q)) (ends K s r q) in
          let y : r.to + m ≡ p = omega arith in
          let place : at (suc m) ≡ θ K s n p = places_right K s r c (omega (arith, c_in)) L want wanted (suc m) ∙ want_at m (omega arith) ∙ ap (θ K s n) y in
          get_or-map-range_with_len (λ i. via K s r (r.to + i) (at (suc i))) 0 q m m K.nil (omega arith) (omega arith)
          ∙ ap (λ z. via K s r z (at (suc m))) y ∙ ap (via K s r p) place
          ∙ by_row row few p (omega (arith, c_in)) (omega (arith, row.to_is)) (reaches p l)

      next_row_of : RowOf (suc n) k (next K s r c)
      next_row_of = record { from_is = row.to_is; to_is = refl; order = c_in.0; long = length-next K s r c; holds = cell }

    -- ---- the trace

    module _ (short : e ≤ longest) where
      -- the cuts traced through the rows from row n on are the rest of the plan with one cut more
      traced_is : (n k : ℕ) {r : Row K} → RowOf n k r → n + k ≤ 299 → traced K s (from_row n k r) e ≡ trail K s n (suc k) e
      traced_is n zero row few = ap (λ x. x ∷ []) (earliest_finds K L (in_row row few e i (omega arith) (θ_to K s L n e)))
      traced_is n (suc k) {r} row few =
          let y = top K s (suc n) (suc k) e in
          let later = traced_is (suc n) k (next_row_of row few short) (omega arith) in
          let earlier = more_earlier K s L sound (suc n) k e (omega arith) i in
          let here = in_row row few y (omega (arith, top_in K s L (suc n) (suc k) e)) (more_later K s L sound n (suc k) e few i) (window_to K s L sound n k e y (omega arith) i earlier) in
          ap (λ zs. earliest K.le (via K s r (head_or e zs)) r.from (r.to - r.from) ∷ zs) later ∙ ap (λ x. x ∷ trail K s (suc n) (suc k) e) (earliest_finds K L here)

      -- and the least by way of the last row is the least total with one cut more
      reached_is : (N n k : ℕ) {r : Row K} → suc n + k ≡ N → RowOf n k r → n + k ≤ 299 → reached K s (from_row n k r) e ≡ S K s N e
      reached_is N n zero {r} q row few =
          let m : suc n ≡ N = omega arith in
          ap (via K s r e) (earliest_finds K L (in_row row few e i (omega arith) (θ_to K s L n e))) ∙ by_row row few e i (omega arith) (θ_to K s L n e) ∙ ap (λ z. S K s z e) m
      reached_is N n (suc k) q row few = reached_is N (suc n) k (omega arith) (next_row_of row few short) (omega arith)

      -- the whole step
      pub step_trail : (n : ℕ) → n ≤ 299 → (step K s (trail K s 0 n e) e).cuts ≡ trail K s 0 (suc n) e
      step_trail n h = ap (λ rs. traced K s rs e) (rows_are n) ∙ traced_is 0 n (first_row_of n) (omega arith)

      pub step_least : (n : ℕ) → n ≤ 299 → (step K s (trail K s 0 n e) e).total ≡ S K s (suc n) e
      step_least n h = ap (λ rs. reached K s rs e) (rows_are n) ∙ reached_is (suc n) 0 n (omega arith) (first_row_of n) (omega arith)

      -- the cell of the place y in the j-th row from row n on
      cells_least : (n k j y : ℕ) {r : Row K} → RowOf n k r → n + k ≤ 299 → j ≤ k → get_or (r.from ∷ r.to ∷ further n k) j 0 ≤ y → y ≤ get_or (r.to ∷ further n k) j 0
          → (r.from ≤ y) × (get_or (joined_cells (from_row n k r)) (y + j - r.from) K.nil ≡ S K s (n + j) y)
      cells_least n k zero y {r} row few h l m =
          let rest = joined_cells (rows_behind K s r (further n k)) in
          let at : y + 0 - r.from ≡ y - r.from = omega arith in
          let same : n ≡ n + 0 = omega arith in (
            l,
            ap (λ z. get_or (r.cells ++ rest) z K.nil) at ∙ get_or_append_left r.cells rest K.nil (y - r.from) (omega (arith, row.long)) ∙ row.holds y l m ∙ ap (λ z. S K s z y) same,
          )
      cells_least n zero (suc j) y row few h l m = absurd (omega arith)
      cells_least n (suc k) (suc j) y {r} row few h l m =
          let later = cells_least (suc n) k j y (next_row_of row few short) (omega arith) (omega arith) l m in
          let rest = joined_cells (from_row (suc n) k (next K s r (top K s (suc n) k e))) in
          let at : y + suc j - r.from - (r.to - r.from + 1) ≡ y + j - r.to = omega (arith, later.0, row.order) in
          let same : suc n + j ≡ n + suc j = omega arith in (
            omega (arith, later.0, row.order),
            get_or-append_right r.cells rest (r.to - r.from + 1) (y + suc j - r.from) K.nil row.long (omega (arith, later.0, row.order))
                ∙ ap (λ z. get_or rest z K.nil) at ∙ later.1 ∙ ap (λ z. S K s z y) same,
          )

      pub step_cell : (n i y : ℕ) → n ≤ 299 → i ≤ n → get_or (fenced (trail K s 0 n e) e) i 0 ≤ y → y ≤ get_or (fenced (trail K s 0 n e) e) (suc i) 0
          → get_or (step K s (trail K s 0 n e) e).cells (y + i) K.nil ≡ S K s i y
      step_cell n j y h l m o =
          let cells = joined_cells (from_row 0 n (first_row K s (top K s 0 n e))) in
          let at : y + j - 0 ≡ y + j = omega arith in
          let same : 0 + j ≡ j = omega arith in
          let least = (cells_least 0 n j y (first_row_of n) (omega arith) l (subst (λ xs. get_or xs j 0 ≤ y) (fenced_is n) m) (subst (λ xs. y ≤ get_or xs (suc j) 0) (fenced_is n) o)).1 in
          ap (λ rs. get_or (joined_cells rs) (y + j) K.nil) (rows_are n) ∙ ap (λ z. get_or cells z K.nil) (sym at) ∙ least ∙ ap (λ z. S K s z y) same
