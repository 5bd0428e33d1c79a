-- The trace through the rows of a step, from the last row to the first.
use Rattle.std.proofs.Common.{◌≡◌, ℕ, ◌+◌, ◌-◌, ◌<◌, ◌≤◌, List, [], ◌∷◌, ◌++◌, map, length, get_or, take, drop, set, sym, refl, ap, ◌∙◌, subst, arith}
use Rattle.std.proofs.lemmas.List.{append_assoc, take-append-drop, take_at, drop_at, drop-drop, drop_more, drop_all, drop-set, length-set, length_push, take-map, drop-map}
use Rattle.costs.specs.Costs.{Costs}
use Rattle.costs.specs.declared.kind.Kind as kind
use Rattle.sources.specs.Scales.{Scale}
use Rattle.plans.specs.Plans.{Plan}
use Rattle.plans.specs.Steps.{Row, via, earliest, next, first_row, rows_behind, rows, head_or, traced, traced_reads, reached, joined_cells}
use Rattle.plans.specs.Theorems.{fenced}
use Rattle.plans.proofs.Earliest.{earliest_within}
use Rattle.plans.proofs.Shapes.{length-first, length-next}
use Rattle.rows.specs.Rows.{Least}
use Rattle.steps.specs.Left.{row_in}
use Rattle.steps.proofs.Fences.{fence_next, fence_order}

-- ---- rows cut out of a list of costs

-- the rows from place a to each of these places in turn, one behind the other
abbrev pub cut : {K : Costs} → ℕ → List ℕ → List K.Cost → List (Row K)
cut a [] cs = []
cut a (b ∷ bs) cs = record { from = a; to = b; cells = take (b - a + 1) cs } ∷ cut b bs (drop (b - a + 1) cs)

module _ (K : Costs) (s : Scale K) where
  -- the row `above` in front of rows that are cut
  cut_one : (above : Row K) (bs : List ℕ) (more : List K.Cost) → length above.cells ≡ above.to - above.from + 1
      → rows_behind K s above bs ≡ cut above.to bs (joined_cells (rows_behind K s above bs) ++ more)
      → above ∷ rows_behind K s above bs ≡ cut above.from (above.to ∷ bs) (joined_cells (above ∷ rows_behind K s above bs) ++ more)
  cut_one above bs more long behind =
      let w = above.to - above.from + 1 in
      let J = joined_cells (rows_behind K s above bs) in
      let whole = append_assoc above.cells J more in
      let own : take w ((above.cells ++ J) ++ more) ≡ above.cells = ap (take w) whole ∙ take_at above.cells (J ++ more) w long in
      let left : drop w ((above.cells ++ J) ++ more) ≡ J ++ more = ap (drop w) whole ∙ drop_at above.cells (J ++ more) w long in
      ap (λ rs. above ∷ rs) behind
      ∙ sym (ap (λ zs. record { from = above.from; to = above.to; cells = zs } ∷ cut above.to bs (drop w ((above.cells ++ J) ++ more))) own
      ∙ ap (λ zs. above ∷ cut above.to bs zs) left)

  cut_behind : (above : Row K) (bs : List ℕ) (more : List K.Cost) → length above.cells ≡ above.to - above.from + 1
      → above ∷ rows_behind K s above bs ≡ cut above.from (above.to ∷ bs) (joined_cells (above ∷ rows_behind K s above bs) ++ more)
  cut_behind above [] more long = cut_one above [] more long refl
  cut_behind above (c ∷ bs) more long = cut_one above (c ∷ bs) more long (cut_behind (next K s above c) bs more (length-next K s above c))

  -- the rows of a step are those cut out of the costs that begin with them
  pub rows_cut : (held : List ℕ) (end n : ℕ) (cs : List K.Cost) → take n cs ≡ joined_cells (rows K s held end) → rows K s held end ≡ cut 0 (held ++ end ∷ []) cs
  rows_cut held end n cs e = all held ∙ ap (cut 0 (held ++ end ∷ [])) (ap (λ xs. xs ++ drop n cs) (sym e) ∙ take-append-drop n cs)
    where
      long : (x : ℕ) → length (first_row K s x).cells ≡ x - 0 + 1
      long x = omega (arith, length-first K s x)

      all : (xs : List ℕ) → rows K s xs end ≡ cut 0 (xs ++ end ∷ []) (joined_cells (rows K s xs end) ++ drop n cs)
      all [] = cut_behind (first_row K s end) [] (drop n cs) (long end)
      all (x ∷ xs) = cut_behind (first_row K s x) (xs ++ end ∷ []) (drop n cs) (long x)

-- ---- the rows from row i on

module _ (K : Costs) (s : Scale K) (held : List ℕ) (end : ℕ) (cs : List K.Cost) where
  abbrev fence : ℕ → ℕ
  fence i = get_or (fenced held end) i 0

  abbrev row : ℕ → Row K
  row i = record { from = fence i; to = fence (i + 1); cells = take (fence (i + 1) - fence i + 1) (drop (fence i + i) cs) }

  abbrev from_row : ℕ → List (Row K)
  from_row i = cut (fence i) (drop i (held ++ end ∷ [])) (drop (fence i + i) cs)

  -- what the trace holds when the rows from row i on are behind it
  pub record Tracing (cuts : List ℕ) (i to reads : ℕ) (total : K.Cost) : Type 0 where
    pub place : to ≡ head_or end (traced K s (from_row i) end)
    pub room : length cuts ≡ length held + 1
    pub found : drop i cuts ≡ traced K s (from_row i) end
    pub cost : total ≡ reached K s (from_row i) end
    pub read : reads ≡ traced_reads (from_row i)
    pub few : reads + fence i ≤ end + (length held + 1 - i)
    pub from : fence i ≤ to
    pub within : to ≤ end

  module _ (plan : Plan 0 held end) where
    row_first : (i : ℕ) → i ≤ length held → from_row i ≡ row i ∷ from_row (i + 1)
    row_first i h =
        let o = fence_order held end plan i h in
        let at : fence i + i + (fence (i + 1) - fence i + 1) ≡ fence (i + 1) + (i + 1) = omega arith in
        let next-is : drop i (held ++ end ∷ []) ≡ fence (i + 1) ∷ drop (i + 1) (held ++ end ∷ []) =
        drop_more (held ++ end ∷ []) i 0 (omega (arith, length_push held end)) ∙ ap (λ z. z ∷ drop (i + 1) (held ++ end ∷ [])) (sym (fence_next held end i)) in
        ap (λ zs. cut (fence i) zs (drop (fence i + i) cs)) next-is
        ∙ ap (λ zs. row i ∷ cut (fence (i + 1)) (drop (i + 1) (held ++ end ∷ [])) zs) (drop-drop (fence (i + 1) - fence i + 1) (fence i + i) cs ∙ ap (λ z. drop z cs) at)

    -- one row more, on the way to the place `to`
    module _ {i to at n : ℕ} {v : K.Cost} (h : i ≤ length held) (l : Least K s (row i) (fence i) (fence (i + 1)) to at v n) (y : to ≡ head_or end (traced K s (from_row (i + 1)) end)) where
      traced_is : traced K s (from_row i) end ≡ at ∷ traced K s (from_row (i + 1)) end
      traced_is =
          let at-is : at ≡ earliest K.le (via K s (row i) (head_or end (traced K s (from_row (i + 1)) end))) (fence i) (fence (i + 1) - fence i) =
          l.place ∙ ap (λ z. earliest K.le (via K s (row i) z) (fence i) (fence (i + 1) - fence i)) y in
          ap (λ rs. traced K s rs end) (row_first i h) ∙ ap (λ z. z ∷ traced K s (from_row (i + 1)) end) (sym at-is)

      place_is : at ≡ head_or end (traced K s (from_row i) end)
      place_is = sym (ap (head_or end) traced_is)

      lies : (fence i ≤ at) × (at ≤ fence (i + 1))
      lies = let w = earliest_within K.le (via K s (row i) to) (fence i) (fence (i + 1) - fence i) in omega (arith, w, l.place, fence_order held end plan i h)

      counted : traced_reads (from_row i) ≡ n + traced_reads (from_row (i + 1))
      counted = ap traced_reads (row_first i h) ∙ ap (λ z. z + traced_reads (from_row (i + 1))) (sym l.reads)

    -- the last row
    pub tracing_first : {i at n : ℕ} {v : K.Cost} → i ≡ length held → Least K s (row i) (fence i) (fence (i + 1)) end at v n → Tracing (held ++ at ∷ []) i at n v
    tracing_first {i} {at} {n} {v} e l =
        let h : i ≤ length held = omega arith in
        let none : from_row (i + 1) ≡ [] = ap (λ zs. cut (fence (i + 1)) zs (drop (fence (i + 1) + (i + 1)) cs)) (drop_all (i + 1) (held ++ end ∷ []) (omega (arith, length_push held end))) in
        let y : end ≡ head_or end (traced K s (from_row (i + 1)) end) = sym (ap (λ rs. head_or end (traced K s rs end)) none) in
        let alone : from_row i ≡ row i ∷ [] = row_first i h ∙ ap (λ rs. row i ∷ rs) none in
        record {
          place = place_is h l y;
          room = length_push held at;
          found = drop_at held (at ∷ []) i (sym e) ∙ sym (traced_is h l y ∙ ap (λ rs. at ∷ traced K s rs end) none);
          cost = l.value ∙ ap (via K s (row i) end) l.place ∙ sym (ap (λ rs. reached K s rs end) alone);
          read = omega (arith, counted h l y, ap traced_reads none);
          few = omega (arith, l.reads, fence_order held end plan i h);
          from = (lies h l y).0;
          within = omega (arith, lies h l y, fence_order held end plan i h);
        }

    -- and each one before it
    pub tracing_more : {cuts : List ℕ} {i j to reads at n : ℕ} {total v : K.Cost} → j ≡ i + 1 → i < length held → Tracing cuts j to reads total → Least K s (row i) (fence i) (fence (i + 1)) to at v n → Tracing (set cuts i at) i at (reads + n) total
    tracing_more {cuts} {i} {j} {to} {reads} {at} {n} {total} {v} j-is less before l =
        let t : Tracing cuts (i + 1) to reads total = subst (λ z. Tracing cuts z to reads total) j-is before in
        let h : i ≤ length held = omega arith in
        let two : from_row i ≡ row i ∷ row (i + 1) ∷ from_row (i + 1 + 1) = row_first i h ∙ ap (λ rs. row i ∷ rs) (row_first (i + 1) (omega arith)) in
        record {
          place = place_is h l t.place;
          room = length-set cuts i at ∙ t.room;
          found = drop-set cuts i at (omega (arith, t.room)) ∙ ap (λ zs. at ∷ zs) t.found ∙ sym (traced_is h l t.place);
          cost = t.cost ∙ ap (λ rs. reached K s rs end) (row_first (i + 1) (omega arith)) ∙ sym (ap (λ rs. reached K s rs end) two);
          read = omega (arith, counted h l t.place, t.read);
          few = omega (arith, t.few, l.reads, fence_order held end plan i h);
          from = (lies h l t.place).0;
          within = omega (arith, lies h l t.place, fence_order held end plan i h);
        }

-- row i of a step, in the values and in their costs
pub row_is : {V : Type 0} (k : kind.Ghosts V) (s : Scale k.costs) (held : List ℕ) (end i : ℕ) (vs : List V) → row_in k held end i vs ≡ row k.costs s held end (map k.means vs) i
row_is k s held end i vs =
    let a = get_or (fenced held end) i 0 in
    let b = get_or (fenced held end) (i + 1) 0 in
    ap (λ zs. record { from = a; to = b; cells = zs }) (sym (ap (take (b - a + 1)) (drop-map k.means (a + i) vs) ∙ take-map k.means (b - a + 1) (drop (a + i) vs)))
