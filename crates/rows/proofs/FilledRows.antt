-- A whole row: the levels one after another, from the largest power of two not above q down to 1.
use Rattle.std.proofs.Common.{◌≡◌, ℕ, zero, suc, ◌+◌, ◌-◌, ◌*◌, ◌^◌, ◌<◌, ◌≤◌, List, length, get_or, sym, ap, ◌∙◌, subst, mul-le-mul_right, zero-add, zero-mul, arith}
use mathlib.Core.Path.{fun_ext}
use native.Mathlib.Nat.{pow-succ'}
use Rattle.std.proofs.lemmas.List.FromFn.{length-map-range_with_len, get_or-map-range_with_len}
use Rattle.std.proofs.lemmas.List.{ext_get_or}
use Rattle.costs.specs.Costs.{Costs}
use Rattle.sources.specs.Scales.{Scale}
use Rattle.plans.specs.Steps.{Rising, Row, via, tabled, ends, refined, found, finding_reads, log2}
use Rattle.plans.proofs.Logs.{log2_high, log2_most}
use Rattle.plans.proofs.Tables.{ends_rising}
use Rattle.rows.specs.Filled.{table, Worked, Level, Costed}
use Rattle.rows.proofs.Places.{kept_zero, kept_absent}

module _ (K : Costs) (s : Scale K) (above : Row K) (q : ℕ) where
  -- how many levels there are
  abbrev all : ℕ
  all = suc (log2 12 q)

  -- the multiples of 2 ^ n are worked
  pub record Going (places : List ℕ) (cells : List K.Cost) (reads n : ℕ) : Type 0 where
    pub room : length places ≡ q
    pub few : reads + n * 8193 ≤ 13 * 8193
    pub worked : Worked K s above q (2 ^ n) (table above places (2 ^ n)) cells
    pub placed : found K s above q n (table above places (2 ^ n)) ≡ found K s above q all (ends K s above q)
    pub read : reads + finding_reads K s above q n (table above places (2 ^ n)) ≡ finding_reads K s above q all (ends K s above q)

  -- before the first level no number is kept
  first_table : (ps : List ℕ) (top : ℕ) → length ps < top → table above ps top ≡ ends K s above q
  first_table ps top h = fun_ext each
    where
      each : (k : ℕ) → table above ps top k ≡ ends K s above q k
      each zero = kept_zero above.from above.to ps (0 * top) (zero-mul top)
      each (suc j) =
          let l : 1 * top ≤ suc j * top = mul-le-mul_right top (omega arith) in
          kept_absent above.from above.to ps (suc j * top) (omega arith)

  first_worked : (top : ℕ) (ps : List ℕ) (cells : List K.Cost) → above.from ≤ above.to → length ps ≡ q → q < top → Worked K s above q top (table above ps top) cells
  first_worked top ps cells h e l =
      record {
        rising = subst (Rising above.from above.to) (sym (first_table ps top (omega arith))) (ends_rising K s above q h);
        costs = λ k p m. absurd (omega (arith, mul-le-mul_right top p));
      }

-- the cells of a row
row_filled : (K : Costs) (s : Scale K) (above : Row K) (q : ℕ) (p : ℕ → ℕ) (cells : List K.Cost) → Worked K s above q 1 p cells → length cells ≡ q → cells ≡ tabled (λ i. via K s above (above.to + i) (p (suc i))) 0 q
row_filled K s above q p cells work long =
    let g : ℕ → K.Cost = λ i. via K s above (above.to + i) (p (suc i)) in
    ext_get_or K.nil cells (tabled g 0 q) (long ∙ sym (length-map-range_with_len g 0 q))
    (λ i l.
    let e : suc i * 1 - 1 ≡ i = omega arith in
    let f : above.to + suc i * 1 - 1 ≡ above.to + i = omega arith in
    ap (λ x. get_or cells x K.nil) (sym e) ∙ work.costs (suc i) (omega arith) (omega arith) ∙ ap (λ y. via K s above y (p (suc i))) f ∙ sym (get_or-map-range_with_len g 0 q i i K.nil (omega arith) (zero-add i)))

module _ {K : Costs} {s : Scale K} {above : Row K} {q : ℕ} where
  pub going_first : {places : List ℕ} {cells : List K.Cost} → 0 < q → q ≤ 4097 → above.from ≤ above.to → length places ≡ q → Going K s above q places cells 0 (suc (log2 12 q))
  going_first {places} {cells} h m l e =
      let top : q < 2 ^ suc (log2 12 q) = log2_high 12 q (omega arith) in
      let first = first_table K s above q places (2 ^ suc (log2 12 q)) (omega arith) in
      record {
        room = e;
        few = omega (arith, log2_most 12 q);
        worked = first_worked K s above q (2 ^ suc (log2 12 q)) places cells l e top;
        placed = ap (found K s above q (suc (log2 12 q))) first;
        read = zero-add _ ∙ ap (finding_reads K s above q (suc (log2 12 q))) first;
      }

  -- what the next level asks
  pub going_asks : {places : List ℕ} {cells : List K.Cost} {reads i d : ℕ} → d ≡ 2 ^ i → Going K s above q places cells reads (suc i) → Worked K s above q (2 * d) (table above places (2 * d)) cells
  going_asks {places} {cells} {i = i} {d} e go =
      let twice : 2 ^ suc i ≡ 2 * d = omega (arith, pow-succ' 2 i) in
      subst (λ x. Worked K s above q x (table above places x) cells) twice go.worked

  -- and what it leaves
  pub going_more : {places places' : List ℕ} {cells cells' : List K.Cost} {reads i d r : ℕ} → d ≡ 2 ^ i → length places' ≡ q → Going K s above q places cells reads (suc i) → Level K s above q d places places' cells' r → Going K s above q places' cells' (reads + r) i
  going_more {places} {places'} {cells} {cells'} {reads} {i} {d} {r} e room go level =
      let twice : 2 * d ≡ 2 ^ suc i = omega (arith, pow-succ' 2 i) in
      let found' : table above places' (2 ^ i) ≡ refined K s above q (2 ^ i) (table above places (2 ^ suc i)) = rw (twice, e) at level.found in
      let read' = rw (twice, e) at level.reads in
      record {
        room = room;
        few = omega (arith, go.few, level.few);
        worked = rw e at level.worked;
        placed = ap (found K s above q i) found' ∙ go.placed;
        read = omega (arith, ap (finding_reads K s above q i) found', go.read, read');
      }

  pub going_last : {places : List ℕ} {cells : List K.Cost} {reads : ℕ} (c : ℕ) → Going K s above q places cells reads 0 → length cells ≡ q → q ≡ c - above.to + 1 → Costed s above c cells reads
  going_last {places} {cells} {reads} c go long wide =
      let row : ℕ → List K.Cost = λ z. tabled (λ i. via K s above (above.to + i) (found K s above z (all K s above z) (ends K s above z) (suc i))) 0 z in
      record {
        row = row_filled K s above q (table above places 1) cells go.worked long ∙ ap (λ p. tabled (λ i. via K s above (above.to + i) (p (suc i))) 0 q) go.placed ∙ ap row wide;
        reads = omega (arith, go.read, ap (λ z. finding_reads K s above z (all K s above z) (ends K s above z)) wide);
      }
