-- The rows of a step laid one behind the other: the first so far, and those still to come.
use Rattle.std.proofs.Common.{◌≡◌, ℕ, suc, ◌+◌, ◌-◌, ◌*◌, ◌<◌, ◌≤◌, List, [], ◌∷◌, ◌++◌, map, length, take, drop, sym, refl, ap, ◌∙◌, subst, mul-le-mul_right, arith}
use Rattle.std.proofs.lemmas.List.{append-nil, append_assoc, map-append, drop-drop, drop_more, drop_all, drop-take, take_all, take_at, drop_at, get_or_push, length_push}
use Rattle.std.proofs.Math.Seq.{take-append-add, drop-append-add}
use Rattle.costs.specs.Costs.{Costs}
use Rattle.costs.specs.declared.kind.Kind as kind
use Rattle.sources.specs.Scales.{Scale}
use Rattle.plans.specs.Limits.{longest}
use Rattle.plans.specs.Plans.{Plan}
use Rattle.plans.specs.Steps.{Row, next, next_reads, log2, first_row, rows_behind, rows, behind_reads, rows_reads, joined_cells, tabled}
use Rattle.plans.proofs.Bisections.{few_reads}
use Rattle.plans.proofs.Logs.{log2_most}
use Rattle.rows.specs.Filled.{Filled}
use Rattle.steps.specs.Left.{fence, row_in}
use Rattle.steps.proofs.Fences.{fence_next, fence_order}

-- lists that agree from m on agree from a later place on
pub agree_behind : {V : Type 0} (m n : ℕ) (xs ys : List V) → m ≤ n → drop m xs ≡ drop m ys → drop n xs ≡ drop n ys
agree_behind m n xs ys h e =
    let split : m + (n - m) ≡ n = omega arith in
    subst (λ z. drop z xs ≡ drop z ys) split (sym (drop-drop (n - m) m xs) ∙ ap (drop (n - m)) e ∙ drop-drop (n - m) m ys)

-- and so do lists that begin alike
pub agree_after : {V : Type 0} (m n : ℕ) (xs ys zs : List V) → length xs + m ≤ n → drop m ys ≡ drop m zs → drop n (xs ++ ys) ≡ drop n (xs ++ zs)
agree_after m n xs ys zs h e = agree_behind (length xs + m) n (xs ++ ys) (xs ++ zs) h (drop-append-add xs ys m ∙ e ∙ sym (drop-append-add xs zs m))

-- a part that ends where the first of two lists does lies in it
part_of : {V : Type 0} (m w : ℕ) (xs ys : List V) → length xs ≡ m + w → take w (drop m (xs ++ ys)) ≡ take w (drop m xs)
part_of m w xs ys long = sym (drop-take m w (xs ++ ys)) ∙ ap (drop m) (take_at xs ys (m + w) long ∙ sym (take_all (m + w) xs (omega arith))) ∙ drop-take m w xs

-- a row up to 4,096 places wide is filled with few reads
row_few : (K : Costs) (s : Scale K) (above : Row K) (c : ℕ) → above.from ≤ above.to → above.to ≤ c → c ≤ longest → next_reads K s above c ≤ 60000
row_few K s above c h i j =
    let q = c - above.to + 1 in
    let w = above.to - above.from in
    let levels : suc (log2 12 q) * w ≤ 13 * w = mul-le-mul_right w (omega (arith, log2_most 12 q)) in
    omega (arith, few_reads K s above c (omega arith) h)

-- the rows of a step are the first one and those behind it
module _ (K : Costs) (s : Scale K) (end : ℕ) where
  rows_are : (held : List ℕ) → let r = first_row K s (fence held end 1) in rows K s held end ≡ r ∷ rows_behind K s r (drop 1 (held ++ end ∷ []))
  rows_are [] = refl
  rows_are (x ∷ xs) = refl

  reads_are : (held : List ℕ) → let r = first_row K s (fence held end 1) in rows_reads K s held end ≡ fence held end 1 + 1 + behind_reads K s r (drop 1 (held ++ end ∷ []))
  reads_are [] = omega arith
  reads_are (x ∷ xs) = refl

module _ {V : Type 0} (k : kind.Ghosts V) (s : Scale k.costs) (held : List ℕ) (end : ℕ) where
  -- where the rows behind row i end
  abbrev to_come : ℕ → List ℕ
  to_come i = drop (i + 1) (held ++ end ∷ [])

  -- rows 0 to i stand in the values
  pub record Laid (vs : List V) (i reads : ℕ) : Type 0 where
    pub cells : map k.means (take (fence held end (i + 1) + i + 1) vs) ++ joined_cells (rows_behind k.costs s (row_in k held end i vs) (to_come i)) ≡ joined_cells (rows k.costs s held end)
    pub read : reads + behind_reads k.costs s (row_in k held end i vs) (to_come i) ≡ rows_reads k.costs s held end
    pub few : reads ≤ (i + 1) * 60000

module _ {V : Type 0} {k : kind.Ghosts V} {s : Scale k.costs} {held : List ℕ} {end : ℕ} (plan : Plan 0 held end) (short : end ≤ longest) where
  -- row 0 is filled
  pub laid_first : (new rest : List V) {n : ℕ} → n ≡ suc (fence held end 1) → map k.means new ≡ tabled (s.cost 0) 0 n → length new ≡ n → Laid k s held end (new ++ rest) 0 n
  laid_first new rest {n} e filled long =
      let K = k.costs in
      let b = fence held end 1 in
      let costs : map k.means new ≡ (first_row K s b).cells = rw e at filled in
      let front : take (b + 0 + 1) (new ++ rest) ≡ new = take_at new rest (b + 0 + 1) (omega arith) in
      let own : take (b - 0 + 1) (new ++ rest) ≡ new = take_at new rest (b - 0 + 1) (omega arith) in
      let row : row_in k held end 0 (new ++ rest) ≡ first_row K s b = ap (λ cs. record { from = 0; to = b; cells = cs }) (ap (map k.means) own ∙ costs) in
      let later = joined_cells (rows_behind K s (row_in k held end 0 (new ++ rest)) (to_come k s held end 0)) in
      record {
        cells = ap (λ zs. map k.means zs ++ later) front ∙ ap (λ zs. zs ++ later) costs
            ∙ ap (λ r. (first_row K s b).cells ++ joined_cells (rows_behind K s r (to_come k s held end 0))) row ∙ sym (ap joined_cells (rows_are K s end held));
        read = omega (arith, e, ap (λ r. behind_reads K s r (to_come k s held end 0)) row, reads_are K s end held);
        few = omega (arith, e, fence_order held end plan 0 (omega arith));
      }

  module _ {i reads : ℕ} where
    -- the next row is filled, in what stood behind the rows so far
    pub laid_more : (xs ys zs : List V) {c n : ℕ} → i < length held → length xs ≡ fence held end (i + 1) + i + 1 → Laid k s held end (xs ++ ys) i reads
        → c ≡ fence held end (i + 1 + 1) → Filled k s (row_in k held end i xs) c ys zs n → Laid k s held end (xs ++ zs) (i + 1) (reads + n)
    laid_more xs ys zs {c} {n} more long l c-is filled =
        let K = k.costs in
        let means = k.means in
        let a = fence held end i in
        let b = fence held end (i + 1) in
        let order = fence_order held end plan i (omega arith) in
        let order' = fence_order held end plan (i + 1) (omega arith) in
        let f = subst (λ z. Filled k s (row_in k held end i xs) z ys zs n) c-is filled in
        let d = fence held end (i + 1 + 1) in
        let above = row_in k held end i xs in
        let rest = to_come k s held end (i + 1) in
        let come : to_come k s held end i ≡ d ∷ rest = drop_more (held ++ end ∷ []) (i + 1) 0 (omega (arith, length_push held end)) ∙ ap (λ z. z ∷ rest) (sym (fence_next held end (i + 1))) in
        let at : b + (i + 1) ≡ b + i + 1 = omega arith in
        let wide : d + (i + 1) + 1 ≡ length xs + (d - b + 1) = omega (arith, order') in
        -- row i is where it was
        let front : take (b + i + 1) (xs ++ ys) ≡ xs = take_at xs ys (b + i + 1) long in
        let same : row_in k held end i (xs ++ ys) ≡ above = ap (λ cs. record { from = a; to = b; cells = map means cs }) (part_of (a + i) (b - a + 1) xs ys (omega (arith, order))) in
        -- and the next one behind it
        let own : map means (take (d - b + 1) (drop (b + (i + 1)) (xs ++ zs))) ≡ (next K s above d).cells = ap (λ cs. map means (take (d - b + 1) cs)) (drop_at xs zs (b + (i + 1)) (omega arith)) ∙ f.row in
        let row : row_in k held end (i + 1) (xs ++ zs) ≡ next K s above d = ap (λ cs. record { from = b; to = d; cells = cs }) own in
        let split : map means (take (d + (i + 1) + 1) (xs ++ zs)) ≡ map means xs ++ (next K s above d).cells =
        ap (λ z. map means (take z (xs ++ zs))) wide ∙ ap (map means) (take-append-add xs zs (d - b + 1)) ∙ map-append means xs (take (d - b + 1) zs) ∙ ap (λ cs. map means xs ++ cs) f.row in
        let before = rw (front, same, come) at l.cells in
        let read = rw (same, come) at l.read in
        record {
          cells = ap (λ cs. cs ++ joined_cells (rows_behind K s (row_in k held end (i + 1) (xs ++ zs)) rest)) split
              ∙ ap (λ r. (map means xs ++ (next K s above d).cells) ++ joined_cells (rows_behind K s r rest)) row
              ∙ append_assoc (map means xs) (next K s above d).cells (joined_cells (rows_behind K s (next K s above d) rest)) ∙ before;
          read = omega (arith, f.reads, ap (λ r. behind_reads K s r rest) row, read);
          few = omega (arith, l.few, f.reads, row_few K s above d order.0 order'.0 (omega (arith, order')));
        }

    -- all rows are filled
    pub laid_last : {vs : List V} → i ≡ length held → Laid k s held end vs i reads → (map k.means (take (end + length held + 1) vs) ≡ joined_cells (rows k.costs s held end)) × (reads ≡ rows_reads k.costs s held end)
    laid_last {vs} e l =
        let K = k.costs in
        let cur = row_in k held end i vs in
        let none : to_come k s held end i ≡ [] = drop_all (i + 1) (held ++ end ∷ []) (omega (arith, length_push held end)) in
        let to : fence held end (i + 1) + i + 1 ≡ end + length held + 1 = omega (arith, fence_next held end i, get_or_push held end 0 i (sym e)) in
        let cells = subst (λ zs. map k.means (take (fence held end (i + 1) + i + 1) vs) ++ joined_cells (rows_behind K s cur zs) ≡ joined_cells (rows K s held end)) none l.cells in
        let read = subst (λ zs. reads + behind_reads K s cur zs ≡ rows_reads K s held end) none l.read in
        (ap (λ z. map k.means (take z vs)) (sym to) ∙ sym (append-nil (map k.means (take (fence held end (i + 1) + i + 1) vs))) ∙ cells, omega arith)
