-- One step: from the held cuts to one cut more, with the rows that it fills and the costs that it reads.
-- It is defined for every list of held cuts that is a plan, and for all costs.
use Rattle.std.specs.Prelude.{◌≡◌, ℕ, zero, suc, ◌+◌, ◌-◌, ◌*◌, ◌/◌, ◌%◌, ◌^◌, ◌≤◌, Bool, cond, List, [], ◌∷◌, ◌++◌, map, length, drop, ◌==◌, nat_le, slice_index_or}
use Rattle.std.specs.List.{range_with_len, flat_map}
use Rattle.costs.specs.Costs.{Costs}
use Rattle.sources.specs.Scales.{Scale}

-- the earliest of the places lo to lo + k at which g is least
abbrev pub earliest : {C : Type 0} → (C → C → Bool) → (ℕ → C) → ℕ → ℕ → ℕ
earliest le g lo zero = lo
earliest le g lo (suc k) =
    let b = earliest le g lo k in
    cond (le (g b) (g (lo + suc k))) b (lo + suc k)

-- the values of g at the k places from x on
abbrev pub tabled : {C : Type 0} → (ℕ → C) → ℕ → ℕ → List C
tabled g x k = map g (range_with_len x k)

-- a row: its first and its last place, and a cell for each place from one to the other
pub record Row (K : Costs) : Type 0 where
  pub from : ℕ
  pub to : ℕ
  pub cells : List K.Cost

-- the row's cell at the place p, and then the class from p to y
abbrev pub via : (K : Costs) → Scale K → Row K → ℕ → ℕ → K.Cost
via K s r y p = K.add (slice_index_or r.cells (p - r.from) K.nil) (s.cost p y)

-- The places found in the row `above` for the q places of the row behind it, which are numbered from 1: number m stands for the place above .to + m - 1.
-- A table gives for each k the place found for the number k * d. Number 0 counts as found at the first place of `above`, and a number past q at its last.
module _ (K : Costs) (s : Scale K) (above : Row K) (q : ℕ) where
  -- the table before any place is looked for, for a d above q
  abbrev pub ends : ℕ → ℕ
  ends zero = above.from
  ends (suc k) = above.to

  -- from the table p for 2 * d to that for d: an even multiple of d is there already, and an odd one is looked for from one of its neighbours to the other
  abbrev pub refined : ℕ → (ℕ → ℕ) → ℕ → ℕ
  refined d p k =
      cond (k % 2 == 0) (p (k / 2))
      (cond (nat_le (k * d) q) (earliest K.le (via K s above (above.to + k * d - 1)) (p (k / 2)) (p (suc (k / 2)) - p (k / 2))) above.to)

  -- the reads that find the first i of those: one for each place from one neighbour to the other
  abbrev pub between_reads : (ℕ → ℕ) → ℕ → ℕ
  between_reads p zero = 0
  between_reads p (suc i) = between_reads p i + (p (suc i) - p i + 1)

  -- from the table for 2 ^ n to that for 1, by tables for 2 ^ (n - 1), and so on down
  abbrev pub found : ℕ → (ℕ → ℕ) → ℕ → ℕ
  found zero p = p
  found (suc n) p = found n (refined (2 ^ n) p)

  -- the reads that find all those: up to q there are (q / d + 1) / 2 odd multiples of d
  abbrev pub finding_reads : ℕ → (ℕ → ℕ) → ℕ
  finding_reads zero p = 0
  finding_reads (suc n) p = between_reads p ((q / 2 ^ n + 1) / 2) + finding_reads n (refined (2 ^ n) p)

-- a table from a on whose places never fall and never pass b
pub record Rising (a b : ℕ) (p : ℕ → ℕ) : Type 0 where
  pub from : p 0 ≡ a
  pub rises : (k : ℕ) → p k ≤ p (suc k)
  pub within : (k : ℕ) → p k ≤ b

-- the largest j up to f with 2 ^ j at most q, where q is at least 1; for the places of a row, at most 4,097 of them, an f of 12 is enough
abbrev pub log2 : ℕ → ℕ → ℕ
log2 zero q = 0
log2 (suc f) q = cond (nat_le (2 ^ suc f) q) (suc f) (log2 f q)

-- the row behind `above`, from its last place to the place c: at each place the least by way of a place of `above`, as found above
abbrev pub next : (K : Costs) → Scale K → Row K → ℕ → Row K
next K s above c =
    let q = c - above.to + 1 in
    let at = found K s above q (suc (log2 12 q)) (ends K s above q) in
    record { from = above.to; to = c; cells = tabled (λ i. via K s above (above.to + i) (at (suc i))) 0 q }

-- the reads that fill it
abbrev pub next_reads : (K : Costs) → Scale K → Row K → ℕ → ℕ
next_reads K s above c = let q = c - above.to + 1 in finding_reads K s above q (suc (log2 12 q)) (ends K s above q)

-- the row from place 0 to the place x: the classes from 0
abbrev pub first_row : (K : Costs) → Scale K → ℕ → Row K
first_row K s x = record { from = 0; to = x; cells = tabled (s.cost 0) 0 (suc x) }

-- the rows behind `above`, up to each of these places in turn
abbrev pub rows_behind : (K : Costs) → Scale K → Row K → List ℕ → List (Row K)
rows_behind K s above [] = []
rows_behind K s above (c ∷ cs) = let r = next K s above c in r ∷ rows_behind K s r cs

-- the rows of a step: from 0 to the first held cut, from each held cut to the next, and from the last to e
abbrev pub rows : (K : Costs) → Scale K → List ℕ → ℕ → List (Row K)
rows K s [] e = first_row K s e ∷ []
rows K s (x ∷ xs) e = let r = first_row K s x in r ∷ rows_behind K s r (xs ++ e ∷ [])

-- the reads that fill the rows behind `above`
abbrev pub behind_reads : (K : Costs) → Scale K → Row K → List ℕ → ℕ
behind_reads K s above [] = 0
behind_reads K s above (c ∷ cs) = next_reads K s above c + behind_reads K s (next K s above c) cs

-- the reads that fill the rows of a step
abbrev pub rows_reads : (K : Costs) → Scale K → List ℕ → ℕ → ℕ
rows_reads K s [] e = e + 1
rows_reads K s (x ∷ xs) e = x + 1 + behind_reads K s (first_row K s x) (xs ++ e ∷ [])

-- the first of the cuts, or e where there is none
abbrev pub head_or : ℕ → List ℕ → ℕ
head_or e [] = e
head_or e (x ∷ xs) = x

-- the new cuts, from the last to the first: one in each row, the earliest least place on the way to the cut behind it
abbrev pub traced : (K : Costs) → Scale K → List (Row K) → ℕ → List ℕ
traced K s [] e = []
traced K s (r ∷ rs) e =
    let later = traced K s rs e in
    earliest K.le (via K s r (head_or e later)) r.from (r.to - r.from) ∷ later

-- the reads that find them: one for each place of a row
abbrev pub traced_reads : {K : Costs} → List (Row K) → ℕ
traced_reads [] = 0
traced_reads (r ∷ rs) = r.to - r.from + 1 + traced_reads rs

-- the least at the end e by way of a place of the last row
abbrev pub reached : (K : Costs) → Scale K → List (Row K) → ℕ → K.Cost
reached K s [] e = K.nil
reached K s (r ∷ []) e = via K s r e (earliest K.le (via K s r e) r.from (r.to - r.from))
reached K s (r ∷ r' ∷ rs) e = reached K s (r' ∷ rs) e

-- the cells of the rows, one row behind the other
abbrev pub joined_cells : {K : Costs} → List (Row K) → List K.Cost
joined_cells rs = flat_map (λ r. r.cells) rs

-- what a step leaves: the new cuts, their total, the cells that it fills, and the number of costs that it reads
pub record Stepped (K : Costs) : Type 0 where
  pub cuts : List ℕ
  pub total : K.Cost
  pub cells : List K.Cost
  pub reads : ℕ

abbrev pub step : (K : Costs) → Scale K → List ℕ → ℕ → Stepped K
step K s held e =
    let rs = rows K s held e in
    record { cuts = traced K s rs e; total = reached K s rs e; cells = joined_cells rs; reads = rows_reads K s held e + traced_reads rs }

-- the first cells replaced by the new ones, the others as they were
abbrev pub over : {C : Type 0} → List C → List C → List C
over new old = new ++ drop (length new) old

-- one step from the held cuts at the end e, into lent cells
abbrev pub stepped : (K : Costs) → Scale K → List ℕ → ℕ → List K.Cost → Stepped K
stepped K s held e cells = let t = step K s held e in record { cuts = t.cuts; total = t.total; cells = over t.cells cells; reads = t.reads }

-- stepping up from no cuts to n cuts at the end e, into lent cells: one read, and then a step for each cut
abbrev pub climb : (K : Costs) → Scale K → ℕ → ℕ → List K.Cost → Stepped K
climb K s e zero cells = record { cuts = []; total = s.cost 0 e; cells = cells; reads = 1 }
climb K s e (suc n) cells =
    let before = climb K s e n cells in
    let t = step K s before.cuts e in
    record { cuts = t.cuts; total = t.total; cells = over t.cells before.cells; reads = before.reads + t.reads }

-- how many cells stepping up to n cuts at the end e fills: the first e + n, and with no cuts none
abbrev pub touched : ℕ → ℕ → ℕ
touched e n = cond (n == 0) 0 (e + n)
