-- Sample scales and kinds, with what they cost and what the calls of a job do over them.
use Rattle.std.specs.Prelude.{ℕ, true, List, [], ◌∷◌, map, length, take, replicate, ℤ, pos, neg_ℤ, Some, None, Option, slice_index_or}
use Rattle.costs.specs.Costs.{Costs}
use Rattle.costs.specs.Numbers.{numbers}
use Rattle.costs.specs.Ranked.{ranked}
use Rattle.houses.specs.Houses.{price, house, house_bound}
use Rattle.tables.specs.Tables.{table}
use Rattle.calls.specs.Calls.{Opened, State, shut, opened, Answer, refused, accepted, counted, nothing, shown, does}
use Rattle.calls.specs.Refusals.{refusal_number}
use Rattle.calls.specs.Runs.{Recorded, Run, runs}
use Rattle.calls.specs.declared.call.Call.{Call}
use Rattle.calls.specs.declared.call.Call.TheVariants.{OpenChecked, OpenVouched, Add, Drop, Reach}
use Rattle.calls.specs.declared.refusal.Refusal.TheVariants.{Broken}
use Rattle.samples.specs.Cases.{Case, ◌is◌, AllRight}

-- ---- what a call shows

-- end, number of cuts, total, reads, and the cuts
abbrev pub Line : Type 0
Line = ℕ × ℕ × ℤ × Option ℕ × List ℕ

abbrev pub fields : Opened numbers → Option ℕ → Line
fields o reads = (o.end, length o.cuts, o.total, reads, o.cuts)

-- the line of a call that is not refused; an opening gives no reads
abbrev pub line : State numbers → Answer numbers → Option Line
line (opened o) accepted = Some (fields o None)
line (opened o) (counted reads) = Some (fields o (Some reads))
line (opened o) (refused why) = None
line (opened o) nothing = None
line (opened o) (shown v) = None
line shut a = None

-- the line of the k-th record, counted from 0
abbrev pub line_at : List (Recorded numbers) → ℕ → Option Line
line_at records k = slice_index_or (map (λ r. line r.state r.answer) records) k None

-- ---- the samples

-- how many scans are not longer than 0, 1, 2, 3 and 4 blocks
abbrev pub counts : List ℕ
counts = 0 ∷ 3 ∷ 4 ∷ 4 ∷ 6 ∷ []

abbrev pub calls : List Call
calls = OpenVouched ∷ Add ∷ Add ∷ Add ∷ Drop ∷ Reach 3 ∷ []

-- the first n of these calls on a job over the house counts, lent nine cells with a 5 in each
abbrev pub after : ℕ → Run numbers
after n = runs numbers (house counts) (house_bound counts) shut (replicate 9 (pos 5)) (take n calls)

-- what a checked opening over the table with these entries answers; the bound has no part in it
abbrev pub checked : ℕ → List ℕ → Answer numbers
checked last entries = (does numbers (table last (map pos entries)) 0 shut OpenChecked []).answer

-- a checked opening and one add over the table of the single entry 7, lent one cell
abbrev pub single : Run numbers
single = runs numbers (table 0 (pos 7 ∷ [])) 0 shut (pos 0 ∷ []) (OpenChecked ∷ Add ∷ [])

abbrev pub pairs : Costs
pairs = ranked numbers numbers

abbrev pub cases : List Case
cases =
    -- prices
    (price 0 is 0)
    ∷ (price 8 is 9)
    ∷ (price 9 is 11)
    ∷ (price 4096 is 4608)
    -- costs of the house counts
    ∷ ((house counts).cost 0 4 is pos 30)
    ∷ ((house counts).cost 1 3 is pos 4)
    -- the lines of the calls
    ∷ (line_at (after 6).records 0 is Some (4, 0, pos 30, None, []))
    ∷ (line_at (after 6).records 1 is Some (4, 1, pos 21, Some 10, 1 ∷ []))
    ∷ (line_at (after 6).records 2 is Some (4, 2, pos 19, Some 15, 1 ∷ 2 ∷ []))
    ∷ (line_at (after 6).records 3 is Some (4, 3, pos 19, Some 18, 0 ∷ 1 ∷ 2 ∷ []))
    ∷ (line_at (after 6).records 4 is Some (4, 2, pos 19, Some 26, 1 ∷ 2 ∷ []))
    ∷ (line_at (after 6).records 5 is Some (3, 2, pos 9, Some 21, 1 ∷ 2 ∷ []))
    -- the cells after the second and the third add: the others are untouched
    ∷ ((after 3).cells is map pos (0 ∷ 6 ∷ 6 ∷ 9 ∷ 10 ∷ 21 ∷ 5 ∷ 5 ∷ 5 ∷ []))
    ∷ ((after 4).cells is map pos (0 ∷ 6 ∷ 6 ∷ 9 ∷ 9 ∷ 9 ∷ 19 ∷ 5 ∷ 5 ∷ []))
    -- the square (0, 1) fails, and holds with a larger cost from 0 to 2 or from 1 to 1
    ∷ (checked 2 (0 ∷ 3 ∷ 0 ∷ 5 ∷ 3 ∷ 0 ∷ []) is refused (Broken (0, 1)))
    ∷ (refusal_number (Broken (0, 1)) is 3)
    ∷ (checked 2 (0 ∷ 3 ∷ 0 ∷ 6 ∷ 3 ∷ 0 ∷ []) is accepted)
    ∷ (checked 2 (0 ∷ 3 ∷ 1 ∷ 5 ∷ 3 ∷ 0 ∷ []) is accepted)
    -- at the end 0 every cut is 0
    ∷ (line_at single.records 0 is Some (0, 0, pos 7, None, []))
    ∷ (line_at single.records 1 is Some (0, 1, pos 14, Some 2, 0 ∷ []))
    -- ranked costs
    ∷ (pairs.add (pos 2, pos 9) (pos 2, neg_ℤ (pos 4)) is (pos 4, pos 5))
    ∷ (pairs.le (neg_ℤ (pos 1), pos 100) (pos 0, neg_ℤ (pos 100)) is true)
    ∷ []

abbrev pub Samples : Type 0
Samples = AllRight cases
