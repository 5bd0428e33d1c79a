-- Cuts in a row of 255 places: the cuts in use, and zeros behind them.
use Rattle.std.specs.Prelude.{◌≡◌, ℕ, ◌-◌, ◌≤◌, List, ◌++◌, length, take, drop, replicate}
use Rattle.std.proofs.Common.{ap, ◌∙◌, arith}
use Rattle.std.proofs.lemmas.List.{length-take-le, take-append-drop}
use Rattle.steps.specs.declared.cuts.Cuts.TheInside.{Inside}

-- the cuts in use
abbrev pub in_use : Inside → List ℕ
in_use c = take c.used c.row

-- the row has 255 places, and those behind the cuts in use are 0
pub record IsPadded (c : Inside) : Type 0 where
  pub long : length c.row ≡ 255
  pub few : c.used ≤ 255
  pub behind : drop c.used c.row ≡ replicate (255 - c.used) 0

-- cuts with zeros behind them
abbrev pub padded : List ℕ → Inside
padded cuts = record { row = cuts ++ replicate (255 - length cuts) 0; used = length cuts }

pub padded_ok : (c : Inside) → IsPadded c → padded (in_use c) ≡ c
padded_ok c h =
    let used : length (in_use c) ≡ c.used = length-take-le c.used c.row (omega (arith, h.long, h.few)) in
    let row : in_use c ++ replicate (255 - length (in_use c)) 0 ≡ c.row = rw (used, ← h.behind) (take-append-drop c.used c.row) in
    ap (λ r. record { row = r; used = length (in_use c) }) row ∙ ap (λ n. record { row = c.row; used = n }) used
