-- Cases: what is computed from definitions, beside the value that it must have.
use Rattle.std.specs.Prelude.{◌≡◌, List, [], ◌∷◌}

pub record Case : Type 1 where
  pub Value : Type 0
  pub computed : Value
  pub expected : Value

infix 5 ◌is◌
abbrev pub ◌is◌ : {V : Type 0} → V → V → Case
◌is◌ {V} computed expected = record { Value = V; computed = computed; expected = expected }

-- each case has its value
abbrev pub AllRight : List Case → Type 0
AllRight [] = Unit {0}
AllRight (c ∷ cs) = (c.computed ≡ c.expected) × AllRight cs
