-- The widths of the records up to the first that fails a test, as a chain of iterators gives them.
use Rattle.std.proofs.Common.{◌≡◌, ℕ, Bool, false, Bor, map, refl}
use Rattle.std.proofs.lemmas.Iterator.{YieldsList, YieldsList-from_map, maps}
use Rattle.std.proofs.lemmas.Iterator.Consumers.{YieldsList-at, YieldsList-from_first}
use Rattle.std.proofs.lemmas.Iterator.Search.{YieldsList-from_take_while}
use Rattle.std.specs.declared.iter.Map.{Map}
use Rattle.std.specs.declared.iter.TakeWhile.{TakeWhile}
use Rattle.std.specs.Fn.{Called, CalledAt}
use Rattle.std.specs.Iterator.{YieldsFirst}
use Rattle.std.specs.Iterator.Adapters.{map_source, map_callee, take_while_source, take_while_done, take_while_callee, take_while_steps}
use Rattle.std.specs.List.{take_while}
use Rattle.decoder.specs.declared.record.Record.{Record}
use Rattle.decoder.specs.declared.record.Records.{Records}
use Rattle.decoder.specs.Records.{width, records}
use denote.Param.Members.{Mut}

pub widths_given : {F G : Type 0} (g : Mut F (Bor Record × Unit {0}) Bool) (h : Mut G (Record × Unit {0}) ℕ) (p : Record → Bool)
    {s : Map (TakeWhile Records F) G} {t : TakeWhile Records F} {u : Records} {f : F} {k : G}
    → map_source s ≡ t → map_callee s ≡ k → take_while_source t ≡ u → take_while_done t ≡ false → take_while_callee t ≡ f
    → ((x : Record) (b : Bool) (q : F) → CalledAt g f x b q → (q ≡ f) × (b ≡ p x))
    → ((x : Record) (r : ℕ) (q : G) → Called h k (x, tt) r q → (q ≡ k) × (r ≡ width x))
    → YieldsList (maps (take_while_steps (YieldsFirst (λ s. records 0 s.0.now)) g) h) (λ r. r) s (map width (take_while p (records 0 u.0.now)))
widths_given g h p {u = u} source callee first done test passes gives =
    YieldsList-from_map h width
    (YieldsList-at source (YieldsList-from_take_while g p (YieldsList-at first (YieldsList-from_first (λ x. x) (λ s. records 0 s.0.now) (records 0 u.0.now) refl)) test done passes))
    callee gives
