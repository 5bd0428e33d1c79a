use Rattle.std.proofs.Common.{◌≡◌, ℕ, List, ◌++◌, IfOk, Ok, Err, vec_items, Result, subst, MatchResult}
use Rattle.sheets.specs.Printed.{Prints}
use Rattle.service.specs.Served.{Outcome}
use Rattle.decoder.specs.Sheets.{sheet}
use Rattle.service.specs.declared.serving.ServeFault.{ServeFault}
use Rattle.service_tests.proofs.serve_memory.Goals as goal

module _ {V : Type 0} (items : V → List ℕ) (bytes : List ℕ) (before after : V) where
  in_memory :
      (r : Result Unit ServeFault)
      → Outcome (λ g. IfOk g (λ all. all ≡ bytes)) (λ a text w b. MatchResult w (λ _. items b ≡ items a ++ text) (λ _. items b ≡ items a)) before after r
      → IfOk r (λ _. (text : List ℕ) × Prints (sheet bytes) text × (items after ≡ items before ++ text))
  in_memory (Ok u) o = (o.text, subst (λ (all : List ℕ). Prints (sheet all) o.text) o.given o.printed, o.taken)
  in_memory (Err e) o = tt

pub returns : goal.returns
returns c = in_memory vec_items c.args.bytes.now _ _ c.serve.result c.serve.ensures
