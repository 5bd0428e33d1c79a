-- The text for the bytes that were read is the text for all that the reader gives.
use Rattle.std.proofs.Common.{◌≡◌, ℕ, ◌<◌, List, Ok, Err, Result, MatchResult, ap, ◌∙◌, subst}
use Rattle.std.specs.Result.{IsErrAnd, result_map_both}
use Rattle.std.specs.declared.io.Error.{Error}
use Rattle.sheets.specs.Printed.{Prints}
use Rattle.service.specs.declared.serving.ServeFault.{ServeFault}
use Rattle.service.specs.declared.serving.ServeFault.TheVariants.{Writing}
use Rattle.service.specs.Served.{Given, Front, First, Served, Outcome}
use Rattle.decoder.specs.Sheets.{Meaning, sheet, limit}
use Rattle.service.proofs.Lengths.{sheet_front}

-- `lent` is what was answered, of the bytes that were read, and `sent` is what was written, of the text
module _ {gives : Given → Type 0} {took : List ℕ → Type 0} {most : ℕ} {bytes lent text sent : List ℕ} where
  pub served : limit < most → First gives most bytes → lent ≡ bytes → Prints (sheet lent) text → sent ≡ text → took sent → Served gives took
  served over f l p s t = record {
    all = f.all;
    text = text;
    given = f.given;
    printed = subst (λ (m : Meaning). Prints m text) (ap sheet (l ∙ f.first) ∙ sheet_front most f.all over) p;
    taken = subst took s t;
  }

-- what a read answered that went well
pub first_read : {V : Type 0} (items : V → List ℕ) (gives : Given → Type 0) (most : ℕ) (r : Result V Error) (bytes : V)
    → MatchResult r (λ x. ◌≡◌ {A = Result V ServeFault} (Ok bytes) (Ok x)) (λ _. ⊥) → Front gives most (result_map_both items (λ e. e) r) → First gives most (items bytes)
first_read items gives most (Ok x) bytes h f = let e : bytes ≡ x = cc in rw e f
first_read items gives most (Err d) bytes h f = absurd h

-- what a write answered is how serving ends
pub written : {W : Type 0} (gives : Given → Type 0) (took : W → List ℕ → Result Unit Error → W → Type 0) (before after : W) (r : Result Unit Error) (end : Result Unit ServeFault)
    → MatchResult r (λ u. end ≡ Ok u) (λ e. IsErrAnd end (λ d. d ≡ Writing e)) → Served gives (λ text. took before text r after) → Outcome gives took before after end
written gives took before after (Ok u) end h s = rw h s
written gives took before after (Err e) (Ok u) h s = absurd h
written gives took before after (Err e) (Err d) h s = rw h s
