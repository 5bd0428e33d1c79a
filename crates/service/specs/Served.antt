-- What is read of a sheet, and what is written for it.
use Rattle.std.specs.Prelude.{◌≡◌, ℕ, List, take, Ok, Err, Result}
use Rattle.std.specs.declared.io.Error.{Error}
use Rattle.service.specs.declared.serving.ServeFault.{ServeFault}
use Rattle.service.specs.declared.serving.ServeFault.TheVariants.{Reading, Memory, Writing}
use Rattle.sheets.specs.Printed.{Prints}
use Rattle.decoder.specs.Sheets.{sheet}

-- what comes of reading in full: all bytes that there are, or why they cannot be read
abbrev pub Given : Type 0
Given = Result (List ℕ) Error

-- the bytes are the first `most` of all that a reader gives
pub record First (gives : Given → Type 0) (most : ℕ) (bytes : List ℕ) : Type 0 where
  pub all : List ℕ
  pub given : gives (Ok all)
  pub first : bytes ≡ take most all

-- what a read answers that stops after `most` bytes
abbrev pub Front : (Given → Type 0) → ℕ → Given → Type 0
Front gives most (Ok bytes) = First gives most bytes
Front gives most (Err e) = gives (Err e)

-- a writer was handed the text for all the bytes that a reader gives
pub record Served (gives : Given → Type 0) (took : List ℕ → Type 0) : Type 0 where
  pub all : List ℕ
  pub text : List ℕ
  pub given : gives (Ok all)
  pub printed : Prints (sheet all) text
  pub taken : took text

-- How serving a sheet ends, by the writer before and after it. The writer is handed the whole text or nothing.
abbrev pub Outcome : {W : Type 0} → (Given → Type 0) → (W → List ℕ → Result Unit Error → W → Type 0) → W → W → Result Unit ServeFault → Type 0
Outcome gives took before after (Ok u) = Served gives (λ text. took before text (Ok u) after)
Outcome gives took before after (Err (Writing e)) = Served gives (λ text. took before text (Err e) after)
Outcome gives took before after (Err (Reading e)) = gives (Err e) × (after ≡ before)
Outcome gives took before after (Err Memory) = after ≡ before
