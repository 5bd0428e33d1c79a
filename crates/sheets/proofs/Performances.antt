-- The lines of events, one by one, and what a run of their calls comes to.
use Rattle.std.proofs.Common.{◌≡◌, ℕ, ◌⊎◌, IfOk, Some, None, Ok, Err, Option, Result, List, [], ◌∷◌, ◌++◌, map, ℤ, sym, refl, ap, ◌∙◌, subst, inl, inr, append_assoc, append-nil}
use Rattle.std.proofs.lemmas.List.{map-id}
use Rattle.std.specs.Iterator.{Yields, TryCollects}
use Rattle.std.specs.List.{FoldsTo, flat_map}
use Rattle.costs.specs.Numbers.{numbers}
use Rattle.costs.specs.contracts.number.I64Kind.TheImpl.{ghosts as plain}
use Rattle.houses.specs.declared.house.HouseCounts.{HouseCounts}
use Rattle.houses.specs.contracts.house.HouseCountsSource.TheImpl.{ghosts as house-replies}
use Rattle.houses.specs.Houses.{house, house_bound}
use Rattle.calls.specs.declared.call.Call.{Call}
use Rattle.jobs.specs.declared.job.Job.{Job}
use Rattle.jobs.specs.declared.record.Record.{Record}
use Rattle.calls.specs.Calls.{shut}
use Rattle.jobs.specs.Jobs.{state_of, recorded_of, Ran}
use Rattle.calls.specs.Lives.{Life, made, Law}
use Rattle.calls.specs.Runs.{runs, Lived}
use Rattle.decoder.specs.declared.sheet.Event.{Event}
use Rattle.printer.specs.Lines.{told}
use Rattle.sheets.specs.Printed.{call_of, work_list, records, lines, Performed}

-- ---- lines

-- texts that are collected from a chain, where `rest` is all the text that a state has left
module _ {S T E : Type 0} (steps : S → Option (Result T E) → S → Type 0) (bytes : T → List ℕ) (rest : S → List ℕ)
    (last : (s t : S) → steps s None t → rest s ≡ []) (more : (s t : S) (line : T) → steps s (Some (Ok line)) t → rest s ≡ bytes line ++ rest t) where
  collected : (xs : List (Result T E)) (s t u : S) (text whole : T) → Yields steps s xs t → steps t None u
      → FoldsTo (λ p x q. (y : T) × (Ok y ≡ x) × (bytes q ≡ bytes p ++ flat_map bytes (y ∷ []))) text xs whole → bytes whole ≡ bytes text ++ rest s
  collected [] s t u text whole y end f = let none : rest s ≡ [] = rw y (last t u end) in rw (none, append-nil, f) refl
  collected (x ∷ xs) s t u text whole (j, step, y) end (next, (line, is, added), f) =
      let one : rest s ≡ bytes line ++ rest j = more s j line (rw is step) in
      collected xs j t u next whole y end f ∙ ap (λ l. l ++ rest j) added ∙ rw (one, append-nil) (append_assoc (bytes text) (bytes line) (rest j))

pub collects_rest : {S T E : Type 0} (steps : S → Option (Result T E) → S → Type 0) (bytes : T → List ℕ) (rest : S → List ℕ) (r : Result T E) (s : S) (whole : List ℕ) → rest s ≡ whole
    → IfOk r (TryCollects steps (λ x y. y ≡ x) (λ xs v. bytes v ≡ flat_map bytes xs) (λ p xs q. bytes q ≡ bytes p ++ flat_map bytes xs) s)
    → ((s t : S) → steps s None t → rest s ≡ []) → ((s t : S) (line : T) → steps s (Some (Ok line)) t → rest s ≡ bytes line ++ rest t) → IfOk r (λ text. bytes text ≡ whole)
collects_rest steps bytes rest (Err e) s whole all h last more = tt
collects_rest steps bytes rest (Ok text) s whole all (xs, none, (u, (t, y, end)), empty, f) last more =
    collected steps bytes rest last more xs s t u none text y end f ∙ ap (λ l. l ++ rest s) empty ∙ all

-- nothing is left to be written
pub lines_none : {es : List Event} {rs : List (Record ℤ)} → (es ≡ []) ⊎ (rs ≡ []) → lines es (map (recorded_of plain) rs) ≡ []
lines_none (inl z) = rw z refl
lines_none {es} (inr z) = rw z (elim es as (λ l. lines l [] ≡ []) [ [] ↦ refl | x ∷ xs ↦ refl ])

-- one line is written
pub lines_more : {es es' : List Event} {rs rs' : List (Record ℤ)} {e : Event} {r : Record ℤ} {line : List ℕ} → es ≡ e ∷ es' → rs ≡ r ∷ rs' → line ≡ told e (recorded_of plain r)
    → lines es (map (recorded_of plain) rs) ≡ line ++ lines es' (map (recorded_of plain) rs')
lines_more first second is = rw (first, second, is) refl

-- ---- the run

module _ (counts : HouseCounts) (events : List Event) (calls : List Call) (job after : Job HouseCounts ℤ house-replies plain) (cells new : List ℤ) (rs : List (Record ℤ)) where
  pub performed : (text : List ℕ) → calls ≡ map call_of events → cells ≡ work_list → state_of plain job ≡ shut → job.source ≡ counts
      → Ran plain house-replies (house_bound job.source) calls job after cells new rs
      → text ≡ lines events (map (recorded_of plain) rs) → Performed counts events text
  performed text by-events blank is-shut over ran lines_are =
      let same : map (recorded_of plain) rs ≡ records counts events =
      ap (λ x. x.records) ran.run
      ∙ (λ i. (runs numbers (house (over i)) (house_bound (over i)) (is-shut i) ((map-id cells ∙ blank) i) (by-events i)).records) in
      let born = subst (Life numbers (house job.source) (house_bound job.source)) (sym is-shut) made in
      let lived = subst (λ h. Lived numbers (house h) (house_bound h) (map (recorded_of plain) rs)) over (ran.life born) in
      record {
        printed = lines_are ∙ ap (lines events) same;
        lived = subst (Lived numbers (house counts) (house_bound counts)) same lived;
        law = subst (λ h. Law numbers (house h) (house_bound h)) over ran.law;
      }
